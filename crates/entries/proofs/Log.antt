-- What a log comes to for a name. Assumes nothing.
use Prim.Native.Nat.{ℕ}
use mathlib.Core.Path.{◌≡◌, sym, ap, ◌∙◌}
use mathlib.Core.Bool.{Bool, true, false, cond}
use mathlib.Core.Option.{none, some}
use mathlib.Core.List.{List, [], ◌∷◌, ◌++◌, append_assoc, append-nil}
use Rattle.fastcmp.specs.Equal.{equal_bytes}
use Rattle.entries.specs.Log.{Entry, joined_on, joined_in, bytes_for}

-- an entry, by whether the name is its own
entry-joined : (j : List ℕ) (e : Entry) (log : List Entry) (bs : List ℕ) (b : Bool)
    → ((cs : List ℕ) → joined_in j log (some cs) ≡ some (cs ++ bytes_for j log))
    → joined_in j log (cond b (joined_on (some bs) e.bytes) (some bs))
    ≡ some (bs ++ cond b (e.bytes ++ bytes_for j log) (bytes_for j log))
entry-joined j e log bs true rest = rest (bs ++ e.bytes) ∙ ap some (append_assoc bs e.bytes (bytes_for j log))
entry-joined j e log bs false rest = rest bs

pub in_order : (j : List ℕ) (log : List Entry) (bs : List ℕ) → joined_in j log (some bs) ≡ some (bs ++ bytes_for j log)
unfolding joined_in bytes_for
in_order j [] bs = ap some (sym (append-nil bs))
in_order j (e ∷ log) bs = entry-joined j e log bs (equal_bytes j e.name) (in_order j log)

pub from_first : (j : List ℕ) (e : Entry) (log : List Entry) → equal_bytes j e.name ≡ true
    → joined_in j (e ∷ log) none ≡ some (bytes_for j (e ∷ log))
unfolding joined_in bytes_for
from_first j e log q =
    ap (λ (b : Bool). joined_in j log (cond b (joined_on none e.bytes) none)) q ∙ in_order j log e.bytes
    ∙ sym (ap (λ (b : Bool). some (cond b (e.bytes ++ bytes_for j log) (bytes_for j log))) q)
