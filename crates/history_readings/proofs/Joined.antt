-- What was accepted for a lane, joined, is what demand 3 says of it; and readings handed on are their bytes. Assumes
-- nothing.
use Prim.Native.Nat.{ℕ}
use mathlib.Core.Path.{◌≡◌, refl, sym, ap, ◌∙◌}
use mathlib.Core.Bool.{Bool, true, false, cond}
use mathlib.Core.Option.{Option, none, some}
use mathlib.Core.List.{List, [], ◌∷◌, ◌++◌, map, append_assoc, append-nil}
use lib.IntN.{ℤ, pos}
use Rattle.fastcmp.specs.Equal.{equal_bytes}
use Rattle.reading_run.specs.Readings.{reading_bytes, readings_bytes, AllSigned}
use Rattle.history.specs.History.{World, Call, accepts, after, Entry, entry, logged, log_of, joined_on, joined_in}
use Rattle.history.proofs.Log.{joined-more}
use Rattle.history_readings.specs.Steps.{Step, reading, call, call_of, Item, a_reading, other_bytes, item_of}
use Rattle.history_readings.specs.Steps.{entries_of, accepted_for, HandedOn, readings_among}

abbrev bytes_of : Item → List ℕ
bytes_of (a_reading last new) = reading_bytes last new
bytes_of (other_bytes bs) = bs

-- items joined on, in order
abbrev joined_items : List Item → Option (List ℕ) → Option (List ℕ)
joined_items [] stood = stood
joined_items (a ∷ items) stood = joined_items items (joined_on stood (bytes_of a))

items_more : (xs ys : List Item) (stood : Option (List ℕ))
    → joined_items (xs ++ ys) stood ≡ joined_items ys (joined_items xs stood)
items_more [] ys stood = refl
items_more (a ∷ xs) ys stood = items_more xs ys (joined_on stood (bytes_of a))

-- ---- the log of a step

-- entries whose bytes are those of the step's item
abbrev Same : Step → List Entry → Type 0
Same s [] = Unit {0}
Same s (e ∷ log) = (bytes_of (item_of s e) ≡ e.bytes) × Same s log

same-call : (c : Call) (log : List Entry) → Same (call c) log
same-call c [] = tt
same-call c (e ∷ log) = (refl, same-call c log)

same_logged : (s : Step) (w : World) → Same s (logged (call_of s) w)
same_logged (reading name last new) w = go (accepts w name (reading_bytes last new))
  where
    go : (b : Bool) → Same (reading name last new) (cond b (entry name (reading_bytes last new) ∷ []) [])
    go true = (refl, tt)
    go false = tt
same_logged (call c) w = same-call c (logged c w)

entries-joined : (j : List ℕ) (s : Step) (log : List Entry) (stood : Option (List ℕ)) → Same s log
    → joined_in j log stood ≡ joined_items (map (item_of s) (entries_of j log)) stood
unfolding joined_in entries_of
entries-joined j s [] stood h = refl
entries-joined j s (e ∷ log) stood h =
    go (equal_bytes j e.name) (λ o. entries-joined j s log o h.1)
  where
    go : (b : Bool)
        → ((o : Option (List ℕ)) → joined_in j log o ≡ joined_items (map (item_of s) (entries_of j log)) o)
        → joined_in j log (cond b (joined_on stood e.bytes) stood)
        ≡ joined_items (map (item_of s) (cond b (e ∷ entries_of j log) (entries_of j log))) stood
    go true f = ap (λ (bs : List ℕ). joined_in j log (joined_on stood bs)) (sym h.0) ∙ f _
    go false f = f stood

-- ---- of all steps

pub steps-joined : (j : List ℕ) (steps : List Step) (w : World) (stood : Option (List ℕ))
    → joined_in j (log_of (map call_of steps) w) stood ≡ joined_items (accepted_for j steps w) stood
unfolding log_of joined_in accepted_for
steps-joined j [] w stood = refl
steps-joined j (s ∷ steps) w stood =
    joined-more j (logged (call_of s) w) (log_of (map call_of steps) (after (call_of s) w)) stood
    ∙ steps-joined j steps (after (call_of s) w) (joined_in j (logged (call_of s) w) stood)
    ∙ ap (joined_items (accepted_for j steps (after (call_of s) w)))
    (entries-joined j s (logged (call_of s) w) stood (same_logged s w))
    ∙ sym (items_more (map (item_of s) (entries_of j (logged (call_of s) w)))
    (accepted_for j steps (after (call_of s) w)) stood)

-- ---- readings handed on

pub handed_signed : (last : ℤ) (items : List Item) → HandedOn last items → AllSigned (readings_among items)
handed_signed last [] h = tt
handed_signed last (a_reading l new ∷ items) h = (h.1.0, handed_signed new items h.1.1)
handed_signed last (other_bytes bs ∷ items) h = absurd h

-- behind bytes that stand
handed_on : (bs : List ℕ) (last : ℤ) (items : List Item) → HandedOn last items
    → joined_items items (some bs) ≡ some (bs ++ readings_bytes last (readings_among items))
handed_on bs last [] h = ap some (sym (append-nil bs))
handed_on bs last (a_reading l new ∷ items) h =
    ap (λ (z : ℤ). joined_items items (some (bs ++ reading_bytes z new))) h.0
    ∙ handed_on (bs ++ reading_bytes last new) new items h.1.1
    ∙ ap some (append_assoc bs (reading_bytes last new) (readings_bytes new (readings_among items)))
handed_on bs last (other_bytes os ∷ items) h = absurd h

-- what a lane of readings has come to
abbrev pub come_to : List ℤ → Option (List ℕ)
come_to [] = none
come_to (r ∷ rs) = some (readings_bytes (pos 0) (r ∷ rs))

pub handed_joined : (items : List Item) → HandedOn (pos 0) items → joined_items items none ≡ come_to (readings_among items)
handed_joined [] h = refl
handed_joined (a_reading l new ∷ items) h =
    ap (λ (z : ℤ). joined_items items (some (reading_bytes z new))) h.0
    ∙ handed_on (reading_bytes (pos 0) new) new items h.1.1
handed_joined (other_bytes bs ∷ items) h = absurd h
