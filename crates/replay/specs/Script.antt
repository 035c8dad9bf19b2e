-- A script of appends: entries one behind the other, in the form that crate entries has. It ends where no whole entry
-- follows.
use Rattle.std.specs.Prelude.{ℕ, ◌-◌, ◌≤◌, ◌≡◌, List, [], ◌∷◌, length}
use Rattle.spans.specs.Span.{read_span}
use Rattle.entries.specs.Log.{Entry}
use Rattle.entries.specs.Form.{entries_of}
use Rattle.store_state.specs.declared.State.{State}
use Rattle.store_create.specs.Create.{Out as CreateOut, out as Create·out, create_of}
use Rattle.store_look.specs.Look.{Lent, lent}
use Rattle.limits.specs.Limits.{name_limit_for}
use Rattle.store_create.specs.Create.{Created}
use Rattle.history.specs.History.{World, Call, appends, after, play, Born, joined}
use Rattle.history.specs.Promises.{ReadsAs}
use Rattle.std.specs.Prelude.{Ok, Err}
use Rattle.limits.specs.declared.Refusal.TheVariants.{NotCreatable}

-- RULES Y11.
abbrev pub world : State → Lent → World
world st m = record { state = st; memory = m }

-- RULES Y11. The appends that entries stand for
abbrev pub calls_by : List Entry → List Call
calls_by [] = []
calls_by (e ∷ es) = appends e.name e.bytes ∷ calls_by es

-- RULES Y11. All of a script
abbrev pub calls_of : List ℕ → List Call
calls_of s = calls_by (entries_of s).entries

-- RULES Y11. The world after an entry's append
abbrev pub played : State → Lent → List ℕ → ℕ → ℕ → ℕ → ℕ → World
played st m s name nameEnd from to =
    after (appends (read_span name (nameEnd - name) s) (read_span from (to - from) s)) (world st m)

-- ---- the call

-- RULES Y11. The answer, and the lent memory as the call leaves it
pub record Out : Type 0 where
  pub answer : Created
  pub memory : Lent

-- RULES Y11.
abbrev pub out : Created → Lent → Out
out r m = record { answer = r; memory = m }

-- RULES Y11.
abbrev pub left_by : World → Out
left_by w = out (Ok w.state) w.memory

-- RULES Y11. Creation's outcome, with the key pages and list pages that were lent; if it is accepted, the script's
-- appends played
abbrev pub played_on : Created → List ℕ → Lent → List ℕ → Out
played_on (Ok st) table m s = left_by (play (calls_of s) (world st (lent table m.keys m.lists)))
played_on (Err e) table m s = out (Err e) (lent table m.keys m.lists)

-- RULES Y11.
abbrev pub created_on : ℕ → ℕ → ℕ → Lent → CreateOut
created_on capacity seed size m = create_of capacity seed size m.table (length m.keys) (length m.lists)

-- RULES Y11. Answer and every lent byte and word after the call
abbrev pub replay_of : ℕ → ℕ → ℕ → Lent → List ℕ → Out
replay_of capacity seed size m s =
    played_on (created_on capacity seed size m).answer (created_on capacity seed size m).table m s

-- RULES Y11. What that comes to, of the answer and the memory m' afterwards. Refused: creation refuses, by 1, and
-- nothing has changed. Accepted: the store is what the script's appends leave of a fresh one, and (demand 3) each name
-- reads as its accepted appends joined in order, or is absent.
abbrev pub Replayed : ℕ → ℕ → ℕ → Lent → List ℕ → Created → Lent → Type 0
Replayed capacity seed size m s (Err e) m' =
    (created_on capacity seed size m ≡ Create·out (Err e) m.table) × (e ≡ NotCreatable) × (m' ≡ m)
Replayed capacity seed size m s (Ok st) m' =
    (fresh : World) × Born capacity seed size m.table m.keys m.lists fresh
    × (world st m' ≡ play (calls_of s) fresh)
    × ((name : List ℕ) → length name ≤ name_limit_for size → ReadsAs (world st m') name (joined name (calls_of s) fresh))
