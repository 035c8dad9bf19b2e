-- Demand 3: a history of calls on a store, and what it comes to. A store is born by an accepted creation on lent memory
-- that may hold anything; then calls follow, in any order and with any arguments, refused ones too.
use Rattle.std.specs.Prelude.{ℕ, ◌+◌, ◌≡◌, Bool, true, false, cond, List, [], ◌∷◌, ◌++◌, length}
use Rattle.std.proofs.Math.Option.{Option, none, some}
use Rattle.fastcmp.specs.Equal.{equal_bytes}
-- the log's entries, and what they come to for a name: the flat store's log is of the same
pub use Rattle.entries.specs.Log.{Entry, entry, joined_on}
unfoldable pub use Rattle.entries.specs.Log.{joined_in}
use Rattle.store_state.specs.declared.State.{State}
use Rattle.store_append.specs.declared.Appended.{Appended}
use Rattle.store_append.specs.declared.Appended.TheVariants.{Accepted, Declined}
use Rattle.store_create.specs.Create.{out, create_of}
use Rattle.store_look.specs.Look.{Lent}
use Rattle.store_append.specs.Append.{Out, append_of}
use Rattle.std.specs.Prelude.{Ok}

-- RULES Y1. A store: its state, and the memory lent to it
pub record World : Type 0 where
  pub state : State
  pub memory : Lent

-- RULES Y1. A call, with its arguments
pub data Call : Type 0 where
  appends : List ℕ → List ℕ → Call
  looks_up : List ℕ → Call
  asks_length : List ℕ → Call
  reads : List ℕ → List ℕ → Call
  finds_block : List ℕ → ℕ → Call
  shows_block : ℕ → ℕ → Call
  lists_from : ℕ → Call
  counts_keys : Call

-- RULES Y1. An append as the store's contract says it
abbrev pub append_in : World → List ℕ → List ℕ → Out
append_in w name bytes = append_of w.state w.memory name bytes

-- RULES Y2.
abbrev pub is_accepted : Appended → Bool
is_accepted (Accepted st) = true
is_accepted (Declined st n) = false

-- RULES Y2.
abbrev pub accepts : World → List ℕ → List ℕ → Bool
accepts w name bytes = is_accepted (append_in w name bytes).answer

-- RULES Y1. What an append leaves: the state that its answer gives back, and the lent memory
abbrev pub state_after : Appended → State
state_after (Accepted st) = st
state_after (Declined st n) = st

-- RULES Y1.
abbrev pub left : Out → World
left o = record { state = state_after o.answer; memory = o.memory }

-- RULES Y1. The world after a call: only an append can change it
abbrev pub after : Call → World → World
after (appends name bytes) w = left (append_in w name bytes)
after (looks_up name) w = w
after (asks_length name) w = w
after (reads name output) w = w
after (finds_block name i) w = w
after (shows_block at n) w = w
after (lists_from i) w = w
after counts_keys w = w

-- RULES Y1. The world after all calls
unfoldable pub play : List Call → World → World
play [] w = w
play (c ∷ calls) w = play calls (after c w)

-- RULES Y1. The start: what an accepted creation leaves of the lent table, key pages and list pages, whatever they held
pub record Born (capacity seed size : ℕ) (table keys lists : List ℕ) (w : World) : Type 0 where
  pub made : create_of capacity seed size table (length keys) (length lists) ≡ out (Ok w.state) w.memory.table
  pub keys_lent : w.memory.keys ≡ keys
  pub lists_lent : w.memory.lists ≡ lists

-- ---- the log: the accepted appends of a history, in order

-- RULES Y2. What a call adds: an append itself, where it is accepted
abbrev pub logged : Call → World → List Entry
logged (appends name bytes) w = cond (accepts w name bytes) (entry name bytes ∷ []) []
logged (looks_up name) w = []
logged (asks_length name) w = []
logged (reads name output) w = []
logged (finds_block name i) w = []
logged (shows_block at n) w = []
logged (lists_from i) w = []
logged counts_keys w = []

-- RULES Y2.
unfoldable pub log_of : List Call → World → List Entry
log_of [] w = []
log_of (c ∷ calls) w = logged c w ++ log_of calls (after c w)

-- ---- what was asked: the appends of a history, whatever was answered, in order

-- RULES Y15. Of a call
abbrev pub asked_by : Call → List Entry
asked_by (appends name bytes) = entry name bytes ∷ []
asked_by (looks_up name) = []
asked_by (asks_length name) = []
asked_by (reads name output) = []
asked_by (finds_block name i) = []
asked_by (shows_block at n) = []
asked_by (lists_from i) = []
asked_by counts_keys = []

-- RULES Y15.
unfoldable pub asked_for : List Call → List Entry
asked_for [] = []
asked_for (c ∷ calls) = asked_by c ++ asked_for calls

-- ---- what the log comes to for a name

-- RULES Y2. The accepted appends to name j, joined in order; none where there was none
abbrev pub joined : List ℕ → List Call → World → Option (List ℕ)
joined j calls w = joined_in j (log_of calls w) none

-- RULES Y2. Whether there was one
abbrev pub is_joined : Option (List ℕ) → Bool
is_joined none = false
is_joined (some bs) = true

-- ---- the names that accepted appends brought, each once, in the order of its first

-- RULES Y2.
unfoldable pub among : List ℕ → List (List ℕ) → Bool
unfolding equal_bytes
among j [] = false
among j (n ∷ ns) = cond (equal_bytes j n) true (among j ns)

abbrev pub with_name : List ℕ → List (List ℕ) → List (List ℕ)
with_name name ns = cond (among name ns) ns (ns ++ (name ∷ []))

-- RULES Y2. Behind the names ns
unfoldable pub names_in : List Entry → List (List ℕ) → List (List ℕ)
unfolding among
names_in [] ns = ns
names_in (e ∷ log) ns = names_in log (with_name e.name ns)

-- RULES Y2.
abbrev pub accepted_names : List Call → World → List (List ℕ)
accepted_names calls w = names_in (log_of calls w) []

-- ---- how many bytes were accepted, of all names together

-- RULES Y2.
unfoldable pub bytes_in : List Entry → ℕ
bytes_in [] = 0
bytes_in (e ∷ log) = length e.bytes + bytes_in log

-- RULES Y2.
abbrev pub accepted_bytes : List Call → World → ℕ
accepted_bytes calls w = bytes_in (log_of calls w)
