-- DEMAND 3, each sentence with its statement. w is a store as an accepted creation left it on any lent memory, and
-- calls are any calls on it, in any order and with any arguments, refused ones too. `demand_3` of proofs/Demand.antt
-- proves it of each such store and each such list of calls.
use Rattle.std.specs.Prelude.{ℕ, ◌≤◌, ◌<◌, ◌≡◌, ◌≢◌, true, List, [], ◌++◌, length}
use Rattle.std.proofs.Math.Option.{none}
use Rattle.store_look.specs.declared.Lookup.TheVariants.{Failed}
use Rattle.store_look.specs.declared.Answer.TheVariants.{Found}
use Rattle.store_look.specs.declared.Outcome.TheVariants.{Block}
use Rattle.store_state.specs.Name.{name_limit_of}
use Rattle.store_look.specs.Look.{checked, lookup_of, find_block_of}
use Rattle.history.specs.History.{World, Call, appends, accepts, after, play, log_of, joined, is_joined}
use Rattle.history.specs.History.{among, accepted_names}
use Rattle.history.specs.Due.{due}
use Rattle.history.specs.Numbers.{number_of, due_of, numbers_of, is_one_of}
use Rattle.history.specs.Promises.{ReadsAs, AnswersDue, HasNames}
use Rattle.history.specs.Frames.{LeavesAlone}

-- RULES B9, Y3 to Y8, Y13.
pub record Demand3 (w : World) (calls : List Call) : Type 0 where
  -- "From a fresh store, after any calls, each lane reads as its accepted appends joined, worked out afresh from the
  -- history; a name never accepted is absent"
  pub reads_back : (name : List ℕ) → length name ≤ name_limit_of w.state
      → ReadsAs (play calls w) name (joined name calls w)
  -- and so of a name over the limit: none was ever accepted, and its lookup is refusal 3
  pub long_never : (name : List ℕ) → name_limit_of w.state < length name
      → (joined name calls w ≡ none) × (lookup_of (play calls w).state (play calls w).memory name ≡ Failed 3)
  -- and of the empty name (document 02, Seven): none was ever accepted, so it reads as absent
  pub nameless_never : joined [] calls w ≡ none
  -- "an accepted append alters only what document 01 allows"
  pub frames : (name bytes : List ℕ) → accepts (play calls w) name bytes ≡ true
      → (at : ℕ) × LeavesAlone (play calls w) (after (appends name bytes) (play calls w)) name (joined name calls w) at
  -- "refusals are exact": an append is accepted where no number is due, else refused with that number and nothing
  -- changed
  pub refusals_exact : (name bytes : List ℕ)
      → AnswersDue (play calls w) name bytes
      (due (play calls w).state (play calls w).memory name (joined name calls w) (length bytes))
  -- and so of every call: its answer has the number that it is due, one of those that document 01 lists for it; never 2
  -- and never 4. (Showing a block has no number: that the state is whole says there what 2 would.)
  pub numbers_exact : (c : Call) → number_of c (play calls w) ≡ due_of c (play calls w) (λ name. joined name calls w)
  pub numbers_listed : (c : Call) → is_one_of (numbers_of c) (number_of c (play calls w)) ≡ true
  pub never_2_or_4 : (c : Call) → (number_of c (play calls w) ≢ 2) × (number_of c (play calls w) ≢ 4)
  pub whole : checked (play calls w).state (play calls w).memory ≡ true
  -- "Nothing lent changes on a refusal; the state comes back equal"
  pub refused_unchanged : (c : Call) → number_of c (play calls w) ≢ 0 → after c (play calls w) ≡ play calls w
  -- document 02, Nine: "The state keeps it", the page size that the store was created with
  pub size_kept : (play calls w).state.key_arena.size ≡ w.state.key_arena.size
  -- "the number of distinct accepted names": it is the number of keys, and listing tells each of them once and no other
  pub names-exact : HasNames (play calls w) (accepted_names calls w)
  pub names-joined : (name : List ℕ) → among name (accepted_names calls w) ≡ is_joined (joined name calls w)
  -- and no block moves: where a block was found, it is found after any more calls
  pub blocks_stay : (more : List Call) (name : List ℕ) (i at n : ℕ)
      → find_block_of (play calls w).state (play calls w).memory name i ≡ Found (Block at n)
      → (k : ℕ) × (find_block_of (play (calls ++ more) w).state (play (calls ++ more) w).memory name i
      ≡ Found (Block at k))
  -- and a history goes on where it stopped: the world, and the log of accepted appends
  pub play-more : (more : List Call) → play (calls ++ more) w ≡ play more (play calls w)
  pub log-more : (more : List Call) → log_of (calls ++ more) w ≡ log_of calls w ++ log_of more (play calls w)
