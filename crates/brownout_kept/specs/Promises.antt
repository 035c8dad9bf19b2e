-- RULES AF17. Beyond the request: what the check calls sound stays sound, so that one check after a brownout vouches
-- for the rest of the shift. One record, a field a sentence; proofs/Kept.antt has its one value.
use Rattle.std.specs.Prelude.{ℕ, ◌≡◌, ◌≢◌, List}
use Rattle.store_state.specs.declared.State.{State}
use Rattle.store_append.specs.declared.Appended.TheVariants.{Accepted}
use Rattle.store_look.specs.Look.{Lent}
use Rattle.store_append.specs.Append.{append_of}
use Rattle.history.specs.History.{World, Call, play}
use Rattle.history.specs.Numbers.{number_of}
use Rattle.brownout_faults.specs.declared.Checked.TheVariants.{Sound}
use Rattle.brownout_faults.specs.Check.{check_of}

-- RULES AF17. The check says so of a store, with a mark area
abbrev pub SaidSound : World → List ℕ → Type 0
SaidSound w marks = (check_of w.state w.memory marks).answer ≡ Sound

-- RULES AF17.
pub record Promises : Type 0 where
  -- an accepted append to a store that the check calls sound leaves one that it calls sound, with the same mark area,
  -- whoever wrote that memory before
  pub append-keeps : (st : State) (m : Lent) (marks name bytes : List ℕ) (st' : State)
      → (check_of st m marks).answer ≡ Sound → (append_of st m name bytes).answer ≡ Accepted st'
      → (check_of st' (append_of st m name bytes).memory marks).answer ≡ Sound
  -- and so after any calls, refused ones too
  pub shift_keeps : (w : World) (marks : List ℕ) → SaidSound w marks → (calls : List Call)
      → SaidSound (play calls w) marks
  -- in which nothing answers 4
  pub shift_never_4 : (w : World) (marks : List ℕ) → SaidSound w marks → (calls : List Call)
      → (c : Call) → number_of c (play calls w) ≢ 4
