-- The value of `Promises`. Assumes nothing.
use Prim.Native.Nat.{ℕ, zero, suc, ◌+◌, ◌≤◌, ◌<◌}
use mathlib.Core.Path.{◌≡◌, refl, sym, ap}
use mathlib.Core.Logic.{◌≢◌}
use mathlib.Core.Bool.{Bool, true, false, cond}
use mathlib.Core.List.{List}
use native.Mathlib.Omega.{arith}
use lib.Dec.{leb, eqb}
use lib.ListN.{length, replicate}
use borrow.Author.Tests.{le-leb}
use Rattle.limits.specs.Refusals.{one-outcome}
use Rattle.numbers.proofs.Tests.{not_both}
use Rattle.store_state.specs.declared.State.{State}
use Rattle.store_look.specs.Look.{Lent, checked}
use Rattle.brownout_faults.specs.declared.Checked.{Checked}
use Rattle.brownout_faults.specs.declared.Checked.TheVariants.{Sound, Faulty, Miscounted, Refused}
use Rattle.brownout_faults.specs.Check.{verdict_from, verdict_of, marks_needed, Out, out, check_of, fault_in, entries}
use Rattle.brownout_faults.specs.Promises.{NoDamage, FirstFault, Faultless, Promises}
use Rattle.brownout_faults.proofs.Faults.{verdict_faultless, faultless_verdict, verdict_first}
use Rattle.brownout_faults.proofs.Faults.{verdict_miscounted}
use Rattle.brownout_faults.proofs.Never.{faultless_never}

-- the verdict is no refusal
verdict_answers : (st : State) (m : Lent) (n i k told : ℕ) → verdict_from st m n i ≢ Refused k told
unfolding verdict_from
verdict_answers st m zero i k told e = go (eqb st.keys (entries st m i)) e
  where
    go : (b : Bool) → cond b Sound Miscounted ≢ Refused k told
    go true f = let z : ◌≡◌ {A = ℕ} 0 1 = cc in absurd (omega arith)
    go false f = let z : ◌≡◌ {A = ℕ} 0 1 = cc in absurd (omega arith)
verdict_answers st m (suc n) i k told e =
    go (eqb (fault_in st m i) 0) (λ f. verdict_answers st m n (i + 1) k told f) e
  where
    go : (b : Bool) → verdict_from st m n (i + 1) ≢ Refused k told
        → cond b (verdict_from st m n (i + 1)) (Faulty i (fault_in st m i)) ≢ Refused k told
    go true d f = d f
    go false d f = let z : ◌≡◌ {A = ℕ} 0 1 = cc in absurd (omega arith)

pub sound_no_refusal : {n told : ℕ} → Sound ≢ Refused n told
sound_no_refusal e = let z : ◌≡◌ {A = ℕ} 0 1 = cc in omega arith

fault_no_refusal : {i fault n told : ℕ} → Faulty i fault ≢ Refused n told
fault_no_refusal e = let z : ◌≡◌ {A = ℕ} 0 1 = cc in omega arith

count_no_refusal : {n told : ℕ} → Miscounted ≢ Refused n told
count_no_refusal e = let z : ◌≡◌ {A = ℕ} 0 1 = cc in omega arith

module _ (st : State) (m : Lent) (marks : List ℕ) where
  -- the call by its two tests
  abbrev called : Bool → Bool → Out
  called b c =
      cond b
      (cond c (out (verdict_of st m) (replicate (length marks) 0)) (out (Refused 8 (marks_needed m)) marks))
      (out (Refused 2 0) marks)

  -- an answer that is no refusal: the state is whole, the area long enough, and the answer is the verdict
  pub record Judged (r : Checked) : Type 0 where
    pub whole : checked st m ≡ true
    pub enough : leb (marks_needed m) (length marks) ≡ true
    pub verdict : verdict_of st m ≡ r

  pub judged : (r : Checked) → (check_of st m marks).answer ≡ r → ((n told : ℕ) → r ≢ Refused n told) → Judged r
  unfolding check_of
  judged r e d = go (checked st m) refl (leb (marks_needed m) (length marks)) refl e
    where
      go : (b : Bool) → checked st m ≡ b → (c : Bool) → leb (marks_needed m) (length marks) ≡ c
          → (called b c).answer ≡ r → Judged r
      go true p true q f = record { whole = p; enough = q; verdict = f }
      go true p false q f = absurd (d 8 (marks_needed m) (sym f))
      go false p c q f = absurd (d 2 0 (sym f))

  pub check_zero : ((n told : ℕ) → (check_of st m marks).answer ≢ Refused n told)
      → (check_of st m marks).marks ≡ replicate (length marks) 0
  unfolding check_of
  check_zero d = go (checked st m) (leb (marks_needed m) (length marks)) d
    where
      go : (b c : Bool) → ((n told : ℕ) → (called b c).answer ≢ Refused n told)
          → (called b c).marks ≡ replicate (length marks) 0
      go true true f = refl
      go true false f = absurd (f 8 (marks_needed m) refl)
      go false c f = absurd (f 2 0 refl)

  pub check_refused : (n told : ℕ) → (check_of st m marks).answer ≡ Refused n told
      → check_of st m marks ≡ out (Refused n told) marks
  unfolding check_of
  check_refused n told e = go (checked st m) (leb (marks_needed m) (length marks)) e
    where
      go : (b c : Bool) → (called b c).answer ≡ Refused n told → called b c ≡ out (Refused n told) marks
      go true true f = absurd (verdict_answers st m st.buckets 0 n told f)
      go true false f = ap (λ (r : Checked). out r marks) f
      go false c f = ap (λ (r : Checked). out r marks) f

  pub sound-faultless : (check_of st m marks).answer ≡ Sound → Faultless st m
  sound-faultless e = verdict_faultless st m (judged Sound e (λ n told z. sound_no_refusal z)).verdict

  pub sound_never_4 : (check_of st m marks).answer ≡ Sound → NoDamage st m
  sound_never_4 e =
      faultless_never st m (judged Sound e (λ n told z. sound_no_refusal z)).whole (sound-faultless e)

  pub faulty_first : (i fault : ℕ) → (check_of st m marks).answer ≡ Faulty i fault → FirstFault st m i fault
  faulty_first i fault e =
      verdict_first st m i fault (judged (Faulty i fault) e (λ n told z. fault_no_refusal z)).verdict

  pub miscounted_last : (check_of st m marks).answer ≡ Miscounted
      → ((i : ℕ) → i < st.buckets → fault_in st m i ≡ 0) × (st.keys ≢ entries st m st.buckets)
  miscounted_last e = verdict_miscounted st m (judged Miscounted e (λ n told z. count_no_refusal z)).verdict

marks_unread : (st : State) (m : Lent) (marks others : List ℕ)
    → leb (marks_needed m) (length marks) ≡ leb (marks_needed m) (length others)
    → (check_of st m marks).answer ≡ (check_of st m others).answer
unfolding check_of
marks_unread st m marks others e =
    go (checked st m) (leb (marks_needed m) (length marks)) (leb (marks_needed m) (length others)) e
  where
    go : (b c d : Bool) → c ≡ d → (called st m marks b c).answer ≡ (called st m others b d).answer
    go true true true f = refl
    go true false false f = refl
    go true true false f = not_both true refl f
    go true false true f = not_both false f refl
    go false c d f = refl

check_enough : (st : State) (m : Lent) (short marks : List ℕ) (needed : ℕ)
    → (check_of st m short).answer ≡ Refused 8 needed → needed ≤ length marks
    → (check_of st m marks).answer ≡ verdict_of st m
unfolding check_of
check_enough st m short marks needed e h =
    go (checked st m) (leb (marks_needed m) (length short)) (leb (marks_needed m) (length marks)) refl e
  where
    go : (b c d : Bool) → leb (marks_needed m) (length marks) ≡ d → (called st m short b c).answer ≡ Refused 8 needed
        → (called st m marks b d).answer ≡ verdict_of st m
    go b c true q f = go_on b c f
      where
        go_on : (b c : Bool) → (called st m short b c).answer ≡ Refused 8 needed
            → (called st m marks b true).answer ≡ verdict_of st m
        go_on true c f = refl
        go_on false c f = let z : ◌≡◌ {A = ℕ} 2 8 = cc in absurd (omega arith)
    go true true false q f = absurd (verdict_answers st m st.buckets 0 8 needed f)
    go true false false q f =
        let z : marks_needed m ≡ needed = cc in
        not_both (leb (marks_needed m) (length marks)) (le-leb (marks_needed m) (length marks) (omega arith)) q
    go false c false q f = let z : ◌≡◌ {A = ℕ} 2 8 = cc in absurd (omega arith)

pub promises : Promises
promises = record {
  sound_never_4 = sound_never_4;
  sound-faultless = sound-faultless;
  faultless_sound = faultless_verdict;
  faulty_first = faulty_first;
  miscounted_last = miscounted_last;
  marks_unread = marks_unread;
  check_refused = check_refused;
  check_zero = check_zero;
  check_enough = check_enough;
  check_settled = λ st m marks x y p q. one-outcome p q;
}
