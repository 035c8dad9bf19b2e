-- Laws of the writer's call. Assumes nothing.
use Prim.Native.Nat.{ℕ, zero, suc, ◌+◌, ◌≤◌, ◌<◌}
use mathlib.Core.Path.{◌≡◌, refl, sym, ap, ◌∙◌}
use mathlib.Core.Bool.{Bool, true, false, cond}
use mathlib.Core.List.{List, [], ◌∷◌, ◌++◌, append_assoc}
use native.Mathlib.Omega.{arith}
use lib.Dec.{leb, eqb}
use lib.ListN.{length, length-append}
use borrow.Author.Tests.{le-leb, lt-leb}
use Rattle.limits.specs.Refusals.{reporting, refusal_numbers, number_of, is_among, permitted}
use Rattle.spans.specs.Span.{overwrite}
use Rattle.spans.proofs.Laws.{overwrite-append}
use Rattle.store_state.specs.declared.State.{State}
use Rattle.store_look.specs.declared.Listed.{Listed}
use Rattle.store_look.specs.declared.Listed.TheVariants.{Bucket, NoMore, Stopped}
use Rattle.store_look.specs.Look.{Lent, checked, blocks_sound, next_of}
use Rattle.report_text.specs.Text.{Lane as TextLane, newline, end_line, total_of}
use Rattle.report_text.specs.Text.{decimal, lanes_text, head_text, report_text}
use Rattle.std.specs.Prelude.{Result, Ok, Err}
use Rattle.limits.specs.declared.Refusal.{Refusal}
use Rattle.limits.specs.declared.Refusal.TheVariants.{NotWhole, Damage}
use Rattle.report_lanes.specs.declared.Sums.{Sums}
use Rattle.report.specs.declared.Unwritten.{Unwritten}
use Rattle.report.specs.declared.Unwritten.TheVariants.{Refused, TooShort}
use Rattle.report.specs.Said.{said_reported}
use Rattle.report_lanes.specs.Lanes.{Gathered, gathered, halted, lane_before, lane_at, on_listed, gather_from, gather_all}
use Rattle.report.specs.Report.{Out, out, on_gathered, report_of}
use Rattle.report_lanes.specs.Measure.{measured_of}
use Rattle.report.specs.Write.{lanes_of, lanes_met}
use Rattle.report.proofs.Written.{head-long}

module _ (st : State) (m : Lent) (output : List ℕ) where
  pub report_2 : checked st m ≡ false → out (Err (Refused NotWhole)) output ≡ report_of st m output
  unfolding report_of
  report_2 e = rw e

  report_on : checked st m ≡ true → (g : Gathered) → gather_all st m ≡ g → report_of st m output ≡ on_gathered g output
  unfolding report_of
  report_on c g e = rw (c, e)

  pub report_halted : checked st m ≡ true → (k : Refusal) → Err k ≡ measured_of (gather_all st m)
      → out (Err (Refused k)) output ≡ report_of st m output
  unfolding measured_of
  report_halted c k e = go (gather_all st m) refl e
    where
      go : (g : Gathered) → gather_all st m ≡ g → Err k ≡ measured_of g → out (Err (Refused k)) output ≡ report_of st m output
      go (gathered ls) p e = let z : ◌≡◌ {A = ℕ} 0 1 = cc in absurd (omega arith)
      go (halted j) p e =
          let z : k ≡ j = cc in
          ap (λ (x : Refusal). out (Err (Refused x)) output) z ∙ sym (report_on c (halted j) p)

  -- what the sums are of
  pub record Sum (s : Sums) : Type 0 where
    pub met : gather_all st m ≡ gathered (lanes_met st m)
    pub many : s.lanes ≡ length (lanes_met st m)
    pub total : s.bytes ≡ total_of (lanes_met st m)
    pub text : s.text ≡ length (lanes_text (lanes_met st m))

  pub sums : (s : Sums) → Ok s ≡ measured_of (gather_all st m) → Sum s
  unfolding measured_of
  sums s e = go (gather_all st m) refl e
    where
      go : (g : Gathered) → gather_all st m ≡ g → Ok s ≡ measured_of g → Sum s
      go (gathered ls) p e =
          let q : lanes_met st m ≡ ls = ap lanes_of p in
          let z : s ≡ record { lanes = length ls; bytes = total_of ls; text = length (lanes_text ls) } = cc in
          record {
            met = p ∙ ap gathered (sym q);
            many = rw q (ap (λ (x : Sums). x.lanes) z);
            total = rw q (ap (λ (x : Sums). x.bytes) z);
            text = rw q (ap (λ (x : Sums). x.text) z);
          }
      go (halted n) p e = let z : ◌≡◌ {A = ℕ} 0 1 = cc in absurd (omega arith)

  module _ (s : Sums) (S : Sum s) where
    pub head_size : length (head_text s.lanes s.bytes) ≡ 22 + length (decimal s.lanes) + length (decimal s.bytes)
    head_size = head-long s.lanes s.bytes

    text_size : length (report_text (lanes_met st m)) ≡ 28 + length (decimal s.lanes) + length (decimal s.bytes) + s.text
    unfolding report_text
    text_size =
        rw (S.many, S.total, S.text)
        (omega (
          arith,
          length-append (head_text (length (lanes_met st m)) (total_of (lanes_met st m)))
              (lanes_text (lanes_met st m) ++ (end_line ++ (newline ∷ []))),
          length-append (lanes_text (lanes_met st m)) (end_line ++ (newline ∷ [])),
          head-long (length (lanes_met st m)) (total_of (lanes_met st m)),
        ))

    pub report_8 : checked st m ≡ true → (n : ℕ) → n ≡ 28 + length (decimal s.lanes) + length (decimal s.bytes) + s.text
        → length output < n → out (Err (TooShort n)) output ≡ report_of st m output
    report_8 k n e l =
        let z : n ≡ length (report_text (lanes_met st m)) = e ∙ sym text_size in
        ap (λ (x : ℕ). out (Err (TooShort x)) output) z
        ∙ sym (report_on k (gathered (lanes_met st m)) S.met
        ∙ rw (lt-leb (length (report_text (lanes_met st m))) (length output) (omega arith)))

    pub report_done : checked st m ≡ true → (n : ℕ) → n ≡ 28 + length (decimal s.lanes) + length (decimal s.bytes) + s.text
        → n ≤ length output
        → (o1 o2 o3 : List ℕ) (p q : ℕ) → o1 ≡ overwrite 0 (head_text s.lanes s.bytes) output → p ≡ length (head_text s.lanes s.bytes)
        → o2 ≡ overwrite p (lanes_text (lanes_met st m)) o1 → q ≡ p + length (lanes_text (lanes_met st m)) → o3
        ≡ overwrite q (end_line ++ (newline ∷ [])) o2
        → out (Ok n) o3 ≡ report_of st m output
    unfolding report_text
    report_done k n e l o1 o2 o3 p q f g h i j =
        let z : n ≡ length (report_text (lanes_met st m)) = e ∙ sym text_size in
        let H = head_text s.lanes s.bytes in
        let T = lanes_text (lanes_met st m) in
        let E = end_line ++ (newline ∷ []) in
        let g0 : p ≡ 0 + length H = omega arith in
        let w : o2 ≡ overwrite 0 (H ++ T) output =
        h ∙ (λ r. overwrite (g0 r) T (f r)) ∙ sym (overwrite-append 0 H T output) in
        let u : q ≡ 0 + length (H ++ T) = omega (arith, length-append H T) in
        let v : o3 ≡ overwrite 0 (H ++ (T ++ E)) output =
        j ∙ (λ r. overwrite (u r) E (w r)) ∙ sym (overwrite-append 0 (H ++ T) E output)
        ∙ ap (λ (t : List ℕ). overwrite 0 t output) (append_assoc H T E) in
        let y : H ++ (T ++ E) ≡ report_text (lanes_met st m) = λ r. head_text (S.many r) (S.total r) ++ (T ++ E) in
        (λ r. out (Ok (z r)) ((v ∙ ap (λ (t : List ℕ). overwrite 0 t output) y) r))
        ∙ sym (report_on k (gathered (lanes_met st m)) S.met
        ∙ rw (le-leb (length (report_text (lanes_met st m))) (length output) (omega arith)))

-- ---- its numbers

-- what ends the lanes is damage, or a state that isn't whole
abbrev Ends : Gathered → Type 0
Ends (gathered ls) = Unit {0}
Ends (halted k) = is_among (number_of k) (refusal_numbers reporting) ≡ true

ends_before : (a : TextLane) (g : Gathered) → Ends g → Ends (lane_before a g)
ends_before a (gathered ls) e = tt
ends_before a (halted k) e = e

ends : (st : State) (m : Lent) (n i : ℕ) → Ends (gather_from st m n i)
unfolding gather_from
ends st m zero i = tt
ends st m (suc n) i = go (next_of st m i) (ends st m n)
  where
    met : (at j : ℕ) (b : Bool) → Ends (gather_from st m n j)
        → Ends (cond b (lane_before (lane_at m at) (gather_from st m n j)) (halted Damage))
    met at j true e = ends_before (lane_at m at) (gather_from st m n j) e
    met at j false e = refl

    stop : (b : Bool) → is_among (number_of (cond b NotWhole Damage)) (refusal_numbers reporting) ≡ true
    stop true = refl
    stop false = refl

    go : (x : Listed) → ((j : ℕ) → Ends (gather_from st m n j)) → Ends (on_listed x st m (λ j. gather_from st m n j))
    go (Bucket j at) g = met at (j + 1) (blocks_sound st m at) (g (j + 1))
    go NoMore g = tt
    go (Stopped k) g = stop (eqb k 2)

fair-gathered : (g : Gathered) (o : List ℕ) → Ends g → permitted reporting (said_reported (on_gathered g o).answer)
    ≡ true
fair-gathered (gathered ls) o e = go (leb (length (report_text ls)) (length o))
  where
    go : (b : Bool)
        → permitted reporting (said_reported
        (cond b (out (Ok (length (report_text ls))) (overwrite 0 (report_text ls) o))
        (out (Err (TooShort (length (report_text ls)))) o)).answer) ≡ true
    go true = refl
    go false = refl
fair-gathered (halted k) o e = e

fair : (st : State) (m : Lent) (o : List ℕ) → permitted reporting (said_reported (report_of st m o).answer) ≡ true
unfolding report_of
fair st m o = go (checked st m)
  where
    go : (b : Bool)
        → permitted reporting (said_reported (cond b (on_gathered (gather_all st m) o) (out (Err (Refused NotWhole)) o)).answer)
        ≡ true
    go true = fair-gathered (gather_all st m) o (ends st m st.buckets 0)
    go false = refl

pub told : (st : State) (m : Lent) (output : List ℕ) (r : Result ℕ Unwritten) (o : List ℕ) → out r o ≡ report_of st m output
    → (out r o ≡ report_of st m output) × (permitted reporting (said_reported r) ≡ true)
told st m output r o e = (e, ap (λ (x : Out). permitted reporting (said_reported x.answer)) e ∙ fair st m output)

-- ---- beyond the equation

gathered_refused : (g : Gathered) (o : List ℕ) (why : Unwritten) → (on_gathered g o).answer ≡ Err why
    → on_gathered g o ≡ out (Err why) o
gathered_refused (gathered ls) o why e = go (leb (length (report_text ls)) (length o)) e
  where
    go : (b : Bool)
        → (cond b (out (Ok (length (report_text ls))) (overwrite 0 (report_text ls) o))
        (out (Err (TooShort (length (report_text ls)))) o)).answer ≡ Err why
        → cond b (out (Ok (length (report_text ls))) (overwrite 0 (report_text ls) o))
        (out (Err (TooShort (length (report_text ls)))) o) ≡ out (Err why) o
    go true e = let z : ◌≡◌ {A = ℕ} 0 1 = cc in absurd (omega arith)
    go false e = ap (λ (r : Result ℕ Unwritten). out r o) e
gathered_refused (halted j) o why e = ap (λ (r : Result ℕ Unwritten). out r o) e

pub report_refused : (st : State) (m : Lent) (output : List ℕ) (why : Unwritten)
    → (report_of st m output).answer ≡ Err why → report_of st m output ≡ out (Err why) output
unfolding report_of
report_refused st m output why e = go (checked st m) e
  where
    go : (b : Bool)
        → (cond b (on_gathered (gather_all st m) output) (out (Err (Refused NotWhole)) output)).answer ≡ Err why
        → cond b (on_gathered (gather_all st m) output) (out (Err (Refused NotWhole)) output) ≡ out (Err why) output
    go true e = gathered_refused (gather_all st m) output why e
    go false e = ap (λ (r : Result ℕ Unwritten). out r output) e

gathered_enough : (g : Gathered) (short o : List ℕ) (n : ℕ) → (on_gathered g short).answer ≡ Err (TooShort n)
    → n ≤ length o → (on_gathered g o).answer ≡ Ok n
gathered_enough (gathered ls) short o n e h = go (leb (length (report_text ls)) (length short)) e
  where
    go : (b : Bool)
        → (cond b (out (Ok (length (report_text ls))) (overwrite 0 (report_text ls) short))
        (out (Err (TooShort (length (report_text ls)))) short)).answer ≡ Err (TooShort n)
        → (on_gathered (gathered ls) o).answer ≡ Ok n
    go true e = let z : ◌≡◌ {A = ℕ} 0 1 = cc in absurd (omega arith)
    go false e =
        let z : length (report_text ls) ≡ n = cc in
        rw (le-leb (length (report_text ls)) (length o) (omega arith)) (ap Ok z)
gathered_enough (halted j) short o n e h = let z : ◌≡◌ {A = ℕ} 0 1 = cc in absurd (omega arith)

pub report_enough : (st : State) (m : Lent) (short output : List ℕ) (n : ℕ)
    → (report_of st m short).answer ≡ Err (TooShort n) → n ≤ length output → (report_of st m output).answer ≡ Ok n
unfolding report_of
report_enough st m short output n e h = go (checked st m) e
  where
    go : (b : Bool)
        → (cond b (on_gathered (gather_all st m) short) (out (Err (Refused NotWhole)) short)).answer ≡ Err (TooShort n)
        → (cond b (on_gathered (gather_all st m) output) (out (Err (Refused NotWhole)) output)).answer ≡ Ok n
    go true e = gathered_enough (gather_all st m) short output n e h
    go false e = let z : ◌≡◌ {A = ℕ} 0 1 = cc in absurd (omega arith)
