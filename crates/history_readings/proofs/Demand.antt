-- The theorem, from demand 3 and the round trip of readings' bytes. Assumes nothing.
use Prim.Native.Nat.{ℕ, ◌≤◌, ◌<◌}
use mathlib.Core.Path.{◌≡◌, refl, sym, ap, ◌∙◌, subst}
use mathlib.Core.Logic.{◌≢◌}
use mathlib.Core.Bool.{Bool, true, false, cond, false≢true, ◌||◌}
use mathlib.Core.Option.{Option, none, some}
use mathlib.Core.List.{List, [], ◌∷◌, map}
use native.Mathlib.Omega.{arith}
use lib.Dec.{leb, ltb, eqb}
use lib.ListN.{length}
use lib.IntN.{ℤ, pos}
use borrow.Author.Tests.{le-leb, lt-leb, ltb-true, ltb-false}
use Rattle.limits.specs.Refusals.{unvinting, refusal_numbers, is_among, number_in, number_of}
use Rattle.limits.specs.declared.Refusal.{Refusal}
use Rattle.std.specs.Prelude.{Option as Maybe, Some, None}
use Rattle.expull_walk.specs.Blocks.{lane_bytes}
use Rattle.store_state.specs.Name.{name_limit_of}
use Rattle.records.specs.Record.{header_of}
use Rattle.store_look.specs.Look.{blocks_sound}
use Rattle.reading_run.specs.Readings.{readings_bytes, AllSigned, Split, split, vints_of, readings_in}
use Rattle.reading_run.proofs.Back.{stored_from, written_splits, stored_readings, stored_count}
use Rattle.reading_run.proofs.Split.{among-behind, refusals_listed, Listed}
use Rattle.readings.specs.declared.Recalled.TheVariants.{Readings, Refused}
use Rattle.readings.specs.Readings.{Out, out, at_front, on_ended, on_split, readings_at}
use Rattle.readings.specs.Said.{said_recalled}
use Rattle.readings.proofs.Found.{readings_at_lem, readings_none, readings_failed}
use Rattle.readings.proofs.Fronts.{reading_is}
use Rattle.history.specs.History.{World, Born, play, joined}
use Rattle.history.specs.Promises.{ReadsAs}
use Rattle.history.specs.Demand.{Demand3}
use Rattle.history.proofs.Demand.{demand_3}
use Rattle.history_readings.specs.Steps.{Step, call_of, accepted_for, HandedOn, readings_among}
use Rattle.history_readings.specs.Demand.{recalled_in, ReadsReadings, recalled_by, ReadingsDemand}
use Rattle.history_readings.proofs.Joined.{steps-joined, handed_signed, come_to, handed_joined}

-- ---- a lane, by what it has come to

lane-at : (w : World) (at : ℕ) (bs : List ℕ) (output : List ℤ) → blocks_sound w.state w.memory at ≡ true
    → lane_bytes w.memory.lists (header_of w.memory.keys at) ≡ bs
    → readings_at w.state w.memory at output ≡ on_split (vints_of bs) output
unfolding readings_at
lane-at w at bs output e f = rw e (ap (λ (l : List ℕ). on_split (vints_of l) output) f)

reads_by : (w : World) (name : List ℕ) (o : Option (List ℕ)) → ReadsAs w name o → (output : List ℤ)
    → recalled_in w name output ≡ recalled_by o output
reads_by w name none R output = readings_none w.state w.memory name output R.missed
reads_by w name (some bs) R output =
    readings_at_lem w.state w.memory name output R.place R.found
    ∙ lane-at w R.place bs output R.blocks-good R.blocks_hold

-- ---- one that holds readings

module _ (rs : List ℤ) (a : AllSigned rs) (output : List ℤ) where
  splits : vints_of (readings_bytes (pos 0) rs) ≡ split (stored_from (pos 0) rs) None
  splits = written_splits (pos 0) rs

  counts : length (stored_from (pos 0) rs) ≡ length rs
  counts = stored_count (pos 0) rs

  split_given : length rs ≤ length output
      → on_split (vints_of (readings_bytes (pos 0) rs)) output ≡ out (Readings (length rs)) (at_front rs output)
  unfolding on_split
  split_given l =
      ap (λ (s : Split). on_split s output) splits
      ∙ rw (le-leb (length (stored_from (pos 0) rs)) (length output) (omega (arith, counts)))
      (λ i. out (Readings (counts i)) (at_front (stored_readings (pos 0) rs (omega arith) a i) output))

  split-few : length output < length rs
      → on_split (vints_of (readings_bytes (pos 0) rs)) output ≡ out (Refused 8 (length rs)) output
  unfolding on_split
  split-few l =
      ap (λ (s : Split). on_split s output) splits
      ∙ rw (lt-leb (length (stored_from (pos 0) rs)) (length output) (omega (arith, counts)))
      (ap (λ (n : ℕ). out (Refused 8 n) output) counts)

reads_readings : (w : World) (name : List ℕ) (rs : List ℤ) → AllSigned rs → ReadsAs w name (come_to rs)
    → ReadsReadings w name rs
reads_readings w name [] a R = reads_by w name none R
reads_readings w name (r ∷ rs) a R = record {
  given = λ output l.
      reads_by w name (some (readings_bytes (pos 0) (r ∷ rs))) R output ∙ split_given (r ∷ rs) a output l;
  too_few = λ output l.
      reads_by w name (some (readings_bytes (pos 0) (r ∷ rs))) R output ∙ split-few (r ∷ rs) a output l;
}

-- ---- the numbers that can come, of names within the limit: no refusal, 8, the vint reader's

abbrev possible : List ℕ
possible = 0 ∷ 8 ∷ refusal_numbers unvinting

split_number : (bs : List ℕ) (output : List ℤ)
    → is_among (number_in (said_recalled (on_split (vints_of bs) output).answer)) possible ≡ true
unfolding on_split
split_number bs output = go (leb (length s.numbers) (length output)) s.refusal (refusals_listed bs)
  where
    s : Split
    s = vints_of bs

    go : (b : Bool) (c : Maybe Refusal) → Listed c
        → is_among (number_in (said_recalled (cond b (on_ended c s output)
        (out (Refused 8 (length s.numbers)) output)).answer)) possible ≡ true
    go true None e = refl
    go true (Some r) e = among-behind (number_of r) (0 ∷ 8 ∷ []) (refusal_numbers unvinting) e
    go false c e = refl

number_known : (o : Option (List ℕ)) (output : List ℤ)
    → is_among (number_in (said_recalled (recalled_by o output).answer)) possible ≡ true
number_known none output = refl
number_known (some bs) output = split_number bs output

module _ (w : World) (steps : List Step) (D : Demand3 w (map call_of steps)) where
  abbrev now : World
  now = play (map call_of steps) w

  joined_is : (name : List ℕ) → HandedOn (pos 0) (accepted_for name steps w)
      → joined name (map call_of steps) w ≡ come_to (readings_among (accepted_for name steps w))
  joined_is name h = steps-joined name steps w none ∙ handed_joined (accepted_for name steps w) h

  long : (name : List ℕ) (output : List ℤ) → name_limit_of w.state < length name
      → recalled_in now name output ≡ out (Refused 3 0) output
  long name output l = readings_failed now.state now.memory name output 3 (D.long_never name l).1

  any : (name : List ℕ) (output : List ℤ) → length name ≤ name_limit_of w.state
      → recalled_in now name output ≡ recalled_by (joined name (map call_of steps) w) output
  any name output l = reads_by now name (joined name (map call_of steps) w) (D.reads_back name l) output

  never : (n : ℕ) → is_among n possible ≡ false → 3 ≢ n → (name : List ℕ) (output : List ℤ)
      → number_in (said_recalled (recalled_in now name output).answer) ≢ n
  never n f t name output e = go (ltb (name_limit_of w.state) (length name)) refl
    where
      number : Out → ℕ
      number r = number_in (said_recalled r.answer)

      stood : Option (List ℕ)
      stood = joined name (map call_of steps) w

      go : (b : Bool) → ltb (name_limit_of w.state) (length name) ≡ b → ⊥
      go true l = t (sym (ap number (long name output (ltb-true (name_limit_of w.state) (length name) l))) ∙ e)
      go false l =
          let i : number (recalled_by stood output) ≡ n =
          sym (ap number (any name output (ltb-false (name_limit_of w.state) (length name) l))) ∙ e in
          false≢true (sym f ∙ subst (λ (x : ℕ). is_among x possible ≡ true) i (number_known stood output))

  pub demand_of : ReadingsDemand w steps
  demand_of = record {
    readings_back = λ name l h.
        reads_readings now name (readings_among (accepted_for name steps w))
        (handed_signed (pos 0) (accepted_for name steps w) h)
        (subst (ReadsAs now name) (joined_is name h) (D.reads_back name l));
    any_lane = any;
    long_name = long;
    never_2_or_4 = λ name output.
        (never 2 refl (λ z. omega arith) name output, never 4 refl (λ z. omega arith) name output);
    one_append = λ name last new. reading_is now.state now.memory name last new;
    over_bytes = D;
  }

-- FOUR: after any calls and readings, a lane of readings reads back as its accepted ones, in order
pub readings_demand : (capacity seed size : ℕ) (table keys lists : List ℕ) (w : World)
    → Born capacity seed size table keys lists w → (steps : List Step) → ReadingsDemand w steps
readings_demand capacity seed size table keys lists w B steps =
    demand_of w steps (demand_3 capacity seed size table keys lists w B (map call_of steps))
