-- Reading back, test by test; and its refusals. Assumes nothing.
use Prim.Native.Nat.{ℕ, ◌≤◌, ◌<◌}
use mathlib.Core.Path.{◌≡◌, refl, sym, ap, ◌∙◌, subst}
use mathlib.Core.Bool.{Bool, true, false, cond}
use mathlib.Core.List.{List, [], ◌∷◌}
use native.Mathlib.Omega.{arith}
use lib.Dec.{leb}
use lib.ListN.{length}
use lib.IntN.{ℤ}
use borrow.Author.Tests.{le-leb, lt-leb}
use types.Run.{OneOf, miss}
use denote.Enum.Declared.{tag_of}
use Rattle.limits.specs.Refusals.{looking_up, reading_readings, unvinting, refusal_numbers, is_among, permitted, number_of}
use Rattle.limits.specs.declared.Refusal.{Refusal}
use Rattle.std.specs.Prelude.{Option, Some, None}
use Rattle.expull_header.specs.declared.Header.{Header}
use Rattle.expull_header.specs.Header.{block_count}
use Rattle.expull_walk.specs.Blocks.{good_blocks, lane_bytes}
use Rattle.store_state.specs.declared.State.{State}
use Rattle.store_look.specs.declared.Lookup.{Lookup}
use Rattle.store_look.specs.declared.Lookup.TheVariants.{At, Missing, Failed}
use Rattle.store_look.specs.Said.{said_lookup}
use Rattle.records.specs.Record.{header_of, header_sound}
use Rattle.store_look.specs.Look.{Lent, blocks_sound, lookup_of}
use Rattle.store_look.specs.contracts.Lookup.{the_type}
use Rattle.store_look.proofs.Fair.{fair-lookup}
use Rattle.records.proofs.Laws.{Headed}
use Rattle.reading_run.specs.Readings.{Split, vints_of, readings_in}
use Rattle.reading_run.proofs.Split.{among-front, among-behind, refusals_listed, Listed}
use Rattle.readings.specs.declared.Recalled.TheVariants.{Readings, Absent, Refused}
use Rattle.readings.specs.Readings.{Out, out, at_front, on_ended, on_split, readings_at, not_found, on_lookup, readings_of}
use Rattle.readings.specs.Said.{said_recalled}

-- ---- a standing lane

module _ (st : State) (m : Lent) (at : ℕ) (output : List ℤ) where
  pub readings_4 : header_sound m.keys at ≡ false → readings_at st m at output ≡ out (Refused 4 0) output
  unfolding readings_at blocks_sound
  readings_4 e = rw e

  module _ (h : Header) (k : Headed m.keys at h) where
    abbrev good : Header → Bool
    good x = good_blocks st.list_arena m.lists x.head (block_count x)

    pub readings_4_block : good h ≡ false → readings_at st m at output ≡ out (Refused 4 0) output
    unfolding readings_at blocks_sound
    readings_4_block e =
        let g : good (header_of m.keys at) ≡ false = subst (λ (x : Header). good x ≡ false) k.is e in
        rw (k.sound, g)

    module _ (e : good h ≡ true) where
      abbrev S : Split
      S = vints_of (lane_bytes m.lists h)

      readings_on : readings_at st m at output ≡ on_split S output
      unfolding readings_at blocks_sound
      readings_on =
          let g : good (header_of m.keys at) ≡ true = subst (λ (x : Header). good x ≡ true) k.is e in
          rw (k.sound, g) (ap (λ (x : Header). on_split (vints_of (lane_bytes m.lists x)) output) (sym k.is))

      pub readings_8 : length output < length S.numbers
          → readings_at st m at output ≡ out (Refused 8 (length S.numbers)) output
      unfolding on_split
      readings_8 l = readings_on ∙ rw (lt-leb (length S.numbers) (length output) l)

      pub readings_bad : length S.numbers ≤ length output → (r : Refusal) → S.refusal ≡ Some r
          → readings_at st m at output ≡ out (Refused (number_of r) (length S.numbers)) output
      unfolding on_split
      readings_bad l r z = readings_on ∙ rw (le-leb (length S.numbers) (length output) l, z)

      pub readings_done : length S.numbers ≤ length output → S.refusal ≡ None
          → readings_at st m at output ≡ out (Readings (length S.numbers)) (at_front (readings_in S) output)
      unfolding on_split
      readings_done l z =
          readings_on ∙ rw (le-leb (length S.numbers) (length output) l, z)

-- ---- by name

module _ (st : State) (m : Lent) (name : List ℕ) (output : List ℤ) where
  abbrev by : Lookup → Out
  by l = on_lookup l (λ at. readings_at st m at output) output

  pub readings_not : (l : Lookup) → l ≡ lookup_of st m name → OneOf (1 ∷ 2 ∷ []) (tag_of the_type l)
      → out (not_found l) output ≡ readings_of st m name output
  unfolding readings_of
  readings_not l e o = go l o ∙ ap by e
    where
      go : (l : Lookup) → OneOf (1 ∷ 2 ∷ []) (tag_of the_type l) → out (not_found l) output ≡ by l
      go (At at) o = absurd (miss (1 ∷ 2 ∷ []) 0 tt o)
      go Missing o = refl
      go (Failed n) o = refl

  pub readings_at_lem : (at : ℕ) → lookup_of st m name ≡ At at → readings_of st m name output ≡ readings_at st m at output
  unfolding readings_of
  readings_at_lem at e = ap by e

  pub readings_none : lookup_of st m name ≡ Missing → readings_of st m name output ≡ out Absent output
  unfolding readings_of
  readings_none e = ap by e

  pub readings_failed : (n : ℕ) → lookup_of st m name ≡ Failed n
      → readings_of st m name output ≡ out (Refused n 0) output
  unfolding readings_of
  readings_failed n e = ap by e

-- ---- a refusal leaves the output, and its number is a listed one

pub record Fair (output : List ℤ) (o : Out) : Type 0 where
  pub kept : (n told : ℕ) → o.answer ≡ Refused n told → o.output ≡ output
  pub kept_absent : o.answer ≡ Absent → o.output ≡ output
  pub numbered : permitted reading_readings (said_recalled o.answer) ≡ true

fair_refused : (output : List ℤ) (n told : ℕ) → is_among n (refusal_numbers reading_readings) ≡ true
    → Fair output (out (Refused n told) output)
fair_refused output n told h = record { kept = λ n told e. refl; kept_absent = λ e. refl; numbered = h }

fair_absent : (output : List ℤ) → Fair output (out Absent output)
fair_absent output = record { kept = λ n told e. refl; kept_absent = λ e. refl; numbered = refl }

fair_given : (output o : List ℤ) (n : ℕ) → Fair output (out (Readings n) o)
fair_given output o n = record {
  kept = λ k told e. let z : ◌≡◌ {A = ℕ} 0 1 = cc in absurd (omega arith);
  kept_absent = λ e. let z : ◌≡◌ {A = ℕ} 0 1 = cc in absurd (omega arith);
  numbered = refl;
}

-- a lookup's numbers come first, then 8, then the vint reader's
of_lookup : (n : ℕ) → is_among n (refusal_numbers looking_up) ≡ true → is_among n (refusal_numbers reading_readings) ≡ true
of_lookup n e = among-front n (refusal_numbers looking_up) (8 ∷ refusal_numbers unvinting) e

of_reader : (n : ℕ) → is_among n (refusal_numbers unvinting) ≡ true → is_among n (refusal_numbers reading_readings) ≡ true
of_reader n e = among-behind n (2 ∷ 3 ∷ 4 ∷ 8 ∷ []) (refusal_numbers unvinting) e

fair-split : (bs : List ℕ) (output : List ℤ) → Fair output (on_split (vints_of bs) output)
unfolding on_split
fair-split bs output = go (leb (length s.numbers) (length output)) s.refusal (refusals_listed bs)
  where
    s : Split
    s = vints_of bs

    go : (b : Bool) (c : Option Refusal) → Listed c
        → Fair output (cond b (on_ended c s output) (out (Refused 8 (length s.numbers)) output))
    go true None e = fair_given output _ _
    go true (Some r) e = fair_refused output _ _ (of_reader (number_of r) e)
    go false c e = fair_refused output 8 _ refl

fair-at : (st : State) (m : Lent) (at : ℕ) (output : List ℤ) → Fair output (readings_at st m at output)
unfolding readings_at
fair-at st m at output = go (blocks_sound st m at)
  where
    bs : List ℕ
    bs = lane_bytes m.lists (header_of m.keys at)

    go : (b : Bool) → Fair output (cond b (on_split (vints_of bs) output) (out (Refused 4 0) output))
    go true = fair-split bs output
    go false = fair_refused output 4 0 refl

-- every reading back
pub fair_readings : (st : State) (m : Lent) (name : List ℕ) (output : List ℤ)
    → Fair output (readings_of st m name output)
unfolding readings_of
fair_readings st m name output = go (lookup_of st m name) (fair-lookup st m name)
  where
    go : (l : Lookup) → permitted looking_up (said_lookup l) ≡ true → Fair output (by st m name output l)
    go (At at) e = fair-at st m at output
    go Missing e = fair_absent output
    go (Failed n) e = fair_refused output n 0 (of_lookup n e)
