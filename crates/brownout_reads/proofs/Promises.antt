-- A lane of a sound memory: its blocks are good, so neither a piece nor its readings meet damage. Assumes nothing.
use Prim.Native.Nat.{ℕ, ◌-◌, ◌≤◌, ◌<◌, min}
use mathlib.Core.Path.{◌≡◌, refl, sym, ap, ◌∙◌, subst}
use mathlib.Core.Logic.{◌≢◌}
use mathlib.Core.Bool.{Bool, true, false, cond, false≢true}
use mathlib.Core.List.{List, [], ◌∷◌}
use native.Mathlib.Nat.{le_refl}
use native.Mathlib.Omega.{arith}
use lib.Dec.{leb, eqb}
use lib.ListN.{length, replicate, length-replicate}
use lib.IntN.{ℤ}
use borrow.Author.Tests.{le-leb, lt-leb, leb-true, leb-false}
use Rattle.limits.specs.Refusals.{unvinting, refusal_numbers, is_among, number_in}
use Rattle.limits.specs.declared.Refusal.{Refusal}
use Rattle.std.specs.Prelude.{Option, Some, None}
use Rattle.numbers.proofs.Tests.{both}
use Rattle.expull_header.specs.Header.{lane_length, block_count}
use Rattle.expull_walk.specs.Blocks.{lane_bytes, good_blocks}
use Rattle.store_state.specs.declared.State.{State}
use Rattle.store_look.specs.declared.Lookup.{Lookup}
use Rattle.store_look.specs.declared.Lookup.TheVariants.{At, Missing, Failed}
use Rattle.store_look.specs.declared.Answer.TheVariants.{Found}
use Rattle.store_look.specs.declared.Outcome.TheVariants.{Reading}
use Rattle.store_look.specs.Said.{said_lookup}
use Rattle.records.specs.Record.{header_of, header_sound}
use Rattle.store_look.specs.Look.{Lent, lookup_of, blocks_sound, read_at, read_of}
use Rattle.reading_run.specs.Readings.{Split, vints_of, readings_in}
use Rattle.reading_run.proofs.Split.{refusals_listed, Listed}
use Rattle.readings.specs.declared.Recalled.TheVariants.{Readings, Refused as NotRecalled}
use Rattle.readings.specs.Readings.{out as recalled, at_front, on_ended, on_split, readings_at, readings_of}
use Rattle.readings.specs.Said.{said_recalled}
use Rattle.lane_pieces.specs.declared.Pieced.{Pieced}
use Rattle.lane_pieces.specs.declared.Pieced.TheVariants.{Given, Refused as NotGiven}
use Rattle.lane_pieces.specs.Piece.{Out, piece_at, piece_of, piece_length, blocks_met}
use Rattle.lane_pieces.specs.Said.{said_pieced}
use Rattle.lane_pieces.proofs.Promises.{promises}
use Rattle.brownout_faults.specs.declared.Checked.TheVariants.{Sound}
use Rattle.brownout_faults.specs.Check.{check_of}
use Rattle.brownout_faults.specs.Promises.{NoDamage}
use Rattle.brownout_faults.proofs.Promises.{promises as check_promises}
use Rattle.brownout_reads.specs.Promises.{NoDamageRead}

module _ (st : State) (m : Lent) (N : NoDamage st m) where
  -- a lane that is found: header and blocks are no damage
  blocks-sound : (name : List ℕ) (at : ℕ) → lookup_of st m name ≡ At at → blocks_sound st m at ≡ true
  unfolding read_of read_at
  blocks-sound name at e = go (blocks_sound st m at) refl
    where
      go : (b : Bool) → blocks_sound st m at ≡ b → blocks_sound st m at ≡ true
      go true p = p
      go false p = absurd (N.read name [] (rw (e, p)))

  -- and a reading into an output that is long enough gives its bytes
  whole-read : (name : List ℕ) (at : ℕ) → lookup_of st m name ≡ At at
      → (read_of st m name (replicate (lane_length (header_of m.keys at)) 0)).answer
      ≡ Found (Reading (lane_length (header_of m.keys at)))
  unfolding read_of read_at
  whole-read name at e =
      let n = lane_length (header_of m.keys at) in
      let l : leb n (length {A = ℕ} (replicate n 0)) ≡ true = rw length-replicate (le-leb n n (le_refl n)) in
      rw (e, blocks-sound name at e, l)

  header-sound : (name : List ℕ) (at : ℕ) → lookup_of st m name ≡ At at → header_sound m.keys at ≡ true
  unfolding blocks_sound
  header-sound name at e =
      (both (header_sound m.keys at)
      (good_blocks st.list_arena m.lists (header_of m.keys at).head (block_count (header_of m.keys at)))
      (blocks-sound name at e)).0

  -- ---- a piece of a lane that is found: 2, 8, or bytes

  module _ (name : List ℕ) (at given : ℕ) (e : lookup_of st m name ≡ At at) where
    abbrev long : ℕ
    long = lane_length (header_of m.keys at)

    piece_2 : (output : List ℕ) → long < given → (piece_of st m name given output).answer ≡ NotGiven 2 0
    unfolding piece_of piece_at
    piece_2 output l = rw (e, header-sound name at e, lt-leb given long l)

    piece_8 : given ≤ long → (piece_of st m name given []).answer ≡ NotGiven 8 long
    unfolding piece_of piece_at blocks_met good_blocks
    piece_8 l =
        let z : piece_length (header_of m.keys at) given 0 ≡ 0 = omega arith in
        rw (e, header-sound name at e, le-leb given long l, z)

    piece_given : (b : ℕ) (output : List ℕ) → given ≤ long → (piece_of st m name given (b ∷ output)).answer
        ≡ Given (min (length (b ∷ output)) (long - given))
    piece_given b output l =
        ap (λ (o : Out). o.answer)
        (promises.piece_of_reading st m name given (b ∷ output) (replicate long 0) long (whole-read name at e) l
        (omega arith))

    piece_never : (output : List ℕ) → number_in (said_pieced (piece_of st m name given output).answer) ≢ 4
    piece_never output f = go (leb given long) refl output f
      where
        number : Pieced → ℕ
        number r = number_in (said_pieced r)

        go : (c : Bool) → leb given long ≡ c → (output : List ℕ)
            → number_in (said_pieced (piece_of st m name given output).answer) ≡ 4
            → ⊥
        go false p output f = omega (arith, sym f ∙ ap number (piece_2 output (leb-false given long p)))
        go true p [] f = omega (arith, sym f ∙ ap number (piece_8 (leb-true given long p)))
        go true p (b ∷ output) f = omega (arith, sym f ∙ ap number (piece_given b output (leb-true given long p)))

  piece-answers : (name : List ℕ) (given : ℕ) (output : List ℕ)
      → number_in (said_pieced (piece_of st m name given output).answer) ≢ 4
  unfolding piece_of
  piece-answers name given output =
      go (lookup_of st m name) refl (N.lookup name) (λ at e. piece_never name at given e output)
    where
      go : (l : Lookup) → lookup_of st m name ≡ l → number_in (said_lookup (lookup_of st m name)) ≢ 4
          → ((at : ℕ) → lookup_of st m name ≡ At at → number_in (said_pieced (piece_of st m name given output).answer) ≢ 4)
          → number_in (said_pieced (piece_of st m name given output).answer) ≢ 4
      go (At at) e k f = f at e
      go Missing e k f = rw e (λ z. omega (arith, z))
      go (Failed n) e k f = λ z. k (rw e (rw e at z))

  -- ---- readings

  split_never : (bs : List ℕ) (output : List ℤ) → number_in (said_recalled (on_split (vints_of bs) output).answer) ≢ 4
  unfolding on_split
  split_never bs output = go (leb (length s.numbers) (length output)) s.refusal (refusals_listed bs)
    where
      s : Split
      s = vints_of bs

      go : (b : Bool) (c : Option Refusal) → Listed c
          → number_in (said_recalled (cond b (on_ended c s output)
          (recalled (NotRecalled 8 (length s.numbers)) output)).answer) ≢ 4
      go true None e z = omega (arith, z)
      go true (Some r) e z =
          false≢true (subst (λ (k : ℕ). is_among k (refusal_numbers unvinting) ≡ true) z e)
      go false c e z = omega (arith, z)

  readings_answers : (name : List ℕ) (output : List ℤ)
      → number_in (said_recalled (readings_of st m name output).answer) ≢ 4
  unfolding readings_of readings_at
  readings_answers name output = go (lookup_of st m name) refl (N.lookup name)
    where
      go : (l : Lookup) → lookup_of st m name ≡ l → number_in (said_lookup (lookup_of st m name)) ≢ 4
          → number_in (said_recalled (readings_of st m name output).answer) ≢ 4
      go (At at) e k =
          rw (e, blocks-sound name at e) (split_never (lane_bytes m.lists (header_of m.keys at)) output)
      go Missing e k = rw e (λ z. omega (arith, z))
      go (Failed n) e k = λ z. k (rw e (rw e at z))

-- SOUND ANSWERS DAMAGE TO NO PIECE AND TO NO READINGS
pub sound_reads : (st : State) (m : Lent) (marks : List ℕ) → (check_of st m marks).answer ≡ Sound → NoDamageRead st m
sound_reads st m marks e =
    let N = check_promises.sound_never_4 st m marks e in
    record { piece = piece-answers st m N; readings = readings_answers st m N }
