-- What is promised of numbers fed in pieces beyond the call's own equation. One record, a field a sentence;
-- proofs/Promises.antt has its one value.
use Rattle.std.specs.Prelude.{ℕ, ◌+◌, ◌-◌, ◌^◌, ◌≤◌, ◌<◌, ◌≡◌, Bool, true, false, List, [], ◌∷◌, ◌++◌, length, drop, Some, None, Err}
use Rattle.limits.specs.Limits.{vint_limit, fed_limit}
use Rattle.limits.specs.declared.Refusal.TheVariants.{NoEnd, AnotherForm}
use Rattle.limits.specs.Refusals.{number_of}
use Rattle.vint.specs.Vint.{number, write_vint, ended, take_vint, read_vint}
use Rattle.number_pieces.specs.declared.Pieces.{Pieces}
use Rattle.number_pieces.specs.declared.Stop.{Stop}
use Rattle.number_pieces.specs.Run.{waits, stops, ran, in_front, run_of}
use Rattle.number_pieces.specs.Feed.{holding, fresh, takes, out, fed, feed_of}
use Rattle.number_pieces.specs.Cut.{Piece, HasPlaces, EachHasPlaces, joined, goes_on, got, call_of, calls_of}

-- RULES AC10. The vints of numbers, one after the other.
abbrev pub vints_of : List ℕ → List ℕ
vints_of [] = []
vints_of (n ∷ ns) = write_vint n ++ vints_of ns

-- RULES AC10. Numbers of 32 bits.
abbrev pub Each32 : List ℕ → Type 0
Each32 [] = Unit {0}
Each32 (n ∷ ns) = (n < 2 ^ 32) × Each32 ns

-- RULES AC6 to AC8, AC10.
pub record Promises : Type 0 where
  -- RULES AC8. "However at most 4,294,967,295 bytes are cut into pieces, the numbers, the refusal and its place equal
  -- those of one whole piece", and so does the state, where it goes on. From any state that 2 doesn't name, whatever
  -- the outputs held.
  pub cut_anywhere : (st : Pieces) (ps : List Piece) (p whole : Piece) (last : Bool)
      → whole.bytes ≡ joined ps ++ p.bytes → takes st (length whole.bytes) ≡ true
      → EachHasPlaces ps → HasPlaces p → HasPlaces whole
      → calls_of st ps p last ≡ call_of st whole last
  -- RULES AC8. At the lane's start 2 names no piece of at most that many bytes.
  pub fresh-takes : (n : ℕ) → n ≤ fed_limit → takes fresh n ≡ true
  -- RULES AC7. "An empty piece changes nothing", whatever the state is and whether or not it is the last.
  pub empty_piece : (st : Pieces) (last : Bool) (output : List ℕ)
      → feed_of st [] last output ≡ out (fed st 0 (feed_of st [] last output).answer.stop) output
  pub empty_goes_on : (st : Pieces) (output : List ℕ) → takes st 0 ≡ true
      → (feed_of st [] false output).answer.stop ≡ None
  -- RULES AC6. After a refusal "the state comes back equal";
  pub state_back : (st : Pieces) (piece : List ℕ) (last : Bool) (output : List ℕ) (s : Stop)
      → (feed_of st piece last output).answer.stop ≡ Some s → (feed_of st piece last output).answer.state ≡ st
  -- and after any but 11 and 12 the output is as it was.
  pub output_back : (st : Pieces) (piece : List ℕ) (last : Bool) (output : List ℕ) (s : Stop)
      → (feed_of st piece last output).answer.stop ≡ Some s → number_of s.refusal < 11
      → (feed_of st piece last output).output ≡ output
  -- RULES AC10. The numbers are those of the vint reader, asked again and again: what it accepts is given out;
  pub number_given : (i : ℕ) (bs : List ℕ) (n k : ℕ) → read_vint bs ≡ number n k
      → run_of [] i bs ≡ in_front n (run_of [] (i + k) (drop k bs))
  -- where it says 12, the vint's last byte shows it;
  pub fault_12 : (i : ℕ) (bs : List ℕ) (v k : ℕ) → take_vint vint_limit bs ≡ ended v k → read_vint bs ≡ Err AnotherForm
      → run_of [] i bs ≡ ran [] (stops AnotherForm (i + (k - 1)))
  -- where it says 11, "five bytes without an end are refused at once",
  pub fault_11 : (i : ℕ) (bs : List ℕ) → read_vint bs ≡ Err NoEnd → vint_limit ≤ length bs
      → run_of [] i bs ≡ ran [] (stops NoEnd (i + (vint_limit - 1)))
  -- and fewer wait.
  pub fewer_wait : (i : ℕ) (bs : List ℕ) → read_vint bs ≡ Err NoEnd → length bs < vint_limit
      → run_of [] i bs ≡ ran [] (waits bs)
  -- RULES AC10. A lane of written vints gives its numbers, and ends with nothing held.
  pub written_back : (ns : List ℕ) (p : Piece) (last : Bool) → Each32 ns → p.bytes ≡ vints_of ns
      → length p.bytes ≤ fed_limit → HasPlaces p
      → call_of fresh p last ≡ got ns (goes_on (holding [] (length p.bytes)))
