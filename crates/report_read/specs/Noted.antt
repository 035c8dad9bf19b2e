-- RULES AA17. How the code spares itself the search for a name seen before: the line of each name is noted in a set of
-- places, by its hash. A line whose place was free is no line seen before; what is said of a text doesn't depend on it.
use Rattle.std.specs.Prelude.{ℕ, ◌%◌, ◌≡◌, Bool, true, false, cond, List}
use Rattle.std.specs.Prelude.{Some}
use Rattle.murmurhash2.specs.Murmur.{murmur_hash2}
use Rattle.marks.specs.Bits.{Out, out, mark_one}
use Rattle.report_text.specs.Text.{term_word}
use Rattle.report_text.specs.Reader.{bytes_in}
use Rattle.report_read.specs.declared.check.Progress.{Progress}
use Rattle.report_read.specs.declared.check.Expected.{Expected}
use Rattle.report_read.specs.declared.check.Expected.TheVariants.{Lane}
use Rattle.report_read.specs.Lines.{first_lane}
use Rattle.report_read.specs.Counted.{seen_among}

-- RULES AA17. A line's place.
unfoldable pub note_of : List ℕ → ℕ
unfolding murmur_hash2
note_of l = murmur_hash2 0 l % 524288

-- RULES AA17. A name may stand there.
abbrev pub is_lane : Expected → Bool
is_lane Lane = true
is_lane _ = false

-- RULES AA17. A line noted, where a name may stand; whether its place was taken already.
unfoldable pub noted_of : List ℕ → Progress → List ℕ → Out
unfolding mark_one note_of
noted_of notes p l = cond (is_lane p.expected) (mark_one notes (note_of l)) (out true notes)

-- RULES AA17. What a free place vouches for: a name's line that begins none of the lanes so far.
abbrev pub Vouched : Bool → List ℕ → Progress → List ℕ → Type 0
Vouched maybe t p l =
    maybe ≡ false → (x : List ℕ) → bytes_in term_word l ≡ Some x → seen_among p.lanes l t (first_lane t) ≡ false
