-- RULES AC1, AC5 to AC7. Document 02, Six: the number reader's call. "Its output has a place for each byte of the
-- piece, else 8; more than four held bytes, one with the top bit, or a byte count that would pass 4,294,967,295 is
-- refusal 2." "Numbers before a bad vint are given out .. but the state comes back equal. An empty piece changes
-- nothing."
use Rattle.std.specs.Prelude.{ℕ, ◌+◌, ◌-◌, Bool, true, cond, ◌&&◌, List, [], ◌∷◌, ◌++◌, leb, ltb, length, take, replicate, Option, Some, None}
use Rattle.limits.specs.Limits.{held_limit, fed_limit}
use Rattle.limits.specs.declared.Refusal.{Refusal}
use Rattle.limits.specs.declared.Refusal.TheVariants.{NotWhole, OutputTooShort}
use Rattle.spans.specs.Span.{overwrite}
use Rattle.number_pieces.specs.declared.Pieces.{Pieces}
use Rattle.number_pieces.specs.declared.Stop.{Stop}
use Rattle.number_pieces.specs.declared.Fed.{Fed}
use Rattle.number_pieces.specs.Run.{End, waits, stops, Ran, run_of, at_end}

-- ---- the state

-- RULES AC1. The bytes that are held.
abbrev pub held_of : Pieces → List ℕ
held_of st = take st.count st.held

-- RULES AC1. The state that holds some bytes after n were fed; array bytes that aren't held are 0.
abbrev pub holding : List ℕ → ℕ → Pieces
holding held n = record { held = held ++ replicate (held_limit - length held) 0; count = length held; fed = n }

-- RULES AC1. At the lane's start.
abbrev pub fresh : Pieces
fresh = holding [] 0

-- RULES AC1. No byte has the top bit.
unfoldable pub no_top : List ℕ → Bool
no_top [] = true
no_top (b ∷ bs) = ltb b 128 && no_top bs

-- RULES AC5. A state that isn't senseless, and whose byte count a piece of n bytes doesn't make pass the limit.
unfoldable pub takes : Pieces → ℕ → Bool
unfolding no_top
takes st n = leb st.count held_limit && (no_top (held_of st) && leb (st.fed + n) fed_limit)

-- ---- the call

-- RULES AC5. The answer, and the output as the call leaves it.
pub record Out : Type 0 where
  pub answer : Fed
  pub output : List ℕ

-- RULES AC5. The same.
abbrev pub out : Fed → List ℕ → Out
out r o = record { answer = r; output = o }

-- RULES AC5. A state, how many numbers are given out, and why it doesn't go on.
abbrev pub fed : Pieces → ℕ → Option Stop → Fed
fed st n s = record { state = st; numbers = n; stop = s }

-- RULES AC5. The answer of a call that doesn't go on, and what that tells.
abbrev pub stopped : Pieces → ℕ → Refusal → ℕ → Fed
stopped st n r told = fed st n (Some (record { refusal = r; told = told }))

-- RULES AC7. The state after a piece behind which some bytes are held: after none it is the one handed in, to the byte.
abbrev pub after : Pieces → List ℕ → List ℕ → Pieces
after st [] held = st
after st (b ∷ bs) held = holding held (st.fed + length (b ∷ bs))

-- RULES AC6. How a piece ends: it goes on, or is refused and the state comes back equal. The numbers are given out.
abbrev pub on_end : End → Pieces → List ℕ → List ℕ → List ℕ → Out
on_end (waits held) st piece ns output = out (fed (after st piece held) (length ns) None) (overwrite 0 ns output)
on_end (stops n i) st piece ns output = out (stopped st (length ns) n i) (overwrite 0 ns output)

-- RULES AC6. What the bytes came to, and whether the lane is at its end.
abbrev pub on_run : Ran → Pieces → List ℕ → Bool → List ℕ → Out
on_run r st piece last output = on_end (at_end last (st.fed + length piece) r.end) st piece r.numbers output

-- RULES AC5. 2, then 8 with the places needed, then the bytes.
unfoldable pub feed_of : Pieces → List ℕ → Bool → List ℕ → Out
unfolding takes run_of overwrite
feed_of st piece last output =
    cond (takes st (length piece))
    (cond (leb (length piece) (length output))
    (on_run (run_of (held_of st) st.fed piece) st piece last output)
    (out (stopped st 0 OutputTooShort (length piece)) output))
    (out (stopped st 0 NotWhole 0) output)
