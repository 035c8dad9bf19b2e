-- The short way of an append leaves what the append leaves. Assumes nothing.
use Prim.Native.Nat.{ℕ, ◌+◌, ◌≤◌}
use mathlib.Core.Path.{◌≡◌, refl, sym, ap, ◌∙◌}
use mathlib.Core.Bool.{true}
use mathlib.Core.Option.{some}
use mathlib.Core.List.{List, [], append-nil}
use native.Mathlib.Omega.{arith}
use lib.ListN.{length}
use borrow.Author.Tests.{leb-true}
use Rattle.limits.specs.Limits.{arena_limit, arena_limit_for, limit_within, fresh_number}
use Rattle.spans.specs.Span.{overwrite}
use Rattle.memory_arena.specs.Calls.{sensible}
use Rattle.memory_arena.proofs.Laws.{sensible_facts}
use Rattle.records.specs.Record.{value_place, header_of, header_sound}
use Rattle.expull_header.specs.declared.Header.{Header}
use Rattle.expull_header.specs.Header.{header_bytes, end_bytes_at}
use Rattle.expull_append.specs.Append.{Writing, writing, filled, appended}
use Rattle.expull_header.proofs.Laws.{sound_facts}
use Rattle.expull_append.proofs.Laws.{appended-chunk, tail_in}
use Rattle.store_state.specs.declared.State.{State}
use Rattle.store_append.specs.declared.Appended.TheVariants.{Accepted}
use Rattle.store_look.specs.Look.{Lent, lent}
use Rattle.store_append.specs.Append.{out, moved_state, append_standing}
use Rattle.store_quick.specs.Quick.{Quick, quickly}
use Rattle.store_append.proofs.Cases.{stays_unsaturated, state-stays, table_stays, standing_on, standing_done}

-- bytes that fit the last block are one chunk
one_chunk : (bs : List ℕ) (w : Writing) → length bs ≤ w.header.remaining → appended bs w ≡ some (filled bs w)
unfolding appended
one_chunk bs w h = ap (λ (l : List ℕ). appended l w) (sym (append-nil bs)) ∙ appended-chunk bs [] w h

pub quick_done : (st : State) (m : Lent) (at : ℕ) (bytes k l : List ℕ) → Quick st m.keys at (length bytes)
    → k ≡ overwrite (value_place m.keys at) (header_bytes (quickly st m.keys m.lists at bytes).header) m.keys
    → l ≡ (quickly st m.keys m.lists at bytes).memory
    → out (Accepted st) (lent m.table k l) ≡ append_standing st m at bytes
unfolding filled
quick_done st m at bytes k l q e f =
    let w = writing m.lists st.list_arena (header_of m.keys at) in
    let g = stays_unsaturated st q.calm in
    standing_done st m bytes bytes at (some (filled bytes w)) (filled bytes w) refl st m.table k l
    (ap (λ (s : State). moved_state s st.keys st.key_arena st.list_arena) (sym (state-stays st g))) (sym
    (table_stays st m.table g)) e f
    ∙ sym (standing_on st m bytes bytes at (some (filled bytes w)) q.sound q.tail (one_chunk bytes w q.fits))

-- the bytes lie in the list pages
pub record Fitting (st : State) (keys lists : List ℕ) (at n : ℕ) : Type 0 where
  pub inside : (header_of keys at).tail + n ≤ length lists
  pub short : length lists ≤ arena_limit

pub quick-fits : (st : State) (keys lists : List ℕ) (at n : ℕ) → sensible st.list_arena (length lists) ≡ true
    → Quick st keys at n → Fitting st keys lists at n
unfolding header_sound
quick-fits st keys lists at n s q =
    let h = header_of keys at in
    let f = sensible_facts st.list_arena (length lists) s in
    let shape = (sound_facts h (end_bytes_at (value_place keys at) keys) q.sound).shape in
    let begun : (h.number ≡ fresh_number → ⊥) = λ e. let z = ap (λ (x : Header). x.remaining) (shape.without e) in omega (arith, q.some, q.fits) in
    record {
      inside = omega (arith, q.fits, tail_in st.list_arena (length lists) h s q.tail begun);
      short = omega (
        arith,
        leb-true (length lists) (arena_limit_for st.list_arena.size) f.short,
        limit_within
            st.list_arena.size f.sized,
      );
    }
