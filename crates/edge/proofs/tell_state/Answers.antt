-- Three fours in a row, and a word, are one write. Assumes nothing.
use Prim.Native.Nat.{ℕ}
use mathlib.Core.Path.{refl, ap, ◌∙◌}
use mathlib.Core.Bool.{cond}
use mathlib.Core.List.{List, [], ◌∷◌}
use Rattle.spans.specs.Span.{overwrite}
use Rattle.edge.proofs.Laws.{told_fours}
use Rattle.edge.proofs.tell_state.Goals as goal

pub returns : goal.returns
returns c =
    let first : List ℕ = c.args.number ∷ c.args.st.seed ∷ c.args.st.words ∷ c.args.st.key_bytes ∷ [] in
    let last : List ℕ = c.args.st.key_arena.page ∷ c.args.st.key_arena.used ∷ c.args.st.list_arena.page ∷
    c.args.st.list_arena.used ∷ [] in c.tell.ensures ∙ ap (overwrite 12 (c.args.st.key_arena.size ∷ []))
    (c.tell_four-3.ensures ∙ ap (overwrite 8 last) (c.tell_four-2.ensures ∙ ap (λ (b : ℕ). overwrite 4
    (c.args.st.list_bytes ∷ c.args.st.buckets ∷ b ∷ c.args.st.keys ∷ []) c.tell_four.new.told) c.one_if-back.ensures
    ∙ ap (overwrite 4 (c.args.st.list_bytes ∷ c.args.st.buckets ∷ cond c.args.st.back 1 0 ∷ c.args.st.keys ∷ []))
    c.tell_four.ensures)) ∙ told_fours first (c.args.st.list_bytes ∷ c.args.st.buckets ∷ cond c.args.st.back 1 0 ∷
    c.args.st.keys ∷ []) last (c.args.st.key_arena.size ∷ []) c.args.told.now refl refl refl
