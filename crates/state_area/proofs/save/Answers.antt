-- Four runs of four numbers are one write. Assumes nothing.
use Prim.Native.Nat.{ℕ}
use mathlib.Core.Path.{ap, ◌∙◌}
use mathlib.Core.Bool.{cond}
use mathlib.Core.List.{List}
use native.Mathlib.Omega.{arith}
use Rattle.spans.specs.Span.{overwrite}
use Rattle.state_area.specs.Area.{area_mark, four_bytes, area_of}
use Rattle.state_area.proofs.Laws.{four_runs, length-four}
use Rattle.state_area.proofs.save.Goals as goal

pub returns : goal.returns
unfolding area_of
returns c =
    let one : List ℕ = four_bytes area_mark c.args.st.seed c.args.st.key_bytes c.args.st.list_bytes in
    let two : List ℕ = four_bytes c.args.st.words c.args.st.buckets (cond c.args.st.back 1 0) c.args.st.keys in
    let three : List ℕ = four_bytes c.args.st.key_arena.page c.args.st.key_arena.used c.args.st.list_arena.page
    c.args.st.list_arena.used in
    let four : List ℕ = four_bytes c.args.st.key_arena.size 0 0 0 in c.put_four-4.ensures ∙ ap (overwrite 48 four)
    (c.put_four-3.ensures ∙ ap (overwrite 32 three) (c.put_four-2.ensures ∙ ap (λ (b : ℕ). overwrite 16 (four_bytes
    c.args.st.words c.args.st.buckets b c.args.st.keys) c.put_four.new.area) c.one_if-end.ensures ∙ ap (overwrite 16
    two) c.put_four.ensures)) ∙ four_runs 0 16 32 48 one two three four c.args.area.now (omega (
      arith,
      length-four
          area_mark c.args.st.seed c.args.st.key_bytes c.args.st.list_bytes,
    )) (omega (
      arith,
      length-four c.args.st.words
          c.args.st.buckets (cond c.args.st.back 1 0) c.args.st.keys,
    )) (omega (
      arith,
      length-four c.args.st.key_arena.page
          c.args.st.key_arena.used c.args.st.list_arena.page c.args.st.list_arena.used,
    ))
