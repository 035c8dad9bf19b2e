-- What each part left, put together. Assumes nothing.
use Prim.Native.Nat.{ℕ}
use mathlib.Core.Path.{refl, ap, ◌∙◌}
use lib.ListN.{length}
use Rattle.store_append.proofs.Cases.{standing_done}
use Rattle.store_state.proofs.Whole.{whole_facts}
use Rattle.store_append.proofs.Growth.{growable}
use Rattle.store_append.specs.Append.{moved_state}
use Rattle.store_state.specs.declared.State.{State}
use Rattle.expull_append.specs.Append.{writing}
use Rattle.expull_header.specs.Header.{header_bytes}
use Rattle.spans.specs.Span.{overwrite}
use Rattle.store_append.proofs.write_standing.Goals as goal

pub extend_from_slice-list-requires : goal.extend_from_slice-list-requires
extend_from_slice-list-requires c = (
  (whole_facts _ _ _ _
      c.requires.planned.whole).list_arena,
  (
    c.requires.planned.sound,
    (
      c.requires.planned.tail,
      c.requires.planned.room,
    ),
  ),
)

pub grow_table-grown-requires : goal.grow_table-grown-requires
grow_table-grown-requires c =
    let g = growable c.args.st (length c.args.table.now) (length c.args.keys.now) (length c.args.lists.now)
    (whole_facts _ _ _ _
    c.requires.planned.whole) in (g.words_is, (g.fits, (g.some, (g.keys_le, g.few))))

pub returns : goal.returns
returns c =
    standing_done _ _ c.args.bytes.now c.args.bytes.now c.args.at _ (writing c.extend_from_slice-list.new.lists c.extend_from_slice-list.result.arena
    c.extend_from_slice-list.result.header) c.extend_from_slice-list.ensures c.moved_state.result _ _ _
    (c.moved_state.ensures ∙ ap (λ (s : State). moved_state s c.args.st.keys c.args.st.key_arena
    c.extend_from_slice-list.result.arena) c.grow_table-grown.ensures.0) c.grow_table-grown.ensures.1
    (c.put_header.ensures ∙ ap (λ (p : ℕ). overwrite p (header_bytes c.extend_from_slice-list.result.header)
    c.args.keys.now) c.value_place-place.ensures) refl
