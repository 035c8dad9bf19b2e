-- What each part left, put together. Assumes nothing.
use Prim.Native.Nat.{◌+◌, ◌/◌, ◌≤◌, ◌<◌}
use mathlib.Core.Bool.{true}
use mathlib.Core.Path.{◌≡◌, refl, sym, ap, subst, ◌∙◌}
use native.Mathlib.Omega.{arith}
use lib.ListN.{length}
use Rattle.store_append.proofs.Cases.{new_done}
use Rattle.store_append.proofs.Carried.{carried_on}
use Rattle.store_state.proofs.Whole.{whole_facts}
use Rattle.store_append.proofs.Growth.{Growable, growable, grown-stands}
use Rattle.store_append.specs.Append.{moved_state}
use Rattle.store_state.specs.State.{first_of}
use Rattle.store_state.specs.declared.State.{State}
use Rattle.expull_append.specs.Append.{writing, appended, good_tail, plan_of, is_some}
use Rattle.expull_header.specs.Header.{fresh, sound_header}
use Rattle.expull_header.specs.declared.Header.{Header}
use Rattle.shared_arena_hashmap.specs.Grow.{entered}
use Rattle.store_append.proofs.write_new.Goals as goal
use Rattle.store_append.proofs.write_new.Goals.{Start}

-- what growing the table asks
grow_ok : (c : Start) → Growable c.args.st (length c.args.table.now)
grow_ok c =
    let a = c.args in growable a.st (length a.table.now) (length a.keys.now) (length a.lists.now) (whole_facts a.st
    (length a.table.now) (length a.keys.now) (length a.lists.now) c.requires.planned.whole)

pub extend_from_slice-list-requires : goal.extend_from_slice-list-requires
extend_from_slice-list-requires c =
    let e : fresh ≡ c.fresh_header-h.result = sym c.fresh_header-h.ensures in (
      (whole_facts _ _ _ _ c.requires.planned.whole).list_arena,
      subst
          (λ (h : Header). (sound_header h 0 ≡ true) × ((good_tail c.args.st.list_arena h ≡ true) × (is_some (plan_of
          (length c.args.lists.now) c.args.st.list_arena h (length c.args.bytes.now)) ≡ true))) e
          (c.requires.planned.sound, (c.requires.planned.tail, c.requires.planned.room)),
    )

pub grow_table-grown-requires : goal.grow_table-grown-requires
grow_table-grown-requires c =
    let g = grow_ok (goal.at.grow_table-grown-requires c).Start in (
      g.words_is,
      (
        g.fits,
        (
          g.some,
          (
            g.keys_le,
            g.few,
          ),
        ),
      ),
    )

pub enter_new-requires : goal.enter_new-requires
enter_new-requires c =
    let e = sym c.grow_table-grown.ensures.0 in
    let k = grown-stands c.args.st (length c.args.table.now) (grow_ok (goal.at.enter_new-requires c).Start) in
    record {
      buckets_nonzero = subst (λ (x : State). (0 < x.buckets) × ((x.buckets ≤ x.words / 2) × (x.words ≡
          length c.grow_table-grown.new.table))) e (k.0, (k.1.0, k.1.1 ∙ sym c.grow_table-grown.auto.table));
      last_empty =
          carried_on _ _ _ c.args.hash
          c.args.looked (grow_ok (goal.at.enter_new-requires c).Start) c.requires.carried.1 c.requires.carried.0
          c.grow_table-grown.result c.grow_table-grown.new.table c.grow_table-grown.ensures.0 c.grow_table-grown.ensures.1;
    }

pub overflow_add-st : goal.overflow_add-st
overflow_add-st c = omega (arith, grow_ok (goal.at.overflow_add-st c).Start)

pub shape_of-lists : goal.shape_of-lists
shape_of-lists c = c.extend_from_slice-list.auto.lists

pub returns : goal.returns
returns c =
    new_done _ _ _ c.args.bytes.now
    c.args.room.at c.args.room.after _ (writing c.extend_from_slice-list.new.lists c.extend_from_slice-list.result.arena
    c.extend_from_slice-list.result.header) (c.extend_from_slice-list.ensures ∙ ap (λ (h : Header). appended
    c.args.bytes.now (writing c.args.lists.now c.args.st.list_arena h)) c.fresh_header-h.ensures)
    c.moved_state.result _ _ _ (c.moved_state.ensures ∙ ap (λ (s : State).
    moved_state s (c.args.st.keys + 1) c.args.room.after
    c.extend_from_slice-list.result.arena) c.grow_table-grown.ensures.0) (c.enter_new.ensures ∙ (λ i. entered
    (first_of (c.grow_table-grown.ensures.0 i)) (c.grow_table-grown.ensures.0 i).buckets c.args.room.at
    (c.requires.carried.0.hashed i) (c.grow_table-grown.ensures.1 i))) c.put_record.ensures refl
