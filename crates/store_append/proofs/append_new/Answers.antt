-- The refusals in their order; nothing is written before the last. Assumes nothing.
use Prim.Native.Nat.{◌≤◌}
use mathlib.Core.Bool.{false}
use mathlib.Core.Option.{none}
use mathlib.Core.Path.{◌≡◌, refl, sym, ap, subst, ◌∙◌}
use native.Mathlib.Omega.{arith}
use lib.ListN.{length}
use Rattle.store_append.proofs.Cases.{new_5, new-room, new_6, new-at, new_7, plan_none}
use Rattle.store_state.proofs.Whole.{Whole, whole_facts, buckets_few}
use Rattle.store_append.specs.Append.{is_crowded}
use Rattle.expull_append.specs.Append.{writing, is_some, plan_of, good_tail}
use Rattle.expull_header.specs.Header.{fresh, sound_header}
use Rattle.expull_header.specs.declared.Header.{Header}
use Rattle.memory_arena.proofs.Laws.{sensible_facts, room_in}
use Rattle.limits.specs.Limits.{name_limit, record-fits, name-within}
use Rattle.store_append.proofs.append_new.Goals as goal
use Rattle.store_append.proofs.append_new.Goals.{After-blocks_fit, Else-is_crowded, Start}

-- the whole-state check, clause by clause
whole : (c : Start) → Whole c.args.st (length c.args.table.now) (length c.args.keys.now) (length c.args.lists.now)
whole c =
    whole_facts _ _ _ _
    c.requires.lists_value.0

-- a name's length is two bytes
short : (c : Start) → length c.args.name.now ≤ name_limit
short c = omega (arith, c.requires.lists_value.1, name-within c.args.st.key_arena.size)

-- the table takes a new key
roomy : (c : Else-is_crowded) → is_crowded c.args.st ≡ false
roomy c = sym c.is_crowded.ensures ∙ c.if-is_crowded.false

-- the dry run of a fresh list
fit_is : (c : After-blocks_fit) → c.blocks_fit.result ≡ is_some (plan_of (length c.args.lists.now)
    c.args.st.list_arena fresh (length c.args.bytes.now))
fit_is c =
    c.blocks_fit.ensures ∙ ap (λ (h : Header). is_some (plan_of (length c.args.lists.now) c.args.st.list_arena h
    (length c.args.bytes.now))) c.fresh_header-h.ensures

pub is_crowded-requires : goal.is_crowded-requires
is_crowded-requires c =
    let h = whole (goal.at.is_crowded-requires c).Start in (h.keys_le, buckets_few c.args.st _ _ _ h)

pub returns-then-is_crowded : goal.returns-then-is_crowded
returns-then-is_crowded c =
    sym (new_5 _ _ _ _
    (sym c.is_crowded.ensures ∙ c.if-is_crowded.true))

pub overflow_add-n : goal.overflow_add-n
overflow_add-n c = omega (arith, short (goal.at.overflow_add-n c).Start)

pub find_room-requires : goal.find_room-requires
find_room-requires c =
    let k = (whole (goal.at.find_room-requires c).Start).key_arena in (
      omega arith,
      (
        omega (arith, c.requires.lists_value.1, record-fits c.args.st.key_arena.size (sensible_facts _ _ k).sized),
        k,
      ),
    )

pub returns-in_default : goal.returns-in_default
returns-in_default c =
    sym (new-room _ _ _ _ (roomy (goal.at.returns-in_default c).Else-is_crowded) _ (sym c.find_room.ensures ∙
    c.in_default.is) ∙ new_6 _ _ _ _)

pub blocks_fit-requires : goal.blocks_fit-requires
blocks_fit-requires c = (
  (whole (goal.at.blocks_fit-requires c).Start).list_arena,
  subst (λ (h : Header). h.number ≤ 140000) (sym c.fresh_header-h.ensures) (omega arith),
)

pub returns-then-not-blocks_fit : goal.returns-then-not-blocks_fit
returns-then-not-blocks_fit c =
    let n = plan_none c.args.bytes.now (writing c.args.lists.now c.args.st.list_arena fresh) (sym (fit_is
    (goal.at.returns-then-not-blocks_fit c).After-blocks_fit) ∙ c.if-not-blocks_fit.true) in
    sym (new-room _ _ _ _ (roomy (goal.at.returns-then-not-blocks_fit c).Else-is_crowded) _ (sym c.find_room.ensures ∙
    c.in-Some.is) ∙ new-at _ _ _ _ _ _ none n ∙ new_7 _ _ _ c.args.bytes.now _ _)

pub write_new-requires : goal.write_new-requires
unfolding sound_header good_tail
write_new-requires c =
    let k = (whole (goal.at.write_new-requires c).Start).key_arena in record {
      planned = record {
        whole = c.requires.lists_value.0;
        sound = refl;
        tail = refl;
        room = sym (fit_is (goal.at.write_new-requires c).After-blocks_fit) ∙ c.if-not-blocks_fit.false;
      };
      carried = (c.requires.carried, roomy (goal.at.write_new-requires c).Else-is_crowded);
      name_len_bound = (
        short (goal.at.write_new-requires c).Start,
        room_in _ _ _ _ _ (omega arith) (sensible_facts _ _ k).stands (sym c.find_room.ensures ∙ c.in-Some.is),
      );
    }

pub returns : goal.returns
returns c =
    c.write_new.ensures ∙ sym (new-room _ _ _ _ (roomy (goal.at.returns c).Else-is_crowded) _ (sym c.find_room.ensures ∙
    c.in-Some.is) ∙ new-at _ _ _ _ _ _ _ refl)
