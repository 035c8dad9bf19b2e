-- The tests in the order of the paper; one lookup decides two of them. Assumes nothing.
use mathlib.Core.Bool.{true}
use mathlib.Core.Path.{◌≡◌, sym, ap, ◌∙◌}
use native.Mathlib.Omega.{arith}
use Rattle.store_look.specs.Look.{lent}
use Rattle.brownout.proofs.Turns.{keys_sense, lists_sense, Held, record-held, part_key, judged_1, judged_2}
use Rattle.brownout.proofs.Turns.{judged_3, judged_4, judged_list}
use Rattle.records.proofs.Laws.{Headed, head-found, head_lost}
use Rattle.records.specs.Record.{key_at, good_record}
use Rattle.brownout.specs.Code.{bucket_of}
use Rattle.brownout.proofs.judge.Goals as goal
use Rattle.brownout.proofs.judge.Goals.{After-find_bucket-b, Else-not-is_good_record, In-Some}

good : (c : Else-not-is_good_record) → good_record c.args.st.key_arena c.args.keys.now c.args.at ≡ true
good c = sym c.is_good_record.ensures ∙ c.if-not-is_good_record.false

held : (c : Else-not-is_good_record) → Held c.args.st (lent c.args.table.now c.args.keys.now c.args.lists.now)
    c.requires c.args.at
held c =
    let a = c.args in record-held a.st (lent a.table.now a.keys.now a.lists.now) c.requires a.at (sym c.is_good_record.ensures ∙
    c.if-not-is_good_record.false)

found : (c : After-find_bucket-b) → c.find_bucket-b.result ≡ bucket_of c.args.st (lent c.args.table.now
    c.args.keys.now c.args.lists.now) (key_at c.args.keys.now c.args.at)
found c =
    let a = c.args in c.find_bucket-b.ensures ∙ ap (bucket_of a.st (lent a.table.now a.keys.now a.lists.now))
    (part_key a.keys.now a.at c.key_length-n.result c.key_length-n.ensures.0)

-- the header that was found
headed : (c : In-Some) → Headed c.args.keys.now c.args.at c.in-Some.h
headed c = head-found _ _ _ (sym c.in-Some.ensures)

pub is_good_record-requires : goal.is_good_record-requires
is_good_record-requires c = keys_sense c.args.st (lent c.args.table.now c.args.keys.now c.args.lists.now) c.requires

pub returns-then-not-is_good_record : goal.returns-then-not-is_good_record
returns-then-not-is_good_record c =
    judged_1 c.args.st (lent c.args.table.now c.args.keys.now c.args.lists.now) c.args.i c.args.at (sym
    c.is_good_record.ensures ∙ c.if-not-is_good_record.true)

pub key_length-n-requires : goal.key_length-n-requires
key_length-n-requires c = (held (goal.at.key_length-n-requires c).Else-not-is_good_record).length-in

pub slice_bounds-name-end : goal.slice_bounds-name-end
slice_bounds-name-end c =
    omega (
      arith,
      c.key_length-n.ensures.0,
      (held (goal.at.slice_bounds-name-end
          c).Else-not-is_good_record).record-in,
    )

pub find_bucket-b-requires : goal.find_bucket-b-requires
find_bucket-b-requires c = c.requires

pub returns-then-b-i : goal.returns-then-b-i
returns-then-b-i c =
    let a = c.args in judged_2 a.st (lent a.table.now a.keys.now a.lists.now) a.i a.at (good
    (goal.at.returns-then-b-i c).Else-not-is_good_record) c.find_bucket-b.result (found (goal.at.returns-then-b-i
    c).After-find_bucket-b) c.if-b-i.true

pub returns-then-b-i-2 : goal.returns-then-b-i-2
returns-then-b-i-2 c =
    let a = c.args in judged_3 a.st (lent a.table.now a.keys.now a.lists.now) a.i a.at (good
    (goal.at.returns-then-b-i-2 c).Else-not-is_good_record) c.find_bucket-b.result (found
    (goal.at.returns-then-b-i-2 c).After-find_bucket-b) (omega (arith, c.if-b-i.false)) c.if-b-i-2.true

pub get_head-requires : goal.get_head-requires
get_head-requires c =
    let h = held (goal.at.get_head-requires c).Else-not-is_good_record in (h.length-in, h.value_in)

pub returns-in_default : goal.returns-in_default
returns-in_default c =
    let a = c.args in judged_4 a.st (lent a.table.now a.keys.now a.lists.now) a.i a.at (good
    (goal.at.returns-in_default c).Else-not-is_good_record) c.find_bucket-b.result (found
    (goal.at.returns-in_default c).After-find_bucket-b) c.if-b-i-2.false (head_lost _ _ (sym c.in_default.ensures))

pub judge_list-requires : goal.judge_list-requires
judge_list-requires c = (
  lists_sense c.args.st (lent c.args.table.now c.args.keys.now c.args.lists.now) c.requires,
  (headed
      (goal.at.judge_list-requires c).In-Some).ends,
)

pub returns : goal.returns
returns c =
    let a = c.args in judged_list a.st (lent a.table.now a.keys.now a.lists.now) a.i a.at (good (goal.at.returns
    c).Else-not-is_good_record) c.find_bucket-b.result (found (goal.at.returns c).After-find_bucket-b)
    c.if-b-i-2.false (headed (goal.at.returns c).In-Some).sound c.in-Some.h c.judge_list.result (headed
    (goal.at.returns c).In-Some).is c.judge_list.ensures
