-- `lending::lend_for` meets its contract. Assumes nothing.
use Prim.Native.Nat.{◌-◌, ◌*◌, ◌≤◌}
use mathlib.Core.Path.{◌≡◌, sym, ◌∙◌}
use mathlib.Core.Bool.{Bool, true, ◌&&◌}
use native.Mathlib.Omega.{arith}
use lib.Dec.{leb}
use Rattle.limits.specs.Limits.{page_taken, page_least, page_most, arena_limit_for, bucket_limit, name_limit_for}
use Rattle.lending.specs.declared.Lend.TheVariants.{Areas}
use Rattle.lending.specs.Lending.{key_bytes_for, list_bytes_for, capacity_for, asks_few, lends_few}
use Rattle.lending.proofs.Laws.{most_is, asked_facts, lend_no_page, lend_asked, lend_lent, lend_areas}
use Rattle.lending.proofs.lend_for.Goals as goal
use Rattle.lending.proofs.lend_for.Goals.{After-min-name_most, After-list_bytes_for-lists, Else-not-are_few, Else-not-is_page_size}

-- ---- what the tests say
page_so : (c : Else-not-is_page_size) → page_taken c.args.page ≡ true
page_so c = sym c.is_page_size.ensures ∙ c.if-not-is_page_size.false

page_in : (c : Else-not-is_page_size) → (65536 ≤ c.args.page) × (c.args.page ≤ 1048576)
page_in c = (
  page_least c.args.page (let it : page_taken c.args.page ≡ true = sym c.is_page_size.ensures ∙
      c.if-not-is_page_size.false in it),
  page_most c.args.page (let it : page_taken c.args.page ≡ true = sym
      c.is_page_size.ensures ∙ c.if-not-is_page_size.false in it),
)

asked : (c : After-min-name_most) → (b : Bool) → (leb c.args.lanes bucket_limit && (leb c.args.bytes (4294967296 -
    c.args.page) && leb c.args.longest c.min-name_most.result)) ≡ b → asks_few c.args.page c.args.lanes
    c.args.bytes c.args.longest ≡ b
asked c b e =
    (λ i. leb c.args.lanes bucket_limit && (leb c.args.bytes (sym (most_is c.args.page (let it : page_taken
    c.args.page ≡ true = sym c.is_page_size.ensures ∙ c.if-not-is_page_size.false in it)) i) && leb c.args.longest
    (sym c.min-name_most.ensures i))) ∙ e

asked_so : (c : Else-not-are_few) → asks_few c.args.page c.args.lanes c.args.bytes c.args.longest ≡ true
asked_so c =
    ((λ i. leb c.args.lanes bucket_limit && (leb c.args.bytes (sym (most_is c.args.page (let it : page_taken
    c.args.page ≡ true = sym c.is_page_size.ensures ∙ c.if-not-is_page_size.false in it)) i) && leb c.args.longest
    (sym c.min-name_most.ensures i))) ∙ (c.if-not-are_few.false))

few : (c : Else-not-are_few) → (c.args.lanes ≤ bucket_limit) × ((c.args.bytes ≤ arena_limit_for c.args.page) ×
    (c.args.longest ≤ name_limit_for c.args.page))
few c =
    asked_facts c.args.page c.args.lanes c.args.bytes c.args.longest (let it : asks_few c.args.page c.args.lanes
    c.args.bytes c.args.longest ≡ true = ((λ i. leb c.args.lanes bucket_limit && (leb c.args.bytes (sym (most_is
    c.args.page (let it : page_taken c.args.page ≡ true = sym c.is_page_size.ensures ∙ c.if-not-is_page_size.false
    in it)) i) && leb c.args.longest (sym c.min-name_most.ensures i))) ∙ (c.if-not-are_few.false)) in it)

lent : (c : After-list_bytes_for-lists) → (b : Bool) → (leb c.capacity_for-capacity.result bucket_limit && (leb
    c.key_bytes_for-keys.result (4294967296 - c.args.page) && leb c.list_bytes_for-lists.result (4294967296 -
    c.args.page))) ≡ b → lends_few c.args.page (capacity_for c.args.lanes) (key_bytes_for c.args.page c.args.lanes
    c.args.longest) (list_bytes_for c.args.page c.args.lanes c.args.bytes) ≡ b
lent c b e =
    let m = sym (most_is c.args.page (let it : page_taken c.args.page ≡ true = sym c.is_page_size.ensures ∙
    c.if-not-is_page_size.false in it)) in (λ i. leb (sym c.capacity_for-capacity.ensures.0 i) bucket_limit && (leb
    (sym c.key_bytes_for-keys.ensures i) (m i) && leb (sym c.list_bytes_for-lists.ensures i) (m i))) ∙ e

pub returns-then-not-is_page_size : goal.returns-then-not-is_page_size
returns-then-not-is_page_size c =
    record {
      settled = lend_no_page c.args.page c.args.lanes c.args.bytes c.args.longest (sym c.is_page_size.ensures
          ∙ c.if-not-is_page_size.true);
    }

pub overflow_sub-most : goal.overflow_sub-most
overflow_sub-most c = omega (arith, (page_in (goal.at.overflow_sub-most c).Else-not-is_page_size).1)

pub overflow_sub-page : goal.overflow_sub-page
overflow_sub-page c = omega (arith, (page_in (goal.at.overflow_sub-page c).Else-not-is_page_size).0)

pub returns-then-not-are_few : goal.returns-then-not-are_few
returns-then-not-are_few c =
    record {
      settled = lend_asked c.args.page c.args.lanes c.args.bytes c.args.longest (page_so
          (goal.at.returns-then-not-are_few c).Else-not-is_page_size) (asked (goal.at.returns-then-not-are_few
          c).After-min-name_most _ (c.if-not-are_few.true));
    }

pub capacity_for-capacity-requires : goal.capacity_for-capacity-requires
capacity_for-capacity-requires c = (few (goal.at.capacity_for-capacity-requires c).Else-not-are_few).0

pub key_bytes_for-keys-requires : goal.key_bytes_for-keys-requires
key_bytes_for-keys-requires c =
    let p = page_in (goal.at.key_bytes_for-keys-requires c).Else-not-is_page_size in (
      p.0,
      (
        p.1,
        (
          (few
              (goal.at.key_bytes_for-keys-requires c).Else-not-are_few).0,
          (few (goal.at.key_bytes_for-keys-requires
              c).Else-not-are_few).1.1,
        ),
      ),
    )

pub list_bytes_for-lists-requires : goal.list_bytes_for-lists-requires
list_bytes_for-lists-requires c =
    let p = page_in (goal.at.list_bytes_for-lists-requires c).Else-not-is_page_size in (
      p.0,
      (
        p.1,
        (
          (few
              (goal.at.list_bytes_for-lists-requires c).Else-not-are_few).0,
          omega (
            arith,
            (few
                (goal.at.list_bytes_for-lists-requires c).Else-not-are_few).1.0,
            p.0,
            most_is c.args.page (page_so
                (goal.at.list_bytes_for-lists-requires c).Else-not-is_page_size),
          ),
        ),
      ),
    )

pub returns-then-not-is_lent : goal.returns-then-not-is_lent
returns-then-not-is_lent c =
    record {
      settled = lend_lent c.args.page c.args.lanes c.args.bytes c.args.longest (page_so
          (goal.at.returns-then-not-is_lent c).Else-not-is_page_size) (asked_so (goal.at.returns-then-not-is_lent
          c).Else-not-are_few) (lent (goal.at.returns-then-not-is_lent c).After-list_bytes_for-lists _
          (c.if-not-is_lent.true));
    }

pub returns : goal.returns
returns c =
    record {
      settled = (λ i. Areas (c.capacity_for-capacity.ensures.0 i) (2 * c.capacity_for-capacity.ensures.0 i)
          (c.key_bytes_for-keys.ensures i) (c.list_bytes_for-lists.ensures i)) ∙ lend_areas c.args.page c.args.lanes
          c.args.bytes c.args.longest (page_so (goal.at.returns c).Else-not-is_page_size) (asked_so (goal.at.returns
          c).Else-not-are_few) (lent (goal.at.returns c).After-list_bytes_for-lists _ (c.if-not-is_lent.false));
    }
