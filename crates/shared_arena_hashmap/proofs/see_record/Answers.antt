-- `shared_arena_hashmap::see_record` meets its contract. A good record lies in the key pages, so its key is a part of
-- them. Assumes nothing.
use mathlib.Core.Bool.{Bool, true, false, cond}
use mathlib.Core.Path.{◌≡◌, sym, ◌∙◌}
use native.Mathlib.Omega.{arith}
use Rattle.records.specs.Record.{good_record}
use Rattle.shared_arena_hashmap.specs.Probe.{seen_record}
use Rattle.shared_arena_hashmap.specs.declared.Seen.TheVariants.{Same, Other}
use Rattle.records.proofs.Laws.{good-record-in}
use Rattle.shared_arena_hashmap.proofs.Laws.{seen-broken, seen-good}
use Rattle.shared_arena_hashmap.proofs.see_record.Goals as goal
use Rattle.shared_arena_hashmap.proofs.see_record.Goals.{After-fast_short_slice_compare, Else-not-is_good_record}

stands : (c : Else-not-is_good_record) → good_record c.args.arena c.args.keys.now c.args.at ≡ true
stands c = sym c.is_good_record.ensures ∙ c.if-not-is_good_record.false

compared : (c : After-fast_short_slice_compare) → (u : Bool) → c.fast_short_slice_compare.result ≡ u → seen_record
    c.args.keys.now c.args.arena c.args.at c.args.name.now ≡ cond u (Same c.args.at) Other
compared c u e =
    let a = c.args in
    let g : good_record a.arena a.keys.now a.at ≡ true = sym c.is_good_record.ensures ∙ c.if-not-is_good_record.false in
    seen-good a.keys.now a.arena a.at a.name.now c.key_length-n.result u g c.key_length-n.ensures.0
    (sym c.fast_short_slice_compare.ensures ∙ e)

pub returns-then-not-is_good_record : goal.returns-then-not-is_good_record
returns-then-not-is_good_record c =
    sym (seen-broken c.args.keys.now c.args.arena c.args.at c.args.name.now (sym c.is_good_record.ensures ∙
    c.if-not-is_good_record.true))

pub key_length-n-requires : goal.key_length-n-requires
key_length-n-requires c =
    let a = c.args in omega (
      arith,
      good-record-in a.arena a.keys.now a.at c.requires (stands
          (goal.at.key_length-n-requires c).Else-not-is_good_record),
    )

pub slice_bounds-key-end : goal.slice_bounds-key-end
slice_bounds-key-end c =
    let a = c.args in omega (
      arith,
      c.key_length-n.ensures.0,
      good-record-in a.arena a.keys.now a.at c.requires
          (stands (goal.at.slice_bounds-key-end c).Else-not-is_good_record),
    )

pub returns-then-fast_short_slice_compare : goal.returns-then-fast_short_slice_compare
returns-then-fast_short_slice_compare c =
    sym (compared (goal.at.returns-then-fast_short_slice_compare c).After-fast_short_slice_compare true
    c.if-fast_short_slice_compare.true)

pub returns : goal.returns
returns c =
    sym (compared (goal.at.returns c).After-fast_short_slice_compare false c.if-fast_short_slice_compare.false)
