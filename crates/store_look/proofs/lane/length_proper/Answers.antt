-- The lookup's steps give the lookup's answer, and that the length. Assumes nothing.
use mathlib.Core.Path.{◌≡◌, sym, ap, ◌∙◌}
use native.Mathlib.Omega.{arith}
use lib.ListN.{length}
use Rattle.shared_arena_hashmap.specs.declared.Walk.{Walk}
use Rattle.store_state.proofs.Whole.{Whole, whole_facts, find_asks}
use Rattle.store_look.proofs.Walked.{walk-found}
use Rattle.store_look.proofs.Found.{lookup-met, lookup-held, length_not, length-at}
use Rattle.store_look.specs.Look.{lent, lookup_of}
use borrow.Enum.Refused.{opened}
use Rattle.store_look.proofs.lane.length_proper.Goals as goal
use Rattle.store_look.proofs.lane.length_proper.Goals.{After-on_met-found, Start}

whole : (s : Start) → Whole s.args.st (length s.args.table.now) (length s.args.keys.now) (length s.args.lists.now)
whole s = whole_facts _ _ _ _ s.requires.0

found_is : (c : After-on_met-found) → c.on_met-found.result ≡ lookup_of c.args.st (lent c.args.table.now
    c.args.keys.now c.args.lists.now) c.args.name.now
found_is c =
    let w = walk-found c.args.st (lent c.args.table.now c.args.keys.now c.args.lists.now) c.args.name.now _ _ _
    c.find-w.ensures c.first_bucket-first.ensures c.murmurhash2-hash.ensures in c.on_met-found.ensures ∙ sym
    (lookup-met c.args.st (lent c.args.table.now c.args.keys.now c.args.lists.now) c.args.name.now _ c.requires.0
    c.requires.1 (sym (ap (λ (w : Walk). w.met) w)))

pub first_bucket-first-requires : goal.first_bucket-first-requires
first_bucket-first-requires c = omega (arith, whole (goal.at.first_bucket-first-requires c).Start)

pub find-w-requires : goal.find-w-requires
find-w-requires c = find_asks _ _ _ _ (whole (goal.at.find-w-requires c).Start) _ c.first_bucket-first.ensures

pub returns-in_default : goal.returns-in_default
returns-in_default c =
    c.not_found.ensures ∙ length_not c.args.st (lent c.args.table.now c.args.keys.now c.args.lists.now)
    c.args.name.now _ (found_is (goal.at.returns-in_default c).After-on_met-found) (opened
    c.in_default.in_default-own.keys2)

pub length_at-requires : goal.length_at-requires
length_at-requires c =
    let h = lookup-held c.args.st (lent c.args.table.now c.args.keys.now c.args.lists.now) c.args.name.now _ (sym
    (found_is (goal.at.length_at-requires c).After-on_met-found) ∙ c.in-At.is) in (h.length-in, h.value_in)

pub returns : goal.returns
returns c =
    c.length_at.ensures ∙ length-at c.args.st (lent c.args.table.now c.args.keys.now c.args.lists.now)
    c.args.name.now _ (sym (found_is (goal.at.returns c).After-on_met-found) ∙ c.in-At.is)
