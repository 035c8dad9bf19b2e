-- Case by case. Assumes nothing.
use mathlib.Core.Path.{sym, ap, ◌∙◌}
use Rattle.store_look.proofs.Found.{next-good, next_bad, next_none}
use Rattle.store_look.specs.Look.{on_next}
use Rattle.store_look.proofs.listing.on_next.Goals as goal

pub returns-then-is_good_record : goal.returns-then-is_good_record
returns-then-is_good_record c =
    sym (ap (λ n. on_next n c.args.arena c.args.keys.now) c.in-Some.is ∙ next-good c.args.arena c.args.keys.now
    _ (sym c.is_good_record.ensures ∙ c.if-is_good_record.true))

pub returns-else-is_good_record : goal.returns-else-is_good_record
returns-else-is_good_record c =
    sym (ap (λ n. on_next n c.args.arena c.args.keys.now) c.in-Some.is ∙ next_bad c.args.arena c.args.keys.now _ (sym c.is_good_record.ensures ∙ c.if-is_good_record.false))

pub returns-in-None : goal.returns-in-None
returns-in-None c =
    sym (ap (λ n. on_next n c.args.arena c.args.keys.now) c.in-None.is ∙ next_none c.args.arena c.args.keys.now)
