-- `shared_arena_hashmap::find` meets its contract. A turn ends the lookup, or leaves the rest of the walk. Assumes
-- nothing.
use Prim.Native.Nat.{◌+◌, ◌-◌}
use mathlib.Core.Path.{◌≡◌, sym, ◌∙◌}
use native.Mathlib.Nat.{sub-zero}
use native.Mathlib.Omega.{arith}
use Rattle.shared_arena_hashmap.specs.Probe.{on_seen, next_bucket, probe, lookup}
use Rattle.shared_arena_hashmap.specs.declared.Seen.{Seen}
use Rattle.shared_arena_hashmap.proofs.Laws.{probe-turn, probe-end}
use Rattle.shared_arena_hashmap.proofs.find.Goals as goal
use Rattle.shared_arena_hashmap.proofs.find.Goals.{After-see}

-- the whole lookup, by what `see` showed
turned : (c : After-see) → (s : Seen) → c.see.result ≡ s → lookup c.args.table.now c.args.keys.now
    c.args.arena c.args.first c.args.l c.args.hash c.args.name.now ≡ on_seen s (c.loop-before.before + 1) (let a =
    c.args in probe a.table.now a.keys.now a.arena a.first a.l a.hash a.name.now (a.l - (c.loop-before.before + 1))
    (next_bucket a.l c.loop-before.i) (c.loop-before.before + 1))
turned c s e =
    let a = c.args in c.loop-before.invariant.1 ∙ probe-turn a.table.now a.keys.now a.arena a.first a.l a.hash
    a.name.now a.l c.loop-before.i c.loop-before.before c.see.result s (omega arith) c.see.ensures e

pub loop-before-init : goal.loop-before-init
unfolding lookup
loop-before-init c = (c.start_bucket-i.ensures.1, rw (sub-zero, ← c.start_bucket-i.ensures.0))

pub returns-in-Nothing : goal.returns-in-Nothing
returns-in-Nothing c = sym (turned (goal.at.returns-in-Nothing c).After-see _ c.in-Nothing.is)

pub returns-in-Same : goal.returns-in-Same
returns-in-Same c = sym (turned (goal.at.returns-in-Same c).After-see _ c.in-Same.is)

pub returns-in-Broken : goal.returns-in-Broken
returns-in-Broken c = sym (turned (goal.at.returns-in-Broken c).After-see _ c.in-Broken.is)

pub loop-before-preserved : goal.loop-before-preserved
loop-before-preserved c = (
  c.next_bucket-i.ensures.1,
  rw c.next_bucket-i.ensures.0 (turned (goal.at.loop-before-preserved c).After-see _ c.in-Other.is),
)

pub returns : goal.returns
returns c =
    sym (c.loop-before.invariant.1 ∙ probe-end c.args.table.now c.args.keys.now c.args.arena c.args.first c.args.l
    c.args.hash c.args.name.now c.args.l c.loop-before.i c.loop-before.before (omega arith))
