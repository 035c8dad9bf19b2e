-- The parts of the test, joined one by one. Assumes nothing.
use Rattle.std.proofs.Common.{◌≡◌, ◌&&◌, arith}
use Rattle.std.proofs.lemmas.Bool.Decides.{nat_tests}
use lib.Dec.{ltb}
use Rattle.limits.specs.Limits.{page_taken, arena_limit_for}
use Rattle.memory_arena.specs.Pages.{lendable}
use Rattle.store_state.specs.State.{words_taken}
use Rattle.store_create.specs.Create.{creatable}
use Rattle.store_create.proofs.is_creatable.Goals as goal
use Rattle.store_create.proofs.is_creatable.Goals.{Joined-is_lendable-2, then-is_page_size, else-is_page_size}
use Rattle.store_create.proofs.is_creatable.Goals.{then-capacity-gt0, else-capacity-gt0, then-is_lendable}
use Rattle.store_create.proofs.is_creatable.Goals.{else-is_lendable, then-is_lendable-2, else-is_lendable-2}

-- all but the last
tested : (c : Joined-is_lendable-2) → c.if-is_lendable-2.value
    ≡ (page_taken c.args.size && ltb 0 c.args.capacity && lendable (arena_limit_for c.args.size) c.args.key_bytes
    && lendable (arena_limit_for c.args.size) c.args.list_bytes && words_taken c.args.words)
tested c =
    let keys : c.if-capacity-gt0.value
    ≡ (page_taken c.args.size && ltb 0 c.args.capacity && lendable (arena_limit_for c.args.size) c.args.key_bytes) =
    elim c.if-is_page_size.branch [
      | then-is_page_size u ↦ elim c.if-capacity-gt0.branch [
        | then-capacity-gt0 v ↦ grind (arith, nat_tests)
        | else-capacity-gt0 v ↦ grind (arith, nat_tests)
      ]
      | else-is_page_size u ↦ elim c.if-capacity-gt0.branch [
        | then-capacity-gt0 v ↦ grind (arith, nat_tests)
        | else-capacity-gt0 v ↦ grind (arith, nat_tests)
      ]
    ] in
    let lists : c.if-is_lendable.value
    ≡ (page_taken c.args.size && ltb 0 c.args.capacity && lendable (arena_limit_for c.args.size) c.args.key_bytes
    && lendable (arena_limit_for c.args.size) c.args.list_bytes) =
    elim c.if-is_lendable.branch [
      | then-is_lendable u ↦ grind (arith, nat_tests)
      | else-is_lendable u ↦ grind (arith, nat_tests)
    ] in
    elim c.if-is_lendable-2.branch [
      | then-is_lendable-2 u ↦ grind (arith, nat_tests)
      | else-is_lendable-2 u ↦ grind (arith, nat_tests)
    ]

pub returns-then-is_taken : goal.returns-then-is_taken
unfolding creatable
returns-then-is_taken c =
    let e = tested (goal.at.returns-then-is_taken c).Joined-is_lendable-2 in grind (arith, nat_tests)

pub returns-else-is_taken : goal.returns-else-is_taken
unfolding creatable
returns-else-is_taken c =
    let e = tested (goal.at.returns-else-is_taken c).Joined-is_lendable-2 in grind (arith, nat_tests)
