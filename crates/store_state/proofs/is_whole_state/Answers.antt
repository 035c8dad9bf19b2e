-- The six parts of the check, joined one by one. Assumes nothing.
use Rattle.std.proofs.Common.{◌≡◌, ◌&&◌, arith}
use Rattle.std.proofs.lemmas.Bool.Decides.{nat_tests}
use Rattle.memory_arena.specs.Calls.{sensible}
use Rattle.store_state.specs.State.{words_taken, lengths_equal, table_fits, sizes_equal, whole_state}
use Rattle.store_state.proofs.is_whole_state.Goals as goal
use Rattle.store_state.proofs.is_whole_state.Goals.{Joined-st, then-are_lengths_equal, else-are_lengths_equal}
use Rattle.store_state.proofs.is_whole_state.Goals.{then-is_taken, else-is_taken, then-does_table_fit, else-does_table_fit}
use Rattle.store_state.proofs.is_whole_state.Goals.{then-st, else-st}

-- all but the last
tested : (c : Joined-st) → c.if-st.value
    ≡ (lengths_equal c.args.st c.args.words c.args.key_bytes c.args.list_bytes && words_taken c.args.words
    && table_fits c.args.st c.args.words && sizes_equal c.args.st && sensible c.args.st.key_arena c.args.key_bytes)
tested c =
    let equal = lengths_equal c.args.st c.args.words c.args.key_bytes c.args.list_bytes in
    let words : c.if-are_lengths_equal.value ≡ (equal && words_taken c.args.words) =
    elim c.if-are_lengths_equal.branch [
      | then-are_lengths_equal u ↦ grind arith
      | else-are_lengths_equal u ↦ grind arith
    ] in
    let table : c.if-is_taken.value ≡ (equal && words_taken c.args.words && table_fits c.args.st c.args.words) =
    elim c.if-is_taken.branch [ then-is_taken u ↦ grind arith | else-is_taken u ↦ grind arith ] in
    let sizes : c.if-does_table_fit.value
    ≡ (equal && words_taken c.args.words && table_fits c.args.st c.args.words && sizes_equal c.args.st) =
    elim c.if-does_table_fit.branch [
      | then-does_table_fit u ↦ grind (arith, nat_tests)
      | else-does_table_fit u ↦ grind (arith, nat_tests)
    ] in
    elim c.if-st.branch [ then-st u ↦ grind arith | else-st u ↦ grind arith ]

pub returns-then-is_sensible : goal.returns-then-is_sensible
unfolding whole_state
returns-then-is_sensible c =
    let e = tested (goal.at.returns-then-is_sensible c).Joined-st in grind arith

pub returns-else-is_sensible : goal.returns-else-is_sensible
unfolding whole_state
returns-else-is_sensible c =
    let e = tested (goal.at.returns-else-is_sensible c).Joined-st in grind arith
