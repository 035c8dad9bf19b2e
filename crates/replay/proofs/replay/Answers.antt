use Rattle.std.proofs.Common.{◌≡◌, sym, subst, rules}
use Rattle.std.specs.Prelude.{Err}
use Rattle.replay.proofs.Laws.{replay_barred, replay_made}
use Rattle.replay.specs.Script.{out, replay_of, Replayed}
use Rattle.store_look.specs.Look.{Lent, lent}
use Rattle.store_create.specs.Create.{Created}
use Rattle.replay.proofs.replay.Goals as goal

pub returns-in_err-st : goal.returns-in_err-st
returns-in_err-st c =
    let m : Lent = lent c.args.table.now c.args.keys.now c.args.lists.now in
    let left : Lent = lent c.create.new.table c.args.keys.now c.args.lists.now in
    let same : ◌≡◌ {A = Created} c.from_residual.result (Err c.in_err-st.field-0.0) = search rules in
    let it = subst (λ (r : Created). (out r left ≡ replay_of c.args.capacity c.args.seed c.args.size m
    c.args.script.now) × Replayed c.args.capacity c.args.seed c.args.size m c.args.script.now r left) (sym same)
    (replay_barred c.args.capacity c.args.seed c.args.size m c.args.script.now c.in_err-st.field-0.0
    c.create.new.table c.in_err-st.ensures.settled) in record { settled = it.0; replayed = it.1 }

pub returns : goal.returns
returns c =
    let m : Lent = lent c.args.table.now c.args.keys.now c.args.lists.now in
    let it = replay_made c.args.capacity c.args.seed c.args.size m c.args.script.now c.in_ok-st.st
    c.create.new.table c.play_script.result (lent c.play_script.new.table c.play_script.new.keys
    c.play_script.new.lists) c.in_ok-st.ensures.settled c.play_script.ensures in record { settled = it.0; replayed = it.1 }
