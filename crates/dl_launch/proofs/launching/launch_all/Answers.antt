use Rattle.std.proofs.Common.{◌+◌, subst, sym, take, arith}
use Rattle.std.specs.Prelude.{Err}
use Rattle.dl_outside.specs.Net.{HasCause}
use Rattle.dl_outside.specs.declared.net.NetFault.{NetFault}
use Rattle.dl_launch.specs.Launching.{Launched}
use Rattle.dl_launch.proofs.Started.{few, goes_on, passes_over, stops}
use Rattle.dl_launch.proofs.launching.launch_all.Goals as goal
use Rattle.dl_launch.proofs.launching.launch_all.Goals.{in-Ok, in-Err-Failed}

pub overflow_add-started : goal.overflow_add-started
overflow_add-started g c =
    let l = c.loop-script in
    let most = few c.args.scripts.now l.script-index c.script-item.result c.loop-script-test.true c.script-item.is (g.N.Net.told c.args.net.now) (g.N.Net.told l.net) l.started l.invariant in
    omega (arith, most, c.requires)

pub returns-in-Err-OutOfMemory-clause-front : goal.returns-in-Err-OutOfMemory-clause-front
returns-in-Err-OutOfMemory-clause-front g c =
    let l = c.loop-script in
    let old = g.N.Net.told c.args.net.now in
    let mid = g.N.Net.told l.net in
    let new = g.N.Net.told c.launch.new.self in
    let told = c.in-Err-OutOfMemory.ensures in
    stops c.args.scripts.now l.script-index c.script-item.result c.loop-script-test.true c.script-item.is old mid new l.started l.invariant told.launched told.waiting told.port
    (subst (λ (f : NetFault). HasCause {T = Unit {0}} mid.faults new.faults (Err f)) c.in-Err-OutOfMemory.field-0-is told.cause)

pub loop-script-preserved : goal.loop-script-preserved
loop-script-preserved g c =
    let l = c.loop-script in
    let all = c.args.scripts.now in
    let old = g.N.Net.told c.args.net.now in
    let mid = g.N.Net.told l.net in
    let new = g.N.Net.told c.launch.new.self in
    elim c.match-launch.branch [
      | in-Ok w ↦
          goes_on all l.script-index c.script-item.result c.loop-script-test.true c.script-item.is old mid new l.started c.match-launch.started w.started-is l.invariant
          w.in-Ok.ensures.launched w.in-Ok.ensures.waiting w.in-Ok.ensures.port w.in-Ok.ensures.cause
      | in-Err-Failed w ↦
          subst (Launched (take (l.script-index + 1) all) old new) (sym w.started-is)
          (passes_over all l.script-index c.script-item.result c.loop-script-test.true c.script-item.is old mid new l.started l.invariant
          w.in-Err-Failed.ensures.launched w.in-Err-Failed.ensures.waiting w.in-Err-Failed.ensures.port
          (subst (λ (f : NetFault). HasCause {T = Unit {0}} mid.faults new.faults (Err f)) w.in-Err-Failed.field-0-is w.in-Err-Failed.ensures.cause))
    ]
