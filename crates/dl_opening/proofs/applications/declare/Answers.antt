use Rattle.std.proofs.Common.{refl, ◌+◌, take}
use Rattle.std.specs.Option.{option_to_list}
use Rattle.dl_opening.specs.Scenario.{context_in, contexts_of}
use Rattle.dl_opening.proofs.Declared.{declared_more}
use Rattle.dl_opening.proofs.Taken.{filter_map_taken}
use Rattle.dl_opening.proofs.applications.declare.Goals as goal

pub loop-line-preserved : goal.loop-line-preserved
loop-line-preserved c =
    let l = c.loop-line in
    let line = c.line-item.result in
    let apid = c.args.apid in
    let all = declared_more apid c.args.app.now c.args.contexts.now.items (contexts_of apid (take l.line-index c.args.lines.now)) (option_to_list (context_in apid line))
    (contexts_of apid (take (l.line-index + 1) c.args.lines.now)) l.app c.declare_in.new.app l.contexts.items c.declare_in.new.contexts.items c.requires.some
    (filter_map_taken c.args.lines.now l.line-index line c.loop-line-test.true c.line-item.is (context_in apid) (context_in apid line) refl)
    (record { handles_so = l.invariant.handles; hello_so = l.invariant.hello }) (record { handles_so = c.in_ok-declare_in.ensures.handles; hello_so = c.in_ok-declare_in.ensures.hello }) in
    record { handles = all.handles_so; hello = all.hello_so }
