use Rattle.std.proofs.Common.{◌≡◌, refl, ◌∙◌, arith}
use Rattle.dl_trace.specs.Writer.{trace_in}
use Rattle.dl_core.proofs.Admitted.{few_left, reports_none, reports_one, reports_all, room_for_next}
use Rattle.dl_core.proofs.admitting.report.Goals as goal

pub loop-left-init : goal.loop-left-init
loop-left-init g c =
    reports_none c.args.ecu c.args.apid c.args.count c.args.moment c.args.hub.now (trace_in c.args.writer.now) (g.F.Folder.told c.args.folder.now) c.requires.room

pub admit-requires-clause-room : goal.admit-requires-clause-room
admit-requires-clause-room g c =
    room_for_next c.args.ecu c.args.apid c.loop-left.left c.min-counter.result c.bytes.result.now c.loop-left.hub c.loop-left-test.true c.min-counter.ensures
    (c.bytes.ensures.value ∙ c.overflow_frame-frame.ensures ∙ rw c.from_bytes.ensures refl) c.loop-left.invariant.room

pub admit-requires-clause-few : goal.admit-requires-clause-few
admit-requires-clause-few g c =
    few_left c.args.ecu c.args.apid c.args.count c.args.moment c.loop-left.left c.min-counter.result c.bytes.result.now c.args.hub.now c.loop-left.hub
    (trace_in c.args.writer.now) (trace_in c.loop-left.writer) (g.F.Folder.told c.args.folder.now) (g.F.Folder.told c.loop-left.folder)
    c.loop-left-test.true c.min-counter.ensures (c.bytes.ensures.value ∙ c.overflow_frame-frame.ensures ∙ rw c.from_bytes.ensures refl) c.loop-left.invariant c.requires.few

pub loop-left-preserved : goal.loop-left-preserved
loop-left-preserved g c =
    reports_one c.args.ecu c.args.apid c.args.count c.args.moment c.loop-left.left c.min-counter.result c.bytes.result.now c.args.hub.now c.loop-left.hub c.admit.new.hub
    (trace_in c.args.writer.now) (trace_in c.loop-left.writer) (trace_in c.admit.new.writer)
    (g.F.Folder.told c.args.folder.now) (g.F.Folder.told c.loop-left.folder) (g.F.Folder.told c.admit.new.folder)
    c.loop-left-test.true c.min-counter.ensures (c.bytes.ensures.value ∙ c.overflow_frame-frame.ensures ∙ rw c.from_bytes.ensures refl)
    c.loop-left.invariant c.admit.ensures.adds c.admit.ensures.rooms c.admit.ensures.same c.admit.ensures.open c.admit.ensures.replies c.admit.ensures.admitted c.admit.ensures.stored c.admit.ensures.others

pub returns : goal.returns
returns g c =
    let none : c.loop-left.left ≡ 0 = omega arith in
    reports_all c.args.ecu c.args.apid c.args.count c.args.moment c.loop-left.left c.args.hub.now c.loop-left.hub (trace_in c.args.writer.now) (trace_in c.loop-left.writer)
    (g.F.Folder.told c.args.folder.now) (g.F.Folder.told c.loop-left.folder) c.loop-left.invariant none
