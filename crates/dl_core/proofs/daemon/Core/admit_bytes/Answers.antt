use Rattle.std.proofs.Common.{[], ◌∷◌, subst}
use Rattle.dl_model.specs.Frames.{stored}
use Rattle.dl_core.specs.Noting.{AdmitsFrames}
use Rattle.dl_core.specs.State.{Core}
use Rattle.dl_trace.specs.Writer.{trace_in}
use Rattle.dl_core.proofs.Admitted.{each-alone}
use Rattle.dl_core.proofs.Parts.{core_of}
use Rattle.dl_core.proofs.daemon.Core.admit_bytes.Goals as goal

pub returns-clause-admits : goal.returns-clause-admits
returns-clause-admits g c =
    let i = c.self.inside in
    let new = core_of i.ecu i.level i.injection i.software i.registry c.admit.new.hub c.admit.new.writer in
    let told = g.F.Folder.told c.args.folder.now in
    let now = g.F.Folder.told c.admit.new.folder in
    subst (λ (k : Core). AdmitsFrames c.args.moment (c.args.message.now ∷ []) k new told now) c.self.view_is
    (record {
      adds = c.admit.ensures.adds;
      same = c.admit.ensures.same;
      still_open = c.admit.ensures.open;
      replies = c.admit.ensures.replies;
      admitted = c.admit.ensures.admitted;
      stores = each-alone (stored i.ecu c.args.moment c.args.message.now) (trace_in i.trace) (trace_in c.admit.new.writer) told now c.admit.ensures.stored;
      others = c.admit.ensures.others;
    })
