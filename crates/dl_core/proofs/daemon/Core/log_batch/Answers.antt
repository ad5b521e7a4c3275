use Rattle.std.proofs.Common.{Option, map, refl, subst, ◌∙◌}
use Rattle.dl_trace.specs.State.{Trace}
use Rattle.dl_core.specs.Noting.{NotesLogs}
use Rattle.dl_core.specs.State.{Core}
use Rattle.dl_trace.specs.Written.{ChangesTraceAlone, StoresIn}
use Rattle.dl_trace.specs.Writer.{trace_in}
use Rattle.dl_core.proofs.Parts.{core_of}
use Rattle.dl_core.proofs.Journals.{IsSameCore}
use Rattle.dl_core.proofs.Gathered.{stored_call}
use Rattle.dl_core.proofs.Noted.{batch_follows}
use Rattle.dl_core.proofs.daemon.Core.log_batch.Goals as goal

pub returns-clause-notes : goal.returns-clause-notes
returns-clause-notes g c =
    let i = c.self.inside in
    let items = c.args.items.now in
    let old = core_of i.ecu i.level i.injection i.software i.registry i.hub i.trace in
    let new = core_of i.ecu i.level i.injection i.software i.registry c.admit_each.new.hub c.store_batch.new.writer in
    let told = g.F.Folder.told c.args.folder.now in
    let now = g.F.Folder.told c.store_batch.new.folder in
    let past = g.J.Journal.events c.args.journal.now in
    let present = g.J.Journal.events c.admit_each.new.journal in
    let same : IsSameCore old new = record { ecu = refl; level = refl; injection = refl; software = refl; hub = c.admit_each.ensures.same } in
    let kept = c.admit_each.ensures.trace ∙ c.begin_batch.ensures.trace in
    let stores = subst (λ (o : Option Trace). StoresIn (map (stored_call i.ecu c.args.moment) items) o (trace_in c.store_batch.new.writer) told now)
    kept (c.store_batch.ensures.stored (map (stored_call i.ecu c.args.moment) items) c.admit_each.ensures.batch) in
    subst (λ (k : Core). NotesLogs c.args.moment items k new told now past present) c.self.view_is (record {
      after = batch_follows items c.args.moment old new told now same refl c.admit_each.ensures.adds stores;
      event = c.admit_each.ensures.events;
      stores = stores;
      others = subst (λ (o : Option Trace). ChangesTraceAlone o told now) kept c.store_batch.ensures.others;
      admitted = c.admit_each.ensures.admitted;
      still_open = c.admit_each.ensures.open;
      replies = c.admit_each.ensures.replies;
      same = c.admit_each.ensures.same;
    })
