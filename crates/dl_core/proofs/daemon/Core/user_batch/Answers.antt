use Rattle.std.proofs.Common.{◌+◌, ℕ, Option, map, refl, sym, ap, subst, ◌∙◌}
use Rattle.dl_model.specs.Frames.{stored}
use Rattle.dl_trace.specs.State.{Trace}
use Rattle.dl_core.specs.Admission.{message_frames}
use Rattle.dl_core.specs.Noting.{NotesMessages}
use Rattle.dl_core.specs.State.{Core}
use Rattle.dl_trace.specs.Written.{ChangesTraceAlone, StoresIn}
use Rattle.dl_trace.specs.Writer.{trace_in}
use Rattle.dl_core.proofs.Parts.{core_of}
use Rattle.dl_core.proofs.Journals.{IsSameCore}
use Rattle.dl_core.proofs.GatheredMessages.{one_each}
use Rattle.dl_core.proofs.BatchedMessages.{messages_follow}
use Rattle.dl_core.proofs.daemon.Core.user_batch.Goals as goal

pub returns-clause-notes : goal.returns-clause-notes
returns-clause-notes g c =
    let i = c.self.inside in
    let msgs = c.args.msgs.now.items in
    let frames = map (stored i.ecu c.args.moment) (message_frames i.ecu msgs) in
    let old = core_of i.ecu i.level i.injection i.software i.registry i.hub i.trace in
    let new = core_of i.ecu i.level i.injection i.software i.registry c.admit_messages.new.hub c.store_batch.new.writer in
    let told = g.F.Folder.told c.args.folder.now in
    let now = g.F.Folder.told c.store_batch.new.folder in
    let past = g.J.Journal.events c.args.journal.now in
    let present = g.J.Journal.events c.admit_messages.new.journal in
    let same : IsSameCore old new = record { ecu = refl; level = refl; injection = refl; software = refl; hub = c.admit_messages.ensures.same } in
    let kept = c.admit_messages.ensures.trace ∙ c.begin_batch.ensures.trace in
    let stores = subst (λ (o : Option Trace). StoresIn frames o (trace_in c.store_batch.new.writer) told now) kept (c.store_batch.ensures.stored frames c.admit_messages.ensures.batch) in
    subst (λ (k : Core). NotesMessages c.args.moment c.args.channel msgs k new told now past present) c.self.view_is (record {
      after = messages_follow c.args.moment c.args.channel msgs old new told now c.requires.logs same refl c.admit_messages.ensures.adds stores;
      event = c.admit_messages.ensures.events;
      stores = stores;
      others = subst (λ (o : Option Trace). ChangesTraceAlone o told now) kept c.store_batch.ensures.others;
      admitted = c.admit_messages.ensures.admitted ∙ ap (λ (n : ℕ). i.hub.admitted + n) (sym (one_each i.ecu msgs c.requires.logs));
      still_open = c.admit_messages.ensures.open;
      replies = c.admit_messages.ensures.replies;
      same = c.admit_messages.ensures.same;
    })
