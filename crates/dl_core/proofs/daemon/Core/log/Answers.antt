use Rattle.std.proofs.Common.{◌∷◌, ◌∙◌, [], List, ℕ, refl, subst}
use Rattle.dl_model.specs.Frames.{stored}
use Rattle.dl_model.specs.Traffic.{Admitted}
use Rattle.dl_hub.specs.Follows as hub
use Rattle.dl_core.specs.Noting.{NotesLog}
use Rattle.dl_core.specs.State.{Core}
use Rattle.dl_trace.specs.Written.{StoresIn}
use Rattle.dl_trace.specs.Writer.{trace_in}
use Rattle.dl_core.proofs.Parts.{core_of}
use Rattle.dl_core.proofs.Journals.{IsSameCore}
use Rattle.dl_core.proofs.Noted.{added_one, log_follows}
use Rattle.dl_core.proofs.daemon.Core.log.Goals as goal

pub returns-clause-notes : goal.returns-clause-notes
returns-clause-notes g c =
    let i = c.self.inside in
    let old = core_of i.ecu i.level i.injection i.software i.registry i.hub i.trace in
    let new = core_of i.ecu i.level i.injection i.software i.registry c.admit.new.hub c.admit.new.writer in
    let told = g.F.Folder.told c.args.folder.now in
    let now = g.F.Folder.told c.admit.new.folder in
    let past = g.J.Journal.events c.args.journal.now in
    let present = g.J.Journal.events c.note.new.self in
    let same : IsSameCore old new = record { ecu = refl; level = refl; injection = refl; software = refl; hub = c.admit.ensures.same } in
    let stores = subst (λ (f : List ℕ). StoresIn (stored i.ecu c.args.moment f ∷ []) (trace_in i.trace) (trace_in c.admit.new.writer) told now) (c.bytes.ensures.value ∙ c.write_log_frame.ensures) c.admit.ensures.stored in
    subst (λ (k : Core). NotesLog c.args.moment c.args.item.now k new told now past present) c.self.view_is (record {
      after = log_follows c.args.item.now c.args.moment old new told now same refl
          (subst (λ (f : List ℕ). hub.Adds (Admitted f) i.hub c.admit.new.hub) (c.bytes.ensures.value ∙ c.write_log_frame.ensures) c.admit.ensures.adds) stores;
      event = added_one past present _ _ c.logged.ensures c.note.ensures.events;
      stores = stores;
      others = c.admit.ensures.others;
      admitted = c.admit.ensures.admitted;
      still_open = c.admit.ensures.open;
      replies = c.admit.ensures.replies;
      same = c.admit.ensures.same;
    })
