use Rattle.std.proofs.Common.{refl, subst}
use Rattle.dl_core.specs.Noting.{NotesLost}
use Rattle.dl_core.specs.State.{Core}
use Rattle.dl_core.proofs.Parts.{core_of}
use Rattle.dl_core.proofs.Journals.{IsSameCore}
use Rattle.dl_core.proofs.Noted.{added_one, lost_follows}
use Rattle.dl_core.proofs.daemon.Core.lost.Goals as goal

pub returns-clause-notes : goal.returns-clause-notes
returns-clause-notes g c =
    let i = c.self.inside in
    let old = core_of i.ecu i.level i.injection i.software i.registry i.hub i.trace in
    let new = core_of i.ecu i.level i.injection i.software i.registry c.report.new.hub c.report.new.writer in
    let told = g.F.Folder.told c.args.folder.now in
    let now = g.F.Folder.told c.report.new.folder in
    let past = g.J.Journal.events c.args.journal.now in
    let present = g.J.Journal.events c.note.new.self in
    let takes = c.report.ensures in
    let same : IsSameCore old new = record { ecu = refl; level = refl; injection = refl; software = refl; hub = takes.same } in
    subst (λ (k : Core). NotesLost c.args.moment c.args.app c.args.apid c.args.count k new told now past present) c.self.view_is (record {
      after = lost_follows c.args.app c.args.apid c.args.count c.args.moment old new told now same refl takes.adds takes.stores;
      event = added_one past present _ _ refl c.note.ensures.events;
      stores = takes.stores;
      others = takes.others;
      admitted = takes.admitted;
      still_open = takes.still_open;
      replies = takes.replies;
      same = takes.same;
    })
