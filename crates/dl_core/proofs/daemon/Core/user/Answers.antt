use Rattle.std.proofs.Common.{Option, List, refl, subst}
use Rattle.dl_events.specs.Journal as notes
use Rattle.dl_events.specs.declared.event.Event.{Event}
use Rattle.dl_events.specs.declared.event.Event.TheVariants.{User}
use Rattle.dl_core.proofs.Messaged.{same_core, user_follows}
use Rattle.dl_core.proofs.Noted.{added_one}
use Rattle.dl_core.proofs.daemon.Core.user.Goals as goal

pub returns-clause-notes : goal.returns-clause-notes
returns-clause-notes g c =
    let told = g.F.Folder.told c.args.folder.now in
    let now = g.F.Folder.told c.take_in.new.folder in
    let past = g.J.Journal.events c.args.journal.now in
    let present = g.J.Journal.events c.note.new.self in
    let event = User c.args.channel c.args.msg c.args.moment in
    let takes = c.take_in.ensures.admits in
    let same = same_core c.args.self.now c.take_in.new.self c.take_in.ensures.rest takes.same in
    record {
      after = user_follows c.args.channel c.args.msg c.args.moment c.args.self.now c.take_in.new.self told now same c.in_ok-refusal.ensures.registry takes.adds takes.stores;
      event = added_one past present event event refl (subst (λ (o : Option (List Event)). notes.Adds o present event) c.take_in.ensures.unwritten.0 c.note.ensures.events);
      stores = takes.stores;
      others = takes.others;
      admitted = takes.admitted;
      still_open = takes.still_open;
      replies = takes.replies;
      same = takes.same;
    }
