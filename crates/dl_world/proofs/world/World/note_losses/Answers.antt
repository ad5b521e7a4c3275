use Rattle.std.proofs.Common.{refl}
use Rattle.dl_world_calls.proofs.Acts.{on_ok}
use Rattle.dl_core.proofs.LeftFiles.{leaves_alone}
use Rattle.dl_world.proofs.Failing.{stores_each, leaves_where}
use Rattle.dl_world.proofs.LoggedEvents.{losses_does}
use Rattle.dl_core.proofs.TracedFiles.{traced_keeps}
use Rattle.dl_world.proofs.world.World.note_losses.Goals as goal

pub returns-in_err-make_room-clause-leaves : goal.returns-in_err-make_room-clause-leaves
returns-in_err-make_room-clause-leaves g c = leaves_alone c.args.self.now.core c.args.self.now.core (g.F.Folder.told c.args.folder.now) refl

pub returns-clause-does : goal.returns-clause-does
returns-clause-does g c =
    on_ok c.deliver.result _ _
    (losses_does c.args.self.now c.deliver.new.self c.args.app c.args.count c.apid-apid.result c.lost.new.self c.make_room.new.journal c.lost.new.journal c.tell_losses.new.self
    (g.F.Folder.told c.args.folder.now) (g.F.Folder.told c.lost.new.folder) c.requires.known
    c.apid-apid.ensures c.bytes-bytes.ensures.len c.make_room.ensures.events c.lost.ensures.notes.after c.lost.ensures.notes.event c.tell_losses.ensures
    (stores_each _ c.args.self.now.core.trace c.lost.new.self.trace (g.F.Folder.told c.args.folder.now) (g.F.Folder.told c.lost.new.folder) c.lost.ensures.notes.stores)
    (traced_keeps c.args.self.now.core.trace (g.F.Folder.told c.args.folder.now) (g.F.Folder.told c.lost.new.folder) c.lost.ensures.notes.others)
    c.deliver.ensures.trace)
    c.deliver.ensures.takes

pub returns-clause-leaves : goal.returns-clause-leaves
returns-clause-leaves g c =
    leaves_where c.args.self.now.core c.deliver.new.self.core c.lost.new.self.trace
    (g.F.Folder.told c.args.folder.now) (g.F.Folder.told c.lost.new.folder) c.lost.ensures.notes.others
    (stores_each _ c.args.self.now.core.trace c.lost.new.self.trace (g.F.Folder.told c.args.folder.now) (g.F.Folder.told c.lost.new.folder) c.lost.ensures.notes.stores)
    c.deliver.ensures.trace
