use Rattle.std.proofs.Common.{refl, sym}
use Rattle.dl_world_calls.proofs.Acts.{on_ok}
use Rattle.dl_core.proofs.LeftFiles.{leaves_alone}
use Rattle.dl_world.proofs.Failing.{stores_in, leaves_where}
use Rattle.dl_world.proofs.LoggedEvents.{log_does}
use Rattle.dl_core.proofs.TracedFiles.{traced_keeps}
use Rattle.dl_world.proofs.world.World.note_log.Goals as goal

pub returns-in_default-clause-leaves : goal.returns-in_default-clause-leaves
returns-in_default-clause-leaves g c = leaves_alone c.args.self.now.core c.args.self.now.core (g.F.Folder.told c.args.folder.now) refl

pub returns-in_err-make_room-clause-leaves : goal.returns-in_err-make_room-clause-leaves
returns-in_err-make_room-clause-leaves g c = leaves_alone c.args.self.now.core c.args.self.now.core (g.F.Folder.told c.args.folder.now) refl

pub returns-clause-does : goal.returns-clause-does
returns-clause-does g c =
    on_ok c.deliver.result _ _
    (log_does c.args.self.now c.deliver.new.self c.args.app c.in-Some.item.now c.log.new.self c.make_room.new.journal c.log.new.journal c.take.new.self
    (g.F.Folder.told c.args.folder.now) (g.F.Folder.told c.log.new.folder) c.requires.known
    (sym c.in-Some.ensures) (record { apid_long = c.has_sizes.ensures.apid; ctid_long = c.has_sizes.ensures.ctid; payload_within = c.has_sizes.ensures.payload })
    c.make_room.ensures.events c.log.ensures.notes.after c.log.ensures.notes.event c.take.ensures.call
    (stores_in _ c.args.self.now.core.trace c.log.new.self.trace (g.F.Folder.told c.args.folder.now) (g.F.Folder.told c.log.new.folder) c.log.ensures.notes.stores)
    (traced_keeps c.args.self.now.core.trace (g.F.Folder.told c.args.folder.now) (g.F.Folder.told c.log.new.folder) c.log.ensures.notes.others)
    c.deliver.ensures.trace)
    c.deliver.ensures.takes

pub returns-clause-leaves : goal.returns-clause-leaves
returns-clause-leaves g c =
    leaves_where c.args.self.now.core c.deliver.new.self.core c.log.new.self.trace
    (g.F.Folder.told c.args.folder.now) (g.F.Folder.told c.log.new.folder) c.log.ensures.notes.others
    (stores_in _ c.args.self.now.core.trace c.log.new.self.trace (g.F.Folder.told c.args.folder.now) (g.F.Folder.told c.log.new.folder) c.log.ensures.notes.stores)
    c.deliver.ensures.trace
