use Rattle.std.proofs.Common.{◌≡◌, refl, sym, ap, subst}
use Rattle.dl_world_calls.proofs.Acts.{on_ok}
use Rattle.dl_core.specs.State.{Core}
use Rattle.dl_outside.specs.Told.{FolderTold}
use Rattle.dl_core.specs.Files.{Leaves}
use Rattle.dl_core.proofs.LeftFiles.{leaves_alone}
use Rattle.dl_world.proofs.Failing.{stores_each, leaves_where}
use Rattle.dl_world.proofs.ToldEvents.{message_does}
use Rattle.dl_core.proofs.TracedFiles.{traced_keeps}
use Rattle.dl_world.proofs.world.World.note_message.Goals as goal

pub returns-in_err-make_room-clause-leaves : goal.returns-in_err-make_room-clause-leaves
returns-in_err-make_room-clause-leaves g c = leaves_alone c.args.self.now.core c.args.self.now.core (g.F.Folder.told c.args.folder.now) refl

pub returns-in_err-_refused-clause-leaves : goal.returns-in_err-_refused-clause-leaves
returns-in_err-_refused-clause-leaves g c =
    let unnoted = c.in_err-_refused.ensures.unnoted in
    let told = (g.F.Folder.told c.args.folder.now) in
    let same : (g.F.Folder.told c.user.new.folder) ≡ told = ap (λ folder. (g.F.Folder.told folder)) unnoted.1 in
    subst (λ (t : FolderTold). Leaves c.args.self.now.core c.user.new.self told t) (sym same) (leaves_alone c.args.self.now.core c.user.new.self told (ap (λ (k : Core). k.trace) unnoted.0))

pub returns-clause-does : goal.returns-clause-does
returns-clause-does g c =
    on_ok c.deliver.result _ _
    (message_does c.args.self.now c.deliver.new.self c.args.channel c.args.msg c.user.new.self c.make_room.new.journal c.user.new.journal
    (g.F.Folder.told c.args.folder.now) (g.F.Folder.told c.user.new.folder) c.requires.fit
    c.make_room.ensures.events c.in_ok-_refused.ensures.notes.after c.in_ok-_refused.ensures.notes.event
    (stores_each _ c.args.self.now.core.trace c.user.new.self.trace (g.F.Folder.told c.args.folder.now) (g.F.Folder.told c.user.new.folder) c.in_ok-_refused.ensures.notes.stores)
    (traced_keeps c.args.self.now.core.trace (g.F.Folder.told c.args.folder.now) (g.F.Folder.told c.user.new.folder) c.in_ok-_refused.ensures.notes.others)
    c.deliver.ensures.trace)
    c.deliver.ensures.takes

pub returns-clause-leaves : goal.returns-clause-leaves
returns-clause-leaves g c =
    leaves_where c.args.self.now.core c.deliver.new.self.core c.user.new.self.trace
    (g.F.Folder.told c.args.folder.now) (g.F.Folder.told c.user.new.folder) c.in_ok-_refused.ensures.notes.others
    (stores_each _ c.args.self.now.core.trace c.user.new.self.trace (g.F.Folder.told c.args.folder.now) (g.F.Folder.told c.user.new.folder) c.in_ok-_refused.ensures.notes.stores)
    c.deliver.ensures.trace
