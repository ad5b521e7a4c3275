use Rattle.std.proofs.Common.{refl}
use Rattle.std.proofs.lemmas.Result.{on_ok_weaker}
use Rattle.dl_core.proofs.LeftFiles.{leaves_alone}
use Rattle.dl_world.proofs.Telling.{does_hear}
use Rattle.dl_world.proofs.world.World.hear.Goals as goal

pub returns-in_err-messages-clause-leaves : goal.returns-in_err-messages-clause-leaves
returns-in_err-messages-clause-leaves g c = leaves_alone c.args.self.now.core c.args.self.now.core _ refl

pub returns-clause-does : goal.returns-clause-does
returns-clause-does g c =
    on_ok_weaker c.tell_each.result
    (does_hear c.args.channel c.args.bytes.now c.in_ok-messages.messages.items c.args.self.now c.cut.new.self c.in_ok-messages.ensures.tells c.in_ok-messages.ensures.others c.tell_each.new.self
    (g.F.Folder.told c.args.folder.now) (g.F.Folder.told c.tell_each.new.folder))
    c.tell_each.ensures.does
