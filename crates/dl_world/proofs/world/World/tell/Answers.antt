use Rattle.std.proofs.Common.{ap}
use Rattle.std.proofs.lemmas.Result.{on_ok_weaker}
use Rattle.dl_events.specs.declared.event.Event.TheVariants as event
use Rattle.dl_script_model.specs.Marks.{moment}
use Rattle.dl_world.specs.declared.world.World.{World}
use Rattle.dl_core.proofs.LeftFiles.{leaves_alone}
use Rattle.dl_world.proofs.Telling.{does_note}
use Rattle.dl_world.proofs.world.World.tell.Goals as goal

pub returns-in_err-note_levels-clause-leaves : goal.returns-in_err-note_levels-clause-leaves
returns-in_err-note_levels-clause-leaves g c = leaves_alone c.args.self.now.core c.note_levels.new.self.core _ (ap (λ (w : World). w.core.trace) c.note_levels.ensures.rest)

pub returns-clause-does : goal.returns-clause-does
returns-clause-does g c =
    on_ok_weaker c.note_levels_now.result
    (does_note (λ now. event.User c.args.channel c.args.msg (moment now)) c.args.self.now c.note_levels.new.self c.note_message.new.self c.note_levels_now.new.self
    (g.F.Folder.told c.args.folder.now) (g.F.Folder.told c.note_message.new.folder)
    c.in_ok-note_levels.ensures.does c.in_ok-note_message.ensures.does) c.note_levels_now.ensures.does
