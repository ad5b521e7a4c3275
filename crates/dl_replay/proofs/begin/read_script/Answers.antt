use Rattle.std.proofs.Common.{refl}
use Rattle.dl_replay.proofs.Begins.{too_long}
use Rattle.dl_replay.proofs.begin.read_script.Goals as goal

pub returns-in-Err-Long-clause-steps : goal.returns-in-Err-Long-clause-steps
returns-in-Err-Long-clause-steps g c =
    let fails = rw c.in-Err-Long.field-0-is at c.in-Err-Long.ensures.failed in
    (refl, too_long (g.I.Source.told c.args.input.now).left fails.1, fails.0)

pub returns-in-Ok-read_steps-clause-playable :
    goal.returns-in-Ok-read_steps-clause-playable
returns-in-Ok-read_steps-clause-playable g c =
    c.what_is_read_can_be_played.ensures.playable c.deref.result.now c.in-Ok-read_steps.steps c.in-Ok-read_steps.ensures
