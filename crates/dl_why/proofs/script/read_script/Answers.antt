use Rattle.dl_replay.proofs.Begins.{too_long}
use Rattle.dl_why.proofs.script.read_script.Goals as goal

pub returns-in-Err-Long-clause-reads : goal.returns-in-Err-Long-clause-reads
returns-in-Err-Long-clause-reads g c =
    let fails = rw c.in-Err-Long.field-0-is at c.in-Err-Long.ensures.failed in
    too_long (g.I.Source.told c.args.input.now).left fails.1

pub returns-in-Ok-read_steps-clause-playable : goal.returns-in-Ok-read_steps-clause-playable
returns-in-Ok-read_steps-clause-playable g c =
    c.what_is_read_can_be_played.ensures.playable c.deref.result.now c.in-Ok-read_steps.steps c.in-Ok-read_steps.ensures
