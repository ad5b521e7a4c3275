use Rattle.std.proofs.Common.{subst, sym}
use Rattle.dl_why.specs.Program.{SaysSteps}
use Rattle.dl_why.specs.declared.steps_status.StepsStatus.{StepsStatus}
use Rattle.dl_why.proofs.Ending.{says}
use Rattle.dl_why.proofs.program.say_steps.Goals as goal

pub returns-in-Plain : goal.returns-in-Plain
returns-in-Plain g c =
    let was = g.E.Sink.told c.args.err.now in
    let now = g.E.Sink.told c.say.new.err in
    subst (λ (s : StepsStatus). SaysSteps s was now) (sym c.in-Plain.is) (says c.in-Plain.status was now c.say.ensures.silent c.say.ensures.told)
