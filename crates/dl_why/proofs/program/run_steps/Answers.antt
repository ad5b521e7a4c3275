use Rattle.dl_why.proofs.program.run_steps.Goals as goal

pub returns : goal.returns
returns g c = record { status = c.explain_steps-status.result; number_is = c.number.ensures; ends = c.explain_steps-status.ensures; said = c.say_steps.ensures }
