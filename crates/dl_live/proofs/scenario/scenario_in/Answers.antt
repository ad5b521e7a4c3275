use Rattle.dl_live.proofs.scenario.scenario_in.Goals as goal

pub returns-in-Ok-clause-runnable : goal.returns-in-Ok-clause-runnable
returns-in-Ok-clause-runnable g c = c.what_is_read_can_be_run.ensures.runnable c.all.result.now c.in-Ok.scenario c.in-Ok.ensures
