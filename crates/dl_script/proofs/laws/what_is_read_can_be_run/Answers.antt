use Rattle.dl_script.proofs.ReadScripts.{read_runs, scenario_bounded}
use Rattle.dl_script.proofs.laws.what_is_read_can_be_run.Goals as goal

pub returns-clause-runnable : goal.returns-clause-runnable
returns-clause-runnable c = read_runs

pub returns-clause-bounded : goal.returns-clause-bounded
returns-clause-bounded c = scenario_bounded
