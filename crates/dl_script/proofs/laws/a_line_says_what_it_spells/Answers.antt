use Rattle.dl_script.proofs.SpelledScenarios.{scenario_read}
use Rattle.dl_script.proofs.SpelledSteps.{step_read}
use Rattle.dl_script.proofs.laws.a_line_says_what_it_spells.Goals as goal

pub returns-clause-step : goal.returns-clause-step
returns-clause-step c line s is = (step_read line s is).says

pub returns-clause-scenario : goal.returns-clause-scenario
returns-clause-scenario c line entry is = (scenario_read line entry is).says
