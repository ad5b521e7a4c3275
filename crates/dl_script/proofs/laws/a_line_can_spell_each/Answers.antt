use Rattle.dl_script.proofs.SayableSteps.{step_line, scenario_line_for}
use Rattle.dl_script.proofs.laws.a_line_can_spell_each.Goals as goal

pub returns-clause-step : goal.returns-clause-step
returns-clause-step c = step_line

pub returns-clause-scenario : goal.returns-clause-scenario
returns-clause-scenario c = scenario_line_for
