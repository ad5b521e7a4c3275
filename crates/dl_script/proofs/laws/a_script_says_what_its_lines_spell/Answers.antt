use Rattle.dl_script.specs.Line.{step_of, scenario_line_of}
use Rattle.dl_script.specs.Spelled.{SpellsStep, SpellsScenarioLine, step_claim, scenario_claim}
use Rattle.dl_script.proofs.SpelledScenarios.{scenario_read}
use Rattle.dl_script.proofs.SpelledScripts.{script_says}
use Rattle.dl_script.proofs.SpelledSteps.{step_read}
use Rattle.dl_script.proofs.laws.a_script_says_what_its_lines_spell.Goals as goal

pub returns-clause-steps : goal.returns-clause-steps
returns-clause-steps c = script_says step_of SpellsStep step_claim step_read

pub returns-clause-scenario : goal.returns-clause-scenario
returns-clause-scenario c = script_says scenario_line_of SpellsScenarioLine scenario_claim scenario_read
