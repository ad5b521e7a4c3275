use Rattle.dl_script_lines.specs.Word.{step_word, scenario_word}
use Rattle.dl_script.specs.Line.{step_by_word, scenario_by_word}
use Rattle.dl_script.proofs.WordLines.{line_says}
use Rattle.dl_script.proofs.laws.a_line_is_a_word_with_fields.Goals as goal

pub returns-clause-step : goal.returns-clause-step
returns-clause-step c = line_says step_word step_by_word

pub returns-clause-scenario : goal.returns-clause-scenario
returns-clause-scenario c = line_says scenario_word scenario_by_word
