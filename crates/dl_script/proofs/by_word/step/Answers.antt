use Rattle.std.proofs.Common.{subst}
use Rattle.dl_script_fields.specs.Kind.{Says}
use Rattle.dl_script_lines.specs.Word.{step_word}
use Rattle.dl_script.specs.Line.{step_by_word}
use Rattle.dl_script.proofs.Texts.{no_text, text_says}
use Rattle.dl_script.proofs.by_word.step.Goals as goal

pub returns-in-Ok : goal.returns-in-Ok
returns-in-Ok c =
    subst (Says (λ x. x) c.step_in.result) (text_says step_word step_by_word c.args.line.now c.in-Ok.text.now c.in-Ok.ensures.cases.1 c.in-Ok.ensures.cases.0) c.step_in.ensures

pub returns-in-Err : goal.returns-in-Err
returns-in-Err c = no_text step_word step_by_word c.args.line.now c.in-Err.ensures.cases.0
