use Rattle.std.proofs.Common.{◌∙◌}
use Rattle.dl_script_lines.proofs.Refused.{all_texts}
use Rattle.dl_script_lines.proofs.line.are_arguments.Goals as goal

pub returns : goal.returns
returns c = c.each_is_argument.ensures ∙ all_texts c.args.fields.now
