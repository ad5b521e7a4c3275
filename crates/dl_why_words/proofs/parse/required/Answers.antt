use Rattle.std.proofs.Common.{ap, ◌∙◌}
use Rattle.clap.specs.Matches.{found_of}
use Rattle.dl_words.proofs.Values.{text_given}
use Rattle.dl_why_words.proofs.parse.required.Goals as goal

pub returns : goal.returns
returns c =
    ap (λ s. s.now) c.unwrap_or.ensures ∙ text_given (found_of c.args.matches.now) c.args.id.now c.get_str.result _ c.get_str.ensures
