use Rattle.std.proofs.Common.{map, string_bytes}
use Rattle.clap.specs.Simple.{app_of}
use Rattle.dl_why_words.specs.Command.{steps_command}
use Rattle.dl_why_words.specs.Words.{AsksSteps, said, steps_in}
use Rattle.dl_why_words.specs.declared.words.WhyWords.TheVariants as words
use Rattle.dl_why_words.proofs.Said.{refused, taken}
use Rattle.dl_why_words.proofs.words.steps_words.Goals as goal

pub returns-in-Err : goal.returns-in-Err
returns-in-Err c = refused (app_of c.in-Ok.command) steps_command (map string_bytes c.args.words.now) c.in-Err.fault c.in-Ok.ensures c.in-Err.ensures

pub returns : goal.returns
returns c =
    taken (app_of c.in-Ok.command) steps_command steps_in (map string_bytes c.args.words.now) c.in-Ok-parse.matches (said (words.Steps c.given-script.result c.given-picture.result)) c.in-Ok.ensures c.in-Ok-parse.ensures
    (λ i. AsksSteps (c.given-script.ensures i) (c.given-picture.ensures i))
