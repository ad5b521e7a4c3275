use Rattle.std.proofs.Common.{map, string_bytes}
use Rattle.clap.specs.Simple.{app_of}
use Rattle.dl_why_words.specs.Command.{trace_command}
use Rattle.dl_why_words.specs.Words.{AsksTrace, said, trace_in}
use Rattle.dl_why_words.specs.declared.words.WhyWords.TheVariants as words
use Rattle.dl_why_words.proofs.Said.{refused, taken}
use Rattle.dl_why_words.proofs.words.trace_words.Goals as goal

pub returns-in-Err : goal.returns-in-Err
returns-in-Err c = refused (app_of c.in-Ok.command) trace_command (map string_bytes c.args.words.now) c.in-Err.fault c.in-Ok.ensures c.in-Err.ensures

pub returns : goal.returns
returns c =
    taken (app_of c.in-Ok.command) trace_command trace_in (map string_bytes c.args.words.now) c.in-Ok-parse.matches (said (words.Trace c.in-Ok-all_given.names c.given.result)) c.in-Ok.ensures c.in-Ok-parse.ensures
    (λ i. AsksTrace (c.in-Ok-all_given.ensures i) (c.given.ensures i))
