use Rattle.std.proofs.Common.{map, string_bytes}
use Rattle.clap.specs.Simple.{app_of}
use Rattle.dl_why_words.specs.Command.{find_command}
use Rattle.dl_why_words.specs.Words.{AsksFind, find_in, said}
use Rattle.dl_why_words.specs.declared.words.WhyWords.TheVariants as words
use Rattle.dl_why_words.proofs.Said.{refused, taken}
use Rattle.dl_why_words.proofs.words.find_words.Goals as goal

pub returns-in-Err : goal.returns-in-Err
returns-in-Err c = refused (app_of c.in-Ok.command) find_command (map string_bytes c.args.words.now) c.in-Err.fault c.in-Ok.ensures c.in-Err.ensures

pub returns : goal.returns
returns c =
    taken (app_of c.in-Ok.command) find_command find_in (map string_bytes c.args.words.now) c.in-Ok-parse.matches (said (words.Find c.required-apid.result c.required-ctid.result c.required-when.result c.in-Ok-all_given.names))
    c.in-Ok.ensures c.in-Ok-parse.ensures (λ i. AsksFind (c.required-apid.ensures i) (c.required-ctid.ensures i) (c.required-when.ensures i) (c.in-Ok-all_given.ensures i))
