use Rattle.clap.specs.Matches.{found_of}
use Rattle.dl_words.proofs.Values.{number_absent, number_present}
use Rattle.dl_words.proofs.parse.given_number.Goals as goal

pub returns-in-None-clause-number : goal.returns-in-None-clause-number
returns-in-None-clause-number c = number_absent (found_of c.args.matches.now) c.args.id.now c.get_str.result c.get_str.ensures c.in-None.is

pub returns-in-Ok-clause-number : goal.returns-in-Ok-clause-number
returns-in-Ok-clause-number c =
    number_present (found_of c.args.matches.now) c.args.id.now c.get_str.result c.in-Some.text c.in-Ok.number c.get_str.ensures c.in-Some.is c.in-Ok.ensures.value.0.1
