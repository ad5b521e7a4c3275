use Rattle.std.proofs.Common.{◌++◌}
use Rattle.std.specs.Prelude.{codes}
use Rattle.dl_args.specs.Argument.{written}
use Rattle.dl_client.specs.Account.{level_argument, text}
use Rattle.dl_client.specs.Area.{held}
use Rattle.dl_client.proofs.Fields.{one_more}
use Rattle.dl_client.proofs.account.push_whom.Goals as goal

pub returns-clause-held : goal.returns-clause-held
returns-clause-held c =
    let before = held c.args.payload.now in
    let calls = written (text (codes "calls")) in
    let name = written (text c.args.context.now.ctid) in
    let word = written (text (codes "level")) in
    let level = written (level_argument c.args.context.now.level) in
    let one = held c.push_text.new.payload in
    let two = held c.push_text-2.new.payload in
    let three = held c.push_text-3.new.payload in
    let four = held c.push_level.new.payload in
    one_more before (calls ++ name ++ word) level three four
    (one_more before (calls ++ name) word two three (one_more before calls name one two c.push_text.ensures.held c.push_text-2.ensures.held) c.push_text-3.ensures.held)
    c.push_level.ensures.held
