use Rattle.std.proofs.Common.{◌++◌}
use Rattle.std.specs.Prelude.{codes}
use Rattle.dl_args.specs.Argument.{written}
use Rattle.dl_client.specs.Account.{count, text}
use Rattle.dl_client.specs.Area.{held}
use Rattle.dl_client.proofs.Fields.{one_more}
use Rattle.dl_client.proofs.account.push_what.Goals as goal

pub returns-clause-held : goal.returns-clause-held
returns-clause-held c =
    let before = held c.args.payload.now in
    let a = written (text (codes "filtered")) in
    let b = written (count c.args.context.now.filtered) in
    let d = written (text (codes "queued")) in
    let e = written (count c.args.context.now.queued) in
    let f = written (text (codes "lost")) in
    let g = written (count c.args.context.now.lost) in
    let one = held c.push_text.new.payload in
    let two = held c.push_count.new.payload in
    let three = held c.push_text-2.new.payload in
    let four = held c.push_count-2.new.payload in
    let five = held c.push_text-3.new.payload in
    let six = held c.push_count-3.new.payload in
    one_more before (a ++ b ++ d ++ e ++ f) g five six
    (one_more before (a ++ b ++ d ++ e) f four five
    (one_more before (a ++ b ++ d) e three four
    (one_more before (a ++ b) d two three (one_more before a b one two c.push_text.ensures.held c.push_count.ensures.held) c.push_text-2.ensures.held)
    c.push_count-2.ensures.held)
    c.push_text-3.ensures.held)
    c.push_count-3.ensures.held
