use Rattle.std.proofs.Common.{sym, ap, ◌∙◌, arith}
use Rattle.std.specs.List.{range_with_len}
use Rattle.test_threads.proofs.Later.{as_many}
use Rattle.test_threads.proofs.crowds.run_crowd.Goals as goal

pub crowd-requires-clause-few : goal.crowd-requires-clause-few
crowd-requires-clause-few g c κs within =
    let books = c.in-Ok.field-0.books in
    let count = as_many books.items c.args.threads c.in-Ok.ensures.numbered in
    let long = books.ok.0 in
    let few = c.requires.few in
    omega (arith, count, long, few)

pub crowd-requires-clause-numbered : goal.crowd-requires-clause-numbered
crowd-requires-clause-numbered g c κs within =
    let books = c.in-Ok.field-0.books in
    c.in-Ok.ensures.numbered ∙ ap (range_with_len 1) (sym (as_many books.items c.args.threads c.in-Ok.ensures.numbered) ∙ sym books.ok.0)
