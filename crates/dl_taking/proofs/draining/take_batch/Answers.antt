use Rattle.std.proofs.Common.{ap, arith}
use Rattle.dl_account.specs.State.{ClosingState}
use Rattle.dl_taking.proofs.Drains.{by_count, fewer_left, may_step, none_left, one_batch, taken_within}
use Rattle.dl_taking.proofs.draining.take_batch.Goals as goal

pub without-requires-clause-calls : goal.without-requires-clause-calls
without-requires-clause-calls g c =
    let new = c.take_some-got.new.desk in
    let one = c.take_some-got.ensures in
    let within = taken_within new c.gathered.ensures c.args.closing.now c.args.app one.rest c.requires.app in
    let left = fewer_left c.args.closing.now.books new.books c.args.app c.batch_size-most.result c.take_some-got.result _ _ one.takes (ap (λ (s : ClosingState). s.books) one.rest) within in
    omega (arith, left.calls, c.requires.enough)

pub without-requires-clause-claim : goal.without-requires-clause-claim
without-requires-clause-claim g c =
    let new = c.take_some-got.new.desk in
    let one = c.take_some-got.ensures in
    let within = taken_within new c.gathered.ensures c.args.closing.now c.args.app one.rest c.requires.app in
    let left = fewer_left c.args.closing.now.books new.books c.args.app c.batch_size-most.result c.take_some-got.result _ _ one.takes (ap (λ (s : ClosingState). s.books) one.rest) within in
    omega (arith, left.claims, c.requires.claims)

pub returns-clause-takes : goal.returns-clause-takes
returns-clause-takes g c = one_batch c.args.app c.batch_size-most.result c.take_some-got.result _ _ c.batch_size-most.ensures.few c.take_some-got.ensures.takes

pub returns-clause-empty : goal.returns-clause-empty
returns-clause-empty g c = λ short.
    let new = c.take_some-got.new.desk in
    let one = c.take_some-got.ensures in
    let got = c.take_some-got.result in
    let none = c.may_hold_more.ensures.none short in
    let within = taken_within new c.gathered.ensures c.args.closing.now c.args.app one.rest c.requires.app in
    let left = fewer_left c.args.closing.now.books new.books c.args.app c.batch_size-most.result got _ _ one.takes (ap (λ (s : ClosingState). s.books) one.rest) within in
    by_count got c.batch_size-most.result new c.args.app (omega (arith, one.takes.few)) (one.given none.0) (λ same.
    none_left new c.args.app within
    (omega (arith, same, none.1, left.calls, c.requires.enough, c.batch_size-most.ensures.few, c.batch_size-most.ensures.all))
    (omega (arith, same, none.1, left.calls, left.claims, c.requires.enough, c.requires.claims, c.batch_size-most.ensures.few, c.batch_size-most.ensures.all)))

pub returns-clause-used : goal.returns-clause-used
returns-clause-used g c =
    let new = c.take_some-got.new.desk in
    let one = c.take_some-got.ensures in
    let within = taken_within new c.gathered.ensures c.args.closing.now c.args.app one.rest c.requires.app in
    let left = fewer_left c.args.closing.now.books new.books c.args.app c.batch_size-most.result c.take_some-got.result _ _ one.takes (ap (λ (s : ClosingState). s.books) one.rest) within in
    omega (arith, left.calls, c.without.ensures.calls)

pub returns-clause-claims_used : goal.returns-clause-claims_used
returns-clause-claims_used g c =
    let new = c.take_some-got.new.desk in
    let one = c.take_some-got.ensures in
    let within = taken_within new c.gathered.ensures c.args.closing.now c.args.app one.rest c.requires.app in
    let left = fewer_left c.args.closing.now.books new.books c.args.app c.batch_size-most.result c.take_some-got.result _ _ one.takes (ap (λ (s : ClosingState). s.books) one.rest) within in
    omega (arith, left.claims, c.without.ensures.claim)

pub returns-clause-may : goal.returns-clause-may
returns-clause-may g c = λ reports may.
    may_step c.args.closing.now.apps c.args.app c.batch_size-most.result c.take_some-got.result _ _ c.requires.app c.take_some-got.ensures.takes c.args.left.now.events c.without.result.events
    c.args.left.now.claims c.without.result.claims reports c.without.ensures.calls c.without.ensures.claim may
