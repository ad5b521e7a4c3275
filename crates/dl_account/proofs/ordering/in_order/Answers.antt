use Rattle.std.proofs.Common.{◌≡◌, ℕ, subst, arith}
use Rattle.dl_account.proofs.InOrder.{all_in_order, goes_on, next_is_there, so_many, starts, IsSoFar}
use Rattle.dl_account.proofs.ordering.in_order.Goals as goal

pub loop-done-init : goal.loop-done-init
loop-done-init c = starts c.args.books c.none-ordered.result c.none-ordered.ensures

pub unreachable-requires : goal.unreachable-requires
unreachable-requires c =
    let there = next_is_there c.args.books c.loop-done.books c.loop-done.ordered c.args.made c.loop-done.done c.requires.numbered c.loop-done.invariant c.loop-done-test.true in
    let none = c.in_default.ensures.none in
    omega (arith, there, none)

pub add-requires : goal.add-requires
add-requires c =
    let many = so_many c.args.books c.loop-done.books c.loop-done.ordered c.loop-done.done c.loop-done.invariant in
    omega (arith, many, c.loop-done-test.true, c.requires.few)

pub loop-done-preserved : goal.loop-done-preserved
loop-done-preserved c =
    let taken = c.in-Some.ensures.taken in
    goes_on c.args.books c.loop-done.books c.loop-done.ordered taken.0 taken.1 c.take.new.self c.add.new.self c.in-Some.book c.loop-done.done c.loop-done.invariant
    taken.2 taken.3 c.add.ensures c.in-Some.ensures.of_number

pub returns-clause-order : goal.returns-clause-order
returns-clause-order c =
    let done : c.loop-done.done ≡ c.args.made = omega (arith, c.loop-done.auto.done-end, c.loop-done-test.false) in
    (all_in_order c.args.books c.loop-done.books c.loop-done.ordered c.args.made c.requires.numbered
    (subst (λ (n : ℕ). IsSoFar c.args.books c.loop-done.books c.loop-done.ordered n) done c.loop-done.invariant)).0

pub returns-clause-count : goal.returns-clause-count
returns-clause-count c =
    let many = so_many c.args.books c.loop-done.books c.loop-done.ordered c.loop-done.done c.loop-done.invariant in
    omega (arith, many, c.loop-done.auto.done-end, c.loop-done-test.false)
