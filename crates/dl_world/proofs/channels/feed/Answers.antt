use Rattle.std.proofs.Common.{◌<◌, ℕ, List, [], length, sym, subst, eqb-true, arith}
use Rattle.dl_user.specs.Cutter.{Feeds}
use Rattle.dl_world.proofs.FedStreams.{some_left}
use Rattle.dl_world.proofs.HeardChannels.{IsHearing, sets_out, goes_on, stops_there, arrives, arrives_told}
use Rattle.dl_world.proofs.channels.feed.Goals as goal
use Rattle.dl_lemmas.proofs.Lists.{empty_of}

pub loop-rest-init : goal.loop-rest-init
loop-rest-init c = sets_out c.args.bytes.now (λ i. omega (arith, c.type_inv.bytes i)) c.args.cutter.now c.args.messages.now.items

shut : (c : goal.Then-taken-eq0) → IsHearing c.args.bytes.now [] c.args.cutter.now c.feed-taken.new.self c.args.messages.now.items c.loop-rest.messages.items
shut c =
    stops_there c.args.bytes.now c.loop-rest.rest.now c.args.cutter.now c.loop-rest.cutter c.args.messages.now.items c.loop-rest.messages.items c.loop-rest.invariant c.feed-taken.new.self
    (subst (λ (n : ℕ). Feeds c.loop-rest.cutter c.loop-rest.rest.now n c.feed-taken.new.self) c.if-taken-eq0.true c.feed-taken.ensures)
    (some_left c.loop-rest.rest.now (sym c.loop-rest-test.ensures))

pub returns-then-taken-eq0-clause-heard : goal.returns-then-taken-eq0-clause-heard
returns-then-taken-eq0-clause-heard c = arrives c.args.bytes.now c.args.cutter.now c.feed-taken.new.self c.args.messages.now.items c.loop-rest.messages.items (shut c)

pub returns-then-taken-eq0-clause-tells : goal.returns-then-taken-eq0-clause-tells
returns-then-taken-eq0-clause-tells c = arrives_told c.args.bytes.now c.args.cutter.now c.feed-taken.new.self c.args.messages.now.items c.loop-rest.messages.items (shut c)

pub returns-then-taken-eq0-clause-fit : goal.returns-then-taken-eq0-clause-fit
returns-then-taken-eq0-clause-fit c = c.loop-rest.invariant.each

pub loop-rest-preserved : goal.loop-rest-preserved
loop-rest-preserved c =
    let whole = c.in_ok-cut_whole.ensures in
    let some : 0 < c.feed-taken.result = omega (arith, c.if-taken-eq0.false) in
    goes_on c.args.bytes.now c.loop-rest.rest.now c.args.cutter.now c.loop-rest.cutter c.args.messages.now.items c.loop-rest.messages.items c.loop-rest.invariant
    c.feed-taken.result c.feed-taken.new.self c.cut_whole.new.cutter c.cut_whole.new.messages.items c.feed-taken.ensures some whole.gives whole.stops whole.fit

all : (c : goal.After-loop-rest) → IsHearing c.args.bytes.now [] c.args.cutter.now c.loop-rest.cutter c.args.messages.now.items c.loop-rest.messages.items
all c =
    subst (λ (rest : List ℕ). IsHearing c.args.bytes.now rest c.args.cutter.now c.loop-rest.cutter c.args.messages.now.items c.loop-rest.messages.items)
    (empty_of c.loop-rest.rest.now (eqb-true (length c.loop-rest.rest.now) 0 (sym c.loop-rest-test.ensures))) c.loop-rest.invariant

pub returns-clause-heard : goal.returns-clause-heard
returns-clause-heard c = arrives c.args.bytes.now c.args.cutter.now c.loop-rest.cutter c.args.messages.now.items c.loop-rest.messages.items (all c)

pub returns-clause-tells : goal.returns-clause-tells
returns-clause-tells c = arrives_told c.args.bytes.now c.args.cutter.now c.loop-rest.cutter c.args.messages.now.items c.loop-rest.messages.items (all c)

pub returns-clause-fit : goal.returns-clause-fit
returns-clause-fit c = c.loop-rest.invariant.each
