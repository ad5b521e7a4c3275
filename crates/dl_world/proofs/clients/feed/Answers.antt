use Rattle.std.proofs.Common.{◌<◌, ℕ, List, [], length, sym, ap, subst, ◌∙◌, eqb-true, arith}
use Rattle.dl_message.specs.Cutting.{Cutting, Feeds}
use Rattle.dl_world.proofs.FedStreams.{IsFeeding, sets_out, goes_on, stops, arrives, arrives_asked, some_left}
use Rattle.dl_world.proofs.clients.feed.Goals as goal
use Rattle.dl_lemmas.proofs.Lists.{empty_of}

pub loop-rest-init : goal.loop-rest-init
loop-rest-init c = record { limit = c.requires; so = sets_out c.args.bytes.now c.args.cutter.now c.args.requests.now.items }

shut : (c : goal.Then-taken-eq0) → IsFeeding c.args.bytes.now [] c.args.cutter.now c.feed-taken.new.self c.args.requests.now.items c.loop-rest.requests.items
shut c =
    stops c.args.bytes.now c.loop-rest.rest.now c.args.cutter.now c.loop-rest.cutter c.args.requests.now.items c.loop-rest.requests.items c.loop-rest.invariant.so c.feed-taken.new.self
    (subst (λ (n : ℕ). Feeds c.loop-rest.cutter c.loop-rest.rest.now n c.feed-taken.new.self) c.if-taken-eq0.true c.feed-taken.ensures)
    (some_left c.loop-rest.rest.now (sym c.loop-rest-test.ensures))

pub returns-then-taken-eq0-clause-fed : goal.returns-then-taken-eq0-clause-fed
returns-then-taken-eq0-clause-fed c = arrives c.args.bytes.now c.args.cutter.now c.feed-taken.new.self c.args.requests.now.items c.loop-rest.requests.items (shut c)

pub returns-then-taken-eq0-clause-asks : goal.returns-then-taken-eq0-clause-asks
returns-then-taken-eq0-clause-asks c = arrives_asked c.args.bytes.now c.args.cutter.now c.feed-taken.new.self c.args.requests.now.items c.loop-rest.requests.items (shut c)

pub returns-then-taken-eq0-clause-each : goal.returns-then-taken-eq0-clause-each
returns-then-taken-eq0-clause-each c = c.loop-rest.invariant.so.each

pub loop-rest-preserved : goal.loop-rest-preserved
loop-rest-preserved c =
    let whole = c.in_ok-cut_whole.ensures in
    let some : 0 < c.feed-taken.result = omega (arith, c.if-taken-eq0.false) in
    record {
      limit = whole.limit;
      so = goes_on c.args.bytes.now c.loop-rest.rest.now c.args.cutter.now c.loop-rest.cutter c.args.requests.now.items c.loop-rest.requests.items c.loop-rest.invariant.so
          c.feed-taken.result c.feed-taken.new.self c.cut_whole.new.cutter c.cut_whole.new.requests.items c.feed-taken.ensures some whole.gives whole.limit whole.stops whole.each;
    }

pub cut_whole-requires : goal.cut_whole-requires
cut_whole-requires c = ap (λ (v : Cutting). v.limit) c.feed-taken.ensures.taken ∙ c.loop-rest.invariant.limit

all : (c : goal.After-loop-rest) → IsFeeding c.args.bytes.now [] c.args.cutter.now c.loop-rest.cutter c.args.requests.now.items c.loop-rest.requests.items
all c =
    subst (λ (rest : List ℕ). IsFeeding c.args.bytes.now rest c.args.cutter.now c.loop-rest.cutter c.args.requests.now.items c.loop-rest.requests.items)
    (empty_of c.loop-rest.rest.now (eqb-true (length c.loop-rest.rest.now) 0 (sym c.loop-rest-test.ensures))) c.loop-rest.invariant.so

pub returns-clause-fed : goal.returns-clause-fed
returns-clause-fed c = arrives c.args.bytes.now c.args.cutter.now c.loop-rest.cutter c.args.requests.now.items c.loop-rest.requests.items (all c)

pub returns-clause-asks : goal.returns-clause-asks
returns-clause-asks c = arrives_asked c.args.bytes.now c.args.cutter.now c.loop-rest.cutter c.args.requests.now.items c.loop-rest.requests.items (all c)

pub returns-clause-each : goal.returns-clause-each
returns-clause-each c = c.loop-rest.invariant.so.each
