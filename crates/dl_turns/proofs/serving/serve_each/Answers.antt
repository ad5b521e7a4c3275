use Rattle.std.proofs.Common.{◌≡◌, ◌-◌, ◌++◌, ◌∷◌, ℕ, List, Some, None, drop, take, length, refl, sym, ap, subst, ◌∙◌, arith}
use Rattle.std.proofs.lemmas.List.{take_rest}
use Rattle.dl_bytes.specs.Limits.{message_limit}
use Rattle.dl_events.specs.declared.event.Why.TheVariants.{Malformed}
use Rattle.dl_message.specs.Cut.{rest_of}
use Rattle.dl_message.specs.Requests.{requests}
use Rattle.dl_core.specs.Serving.{IsRequest}
use Rattle.dl_turns.specs.Events.{ServesOne}
use Rattle.dl_turns.specs.State.{Side, side}
use Rattle.dl_turns.specs.Turns.{Refuses}
use Rattle.dl_turns.proofs.ServedRequests.{cut_on, serves_bad, serves_next, serves_none, serves_refused}
use Rattle.dl_turns.proofs.serving.serve_each.Goals as goal

pub loop-taken-init : goal.loop-taken-init
loop-taken-init g c = record {
  limit = c.requires.limit;
  rest = λ why new all. all;
  left = refl;
  serving = c.requires.serving;
  spare = omega arith;
  alike = record { number = refl; cutter = refl; served = refl };
  same = g.met.D.WriterControl.rest_refl c.args.desk.now;
}

pub next_request-requires : goal.next_request-requires
next_request-requires g c = c.loop-taken.invariant.limit

pub serve_one-requires-clause-serving : goal.serve_one-requires-clause-serving
serve_one-requires-clause-serving g c = c.loop-taken.invariant.serving

pub serve_one-requires-clause-request : goal.serve_one-requires-clause-request
serve_one-requires-clause-request g c = subst IsRequest (sym c.message-request.ensures) c.in-Request.ensures.finds.1

pub loop-taken-smaller : goal.loop-taken-smaller
loop-taken-smaller g c =
    let finds = c.in-Request.ensures.finds in
    let same = take_rest c.loop-taken.rest.now c.in-Request.taken in
    omega (arith, ap length finds.2, ap (λ (xs : List ℕ). length (requests (c.next_request.new.cutter.unread ++ xs))) same)

pub loop-taken-preserved : goal.loop-taken-preserved
loop-taken-preserved g c =
    let so = c.loop-taken.invariant in
    let finds = c.in-Request.ensures.finds in
    let rest = take (length c.loop-taken.rest.now - c.in-Request.taken) (drop c.in-Request.taken c.loop-taken.rest.now) in
    let same : rest ≡ drop c.in-Request.taken c.loop-taken.rest.now = take_rest c.loop-taken.rest.now c.in-Request.taken in
    let unread = c.next_request.new.cutter.unread in
    let asked = finds.2 ∙ ap (λ (xs : List ℕ). c.next_request.new.cutter.message ∷ requests (unread ++ xs)) (sym same) in
    let left = finds.3 ∙ ap (λ (xs : List ℕ). rest_of message_limit (unread ++ xs)) (sym same) in
    let old : Side = side c.loop-taken.core (g.D.WriterControl.told c.loop-taken.desk) (g.J.Journal.events c.loop-taken.journal)
    (g.F.Folder.told c.loop-taken.folder) in
    let next : Side = side c.serve_one.new.core (g.D.WriterControl.told c.serve_one.new.desk) (g.J.Journal.events c.serve_one.new.journal)
    (g.F.Folder.told c.serve_one.new.folder) in
    let one = subst (λ (m : List ℕ). ServesOne c.args.client.now.number m old next) c.message-request.ensures c.in-Ok.ensures.serves in
    record {
      limit = c.in-Request.ensures.limit;
      rest = λ why new all.
          so.rest why new (serves_next c.args.client.now.number (c.loop-taken.client.cutter.now.unread ++ c.loop-taken.rest.now) c.next_request.new.cutter.message (unread ++ rest) old next new why asked left one all);
      left = so.left ∙ left;
      serving = c.serve_one.ensures.serving;
      spare = omega (arith, so.spare, c.serve_one.ensures.spare);
      alike = record { number = so.alike.number; cutter = so.alike.cutter; served = so.alike.served };
      same = g.met.D.WriterControl.rest_trans c.args.desk.now c.loop-taken.desk c.serve_one.new.desk so.same c.serve_one.ensures.rest;
    }

pub returns-in-Err-clause-serves : goal.returns-in-Err-clause-serves
returns-in-Err-clause-serves g c =
    let finds = c.in-Request.ensures.finds in
    let same = c.in-Err.ensures.unserved in
    let refused = subst (λ (m : List ℕ). Refuses c.args.client.now.number m c.in-Err.why c.loop-taken.core) c.message-request.ensures c.in-Err.ensures.refused in
    c.loop-taken.invariant.rest (Some c.in-Err.why) _
    (serves_refused c.args.client.now.number (c.loop-taken.client.cutter.now.unread ++ c.loop-taken.rest.now) c.next_request.new.cutter.message _ _ _ _ c.in-Err.why finds.2 refused
    (λ i. record { core = same.0 i; desk = g.D.WriterControl.told (same.1 i); events = same.2 i; folder = g.F.Folder.told (same.3 i) }))

pub returns-in-Err-clause-spare : goal.returns-in-Err-clause-spare
returns-in-Err-clause-spare g c = omega (arith, c.loop-taken.invariant.spare, c.serve_one.ensures.spare)

pub returns-in-Err-clause-rest : goal.returns-in-Err-clause-rest
returns-in-Err-clause-rest g c = g.met.D.WriterControl.rest_trans c.args.desk.now c.loop-taken.desk c.serve_one.new.desk c.loop-taken.invariant.same c.serve_one.ensures.rest

pub returns-in-NoMore-clause-serves : goal.returns-in-NoMore-clause-serves
returns-in-NoMore-clause-serves g c =
    let finds = c.in-NoMore.ensures.finds in
    c.loop-taken.invariant.rest None _ (serves_none c.args.client.now.number (c.loop-taken.client.cutter.now.unread ++ c.loop-taken.rest.now) _ c.next_request.new.cutter finds.0 finds.1)

pub returns-in-NoMore-clause-cut : goal.returns-in-NoMore-clause-cut
returns-in-NoMore-clause-cut g c = λ stream was.
    cut_on stream c.args.piece.now (c.loop-taken.client.cutter.now.unread ++ c.loop-taken.rest.now) c.args.client.now.cutter.now c.next_request.new.cutter c.loop-taken.invariant.left c.in-NoMore.ensures.finds.1 was

pub returns-in-NoMore-clause-serving : goal.returns-in-NoMore-clause-serving
returns-in-NoMore-clause-serving g c = c.loop-taken.invariant.serving

pub returns-in-NoMore-clause-spare : goal.returns-in-NoMore-clause-spare
returns-in-NoMore-clause-spare g c = c.loop-taken.invariant.spare

pub returns-in-NoMore-clause-rest : goal.returns-in-NoMore-clause-rest
returns-in-NoMore-clause-rest g c = c.loop-taken.invariant.same

pub returns-in-Bad-clause-serves : goal.returns-in-Bad-clause-serves
returns-in-Bad-clause-serves g c =
    let finds = c.in-Bad.ensures.finds in
    c.loop-taken.invariant.rest (Some Malformed) _ (serves_bad c.args.client.now.number (c.loop-taken.client.cutter.now.unread ++ c.loop-taken.rest.now) _ finds.0 finds.1)

pub returns-in-Bad-clause-serving : goal.returns-in-Bad-clause-serving
returns-in-Bad-clause-serving g c = c.loop-taken.invariant.serving

pub returns-in-Bad-clause-spare : goal.returns-in-Bad-clause-spare
returns-in-Bad-clause-spare g c = c.loop-taken.invariant.spare

pub returns-in-Bad-clause-rest : goal.returns-in-Bad-clause-rest
returns-in-Bad-clause-rest g c = c.loop-taken.invariant.same

pub returns-in-Err-clause-limit : goal.returns-in-Err-clause-limit
returns-in-Err-clause-limit g c = c.in-Request.ensures.limit

pub returns-in-NoMore-clause-limit : goal.returns-in-NoMore-clause-limit
returns-in-NoMore-clause-limit g c = c.in-NoMore.ensures.limit

pub returns-in-Bad-clause-limit : goal.returns-in-Bad-clause-limit
returns-in-Bad-clause-limit g c = c.in-Bad.ensures.limit
