use Rattle.std.proofs.Common.{◌-◌, Bool, false, Some, None, List, length, refl, sym, ap, subst, ◌∙◌, arith}
use Rattle.std.specs.Prelude.{slice_get, ◌||◌, IsSome}
use Rattle.dl_hub.specs.State.{Hub, IsNextOpen, outbox_of}
use Rattle.dl_rounds.specs.declared.listener.Listener.{Listener}
use Rattle.dl_rounds.specs.ListenerPool.{HasSeat}
use Rattle.dl_rounds.specs.Clients.{Clients, HaveVisited}
use Rattle.dl_rounds.specs.Rounds.{seen}
use Rattle.dl_rounds.specs.Visits.{Heard}
use Rattle.dl_rounds.proofs.ByPlace.{set_length}
use Rattle.dl_rounds.proofs.OneClient.{but_turn}
use Rattle.dl_rounds.proofs.ReadyAgain.{heard_again, heard_seated, linked_again, room_for, serves_on}
use Rattle.dl_rounds.proofs.Turned.{open_within}
use Rattle.dl_rounds.proofs.Visiting.{moved_or, visited_next, visited_none}
use Rattle.dl_rounds.proofs.rounds.listen_all.Goals as goal
use Rattle.dl_core.proofs.Admitted.{same_hub-later}
use Rattle.dl_lemmas.proofs.Bools.{or_false}

pub listen_to-moved-requires-clause-spare : goal.listen_to-moved-requires-clause-spare
listen_to-moved-requires-clause-spare g c =
    let was = c.loop-client in
    let next = subst (λ (h : Hub). IsNextOpen h was.last (Some c.in-Some.client)) c.hub.ensures c.in-Some.ensures in
    room_for c.in-Some.client was.links was.core (g.J.Journal.spare was.journal) was.invariant.linked next.1

pub seat-requires-clause-waits : goal.seat-requires-clause-waits
seat-requires-clause-waits g c =
    let was = c.loop-client in
    let next = subst (λ (h : Hub). IsNextOpen h was.last (Some c.in-Some.client)) c.hub.ensures c.in-Some.ensures in
    was.invariant.heard.waiting c.in-Some.client next.1

pub seat-requires-clause-limits : goal.seat-requires-clause-limits
seat-requires-clause-limits g c = c.loop-client.invariant.heard.limits

pub listen_to-moved-requires-clause-limit : goal.listen_to-moved-requires-clause-limit
listen_to-moved-requires-clause-limit g c =
    c.loop-client.invariant.heard.limits (c.in-Some.client - 1) c.of_mut-listener.result.now
    (sym (ap (λ (ls : List Listener). slice_get ls (c.in-Some.client - 1)) c.seat.ensures.listeners) ∙ c.of_mut-listener.ensures.value)

pub of_mut-listener-requires-clause-within : goal.of_mut-listener-requires-clause-within
of_mut-listener-requires-clause-within g c =
    let was = c.loop-client in
    let next = subst (λ (h : Hub). IsNextOpen h was.last (Some c.in-Some.client)) c.hub.ensures c.in-Some.ensures in
    omega (arith, (open_within was.core.hub c.in-Some.client next.1).1, was.invariant.linked.few, was.invariant.heard.enough, ap (λ (ls : List Listener). length ls) c.seat.ensures.listeners)

pub listen_to-moved-requires-clause-serving : goal.listen_to-moved-requires-clause-serving
listen_to-moved-requires-clause-serving g c =
    let was = c.loop-client in
    let client = c.in-Some.client in
    let seats = c.seat.new.self in
    let next = subst (λ (h : Hub). IsNextOpen h was.last (Some client)) c.hub.ensures c.in-Some.ensures in
    let seated = heard_seated was.seats seats was.core (g.D.WriterControl.told was.desk) was.invariant.heard c.seat.ensures.listeners
    (λ number. subst (λ (h : Hub). IsSome (outbox_of h number) → HasSeat number was.seats → HasSeat number seats) c.hub-in-Some.ensures (c.seat.ensures.stay number)) in
    serves_on client was.links seats c.of_mut-listener.result.now was.core (g.D.WriterControl.told was.desk) (g.J.Journal.spare was.journal) was.invariant.linked seated next.1 c.of_mut-listener.ensures.value

pub loop-client-smaller : goal.loop-client-smaller
loop-client-smaller g c =
    let was = c.loop-client in
    let next = subst (λ (h : Hub). IsNextOpen h was.last (Some c.in-Some.client)) c.hub.ensures c.in-Some.ensures in
    let within = open_within was.core.hub c.in-Some.client next.1 in
    omega (arith, next.0, within.1, was.invariant.linked.many, set_length was.links.links (c.in-Some.client - 1) c.listen_to-moved.new.link)

pub loop-client-preserved : goal.loop-client-preserved
loop-client-preserved g c =
    let was = c.loop-client in
    let now = c.listen_to-moved.new in
    let so = was.invariant in
    let client = c.in-Some.client in
    let next = subst (λ (h : Hub). IsNextOpen h was.last (Some client)) c.hub.ensures c.in-Some.ensures in
    let within = open_within was.core.hub client next.1 in
    let heard = c.listen_to-moved.ensures.heard in
    let but = but_turn client heard.why _ _ heard.turn in
    let seats = c.seat.new.self in
    let listener = c.of_mut-listener.result.now in
    let seated = heard_seated was.seats seats was.core (g.D.WriterControl.told was.desk) so.heard c.seat.ensures.listeners
    (λ number. subst (λ (h : Hub). IsSome (outbox_of h number) → HasSeat number was.seats → HasSeat number seats) c.hub-in-Some.ensures (c.seat.ensures.stay number)) in
    record {
      behind = λ later new rest.
          subst (λ (b : Bool). HaveVisited Heard 0 b (seen g.L.Link.told g.D.WriterControl.told g.J.Journal.events g.F.Folder.told c.args.links.now c.args.seats.now.listeners c.args.core.now c.args.desk.now c.args.journal.now c.args.folder.now) new)
          (sym (moved_or was.moved c.listen_to-moved.result later))
          (so.behind (c.listen_to-moved.result || later) new
          (subst (λ (ls : List Listener). HaveVisited Heard was.last (c.listen_to-moved.result || later) (seen g.L.Link.told g.D.WriterControl.told g.J.Journal.events g.F.Folder.told was.links ls was.core was.desk was.journal was.folder) new)
          c.seat.ensures.listeners
          (visited_next g.L.Link.told g.D.WriterControl.told g.J.Journal.events g.F.Folder.told Heard was.last client c.listen_to-moved.result later was.links c.of_mut-link.result.now now.link
          seats.listeners listener now.listener was.core now.core was.desk now.desk was.journal now.journal was.folder now.folder new next c.of_mut-link.ensures.value c.of_mut-listener.ensures.value heard rest)));
      linked = linked_again client was.links _ was.core now.core _ _ so.linked but (set_length was.links.links (client - 1) now.link) refl c.listen_to-moved.ensures.settled c.listen_to-moved.ensures.spare;
      heard = heard_again client seats listener now.listener was.core now.core _ _ seated c.of_mut-listener.ensures.value c.seat.ensures.has within.0 within.1 but c.listen_to-moved.ensures.limit heard.served
          c.listen_to-moved.ensures.desk;
      room = omega (arith, so.room, c.listen_to-moved.ensures.spare);
      same = same_hub-later _ _ _ so.same but.same;
      same_rest = g.met.D.WriterControl.rest_trans c.args.desk.now was.desk now.desk so.same_rest c.listen_to-moved.ensures.rest;
    }

pub returns-clause-visits : goal.returns-clause-visits
returns-clause-visits g c =
    let was = c.loop-client in
    let told = seen g.L.Link.told g.D.WriterControl.told g.J.Journal.events g.F.Folder.told in
    let end : Clients = told was.links was.seats.listeners was.core was.desk was.journal was.folder in
    let none = subst (λ (h : Hub). IsNextOpen h was.last None) c.hub.ensures c.in_default.ensures in
    subst (λ (b : Bool). HaveVisited Heard 0 b (told c.args.links.now c.args.seats.now.listeners c.args.core.now c.args.desk.now c.args.journal.now c.args.folder.now) end) (or_false was.moved)
    (was.invariant.behind false end (visited_none Heard was.last end none))
