use Rattle.std.proofs.Common.{◌≡◌, ◌-◌, ◌<◌, Bool, false, Some, None, List, length, refl, sym, ap, subst, ◌∙◌, arith}
use Rattle.std.specs.Prelude.{get_or, slice_get, slice_set, ◌||◌}
use Rattle.std.proofs.lemmas.List.{length-map}
use Rattle.std.proofs.lemmas.Option.{slice_get-get_or}
use Rattle.dl_outside.specs.Links.{Links}
use Rattle.dl_registry.specs.Kept.{Kept, owed_change}
use Rattle.dl_hub.specs.State.{Hub, IsNextOpen}
use Rattle.dl_rounds.specs.declared.listener.Listener.{Listener}
use Rattle.dl_rounds.specs.Clients.{Clients, HaveVisited}
use Rattle.dl_rounds.specs.Rounds.{seen}
use Rattle.dl_rounds.specs.Ready.{fresh_listener}
use Rattle.dl_rounds.specs.Visits.{Pumped}
use Rattle.dl_rounds.proofs.ByPlace.{set_length}
use Rattle.dl_rounds.proofs.OneClient.{but_pump}
use Rattle.dl_rounds.proofs.PumpMoves.{some_desk, some_folder}
use Rattle.dl_rounds.proofs.ReadyAgain.{heard_still, linked_again, room_for}
use Rattle.dl_rounds.proofs.Turned.{open_within}
use Rattle.dl_rounds.proofs.Visiting.{moved_or, visited_next, visited_none}
use Rattle.dl_rounds.proofs.rounds.pump_all.Goals as goal
use Rattle.dl_lemmas.proofs.Lists.{set_again}
use Rattle.dl_core.proofs.Admitted.{same_hub-later}
use Rattle.dl_lemmas.proofs.Bools.{or_false}

pub pump_to-moved-requires-clause-spare : goal.pump_to-moved-requires-clause-spare
pump_to-moved-requires-clause-spare g c =
    let was = c.loop-client in
    let next = subst (λ (h : Hub). IsNextOpen h was.last (Some c.in-Some.client)) c.hub.ensures c.in-Some.ensures in
    room_for c.in-Some.client was.links was.core (g.J.Journal.spare was.journal) was.invariant.linked next.1

pub loop-client-smaller : goal.loop-client-smaller
loop-client-smaller g c =
    let was = c.loop-client in
    let next = subst (λ (h : Hub). IsNextOpen h was.last (Some c.in-Some.client)) c.hub.ensures c.in-Some.ensures in
    let within = open_within was.core.hub c.in-Some.client next.1 in
    omega (arith, next.0, within.1, was.invariant.linked.many, set_length was.links.links (c.in-Some.client - 1) c.pump_to-moved.new.link)

pub loop-client-preserved : goal.loop-client-preserved
loop-client-preserved g c =
    let was = c.loop-client in
    let now = c.pump_to-moved.new in
    let so = was.invariant in
    let client = c.in-Some.client in
    let next = subst (λ (h : Hub). IsNextOpen h was.last (Some client)) c.hub.ensures c.in-Some.ensures in
    let within = open_within was.core.hub client next.1 in
    let some = c.pump_to-moved.ensures.pumped some_desk some_folder fresh_listener in
    let but = but_pump client some.why _ _ _ _ some.pump in
    let settled = ap (λ (k : Kept). owed_change k) c.pump_to-moved.ensures.registry ∙ so.linked.settled in
    record {
      behind = λ desk folder listeners enough later new rest.
          let told = seen g.L.Link.told (λ d. d) g.J.Journal.events (λ f. f) in
          let start : Clients = told c.args.links.now listeners c.args.core.now desk c.args.journal.now folder in
          let below : client - 1 < length listeners = omega (arith, within.0, within.1, so.linked.many, so.many, enough) in
          let listener = get_or listeners (client - 1) fresh_listener in
          let ear : slice_get listeners (client - 1) ≡ Some listener = slice_get-get_or listeners (client - 1) fresh_listener below in
          let links_now : Links g.row.L.Denot = record { links = slice_set was.links.links (client - 1) now.link; room = was.links.room } in
          let again = subst (λ (ls : List Listener). HaveVisited Pumped client later (told links_now ls now.core desk now.journal folder) new) (sym (set_again listeners (client - 1) listener ear)) rest in
          subst (λ (b : Bool). HaveVisited Pumped 0 b start new) (sym (moved_or was.moved c.pump_to-moved.result later))
          (so.behind desk folder listeners enough (c.pump_to-moved.result || later) new
          (visited_next g.L.Link.told (λ d. d) g.J.Journal.events (λ f. f) Pumped was.last client c.pump_to-moved.result later was.links c.of_mut.result.now now.link listeners listener listener was.core now.core
          desk desk was.journal now.journal folder folder new next c.of_mut.ensures.value ear (c.pump_to-moved.ensures.pumped desk folder listener) again));
      linked = linked_again client was.links _ was.core now.core _ _ so.linked but (set_length was.links.links (client - 1) now.link) refl settled c.pump_to-moved.ensures.spare;
      heard = λ seated desk heard. heard_still client seated was.core now.core desk (so.heard seated desk heard) but next.1 c.pump_to-moved.ensures.registry c.pump_to-moved.ensures.served;
      room = omega (arith, so.room, c.pump_to-moved.ensures.spare);
      same = same_hub-later _ _ _ so.same but.same;
      many = set_length was.links.links (client - 1) now.link ∙ so.many;
    }

pub returns-clause-visits : goal.returns-clause-visits
returns-clause-visits g c = λ desk folder listeners enough.
    let was = c.loop-client in
    let told = seen g.L.Link.told (λ d. d) g.J.Journal.events (λ f. f) in
    let end : Clients = told was.links listeners was.core desk was.journal folder in
    let none = subst (λ (h : Hub). IsNextOpen h was.last None) c.hub.ensures c.in_default.ensures in
    subst (λ (b : Bool). HaveVisited Pumped 0 b (told c.args.links.now listeners c.args.core.now desk c.args.journal.now folder) end) (or_false was.moved)
    (was.invariant.behind desk folder listeners (omega (arith, enough, length-map c.args.links.now.links g.L.Link.told)) false end (visited_none Pumped was.last end none))
