use Rattle.std.proofs.Common.{◌≡◌, ◌<◌, ◌+◌, ◌++◌, ◌∷◌, [], length, map, eqb, sym, ap, ◌∙◌, arith, rules}
use Rattle.std.specs.Prelude.{option_to_list}
use Rattle.dl_hub.specs.State.{Client, Hub, is_open}
use Rattle.dl_hub.specs.Kept.{places_of}
use Rattle.dl_hub.proofs.Calls.{room-comes, comes-all, few_places, open_one, unanswered_one}
use Rattle.dl_hub.proofs.Places.{places-comes}
use Rattle.dl_hub.proofs.hub.Hub.connect.Goals as goal

pub comer-client-requires-clause-room : goal.comer-client-requires-clause-room
comer-client-requires-clause-room c = (room-comes c.self.inside.ecu c.self.inside.store c.self.inside.limit c.self.inside.clients.items c.self.inside.admitted c.self.inside.free.items c.self.invariant.0 c.pop.new.self.items c.in-Some.outbox (c.pop.ensures.items ∙ ap (λ o. c.pop.new.self.items ++ option_to_list o) c.in-Some.is)).2

pub push-requires-2 : goal.push-requires-2
push-requires-2 c = (
  omega arith,
  few_places c.self.inside.clients.items c.self.inside.places.items c.self.inside.free.items c.pop.new.self.items c.in-Some.outbox c.self.invariant.0.outboxes
      (c.pop.ensures.items ∙ ap (λ o. c.pop.new.self.items ++ option_to_list o) c.in-Some.is) c.self.invariant.3,
)

pub invariant_of-self-2 : goal.invariant_of-self-2
invariant_of-self-2 c =
    let few : length c.self.inside.clients.items < c.self.inside.limit = omega (arith, c.if-place-self.false, c.len-place.ensures, c.self.inside.clients.ok.0, c.self.invariant.0.came) in
    let all = comes-all c.self.inside.ecu c.self.inside.store c.self.inside.limit c.self.inside.clients.items c.self.inside.admitted c.self.inside.free.items c.self.invariant.0 c.pop.new.self.items c.in-Some.outbox (c.pop.ensures.items ∙ ap (λ o. c.pop.new.self.items ++ option_to_list o) c.in-Some.is)
    c.args.self.now _ c.self.view_is (ap (λ k. eqb k 8) (sym c.self.inside.free.ok.0 ∙ sym c.len-is_first.ensures)) few in
    let more : c.push.new.self.items ≡ c.self.inside.clients.items ++ c.comer-client.result ∷ [] = search rules in
    let there = ap is_open c.comer-client.ensures.client ∙ open_one (eqb c.len-is_first.result 8) c.self.inside.ecu c.in-Some.outbox.capacity c.self.inside.store in (
      rw (c.comer-client.ensures.left, more, c.comer-client.ensures.client) all.0,
      omega (arith, c.self.invariant.1, c.push.ensures.capacity),
      omega (arith, c.self.invariant.2, c.pop.ensures.capacity),
      c.push-2.ensures.items
          ∙ ap (λ place. c.self.inside.places.items ++ place ∷ []) (c.len-place.ensures ∙ c.self.inside.clients.ok.0)
          ∙ places-comes c.self.inside.clients.items c.comer-client.result c.self.inside.places.items there c.self.invariant.3
          ∙ ap (λ clients. places_of 0 (map is_open clients)) (sym more),
    )

pub returns-clause-adds : goal.returns-clause-adds
returns-clause-adds c =
    let few : length c.self.inside.clients.items < c.self.inside.limit = omega (arith, c.if-place-self.false, c.len-place.ensures, c.self.inside.clients.ok.0, c.self.invariant.0.came) in
    let all = comes-all c.self.inside.ecu c.self.inside.store c.self.inside.limit c.self.inside.clients.items c.self.inside.admitted c.self.inside.free.items c.self.invariant.0 c.pop.new.self.items c.in-Some.outbox (c.pop.ensures.items ∙ ap (λ o. c.pop.new.self.items ++ option_to_list o) c.in-Some.is)
    c.args.self.now _ c.self.view_is (ap (λ k. eqb k 8) (sym c.self.inside.free.ok.0 ∙ sym c.len-is_first.ensures)) few in
    let more : c.push.new.self.items ≡ c.self.inside.clients.items ++ c.comer-client.result ∷ [] = search rules in
    let number : c.len-place.result + 1 ≡ length c.self.inside.clients.items + 1 = ap (λ n. n + 1) (c.len-place.ensures ∙ c.self.inside.clients.ok.0) in
    rw (number, c.comer-client.ensures.left, more, c.comer-client.ensures.client) all.1

pub returns-clause-comes : goal.returns-clause-comes
returns-clause-comes c =
    let more : c.push.new.self.items ≡ c.self.inside.clients.items ++ c.comer-client.result ∷ [] = search rules in
    let first = eqb c.len-is_first.result 8 in
    let is = c.comer-client.ensures.client in (
      c.comer-client.result,
      more ∙ ap (λ (h : Hub). h.clients ++ c.comer-client.result ∷ []) c.self.view_is,
      ap is_open is ∙ open_one first c.self.inside.ecu c.in-Some.outbox.capacity c.self.inside.store,
      ap (λ (x : Client). x.replies) is ∙ unanswered_one first c.self.inside.ecu c.in-Some.outbox.capacity c.self.inside.store,
    )
