use Rattle.std.proofs.Common.{◌≡◌, ◌++◌, ◌∷◌, [], ◌-◌, eqb, not, refl, sym, ap, ◌∙◌, arith, rules}
use Rattle.std.specs.Option.{option_map}
use Rattle.dl_lemmas.proofs.Options.{some_is}
use Rattle.dl_hub.specs.State.{emptied, shut}
use Rattle.dl_hub.proofs.Places.{places-goes, retained}
use Rattle.dl_hub.proofs.Calls.{close-all}
use Rattle.dl_hub.proofs.hub.Hub.close.Goals as goal

pub unwrap-requires : goal.unwrap-requires
unwrap-requires c =
    let all = close-all c.self.inside.ecu c.self.inside.store c.self.inside.limit c.self.inside.clients.items c.self.inside.admitted c.self.inside.free.items c.self.invariant.0
    c.args.self.now c.args.client c.index_mut.result.now _ c.self.view_is c.index_mut.ensures.value c.requires in
    c.push.ensures.succeeds (omega (arith, all.2, c.self.inside.free.ok.0, c.self.invariant.2))

pub invariant_of-self : goal.invariant_of-self
invariant_of-self c =
    let all = close-all c.self.inside.ecu c.self.inside.store c.self.inside.limit c.self.inside.clients.items c.self.inside.admitted c.self.inside.free.items c.self.invariant.0
    c.args.self.now c.args.client c.index_mut.result.now _ c.self.view_is c.index_mut.ensures.value c.requires in
    let outbox : c.in-Some.outbox ≡ emptied all.0 = some_is (sym c.in-Some.is ∙ c.close.ensures.outbox ∙ ap (option_map emptied) all.1) in
    let more : c.push.new.self.items ≡ c.self.inside.free.items ++ c.in-Some.outbox ∷ [] = search rules in
    let places = retained _ (λ other. not (eqb other (c.args.client - 1))) _ (λ x b g y k. search rules) _ _ c.retain.ensures.filtered in (
      rw (c.close.ensures.closed, more, outbox) all.3,
      c.self.invariant.1,
      omega (arith, c.self.invariant.2, c.push.ensures.capacity),
      places ∙ rw c.close.ensures.closed (places-goes c.self.inside.clients.items (c.args.client - 1) (shut c.index_mut.result.now) c.self.inside.places.items refl c.self.invariant.3),
    )

pub returns-in-Some-clause-adds : goal.returns-in-Some-clause-adds
returns-in-Some-clause-adds c =
    rw c.close.ensures.closed
    (close-all c.self.inside.ecu c.self.inside.store c.self.inside.limit c.self.inside.clients.items c.self.inside.admitted c.self.inside.free.items c.self.invariant.0
    c.args.self.now c.args.client c.index_mut.result.now _ c.self.view_is c.index_mut.ensures.value c.requires).5

pub returns-in-Some-clause-value : goal.returns-in-Some-clause-value
returns-in-Some-clause-value c =
    rw c.close.ensures.closed
    (close-all c.self.inside.ecu c.self.inside.store c.self.inside.limit c.self.inside.clients.items c.self.inside.admitted c.self.inside.free.items c.self.invariant.0
    c.args.self.now c.args.client c.index_mut.result.now _ c.self.view_is c.index_mut.ensures.value c.requires).4

pub returns-in_default-clause-adds : goal.returns-in_default-clause-adds
returns-in_default-clause-adds c =
    rw c.close.ensures.closed
    (close-all c.self.inside.ecu c.self.inside.store c.self.inside.limit c.self.inside.clients.items c.self.inside.admitted c.self.inside.free.items c.self.invariant.0
    c.args.self.now c.args.client c.index_mut.result.now _ c.self.view_is c.index_mut.ensures.value c.requires).5

pub returns-in_default-clause-value : goal.returns-in_default-clause-value
returns-in_default-clause-value c =
    rw c.close.ensures.closed
    (close-all c.self.inside.ecu c.self.inside.store c.self.inside.limit c.self.inside.clients.items c.self.inside.admitted c.self.inside.free.items c.self.invariant.0
    c.args.self.now c.args.client c.index_mut.result.now _ c.self.view_is c.index_mut.ensures.value c.requires).4
