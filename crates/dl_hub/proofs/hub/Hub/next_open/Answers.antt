use Rattle.std.proofs.Common.{◌∙◌, Some, None, arith, ap, sym}
use Rattle.std.specs.Prelude.{find, nat_le, map}
use Rattle.dl_hub.specs.State.{Hub, is_open}
use Rattle.dl_hub.specs.Kept.{places_of}
use Rattle.dl_hub.proofs.Places.{next_open, next_within}
use Rattle.dl_hub.proofs.hub.Hub.next_open.Goals as goal

pub returns-in-Some : goal.returns-in-Some
returns-in-Some c =
    next_open c.args.self.now c.args.after (Some c.in-Some.place)
    (sym c.in-Some.is ∙ c.first_from.ensures ∙ ap (λ places. find (λ place. nat_le c.args.after place) places) (c.deref.ensures.0 ∙ c.self.invariant.3)
    ∙ ap (λ (hub : Hub). find (λ place. nat_le c.args.after place) (places_of 0 (map is_open hub.clients))) c.self.view_is)

pub returns-in-None : goal.returns-in-None
returns-in-None c =
    next_open c.args.self.now c.args.after None
    (sym c.in-None.is ∙ c.first_from.ensures ∙ ap (λ places. find (λ place. nat_le c.args.after place) places) (c.deref.ensures.0 ∙ c.self.invariant.3)
    ∙ ap (λ (hub : Hub). find (λ place. nat_le c.args.after place) (places_of 0 (map is_open hub.clients))) c.self.view_is)

pub overflow_add-result : goal.overflow_add-result
overflow_add-result c =
    let within = next_within c.args.after c.self.inside.clients.items c.in-Some.place
    (sym c.in-Some.is ∙ c.first_from.ensures ∙ ap (λ places. find (λ place. nat_le c.args.after place) places) (c.deref.ensures.0 ∙ c.self.invariant.3)) in
    omega (arith, within, c.self.invariant.0.came)
