use Rattle.std.proofs.Common.{◌-◌, map, sym, ap, ◌∙◌}
use Rattle.std.specs.Prelude.{slice_set}
use Rattle.dl_hub.specs.State.{Client, is_open}
use Rattle.dl_hub.specs.Kept.{places_of}
use Rattle.dl_hub.proofs.Calls.{took-all}
use Rattle.dl_hub.proofs.hub.Hub.took.Goals as goal

pub invariant_of-self : goal.invariant_of-self
invariant_of-self c =
    let all = took-all c.self.inside.ecu c.self.inside.store c.self.inside.limit c.self.inside.clients.items c.self.inside.admitted c.self.inside.free.items c.self.invariant.0
    c.args.self.now c.args.client c.args.count c.index_mut.result.now _ c.self.view_is c.index_mut.ensures.value c.requires in
    let places = λ (client : Client). places_of 0 (map is_open (slice_set c.self.inside.clients.items (c.args.client - 1) client)) in
    (rw c.consume.ensures all.0, c.self.invariant.1, c.self.invariant.2, c.self.invariant.3 ∙ ap (places_of 0) (sym all.2) ∙ ap places (sym c.consume.ensures))

pub returns : goal.returns
returns c =
    rw c.consume.ensures
    (took-all c.self.inside.ecu c.self.inside.store c.self.inside.limit c.self.inside.clients.items c.self.inside.admitted c.self.inside.free.items c.self.invariant.0
    c.args.self.now c.args.client c.args.count c.index_mut.result.now _ c.self.view_is c.index_mut.ensures.value c.requires).1
