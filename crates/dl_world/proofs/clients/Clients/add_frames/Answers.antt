use Rattle.std.proofs.Common.{◌-◌, ap, ◌∙◌}
use Rattle.std.proofs.Math.Seq.{map-set_same}
use Rattle.dl_world.specs.State.{Client, cutters_of}
use Rattle.dl_world.proofs.clients.Clients.add_frames.Goals as goal

pub returns-clause-cutters : goal.returns-clause-cutters
returns-clause-cutters c =
    map-set_same (λ (client : Client). client.cutter) c.self.inside.items.items (c.args.client - 1) _ c.index_mut.result.now
    (ap (λ (client : Client). client.cutter) (c.behind-self.view_is ∙ c.index_mut.ensures.value)) ∙ ap cutters_of c.self.view_is
