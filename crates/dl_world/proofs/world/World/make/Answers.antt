use Rattle.std.proofs.Common.{length, ap, ◌∙◌, refl}
use Rattle.dl_model.specs.Setting.{Setting}
use Rattle.dl_core.specs.State.{Core}
use Rattle.dl_world.proofs.Begun.{world_begins, same_moment}
use Rattle.dl_world.proofs.world.World.make.Goals as goal

pub returns-clause-after : goal.returns-clause-after
returns-clause-after c = λ run set none stood.
    world_begins run _ (ap (λ (s : Setting). length s.ecu) set ∙ c.bytes-ecu.ensures.len) (ap (λ (s : Setting). s.clients) set) (c.in_ok-make.ensures.after run set none stood) (ap (λ (k : Core). k.hub.clients) c.in_ok-make.ensures.value)
    c.new.ensures.after (search) (search) c.none-2.ensures c.none-3.ensures (same_moment 0 0 0 _ _) refl
