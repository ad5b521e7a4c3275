use Rattle.std.proofs.Common.{◌≡◌, ℕ}
use Rattle.dl_script_model.specs.Steps.{note_levels}
use Rattle.dl_core.specs.Waiting.{waiting}
use Rattle.dl_world.specs.Follows.{Doing}
use Rattle.dl_world.specs.declared.world.World.{World}
use Rattle.dl_world.proofs.world.World.note_levels.Lts.Given as given

-- what hands out the rest, hands out all
pub record IsHanding (first now : World) : Type 0 where
  pub rest : (new : World) → Doing note_levels now new → Doing note_levels first new
  pub same : now ≡ record first { core = record first.core { registry = now.core.registry }; journal = now.journal }

abbrev pub invariant-loop : given.Live-loop → Type 0
invariant-loop l = IsHanding l.initial.self l.self

abbrev pub decreases-loop : given.Live-loop → ℕ
decreases-loop l = waiting l.self.core.registry
