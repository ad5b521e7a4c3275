use Rattle.std.proofs.Common.{ℕ, length}
use Rattle.std.specs.Option.{option_map_or}
use Rattle.dl_hub.specs.State.{outbox_of}
use Rattle.dl_world.proofs.Emptying.{IsEmptying}
use Rattle.dl_world.proofs.delivery.empty_outbox.Lts.Given as given

abbrev pub invariant-loop-piece : given.Live-loop-piece → Type 0
invariant-loop-piece l = IsEmptying l.client l.fn.core l.core l.bytes.items

abbrev pub decreases-loop-piece : given.Live-loop-piece → ℕ
decreases-loop-piece l = option_map_or (λ outbox. length outbox.bytes) (outbox_of l.core.hub l.client) 0
