use Rattle.std.proofs.Common.{◌≡◌, ◌++◌, drop}
use Rattle.dl_client.specs.Area.{held}
use Rattle.dl_own_log.specs.Parts.{parts_payload}
use Rattle.dl_own_log.proofs.part.push_parts.Given as goal

abbrev pub invariant-loop-part : goal.invariant-loop-part
invariant-loop-part l = held l.payload ++ parts_payload (drop l.part-index l.parts) ≡ held l.fn.payload ++ parts_payload l.fn.parts
