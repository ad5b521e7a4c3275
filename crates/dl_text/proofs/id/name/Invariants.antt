use Rattle.std.proofs.Common.{◌≡◌, length}
use Rattle.dl_text.specs.IdText.{name_of}
use Rattle.dl_text.proofs.id.name.Given as goal

-- what is left has the name of the whole
abbrev pub invariant-loop-name : goal.invariant-loop-name
invariant-loop-name l = name_of l.name ≡ name_of l.fn.bytes

abbrev pub decreases-loop-name : goal.decreases-loop-name
decreases-loop-name l = length l.name
