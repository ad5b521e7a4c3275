use Rattle.std.proofs.Common.{◌≡◌, ◌++◌, take}
use Rattle.std.specs.List.{flat_map}
use Rattle.dl_picture.specs.Element.{letter}
use Rattle.dl_picture.proofs.element.push_escaped.Given as goal

abbrev pub invariant-loop-letter : goal.invariant-loop-letter
invariant-loop-letter l = l.text.items ≡ l.initial.text.items ++ flat_map letter (take l.letter-index l.letters)
