use Rattle.std.proofs.Common.{◌≡◌, ◌++◌, take}
use Rattle.std.specs.List.{flat_map}
use Rattle.dl_find_words.specs.Arguments.{letter_text}
use Rattle.dl_find_words.proofs.arguments.push_letters.Given as goal

-- the bytes so far were added
abbrev pub invariant-loop-letter : goal.invariant-loop-letter
invariant-loop-letter l = l.text.items ≡ l.initial.text.items ++ flat_map letter_text (take l.letter-index l.letters)
