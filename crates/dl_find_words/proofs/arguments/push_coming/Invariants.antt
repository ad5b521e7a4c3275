use Rattle.std.proofs.Common.{◌≡◌, ◌++◌, length}
use Rattle.dl_find_words.specs.Arguments.{coming_text}
use Rattle.dl_find_words.proofs.arguments.push_coming.Given as goal

-- the arguments so far
abbrev pub invariant-loop-next : goal.invariant-loop-next
invariant-loop-next l = l.text.items ++ coming_text l.unread ≡ l.fn.text.items ++ coming_text l.fn.reader

abbrev pub decreases-loop-next : goal.decreases-loop-next
decreases-loop-next l = length l.unread.args
