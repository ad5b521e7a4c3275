use Rattle.std.proofs.Common.{◌≡◌, ◌++◌, take}
use Rattle.dl_fates.specs.Written.{heard_by}
use Rattle.dl_fates.proofs.rows.push_all_heard.Given as goal

abbrev pub invariant-loop-fates : goal.invariant-loop-fates
invariant-loop-fates l = l.text.items ≡ l.initial.text.items ++ heard_by (take l.fates-index l.clients) l.call
