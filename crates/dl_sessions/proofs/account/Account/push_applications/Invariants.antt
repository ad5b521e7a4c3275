use Rattle.std.proofs.Common.{◌≡◌, ◌++◌, take}
use Rattle.std.specs.List.{flat_map}
use Rattle.dl_sessions.specs.Printing.{application_by}
use Rattle.dl_sessions.proofs.account.Account.push_applications.Given as goal

abbrev pub invariant-loop-source : goal.invariant-loop-source
invariant-loop-source l = l.text.items ≡ l.initial.text.items ++ flat_map (application_by l.fn.self) (take l.source-index l.sources)
