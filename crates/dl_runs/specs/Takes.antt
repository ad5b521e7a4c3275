-- What the daemon takes of a ring, told by what the ring took.
use Rattle.dl_model.specs.Accounts.{Took, TookCall, TookClaim}
use Rattle.dl_script_model.specs.Marks.{Pushed, OfCall, OfClaim}

abbrev pub as_took : Pushed → Took
as_took (OfCall call) = TookCall call.item.writer call.item.call
as_took (OfClaim claim) = TookClaim claim
