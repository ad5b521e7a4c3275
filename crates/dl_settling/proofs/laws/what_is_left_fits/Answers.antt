use Rattle.dl_settling.proofs.Rooms.{claims_left_fit, left_fits}
use Rattle.dl_settling.proofs.laws.what_is_left_fits.Goals as goal

pub returns-clause-calls : goal.returns-clause-calls
returns-clause-calls c = left_fits

pub returns-clause-claims : goal.returns-clause-claims
returns-clause-claims c = claims_left_fit
