use Rattle.dl_args.proofs.ArgForms.{one_reading}
use Rattle.dl_args.proofs.laws.no_spelling_begins_another.Goals as goal

pub returns : goal.returns
returns c = one_reading
