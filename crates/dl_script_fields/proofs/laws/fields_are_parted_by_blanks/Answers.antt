use Rattle.dl_script_fields.proofs.JoinedFields.{parted}
use Rattle.dl_script_fields.proofs.laws.fields_are_parted_by_blanks.Goals as goal

pub returns : goal.returns
returns c = parted
