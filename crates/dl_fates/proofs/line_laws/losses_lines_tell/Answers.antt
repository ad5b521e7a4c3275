use Rattle.dl_fates.proofs.Telling.{none_left, told}
use Rattle.dl_fates.proofs.line_laws.losses_lines_tell.Goals as goal

pub returns-clause-next : goal.returns-clause-next
returns-clause-next c = λ setting answers apid app steps done is some. told setting answers app apid steps done is some

pub returns-clause-all : goal.returns-clause-all
returns-clause-all c = λ setting answers apid app done is some. none_left setting app apid done is some
