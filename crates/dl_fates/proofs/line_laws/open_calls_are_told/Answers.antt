use Rattle.dl_fates.proofs.LineCounting.{loaded_told, refused_told}
use Rattle.dl_fates.proofs.line_laws.open_calls_are_told.Goals as goal

pub returns-clause-refused : goal.returns-clause-refused
returns-clause-refused c = refused_told

pub returns-clause-loaded : goal.returns-clause-loaded
returns-clause-loaded c = loaded_told
