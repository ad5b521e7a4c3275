use Rattle.dl_core.proofs.LaterFolders.{folder_both, folder_none}
use Rattle.dl_core.proofs.folder_laws.a_folder_goes_on.Goals as goal

pub returns-clause-none : goal.returns-clause-none
returns-clause-none c = folder_none

pub returns-clause-both : goal.returns-clause-both
returns-clause-both c = folder_both
