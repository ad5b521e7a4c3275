use Rattle.dl_core.proofs.LaterFolders.{folder_asked}
use Rattle.dl_core.proofs.folder_laws.a_request_asks_the_folder.Goals as goal

pub returns : goal.returns
returns c = folder_asked
