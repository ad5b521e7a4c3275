use Rattle.dl_trace.proofs.Alike.{one_list}
use Rattle.dl_trace.proofs.laws.a_folder_has_one_list.Goals as goal

pub returns : goal.returns
returns c = one_list
