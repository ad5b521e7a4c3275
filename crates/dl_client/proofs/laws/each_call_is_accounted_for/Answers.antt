use Rattle.dl_client.proofs.Adding.{all_add_up}
use Rattle.dl_client.proofs.laws.each_call_is_accounted_for.Goals as goal

pub returns : goal.returns
returns c = all_add_up
