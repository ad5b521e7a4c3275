use Rattle.dl_script.proofs.ReadScripts.{read_plays, read_bounded}
use Rattle.dl_script.proofs.laws.what_is_read_can_be_played.Goals as goal

pub returns-clause-playable : goal.returns-clause-playable
returns-clause-playable c = read_plays

pub returns-clause-bounded : goal.returns-clause-bounded
returns-clause-bounded c = read_bounded
