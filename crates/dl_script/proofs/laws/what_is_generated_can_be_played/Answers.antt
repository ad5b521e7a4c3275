use Rattle.dl_script.proofs.GeneratedScripts.{generated_plays, generated_bounded}
use Rattle.dl_script.proofs.laws.what_is_generated_can_be_played.Goals as goal

pub returns-clause-playable : goal.returns-clause-playable
returns-clause-playable c = generated_plays

pub returns-clause-bounded : goal.returns-clause-bounded
returns-clause-bounded c = generated_bounded
