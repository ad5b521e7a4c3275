use Rattle.std.proofs.Common.{refl}
use Rattle.dl_live.proofs.Starting.{few, few_books, few_scripts, introduced, listed, made, nobody, place, room, whole}
use Rattle.dl_live.proofs.laws.what_was_assembled_can_be_played.Goals as goal

pub returns-clause-introduced : goal.returns-clause-introduced
returns-clause-introduced g c = introduced

pub returns-clause-nobody : goal.returns-clause-nobody
returns-clause-nobody g c = nobody

pub returns-clause-listed : goal.returns-clause-listed
returns-clause-listed g c = listed

pub returns-clause-place : goal.returns-clause-place
returns-clause-place g c = place

pub returns-clause-scripts : goal.returns-clause-scripts
returns-clause-scripts g c = few_scripts

pub returns-clause-books : goal.returns-clause-books
returns-clause-books g c = λ p can. (few_books p can, room p can)

pub returns-clause-whole : goal.returns-clause-whole
returns-clause-whole g c = λ p books can played. whole p can books played

pub returns-clause-made : goal.returns-clause-made
returns-clause-made g c = λ p books desk can played later. made p can books played desk later

pub returns-clause-few : goal.returns-clause-few
returns-clause-few g c = λ p books can played. few p can books played p.daemon.calls refl
