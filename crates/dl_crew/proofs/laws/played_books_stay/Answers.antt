use Rattle.dl_crew.proofs.Pairs.{same_bases, same_numbers, still_made, still_whole}
use Rattle.dl_crew.proofs.laws.played_books_stay.Goals as goal

pub returns-clause-numbered : goal.returns-clause-numbered
returns-clause-numbered c = same_numbers

pub returns-clause-whole : goal.returns-clause-whole
returns-clause-whole c = still_whole

pub returns-clause-made : goal.returns-clause-made
returns-clause-made c = still_made

pub returns-clause-bases : goal.returns-clause-bases
returns-clause-bases c = same_bases
