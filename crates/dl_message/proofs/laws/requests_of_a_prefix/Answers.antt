use Rattle.dl_message.proofs.Cuts.{requests-append, requests-bad}
use Rattle.dl_message.proofs.laws.requests_of_a_prefix.Goals as goal

pub returns-clause-prefix : goal.returns-clause-prefix
returns-clause-prefix c = λ a b. (_, requests-append a b)

pub returns-clause-bad : goal.returns-clause-bad
returns-clause-bad c = requests-bad
