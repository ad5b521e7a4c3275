use Rattle.dl_model.proofs.Numbered.{least_free-is_free, below_least_free, least_free-le-length}
use Rattle.dl_model.proofs.registry_laws.least_free_number.Goals as goal

pub returns-clause-free : goal.returns-clause-free
returns-clause-free c = least_free-is_free

pub returns-clause-least : goal.returns-clause-least
returns-clause-least c = below_least_free

pub returns-clause-bound : goal.returns-clause-bound
returns-clause-bound c = least_free-le-length
