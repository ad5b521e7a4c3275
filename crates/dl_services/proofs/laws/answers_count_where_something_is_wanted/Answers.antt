use Rattle.dl_services.proofs.Requests.{same_registry, same_reply}
use Rattle.dl_services.proofs.laws.answers_count_where_something_is_wanted.Goals as goal

pub returns-clause-registry : goal.returns-clause-registry
returns-clause-registry c = same_registry

pub returns-clause-reply : goal.returns-clause-reply
returns-clause-reply c = same_reply
