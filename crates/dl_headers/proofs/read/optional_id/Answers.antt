use Rattle.std.proofs.Common.{◌∙◌}
use Rattle.dl_headers.proofs.Again.{id_again}
use Rattle.dl_headers.proofs.read.optional_id.Goals as goal

pub returns-clause-again : goal.returns-clause-again
returns-clause-again c = λ field rest there len e. id_again _ _ _ _ field rest c.id-id.ensures.read (there ∙ c.if-not-there.false) len e
