use Rattle.std.proofs.Common.{refl}
use Rattle.dl_find.proofs.search.Search.new.Goals as goal

pub returns : goal.returns
returns c = record { question_is = refl; finding_is = c.no_finding.ensures c.args.question }
