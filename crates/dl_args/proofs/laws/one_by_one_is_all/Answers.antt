use Rattle.std.proofs.Common.{length}
use Rattle.dl_args.proofs.ArgLoop.{coming_is}
use Rattle.dl_args.proofs.Parts.{at_front}
use Rattle.dl_args.proofs.laws.one_by_one_is_all.Goals as goal

pub returns : goal.returns
returns c = λ order count payload. coming_is (length payload) count (at_front order payload)
