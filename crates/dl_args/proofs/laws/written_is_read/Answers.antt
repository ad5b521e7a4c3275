use Rattle.std.proofs.Common.{arith}
use Rattle.dl_args.proofs.WrittenForms.{written_is_spelling, written_again}
use Rattle.dl_args.proofs.laws.written_is_read.Goals as goal

pub returns-clause-added : goal.returns-clause-added
returns-clause-added c = λ a payload value room. record { value = value; len = omega (arith, room.0) }

pub returns-clause-spelling : goal.returns-clause-spelling
returns-clause-spelling c = written_is_spelling

pub returns-clause-again : goal.returns-clause-again
returns-clause-again c = written_again
