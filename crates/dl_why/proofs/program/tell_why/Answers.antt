use Rattle.std.proofs.Common.{refl}
use Rattle.std.specs.Prelude.{Ok, Err}
use Rattle.dl_why.proofs.program.tell_why.Goals as goal

pub returns-in-Ok : goal.returns-in-Ok
returns-in-Ok g c = record { read = Ok c.in-Ok.asked; says = c.in-Ok.ensures; runs = c.run_asked.ensures }

pub returns-in-Err : goal.returns-in-Err
returns-in-Err g c = record { read = Err c.in-Err.fault; says = c.in-Err.ensures; runs = (refl, refl, c.answer_fault.ensures) }
