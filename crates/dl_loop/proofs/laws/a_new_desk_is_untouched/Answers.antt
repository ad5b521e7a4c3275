use Rattle.dl_loop.proofs.NewDesks.{new_but_untouched, new_untouched}
use Rattle.dl_loop.proofs.laws.a_new_desk_is_untouched.Goals as goal

pub returns-clause-new : goal.returns-clause-new
returns-clause-new c = new_untouched

pub returns-clause-with_writers : goal.returns-clause-with_writers
returns-clause-with_writers c = new_but_untouched
