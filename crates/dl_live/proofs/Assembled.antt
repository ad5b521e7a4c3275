-- What the daemon of a run is made of.
use Rattle.dl_loop.specs.Made.{IsBegun, IsUntouched}
use Rattle.dl_loop.proofs.NewDesks.{new_but_untouched}
use Rattle.dl_opening.specs.Scenario.{specs_of}
use Rattle.dl_opening.proofs.Runnable.{are_fit}
use Rattle.dl_script.specs.Playable.{IsRunnable}
use Rattle.dl_live.specs.declared.beginning.Begun.{Begun}
use Rattle.dl_live.specs.declared.staging.Stage.{Stage}
use Rattle.dl_live.specs.Stage.{IsSetFor}

pub is_begun : (begun : Begun) (stage : Stage) → IsSetFor begun stage → IsBegun stage.core
unfolding IsBegun
is_begun begun stage set = (begun.conf, begun.stored, begun.trace, set.core)

pub is_untouched : (begun : Begun) (stage : Stage) → IsRunnable begun.scenario → IsSetFor begun stage → IsUntouched stage.opened.desk
is_untouched begun stage runnable set = new_but_untouched stage.opened.desk (specs_of begun.scenario) (are_fit begun.scenario runnable).few set.opened.desk
