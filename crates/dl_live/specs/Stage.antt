-- What a run plays, before the net listens.
use Rattle.std.specs.Prelude.{◌≡◌}
use Rattle.dl_core.specs.Follows.{Begins}
use Rattle.dl_core.specs.Settings as settings
use Rattle.dl_opening.specs.Opening.{IsOpened}
use Rattle.dl_opening.specs.Scenario.{all_calls}
use Rattle.dl_live.specs.declared.beginning.Begun.{Begun}
use Rattle.dl_live.specs.declared.staging.Stage.{Stage}
use Rattle.dl_live.specs.Account.{setting}

-- All that the scenario declares stands, and the core has noted nothing: in each run of this setting over the trace files that the trace found it
-- stands for no event.
pub record IsSetFor (begun : Begun) (stage : Stage) : Type 0 where
  pub conf : stage.conf ≡ begun.conf
  pub filters : stage.filters ≡ begun.filters
  pub port : stage.port ≡ begun.port
  pub calls : stage.calls ≡ all_calls begun.scenario
  pub opened : IsOpened begun.scenario stage.opened
  pub core : stage.core ≡ settings.begun begun.conf begun.stored 0 begun.trace
  pub begins : Begins (setting begun) begun.trace stage.core
