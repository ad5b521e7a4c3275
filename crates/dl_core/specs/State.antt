-- What contracts see of the core.
use Rattle.std.specs.Prelude.{ℕ, Bool, List, Option}
use Rattle.dl_model.specs.declared.software.Software.{Software}
use Rattle.dl_registry.specs.Kept.{Kept}
use Rattle.dl_hub.specs.State.{Hub}
use Rattle.dl_trace.specs.State.{Trace}

-- The core: the control unit's id, the level of `ContextLogLevel`, which program it is of, whether clients may send data to
-- applications, and its parts as their own crates show them; a trace where one is kept.
pub record Core : Type 0 where
  pub ecu : List ℕ
  pub level : ℕ
  pub injection : Bool
  pub software : Software
  pub registry : Kept
  pub hub : Hub
  pub trace : Option Trace
