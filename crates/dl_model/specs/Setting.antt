-- What does not change in a run.
use Rattle.std.specs.Prelude.{ℕ, Bool, List}
use Rattle.dl_bytes.specs.declared.conf.Stored.{Stored}
use Rattle.dl_model.specs.declared.software.Software.{Software}

-- The configuration (the control unit's id, the level of `ContextLogLevel`, the bytes of the backlog, where trace files
-- are and how many bytes one of them and all of them have, and whether clients may send data to applications), the stored
-- configuration that was read, the version at which each slot begins, the most clients that may come, and which program it is.
pub record Setting : Type 0 where
  pub ecu : List ℕ
  pub level : ℕ
  pub buffer : ℕ
  pub directory : List ℕ
  pub file_size : ℕ
  pub max_size : ℕ
  pub injection : Bool
  pub stored : Stored
  pub first : ℕ
  pub clients : ℕ
  pub software : Software
