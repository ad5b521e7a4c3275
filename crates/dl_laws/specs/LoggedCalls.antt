-- Which calls a Log event stands for.
use Rattle.std.specs.Prelude.{◌≡◌, ℕ, List, Some}
use Rattle.dl_events.specs.declared.record.Record.{Record}
use Rattle.dl_events.specs.declared.record.Answer.TheVariants as answer
use Rattle.dl_model.specs.WholeAccounts.{record_named}

-- The call of this writer with this number was logged: its record stands among those of the writer, is of this application, and says that
-- its ring took it.
pub record WasLogged (records : List (List Record)) (app writer call : ℕ) : Type 0 where
  pub record_is : Record
  pub found : record_named records writer call ≡ Some record_is
  pub of_app : record_is.item.app ≡ app
  pub queued : record_is.answer ≡ answer.Queued
