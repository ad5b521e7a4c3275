-- The fields of an application, and what is true of them.
use Rattle.std.specs.Prelude.{◌<◌, ◌≤◌, All, vec_len}
use Rattle.dl_bytes.specs.UserMessage.{IsFit}
use Rattle.dl_desk.specs.Apps.{AppState}
use Rattle.dl_desk.specs.declared.app.App.TheInside as app

abbrev pub app_state : app.Inside → AppState
app_state a = record { number = a.number; apid = a.apid; hello = a.hello.items; started = a.started }

-- there is a registration of itself, and one for each of at most 64 contexts; each is within the limits
pub record IsApp (a : app.Inside) : Type 0 where
  pub number : a.number < 16
  pub own : 1 ≤ vec_len a.hello
  pub few : vec_len a.hello ≤ 65
  pub fit : All IsFit a.hello.items
