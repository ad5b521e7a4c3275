-- An application that is lent out of its list.
use Rattle.std.specs.Prelude.{ℕ, List, slice_set}
use Rattle.std.specs.Borrow.{Lends, MutBor, Fml}
use Rattle.dl_desk.specs.Apps.{AppState}
use Rattle.dl_desk.specs.contracts.app.App.{the_row as app_row}
use Rattle.dl_desk.specs.contracts.app.AppList.{the_row as list_row}

-- r lends the application at a place: what is last left behind r is the one at that place, and the others stay
abbrev pub LendsApp : MutBor (List AppState) → ℕ → MutBor AppState → Fml
LendsApp list place r = Lends list_row app_row list r (slice_set list.now place)
