-- Events in their turn, one after the other.
use Rattle.std.proofs.Common.{◌≡◌, false, List, [], ◌∷◌, ◌++◌, ◌∙◌}
use Rattle.std.specs.List.{list_any}
use Rattle.std.proofs.lemmas.Bool.{or_from}
use Rattle.std.proofs.lemmas.List.Folds.{list_any-append}
use Rattle.dl_events.specs.declared.event.Event.{Event}
use Rattle.dl_model.specs.Journal.{is_stop, IsRunning}
use Rattle.dl_model.proofs.LongerJournals.{goes_on, in_turn_longer}
use Rattle.dl_outside.specs.Told.{FolderTold}
use Rattle.dl_core.specs.State.{Core}
use Rattle.dl_core.specs.Follows.{Adds, source_of}
use Rattle.dl_core.specs.Next.{ComeInTurn, ComesInTurn, Makes, StaysFormed}

-- the daemon runs on where none of these is a stop
pub running_on : (past more : List Event) → IsRunning past → list_any is_stop more ≡ false → IsRunning (past ++ more)
running_on past more running none = list_any-append is_stop past more ∙ or_from (list_any is_stop past) (list_any is_stop more) running none

pub one_comes : (core : Core) (event : Event) → ComesInTurn event [] core → ComeInTurn (event ∷ []) core
one_comes core event turn = λ run past taken is. (turn run past taken is, tt)

pub both_come : (core between : Core) (first more : List Event) → Makes first core between → ComeInTurn first core → ComeInTurn more between → ComeInTurn (first ++ more) core
both_come core between first more makes one other = λ run past taken is.
    let made = makes run past taken is in
    in_turn_longer run.setting (source_of run) past first more (one run past taken is) (other run (past ++ first) made.0 made.1)

pub stays_formed : (core : Core) (events : List Event) → ComeInTurn events core → StaysFormed events core
stays_formed core events turns = λ run past taken is formed. goes_on run.setting (source_of run) past events formed (turns run past taken is)
