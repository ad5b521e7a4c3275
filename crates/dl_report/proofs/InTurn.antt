-- In a well-formed journal clients come and go in turn.
use Rattle.std.proofs.Common.{List, [], ◌∷◌, ◌++◌, subst}
use Rattle.dl_events.specs.declared.event.Event.{Event}
use Rattle.dl_events.specs.declared.event.Event.TheVariants as event
use Rattle.dl_model.specs.Frames.{FrameSource}
use Rattle.dl_model.specs.Journal.{IsWellFormed}
use Rattle.dl_model.specs.Setting.{Setting}
use Rattle.dl_laws.proofs.ClientStays.{all_speak, second_speak, none_open, quiet_before}
use Rattle.dl_report.specs.Clients.{ComeAndGo, MayComeOrGo}

pub formed_turns : (setting : Setting) (source : FrameSource) (events : List Event) → IsWellFormed setting source events → ComeAndGo events
formed_turns setting source events formed before after e parts = by_kind e (subst (IsWellFormed setting source) parts formed) where
  by_kind : (e : Event) → IsWellFormed setting source (before ++ e ∷ after) → MayComeOrGo before e
  by_kind (event.Connect client) formed = none_open client before (quiet_before setting source client before after formed)
  by_kind (event.Close client why) formed =
      (second_speak [] before (event.Close client why ∷ after) (all_speak setting source [] (before ++ event.Close client why ∷ after) formed)).0
  by_kind (event.Request client frame done) formed = tt
  by_kind (event.Claim claim moment) formed = tt
  by_kind (event.Level slot level) formed = tt
  by_kind (event.Log app writer call moment) formed = tt
  by_kind (event.Lost app count moment) formed = tt
  by_kind (event.User channel msg moment) formed = tt
