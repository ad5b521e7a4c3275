-- Clients that come and go in turn.
use Rattle.std.specs.Prelude.{◌≡◌, List, ◌∷◌, ◌++◌}
use Rattle.dl_events.specs.declared.event.Event.{Event}
use Rattle.dl_events.specs.declared.event.Event.TheVariants.{Connect, Close}
use Rattle.dl_model.specs.Journal.{IsOpen}

-- a client comes that is not open, or one goes that is
abbrev pub MayComeOrGo : List Event → Event → Type 0
MayComeOrGo before (Connect client) = IsOpen client before → ⊥
MayComeOrGo before (Close client why) = IsOpen client before
MayComeOrGo before _ = Unit {0}

-- in a journal clients come and go in turn: so it is of each event
abbrev pub ComeAndGo : List Event → Type 0
ComeAndGo events = (before after : List Event) (event : Event) → events ≡ before ++ event ∷ after → MayComeOrGo before event
