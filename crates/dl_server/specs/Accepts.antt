-- What comes of the accepts of a round.
use Rattle.std.specs.Prelude.{◌≡◌, ◌⊎◌, ◌||◌, Bool, true, false, map}
use Rattle.dl_outside.specs.Links.{Links}
use Rattle.dl_outside.specs.Outside.{Stays}
use Rattle.dl_outside.specs.Told.{LinkTold, NetTold}
use Rattle.dl_rounds.specs.Arrivals.{Arrives, ConnectsAs}
use Rattle.dl_rounds.specs.declared.accepting.Arrival.{Arrival}
use Rattle.dl_rounds.specs.declared.accepting.Arrival.TheVariants as arrival
use Rattle.dl_channels.specs.Accepting.{Enters}
use Rattle.dl_channels.specs.declared.accepting.Entry.{Entry}
use Rattle.dl_channels.specs.declared.accepting.Entry.TheVariants as entry
use Rattle.dl_server.specs.State.{State, with_want}

-- ---- clients

-- a link came
abbrev pub has_arrived : Arrival → Bool
has_arrived (arrival.Client number) = true
has_arrived arrival.Dropped = true
has_arrived other = false

-- the net failed
abbrev pub has_failed : Arrival → Bool
has_failed arrival.Failed = true
has_failed other = false

-- memory was wanting
abbrev pub has_wanted : Arrival → Bool
has_wanted arrival.OutOfMemory = true
has_wanted other = false

-- One accept of a client: a link that came is the last one, and its client connected, or it was dropped.
pub record AcceptsClient {L : Type 0} (told : L → LinkTold) (came : Arrival) (net net_now : NetTold L) (old new : State) : Type 0 where
  pub links : Links L
  pub links_now : Links L
  pub were : old.clients ≡ map told links.links
  pub are : new.clients ≡ map told links_now.links
  pub arrives : Arrives told came net net_now links links_now old.dropped new.dropped
  pub connects : ConnectsAs came old.core new.core old.events new.events
  pub listens : Stays net.listens_on net_now.listens_on
  pub launched : Stays net.launched net_now.launched
  pub failed : new.no_clients ≡ has_failed came
  pub wanted : new.wanted ≡ (old.wanted || has_wanted came)
  pub rest : new ≡ record old {
    core = new.core;
    events = new.events;
    clients = new.clients;
    dropped = new.dropped;
    no_clients = new.no_clients;
    wanted = new.wanted;
  }

-- one accept of a client, whatever came of it: something moved where a link came
abbrev pub AcceptsOne : {L : Type 0} → (L → LinkTold) → Bool → NetTold L → NetTold L → State → State → Type 0
AcceptsOne told moved net net_now old new = (came : Arrival) × (moved ≡ has_arrived came) × AcceptsClient told came net net_now old new

-- There is none where one has failed before, and none where the journal has no room for another client.
abbrev pub AcceptsClientIfMay : {L : Type 0} → (L → LinkTold) → Bool → NetTold L → NetTold L → State → State → Type 0
AcceptsClientIfMay told moved net net_now old new =
    ((old.no_clients ≡ true) × (moved ≡ false) × (net_now ≡ net) × (new ≡ old))
    ⊎ ((old.no_clients ≡ false) × (moved ≡ false) × (net_now ≡ net) × (new ≡ with_want old) × (old.may_run_out ≡ true))
    ⊎ ((old.no_clients ≡ false) × AcceptsOne told moved net net_now old new)

-- ---- programs

-- a link came
abbrev pub has_entered : Entry → Bool
has_entered (entry.Channel number) = true
has_entered entry.Dropped = true
has_entered entry.Unopened = true
has_entered other = false

-- the net failed
abbrev pub has_failed_to_enter : Entry → Bool
has_failed_to_enter entry.Failed = true
has_failed_to_enter other = false

-- memory was wanting, for the link or for its channel
abbrev pub has_wanted_to_enter : Entry → Bool
has_wanted_to_enter entry.OutOfMemory = true
has_wanted_to_enter entry.Unopened = true
has_wanted_to_enter other = false

-- One accept of a program: a link that came is that of the channel that opened, or it was dropped.
pub record AcceptsProgram {L : Type 0} (told : L → LinkTold) (came : Entry) (net net_now : NetTold L) (old new : State) : Type 0 where
  pub links : Links L
  pub links_now : Links L
  pub were : old.programs ≡ map told links.links
  pub are : new.programs ≡ map told links_now.links
  pub enters : Enters told came net net_now links links_now old.dropped new.dropped old.channels new.channels
  pub listens : Stays net.listens_on net_now.listens_on
  pub launched : Stays net.launched net_now.launched
  pub failed : new.no_programs ≡ has_failed_to_enter came
  pub wanted : new.wanted ≡ (old.wanted || has_wanted_to_enter came)
  pub rest : new ≡ record old {
    channels = new.channels;
    programs = new.programs;
    dropped = new.dropped;
    no_programs = new.no_programs;
    wanted = new.wanted;
  }

-- there is none where one has failed before
abbrev pub AcceptsProgramIfMay : {L : Type 0} → (L → LinkTold) → Bool → NetTold L → NetTold L → State → State → Type 0
AcceptsProgramIfMay told moved net net_now old new =
    ((old.no_programs ≡ true) × (moved ≡ false) × (net_now ≡ net) × (new ≡ old))
    ⊎ ((old.no_programs ≡ false) × (came : Entry) × (moved ≡ has_entered came) × AcceptsProgram told came net net_now old new)
