-- One round of a server.
use Rattle.std.specs.Prelude.{◌≡◌, ◌||◌, Bool}
use Rattle.dl_bytes.specs.declared.moment.Moment.{Moment}
use Rattle.dl_outside.specs.Told.{LinkTold, NetTold}
use Rattle.dl_server.specs.Accepts.{AcceptsClientIfMay, AcceptsProgramIfMay}
use Rattle.dl_server.specs.State.{State}
use Rattle.dl_server.specs.Steps.{HearsClientsIfMay, HearsPrograms, PartsClients, PumpsClientsIfMay, PumpsPrograms}

-- one accept of a client, and then one of a program
pub record AcceptsAll {L : Type 0} (told : L → LinkTold) (net net_now users users_now : NetTold L) (old new : State) : Type 0 where
  pub came : Bool
  pub accepted : State
  pub accepts : AcceptsClientIfMay told came net net_now old accepted
  pub entered : Bool
  pub enters : AcceptsProgramIfMay told entered users users_now accepted new

-- a link came
abbrev pub has_come : {L : Type 0} {told : L → LinkTold} {net net_now users users_now : NetTold L} {old new : State}
    → AcceptsAll told net net_now users users_now old new → Bool
has_come accepts = accepts.came || accepts.entered

-- Each open client was listened to, in the order of their numbers, and then each channel, in the order in which they came.
pub record Hears (old new : State) : Type 0 where
  pub asked : Bool
  pub served : State
  pub clients : HearsClientsIfMay asked old served
  pub moment : Moment
  pub moved : Bool
  pub programs : HearsPrograms moment moved served new

-- a client or a program said something, or was closed
abbrev pub has_heard : {old new : State} → Hears old new → Bool
has_heard hears = hears.asked || hears.moved

-- Each open client was sent what waits for it, and then each channel; and the links of clients that are gone were shut.
pub record Pumps (old new : State) : Type 0 where
  pub moved : Bool
  pub sent : State
  pub clients : PumpsClientsIfMay moved old sent
  pub moment : Moment
  pub pumped : State
  pub programs : PumpsPrograms moment sent pumped
  pub parts : PartsClients pumped new

-- One round, over what the net of the clients and that of the programs tell: who comes is accepted, then all are listened to, and then all are sent
-- what waits for them.
pub record IsRound {L : Type 0} (told : L → LinkTold) (net net_now users users_now : NetTold L) (old new : State) : Type 0 where
  pub accepted : State
  pub accepts : AcceptsAll told net net_now users users_now old accepted
  pub heard : State
  pub hears : Hears accepted heard
  pub pumps : Pumps heard new

-- Something moved in a round: a link came, somebody said something or was closed, or a client's link took a byte.
abbrev pub has_moved : {L : Type 0} {told : L → LinkTold} {net net_now users users_now : NetTold L} {old new : State}
    → IsRound told net net_now users users_now old new → Bool
has_moved round = has_come round.accepts || has_heard round.hears || round.pumps.moved

-- it was made, and was told rightly whether anything moved
abbrev pub HasMadeRound : {L : Type 0} → (L → LinkTold) → Bool → NetTold L → NetTold L → NetTold L → NetTold L → State → State → Type 0
HasMadeRound told moved net net_now users users_now old new = (round : IsRound told net net_now users users_now old new) × (moved ≡ has_moved round)
