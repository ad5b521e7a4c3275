-- What a round of the daemon does: one accept, each client is listened to, each application has its turn, each client is sent what waits.
use Rattle.std.specs.Prelude.{◌≡◌, ◌⊎◌, ◌||◌, Bool, true, false}
use Rattle.dl_outside.specs.Told.{LinkTold, NetTold}
use Rattle.dl_rounds.specs.declared.accepting.Arrival.{Arrival}
use Rattle.dl_rounds.specs.declared.accepting.Arrival.TheVariants as arrival
use Rattle.dl_loop.specs.Scene.{Scene}
use Rattle.dl_loop.specs.State.{DaemonState}
use Rattle.dl_loop.specs.Steps.{Accepts, Hears, Parts, Pumps}
use Rattle.dl_loop.specs.Takes.{TakesAll, has_taken}
use Rattle.dl_loop.specs.declared.round.Round.{Round}

-- ---- the accept

-- a round's answer, by what came of its accept, or of the one that ended all accepts
abbrev pub answer_of : Arrival → Round
answer_of (arrival.Client number) = record { accepted = true; none = false; failed = false; wanted = false }
answer_of arrival.Dropped = record { accepted = true; none = false; failed = false; wanted = false }
answer_of arrival.Nobody = record { accepted = false; none = true; failed = false; wanted = false }
answer_of arrival.Failed = record { accepted = false; none = false; failed = true; wanted = false }
answer_of arrival.OutOfMemory = record { accepted = false; none = false; failed = false; wanted = true }

-- an earlier accept failed or wanted memory
abbrev pub HasEnded : {L : Type 0} → Arrival → DaemonState L → Type 0
HasEnded arrival.Failed d = d.failed ≡ true
HasEnded arrival.OutOfMemory d = d.wanted ≡ true
HasEnded other d = ⊥

-- One accept, unless an earlier one failed or wanted memory. Then there is none, and it is that one's answer again.
abbrev pub AcceptsIfMay : {L : Type 0} → (L → LinkTold) → Arrival → NetTold L → NetTold L → DaemonState L → DaemonState L → Type 0
AcceptsIfMay told came net net_now old new =
    ((old.failed ≡ false) × (old.wanted ≡ false) × Accepts told came net net_now old new)
    ⊎ (HasEnded came old × (net_now ≡ net) × (new ≡ old))

-- ---- all of it

-- An accept; then each open client was listened to, in the order of their numbers; then each application had its turn; and then each client
-- that was still open was sent what waits for it.
pub record Serves {L : Type 0} (told : L → LinkTold) (answer : Round) (net net_now : NetTold L) (old new : Scene L) : Type 0 where
  pub came : Arrival
  pub answers : answer ≡ answer_of came
  pub accepted : DaemonState L
  pub accepts : AcceptsIfMay told came net net_now old.daemon accepted
  pub heard : Scene L
  pub hears : (moved : Bool) × Hears told moved old.folder heard.folder accepted heard.daemon
  pub taken : Scene L
  pub takes : TakesAll heard taken
  pub pumps : (moved : Bool) × Pumps told moved taken.daemon new.daemon
  pub folder : new.folder ≡ taken.folder

-- Something moved: a link came, a client said something or was closed, something was taken, or a client's link took a byte.
abbrev pub has_moved : {L : Type 0} {told : L → LinkTold} {answer : Round} {net net_now : NetTold L} {old new : Scene L}
    → Serves told answer net net_now old new → Bool
has_moved {answer = answer} serves = answer.accepted || serves.hears.0 || has_taken serves.heard.daemon serves.taken.daemon || serves.pumps.0

-- One round: so all were served, and then the links of clients that are gone were shut, also of those that were too slow for what was taken.
pub record IsRound {L : Type 0} (told : L → LinkTold) (answer : Round) (net net_now : NetTold L) (old new : Scene L) : Type 0 where
  pub served : Scene L
  pub serves : Serves told answer net net_now old served
  pub parts : Parts told served.daemon new.daemon
  pub folder : new.folder ≡ served.folder
