-- How a run is played: what its daemon is made of, and what was done, one thing after the other.
use Rattle.std.specs.Prelude.{◌≡◌, ◌⊎◌, ℕ, ◌≤◌, ◌==◌, ◌||◌, not, Bool, true, false, List, length, IfSome}
use Rattle.dl_bytes.specs.declared.moment.Moment.{Moment}
use Rattle.dl_core.specs.Follows.{Begins}
use Rattle.dl_core.specs.Settings as settings
use Rattle.dl_crew.specs.Plays.{ArePairs, HasPlayed}
use Rattle.dl_launch.specs.Launching.{Launched}
use Rattle.dl_account.specs.State.{AccountState}
use Rattle.dl_loop.specs.Coming.{HasWaited, HaveCome}
use Rattle.dl_loop.specs.Greeting.{Greets}
use Rattle.dl_loop.specs.Later.{GoesRound, IsLaterGreeted}
use Rattle.dl_loop.specs.Made.{IsMade}
use Rattle.dl_loop.specs.Scene.{Scene, scene}
use Rattle.dl_loop.specs.Stops.{Stops}
use Rattle.dl_opening.specs.Opening.{IsOpened}
use Rattle.dl_opening.specs.Scenario.{all_calls}
use Rattle.dl_outside.specs.Links.{Links}
use Rattle.dl_outside.specs.Told.{FolderTold, LinkTold, NetTold}
use Rattle.dl_rounds.specs.Greetings.{hello_of}
use Rattle.dl_script.specs.Playable.{IsRunnable}
use Rattle.dl_writer.specs.State.{BookState}
use Rattle.dl_live.specs.declared.beginning.Begun.{Begun}
use Rattle.dl_live.specs.declared.gathering.Gathered.{Gathered}
use Rattle.dl_live.specs.declared.players.Players.{Players}
use Rattle.dl_live.specs.Account.{setting}

-- The daemon is just made, of the core and of the desk of what the scenario declares; it may note as many calls as the scenario asks for.
pub record ArePlayersOf {L : Type 0} (begun : Begun) (p : Players L) : Type 0 where
  pub conf : p.conf ≡ begun.conf
  pub filters : p.filters ≡ begun.filters
  pub port : p.port ≡ begun.port
  pub made : IsMade p.daemon
  pub core : p.daemon.core ≡ settings.begun begun.conf begun.stored 0 begun.trace
  pub begins : Begins (setting begun) begun.trace p.daemon.core
  pub calls : p.daemon.calls ≡ all_calls begun.scenario
  pub opened : IsOpened begun.scenario (record { desk = p.daemon.desk; apps = p.apps; plan = p.plan; books = p.books; scripts = p.scripts })

-- they are those of a run that begins with a scenario that can be run
abbrev pub CanBePlayed : {L : Type 0} → Players L → Type 0
CanBePlayed p = (begun : Begun) × IsRunnable begun.scenario × ArePlayersOf begun p

-- Rounds of a daemon, however many, and the connections that came in them.
pub record Rounds {L : Type 0} (net net_now : NetTold L) (old new : Scene L) : Type 0 where
  pub goes : GoesRound net net_now old new
  pub came : ℕ
  pub come : HaveCome came net net_now old.daemon new.daemon

-- in its last thousand rounds nobody came, and all connections came that waited, as far as the net tells
abbrev pub HasWaitedLong : {L : Type 0} → (L → LinkTold) → ℕ → NetTold L → NetTold L → Scene L → Type 0
HasWaitedLong link_told came net net_now new = HasWaited link_told 1000 net_now new × IfSome net.waiting (λ links. length links ≤ came)

-- Rounds until the clients had come that were launched: as many links came, or nobody a thousand times in a row. Else an accept failed or wanted
-- memory, which the daemon shows.
pub record Gathers {L : Type 0} (link_told : L → LinkTold) (launched : ℕ) (got : Gathered) (net net_now : NetTold L) (old new : Scene L) : Type 0 where
  pub rounds : Rounds net net_now old new
  pub failed : got.failed ≡ true → new.daemon.failed ≡ true
  pub wanted : got.wanted ≡ true → new.daemon.wanted ≡ true
  pub well : got.failed ≡ false → got.wanted ≡ false → (new.daemon.failed ≡ false) × (new.daemon.wanted ≡ false)
  pub all : got.failed ≡ false → got.wanted ≡ false → (launched ≤ rounds.came) ⊎ HasWaitedLong link_told rounds.came net net_now new

-- An accept wanted memory where this says so. Where it doesn't, none did, if none had before; or one failed, which ends them all.
pub record TellsWanted {L : Type 0} (wanted : Bool) (old new : Scene L) : Type 0 where
  pub wanted_so : wanted ≡ true → new.daemon.wanted ≡ true
  pub none : wanted ≡ false → old.daemon.wanted ≡ false → (new.daemon.failed ≡ true) ⊎ (new.daemon.wanted ≡ false)

-- A run was played: the daemon's own applications told of themselves, the clients were launched, rounds went on until they had come and while the
-- writers made their calls, and the daemon stopped.
pub record HasBeenPlayed {L : Type 0} (link_told : L → LinkTold) (p : Players L) (wanted failed : Bool) (net net_now : NetTold L) (folder folder_now : FolderTold)
    (account : AccountState) (links : Links L) : Type 0 where
  pub moment : Moment
  pub greeted : Scene L
  pub greets : Greets moment (hello_of p.apps) (scene p.daemon folder) greeted
  pub later : IsLaterGreeted (scene p.daemon folder) greeted
  pub launched_net : NetTold L
  pub count : ℕ
  pub launches : Launched p.scripts net launched_net count
  pub got : Gathered
  pub gathered_net : NetTold L
  pub gathered : Scene L
  pub gathers : Gathers link_told count got launched_net gathered_net greeted gathered
  pub rounded : Scene L
  pub goes : Rounds gathered_net net_now gathered rounded
  pub books : List BookState
  pub played : ArePairs (HasPlayed p.plan.contexts p.plan.lines) p.books books
  pub stops : Stops link_told rounded.daemon books account links rounded.folder folder_now
  pub failed_so : failed ≡ not (count == length p.scripts) || got.failed
  pub wanted_so : wanted ≡ true → rounded.daemon.wanted ≡ true
  pub none_wanted : wanted ≡ false → (got.wanted ≡ false) × ((rounded.daemon.failed ≡ true) ⊎ (rounded.daemon.wanted ≡ false))

-- ---- for inner functions

-- The daemon's own applications told of themselves, and of the clients so many were launched.
pub record HasSetOut {L : Type 0} (p now : Players L) (count : ℕ) (net net_now : NetTold L) (folder folder_now : FolderTold) : Type 0 where
  pub moment : Moment
  pub greets : Greets moment (hello_of p.apps) (scene p.daemon folder) (scene now.daemon folder_now)
  pub later : IsLaterGreeted (scene p.daemon folder) (scene now.daemon folder_now)
  pub launches : Launched p.scripts net net_now count
  pub greeted : now.daemon.greeted ≡ true
  pub rest : now ≡ record p { daemon = now.daemon }

-- these set out so, from somewhere
pub record IsUnderWay {L : Type 0} (now : Players L) (count : ℕ) (net_now : NetTold L) (folder_now : FolderTold) : Type 0 where
  pub first : Players L
  pub net : NetTold L
  pub folder : FolderTold
  pub can : CanBePlayed first
  pub out : HasSetOut first now count net net_now folder folder_now
