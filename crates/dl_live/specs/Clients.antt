-- What became of the clients of a run, and of their links.
use Rattle.std.specs.Prelude.{◌≡◌, ℕ, ◌+◌, ◌-◌, ◌^◌, ◌≤◌, min, List, ◌++◌, length, drop, count_by, Some, IfSome}
use Rattle.dl_bytes.specs.declared.outcome.Ends.{Ends}
use Rattle.dl_core.specs.Follows.{Run}
use Rattle.dl_events.specs.declared.event.Event.{Event}
use Rattle.dl_launch.specs.Launching.{AreStarted}
use Rattle.dl_model.specs.ClientEnds.{MayDrop}
use Rattle.dl_model.specs.Journal.{IsOpen, is_connect}
use Rattle.dl_opening.specs.Scenario.{scripts_of}
use Rattle.dl_outside.specs.Outside.{Stays}
use Rattle.dl_outside.specs.Told.{LinkTold, NetTold}
use Rattle.dl_outside.specs.declared.client.ClientScript.{ClientScript}
use Rattle.dl_script_model.specs.declared.scenario.ScenarioLine.{ScenarioLine}
use Rattle.dl_settling.specs.Went.{HaveEnded, HaveGone, TellStreams}

-- ---- the clients

-- The clients of a journal with their links, by number. None is open any more. What is told of the ends of their links are the frames and the bytes of
-- their streams; links were dropped only where they may be. Whatever links tell, each client has its Close, for a cause that its link's counts show, and
-- of one that left, that its link is over, where links of this kind tell that; and its link took all of its stream, or left some of it, as the cause
-- tells. Where links of this kind tell what they gave and took, each client has gone as the model of a daemon's end says, and whether its link took all
-- of its stream is so.
pub record AreServed (Tells TellsOver : Type 0) (run : Run) (events : List Event) (links : List LinkTold) (outcome : Ends) : Type 0 where
  pub many : length links ≡ count_by is_connect events
  pub none_open : (client : ℕ) → IsOpen client events → ⊥
  pub streams : TellStreams run events (length links) outcome.links
  pub dropped : MayDrop events outcome.dropped
  pub ended : HaveEnded TellsOver run.setting events links outcome.links
  pub gone : Tells → HaveGone run events links outcome.links

-- ---- the net

-- a net listens on this port now, and nothing else has changed of it
pub record IsHeard {L : Type 0} (port : ℕ) (old new : NetTold L) : Type 0 where
  pub listens : IfSome old.listens_on (λ _. new.listens_on ≡ Some (Some port))
  pub launched : Stays old.launched new.launched
  pub waiting : Stays old.waiting new.waiting
  pub faults : new.faults ≡ old.faults

-- The net listens on this port. It launched the clients of the scenario, in order, but those at which it failed, and its count of faults rose by
-- these. Of the connections that wait, the daemon took the oldest: one for each client that connected, and one for each link that was dropped, which were counted as far as 32 bits go.
pub record IsNetAfter {L : Type 0} (port : ℕ) (lines : List ScenarioLine) (connected dropped : ℕ) (old new : NetTold L) : Type 0 where
  pub started : List ClientScript
  pub refused : ℕ
  pub are : AreStarted (scripts_of lines) started refused
  pub faults : old.faults ≤ new.faults
  pub rose : min (old.faults + refused) (2 ^ 64 - 1) ≤ new.faults
  pub listens : IfSome old.listens_on (λ before. new.listens_on ≡ Some (Some port))
  pub launched : IfSome old.launched (λ before. new.launched ≡ Some (before ++ started))
  pub let_go : ℕ
  pub counted : dropped ≡ min let_go (2 ^ 32 - 1)
  pub waiting : IfSome old.waiting (λ before. (links : List L) × (length links ≡ length started)
      × (connected + let_go ≤ length (before ++ links)) × (new.waiting ≡ Some (drop (connected + let_go) (before ++ links))))
