-- What is true of a daemon in each run that it may be of, between any two calls.
use Rattle.std.specs.Prelude.{◌≡◌, ℕ, ◌+◌, List, [], slice_get, Option, Some}
use Rattle.dl_bytes.specs.declared.conf.AppSpec.{AppSpec}
use Rattle.dl_events.specs.declared.event.Event.{Event}
use Rattle.dl_model.specs.Journal.{IsWellFormed}
use Rattle.dl_outside.specs.Told.{FolderTold, LinkTold}
use Rattle.dl_desk.specs.Handles.{HandlesState}
use Rattle.dl_desk.specs.Lists.{At}
use Rattle.dl_ring.specs.Items.{calls_in}
use Rattle.dl_desk.specs.Told.{ControlTold}
use Rattle.dl_account.specs.Known.{taken_of}
use Rattle.dl_core.specs.Admission.{GivesFrames}
use Rattle.dl_core.specs.Follows.{IsAfter, Run, source_of}
use Rattle.dl_core.specs.State.{Core}
use Rattle.dl_taking.specs.Takes.{AreThere}
use Rattle.dl_turns.specs.Injected.{HasInjected}
use Rattle.dl_turns.specs.State.{side}
use Rattle.dl_rounds.specs.Passing.{AreAsNoted}
use Rattle.dl_rounds.specs.declared.listener.Listener.{Listener}

-- The run begins where the daemon began, and gives the frame of each call that was taken of a ring and the APID of each application.
pub record Gives (run : Run) (first : Core) (apps : List AppSpec) (handles : HandlesState) : Type 0 where
  pub begins : IsAfter run [] (λ _. []) first
  pub frames : (app : ℕ) → GivesFrames (calls_in (taken_of handles app)) run
  pub apids : (app : ℕ) → At apps app (λ spec. run.apid app ≡ spec.apid)

-- these links took just this, by the clients' numbers
abbrev pub AreTaken : List LinkTold → (ℕ → List ℕ) → Type 0
AreTaken links took = (place : ℕ) (link : LinkTold) → slice_get links place ≡ Some link → link.taken ≡ Some (took (place + 1))

-- The clients of these links and listeners are as these events have them: the Request events of an open one are the requests of what its link
-- gave. That sees of the daemon its core alone, so it is so whatever desk, journal and folder tell.
abbrev pub AreNoted : Run → List Event → (ℕ → List ℕ) → List LinkTold → List Listener → Core → Type 0
AreNoted run events took links listeners core = (desk : ControlTold) (journal : Option (List Event)) (folder : FolderTold)
    → AreAsNoted run events took (record { links = links; listeners = listeners; side = side core desk journal folder })

-- In a run: the core is what these events make of it, for what the links took, where links tell that; where they tell what they gave too, links,
-- listeners and journal tell the same of each client; the journal is well-formed; and the queues of injections took and refused, since the
-- daemon began, just those of its requests. Where the applications told of themselves, each is there.
pub record HoldsIn (TellTook TellBoth Greeted : Type 0) (run : Run) (links : List LinkTold) (listeners : List Listener) (events : List Event) (core : Core) (first desk : ControlTold) : Type 0 where
  pub took : ℕ → List ℕ
  pub taken : TellTook → AreTaken links took
  pub after : IsAfter run events took core
  pub noted : TellBoth → AreNoted run events took links listeners core
  pub formed : IsWellFormed run.setting (source_of run) events
  pub posted : (app : ℕ) → HasInjected run.setting [] events app first desk
  pub there : Greeted → AreThere desk.apps core.registry
