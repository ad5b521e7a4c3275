-- What the daemon's own applications tell of themselves, as it is noted.
use Rattle.std.specs.Prelude.{◌≡◌, ℕ, List, [], ◌∷◌, ◌++◌, ◌≤◌, length, Option, Some, None}
use Rattle.std.specs.List.{AllByRecursion, filter_map, flat_map}
use Rattle.dl_bytes.specs.Limits.{admitted_limit}
use Rattle.dl_bytes.specs.declared.moment.Moment.{Moment}
use Rattle.dl_bytes.specs.declared.user.UserMsg.{UserMsg}
use Rattle.dl_bytes.specs.declared.user.UserMsg.TheVariants.{RegisterApp, RegisterContext}
use Rattle.dl_events.specs.declared.event.Event.{Event}
use Rattle.dl_events.specs.declared.event.Event.TheVariants as event
use Rattle.dl_outside.specs.Told.{FolderTold}
use Rattle.dl_desk.specs.Apps.{AppState}
use Rattle.dl_desk.specs.Told.{ControlTold}
use Rattle.dl_registry.specs.Kept.{owed_change}
use Rattle.dl_core.specs.Admission.{AddsEach}
use Rattle.dl_core.specs.Follows.{Adds}
use Rattle.dl_core.specs.Noting.{NotesMessage}
use Rattle.dl_core.specs.Registering.{Registers}
use Rattle.dl_core.specs.State.{Core}
use Rattle.dl_turns.specs.Events.{HaveSetLevels, IsDeskOf}
use Rattle.dl_turns.specs.Later.{IsDeskLater}
use Rattle.dl_turns.specs.State.{Side, side}

-- the channel of this process
abbrev pub own_channel : ℕ
own_channel = 0

-- the message registers a context
abbrev pub IsContext : UserMsg → Type 0
IsContext (RegisterContext apid ctid position level trace pid text) = Unit {0}
IsContext other = ⊥

-- the message registers an application or a context
abbrev pub IsRegistration : UserMsg → Type 0
IsRegistration (RegisterApp apid pid text) = Unit {0}
IsRegistration (RegisterContext apid ctid position level trace pid text) = Unit {0}
IsRegistration other = ⊥

-- an application tells its own registration, and behind it those of contexts
pub record IsIntroduced (app : AppState) : Type 0 where
  pub apid : List ℕ
  pub pid : ℕ
  pub text : List ℕ
  pub contexts : List UserMsg
  pub hello : app.hello ≡ RegisterApp apid pid text ∷ contexts
  pub are_contexts : AllByRecursion IsContext contexts

-- the side of a core, a desk, a journal and a folder, where these are the words for what they tell
abbrev pub seen : {D J F : Type 0} → (D → ControlTold) → (J → Option (List Event)) → (F → FolderTold) → Core → D → J → F → Side
seen desk_told events folder_told core desk journal folder = side core (desk_told desk) (events journal) (folder_told folder)

-- A message was noted as a User event of this process, and behind it the Level events that it owes.
pub record Greets (moment : Moment) (msg : UserMsg) (old new : Side) : Type 0 where
  pub between : Side
  pub notes : NotesMessage moment own_channel msg old.core between.core old.folder between.folder old.events between.events
  pub registers : Registers own_channel msg old.core between.core.registry
  pub desk : between.desk ≡ old.desk
  pub levels : HaveSetLevels between new

-- these messages were noted so, one after the other
abbrev pub GreetsEach : Moment → List UserMsg → Side → Side → Type 0
GreetsEach moment [] old new = new ≡ old
GreetsEach moment (msg ∷ msgs) old new = (next : Side) × Greets moment msg old next × GreetsEach moment msgs next new

-- the first ones of these messages were noted so
abbrev pub GreetsFirst : Moment → List UserMsg → Side → Side → Type 0
GreetsFirst moment msgs old new = (done : List UserMsg) × (left : List UserMsg) × (msgs ≡ done ++ left) × GreetsEach moment done old new

-- all that the applications tell of themselves, in their order
abbrev pub hello_of : List AppState → List UserMsg
hello_of apps = flat_map (λ app. app.hello) apps

-- how many applications are registered
abbrev pub registered : Core → ℕ
registered core = length core.registry.registry.apps

-- how many more a message may register
abbrev pub apps_in : UserMsg → ℕ
apps_in (RegisterApp apid pid text) = 1
apps_in other = 0

-- Messages may be noted: no client came and no more frames were admitted than may be, no Level event is owed, the desk is that of the
-- registry, and the journal has room for an event.
pub record MayGreet (core : Core) (desk : ControlTold) (spare : ℕ) : Type 0 where
  pub nobody : core.hub.clients ≡ []
  pub few : core.hub.admitted ≤ admitted_limit
  pub settled : owed_change core.registry ≡ None
  pub desk_so : IsDeskOf core.registry desk
  pub room : 1 ≤ spare

-- ---- told by events

-- an event of these: a User event of this process, or a level
abbrev pub IsOfGreeting : Event → Type 0
IsOfGreeting (event.User channel msg moment) = channel ≡ own_channel
IsOfGreeting (event.Level slot level) = Unit {0}
IsOfGreeting other = ⊥

-- the message of a User event
abbrev pub told_in : Event → Option UserMsg
told_in (event.User channel msg moment) = Some msg
told_in other = None

-- The side is later by these events: User events of this process with just these messages, in order, and levels. The core, the folder and the
-- level words are what the longer journal makes of them.
pub record AreGreeted (msgs : List UserMsg) (old new : Side) : Type 0 where
  pub more : List Event
  pub events : AddsEach old.events new.events more
  pub of_greeting : AllByRecursion IsOfGreeting more
  pub told : filter_map told_in more ≡ msgs
  pub after : Adds more (λ run. Unit {0}) old.core new.core old.folder new.folder
  pub desk : IsDeskLater more old.desk new.desk
