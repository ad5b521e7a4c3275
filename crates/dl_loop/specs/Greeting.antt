-- What the daemon notes of its own applications before its first client comes.
use Rattle.std.specs.Prelude.{◌≡◌, ◌≢◌, ℕ, List, ◌++◌, map, Option, Some, None}
use Rattle.std.specs.List.{AllByRecursion, IsDistinct, filter_map}
use Rattle.std.specs.Str.{bytes_eq}
use Rattle.dl_bytes.specs.Id.{zero_id}
use Rattle.dl_bytes.specs.declared.conf.AppSpec.{AppSpec}
use Rattle.dl_bytes.specs.declared.moment.Moment.{Moment}
use Rattle.dl_bytes.specs.declared.user.UserMsg.{UserMsg}
use Rattle.dl_bytes.specs.declared.user.UserMsg.TheVariants.{RegisterApp}
use Rattle.dl_desk.specs.Apps.{AppState}
use Rattle.dl_rounds.specs.Greetings.{GreetsEach, hello_of}
use Rattle.dl_loop.specs.Scene.{Scene, side_of}
use Rattle.dl_loop.specs.State.{SameDesk}

-- the id of the application that a message registers
abbrev pub id_in : UserMsg → Option (List ℕ)
id_in (RegisterApp apid pid text) = Some apid
id_in other = None

-- The list is that of the desk's applications: they register themselves in the desk's order, each with an id of its own, which isn't the zero id.
pub record AreListed (specs : List AppSpec) (apps : List AppState) : Type 0 where
  pub same : filter_map id_in (hello_of apps) ≡ map (λ spec. spec.apid) specs
  pub apart : IsDistinct bytes_eq (map (λ spec. spec.apid) specs)
  pub named : AllByRecursion (λ spec. spec.apid ≢ zero_id) specs

-- These messages were noted in order, as User events of this process, and after each the Level events that it owes. Of the desk nothing
-- has changed but levels.
pub record Greets {L : Type 0} (moment : Moment) (msgs : List UserMsg) (old new : Scene L) : Type 0 where
  pub greets : GreetsEach moment msgs (side_of old) (side_of new)
  pub desk : SameDesk old.daemon.desk new.daemon.desk
  pub rest : new.daemon ≡ record old.daemon { core = new.daemon.core; desk = new.daemon.desk; journal = new.daemon.journal; greeted = new.daemon.greeted }

-- the first ones of them were
abbrev pub GreetsFirst : {L : Type 0} → Moment → List UserMsg → Scene L → Scene L → Type 0
GreetsFirst moment msgs old new = (done : List UserMsg) × (left : List UserMsg) × (msgs ≡ done ++ left) × Greets moment done old new
