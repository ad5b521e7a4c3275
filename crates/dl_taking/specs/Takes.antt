-- What is taken, and admitted.
use Rattle.std.specs.Prelude.{◌≡◌, ◌<◌, ◌≤◌, ◌+◌, ◌==◌, ◌^◌, ◌&&◌, not, nat_lt, ℕ, Bool, true, false, List, [], ◌∷◌, length, map, unwrap_or, None, IsSome, if◌then◌else◌}
use Rattle.std.specs.Option.{option_and_then}
use Rattle.dl_bytes.specs.Claim.{Claimed}
use Rattle.dl_bytes.specs.declared.conf.AppSpec.{AppSpec}
use Rattle.dl_bytes.specs.declared.item.Item.{Item}
use Rattle.dl_bytes.specs.declared.moment.Moment.{Moment}
use Rattle.dl_events.specs.declared.event.Event.{Event}
use Rattle.dl_cells.specs.Losses.{reported_of}
use Rattle.dl_model.specs.Accounts.{takes}
use Rattle.dl_model.specs.Registry.{apid_numbered, app_of, claimed}
use Rattle.dl_model.specs.Report.{reported}
use Rattle.dl_ring.specs.declared.item.RingItem.TheVariants.{Log, Register}
use Rattle.dl_cells.specs.Views.{bit}
use Rattle.dl_desk.specs.Lists.{At}
use Rattle.dl_account.specs.Known.{told_as}
use Rattle.dl_registry.specs.Kept.{Claims, Kept, owed_change, slots, with_registry}
use Rattle.dl_core.specs.Admission.{more_noted}
use Rattle.dl_core.specs.Noting.{NotesClaim}
use Rattle.dl_core.specs.Waiting.{waiting}
use Rattle.dl_admission.specs.Admission.{Logs, Tells, Uses}
use Rattle.dl_turns.specs.Events.{HaveSetLevels}
use Rattle.dl_turns.specs.State as turns
use Rattle.dl_taking.specs.Side.{Side, turned}
use Rattle.dl_taking.specs.Took.{Took, with_items, with_losses}
use Rattle.dl_taking.specs.declared.taking.Got.{Got}

-- a call belongs to the application in whose ring it lay, and so does a claim
abbrev pub owned : ℕ → Item → Item
owned app item = record item { app = app }

abbrev pub owned_claim : ℕ → Claimed → Claimed
owned_claim app claim = record claim { app = app }

-- how many Level events are owed once the registry was handed a claim
abbrev pub owed_by : Claimed → Kept → ℕ
owed_by claim kept = waiting (with_registry kept (unwrap_or (claimed (slots kept) kept.registry claim) kept.registry))

-- A claim was noted at this moment, while no Level event was owed, and went to the registry; and after it the Level events that it owes, whose
-- level words were set. No frame was admitted, and the folder was not asked.
pub record NotesWithLevels (moment : Moment) (claim : Claimed) (old new : turns.Side) : Type 0 where
  pub settled : owed_change old.core.registry ≡ None
  pub between : turns.Side
  pub notes : NotesClaim moment claim old.core between.core old.events between.events
  pub claims : Claims claim old.core.registry between.core.registry
  pub core : between.core ≡ record old.core { registry = between.core.registry }
  pub folder : between.folder ≡ old.folder
  pub desk : between.desk ≡ old.desk
  pub levels : HaveSetLevels between new

-- A claim was taken of an application's ring, and noted as its own, with the Level events that it owes: at most one. Nothing else was taken.
pub record TakesClaim (app : ℕ) (moment : Moment) (old new : Side) : Type 0 where
  pub claim : Claimed
  pub took : new.took ≡ with_items app (Register claim ∷ []) old.took
  pub notes : NotesWithLevels moment (owned_claim app claim) (turned old) (turned new)
  pub few : owed_by (owned_claim app claim) old.part.core.registry ≤ 1
  pub noted_so : new.noted ≡ more_noted (owed_by (owned_claim app claim) old.part.core.registry + 1) old.noted
  pub spare_so : new.spare + owed_by (owned_claim app claim) old.part.core.registry + 1 ≡ old.spare

-- a claim was taken, or nothing happened
abbrev pub TakesClaimIf : Bool → ℕ → Moment → Side → Side → Type 0
TakesClaimIf true app moment old new = TakesClaim app moment old new
TakesClaimIf false app moment old new = new ≡ old

-- how many takes gave
abbrev pub gave : Got → ℕ
gave got = got.calls + bit got.claimed

-- of at most so many takes the last one found the ring empty
abbrev pub found_none : ℕ → Got → Bool
found_none most got = nat_lt (gave got) most && not got.claimed

-- So many calls were taken of an application's ring, and admitted at one moment, in this order, as its own; and after them a claim, where it
-- is told. Together they are at most as many as this, and nothing else was taken.
pub record TakesSome (app most : ℕ) (got : Got) (old new : Side) : Type 0 where
  pub items : List Item
  pub moment : Moment
  pub between : Side
  pub count_is : got.calls ≡ length items
  pub few : gave got ≤ most
  pub took : between.took ≡ with_items app (map Log items) old.took
  pub logs : Logs moment (map (owned app) items) old.part between.part
  pub uses : Uses got.calls old.part.core.hub between.part.core.hub old.noted between.noted old.spare between.spare
  pub desk : between.desk ≡ old.desk
  pub claim : TakesClaimIf got.claimed app moment between new

-- The losses of an application were taken once, fewer than 2^47 with all before, and told in one report under its id; of none, nothing.
pub record Reports (specs : List AppSpec) (app count : ℕ) (old new : Side) : Type 0 where
  pub moment : Moment
  pub apid : List ℕ
  pub its_apid : At specs app (λ spec. apid ≡ spec.apid)
  pub took : new.took ≡ with_losses app count old.took
  pub small : reported_of app new.took.reported < 2 ^ 47
  pub tells : Tells moment app apid count old.part new.part
  pub uses : Uses (if count == 0 then 0 else 1) old.part.core.hub new.part.core.hub old.noted new.noted old.spare new.spare
  pub desk : new.desk ≡ old.desk

-- ---- a journal that tells just what was taken

-- so many applications are there, by their numbers from 0, as ones of this process
abbrev pub AreThere : ℕ → Kept → Type 0
AreThere apps kept = (app : ℕ) → app < apps → IsSome (option_and_then (app_of kept.registry 0) (apid_numbered kept.registry app))

-- The events tell of each application the calls and the claims that were taken of its ring, in their order, and as many lost calls as were
-- reported.
pub record TellAllTaken (events : List Event) (took : Took) : Type 0 where
  pub admitted : (app : ℕ) → takes app events ≡ map (told_as app) (took.taken app)
  pub losses : (app : ℕ) → reported app events ≡ reported_of app took.reported
