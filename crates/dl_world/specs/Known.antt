-- What the lines so far declare, in the marks of a run, and which line may follow.
use Rattle.std.specs.Prelude.{◌≡◌, ℕ, ◌≤◌, ◌<◌, List, length, map, count_by, Some, None}
use Rattle.std.specs.List.{filter_map, AllByRecursion}
use Rattle.dl_bytes.specs.Claim.{Claimed}
use Rattle.dl_script_model.specs.declared.line.AppLine.{AppLine}
use Rattle.dl_script_model.specs.declared.line.ContextLine.{ContextLine}
use Rattle.dl_script_model.specs.declared.step.Step.{Step}
use Rattle.dl_script.specs.Earlier.{Declared, is_on, refusal}
use Rattle.dl_script.specs.Spelled.{step_claim}
use Rattle.dl_script.specs.declared.claim.ContextName.{ContextName}
use Rattle.dl_script_model.specs.Marks.{Mark, apps, writers, number_of, app_of_writer, context_of, claim_of, claims_on, next_place}
use Rattle.dl_core.specs.Follows.{Run}
use Rattle.dl_world_calls.specs.Follows as calls
use Rattle.dl_world_calls.specs.State.{Calls}
use Rattle.dl_world.specs.Follows.{IsAfter}
use Rattle.dl_script.specs.Playable.{IsInBounds}
use Rattle.dl_world.specs.declared.world.World.{World}

abbrev pub name_of : ContextLine → ContextName
name_of context = record { apid = context.apid; ctid = context.ctid }

-- The lines declare just the applications, the contexts and the writers that the marks have. Each claim is of one of these applications, and
-- there are no more of an application than lines claim places of it.
pub record IsKnown (known : Declared) (done : List Mark) : Type 0 where
  pub apps_are : known.apps ≡ map (λ (app : AppLine). app.apid) (apps done)
  pub contexts_are : known.contexts ≡ map name_of (filter_map context_of done)
  pub writers_are : known.writers ≡ writers done
  pub places_are : (apid : List ℕ) (app : ℕ) → number_of apid done ≡ Some app → length (claims_on app done) ≤ count_by (is_on apid) known.places
  pub claims_within : AllByRecursion (λ (claim : Claimed). claim.app < length (apps done)) (filter_map claim_of done)

-- A writer's application has a place for one claim more: fewer than 64 are given by its contexts and claims, in the marks of some run.
pub record HasPlace (writer : ℕ) (kept : Calls) : Type 0 where
  pub done : List Mark
  pub after : calls.IsAfter done kept
  pub apid : List ℕ
  pub app : ℕ
  pub of_writer : app_of_writer writer done ≡ Some apid
  pub number : number_of apid done ≡ Some app
  pub room : next_place apid app done < 64

-- A step may follow: the world is after the marks of some run, whose declarations admit it.
pub record MayCome (step : Step) (world : World) : Type 0 where
  pub run : Run
  pub done : List Mark
  pub after : IsAfter run done world
  pub known : Declared
  pub is_known : IsKnown known done
  pub admitted : refusal known (step_claim step) ≡ None
  pub bounds : IsInBounds step
