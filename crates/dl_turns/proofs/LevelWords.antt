-- Level words that follow the registry.
use Rattle.std.proofs.Common.{◌≡◌, ◌≢◌, ℕ, suc, ◌+◌, ◌-◌, ◌*◌, ◌/◌, ◌<◌, ◌≤◌, Bool, true, false, cond, List, [], ◌∷◌, ◌++◌, length, Option, Some, None, Result, Ok, Err, inl, inr, refl, sym, ap, subst, ◌∙◌, arith}
use Rattle.std.specs.Prelude.{◌==◌, IsErr, IsSome, OnOk, ◌↔◌}
use Rattle.std.specs.List.{AllByRecursion, find}
use Rattle.std.specs.Map.{values_of}
use Rattle.std.specs.Option.{option_and_then, option_map}
use Rattle.std.proofs.Math.Nat.{div-add-mod}
use Rattle.std.proofs.lemmas.Nat.{mod_below}
use Rattle.std.proofs.lemmas.Bool.Decides.{eqb_tells}
use Rattle.std.proofs.lemmas.List.{get_or-set_other, get_or-set_same}
use Rattle.dl_events.specs.declared.event.Event.{Event}
use Rattle.dl_events.specs.Journal as notes
use Rattle.dl_events.specs.Journal.{one_more}
use Rattle.dl_events.specs.declared.event.Event.TheVariants as event
use Rattle.dl_cells.specs.LevelHistory as words
use Rattle.dl_cells.specs.LevelHistory.{change}
use Rattle.dl_cells.specs.declared.level_keeper.Worn.{Worn}
use Rattle.dl_cells.proofs.LevelHistories.{current_version-other, current_version-same}
use Rattle.dl_outside.specs.Told.{FolderTold}
use Rattle.dl_desk.specs.Told.{ControlTold, with_set}
use Rattle.dl_bytes.specs.Limits.{last_version}
use Rattle.dl_model.specs.Registry.{App, Registry, effective, level_at, numbers}
use Rattle.dl_model.specs.declared.context.Context.{Context}
use Rattle.dl_model.specs.declared.registry.LevelChange.{LevelChange}
use Rattle.dl_model.specs.declared.registry.Slot.{Slot}
use Rattle.dl_registry.specs.Kept.{Kept, owed_change, slots, with_change}
use Rattle.dl_registry.specs.Table.{raised, unset}
use Rattle.dl_registry.proofs.Following.{change_is_level}
use Rattle.dl_core.specs.Admission.{more_noted}
use Rattle.dl_core.specs.Follows.{AddsAlone}
use Rattle.dl_core.specs.State.{Core}
use Rattle.dl_core.proofs.Noted.{added_one}
use Rattle.dl_turns.specs.Events.{HaveSetLevels, IsDeskOf, SetsLevel}
use Rattle.dl_turns.specs.State.{Side, side}

-- ---- the slot of a context is one of the desk's

number_below : (n apps : ℕ) (es : List (List ℕ × App)) → IsSome (find (λ (app : App). app.number == n) (values_of es)) → AllByRecursion (λ (m : ℕ). m < apps) (numbers es) → n < apps
number_below n apps [] there all = absurd cc
number_below n apps (e ∷ es) there all = by (e.1.number == n) refl there (λ found. number_below n apps es found all.1) where
  by : (b : Bool) → (e.1.number == n) ≡ b → IsSome (cond b (Some e.1) (find (λ (app : App). app.number == n) (values_of es)))
      → (IsSome (find (λ (app : App). app.number == n) (values_of es)) → n < apps) → n < apps
  by true same found later = elim (eqb_tells e.1.number n) [
    | inl here ↦ omega (arith, here.1, all.0)
    | inr other ↦ absurd (cc (sym same ∙ other.0))
  ]
  by false other found later = later found

app_there : (o : Option App) (f : App → Option Context) (level found : ℕ) → option_map (effective level) (option_and_then f o) ≡ Some found → IsSome o
app_there None f level found e = absurd cc
app_there (Some app) f level found e = refl

pub slot_within : (registry : Registry) (slot apps found : ℕ) → level_at registry slot ≡ Some found → AllByRecursion (λ (n : ℕ). n < apps) (numbers registry.apps) → slot < 64 * apps
slot_within registry slot apps found level all =
    let below = number_below (slot / 64) apps registry.apps (app_there _ _ registry.level found level) all in
    omega (arith, below, div-add-mod slot 64, mod_below slot 64 (omega arith))

pub owed_within : (kept : Kept) (next : LevelChange) (told : ControlTold) → owed_change kept ≡ Some next → IsDeskOf kept told → next.slot < 64 * told.apps
owed_within kept next told owed desk = slot_within kept.registry next.slot told.apps next.level (change_is_level kept next owed).1 desk.numbered

-- ---- one level is set in both

module _ (kept : Kept) (next : LevelChange) (told : ControlTold) (all : length kept.held ≡ 1024) (owed : owed_change kept ≡ Some next) (desk : IsDeskOf kept told) where
  raised_here : (slots (with_change kept (Some next)) next.slot).version ≡ (slots kept next.slot).version + 1
  raised_here = ap (λ (s : Slot). s.version) (get_or-set_same kept.held next.slot (raised (slots kept next.slot) next.level) (unset kept.first) (omega (arith, (change_is_level kept next owed).0, all)))

  same_elsewhere : (slot : ℕ) → slot ≢ next.slot → (slots (with_change kept (Some next)) slot).version ≡ (slots kept slot).version
  same_elsewhere slot other = ap (λ (s : Slot). s.version) (get_or-set_other kept.held next.slot slot (raised (slots kept next.slot) next.level) (unset kept.first) other)

  version_here : (slot : ℕ) → slot < 64 * told.apps → (slots (with_change kept (Some next)) slot).version ≡ words.current_version told.first slot (told.sets ++ change next.slot next.level ∷ [])
  version_here slot within = elim (eqb_tells slot next.slot) [
    | inl here ↦
        ap (λ (n : ℕ). (slots (with_change kept (Some next)) n).version) here.1 ∙ raised_here
        ∙ ap (λ (v : ℕ). v + 1) (desk.versions next.slot (owed_within kept next told owed desk))
        ∙ sym (current_version-same told.first next.slot next.level told.sets)
        ∙ ap (λ (n : ℕ). words.current_version told.first n (told.sets ++ change next.slot next.level ∷ [])) (sym here.1)
    | inr other ↦
        same_elsewhere slot other.1 ∙ desk.versions slot within
        ∙ sym (current_version-other told.first slot next.slot next.level told.sets (λ (e : next.slot ≡ slot). other.1 (sym e)))
  ]

  pub desk_after : IsDeskOf (with_change kept (Some next)) (with_set next.slot next.level told)
  desk_after = record { numbered = desk.numbered; versions = version_here }

  -- a slot that is not worn in the registry is not worn in its word
  pub is_set : (result : Result (Unit {0}) Worn) (told_now : ControlTold) → (slots kept next.slot).version < last_version
      → (IsErr result ↔ (words.current_version told.first next.slot told.sets ≡ 72057594037927935)) → OnOk result (told_now ≡ with_set next.slot next.level told)
      → told_now ≡ with_set next.slot next.level told
  is_set (Ok done) told_now fresh worn set = set
  is_set (Err fault) told_now fresh worn set =
      let last = worn.0 refl in
      absurd (omega (arith, fresh, last, desk.versions next.slot (owed_within kept next told owed desk)))

-- the next Level event is noted, and its level is set
pub sets_level : (old new : Core) (next : LevelChange) (desk desk_now : ControlTold) (events events_now : Option (List Event))
    → owed_change old.registry ≡ Some next → new ≡ record old { registry = with_change old.registry (Some next) } → AddsAlone (event.Level next.slot next.level ∷ []) old new
    → notes.Adds events events_now (event.Level next.slot next.level) → desk_now ≡ with_set next.slot next.level desk
    → (folder : FolderTold) → SetsLevel next (side old desk events folder) (side new desk_now events_now folder)
sets_level old new next desk desk_now events events_now owed core after noted set folder = record {
  owed = owed;
  core = core;
  after = after;
  events = added_one events events_now (event.Level next.slot next.level) (event.Level next.slot next.level) refl noted;
  desk = set;
  folder = refl;
}

-- the same desk by other names
pub desk_as : (kept kept_now : Kept) (told told_now : ControlTold) → kept_now ≡ kept → told_now ≡ told → IsDeskOf kept told → IsDeskOf kept_now told_now
desk_as kept kept_now told told_now kept_is told_is desk =
    subst (λ (k : Kept). IsDeskOf k told_now) (sym kept_is) (subst (IsDeskOf kept) (sym told_is) desk)

-- ---- one after the other

pub levels_next : (next : LevelChange) (old between new : Side) → SetsLevel next old between → HaveSetLevels between new → HaveSetLevels old new
levels_next next old between new one others = (next ∷ others.0, (between, one, others.1))

pub levels_none : (old new : Side) → new ≡ old → owed_change new.core.registry ≡ None → HaveSetLevels old new
levels_none old new same none = ([], (same, ap (λ (s : Side). owed_change s.core.registry) (sym same) ∙ none))

-- ---- how many were noted

pub noted_none : (waits noted : ℕ) → noted ≡ more_noted (waits - waits) noted
noted_none waits noted = let none : 0 ≡ waits - waits = omega arith in ap (λ (n : ℕ). more_noted n noted) none

pub noted_next : (waits waits_now waits_new noted noted_now noted_new : ℕ) → waits_now ≤ waits → waits_new + 1 ≡ waits_now → noted_now ≡ more_noted (waits - waits_now) noted
    → noted_new ≡ one_more noted_now → noted_new ≡ more_noted (waits - waits_new) noted
noted_next waits waits_now waits_new noted noted_now noted_new few fewer so one =
    let more : suc (waits - waits_now) ≡ waits - waits_new = omega (arith, few, fewer) in
    one ∙ ap one_more so ∙ ap (λ (n : ℕ). more_noted n noted) more

-- only the registry of a core changed
abbrev pub OnlyRegistry : Core → Core → Type 0
OnlyRegistry old new = new ≡ record old { registry = new.registry }

pub registry_both : (old between new : Core) → OnlyRegistry old between → OnlyRegistry between new → OnlyRegistry old new
registry_both old between new one two = two ∙ ap (λ (c : Core). record c { registry = new.registry }) one
