-- What the daemon takes of an application: the next call or claim of its ring, and the count of its lost calls.
use Rattle.std.proofs.Common.{◌≡◌, ℕ, ◌<◌, ◌≤◌, Bool, true, false, get_or, List, [], ◌∷◌, ◌++◌, length, map, Option, Some, None, refl, sym, ap, subst, ◌∙◌, append_assoc, arith}
use Rattle.std.specs.Prelude.{◌||◌, slice_get, nat_lt, is_some, option_map}
use Rattle.std.specs.Option.{option_and_then}
use Rattle.std.proofs.lemmas.List.{append-nil, get_or_past}
use Rattle.dl_events.specs.declared.event.Event.{Event}
use Rattle.dl_events.specs.declared.event.Event.TheVariants as event
use Rattle.dl_model.specs.declared.registry.LevelChange.{LevelChange}
use Rattle.dl_model.specs.Setting.{Setting}
use Rattle.dl_script_model.specs.Marks.{Mark, Noted, Pushed, OfCall, OfClaim, journal, pushes, taken, held_by, pending, moment}
use Rattle.dl_script_model.specs.Steps.{in_sequence, for_some, when, changes, level_noted, note_levels, note_levels_now, note, event_taken, take_log, take_losses}
use Rattle.dl_world_calls.specs.Follows as calls
use Rattle.dl_world_calls.specs.Follows.{no_app, as_pushed}
use Rattle.dl_world_calls.specs.Queue.{waiting}
use Rattle.dl_world_calls.specs.State.{App, Calls, Held, HeldCall, HeldClaim, as_held, claim_held, held_at, item_held, next_claim, next_held}
use Rattle.dl_world_calls.proofs.Changing.{no-call-stays, next_tells}
use Rattle.dl_outside.specs.Told.{FolderTold}
use Rattle.dl_world.specs.Follows.{Does, NotesNext, NotesNextCall, NotesNextClaim, event_held}
use Rattle.dl_world.specs.declared.world.World.{World}
use Rattle.dl_world.proofs.Deeds.{does_as, does_none}
use Rattle.dl_lemmas.proofs.Numbers.{above_zero}
use Rattle.dl_lemmas.proofs.Options.{some_is}

-- ---- what is next

pub some_held : (held : Option Held) → is_some held ≡ true → (what : Held) × (held ≡ Some what)
some_held None some = absurd cc
some_held (Some what) some = (what, refl)

pub none_held : (held : Option Held) → is_some held ≡ false → held ≡ None
none_held None none = refl
none_held (Some what) none = absurd cc

-- a value that is there, or not, seen through a reference
pub is_there : {A B : Type 0} (f : A → B) (o : Option A) (p : Option B) → option_map f o ≡ p → is_some o ≡ true → is_some p ≡ true
is_there f None p same some = absurd cc
is_there f (Some a) p same some = ap is_some (sym same)

pub is_not_there : {A B : Type 0} (f : A → B) (o : Option A) (p : Option B) → option_map f o ≡ p → is_some o ≡ false → is_some p ≡ false
is_not_there f None p same none = ap is_some (sym same)
is_not_there f (Some a) p same none = absurd cc

-- what is next is a claim, or a call
pub notes_claim : (app : ℕ) (old new : World) (told : FolderTold) → is_some (next_claim old.calls app) ≡ true → NotesNextClaim app old new → NotesNext app old new told told
notes_claim app old new told there notes (HeldClaim claim) at = notes claim (ap (option_and_then claim_held) at) told
notes_claim app old new told there notes (HeldCall r) at = absurd (let bad : true ≡ false = sym there ∙ ap (λ (o : Option Held). is_some (option_and_then claim_held o)) at in cc)

pub notes_call : (app : ℕ) (old new : World) (told told_now : FolderTold) → is_some (next_claim old.calls app) ≡ false → NotesNextCall app old new told told_now → NotesNext app old new told told_now
notes_call app old new told told_now none notes (HeldCall r) at = notes r.item (ap (option_and_then item_held) at)
notes_call app old new told told_now none notes (HeldClaim claim) at = absurd (let bad : false ≡ true = sym none ∙ ap (λ (o : Option Held). is_some (option_and_then claim_held o)) at in cc)

-- ---- nothing to take

none_left : (o : Option Pushed) → option_map as_held o ≡ None → o ≡ None
none_left None is = refl
none_left (Some what) is = absurd cc

nothing_pushed : (all : List Pushed) → [] ≡ map as_pushed all → all ≡ []
nothing_pushed [] is = refl
nothing_pushed (what ∷ all) is = absurd cc

-- an application that was not declared has no ring
empty_ring : (done : List Mark) (kept : Calls) (app : ℕ) → calls.IsAfter done kept → length kept.apps ≤ app → pushes app done ≡ []
empty_ring done kept app is over =
    let its : get_or kept.apps app no_app ≡ no_app = get_or_past kept.apps app no_app over in
    nothing_pushed (pushes app done) (ap (λ (a : App). map (held_at kept.writers) a.ring.entries) (sym its) ∙ (is.each_app app).ring_is)

not_declared : (done : List Mark) (kept : Calls) (app : ℕ) → calls.IsAfter done kept → length kept.apps ≤ app → slice_get (pushes app done) (taken app done) ≡ None
not_declared done kept app is over = ap (λ (all : List Pushed). slice_get all (taken app done)) (empty_ring done kept app is over)

pub no_ring : (done : List Mark) (kept : Calls) (app : ℕ) → calls.IsAfter done kept → length kept.apps ≤ app → held_by app done ≡ 0
no_ring done kept app is over = omega (arith, ap length (empty_ring done kept app is over))

pub takes_nothing : (world : World) (told : FolderTold) (app : ℕ) → ((done : List Mark) → calls.IsAfter done world.calls → slice_get (pushes app done) (taken app done) ≡ None)
    → Does (λ setting answers. take_log setting app) world world told told
takes_nothing world told app none =
    does_none (λ setting answers. take_log setting app) world told
    (λ run done answers after. ap (λ (o : Option Pushed). for_some o (λ what. note run.setting (event_taken app what)) done) (none done after.so_far.calls_so))

pub takes_of_nobody : (world : World) (told : FolderTold) (app : ℕ) → length world.calls.apps ≤ app → Does (λ setting answers. take_log setting app) world world told told
takes_of_nobody world told app over = takes_nothing world told app (λ done is. not_declared done world.calls app is over)

pub takes_none : (world : World) (told : FolderTold) (app : ℕ) → app < length world.calls.apps → next_held world.calls app ≡ None → Does (λ setting answers. take_log setting app) world world told told
takes_none world told app below none =
    takes_nothing world told app (λ done is. none_left (slice_get (pushes app done) (taken app done)) (sym (next_tells done world.calls app below is) ∙ none))

-- ---- a call or a claim

-- the event of what is next is the same, as the marks have it and as it is held
same_event : (app : ℕ) (what : Pushed) → event_taken app what ≡ event_held app (as_held what)
same_event app (OfCall call) = refl
same_event app (OfClaim claim) = refl

one_left : (app : ℕ) (o : Option Pushed) (what : Held) → option_map as_held o ≡ Some what → (first : Pushed) × (o ≡ Some first) × (event_taken app first ≡ event_held app what)
one_left app None what is = absurd cc
one_left app (Some first) what is = (first, refl, same_event app first ∙ ap (event_held app) (some_is is))

pub takes_next : (old new : World) (told told_now : FolderTold) (app : ℕ) (what : Held) → app < length old.calls.apps → next_held old.calls app ≡ Some what
    → Does (λ setting answers. note setting (event_held app what)) old new told told_now → Does (λ setting answers. take_log setting app) old new told told_now
takes_next old new told told_now app what below next does =
    does_as (λ setting answers. note setting (event_held app what)) (λ setting answers. take_log setting app) old new told told_now
    (λ run done answers after.
    let one = one_left app (slice_get (pushes app done) (taken app done)) what (sym (next_tells done old.calls app below after.so_far.calls_so) ∙ next) in
    ap (λ (o : Option Pushed). for_some o (λ first. note run.setting (event_taken app first)) done) one.1
    ∙ ap (λ (make : List Mark → Event). note run.setting make done) one.2)
    does

-- ---- losses

pub none_lost : (done : List Mark) (kept : Calls) (app : ℕ) → calls.IsAfter done kept → length kept.apps ≤ app → pending app done ≡ 0
none_lost done kept app is over =
    let its : get_or kept.apps app no_app ≡ no_app = get_or_past kept.apps app no_app over in
    (is.each_app app).pending_is ∙ ap (λ (a : App). waiting a.losses) its

pub loses_nothing : (world : World) (told : FolderTold) (app : ℕ) → ((done : List Mark) → calls.IsAfter done world.calls → 0 ≡ pending app done)
    → Does (λ setting answers. take_losses setting app) world world told told
loses_nothing world told app none =
    does_none (λ setting answers. take_losses setting app) world told
    (λ run done answers after.
    ap (λ (n : ℕ). when (nat_lt 0 n) (note run.setting (λ now. event.Lost app (pending app now) (moment now))) done) (sym (none done after.so_far.calls_so)))

pub loses_of_nobody : (world : World) (told : FolderTold) (app : ℕ) → length world.calls.apps ≤ app → Does (λ setting answers. take_losses setting app) world world told told
loses_of_nobody world told app over = loses_nothing world told app (λ done is. sym (none_lost done world.calls app is over))

-- Level events change no count
levels_stay : (kept : Calls) (changed : List LevelChange) (done : List Mark) → calls.IsAfter done kept → calls.IsAfter (done ++ map level_noted changed) kept
levels_stay kept [] done is = subst (λ (ms : List Mark). calls.IsAfter ms kept) (sym (append-nil done)) is
levels_stay kept (change ∷ changed) done is =
    subst (λ (ms : List Mark). calls.IsAfter ms kept) (append_assoc done (level_noted change ∷ []) (map level_noted changed))
    (levels_stay kept changed (done ++ level_noted change ∷ []) (no-call-stays done (level_noted change) kept refl is))

same_note : (setting : Setting) (a b : List Mark → Event) (done : List Mark) → a (done ++ note_levels setting done) ≡ b (done ++ note_levels setting done) → note setting a done ≡ note setting b done
same_note setting a b done same =
    ap (λ (e : Event). note_levels setting done ++ ((Noted e ∷ []) ++ in_sequence (note_levels_now setting ∷ []) ((done ++ note_levels setting done) ++ Noted e ∷ []))) same

pub loses_some : (old new : World) (told told_now : FolderTold) (app count : ℕ) → 0 < count → ((done : List Mark) → calls.IsAfter done old.calls → count ≡ pending app done)
    → Does (λ setting answers. note setting (λ now. event.Lost app count (moment now))) old new told told_now → Does (λ setting answers. take_losses setting app) old new told told_now
loses_some old new told told_now app count some tells does =
    does_as (λ setting answers. note setting (λ now. event.Lost app count (moment now))) (λ setting answers. take_losses setting app) old new told told_now
    (λ run done answers after.
    let there : nat_lt 0 (pending app done) ≡ true = ap (nat_lt 0) (sym (tells done after.so_far.calls_so)) ∙ above_zero count some in
    let here = done ++ note_levels run.setting done in
    let later : pending app here ≡ count = sym (tells here (levels_stay old.calls (changes run.setting (journal done)) done after.so_far.calls_so)) in
    ap (λ (b : Bool). when b (note run.setting (λ now. event.Lost app (pending app now) (moment now))) done) there
    ∙ same_note run.setting (λ now. event.Lost app (pending app now) (moment now)) (λ now. event.Lost app count (moment now)) done (ap (λ (n : ℕ). event.Lost app n (moment here)) later))
    does
