-- What user messages leave fits.
use Rattle.std.proofs.Common.{◌≡◌, ◌≢◌, inl, inr, ℕ, ◌/◌, ◌%◌, ◌<◌, ◌≤◌, Bool, true, false, not, cond, List, [], ◌∷◌, length, Option, Some, None, IsSome, IsSomeAnd, IfSome, is_some, Result, Ok, Err, IsOk, eq-eqb, refl, sym, ap, subst, ◌∙◌, true≢false, arith, length-append}
use Rattle.std.specs.Prelude.{nat_eq, nat_le, ◌==◌, ◌&&◌, ◌||◌, if◌then◌else◌, unwrap_or}
use Rattle.std.specs.List.{AllByRecursion, list_any}
use Rattle.std.specs.Map.{lookup, remove_entry, set_value}
use Rattle.std.specs.Option.{option_and_then, option_map, option_map_or, option_or}
use Rattle.std.specs.Str.{bytes_eq}
use Rattle.dl_bytes.specs.Claim.{Claimed}
use Rattle.dl_model.specs.declared.context.Context.{Context}
use Rattle.dl_model.specs.declared.registry.RegistryFault.{RegistryFault}
use Rattle.dl_model.specs.declared.registry.RegistryFault.TheVariants as fault
use Rattle.dl_model.specs.declared.registry.Slot.{Slot}
use Rattle.dl_bytes.specs.Limits.{last_version}
use Rattle.dl_model.specs.Registry.{App, Registry, IsNumbered, app_of, context_claimed, context_of, context_registered, context_unregistered, for_app, effective, is_free, least_free, numbers, places, places_of, slot_of, stored_level, with_app, with_new_app, with_claim, with_context, with_new_context, without}
use Rattle.dl_model.proofs.Numbered.{IsNumbered-add}
use Rattle.dl_model.proofs.Placed.{IsNumbered-kept, all-left, all-right, numbered-among, places-further, places-push, places-same, Free, free_tells}
use Rattle.std.proofs.lemmas.Map.Steps.{set_value_same}
use Rattle.std.proofs.lemmas.Bool.{le-leb, lt-ltb}
use Rattle.std.proofs.lemmas.Bool.Decides.{eqb_tells, leb_tells}
use Rattle.dl_model.proofs.Order.{app_of_found, in_order-with_app, in_order-with_new_app, in_order-without, placed_of_found}
use Rattle.dl_apps.specs.Change.{changed_app, changed_context, told_again, context_told_again, placed_again, without_context}
use Rattle.dl_registry.specs.Kept.{Kept, Applies, CanClaim, ClaimsIn, Fits, kept_of, slots, with_registry}
use Rattle.dl_registry.specs.Refresh.{has_slot}
use Rattle.dl_registry.specs.Table.{Table, held_at, wanted_at, IsFirstFree}
use Rattle.dl_registry.proofs.Placing.{placed, placed_tells}
use Rattle.dl_registry.proofs.Fitting.{level_of, level_at-same, level_at-places, level_at-new_app, level_at-without, level_of-told, level_of-new, level_of-gone, level_of-further, level_at-found, fits-same, fits-some, fits-app_gone}
use Rattle.dl_apps.proofs.Numbers.{least_free_is, room_left, none_left}

-- a statement of the changed applications, by whether the application is there
by_app : (P : List (List ℕ × App) → Type 0) (apid : List ℕ) (change : App → App) (apps : List (List ℕ × App)) → P apps
    → ((app : App) → lookup (bytes_eq apid) apps ≡ Some app → P (set_value (bytes_eq apid) apps (change app))) → P (changed_app apid change apps)
by_app P apid change apps none some = by (lookup (bytes_eq apid) apps) refl where
  by : (o : Option App) → lookup (bytes_eq apid) apps ≡ o → P (option_map_or (λ app. set_value (bytes_eq apid) apps (change app)) o apps)
  by None is = none
  by (Some app) is = some app is

by_context : (P : App → Type 0) (ctid : List ℕ) (change : Context → Context) (app : App) → P app
    → ((context : Context) → context_of app ctid ≡ Some context → P (with_context app ctid (change context))) → P (changed_context ctid change app)
by_context P ctid change app none some = by (context_of app ctid) refl where
  by : (o : Option Context) → context_of app ctid ≡ o → P (option_map_or (λ context. with_context app ctid (change context)) o app)
  by None is = none
  by (Some context) is = some context is

-- ---- told anew

pub fits-tell_app : (r : Registry) (t : Table) (apid : List ℕ) (pid : ℕ) (text : List ℕ) → Fits r t → Fits (record r { apps = changed_app apid (told_again pid text) r.apps }) t
fits-tell_app r t apid pid text fit =
    by_app (λ apps. Fits (record r { apps = apps }) t) apid (told_again pid text) r.apps fit
    (λ app found. fits-same r (with_app r apid (told_again pid text app)) t fit
    (in_order-with_app r apid app (told_again pid text app) fit.order found refl (placed_of_found r apid app fit.order found))
    (level_at-same r apid app (told_again pid text app) fit.order found refl (λ slot. refl)))

pub fits-tell_context : (r : Registry) (t : Table) (apid ctid : List ℕ) (position : ℕ) (text : List ℕ) → Fits r t
    → Fits (record r { apps = changed_app apid (changed_context ctid (context_told_again position text)) r.apps }) t
fits-tell_context r t apid ctid position text fit =
    by_app (λ apps. Fits (record r { apps = apps }) t) apid (changed_context ctid (context_told_again position text)) r.apps fit
    (λ app found. fits-same r (with_app r apid (changed_context ctid (context_told_again position text) app)) t fit
    (in_order-with_app r apid app (changed_context ctid (context_told_again position text) app) fit.order found (number app) (told_placed app (placed_of_found r apid app fit.order found)))
    (level_at-same r apid app (changed_context ctid (context_told_again position text) app) fit.order found (number app) (levels app (placed_of_found r apid app fit.order found))))
  where
    number : (app : App) → (changed_context ctid (context_told_again position text) app).number ≡ app.number
    number app = by_context (λ a. a.number ≡ app.number) ctid (context_told_again position text) app refl (λ context is. refl)

    told_places : (app : App) (context : Context) → IsNumbered 64 (places app.contexts) → context_of app ctid ≡ Some context
        → IsNumbered 64 (places (set_value (bytes_eq ctid) app.contexts (context_told_again position text context)))
    told_places app context all is = subst (IsNumbered 64) (sym (places-same (bytes_eq ctid) app.contexts context (context_told_again position text context) is refl)) all

    told_placed : (app : App) → IsNumbered 64 (places app.contexts) → IsNumbered 64 (places (changed_context ctid (context_told_again position text) app).contexts)
    told_placed app all = by_context (λ a. IsNumbered 64 (places a.contexts)) ctid (context_told_again position text) app all
        (λ context is. told_places app context all is)

    levels : (app : App) → IsNumbered 64 (places app.contexts) → (slot : ℕ) → level_of r.level (Some (changed_context ctid (context_told_again position text) app)) slot ≡ level_of r.level (Some app) slot
    levels app all slot = by_context (λ a. level_of r.level (Some a) slot ≡ level_of r.level (Some app) slot) ctid (context_told_again position text) app refl
        (λ context is. level_of-told r.level app ctid context position text all (told_places app context all is) is slot)

-- ---- an application that comes, and one that goes

pub fits-add_app : (r : Registry) (t : Table) (apid : List ℕ) (channel number pid : ℕ) (text : List ℕ) → Fits r t → number ≡ least_free (numbers r.apps) → length r.apps < 16
    → Fits (with_new_app r apid (record { channel = channel; number = number; pid = pid; text = text; contexts = [] })) t
fits-add_app r t apid channel number pid text fit least room =
    subst (λ n. Fits (with_new_app r apid (record { channel = channel; number = n; pid = pid; text = text; contexts = [] })) t) (sym least)
    (fits-same r (with_new_app r apid (record { channel = channel; number = least_free (numbers r.apps); pid = pid; text = text; contexts = [] })) t fit
    (in_order-with_new_app r apid channel pid text fit.order room) (level_at-new_app r apid channel (least_free (numbers r.apps)) pid text))

pub fits-remove_app : (r : Registry) (t u : Table) (apid : List ℕ) (app : App) → Fits r t → lookup (bytes_eq apid) r.apps ≡ Some app
    → remove_entry (bytes_eq apid) r.apps ≡ without apid r.apps → u.first ≡ t.first → u.held ≡ t.held
    → ((slot : ℕ) → wanted_at u slot ≡ cond (app.number == slot / 64) None (wanted_at t slot))
    → Fits (record r { apps = without apid r.apps }) u
fits-remove_app r t u apid app fit found once first held wanted =
    fits-app_gone r (record r { apps = without apid r.apps }) t u app.number fit (in_order-without r apid fit.order) first held wanted
    (level_at-without r apid app fit.order found once)

-- ---- a context that comes, and one that goes

-- the places of a context that is there are below 64
pub places_below : (ctid : List ℕ) (contexts : List (List ℕ × Context)) (context : Context) → lookup (bytes_eq ctid) contexts ≡ Some context → AllByRecursion (λ n. n < 64) (places contexts)
    → AllByRecursion (λ n. n < 64) (places_of context)
places_below ctid [] context found below = absurd (cc found)
places_below ctid (e ∷ es) context found below = by (bytes_eq ctid e.0) found (λ is. places_below ctid es context is (all-right (λ n. n < 64) (places_of e.1) (places es) below)) where
  by : (b : Bool) → cond b (Some e.1) (lookup (bytes_eq ctid) es) ≡ Some context → (lookup (bytes_eq ctid) es ≡ Some context → AllByRecursion (λ n. n < 64) (places_of context))
      → AllByRecursion (λ n. n < 64) (places_of context)
  by true is rest =
      let same : e.1 ≡ context = cc is in
      subst (λ (c : Context). AllByRecursion (λ n. n < 64) (places_of c)) same (all-left (λ n. n < 64) (places_of e.1) (places es) below)
  by false is rest = rest is

pub fits-remove_context : (r : Registry) (t u : Table) (apid ctid : List ℕ) (app : App) (context : Context) → Fits r t → lookup (bytes_eq apid) r.apps ≡ Some app → context_of app ctid ≡ Some context
    → remove_entry (bytes_eq ctid) app.contexts ≡ without ctid app.contexts → u.first ≡ t.first → u.held ≡ t.held
    → ((slot : ℕ) → wanted_at u slot ≡ cond (has_slot app.number slot context) None (wanted_at t slot))
    → Fits (with_app r apid (without_context ctid app)) u
fits-remove_context r t u apid ctid app context fit found there once first held wanted =
    fits-some r (with_app r apid (without_context ctid app)) t u (λ slot. has_slot app.number slot context) None fit
    (in_order-with_app r apid app (without_context ctid app) fit.order found refl (IsNumbered-kept (λ (e : List ℕ × Context). places_of e.1) (λ e. not (bytes_eq ctid e.0)) 64 app.contexts all))
    first held wanted
    (level_at-places r apid app (without_context ctid app) fit.order found refl (places_of context) None (places_below ctid app.contexts context there all.below)
    (level_of-gone r.level app ctid context all there once))
    (inr refl)
  where
    all : IsNumbered 64 (places app.contexts)
    all = placed_of_found r apid app fit.order found

-- one slot alone
or_false : (b : Bool) → b ≡ (b || false)
or_false true = refl
or_false false = refl

one_slot : (slot at : ℕ) (level old : Option ℕ) → cond (slot == at) level old ≡ cond ((slot == at) || false) level old
one_slot slot at level old = ap (λ b. cond b level old) (or_false (slot == at))

only : (t : Table) (at : ℕ) → (held_at t.first t.held at).version ≢ last_version → (slot : ℕ) → ((slot == at) || false) ≡ true → (held_at t.first t.held slot).version ≢ last_version
only t at fresh slot here = elim (eqb_tells slot at) [
  | inl same ↦ subst (λ n. (held_at t.first t.held n).version ≢ last_version) (sym same.1) fresh
  | inr other ↦ absurd (true≢false (sym here ∙ ap (λ b. b || false) other.0))
]

-- a context comes at a place that is free
pub fits-add_context : (r : Registry) (t u : Table) (apid ctid : List ℕ) (app : App) (context : Context) → Fits r t → lookup (bytes_eq apid) r.apps ≡ Some app → context.further ≡ []
    → list_any (nat_eq context.place) (places app.contexts) ≡ false → context.place < 64 → u.first ≡ t.first → u.held ≡ t.held
    → ((slot : ℕ) → wanted_at u slot ≡ cond (slot == slot_of app.number context.place) (Some (effective r.level context)) (wanted_at t slot))
    → (held_at t.first t.held (slot_of app.number context.place)).version ≢ last_version
    → Fits (with_app r apid (with_new_context app ctid context)) u
fits-add_context r t u apid ctid app context fit found alone free below first held wanted fresh =
    fits-some r (with_app r apid (with_new_context app ctid context)) t u (λ slot. (slot == slot_of app.number context.place) || false) (Some (effective r.level context)) fit
    (in_order-with_app r apid app (with_new_context app ctid context) fit.order found refl
    (subst (IsNumbered 64) (sym (places-push app.contexts ctid context alone)) (IsNumbered-add 64 (places app.contexts) context.place (placed_of_found r apid app fit.order found) free below)))
    first held
    (λ slot. wanted slot ∙ one_slot slot (slot_of app.number context.place) (Some (effective r.level context)) (wanted_at t slot))
    (level_at-places r apid app (with_new_context app ctid context) fit.order found refl (context.place ∷ []) (Some (effective r.level context)) (below, tt) (level_of-new r.level app ctid context alone free))
    (inl (only t (slot_of app.number context.place) fresh))

-- a context that is there gets a further place, which is free
pub fits-add_place : (r : Registry) (t u : Table) (apid ctid : List ℕ) (app : App) (context : Context) (place : ℕ) → Fits r t → lookup (bytes_eq apid) r.apps ≡ Some app → context_of app ctid ≡ Some context
    → list_any (nat_eq place) (places app.contexts) ≡ false → place < 64 → u.first ≡ t.first → u.held ≡ t.held
    → ((slot : ℕ) → wanted_at u slot ≡ cond (slot == slot_of app.number place) (Some (effective r.level context)) (wanted_at t slot))
    → (held_at t.first t.held (slot_of app.number place)).version ≢ last_version
    → Fits (with_app r apid (with_context app ctid (placed_again place context))) u
fits-add_place r t u apid ctid app context place fit found there free below first held wanted fresh =
    fits-some r (with_app r apid new) t u (λ slot. (slot == slot_of app.number place) || false) (Some (effective r.level context)) fit
    (in_order-with_app r apid app new fit.order found refl now)
    first held
    (λ slot. wanted slot ∙ one_slot slot (slot_of app.number place) (Some (effective r.level context)) (wanted_at t slot))
    (level_at-places r apid app new fit.order found refl (place ∷ []) (Some (effective r.level context)) (below, tt) (level_of-further r.level app ctid context place was now there))
    (inl (only t (slot_of app.number place) fresh))
  where
    new : App
    new = with_context app ctid (placed_again place context)

    was : IsNumbered 64 (places app.contexts)
    was = placed_of_found r apid app fit.order found

    now : IsNumbered 64 (places new.contexts)
    now = numbered-among 64 place (places app.contexts) (places new.contexts) (places-further (bytes_eq ctid) app.contexts context place there) was free below

-- ---- the free place

-- whether a place has a level tells whether a context has it
pub place_tells : (r : Registry) (t : Table) (apid : List ℕ) (app : App) → Fits r t → lookup (bytes_eq apid) r.apps ≡ Some app
    → (place : ℕ) → place < 64 → is_some (wanted_at t (slot_of app.number place)) ≡ list_any (nat_eq place) (places app.contexts)
place_tells r t apid app fit found place below =
    let number : app.number ≡ slot_of app.number place / 64 = omega arith in
    let same : slot_of app.number place % 64 ≡ place = omega arith in
    ap is_some (fit.levels (slot_of app.number place) ∙ level_at-found r apid app app fit.order found refl (slot_of app.number place) number)
    ∙ (mapped (placed places_of (slot_of app.number place % 64) app.contexts) ∙ (ap (λ n. is_some (placed places_of n app.contexts)) same ∙ placed_tells places_of place app.contexts))
  where
    mapped : (o : Option Context) → is_some (option_map (effective r.level) o) ≡ is_some o
    mapped None = refl
    mapped (Some x) = refl

some_is : {A : Type 0} (o : Option A) → IsSome o → is_some o ≡ true
some_is (Some x) is = refl
some_is None is = is

-- the free place that the table tells is the least one, and where it tells none there are 64 contexts
pub free_place_is : (r : Registry) (t : Table) (apid : List ℕ) (app : App) (place : ℕ) → Fits r t → lookup (bytes_eq apid) r.apps ≡ Some app → IsFirstFree t app.number (Some place)
    → (place ≡ least_free (places app.contexts)) × (list_any (nat_eq place) (places app.contexts) ≡ false) × (length (places app.contexts) < 64)
free_place_is r t apid app place fit found free =
    let tells : (k : ℕ) → k < 64 → is_some (wanted_at t (slot_of app.number k)) ≡ list_any (nat_eq k) (places app.contexts) = place_tells r t apid app fit found in
    let unused : list_any (nat_eq place) (places app.contexts) ≡ false = sym (tells place free.0) ∙ ap is_some free.1 in (
      least_free_is (places app.contexts) place unused (λ k below. sym (tells k (omega (arith, free.0))) ∙ some_is (wanted_at t (slot_of app.number k)) (free.2 k below)),
      unused,
      room_left 64 (places app.contexts) place (placed_of_found r apid app fit.order found) free.0 unused,
    )

pub no_place_is_free : (r : Registry) (t : Table) (apid : List ℕ) (app : App) → Fits r t → lookup (bytes_eq apid) r.apps ≡ Some app → IsFirstFree t app.number None → 64 ≤ length (places app.contexts)
no_place_is_free r t apid app fit found all =
    none_left 64 (places app.contexts) (λ k below. sym (place_tells r t apid app fit found k below) ∙ some_is (wanted_at t (slot_of app.number k)) (all k below))

-- there are no more contexts than places
pub fewer_contexts : (contexts : List (List ℕ × Context)) → length contexts ≤ length (places contexts)
fewer_contexts [] = omega arith
fewer_contexts (e ∷ es) = omega (arith, length-append (places_of e.1) (places es), fewer_contexts es)

-- nor has one of them more
pub fewer_places : (ctid : List ℕ) (contexts : List (List ℕ × Context)) (context : Context) → lookup (bytes_eq ctid) contexts ≡ Some context → length (places_of context) ≤ length (places contexts)
fewer_places ctid [] context found = absurd (cc found)
fewer_places ctid (e ∷ es) context found = by (bytes_eq ctid e.0) found (λ is. fewer_places ctid es context is) where
  by : (b : Bool) → cond b (Some e.1) (lookup (bytes_eq ctid) es) ≡ Some context → (lookup (bytes_eq ctid) es ≡ Some context → length (places_of context) ≤ length (places es)) → length (places_of context) ≤ length (places (e ∷ es))
  by true is rest =
      let same : e.1 ≡ context = cc is in
      subst (λ (c : Context). length (places_of c) ≤ length (places (e ∷ es))) same (omega (arith, length-append (places_of e.1) (places es)))
  by false is rest = omega (arith, length-append (places_of e.1) (places es), rest is)

-- ---- what registering a context leaves

number_below : (apid : List ℕ) (es : List (List ℕ × App)) (app : App) → lookup (bytes_eq apid) es ≡ Some app → AllByRecursion (λ n. n < 16) (numbers es) → app.number < 16
number_below apid [] app found below = absurd (cc found)
number_below apid (e ∷ es) app found below = by (bytes_eq apid e.0) found (λ is. number_below apid es app is below.1) where
  by : (b : Bool) → cond b (Some e.1) (lookup (bytes_eq apid) es) ≡ Some app → (lookup (bytes_eq apid) es ≡ Some app → app.number < 16) → app.number < 16
  by true is rest = let same : e.1 ≡ app = cc is in subst (λ (a : App). a.number < 16) same below.0
  by false is rest = rest is

-- the context that comes
abbrev pub coming : Registry → List ℕ → List ℕ → ℕ → Option ℕ → ℕ → List ℕ → Context
coming registry apid ctid place own position text = record { place = place; further = []; own = option_or (stored_level registry.stored apid ctid) own; position = position; text = text }

registered_as : (s : ℕ → Slot) (r : Registry) (apid ctid : List ℕ) (position : ℕ) (own : Option ℕ) (text : List ℕ) (app : App) (place : ℕ) → place ≡ least_free (places app.contexts)
    → context_registered s r apid ctid position own text app None
    ≡ (if nat_le 64 (length (places app.contexts)) then Err fault.ContextsFull
    else if (s (slot_of app.number place)).version == last_version then Err fault.Worn
    else Ok (with_app r apid (with_new_context app ctid (coming r apid ctid place own position text))))
registered_as s r apid ctid position own text app place is =
    ap (λ p. if nat_le 64 (length (places app.contexts)) then Err fault.ContextsFull
    else if (s (slot_of app.number p)).version == last_version then Err fault.Worn
    else Ok (with_app r apid (with_new_context app ctid (coming r apid ctid p own position text)))) (sym is)

not_full : (n : ℕ) → n < 64 → nat_le 64 n ≡ false
not_full n below = elim (leb_tells 64 n) [ inl all ↦ absurd (omega (arith, all.1)) | inr is ↦ is.0 ]

module _ (r : Registry) (t : Table) (apid ctid : List ℕ) (position : ℕ) (own : Option ℕ) (text : List ℕ) (app : App) (fit : Fits r t) (found : lookup (bytes_eq apid) r.apps ≡ Some app) where
  pub context_full : IsFirstFree t app.number None → context_registered (held_at t.first t.held) r apid ctid position own text app None ≡ Err fault.ContextsFull
  context_full none =
      ap (λ b. if b then Err fault.ContextsFull
      else if (held_at t.first t.held (slot_of app.number (least_free (places app.contexts)))).version == last_version then Err fault.Worn
      else Ok (with_app r apid (with_new_context app ctid (coming r apid ctid (least_free (places app.contexts)) own position text))))
      (le-leb 64 (length (places app.contexts)) (no_place_is_free r t apid app fit found none))

  pub context_worn : (place : ℕ) → IsFirstFree t app.number (Some place) → (held_at t.first t.held (slot_of app.number place)).version ≡ last_version
      → context_registered (held_at t.first t.held) r apid ctid position own text app None ≡ Err fault.Worn
  context_worn place free last =
      let is = free_place_is r t apid app place fit found free in
      registered_as (held_at t.first t.held) r apid ctid position own text app place is.0
      ∙ (ap (λ b. if b then Err fault.ContextsFull
      else if (held_at t.first t.held (slot_of app.number place)).version == last_version then Err fault.Worn
      else Ok (with_app r apid (with_new_context app ctid (coming r apid ctid place own position text)))) (not_full (length (places app.contexts)) is.2)
      ∙ ap (λ b. if b then Err fault.Worn else Ok (with_app r apid (with_new_context app ctid (coming r apid ctid place own position text)))) (eq-eqb (held_at t.first t.held (slot_of app.number place)).version last_version last))

  pub context_comes : (place : ℕ) → IsFirstFree t app.number (Some place) → (held_at t.first t.held (slot_of app.number place)).version ≢ last_version
      → context_registered (held_at t.first t.held) r apid ctid position own text app None ≡ Ok (with_app r apid (with_new_context app ctid (coming r apid ctid place own position text)))
  context_comes place free fresh =
      let is = free_place_is r t apid app place fit found free in
      let test : ((held_at t.first t.held (slot_of app.number place)).version == last_version) ≡ false = not_last place fresh in
      registered_as (held_at t.first t.held) r apid ctid position own text app place is.0
      ∙ (ap (λ b. if b then Err fault.ContextsFull
      else if (held_at t.first t.held (slot_of app.number place)).version == last_version then Err fault.Worn
      else Ok (with_app r apid (with_new_context app ctid (coming r apid ctid place own position text)))) (not_full (length (places app.contexts)) is.2)
      ∙ ap (λ b. if b then Err fault.Worn else Ok (with_app r apid (with_new_context app ctid (coming r apid ctid place own position text)))) test)
    where
      not_last : (place : ℕ) → (held_at t.first t.held (slot_of app.number place)).version ≢ last_version → ((held_at t.first t.held (slot_of app.number place)).version == last_version) ≡ false
      not_last place fresh = elim (eqb_tells (held_at t.first t.held (slot_of app.number place)).version last_version) [ inl same ↦ absurd (fresh same.1) | inr other ↦ other.0 ]

  -- the slot of the free place is in the table
  pub slot_within : (place : ℕ) → place < 64 → slot_of app.number place < 1024
  slot_within place below = omega (arith, number_below apid r.apps app found fit.order.numbered.below)

-- ---- the same, by the answer of the call

-- what a call that adds a context ensures, where this is kept before it
abbrev pub Adds : Kept → List ℕ → List ℕ → ℕ → Option ℕ → List ℕ → Result (Unit {0}) RegistryFault → Kept → Type 0
Adds kept apid ctid position own text result new =
    IfSome (lookup (bytes_eq apid) kept.registry.apps) (λ app. Applies (context_registered (slots kept) kept.registry apid ctid position own text app None) kept result new)

-- what it asks for
abbrev pub MayAdd : Kept → List ℕ → List ℕ → ℕ → Type 0
MayAdd kept apid ctid number = IsSomeAnd (lookup (bytes_eq apid) kept.registry.apps) (λ app. (app.number ≡ number) × (context_of app ctid ≡ None))

module _ (r : Registry) (t : Table) (apid ctid : List ℕ) (number position : ℕ) (own : Option ℕ) (text : List ℕ) (fit : Fits r t) (may : MayAdd (kept_of r t) apid ctid number) where
  -- the answer for each application that may be there
  by_found : (result : Result (Unit {0}) RegistryFault) (new : Kept)
      → ((app : App) → lookup (bytes_eq apid) r.apps ≡ Some app → number ≡ app.number → Applies (context_registered (held_at t.first t.held) r apid ctid position own text app None) (kept_of r t) result new)
      → Adds (kept_of r t) apid ctid position own text result new
  by_found result new each = by (lookup (bytes_eq apid) r.apps) refl may where
    by : (o : Option App) → lookup (bytes_eq apid) r.apps ≡ o → IsSomeAnd o (λ app. (app.number ≡ number) × (context_of app ctid ≡ None))
        → IfSome o (λ app. Applies (context_registered (held_at t.first t.held) r apid ctid position own text app None) (kept_of r t) result new)
    by None is there = absurd there
    by (Some app) is there = each app is (sym there.0)

  pub adds-full : IsFirstFree t number None → Adds (kept_of r t) apid ctid position own text (Err fault.ContextsFull) (kept_of r t)
  adds-full none = by_found (Err fault.ContextsFull) (kept_of r t)
      (λ app found same. (context_full r t apid ctid position own text app fit found (subst (λ n. IsFirstFree t n None) same none), refl))

  pub adds-worn : (place : ℕ) → IsFirstFree t number (Some place) → (held_at t.first t.held (slot_of number place)).version ≡ last_version
      → Adds (kept_of r t) apid ctid position own text (Err fault.Worn) (kept_of r t)
  adds-worn place free last = by_found (Err fault.Worn) (kept_of r t)
      (λ app found same. (
        context_worn r t apid ctid position own text app fit found place (subst (λ n. IsFirstFree t n (Some place)) same free)
            (subst (λ n. (held_at t.first t.held (slot_of n place)).version ≡ last_version) same last),
        refl,
      ))

  comes : (place : ℕ) → IsFirstFree t number (Some place) → (held_at t.first t.held (slot_of number place)).version ≢ last_version
      → (app : App) → lookup (bytes_eq apid) r.apps ≡ Some app → number ≡ app.number
      → context_registered (held_at t.first t.held) r apid ctid position own text app None ≡ Ok (with_app r apid (with_new_context app ctid (coming r apid ctid place own position text)))
  comes place free fresh app found same =
      context_comes r t apid ctid position own text app fit found place (subst (λ n. IsFirstFree t n (Some place)) same free)
      (subst (λ n. (held_at t.first t.held (slot_of n place)).version ≢ last_version) same fresh)

  pub adds-memory : (place : ℕ) → IsFirstFree t number (Some place) → (held_at t.first t.held (slot_of number place)).version ≢ last_version
      → Adds (kept_of r t) apid ctid position own text (Err fault.OutOfMemory) (kept_of r t)
  adds-memory place free fresh = by_found (Err fault.OutOfMemory) (kept_of r t)
      (λ app found same. (subst IsOk (sym (comes place free fresh app found same)) (ok_is (with_app r apid (with_new_context app ctid (coming r apid ctid place own position text)))), refl))
    where
      ok_is : (x : Registry) → IsOk (let o : Result Registry RegistryFault = Ok x in o)
      ok_is x = refl

  -- there is room for it
  pub room_for : (place : ℕ) → IsFirstFree t number (Some place) → IfSome (lookup (bytes_eq apid) r.apps) (λ app. (context_of app ctid ≡ None) × (length app.contexts < 64))
  room_for place free = by (lookup (bytes_eq apid) r.apps) refl may where
    by : (o : Option App) → lookup (bytes_eq apid) r.apps ≡ o → IsSomeAnd o (λ app. (app.number ≡ number) × (context_of app ctid ≡ None)) → IfSome o (λ app. (context_of app ctid ≡ None) × (length app.contexts < 64))
    by None found there = absurd there
    by (Some app) found there =
        let is = free_place_is r t apid app place fit found (subst (λ n. IsFirstFree t n (Some place)) (sym there.0) free) in
        (there.1, omega (arith, is.2, fewer_contexts app.contexts))

  -- the registry with the context
  abbrev pub with_coming : ℕ → Registry
  with_coming place = record r { apps = changed_app apid (λ app. with_new_context app ctid (coming r apid ctid place own position text)) r.apps }

  changed_is : (place : ℕ) (app : App) → lookup (bytes_eq apid) r.apps ≡ Some app → with_coming place ≡ with_app r apid (with_new_context app ctid (coming r apid ctid place own position text))
  changed_is place app found =
      ap (λ o. record r { apps = option_map_or (λ app. set_value (bytes_eq apid) r.apps (with_new_context app ctid (coming r apid ctid place own position text))) o r.apps }) found

  pub adds-done : (u : Table) (place : ℕ) → IsFirstFree t number (Some place) → (held_at t.first t.held (slot_of number place)).version ≢ last_version → u.first ≡ t.first → u.held ≡ t.held
      → Adds (kept_of r t) apid ctid position own text (Ok tt) (kept_of (with_coming place) u)
  adds-done u place free fresh first held = by_found (Ok tt) (kept_of (with_coming place) u)
      (λ app found same. (comes place free fresh app found same ∙ ap Ok (sym (changed_is place app found)), kept_alike first held))
    where
      kept_alike : u.first ≡ t.first → u.held ≡ t.held → kept_of (with_coming place) u ≡ with_registry (kept_of r t) (with_coming place)
      kept_alike first held = λ i. record { registry = with_coming place; first = first i; held = held i }

  pub fits-coming : (u : Table) (place slot : ℕ) → IsFirstFree t number (Some place) → slot ≡ slot_of number place → (held_at t.first t.held slot).version ≢ last_version → u.first ≡ t.first → u.held ≡ t.held
      → ((other : ℕ) → slot < 1024 → wanted_at u other ≡ cond (other == slot) (Some (effective r.level (coming r apid ctid place own position text))) (wanted_at t other))
      → Fits (with_coming place) u
  fits-coming u place slot free at fresh first held wanted = by (lookup (bytes_eq apid) r.apps) refl may where
    by : (o : Option App) → lookup (bytes_eq apid) r.apps ≡ o → IsSomeAnd o (λ app. (app.number ≡ number) × (context_of app ctid ≡ None)) → Fits (with_coming place) u
    by None is there = absurd there
    by (Some app) found there =
        let free_here : IsFirstFree t app.number (Some place) = subst (λ n. IsFirstFree t n (Some place)) (sym there.0) free in
        let is = free_place_is r t apid app place fit found free_here in
        let at_slot : slot ≡ slot_of app.number place = at ∙ ap (λ n. slot_of n place) (sym there.0) in
        let within : slot < 1024 = subst (λ n. n < 1024) (sym at_slot) (slot_within r t apid ctid position own text app fit found place free.0) in
        subst (λ (s : Registry). Fits s u) (sym (changed_is place app found))
        (fits-add_context r t u apid ctid app (coming r apid ctid place own position text) fit found refl is.1 free.0 first held
        (λ other. wanted other within ∙ ap (λ n. cond (other == n) (Some (effective r.level (coming r apid ctid place own position text))) (wanted_at t other)) at_slot)
        (λ last. fresh (ap (λ n. (held_at t.first t.held n).version) at_slot ∙ last)))

-- a change that changes nothing
pub changed_app-same : (apid : List ℕ) (apps : List (List ℕ × App)) → changed_app apid (λ app. app) apps ≡ apps
changed_app-same apid apps = by_app (λ es. es ≡ apps) apid (λ app. app) apps refl (λ app found. set_value_same (bytes_eq apid) apps app found)

-- ---- claims

-- a claim that changes something, by what the table tells
module _ (r : Registry) (t : Table) (apid : List ℕ) (number : ℕ) (claim : Claimed) (own : Option (Option ℕ)) (fit : Fits r t) (can : CanClaim (kept_of r t) apid number claim own) where
  found_app : lookup (bytes_eq apid) r.apps ≡ Some can.app
  found_app = app_of_found r 0 apid can.app can.there

  is_placed : Free claim.place can.app.contexts
  is_placed = free_tells claim.place can.app.contexts (ap not can.free)

  not_last : (held_at t.first t.held (slot_of can.app.number claim.place)).version ≢ last_version
  not_last last = true≢false (sym (eq-eqb (held_at t.first t.held (slot_of can.app.number claim.place)).version last_version last) ∙ can.fresh)

  -- it leaves what the definition says
  leaves : option_and_then (context_claimed (held_at t.first t.held) r apid claim) (app_of r 0 apid) ≡ Some (with_app r apid (with_claim r.stored apid claim can.app (context_of can.app claim.ctid)))
  leaves =
      ap (option_and_then (context_claimed (held_at t.first t.held) r apid claim)) can.there
      ∙ (ap (λ b. if not b then None else if (held_at t.first t.held (slot_of can.app.number claim.place)).version == last_version then None
      else Some (with_app r apid (with_claim r.stored apid claim can.app (context_of can.app claim.ctid)))) can.free
      ∙ ap (λ b. if b then None else Some (with_app r apid (with_claim r.stored apid claim can.app (context_of can.app claim.ctid)))) can.fresh)

  done_so : (u : Table) (apps : List (List ℕ × App)) → u.first ≡ t.first → u.held ≡ t.held → record r { apps = apps } ≡ with_app r apid (with_claim r.stored apid claim can.app (context_of can.app claim.ctid))
      → ClaimsIn apid claim (kept_of r t) (kept_of (record r { apps = apps }) u)
  done_so u apps first held is =
      (λ i. record { registry = is i; first = first i; held = held i })
      ∙ ap (λ (o : Option Registry). with_registry (kept_of r t) (unwrap_or o r)) (sym leaves)

  -- ---- a further place of a context that is there

  module _ (level : Option ℕ) (own_is : own ≡ Some level) where
    context_there : (context : Context) × (context_of can.app claim.ctid ≡ Some context) × (context.own ≡ level)
    context_there = by (context_of can.app claim.ctid) refl (can.own_is ∙ own_is) where
      by : (o : Option Context) → context_of can.app claim.ctid ≡ o → option_map (λ c. c.own) o ≡ Some level → (context : Context) × (context_of can.app claim.ctid ≡ Some context) × (context.own ≡ level)
      by None there is = absurd (cc is)
      by (Some context) there is = (context, there, cc is)

    pub place-room : IfSome (lookup (bytes_eq apid) r.apps) (λ app. IfSome (context_of app claim.ctid) (λ context. length context.further < 63))
    place-room =
        let context = context_there.0 in
        let room : length (places can.app.contexts) < 64 = room_left 64 (places can.app.contexts) claim.place (placed_of_found r apid can.app fit.order found_app) is_placed.below is_placed.unused in
        let few : length context.further < 63 = omega (arith, room, fewer_places claim.ctid can.app.contexts context context_there.1) in
        subst (λ o. IfSome o (λ app. IfSome (context_of app claim.ctid) (λ c. length c.further < 63))) (sym found_app)
        (subst (λ o. IfSome o (λ (c : Context). length c.further < 63)) (sym context_there.1) few)

    changed_so : record r { apps = changed_app apid (changed_context claim.ctid (placed_again claim.place)) r.apps } ≡ with_app r apid (with_claim r.stored apid claim can.app (context_of can.app claim.ctid))
    changed_so =
        ap (λ o. record r { apps = option_map_or (λ app. set_value (bytes_eq apid) r.apps (changed_context claim.ctid (placed_again claim.place) app)) o r.apps }) found_app
        ∙ ap (λ app. with_app r apid app) (ap (λ o. option_map_or (λ c. with_context can.app claim.ctid (placed_again claim.place c)) o can.app) context_there.1
        ∙ ap (with_claim r.stored apid claim can.app) (sym context_there.1))

    pub place-done : (u : Table) → u.first ≡ t.first → u.held ≡ t.held
        → ClaimsIn apid claim (kept_of r t) (kept_of (record r { apps = changed_app apid (changed_context claim.ctid (placed_again claim.place)) r.apps }) u)
    place-done u first held = done_so u (changed_app apid (changed_context claim.ctid (placed_again claim.place)) r.apps) first held changed_so

    pub place-fits : (u : Table) (slot given : ℕ) → slot ≡ slot_of number claim.place → given ≡ unwrap_or level r.level → u.first ≡ t.first → u.held ≡ t.held
        → ((other : ℕ) → slot < 1024 → wanted_at u other ≡ cond (other == slot) (Some given) (wanted_at t other))
        → Fits (record r { apps = changed_app apid (changed_context claim.ctid (placed_again claim.place)) r.apps }) u
    place-fits u slot given at given_is first held wanted =
        let context = context_there.0 in
        let at_slot : slot ≡ slot_of can.app.number claim.place = at ∙ ap (λ n. slot_of n claim.place) (sym can.number_is) in
        let within : slot < 1024 = omega (arith, at_slot, is_placed.below, number_below apid r.apps can.app found_app fit.order.numbered.below) in
        let level_is : given ≡ effective r.level context = given_is ∙ ap (λ o. unwrap_or o r.level) (sym context_there.2) in
        subst (λ (s : Registry). Fits s u) (sym (changed_so ∙ ap (λ o. with_app r apid (with_claim r.stored apid claim can.app o)) context_there.1))
        (fits-add_place r t u apid claim.ctid can.app context claim.place fit found_app context_there.1 is_placed.unused is_placed.below first held
        (λ other. wanted other within ∙ (ap (λ n. cond (other == n) (Some given) (wanted_at t other)) at_slot ∙ ap (λ l. cond (other == slot_of can.app.number claim.place) (Some l) (wanted_at t other)) level_is))
        not_last)

  -- ---- a context that comes

  module _ (none : own ≡ None) where
    absent : context_of can.app claim.ctid ≡ None
    absent = by (context_of can.app claim.ctid) (can.own_is ∙ none) where
      by : (o : Option Context) → option_map (λ c. c.own) o ≡ None → o ≡ None
      by None is = refl
      by (Some context) is = absurd (cc is)

    pub context-room : IfSome (lookup (bytes_eq apid) r.apps) (λ app. (context_of app claim.ctid ≡ None) × (length app.contexts < 64))
    context-room =
        let room : length (places can.app.contexts) < 64 = room_left 64 (places can.app.contexts) claim.place (placed_of_found r apid can.app fit.order found_app) is_placed.below is_placed.unused in
        subst (λ o. IfSome o (λ app. (context_of app claim.ctid ≡ None) × (length app.contexts < 64))) (sym found_app) (absent, omega (arith, room, fewer_contexts can.app.contexts))

    -- the context that it is for
    abbrev pub claimed_context : Context
    claimed_context = record { place = claim.place; further = []; own = option_or (stored_level r.stored apid claim.ctid) claim.level; position = 0; text = claim.text }

    added_so : record r { apps = changed_app apid (λ app. with_new_context app claim.ctid claimed_context) r.apps } ≡ with_app r apid (with_claim r.stored apid claim can.app (context_of can.app claim.ctid))
    added_so =
        ap (λ o. record r { apps = option_map_or (λ app. set_value (bytes_eq apid) r.apps (with_new_context app claim.ctid claimed_context)) o r.apps }) found_app
        ∙ ap (λ o. with_app r apid (with_claim r.stored apid claim can.app o)) (sym absent)

    pub context-done : (u : Table) → u.first ≡ t.first → u.held ≡ t.held
        → ClaimsIn apid claim (kept_of r t) (kept_of (record r { apps = changed_app apid (λ app. with_new_context app claim.ctid claimed_context) r.apps }) u)
    context-done u first held = done_so u (changed_app apid (λ app. with_new_context app claim.ctid claimed_context) r.apps) first held added_so

    pub context-fits : (u : Table) (slot given : ℕ) → slot ≡ slot_of number claim.place → given ≡ effective r.level claimed_context → u.first ≡ t.first → u.held ≡ t.held
        → ((other : ℕ) → slot < 1024 → wanted_at u other ≡ cond (other == slot) (Some given) (wanted_at t other))
        → Fits (record r { apps = changed_app apid (λ app. with_new_context app claim.ctid claimed_context) r.apps }) u
    context-fits u slot given at given_is first held wanted =
        let at_slot : slot ≡ slot_of can.app.number claim.place = at ∙ ap (λ n. slot_of n claim.place) (sym can.number_is) in
        let within : slot < 1024 = omega (arith, at_slot, is_placed.below, number_below apid r.apps can.app found_app fit.order.numbered.below) in
        subst (λ (s : Registry). Fits s u) (sym (added_so ∙ ap (λ o. with_app r apid (with_claim r.stored apid claim can.app o)) absent))
        (fits-add_context r t u apid claim.ctid can.app claimed_context fit found_app refl is_placed.unused is_placed.below first held
        (λ other. wanted other within ∙ (ap (λ n. cond (other == n) (Some given) (wanted_at t other)) at_slot ∙ ap (λ l. cond (other == slot_of can.app.number claim.place) (Some l) (wanted_at t other)) given_is))
        not_last)

-- ---- a claim that changes nothing

pub claims-taken : (kept : Kept) (apid : List ℕ) (claim : Claimed) (app : App) → app_of kept.registry 0 apid ≡ Some app → is_free claim.place app.contexts ≡ false → ClaimsIn apid claim kept kept
claims-taken kept apid claim app there taken =
    ap (λ b. with_registry kept (unwrap_or (if not b then None else if (slots kept (slot_of app.number claim.place)).version == last_version then None
    else Some (with_app kept.registry apid (with_claim kept.registry.stored apid claim app (context_of app claim.ctid)))) kept.registry)) (sym taken)
    ∙ ap (λ (o : Option App). with_registry kept (unwrap_or (option_and_then (context_claimed (slots kept) kept.registry apid claim) o) kept.registry)) (sym there)

pub claims-worn : (kept : Kept) (apid : List ℕ) (claim : Claimed) (app : App) → app_of kept.registry 0 apid ≡ Some app → ((slots kept (slot_of app.number claim.place)).version == last_version) ≡ true → ClaimsIn apid claim kept kept
claims-worn kept apid claim app there worn =
    by (is_free claim.place app.contexts)
    ∙ ap (λ (o : Option App). with_registry kept (unwrap_or (option_and_then (context_claimed (slots kept) kept.registry apid claim) o) kept.registry)) (sym there)
  where
    new : Registry
    new = with_app kept.registry apid (with_claim kept.registry.stored apid claim app (context_of app claim.ctid))

    by : (b : Bool) → kept ≡ with_registry kept (unwrap_or (if not b then None else if (slots kept (slot_of app.number claim.place)).version == last_version then None else Some new) kept.registry)
    by false = refl
    by true = ap (λ w. with_registry kept (unwrap_or (if w then None else Some new) kept.registry)) (sym worn)

-- the table tells whether a place below 64 is free
pub free_told : (r : Registry) (t : Table) (apid : List ℕ) (app : App) (place : ℕ) → Fits r t → lookup (bytes_eq apid) r.apps ≡ Some app → place < 64
    → is_free place app.contexts ≡ not (is_some (wanted_at t (slot_of app.number place)))
free_told r t apid app place fit found below =
    ap (λ b. b && not (list_any (nat_eq place) (places app.contexts))) (lt-ltb place 64 below) ∙ ap not (sym (place_tells r t apid app fit found place below))

-- what the table and the registry tell of a claim, by which it changes something
pub can_claim : (r : Registry) (t : Table) (apid : List ℕ) (number slot : ℕ) (claim : Claimed) (app : App) (own : Option (Option ℕ)) → Fits r t → app_of r 0 apid ≡ Some app → number ≡ app.number → claim.place < 64
    → slot ≡ slot_of app.number claim.place → is_some (wanted_at t slot) ≡ false → (held_at t.first t.held slot).version ≢ last_version → option_map (λ (x : Context). x.own) (context_of app claim.ctid) ≡ own
    → CanClaim (kept_of r t) apid number claim own
can_claim r t apid number slot claim app own fit there number_is below at none fresh own_is = record {
  app = app;
  there = there;
  number_is = sym number_is;
  free = free_told r t apid app claim.place fit (app_of_found r 0 apid app there) below ∙ (ap (λ n. not (is_some (wanted_at t n))) (sym at) ∙ ap not none);
  fresh = elim (eqb_tells (held_at t.first t.held (slot_of app.number claim.place)).version last_version) [
    | inl same ↦ absurd (fresh (ap (λ n. (held_at t.first t.held n).version) at ∙ same.1))
    | inr other ↦ other.0
  ];
  own_is = own_is;
}

-- ---- a context that goes, by the answer of the call

-- there is a context where one was found
pub there_is : {X : Type 0} (f : X → Context) (o : Option X) (context : Option Context) → option_map f o ≡ context → is_some o ≡ true → (there : Context) × (context ≡ Some there)
there_is f None context is some = absurd (true≢false (sym some))
there_is f (Some x) context is some = (f x, sym is)

pub context_goes : (r : Registry) (channel : ℕ) (apid ctid : List ℕ) (app : App) (context : Context) → app_of r channel apid ≡ Some app → context_of app ctid ≡ Some context
    → for_app (app_of r channel apid) (λ a. context_unregistered r apid ctid a (context_of a ctid)) ≡ Ok (with_app r apid (without_context ctid app))
context_goes r channel apid ctid app context there found =
    ap (λ o. for_app o (λ a. context_unregistered r apid ctid a (context_of a ctid))) there ∙ ap (context_unregistered r apid ctid app) found
