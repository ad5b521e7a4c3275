-- Where a context's slot leads: to the number of its application and its place, since a registry is in order.
use Rattle.std.proofs.Common.{◌≡◌, ℕ, ◌+◌, ◌*◌, ◌/◌, ◌%◌, ◌<◌, Bool, true, false, cond, List, [], ◌∷◌, map, Option, Some, None, ◌⊎◌, inl, inr, ◌≢◌, refl, sym, ap, subst, ◌∙◌, arith}
use Rattle.std.specs.Prelude.{◌==◌, nat_eq}
use Rattle.std.specs.List.{AllByRecursion, find}
use Rattle.std.specs.Map.{lookup, values_of}
use Rattle.std.specs.Option.{option_and_then, option_map}
use Rattle.std.specs.Str.{bytes_eq}
use Rattle.std.proofs.lemmas.Bool.Decides.{eqb_tells}
use Rattle.dl_model.specs.declared.context.Context.{Context}
use Rattle.dl_model.specs.Registry.{App, Registry, IsInOrder, IsNumbered, ArePlaced, context_of, places, places_of, slot_of, of_channel}
use Rattle.dl_model.proofs.Placed.{all-right}
use Rattle.dl_registry.specs.Kept.{slot_named, channel_at}
use Rattle.dl_registry.proofs.Finding.{valued-found}
use Rattle.dl_services.specs.Wish.{target_of, number_and_place}

-- what holds of all numbers holds of that of an entry that was found
found-all : {A : Type 0} (f : A → ℕ) (P : ℕ → Type 0) (test : List ℕ → Bool) (es : List (List ℕ × A)) (v : A)
    → lookup test es ≡ Some v → AllByRecursion P (map (λ e. f e.1) es) → P (f v)
found-all f P test [] v found all = absurd (cc found)
found-all f P test (e ∷ es) v found all = by (test e.0) found (λ is. found-all f P test es v is all.1) where
  by : (b : Bool) → cond b (Some e.1) (lookup test es) ≡ Some v → (lookup test es ≡ Some v → P (f v)) → P (f v)
  by true is rest = let same : e.1 ≡ v = cc is in subst (λ x. P (f x)) same all.0
  by false is rest = rest is

-- the place of a context that was found is below 64
found-below : (test : List ℕ → Bool) (es : List (List ℕ × Context)) (v : Context) → lookup test es ≡ Some v → AllByRecursion (λ n. n < 64) (places es) → v.place < 64
found-below test [] v found all = absurd (cc found)
found-below test (e ∷ es) v found all = by (test e.0) found (λ is. found-below test es v is (all-right (λ n. n < 64) (places_of e.1) (places es) all)) where
  by : (b : Bool) → cond b (Some e.1) (lookup test es) ≡ Some v → (lookup test es ≡ Some v → v.place < 64) → v.place < 64
  by true is rest = let same : e.1 ≡ v = cc is in subst (λ (x : Context). x.place < 64) same all.0
  by false is rest = rest is

-- an application that was found has its contexts at places of their own
found-placed : (test : List ℕ → Bool) (apps : List (List ℕ × App)) (app : App)
    → lookup test apps ≡ Some app → ArePlaced apps → IsNumbered 64 (places app.contexts)
found-placed test [] app found placed = absurd (cc found)
found-placed test (e ∷ es) app found placed = by (test e.0) found (λ is. found-placed test es app is placed.1) where
  by : (b : Bool) → cond b (Some e.1) (lookup test es) ≡ Some app → (lookup test es ≡ Some app → IsNumbered 64 (places app.contexts)) → IsNumbered 64 (places app.contexts)
  by true is rest = let same : e.1 ≡ app = cc is in subst (λ (x : App). IsNumbered 64 (places x.contexts)) same placed.0
  by false is rest = rest is

-- a context that has both ids, with its application, and the slot of both
pub record Standing (registry : Registry) (apid ctid : List ℕ) (slot : ℕ) : Type 0 where
  pub app : App
  pub context : Context
  pub app_is : lookup (bytes_eq apid) registry.apps ≡ Some app
  pub context_is : context_of app ctid ≡ Some context
  pub slot_is : slot_of app.number context.place ≡ slot

pub standing : (registry : Registry) (apid ctid : List ℕ) (slot : ℕ) → slot_named registry apid ctid ≡ Some slot → Standing registry apid ctid slot
standing registry apid ctid slot found = of_app (lookup (bytes_eq apid) registry.apps) refl found where
  pair : App → Context → App × Context
  pair app context = (app, context)

  of_app : (o : Option App) → lookup (bytes_eq apid) registry.apps ≡ o
      → option_map (λ (named : App × Context). slot_of named.0.number named.1.place) (option_and_then (λ (app : App). option_map (λ (context : Context). (app, context)) (context_of app ctid)) o) ≡ Some slot
      → Standing registry apid ctid slot
  of_app None is slots = absurd (cc slots)
  of_app (Some app) is slots = of_context (context_of app ctid) refl slots where
    of_context : (o : Option Context) → context_of app ctid ≡ o
        → option_map (λ (named : App × Context). slot_of named.0.number named.1.place) (option_map (λ (context : Context). (app, context)) o) ≡ Some slot
        → Standing registry apid ctid slot
    of_context None here slots = absurd (cc slots)
    of_context (Some context) here slots = record { app = app; context = context; app_is = is; context_is = here; slot_is = (cc slots) }

-- its application's number and its place
pub slot_number : (registry : Registry) (apid ctid : List ℕ) (slot : ℕ) → IsInOrder registry → (s : Standing registry apid ctid slot)
    → (s.app.number < 16) × (s.context.place < 64) × (slot / 64 ≡ s.app.number) × (slot % 64 ≡ s.context.place)
slot_number registry apid ctid slot order s =
    let number : s.app.number < 16 = found-all (λ (app : App). app.number) (λ n. n < 16) (bytes_eq apid) registry.apps s.app s.app_is order.numbered.below in
    let placed = found-placed (bytes_eq apid) registry.apps s.app s.app_is order.placed in
    let place : s.context.place < 64 = found-below (bytes_eq ctid) s.app.contexts s.context s.context_is placed.below in
    let is : 64 * s.app.number + s.context.place ≡ slot = s.slot_is in
    (number, place, (omega arith), (omega arith))

-- the slot of a context that is there tells the number of an application
pub slot_of_few : (registry : Registry) (apid ctid : List ℕ) (slot : ℕ) → IsInOrder registry → Some slot ≡ slot_named registry apid ctid → slot / 64 < 16
slot_of_few registry apid ctid slot order found =
    let s = standing registry apid ctid slot (sym found) in
    let n = slot_number registry apid ctid slot order s in
    subst (λ k. k < 16) (sym n.2) n.0

-- the number and the place that a slot tells, where the application is one of this process
abbrev pub told : Option ℕ → ℕ → Option (ℕ × ℕ)
told None slot = None
told (Some channel) slot = cond (channel == 0) (Some (slot / 64, slot % 64)) None

-- the context of a slot is that of both ids
pub target_told : (registry : Registry) (apid ctid : List ℕ) (slot : ℕ) → IsInOrder registry → slot_named registry apid ctid ≡ Some slot
    → number_and_place (target_of registry apid ctid) ≡ told (channel_at registry (slot / 64)) slot
target_told registry apid ctid slot order found =
    let s = standing registry apid ctid slot found in
    let n = slot_number registry apid ctid slot order s in
    let there : find (λ (app : App). app.number == s.app.number) (values_of registry.apps) ≡ Some s.app =
    valued-found (λ (app : App). app.number) (bytes_eq apid) registry.apps s.app s.app_is order.numbered.apart in
    let channel : channel_at registry (slot / 64) ≡ Some s.app.channel =
    ap (λ k. channel_at registry k) n.2 ∙ ap (option_map (λ (app : App). app.channel)) there in
    let app_there : target_of registry apid ctid ≡ option_and_then (λ (app : App). option_map (λ (context : Context). (app, context)) (context_of app ctid)) (cond (s.app.channel == 0) (Some s.app) None) =
    ap (λ o. option_and_then (λ (app : App). option_map (λ (context : Context). (app, context)) (context_of app ctid)) (option_and_then (of_channel 0) o)) s.app_is in
    ap number_and_place app_there ∙ (by s n (s.app.channel == 0) ∙ sym (ap (λ o. told o slot) channel)) where
      by : (s : Standing registry apid ctid slot) (n : (s.app.number < 16) × (s.context.place < 64) × (slot / 64 ≡ s.app.number) × (slot % 64 ≡ s.context.place)) (b : Bool)
          → number_and_place (option_and_then (λ (app : App). option_map (λ (context : Context). (app, context)) (context_of app ctid)) (cond b (Some s.app) None))
          ≡ cond b (Some (slot / 64, slot % 64)) None
      by s n false = refl
      by s n true =
          ap (λ o. number_and_place (option_map (λ (context : Context). (s.app, context)) o)) s.context_is
          ∙ (ap (λ k. Some (k, s.context.place)) (sym n.2) ∙ ap (λ k. Some (slot / 64, k)) (sym n.3))

-- no application has the number
pub target_none : (registry : Registry) (apid ctid : List ℕ) (slot : ℕ) → IsInOrder registry → Some slot ≡ slot_named registry apid ctid
    → None ≡ channel_at registry (slot / 64) → number_and_place (target_of registry apid ctid) ≡ None
target_none registry apid ctid slot order found none =
    target_told registry apid ctid slot order (sym found) ∙ sym (ap (λ o. told o slot) none)

-- the application is one of this process
pub target_here : (registry : Registry) (apid ctid : List ℕ) (slot channel : ℕ) → IsInOrder registry → Some slot ≡ slot_named registry apid ctid
    → Some channel ≡ channel_at registry (slot / 64) → channel ≡ 0 → Some (slot / 64, slot % 64) ≡ number_and_place (target_of registry apid ctid)
target_here registry apid ctid slot channel order found there here =
    sym (target_told registry apid ctid slot order (sym found) ∙ (sym (ap (λ o. told o slot) there) ∙ ap (λ k. told (Some k) slot) here))

-- the application is one of another channel
pub target_elsewhere : (registry : Registry) (apid ctid : List ℕ) (slot channel : ℕ) → IsInOrder registry → Some slot ≡ slot_named registry apid ctid
    → Some channel ≡ channel_at registry (slot / 64) → (channel ≡ 0 → ⊥) → None ≡ number_and_place (target_of registry apid ctid)
target_elsewhere registry apid ctid slot channel order found there elsewhere =
    sym (target_told registry apid ctid slot order (sym found) ∙ (sym (ap (λ o. told o slot) there) ∙ by (eqb_tells channel 0))) where
      by : ((nat_eq channel 0 ≡ true) × (channel ≡ 0)) ⊎ ((nat_eq channel 0 ≡ false) × (channel ≢ 0)) → told (Some channel) slot ≡ None
      by (inl here) = absurd (elsewhere here.1)
      by (inr other) = ap (λ b. cond b (Some (slot / 64, slot % 64)) None) other.0
