-- Registrations that are accepted are answered.
use Rattle.std.proofs.Common.{◌≡◌, ◌<◌, ◌==◌, ◌||◌, ◌/◌, ◌%◌, ℕ, ℤ, Bool, true, false, cond, List, [], ◌∷◌, Option, Some, None, IfOk, inl, inr, refl, sym, ap, subst, ◌∙◌, arith}
use Rattle.std.specs.Prelude.{nat_eq}
use Rattle.std.specs.List.{AllByRecursion, list_any}
use Rattle.std.specs.Map.{lookup, set_value}
use Rattle.std.specs.Option.{option_and_then, option_map, option_or}
use Rattle.std.specs.Str.{bytes_eq}
use Rattle.std.proofs.lemmas.Bool.Decides.{eqb_tells}
use Rattle.dl_bytes.specs.declared.user.UserMsg.{UserMsg}
use Rattle.dl_bytes.specs.declared.user.UserMsg.TheVariants.{RegisterContext}
use Rattle.dl_channel.specs.Levels.{level_message}
use Rattle.dl_model.proofs.Changes.{context_registers, new_context}
use Rattle.dl_model.proofs.Order.{placed_of_found}
use Rattle.dl_model.proofs.Placed.{all-right}
use Rattle.dl_model.proofs.Presence.{bytes_same, lookup-push, lookup-set_same}
use Rattle.dl_model.specs.Registry.{App, Registry, IsInOrder, applied, context_named, context_of, effective, has_place, least_free, level_at, places, places_of, slot_of, with_app, with_context, with_new_context}
use Rattle.dl_model.specs.declared.context.Context.{Context}
use Rattle.dl_model.specs.declared.registry.Slot.{Slot}
use Rattle.dl_registry.proofs.Fitting.{level_at-found, level_of-own}
use Rattle.dl_channel_turns.specs.Put.{IsAnswered}

-- the place of a context that was found is below 64
place_below : (test : List ℕ → Bool) (es : List (List ℕ × Context)) (v : Context) → lookup test es ≡ Some v → AllByRecursion (λ n. n < 64) (places es) → v.place < 64
place_below test [] v found all = absurd (cc found)
place_below test (e ∷ es) v found all = by (test e.0) found (λ is. place_below test es v is (all-right (λ n. n < 64) (places_of e.1) (places es) all)) where
  by : (b : Bool) → cond b (Some e.1) (lookup test es) ≡ Some v → (lookup test es ≡ Some v → v.place < 64) → v.place < 64
  by true is rest = let same : e.1 ≡ v = cc is in subst (λ (x : Context). x.place < 64) same all.0
  by false is rest = rest is

its_place : (n : ℕ) (context : Context) → n ≡ context.place → has_place n context ≡ true
its_place n context same = elim (eqb_tells n context.place) [
  | inl here ↦ ap (λ (b : Bool). b || list_any (nat_eq n) context.further) here.0
  | inr apart ↦ absurd (apart.1 same)
]

module _ (apid ctid : List ℕ) (position : ℕ) where
  -- the context is there
  there_answered : (r : Registry) (app : App) (context : Context) → IsInOrder r → lookup (bytes_eq apid) r.apps ≡ Some app → context_of app ctid ≡ Some context → IsAnswered apid ctid position r
  there_answered r app context order found there =
      let placed = placed_of_found r apid app order found in
      let below : context.place < 64 = place_below (bytes_eq ctid) app.contexts context there placed.below in
      let slot : ℕ = slot_of app.number context.place in
      let number : app.number ≡ slot_of app.number context.place / 64 = omega (arith, below) in
      let place : slot_of app.number context.place % 64 ≡ context.place = omega (arith, below) in
      let named : context_named r apid ctid ≡ Some (app, context) =
      ap (λ (o : Option App). option_and_then (λ (a : App). option_map (λ (c : Context). (a, c)) (context_of a ctid)) o) found ∙ ap (λ (o : Option Context). option_map (λ (c : Context). (app, c)) o) there in
      let level : level_at r slot ≡ Some (effective r.level context) =
      level_at-found r apid app app order found refl slot number ∙ level_of-own r.level app ctid context there placed slot (its_place (slot % 64) context place) in (
        effective r.level context,
        ap (option_map (λ (n : App × Context). effective r.level n.1)) named,
        ap (option_map (λ (l : ℕ). level_message l position))
            (ap (λ (o : Option (App × Context)). option_and_then (level_at r) (option_map (λ (n : App × Context). slot_of n.0.number n.1.place) o)) named ∙ level),
      )

  pub are_answered : (slots : ℕ → Slot) (r : Registry) (channel : ℕ) (own : Option ℕ) (trace : ℤ) (pid : ℕ) (text : List ℕ)
      → IfOk (applied slots r channel (RegisterContext apid ctid position own trace pid text)) (λ (left : Registry). IsInOrder left → IsAnswered apid ctid position left)
  are_answered slots r channel own trace pid text =
      context_registers slots r channel (λ (left : Registry). IsInOrder left → IsAnswered apid ctid position left) apid ctid position own trace pid text
      (λ app context found of there.
      let told : Context = record context { position = position; text = text } in
      let now : App = with_context app ctid told in
      λ after. there_answered (with_app r apid now) now told after (lookup-set_same apid r.apps app now found) (lookup-set_same ctid app.contexts context told there))
      (λ app found of there room.
      let new : Context = new_context r apid ctid (least_free (places app.contexts)) own position text in
      let now : App = with_new_context app ctid new in
      λ after. there_answered (with_app r apid now) now new after (lookup-set_same apid r.apps app now found)
      (lookup-push (bytes_eq ctid) app.contexts ctid new ∙ ap (λ (o : Option Context). option_or o (cond (bytes_eq ctid ctid) (Some new) None)) there ∙ ap (λ (b : Bool). cond b (Some new) None) (bytes_same ctid)))
