-- Each message and each request keeps numbers and places apart.
use Rattle.std.proofs.Common.{◌≡◌, ℕ, ◌<◌, Bool, true, false, not, cond, List, [], ◌∷◌, ◌++◌, length, map, Option, Some, refl, sym, ap, subst, arith, unwrap_or, IfOk, IfSome}
use Rattle.std.specs.List.{filter}
use Rattle.std.specs.Map.{lookup, set_value}
use Rattle.std.specs.Str.{bytes_eq}
use Rattle.std.proofs.lemmas.List.{length-map, map-append}
use Rattle.dl_bytes.specs.Claim.{Claimed}
use Rattle.dl_bytes.specs.declared.user.UserMsg.{UserMsg}
use Rattle.dl_bytes.specs.declared.user.UserMsg.TheVariants.{RegisterApp, UnregisterApp, RegisterContext, UnregisterContext}
use Rattle.dl_events.specs.declared.event.Event.{Event}
use Rattle.dl_model.specs.declared.registry.Slot.{Slot}
use Rattle.dl_model.specs.Journal.{registry_of}
use Rattle.dl_model.specs.Setting.{Setting}
use Rattle.dl_model.specs.Registry.{App, Registry, app_of, numbers, places_of, places, least_free, IsNumbered, with_app, with_new_app, without, applied, claimed, Relevel, releveled_app, releveled, ArePlaced, IsInOrder}
use Rattle.dl_model.proofs.Changes.{app_registers, app_unregisters, claim_makes, context_registers, context_unregisters, found_on, registry_keeps, served_makes, step_keeps}
use Rattle.dl_model.proofs.Numbered.{IsNumbered-push, IsNumbered-add, IsNumbered-filter, IsNumbered-none, map-set_value}
use Rattle.dl_model.proofs.Placed.{IsNumbered-kept, places-push, places-same, places-further, numbered-among, releveled_places, free_tells}

-- ---- places

ArePlaced-push : (es : List (List ℕ × App)) (e : List ℕ × App) → ArePlaced es → IsNumbered 64 (places e.1.contexts) → ArePlaced (es ++ e ∷ [])
ArePlaced-push [] e all here = (here, tt)
ArePlaced-push (x ∷ xs) e all here = (all.0, ArePlaced-push xs e all.1 here)

kept : (b : Bool) (x : List ℕ × App) (xs : List (List ℕ × App)) → IsNumbered 64 (places x.1.contexts) → ArePlaced xs → ArePlaced (cond b (x ∷ xs) xs)
kept true x xs here all = (here, all)
kept false x xs here all = all

ArePlaced-filter : (p : List ℕ × App → Bool) (es : List (List ℕ × App)) → ArePlaced es → ArePlaced (filter p es)
ArePlaced-filter p [] all = all
ArePlaced-filter p (x ∷ xs) all = kept (p x) x (filter p xs) all.0 (ArePlaced-filter p xs all.1)

set_or_not : (b : Bool) (x : List ℕ × App) (w : App) (xs ys : List (List ℕ × App)) → IsNumbered 64 (places x.1.contexts) → IsNumbered 64 (places w.contexts) → ArePlaced xs → ArePlaced ys → ArePlaced (cond b ((x.0, w) ∷ xs) (x ∷ ys))
set_or_not true x w xs ys old new all alls = (new, all)
set_or_not false x w xs ys old new all alls = (old, alls)

pub ArePlaced-set_value : (test : List ℕ → Bool) (es : List (List ℕ × App)) (w : App) → ArePlaced es → IsNumbered 64 (places w.contexts) → ArePlaced (set_value test es w)
ArePlaced-set_value test [] w all here = all
ArePlaced-set_value test (x ∷ xs) w all here = set_or_not (test x.0) x w xs (set_value test xs w) all.0 here all.1 (ArePlaced-set_value test xs w all.1 here)

found_here : (b : Bool) (x : App) (rest : Option App) → IsNumbered 64 (places x.contexts) → IfSome rest (λ app. IsNumbered 64 (places app.contexts)) → IfSome (cond b (Some x) rest) (λ app. IsNumbered 64 (places app.contexts))
found_here true x rest here others = here
found_here false x rest here others = others

pub placed_of_lookup : (test : List ℕ → Bool) (es : List (List ℕ × App)) → ArePlaced es → IfSome (lookup test es) (λ app. IsNumbered 64 (places app.contexts))
placed_of_lookup test [] all = tt
placed_of_lookup test (x ∷ xs) all = found_here (test x.0) x.1 (lookup test xs) all.0 (placed_of_lookup test xs all.1)

-- ---- an application that is changed, of the same number

pub in_order-with_app : (r : Registry) (apid : List ℕ) (old new : App) → IsInOrder r → lookup (bytes_eq apid) r.apps ≡ Some old → new.number ≡ old.number → IsNumbered 64 (places new.contexts) → IsInOrder (with_app r apid new)
in_order-with_app r apid old new is found same placed = record {
  numbered = subst (IsNumbered 16) (sym (map-set_value (λ e. e.1.number) (bytes_eq apid) r.apps old new found (λ k. same))) is.numbered;
  placed = ArePlaced-set_value (bytes_eq apid) r.apps new is.placed placed;
}

pub in_order-with_new_app : (r : Registry) (apid : List ℕ) (channel pid : ℕ) (text : List ℕ) → IsInOrder r → length r.apps < 16
    → IsInOrder (with_new_app r apid (record { channel = channel; number = least_free (numbers r.apps); pid = pid; text = text; contexts = [] }))
in_order-with_new_app r apid channel pid text is room = record {
  numbered = subst (IsNumbered 16) (sym (map-append (λ e. e.1.number) r.apps ((apid, new) ∷ []))) (IsNumbered-push 16 (numbers r.apps) is.numbered (omega (arith, length-map r.apps (λ (e : List ℕ × App). e.1.number))));
  placed = ArePlaced-push r.apps (apid, new) is.placed (IsNumbered-none 64);
}
  where
    new : App
    new = record { channel = channel; number = least_free (numbers r.apps); pid = pid; text = text; contexts = [] }

-- ---- user messages and claims

pub app_of_found : (r : Registry) (channel : ℕ) (apid : List ℕ) (app : App) → app_of r channel apid ≡ Some app → lookup (bytes_eq apid) r.apps ≡ Some app
app_of_found r channel apid app is = (found_on channel (lookup (bytes_eq apid) r.apps) app is).0

pub placed_of_found : (r : Registry) (apid : List ℕ) (app : App) → IsInOrder r → lookup (bytes_eq apid) r.apps ≡ Some app → IsNumbered 64 (places app.contexts)
placed_of_found r apid app is found = subst (λ (o : Option App). IfSome o (λ a. IsNumbered 64 (places a.contexts))) found (placed_of_lookup (bytes_eq apid) r.apps is.placed)

pub in_order-without : (r : Registry) (apid : List ℕ) → IsInOrder r → IsInOrder (record r { apps = without apid r.apps })
in_order-without r apid is = record {
  numbered = IsNumbered-filter 16 (λ e. e.1.number) (λ e. not (bytes_eq apid e.0)) r.apps is.numbered;
  placed = ArePlaced-filter (λ e. not (bytes_eq apid e.0)) r.apps is.placed;
}

module _ (r : Registry) (is : IsInOrder r) where
  -- an application that was found, with contexts at other places of their own
  changed : (apid : List ℕ) (app new : App) → lookup (bytes_eq apid) r.apps ≡ Some app → new.number ≡ app.number → (IsNumbered 64 (places app.contexts) → IsNumbered 64 (places new.contexts)) → IsInOrder (with_app r apid new)
  changed apid app new found same placed = in_order-with_app r apid app new is found same (placed (placed_of_found r apid app is found))

  applied-order : (slots : ℕ → Slot) (channel : ℕ) (msg : UserMsg) → IfOk (applied slots r channel msg) IsInOrder
  applied-order slots channel (RegisterApp apid pid text) =
      app_registers slots r channel IsInOrder apid pid text (λ app found of. changed apid app _ found refl (λ all. all)) (λ none room. in_order-with_new_app r apid channel pid text is room)
  applied-order slots channel (UnregisterApp apid pid) = app_unregisters slots r channel IsInOrder apid pid (λ app found of. in_order-without r apid is)
  applied-order slots channel (RegisterContext apid ctid position level trace pid text) =
      context_registers slots r channel IsInOrder apid ctid position level trace pid text
      (λ app context found of there. changed apid app _ found refl (subst (IsNumbered 64) (sym (places-same (bytes_eq ctid) app.contexts context (record context { position = position; text = text }) there refl))))
      (λ app found of there room. changed apid app _ found refl (λ all. subst (IsNumbered 64) (sym (places-push app.contexts ctid _ refl)) (IsNumbered-push 64 (places app.contexts) all room)))
  applied-order slots channel (UnregisterContext apid ctid pid) =
      context_unregisters slots r channel IsInOrder apid ctid pid (λ app context found of there. changed apid app _ found refl (IsNumbered-kept (λ e. places_of e.1) (λ e. not (bytes_eq ctid e.0)) 64 app.contexts))
  applied-order slots channel _ = is

  claimed-order : (slots : ℕ → Slot) (claim : Claimed) → IsInOrder (unwrap_or (claimed slots r claim) r)
  claimed-order slots claim =
      claim_makes slots r claim (λ o msgs. IsInOrder (unwrap_or o r)) is
      (λ apid app context may there. let free = free_tells claim.place app.contexts may.free in
      changed apid app _ may.found refl (λ all. numbered-among 64 claim.place (places app.contexts) _ (places-further (bytes_eq claim.ctid) app.contexts context claim.place there) all free.unused free.below))
      (λ apid app may there. let free = free_tells claim.place app.contexts may.free in
      changed apid app _ may.found refl (λ all. subst (IsNumbered 64) (sym (places-push app.contexts claim.ctid _ refl)) (IsNumbered-add 64 (places app.contexts) claim.place all free.unused free.below)))

-- ---- levels

pub releveled_numbers : (relevel : Relevel) (es : List (List ℕ × App)) → numbers (map (releveled_app relevel) es) ≡ numbers es
releveled_numbers relevel [] = refl
releveled_numbers relevel (e ∷ es) = ap (λ t. e.1.number ∷ t) (releveled_numbers relevel es)

releveled_placed : (relevel : Relevel) (es : List (List ℕ × App)) → ArePlaced es → ArePlaced (map (releveled_app relevel) es)
releveled_placed relevel [] all = tt
releveled_placed relevel (e ∷ es) all = (subst (IsNumbered 64) (sym (releveled_places relevel e.0 e.1.contexts)) all.0, releveled_placed relevel es all.1)

pub in_order-releveled : (level : ℕ) (relevel : Relevel) (r : Registry) → IsInOrder r → IsInOrder (releveled level relevel r)
in_order-releveled level relevel r is = record {
  numbered = subst (IsNumbered 16) (sym (releveled_numbers relevel r.apps)) is.numbered;
  placed = releveled_placed relevel r.apps is.placed;
}

-- ---- a whole journal

pub in_order-registry_of : (s : Setting) (events : List Event) → IsInOrder (registry_of s events)
in_order-registry_of s events =
    registry_keeps IsInOrder s (λ slots r e is. step_keeps IsInOrder s slots r (applied-order r is slots)
    (served_makes IsInOrder r is (λ level relevel. in_order-releveled level relevel r is) (λ new stored same. record { numbered = same.numbered; placed = same.placed }) s slots) (claimed-order r is slots) e is)
    (record { numbered = IsNumbered-none 16; placed = tt }) events
