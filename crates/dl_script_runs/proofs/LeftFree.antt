-- What a message of an application leaves of a place that nobody has.
use Rattle.std.proofs.Common.{◌≡◌, ℕ, suc, ◌+◌, ◌<◌, ◌≤◌, Bool, true, false, cond, get_or, List, [], ◌∷◌, length, map, not, Some, refl, sym, ap, subst, ◌∙◌, arith, true≢false}
use Rattle.std.specs.Prelude.{◌||◌, nat_eq, slice_get, IfOk}
use Rattle.std.specs.List.{AllByRecursion, IsDistinct, filter, list_any}
use Rattle.std.specs.Map.{lookup}
use Rattle.std.specs.Option.{option_map}
use Rattle.std.specs.Str.{bytes_eq}
use Rattle.std.proofs.lemmas.Bool.{eq-eqb, ne_eqb}
use Rattle.std.proofs.lemmas.List.Folds.{list_any-append}
use Rattle.std.proofs.lemmas.List.Quantifiers.{position-Some}
use Rattle.std.proofs.lemmas.Option.{slice_get-get_or, slice_get-map}
use Rattle.std.proofs.lemmas.Map.Keys.{IsDistinct-head, IsDistinct-tail}
use Rattle.dl_lemmas.proofs.Bools.{neither}
use Rattle.dl_lemmas.proofs.Lists.{all_both}
use Rattle.dl_bytes.specs.declared.user.UserMsg.{UserMsg}
use Rattle.dl_bytes.specs.declared.user.UserMsg.TheVariants.{RegisterApp, UnregisterApp, RegisterContext, UnregisterContext, Log, LogLevel, Injection, Overflow}
use Rattle.dl_script_model.specs.declared.line.AppLine.{AppLine}
use Rattle.dl_model.specs.declared.context.Context.{Context}
use Rattle.dl_model.specs.declared.registry.Slot.{Slot}
use Rattle.dl_script_model.specs.Marks.{Mark, apps, number_of}
use Rattle.dl_model.specs.Registry.{App, Registry, app_of, applied, least_free, numbers, places, places_of, with_app}
use Rattle.dl_model.proofs.Changes.{app_of_own, app_registers, app_unregisters, context_registers, context_unregisters, new_app}
use Rattle.dl_model.proofs.Placed.{places-push, places-same}
use Rattle.dl_model.proofs.Presence.{same_bytes}
use Rattle.dl_model.proofs.StandingApps.{AreFirst, Who, who}
use Rattle.dl_runs.specs.WaitingClaims.{IsFreeIn}
use Rattle.dl_laws.proofs.Alls.{all_filter}
use Rattle.dl_runs.proofs.FreePlaces.{lack-lookup, lack-set_value}

module _ (app place : ℕ) where
  abbrev Free : Registry → Type 0
  Free r = IsFreeIn r app place

  -- no context that begins with a message takes the place
  abbrev pub Spares : Registry → (channel : ℕ) → UserMsg → Type 0
  Spares r channel (RegisterContext apid ctid position level trace pid text) = (a : App) → app_of r channel apid ≡ Some a → a.number ≡ app → least_free (places a.contexts) ≡ place → ⊥
  Spares r channel _ = Unit {0}

  -- some of the contexts of an application that lacks the place
  none_kept : (p : List ℕ × Context → Bool) (cs : List (List ℕ × Context)) → list_any (nat_eq place) (places cs) ≡ false → list_any (nat_eq place) (places (filter p cs)) ≡ false
  none_kept p [] none = refl
  none_kept p (c ∷ cs) none = by (p c) (none_kept p cs parts.1) where
    parts : (list_any (nat_eq place) (places_of c.1) ≡ false) × (list_any (nat_eq place) (places cs) ≡ false)
    parts = neither (list_any (nat_eq place) (places_of c.1)) (list_any (nat_eq place) (places cs)) (sym (list_any-append (nat_eq place) (places_of c.1) (places cs)) ∙ none)

    by : (b : Bool) → list_any (nat_eq place) (places (filter p cs)) ≡ false → list_any (nat_eq place) (places (cond b (c ∷ filter p cs) (filter p cs))) ≡ false
    by true rest = list_any-append (nat_eq place) (places_of c.1) (places (filter p cs)) ∙ ap (λ (b : Bool). b || list_any (nat_eq place) (places (filter p cs))) parts.0 ∙ rest
    by false rest = rest

  module _ (r : Registry) (free : Free r) where
    -- an application that is changed lacks the place as before
    changed : (apid : List ℕ) (new : App) → (new.number ≡ app → list_any (nat_eq place) (places new.contexts) ≡ false) → Free (with_app r apid new)
    changed apid new lacks = lack-set_value app place (bytes_eq apid) r.apps new free lacks

    lacked : (apid : List ℕ) (a : App) → lookup (bytes_eq apid) r.apps ≡ Some a → a.number ≡ app → list_any (nat_eq place) (places a.contexts) ≡ false
    lacked apid a found = lack-lookup app place (bytes_eq apid) r.apps a free found

    pub told_free : (slots : ℕ → Slot) (channel : ℕ) (msg : UserMsg) → Spares r channel msg → IfOk (applied slots r channel msg) Free
    told_free slots channel (RegisterApp apid pid text) spares =
        app_registers slots r channel Free apid pid text (λ a found of. changed apid (record a { pid = pid; text = text }) (lacked apid a found))
        (λ none room. all_both (λ (e : List ℕ × App). e.1.number ≡ app → list_any (nat_eq place) (places e.1.contexts) ≡ false) r.apps ((apid, new_app r channel pid text) ∷ []) free ((λ _. refl), tt))
    told_free slots channel (UnregisterApp apid pid) spares =
        app_unregisters slots r channel Free apid pid
        (λ a found of. all_filter (λ (e : List ℕ × App). e.1.number ≡ app → list_any (nat_eq place) (places e.1.contexts) ≡ false) (λ (e : List ℕ × App). not (bytes_eq apid e.0)) r.apps free)
    told_free slots channel (RegisterContext apid ctid position level trace pid text) spares =
        context_registers slots r channel Free apid ctid position level trace pid text
        (λ a context found of there. changed apid _ (λ here.
        ap (list_any (nat_eq place)) (places-same (bytes_eq ctid) a.contexts context (record context { position = position; text = text }) there refl) ∙ lacked apid a found here))
        (λ a found of there room. changed apid _ (λ here.
        let least = least_free (places a.contexts) in
        let other : nat_eq place least ≡ false = ne_eqb place least (λ same. spares a (app_of_own r channel apid a found of) here (sym same)) in
        ap (list_any (nat_eq place)) (places-push a.contexts ctid _ refl) ∙ list_any-append (nat_eq place) (places a.contexts) (least ∷ [])
        ∙ ap (λ (b : Bool). b || (nat_eq place least || false)) (lacked apid a found here) ∙ ap (λ (b : Bool). b || false) other))
    told_free slots channel (UnregisterContext apid ctid pid) spares =
        context_unregisters slots r channel Free apid ctid pid
        (λ a context found of there. changed apid _ (λ here. none_kept (λ (c : List ℕ × Context). not (bytes_eq ctid c.0)) a.contexts (lacked apid a found here)))
    told_free slots channel (Log bytes) spares = free
    told_free slots channel (LogLevel level trace position) spares = free
    told_free slots channel (Injection position service body) spares = free
    told_free slots channel (Overflow counter apid) spares = free

-- ---- which application has a number

pub found_number : (P : ℕ → Type 0) (test : List ℕ → Bool) (es : List (List ℕ × App)) (a : App) → lookup test es ≡ Some a → AllByRecursion P (numbers es) → P a.number
found_number P test [] a found all = absurd cc
found_number P test (e ∷ es) a found all = by (test e.0) found (λ later. found_number P test es a later all.1) where
  by : (b : Bool) → cond b (Some e.1) (lookup test es) ≡ Some a → (lookup test es ≡ Some a → P a.number) → P a.number
  by true here rest = let same : e.1 ≡ a = cc in subst (λ (x : App). P x.number) same all.0
  by false later rest = rest later

-- one that has the number of one of the first is of this process
pub own_channel : (number : ℕ) (apids : List (List ℕ)) (es : List (List ℕ × App)) → AreFirst number apids (map who es) → IsDistinct nat_eq (numbers es) → (apid : List ℕ) (a : App) → lookup (bytes_eq apid) es ≡ Some a →
    number ≤ a.number → a.number < number + length apids → a.channel ≡ 0
own_channel number [] es first apart apid a found from below = absurd (omega (arith, from, below))
own_channel number (id ∷ apids) [] first apart apid a found from below = absurd first
own_channel number (id ∷ apids) (e ∷ es) first apart apid a found from below =
    by (bytes_eq apid e.0) found (λ later next. own_channel (number + 1) apids es first.1 (IsDistinct-tail nat_eq e.1.number (numbers es) apart) apid a later next (omega (arith, below))) where
      by : (b : Bool) → cond b (Some e.1) (lookup (bytes_eq apid) es) ≡ Some a → (lookup (bytes_eq apid) es ≡ Some a → number + 1 ≤ a.number → a.channel ≡ 0) → a.channel ≡ 0
      by true here rest = let same : e.1 ≡ a = cc in sym (ap (λ (x : App). x.channel) same) ∙ ap (λ (w : Who). w.channel) first.0
      by false later rest =
          let other = found_number (λ n. nat_eq e.1.number n ≡ false) (bytes_eq apid) es a later (IsDistinct-head nat_eq e.1.number (numbers es) apart) in
          let apart_from : e.1.number ≡ a.number → ⊥ = λ same. true≢false (sym (eq-eqb e.1.number a.number same) ∙ other) in
          let is : e.1.number ≡ number = ap (λ (w : Who). w.number) first.0 in
          rest later (omega (arith, apart_from, is, from))

-- where these are there alone, each has the number at which it stands among them
pub alone_at : (number : ℕ) (apids : List (List ℕ)) (es : List (List ℕ × App)) → AreFirst number apids (map who es) → length es ≡ length apids → (apid : List ℕ) (a : App) → lookup (bytes_eq apid) es ≡ Some a →
    (k : ℕ) × (a.number ≡ number + k) × (slice_get apids k ≡ Some apid)
alone_at number [] [] first alone apid a found = absurd cc
alone_at number [] (e ∷ es) first alone apid a found = absurd (omega (arith, alone))
alone_at number (id ∷ apids) [] first alone apid a found = absurd first
alone_at number (id ∷ apids) (e ∷ es) first alone apid a found = by (bytes_eq apid e.0) refl found (λ later. alone_at (number + 1) apids es first.1 (omega (arith, alone)) apid a later) where
  by : (b : Bool) → bytes_eq apid e.0 ≡ b → cond b (Some e.1) (lookup (bytes_eq apid) es) ≡ Some a → (lookup (bytes_eq apid) es ≡ Some a → (k : ℕ) × (a.number ≡ number + 1 + k) × (slice_get apids k ≡ Some apid)) →
      (k : ℕ) × (a.number ≡ number + k) × (slice_get (id ∷ apids) k ≡ Some apid)
  by true here is later =
      let same : e.1 ≡ a = cc in
      (0, omega (arith, sym (ap (λ (x : App). x.number) same) ∙ ap (λ (w : Who). w.number) first.0), ap Some (sym (same_bytes apid e.0 here ∙ ap (λ (w : Who). w.apid) first.0)))
  by false here is later = let rest = later is in (suc rest.0, omega (arith, rest.1), rest.2)

-- lines declare them in the order of their numbers
pub number_is : (done : List Mark) (apid : List ℕ) (n : ℕ) → number_of apid done ≡ Some n → slice_get (map (λ (app : AppLine). app.apid) (apps done)) n ≡ Some apid
number_is done apid n is =
    let none : AppLine = record { apid = []; capacity = 0; text = [] } in
    let at = position-Some (λ (app : AppLine). bytes_eq app.apid apid) (apps done) n none is in
    slice_get-map (λ (app : AppLine). app.apid) (apps done) n ∙ ap (option_map (λ (app : AppLine). app.apid)) (slice_get-get_or (apps done) n none at.0) ∙ ap Some (same_bytes (get_or (apps done) n none).apid apid at.1)
