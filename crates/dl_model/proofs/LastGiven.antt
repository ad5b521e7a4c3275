-- What a registry holds, where each event gives it or leaves it: it is what was given last.
use Rattle.std.proofs.Common.{◌≡◌, ◌⊎◌, inl, inr, List, [], ◌∷◌, ◌++◌, Option, Some, None, Result, Ok, Err, refl, sym, ap, subst, ◌∙◌, append-nil, append_assoc, IfOk, IfSome}
use Rattle.std.specs.Prelude.{if◌then◌else◌}
use Rattle.std.specs.List.{last_or}
use Rattle.std.specs.Result.{is_ok, result_unwrap_or}
use Rattle.dl_events.specs.declared.event.Event.{Event}
use Rattle.dl_model.specs.declared.registry.RegistryFault.{RegistryFault}
use Rattle.dl_model.specs.Along.{along}
use Rattle.dl_model.specs.Journal.{start, step, registry_of, slots_of}
use Rattle.dl_model.specs.Registry.{Registry}
use Rattle.dl_model.specs.Setting.{Setting}
use Rattle.dl_model.proofs.Changes.{along_keeps}

-- After a step, what is there was given just now, or nothing was given and it was there before.
abbrev pub Stepped : {A : Type 0} → Option A → List A → Option A → Type 0
Stepped old given new = IfSome new (λ x. (given ≡ x ∷ []) ⊎ ((given ≡ []) × (old ≡ Some x)))

pub stays : {A : Type 0} (o : Option A) → Stepped o [] o
stays None = tt
stays (Some x) = inr (refl, refl)

abbrev pub Last : {A : Type 0} → Option A → List A → Type 0
Last there given = IfSome there (λ x. last_or None given ≡ Some x)

module _ {A : Type 0} where
  last_or-push : (o : Option A) (xs : List A) (x : A) → last_or o (xs ++ x ∷ []) ≡ Some x
  last_or-push o [] x = refl
  last_or-push o (y ∷ ys) x = last_or-push (Some y) ys x

  last_step : (old new : Option A) (given more : List A) → Last old given → Stepped old more new → Last new (given ++ more)
  last_step old None given more last step = tt
  last_step old (Some x) given more last (inl now) = ap (λ m. last_or None (given ++ m)) now ∙ last_or-push None given x
  last_step old (Some x) given more last (inr before) = ap (λ m. last_or None (given ++ m)) before.0 ∙ ap (last_or None) (append-nil given) ∙ subst (λ o. Last o given) before.1 last

  -- a message gives where it is accepted
  pub message_gives : (W : Registry → Option A) (r : Registry) (given : List A) (result : Result Registry RegistryFault) → IfOk result (λ new. Stepped (W r) given (W new))
      → Stepped (W r) (if is_ok result then given else []) (W (result_unwrap_or result r))
  message_gives W r given (Ok new) stepped = stepped
  message_gives W r given (Err fault) stepped = stays (W r)

  pub given_last : (s : Setting) (W : Registry → Option A) (gives : List Event → Event → List A)
      → ((before : List Event) (e : Event) → Stepped (W (registry_of s before)) (gives before e) (W (step s (slots_of s before) (registry_of s before) e)))
      → (events : List Event) (given : List A) → Last (W (start s)) given → Last (W (registry_of s events)) (given ++ along gives events)
  given_last s W gives steps events given first =
      along_keeps s gives (λ r more. Last (W r) (given ++ more))
      (λ before more e last. subst (Last (W (step s (slots_of s before) (registry_of s before) e))) (append_assoc given more (gives before e))
      (last_step (W (registry_of s before)) (W (step s (slots_of s before) (registry_of s before) e)) (given ++ more) (gives before e) last (steps before e)))
      (subst (Last (W (start s))) (sym (append-nil given)) first) events
