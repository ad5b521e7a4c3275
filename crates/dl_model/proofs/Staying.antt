-- What is there by the messages that were accepted: what one message, one claim and one request leave says it of a whole journal.
use Rattle.std.proofs.Common.{◌≡◌, ℕ, Bool, false, cond, List, [], ◌∷◌, ◌++◌, map, Option, Some, None, Result, Ok, Err, refl, sym, ap, ◌∙◌, append-nil, unwrap_or, IfOk}
use Rattle.std.specs.Prelude.{◌||◌, if◌then◌else◌}
use Rattle.std.specs.Result.{is_ok, result_unwrap_or}
use Rattle.dl_bytes.specs.Claim.{Claimed}
use Rattle.dl_bytes.specs.declared.outcome.Done.{Done}
use Rattle.dl_bytes.specs.declared.user.UserMsg.{UserMsg}
use Rattle.dl_control.specs.declared.request.Request.{Request}
use Rattle.dl_control.specs.declared.request.RequestFault.{RequestFault}
use Rattle.dl_events.specs.declared.event.Event.{Event}
use Rattle.dl_events.specs.declared.event.Event.TheVariants as event
use Rattle.dl_model.specs.declared.registry.RegistryFault.{RegistryFault}
use Rattle.dl_model.specs.declared.registry.Slot.{Slot}
use Rattle.dl_model.specs.Journal.{Told, start, step, registry_of, slots_of, accepted_at, accepted}
use Rattle.dl_model.specs.Registry.{Registry, applied, claimed, registrations}
use Rattle.dl_model.specs.Reply.{asked, served}
use Rattle.dl_model.specs.Setting.{Setting}
use Rattle.dl_model.specs.Stays.{stays}
use Rattle.dl_model.proofs.Changes.{along_keeps}
use Rattle.dl_model.proofs.Presence.{stays-push}

module _ (there : Registry → Bool) (comes goes : Told → Bool) where
  -- after a message that was accepted, what goes by it isn't there, and else what was there or comes by it
  abbrev pub AfterOne : Registry → Told → Registry → Type 0
  AfterOne r told new = there new ≡ cond (goes told) false (there r || comes told)

  -- after a claim: nothing, or one message of channel 0
  abbrev pub AfterMessages : Registry → Option Registry → List UserMsg → Type 0
  AfterMessages r (Some new) (msg ∷ []) = AfterOne r (record { channel = 0; msg = msg }) new
  AfterMessages r o msgs = (o ≡ None) × (msgs ≡ [])

  pub record Stays : Type 0 where
    pub messages : (slots : ℕ → Slot) (r : Registry) (channel : ℕ) (msg : UserMsg) → IfOk (applied slots r channel msg) (AfterOne r (record { channel = channel; msg = msg }))
    pub claims : (slots : ℕ → Slot) (r : Registry) (claim : Claimed) → AfterMessages r (claimed slots r claim) (registrations slots r claim)
    pub requests : (s : Setting) (slots : ℕ → Slot) (r : Registry) (request : Result Request RequestFault) (answer : Done) → there (served s slots r request answer) ≡ there r

module _ (s : Setting) (there : Registry → Bool) (comes goes : Told → Bool) (each : Stays there comes goes) where
  abbrev Says : Registry → List Told → Type 0
  Says r told = there r ≡ stays comes goes told

  same : (r new : Registry) (told : List Told) → there new ≡ there r → Says r told → Says new (told ++ [])
  same r new told is says = is ∙ says ∙ ap (stays comes goes) (sym (append-nil told))

  one : (r new : Registry) (told : List Told) (m : Told) → AfterOne there comes goes r m new → Says r told → Says new (told ++ m ∷ [])
  one r new told m is says = is ∙ ap (λ t. cond (goes m) false (t || comes m)) says ∙ sym (stays-push comes goes told m)

  says_event : (before : List Event) (told : List Told) (e : Event) → Says (registry_of s before) told → Says (step s (slots_of s before) (registry_of s before) e) (told ++ accepted_at s before e)
  says_event before told (event.User channel msg moment) says =
      by (applied (slots_of s before) (registry_of s before) channel msg) (each.messages (slots_of s before) (registry_of s before) channel msg)
    where
      r : Registry
      r = registry_of s before

      by : (result : Result Registry RegistryFault) → IfOk result (AfterOne there comes goes r (record { channel = channel; msg = msg }))
          → Says (result_unwrap_or result r) (told ++ (if is_ok result then record { channel = channel; msg = msg } ∷ [] else []))
      by (Ok new) is = one r new told (record { channel = channel; msg = msg }) is says
      by (Err fault) is = same r r told refl says
  says_event before told (event.Claim claim moment) says =
      by (claimed (slots_of s before) (registry_of s before) claim) (registrations (slots_of s before) (registry_of s before) claim) (each.claims (slots_of s before) (registry_of s before) claim)
    where
      r : Registry
      r = registry_of s before

      by : (o : Option Registry) (msgs : List UserMsg) → AfterMessages there comes goes r o msgs → Says (unwrap_or o r) (told ++ map (λ msg. record { channel = 0; msg = msg }) msgs)
      by (Some new) (msg ∷ []) is = one r new told (record { channel = 0; msg = msg }) is says
      by (Some new) [] is = absurd (cc is.0)
      by (Some new) (msg ∷ more ∷ msgs) is = absurd (cc is.0)
      by None [] is = same r r told refl says
      by None (msg ∷ msgs) is = absurd (cc is.1)
  says_event before told (event.Request client frame answer) says =
      same (registry_of s before) (served s (slots_of s before) (registry_of s before) (asked frame) answer) told (each.requests s (slots_of s before) (registry_of s before) (asked frame) answer) says
  says_event before told _ says = same (registry_of s before) (registry_of s before) told refl says

  pub there-by_accepted : there (start s) ≡ false → (events : List Event) → there (registry_of s events) ≡ stays comes goes (accepted s events)
  there-by_accepted first events = along_keeps s (accepted_at s) Says says_event first events
