-- Nothing is put for a channel of which no message is an event.
use Rattle.std.proofs.Common.{◌≡◌, ◌≢◌, ℕ, Bool, true, false, cond, not, List, [], ◌∷◌, ◌++◌, Option, Some, None, Result, Ok, Err, IfOk, IfSome, refl, sym, ap, subst, ◌∙◌, append-nil, append_assoc}
use Rattle.std.specs.Prelude.{◌==◌, ◌/◌}
use Rattle.std.specs.List.{AllByRecursion, find}
use Rattle.std.specs.Map.{lookup, set_value, values_of}
use Rattle.std.specs.Option.{option_map}
use Rattle.std.specs.Result.{result_unwrap_or}
use Rattle.std.specs.Str.{bytes_eq}
use Rattle.std.proofs.lemmas.Bool.{ne_eqb}
use Rattle.dl_bytes.specs.Limits.{context_limit}
use Rattle.dl_bytes.specs.declared.user.UserMsg.{UserMsg}
use Rattle.dl_bytes.specs.declared.user.UserMsg.TheVariants as user
use Rattle.dl_channel.specs.Levels.{level_message}
use Rattle.dl_channel_turns.specs.Put.{answer_for, to_channel}
use Rattle.dl_events.specs.declared.event.Event.{Event}
use Rattle.dl_events.specs.declared.event.Event.TheVariants as event
use Rattle.dl_model.proofs.Changes.{app_registers, app_unregisters, context_registers, context_unregisters}
use Rattle.dl_model.proofs.OneMore.{registry-one}
use Rattle.dl_model.specs.Along.{along_from}
use Rattle.dl_model.specs.Journal.{registry_of, slots_of, step}
use Rattle.dl_model.specs.Registry.{App, Registry, applied, without}
use Rattle.dl_model.specs.Reply.{asked}
use Rattle.dl_model.specs.Setting.{Setting}
use Rattle.dl_model.specs.declared.registry.RegistryFault.{RegistryFault}
use Rattle.dl_model.specs.declared.registry.Slot.{Slot}
use Rattle.dl_registry.specs.Kept.{channel_at, position_at}
use Rattle.dl_serve.specs.Levels.{message_at}
use Rattle.dl_machine.proofs.NamedSlots.{AreApart, names_served}

-- no message of this channel, and no claim
abbrev pub IsNotOf : ℕ → Event → Type 0
IsNotOf channel (event.User other msg moment) = other ≢ channel
IsNotOf channel (event.Claim claim moment) = ⊥
IsNotOf channel other = Unit {0}

module _ (channel : ℕ) where
  -- ---- applications

  set_apart : (apid : List ℕ) (apps : List (List ℕ × App)) (app : App) → app.channel ≢ channel → AreApart channel apps → AreApart channel (set_value (bytes_eq apid) apps app)
  set_apart apid [] app apart all = tt
  set_apart apid (e ∷ apps) app apart all = by (bytes_eq apid e.0) (set_apart apid apps app apart all.1) where
    by : (b : Bool) → AreApart channel (set_value (bytes_eq apid) apps app) → AreApart channel (cond b ((e.0, app) ∷ apps) (e ∷ set_value (bytes_eq apid) apps app))
    by true rest = (apart, all.1)
    by false rest = (all.0, rest)

  looked_up : (apid : List ℕ) (apps : List (List ℕ × App)) → AreApart channel apps → IfSome (lookup (bytes_eq apid) apps) (λ (app : App). app.channel ≢ channel)
  looked_up apid [] all = tt
  looked_up apid (e ∷ apps) all = by (bytes_eq apid e.0) (looked_up apid apps all.1) where
    by : (b : Bool) → IfSome (lookup (bytes_eq apid) apps) (λ (app : App). app.channel ≢ channel) → IfSome (cond b (Some e.1) (lookup (bytes_eq apid) apps)) (λ (app : App). app.channel ≢ channel)
    by true rest = all.0
    by false rest = rest

  added_apart : (apps : List (List ℕ × App)) (apid : List ℕ) (app : App) → app.channel ≢ channel → AreApart channel apps → AreApart channel (apps ++ (apid, app) ∷ [])
  added_apart [] apid app apart all = (apart, tt)
  added_apart (e ∷ apps) apid app apart all = (all.0, added_apart apps apid app apart all.1)

  without_apart : (apid : List ℕ) (apps : List (List ℕ × App)) → AreApart channel apps → AreApart channel (without apid apps)
  without_apart apid [] all = tt
  without_apart apid (e ∷ apps) all = by (not (bytes_eq apid e.0)) (without_apart apid apps all.1) where
    by : (b : Bool) → AreApart channel (without apid apps) → AreApart channel (cond b (e ∷ without apid apps) (without apid apps))
    by true rest = (all.0, rest)
    by false rest = rest

  -- ---- messages of another channel

  abbrev Apart : Registry → Type 0
  Apart r = AreApart channel r.apps

  module _ (slots : ℕ → Slot) (r : Registry) (all : Apart r) where
    applied_apart : (from : ℕ) (msg : UserMsg) → from ≢ channel → IfOk (applied slots r from msg) Apart
    applied_apart from (user.RegisterApp apid pid text) other =
        app_registers slots r from Apart apid pid text (λ app found of. set_apart apid r.apps _ (λ same. other (sym of ∙ same)) all) (λ none room. added_apart r.apps apid _ other all)
    applied_apart from (user.UnregisterApp apid pid) other = app_unregisters slots r from Apart apid pid (λ app found of. without_apart apid r.apps all)
    applied_apart from (user.RegisterContext apid ctid position level trace pid text) other =
        context_registers slots r from Apart apid ctid position level trace pid text
        (λ app context found of there. set_apart apid r.apps _ (λ same. other (sym of ∙ same)) all) (λ app found of there room. set_apart apid r.apps _ (λ same. other (sym of ∙ same)) all)
    applied_apart from (user.UnregisterContext apid ctid pid) other =
        context_unregisters slots r from Apart apid ctid pid (λ app context found of there. set_apart apid r.apps _ (λ same. other (sym of ∙ same)) all)
    applied_apart from _ other = all

    left_so : (left : Result Registry RegistryFault) → IfOk left Apart → Apart (result_unwrap_or left r)
    left_so (Ok new) is = is
    left_so (Err e) is = all

  step_apart : (setting : Setting) (slots : ℕ → Slot) (r : Registry) (e : Event) → IsNotOf channel e → Apart r → Apart (step setting slots r e)
  step_apart setting slots r (event.User from msg moment) other all = left_so slots r all (applied slots r from msg) (applied_apart slots r all from msg other)
  step_apart setting slots r (event.Request client frame answer) other all = (names_served setting slots r (asked frame) answer).apart channel all
  step_apart setting slots r (event.Claim claim moment) other all = absurd other
  step_apart setting slots r _ other all = all

  -- ---- levels

  named_apart : (apps : List (List ℕ × App)) (number : ℕ) → AreApart channel apps
      → IfSome (option_map (λ (app : App). app.channel) (find (λ (app : App). app.number == number) (values_of apps))) (λ (c : ℕ). c ≢ channel)
  named_apart [] number all = tt
  named_apart (e ∷ apps) number all = by (e.1.number == number) (named_apart apps number all.1) where
    by : (b : Bool) → IfSome (option_map (λ (app : App). app.channel) (find (λ (app : App). app.number == number) (values_of apps))) (λ (c : ℕ). c ≢ channel)
        → IfSome (option_map (λ (app : App). app.channel) (cond b (Some e.1) (find (λ (app : App). app.number == number) (values_of apps)))) (λ (c : ℕ). c ≢ channel)
    by true rest = all.0
    by false rest = rest

  not_to : (o position : Option ℕ) (level : ℕ) → IfSome o (λ (c : ℕ). c ≢ channel) → to_channel channel o position level ≡ []
  not_to None position level apart = refl
  not_to (Some c) None level apart = refl
  not_to (Some c) (Some position) level apart = ap (λ (b : Bool). cond b (level_message level position ∷ []) []) (ne_eqb c channel apart)

  -- an answer to another channel
  pub answer_apart : (other : ℕ) (answer : Option (List ℕ)) → other ≢ channel → answer_for channel other answer ≡ []
  answer_apart other None apart = refl
  answer_apart other (Some message) apart = ap (λ (b : Bool). cond b (message ∷ []) []) (ne_eqb other channel apart)

  pub none_at : (setting : Setting) (past : List Event) (e : Event) → IsNotOf channel e → AreApart channel (registry_of setting past).apps → message_at setting channel past e ≡ []
  none_at setting past (event.Level slot level) not_of all =
      not_to (channel_at (registry_of setting past) (slot / context_limit)) (position_at (registry_of setting past) slot) level (named_apart (registry_of setting past).apps (slot / context_limit) all)
  none_at setting past (event.User other msg moment) not_of all = answer_apart other _ not_of
  none_at setting past _ not_of all = refl

  pub none_put : (setting : Setting) (past more : List Event) → AreApart channel (registry_of setting past).apps → AllByRecursion (IsNotOf channel) more → along_from (message_at setting channel) past more ≡ []
  none_put setting past [] all other = refl
  none_put setting past (e ∷ more) all other =
      ap (λ (ms : List (List ℕ)). ms ++ along_from (message_at setting channel) (past ++ e ∷ []) more) (none_at setting past e other.0 all)
      ∙ none_put setting (past ++ e ∷ []) more
      (subst (λ (r : Registry). AreApart channel r.apps) (sym (registry-one setting past e)) (step_apart setting (slots_of setting past) (registry_of setting past) e other.0 all)) other.1

  -- none of its applications is there afterwards either
  pub apart_on : (setting : Setting) (past more : List Event) → AreApart channel (registry_of setting past).apps → AllByRecursion (IsNotOf channel) more → AreApart channel (registry_of setting (past ++ more)).apps
  apart_on setting past [] all other = subst (λ (es : List Event). AreApart channel (registry_of setting es).apps) (sym (append-nil past)) all
  apart_on setting past (e ∷ more) all other =
      subst (λ (es : List Event). AreApart channel (registry_of setting es).apps) (append_assoc past (e ∷ []) more)
      (apart_on setting (past ++ e ∷ []) more
      (subst (λ (r : Registry). AreApart channel r.apps) (sym (registry-one setting past e)) (step_apart setting (slots_of setting past) (registry_of setting past) e other.0 all)) other.1)
