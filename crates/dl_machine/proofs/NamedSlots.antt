-- A client's request changes no application's channel and no context's position.
use Rattle.std.proofs.Common.{◌≡◌, ◌≢◌, ℕ, ◌/◌, ◌%◌, Bool, true, false, cond, List, [], ◌∷◌, map, Option, Some, Result, refl, ◌∙◌}
use Rattle.std.specs.Prelude.{◌==◌}
use Rattle.std.specs.List.{AllByRecursion, find}
use Rattle.std.specs.Map.{values_of}
use Rattle.std.specs.Option.{option_and_then, option_map}
use Rattle.dl_bytes.specs.Limits.{context_limit}
use Rattle.dl_bytes.specs.declared.outcome.Done.{Done}
use Rattle.dl_control.specs.declared.request.Request.{Request}
use Rattle.dl_control.specs.declared.request.RequestFault.{RequestFault}
use Rattle.dl_model.specs.declared.context.Context.{Context}
use Rattle.dl_model.specs.declared.registry.Slot.{Slot}
use Rattle.dl_model.specs.Registry.{App, Registry, Relevel, has_place, releveled, releveled_app, releveled_context}
use Rattle.dl_model.specs.Reply.{served}
use Rattle.dl_model.specs.Setting.{Setting}
use Rattle.dl_model.proofs.Changes.{served_makes}
use Rattle.dl_registry.specs.Kept.{channel_at, position_at}

-- no application is of this channel
abbrev pub AreApart : ℕ → List (List ℕ × App) → Type 0
AreApart channel apps = AllByRecursion (λ (e : List ℕ × App). e.1.channel ≢ channel) apps

-- each application has its channel, and each context its position, as before
pub record NamesSame (old new : Registry) : Type 0 where
  pub channels : (number : ℕ) → channel_at new number ≡ channel_at old number
  pub positions : (slot : ℕ) → position_at new slot ≡ position_at old slot
  pub apart : (channel : ℕ) → AreApart channel old.apps → AreApart channel new.apps

pub names_none : (r : Registry) → NamesSame r r
names_none r = record { channels = λ number. refl; positions = λ slot. refl; apart = λ channel all. all }

pub names_both : (a b c : Registry) → NamesSame a b → NamesSame b c → NamesSame a c
names_both a b c one two = record {
  channels = λ number. two.channels number ∙ one.channels number;
  positions = λ slot. two.positions slot ∙ one.positions slot;
  apart = λ channel all. two.apart channel (one.apart channel all);
}

-- ---- other levels

abbrev channel_in : List (List ℕ × App) → ℕ → Option ℕ
channel_in apps number = option_map (λ (app : App). app.channel) (find (λ (app : App). app.number == number) (values_of apps))

releveled_channel : (relevel : Relevel) (apps : List (List ℕ × App)) (number : ℕ) → channel_in (map (releveled_app relevel) apps) number ≡ channel_in apps number
releveled_channel relevel [] number = refl
releveled_channel relevel (e ∷ apps) number = by (e.1.number == number) (releveled_channel relevel apps number) where
  by : (b : Bool) → channel_in (map (releveled_app relevel) apps) number ≡ channel_in apps number
      → option_map (λ (app : App). app.channel) (cond b (Some (releveled_app relevel e).1) (find (λ (app : App). app.number == number) (values_of (map (releveled_app relevel) apps))))
      ≡ option_map (λ (app : App). app.channel) (cond b (Some e.1) (find (λ (app : App). app.number == number) (values_of apps)))
  by true rest = refl
  by false rest = rest

abbrev found_in : List (List ℕ × Context) → ℕ → Option Context
found_in contexts place = find (has_place place) (values_of contexts)

releveled_position : (relevel : Relevel) (apid : List ℕ) (contexts : List (List ℕ × Context)) (place : ℕ)
    → option_map (λ (c : Context). c.position) (found_in (map (releveled_context relevel apid) contexts) place) ≡ option_map (λ (c : Context). c.position) (found_in contexts place)
releveled_position relevel apid [] place = refl
releveled_position relevel apid (e ∷ contexts) place = by (has_place place e.1) (releveled_position relevel apid contexts place) where
  by : (b : Bool) → option_map (λ (c : Context). c.position) (found_in (map (releveled_context relevel apid) contexts) place) ≡ option_map (λ (c : Context). c.position) (found_in contexts place)
      → option_map (λ (c : Context). c.position) (cond b (Some (releveled_context relevel apid e).1) (found_in (map (releveled_context relevel apid) contexts) place))
      ≡ option_map (λ (c : Context). c.position) (cond b (Some e.1) (found_in contexts place))
  by true rest = refl
  by false rest = rest

abbrev position_in : List (List ℕ × App) → ℕ → ℕ → Option ℕ
position_in apps number place = option_map (λ (c : Context). c.position) (option_and_then (λ (app : App). found_in app.contexts place) (find (λ (app : App). app.number == number) (values_of apps)))

releveled_positions : (relevel : Relevel) (apps : List (List ℕ × App)) (number place : ℕ) → position_in (map (releveled_app relevel) apps) number place ≡ position_in apps number place
releveled_positions relevel [] number place = refl
releveled_positions relevel (e ∷ apps) number place = by (e.1.number == number) (releveled_positions relevel apps number place) where
  by : (b : Bool) → position_in (map (releveled_app relevel) apps) number place ≡ position_in apps number place
      → option_map (λ (c : Context). c.position) (option_and_then (λ (app : App). found_in app.contexts place)
      (cond b (Some (releveled_app relevel e).1) (find (λ (app : App). app.number == number) (values_of (map (releveled_app relevel) apps)))))
      ≡ option_map (λ (c : Context). c.position) (option_and_then (λ (app : App). found_in app.contexts place) (cond b (Some e.1) (find (λ (app : App). app.number == number) (values_of apps))))
  by true rest = releveled_position relevel e.0 e.1.contexts place
  by false rest = rest

releveled_apart : (relevel : Relevel) (channel : ℕ) (apps : List (List ℕ × App)) → AreApart channel apps → AreApart channel (map (releveled_app relevel) apps)
releveled_apart relevel channel [] all = tt
releveled_apart relevel channel (e ∷ apps) all = (all.0, releveled_apart relevel channel apps all.1)

names_releveled : (level : ℕ) (relevel : Relevel) (r : Registry) → NamesSame r (releveled level relevel r)
names_releveled level relevel r = record {
  channels = λ number. releveled_channel relevel r.apps number;
  positions = λ slot. releveled_positions relevel r.apps (slot / context_limit) (slot % context_limit);
  apart = λ channel. releveled_apart relevel channel r.apps;
}

-- ---- requests

pub names_served : (s : Setting) (slots : ℕ → Slot) (r : Registry) (request : Result Request RequestFault) (answer : Done) → NamesSame r (served s slots r request answer)
names_served s slots r =
    served_makes (NamesSame r) r (names_none r) (λ level relevel. names_releveled level relevel r)
    (λ new stored is. record { channels = is.channels; positions = is.positions; apart = is.apart }) s slots
