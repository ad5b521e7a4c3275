-- Applications of a channel that are unregistered, one after the other.
use Rattle.std.proofs.Common.{◌≡◌, ◌<◌, ◌≤◌, ◌==◌, ℕ, Bool, true, false, cond, not, List, [], ◌∷◌, length, filter, find, Option, Some, None, IsSome, is_some, refl, sym, ap, subst, ◌∙◌, arith}
use Rattle.std.specs.Prelude.{bytes_eq}
use Rattle.std.specs.Option.{option_map}
use Rattle.dl_bytes.specs.declared.moment.Moment.{Moment}
use Rattle.dl_bytes.specs.declared.user.UserMsg.TheVariants.{UnregisterApp}
use Rattle.dl_channel_turns.specs.Levels.{TellsLevels}
use Rattle.dl_channel_turns.specs.Messages.{ServesOne}
use Rattle.dl_channel_turns.specs.State.{Side, outbox_of}
use Rattle.dl_core.specs.State.{Core}
use Rattle.dl_model.specs.Registry.{App, Registry, app_of, app_unregistered, without}
use Rattle.dl_model.specs.declared.registry.LevelChange.{LevelChange}
use Rattle.dl_model.proofs.Presence.{bytes_same}
use Rattle.dl_registry.specs.Kept.{Applies, Kept, first_app}
use Rattle.dl_socket.proofs.OpenChannels.{AreOpenAs, one_open}
use Rattle.dl_socket.specs.Closing.{UnregistersEach, HasUnregistered, apps_of}

-- ---- filters

module _ {A : Type 0} (p q : A → Bool) where
  no_more : (xs : List A) → length (filter p (filter q xs)) ≤ length (filter p xs)
  no_more [] = omega arith
  no_more (x ∷ xs) = by (q x) (p x) refl (no_more xs) where
    by : (b d : Bool) → p x ≡ d → length (filter p (filter q xs)) ≤ length (filter p xs) → length (filter p (cond b (x ∷ filter q xs) (filter q xs))) ≤ length (cond d (x ∷ filter p xs) (filter p xs))
    by true true is rest = let here = ap (λ (e : Bool). length (cond e (x ∷ filter p (filter q xs)) (filter p (filter q xs)))) is in omega (arith, here, rest)
    by true false is rest = let here = ap (λ (e : Bool). length (cond e (x ∷ filter p (filter q xs)) (filter p (filter q xs)))) is in omega (arith, here, rest)
    by false true is rest = omega (arith, rest)
    by false false is rest = rest

  -- where the first that passes one is left out by the other
  pub fewer : (xs : List A) (e : A) → find p xs ≡ Some e → q e ≡ false → length (filter p (filter q xs)) < length (filter p xs)
  fewer [] e found out = absurd (cc found)
  fewer (x ∷ xs) e found out = by (p x) (q x) refl refl found (λ f. fewer xs e f out) where
    by : (d b : Bool) → p x ≡ d → q x ≡ b → cond d (Some x) (find p xs) ≡ Some e → (find p xs ≡ Some e → length (filter p (filter q xs)) < length (filter p xs))
        → length (filter p (cond b (x ∷ filter q xs) (filter q xs))) < length (cond d (x ∷ filter p xs) (filter p xs))
    by true true is passes found rest = let same : x ≡ e = cc found in absurd (cc (sym passes ∙ ap q same ∙ out))
    by true false is passes found rest = let less = no_more xs in omega (arith, less)
    by false true is passes found rest = let here = ap (λ (e : Bool). length (cond e (x ∷ filter p (filter q xs)) (filter p (filter q xs)))) is in let less = rest found in omega (arith, here, less)
    by false false is passes found rest = rest found

-- ---- one application

-- the registry of a side
abbrev registry_of : Side → Registry
registry_of side = side.core.registry.registry

-- a change of level is none of the registry
levels_keep : (changes : List LevelChange) (old new : Side) → TellsLevels changes old new → registry_of new ≡ registry_of old
levels_keep [] old new levels = ap registry_of levels.0
levels_keep (next ∷ others) old new levels = levels_keep others levels.0 new levels.2 ∙ ap (λ (c : Core). c.registry.registry) levels.1.core

goes : (registry : Registry) (apid : List ℕ) (old new : Kept) (p : Option App) → IsSome p → Applies (app_unregistered registry apid p) old (app_unregistered registry apid p) new
    → new.registry.apps ≡ without apid registry.apps
goes registry apid old new None there applies = absurd (cc there)
goes registry apid old new (Some app) there applies = let is : record registry { apps = without apid registry.apps } ≡ new.registry = cc applies.0 in ap (λ (r : Registry). r.apps) (sym is)

pub one_fewer : (channel : ℕ) (moment : Moment) (apid : List ℕ) (old new : Side) → first_app (registry_of old) channel ≡ Some apid → IsSome (app_of (registry_of old) channel apid)
    → ServesOne channel moment (UnregisterApp apid 0) old new → apps_of (registry_of new) channel < apps_of (registry_of old) channel
one_fewer channel moment apid old new first there serves = by (find of_it (registry_of old).apps) refl first where
  of_it : List ℕ × App → Bool
  of_it entry = entry.1.channel == channel

  left : (registry_of new).apps ≡ without apid (registry_of old).apps
  left = ap (λ (r : Registry). r.apps) (levels_keep serves.2.0 serves.0 new serves.2.1)
      ∙ goes (registry_of old) apid old.core.registry serves.0.core.registry (app_of (registry_of old) channel apid) there serves.1.registers

  by : (p : Option (List ℕ × App)) → find of_it (registry_of old).apps ≡ p → option_map (λ entry. entry.0) p ≡ Some apid → apps_of (registry_of new) channel < apps_of (registry_of old) channel
  by None found is = absurd (cc is)
  by (Some e) found is =
      let same : e.0 ≡ apid = cc is in
      subst (λ (apps : List (List ℕ × App)). length (filter of_it apps) < apps_of (registry_of old) channel) (sym left)
      (fewer of_it (λ entry. not (bytes_eq apid entry.0)) (registry_of old).apps e found (ap (λ (id : List ℕ). not (bytes_eq apid id)) same ∙ ap not (bytes_same apid)))

-- ---- all of them

-- what unregisters the others behind one, unregisters that one too
pub one_more : (channel : ℕ) (moment : Moment) (start old between : Side) (apid : List ℕ)
    → ((apids : List (List ℕ)) (new : Side) → UnregistersEach channel moment apids old new → HasUnregistered channel moment start new)
    → first_app (registry_of old) channel ≡ Some apid → ServesOne channel moment (UnregisterApp apid 0) old between
    → (apids : List (List ℕ)) (new : Side) → UnregistersEach channel moment apids between new → HasUnregistered channel moment start new
one_more channel moment start old between apid rest first serves apids new others = rest (apid ∷ apids) new (first, between, serves, others)

-- the same channels are open
each_open : (channel : ℕ) (moment : Moment) (apids : List (List ℕ)) (old new : Side) → UnregistersEach channel moment apids old new → AreOpenAs old.outboxes new.outboxes
each_open channel moment [] old new same other = ap (λ (s : Side). is_some (outbox_of s.outboxes other)) same
each_open channel moment (apid ∷ apids) old new all other = each_open channel moment apids all.1 new all.3 other ∙ one_open channel moment false (UnregisterApp apid 0) old all.1 all.2 other

pub unregistered_open : (channel : ℕ) (moment : Moment) (old new : Side) → HasUnregistered channel moment old new → AreOpenAs old.outboxes new.outboxes
unregistered_open channel moment old new has other = each_open channel moment has.0 old new has.1 other
