-- What a registration leaves: the desk is still that of the registry.
use Rattle.std.proofs.Common.{◌≡◌, ℕ, ◌+◌, ◌≤◌, ◌<◌, List, [], ◌∷◌, ◌++◌, length, Some, Result, Ok, Err, inl, inr, ◌⊎◌, refl, sym, ap, subst, ◌∙◌, arith, length-append}
use Rattle.std.specs.Prelude.{IfOk}
use Rattle.std.specs.List.{AllByRecursion}
use Rattle.std.specs.Map.{lookup}
use Rattle.std.specs.Str.{bytes_eq}
use Rattle.std.proofs.lemmas.List.{length-map, map-append}
use Rattle.dl_bytes.specs.declared.user.UserMsg.{UserMsg}
use Rattle.dl_bytes.specs.declared.user.UserMsg.TheVariants.{Log, RegisterApp, UnregisterApp, RegisterContext, UnregisterContext, LogLevel, Injection, Overflow}
use Rattle.dl_model.specs.declared.registry.LevelChange.{LevelChange}
use Rattle.dl_model.specs.declared.registry.RegistryFault.{RegistryFault}
use Rattle.dl_model.specs.declared.registry.RegistryFault.TheVariants as fault
use Rattle.dl_model.specs.declared.registry.Slot.{Slot}
use Rattle.dl_model.specs.Registry.{App, Registry, applied, least_free, numbers, with_app}
use Rattle.dl_model.proofs.Numbered.{map-set_value, least_free-le-length}
use Rattle.dl_model.proofs.Changes.{app_registers, context_registers, new_app}
use Rattle.dl_desk.specs.Told.{ControlTold}
use Rattle.dl_registry.specs.Kept.{Applies, Kept, slots}
use Rattle.dl_core.specs.Registering.{Registers, applied_now}
use Rattle.dl_core.specs.State.{Core}
use Rattle.dl_turns.specs.Events.{HaveSetLevels, IsDeskOf, SetsLevels}
use Rattle.dl_turns.specs.State.{Side}
use Rattle.dl_rounds.specs.Greetings.{IsRegistration, apps_in, registered}

-- ---- nobody is there

-- ---- numbers

-- the applications have numbers below a limit, and are at most so many
record AreBelow (limit most : ℕ) (r : Registry) : Type 0 where
  below : AllByRecursion (λ n. n < limit) (numbers r.apps)
  many : length r.apps ≤ most

all_push : (limit : ℕ) (ns : List ℕ) (n : ℕ) → AllByRecursion (λ k. k < limit) ns → n < limit → AllByRecursion (λ k. k < limit) (ns ++ n ∷ [])
all_push limit [] n all last = (last, tt)
all_push limit (k ∷ ns) n all last = (all.0, all_push limit ns n all.1 last)

module _ (limit : ℕ) (r : Registry) (below : AllByRecursion (λ n. n < limit) (numbers r.apps)) where
  with_same : (most : ℕ) (apid : List ℕ) (old new : App) → length r.apps ≤ most → lookup (bytes_eq apid) r.apps ≡ Some old → new.number ≡ old.number → AreBelow limit most (with_app r apid new)
  with_same most apid old new few found same =
      let numbered : numbers (with_app r apid new).apps ≡ numbers r.apps = map-set_value (λ e. e.1.number) (bytes_eq apid) r.apps old new found (λ k. same) in
      record {
        below = subst (AllByRecursion (λ n. n < limit)) (sym numbered) below;
        many = omega (arith, few, ap length numbered, length-map (with_app r apid new).apps (λ (e : List ℕ × App). e.1.number), length-map r.apps (λ (e : List ℕ × App). e.1.number));
      }

  applied_below : (slots : ℕ → Slot) (msg : UserMsg) → IsRegistration msg → length r.apps + apps_in msg ≤ limit → IfOk (applied slots r 0 msg) (AreBelow limit (length r.apps + apps_in msg))
  applied_below slots (Log message) is place = absurd is
  applied_below slots (RegisterApp apid pid text) is place =
      app_registers slots r 0 (AreBelow limit (length r.apps + 1)) apid pid text (λ app found of. with_same (length r.apps + 1) apid app (record app { pid = pid; text = text }) (omega arith) found refl)
      (λ none room. record {
        below = subst (AllByRecursion (λ n. n < limit)) (sym (map-append (λ e. e.1.number) r.apps ((apid, new_app r 0 pid text) ∷ [])))
            (all_push limit (numbers r.apps) (least_free (numbers r.apps)) below (omega (arith, least_free-le-length (numbers r.apps), length-map r.apps (λ (e : List ℕ × App). e.1.number), place)));
        many = omega (arith, length-append r.apps ((apid, new_app r 0 pid text) ∷ []));
      })
  applied_below slots (UnregisterApp apid pid) is place = absurd is
  applied_below slots (RegisterContext apid ctid position level trace pid text) is place =
      context_registers slots r 0 (AreBelow limit (length r.apps + 0)) apid ctid position level trace pid text
      (λ app context found of there. with_same (length r.apps + 0) apid app _ (omega arith) found refl) (λ app found of there room. with_same (length r.apps + 0) apid app _ (omega arith) found refl)
  applied_below slots (UnregisterContext apid ctid pid) is place = absurd is
  applied_below slots (LogLevel level trace position) is place = absurd is
  applied_below slots (Injection position service body) is place = absurd is
  applied_below slots (Overflow counter apid) is place = absurd is

-- ---- the registry and the desk

-- Level events leave who is registered
pub levels_leave : (changes : List LevelChange) (old new : Side) → SetsLevels changes old new → new.core.registry.registry ≡ old.core.registry.registry
levels_leave [] old new all = ap (λ (s : Side). s.core.registry.registry) all.0
levels_leave (next ∷ others) old new all = levels_leave others all.0 new all.2 ∙ ap (λ (c : Core). c.registry.registry) all.1.core

pub levels_leave_all : (old new : Side) → HaveSetLevels old new → registered new.core ≡ registered old.core
levels_leave_all old new have = ap (λ (r : Registry). length r.apps) (levels_leave have.0 old new have.1)

-- a message was done, or left all as it was
done_or_not : (o : Result Registry RegistryFault) (old new : Kept) → Applies o old o new → ((o ≡ Ok new.registry) × (slots new ≡ slots old)) ⊎ (new ≡ old)
done_or_not (Ok r) old new is = inl (is.0, ap slots is.1)
done_or_not (Err fault.ZeroId) old new is = inr is.1
done_or_not (Err fault.Taken) old new is = inr is.1
done_or_not (Err fault.UnknownApp) old new is = inr is.1
done_or_not (Err fault.UnknownContext) old new is = inr is.1
done_or_not (Err fault.AppsFull) old new is = inr is.1
done_or_not (Err fault.ContextsFull) old new is = inr is.1
done_or_not (Err fault.Worn) old new is = inr is.1
done_or_not (Err fault.OutOfMemory) old new is = inr is.1

pub record IsGreeted (msg : UserMsg) (core : Core) (kept : Kept) (desk : ControlTold) : Type 0 where
  pub desk_so : IsDeskOf kept desk
  pub many : length kept.registry.apps ≤ registered core + apps_in msg

pub greeted : (msg : UserMsg) (core : Core) (kept : Kept) (desk : ControlTold) → IsRegistration msg → Registers 0 msg core kept → registered core + apps_in msg ≤ desk.apps
    → IsDeskOf core.registry desk → IsGreeted msg core kept desk
greeted msg core kept desk is registers place of = elim (done_or_not (applied_now core 0 msg) core.registry kept registers) [
  | inl done ↦
      let all = subst (λ (o : Result Registry RegistryFault). IfOk o (AreBelow desk.apps (length core.registry.registry.apps + apps_in msg))) done.0
      (applied_below desk.apps core.registry.registry of.numbered (slots core.registry) msg is place) in
      record {
        desk_so = record {
          numbered = all.below;
          versions = λ slot within. ap (λ (s : ℕ → Slot). (s slot).version) done.1 ∙ of.versions slot within;
        };
        many = all.many;
      }
  | inr same ↦ record {
    desk_so = subst (λ (k : Kept). IsDeskOf k desk) (sym same) of;
    many = omega (arith, ap (λ (k : Kept). length k.registry.apps) same);
  }
]
