-- The applications of a registry have ids of their own.
use Rattle.std.proofs.Common.{◌≡◌, ℕ, Bool, true, false, not, cond, eqb, List, [], ◌∷◌, ◌++◌, map, Option, Some, None, refl, ap, subst, ◌∙◌, unwrap_or, IfOk}
use Rattle.std.specs.List.{AllByRecursion, filter, find}
use Rattle.std.specs.Map.{lookup, set_value}
use Rattle.std.specs.Option.{option_map}
use Rattle.std.specs.Str.{bytes_eq}
use Rattle.std.proofs.lemmas.Bool.{eqb-true}
use Rattle.dl_bytes.specs.declared.user.UserMsg.{UserMsg}
use Rattle.dl_bytes.specs.declared.user.UserMsg.TheVariants.{RegisterApp, UnregisterApp, RegisterContext, UnregisterContext}
use Rattle.dl_events.specs.declared.event.Event.{Event}
use Rattle.dl_model.specs.declared.registry.Slot.{Slot}
use Rattle.dl_model.specs.Journal.{registry_of}
use Rattle.dl_model.specs.Registry.{App, Registry, Relevel, applied, releveled_app}
use Rattle.dl_model.specs.Setting.{Setting}
use Rattle.dl_model.proofs.Changes.{app_registers, app_unregisters, claim_makes, context_registers, context_unregisters, registry_keeps, served_makes, step_keeps}
use Rattle.dl_model.proofs.Presence.{bytes_same}
use Rattle.dl_laws.proofs.Alls.{all_filter}

-- ---- ids of their own

abbrev pub AreUnique : List (List ℕ × App) → Type 0
AreUnique [] = Unit {0}
AreUnique (e ∷ es) = AllByRecursion (λ x. bytes_eq x.0 e.0 ≡ false) es × AreUnique es

keys_set : (P : List ℕ → Type 0) (test : List ℕ → Bool) (es : List (List ℕ × App)) (w : App) → AllByRecursion (λ e. P e.0) es → AllByRecursion (λ e. P e.0) (set_value test es w)
keys_set P test [] w all = all
keys_set P test (e ∷ es) w all = by (test e.0) (keys_set P test es w all.1) where
  by : (b : Bool) → AllByRecursion (λ x. P x.0) (set_value test es w) → AllByRecursion (λ x. P x.0) (cond b ((e.0, w) ∷ es) (e ∷ set_value test es w))
  by true later = all
  by false later = (all.0, later)

unique-set_value : (test : List ℕ → Bool) (es : List (List ℕ × App)) (w : App) → AreUnique es → AreUnique (set_value test es w)
unique-set_value test [] w is = is
unique-set_value test (e ∷ es) w is = by (test e.0) (unique-set_value test es w is.1) where
  by : (b : Bool) → AreUnique (set_value test es w) → AreUnique (cond b ((e.0, w) ∷ es) (e ∷ set_value test es w))
  by true later = is
  by false later = (keys_set (λ k. bytes_eq k e.0 ≡ false) test es w is.0, later)

unique-filter : (p : List ℕ × App → Bool) (es : List (List ℕ × App)) → AreUnique es → AreUnique (filter p es)
unique-filter p [] is = is
unique-filter p (e ∷ es) is = by (p e) (unique-filter p es is.1) where
  by : (b : Bool) → AreUnique (filter p es) → AreUnique (cond b (e ∷ filter p es) (filter p es))
  by true later = (all_filter (λ (x : List ℕ × App). bytes_eq x.0 e.0 ≡ false) p es is.0, later)
  by false later = later

not_found : (k : List ℕ) (e : List ℕ × App) (rest : Option App) → cond (bytes_eq k e.0) (Some e.1) rest ≡ None → (bytes_eq k e.0 ≡ false) × (rest ≡ None)
not_found k e rest none = by (bytes_eq k e.0) refl none where
  by : (b : Bool) → bytes_eq k e.0 ≡ b → cond b (Some e.1) rest ≡ None → (bytes_eq k e.0 ≡ false) × (rest ≡ None)
  by true is none = absurd cc
  by false is none = (is, none)

and_new : (k : List ℕ) (w : App) (x : List ℕ × App) (es : List (List ℕ × App)) → AllByRecursion (λ e. bytes_eq e.0 x.0 ≡ false) es → bytes_eq k x.0 ≡ false → AllByRecursion (λ e. bytes_eq e.0 x.0 ≡ false) (es ++ (k, w) ∷ [])
and_new k w x [] all apart = (apart, tt)
and_new k w x (e ∷ es) all apart = (all.0, and_new k w x es all.1 apart)

unique-push : (k : List ℕ) (w : App) (es : List (List ℕ × App)) → AreUnique es → lookup (bytes_eq k) es ≡ None → AreUnique (es ++ (k, w) ∷ [])
unique-push k w [] is none = (tt, tt)
unique-push k w (e ∷ es) is none =
    let parts = not_found k e (lookup (bytes_eq k) es) none in
    (and_new k w e es is.0 parts.0, unique-push k w es is.1 parts.1)

unique-releveled : (relevel : Relevel) (es : List (List ℕ × App)) → AreUnique es → AreUnique (map (releveled_app relevel) es)
unique-releveled relevel [] is = is
unique-releveled relevel (e ∷ es) is = (keys es is.0, unique-releveled relevel es is.1) where
  keys : (xs : List (List ℕ × App)) → AllByRecursion (λ x. bytes_eq x.0 e.0 ≡ false) xs → AllByRecursion (λ x. bytes_eq x.0 e.0 ≡ false) (map (releveled_app relevel) xs)
  keys [] all = tt
  keys (x ∷ xs) all = (all.0, keys xs all.1)

-- ---- after each event

abbrev Unique : Registry → Type 0
Unique r = AreUnique r.apps

module _ (r : Registry) (is : Unique r) where
  changed : (apid : List ℕ) (new : App) → AreUnique (set_value (bytes_eq apid) r.apps new)
  changed apid new = unique-set_value (bytes_eq apid) r.apps new is

  applied-unique : (slots : ℕ → Slot) (channel : ℕ) (msg : UserMsg) → IfOk (applied slots r channel msg) Unique
  applied-unique slots channel (RegisterApp apid pid text) = app_registers slots r channel Unique apid pid text (λ app found of. changed apid _) (λ none room. unique-push apid _ r.apps is none)
  applied-unique slots channel (UnregisterApp apid pid) = app_unregisters slots r channel Unique apid pid (λ app found of. unique-filter (λ e. not (bytes_eq apid e.0)) r.apps is)
  applied-unique slots channel (RegisterContext apid ctid position level trace pid text) =
      context_registers slots r channel Unique apid ctid position level trace pid text (λ app context found of there. changed apid _) (λ app found of there room. changed apid _)
  applied-unique slots channel (UnregisterContext apid ctid pid) = context_unregisters slots r channel Unique apid ctid pid (λ app context found of there. changed apid _)
  applied-unique slots channel _ = is

pub unique-registry_of : (s : Setting) (events : List Event) → AreUnique (registry_of s events).apps
unique-registry_of s events =
    registry_keeps Unique s (λ slots r e is. step_keeps Unique s slots r (applied-unique r is slots)
    (served_makes Unique r is (λ level relevel. unique-releveled relevel r.apps is) (λ new stored same. same) s slots)
    (λ claim. claim_makes slots r claim (λ o msgs. Unique (unwrap_or o r)) is (λ apid app context may there. changed r is apid _) (λ apid app may there. changed r is apid _)) e is) tt events

-- ---- the application of a number is the one of its id

found_key : (P : List ℕ → Type 0) (test : List ℕ × App → Bool) (es : List (List ℕ × App)) (apid : List ℕ) → option_map (λ (e : List ℕ × App). e.0) (find test es) ≡ Some apid → AllByRecursion (λ e. P e.0) es → P apid
found_key P test [] apid found all = absurd cc
found_key P test (e ∷ es) apid found all = by (test e) found (λ later. found_key P test es apid later all.1) where
  by : (b : Bool) → option_map (λ (x : List ℕ × App). x.0) (cond b (Some e) (find test es)) ≡ Some apid → (option_map (λ (x : List ℕ × App). x.0) (find test es) ≡ Some apid → P apid) → P apid
  by true is later = let same : e.0 ≡ apid = cc in subst P same all.0
  by false is later = later is

pub record Numbered (es : List (List ℕ × App)) (apid : List ℕ) (number : ℕ) : Type 0 where
  pub app : App
  pub there : lookup (bytes_eq apid) es ≡ Some app
  pub is : app.number ≡ number

pub numbered : (es : List (List ℕ × App)) (number : ℕ) (apid : List ℕ) → AreUnique es → option_map (λ (e : List ℕ × App). e.0) (find (λ (e : List ℕ × App). eqb e.1.number number) es) ≡ Some apid → Numbered es apid number
numbered [] number apid unique found = absurd cc
numbered (e ∷ es) number apid unique found = by (eqb e.1.number number) refl found (λ later. numbered es number apid unique.1 later) where
  test : List ℕ × App → Bool
  test x = eqb x.1.number number

  by : (b : Bool) → eqb e.1.number number ≡ b → option_map (λ (x : List ℕ × App). x.0) (cond b (Some e) (find test es)) ≡ Some apid → (option_map (λ (x : List ℕ × App). x.0) (find test es) ≡ Some apid → Numbered es apid number) → Numbered (e ∷ es) apid number
  by true here is later =
      let same : e.0 ≡ apid = cc in
      record {
        app = e.1;
        there = subst (λ (k : List ℕ). cond (bytes_eq k e.0) (Some e.1) (lookup (bytes_eq k) es) ≡ Some e.1) same (ap (λ (b : Bool). cond b (Some e.1) (lookup (bytes_eq e.0) es)) (bytes_same e.0));
        is = eqb-true e.1.number number here;
      }
  by false here is later =
      let rest = later is in
      let apart : bytes_eq apid e.0 ≡ false = found_key (λ (k : List ℕ). bytes_eq k e.0 ≡ false) test es apid is unique.0 in
      record { app = rest.app; there = ap (λ (b : Bool). cond b (Some e.1) (lookup (bytes_eq apid) es)) apart ∙ rest.there; is = rest.is }
