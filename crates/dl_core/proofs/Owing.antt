-- How many Level events a request owes: at most one for each slot whose context has another level than the one that it sets.
use Rattle.std.proofs.Common.{◌≡◌, ◌⊎◌, inl, inr, ℕ, zero, suc, ◌+◌, ◌/◌, ◌%◌, ◌<◌, ◌≤◌, Bool, true, false, cond, List, [], ◌∷◌, length, map, Option, Some, None, is_some, unwrap_or, Result, Ok, Err, refl, sym, ap, ◌∙◌, true≢false, arith}
use Rattle.std.specs.Prelude.{nat_le, ◌==◌, ◌&&◌, IsSome}
use Rattle.std.specs.List.{cons_option, filter_map, find, range_with_len}
use Rattle.std.specs.Map.{values_of}
use Rattle.std.specs.Option.{option_and_then, option_map, option_map_or}
use Rattle.std.specs.Result.{result_ok}
use Rattle.std.proofs.lemmas.Bool.Decides.{eqb_tells}
use Rattle.dl_bytes.specs.Id.{zero_id}
use Rattle.dl_bytes.specs.Level.{own_level_of}
use Rattle.dl_bytes.specs.Limits.{context_limit}
use Rattle.dl_bytes.specs.declared.outcome.Done.{Done}
use Rattle.dl_bytes.specs.declared.outcome.Done.TheVariants as done
use Rattle.dl_control.specs.declared.request.Request.{Request}
use Rattle.dl_control.specs.declared.request.Request.TheVariants.{SetLogLevel, SetAllLogLevel, Store, Reset, SetDefault}
use Rattle.dl_control.specs.declared.request.RequestFault.{RequestFault}
use Rattle.dl_model.specs.declared.context.Context.{Context}
use Rattle.dl_model.specs.declared.registry.LevelChange.{LevelChange}
use Rattle.dl_model.specs.declared.registry.SetFault.{SetFault}
use Rattle.dl_model.specs.declared.registry.SetFault.TheVariants as set
use Rattle.dl_model.specs.declared.registry.Slot.{Slot}
use Rattle.dl_model.specs.Registry.{App, Registry, Relevel, change_at, effective, has_place, keep_own, level_at, matches, matching, no_own, nothing_stored, own_set, releveled, releveled_app, releveled_context, set_matching, wears}
use Rattle.dl_model.specs.Reply.{now_stored, served, where_done}
use Rattle.dl_model.specs.Setting.{Setting}
use Rattle.dl_registry.specs.Kept.{Kept, owed_change, slots, with_registry}
use Rattle.dl_core.specs.Serving.{changes_of, level_set}
use Rattle.dl_core.specs.Waiting.{other_at, others, waiting}
use Rattle.dl_core.proofs.Leveled.{count, none_first, owed_at, settled_waits}

-- ---- levels that head for one

-- a level is as it was, or this one where there was one
abbrev Heads : ℕ → Option ℕ → Option ℕ → Type 0
Heads to old new = (new ≡ old) ⊎ ((new ≡ Some to) × IsSome old)

abbrev HeadFor : Option ℕ → Registry → Registry → Type 0
HeadFor None old new = (slot : ℕ) → level_at new slot ≡ level_at old slot
HeadFor (Some to) old new = (slot : ℕ) → Heads to (level_at old slot) (level_at new slot)

heads_none : (to : Option ℕ) (r : Registry) → HeadFor to r r
heads_none None r = λ slot. refl
heads_none (Some to) r = λ slot. inl refl

-- ---- other levels of contexts

-- the new own levels let a context head for this level
abbrev Gives : ℕ → ℕ → ℕ → Relevel → Type 0
Gives to old new relevel = (apid ctid : List ℕ) (own : Option ℕ) → (unwrap_or (relevel apid ctid own) new ≡ unwrap_or own old) ⊎ (unwrap_or (relevel apid ctid own) new ≡ to)

abbrev level_in : ℕ → List (List ℕ × Context) → ℕ → Option ℕ
level_in level contexts place = option_map (effective level) (find (has_place place) (values_of contexts))

abbrev level_of : ℕ → List (List ℕ × App) → ℕ → ℕ → Option ℕ
level_of level apps number place = option_map (effective level) (option_and_then (λ a. find (has_place place) (values_of a.contexts)) (find (λ app. app.number == number) (values_of apps)))

module _ (to old new : ℕ) (relevel : Relevel) (gives : Gives to old new relevel) where
  context_heads : (apid : List ℕ) (contexts : List (List ℕ × Context)) (place : ℕ) → Heads to (level_in old contexts place) (level_in new (map (releveled_context relevel apid) contexts) place)
  context_heads apid [] place = inl refl
  context_heads apid (e ∷ contexts) place = by (has_place place e.1) (context_heads apid contexts place) where
    by : (b : Bool) → Heads to (level_in old contexts place) (level_in new (map (releveled_context relevel apid) contexts) place)
        → Heads to (option_map (effective old) (cond b (Some e.1) (find (has_place place) (values_of contexts))))
        (option_map (effective new) (cond b (Some (releveled_context relevel apid e).1) (find (has_place place) (values_of (map (releveled_context relevel apid) contexts)))))
    by true rest = elim (gives apid e.0 e.1.own) [ inl same ↦ inl (ap Some same) | inr is ↦ inr (ap Some is, refl) ]
    by false rest = rest

  app_heads : (apps : List (List ℕ × App)) (number place : ℕ) → Heads to (level_of old apps number place) (level_of new (map (releveled_app relevel) apps) number place)
  app_heads [] number place = inl refl
  app_heads (e ∷ apps) number place = by (e.1.number == number) (app_heads apps number place) where
    by : (b : Bool) → Heads to (level_of old apps number place) (level_of new (map (releveled_app relevel) apps) number place)
        → Heads to (option_map (effective old) (option_and_then (λ a. find (has_place place) (values_of a.contexts)) (cond b (Some e.1) (find (λ app. app.number == number) (values_of apps)))))
        (option_map (effective new) (option_and_then (λ a. find (has_place place) (values_of a.contexts))
        (cond b (Some (releveled_app relevel e).1) (find (λ app. app.number == number) (values_of (map (releveled_app relevel) apps))))))
    by true rest = context_heads e.0 e.1.contexts place
    by false rest = rest

releveled_heads : (to level : ℕ) (relevel : Relevel) (r : Registry) → Gives to r.level level relevel → HeadFor (Some to) r (releveled level relevel r)
releveled_heads to level relevel r gives = λ slot. app_heads to r.level level relevel gives r.apps (slot / context_limit) (slot % context_limit)

-- ---- requests

ok_or : (to : ℕ) (r : Registry) (b : Bool) (e : SetFault) (left : Result Registry SetFault) → HeadFor (Some to) r (unwrap_or (result_ok left) r) → HeadFor (Some to) r (unwrap_or (result_ok (cond b (Err e) left)) r)
ok_or to r true e left heads = heads_none (Some to) r
ok_or to r false e left heads = heads

own_heads : (s : ℕ → Slot) (r : Registry) (apid ctid : List ℕ) (o : Option (Option ℕ))
    → HeadFor (option_map (λ own. unwrap_or own r.level) o) r (unwrap_or (option_and_then (λ own. result_ok (own_set s r apid ctid own)) o) r)
own_heads s r apid ctid None = heads_none None r
own_heads s r apid ctid (Some own) =
    ok_or to r (length (matching r apid ctid) == 0) set.Nobody _
    (ok_or to r (wears s r r.level (set_matching apid ctid own)) set.Worn (Ok (releveled r.level (set_matching apid ctid own) r))
    (releveled_heads to r.level (set_matching apid ctid own) r (λ app context old. by (matches apid app && matches ctid context) old)))
  where
    to : ℕ
    to = unwrap_or own r.level

    by : (b : Bool) (old : Option ℕ) → (unwrap_or (cond b own old) r.level ≡ unwrap_or old r.level) ⊎ (unwrap_or (cond b own old) r.level ≡ unwrap_or own r.level)
    by true old = inr refl
    by false old = inl refl

default_heads : (s : ℕ → Slot) (r : Registry) (level : ℕ) (b : Bool)
    → HeadFor (cond b (Some level) None) r (unwrap_or (cond b (result_ok (cond (wears s r level keep_own) (Err set.Worn) (Ok (releveled level keep_own r)))) None) r)
default_heads s r level true = ok_or level r (wears s r level keep_own) set.Worn (Ok (releveled level keep_own r)) (releveled_heads level level keep_own r (λ app context own. by own)) where
  by : (own : Option ℕ) → (unwrap_or own level ≡ unwrap_or own r.level) ⊎ (unwrap_or own level ≡ level)
  by None = inr refl
  by (Some n) = inl refl
default_heads s r level false = heads_none None r

done_heads : (to : Option ℕ) (answer : Done) (r left : Registry) → HeadFor to r left → HeadFor to r (where_done answer left r)
done_heads to done.Yes r left heads = heads
done_heads to done.Failed r left heads = heads_none to r
done_heads to done.NoMemory r left heads = heads_none to r

request_heads : (setting : Setting) (s : ℕ → Slot) (r : Registry) (request : Result Request RequestFault) (answer : Done) → HeadFor (level_set setting.level r request) r (served setting s r request answer)
request_heads setting s r (Ok (SetLogLevel apid ctid level)) answer = own_heads s r apid ctid (own_level_of level)
request_heads setting s r (Ok (SetAllLogLevel level)) answer = own_heads s r zero_id zero_id (own_level_of level)
request_heads setting s r (Ok (SetDefault level)) answer = default_heads s r level (nat_le level 6)
request_heads setting s r (Ok Reset) answer =
    done_heads (Some setting.level) answer r _
    (ok_or setting.level r (wears s r setting.level no_own) set.Worn (Ok (nothing_stored (releveled setting.level no_own r)))
    (releveled_heads setting.level setting.level no_own r (λ app context own. inr refl)))
request_heads setting s r (Ok Store) answer = done_heads None answer r (now_stored r) (λ slot. refl)
request_heads setting s r _ answer = heads_none None r

-- ---- how many wait

step : (a : Option LevelChange) (b : Option ℕ) (xs : List LevelChange) (ys : List ℕ) → (is_some a ≡ true → is_some b ≡ true) → length xs ≤ length ys → length (cons_option a xs) ≤ length (cons_option b ys)
step None None xs ys both rest = rest
step None (Some y) xs ys both rest = omega (arith, rest)
step (Some x) None xs ys both rest = absurd (true≢false (sym (both refl)))
step (Some x) (Some y) xs ys both rest = omega (arith, rest)

no_more : (owes : ℕ → Option LevelChange) (differs : ℕ → Option ℕ) (a n : ℕ) → ((m : ℕ) → a ≤ m → m < a + n → is_some (owes m) ≡ true → is_some (differs m) ≡ true)
    → count owes a n ≤ length (filter_map differs (range_with_len a n))
no_more owes differs a zero both = omega arith
no_more owes differs a (suc n) both =
    step (owes a) (differs a) (filter_map owes (range_with_len (a + 1) n)) (filter_map differs (range_with_len (a + 1) n)) (both a (omega arith) (omega arith))
    (no_more owes differs (a + 1) n (λ m after before. both m (omega (arith, after)) (omega (arith, before))))

-- where nothing was owed, a level is owed only where it is that one, and was another
differs : (held : Slot) (slot to : ℕ) (old new : Option ℕ) → Heads to old new → owed_at held slot old ≡ None → is_some (owed_at held slot new) ≡ true
    → is_some (option_and_then (λ found. cond (found == to) None (Some found)) old) ≡ true
differs held slot to old new (inl same) settled owes = absurd (true≢false (sym owes ∙ ap is_some (ap (owed_at held slot) same ∙ settled)))
differs held slot to None new (inr head) settled owes = absurd (true≢false (sym head.1))
differs held slot to (Some level) new (inr head) settled owes = elim (eqb_tells level to) [
  | inl same ↦ absurd (true≢false (sym owes ∙ ap is_some (ap (owed_at held slot) (head.0 ∙ ap Some (sym same.1)) ∙ settled)))
  | inr other ↦ ap (λ b. is_some (cond b None (Some level))) other.0
]

waits_for : (kept : Kept) (left : Registry) (to : Option ℕ) → owed_change kept ≡ None → HeadFor to kept.registry left → waiting (with_registry kept left) ≤ option_map_or (λ level. others level kept) to 0
unfolding owed_change waiting others
waits_for kept left None settled heads = settled_waits kept left 0 settled (λ slot. inl (heads slot)) (omega arith)
waits_for kept left (Some to) settled heads =
    no_more (change_at (slots kept) left) (other_at to kept.registry) 0 1024
    (λ m after before. differs (slots kept m) m to (level_at kept.registry m) (level_at left m) (heads m) (none_first (slots kept) kept.registry 0 1024 settled m after before))

pub owes_most : (setting : Setting) (kept : Kept) (request : Result Request RequestFault) (answer : Done) → owed_change kept ≡ None
    → waiting (with_registry kept (served setting (slots kept) kept.registry request answer)) ≤ changes_of setting.level kept request
owes_most setting kept request answer settled =
    waits_for kept (served setting (slots kept) kept.registry request answer) (level_set setting.level kept.registry request) settled (request_heads setting (slots kept) kept.registry request answer)

-- ---- counted slot by slot

abbrev one_if : {A : Type 0} → Option A → ℕ
one_if None = 0
one_if (Some x) = 1

longer : (o : Option ℕ) (xs : List ℕ) → length (cons_option o xs) ≡ one_if o + length xs
longer None xs = omega arith
longer (Some x) xs = omega arith

counted : (differs : ℕ → Option ℕ) (a n : ℕ) → length (filter_map differs (range_with_len a (suc n))) ≡ length (filter_map differs (range_with_len a n)) + one_if (differs (a + n))
counted differs a zero =
    let same : a ≡ a + 0 = omega arith in
    longer (differs a) [] ∙ (flipped (one_if (differs a)) ∙ ap (λ (m : ℕ). 0 + one_if (differs m)) same)
  where
    flipped : (n : ℕ) → n + 0 ≡ 0 + n
    flipped n = omega arith
counted differs a (suc n) =
    let same : a + 1 + n ≡ a + suc n = omega arith in
    omega (
      arith,
      longer (differs a) (filter_map differs (range_with_len (a + 1) (suc n))),
      longer (differs a) (filter_map differs (range_with_len (a + 1) n)),
      counted differs (a + 1) n,
      ap (λ (m : ℕ). one_if (differs m)) same,
    )

-- a slot more
pub slot_more : (differs : ℕ → Option ℕ) (slot count now : ℕ) → count ≡ length (filter_map differs (range_with_len 0 slot)) → now ≡ count + cond (is_some (differs slot)) 1 0
    → now ≡ length (filter_map differs (range_with_len 0 (slot + 1)))
slot_more differs slot count now so is =
    let more : suc slot ≡ slot + 1 = omega arith in
    let here : 0 + slot ≡ slot = omega arith in
    omega (arith, so, is, counted differs 0 slot, ap (λ (n : ℕ). length (filter_map differs (range_with_len 0 n))) more, ap (λ (m : ℕ). one_if (differs m)) here, by (differs slot))
  where
    by : (o : Option ℕ) → cond (is_some o) 1 0 ≡ one_if o
    by None = refl
    by (Some x) = refl

pub all_counted : (level : ℕ) (kept : Kept) (slot count : ℕ) → count ≡ length (filter_map (other_at level kept.registry) (range_with_len 0 slot)) → slot ≡ 1024 → count ≡ others level kept
unfolding others
all_counted level kept slot count so last = so ∙ ap (λ (n : ℕ). length (filter_map (other_at level kept.registry) (range_with_len 0 n))) last
