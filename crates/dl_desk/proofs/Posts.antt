-- What an injection that is pushed or refused, and a level that is set, make of what is told, and leave as it was.
use Rattle.std.proofs.Common.{◌≡◌, ◌≢◌, ℕ, zero, suc, ◌+◌, ◌<◌, ◌≤◌, ◌==◌, cond, List, [], ◌∷◌, ◌++◌, length, Option, Some, slice_get, inl, inr, refl, sym, ap, ◌∙◌, subst, arith}
use Rattle.std.specs.Prelude.{Result, Ok, Err, OnOk, OnErr, unwrap_or}
use Rattle.std.proofs.lemmas.Bool.Decides.{eqb_tells}
use Rattle.std.specs.Option.{option_map}
use Rattle.dl_bytes.specs.declared.item.Injection.{Injection}
use Rattle.dl_desk.specs.declared.app_handles.AppHandles.{AppHandles}
use Rattle.dl_desk.specs.Handles.{HandlesState, with_injected, with_refusal}
use Rattle.dl_desk.specs.Lists.{At, changed_at}
use Rattle.dl_desk.specs.QueuedInjections.{pushed_of, refusals_of, rest_of, without_pushes}
use Rattle.dl_desk.specs.State.{DeskState}
use Rattle.dl_desk.specs.Told.{told_by, with_pushed, with_refused}
use Rattle.dl_desk.proofs.Making.{is_there}
use Rattle.dl_desk.proofs.Places.{map-changed_at}

module _ {A B : Type 0} (q : A → B) where
  -- where the change keeps it, it is kept at each place
  kept : (app : ℕ) (f : A → A) (xs : List A) (n : ℕ) → ((x : A) → q (f x) ≡ q x) → option_map q (slice_get (changed_at app f xs) n) ≡ option_map q (slice_get xs n)
  kept app f [] n same = refl
  kept zero f (x ∷ xs) zero same = ap Some (same x)
  kept zero f (x ∷ xs) (suc n) same = refl
  kept (suc app) f (x ∷ xs) zero same = refl
  kept (suc app) f (x ∷ xs) (suc n) same = kept app f xs n same

  -- and at another place it is kept by any
  elsewhere : (app : ℕ) (f : A → A) (xs : List A) (n : ℕ) → n ≢ app → option_map q (slice_get (changed_at app f xs) n) ≡ option_map q (slice_get xs n)
  elsewhere app f [] n apart = refl
  elsewhere zero f (x ∷ xs) zero apart = absurd (apart refl)
  elsewhere zero f (x ∷ xs) (suc n) apart = refl
  elsewhere (suc app) f (x ∷ xs) zero apart = refl
  elsewhere (suc app) f (x ∷ xs) (suc n) apart = elsewhere app f xs n (λ same. apart (ap suc same))

  -- at its place it is that of the changed one
  there : (app : ℕ) (f : A → A) (xs : List A) (d : B) → app < length xs → (x : A) × (unwrap_or (option_map q (slice_get (changed_at app f xs) app)) d ≡ q (f x)) × (unwrap_or (option_map q (slice_get xs app)) d ≡ q x)
  there app f [] d within = absurd (omega (arith, within))
  there zero f (x ∷ xs) d within = (x, refl, refl)
  there (suc app) f (x ∷ xs) d within = there app f xs d (omega (arith, within))

module _ (s : HandlesState) (app : ℕ) where
  pub pushed_more : (item : Injection) → app < length s.apps → pushed_of (with_injected s app item) app ≡ pushed_of s app ++ item ∷ []
  pushed_more item within =
      let h = there (λ (e : AppHandles). e.queue.pushed) app (λ e. record e { queue = record e.queue { pushed = e.queue.pushed ++ item ∷ [] } }) s.apps [] within in
      h.1 ∙ ap (λ (items : List Injection). items ++ item ∷ []) (sym h.2)

  pub refused_more : app < length s.apps → refusals_of (with_refusal s app) app ≡ refusals_of s app + 1
  refused_more within =
      let h = there (λ (e : AppHandles). e.queue.refusals) app (λ e. record e { queue = record e.queue { refusals = e.queue.refusals + 1 } }) s.apps 0 within in
      h.1 ∙ ap (λ (n : ℕ). n + 1) (sym h.2)

  pub same_refusals : (item : Injection) (n : ℕ) → refusals_of (with_injected s app item) n ≡ refusals_of s n
  same_refusals item n = ap (λ (o : Option ℕ). unwrap_or o 0) (kept (λ (e : AppHandles). e.queue.refusals) app (λ e. record e { queue = record e.queue { pushed = e.queue.pushed ++ item ∷ [] } }) s.apps n (λ e. refl))

  pub same_pushed : (n : ℕ) → pushed_of (with_refusal s app) n ≡ pushed_of s n
  same_pushed n = ap (λ (o : Option (List Injection)). unwrap_or o []) (kept (λ (e : AppHandles). e.queue.pushed) app (λ e. record e { queue = record e.queue { refusals = e.queue.refusals + 1 } }) s.apps n (λ e. refl))

  pub other_pushed : (item : Injection) (n : ℕ) → n ≢ app → pushed_of (with_injected s app item) n ≡ pushed_of s n
  other_pushed item n apart = ap (λ (o : Option (List Injection)). unwrap_or o []) (elsewhere (λ (e : AppHandles). e.queue.pushed) app (λ e. record e { queue = record e.queue { pushed = e.queue.pushed ++ item ∷ [] } }) s.apps n apart)

  pub other_refusals : (n : ℕ) → n ≢ app → refusals_of (with_refusal s app) n ≡ refusals_of s n
  other_refusals n apart = ap (λ (o : Option ℕ). unwrap_or o 0) (elsewhere (λ (e : AppHandles). e.queue.refusals) app (λ e. record e { queue = record e.queue { refusals = e.queue.refusals + 1 } }) s.apps n apart)

  pub pushed_rest : (item : Injection) → rest_of (with_injected s app item) ≡ rest_of s
  pushed_rest item = ap (λ (apps : List AppHandles). record s { apps = apps; levels = record s.levels { sets = [] } })
      (map-changed_at without_pushes app (λ e. record e { queue = record e.queue { pushed = e.queue.pushed ++ item ∷ [] } }) s.apps (λ e. refl))

  pub refused_rest : rest_of (with_refusal s app) ≡ rest_of s
  refused_rest = ap (λ (apps : List AppHandles). record s { apps = apps; levels = record s.levels { sets = [] } })
      (map-changed_at without_pushes app (λ e. record e { queue = record e.queue { refusals = e.queue.refusals + 1 } }) s.apps (λ e. refl))

  -- ---- what is told

  pub told_pushed : (apps : ℕ) (item : Injection) → app < length s.apps → told_by apps (with_injected s app item) ≡ with_pushed app item (told_by apps s)
  told_pushed apps item within = λ i. record { apps = apps; first = s.levels.first; sets = s.levels.sets; pushed = λ n. by_place n i; refusals = λ n. same_refusals item n i } where
    by_place : (n : ℕ) → pushed_of (with_injected s app item) n ≡ cond (n == app) (pushed_of s n ++ item ∷ []) (pushed_of s n)
    by_place n = elim (eqb_tells n app) [
      | inl same ↦ rw same.0 (subst (λ (k : ℕ). pushed_of (with_injected s app item) k ≡ pushed_of s k ++ item ∷ []) (sym same.1) (pushed_more item within))
      | inr apart ↦ rw apart.0 (other_pushed item n apart.1)
    ]

  pub told_refused : (apps : ℕ) → app < length s.apps → told_by apps (with_refusal s app) ≡ with_refused app (told_by apps s)
  told_refused apps within = λ i. record { apps = apps; first = s.levels.first; sets = s.levels.sets; pushed = λ n. same_pushed n i; refusals = λ n. by_place n i } where
    by_place : (n : ℕ) → refusals_of (with_refusal s app) n ≡ cond (n == app) (refusals_of s n + 1) (refusals_of s n)
    by_place n = elim (eqb_tells n app) [
      | inl same ↦ rw same.0 (subst (λ (k : ℕ). refusals_of (with_refusal s app) k ≡ refusals_of s k + 1) (sym same.1) (refused_more within))
      | inr apart ↦ rw apart.0 (other_refusals n apart.1)
    ]

-- a refused one met at least 16 that were pushed
pub full_of : (s : HandlesState) (app : ℕ) → app < length s.apps → At s.apps app (λ e. 16 ≤ length e.queue.pushed) → 16 ≤ length (pushed_of s app)
full_of s app within many =
    let here = is_there s.apps app within in
    subst (λ (o : Option AppHandles). 16 ≤ length (unwrap_or (option_map (λ (e : AppHandles). e.queue.pushed) o) [])) (sym here.1) (many here.0 here.1)

-- ---- all else

module _ {T E : Type 0} where
  pub desk_rest : (r : Result T E) (old new : DeskState) (app : ℕ) (item : Injection)
      → OnOk r (new ≡ record old { handles = with_injected old.handles app item }) → OnErr r (new ≡ record old { handles = with_refusal old.handles app })
      → (record new { handles = rest_of new.handles }) ≡ (record old { handles = rest_of old.handles })
  desk_rest (Ok x) old new app item is _ = ap (λ (d : DeskState). record d { handles = rest_of d.handles }) is ∙ ap (λ (e : HandlesState). record old { handles = e }) (pushed_rest old.handles app item)
  desk_rest (Err x) old new app item _ is = ap (λ (d : DeskState). record d { handles = rest_of d.handles }) is ∙ ap (λ (e : HandlesState). record old { handles = e }) (refused_rest old.handles app)
