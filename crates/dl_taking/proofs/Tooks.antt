-- What is taken, one after the other.
use Rattle.std.proofs.Common.{◌≡◌, ◌≢◌, ℕ, zero, suc, ◌+◌, ◌<◌, ◌==◌, Bool, true, false, cond, List, [], ◌∷◌, ◌++◌, length, append_assoc, append-nil, eq-eqb, ne_eqb, Option, Some, None, slice_get, inl, inr, refl, sym, ap, ◌∙◌, subst, arith}
use Rattle.std.specs.Prelude.{◌↔◌, map, unwrap_or, IfNone, IfSome, OnSome}
use Rattle.std.specs.Option.{option_map, IsNone}
use Rattle.std.proofs.lemmas.Bool.Decides.{eqb_tells}
use Rattle.std.proofs.lemmas.Simd.{map-map}
use Rattle.dl_bytes.specs.declared.item.Injection.{Injection}
use Rattle.dl_bytes.specs.declared.item.Item.{Item}
use Rattle.dl_cells.specs.Losses.{reported_of}
use Rattle.dl_cells.proofs.LossSums.{reported_more}
use Rattle.dl_ring.specs.declared.item.RingItem.{RingItem}
use Rattle.dl_ring.specs.declared.item.RingItem.TheVariants.{Log}
use Rattle.dl_ring.specs.Items.{calls_in, claims_in}
use Rattle.dl_desk.specs.declared.app_handles.AppHandles.{AppHandles}
use Rattle.dl_desk.specs.Handles.{HandlesState, with_empty_take, with_item, with_report}
use Rattle.dl_desk.specs.Lists.{changed_at}
use Rattle.dl_desk.specs.QueuedInjections.{without_pushes}
use Rattle.dl_desk.specs.State.{DeskState}
use Rattle.dl_desk.specs.Told.{told_by}
use Rattle.dl_desk.proofs.Places.{map-changed_at}
use Rattle.dl_account.specs.Books.{lost_of}
use Rattle.dl_account.specs.Known.{IsEmpty, IsTold, taken_of}
use Rattle.dl_account.specs.State.{ClosingState}
use Rattle.dl_taking.specs.Took.{Took, empties_of, took_by, untaken, with_empty, with_items, without_takes}

-- ---- calls and claims behind others

pub items_none : (app : ℕ) (took : Took) → with_items app [] took ≡ took
items_none app took = λ i. record { taken = λ other. by other (other == app) i; reported = took.reported } where
  by : (other : ℕ) (b : Bool) → cond b (took.taken other ++ []) (took.taken other) ≡ took.taken other
  by other true = append-nil (took.taken other)
  by other false = refl

pub items_both : (app : ℕ) (xs ys : List RingItem) (took : Took) → with_items app ys (with_items app xs took) ≡ with_items app (xs ++ ys) took
items_both app xs ys took = λ i. record { taken = λ other. by other (other == app) i; reported = took.reported } where
  by : (other : ℕ) (b : Bool) → cond b (cond b (took.taken other ++ xs) (took.taken other) ++ ys) (cond b (took.taken other ++ xs) (took.taken other)) ≡ cond b (took.taken other ++ (xs ++ ys)) (took.taken other)
  by other true = append_assoc (took.taken other) xs ys
  by other false = refl

pub taken_else : (app other : ℕ) (items : List RingItem) (took : Took) → other ≢ app → (with_items app items took).taken other ≡ took.taken other
taken_else app other items took apart = ap (λ (b : Bool). cond b (took.taken other ++ items) (took.taken other)) (ne_eqb other app apart)

pub taken_here : (app : ℕ) (items : List RingItem) (took : Took) → (with_items app items took).taken app ≡ took.taken app ++ items
taken_here app items took = ap (λ (b : Bool). cond b (took.taken app ++ items) (took.taken app)) (eq-eqb app app refl)

pub calls_are : (items : List Item) → calls_in (map Log items) ≡ items
calls_are [] = refl
calls_are (item ∷ items) = ap (λ (is : List Item). item ∷ is) (calls_are items)

pub no_claims : (items : List Item) → claims_in (map Log items) ≡ []
no_claims [] = refl
no_claims (item ∷ items) = no_claims items

-- ---- handles that take

module _ {A B : Type 0} (q : A → B) where
  -- what no entry's change changes
  kept : (app : ℕ) (f : A → A) (xs : List A) (n : ℕ) → ((x : A) → q (f x) ≡ q x) → option_map q (slice_get (changed_at app f xs) n) ≡ option_map q (slice_get xs n)
  kept app f [] n same = refl
  kept zero f (x ∷ xs) zero same = ap Some (same x)
  kept zero f (x ∷ xs) (suc n) same = refl
  kept (suc app) f (x ∷ xs) zero same = refl
  kept (suc app) f (x ∷ xs) (suc n) same = kept app f xs n same

  elsewhere : (app : ℕ) (f : A → A) (xs : List A) (n : ℕ) → n ≢ app → option_map q (slice_get (changed_at app f xs) n) ≡ option_map q (slice_get xs n)
  elsewhere app f [] n apart = refl
  elsewhere zero f (x ∷ xs) zero apart = absurd (apart refl)
  elsewhere zero f (x ∷ xs) (suc n) apart = refl
  elsewhere (suc app) f (x ∷ xs) zero apart = refl
  elsewhere (suc app) f (x ∷ xs) (suc n) apart = elsewhere app f xs n (λ same. apart (ap suc same))

  -- at its place it is that of the changed one
  there : (app : ℕ) (f : A → A) (g : B → B) (xs : List A) (d : B) → app < length xs → ((x : A) → q (f x) ≡ g (q x))
      → unwrap_or (option_map q (slice_get (changed_at app f xs) app)) d ≡ g (unwrap_or (option_map q (slice_get xs app)) d)
  there app f g [] d within goes = absurd (omega (arith, within))
  there zero f g (x ∷ xs) d within goes = goes x
  there (suc app) f g (x ∷ xs) d within goes = there app f g xs d (omega (arith, within)) goes

module _ (s : HandlesState) (app : ℕ) where
  abbrev takes_item : RingItem → AppHandles → AppHandles
  takes_item item e = record e { ring = record e.ring { taken = e.ring.taken ++ item ∷ [] } }

  abbrev finds_none : AppHandles → AppHandles
  finds_none e = record e { ring = record e.ring { empties = e.ring.empties + 1 } }

  pub took_item : (item : RingItem) → app < length s.apps → took_by (with_item s app item) ≡ with_items app (item ∷ []) (took_by s)
  took_item item within = λ i. record { taken = λ n. by_place n i; reported = s.losses.reported } where
    by_place : (n : ℕ) → taken_of (with_item s app item) n ≡ cond (n == app) (taken_of s n ++ item ∷ []) (taken_of s n)
    by_place n = elim (eqb_tells n app) [
      | inl same ↦ rw same.0 (subst (λ (k : ℕ). taken_of (with_item s app item) k ≡ taken_of s k ++ item ∷ []) (sym same.1)
          (there (λ (e : AppHandles). e.ring.taken) app (takes_item item) (λ (items : List RingItem). items ++ item ∷ []) s.apps [] within (λ e. refl)))
      | inr apart ↦ rw apart.0 (ap (λ (o : Option (List RingItem)). unwrap_or o []) (elsewhere (λ (e : AppHandles). e.ring.taken) app (takes_item item) s.apps n apart.1))
    ]

  pub took_empty : took_by (with_empty_take s app) ≡ took_by s
  took_empty = λ i. record { taken = λ n. ap (λ (o : Option (List RingItem)). unwrap_or o []) (kept (λ (e : AppHandles). e.ring.taken) app finds_none s.apps n (λ e. refl)) i; reported = s.losses.reported }

  pub empties_item : (item : RingItem) → empties_of (with_item s app item) ≡ empties_of s
  empties_item item = λ i n. ap (λ (o : Option ℕ). unwrap_or o 0) (kept (λ (e : AppHandles). e.ring.empties) app (takes_item item) s.apps n (λ e. refl)) i

  pub empties_more : app < length s.apps → empties_of (with_empty_take s app) ≡ with_empty app (empties_of s)
  empties_more within = λ i n. by_place n i where
    by_place : (n : ℕ) → empties_of (with_empty_take s app) n ≡ cond (n == app) (empties_of s n + 1) (empties_of s n)
    by_place n = elim (eqb_tells n app) [
      | inl same ↦ rw same.0 (subst (λ (k : ℕ). empties_of (with_empty_take s app) k ≡ empties_of s k + 1) (sym same.1)
          (there (λ (e : AppHandles). e.ring.empties) app finds_none (λ (n : ℕ). n + 1) s.apps 0 within (λ e. refl)))
      | inr apart ↦ rw apart.0 (ap (λ (o : Option ℕ). unwrap_or o 0) (elsewhere (λ (e : AppHandles). e.ring.empties) app finds_none s.apps n apart.1))
    ]

  pub told_item : (apps : ℕ) (item : RingItem) → told_by apps (with_item s app item) ≡ told_by apps s
  told_item apps item = λ i. record {
    apps = apps;
    first = s.levels.first;
    sets = s.levels.sets;
    pushed = λ n. ap (λ (o : Option (List Injection)). unwrap_or o []) (kept (λ (e : AppHandles). e.queue.pushed) app (takes_item item) s.apps n (λ e. refl)) i;
    refusals = λ n. ap (λ (o : Option ℕ). unwrap_or o 0) (kept (λ (e : AppHandles). e.queue.refusals) app (takes_item item) s.apps n (λ e. refl)) i;
  }

  pub told_empty : (apps : ℕ) → told_by apps (with_empty_take s app) ≡ told_by apps s
  told_empty apps = λ i. record {
    apps = apps;
    first = s.levels.first;
    sets = s.levels.sets;
    pushed = λ n. ap (λ (o : Option (List Injection)). unwrap_or o []) (kept (λ (e : AppHandles). e.queue.pushed) app finds_none s.apps n (λ e. refl)) i;
    refusals = λ n. ap (λ (o : Option ℕ). unwrap_or o 0) (kept (λ (e : AppHandles). e.queue.refusals) app finds_none s.apps n (λ e. refl)) i;
  }

  abbrev bare : AppHandles → AppHandles
  bare e = without_takes (without_pushes e)

  untaken_by : (f : AppHandles → AppHandles) → ((e : AppHandles) → bare (f e) ≡ bare e) → map without_takes (map without_pushes (changed_at app f s.apps)) ≡ map without_takes (map without_pushes s.apps)
  untaken_by f same =
      map-map without_takes without_pushes (changed_at app f s.apps) ∙ map-changed_at bare app f s.apps same ∙ sym (map-map without_takes without_pushes s.apps)

  abbrev with_bare : List AppHandles → HandlesState
  with_bare apps = record s { apps = apps; levels = record s.levels { sets = [] }; losses = record s.losses { reported = [] } }

  pub untaken_item : (item : RingItem) → untaken (with_item s app item) ≡ untaken s
  untaken_item item = ap with_bare (untaken_by (takes_item item) (λ e. refl))

  pub untaken_empty : untaken (with_empty_take s app) ≡ untaken s
  untaken_empty = ap with_bare (untaken_by finds_none (λ e. refl))

-- ---- the desk

module _ (old new : DeskState) (app : ℕ) where
  pub desk_told : (x : Option RingItem) → IfSome x (λ item. new ≡ record old { handles = with_item old.handles app item })
      → IfNone x (new ≡ record old { handles = with_empty_take old.handles app }) → told_by (length new.apps) new.handles ≡ told_by (length old.apps) old.handles
  desk_told (Some item) some none = ap (λ (d : DeskState). told_by (length d.apps) d.handles) some ∙ told_item old.handles app (length old.apps) item
  desk_told None some none = ap (λ (d : DeskState). told_by (length d.apps) d.handles) none ∙ told_empty old.handles app (length old.apps)

  pub desk_same : (x : Option RingItem) → IfSome x (λ item. new ≡ record old { handles = with_item old.handles app item })
      → IfNone x (new ≡ record old { handles = with_empty_take old.handles app }) → record new { handles = untaken new.handles } ≡ record old { handles = untaken old.handles }
  desk_same (Some item) some none = ap (λ (d : DeskState). record d { handles = untaken d.handles }) some ∙ ap (λ (h : HandlesState). record old { handles = h }) (untaken_item old.handles app item)
  desk_same None some none = ap (λ (d : DeskState). record d { handles = untaken d.handles }) none ∙ ap (λ (h : HandlesState). record old { handles = h }) (untaken_empty old.handles app)

  pub desk_took : app < length old.handles.apps → (x : Option RingItem) → IfSome x (λ item. new ≡ record old { handles = with_item old.handles app item })
      → IfSome x (λ item. took_by new.handles ≡ with_items app (item ∷ []) (took_by old.handles))
  desk_took within (Some item) some = ap (λ (d : DeskState). took_by d.handles) some ∙ took_item old.handles app item within
  desk_took within None some = tt

  pub desk_took_none : (x : Option RingItem) → IfNone x (new ≡ record old { handles = with_empty_take old.handles app }) → IfNone x (took_by new.handles ≡ took_by old.handles)
  desk_took_none (Some item) none = tt
  desk_took_none None none = ap (λ (d : DeskState). took_by d.handles) none ∙ took_empty old.handles app

  -- a take that found none, and one that gave a call or a claim
  pub desk_empty : app < length old.handles.apps → (x : Option RingItem) → IfNone x (new ≡ record old { handles = with_empty_take old.handles app })
      → IfNone x (empties_of new.handles ≡ with_empty app (empties_of old.handles))
  desk_empty within (Some item) none = tt
  desk_empty within None none = ap (λ (d : DeskState). empties_of d.handles) none ∙ empties_more old.handles app within

  pub desk_full : (x : Option RingItem) → IfSome x (λ item. new ≡ record old { handles = with_item old.handles app item })
      → OnSome x (empties_of new.handles ≡ empties_of old.handles)
  desk_full (Some item) some = ap (λ (d : DeskState). empties_of d.handles) some ∙ empties_item old.handles app item
  desk_full None some = tt

-- ---- what stands for it once the writers are back

module _ (old new : ClosingState) (app : ℕ) where
  pub closing_told : (x : Option RingItem) → IfSome x (λ item. new ≡ record old { handles = with_item old.handles app item })
      → IfNone x (new ≡ record old { handles = with_empty_take old.handles app }) → told_by (length new.apps) new.handles ≡ told_by (length old.apps) old.handles
  closing_told (Some item) some none = ap (λ (c : ClosingState). told_by (length c.apps) c.handles) some ∙ told_item old.handles app (length old.apps) item
  closing_told None some none = ap (λ (c : ClosingState). told_by (length c.apps) c.handles) none ∙ told_empty old.handles app (length old.apps)

  pub closing_same : (x : Option RingItem) → IfSome x (λ item. new ≡ record old { handles = with_item old.handles app item })
      → IfNone x (new ≡ record old { handles = with_empty_take old.handles app }) → record new { handles = untaken new.handles } ≡ record old { handles = untaken old.handles }
  closing_same (Some item) some none = ap (λ (c : ClosingState). record c { handles = untaken c.handles }) some ∙ ap (λ (h : HandlesState). record old { handles = h }) (untaken_item old.handles app item)
  closing_same None some none = ap (λ (c : ClosingState). record c { handles = untaken c.handles }) none ∙ ap (λ (h : HandlesState). record old { handles = h }) (untaken_empty old.handles app)

  pub closing_took_item : app < length old.handles.apps → (x : Option RingItem) → IfSome x (λ item. new ≡ record old { handles = with_item old.handles app item })
      → IfSome x (λ item. took_by new.handles ≡ with_items app (item ∷ []) (took_by old.handles))
  closing_took_item within (Some item) some = ap (λ (c : ClosingState). took_by c.handles) some ∙ took_item old.handles app item within
  closing_took_item within None some = tt

  pub closing_took_none : (x : Option RingItem) → IfNone x (new ≡ record old { handles = with_empty_take old.handles app }) → IfNone x (took_by new.handles ≡ took_by old.handles)
  closing_took_none (Some item) none = tt
  closing_took_none None none = ap (λ (c : ClosingState). took_by c.handles) none ∙ took_empty old.handles app

  pub closing_empty : app < length old.handles.apps → (x : Option RingItem) → IfNone x (new ≡ record old { handles = with_empty_take old.handles app })
      → IfNone x (empties_of new.handles ≡ with_empty app (empties_of old.handles))
  closing_empty within (Some item) none = tt
  closing_empty within None none = ap (λ (c : ClosingState). empties_of c.handles) none ∙ empties_more old.handles app within

  pub closing_full : (x : Option RingItem) → IfSome x (λ item. new ≡ record old { handles = with_item old.handles app item })
      → OnSome x (empties_of new.handles ≡ empties_of old.handles)
  closing_full (Some item) some = ap (λ (c : ClosingState). empties_of c.handles) some ∙ empties_item old.handles app item
  closing_full None some = tt

  pub empty_now : (x : Option RingItem) → IfNone x (new ≡ record old { handles = with_empty_take old.handles app }) → IsNone x ↔ IsEmpty old app → IfNone x (IsEmpty new app)
  empty_now (Some item) none empty = tt
  empty_now None none empty = subst (λ (c : ClosingState). IsEmpty c app) (sym none) (ap (λ (t : Took). length (t.taken app)) (took_empty old.handles app) ∙ empty.0 refl)
