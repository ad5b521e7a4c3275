-- Applications, of which the first ones have their contexts.
use Rattle.std.proofs.Common.{◌≡◌, ◌≢◌, ℕ, zero, suc, ◌+◌, ◌-◌, ◌<◌, ◌≤◌, ◌==◌, ◌||◌, Bool, true, false, get_or, List, [], ◌∷◌, ◌++◌, drop, length, map, Option, Some, slice_get, slice_set, refl, sym, ap, ◌∙◌, append_assoc, length-append, eq-eqb, ne_eqb, arith}
use Rattle.std.specs.Option.{option_map_or}
use Rattle.std.specs.Str.{bytes_eq}
use Rattle.std.proofs.lemmas.List.Folds.{list_any-append}
use Rattle.std.proofs.lemmas.List.Quantifiers.{position-Some}
use Rattle.std.proofs.lemmas.Slice.Eq.{bytes_eq-Decides}
use Rattle.std.proofs.lemmas.List.{length-map, map-append}
use Rattle.dl_bytes.specs.Context.{Context}
use Rattle.dl_bytes.specs.declared.conf.AppSpec.{AppSpec}
use Rattle.dl_bytes.specs.declared.user.UserMsg.{UserMsg}
use Rattle.dl_script_model.specs.declared.line.AppLine.{AppLine}
use Rattle.dl_script_model.specs.declared.line.ContextLine.{ContextLine}
use Rattle.dl_script_model.specs.declared.scenario.ScenarioLine.{ScenarioLine}
use Rattle.dl_desk.specs.Apps.{AppState, contexts, declared_app, declared_apps, registration}
use Rattle.dl_opening.specs.Scenario.{apps, base_of, contexts_of, handles_from, hello_of, is_one_of, number_in, opened_app, opened_from, placed, registered, spec_of, specs_of}
use Rattle.dl_lemmas.proofs.Options.{some_is}
use Rattle.dl_lemmas.proofs.Lists.{get_or-there}

-- so many of them have; none is started
abbrev pub opened_to : List ScenarioLine → ℕ → ℕ → List AppLine → List AppState
opened_to lines done number [] = []
opened_to lines zero number (app ∷ rest) = declared_app number (spec_of app) ∷ opened_to lines zero (number + 1) rest
opened_to lines (suc done) number (app ∷ rest) = opened_app lines [] number app ∷ opened_to lines done (number + 1) rest

pub none_opened : (lines : List ScenarioLine) (number : ℕ) (apps : List AppLine) → opened_to lines zero number apps ≡ declared_apps number (map spec_of apps)
none_opened lines number [] = refl
none_opened lines number (app ∷ rest) = ap (λ (l : List AppState). declared_app number (spec_of app) ∷ l) (none_opened lines (number + 1) rest)

pub all_opened : (lines : List ScenarioLine) (number : ℕ) (apps : List AppLine) (done : ℕ) → done ≡ length apps → opened_to lines done number apps ≡ opened_from lines [] number apps
all_opened lines number [] done is = refl
all_opened lines number (app ∷ rest) zero is = absurd (omega (arith, is))
all_opened lines number (app ∷ rest) (suc done) is = ap (λ (l : List AppState). opened_app lines [] number app ∷ l) (all_opened lines (number + 1) rest done (omega (arith, is)))

pub many_opened : (lines : List ScenarioLine) (number done : ℕ) (apps : List AppLine) → length (opened_to lines done number apps) ≡ length apps
many_opened lines number done [] = refl
many_opened lines number zero (app ∷ rest) = let all = many_opened lines (number + 1) zero rest in omega (arith, all)
many_opened lines number (suc done) (app ∷ rest) = let all = many_opened lines (number + 1) done rest in omega (arith, all)

-- the next one has none yet
pub next_declared : (lines : List ScenarioLine) (number : ℕ) (apps : List AppLine) (done : ℕ) (app : AppLine) → slice_get apps done ≡ Some app
    → slice_get (opened_to lines done number apps) done ≡ Some (declared_app (number + done) (spec_of app))
next_declared lines number [] done app at = absurd cc
next_declared lines number (first ∷ rest) zero app at =
    let here : first ≡ app = cc in let same : number ≡ number + 0 = omega arith in
    ap (λ (a : AppLine). Some (declared_app number (spec_of a))) here ∙ ap (λ (n : ℕ). Some (declared_app n (spec_of app))) same
next_declared lines number (first ∷ rest) (suc done) app at =
    let same : number + 1 + done ≡ number + suc done = omega arith in
    next_declared lines (number + 1) rest done app at ∙ ap (λ (n : ℕ). Some (declared_app n (spec_of app))) same

-- and once it has, there is one more
pub next_opened : (lines : List ScenarioLine) (number : ℕ) (apps : List AppLine) (done : ℕ) (app : AppLine) → slice_get apps done ≡ Some app
    → slice_set (opened_to lines done number apps) done (opened_app lines [] (number + done) app) ≡ opened_to lines (suc done) number apps
next_opened lines number [] done app at = absurd cc
next_opened lines number (first ∷ rest) zero app at =
    let here : first ≡ app = cc in let same : number + 0 ≡ number = omega arith in
    ap (λ (n : ℕ). opened_app lines [] n app ∷ opened_to lines zero (number + 1) rest) same ∙ ap (λ (a : AppLine). opened_app lines [] number a ∷ opened_to lines zero (number + 1) rest) (sym here)
next_opened lines number (first ∷ rest) (suc done) app at =
    let same : number + suc done ≡ number + 1 + done = omega arith in
    ap (λ (n : ℕ). opened_app lines [] number first ∷ slice_set (opened_to lines done (number + 1) rest) done (opened_app lines [] n app)) same
    ∙ ap (λ (l : List AppState). opened_app lines [] number first ∷ l) (next_opened lines (number + 1) rest done app at)

-- ---- lists

pub map_at : {A B : Type 0} (f : A → B) (xs : List A) (place : ℕ) (x : A) → slice_get xs place ≡ Some x → slice_get (map f xs) place ≡ Some (f x)
map_at f [] place x at = absurd cc
map_at f (y ∷ xs) zero x at = let here : y ≡ x = cc in ap (λ z. Some (f z)) here
map_at f (y ∷ xs) (suc place) x at = map_at f xs place x at

drop_at : {A : Type 0} (xs : List A) (place : ℕ) (x : A) → slice_get xs place ≡ Some x → drop place xs ≡ x ∷ drop (suc place) xs
drop_at [] place x at = absurd cc
drop_at (y ∷ xs) zero x at = let here : y ≡ x = cc in ap (λ z. z ∷ xs) here
drop_at (y ∷ xs) (suc place) x at = drop_at xs place x at

-- ---- one context more

placed_append : (number : ℕ) (apid : List ℕ) (place : ℕ) (xs ys : List ContextLine) → placed number apid place (xs ++ ys) ≡ placed number apid place xs ++ placed number apid (place + length xs) ys
placed_append number apid place [] ys = let same : place ≡ place + 0 = omega arith in ap (λ (p : ℕ). placed number apid p ys) same
placed_append number apid place (x ∷ xs) ys =
    let same : place + 1 + length xs ≡ place + suc (length xs) = omega arith in
    ap (λ (l : List Context). record { app = number; place = place; apid = apid; ctid = x.ctid } ∷ l)
    (placed_append number apid (place + 1) xs ys ∙ ap (λ (p : ℕ). placed number apid (place + 1) xs ++ placed number apid p ys) same)

-- the application and the handles, after these contexts
pub record IsDeclared (apid : List ℕ) (first : AppState) (before : List Context) (contexts : List ContextLine) (app : AppState) (handles : List Context) : Type 0 where
  pub handles_so : handles ≡ before ++ placed first.number apid (length first.hello - 1) contexts
  pub hello_so : app ≡ record first { hello = first.hello ++ map (registered apid) contexts }

pub declared_more : (apid : List ℕ) (first : AppState) (before : List Context) (xs ys all : List ContextLine) (app newer : AppState) (handles more : List Context)
    → 1 ≤ length first.hello → all ≡ xs ++ ys → IsDeclared apid first before xs app handles → IsDeclared apid app handles ys newer more → IsDeclared apid first before all newer more
declared_more apid first before xs ys all app newer handles more some parted is then =
    let n : app.number ≡ first.number = ap (λ (a : AppState). a.number) is.hello_so in
    let h : app.hello ≡ first.hello ++ map (registered apid) xs = ap (λ (a : AppState). a.hello) is.hello_so in
    let long = ap length h ∙ length-append first.hello (map (registered apid) xs) in
    let count = length-map xs (registered apid) in
    let at : length app.hello - 1 ≡ length first.hello - 1 + length xs = omega (arith, long, count, some) in
    let p = length first.hello - 1 in
    record {
      handles_so = then.handles_so
          ∙ ap (λ (l : List Context). l ++ placed app.number apid (length app.hello - 1) ys) is.handles_so
          ∙ ap (λ (k : ℕ). (before ++ placed first.number apid p xs) ++ placed k apid (length app.hello - 1) ys) n
          ∙ ap (λ (q : ℕ). (before ++ placed first.number apid p xs) ++ placed first.number apid q ys) at
          ∙ append_assoc before (placed first.number apid p xs) (placed first.number apid (p + length xs) ys)
          ∙ ap (λ (l : List Context). before ++ l) (sym (placed_append first.number apid p xs ys))
          ∙ ap (λ (l : List ContextLine). before ++ placed first.number apid p l) (sym parted);
      hello_so = then.hello_so
          ∙ ap (λ (a : AppState). record a { hello = a.hello ++ map (registered apid) ys }) is.hello_so
          ∙ ap (λ (l : List UserMsg). record first { hello = l })
          (append_assoc first.hello (map (registered apid) xs) (map (registered apid) ys)
          ∙ ap (λ (l : List UserMsg). first.hello ++ l) (sym (map-append (registered apid) xs ys) ∙ ap (map (registered apid)) (sym parted)));
    }

-- ---- one application more

pub few_places : (lines : List ScenarioLine) (list : List AppState) → list ≡ declared_apps 0 (specs_of lines) → length list ≡ length (apps lines)
few_places lines list is = ap length (is ∙ sym (none_opened lines 0 (apps lines))) ∙ many_opened lines 0 0 (apps lines)

module _ (lines : List ScenarioLine) (place : ℕ) (app : AppLine) (at : slice_get (apps lines) place ≡ Some app) where
  pub spec_at : (specs : List AppSpec) (d : AppSpec) → specs ≡ specs_of lines → (get_or specs place d).apid ≡ app.apid
  spec_at specs d is =
      ap (λ (l : List AppSpec). (get_or l place d).apid) is ∙ ap (λ (spec : AppSpec). spec.apid) (get_or-there (specs_of lines) place (spec_of app) d (map_at spec_of (apps lines) place app at))

  pub given_is : (list : List AppState) (given : AppState) → list ≡ opened_to lines place 0 (apps lines) → slice_get list place ≡ Some given → given ≡ declared_app place (spec_of app)
  given_is list given is here =
      let none : 0 + place ≡ place = omega arith in
      some_is (sym here ∙ ap (λ (l : List AppState). slice_get l place) is ∙ next_declared lines 0 (apps lines) place app at ∙ ap (λ (n : ℕ). Some (declared_app n (spec_of app))) none)

  pub handles_more : (given : AppState) (apid : List ℕ) (old new : List Context) → given ≡ declared_app place (spec_of app) → apid ≡ app.apid
      → new ≡ old ++ placed given.number apid (length given.hello - 1) (contexts_of apid lines)
      → old ++ handles_from lines place (drop place (apps lines)) ≡ handles_from lines 0 (apps lines)
      → new ++ handles_from lines (place + 1) (drop (place + 1) (apps lines)) ≡ handles_from lines 0 (apps lines)
  handles_more given apid old new is named added so_far =
      let more : suc place ≡ place + 1 = omega arith in
      let rest = handles_from lines (place + 1) (drop (place + 1) (apps lines)) in
      let here : new ≡ old ++ placed place app.apid 0 (contexts_of app.apid lines) =
      added ∙ ap (λ (a : AppState). old ++ placed a.number apid (length a.hello - 1) (contexts_of apid lines)) is
      ∙ ap (λ (id : List ℕ). old ++ placed place id 0 (contexts_of id lines)) named in
      ap (λ (l : List Context). l ++ rest) here ∙ append_assoc old (placed place app.apid 0 (contexts_of app.apid lines)) rest
      ∙ ap (λ (l : List Context). old ++ l)
      (ap (λ (n : ℕ). placed place app.apid 0 (contexts_of app.apid lines) ++ handles_from lines (place + 1) (drop n (apps lines))) (sym more)
      ∙ ap (handles_from lines place) (sym (drop_at (apps lines) place app at)))
      ∙ so_far

  pub apps_more : (given newer : AppState) (apid : List ℕ) (list : List AppState) → given ≡ declared_app place (spec_of app) → apid ≡ app.apid
      → newer ≡ record given { hello = given.hello ++ map (registered apid) (contexts_of apid lines) } → list ≡ opened_to lines place 0 (apps lines)
      → slice_set list place newer ≡ opened_to lines (place + 1) 0 (apps lines)
  apps_more given newer apid list is named declares so_far =
      let more : suc place ≡ place + 1 = omega arith in
      let none : 0 + place ≡ place = omega arith in
      let here : newer ≡ opened_app lines [] place app =
      declares ∙ ap (λ (a : AppState). record a { hello = a.hello ++ map (registered apid) (contexts_of apid lines) }) is
      ∙ ap (λ (id : List ℕ). record (declared_app place (spec_of app)) { hello = registration (spec_of app) ∷ map (registered id) (contexts_of id lines) }) named in
      ap (λ (l : List AppState). slice_set l place newer) so_far ∙ ap (λ (a : AppState). slice_set (opened_to lines place 0 (apps lines)) place a) here
      ∙ ap (λ (n : ℕ). slice_set (opened_to lines place 0 (apps lines)) place (opened_app lines [] n app)) (sym none)
      ∙ next_opened lines 0 (apps lines) place app at ∙ ap (λ (n : ℕ). opened_to lines n 0 (apps lines)) more

-- ---- applications that have their contexts

pub all_many : (lines : List ScenarioLine) (made : List (List ℕ)) (apps : List AppLine) → length (opened_from lines made 0 apps) ≡ length apps
all_many lines made apps = many 0 apps where
  many : (number : ℕ) (apps : List AppLine) → length (opened_from lines made number apps) ≡ length apps
  many number [] = refl
  many number (app ∷ rest) = let all = many (number + 1) rest in omega (arith, all)

opened_at : (lines : List ScenarioLine) (made : List (List ℕ)) (number : ℕ) (apps : List AppLine) (place : ℕ) (app : AppLine) → slice_get apps place ≡ Some app
    → slice_get (opened_from lines made number apps) place ≡ Some (opened_app lines made (number + place) app)
opened_at lines made number [] place app at = absurd cc
opened_at lines made number (first ∷ rest) zero app at =
    let here : first ≡ app = cc in let same : number ≡ number + 0 = omega arith in
    ap (λ (a : AppLine). Some (opened_app lines made number a)) here ∙ ap (λ (n : ℕ). Some (opened_app lines made n app)) same
opened_at lines made number (first ∷ rest) (suc place) app at =
    let same : number + 1 + place ≡ number + suc place = omega arith in
    opened_at lines made (number + 1) rest place app at ∙ ap (λ (n : ℕ). Some (opened_app lines made n app)) same

pub opened_is : (lines : List ScenarioLine) (made : List (List ℕ)) (place : ℕ) (app : AppLine) (list : List AppState) (given : AppState) → slice_get (apps lines) place ≡ Some app
    → list ≡ opened_from lines made 0 (apps lines) → slice_get list place ≡ Some given → given ≡ opened_app lines made place app
opened_is lines made place app list given at is here =
    let none : 0 + place ≡ place = omega arith in
    some_is (sym here ∙ ap (λ (l : List AppState). slice_get l place) is ∙ opened_at lines made 0 (apps lines) place app at ∙ ap (λ (n : ℕ). Some (opened_app lines made n app)) none)

-- the application that was found by this id has it
pub app_named : (lines : List ScenarioLine) (apid : List ℕ) (place : ℕ) (app : AppLine) → slice_get (apps lines) place ≡ Some app → number_in apid (specs_of lines) ≡ Some place → app.apid ≡ apid
app_named lines apid place app at named =
    let none : AppSpec = record { apid = []; capacity = 0; text = [] } in
    let found = position-Some (λ spec. bytes_eq spec.apid apid) (specs_of lines) place none named in
    let here = get_or-there (specs_of lines) place (spec_of app) none (map_at spec_of (apps lines) place app at) in
    (bytes_eq-Decides app.apid apid).0 (ap (λ (spec : AppSpec). bytes_eq spec.apid apid) (sym here) ∙ found.1)

-- how many contexts the application at a place has
pub base_is : (lines : List ScenarioLine) (place : ℕ) (app : AppLine) → slice_get (apps lines) place ≡ Some app → base_of lines place ≡ length (contexts_of app.apid lines)
base_is lines place app at = ap (λ (o : Option AppLine). option_map_or (λ app. length (contexts_of app.apid lines)) o 0) at

pub contexts_are : (lines : List ScenarioLine) (made : List (List ℕ)) (place : ℕ) (app : AppLine) (given : AppState) → given ≡ opened_app lines made place app → slice_get (apps lines) place ≡ Some app
    → contexts given ≡ base_of lines given.number
contexts_are lines made place app given is at =
    let many = length-map (contexts_of app.apid lines) (registered app.apid) in
    let base = base_is lines place app at in
    ap contexts is ∙ (let here : contexts (opened_app lines made place app) ≡ base_of lines place = omega (arith, many, base) in here) ∙ ap (λ (a : AppState). base_of lines a.number) (sym is)

-- ---- one writer more, of an application that it starts

module _ (lines : List ScenarioLine) (made : List (List ℕ)) (apid : List ℕ) (place : ℕ) (named : number_in apid (specs_of lines) ≡ Some place) where
  -- which are started
  starts : (number : ℕ) → is_one_of lines number (made ++ apid ∷ []) ≡ (is_one_of lines number made || (place == number))
  starts number =
      list_any-append (λ id. option_map_or (λ n. n == number) (number_in id (specs_of lines)) false) made (apid ∷ [])
      ∙ ap (λ (o : Option ℕ). is_one_of lines number made || (option_map_or (λ n. n == number) o false || false)) named
      ∙ by_test (is_one_of lines number made) (place == number) where
        by_test : (a b : Bool) → (a || (b || false)) ≡ (a || b)
        by_test true b = refl
        by_test false true = refl
        by_test false false = refl

  -- another one than this stays as it is
  other_app : (number : ℕ) (app : AppLine) → place ≢ number → opened_app lines (made ++ apid ∷ []) number app ≡ opened_app lines made number app
  other_app number app apart =
      ap (λ (b : Bool). record { number = number; apid = app.apid; hello = hello_of lines app; started = b })
      (starts number ∙ ap (λ (b : Bool). is_one_of lines number made || b) (ne_eqb place number apart) ∙ by_test (is_one_of lines number made)) where
        by_test : (a : Bool) → (a || false) ≡ a
        by_test true = refl
        by_test false = refl

  this_app : (app : AppLine) → opened_app lines (made ++ apid ∷ []) place app ≡ record (opened_app lines made place app) { started = true }
  this_app app =
      ap (λ (b : Bool). record { number = place; apid = app.apid; hello = hello_of lines app; started = b })
      (starts place ∙ ap (λ (b : Bool). is_one_of lines place made || b) (eq-eqb place place refl) ∙ by_test (is_one_of lines place made)) where
        by_test : (a : Bool) → (a || true) ≡ true
        by_test true = refl
        by_test false = refl

  others_behind : (number : ℕ) (apps : List AppLine) → place < number → opened_from lines (made ++ apid ∷ []) number apps ≡ opened_from lines made number apps
  others_behind number [] below = refl
  others_behind number (app ∷ rest) below =
      let here = other_app number app (λ same. omega (arith, below, same)) in
      let others = others_behind (number + 1) rest (omega (arith, below)) in
      ap (λ (a : AppState). a ∷ opened_from lines (made ++ apid ∷ []) (number + 1) rest) here ∙ ap (λ (l : List AppState). opened_app lines made number app ∷ l) others

  started_from : (number : ℕ) (apps : List AppLine) (at : ℕ) (app : AppLine) → slice_get apps at ≡ Some app → place ≡ number + at
      → opened_from lines (made ++ apid ∷ []) number apps ≡ slice_set (opened_from lines made number apps) at (record (opened_app lines made place app) { started = true })
  started_from number [] at app there same = absurd cc
  started_from number (first ∷ rest) zero app there same =
      let here : first ≡ app = cc in
      let is : number ≡ place = omega (arith, same) in
      ap (λ (n : ℕ). opened_app lines (made ++ apid ∷ []) n first ∷ opened_from lines (made ++ apid ∷ []) (number + 1) rest) is
      ∙ ap (λ (a : AppState). a ∷ opened_from lines (made ++ apid ∷ []) (number + 1) rest) (this_app first ∙ ap (λ (l : AppLine). record (opened_app lines made place l) { started = true }) here)
      ∙ ap (λ (l : List AppState). record (opened_app lines made place app) { started = true } ∷ l) (others_behind (number + 1) rest (omega (arith, is)))
  started_from number (first ∷ rest) (suc at) app there same =
      ap (λ (a : AppState). a ∷ opened_from lines (made ++ apid ∷ []) (number + 1) rest) (other_app number first (λ is. omega (arith, is, same)))
      ∙ ap (λ (l : List AppState). opened_app lines made number first ∷ l) (started_from (number + 1) rest at app there (omega (arith, same)))

  pub started_more : (app : AppLine) (list : List AppState) (given newer : AppState) → slice_get (apps lines) place ≡ Some app → list ≡ opened_from lines made 0 (apps lines)
      → slice_get list place ≡ Some given → newer ≡ record given { started = true } → slice_set list place newer ≡ opened_from lines (made ++ apid ∷ []) 0 (apps lines)
  started_more app list given newer at is here starts_it =
      let given_so = opened_is lines made place app list given at is here in
      ap (λ (l : List AppState). slice_set l place newer) is
      ∙ ap (λ (a : AppState). slice_set (opened_from lines made 0 (apps lines)) place a) (starts_it ∙ ap (λ (a : AppState). record a { started = true }) given_so)
      ∙ sym (started_from 0 (apps lines) place app at (omega arith))
