-- Each line of calls names a context that was declared, and its worker finds it.
use Rattle.std.proofs.Common.{◌≡◌, ◌≢◌, ℕ, zero, suc, ◌+◌, cond, eqb, Bool, true, false, ◌&&◌, ◌||◌, List, [], ◌∷◌, ◌++◌, Option, Some, None, slice_get, refl, sym, ◌∙◌, subst, eq-eqb, ne_eqb, arith}
use Rattle.std.specs.Prelude.{find}
use Rattle.std.specs.List.{filter_map, list_any}
use Rattle.std.specs.Str.{bytes_eq}
use Rattle.std.proofs.lemmas.Slice.Eq.{bytes_eq-Decides}
use Rattle.dl_bytes.specs.Context.{Context}
use Rattle.dl_script_model.specs.declared.line.AppLine.{AppLine}
use Rattle.dl_script_model.specs.declared.line.ContextLine.{ContextLine}
use Rattle.dl_script_model.specs.declared.scenario.ScenarioLine.{ScenarioLine}
use Rattle.dl_script_model.specs.declared.scenario.ScenarioLine.TheVariants as line
use Rattle.dl_script.specs.declared.claim.ContextName.{ContextName}
use Rattle.dl_crew.specs.Calls.{has_name}
use Rattle.dl_opening.specs.Scenario.{contexts_of, handles_from, placed}

-- ---- handles by application and id

find_behind : (p : Context → Bool) (xs ys : List Context) → find p xs ≡ None → find p (xs ++ ys) ≡ find p ys
find_behind p [] ys none = refl
find_behind p (x ∷ xs) ys none = by_test (p x) none (find_behind p xs ys) where
  by_test : (b : Bool) → cond b (Some x) (find p xs) ≡ None → (find p xs ≡ None → find p (xs ++ ys) ≡ find p ys) → cond b (Some x) (find p (xs ++ ys)) ≡ find p ys
  by_test true some go = absurd cc
  by_test false rest go = go rest

find_front : (p : Context → Bool) (xs ys : List Context) (ctx : Context) → find p xs ≡ Some ctx → find p (xs ++ ys) ≡ Some ctx
find_front p [] ys ctx some = absurd cc
find_front p (x ∷ xs) ys ctx some = by_test (p x) some (find_front p xs ys ctx) where
  by_test : (b : Bool) → cond b (Some x) (find p xs) ≡ Some ctx → (find p xs ≡ Some ctx → find p (xs ++ ys) ≡ Some ctx) → cond b (Some x) (find p (xs ++ ys)) ≡ Some ctx
  by_test true is go = is
  by_test false rest go = go rest

-- another application's have other numbers
no_other : (number other : ℕ) (ctid apid : List ℕ) (place : ℕ) (all : List ContextLine) → other ≢ number → find (has_name number ctid) (placed other apid place all) ≡ None
no_other number other ctid apid place [] apart = refl
no_other number other ctid apid place (context ∷ rest) apart =
    by_test (eqb other number) (ne_eqb other number apart) (record { app = other; place = place; apid = apid; ctid = context.ctid }) (no_other number other ctid apid (place + 1) rest apart) where
      by_test : (b : Bool) → b ≡ false → (handle : Context) → find (has_name number ctid) (placed other apid (place + 1) rest) ≡ None
          → cond (b && bytes_eq context.ctid ctid) (Some handle) (find (has_name number ctid) (placed other apid (place + 1) rest)) ≡ None
      by_test true is handle go = absurd cc
      by_test false is handle go = go

-- a context of this application and this id
pub record IsFound (apid ctid : List ℕ) (o : Option Context) : Type 0 where
  pub ctx : Context
  pub is : o ≡ Some ctx
  pub app_so : ctx.apid ≡ apid
  pub ctid_so : ctx.ctid ≡ ctid

found_in : (number : ℕ) (apid ctid : List ℕ) (place : ℕ) (all : List ContextLine) → list_any (λ context. bytes_eq context.ctid ctid) all ≡ true
    → IsFound apid ctid (find (has_name number ctid) (placed number apid place all))
found_in number apid ctid place [] one = absurd cc
found_in number apid ctid place (context ∷ rest) one =
    by_app (eqb number number) (eq-eqb number number refl) (by_id (bytes_eq context.ctid ctid) refl one (found_in number apid ctid (place + 1) rest)) where
      handle : Context
      handle = record { app = number; place = place; apid = apid; ctid = context.ctid }

      by_id : (b : Bool) → bytes_eq context.ctid ctid ≡ b → (b || list_any (λ context. bytes_eq context.ctid ctid) rest) ≡ true
          → (list_any (λ context. bytes_eq context.ctid ctid) rest ≡ true → IsFound apid ctid (find (has_name number ctid) (placed number apid (place + 1) rest)))
          → IsFound apid ctid (cond b (Some handle) (find (has_name number ctid) (placed number apid (place + 1) rest)))
      by_id true same one go = record { ctx = handle; is = refl; app_so = refl; ctid_so = (bytes_eq-Decides context.ctid ctid).0 same }
      by_id false other more go = go more

      by_app : (b : Bool) → b ≡ true → IsFound apid ctid (cond (bytes_eq context.ctid ctid) (Some handle) (find (has_name number ctid) (placed number apid (place + 1) rest)))
          → IsFound apid ctid (cond (b && bytes_eq context.ctid ctid) (Some handle) (find (has_name number ctid) (placed number apid (place + 1) rest)))
      by_app true is found = found
      by_app false is found = absurd cc

pub found_from : (lines : List ScenarioLine) (start : ℕ) (all : List AppLine) (place : ℕ) (app : AppLine) (ctid : List ℕ) → slice_get all place ≡ Some app
    → list_any (λ context. bytes_eq context.ctid ctid) (contexts_of app.apid lines) ≡ true
    → IsFound app.apid ctid (find (has_name (start + place) ctid) (handles_from lines start all))
found_from lines start [] place app ctid at one = absurd cc
found_from lines start (first ∷ rest) zero app ctid at one =
    let here : first ≡ app = cc in
    let same : start ≡ start + 0 = omega arith in
    let found = found_in start app.apid ctid 0 (contexts_of app.apid lines) one in
    subst (λ (n : ℕ). IsFound app.apid ctid (find (has_name n ctid) (handles_from lines start (first ∷ rest)))) same
    (subst (λ (a : AppLine). IsFound app.apid ctid (find (has_name start ctid) (placed start a.apid 0 (contexts_of a.apid lines) ++ handles_from lines (start + 1) rest))) (sym here)
    (record {
      ctx = found.ctx;
      is = find_front (has_name start ctid) (placed start app.apid 0 (contexts_of app.apid lines)) (handles_from lines (start + 1) rest) found.ctx found.is;
      app_so = found.app_so;
      ctid_so = found.ctid_so;
    }))
found_from lines start (first ∷ rest) (suc place) app ctid at one =
    let same : start + 1 + place ≡ start + suc place = omega arith in
    let apart : start ≢ start + suc place = λ is. omega (arith, is) in
    let found = subst (λ (n : ℕ). IsFound app.apid ctid (find (has_name n ctid) (handles_from lines (start + 1) rest))) same (found_from lines (start + 1) rest place app ctid at one) in
    record {
      ctx = found.ctx;
      is = find_behind (has_name (start + suc place) ctid) (placed start first.apid 0 (contexts_of first.apid lines)) (handles_from lines (start + 1) rest)
          (no_other (start + suc place) start ctid first.apid 0 (contexts_of first.apid lines) apart) ∙ found.is;
      app_so = found.app_so;
      ctid_so = found.ctid_so;
    }

-- ---- contexts as lines name them

abbrev pub name_in : ScenarioLine → Option ContextName
name_in (line.Context context) = Some (record { apid = context.apid; ctid = context.ctid })
name_in _ = None

abbrev pub names : List ScenarioLine → List ContextName
names lines = filter_map name_in lines
