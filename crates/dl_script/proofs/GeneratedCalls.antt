-- The steps of one call of a list that a number makes.
use Rattle.std.proofs.Common.{◌≡◌, ℕ, zero, suc, ◌+◌, ◌%◌, ◌<◌, Bool, true, false, not, cond, eqb, ltb, List, [], ◌∷◌, ◌++◌, None, refl, ap, ◌∙◌, arith}
use Rattle.std.specs.Prelude.{codes}
use Rattle.std.proofs.Math.Dec.{lit≤}
use Rattle.std.proofs.lemmas.Bool.{le-ltb}
use Rattle.dl_script_model.specs.declared.step.Step.{Step}
use Rattle.dl_script_model.specs.declared.step.Step.TheVariants as step
use Rattle.dl_script_fields.specs.declared.kind.ScriptKind.TheVariants.{Unknown, Limit}
use Rattle.dl_script.specs.Earlier.{Declared, is_app, logs_under, first_of, refusal}
use Rattle.dl_script.specs.Generated.{draw, app_id, context_id, level_request, Drawn, call_at, take_at, losses_at, request_at, turn}
use Rattle.dl_script.specs.declared.claim.Claim.TheVariants as claim
use Rattle.dl_script.specs.declared.claim.ContextName.{ContextName}
use Rattle.dl_script.proofs.StepRuns.{Goes, behind}

-- ---- what is declared

abbrev both : ℕ → List ContextName
both k = record { apid = app_id k; ctid = context_id 0 } ∷ record { apid = app_id k; ctid = context_id 1 } ∷ []

-- what is declared after so many calls
abbrev pub declared_with : ℕ → Declared
declared_with n = record {
  apps = app_id 1 ∷ app_id 2 ∷ app_id 3 ∷ app_id 4 ∷ [];
  contexts = both 1 ++ both 2 ++ both 3 ++ both 4;
  places = [];
  writers = app_id 1 ∷ app_id 1 ∷ app_id 2 ∷ app_id 2 ∷ app_id 3 ∷ app_id 3 ∷ app_id 4 ∷ app_id 4 ∷ [];
  clients = record { sent = 0; leaves = false } ∷ [];
  calls = n;
  user = false;
}

draw_below : (n x : ℕ) → 0 < n → (draw n x).0 < n
unfolding draw
draw_below n x positive = omega arith

app_known : (n g : ℕ) → g < 4 → is_app (declared_with n) (app_id (1 + g)) ≡ true
app_known n zero below = refl
app_known n (suc zero) below = refl
app_known n (suc (suc zero)) below = refl
app_known n (suc (suc (suc zero))) below = refl
app_known n (suc (suc (suc (suc g)))) below = absurd (omega arith)

app_may : (n g : ℕ) → g < 4 → refusal (declared_with n) (claim.OfApp (app_id (1 + g))) ≡ None
app_may n g below = ap (λ known. first_of ((not known, Unknown) ∷ [])) (app_known n g below)

-- each of the eight writers logs under both contexts
logs_by : (n w : ℕ) → w < 8 → (b : Bool) → logs_under (declared_with n) (1 + w) (cond b (codes "CTXA") (codes "CTXB")) ≡ true
logs_by n zero below true = refl
logs_by n zero below false = refl
logs_by n (suc zero) below true = refl
logs_by n (suc zero) below false = refl
logs_by n (suc (suc zero)) below true = refl
logs_by n (suc (suc zero)) below false = refl
logs_by n (suc (suc (suc zero))) below true = refl
logs_by n (suc (suc (suc zero))) below false = refl
logs_by n (suc (suc (suc (suc zero)))) below true = refl
logs_by n (suc (suc (suc (suc zero)))) below false = refl
logs_by n (suc (suc (suc (suc (suc zero))))) below true = refl
logs_by n (suc (suc (suc (suc (suc zero))))) below false = refl
logs_by n (suc (suc (suc (suc (suc (suc zero)))))) below true = refl
logs_by n (suc (suc (suc (suc (suc (suc zero)))))) below false = refl
logs_by n (suc (suc (suc (suc (suc (suc (suc zero))))))) below true = refl
logs_by n (suc (suc (suc (suc (suc (suc (suc zero))))))) below false = refl
logs_by n (suc (suc (suc (suc (suc (suc (suc (suc w)))))))) below b = absurd (omega arith)

call_may : (n w c : ℕ) → w < 8 → n < 1000000 → refusal (declared_with n) (claim.Calls (1 + w) (context_id c) 1) ≡ None
call_may n w c below room =
    ap (λ known. first_of ((not known, Unknown) ∷ (ltb 1000000 (n + 1), Limit) ∷ [])) (logs_by n w below (eqb c 0))
    ∙ ap (λ full. first_of ((false, Unknown) ∷ (full, Limit) ∷ [])) (le-ltb 1000000 (n + 1) (omega arith))

-- ---- the steps of a call

-- steps that declare nothing, at most so many
abbrev pub Stays : ℕ → List Step → ℕ → Type 0
Stays n steps count = Goes (declared_with n) steps (declared_with n) count

nothing_stays : (n count : ℕ) → Stays n [] count
nothing_stays n count = record { follow = tt; leads = refl; bounds = tt; few = omega arith }

call_goes : (n i x : ℕ) → n < 1000000 → Goes (declared_with n) (call_at i x).0 (declared_with (n + 1)) 1
unfolding call_at
call_goes n i x room = record {
  follow = (call_may n (draw 8 x).0 (draw 2 (draw 8 x).1).0 (draw_below 8 x (omega arith)) room, tt);
  leads = refl;
  bounds = (tt, tt);
  few = lit≤ tt;
}

-- either of two lists of steps, with the word after it
either_stays : (n count : ℕ) (b : Bool) (x y : Drawn) → Stays n x.0 count → Stays n y.0 count → Stays n (cond b x y).0 count
either_stays n count true x y first second = first
either_stays n count false x y first second = second

take_stays : (n x : ℕ) → Stays n (take_at x).0 1
unfolding take_at
take_stays n x =
    let t : ℕ × ℕ = draw 2 x in
    let g : ℕ × ℕ = draw 4 t.1 in
    either_stays n 1 (eqb t.0 0) (step.Take (app_id (1 + g.0)) ∷ [], g.1) ([], t.1)
    (record { follow = (app_may n g.0 (draw_below 4 t.1 (omega arith)), tt); leads = refl; bounds = (tt, tt); few = lit≤ tt })
    (nothing_stays n 1)

losses_stay : (n i : ℕ) → Stays n (losses_at i) 4
unfolding losses_at
losses_stay n i = by_test (eqb (i % 1000) 0) where
  by_test : (b : Bool) → Stays n (cond b (step.Losses (app_id 1) ∷ step.Losses (app_id 2) ∷ step.Losses (app_id 3) ∷ step.Losses (app_id 4) ∷ []) []) 4
  by_test true = record {
    follow = (refl, (refl, (refl, (refl, tt))));
    leads = refl;
    bounds = (tt, (tt, (tt, (tt, tt))));
    few = lit≤ tt;
  }
  by_test false = nothing_stays n 4

request_stays : (n i x : ℕ) → Stays n (request_at i x).0 1
unfolding request_at
request_stays n i x =
    let v : ℕ × ℕ = draw 6 x in
    either_stays n 1 (eqb (i % 2000) 0) (step.Bytes 1 (level_request (1 + v.0)) ∷ [], v.1) ([], x)
    (record { follow = (refl, tt); leads = refl; bounds = (tt, tt); few = lit≤ tt })
    (nothing_stays n 1)

-- all of them
pub turn_goes : (n i x : ℕ) → n < 1000000 → Goes (declared_with n) (turn i x).0 (declared_with (n + 1)) 7
unfolding turn
turn_goes n i x room =
    let called : Drawn = call_at i x in
    let taken : Drawn = take_at called.1 in
    let asked : Drawn = request_at i taken.1 in
    let now : Declared = declared_with (n + 1) in
    behind (declared_with n) now now (called.0 ++ taken.0 ++ losses_at i) asked.0 6 1
    (behind (declared_with n) now now (called.0 ++ taken.0) (losses_at i) 2 4
    (behind (declared_with n) now now called.0 taken.0 1 1 (call_goes n i x room) (take_stays (n + 1) called.1))
    (losses_stay (n + 1) i))
    (request_stays (n + 1) i taken.1)
