-- What is missing of a session by its counters are the calls of its writer that are not here.
use Rattle.std.proofs.Common.{◌≡◌, ℕ, ◌+◌, ◌<◌, ◌%◌, Bool, true, false, cond, eqb, List, [], ◌∷◌, ◌++◌, Option, Some, None, refl, sym, ap, subst, ◌∙◌, append_assoc, arith}
use Rattle.std.specs.Prelude.{count_by, map, sum, sum_by, not, ◌&&◌, ◌||◌, is_some}
use Rattle.std.specs.List.{filter, list_any, AllByRecursion}
use Rattle.std.specs.Option.{option_map_or}
use Rattle.std.proofs.lemmas.List.Sums.{sum_by-append, sum_by-cons}
use Rattle.dl_events.specs.declared.record.Record.{Record}
use Rattle.dl_events.specs.declared.record.Answer.TheVariants as answer
use Rattle.dl_model.specs.Accounts.{AreCounted}
use Rattle.dl_model.specs.Along.{along, along_from}
use Rattle.dl_model.specs.Report.{is_answer}
use Rattle.dl_receive.specs.Text.{passed_over}
use Rattle.dl_sessions.specs.declared.session.Entry.{Entry}
use Rattle.dl_sessions.specs.declared.session.Latest.{Latest}
use Rattle.dl_sessions.specs.declared.session.Session.{Session}
use Rattle.dl_sessions.specs.Account.{gaps, totals_of}
use Rattle.dl_sessions.specs.Gaps.{counted, gap_in_session, is_in, latest, latest_of, passed as jumps, same_session}
use Rattle.dl_sessions.specs.Laws.{Call, FewInRow, HasCalls, MissingAreCalls, PassesIfHere, Recorded, is_lacking, passes}
use Rattle.dl_sessions.proofs.OneMore.{latest-one, session_is}

true_not_false : (b : Bool) → b ≡ true → b ≡ false → ⊥
true_not_false true is not = absurd cc
true_not_false false is not = absurd cc

not_true : (b : Bool) → not b ≡ true → b ≡ false
not_true true is = absurd cc
not_true false is = refl

-- ---- a sum over the messages of a session alone

-- what each message of a session gives, after the one before it
abbrev along_mine : (Option Latest → Entry → ℕ) → Option Latest → List Entry → ℕ
along_mine f last [] = 0
along_mine f last (e ∷ mine) = f last e + along_mine f (Some (latest_of e)) mine

-- the last message of its session
abbrev by_latest : (Option Latest → Entry → ℕ) → List Entry → Entry → ℕ
by_latest f before e = f (latest (is_in e.session) before) e

abbrev step : (Option Latest → Entry → ℕ) → Session → List Entry → Entry → List ℕ
step f session before e = cond (is_in session e) (by_latest f before e ∷ []) []

mine : (f : Option Latest → Entry → ℕ) (session : Session) (before es : List Entry) → sum (along_from (step f session) before es) ≡ along_mine f (latest (is_in session) before) (filter (is_in session) es)
mine f session before [] = refl
mine f session before (e ∷ es) =
    sum_by-append (λ (n : ℕ). n) (step f session before e) (along_from (step f session) (before ++ e ∷ []) es) ∙ ap (λ (n : ℕ). sum (step f session before e) + n) (mine f session (before ++ e ∷ []) es)
    ∙ ap (λ (o : Option Latest). sum (step f session before e) + along_mine f o (filter (is_in session) es)) (latest-one (is_in session) before e) ∙ by_test (is_in session e) refl where
      by_test : (b : Bool) → is_in session e ≡ b → sum (cond b (by_latest f before e ∷ []) []) + along_mine f (cond b (Some (latest_of e)) (latest (is_in session) before)) (filter (is_in session) es)
          ≡ along_mine f (latest (is_in session) before) (cond b (e ∷ filter (is_in session) es) (filter (is_in session) es))
      by_test true same =
          let own : f (latest (is_in e.session) before) e ≡ f (latest (is_in session) before) e = ap (λ (s : Session). f (latest (is_in s) before) e) (session_is e.session session same) in
          omega (arith, own)
      by_test false apart = omega arith

-- ---- calls

-- the calls that are not here, since the last that is; nothing before the first
abbrev lacking_from : Option ℕ → List Call → ℕ
lacking_from since [] = 0
lacking_from None (c ∷ calls) = cond c.is_here (lacking_from (Some 0) calls) (lacking_from None calls)
lacking_from (Some n) (c ∷ calls) = cond c.is_here (n + lacking_from (Some 0) calls) (lacking_from (Some (cond {A = ℕ} (passes c) (n + 1) n)) calls)

none_lacks : (calls : List Call) (n : ℕ) → list_any (λ c. c.is_here) calls ≡ false → lacking_from (Some n) calls ≡ 0
none_lacks [] n none = refl
none_lacks (c ∷ calls) n none = by_test (λ k is. none_lacks calls k is) c.is_here none where
  by_test : ((k : ℕ) → list_any (λ (x : Call). x.is_here) calls ≡ false → lacking_from (Some k) calls ≡ 0) → (b : Bool) → (b || list_any (λ (x : Call). x.is_here) calls) ≡ false
      → cond b (n + lacking_from (Some 0) calls) (lacking_from (Some (cond {A = ℕ} (passes c) (n + 1) n)) calls) ≡ 0
  by_test later true is = absurd cc
  by_test later false is = later (cond {A = ℕ} (passes c) (n + 1) n) is

counts : (middle behind : List Call) (last : Call) (n : ℕ) → last.is_here ≡ true → list_any (λ c. c.is_here) behind ≡ false → lacking_from (Some n) (middle ++ last ∷ behind) ≡ n + count_by is_lacking middle
counts [] behind last n here none =
    ap (λ (b : Bool). cond b (n + lacking_from (Some 0) behind) (lacking_from (Some (cond {A = ℕ} (passes last) (n + 1) n)) behind)) here
    ∙ ap (λ (k : ℕ). n + k) (none_lacks behind 0 none)
counts (c ∷ middle) behind last n here none =
    by_both (λ k. counts middle behind last k here none) c.is_here (passes c) ∙ ap (λ (k : ℕ). n + k) (sym (sum_by-cons (λ (x : Call). cond {A = ℕ} (is_lacking x) 1 0) c middle)) where
      by_both : ((k : ℕ) → lacking_from (Some k) (middle ++ last ∷ behind) ≡ k + count_by is_lacking middle) → (b p : Bool)
          → cond b (n + lacking_from (Some 0) (middle ++ last ∷ behind)) (lacking_from (Some (cond {A = ℕ} p (n + 1) n)) (middle ++ last ∷ behind)) ≡ n + (cond {A = ℕ} (p && not b) 1 0 + count_by is_lacking middle)
      by_both later true true = omega (arith, later 0)
      by_both later true false = omega (arith, later 0)
      by_both later false true = omega (arith, later (n + 1))
      by_both later false false = omega (arith, later n)

none_few : (calls : List Call) (k : ℕ) → list_any (λ c. c.is_here) calls ≡ false → FewInRow k calls
none_few [] k is = tt
none_few (c ∷ calls) k is = by_test (λ n none. none_few calls n none) c.is_here refl is where
  by_test : ((n : ℕ) → list_any (λ (x : Call). x.is_here) calls ≡ false → FewInRow n calls) → (b : Bool) → c.is_here ≡ b → (b || list_any (λ (x : Call). x.is_here) calls) ≡ false → FewInRow k (c ∷ calls)
  by_test later true here is = absurd cc
  by_test later false apart is = (λ here. absurd (true_not_false c.is_here here apart), later (cond {A = ℕ} c.is_here 0 (cond {A = ℕ} (passes c) (k + 1) k)) is)

few_more : (middle behind : List Call) (last : Call) (n : ℕ) → list_any (λ c. c.is_here) behind ≡ false → FewInRow n (middle ++ last ∷ []) → FewInRow n (middle ++ last ∷ behind)
few_more [] behind last n none few = (few.0, none_few behind (cond {A = ℕ} last.is_here 0 (cond {A = ℕ} (passes last) (n + 1) n)) none)
few_more (c ∷ middle) behind last n none few = (few.0, few_more middle behind last (cond {A = ℕ} c.is_here 0 (cond {A = ℕ} (passes c) (n + 1) n)) none few.1)

-- ---- from one message that is here to the next

-- the counter of the last message, by the calls that passed before the next call
abbrev Stands : Latest → (passed lacking : ℕ) → Type 0
Stands last passed lacking = (q : ℕ) × (last.mcnt ≡ q % 256) × (passed ≡ q + 1 + lacking)

abbrev Mine : List Entry → List Call → Type 0
Mine mine calls = map (λ (e : Entry). e.mcnt) mine ≡ map (λ (c : Call). c.made.item.mcnt) (filter (λ (c : Call). c.is_here) calls)

over : (last : Latest) (mcnt item passed lacking : ℕ) → Stands last passed lacking → item ≡ passed % 256 → mcnt ≡ item → lacking < 256 → passed_over last.mcnt mcnt ≡ lacking
over last mcnt item passed lacking at is same few = let q = at.0 in omega (arith, at.1, at.2, is, same, few)

-- what the messages of these calls lack, behind a message that is here
abbrev After : List Call → Type 0
After calls = (own : List Entry) (last : Latest) (passed lacking : ℕ) → AreCounted passed (map (λ (c : Call). c.made) calls) → AllByRecursion PassesIfHere calls → Mine own calls → FewInRow lacking calls
    → Stands last passed lacking → along_mine jumps (Some last) own ≡ lacking_from (Some lacking) calls

module _ (c : Call) (calls : List Call) (later : After calls) (last : Latest) (passed lacking : ℕ) (steps : AreCounted passed (map (λ (x : Call). x.made) (c ∷ calls))) (passing : AllByRecursion PassesIfHere (c ∷ calls))
    (few : FewInRow lacking (c ∷ calls)) (at : Stands last passed lacking) where
  -- the calls behind are counted on, by whether it passed
  counted_on : (f : Bool) → is_answer answer.Filtered c.made.answer ≡ f → AreCounted (cond {A = ℕ} f passed (passed + 1)) (map (λ (x : Call). x.made) calls)
  counted_on f is = subst (λ (g : Bool). AreCounted (cond {A = ℕ} g passed (passed + 1)) (map (λ (x : Call). x.made) calls)) is steps.1

  few_on : (f b : Bool) → is_answer answer.Filtered c.made.answer ≡ f → c.is_here ≡ b → FewInRow (cond {A = ℕ} b 0 (cond {A = ℕ} (not f) (lacking + 1) lacking)) calls
  few_on f b is here =
      subst (λ (g : Bool). FewInRow (cond {A = ℕ} b 0 (cond {A = ℕ} (not g) (lacking + 1) lacking)) calls) is
      (subst (λ (h : Bool). FewInRow (cond {A = ℕ} h 0 (cond {A = ℕ} (passes c) (lacking + 1) lacking)) calls) here few.1)

  -- a call that is not here, by whether it passed
  unheard : (own : List Entry) (f : Bool) → is_answer answer.Filtered c.made.answer ≡ f → c.is_here ≡ false → Mine own calls → along_mine jumps (Some last) own ≡ lacking_from (Some (cond {A = ℕ} (not f) (lacking + 1) lacking)) calls
  unheard own true is apart has = later own last passed lacking (counted_on true is) passing.1 has (few_on true false is apart) at
  unheard own false is apart has = later own last (passed + 1) (lacking + 1) (counted_on false is) passing.1 has (few_on false false is apart) (at.0, at.1, omega (arith, at.2))

  heard : (own : List Entry) → c.is_here ≡ true → map (λ (e : Entry). e.mcnt) own ≡ c.made.item.mcnt ∷ map (λ (x : Call). x.made.item.mcnt) (filter (λ (x : Call). x.is_here) calls)
      → along_mine jumps (Some last) own ≡ lacking + lacking_from (Some 0) calls
  heard [] here is = absurd cc
  heard (e ∷ own) here is =
      let same : e.mcnt ≡ c.made.item.mcnt = cc in
      let more : Mine own calls = cc in
      let passing_it : is_answer answer.Filtered c.made.answer ≡ false = not_true (is_answer answer.Filtered c.made.answer) (passing.0 here) in
      let here_gap = over last e.mcnt c.made.item.mcnt passed lacking at steps.0 same (few.0 here) in
      let behind = later own (latest_of e) (passed + 1) 0 (counted_on false passing_it) passing.1 more (few_on false true passing_it here) (passed, same ∙ steps.0, omega arith) in
      ap (λ (n : ℕ). n + along_mine jumps (Some (latest_of e)) own) here_gap ∙ ap (λ (n : ℕ). lacking + n) behind

  by_here : (own : List Entry) (b : Bool) → c.is_here ≡ b → Mine own (c ∷ calls) → along_mine jumps (Some last) own ≡ lacking_from (Some lacking) (c ∷ calls)
  by_here own true here has =
      heard own here (has ∙ ap (λ (b : Bool). map (λ (x : Call). x.made.item.mcnt) (cond b (c ∷ filter (λ (x : Call). x.is_here) calls) (filter (λ (x : Call). x.is_here) calls))) here)
      ∙ sym (ap (λ (b : Bool). cond b (lacking + lacking_from (Some 0) calls) (lacking_from (Some (cond {A = ℕ} (passes c) (lacking + 1) lacking)) calls)) here)
  by_here own false apart has =
      unheard own (is_answer answer.Filtered c.made.answer) refl apart (has ∙ ap (λ (b : Bool). map (λ (x : Call). x.made.item.mcnt) (cond b (c ∷ filter (λ (x : Call). x.is_here) calls) (filter (λ (x : Call). x.is_here) calls))) apart)
      ∙ sym (ap (λ (b : Bool). cond b (lacking + lacking_from (Some 0) calls) (lacking_from (Some (cond {A = ℕ} (passes c) (lacking + 1) lacking)) calls)) apart)

after : (calls : List Call) → After calls
after [] [] last passed lacking steps passing has few at = refl
after [] (e ∷ own) last passed lacking steps passing has few at = absurd cc
after (c ∷ calls) own last passed lacking steps passing has few at = by_here c calls (after calls) last passed lacking steps passing few at own c.is_here refl has

-- ---- from the beginning

-- where none is here, the calls behind are counted from some number on
skipped : (before rest : List Call) (passed : ℕ) → AreCounted passed (map (λ (c : Call). c.made) (before ++ rest)) → (n : ℕ) × AreCounted n (map (λ (c : Call). c.made) rest)
skipped [] rest passed counted = (passed, counted)
skipped (c ∷ before) rest passed counted = skipped before rest (cond {A = ℕ} (is_answer answer.Filtered c.made.answer) passed (passed + 1)) counted.1

all_behind : (before rest : List Call) → AllByRecursion PassesIfHere (before ++ rest) → AllByRecursion PassesIfHere rest
all_behind [] rest all = all
all_behind (c ∷ before) rest all = all_behind before rest all.1

none_kept : (before rest : List Call) → list_any (λ (c : Call). c.is_here) before ≡ false → filter (λ (c : Call). c.is_here) (before ++ rest) ≡ filter (λ (c : Call). c.is_here) rest
none_kept [] rest none = refl
none_kept (c ∷ before) rest none = by_test (λ is. none_kept before rest is) c.is_here none where
  by_test : (list_any (λ (x : Call). x.is_here) before ≡ false → filter (λ (x : Call). x.is_here) (before ++ rest) ≡ filter (λ (x : Call). x.is_here) rest) → (b : Bool)
      → (b || list_any (λ (x : Call). x.is_here) before) ≡ false → cond b (c ∷ filter (λ (x : Call). x.is_here) (before ++ rest)) (filter (λ (x : Call). x.is_here) (before ++ rest)) ≡ filter (λ (x : Call). x.is_here) rest
  by_test later true is = absurd cc
  by_test later false is = later is

module _ (session : Session) (es : List Entry) (before middle behind : List Call) (first last : Call) (r : Recorded session es before middle behind first last) (few : FewInRow 0 (middle ++ last ∷ [])) where
  abbrev rest : List Call
  rest = middle ++ last ∷ behind

  abbrev here : Call → Bool
  here c = c.is_here

  from_first : (es : List Entry) → map (λ (e : Entry). e.mcnt) es ≡ first.made.item.mcnt ∷ map (λ (c : Call). c.made.item.mcnt) (filter here rest) → along_mine jumps None es ≡ lacking_from (Some 0) rest
  from_first [] is = absurd cc
  from_first (e ∷ es) is =
      let n = skipped before (first ∷ rest) 0 r.counted in
      let passing = all_behind before (first ∷ rest) r.passed in
      let passed_it : is_answer answer.Filtered first.made.answer ≡ false = not_true (is_answer answer.Filtered first.made.answer) (passing.0 r.first_here) in
      let same : e.mcnt ≡ first.made.item.mcnt = cc in
      let more : Mine es rest = cc in
      let later = after rest es (latest_of e) (n.0 + 1) 0 (subst (λ (f : Bool). AreCounted (cond {A = ℕ} f n.0 (n.0 + 1)) (map (λ (c : Call). c.made) rest)) passed_it n.1.1) passing.1 more (few_more middle behind last 0 r.none_behind few)
      (n.0, same ∙ n.1.0, omega arith) in
      omega (arith, later)

  pub missing_are : (totals_of session es).by_session ≡ counted (count_by is_lacking middle)
  missing_are =
      let own = filter (is_in session) es in
      let has : map (λ (e : Entry). e.mcnt) own ≡ first.made.item.mcnt ∷ map (λ (c : Call). c.made.item.mcnt) (filter here rest) =
      r.has ∙ ap (map (λ (c : Call). c.made.item.mcnt)) (none_kept before (first ∷ rest) r.none_before)
      ∙ ap (λ (b : Bool). map (λ (c : Call). c.made.item.mcnt) (cond b (first ∷ filter here rest) (filter here rest))) r.first_here in
      let all = mine jumps session [] es ∙ from_first own has ∙ counts middle behind last 0 r.last_here r.none_behind in
      ap counted (all ∙ omega arith)
