-- The claims of a writer are announced in their order.
use Rattle.std.proofs.Common.{◌≡◌, ℕ, Bool, true, false, cond, eqb, List, [], ◌∷◌, ◌++◌, length, Option, Some, None, refl, sym, ap, subst, ◌∙◌, append_assoc, arith}
use Rattle.std.specs.Prelude.{slice_get}
use Rattle.std.specs.List.{filter, filter_map}
use Rattle.std.proofs.lemmas.List.{append-nil}
use Rattle.std.proofs.lemmas.List.Elements.{filter-append, filter_map-append}
use Rattle.std.proofs.lemmas.Option.{slice_get_past}
use Rattle.std.proofs.lemmas.Bool.{eqb-true}
use Rattle.dl_bytes.specs.Claim.{Claimed}
use Rattle.dl_model.specs.Setting.{Setting}
use Rattle.dl_script_model.specs.Marks.{Mark, HasClaim, Announced, claim_of, announced_of, claims_of, announced_by, to_announce}
use Rattle.dl_script_model.specs.Runs.{RestsOn, AreFounded}
use Rattle.dl_runs.proofs.RunLaws.{holds_after}

-- the first of a list, with those behind them
abbrev pub Leads : List Claimed → List Claimed → Type 0
Leads front all = (rest : List Claimed) × (all ≡ front ++ rest)

leads_still : (front all more : List Claimed) → Leads front all → Leads (front ++ []) (all ++ more)
leads_still front all more leads =
    (leads.0 ++ more, ap (λ (cs : List Claimed). cs ++ more) leads.1 ∙ append_assoc front leads.0 more ∙ ap (λ (cs : List Claimed). cs ++ (leads.0 ++ more)) (sym (append-nil front)))

at_seam : (front rest : List Claimed) (c : Claimed) → slice_get (front ++ c ∷ rest) (length front) ≡ Some c
at_seam [] rest c = refl
at_seam (x ∷ front) rest c = at_seam front rest c

same_claim : (c d : Claimed) → ◌≡◌ {A = Option Claimed} (Some c) (Some d) → c ≡ d
same_claim c d e = cc

leads_next : (front all : List Claimed) (c : Claimed) → Leads front all → slice_get all (length front) ≡ Some c → Leads (front ++ c ∷ []) (all ++ [])
leads_next front all c leads is = by_rest leads.0 leads.1 where
  by_rest : (rest : List Claimed) → all ≡ front ++ rest → Leads (front ++ c ∷ []) (all ++ [])
  by_rest [] e =
      let none : slice_get all (length front) ≡ None = ap (λ (cs : List Claimed). slice_get cs (length front)) (e ∙ append-nil front) ∙ slice_get_past front (length front) (omega arith) in
      absurd cc
  by_rest (d ∷ rest) e =
      let first : ◌≡◌ {A = Option Claimed} (Some d) (Some c) = sym (at_seam front rest d) ∙ ap (λ (cs : List Claimed). slice_get cs (length front)) (sym e) ∙ is in
      (rest, append-nil all ∙ e ∙ ap (λ (x : Claimed). front ++ x ∷ rest) (same_claim d c first) ∙ sym (append_assoc front (c ∷ []) rest))

abbrev AllLead : List Mark → Type 0
AllLead done = (writer : ℕ) → Leads (announced_by writer done) (claims_of writer done)

-- those of a writer among the claims of a mark
abbrev made_in : ℕ → Mark → List Claimed
made_in writer mark = filter (λ (c : Claimed). eqb c.writer writer) (filter_map claim_of (mark ∷ []))

abbrev announced_in : ℕ → Mark → List Claimed
announced_in writer mark = filter (λ (c : Claimed). eqb c.writer writer) (filter_map announced_of (mark ∷ []))

leads_by : (setting : Setting) (writer : ℕ) (done : List Mark) (mark : Mark) → RestsOn setting done mark → Leads (announced_by writer done) (claims_of writer done)
    → Leads (announced_by writer done ++ announced_in writer mark) (claims_of writer done ++ made_in writer mark)
leads_by setting writer done (HasClaim c) rests leads = leads_still (announced_by writer done) (claims_of writer done) (made_in writer (HasClaim c)) leads
leads_by setting writer done (Announced c) rests leads = by_test (eqb c.writer writer) refl where
  by_test : (b : Bool) → eqb c.writer writer ≡ b → Leads (announced_by writer done ++ cond b (c ∷ []) []) (claims_of writer done ++ [])
  by_test true e =
      leads_next (announced_by writer done) (claims_of writer done) c leads (subst (λ (w : ℕ). to_announce w done ≡ Some c) (eqb-true c.writer writer e) rests.0)
  by_test false e = leads_still (announced_by writer done) (claims_of writer done) [] leads
leads_by setting writer done _ rests leads = leads_still (announced_by writer done) (claims_of writer done) [] leads

leads_on : (setting : Setting) (done : List Mark) (mark : Mark) → AllLead done → RestsOn setting done mark → AllLead (done ++ mark ∷ [])
leads_on setting done mark all rests writer =
    let p = λ (c : Claimed). eqb c.writer writer in
    let front : announced_by writer (done ++ mark ∷ []) ≡ announced_by writer done ++ announced_in writer mark =
    ap (filter p) (filter_map-append announced_of done (mark ∷ [])) ∙ filter-append p (filter_map announced_of done) (filter_map announced_of (mark ∷ [])) in
    let made : claims_of writer (done ++ mark ∷ []) ≡ claims_of writer done ++ made_in writer mark =
    ap (filter p) (filter_map-append claim_of done (mark ∷ [])) ∙ filter-append p (filter_map claim_of done) (filter_map claim_of (mark ∷ [])) in
    subst (λ (cs : List Claimed). Leads cs (claims_of writer (done ++ mark ∷ []))) (sym front)
    (subst (Leads (announced_by writer done ++ announced_in writer mark)) (sym made) (leads_by setting writer done mark rests (all writer)))

pub announced_first : (setting : Setting) (marks : List Mark) → AreFounded setting [] marks → (writer : ℕ) → Leads (announced_by writer marks) (claims_of writer marks)
announced_first setting marks founded = holds_after setting AllLead (leads_on setting) [] marks (λ writer. ([], refl)) founded
