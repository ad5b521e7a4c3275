-- What one message more changes of each count.
use Rattle.std.proofs.Common.{◌≡◌, ℕ, ◌+◌, Bool, true, false, cond, eqb, List, [], ◌∷◌, ◌++◌, Option, Some, None, refl, sym, ap, ◌∙◌, arith, rules}
use Rattle.std.specs.Prelude.{count_by, find, sum, unwrap_or, is_none, is_some, not, ◌&&◌}
use Rattle.std.specs.Option.{option_map, option_or}
use Rattle.std.specs.Str.{bytes_eq}
use Rattle.std.proofs.lemmas.Bool.{eq-eqb, eqb-true}
use Rattle.std.proofs.lemmas.List.Folds.{find-append}
use Rattle.std.proofs.lemmas.List.Sums.{sum_by-append}
use Rattle.dl_lemmas.proofs.Bools.{both, both_true}
use Rattle.dl_model.specs.Along.{last_that}
use Rattle.dl_model.proofs.Lists.{along-one, count_by-append, last_that-one}
use Rattle.dl_sessions.specs.declared.session.Context.{Context}
use Rattle.dl_sessions.specs.declared.session.Entry.{Entry}
use Rattle.dl_sessions.specs.declared.session.Latest.{Latest}
use Rattle.dl_sessions.specs.declared.session.Session.{Session}
use Rattle.dl_sessions.specs.declared.session.Source.{Source}
use Rattle.dl_sessions.specs.declared.session.Totals.{Totals}
use Rattle.dl_sessions.specs.Account.{gaps, no_totals, noted, totals_of}
use Rattle.dl_sessions.specs.Gaps.{context_counts, context_of, counted, gap_in_context, gap_in_session, is_in, is_of, latest, latest_of, open_in_context, open_in_session, same_context, same_session, same_source, session_counts, turn_of}

-- ---- counts

-- a count that stops goes on as the whole count does
pub goes_on : (n more : ℕ) → counted (n + more) ≡ counted (counted n + more)
goes_on n more = omega arith

pub stands : (n : ℕ) → counted n ≡ counted (counted n + 0)
stands n = omega arith

-- ---- entries of a list, and one more

pub latest-one : (test : Entry → Bool) (es : List Entry) (e : Entry) → latest test (es ++ e ∷ []) ≡ cond (test e) (Some (latest_of e)) (latest test es)
latest-one test es e = ap (option_map latest_of) (last_that-one test es e) ∙ by_test (test e) where
  by_test : (b : Bool) → option_map latest_of (cond b (Some e) (last_that test es)) ≡ cond b (Some (latest_of e)) (latest test es)
  by_test true = refl
  by_test false = refl

first-one : (test : Entry → Bool) (es : List Entry) (e : Entry) → option_map latest_of (find test (es ++ e ∷ [])) ≡ option_or (option_map latest_of (find test es)) (cond (test e) (Some (latest_of e)) None)
first-one test es e = ap (option_map latest_of) (find-append test es (e ∷ [])) ∙ by_both (find test es) (test e) where
  by_both : (o : Option Entry) (b : Bool) → option_map latest_of (option_or o (cond b (Some e) None)) ≡ option_or (option_map latest_of o) (cond b (Some (latest_of e)) None)
  by_both None true = refl
  by_both None false = refl
  by_both (Some x) b = refl

or_none : (o : Option Latest) → option_or o None ≡ o
or_none None = refl
or_none (Some x) = refl

count-one : (test : Entry → Bool) (es : List Entry) (e : Entry) → count_by test (es ++ e ∷ []) ≡ count_by test es + cond {A = ℕ} (test e) 1 0
count-one test es e = omega (arith, count_by-append test es (e ∷ []))

gaps-one : (missing : List Entry → Entry → ℕ) (session : Session) (es : List Entry) (e : Entry) → sum (gaps missing session (es ++ e ∷ [])) ≡ sum (gaps missing session es) + cond {A = ℕ} (is_in session e) (missing es e) 0
gaps-one missing session es e =
    ap sum (along-one (λ (before : List Entry) (x : Entry). cond (is_in session x) (missing before x ∷ []) []) es e) ∙ sum_by-append (λ (n : ℕ). n) (gaps missing session es) (cond (is_in session e) (missing es e ∷ []) [])
    ∙ by_test (is_in session e) where
      by_test : (b : Bool) → sum (gaps missing session es) + sum (cond b (missing es e ∷ []) []) ≡ sum (gaps missing session es) + cond {A = ℕ} b (missing es e) 0
      by_test true = omega arith
      by_test false = refl

-- ---- who is who

bytes_same : (xs ys : List ℕ) → bytes_eq xs ys ≡ true → xs ≡ ys
bytes_same xs ys e = search rules

bytes_self : (xs : List ℕ) → bytes_eq xs xs ≡ true
bytes_self xs = search rules

pub session_is : (a b : Session) → same_session a b ≡ true → a ≡ b
session_is a b e =
    let first = both (bytes_eq a.ecu b.ecu) (bytes_eq a.apid b.apid && eqb a.seid b.seid) e in
    let rest = both (bytes_eq a.apid b.apid) (eqb a.seid b.seid) first.1 in
    let p = bytes_same a.ecu b.ecu first.0 in
    let q = bytes_same a.apid b.apid rest.0 in
    let r = eqb-true a.seid b.seid rest.1 in
    λ i. record { ecu = p i; apid = q i; seid = r i }

pub source_self : (a : Source) → same_source a a ≡ true
source_self a = bytes_self a.apid

pub session_self : (a : Session) → same_session a a ≡ true
session_self a =
    both_true (bytes_eq a.ecu a.ecu) (bytes_eq a.apid a.apid && eqb a.seid a.seid) (bytes_self a.ecu) (both_true (bytes_eq a.apid a.apid) (eqb a.seid a.seid) (bytes_self a.apid) (eq-eqb a.seid a.seid refl))

-- ---- totals

-- a sum of the session that the message is of, and one of another
here_sum : (missing : List Entry → Entry → ℕ) (es : List Entry) (e : Entry) → counted (sum (gaps missing e.session (es ++ e ∷ []))) ≡ counted (counted (sum (gaps missing e.session es)) + missing es e)
here_sum missing es e =
    let s = e.session in
    ap counted (gaps-one missing s es e ∙ ap (λ (b : Bool). sum (gaps missing s es) + cond {A = ℕ} b (missing es e) 0) (session_self s)) ∙ goes_on (sum (gaps missing s es)) (missing es e)

elsewhere_sum : (missing : List Entry → Entry → ℕ) (session : Session) (es : List Entry) (e : Entry) → is_in session e ≡ false → counted (sum (gaps missing session (es ++ e ∷ []))) ≡ counted (sum (gaps missing session es))
elsewhere_sum missing s es e not =
    ap counted (gaps-one missing s es e ∙ ap (λ (b : Bool). sum (gaps missing s es) + cond {A = ℕ} b (missing es e) 0) not ∙ omega arith)

-- those of the session that the message is of
here : (es : List Entry) (e : Entry) → totals_of e.session (es ++ e ∷ []) ≡ noted (totals_of e.session es) e (turn_of es e)
here es e =
    let s = e.session in
    let is = session_self s in
    let p : counted (count_by (is_in s) (es ++ e ∷ [])) ≡ counted (counted (count_by (is_in s) es) + 1) =
    ap counted (count-one (is_in s) es e ∙ ap (λ (b : Bool). count_by (is_in s) es + cond {A = ℕ} b 1 0) is) ∙ goes_on (count_by (is_in s) es) 1 in
    let q = first-one (is_in s) es e ∙ ap (λ (b : Bool). option_or (option_map latest_of (find (is_in s) es)) (cond b (Some (latest_of e)) None)) is in
    let r = latest-one (is_in s) es e ∙ ap (λ (b : Bool). cond b (Some (latest_of e)) (latest (is_in s) es)) is in
    let u = here_sum gap_in_session es e in
    let v = here_sum gap_in_context es e in
    let w = here_sum session_counts es e in
    let x = here_sum context_counts es e in
    let y = here_sum open_in_session es e in
    let z = here_sum open_in_context es e in
    λ i. record { messages = p i; first = q i; last = r i; by_session = u i; by_context = v i; open_session = y i; open_context = z i; of_session = w i; of_context = x i }

-- those of another one
elsewhere : (session : Session) (es : List Entry) (e : Entry) → is_in session e ≡ false → totals_of session (es ++ e ∷ []) ≡ totals_of session es
elsewhere s es e not =
    let p : counted (count_by (is_in s) (es ++ e ∷ [])) ≡ counted (count_by (is_in s) es) =
    ap counted (count-one (is_in s) es e ∙ ap (λ (b : Bool). count_by (is_in s) es + cond {A = ℕ} b 1 0) not ∙ omega arith) in
    let q = first-one (is_in s) es e ∙ ap (λ (b : Bool). option_or (option_map latest_of (find (is_in s) es)) (cond b (Some (latest_of e)) None)) not ∙ or_none (option_map latest_of (find (is_in s) es)) in
    let r = latest-one (is_in s) es e ∙ ap (λ (b : Bool). cond b (Some (latest_of e)) (latest (is_in s) es)) not in
    let u = elsewhere_sum gap_in_session s es e not in
    let v = elsewhere_sum gap_in_context s es e not in
    let w = elsewhere_sum session_counts s es e not in
    let x = elsewhere_sum context_counts s es e not in
    let y = elsewhere_sum open_in_session s es e not in
    let z = elsewhere_sum open_in_context s es e not in
    λ i. record { messages = p i; first = q i; last = r i; by_session = u i; by_context = v i; open_session = y i; open_context = z i; of_session = w i; of_context = x i }

pub totals-one : (session : Session) (es : List Entry) (e : Entry) (old : Option Totals) → unwrap_or old no_totals ≡ totals_of session es →
    unwrap_or (cond (same_session e.session session) (Some (noted (totals_of e.session es) e (turn_of es e))) old) no_totals ≡ totals_of session (es ++ e ∷ [])
totals-one session es e old is = by_test (same_session e.session session) refl where
  by_test : (b : Bool) → same_session e.session session ≡ b → unwrap_or (cond b (Some (noted (totals_of e.session es) e (turn_of es e))) old) no_totals ≡ totals_of session (es ++ e ∷ [])
  by_test true same = sym (here es e) ∙ ap (λ (s : Session). totals_of s (es ++ e ∷ [])) (session_is e.session session same)
  by_test false apart = is ∙ sym (elsewhere session es e apart)

-- ---- what is kept, after a message was noted

pub contexts_kept : (old new : Context → Option Latest) (es : List Entry) (e : Entry) (kept : Latest) → ((c : Context) → new c ≡ cond (same_context (context_of e) c) (Some kept) (old c)) → kept ≡ latest_of e
    → ((c : Context) → old c ≡ latest (is_of c) es) → (c : Context) → new c ≡ latest (is_of c) (es ++ e ∷ [])
contexts_kept old new es e kept noted_so is keeps c =
    noted_so c ∙ ap (λ (k : Latest). cond (same_context (context_of e) c) (Some k) (old c)) is ∙ ap (cond (same_context (context_of e) c) (Some (latest_of e))) (keeps c)
    ∙ sym (latest-one (is_of c) es e)

pub totals_kept : (old new : Session → Option Totals) (es : List Entry) (e : Entry) (now : Totals) → ((s : Session) → new s ≡ cond (same_session e.session s) (Some now) (old s)) → now ≡ noted (totals_of e.session es) e (turn_of es e) →
    ((s : Session) → unwrap_or (old s) no_totals ≡ totals_of s es) → (s : Session) → unwrap_or (new s) no_totals ≡ totals_of s (es ++ e ∷ [])
totals_kept old new es e now noted_so is keeps s =
    ap (λ (o : Option Totals). unwrap_or o no_totals) (noted_so s ∙ ap (λ (t : Totals). cond (same_session e.session s) (Some t) (old s)) is) ∙ totals-one s es e (old s) (keeps s)

pub source_is : (a b : Source) → same_source a b ≡ true → a ≡ b
source_is a b e =
    let p = bytes_same a.apid b.apid e in
    λ i. record { apid = p i }

-- ---- an answer told the other way round

pub none_if : (b : Bool) (o : Option Latest) → not b ≡ is_some o → b ≡ is_none o
none_if true None e = refl
none_if false (Some n) e = refl
none_if true (Some n) e = absurd cc
none_if false None e = absurd cc
