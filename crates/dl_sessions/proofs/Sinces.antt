-- What one message more changes of what came since a context's last account.
use Rattle.std.proofs.Common.{◌≡◌, ℕ, ◌+◌, Bool, true, false, cond, eqb, List, [], ◌∷◌, ◌++◌, length, Option, Some, None, refl, sym, ap, subst, ◌∙◌, arith, rules}
use Rattle.std.specs.Prelude.{count_by, sum, unwrap_or, ◌&&◌}
use Rattle.std.specs.List.{after_last, filter_map}
use Rattle.std.specs.Option.{option_map_or}
use Rattle.std.specs.Str.{bytes_eq}
use Rattle.std.proofs.lemmas.Bool.{eqb-true}
use Rattle.std.proofs.lemmas.List.{append-nil}
use Rattle.std.proofs.lemmas.List.Elements.{filter_map-append}
use Rattle.std.proofs.lemmas.List.Sums.{sum_by-append}
use Rattle.dl_lemmas.proofs.Bools.{both}
use Rattle.dl_model.proofs.Presence.{after_last-push}
use Rattle.dl_model.proofs.Lists.{along-one, count_by-append}
use Rattle.dl_sessions.specs.Calls.{calls_in}
use Rattle.dl_sessions.specs.declared.session.Calls.{Calls}
use Rattle.dl_sessions.specs.declared.session.Context.{Context}
use Rattle.dl_sessions.specs.declared.session.Entry.{Entry}
use Rattle.dl_sessions.specs.declared.session.Latest.{Latest}
use Rattle.dl_sessions.specs.declared.session.Since.{Since}
use Rattle.dl_sessions.specs.declared.session.Told.{Told}
use Rattle.dl_sessions.specs.declared.session.Told.TheVariants as told
use Rattle.dl_sessions.specs.Gaps.{context_of, counted, entries, entry_of, gap, is_of, latest, latest_of, same_context}
use Rattle.dl_sessions.specs.Ledger.{about, gaps_of, is_about, no_since, since, since_of, with_account, with_message}
use Rattle.dl_sessions.proofs.OneMore.{goes_on, latest-one, stands}

-- ---- who is who

bytes_same : (xs ys : List ℕ) → bytes_eq xs ys ≡ true → xs ≡ ys
bytes_same xs ys e = search rules

context_is : (a b : Context) → same_context a b ≡ true → a ≡ b
context_is a b e =
    let first = both (bytes_eq a.ecu b.ecu) (bytes_eq a.apid b.apid && (eqb a.seid b.seid && bytes_eq a.ctid b.ctid)) e in
    let second = both (bytes_eq a.apid b.apid) (eqb a.seid b.seid && bytes_eq a.ctid b.ctid) first.1 in
    let third = both (eqb a.seid b.seid) (bytes_eq a.ctid b.ctid) second.1 in
    let p = bytes_same a.ecu b.ecu first.0 in
    let q = bytes_same a.apid b.apid second.0 in
    let r = eqb-true a.seid b.seid third.0 in
    let s = bytes_same a.ctid b.ctid third.1 in
    λ i. record { ecu = p i; apid = q i; seid = r i; ctid = s i }

-- ---- one message more

count-one : (test : Entry → Bool) (es : List Entry) (e : Entry) → counted (count_by test (es ++ e ∷ [])) ≡ counted (counted (count_by test es) + cond {A = ℕ} (test e) 1 0)
count-one test es e =
    let one : count_by test (es ++ e ∷ []) ≡ count_by test es + cond {A = ℕ} (test e) 1 0 = omega (arith, count_by-append test es (e ∷ [])) in
    ap counted one ∙ goes_on (count_by test es) (cond {A = ℕ} (test e) 1 0)

gaps-one : (c : Context) (es : List Entry) (e : Entry) → counted (sum (gaps_of c (es ++ e ∷ []))) ≡ counted (counted (sum (gaps_of c es)) + cond {A = ℕ} (is_of c e) (gap (latest (is_of c) es) e) 0)
gaps-one c es e =
    ap counted (ap sum (along-one (λ (before : List Entry) (x : Entry). cond (is_of c x) (gap (latest (is_of c) before) x ∷ []) []) es e)
    ∙ sum_by-append (λ (n : ℕ). n) (gaps_of c es) (cond (is_of c e) (gap (latest (is_of c) es) e ∷ []) []) ∙ by_test (is_of c e))
    ∙ goes_on (sum (gaps_of c es)) (cond {A = ℕ} (is_of c e) (gap (latest (is_of c) es) e) 0) where
      by_test : (b : Bool) → sum (gaps_of c es) + sum (cond b (gap (latest (is_of c) es) e ∷ []) []) ≡ sum (gaps_of c es) + cond {A = ℕ} b (gap (latest (is_of c) es) e) 0
      by_test true = omega arith
      by_test false = refl

-- what is kept of a list of messages that all came since an account
abbrev over : Context → ℕ → List Entry → Since
over c accounts es = record { accounts = accounts; messages = counted (count_by (is_of c) es); missing = counted (sum (gaps_of c es)); last = latest (is_of c) es }

-- one more that isn't an account
abbrev grown : Bool → Since → Entry → Since
grown b s e = cond b (with_message s e) s

abbrev each : Context → ℕ → List Entry → Entry → Bool → Since
each c accounts es e b = record {
  accounts = accounts;
  messages = counted (counted (count_by (is_of c) es) + cond {A = ℕ} b 1 0);
  missing = counted (counted (sum (gaps_of c es)) + cond {A = ℕ} b (gap (latest (is_of c) es) e) 0);
  last = cond b (Some (latest_of e)) (latest (is_of c) es);
}

over-one : (c : Context) (accounts : ℕ) (es : List Entry) (e : Entry) → over c accounts (es ++ e ∷ []) ≡ grown (is_of c e) (over c accounts es) e
over-one c accounts es e = parts ∙ by_test (is_of c e) where
  parts : over c accounts (es ++ e ∷ []) ≡ each c accounts es e (is_of c e)
  parts =
      let p = count-one (is_of c) es e in
      let q = gaps-one c es e in
      let r = latest-one (is_of c) es e in
      λ i. record { accounts = accounts; messages = p i; missing = q i; last = r i }

  by_test : (b : Bool) → each c accounts es e b ≡ grown b (over c accounts es) e
  by_test true = refl
  by_test false =
      let p = sym (stands (count_by (is_of c) es)) in
      let q = sym (stands (sum (gaps_of c es))) in
      λ i. record { accounts = accounts; messages = p i; missing = q i; last = latest (is_of c) es }

-- an account, or another message
abbrev stepped : Bool → Bool → Since → Entry → Since
stepped b own s e = cond b (with_account s) (grown own s e)

pub since-one : (c : Context) (es : List Entry) (e : Entry) → since_of c (es ++ e ∷ []) ≡ stepped (is_about c e) (is_of c e) (since_of c es) e
since-one c es e =
    ap (λ (n : ℕ). over c n (since c (es ++ e ∷ []))) (count-one (is_about c) es e)
    ∙ ap (over c (counted (counted (count_by (is_about c) es) + cond {A = ℕ} (is_about c e) 1 0))) (after_last-push (is_about c) es e) ∙ by_test (is_about c e) where
      by_test : (b : Bool) → over c (counted (counted (count_by (is_about c) es) + cond {A = ℕ} b 1 0)) (cond b [] (since c es ++ e ∷ [])) ≡ stepped b (is_of c e) (since_of c es) e
      by_test true = refl
      by_test false =
          ap (λ (n : ℕ). over c n (since c es ++ e ∷ [])) (sym (stands (count_by (is_about c) es)))
          ∙ over-one c (counted (count_by (is_about c) es)) (since c es) e

-- ---- what is kept

module _ (old : Context → Option Since) (es : List Entry) (e : Entry) (keeps : (c : Context) → unwrap_or (old c) no_since ≡ since_of c es) where
  -- what a message leaves, for a context about which it is no account
  one_message : (c : Context) (now : Since) → now ≡ with_message (since_of (context_of e) es) e → is_about c e ≡ false
      → unwrap_or (cond (same_context (context_of e) c) (Some now) (old c)) no_since ≡ since_of c (es ++ e ∷ [])
  one_message c now is other = by_test (same_context (context_of e) c) refl ∙ sym (since-one c es e ∙ ap (λ (b : Bool). stepped b (is_of c e) (since_of c es) e) other) where
    by_test : (b : Bool) → same_context (context_of e) c ≡ b → unwrap_or (cond b (Some now) (old c)) no_since ≡ grown b (since_of c es) e
    by_test true same = is ∙ ap (λ (x : Context). with_message (since_of x es) e) (context_is (context_of e) c same)
    by_test false apart = keeps c

  pub message_kept : (new : Context → Option Since) (now : Since) → ((c : Context) → new c ≡ cond (same_context (context_of e) c) (Some now) (old c)) → now ≡ with_message (since_of (context_of e) es) e
      → calls_in e.calls ≡ None → (c : Context) → unwrap_or (new c) no_since ≡ since_of c (es ++ e ∷ [])
  message_kept new now noted_so is none c =
      ap (λ (o : Option Since). unwrap_or o no_since) (noted_so c)
      ∙ one_message c now is (ap (λ (o : Option Calls). option_map_or (λ calls. same_context (about e calls) c) o false) none)

  pub account_kept : (calls : Calls) (mid new : Context → Option Since) (now told_now : Since) → calls_in e.calls ≡ Some calls →
      ((c : Context) → mid c ≡ cond (same_context (context_of e) c) (Some now) (old c)) → now ≡ with_message (since_of (context_of e) es) e →
      ((c : Context) → new c ≡ cond (same_context (about e calls) c) (Some told_now) (mid c)) → told_now ≡ with_account (since_of (about e calls) es) →
      (c : Context) → unwrap_or (new c) no_since ≡ since_of c (es ++ e ∷ [])
  account_kept calls mid new now told_now some noted_so is told_so told_is c =
      ap (λ (o : Option Since). unwrap_or o no_since) (told_so c) ∙ by_test (same_context (about e calls) c) refl where
        tells : is_about c e ≡ same_context (about e calls) c
        tells = ap (λ (o : Option Calls). option_map_or (λ k. same_context (about e k) c) o false) some

        by_test : (b : Bool) → same_context (about e calls) c ≡ b → unwrap_or (cond b (Some told_now) (mid c)) no_since ≡ since_of c (es ++ e ∷ [])
        by_test true same =
            told_is ∙ ap (λ (x : Context). with_account (since_of x es)) (context_is (about e calls) c same)
            ∙ sym (since-one c es e ∙ ap (λ (b : Bool). stepped b (is_of c e) (since_of c es) e) (tells ∙ same))
        by_test false apart = ap (λ (o : Option Since). unwrap_or o no_since) (noted_so c) ∙ one_message c now is (tells ∙ apart)
