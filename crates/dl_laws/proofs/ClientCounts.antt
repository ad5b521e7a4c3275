-- In a well-formed journal the clients that are open and those that went are all that came.
use Rattle.std.proofs.Common.{◌≡◌, ◌≢◌, ℕ, zero, suc, ◌+◌, ◌<◌, ◌≤◌, Bool, true, false, cond, eqb, List, [], ◌∷◌, ◌++◌, refl, sym, ap, subst, ◌∙◌, append_assoc, arith, inl, inr}
use Rattle.std.specs.Prelude.{count_by, ◌⊎◌}
use Rattle.std.specs.List.{range_with_len}
use Rattle.std.proofs.lemmas.Bool.{eq-eqb, ne_eqb, cases_lt}
use Rattle.std.proofs.lemmas.Bool.Decides.{eqb_tells}
use Rattle.std.proofs.lemmas.List.{append-nil}
use Rattle.dl_events.specs.declared.event.Event.{Event}
use Rattle.dl_events.specs.declared.event.Event.TheVariants as event
use Rattle.dl_model.specs.Setting.{Setting}
use Rattle.dl_model.specs.Frames.{FrameSource}
use Rattle.dl_model.specs.ClientStream.{traffic}
use Rattle.dl_model.specs.Traffic as t
use Rattle.dl_model.specs.Journal.{is_connect, is_close, comes_or_goes, IsOpen, IsWellFormed}
use Rattle.dl_model.proofs.Lists.{count_by-append}
use Rattle.dl_laws.specs.ClientParts.{open_count}
use Rattle.dl_laws.proofs.ClientStays.{AllSpeak, Speaks, all_speak, came_more, closed_on, first_speak, none_above, none_open, opened, opened-one, opened_is, second_speak}
use Rattle.dl_laws.proofs.JournalStreams.{open_same}

-- ---- how many numbers of a range pass

abbrev one_if : Bool → ℕ
one_if b = cond b 1 0

one_by : (p : ℕ → Bool) (first n : ℕ) → count_by p (range_with_len first (suc n)) ≡ cond (p first) 1 0 + count_by p (range_with_len (first + 1) n)
one_by p first n = omega (arith, count_by-append p (first ∷ []) (range_with_len (first + 1) n))

-- as many, where the tests are the same for each
same_counts : (p q : ℕ → Bool) (first n : ℕ) → ((k : ℕ) → first ≤ k → k < first + n → p k ≡ q k) → count_by p (range_with_len first n) ≡ count_by q (range_with_len first n)
same_counts p q first zero same = refl
same_counts p q first (suc n) same =
    let here : ◌≡◌ {A = ℕ} (cond (p first) 1 0) (cond (q first) 1 0) = ap one_if (same first (omega arith) (omega arith)) in
    let later = same_counts p q (first + 1) n (λ k above below. same k (omega (arith, above)) (omega (arith, below))) in
    omega (arith, one_by p first n, one_by q first n, here, later)

-- one more at the end
last_counts : (p : ℕ → Bool) (first n last : ℕ) → last ≡ first + n → count_by p (range_with_len first (suc n)) ≡ count_by p (range_with_len first n) + cond (p last) 1 0
last_counts p first zero last is =
    let at_first : first ≡ last = omega (arith, is) in
    let here : ◌≡◌ {A = ℕ} (cond (p first) 1 0) (cond (p last) 1 0) = ap (λ (k : ℕ). one_if (p k)) at_first in
    omega (arith, one_by p first 0, here)
last_counts p first (suc n) last is =
    omega (arith, one_by p first (suc n), one_by p first n, last_counts p (first + 1) n last (omega (arith, is)))

-- one less, where one number passes no more
one_less : (p q : ℕ → Bool) (first n one : ℕ) → first ≤ one → one < first + n → p one ≡ true → q one ≡ false → ((k : ℕ) → k ≢ one → q k ≡ p k)
    → count_by p (range_with_len first n) ≡ count_by q (range_with_len first n) + 1
one_less p q first zero one above below was is same = absurd (omega (arith, above, below))
one_less p q first (suc n) one above below was is same = by_place (eqb_tells first one) (λ past. one_less p q (first + 1) n one past (omega (arith, below)) was is same) where
  past_first : first ≢ one → (first < one) ⊎ (one ≤ first) → first + 1 ≤ one
  past_first apart (inl lt) = omega (arith, lt)
  past_first apart (inr le) = absurd (apart (omega (arith, le, above)))

  by_place : ((eqb first one ≡ true) × (first ≡ one)) ⊎ ((eqb first one ≡ false) × (first ≢ one))
      → (first + 1 ≤ one → count_by p (range_with_len (first + 1) n) ≡ count_by q (range_with_len (first + 1) n) + 1)
      → count_by p (range_with_len first (suc n)) ≡ count_by q (range_with_len first (suc n)) + 1
  by_place (inl here) later =
      let first_p : ◌≡◌ {A = ℕ} (cond (p first) 1 0) 1 = ap one_if (ap p here.1 ∙ was) in
      let first_q : ◌≡◌ {A = ℕ} (cond (q first) 1 0) 0 = ap one_if (ap q here.1 ∙ is) in
      let rest = same_counts p q (first + 1) n (λ k above_k below_k. sym (same k (λ at_one. omega (arith, at_one, here.1, above_k)))) in
      omega (arith, one_by p first n, one_by q first n, first_p, first_q, rest)
  by_place (inr there) later =
      let both : ◌≡◌ {A = ℕ} (cond (p first) 1 0) (cond (q first) 1 0) = ap one_if (sym (same first there.1)) in
      omega (arith, one_by p first n, one_by q first n, both, later (past_first there.1 (cases_lt first one)))

-- ---- one event more

-- how many are open
abbrev opened_count : List Event → ℕ
opened_count events = count_by (λ client. opened client events) (range_with_len 1 (count_by is_connect events))

abbrev IsAll : List Event → Type 0
IsAll events = opened_count events + count_by is_close events ≡ count_by is_connect events

gone_more : (before : List Event) (e : Event) → count_by is_close (before ++ e ∷ []) ≡ count_by is_close before + cond (is_close e) 1 0
gone_more before e = omega (arith, count_by-append is_close before (e ∷ []))

-- an open client is one of those that came
within : (before : List Event) → AllSpeak [] before → (client : ℕ) → IsOpen client before → (1 ≤ client) × (client ≤ count_by is_connect before)
within before all client is = (some (cases_lt 0 client), at_most (cases_lt (count_by is_connect before) client)) where
  some : (0 < client) ⊎ (client ≤ 0) → 1 ≤ client
  some (inl lt) = omega (arith, lt)
  some (inr none) =
      let zero_is : client ≡ 0 = omega (arith, none) in
      let shut = (closed_on 0 [] before all (omega arith) refl).1 in
      absurd (let bad : true ≡ false = sym (opened_is client before is) ∙ ap (λ (c : ℕ). opened c before) zero_is ∙ shut in cc)

  at_most : (count_by is_connect before < client) ⊎ (client ≤ count_by is_connect before) → client ≤ count_by is_connect before
  at_most (inl lt) = absurd (none_open client before (none_above [] before (λ c above. refl) all client lt) is)
  at_most (inr le) = le

-- one by which nobody comes or goes
quiet_one : (before : List Event) (e : Event) → is_connect e ≡ false → is_close e ≡ false → ((client : ℕ) → comes_or_goes client e ≡ false) → IsAll before → IsAll (before ++ e ∷ [])
quiet_one before e none_comes none_goes quiet is =
    let came : count_by is_connect (before ++ e ∷ []) ≡ count_by is_connect before = omega (arith, came_more before e, ap one_if none_comes) in
    let gone : count_by is_close (before ++ e ∷ []) ≡ count_by is_close before = omega (arith, gone_more before e, ap one_if none_goes) in
    let same = same_counts (λ client. opened client (before ++ e ∷ [])) (λ client. opened client before) 1 (count_by is_connect before)
    (λ k above below. opened-one k before e ∙ ap (λ (b : Bool). cond b (is_connect e) (opened k before)) (quiet k)) in
    let range = ap (λ (n : ℕ). count_by (λ client. opened client (before ++ e ∷ [])) (range_with_len 1 n)) came in
    omega (arith, came, gone, same, range, is)

one_more : (before : List Event) (e : Event) → AllSpeak [] before → Speaks before e → IsAll before → IsAll (before ++ e ∷ [])
one_more before (event.Connect client) all says is =
    let e = event.Connect client in
    let came : count_by is_connect (before ++ e ∷ []) ≡ suc (count_by is_connect before) = omega (arith, came_more before e) in
    let gone : count_by is_close (before ++ e ∷ []) ≡ count_by is_close before = omega (arith, gone_more before e) in
    let range = ap (λ (n : ℕ). count_by (λ c. opened c (before ++ e ∷ [])) (range_with_len 1 n)) came in
    let itself : opened client (before ++ e ∷ []) ≡ true = opened-one client before e ∙ ap (λ (b : Bool). cond b true (opened client before)) (eq-eqb client client refl) in
    let others = same_counts (λ c. opened c (before ++ e ∷ [])) (λ c. opened c before) 1 (count_by is_connect before)
    (λ k above below. opened-one k before e ∙ ap (λ (b : Bool). cond b true (opened k before)) (ne_eqb client k (λ same. omega (arith, same, says, below)))) in
    let last = last_counts (λ c. opened c (before ++ e ∷ [])) 1 (count_by is_connect before) client says in
    let counts : ◌≡◌ {A = ℕ} (cond (opened client (before ++ e ∷ [])) 1 0) 1 = ap one_if itself in
    omega (arith, came, gone, range, others, last, counts, is)
one_more before (event.Close client cause) all says is =
    let e = event.Close client cause in
    let at = within before all client says in
    let came : count_by is_connect (before ++ e ∷ []) ≡ count_by is_connect before = omega (arith, came_more before e) in
    let gone : count_by is_close (before ++ e ∷ []) ≡ count_by is_close before + 1 = omega (arith, gone_more before e) in
    let range = ap (λ (n : ℕ). count_by (λ c. opened c (before ++ e ∷ [])) (range_with_len 1 n)) came in
    let itself : opened client (before ++ e ∷ []) ≡ false = opened-one client before e ∙ ap (λ (b : Bool). cond b false (opened client before)) (eq-eqb client client refl) in
    let less = one_less (λ c. opened c before) (λ c. opened c (before ++ e ∷ [])) 1 (count_by is_connect before) client at.0 (omega (arith, at.1)) (opened_is client before says) itself
    (λ k other. opened-one k before e ∙ ap (λ (b : Bool). cond b false (opened k before)) (ne_eqb client k (λ same. other (sym same)))) in
    omega (arith, came, gone, range, less, is)
one_more before (event.Log app writer call moment) all says is = quiet_one before (event.Log app writer call moment) refl refl (λ c. refl) is
one_more before (event.Lost app count moment) all says is = quiet_one before (event.Lost app count moment) refl refl (λ c. refl) is
one_more before (event.User channel msg moment) all says is = quiet_one before (event.User channel msg moment) refl refl (λ c. refl) is
one_more before (event.Claim claim moment) all says is = quiet_one before (event.Claim claim moment) refl refl (λ c. refl) is
one_more before (event.Level slot level) all says is = quiet_one before (event.Level slot level) refl refl (λ c. refl) is
one_more before (event.Request client frame answer) all says is = quiet_one before (event.Request client frame answer) refl refl (λ c. refl) is

-- ---- all events

all_counted : (before events : List Event) → AllSpeak [] (before ++ events) → IsAll before → IsAll (before ++ events)
all_counted before [] all is = subst IsAll (sym (append-nil before)) is
all_counted before (e ∷ events) all is =
    let says : Speaks before e = (second_speak [] before (e ∷ events) all).0 in
    let later = all_counted (before ++ e ∷ []) events (subst (AllSpeak []) (sym (append_assoc before (e ∷ []) events)) all)
    (one_more before e (first_speak [] before (e ∷ events) all) says is) in
    subst IsAll (append_assoc before (e ∷ []) events) later

pub open_and_gone : (setting : Setting) (source : FrameSource) (events : List Event) → IsWellFormed setting source events → open_count source events + count_by is_close events ≡ count_by is_connect events
open_and_gone setting source events formed =
    let all : IsAll events = all_counted [] events (all_speak setting source [] events formed) refl in
    let same = same_counts (λ client. t.is_open client (traffic source events)) (λ client. opened client events) 1 (count_by is_connect events) (λ k above below. open_same source k events) in
    omega (arith, all, same)
