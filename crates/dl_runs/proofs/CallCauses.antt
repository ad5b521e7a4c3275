-- Each recorded call has one cause, and message counters tell how many calls a hole has.
use Rattle.std.proofs.Common.{◌≡◌, ℕ, ◌+◌, Bool, true, false, cond, eqb, leb, List, [], ◌∷◌, ◌++◌, length, Option, Some, None, refl, sym, ap, subst, ◌∙◌, append_assoc, arith, inl, inr}
use Rattle.std.specs.Prelude.{count_by, not, ◌||◌}
use Rattle.std.specs.List.{list_any, filter, AllByRecursion}
use Rattle.std.proofs.lemmas.Bool.{eq-eqb, or_parts}
use Rattle.std.proofs.lemmas.List.{append-nil}
use Rattle.std.proofs.lemmas.List.Folds.{list_any-append}
use Rattle.std.proofs.lemmas.List.Sums.{sum_by-cons}
use Rattle.dl_lemmas.proofs.Lists.{all_here}
use Rattle.dl_bytes.specs.Claim.{Claimed}
use Rattle.dl_bytes.specs.Level.{passes}
use Rattle.dl_bytes.specs.declared.outcome.Done.{Done}
use Rattle.dl_events.specs.declared.event.Event.{Event}
use Rattle.dl_events.specs.declared.event.Event.TheVariants as event
use Rattle.dl_events.specs.declared.record.Record.{Record}
use Rattle.dl_events.specs.declared.record.Answer.{Answer}
use Rattle.dl_events.specs.declared.record.Answer.TheVariants as answer
use Rattle.dl_script_model.specs.declared.step.Step.{Step}
use Rattle.dl_model.specs.Accounts.{IsExact, AreTold, of_writer, order, with_answer, claims, claimed_by}
use Rattle.dl_model.specs.Setting.{Setting}
use Rattle.dl_model.specs.Journal.{IsWellFormed}
use Rattle.dl_model.specs.Frames.{FrameSource}
use Rattle.dl_script_model.specs.Marks.{Mark, journal, pending, records, records_of, announced_by}
use Rattle.dl_script_model.specs.Replay.{source_of}
use Rattle.dl_model.specs.Report.{is_answer, records_of_app, reported}
use Rattle.dl_script_model.specs.Steps.{after_lines, run}
use Rattle.dl_model.specs.Traffic as t
use Rattle.dl_model.specs.Traffic.{is_any_open}
use Rattle.dl_model.specs.Backlog.{size_of, waiting}
use Rattle.dl_model.specs.ClientStream.{traffic, stream}
use Rattle.dl_model.specs.WholeAccounts.{IsAccounted, IsOwned, IsOwnedSoFar, records_by, claims_by}
use Rattle.dl_runs.proofs.Founded.{lines_founded, run_founded}
use Rattle.dl_laws.specs.Fates.{Fate, InRing, InStream, BufferFull, ForOthers, next_client, kept, of_frame, logs, of_queued, by_answer, what_became_of}
use Rattle.dl_runs.specs.Causes.{is_filtered, is_ring_full, is_admitted, HasOneCause, HaveCauses, HaveMetFullRings, full_ones}
use Rattle.dl_laws.specs.PresentClaims.{ClaimsArePresent}
use Rattle.dl_runs.specs.RunRecords.{MetFullRing, refusals_of}
use Rattle.dl_runs.proofs.AccountRuns.{owned_so_far, told_so_far}
use Rattle.dl_runs.proofs.AccountWhole.{run_accounted}
use Rattle.dl_runs.proofs.CallFates.{IsLogged, Searched, searched, says}
use Rattle.dl_runs.proofs.CallPlaces.{Rising, has, alone, numbers_logged, logs_number, counted_none, counted_one, number_here, all_logged, queued_numbers, logged_queued, queued_rise, queued_here, not_logged}
use Rattle.dl_laws.proofs.ClientStays.{true_not_false}
use Rattle.dl_runs.proofs.FullRings.{lost_met}
use Rattle.dl_runs.proofs.RightRuns.{lines_right, run_right}
use Rattle.dl_runs.proofs.WellFormed.{lines_well_formed, run_well_formed}

-- ---- all of a list

pub all_places : {A : Type 0} (P : A → Type 0) (front xs : List A) → ((before : List A) (x : A) (after : List A) → front ++ xs ≡ before ++ x ∷ after → P x) → AllByRecursion P xs
all_places P front [] each = tt
all_places P front (x ∷ xs) each =
    (each front x xs refl, all_places P (front ++ x ∷ []) xs (λ before y after is. each before y after (sym (append_assoc front (x ∷ []) xs) ∙ is)))

-- ---- what a queued call is not

-- it was not filtered, its ring wasn't full
abbrev IsPlain : Fate → Type 0
IsPlain f = (is_filtered f ≡ false) × (is_ring_full f ≡ false)

kept_plain : (client place : ℕ) (next : Option ℕ) → IsPlain (kept client place next) × (is_admitted (kept client place next) ≡ true)
kept_plain client place None = ((refl, refl), refl)
kept_plain client place (Some n) = by_test (eqb n client) where
  by_test : (b : Bool) → IsPlain (cond b (InStream place) ForOthers) × (is_admitted (cond b (InStream place) ForOthers) ≡ true)
  by_test true = ((refl, refl), refl)
  by_test false = ((refl, refl), refl)

frame_plain : (a b c : Bool) (n client place : ℕ) (next : Option ℕ) → IsPlain (cond a (InStream n) (cond b ForOthers (cond c (kept client place next) (BufferFull next))))
    × (is_admitted (cond a (InStream n) (cond b ForOthers (cond c (kept client place next) (BufferFull next)))) ≡ true)
frame_plain true b c n client place next = ((refl, refl), refl)
frame_plain false true c n client place next = ((refl, refl), refl)
frame_plain false false true n client place next = kept_plain client place next
frame_plain false false false n client place next = ((refl, refl), refl)

of_frame_plain : (source : FrameSource) (buffer client : ℕ) (before : List Event) (frame : List ℕ) (after : List Event) →
    IsPlain (of_frame source buffer client before frame after) × (is_admitted (of_frame source buffer client before frame after) ≡ true)
of_frame_plain source buffer client before frame after =
    let ts = traffic source before in
    frame_plain (t.is_open client ts) (is_any_open ts) (leb (size_of (waiting ts ++ frame ∷ [])) buffer) (length (stream source buffer client before)) client (length (waiting ts)) (next_client after)

queued_plain : (source : FrameSource) (buffer client writer call : ℕ) (before events : List Event) → IsPlain (of_queued source buffer client writer call before events)
queued_plain source buffer client writer call before [] = (refl, refl)
queued_plain source buffer client writer call before (e ∷ events) = by_test (logs writer call e) (queued_plain source buffer client writer call (before ++ e ∷ []) events) where
  by_test : (b : Bool) → IsPlain (of_queued source buffer client writer call (before ++ e ∷ []) events) →
      IsPlain (cond b (of_frame source buffer client before (source.frame writer call) events) (of_queued source buffer client writer call (before ++ e ∷ []) events))
  by_test true later = (of_frame_plain source buffer client before (source.frame writer call) events).0
  by_test false later = later

by_filtered : (a : Answer) (f : Fate) → IsPlain f → is_filtered (by_answer a f) ≡ is_answer answer.Filtered a
by_filtered answer.Filtered f plain = refl
by_filtered answer.Lost f plain = refl
by_filtered answer.Queued f plain = plain.0

by_ring : (a : Answer) (f : Fate) → IsPlain f → is_ring_full (by_answer a f) ≡ is_answer answer.Lost a
by_ring answer.Filtered f plain = refl
by_ring answer.Lost f plain = refl
by_ring answer.Queued f plain = plain.1

-- ---- one cause

module _ (setting : Setting) (source : FrameSource) (buffer client first writer refusals : ℕ) (pushed : List Claimed) (events : List Event) (formed : IsWellFormed setting source events) where
  abbrev fate : Record → Fate
  fate r = what_became_of source buffer client events r

  module _ (earlier : List Record) (r : Record) (later : List Record) (owned : IsOwnedSoFar first events writer refusals pushed (earlier ++ r ∷ later)) where
    abbrev rs : List Record
    rs = earlier ++ r ∷ later

    exact : IsExact first events r
    exact = all_here (IsExact first events) earlier r later owned.account.exact

    its_writer : r.item.writer ≡ writer
    its_writer = all_here (λ (x : Record). x.item.writer ≡ writer) earlier r later owned.belongs.by_writer

    plain : IsPlain (of_queued source buffer client r.item.writer r.item.call [] events)
    plain = queued_plain source buffer client r.item.writer r.item.call [] events

    level : is_filtered (fate r) ≡ not (passes r.item.severity r.held)
    level = by_filtered r.answer (of_queued source buffer client r.item.writer r.item.call [] events) plain ∙ exact.filtered

    none_counted : is_answer answer.Queued r.answer ≡ false → count_by (logs r.item.writer r.item.call) events ≡ 0
    none_counted is =
        counted_none r.item.writer r.item.call events
        (subst (λ (w : ℕ). list_any (logs w r.item.call) events ≡ false) (sym its_writer) (not_logged first events writer refusals pushed earlier later r owned is))

    rest_silent : (l : IsLogged r.item.writer r.item.call events) → r.answer ≡ answer.Queued → list_any (logs r.item.writer r.item.call) l.after ≡ false
    rest_silent l is =
        let n = r.item.call in
        let logged = logged_queued first events writer refusals pushed rs owned in
        let here : numbers_logged writer events ≡ numbers_logged writer l.before ++ n ∷ numbers_logged writer l.after =
        ap (numbers_logged writer) l.place ∙ subst (λ (w : ℕ). numbers_logged writer (l.before ++ event.Log l.app w n l.moment ∷ l.after) ≡ numbers_logged writer l.before ++ n ∷ numbers_logged writer l.after) (sym its_writer)
        (number_here l.app writer n l.moment l.before l.after) in
        let all : queued_numbers rs ≡ numbers_logged writer l.before ++ n ∷ (numbers_logged writer l.after ++ logged.0) =
        sym logged.1 ∙ ap (λ (ns : List ℕ). ns ++ logged.0) here ∙ append_assoc (numbers_logged writer l.before) (n ∷ numbers_logged writer l.after) logged.0 in
        let once = alone 1 n (numbers_logged writer l.before) (numbers_logged writer l.after ++ logged.0) (subst (Rising 1) all (queued_rise first events writer refusals pushed rs owned)) in
        let parts : (has n (numbers_logged writer l.after) || has n logged.0) ≡ false = sym (list_any-append (λ m. eqb m n) (numbers_logged writer l.after) logged.0) ∙ once.2 in
        let none : list_any (logs writer n) l.after ≡ false = logs_number writer n l.after ∙ (or_parts (has n (numbers_logged writer l.after)) (has n logged.0) parts).0 in
        subst (λ (w : ℕ). list_any (logs w n) l.after ≡ false) (sym its_writer) none

    abbrev IsOnce : Type 0
    IsOnce = ◌≡◌ {A = ℕ} (count_by (logs r.item.writer r.item.call) events) (cond {A = ℕ} (is_admitted (fate r)) 1 0)

    of_answer : (a : Answer) → r.answer ≡ a → fate r ≡ by_answer a (of_queued source buffer client r.item.writer r.item.call [] events)
    of_answer a is = ap (λ (x : Answer). by_answer x (of_queued source buffer client r.item.writer r.item.call [] events)) is

    once_queued : r.answer ≡ answer.Queued → Searched source buffer r.item.writer r.item.call [] events → IsOnce
    once_queued is (inl f) =
        let l = f.logged in
        let there : is_admitted (fate r) ≡ true = ap is_admitted (of_answer answer.Queued is ∙ f.found client) ∙ (of_frame_plain source buffer client l.before (source.frame r.item.writer r.item.call) l.after).1 in
        ap (count_by (logs r.item.writer r.item.call)) l.place ∙ counted_one l.app r.item.writer r.item.call l.moment l.before l.after l.first (rest_silent l is)
        ∙ sym (ap (λ (b : Bool). cond {A = ℕ} b 1 0) there)
    once_queued is (inr none) =
        counted_none r.item.writer r.item.call events none.0 ∙ sym (ap (λ (f : Fate). cond {A = ℕ} (is_admitted f) 1 0) (of_answer answer.Queued is ∙ none.1 client))

    once_by : (a : Answer) → r.answer ≡ a → IsOnce
    once_by answer.Filtered is = none_counted (ap (is_answer answer.Queued) is) ∙ sym (ap (λ (f : Fate). cond {A = ℕ} (is_admitted f) 1 0) (of_answer answer.Filtered is))
    once_by answer.Lost is = none_counted (ap (is_answer answer.Queued) is) ∙ sym (ap (λ (f : Fate). cond {A = ℕ} (is_admitted f) 1 0) (of_answer answer.Lost is))
    once_by answer.Queued is = once_queued is (searched source buffer r.item.writer r.item.call [] events)

    cause : HasOneCause source buffer client events r
    cause = record { says = says setting source buffer client first events r formed exact; by_level = level; admitted = once_by r.answer refl }

  pub causes_are : (records : List Record) → IsOwnedSoFar first events writer refusals pushed records → AllByRecursion (HasOneCause source buffer client events) records
  causes_are records owned = all_places (HasOneCause source buffer client events) [] records (λ before r after is. cause before r after (subst (IsOwnedSoFar first events writer refusals pushed) is owned))

-- ---- those whose ring was full

ring_counted : (source : FrameSource) (buffer client : ℕ) (events : List Event) (records : List Record) →
    count_by (λ r. is_ring_full (what_became_of source buffer client events r)) records ≡ length (with_answer answer.Lost records)
ring_counted source buffer client events [] = refl
ring_counted source buffer client events (r ∷ records) =
    sum_by-cons (λ x. cond {A = ℕ} (is_ring_full (what_became_of source buffer client events x)) 1 0) r records
    ∙ ap (λ (b : Bool). cond {A = ℕ} b 1 0 + count_by (λ x. is_ring_full (what_became_of source buffer client events x)) records)
    (by_ring r.answer (of_queued source buffer client r.item.writer r.item.call [] events) (queued_plain source buffer client r.item.writer r.item.call [] events))
    ∙ by_test (is_answer answer.Lost r.answer) (ring_counted source buffer client events records) where
      by_test : (b : Bool) → count_by (λ x. is_ring_full (what_became_of source buffer client events x)) records ≡ length (with_answer answer.Lost records) →
          cond {A = ℕ} b 1 0 + count_by (λ x. is_ring_full (what_became_of source buffer client events x)) records ≡ length (cond b (r ∷ with_answer answer.Lost records) (with_answer answer.Lost records))
      by_test true later = omega (arith, later)
      by_test false later = omega (arith, later)

pub full_told : (source : FrameSource) (buffer client app pending : ℕ) (events : List Event) (records : List Record) → AreTold app events pending records →
    reported app events + pending ≡ count_by (λ r. is_ring_full (what_became_of source buffer client events r)) records
full_told source buffer client app pending events records told = told ∙ sym (ring_counted source buffer client events records)

full_met : (source : FrameSource) (buffer client : ℕ) (done : List Mark) (records : List Record) → AllByRecursion (MetFullRing done) (with_answer answer.Lost records) →
    AllByRecursion (λ r. is_ring_full (what_became_of source buffer client (journal done) r) ≡ true → MetFullRing done r) records
full_met source buffer client done [] all = tt
full_met source buffer client done (r ∷ records) all = by_test (is_answer answer.Lost r.answer) refl all (full_met source buffer client done records) where
  same : is_ring_full (what_became_of source buffer client (journal done) r) ≡ is_answer answer.Lost r.answer
  same = by_ring r.answer (of_queued source buffer client r.item.writer r.item.call [] (journal done)) (queued_plain source buffer client r.item.writer r.item.call [] (journal done))

  by_test : (b : Bool) → is_answer answer.Lost r.answer ≡ b → AllByRecursion (MetFullRing done) (cond b (r ∷ with_answer answer.Lost records) (with_answer answer.Lost records)) →
      (AllByRecursion (MetFullRing done) (with_answer answer.Lost records) → AllByRecursion (λ x. is_ring_full (what_became_of source buffer client (journal done) x) ≡ true → MetFullRing done x) records) →
      (is_ring_full (what_became_of source buffer client (journal done) r) ≡ true → MetFullRing done r)
      × AllByRecursion (λ x. is_ring_full (what_became_of source buffer client (journal done) x) ≡ true → MetFullRing done x) records
  by_test true is more later = (λ full. more.0, later more.1)
  by_test false is more later = (λ full. absurd (true_not_false (is_ring_full (what_became_of source buffer client (journal done) r)) full (same ∙ is)), later more)

-- ---- every run

module _ (setting : Setting) (answers : List Done) (steps : List Step) (writer client : ℕ) where
  pub lines_have : ClaimsArePresent setting (journal (after_lines setting answers steps)) → HaveCauses setting (after_lines setting answers steps) writer client
  lines_have present =
      let done = after_lines setting answers steps in
      causes_are setting (source_of setting done) setting.buffer client setting.first writer (refusals_of done writer) (announced_by writer done) (journal done) (lines_well_formed setting (source_of setting done) answers steps present)
      (records_of writer done) (owned_so_far setting done (lines_founded setting answers steps) (lines_right setting answers steps) writer)

  pub run_has : ClaimsArePresent setting (journal (run setting answers steps)) → HaveCauses setting (run setting answers steps) writer client
  run_has present =
      let done = run setting answers steps in
      causes_are setting (source_of setting done) setting.buffer client setting.first writer (refusals_of done writer) (announced_by writer done) (journal done) (run_well_formed setting (source_of setting done) answers steps present)
      (records_of writer done) (owned_so_far setting done (run_founded setting answers steps) (run_right setting answers steps) writer)

  pub lines_met : HaveMetFullRings setting (after_lines setting answers steps) writer client
  lines_met =
      let done = after_lines setting answers steps in
      full_met (source_of setting done) setting.buffer client done (records_of writer done) (lost_met setting writer done (lines_right setting answers steps))

  pub run_met : HaveMetFullRings setting (run setting answers steps) writer client
  run_met =
      let done = run setting answers steps in
      full_met (source_of setting done) setting.buffer client done (records_of writer done) (lost_met setting writer done (run_right setting answers steps))

module _ (setting : Setting) (answers : List Done) (steps : List Step) (app client : ℕ) where
  pub lines_told : reported app (journal (after_lines setting answers steps)) + pending app (after_lines setting answers steps) ≡ full_ones setting (after_lines setting answers steps) app client
  lines_told =
      let done = after_lines setting answers steps in
      full_told (source_of setting done) setting.buffer client app (pending app done) (journal done) (records_of_app app (records done)) (told_so_far setting done (lines_founded setting answers steps) (lines_right setting answers steps) app)

  pub run_told : reported app (journal (run setting answers steps)) ≡ full_ones setting (run setting answers steps) app client
  run_told =
      let done = run setting answers steps in
      let all = full_told (source_of setting done) setting.buffer client app 0 (journal done) (records_of_app app (records done)) ((run_accounted setting answers steps).told app) in
      omega (arith, all)

-- ---- whole accounts

so_far : (first : ℕ) (events : List Event) (writer refusals : ℕ) (pushed : List Claimed) (records : List Record) → IsOwned first events writer refusals pushed records → IsOwnedSoFar first events writer refusals pushed records
so_far first events writer refusals pushed records owned = record {
  app = owned.app;
  belongs = owned.belongs;
  account = record {
    numbered = owned.account.numbered;
    counted = owned.account.counted;
    exact = owned.account.exact;
    never_fall = owned.account.never_fall;
    waiting = [];
    in_order = append-nil (filter (of_writer writer) (order owned.app events)) ∙ owned.account.in_order;
    waiting_claims = [];
    claimed = append-nil (filter (claimed_by writer) (claims owned.app events)) ∙ owned.account.claimed;
    refused = owned.account.refused;
  };
}

pub accounts_have : (setting : Setting) (source : FrameSource) (first : ℕ) (events : List Event) (pending refusals : ℕ → ℕ) (pushed : List (List Claimed)) (records : List (List Record)) → IsWellFormed setting source events → IsAccounted first events pending refusals pushed records →
    (buffer client writer : ℕ) → AllByRecursion (HasOneCause source buffer client events) (records_by writer records)
accounts_have setting source first events pending refusals pushed records formed accounted buffer client writer =
    let rs = records_by writer records in
    causes_are setting source buffer client first writer (refusals writer) (claims_by writer pushed) events formed rs (so_far first events writer (refusals writer) (claims_by writer pushed) rs (accounted.writers writer))

has_it : (n : ℕ) (xs ys : List ℕ) → has n (xs ++ n ∷ ys) ≡ true
has_it n xs ys = list_any-append (λ m. eqb m n) xs (n ∷ ys) ∙ ap (λ (b : Bool). has n xs || (b || has n ys)) (eq-eqb n n refl) ∙ last_so (has n xs) where
  last_so : (b : Bool) → (b || true) ≡ true
  last_so true = refl
  last_so false = refl

-- a queued call of a whole account was taken
none_in_ring : (source : FrameSource) (buffer client first writer refusals : ℕ) (pushed : List Claimed) (events : List Event) (earlier : List Record) (r : Record) (later : List Record) → IsOwned first events writer refusals pushed (earlier ++ r ∷ later) →
    what_became_of source buffer client events r ≡ InRing → ⊥
none_in_ring source buffer client first writer refusals pushed events earlier r later owned in_ring = by_answer_of r.answer refl where
  its_writer : r.item.writer ≡ writer
  its_writer = all_here (λ (x : Record). x.item.writer ≡ writer) earlier r later owned.belongs.by_writer

  given : (a : Answer) → r.answer ≡ a → by_answer a (of_queued source buffer client r.item.writer r.item.call [] events) ≡ InRing
  given a is = ap (λ (x : Answer). by_answer x (of_queued source buffer client r.item.writer r.item.call [] events)) (sym is) ∙ in_ring

  by_search : r.answer ≡ answer.Queued → Searched source buffer r.item.writer r.item.call [] events → ⊥
  by_search is (inl f) =
      let frame = of_frame source buffer client f.logged.before (source.frame r.item.writer r.item.call) f.logged.after in
      let admitted = (of_frame_plain source buffer client f.logged.before (source.frame r.item.writer r.item.call) f.logged.after).1 in
      true_not_false (is_admitted frame) admitted (ap is_admitted (sym (f.found client) ∙ given answer.Queued is))
  by_search is (inr none) =
      let there : has r.item.call (numbers_logged writer events) ≡ true =
      ap (has r.item.call) (all_logged first events writer refusals pushed (earlier ++ r ∷ later) owned ∙ queued_here earlier later r is) ∙ has_it r.item.call (queued_numbers earlier) (queued_numbers later) in
      true_not_false (list_any (logs writer r.item.call) events) (logs_number writer r.item.call events ∙ there)
      (subst (λ (w : ℕ). list_any (logs w r.item.call) events ≡ false) its_writer none.0)

  by_answer_of : (a : Answer) → r.answer ≡ a → ⊥
  by_answer_of answer.Filtered is = true_not_false true refl (ap is_filtered (given answer.Filtered is))
  by_answer_of answer.Lost is = true_not_false true refl (ap is_ring_full (given answer.Lost is))
  by_answer_of answer.Queued is = by_search is (searched source buffer r.item.writer r.item.call [] events)

pub accounts_taken : (source : FrameSource) (first : ℕ) (events : List Event) (pending refusals : ℕ → ℕ) (pushed : List (List Claimed)) (records : List (List Record)) → IsAccounted first events pending refusals pushed records →
    (buffer client writer : ℕ) → AllByRecursion (λ r. what_became_of source buffer client events r ≡ InRing → ⊥) (records_by writer records)
accounts_taken source first events pending refusals pushed records accounted buffer client writer =
    all_places (λ r. what_became_of source buffer client events r ≡ InRing → ⊥) [] (records_by writer records)
    (λ before r after is. none_in_ring source buffer client first writer (refusals writer) (claims_by writer pushed) events before r after (subst (IsOwned first events writer (refusals writer) (claims_by writer pushed)) is (accounted.writers writer)))
