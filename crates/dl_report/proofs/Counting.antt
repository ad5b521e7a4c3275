-- One more record, one more event.
use Rattle.std.proofs.Common.{◌≡◌, ◌≢◌, ℕ, ◌+◌, ◌*◌, ◌≤◌, ◌==◌, Bool, true, false, cond, List, [], ◌∷◌, ◌++◌, length, refl, sym, ap, ◌∙◌, arith, length-append, append_assoc, eq-eqb, subst}
use Rattle.std.specs.List.{filter, filter_map}
use Rattle.std.specs.Prelude.{Option, Some, None, option_to_list}
use Rattle.std.proofs.lemmas.Bool.{eqb-true}
use Rattle.std.proofs.lemmas.List.{append-nil}
use Rattle.std.proofs.lemmas.List.Elements.{filter-append, filter_map-append}
use Rattle.std.proofs.lemmas.List.Sums.{sum_by_push}
use Rattle.dl_bytes.specs.declared.moment.Moment.{Moment}
use Rattle.dl_events.specs.declared.event.Event.{Event}
use Rattle.dl_events.specs.declared.event.Event.TheVariants as event
use Rattle.dl_events.specs.declared.record.Record.{Record}
use Rattle.dl_events.specs.declared.record.Answer.{Answer}
use Rattle.dl_events.specs.declared.record.Answer.TheVariants as answer
use Rattle.dl_model.specs.Report.{answered, is_answer, reported, lost_of}
use Rattle.dl_report.specs.declared.count.AppCounts.{AppCounts}
use Rattle.dl_report.specs.declared.count.Closed.{Closed}
use Rattle.dl_report.specs.Counts.{Each, IsCount, AreAtMost, HasCounted, HasNoted, changed_at, with_answer, with_loss, close_in}
use Rattle.dl_report.proofs.Tables.{each_changed, length-changed_at}

apart : (a b : ℕ) → a ≢ b → (b == a) ≡ false
apart a b h = by_test (b == a) refl
  where
    by_test : (t : Bool) → (b == a) ≡ t → t ≡ false
    by_test true e = absurd (h (sym (eqb-true b a e)))
    by_test false e = refl

one_if : (b : Bool) (r : Record) → length (cond b (r ∷ []) []) ≡ cond b 1 0
one_if true r = refl
one_if false r = refl

answered_more : (what : Answer) (rs : List Record) (r : Record) → answered what (rs ++ r ∷ []) ≡ answered what rs + cond (is_answer what r.answer) 1 0
answered_more what rs r =
    ap length (filter-append (λ (r : Record). is_answer what r.answer) rs (r ∷ []))
    ∙ length-append (filter (λ (r : Record). is_answer what r.answer) rs) (filter (λ (r : Record). is_answer what r.answer) (r ∷ []))
    ∙ ap (λ n. answered what rs + n) (one_if (is_answer what r.answer) r)

-- the records of an application, with one more that is its own, or isn't
its_more : (app : ℕ) (rs : List Record) (r : Record) → (r.item.app == app) ≡ true
    → filter (λ (r : Record). r.item.app == app) (rs ++ r ∷ []) ≡ filter (λ (r : Record). r.item.app == app) rs ++ r ∷ []
its_more app rs r is = filter-append (λ (r : Record). r.item.app == app) rs (r ∷ []) ∙ rw is refl

its_same : (app : ℕ) (rs : List Record) (r : Record) → (r.item.app == app) ≡ false
    → filter (λ (r : Record). r.item.app == app) (rs ++ r ∷ []) ≡ filter (λ (r : Record). r.item.app == app) rs
its_same app rs r isnt = filter-append (λ (r : Record). r.item.app == app) rs (r ∷ []) ∙ rw isnt (append-nil (filter (λ (r : Record). r.item.app == app) rs))

counts_same : (a b c d e f g h : ℕ) → a ≡ e → b ≡ f → c ≡ g → d ≡ h
    → ◌≡◌ {A = AppCounts} (record { queued = a; filtered = b; lost = c; reported = d }) (record { queued = e; filtered = f; lost = g; reported = h })
counts_same a b c d e f g h p q r s = λ i. record { queued = p i; filtered = q i; lost = r i; reported = s i }

-- the answers of an application's records, with one more
with_answer-counts : (own : List Record) (r : Record) (a : Answer) (told : ℕ) → r.answer ≡ a
    → ◌≡◌ {A = AppCounts} (with_answer a (record { queued = answered answer.Queued own; filtered = answered answer.Filtered own; lost = answered answer.Lost own; reported = told }))
    (record { queued = answered answer.Queued (own ++ r ∷ []); filtered = answered answer.Filtered (own ++ r ∷ []); lost = answered answer.Lost (own ++ r ∷ []); reported = told })
with_answer-counts own r answer.Queued told is = counts_same _ _ _ _ _ _ _ _
    (sym (answered_more answer.Queued own r ∙ rw is refl)) (sym (answered_more answer.Filtered own r ∙ rw is (omega arith))) (sym (answered_more answer.Lost own r ∙ rw is (omega arith))) refl
with_answer-counts own r answer.Filtered told is = counts_same _ _ _ _ _ _ _ _
    (sym (answered_more answer.Queued own r ∙ rw is (omega arith))) (sym (answered_more answer.Filtered own r ∙ rw is refl)) (sym (answered_more answer.Lost own r ∙ rw is (omega arith))) refl
with_answer-counts own r answer.Lost told is = counts_same _ _ _ _ _ _ _ _
    (sym (answered_more answer.Queued own r ∙ rw is (omega arith))) (sym (answered_more answer.Filtered own r ∙ rw is (omega arith))) (sym (answered_more answer.Lost own r ∙ rw is refl)) refl

-- the counts of all applications, with one more record
record_counted : (before : List Record) (events : List Event) (r : Record) (table : List AppCounts)
    → Each (IsCount before events) table → Each (IsCount (before ++ r ∷ []) events) (changed_at r.item.app (with_answer r.answer) table)
record_counted before events r table all = each_changed (IsCount before events) (IsCount (before ++ r ∷ []) events) table r.item.app (with_answer r.answer)
    (λ counts is. rw is (with_answer-counts (filter (λ (x : Record). x.item.app == r.item.app) before) r r.answer (reported r.item.app events) refl
    ∙ ap (λ (own : List Record). record { queued = answered answer.Queued own; filtered = answered answer.Filtered own; lost = answered answer.Lost own; reported = reported r.item.app events })
    (sym (its_more r.item.app before r (eq-eqb r.item.app r.item.app refl)))))
    (λ n counts other is. is
    ∙ ap (λ (own : List Record). record { queued = answered answer.Queued own; filtered = answered answer.Filtered own; lost = answered answer.Lost own; reported = reported n events })
    (sym (its_same n before r (apart n r.item.app other))))
    all

answer_bound : (a : Answer) (n m app : ℕ) (counts : AppCounts) → AreAtMost n m app counts → AreAtMost (n + 1) m app (with_answer a counts)
answer_bound answer.Queued n m app counts h = record { queued = omega arith; filtered = omega arith; lost = omega arith; reported = h.reported }
answer_bound answer.Filtered n m app counts h = record { queued = omega arith; filtered = omega arith; lost = omega arith; reported = h.reported }
answer_bound answer.Lost n m app counts h = record { queued = omega arith; filtered = omega arith; lost = omega arith; reported = h.reported }

record_bound : (n m : ℕ) (r : Record) (table : List AppCounts)
    → Each (AreAtMost n m) table → Each (AreAtMost (n + 1) m) (changed_at r.item.app (with_answer r.answer) table)
record_bound n m r table all = each_changed (AreAtMost n m) (AreAtMost (n + 1) m) table r.item.app (with_answer r.answer)
    (λ counts h. answer_bound r.answer n m r.item.app counts h)
    (λ k counts other h. record { queued = omega arith; filtered = omega arith; lost = omega arith; reported = h.reported })
    all

-- the losses of an application, with one more event
reported_more : (app : ℕ) (events : List Event) (e : Event) → reported app (events ++ e ∷ []) ≡ reported app events + lost_of app e
reported_more app events e = sum_by_push (lost_of app) events e

loss_counted : (records : List Record) (before : List Event) (app count : ℕ) (moment : Moment) (table : List AppCounts)
    → Each (IsCount records before) table → Each (IsCount records (before ++ event.Lost app count moment ∷ [])) (changed_at app (with_loss count) table)
loss_counted records before app count moment table all = each_changed (IsCount records before) (IsCount records (before ++ event.Lost app count moment ∷ [])) table app (with_loss count)
    (λ counts is. rw is (counts_same _ _ _ _ _ _ _ _ refl refl refl (sym (reported_more app before (event.Lost app count moment) ∙ rw (eq-eqb app app refl) refl))))
    (λ n counts other is. rw is (counts_same _ _ _ _ _ _ _ _ refl refl refl (sym (reported_more n before (event.Lost app count moment) ∙ rw (apart n app other) (omega arith)))))
    all

loss_bound : (n m app count : ℕ) (table : List AppCounts) → count ≤ 18446744073709551615
    → Each (AreAtMost n m) table → Each (AreAtMost n (m + 18446744073709551615)) (changed_at app (with_loss count) table)
loss_bound n m app count table small all = each_changed (AreAtMost n m) (AreAtMost n (m + 18446744073709551615)) table app (with_loss count)
    (λ counts h. record { queued = h.queued; filtered = h.filtered; lost = h.lost; reported = omega arith })
    (λ k counts other h. record { queued = h.queued; filtered = h.filtered; lost = h.lost; reported = omega arith })
    all

-- ---- what a table has of calls and of events

pub weaker : (n m k l : ℕ) (table : List AppCounts) → n ≤ k → m ≤ l → Each (AreAtMost n m) table → Each (AreAtMost k l) table
weaker n m k l table some more all app counts is = let h : AreAtMost n m app counts = all app counts is in
    record { queued = omega arith; filtered = omega arith; lost = omega arith; reported = omega arith }

pub counts_one : (r : Record) (table new : List AppCounts) → new ≡ changed_at r.item.app (with_answer r.answer) table → HasCounted (r ∷ []) table new
counts_one r table new is = record {
  size = ap length is ∙ length-changed_at table r.item.app (with_answer r.answer);
  counts = λ before events all. rw is (record_counted before events r table all);
  bounds = λ n m all. rw is (record_bound n m r table all);
}

pub counts_none : (table : List AppCounts) → HasCounted [] table table
counts_none table = record {
  size = refl;
  counts = λ before events all. subst (λ (rs : List Record). Each (IsCount rs events) table) (sym (append-nil before)) all;
  bounds = λ n m all. weaker n m (n + 0) m table (omega arith) (omega arith) all;
}

pub counts_both : (first then both : List Record) (old mid new : List AppCounts) → both ≡ first ++ then → HasCounted first old mid → HasCounted then mid new → HasCounted both old new
counts_both first then both old mid new is a b = record {
  size = b.size ∙ a.size;
  counts = λ before events all. subst (λ (rs : List Record). Each (IsCount rs events) new) (append_assoc before first then ∙ ap (λ rs. before ++ rs) (sym is)) (b.counts (before ++ first) events (a.counts before events all));
  bounds = λ n m all. weaker (n + length first + length then) m (n + length both) m new (omega (arith, ap length is, length-append first then)) (omega arith) (b.bounds (n + length first) m (a.bounds n m all));
}

pub notes_loss : (e : Event) (app count : ℕ) (moment : Moment) (table new : List AppCounts) → count ≤ 18446744073709551615 → e ≡ event.Lost app count moment
    → new ≡ changed_at app (with_loss count) table → HasNoted (e ∷ []) table new
notes_loss e app count moment table new small e_is is = record {
  size = ap length is ∙ length-changed_at table app (with_loss count);
  counts = λ records before all. rw (is, e_is) (loss_counted records before app count moment table all);
  bounds = λ n m all. rw is (weaker n (m + 18446744073709551615) n (m + 18446744073709551615 * 1) _ (omega arith) (omega arith) (loss_bound n m app count table small all));
}

pub notes_none : (table : List AppCounts) → HasNoted [] table table
notes_none table = record {
  size = refl;
  counts = λ records before all. subst (λ (es : List Event). Each (IsCount records es) table) (sym (append-nil before)) all;
  bounds = λ n m all. weaker n m n (m + 18446744073709551615 * 0) table (omega arith) (omega arith) all;
}

pub notes_both : (first then both : List Event) (old mid new : List AppCounts) → both ≡ first ++ then → HasNoted first old mid → HasNoted then mid new → HasNoted both old new
notes_both first then both old mid new is a b = record {
  size = b.size ∙ a.size;
  counts = λ records before all. subst (λ (es : List Event). Each (IsCount records es) new) (append_assoc before first then ∙ ap (λ es. before ++ es) (sym is)) (b.counts records (before ++ first) (a.counts records before all));
  bounds = λ n m all. weaker n (m + 18446744073709551615 * length first + 18446744073709551615 * length then) n (m + 18446744073709551615 * length both) new
      (omega arith) (omega (arith, ap length is, length-append first then)) (b.bounds n (m + 18446744073709551615 * length first) (a.bounds n m all));
}

-- ---- the clients that went

pub closes_more : (events : List Event) (e : Event) → filter_map close_in (events ++ e ∷ []) ≡ filter_map close_in events ++ option_to_list (close_in e)
closes_more events e = filter_map-append close_in events (e ∷ []) ∙ ap (λ t. filter_map close_in events ++ t) (only (close_in e) e refl)
  where
    only : (o : Option Closed) (e : Event) → close_in e ≡ o → filter_map close_in (e ∷ []) ≡ option_to_list o
    only None e is = rw is refl
    only (Some x) e is = rw is refl

pub answered_first : (what : Answer) (r : Record) (rs : List Record) → answered what (r ∷ rs) ≡ cond (is_answer what r.answer) 1 0 + answered what rs
answered_first what r rs = by_test (is_answer what r.answer)
  where
    by_test : (b : Bool) → length (cond b (r ∷ filter (λ (r : Record). is_answer what r.answer) rs) (filter (λ (r : Record). is_answer what r.answer) rs)) ≡ cond b 1 0 + answered what rs
    by_test true = omega arith
    by_test false = omega arith
