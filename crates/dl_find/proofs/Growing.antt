-- What one message more changes of what is found.
use Rattle.std.proofs.Common.{◌≡◌, ℕ, ◌+◌, Bool, true, false, cond, List, [], ◌∷◌, ◌++◌, length, Option, Some, None, refl, sym, ap, ◌∙◌, append-nil, length-append, arith}
use Rattle.std.specs.Prelude.{◌||◌, sum, sum_by, is_some, unwrap_or}
use Rattle.std.specs.List.{after_last, filter_map, find}
use Rattle.std.specs.Option.{option_map, option_or}
use Rattle.std.proofs.lemmas.Bool.{cond-true, cond-false}
use Rattle.std.proofs.lemmas.List.Elements.{filter_map-append}
use Rattle.std.proofs.lemmas.List.Folds.{find-append}
use Rattle.std.proofs.lemmas.List.Sums.{sum_by-append}
use Rattle.dl_control.specs.Reply.{daemon_apid}
use Rattle.dl_model.proofs.Lists.{after_last-one, along-one, last_that-one}
use Rattle.dl_model.specs.Along.{along, last_that}
use Rattle.dl_sessions.specs.Gaps.{counted}
use Rattle.dl_sessions.specs.declared.session.Entry.{Entry}
use Rattle.dl_sessions.specs.declared.session.Lost.{Lost}
use Rattle.dl_sessions.specs.declared.session.Told.{Told}
use Rattle.dl_sessions.specs.declared.session.Told.TheVariants as told
use Rattle.dl_sessions.proofs.OneMore.{goes_on, stands}
use Rattle.dl_find.specs.Finds.{Met, any, back, behind_at, change, finding_of, first_in, goes_at, goes_of, hit_by, hits_of, hole_at, hole_by, hole_of, holes_of, is_open, is_record, last_in, list_of, met, met_again, number_in, passes, passing, reports_in, seen_if, session_goes, shown, since_in, steps, steps_at, steps_of, tells, told_of, track_of, unstored_of}
use Rattle.dl_find.specs.Meets.{IsSearch}
use Rattle.dl_find.proofs.Telling.{books-log, books-quiet}
use Rattle.dl_find_words.specs.Questions.{is_asked, is_named, is_of_context}
use Rattle.dl_find.specs.Steps.{ended, goes_by, hit_if, noted, one_if, reported, track_by, with_ended, with_entry, with_report, with_unstored}
use Rattle.dl_find_words.specs.declared.found.Finding.{Finding}
use Rattle.dl_find_words.specs.declared.question.Question.{Question}
use Rattle.dl_find_words.specs.declared.found.Reports.{Reports}
use Rattle.dl_find_words.specs.declared.seen.Hit.{Hit}
use Rattle.dl_find_words.specs.declared.seen.Seen.{Seen}
use Rattle.dl_find_words.specs.declared.seen.Spot.{Spot}
use Rattle.dl_find.specs.declared.search.Search.{Search}
use Rattle.dl_find_words.specs.declared.found.Hole.{Hole}
use Rattle.dl_find_words.specs.declared.found.Track.{Track}

-- ---- lists

sum-one : {E : Type 0} (f : List E → E → List ℕ) (xs : List E) (x : E) → sum (along f (xs ++ x ∷ [])) ≡ sum (along f xs) + sum (f xs x)
sum-one f xs x = ap sum (along-one f xs x) ∙ sum_by-append (λ (n : ℕ). n) (along f xs) (f xs x)

one : (n more : ℕ) (m : ℕ) → m ≡ n + more → counted m ≡ counted (counted n + more)
one n more m is = ap counted is ∙ goes_on n more

-- ---- reports

module _ (q : Question) (mets : List Met) (spot : Spot) (bytes : List ℕ) where
  reports-lost : (lost : Lost) → reports_in q (mets ++ met spot (told.Lost lost) bytes ∷ []) ≡ with_report q (reports_in q mets) spot lost
  reports-lost lost =
      let m = met spot (told.Lost lost) bytes in
      let ring = one (sum_by (λ (x : Met). told_of q.apid x.told) mets) (told_of q.apid (told.Lost lost)) (sum_by (λ (x : Met). told_of q.apid x.told) (mets ++ m ∷ []))
      (omega (arith, sum_by-append (λ (x : Met). told_of q.apid x.told) mets (m ∷ []))) in
      let buffer = one (sum_by (λ (x : Met). told_of daemon_apid x.told) mets) (told_of daemon_apid (told.Lost lost)) (sum_by (λ (x : Met). told_of daemon_apid x.told) (mets ++ m ∷ []))
      (omega (arith, sum_by-append (λ (x : Met). told_of daemon_apid x.told) mets (m ∷ []))) in
      let unstored : sum_by unstored_of (mets ++ m ∷ []) ≡ sum_by unstored_of mets = omega (arith, sum_by-append unstored_of mets (m ∷ [])) in
      let last = ap (option_map (λ (x : Met). x.spot)) (last_that-one (is_record q) mets m) ∙ by_test (tells q (told.Lost lost)) in
      λ i. record { ring = ring i; buffer = buffer i; unstored = counted (unstored i); last = last i }
    where
      by_test : (b : Bool) → option_map (λ (x : Met). x.spot) (cond (b || false) (Some (met spot (told.Lost lost) bytes)) (last_that (is_record q) mets))
          ≡ cond b (Some spot) (option_map (λ (x : Met). x.spot) (last_that (is_record q) mets))
      by_test true = refl
      by_test false = refl

  reports-quiet : (t : Told) → told_of q.apid t ≡ 0 → told_of daemon_apid t ≡ 0 → unstored_of (met spot t bytes) ≡ 0 → is_record q (met spot t bytes) ≡ false → reports_in q (mets ++ met spot t bytes ∷ []) ≡ reports_in q mets
  reports-quiet t none_of_ring none_of_buffer none_unstored none =
      let m = met spot t bytes in
      let ring : sum_by (λ (x : Met). told_of q.apid x.told) (mets ++ m ∷ []) ≡ sum_by (λ (x : Met). told_of q.apid x.told) mets
      = omega (arith, none_of_ring, sum_by-append (λ (x : Met). told_of q.apid x.told) mets (m ∷ [])) in
      let buffer : sum_by (λ (x : Met). told_of daemon_apid x.told) (mets ++ m ∷ []) ≡ sum_by (λ (x : Met). told_of daemon_apid x.told) mets
      = omega (arith, none_of_buffer, sum_by-append (λ (x : Met). told_of daemon_apid x.told) mets (m ∷ [])) in
      let unstored : sum_by unstored_of (mets ++ m ∷ []) ≡ sum_by unstored_of mets = omega (arith, none_unstored, sum_by-append unstored_of mets (m ∷ [])) in
      let last = ap (option_map (λ (x : Met). x.spot)) (last_that-one (is_record q) mets m ∙ cond-false (is_record q m) (Some m) (last_that (is_record q) mets) none) in
      λ i. record { ring = counted (ring i); buffer = counted (buffer i); unstored = counted (unstored i); last = last i }

  reports-ended : (count : ℕ) → reports_in q (mets ++ met spot (told.Unstored count) bytes ∷ []) ≡ with_unstored (reports_in q mets) spot count
  reports-ended count =
      let m = met spot (told.Unstored count) bytes in
      let ring : sum_by (λ (x : Met). told_of q.apid x.told) (mets ++ m ∷ []) ≡ sum_by (λ (x : Met). told_of q.apid x.told) mets
      = omega (arith, sum_by-append (λ (x : Met). told_of q.apid x.told) mets (m ∷ [])) in
      let buffer : sum_by (λ (x : Met). told_of daemon_apid x.told) (mets ++ m ∷ []) ≡ sum_by (λ (x : Met). told_of daemon_apid x.told) mets
      = omega (arith, sum_by-append (λ (x : Met). told_of daemon_apid x.told) mets (m ∷ [])) in
      let unstored = one (sum_by unstored_of mets) count (sum_by unstored_of (mets ++ m ∷ [])) (omega (arith, sum_by-append unstored_of mets (m ∷ []))) in
      let last = ap (option_map (λ (x : Met). x.spot)) (last_that-one (is_record q) mets m ∙ cond-true (is_record q m) (Some m) (last_that (is_record q) mets) refl) in
      λ i. record { ring = counted (ring i); buffer = counted (buffer i); unstored = unstored i; last = last i }

-- ---- the messages that pass a test

module _ (q : Question) (test : Entry → Bool) (mets : List Met) (m : Met) where
  passing-one : passing test (mets ++ m ∷ []) ≡ passing test mets ++ list_of (seen_if test m)
  passing-one = filter_map-append (seen_if test) mets (m ∷ [])

  holes-one : holes_of q test (mets ++ m ∷ []) ≡ holes_of q test mets ++ hole_of q test mets (seen_if test m)
  holes-one = along-one (hole_at q test) mets m

  steps-one : (step : Option Seen → Entry → ℕ) (more : ℕ) → sum (steps_at step test mets m) ≡ more → steps step test (mets ++ m ∷ []) ≡ counted (steps step test mets + more)
  steps-one step more is = one (sum (along (steps_at step test) mets)) more (sum (along (steps_at step test) (mets ++ m ∷ []))) (sum-one (steps_at step test) mets m ∙ ap (λ (n : ℕ). sum (along (steps_at step test) mets) + n) is)

  -- one that passes
  track-passes : (s : Seen) → seen_if test m ≡ Some s → passes test m ≡ true → ((xs : List Met) → reports_in q (xs ++ m ∷ []) ≡ reports_in q xs)
      → track_of q test (mets ++ m ∷ []) ≡ with_entry q.point (track_of q test mets) s
  track-passes s is pass quiet =
      let old = track_of q test mets in
      let all : passing test (mets ++ m ∷ []) ≡ passing test mets ++ s ∷ [] = passing-one ∙ ap (λ (o : Option Seen). passing test mets ++ list_of o) is in
      let hole = hole_by q.point old.last s old.messages old.since in
      let holes : holes_of q test (mets ++ m ∷ []) ≡ holes_of q test mets ++ list_of hole = holes-one ∙ ap (λ (o : Option Seen). holes_of q test mets ++ hole_of q test mets o) is in
      let a = one (length (passing test mets)) 1 (length (passing test (mets ++ m ∷ []))) (ap length all ∙ length-append (passing test mets) (s ∷ [])) in
      let b = ap (find any) all ∙ find-append any (passing test mets) (s ∷ []) in
      let c = ap last_in all ∙ last_that-one any (passing test mets) s in
      let d = steps-one change (change old.last s.entry) (omega (arith, ap (λ (o : Option Seen). sum (of_steps change o)) is)) in
      let e = steps-one back (back old.last s.entry) (omega (arith, ap (λ (o : Option Seen). sum (of_steps back o)) is)) in
      let e2 = steps-one met_again (met_again old.last s.entry) (omega (arith, ap (λ (o : Option Seen). sum (of_steps met_again o)) is)) in
      let f = one (length (holes_of q test mets)) (one_if (is_some hole)) (length (holes_of q test (mets ++ m ∷ []))) (ap length holes ∙ length-append (holes_of q test mets) (list_of hole) ∙ ap (λ (n : ℕ). length (holes_of q test mets) + n) (size hole)) in
      let g = ap (find any) holes ∙ find-append any (holes_of q test mets) (list_of hole) ∙ ap (option_or (find any (holes_of q test mets))) (head hole) in
      let h = ap (reports_in q) (after_last-one (passes test) mets m ∙ cond-true (passes test m) [] (after_last (passes test) mets ++ m ∷ []) pass) in
      let k = ap (reports_in q) (along-one (behind_at q test) mets m) ∙ by_open (is_open old.hole old.messages) in
      λ i. record { messages = a i; first = b i; last = c i; changes = d i; backs = e i; returns = e2 i; holes = f i; hole = g i; since = h i; behind = k i }
    where
      of_steps : (Option Seen → Entry → ℕ) → Option Seen → List ℕ
      of_steps step o = steps_of step (last_in (passing test mets)) o

      size : (o : Option Hole) → length (list_of o) ≡ one_if (is_some o)
      size None = refl
      size (Some x) = refl

      head : (o : Option Hole) → find any (list_of o) ≡ o
      head None = refl
      head (Some x) = refl

      by_open : (b : Bool) → reports_in q (along (behind_at q test) mets ++ cond b (m ∷ []) []) ≡ reports_in q (along (behind_at q test) mets)
      by_open true = quiet (along (behind_at q test) mets)
      by_open false = ap (reports_in q) (append-nil (along (behind_at q test) mets))

  -- one that doesn't, of which this is told
  track-other : (with : Reports → Reports) → seen_if test m ≡ None → passes test m ≡ false → ((xs : List Met) → reports_in q (xs ++ m ∷ []) ≡ with (reports_in q xs))
      → track_of q test (mets ++ m ∷ []) ≡ (let old = track_of q test mets in record old { since = with old.since; behind = cond (is_open old.hole old.messages) (with old.behind) old.behind })
  track-other with is pass told =
      let old = track_of q test mets in
      let all : passing test (mets ++ m ∷ []) ≡ passing test mets = passing-one ∙ ap (λ (o : Option Seen). passing test mets ++ list_of o) is ∙ append-nil (passing test mets) in
      let holes : holes_of q test (mets ++ m ∷ []) ≡ holes_of q test mets = holes-one ∙ ap (λ (o : Option Seen). holes_of q test mets ++ hole_of q test mets o) is ∙ append-nil (holes_of q test mets) in
      let d = steps-one change 0 (ap (λ (o : Option Seen). sum (of_steps change o)) is) ∙ sym (stands_there (sum (along (steps_at change test) mets))) in
      let e = steps-one back 0 (ap (λ (o : Option Seen). sum (of_steps back o)) is) ∙ sym (stands_there (sum (along (steps_at back test) mets))) in
      let e2 = steps-one met_again 0 (ap (λ (o : Option Seen). sum (of_steps met_again o)) is) ∙ sym (stands_there (sum (along (steps_at met_again test) mets))) in
      let h = ap (reports_in q) (after_last-one (passes test) mets m ∙ cond-false (passes test m) [] (after_last (passes test) mets ++ m ∷ []) pass) ∙ told (after_last (passes test) mets) in
      let k = ap (reports_in q) (along-one (behind_at q test) mets m) ∙ by_open (is_open old.hole old.messages) in
      λ i. record {
        messages = counted (length (all i));
        first = find any (all i);
        last = last_in (all i);
        changes = d i;
        backs = e i;
        returns = e2 i;
        holes = counted (length (holes i));
        hole = find any (holes i);
        since = h i;
        behind = k i;
      }
    where
      of_steps : (Option Seen → Entry → ℕ) → Option Seen → List ℕ
      of_steps step o = steps_of step (last_in (passing test mets)) o

      stands_there : (n : ℕ) → counted n ≡ counted (counted n + 0)
      stands_there n = stands n

      by_open : (b : Bool) → reports_in q (along (behind_at q test) mets ++ cond b (m ∷ []) []) ≡ cond b (with (reports_in q (along (behind_at q test) mets))) (reports_in q (along (behind_at q test) mets))
      by_open true = told (along (behind_at q test) mets)
      by_open false = ap (reports_in q) (append-nil (along (behind_at q test) mets))

-- where nothing is told, nothing changes
untold : (t : Track) → record t { since = t.since; behind = cond (is_open t.hole t.messages) t.behind t.behind } ≡ t
untold t = by_test (is_open t.hole t.messages) where
  by_test : (b : Bool) → record t { since = t.since; behind = cond b t.behind t.behind } ≡ t
  by_test true = refl
  by_test false = refl

-- a message of a session
track-log : (q : Question) (test : Entry → Bool) (mets : List Met) (spot : Spot) (bytes : List ℕ) (e : Entry)
    → track_of q test (mets ++ met spot (told.Log e) bytes ∷ []) ≡ track_by (test e) q.point (track_of q test mets) (record { spot = spot; entry = e })
track-log q test mets spot bytes e = by_test (test e) refl where
  m : Met
  m = met spot (told.Log e) bytes

  s : Seen
  s = record { spot = spot; entry = e }

  quiet : (xs : List Met) → reports_in q (xs ++ m ∷ []) ≡ reports_in q xs
  quiet xs = reports-quiet q xs spot bytes (told.Log e) refl refl refl refl

  by_test : (b : Bool) → test e ≡ b → track_of q test (mets ++ m ∷ []) ≡ track_by b q.point (track_of q test mets) s
  by_test true is = track-passes q test mets m s (cond-true (test e) (Some s) None is) is quiet
  by_test false is = track-other q test mets m (λ (r : Reports). r) (cond-false (test e) (Some s) None is) is quiet ∙ untold (track_of q test mets)

track-lost : (q : Question) (test : Entry → Bool) (mets : List Met) (spot : Spot) (bytes : List ℕ) (lost : Lost)
    → track_of q test (mets ++ met spot (told.Lost lost) bytes ∷ []) ≡ reported q (track_of q test mets) spot lost
track-lost q test mets spot bytes lost =
    track-other q test mets (met spot (told.Lost lost) bytes) (λ (r : Reports). with_report q r spot lost) refl refl (λ xs. reports-lost q xs spot bytes lost)

track-ended : (q : Question) (test : Entry → Bool) (mets : List Met) (spot : Spot) (bytes : List ℕ) (count : ℕ)
    → track_of q test (mets ++ met spot (told.Unstored count) bytes ∷ []) ≡ ended (track_of q test mets) spot count
track-ended q test mets spot bytes count =
    track-other q test mets (met spot (told.Unstored count) bytes) (λ (r : Reports). with_unstored r spot count) refl refl (λ xs. reports-ended q xs spot bytes count)

track-none : (q : Question) (test : Entry → Bool) (mets : List Met) (spot : Spot) (bytes : List ℕ) → track_of q test (mets ++ met spot told.Other bytes ∷ []) ≡ track_of q test mets
track-none q test mets spot bytes =
    track-other q test mets (met spot told.Other bytes) (λ (r : Reports). r) refl refl
    (λ xs. reports-quiet q xs spot bytes told.Other refl refl refl refl) ∙ untold (track_of q test mets)

-- ---- hits, and who counts

hits-one : (q : Question) (mets : List Met) (m : Met) → hits_of q (mets ++ m ∷ []) ≡ hits_of q mets ++ list_of (hit_by q m.bytes (seen_if (is_named q) m))
hits-one q mets m = filter_map-append (λ (x : Met). hit_by q x.bytes (seen_if (is_named q) x)) mets (m ∷ [])

shown-one : (goes : Option Seen → Option Seen → Entry → ℕ) (q : Question) (mets : List Met) (m : Met) (more : ℕ) → sum (goes_at goes q mets m) ≡ more → shown goes q (mets ++ m ∷ []) ≡ counted (shown goes q mets + more)
shown-one goes q mets m more is =
    one (sum (along (goes_at goes q) mets)) more (sum (along (goes_at goes q) (mets ++ m ∷ []))) (sum-one (goes_at goes q) mets m ∙ ap (λ (n : ℕ). sum (along (goes_at goes q) mets) + n) is)

goes-log : (goes : Option Seen → Option Seen → Entry → ℕ) (q : Question) (mets : List Met) (spot : Spot) (bytes : List ℕ) (e : Entry)
    → sum (goes_at goes q mets (met spot (told.Log e) bytes)) ≡ goes_by goes q (finding_of q mets) e
goes-log goes q mets spot bytes e = by_test (is_of_context q e) where
  session : Option Seen
  session = last_in (passing (is_asked q) mets)

  context : Option Seen
  context = last_in (passing (is_of_context q) mets)

  by_test : (b : Bool) → sum (goes_of goes session context (cond b (Some (record { spot = spot; entry = e })) None)) ≡ cond b (goes session context e) 0
  by_test true = omega arith
  by_test false = refl

-- ---- the first message of all

start-log : (q : Question) (mets : List Met) (spot : Spot) (bytes : List ℕ) (e : Entry)
    → first_in (passing any (mets ++ met spot (told.Log e) bytes ∷ [])) ≡ option_or (first_in (passing any mets)) (Some (record { spot = spot; entry = e }))
start-log q mets spot bytes e = ap (find any) (passing-one q any mets (met spot (told.Log e) bytes)) ∙ find-append any (passing any mets) (record { spot = spot; entry = e } ∷ [])

start-quiet : (q : Question) (mets : List Met) (m : Met) → seen_if any m ≡ None → first_in (passing any (mets ++ m ∷ [])) ≡ first_in (passing any mets)
start-quiet q mets m none = ap (find any) (passing-one q any mets m ∙ ap (λ (o : Option Seen). passing any mets ++ list_of o) none ∙ append-nil (passing any mets))

-- ---- all

found-log : (q : Question) (mets : List Met) (spot : Spot) (bytes : List ℕ) (e : Entry) → finding_of q (mets ++ met spot (told.Log e) bytes ∷ []) ≡ noted q (finding_of q mets) (met spot (told.Log e) bytes)
found-log q mets spot bytes e =
    let m = met spot (told.Log e) bytes in
    let old = hits_of q mets in
    let hit = hit_if (is_named q e) (record { spot = spot; entry = e }) bytes in
    let all : hits_of q (mets ++ m ∷ []) ≡ old ++ list_of hit = hits-one q mets m ∙ ap (λ (o : Option Hit). old ++ list_of o) (by_name (is_named q e)) in
    let a = one (length old) (one_if (is_named q e)) (length (hits_of q (mets ++ m ∷ []))) (ap length all ∙ length-append old (list_of hit) ∙ ap (λ (n : ℕ). length old + n) (size (is_named q e))) in
    let b = ap (find any) all ∙ find-append any old (list_of hit) ∙ ap (option_or (find any old)) (head hit) in
    let c = track-log q (is_asked q) mets spot bytes e in
    let d = track-log q (is_of_context q) mets spot bytes e in
    let f = shown-one session_goes q mets m (goes_by session_goes q (finding_of q mets) e) (goes-log session_goes q mets spot bytes e) in
    let g = start-log q mets spot bytes e in
    let h = books-log q mets spot bytes e in
    λ i. record { hits = a i; hit = b i; start = g i; session = c i; context = d i; of_session = f i; books = h i }
  where
    by_name : (b : Bool) → hit_by q bytes (cond b (Some (record { spot = spot; entry = e })) None) ≡ hit_if b (record { spot = spot; entry = e }) bytes
    by_name true = refl
    by_name false = refl

    size : (b : Bool) → length (list_of (hit_if b (record { spot = spot; entry = e }) bytes)) ≡ one_if b
    size true = refl
    size false = refl

    head : (o : Option Hit) → find any (list_of o) ≡ o
    head None = refl
    head (Some x) = refl

-- a message that tells no session
quiet-hits : (q : Question) (mets : List Met) (m : Met) → hit_by q m.bytes (seen_if (is_named q) m) ≡ None → hits_of q (mets ++ m ∷ []) ≡ hits_of q mets
quiet-hits q mets m none = hits-one q mets m ∙ ap (λ (o : Option Hit). hits_of q mets ++ list_of o) none ∙ append-nil (hits_of q mets)

quiet-shown : (goes : Option Seen → Option Seen → Entry → ℕ) (q : Question) (mets : List Met) (m : Met) → sum (goes_at goes q mets m) ≡ 0 → shown goes q (mets ++ m ∷ []) ≡ shown goes q mets
quiet-shown goes q mets m none = shown-one goes q mets m 0 none ∙ sym (stands (sum (along (goes_at goes q) mets)))

-- What is found with one message more.
pub found-one : (q : Question) (mets : List Met) (spot : Spot) (bytes : List ℕ) (t : Told) → finding_of q (mets ++ met spot t bytes ∷ []) ≡ noted q (finding_of q mets) (met spot t bytes)
found-one q mets spot bytes (told.Log e) = found-log q mets spot bytes e
found-one q mets spot bytes (told.Lost lost) =
    let m = met spot (told.Lost lost) bytes in
    let a = quiet-hits q mets m refl in
    let c = track-lost q (is_asked q) mets spot bytes lost in
    let d = track-lost q (is_of_context q) mets spot bytes lost in
    let f = quiet-shown session_goes q mets m refl in
    let g = start-quiet q mets m refl in
    let h = books-quiet q mets m refl refl in
    λ i. record { hits = counted (length (a i)); hit = find any (a i); start = g i; session = c i; context = d i; of_session = f i; books = h i }
found-one q mets spot bytes (told.Unstored count) =
    let m = met spot (told.Unstored count) bytes in
    let a = quiet-hits q mets m refl in
    let c = track-ended q (is_asked q) mets spot bytes count in
    let d = track-ended q (is_of_context q) mets spot bytes count in
    let f = quiet-shown session_goes q mets m refl in
    let g = start-quiet q mets m refl in
    let h = books-quiet q mets m refl refl in
    λ i. record { hits = counted (length (a i)); hit = find any (a i); start = g i; session = c i; context = d i; of_session = f i; books = h i }
found-one q mets spot bytes told.Other =
    let m = met spot told.Other bytes in
    let a = quiet-hits q mets m refl in
    let c = track-none q (is_asked q) mets spot bytes in
    let d = track-none q (is_of_context q) mets spot bytes in
    let f = quiet-shown session_goes q mets m refl in
    let g = start-quiet q mets m refl in
    let h = books-quiet q mets m refl refl in
    λ i. record { hits = counted (length (a i)); hit = find any (a i); start = g i; session = c i; context = d i; of_session = f i; books = h i }

-- the same of a search
pub searched : (q : Question) (mets : List Met) (old new : Search) (spot : Spot) (bytes : List ℕ) (t : Told) → IsSearch q mets old → new.question ≡ old.question → new.finding ≡ noted old.question old.finding (met spot t bytes)
    → IsSearch q (mets ++ met spot t bytes ∷ []) new
searched q mets old new spot bytes t is same noted_so = record {
  question_is = same ∙ is.question_is;
  finding_is = noted_so ∙ (λ i. noted (is.question_is i) (is.finding_is i) (met spot t bytes)) ∙ sym (found-one q mets spot bytes t);
}
