-- Message counters tell how many calls a hole has, and each of them was lost at a full ring or refused by a full buffer.
use Rattle.std.proofs.Common.{◌≡◌, ℕ, ◌+◌, ◌%◌, ◌<◌, ◌≤◌, Bool, true, false, cond, eqb, leb, List, [], ◌∷◌, ◌++◌, length, Option, Some, None, refl, sym, ap, subst, ◌∙◌, append_assoc, arith, inl, inr}
use Rattle.std.specs.Prelude.{count_by, not, ◌⊎◌, ◌||◌, ◌&&◌}
use Rattle.std.specs.List.{list_any, AllByRecursion}
use Rattle.std.specs.Option.{option_or}
use Rattle.std.proofs.lemmas.Bool.{cases_lt, eqb-true, eq-eqb, or_parts}
use Rattle.std.proofs.lemmas.List.{append-nil}
use Rattle.std.proofs.lemmas.List.Folds.{list_any-append}
use Rattle.std.proofs.lemmas.List.Sums.{sum_by-cons}
use Rattle.dl_lemmas.proofs.Lists.{all_here}
use Rattle.dl_bytes.specs.Claim.{Claimed}
use Rattle.dl_bytes.specs.declared.moment.Moment.{Moment}
use Rattle.dl_events.specs.declared.event.Event.{Event}
use Rattle.dl_events.specs.declared.event.Event.TheVariants as event
use Rattle.dl_events.specs.declared.record.Record.{Record}
use Rattle.dl_events.specs.declared.record.Answer.{Answer}
use Rattle.dl_events.specs.declared.record.Answer.TheVariants as answer
use Rattle.dl_model.specs.Accounts.{AreCounted}
use Rattle.dl_model.specs.Setting.{Setting}
use Rattle.dl_model.specs.Journal.{IsWellFormed, is_connect, comes_or_goes}
use Rattle.dl_model.specs.Frames.{FrameSource}
use Rattle.dl_model.specs.Report.{is_answer}
use Rattle.dl_model.specs.Traffic as t
use Rattle.dl_model.specs.Traffic.{Traffic, is_any_open}
use Rattle.dl_model.specs.Backlog.{size_of, waiting}
use Rattle.dl_model.specs.ClientStream.{traffic, stream}
use Rattle.dl_model.specs.WholeAccounts.{IsOwnedSoFar}
use Rattle.dl_model.proofs.Lists.{count_by-append}
use Rattle.dl_laws.specs.Fates.{Fate, InRing, InStream, BufferFull, ForOthers, next_client, kept, of_frame, logs, of_queued, by_answer, what_became_of}
use Rattle.dl_runs.specs.Causes.{is_in_stream, IsMissing, passed, TellsHole}
use Rattle.dl_runs.proofs.CallCauses.{all_places}
use Rattle.dl_runs.proofs.CallFates.{Finds, Searched, searched}
use Rattle.dl_runs.proofs.CallPlaces.{Rising, has, alone, one_place, numbers_logged, logs_number, number_here, logged_at, queued_numbers, logged_queued, queued_rise, queued_here}
use Rattle.dl_laws.proofs.ClientStays.{AllSpeak, all_speak, first_speak, second_speak, opened, is_open_in, none_above, none_open, closed_on, true_not_false}
use Rattle.dl_laws.proofs.FrameFates.{waits_on, comes}
use Rattle.dl_laws.proofs.JournalStreams.{open_same}

-- ---- the fate of an admitted frame, by cases

heard_when : (a b c : Bool) (n client place : ℕ) (next : Option ℕ) → is_in_stream (cond a (InStream n) (cond b ForOthers (cond c (kept client place next) (BufferFull next)))) ≡ true →
    (a ≡ true) ⊎ ((b ≡ false) × (next ≡ Some client))
heard_when true b c n client place next is = inl refl
heard_when false true c n client place next is = absurd cc
heard_when false false false n client place next is = absurd cc
heard_when false false true n client place None is = absurd cc
heard_when false false true n client place (Some other) is = by_test (eqb other client) refl is where
  by_test : (d : Bool) → eqb other client ≡ d → is_in_stream (cond d (InStream place) ForOthers) ≡ true → (false ≡ true) ⊎ ((false ≡ false) × (Some other ≡ Some client))
  by_test true same is = inr (refl, ap Some (eqb-true other client same))
  by_test false apart is = absurd cc

refused_when : (a b c : Bool) (n client place : ℕ) (next : Option ℕ) → a ≡ false → b ≡ false → next ≡ Some client →
    is_in_stream (cond a (InStream n) (cond b ForOthers (cond c (kept client place next) (BufferFull next)))) ≡ false →
    cond a (InStream n) (cond b ForOthers (cond c (kept client place next) (BufferFull next))) ≡ BufferFull (Some client)
refused_when true b c n client place next shut none comes is = absurd cc
refused_when false true c n client place next shut none comes is = absurd cc
refused_when false false false n client place next shut none comes is = ap BufferFull comes
refused_when false false true n client place next shut none comes is =
    let heard : is_in_stream (kept client place next) ≡ true = ap (λ (o : Option ℕ). is_in_stream (kept client place o)) comes ∙ ap (λ (b : Bool). is_in_stream (cond b (InStream place) ForOthers)) (eq-eqb client client refl) in
    absurd (true_not_false (is_in_stream (kept client place next)) heard is)

-- ---- who comes next

next_client-append : (xs ys : List Event) → next_client (xs ++ ys) ≡ option_or (next_client xs) (next_client ys)
next_client-append [] ys = refl
next_client-append (event.Connect client ∷ xs) ys = refl
next_client-append (event.Request client frame done ∷ xs) ys = next_client-append xs ys
next_client-append (event.Close client why ∷ xs) ys = next_client-append xs ys
next_client-append (event.Claim claim moment ∷ xs) ys = next_client-append xs ys
next_client-append (event.Level slot level ∷ xs) ys = next_client-append xs ys
next_client-append (event.Log app writer call moment ∷ xs) ys = next_client-append xs ys
next_client-append (event.Lost app count moment ∷ xs) ys = next_client-append xs ys
next_client-append (event.User channel msg moment ∷ xs) ys = next_client-append xs ys

-- a client that comes in these events is among those that came behind them
came_in : (client : ℕ) (before events : List Event) → AllSpeak before events → next_client events ≡ Some client → client ≤ count_by is_connect (before ++ events)
came_in client before events all is =
    let c = comes client events is in
    let says = (second_speak before c.middle (event.Connect client ∷ c.after) (subst (AllSpeak before) c.place all)).0 in
    let one : count_by is_connect (event.Connect client ∷ c.after) ≡ 1 + count_by is_connect c.after = sum_by-cons (λ e. cond {A = ℕ} (is_connect e) 1 0) (event.Connect client) c.after in
    let split : count_by is_connect events ≡ count_by is_connect c.middle + count_by is_connect (event.Connect client ∷ c.after) = ap (count_by is_connect) c.place ∙ count_by-append is_connect c.middle (event.Connect client ∷ c.after) in
    omega (arith, says, one, split, count_by-append is_connect before events, count_by-append is_connect before c.middle)

says_so : (client : ℕ) (events : List Event) → next_client events ≡ Some client → list_any (comes_or_goes client) events ≡ true
says_so client events is =
    let c = comes client events is in
    let here : comes_or_goes client (event.Connect client) ≡ true = eq-eqb client client refl in
    ap (list_any (comes_or_goes client)) c.place ∙ list_any-append (comes_or_goes client) c.middle (event.Connect client ∷ c.after)
    ∙ ap (λ (b : Bool). list_any (comes_or_goes client) c.middle || (b || list_any (comes_or_goes client) c.after)) here ∙ last_so (list_any (comes_or_goes client) c.middle) where
      last_so : (b : Bool) → (b || true) ≡ true
      last_so true = refl
      last_so false = refl

-- ---- three Log events, of which a client heard the first and the last

module _ (setting : Setting) (source : FrameSource) (buffer client : ℕ) (one middle two : Event) (first between later after : List Event)
    (formed : IsWellFormed setting source (((first ++ one ∷ between) ++ middle ∷ later) ++ two ∷ after)) where
  abbrev up_to : List Event
  up_to = first ++ one ∷ between

  abbrev rest : List Event
  rest = later ++ two ∷ after

  abbrev all : List Event
  all = (up_to ++ middle ∷ later) ++ two ∷ after

  speak_all : AllSpeak [] (up_to ++ middle ∷ rest)
  speak_all = subst (AllSpeak []) (append_assoc up_to (middle ∷ later) (two ∷ after)) (all_speak setting source [] all formed)

  speak_rest : AllSpeak up_to (middle ∷ rest)
  speak_rest = second_speak [] up_to (middle ∷ rest) speak_all

  speak_first : AllSpeak [] (first ++ one ∷ between)
  speak_first = first_speak [] up_to (middle ∷ rest) speak_all

  -- a client that came before, and isn't open there, hears nothing more
  abbrev HeardLast : Type 0
  HeardLast = (t.is_open client (traffic source (up_to ++ middle ∷ later)) ≡ true) ⊎ ((is_any_open (traffic source (up_to ++ middle ∷ later)) ≡ false) × (next_client after ≡ Some client))

  not_again : opened client up_to ≡ false → client ≤ count_by is_connect up_to → HeardLast → ⊥
  not_again shut came (inl there) =
      let gone = (closed_on client up_to (middle ∷ later) (first_speak up_to (middle ∷ later) (two ∷ after) speak_rest) came shut).1 in
      true_not_false (opened client (up_to ++ middle ∷ later)) (sym (open_same source client (up_to ++ middle ∷ later)) ∙ there) gone
  not_again shut came (inr next) =
      let quiet = (closed_on client up_to (middle ∷ rest) speak_rest came shut).0 in
      let parts = or_parts (list_any (comes_or_goes client) (middle ∷ later)) (list_any (comes_or_goes client) (two ∷ after))
      (sym (list_any-append (comes_or_goes client) (middle ∷ later) (two ∷ after)) ∙ quiet) in
      let last = or_parts (comes_or_goes client two) (list_any (comes_or_goes client) after) parts.1 in
      true_not_false (list_any (comes_or_goes client) after) (says_so client after next.1) last.1

  abbrev HeardFirst : Type 0
  HeardFirst = (t.is_open client (traffic source first) ≡ true) ⊎ ((is_any_open (traffic source first) ≡ false) × (next_client (between ++ middle ∷ rest) ≡ Some client))

  -- where it had not come before the one in the middle, nobody was there, and it comes next
  abbrev ComesNext : Type 0
  ComesNext = (is_any_open (traffic source up_to) ≡ false) × (next_client rest ≡ Some client)

  next_of : (o : Option ℕ) → next_client between ≡ o → option_or o (next_client rest) ≡ Some client → count_by is_connect up_to < client → next_client (one ∷ []) ≡ None →
      is_any_open (traffic source first) ≡ false → ComesNext
  next_of (Some other) is same new quiet shut =
      let came = came_in client (first ++ one ∷ []) between (subst (AllSpeak (first ++ one ∷ [])) refl (second_speak [] first (one ∷ between) speak_first).1) (is ∙ same) in
      let counts : count_by is_connect ((first ++ one ∷ []) ++ between) ≡ count_by is_connect up_to = ap (count_by is_connect) (append_assoc first (one ∷ []) between) in
      absurd (omega (arith, came, counts, new))
  next_of None is same new quiet shut =
      let none : next_client (one ∷ between) ≡ None = next_client-append (one ∷ []) between ∙ ap (λ (o : Option ℕ). option_or o (next_client between)) quiet ∙ is in
      let w = waits_on source (traffic source first) first (one ∷ between) (second_speak [] first (one ∷ between) speak_first) none
      (record { shut = shut; others = []; is = sym (append-nil (waiting (traffic source first))) }) in
      (w.shut, same)

  comes_next : next_client (one ∷ []) ≡ None → next_client (middle ∷ []) ≡ None → count_by is_connect up_to < client → HeardFirst → ComesNext
  comes_next quiet quiet_middle new (inl there) =
      let before : count_by is_connect first ≤ count_by is_connect up_to = omega (arith, count_by-append is_connect first (one ∷ between)) in
      let never = none_above [] first (λ c lt. refl) (first_speak [] first (one ∷ between) speak_first) client (omega (arith, before, new)) in
      absurd (none_open client first never (is_open_in client first (sym (open_same source client first) ∙ there)))
  comes_next quiet quiet_middle new (inr next) =
      let skips : next_client (middle ∷ rest) ≡ next_client rest = next_client-append (middle ∷ []) rest ∙ ap (λ (o : Option ℕ). option_or o (next_client rest)) quiet_middle in
      let same : option_or (next_client between) (next_client rest) ≡ Some client =
      ap (option_or (next_client between)) (sym skips) ∙ sym (next_client-append between (middle ∷ rest)) ∙ next.1 in
      next_of (next_client between) refl same new quiet next.0

  refused_between : (frame_one frame frame_two : List ℕ) → next_client (one ∷ []) ≡ None → next_client (middle ∷ []) ≡ None →
      is_in_stream (of_frame source buffer client first frame_one (between ++ middle ∷ rest)) ≡ true →
      is_in_stream (of_frame source buffer client (up_to ++ middle ∷ later) frame_two after) ≡ true →
      is_in_stream (of_frame source buffer client up_to frame rest) ≡ false →
      of_frame source buffer client up_to frame rest ≡ BufferFull (Some client)
  refused_between frame_one frame frame_two quiet quiet_middle heard_one heard_two not_heard = by_open (t.is_open client ts) refl where
    ts : List Traffic
    ts = traffic source up_to

    is_first : HeardFirst
    is_first =
        let us = traffic source first in
        heard_when (t.is_open client us) (is_any_open us) (leb (size_of (waiting us ++ frame_one ∷ [])) buffer) (length (stream source buffer client first)) client (length (waiting us)) (next_client (between ++ middle ∷ rest)) heard_one

    is_last : HeardLast
    is_last =
        let us = traffic source (up_to ++ middle ∷ later) in
        heard_when (t.is_open client us) (is_any_open us) (leb (size_of (waiting us ++ frame_two ∷ [])) buffer) (length (stream source buffer client (up_to ++ middle ∷ later))) client (length (waiting us)) (next_client after) heard_two

    by_open : (b : Bool) → t.is_open client (traffic source up_to) ≡ b → of_frame source buffer client up_to frame rest ≡ BufferFull (Some client)
    by_open true there =
        let us = traffic source up_to in
        let heard : is_in_stream (of_frame source buffer client up_to frame rest) ≡ true = ap (λ (b : Bool). is_in_stream (cond b (InStream (length (stream source buffer client up_to)))
        (cond (is_any_open us) ForOthers (cond (leb (size_of (waiting us ++ frame ∷ [])) buffer) (kept client (length (waiting us)) (next_client rest)) (BufferFull (next_client rest)))))) there in
        absurd (true_not_false (is_in_stream (of_frame source buffer client up_to frame rest)) heard not_heard)
    by_open false shut = elim (cases_lt (count_by is_connect up_to) client) [
      | inl new ↦
          let us = traffic source up_to in
          let next = comes_next quiet quiet_middle new is_first in
          refused_when (t.is_open client us) (is_any_open us) (leb (size_of (waiting us ++ frame ∷ [])) buffer) (length (stream source buffer client up_to)) client (length (waiting us)) (next_client rest) shut next.0 next.1 not_heard
      | inr came ↦ absurd (not_again (sym (open_same source client up_to) ∙ shut) came is_last)
    ]

-- ---- the fate of a call whose Log event is known

found_at : (source : FrameSource) (buffer client app writer call : ℕ) (moment : Moment) (start before after : List Event) → list_any (logs writer call) before ≡ false →
    of_queued source buffer client writer call start (before ++ event.Log app writer call moment ∷ after) ≡ of_frame source buffer client (start ++ before) (source.frame writer call) after
found_at source buffer client app writer call moment start [] after none =
    let log = event.Log app writer call moment in
    let here : logs writer call log ≡ true = ap (λ (b : Bool). b && eqb call call) (eq-eqb writer writer refl) ∙ eq-eqb call call refl in
    ap (λ (b : Bool). cond b (of_frame source buffer client start (source.frame writer call) after) (of_queued source buffer client writer call (start ++ log ∷ []) after)) here
    ∙ ap (λ (es : List Event). of_frame source buffer client es (source.frame writer call) after) (sym (append-nil start))
found_at source buffer client app writer call moment start (e ∷ before) after none =
    let parts = or_parts (logs writer call e) (list_any (logs writer call) before) none in
    let log = event.Log app writer call moment in
    ap (λ (b : Bool). cond b (of_frame source buffer client start (source.frame writer call) (before ++ log ∷ after)) (of_queued source buffer client writer call (start ++ e ∷ []) (before ++ log ∷ after))) parts.0
    ∙ found_at source buffer client app writer call moment (start ++ e ∷ []) before after parts.1
    ∙ ap (λ (es : List Event). of_frame source buffer client es (source.frame writer call) after) (append_assoc start (e ∷ []) before)

-- ---- counters

counted_on : (n : ℕ) (front back : List Record) → AreCounted n (front ++ back) → AreCounted (n + passed front) back
counted_on n [] back c = subst (λ (m : ℕ). AreCounted m back) (omega arith) c
counted_on n (r ∷ front) back c =
    subst (λ (m : ℕ). AreCounted m back) (same (is_answer answer.Filtered r.answer) (sum_by-cons (λ x. cond {A = ℕ} (not (is_answer answer.Filtered x.answer)) 1 0) r front))
    (counted_on (cond {A = ℕ} (is_answer answer.Filtered r.answer) n (n + 1)) front back c.1) where
      same : (b : Bool) → passed (r ∷ front) ≡ cond {A = ℕ} (not b) 1 0 + passed front → cond {A = ℕ} b n (n + 1) + passed front ≡ n + passed (r ∷ front)
      same true more = omega (arith, more)
      same false more = omega (arith, more)

-- ---- two calls that a client heard, and those between

module _ (setting : Setting) (source : FrameSource) (buffer client first writer refusals : ℕ) (pushed : List Claimed) (events : List Event) (one two : Record) (earlier between later : List Record)
    (formed : IsWellFormed setting source events) (owned : IsOwnedSoFar first events writer refusals pushed (earlier ++ one ∷ (between ++ two ∷ later))) where
  abbrev rs : List Record
  rs = earlier ++ one ∷ (between ++ two ∷ later)

  abbrev fate : Record → Fate
  fate r = what_became_of source buffer client events r

  abbrev IsHeard : Record → Type 0
  IsHeard r = is_in_stream (fate r) ≡ true

  by_given : (r : Record) (a : Answer) → r.answer ≡ a → fate r ≡ by_answer a (of_queued source buffer client r.item.writer r.item.call [] events)
  by_given r a is = ap (λ (x : Answer). by_answer x (of_queued source buffer client r.item.writer r.item.call [] events)) is

  heard_queued : (r : Record) → IsHeard r → r.answer ≡ answer.Queued
  heard_queued r is = by_cases r.answer refl where
    by_cases : (a : Answer) → r.answer ≡ a → r.answer ≡ answer.Queued
    by_cases answer.Queued same = same
    by_cases answer.Filtered same = absurd (true_not_false (is_in_stream (fate r)) is (ap is_in_stream (by_given r answer.Filtered same)))
    by_cases answer.Lost same = absurd (true_not_false (is_in_stream (fate r)) is (ap is_in_stream (by_given r answer.Lost same)))

  writer_of : (front back : List Record) (r : Record) → rs ≡ front ++ r ∷ back → r.item.writer ≡ writer
  writer_of front back r place = all_here (λ (x : Record). x.item.writer ≡ writer) front r back (subst (AllByRecursion (λ (x : Record). x.item.writer ≡ writer)) place owned.belongs.by_writer)

  -- the counters
  module _ (heard_one : IsHeard one) (heard_two : IsHeard two) where
    counter : two.item.mcnt ≡ (one.item.mcnt + 1 + passed between) % 256
    counter =
        let n = 0 + passed earlier in
        let at_one = counted_on 0 earlier (one ∷ (between ++ two ∷ later)) owned.account.counted in
        let unfiltered : is_answer answer.Filtered one.answer ≡ false = ap (is_answer answer.Filtered) (heard_queued one heard_one) in
        let next : AreCounted (n + 1) (between ++ two ∷ later) = subst (λ (b : Bool). AreCounted (cond {A = ℕ} b n (n + 1)) (between ++ two ∷ later)) unfiltered at_one.1 in
        let at_two = counted_on (n + 1) between (two ∷ later) next in
        modulo n (passed between) one.item.mcnt two.item.mcnt at_one.0 at_two.0 where
          modulo : (n missing a b : ℕ) → a ≡ n % 256 → b ≡ (n + 1 + missing) % 256 → b ≡ (a + 1 + missing) % 256
          modulo n missing a b ea eb = omega (arith, ea, eb)

    -- a queued call between them
    module _ (x y : List Record) (r : Record) (place : between ≡ x ++ r ∷ y) (queued : r.answer ≡ answer.Queued) (not_heard : is_in_stream (fate r) ≡ false) where
      front_two : List Record
      front_two = earlier ++ one ∷ (x ++ r ∷ y)

      is_rs : rs ≡ (earlier ++ one ∷ (x ++ r ∷ y)) ++ two ∷ later
      is_rs = ap (λ (l : List Record). earlier ++ one ∷ (l ++ two ∷ later)) place ∙ sym (append_assoc earlier (one ∷ (x ++ r ∷ y)) (two ∷ later))

      two_writer : two.item.writer ≡ writer
      two_writer = writer_of (earlier ++ one ∷ (x ++ r ∷ y)) later two is_rs

      one_writer : one.item.writer ≡ writer
      one_writer = writer_of earlier (between ++ two ∷ later) one refl

      r_writer : r.item.writer ≡ writer
      r_writer = writer_of (earlier ++ one ∷ x) (y ++ two ∷ later) r (ap (λ (l : List Record). earlier ++ one ∷ (l ++ two ∷ later)) place ∙ moved) where
        moved : earlier ++ one ∷ ((x ++ r ∷ y) ++ two ∷ later) ≡ (earlier ++ one ∷ x) ++ r ∷ (y ++ two ∷ later)
        moved = simp append_assoc

      abbrev q : List Record → List ℕ
      q records = queued_numbers records

      -- the numbers of the queued ones
      numbers_front : q (earlier ++ one ∷ (x ++ r ∷ y)) ≡ (q earlier ++ one.item.call ∷ q x) ++ r.item.call ∷ q y
      numbers_front =
          queued_here earlier (x ++ r ∷ y) one (heard_queued one heard_one) ∙ ap (λ (ns : List ℕ). q earlier ++ one.item.call ∷ ns) (queued_here x y r queued)
          ∙ sym (append_assoc (q earlier) (one.item.call ∷ q x) (r.item.call ∷ q y))

      numbers_all : q rs ≡ q (earlier ++ one ∷ (x ++ r ∷ y)) ++ two.item.call ∷ q later
      numbers_all = ap queued_numbers is_rs ∙ queued_here (earlier ++ one ∷ (x ++ r ∷ y)) later two (heard_queued two heard_two)

      rises : Rising 1 (q (earlier ++ one ∷ (x ++ r ∷ y)) ++ two.item.call ∷ q later)
      rises = subst (Rising 1) numbers_all (queued_rise first events writer refusals pushed rs owned)

      none_two : has two.item.call (q (earlier ++ one ∷ (x ++ r ∷ y))) ≡ false
      none_two = (alone 1 two.item.call (q (earlier ++ one ∷ (x ++ r ∷ y))) (q later) rises).1

      rises_r : Rising 1 ((q earlier ++ one.item.call ∷ q x) ++ r.item.call ∷ (q y ++ two.item.call ∷ q later))
      rises_r = subst (Rising 1) (ap (λ (ns : List ℕ). ns ++ two.item.call ∷ q later) numbers_front ∙ append_assoc (q earlier ++ one.item.call ∷ q x) (r.item.call ∷ q y) (two.item.call ∷ q later)) rises

      none_r : has r.item.call (q earlier ++ one.item.call ∷ q x) ≡ false
      none_r = (alone 1 r.item.call (q earlier ++ one.item.call ∷ q x) (q y ++ two.item.call ∷ q later) rises_r).1

      rises_one : Rising 1 (q earlier ++ one.item.call ∷ (q x ++ r.item.call ∷ (q y ++ two.item.call ∷ q later)))
      rises_one = subst (Rising 1) (append_assoc (q earlier) (one.item.call ∷ q x) (r.item.call ∷ (q y ++ two.item.call ∷ q later))) rises_r

      none_one : has one.item.call (q earlier) ≡ false
      none_one = (alone 1 one.item.call (q earlier) (q x ++ r.item.call ∷ (q y ++ two.item.call ∷ q later)) rises_one).1

      -- the place of the last one's Log event, and then of the others before it
      by_place : Finds source buffer writer two.item.call [] events → fate r ≡ BufferFull (Some client)
      by_place f =
          let l = f.logged in
          let logged = logged_queued first events writer refusals pushed rs owned in
          let here : numbers_logged writer events ≡ numbers_logged writer l.before ++ two.item.call ∷ numbers_logged writer l.after =
          ap (numbers_logged writer) l.place ∙ number_here l.app writer two.item.call l.moment l.before l.after in
          let spelled : numbers_logged writer l.before ++ two.item.call ∷ (numbers_logged writer l.after ++ logged.0) ≡ q (earlier ++ one ∷ (x ++ r ∷ y)) ++ two.item.call ∷ q later =
          sym (append_assoc (numbers_logged writer l.before) (two.item.call ∷ numbers_logged writer l.after) logged.0) ∙ ap (λ (ns : List ℕ). ns ++ logged.0) (sym here) ∙ logged.1 ∙ numbers_all in
          let before_two : numbers_logged writer l.before ≡ q (earlier ++ one ∷ (x ++ r ∷ y)) =
          one_place two.item.call (numbers_logged writer l.before) (numbers_logged writer l.after ++ logged.0) (q (earlier ++ one ∷ (x ++ r ∷ y))) (q later)
          (sym (logs_number writer two.item.call l.before) ∙ l.first) none_two spelled in
          let m = logged_at writer r.item.call l.before (q earlier ++ one.item.call ∷ q x) (q y) (before_two ∙ numbers_front) in
          let k = logged_at writer one.item.call m.before (q earlier) (q x) m.first in
          let log_one = event.Log k.app writer one.item.call k.moment in
          let log_r = event.Log m.app writer r.item.call m.moment in
          let log_two = event.Log l.app writer two.item.call l.moment in
          let up_to = k.before ++ log_one ∷ k.after in
          let split : events ≡ ((k.before ++ log_one ∷ k.after) ++ log_r ∷ m.after) ++ log_two ∷ l.after =
          l.place ∙ ap (λ (es : List Event). es ++ log_two ∷ l.after) (m.place ∙ ap (λ (es : List Event). es ++ log_r ∷ m.after) k.place) in
          let to_r : events ≡ (k.before ++ log_one ∷ k.after) ++ log_r ∷ (m.after ++ log_two ∷ l.after) = split ∙ append_assoc (k.before ++ log_one ∷ k.after) (log_r ∷ m.after) (log_two ∷ l.after) in
          let to_one : events ≡ k.before ++ log_one ∷ (k.after ++ log_r ∷ (m.after ++ log_two ∷ l.after)) = to_r ∙ append_assoc k.before (log_one ∷ k.after) (log_r ∷ (m.after ++ log_two ∷ l.after)) in
          let silent_one : list_any (logs writer one.item.call) k.before ≡ false = logs_number writer one.item.call k.before ∙ ap (has one.item.call) k.first ∙ none_one in
          let silent_r : list_any (logs writer r.item.call) (k.before ++ log_one ∷ k.after) ≡ false =
          logs_number writer r.item.call (k.before ++ log_one ∷ k.after) ∙ ap (λ (es : List Event). has r.item.call (numbers_logged writer es)) (sym k.place) ∙ ap (has r.item.call) m.first ∙ none_r in
          let silent_two : list_any (logs writer two.item.call) ((k.before ++ log_one ∷ k.after) ++ log_r ∷ m.after) ≡ false =
          ap (list_any (logs writer two.item.call)) (sym (m.place ∙ ap (λ (es : List Event). es ++ log_r ∷ m.after) k.place)) ∙ l.first in
          let fate_one : fate one ≡ of_frame source buffer client k.before (source.frame writer one.item.call) (k.after ++ log_r ∷ (m.after ++ log_two ∷ l.after)) =
          by_given one answer.Queued (heard_queued one heard_one) ∙ ap (λ (w : ℕ). of_queued source buffer client w one.item.call [] events) one_writer
          ∙ ap (of_queued source buffer client writer one.item.call []) to_one ∙ found_at source buffer client k.app writer one.item.call k.moment [] k.before (k.after ++ log_r ∷ (m.after ++ log_two ∷ l.after)) silent_one in
          let fate_r : fate r ≡ of_frame source buffer client up_to (source.frame writer r.item.call) (m.after ++ log_two ∷ l.after) =
          by_given r answer.Queued queued ∙ ap (λ (w : ℕ). of_queued source buffer client w r.item.call [] events) r_writer
          ∙ ap (of_queued source buffer client writer r.item.call []) to_r ∙ found_at source buffer client m.app writer r.item.call m.moment [] (k.before ++ log_one ∷ k.after) (m.after ++ log_two ∷ l.after) silent_r in
          let fate_two : fate two ≡ of_frame source buffer client (up_to ++ log_r ∷ m.after) (source.frame writer two.item.call) l.after =
          by_given two answer.Queued (heard_queued two heard_two) ∙ ap (λ (w : ℕ). of_queued source buffer client w two.item.call [] events) two_writer
          ∙ ap (of_queued source buffer client writer two.item.call []) split ∙ found_at source buffer client l.app writer two.item.call l.moment [] ((k.before ++ log_one ∷ k.after) ++ log_r ∷ m.after) l.after silent_two in
          fate_r ∙ refused_between setting source buffer client log_one log_r log_two k.before k.after m.after l.after (subst (IsWellFormed setting source) split formed)
          (source.frame writer one.item.call) (source.frame writer r.item.call) (source.frame writer two.item.call) refl refl
          (ap is_in_stream (sym fate_one) ∙ heard_one) (ap is_in_stream (sym fate_two) ∙ heard_two) (ap is_in_stream (sym fate_r) ∙ not_heard)

      refused : Searched source buffer writer two.item.call [] events → fate r ≡ BufferFull (Some client)
      refused (inl f) = by_place f
      refused (inr none) =
          let same : fate two ≡ InRing = by_given two answer.Queued (heard_queued two heard_two) ∙ ap (λ (w : ℕ). of_queued source buffer client w two.item.call [] events) two_writer ∙ none.1 client in
          absurd (true_not_false (is_in_stream (fate two)) heard_two (ap is_in_stream same))

    missing : (x y : List Record) (r : Record) → between ≡ x ++ r ∷ y → is_in_stream (fate r) ≡ false → (a : Answer) → r.answer ≡ a → IsMissing client (fate r)
    missing x y r place not_heard answer.Filtered is = subst (IsMissing client) (sym (by_given r answer.Filtered is)) tt
    missing x y r place not_heard answer.Lost is = subst (IsMissing client) (sym (by_given r answer.Lost is)) tt
    missing x y r place not_heard answer.Queued is = subst (IsMissing client) (sym (refused x y r place is not_heard (searched source buffer writer two.item.call [] events))) refl

    pub tells : AllByRecursion (λ r. is_in_stream (what_became_of source buffer client events r) ≡ false) between → TellsHole source buffer client events one two between
    tells none = record {
      counter = counter;
      causes = all_places (λ r. IsMissing client (what_became_of source buffer client events r)) [] between (λ x r y place.
          missing x y r place (all_here (λ r. is_in_stream (what_became_of source buffer client events r) ≡ false) x r y (subst (AllByRecursion (λ r. is_in_stream (what_became_of source buffer client events r) ≡ false)) place none)) r.answer refl);
    }
