-- The calls that were lost between two that a client hears are the gap between their counters.
use Rattle.std.proofs.Common.{◌≡◌, ℕ, ◌+◌, ◌*◌, ◌%◌, ◌<◌, Bool, true, false, cond, eqb, List, [], ◌∷◌, ◌++◌, length, map, Option, Some, None, refl, sym, ap, subst, ◌∙◌, append_assoc, length-append, arith}
use Rattle.std.specs.List.{filter, filter_map, AllByRecursion}
use Rattle.std.specs.Option.{option_or, option_map_or}
use Rattle.std.proofs.lemmas.List.{map-append}
use Rattle.std.proofs.lemmas.List.Elements.{filter-append, filter_map-append}
use Rattle.dl_bytes.specs.declared.item.Item.{Item}
use Rattle.dl_bytes.specs.declared.level.Severity.{Severity}
use Rattle.dl_bytes.specs.declared.level.Severity.TheVariants as severity
use Rattle.dl_bytes.specs.declared.moment.Moment.{Moment}
use Rattle.dl_bytes.specs.Level.{severity_number}
use Rattle.dl_headers.proofs.Lengths.{standard_long}
use Rattle.dl_events.specs.declared.event.Event.{Event}
use Rattle.dl_events.specs.declared.event.Event.TheVariants as event
use Rattle.dl_events.specs.declared.record.Record.{Record}
use Rattle.dl_events.specs.declared.record.Answer.{Answer}
use Rattle.dl_events.specs.declared.record.Answer.TheVariants as answer
use Rattle.dl_headers.specs.declared.header.Extended.{Extended}
use Rattle.dl_headers.specs.Header.{standard_header, extended_header, IsStandard, IsExtended}
use Rattle.dl_headers.specs.Message.{IsMessage}
use Rattle.dl_message.specs.Frames.{log_call, log_message, IsLogCall}
use Rattle.dl_model.specs.Accounts.{logged_of, order, of_writer, name_of, with_answer, AreCounted}
use Rattle.dl_model.specs.Along.{along_from}
use Rattle.dl_model.specs.ClientStream.{traffic_of}
use Rattle.dl_model.specs.Frames.{FrameSource}
use Rattle.dl_model.specs.Report.{is_answer}
use Rattle.dl_model.specs.Traffic.{meant_for}
use Rattle.dl_model.proofs.Lists.{along_from-append}
use Rattle.dl_model.proofs.ClientStreams.{same_number}
use Rattle.dl_receive.specs.declared.kind.Kind.{Kind}
use Rattle.dl_receive.specs.declared.kind.Kind.TheVariants.{Log}
use Rattle.dl_receive.specs.declared.counting.Counted.{Counted}
use Rattle.dl_receive.specs.declared.counting.Counting.TheVariants.{Sessions}
use Rattle.dl_receive.specs.declared.counting.Entry.{Entry}
use Rattle.dl_receive.specs.Calls.{heard_frames, AreFramed, logged, AreInOrder, lost, Neighbours}
use Rattle.dl_receive.specs.Counting.{by_session, entry_of, entry_with, of_session, same_counted, session_counter}
use Rattle.dl_receive.specs.MessageKind.{kind_of, kind_by}
use Rattle.dl_receive.specs.Text.{counter_for, last_counter, passed_over}
use Rattle.dl_receive.proofs.Fields.{kind_read, extended_long}
use Rattle.dl_lemmas.proofs.Options.{or_assoc}
use Rattle.dl_lemmas.proofs.Lists.{all_here}

-- ---- the frame of a call

is_log : (ecu : List ℕ) (item : Item) → length ecu ≡ 4 → IsLogCall item → IsMessage (log_call ecu item) (log_message ecu item)
is_log ecu item four is =
    let m = log_call ecu item in
    let standard : IsStandard m.standard = record { version = refl; room = omega arith; len = omega (arith, is.payload); ecu = four; session = is.writer; ticks = is.at } in
    let head : Extended = record { msin = 16 * severity_number item.severity + 1; noar = item.payload.args; apid = item.apid; ctid = item.ctid } in
    let extended : IsExtended head = record { apid = is.apid; ctid = is.ctid } in
    let first : length (standard_header m.standard) ≡ 16 = standard_long m.standard standard in
    let second : length (extended_header head) ≡ 10 = extended_long head extended in
    let all : length (log_message ecu item) ≡ 26 + length item.payload.bytes =
    omega (arith, length-append (standard_header m.standard ++ extended_header head) item.payload.bytes, length-append (standard_header m.standard) (extended_header head), first, second) in
    record { spelled = refl; standard = standard; extended = extended; told = refl; len = all }

by_severity : (s : Severity) (mcnt len writer : ℕ) (apid ctid payload : List ℕ) → kind_by 0x3d mcnt len (Some writer) (16 * severity_number s + 1) apid ctid payload ≡ Log writer mcnt apid ctid len
by_severity severity.Fatal mcnt len writer apid ctid payload = refl
by_severity severity.Error mcnt len writer apid ctid payload = refl
by_severity severity.Warn mcnt len writer apid ctid payload = refl
by_severity severity.Info mcnt len writer apid ctid payload = refl
by_severity severity.Debug mcnt len writer apid ctid payload = refl
by_severity severity.Verbose mcnt len writer apid ctid payload = refl

abbrev kind_of_call : Item → Kind
kind_of_call item = Log item.writer item.mcnt item.apid item.ctid (26 + length item.payload.bytes)

log_kind : (ecu : List ℕ) (item : Item) → length ecu ≡ 4 → IsLogCall item → kind_of (log_message ecu item) ≡ kind_of_call item
log_kind ecu item four is =
    kind_read (log_call ecu item) (log_message ecu item) (is_log ecu item four is)
    ∙ by_severity item.severity item.mcnt (26 + length item.payload.bytes) item.writer item.apid item.ctid item.payload.bytes

-- ---- a writer's records

record First {A B : Type 0} (q : A → Bool) (f : A → B) (xs : List A) (b : B) (others : List B) : Type 0 where
  skipped : List A
  it : A
  rest : List A
  parts : xs ≡ skipped ++ it ∷ rest
  none : filter q skipped ≡ []
  passes : q it ≡ true
  is : f it ≡ b
  later : map f (filter q rest) ≡ others

first_of : {A B : Type 0} (q : A → Bool) (f : A → B) (xs : List A) (b : B) (others : List B) → map f (filter q xs) ≡ b ∷ others → First q f xs b others
first_of q f [] b others e = absurd cc
first_of {A} {B} q f (x ∷ xs) b others e = by_test (q x) refl e (first_of q f xs b others) where
  by_test : (t : Bool) → q x ≡ t → map f (cond t (x ∷ filter q xs) (filter q xs)) ≡ b ∷ others → (map f (filter q xs) ≡ b ∷ others → First q f xs b others) → First q f (x ∷ xs) b others
  by_test true is e later = record { skipped = []; it = x; rest = xs; parts = refl; none = refl; passes = is; is = cc; later = cc }
  by_test false is e later =
      let l = later e in
      record {
        skipped = x ∷ l.skipped;
        it = l.it;
        rest = l.rest;
        parts = ap (λ (ys : List A). x ∷ ys) l.parts;
        none = ap (λ t. cond t (x ∷ filter q l.skipped) (filter q l.skipped)) is ∙ l.none;
        passes = l.passes;
        is = l.is;
        later = l.later;
      }

record Among {A B : Type 0} (q : A → Bool) (f : A → B) (xs : List A) (b : B) (others : List B) : Type 0 where
  skipped : List A
  it : A
  rest : List A
  parts : xs ≡ skipped ++ it ∷ rest
  passes : q it ≡ true
  is : f it ≡ b
  later : map f (filter q rest) ≡ others

among_of : {A B : Type 0} (q : A → Bool) (f : A → B) (xs : List A) (front : List B) (b : B) (others : List B) → map f (filter q xs) ≡ front ++ b ∷ others → Among q f xs b others
among_of q f xs [] b others e =
    let l = first_of q f xs b others e in
    record { skipped = l.skipped; it = l.it; rest = l.rest; parts = l.parts; passes = l.passes; is = l.is; later = l.later }
among_of {A} q f xs (c ∷ front) b others e =
    let l = first_of q f xs c (front ++ b ∷ others) e in
    let m = among_of q f l.rest front b others l.later in
    record {
      skipped = l.skipped ++ l.it ∷ m.skipped;
      it = m.it;
      rest = m.rest;
      parts = l.parts ∙ ap (λ (ys : List A). l.skipped ++ l.it ∷ ys) m.parts ∙ sym (append_assoc l.skipped (l.it ∷ m.skipped) (m.it ∷ m.rest));
      passes = m.passes;
      is = m.is;
      later = m.later;
    }

-- the count goes on behind other records
counted_behind : (passed : ℕ) (front back : List Record) → AreCounted passed (front ++ back) → (n : ℕ) × AreCounted n back
counted_behind passed [] back c = (passed, c)
counted_behind passed (r ∷ front) back c = counted_behind (cond (is_answer answer.Filtered r.answer) passed (passed + 1)) front back c.1

-- where the ring took none of them, by so many as were lost
counted_lost : (passed : ℕ) (front back : List Record) → with_answer answer.Queued front ≡ [] → AreCounted passed (front ++ back) → AreCounted (passed + lost front) back
counted_lost passed [] back none c = subst (λ (n : ℕ). AreCounted n back) (omega arith) c
counted_lost passed (r ∷ front) back none c = by_answer r.answer refl (λ p queued rest. counted_lost p front back queued rest) where
  by_answer : (a : Answer) → r.answer ≡ a → ((p : ℕ) → with_answer answer.Queued front ≡ [] → AreCounted p (front ++ back) → AreCounted (p + lost front) back)
      → AreCounted (passed + lost (r ∷ front)) back
  by_answer answer.Filtered e go =
      let rest : AreCounted passed (front ++ back) = subst (λ (a : Answer). AreCounted (cond (is_answer answer.Filtered a) passed (passed + 1)) (front ++ back)) e c.1 in
      let queued : with_answer answer.Queued front ≡ [] = ap (λ (a : Answer). cond (is_answer answer.Queued a) (r ∷ with_answer answer.Queued front) (with_answer answer.Queued front)) (sym e) ∙ none in
      let same : lost (r ∷ front) ≡ lost front = ap (λ (a : Answer). length (cond (is_answer answer.Lost a) (r ∷ with_answer answer.Lost front) (with_answer answer.Lost front))) e in
      subst (λ (n : ℕ). AreCounted (passed + n) back) (sym same) (go passed queued rest)
  by_answer answer.Lost e go =
      let rest : AreCounted (passed + 1) (front ++ back) = subst (λ (a : Answer). AreCounted (cond (is_answer answer.Filtered a) passed (passed + 1)) (front ++ back)) e c.1 in
      let queued : with_answer answer.Queued front ≡ [] = ap (λ (a : Answer). cond (is_answer answer.Queued a) (r ∷ with_answer answer.Queued front) (with_answer answer.Queued front)) (sym e) ∙ none in
      let more : lost (r ∷ front) ≡ 1 + lost front = ap (λ (a : Answer). length (cond (is_answer answer.Lost a) (r ∷ with_answer answer.Lost front) (with_answer answer.Lost front))) e ∙ omega arith in
      subst (λ (n : ℕ). AreCounted n back) (omega (arith, more)) (go (passed + 1) queued rest)
  by_answer answer.Queued e go =
      let some : r ∷ with_answer answer.Queued front ≡ [] = ap (λ (a : Answer). cond (is_answer answer.Queued a) (r ∷ with_answer answer.Queued front) (with_answer answer.Queued front)) (sym e) ∙ none in
      absurd cc

not_filtered : (a : Answer) → is_answer answer.Queued a ≡ true → is_answer answer.Filtered a ≡ false
not_filtered answer.Filtered e = absurd cc
not_filtered answer.Queued e = refl
not_filtered answer.Lost e = absurd cc

counters_apart : (passed missing a b : ℕ) → a ≡ passed % 256 → b ≡ (passed + 1 + missing) % 256 → missing < 256 → passed_over a b ≡ missing
counters_apart passed missing a b ea eb few = omega (arith, ea, eb, few)

-- ---- the last counter of a session

same_session : (session : ℕ) → same_counted (of_session session) (of_session session) ≡ true
same_session session = rw (same_number session) refl

or_none : (x : Option ℕ) → option_or x None ≡ x
or_none None = refl
or_none (Some x) = refl

last_counter-append : (who : Counted) (xs ys : List Entry) → last_counter who (xs ++ ys) ≡ option_or (last_counter who ys) (last_counter who xs)
last_counter-append who [] ys = sym (or_none (last_counter who ys))
last_counter-append who (x ∷ xs) ys =
    ap (λ (o : Option ℕ). option_or o (counter_for who x)) (last_counter-append who xs ys) ∙ or_assoc (last_counter who ys) (last_counter who xs) (counter_for who x)

-- a log message of a session with this counter
abbrev logs : (session mcnt : ℕ) → Kind → Entry
logs session mcnt kind = entry_with kind (Some (session_counter session mcnt))

last_here : (session mcnt : ℕ) (kind : Kind) (before between : List Entry) → last_counter (of_session session) between ≡ None
    → last_counter (of_session session) (before ++ logs session mcnt kind ∷ between) ≡ Some mcnt
last_here session mcnt kind before between none =
    let here : last_counter (of_session session) (logs session mcnt kind ∷ between) ≡ Some mcnt =
    ap (λ (o : Option ℕ). option_or o (counter_for (of_session session) (logs session mcnt kind))) none ∙ ap (λ (b : Bool). cond b (Some mcnt) None) (same_session session) in
    last_counter-append (of_session session) before (logs session mcnt kind ∷ between) ∙ ap (λ (o : Option ℕ). option_or o (last_counter (of_session session) before)) here

-- ---- the law

logged-here : (app writer call : ℕ) (moment : Moment) (front back : List Event) → logged app writer (front ++ event.Log app writer call moment ∷ back) ≡ logged app writer front ++ (writer, call) ∷ logged app writer back
logged-here app writer call moment front back =
    let one : filter_map (logged_of app) (event.Log app writer call moment ∷ back) ≡ (writer, call) ∷ order app back = rw (same_number app) refl in
    ap (filter (of_writer writer)) (filter_map-append (logged_of app) front (event.Log app writer call moment ∷ back) ∙ ap (λ (x : List (ℕ × ℕ)). order app front ++ x) one)
    ∙ filter-append (of_writer writer) (order app front) ((writer, call) ∷ order app back)
    ∙ ap (λ (b : Bool). logged app writer front ++ cond b ((writer, call) ∷ logged app writer back) (logged app writer back)) (same_number writer)

heard-append : (source : FrameSource) (client : ℕ) (before xs ys : List Event)
    → heard_frames source client before (xs ++ ys) ≡ heard_frames source client before xs ++ heard_frames source client (before ++ xs) ys
heard-append source client before xs ys =
    ap (filter_map (meant_for client)) (along_from-append (traffic_of source) before xs ys)
    ∙ filter_map-append (meant_for client) (along_from (traffic_of source) before xs) (along_from (traffic_of source) (before ++ xs) ys)

regroup : {X : Type 0} (earlier front between back later : List X) (x y : X)
    → earlier ++ ((front ++ x ∷ (between ++ y ∷ back)) ++ later) ≡ ((earlier ++ front) ++ x ∷ between) ++ y ∷ (back ++ later)
regroup earlier front between back later x y = simp append_assoc

module _ (source : FrameSource) (client app writer first second : ℕ) (at then : Moment) (earlier later : List (List ℕ))
    (before front between back after : List Event) (records : List Record) (four : length source.ecu ≡ 4) (framed : AreFramed source records) (counted : AreCounted 0 records)
    (in_order : AreInOrder app writer (before ++ ((front ++ event.Log app writer first at ∷ (between ++ event.Log app writer second then ∷ back)) ++ after)) records)
    (none : logged app writer between ≡ []) where
  abbrev log_one : Event
  log_one = event.Log app writer first at

  abbrev log_two : Event
  log_two = event.Log app writer second then

  abbrev heard : List Event
  heard = front ++ log_one ∷ (between ++ log_two ∷ back)

  -- ---- the records

  abbrev ahead : List (ℕ × ℕ)
  ahead = logged app writer (before ++ front)

  abbrev behind : List (ℕ × ℕ)
  behind = logged app writer (back ++ after)

  place : before ++ (heard ++ after) ≡ (before ++ front) ++ log_one ∷ (between ++ log_two ∷ (back ++ after))
  place = simp append_assoc

  names : logged app writer (before ++ (heard ++ after)) ≡ ahead ++ (writer, first) ∷ ((writer, second) ∷ behind)
  names =
      ap (logged app writer) place ∙ logged-here app writer first at (before ++ front) (between ++ log_two ∷ (back ++ after))
      ∙ ap (λ (x : List (ℕ × ℕ)). ahead ++ (writer, first) ∷ x) (logged-here app writer second then between (back ++ after) ∙ ap (λ (x : List (ℕ × ℕ)). x ++ (writer, second) ∷ behind) none)

  abbrev is_queued : Record → Bool
  is_queued r = is_answer answer.Queued r.answer

  abbrev named : Record → ℕ × ℕ
  named r = name_of r.item

  queued : map named (filter is_queued records) ≡ ahead ++ (writer, first) ∷ ((writer, second) ∷ (behind ++ in_order.0))
  queued = in_order.1 ∙ ap (λ (x : List (ℕ × ℕ)). x ++ in_order.0) names ∙ append_assoc ahead ((writer, first) ∷ ((writer, second) ∷ behind)) in_order.0

  abbrev m : Among is_queued named records (writer, first) ((writer, second) ∷ (behind ++ in_order.0))
  m = among_of is_queued named records ahead (writer, first) ((writer, second) ∷ (behind ++ in_order.0)) queued

  abbrev f : First is_queued named m.rest (writer, second) (behind ++ in_order.0)
  f = first_of is_queued named m.rest (writer, second) (behind ++ in_order.0) m.later

  records_are : records ≡ m.skipped ++ m.it ∷ (f.skipped ++ f.it ∷ f.rest)
  records_are = m.parts ∙ ap (λ (x : List Record). m.skipped ++ m.it ∷ x) f.parts

  -- ---- their frames

  abbrev IsFramed : Record → Type 0
  IsFramed r = IsLogCall r.item × (source.frame r.item.writer r.item.call ≡ log_message source.ecu r.item)

  framed_one : IsFramed m.it
  framed_one = all_here IsFramed m.skipped m.it m.rest (subst (AllByRecursion IsFramed) m.parts framed)

  framed_two : IsFramed f.it
  framed_two =
      all_here IsFramed (m.skipped ++ m.it ∷ f.skipped) f.it f.rest
      (subst (AllByRecursion IsFramed) (records_are ∙ sym (append_assoc m.skipped (m.it ∷ f.skipped) (f.it ∷ f.rest))) framed)

  kind_at : (r : Record) (call : ℕ) → name_of r.item ≡ (writer, call) → IsFramed r
      → kind_of (source.frame writer call) ≡ Log writer r.item.mcnt r.item.apid r.item.ctid (26 + length r.item.payload.bytes)
  kind_at r call is fr =
      ap (λ (p : ℕ × ℕ). kind_of (source.frame p.0 p.1)) (sym is) ∙ ap kind_of fr.1 ∙ log_kind source.ecu r.item four fr.0
      ∙ ap (λ (p : ℕ × ℕ). Log p.0 r.item.mcnt r.item.apid r.item.ctid (26 + length r.item.payload.bytes)) is

  -- ---- their counters

  count_one : (n : ℕ) × AreCounted n (m.it ∷ m.rest)
  count_one = counted_behind 0 m.skipped (m.it ∷ m.rest) (subst (AreCounted 0) m.parts counted)

  count_next : AreCounted (count_one.0 + 1) m.rest
  count_next = subst (λ (b : Bool). AreCounted (cond b count_one.0 (count_one.0 + 1)) m.rest) (not_filtered m.it.answer m.passes) count_one.1.1

  count_two : AreCounted (count_one.0 + 1 + lost f.skipped) (f.it ∷ f.rest)
  count_two = counted_lost (count_one.0 + 1) f.skipped (f.it ∷ f.rest) f.none (subst (AreCounted (count_one.0 + 1)) f.parts count_next)

  -- ---- the stream

  abbrev front_frames : List (List ℕ)
  front_frames = heard_frames source client before front

  abbrev between_frames : List (List ℕ)
  between_frames = heard_frames source client (before ++ (front ++ log_one ∷ [])) between

  abbrev back_frames : List (List ℕ)
  back_frames = heard_frames source client ((((before ++ front) ++ log_one ∷ []) ++ between) ++ log_two ∷ []) back

  heard_split : heard_frames source client before heard ≡ front_frames ++ source.frame writer first ∷ (between_frames ++ source.frame writer second ∷ back_frames)
  heard_split =
      heard-append source client before front (log_one ∷ (between ++ log_two ∷ back))
      ∙ ap (λ (x : List (List ℕ)). front_frames ++ source.frame writer first ∷ x) (heard-append source client ((before ++ front) ++ log_one ∷ []) between (log_two ∷ back)
      ∙ ap (λ (b : List Event). heard_frames source client b between ++ source.frame writer second ∷ back_frames) (append_assoc before front (log_one ∷ [])))

  abbrev said_before : List (List ℕ)
  said_before = earlier ++ front_frames

  -- what a receiver that counts by session has of a call's frame
  entry_at : (r : Record) (call : ℕ) → name_of r.item ≡ (writer, call) → IsFramed r
      → entry_of Sessions (source.frame writer call) ≡ logs writer r.item.mcnt (Log writer r.item.mcnt r.item.apid r.item.ctid (26 + length r.item.payload.bytes))
  entry_at r call is fr = ap (λ (k : Kind). entry_with k (by_session k)) (kind_at r call is fr)

  abbrev entries_before : List Entry
  entries_before = map (entry_of Sessions) said_before

  abbrev entries_between : List Entry
  entries_between = map (entry_of Sessions) between_frames

  last_is : last_counter (of_session writer) entries_between ≡ None
      → last_counter (of_session writer) (map (entry_of Sessions) (said_before ++ source.frame writer first ∷ between_frames)) ≡ Some m.it.item.mcnt
  last_is quiet =
      let item = m.it.item in
      let kind = Log writer item.mcnt item.apid item.ctid (26 + length item.payload.bytes) in
      ap (last_counter (of_session writer)) (map-append (entry_of Sessions) said_before (source.frame writer first ∷ between_frames))
      ∙ ap (λ (e : Entry). last_counter (of_session writer) (entries_before ++ e ∷ entries_between)) (entry_at m.it first m.is framed_one)
      ∙ last_here writer item.mcnt kind entries_before entries_between quiet

  pub gaps : Neighbours source writer first second (earlier ++ (heard_frames source client before heard ++ later)) between_frames records
  gaps = record {
    one = m.it;
    two = f.it;
    earlier = m.skipped;
    middle = f.skipped;
    later = f.rest;
    records_are = records_are;
    one_is = m.is;
    two_is = f.is;
    before = said_before;
    after = back_frames ++ later;
    stream_is = ap (λ (x : List (List ℕ)). earlier ++ (x ++ later)) heard_split ∙ regroup earlier front_frames between_frames back_frames later (source.frame writer first) (source.frame writer second);
    kind_is = kind_at f.it second f.is framed_two;
    gap_is = λ few quiet.
        ap (λ (o : Option ℕ). option_map_or (λ last. passed_over last f.it.item.mcnt) o 0) (last_is quiet)
        ∙ counters_apart count_one.0 (lost f.skipped) m.it.item.mcnt f.it.item.mcnt count_one.1.0 count_two.0 few;
  }
