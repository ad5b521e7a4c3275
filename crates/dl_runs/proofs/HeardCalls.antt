-- A client that was there throughout hears each queued call once, and the overflow records count the lost ones.
use Rattle.std.proofs.Common.{◌≡◌, ℕ, ◌+◌, ◌-◌, Bool, true, false, cond, eqb, List, [], ◌∷◌, ◌++◌, length, map, drop, take, Option, Some, None, refl, sym, ap, subst, ◌∙◌, append_assoc, arith, inl, inr}
use Rattle.std.specs.Prelude.{not, sum}
use Rattle.std.specs.List.{after_last, cons_option, filter, find, range_with_len, suffix_len, AllByRecursion}
use Rattle.std.specs.Option.{option_map_or}
use Rattle.std.proofs.lemmas.Bool.{cases_eq, eq-eqb, eqb-true}
use Rattle.std.proofs.lemmas.List.{append-nil, map-append, take-append-drop}
use Rattle.std.proofs.lemmas.List.Elements.{filter_map-append}
use Rattle.std.proofs.lemmas.List.Sums.{sum_by-append, sum_by-cons}
use Rattle.dl_bytes.specs.Claim.{Claimed}
use Rattle.dl_bytes.specs.Id.{zero_id}
use Rattle.dl_bytes.specs.declared.conf.AppSpec.{AppSpec}
use Rattle.dl_message.specs.Frames.{log_message, overflow_record}
use Rattle.dl_events.specs.declared.event.Event.{Event}
use Rattle.dl_events.specs.declared.event.Event.TheVariants as event
use Rattle.dl_events.specs.declared.event.Why.{Why}
use Rattle.dl_events.specs.declared.record.Record.{Record}
use Rattle.dl_events.specs.declared.record.Answer.TheVariants as answer
use Rattle.dl_model.specs.Accounts.{of_writer, order, with_answer}
use Rattle.dl_model.specs.Backlog.{due_backlog, waiting}
use Rattle.dl_model.specs.ClientStream.{stream, traffic}
use Rattle.dl_model.specs.Frames.{FrameSource, admitted}
use Rattle.dl_model.specs.Journal.{IsWellFormed}
use Rattle.dl_model.specs.Overflow.{counters}
use Rattle.dl_model.specs.Report.{is_answer, lost_of, records_of_app, reported}
use Rattle.dl_model.specs.Setting.{Setting}
use Rattle.dl_model.specs.Traffic.{Traffic, admitted_in, frame_of, is_any_open, is_going}
use Rattle.dl_model.specs.WholeAccounts.{IsAccounted, IsOwned, apid_in, frame_of_record, records_by, claims_by, source_of_records}
use Rattle.dl_laws.proofs.Backlogs.{sum_of_counters}
use Rattle.dl_model.proofs.ClientStreams.{traffic_admits}
use Rattle.dl_laws.specs.ClientParts.{IsMerged, replies_after}
use Rattle.dl_laws.specs.HeardCalls.{HearsAll, calls_heard, logs_by, losses_heard, tells_losses_of}
use Rattle.dl_runs.proofs.AccountRuns.{nr}
use Rattle.dl_laws.proofs.JournalStreams.{closed_stream, one_part}
use Rattle.dl_runs.proofs.LoggedCalls.{call_number, found_by}

-- ---- nothing waited

second_empty : {A : Type 0} (xs ys : List A) → xs ++ ys ≡ [] → ys ≡ []
second_empty [] ys e = e
second_empty (x ∷ xs) ys e = absurd cc

none_behind : (ts : List Traffic) (n : ℕ) → admitted_in ts ≡ [] → admitted_in (drop n ts) ≡ []
none_behind ts n none =
    second_empty (admitted_in (take n ts)) (admitted_in (drop n ts))
    (sym (filter_map-append frame_of (take n ts) (drop n ts)) ∙ ap admitted_in (take-append-drop n ts) ∙ none)

none_waits : (ts : List Traffic) → admitted_in ts ≡ [] → waiting ts ≡ []
none_waits ts none = by_test (is_any_open ts) where
  by_test : (b : Bool) → cond b [] (admitted_in (after_last is_going ts)) ≡ []
  by_test true = refl
  by_test false = none_behind ts (length ts - suffix_len (λ t. not (is_going t)) ts) none

-- ---- the calls of a writer

-- what a name stands for
abbrev framed : FrameSource → ℕ × ℕ → List ℕ
framed source name = source.frame name.0 name.1

abbrev pub NoOthers : ℕ → ℕ → List Event → Type 0
NoOthers writer app events = (other : ℕ) → (other ≡ app → ⊥) → filter (of_writer writer) (order other events) ≡ []

tail_empty : {A : Type 0} (b : Bool) (x : A) (xs : List A) → cond b (x ∷ xs) xs ≡ [] → xs ≡ []
tail_empty true x xs e = absurd cc
tail_empty false x xs e = e

-- without its first event
pub fewer : (writer app : ℕ) (e : Event) (events : List Event) → NoOthers writer app (e ∷ events) → NoOthers writer app events
fewer writer app (event.Log that by call moment) events none other apart = by_app (eqb that other) (none other apart) where
  by_app : (b : Bool) → filter (of_writer writer) (cons_option (cond b (Some (by, call)) None) (order other events)) ≡ [] → filter (of_writer writer) (order other events) ≡ []
  by_app true is = tail_empty (eqb by writer) (by, call) (filter (of_writer writer) (order other events)) is
  by_app false is = is
fewer writer app (event.Lost that count moment) events none other apart = none other apart
fewer writer app (event.User channel msg moment) events none other apart = none other apart
fewer writer app (event.Claim claim moment) events none other apart = none other apart
fewer writer app (event.Level slot level) events none other apart = none other apart
fewer writer app (event.Connect client) events none other apart = none other apart
fewer writer app (event.Request client frame answer) events none other apart = none other apart
fewer writer app (event.Close client cause) events none other apart = none other apart

not_empty : {A : Type 0} (x : A) (xs : List A) → x ∷ xs ≡ [] → ⊥
not_empty x xs e = absurd cc

-- a call of the writer is of its application
pub of_its_app : (writer app that by call : ℕ) (rest : List (ℕ × ℕ)) → eqb by writer ≡ true → ((that ≡ app → ⊥) → filter (of_writer writer) ((by, call) ∷ rest) ≡ []) → that ≡ app
of_its_app writer app that by call rest mine none = elim (cases_eq that app) [
  | inl same ↦ same
  | inr apart ↦
      let empty : cond true ((by, call) ∷ filter (of_writer writer) rest) (filter (of_writer writer) rest) ≡ [] = ap (λ (b : Bool). cond b ((by, call) ∷ filter (of_writer writer) rest) (filter (of_writer writer) rest)) (sym mine) ∙ none apart in
      absurd (not_empty (by, call) (filter (of_writer writer) rest) empty)
]

logged_frames : (source : FrameSource) (writer app : ℕ) (events : List Event) → NoOthers writer app events →
    admitted source (filter (logs_by writer) events) ≡ map (framed source) (filter (of_writer writer) (order app events))
logged_frames source writer app [] none = refl
logged_frames source writer app (event.Log that by call moment ∷ events) none = by_writer (eqb by writer) refl (logged_frames source writer app events (fewer writer app (event.Log that by call moment) events none)) where
  at_app : that ≡ app → (b : Bool) → eqb that app ≡ b → eqb by writer ≡ true → admitted source (filter (logs_by writer) events) ≡ map (framed source) (filter (of_writer writer) (order app events)) →
      source.frame by call ∷ admitted source (filter (logs_by writer) events) ≡ map (framed source) (filter (of_writer writer) (cons_option (cond b (Some (by, call)) None) (order app events)))
  at_app same true is mine later =
      ap (λ (fs : List (List ℕ)). source.frame by call ∷ fs) later
      ∙ ap (λ (b : Bool). map (framed source) (cond b ((by, call) ∷ filter (of_writer writer) (order app events)) (filter (of_writer writer) (order app events)))) (sym mine)
  at_app same false is mine later = let yes = eq-eqb that app same in absurd cc

  its_app : eqb by writer ≡ true → that ≡ app
  its_app mine = of_its_app writer app that by call (order that events) mine
      (λ apart. ap (λ (b : Bool). filter (of_writer writer) (cons_option (cond b (Some (by, call)) None) (order that events))) (sym (eq-eqb that that refl)) ∙ none that apart)

  elsewhere : (b : Bool) → eqb by writer ≡ false → filter (of_writer writer) (cons_option (cond b (Some (by, call)) None) (order app events)) ≡ filter (of_writer writer) (order app events)
  elsewhere true other = ap (λ (b : Bool). cond b ((by, call) ∷ filter (of_writer writer) (order app events)) (filter (of_writer writer) (order app events))) other
  elsewhere false other = refl

  by_writer : (b : Bool) → eqb by writer ≡ b → admitted source (filter (logs_by writer) events) ≡ map (framed source) (filter (of_writer writer) (order app events)) →
      admitted source (cond b (event.Log that by call moment ∷ filter (logs_by writer) events) (filter (logs_by writer) events))
      ≡ map (framed source) (filter (of_writer writer) (cons_option (cond (eqb that app) (Some (by, call)) None) (order app events)))
  by_writer true mine later = at_app (its_app mine) (eqb that app) refl mine later
  by_writer false other later = later ∙ ap (map (framed source)) (sym (elsewhere (eqb that app) other))
logged_frames source writer app (event.Lost that count moment ∷ events) none = logged_frames source writer app events (fewer writer app (event.Lost that count moment) events none)
logged_frames source writer app (event.User channel msg moment ∷ events) none = logged_frames source writer app events (fewer writer app (event.User channel msg moment) events none)
logged_frames source writer app (event.Claim claim moment ∷ events) none = logged_frames source writer app events (fewer writer app (event.Claim claim moment) events none)
logged_frames source writer app (event.Level slot level ∷ events) none = logged_frames source writer app events (fewer writer app (event.Level slot level) events none)
logged_frames source writer app (event.Connect client ∷ events) none = logged_frames source writer app events (fewer writer app (event.Connect client) events none)
logged_frames source writer app (event.Request client frame answer ∷ events) none = logged_frames source writer app events (fewer writer app (event.Request client frame answer) events none)
logged_frames source writer app (event.Close client cause ∷ events) none = logged_frames source writer app events (fewer writer app (event.Close client cause) events none)

-- the frame of each record is its own
module _ (ecu : List ℕ) (records : List (List Record)) (writer : ℕ) where
  abbrev mine : List Record
  mine = records_by writer records

  frame_is : (r : Record) → r.item.writer ≡ writer → find (λ (x : Record). eqb x.item.call r.item.call) mine ≡ Some r → frame_of_record ecu records r.item.writer r.item.call ≡ log_message ecu r.item
  frame_is r by found =
      ap (λ (w : ℕ). frame_of_record ecu records w r.item.call) by ∙ ap (λ (o : Option Record). option_map_or (λ (r : Record). log_message ecu r.item) o []) found

  frames_are : (front rest : List Record) → mine ≡ front ++ rest → map call_number mine ≡ range_with_len 1 (length mine) → AllByRecursion (λ r. r.item.writer ≡ writer) rest →
      map (λ r. frame_of_record ecu records r.item.writer r.item.call) (with_answer answer.Queued rest) ≡ map (λ r. log_message ecu r.item) (with_answer answer.Queued rest)
  frames_are front [] parts numbers all = refl
  frames_are front (r ∷ rest) parts numbers all = by_answer (is_answer answer.Queued r.answer) (frames_are (front ++ r ∷ []) rest (parts ∙ sym (append_assoc front (r ∷ []) rest)) numbers all.1) where
    found : find (λ (x : Record). eqb x.item.call r.item.call) mine ≡ Some r
    found = ap (find (λ (x : Record). eqb x.item.call r.item.call)) parts ∙ found_by 1 (length mine) front rest r (ap (map call_number) (sym parts) ∙ numbers)

    by_answer : (b : Bool) → map (λ r. frame_of_record ecu records r.item.writer r.item.call) (with_answer answer.Queued rest) ≡ map (λ r. log_message ecu r.item) (with_answer answer.Queued rest) →
        map (λ r. frame_of_record ecu records r.item.writer r.item.call) (cond b (r ∷ with_answer answer.Queued rest) (with_answer answer.Queued rest))
        ≡ map (λ r. log_message ecu r.item) (cond b (r ∷ with_answer answer.Queued rest) (with_answer answer.Queued rest))
    by_answer true later =
        ap (λ (f : List ℕ). f ∷ map (λ (r : Record). frame_of_record ecu records r.item.writer r.item.call) (with_answer answer.Queued rest)) (frame_is r all.0 found)
        ∙ ap (λ (fs : List (List ℕ)). log_message ecu r.item ∷ fs) later
    by_answer false later = later

names_framed : (source : FrameSource) (rs : List Record) → map (framed source) (map nr rs) ≡ map (λ (r : Record). source.frame r.item.writer r.item.call) rs
names_framed source [] = refl
names_framed source (r ∷ rs) = ap (λ (fs : List (List ℕ)). source.frame r.item.writer r.item.call ∷ fs) (names_framed source rs)

-- ---- losses

-- what the Lost events of an application count, record by record
abbrev counts_in : ℕ → List Event → List ℕ
counts_in app [] = []
counts_in app (event.Lost other count moment ∷ events) = cond (eqb other app) (counters count ++ counts_in app events) (counts_in app events)
counts_in app (_ ∷ events) = counts_in app events

lost_frames : (source : FrameSource) (app : ℕ) (events : List Event) → admitted source (filter (tells_losses_of app) events) ≡ map (overflow_record source.ecu (source.apid app) zero_id) (counts_in app events)
lost_frames source app [] = refl
lost_frames source app (event.Lost other count moment ∷ events) = by_app (eqb other app) refl (lost_frames source app events) where
  by_app : (b : Bool) → eqb other app ≡ b → admitted source (filter (tells_losses_of app) events) ≡ map (overflow_record source.ecu (source.apid app) zero_id) (counts_in app events) →
      admitted source (cond b (event.Lost other count moment ∷ filter (tells_losses_of app) events) (filter (tells_losses_of app) events))
      ≡ map (overflow_record source.ecu (source.apid app) zero_id) (cond b (counters count ++ counts_in app events) (counts_in app events))
  by_app true is later =
      ap (λ (fs : List (List ℕ)). map (overflow_record source.ecu (source.apid other) zero_id) (counters count) ++ fs) later
      ∙ ap (λ (n : ℕ). map (overflow_record source.ecu (source.apid n) zero_id) (counters count) ++ map (overflow_record source.ecu (source.apid app) zero_id) (counts_in app events)) (eqb-true other app is)
      ∙ sym (map-append (overflow_record source.ecu (source.apid app) zero_id) (counters count) (counts_in app events))
  by_app false is later = later
lost_frames source app (event.Log that by call moment ∷ events) = lost_frames source app events
lost_frames source app (event.User channel msg moment ∷ events) = lost_frames source app events
lost_frames source app (event.Claim claim moment ∷ events) = lost_frames source app events
lost_frames source app (event.Level slot level ∷ events) = lost_frames source app events
lost_frames source app (event.Connect client ∷ events) = lost_frames source app events
lost_frames source app (event.Request client frame answer ∷ events) = lost_frames source app events
lost_frames source app (event.Close client cause ∷ events) = lost_frames source app events

counts_add_up : (app : ℕ) (events : List Event) → sum (counts_in app events) ≡ reported app events
counts_add_up app [] = refl
counts_add_up app (event.Lost other count moment ∷ events) =
    by_app (eqb other app) (counts_add_up app events) ∙ sym (sum_by-cons (lost_of app) (event.Lost other count moment) events) where
      by_app : (b : Bool) → sum (counts_in app events) ≡ reported app events → sum (cond b (counters count ++ counts_in app events) (counts_in app events)) ≡ cond b count 0 + reported app events
      by_app true later = sum_by-append (λ (n : ℕ). n) (counters count) (counts_in app events) ∙ omega (arith, later, sum_of_counters count)
      by_app false later = omega (arith, later)
counts_add_up app (event.Log that by call moment ∷ events) = omega (arith, counts_add_up app events, sum_by-cons (lost_of app) (event.Log that by call moment) events)
counts_add_up app (event.User channel msg moment ∷ events) = omega (arith, counts_add_up app events, sum_by-cons (lost_of app) (event.User channel msg moment) events)
counts_add_up app (event.Claim claim moment ∷ events) = omega (arith, counts_add_up app events, sum_by-cons (lost_of app) (event.Claim claim moment) events)
counts_add_up app (event.Level slot level ∷ events) = omega (arith, counts_add_up app events, sum_by-cons (lost_of app) (event.Level slot level) events)
counts_add_up app (event.Connect client ∷ events) = omega (arith, counts_add_up app events, sum_by-cons (lost_of app) (event.Connect client) events)
counts_add_up app (event.Request client frame answer ∷ events) = omega (arith, counts_add_up app events, sum_by-cons (lost_of app) (event.Request client frame answer) events)
counts_add_up app (event.Close client cause ∷ events) = omega (arith, counts_add_up app events, sum_by-cons (lost_of app) (event.Close client cause) events)

-- ---- the whole

module _ (setting : Setting) (records : List (List Record)) (specs : List AppSpec) (refusals : ℕ → ℕ) (pushed : List (List Claimed)) where
  abbrev source : FrameSource
  source = source_of_records setting records specs

  calls_of : (events : List Event) (writer : ℕ) → IsOwned setting.first events writer (refusals writer) (claims_by writer pushed) (records_by writer records) →
      calls_heard setting records specs writer events ≡ map (λ r. log_message setting.ecu r.item) (with_answer answer.Queued (records_by writer records))
  calls_of events writer owned =
      let rs = records_by writer records in
      logged_frames source writer owned.app events owned.belongs.alone
      ∙ ap (map (framed source)) owned.account.in_order ∙ names_framed source (with_answer answer.Queued rs)
      ∙ frames_are setting.ecu records writer [] rs refl owned.account.numbered owned.belongs.by_writer

  losses_of : (events : List Event) (app : ℕ) → reported app events + 0 ≡ length (with_answer answer.Lost (records_of_app app records)) →
      (counts : List ℕ) × (losses_heard setting records specs app events ≡ map (overflow_record setting.ecu (apid_in specs app) zero_id) counts) × (sum counts ≡ length (with_answer answer.Lost (records_of_app app records)))
  losses_of events app told = (counts_in app events, lost_frames source app events, omega (arith, told, counts_add_up app events))

  pub hears_all : (client : ℕ) (cause : Why) (before middle after : List Event) →
      IsWellFormed setting source (before ++ event.Connect client ∷ (middle ++ event.Close client cause ∷ after)) →
      IsAccounted setting.first (before ++ event.Connect client ∷ (middle ++ event.Close client cause ∷ after)) (λ app. 0) refusals pushed records →
      admitted source before ≡ [] → admitted source after ≡ [] →
      HearsAll setting records specs (before ++ event.Connect client ∷ (middle ++ event.Close client cause ∷ after))
      (stream source setting.buffer client (before ++ event.Connect client ∷ (middle ++ event.Close client cause ∷ after)))
  hears_all client cause before middle after formed accounted none_before none_after =
      let events = before ++ event.Connect client ∷ (middle ++ event.Close client cause ∷ after) in
      let sent = closed_stream setting source setting.buffer client cause before middle after formed in
      let none : waiting (traffic source before) ≡ [] = none_waits (traffic source before) (traffic_admits source before ∙ none_before) in
      let live : stream source setting.buffer client events ≡ sent.live = sent.parts ∙ ap (λ (fs : List (List ℕ)). due_backlog source.ecu setting.buffer fs ++ sent.live) none in
      let all : admitted source events ≡ admitted source middle =
      one_part source client cause before middle after ∙ ap (λ (fs : List (List ℕ)). fs ++ (admitted source middle ++ admitted source after)) none_before
      ∙ ap (λ (fs : List (List ℕ)). admitted source middle ++ fs) none_after ∙ append-nil (admitted source middle) in
      let replies = replies_after source client (before ++ event.Connect client ∷ []) middle in
      record {
        replies = replies;
        all = subst (λ (fs : List (List ℕ)). IsMerged fs replies (stream source setting.buffer client events)) (sym all) (subst (λ (fs : List (List ℕ)). IsMerged (admitted source middle) replies fs) (sym live) sent.merged);
        calls = λ writer. calls_of events writer (accounted.writers writer);
        losses = λ app. losses_of events app (accounted.told app);
      }
