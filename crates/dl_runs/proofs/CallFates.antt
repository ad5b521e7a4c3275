-- What each fate of a call says.
use Rattle.std.proofs.Common.{◌≡◌, ℕ, Bool, true, false, cond, eqb, leb, List, [], ◌∷◌, ◌++◌, length, Option, Some, None, refl, sym, ap, subst, ◌∙◌, append_assoc, inl, inr}
use Rattle.std.specs.Prelude.{slice_get, ◌⊎◌, ◌||◌}
use Rattle.std.specs.List.{list_any}
use Rattle.std.proofs.lemmas.Bool.{leb-false, eqb-true}
use Rattle.std.proofs.lemmas.List.{append-nil}
use Rattle.dl_lemmas.proofs.Lists.{get_more}
use Rattle.dl_lemmas.proofs.Bools.{both}
use Rattle.dl_bytes.specs.declared.moment.Moment.{Moment}
use Rattle.dl_events.specs.declared.event.Event.{Event}
use Rattle.dl_events.specs.declared.event.Event.TheVariants as event
use Rattle.dl_events.specs.declared.record.Record.{Record}
use Rattle.dl_events.specs.declared.record.Answer.{Answer}
use Rattle.dl_events.specs.declared.record.Answer.TheVariants as answer
use Rattle.dl_model.specs.Accounts.{IsExact}
use Rattle.dl_model.specs.Along.{along_from}
use Rattle.dl_model.specs.Setting.{Setting}
use Rattle.dl_model.specs.Journal.{IsWellFormed}
use Rattle.dl_model.specs.Frames.{FrameSource}
use Rattle.dl_model.specs.Traffic as t
use Rattle.dl_model.specs.Traffic.{Traffic, Admitted, is_any_open}
use Rattle.dl_model.specs.Backlog.{size_of, waiting, fitting, due_backlog, refused}
use Rattle.dl_model.specs.Overflow.{overflow_frames}
use Rattle.dl_control.specs.Reply.{daemon_apid, daemon_ctid}
use Rattle.dl_model.specs.ClientStream.{put, sent, traffic_of, traffic, stream}
use Rattle.dl_model.proofs.Lists.{along_from-append, along-one}
use Rattle.dl_model.proofs.ClientStreams.{any_open, any_open-admit, waiting-admit, same_number}
use Rattle.dl_laws.specs.Fates.{Fate, InRing, InStream, BufferFull, ForOthers, next_client, kept, of_frame, logs, of_queued, by_answer, what_became_of}
use Rattle.dl_runs.specs.Causes.{IsRefused, IsAbsent, IsElsewhere, Says}
use Rattle.dl_laws.proofs.ClientStays.{AllSpeak, all_speak, first_speak, second_speak, true_not_false}
use Rattle.dl_laws.proofs.FrameFates.{at_place, kept_at, fits_no_more, waits_on, comes, begins_due}
use Rattle.dl_runs.proofs.LevelLaws.{filtered_above}

-- ---- where the Log event of a call stands

-- the first Log event of a call, behind these events and before those
pub record IsLogged (writer call : ℕ) (events : List Event) : Type 0 where
  pub app : ℕ
  pub moment : Moment
  pub before : List Event
  pub after : List Event
  pub place : events ≡ before ++ event.Log app writer call moment ∷ after
  pub first : list_any (logs writer call) before ≡ false

module _ (source : FrameSource) (buffer writer call : ℕ) where
  abbrev search : ℕ → List Event → List Event → Fate
  search client before events = of_queued source buffer client writer call before events

  -- the search ends at the Log event, or there is none
  pub record Finds (before events : List Event) : Type 0 where
    pub logged : IsLogged writer call events
    pub found : (client : ℕ) → search client before events ≡ of_frame source buffer client (before ++ logged.before) (source.frame writer call) logged.after

  abbrev pub Searched : List Event → List Event → Type 0
  Searched before events = Finds before events ⊎ ((list_any (logs writer call) events ≡ false) × ((client : ℕ) → search client before events ≡ InRing))

  here : (before events : List Event) (e : Event) → logs writer call e ≡ true → Searched before (e ∷ events)
  here before events (event.Log app other number moment) is =
      let parts = both (eqb other writer) (eqb number call) is in
      let w = eqb-true other writer parts.0 in
      let c = eqb-true number call parts.1 in
      inl (record {
        logged = record {
          app = app;
          moment = moment;
          before = [];
          after = events;
          place = ap (λ (n : ℕ). event.Log app n number moment ∷ events) w ∙ ap (λ (n : ℕ). event.Log app writer n moment ∷ events) c;
          first = refl;
        };
        found = λ client.
            ap (λ (b : Bool). cond b (of_frame source buffer client before (source.frame writer call) events) (search client (before ++ event.Log app other number moment ∷ []) events)) is
            ∙ ap (λ (es : List Event). of_frame source buffer client es (source.frame writer call) events) (sym (append-nil before));
      })
  here before events _ is = absurd cc

  later : (before events : List Event) (e : Event) → logs writer call e ≡ false → Searched (before ++ e ∷ []) events → Searched before (e ∷ events)
  later before events e is (inl f) = inl (record {
    logged = record {
      app = f.logged.app;
      moment = f.logged.moment;
      before = e ∷ f.logged.before;
      after = f.logged.after;
      place = ap (λ (es : List Event). e ∷ es) f.logged.place;
      first = ap (λ (b : Bool). b || list_any (logs writer call) f.logged.before) is ∙ f.logged.first;
    };
    found = λ client.
        ap (λ (b : Bool). cond b (of_frame source buffer client before (source.frame writer call) events) (search client (before ++ e ∷ []) events)) is ∙ f.found client
        ∙ ap (λ (es : List Event). of_frame source buffer client es (source.frame writer call) f.logged.after) (append_assoc before (e ∷ []) f.logged.before);
  })
  later before events e is (inr none) = inr (
    ap (λ (b : Bool). b || list_any (logs writer call) events) is ∙ none.0,
    λ client. ap (λ (b : Bool). cond b (of_frame source buffer client before (source.frame writer call) events) (search client (before ++ e ∷ []) events)) is ∙ none.1 client,
  )

  pub searched : (before events : List Event) → Searched before events
  searched before [] = inr (refl, λ client. refl)
  searched before (e ∷ events) = by_test (logs writer call e) refl (searched (before ++ e ∷ []) events) where
    by_test : (b : Bool) → logs writer call e ≡ b → Searched (before ++ e ∷ []) events → Searched before (e ∷ events)
    by_test true is rest = here before events e is
    by_test false is rest = later before events e is rest

-- ---- what became of a frame that was admitted

module _ (setting : Setting) (source : FrameSource) (buffer : ℕ) (r : Record) (app : ℕ) (moment : Moment) (before after : List Event) where
  abbrev ts : List Traffic
  ts = traffic source before

  abbrev frame : List ℕ
  frame = source.frame r.item.writer r.item.call

  abbrev log : Event
  log = event.Log app r.item.writer r.item.call moment

  abbrev all : List Event
  all = before ++ log ∷ after

  abbrev fate : ℕ → Fate
  fate client = of_frame source buffer client before frame after

  -- where nobody is open, it waits behind those that waited
  begins_waiting : is_any_open ts ≡ false → (waiting (traffic source (before ++ log ∷ [])) ≡ waiting ts ++ frame ∷ []) × (is_any_open (traffic source (before ++ log ∷ [])) ≡ false)
  begins_waiting shut =
      let more : traffic source (before ++ log ∷ []) ≡ ts ++ Admitted frame ∷ [] = along-one (traffic_of source) before log in
      (ap waiting more ∙ waiting-admit frame ts ∙ ap (λ (b : Bool). cond b [] (waiting ts ++ frame ∷ [])) shut, ap is_any_open more ∙ any_open-admit frame ts ∙ shut)

  module _ (formed : IsWellFormed setting source all) where
    speak : AllSpeak (before ++ log ∷ []) after
    speak = (second_speak [] before (log ∷ after) (all_speak setting source [] all formed)).1

    -- what waits until somebody comes
    waits : (middle rest : List Event) → after ≡ middle ++ rest → next_client middle ≡ None → is_any_open ts ≡ false →
        (others : List (List ℕ)) × (waiting (traffic source ((before ++ log ∷ []) ++ middle)) ≡ (waiting ts ++ frame ∷ []) ++ others)
    waits middle rest parts none shut =
        let begun = begins_waiting shut in
        let now = traffic source (before ++ log ∷ []) in
        let w = waits_on source now (before ++ log ∷ []) middle (first_speak (before ++ log ∷ []) middle rest (subst (AllSpeak (before ++ log ∷ [])) parts speak)) none
        (record { shut = begun.1; others = []; is = sym (append-nil (waiting now)) }) in
        (w.others, w.is ∙ ap (λ (l : List (List ℕ)). l ++ w.others) begun.0)

    -- a client that comes next is handed what waited
    record Handed (next : ℕ) : Type 0 where
      others : List (List ℕ)
      more : List (List ℕ)
      is : stream source buffer next all ≡ due_backlog source.ecu buffer ((waiting ts ++ frame ∷ []) ++ others) ++ more

    handed : (next : ℕ) → next_client after ≡ Some next → is_any_open ts ≡ false → Handed next
    handed next is shut =
        let c = comes next after is in
        let come = (before ++ log ∷ []) ++ c.middle in
        let place : all ≡ come ++ event.Connect next ∷ c.after =
        sym (append_assoc before (log ∷ []) after) ∙ ap (λ (es : List Event). (before ++ log ∷ []) ++ es) c.place ∙ sym (append_assoc (before ++ log ∷ []) c.middle (event.Connect next ∷ c.after)) in
        let w = waits c.middle (event.Connect next ∷ c.after) c.place c.none shut in
        let due = begins_due setting source buffer next come c.after (subst (IsWellFormed setting source) place formed) in
        record {
          others = w.0;
          more = due.0;
          is = ap (stream source buffer next) place ∙ due.1 ∙ ap (λ (l : List (List ℕ)). due_backlog source.ecu buffer l ++ due.0) w.1;
        }

    heard_live : (client : ℕ) → t.is_open client ts ≡ true → slice_get (stream source buffer client all) (length (stream source buffer client before)) ≡ Some frame
    heard_live client there =
        let f = put source.ecu buffer client in
        let us = along_from (traffic_of source) (before ++ log ∷ []) after in
        let later = along_from f (ts ++ Admitted frame ∷ []) us in
        let first : f ts (Admitted frame) ≡ frame ∷ [] = ap (λ (b : Bool). cond b (frame ∷ []) []) there in
        let parts : stream source buffer client all ≡ stream source buffer client before ++ frame ∷ later =
        ap (sent source.ecu buffer client) (along_from-append (traffic_of source) [] before (log ∷ after)) ∙ along_from-append f [] ts (Admitted frame ∷ us)
        ∙ ap (λ (l : List (List ℕ)). stream source buffer client before ++ (l ++ later)) first in
        ap (λ (l : List (List ℕ)). slice_get l (length (stream source buffer client before))) parts ∙ at_place (stream source buffer client before) later frame

    heard_due : (client : ℕ) → next_client after ≡ Some client → is_any_open ts ≡ false → leb (size_of (waiting ts ++ frame ∷ [])) buffer ≡ true →
        slice_get (stream source buffer client all) (length (waiting ts)) ≡ Some frame
    heard_due client is shut fits =
        let h = handed client is shut in
        let waited = (waiting ts ++ frame ∷ []) ++ h.others in
        let told = overflow_frames source.ecu daemon_apid daemon_ctid (refused buffer waited) in
        ap (λ (l : List (List ℕ)). slice_get l (length (waiting ts))) h.is
        ∙ get_more (due_backlog source.ecu buffer waited) h.more (length (waiting ts)) frame
        (get_more (fitting buffer waited) told (length (waiting ts)) frame (kept_at buffer (waiting ts) frame h.others fits))

    module _ (fates : (client : ℕ) → what_became_of source buffer client all r ≡ fate client) (client : ℕ) where
      says_heard : t.is_open client ts ≡ true → Says source buffer client all r (InStream (length (stream source buffer client before)))
      says_heard there = heard_live client there

      says_other : (other : ℕ) → t.is_open client ts ≡ false → t.is_open other ts ≡ true → IsElsewhere source buffer client all r
      says_other other shut there = record {
        other = other;
        apart = λ same. true_not_false (t.is_open client ts) (ap (λ (c : ℕ). t.is_open c ts) (sym same) ∙ there) shut;
        place = length (stream source buffer other before);
        there = fates other ∙ ap (λ (b : Bool). cond b (InStream (length (stream source buffer other before)))
            (cond (is_any_open ts) ForOthers (cond (leb (size_of (waiting ts ++ frame ∷ [])) buffer) (kept other (length (waiting ts)) (next_client after)) (BufferFull (next_client after))))) there;
        frame = heard_live other there;
        absent = record { app = app; moment = moment; before = before; after = after; logged = refl; shut = shut; not_next = λ none is. true_not_false (is_any_open ts) ((any_open ts).1 other there) none };
      }

      shut_for : (other : ℕ) → is_any_open ts ≡ false → t.is_open other ts ≡ false
      shut_for other none = by_test (t.is_open other ts) refl where
        by_test : (b : Bool) → t.is_open other ts ≡ b → t.is_open other ts ≡ false
        by_test true is = absurd (true_not_false (is_any_open ts) ((any_open ts).1 other is) none)
        by_test false is = is

      says_kept : is_any_open ts ≡ false → leb (size_of (waiting ts ++ frame ∷ [])) buffer ≡ true → (next : Option ℕ) → next_client after ≡ next → Says source buffer client all r (kept client (length (waiting ts)) next)
      says_kept shut fits None is =
          let w = waits after [] (sym (append-nil after)) is shut in
          let same : (before ++ log ∷ []) ++ after ≡ all = append_assoc before (log ∷ []) after in
          ap (λ (es : List Event). slice_get (fitting buffer (waiting (traffic source es))) (length (waiting ts))) (sym same)
          ∙ ap (λ (l : List (List ℕ)). slice_get (fitting buffer l) (length (waiting ts))) w.1 ∙ kept_at buffer (waiting ts) frame w.0 fits
      says_kept shut fits (Some next) is = by_test (eqb next client) refl where
        by_test : (b : Bool) → eqb next client ≡ b → Says source buffer client all r (cond b (InStream (length (waiting ts))) ForOthers)
        by_test true same = heard_due client (is ∙ ap Some (eqb-true next client same)) shut fits
        by_test false apart = record {
          other = next;
          apart = λ same. true_not_false (eqb next client) (ap (λ (n : ℕ). eqb n client) same ∙ same_number client) apart;
          place = length (waiting ts);
          there = fates next ∙ ap (λ (b : Bool). cond b (InStream (length (stream source buffer next before)))
              (cond (is_any_open ts) ForOthers (cond (leb (size_of (waiting ts ++ frame ∷ [])) buffer) (kept next (length (waiting ts)) (next_client after)) (BufferFull (next_client after))))) (shut_for next shut)
              ∙ ap (λ (b : Bool). cond b ForOthers (cond (leb (size_of (waiting ts ++ frame ∷ [])) buffer) (kept next (length (waiting ts)) (next_client after)) (BufferFull (next_client after)))) shut
              ∙ ap (λ (b : Bool). cond b (kept next (length (waiting ts)) (next_client after)) (BufferFull (next_client after))) fits
              ∙ ap (kept next (length (waiting ts))) is ∙ ap (λ (b : Bool). cond b (InStream (length (waiting ts))) ForOthers) (same_number next);
          frame = heard_due next is shut fits;
          absent = record {
            app = app;
            moment = moment;
            before = before;
            after = after;
            logged = refl;
            shut = shut_for client shut;
            not_next = λ none mine. let same : next ≡ client = cc in true_not_false (eqb next client) (ap (λ (n : ℕ). eqb n client) same ∙ same_number client) apart;
          };
        }

      says_refused : is_any_open ts ≡ false → leb (size_of (waiting ts ++ frame ∷ [])) buffer ≡ false → (next : Option ℕ) → next_client after ≡ next → IsRefused source buffer all next frame
      says_refused shut none None is =
          let w = waits after [] (sym (append-nil after)) is shut in
          record {
            waited = (waiting ts ++ frame ∷ []) ++ w.0;
            place = length (waiting ts);
            there = get_more (waiting ts ++ frame ∷ []) w.0 (length (waiting ts)) frame (at_place (waiting ts) [] frame);
            behind = fits_no_more buffer (waiting ts) frame w.0 (leb-false (size_of (waiting ts ++ frame ∷ [])) buffer none);
            told = ap (λ (es : List Event). waiting (traffic source es)) (sym (append_assoc before (log ∷ []) after)) ∙ w.1;
          }
      says_refused shut none (Some next) is =
          let h = handed next is shut in
          record {
            waited = (waiting ts ++ frame ∷ []) ++ h.others;
            place = length (waiting ts);
            there = get_more (waiting ts ++ frame ∷ []) h.others (length (waiting ts)) frame (at_place (waiting ts) [] frame);
            behind = fits_no_more buffer (waiting ts) frame h.others (leb-false (size_of (waiting ts ++ frame ∷ [])) buffer none);
            told = (h.more, h.is);
          }

      by_room : (b : Bool) → leb (size_of (waiting ts ++ frame ∷ [])) buffer ≡ b → is_any_open ts ≡ false →
          Says source buffer client all r (cond b (kept client (length (waiting ts)) (next_client after)) (BufferFull (next_client after)))
      by_room true fits shut = says_kept shut fits (next_client after) refl
      by_room false none shut = says_refused shut none (next_client after) refl

      by_others : (b : Bool) → is_any_open ts ≡ b → t.is_open client ts ≡ false → Says source buffer client all r
          (cond b ForOthers (cond (leb (size_of (waiting ts ++ frame ∷ [])) buffer) (kept client (length (waiting ts)) (next_client after)) (BufferFull (next_client after))))
      by_others true is shut =
          let there = (any_open ts).0 is in
          says_other there.0 shut there.1
      by_others false none shut = by_room (leb (size_of (waiting ts ++ frame ∷ [])) buffer) refl none

      by_open : (b : Bool) → t.is_open client ts ≡ b → Says source buffer client all r (cond b (InStream (length (stream source buffer client before)))
          (cond (is_any_open ts) ForOthers (cond (leb (size_of (waiting ts ++ frame ∷ [])) buffer) (kept client (length (waiting ts)) (next_client after)) (BufferFull (next_client after)))))
      by_open true there = says_heard there
      by_open false shut = by_others (is_any_open ts) refl shut

      says_frame : Says source buffer client all r (what_became_of source buffer client all r)
      says_frame = subst (Says source buffer client all r) (sym (fates client)) (by_open (t.is_open client ts) refl)

-- ---- a recorded call

pub says : (setting : Setting) (source : FrameSource) (buffer client first : ℕ) (events : List Event) (r : Record) → IsWellFormed setting source events → IsExact first events r →
    Says source buffer client events r (what_became_of source buffer client events r)
says setting source buffer client first events r formed exact = by_given r.answer refl where
  -- a queued call: its Log event was found, or there is none
  queued : r.answer ≡ answer.Queued → Searched source buffer r.item.writer r.item.call [] events → Says source buffer client events r (what_became_of source buffer client events r)
  queued is (inl f) =
      let l = f.logged in
      let fates : (c : ℕ) → what_became_of source buffer c events r ≡ of_frame source buffer c l.before (source.frame r.item.writer r.item.call) l.after =
      λ c. ap (λ (a : Answer). by_answer a (of_queued source buffer c r.item.writer r.item.call [] events)) is ∙ f.found c in
      subst (λ (es : List Event). Says source buffer client es r (what_became_of source buffer client es r)) (sym l.place)
      (says_frame setting source buffer r l.app l.moment l.before l.after (subst (IsWellFormed setting source) l.place formed)
      (λ c. ap (λ (es : List Event). what_became_of source buffer c es r) (sym l.place) ∙ fates c) client)
  queued is (inr none) =
      let same : what_became_of source buffer client events r ≡ InRing = ap (λ (a : Answer). by_answer a (of_queued source buffer client r.item.writer r.item.call [] events)) is ∙ none.1 client in
      subst (Says source buffer client events r) (sym same) is

  by_given : (a : Answer) → r.answer ≡ a → Says source buffer client events r (what_became_of source buffer client events r)
  by_given answer.Filtered is =
      subst (Says source buffer client events r) (sym (ap (λ (a : Answer). by_answer a (of_queued source buffer client r.item.writer r.item.call [] events)) is)) (filtered_above first events r exact is)
  by_given answer.Lost is =
      subst (Says source buffer client events r) (sym (ap (λ (a : Answer). by_answer a (of_queued source buffer client r.item.writer r.item.call [] events)) is)) is
  by_given answer.Queued is = queued is (searched source buffer r.item.writer r.item.call [] events)
