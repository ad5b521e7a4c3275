-- Clients that are not there, and who is there by the traffic and by the journal.
use Rattle.std.proofs.Common.{eqb, ◌≡◌, ℕ, zero, suc, ◌+◌, ◌≤◌, ◌<◌, Bool, true, false, cond, List, [], ◌∷◌, ◌++◌, length, Option, Some, refl, sym, ap, append_assoc, ◌∙◌, length-append, arith}
use Rattle.std.specs.Prelude.{◌||◌, map, count_by}
use Rattle.std.specs.List.{list_any, range_with_len}
use Rattle.std.specs.Option.{option_map_or}
use Rattle.std.proofs.lemmas.Bool.Decides.{nat_tests}
use Rattle.std.proofs.lemmas.List.{append-nil}
use Rattle.std.proofs.lemmas.List.Elements.{filter_map-append}
use Rattle.std.proofs.lemmas.List.Folds.{list_any-append}
use Rattle.dl_lemmas.proofs.Lists.{by_end}
use Rattle.dl_lemmas.proofs.Bools.{choice_same, neither}
use Rattle.dl_events.specs.declared.event.Event.{Event}
use Rattle.dl_events.specs.declared.event.Event.TheVariants as event
use Rattle.dl_events.specs.declared.event.Why.{Why}
use Rattle.dl_model.specs.Along.{along_from, last_that}
use Rattle.dl_model.specs.Frames.{FrameSource, frames_of}
use Rattle.dl_model.specs.Journal as journal
use Rattle.dl_model.specs.Traffic.{Traffic, Connected, Admitted, Reply, Closed, comes_or_goes, comer_of, clients, is_open}
use Rattle.dl_model.specs.ClientStream.{put, sent, traffic_of, traffic, stream}
use Rattle.dl_model.proofs.Lists.{along-one, last_that-one, count_by-append}
use Rattle.dl_model.proofs.ClientStreams.{all_quiet, is_open-one, puts_nothing}
use Rattle.dl_laws.proofs.FramesBehind.{sent-append, traffic-append}

-- ---- who is not there is put nothing

pub quiet : (ecu : List ℕ) (buffer client : ℕ) (ts more : List Traffic) → is_open client ts ≡ false → list_any (comes_or_goes client) more ≡ false → sent ecu buffer client (ts ++ more) ≡ sent ecu buffer client ts
quiet ecu buffer client ts more shut none =
    sent-append ecu buffer client ts more ∙ ap (λ (fs : List (List ℕ)). sent ecu buffer client ts ++ fs) (all_quiet ecu buffer client ts more shut none) ∙ append-nil (sent ecu buffer client ts)

admits_nobody : (client : ℕ) (frames : List (List ℕ)) → list_any (comes_or_goes client) (map Admitted frames) ≡ false
admits_nobody client [] = refl
admits_nobody client (frame ∷ frames) = admits_nobody client frames

event_quiet : (source : FrameSource) (client : ℕ) (before : List Event) (e : Event) → journal.comes_or_goes client e ≡ false → list_any (comes_or_goes client) (traffic_of source before e) ≡ false
event_quiet source client before (event.Connect other) none = ap (λ (b : Bool). b || false) none
event_quiet source client before (event.Close other why) none = ap (λ (b : Bool). b || false) none
event_quiet source client before (event.Request other frame done) none = refl
event_quiet source client before (event.Claim claim moment) none = refl
event_quiet source client before (event.Level slot level) none = refl
event_quiet source client before (event.Log app writer call moment) none = refl
event_quiet source client before (event.Lost app count moment) none = admits_nobody client (frames_of source (event.Lost app count moment))
event_quiet source client before (event.User channel msg moment) none = admits_nobody client (frames_of source (event.User channel msg moment))

events_quiet : (source : FrameSource) (client : ℕ) (before more : List Event) → list_any (journal.comes_or_goes client) more ≡ false → list_any (comes_or_goes client) (along_from (traffic_of source) before more) ≡ false
events_quiet source client before [] none = refl
events_quiet source client before (e ∷ more) none =
    let parts = neither (journal.comes_or_goes client e) (list_any (journal.comes_or_goes client) more) none in
    list_any-append (comes_or_goes client) (traffic_of source before e) (along_from (traffic_of source) (before ++ e ∷ []) more)
    ∙ ap (λ (b : Bool). b || list_any (comes_or_goes client) (along_from (traffic_of source) (before ++ e ∷ []) more)) (event_quiet source client before e parts.0)
    ∙ events_quiet source client (before ++ e ∷ []) more parts.1

pub quiet_events : (source : FrameSource) (buffer client : ℕ) (events more : List Event) → is_open client (traffic source events) ≡ false → list_any (journal.comes_or_goes client) more ≡ false →
    stream source buffer client (events ++ more) ≡ stream source buffer client events
quiet_events source buffer client events more shut none =
    ap (sent source.ecu buffer client) (traffic-append source events more)
    ∙ quiet source.ecu buffer client (traffic source events) (along_from (traffic_of source) events more) shut (events_quiet source client events more none)

pub closes_quietly : (source : FrameSource) (buffer client other : ℕ) (why : Why) (events : List Event) → stream source buffer client (events ++ event.Close other why ∷ []) ≡ stream source buffer client events
closes_quietly source buffer client other why events =
    ap (sent source.ecu buffer client) (along-one (traffic_of source) events (event.Close other why)) ∙ along-one (put source.ecu buffer client) (traffic source events) (Closed other)
    ∙ append-nil (stream source buffer client events)

-- ---- who never came

-- a client that doesn't come stays away, and is put nothing
record StaysAway (ecu : List ℕ) (buffer client : ℕ) (before ts : List Traffic) : Type 0 where
  shut : is_open client (before ++ ts) ≡ false
  nothing : along_from (put ecu buffer client) before ts ≡ []

away_now : (ecu : List ℕ) (buffer client : ℕ) (before : List Traffic) (t : Traffic) → is_open client before ≡ false → list_any (λ d. eqb d client) (clients (t ∷ [])) ≡ false →
    (put ecu buffer client before t ≡ []) × (is_open client (before ++ t ∷ []) ≡ false)
away_now ecu buffer client before (Connected other) shut none =
    let apart : eqb other client ≡ false = (neither (eqb other client) false none).0 in
    (rw apart refl, is_open-one client before (Connected other) ∙ ap (λ (b : Bool). cond b true (is_open client before)) apart ∙ shut)
away_now ecu buffer client before (Admitted frame) shut none = (puts_nothing ecu buffer client before (Admitted frame) shut refl, is_open-one client before (Admitted frame) ∙ shut)
away_now ecu buffer client before (Reply other frame) shut none = (puts_nothing ecu buffer client before (Reply other frame) shut refl, is_open-one client before (Reply other frame) ∙ shut)
away_now ecu buffer client before (Closed other) shut none = (refl, is_open-one client before (Closed other) ∙ ap (cond (eqb other client) false) shut ∙ choice_same (eqb other client))

stays_away : (ecu : List ℕ) (buffer client : ℕ) (before ts : List Traffic) → is_open client before ≡ false → list_any (λ d. eqb d client) (clients ts) ≡ false → StaysAway ecu buffer client before ts
stays_away ecu buffer client before [] shut none = record { shut = ap (is_open client) (append-nil before) ∙ shut; nothing = refl }
stays_away ecu buffer client before (t ∷ ts) shut none =
    let p = λ (d : ℕ). eqb d client in
    let split : list_any p (clients (t ∷ []) ++ clients ts) ≡ false = ap (list_any p) (sym (filter_map-append comer_of (t ∷ []) ts)) ∙ none in
    let parts = neither (list_any p (clients (t ∷ []))) (list_any p (clients ts)) (sym (list_any-append p (clients (t ∷ [])) (clients ts)) ∙ split) in
    let now = away_now ecu buffer client before t shut parts.0 in
    let later = stays_away ecu buffer client (before ++ t ∷ []) ts now.1 parts.1 in
    record { shut = ap (is_open client) (sym (append_assoc before (t ∷ []) ts)) ∙ later.shut; nothing = rw (now.0, later.nothing) refl }

apart : (a client : ℕ) → a < client → eqb a client ≡ false
apart a client lt = grind (arith, nat_tests)

above_range : (a n client : ℕ) → a + n ≤ client → list_any (λ d. eqb d client) (range_with_len a n) ≡ false
above_range a zero client le = refl
above_range a (suc n) client le =
    ap (λ (b : Bool). b || list_any (λ d. eqb d client) (range_with_len (a + 1) n)) (apart a client (omega (arith, le))) ∙ above_range (a + 1) n client (omega (arith, le))

pub not_yet : (ecu : List ℕ) (buffer client count : ℕ) (ts : List Traffic) → clients ts ≡ range_with_len 1 count → count < client → (is_open client ts ≡ false) × (sent ecu buffer client ts ≡ [])
not_yet ecu buffer client count ts came above =
    let away = stays_away ecu buffer client [] ts refl (ap (list_any (λ d. eqb d client)) came ∙ above_range 1 count client (omega (arith, above))) in
    (away.shut, away.nothing)

-- ---- who is there, by the journal

admits_open : (client : ℕ) (ts : List Traffic) (frames : List (List ℕ)) → is_open client (ts ++ map Admitted frames) ≡ is_open client ts
admits_open client ts [] = ap (is_open client) (append-nil ts)
admits_open client ts (frame ∷ frames) =
    ap (is_open client) (sym (append_assoc ts (Admitted frame ∷ []) (map Admitted frames))) ∙ admits_open client (ts ++ Admitted frame ∷ []) frames ∙ is_open-one client ts (Admitted frame)

abbrev there : ℕ → List Event → Bool
there client events = option_map_or journal.is_connect (last_that (journal.comes_or_goes client) events) false

there-one : (client : ℕ) (events : List Event) (e : Event) → there client (events ++ e ∷ []) ≡ cond (journal.comes_or_goes client e) (journal.is_connect e) (there client events)
there-one client events e = ap (λ (o : Option Event). option_map_or journal.is_connect o false) (last_that-one (journal.comes_or_goes client) events e) ∙ by_test (journal.comes_or_goes client e) where
  by_test : (b : Bool) → option_map_or journal.is_connect (cond b (Some e) (last_that (journal.comes_or_goes client) events)) false ≡ cond b (journal.is_connect e) (there client events)
  by_test true = refl
  by_test false = refl

open_by : (source : FrameSource) (client : ℕ) (events : List Event) (e : Event) → is_open client (traffic source events) ≡ there client events →
    is_open client (traffic source events ++ traffic_of source events e) ≡ cond (journal.comes_or_goes client e) (journal.is_connect e) (there client events)
open_by source client events (event.Connect other) so = is_open-one client (traffic source events) (Connected other) ∙ ap (cond (eqb other client) true) so
open_by source client events (event.Close other why) so = is_open-one client (traffic source events) (Closed other) ∙ ap (cond (eqb other client) false) so
open_by source client events (event.Request other frame done) so = is_open-one client (traffic source events) (Reply other (source.reply events frame done)) ∙ so
open_by source client events (event.Claim claim moment) so = ap (is_open client) (append-nil (traffic source events)) ∙ so
open_by source client events (event.Level slot level) so = ap (is_open client) (append-nil (traffic source events)) ∙ so
open_by source client events (event.Log app writer call moment) so = admits_open client (traffic source events) (frames_of source (event.Log app writer call moment)) ∙ so
open_by source client events (event.Lost app count moment) so = admits_open client (traffic source events) (frames_of source (event.Lost app count moment)) ∙ so
open_by source client events (event.User channel msg moment) so = admits_open client (traffic source events) (frames_of source (event.User channel msg moment)) ∙ so

pub open_in_journal : (source : FrameSource) (client : ℕ) (events : List Event) → is_open client (traffic source events) ≡ there client events
open_in_journal source client events =
    by_end (λ (es : List Event). is_open client (traffic source es) ≡ there client es) refl
    (λ es e so. ap (is_open client) (along-one (traffic_of source) es e) ∙ open_by source client es e so ∙ sym (there-one client es e)) events

-- ---- who is not there after an event

shut_before : (source : FrameSource) (client : ℕ) (events : List Event) (e : Event) → journal.comes_or_goes client e ≡ false → is_open client (traffic source (events ++ e ∷ [])) ≡ false →
    is_open client (traffic source events) ≡ false
shut_before source client events e none shut =
    let same : there client (events ++ e ∷ []) ≡ there client events = there-one client events e ∙ ap (λ (b : Bool). cond b (journal.is_connect e) (there client events)) none in
    open_in_journal source client events ∙ sym same ∙ sym (open_in_journal source client (events ++ e ∷ [])) ∙ shut

shut_other : (source : FrameSource) (buffer client : ℕ) (events : List Event) (e : Event) → journal.comes_or_goes client e ≡ false → is_open client (traffic source (events ++ e ∷ [])) ≡ false →
    stream source buffer client (events ++ e ∷ []) ≡ stream source buffer client events
shut_other source buffer client events e none shut =
    quiet_events source buffer client events (e ∷ []) (shut_before source client events e none shut) (ap (λ (b : Bool). b || false) none)

pub shut_after : (source : FrameSource) (buffer client : ℕ) (events : List Event) (e : Event) → is_open client (traffic source (events ++ e ∷ [])) ≡ false →
    stream source buffer client (events ++ e ∷ []) ≡ stream source buffer client events
shut_after source buffer client events (event.Close other why) shut = closes_quietly source buffer client other why events
shut_after source buffer client events (event.Connect other) shut = by_test (eqb other client) refl where
  by_test : (b : Bool) → eqb other client ≡ b → stream source buffer client (events ++ event.Connect other ∷ []) ≡ stream source buffer client events
  by_test true same =
      let came : true ≡ false = sym (open_in_journal source client (events ++ event.Connect other ∷ []) ∙ there-one client events (event.Connect other) ∙ ap (λ (b : Bool). cond b true (there client events)) same) ∙ shut in
      absurd cc
  by_test false none = shut_other source buffer client events (event.Connect other) none shut
shut_after source buffer client events (event.Request other frame done) shut = shut_other source buffer client events (event.Request other frame done) refl shut
shut_after source buffer client events (event.Claim claim moment) shut = shut_other source buffer client events (event.Claim claim moment) refl shut
shut_after source buffer client events (event.Level slot level) shut = shut_other source buffer client events (event.Level slot level) refl shut
shut_after source buffer client events (event.Log app writer call moment) shut = shut_other source buffer client events (event.Log app writer call moment) refl shut
shut_after source buffer client events (event.Lost app count moment) shut = shut_other source buffer client events (event.Lost app count moment) refl shut
shut_after source buffer client events (event.User channel msg moment) shut = shut_other source buffer client events (event.User channel msg moment) refl shut

-- ---- how many came

admits_none : (frames : List (List ℕ)) → clients (map Admitted frames) ≡ []
admits_none [] = refl
admits_none (frame ∷ frames) = admits_none frames

came_by : (source : FrameSource) (events : List Event) (e : Event) → length (clients (traffic_of source events e)) ≡ count_by journal.is_connect (e ∷ [])
came_by source events (event.Connect other) = refl
came_by source events (event.Close other why) = refl
came_by source events (event.Request other frame done) = refl
came_by source events (event.Claim claim moment) = refl
came_by source events (event.Level slot level) = refl
came_by source events (event.Log app writer call moment) = refl
came_by source events (event.Lost app count moment) = ap length (admits_none (frames_of source (event.Lost app count moment)))
came_by source events (event.User channel msg moment) = ap length (admits_none (frames_of source (event.User channel msg moment)))

pub came_in_journal : (source : FrameSource) (events : List Event) → length (clients (traffic source events)) ≡ count_by journal.is_connect events
came_in_journal source events =
    by_end (λ (es : List Event). length (clients (traffic source es)) ≡ count_by journal.is_connect es) refl
    (λ es e so.
    let all : clients (traffic source (es ++ e ∷ [])) ≡ clients (traffic source es) ++ clients (traffic_of source es e) =
    ap clients (along-one (traffic_of source) es e) ∙ filter_map-append comer_of (traffic source es) (traffic_of source es e) in
    let long : length (clients (traffic source (es ++ e ∷ []))) ≡ length (clients (traffic source es)) + length (clients (traffic_of source es e)) =
    ap length all ∙ length-append (clients (traffic source es)) (clients (traffic_of source es e)) in
    omega (arith, long, so, came_by source es e, count_by-append journal.is_connect es (e ∷ []))) events
