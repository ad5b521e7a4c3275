-- Frames of streams tell their lengths where those of the traffic do.
use Rattle.std.proofs.Common.{◌≡◌, ℕ, ◌-◌, Bool, true, false, cond, eqb, leb, List, [], ◌∷◌, ◌++◌, length, Option, Some, refl, sym, subst}
use Rattle.std.specs.Prelude.{map, not, ◌&&◌}
use Rattle.std.specs.List.{AllByRecursion, suffix_len, after_last}
use Rattle.dl_lemmas.proofs.Lists.{all_both}
use Rattle.dl_bytes.specs.Id.{zero_id}
use Rattle.dl_control.specs.Reply.{daemon_apid, daemon_ctid}
use Rattle.dl_events.specs.declared.event.Event.{Event}
use Rattle.dl_events.specs.declared.event.Event.TheVariants as event
use Rattle.dl_model.specs.Along.{along_from}
use Rattle.dl_model.specs.Frames.{FrameSource, user_frames}
use Rattle.dl_model.specs.Overflow.{overflow_frames}
use Rattle.dl_model.specs.Traffic.{Traffic, Connected, Admitted, Reply, Closed, is_going, frame_of, admitted_in, is_open, is_any_open}
use Rattle.dl_model.specs.Backlog.{waiting, fitting, refused, due_backlog}
use Rattle.dl_model.specs.ClientStream.{put, sent, traffic_of, traffic}
use Rattle.dl_laws.specs.Frames.{TellsLen}
use Rattle.dl_model.proofs.Lists.{along_from-append}
use Rattle.dl_laws.specs.FrameLengths.{CarriesLen, GivesLengths, EachGivesLengths}
use Rattle.dl_laws.proofs.Entries.{all_drop, all_given}
use Rattle.dl_laws.proofs.Spellings.{records_tell, user_tells}

-- ---- the backlog

admitted_tells : (t : Traffic) (frame : List ℕ) → frame_of t ≡ Some frame → CarriesLen t → TellsLen frame
admitted_tells (Admitted f) frame e tells = subst TellsLen (same f frame e) tells where
  same : (x y : List ℕ) → ◌≡◌ {A = Option (List ℕ)} (Some x) (Some y) → x ≡ y
  same x y e = cc
admitted_tells (Connected client) frame e tells = absurd cc
admitted_tells (Reply client f) frame e tells = absurd cc
admitted_tells (Closed client) frame e tells = absurd cc

waiting_tell : (ts : List Traffic) → AllByRecursion CarriesLen ts → AllByRecursion TellsLen (waiting ts)
waiting_tell ts all = by_test (is_any_open ts) where
  behind : AllByRecursion CarriesLen (after_last is_going ts)
  behind = all_drop CarriesLen (length ts - suffix_len (λ t. not (is_going t)) ts) ts all

  by_test : (b : Bool) → AllByRecursion TellsLen (cond b [] (admitted_in (after_last is_going ts)))
  by_test true = tt
  by_test false = all_given TellsLen CarriesLen frame_of admitted_tells (after_last is_going ts) behind

fitting_tell : (limit : ℕ) (frames : List (List ℕ)) → AllByRecursion TellsLen frames → AllByRecursion TellsLen (fitting limit frames)
fitting_tell limit [] all = tt
fitting_tell limit (frame ∷ frames) all = by_test (leb (length frame) limit) (fitting_tell (limit - length frame) frames all.1) where
  by_test : (b : Bool) → AllByRecursion TellsLen (fitting (limit - length frame) frames) → AllByRecursion TellsLen (cond b (frame ∷ fitting (limit - length frame) frames) [])
  by_test true later = (all.0, later)
  by_test false later = tt

handed_tell : (ecu : List ℕ) (buffer : ℕ) (frames : List (List ℕ)) → length ecu ≡ 4 → AllByRecursion TellsLen frames → AllByRecursion TellsLen (due_backlog ecu buffer frames)
handed_tell ecu buffer frames ecu_long all =
    let n = refused buffer frames in
    all_both TellsLen (fitting buffer frames) (overflow_frames ecu daemon_apid daemon_ctid n) (fitting_tell buffer frames all) (records_tell ecu daemon_apid daemon_ctid n ecu_long refl refl)

-- ---- a client's stream

put_tells : (ecu : List ℕ) (buffer client : ℕ) (before : List Traffic) (t : Traffic) → length ecu ≡ 4 → AllByRecursion CarriesLen before → CarriesLen t →
    AllByRecursion TellsLen (put ecu buffer client before t)
put_tells ecu buffer client before (Connected other) ecu_long all tells = by_test (eqb other client) where
  by_test : (b : Bool) → AllByRecursion TellsLen (cond b (due_backlog ecu buffer (waiting before)) [])
  by_test true = handed_tell ecu buffer (waiting before) ecu_long (waiting_tell before all)
  by_test false = tt
put_tells ecu buffer client before (Admitted frame) ecu_long all tells = by_test (is_open client before) where
  by_test : (b : Bool) → AllByRecursion TellsLen (cond b (frame ∷ []) [])
  by_test true = (tells, tt)
  by_test false = tt
put_tells ecu buffer client before (Reply other frame) ecu_long all tells = by_test (eqb other client && is_open client before) where
  by_test : (b : Bool) → AllByRecursion TellsLen (cond b (frame ∷ []) [])
  by_test true = (tells, tt)
  by_test false = tt
put_tells ecu buffer client before (Closed other) ecu_long all tells = tt

all_put_tell : (ecu : List ℕ) (buffer client : ℕ) (before ts : List Traffic) → length ecu ≡ 4 → AllByRecursion CarriesLen before → AllByRecursion CarriesLen ts →
    AllByRecursion TellsLen (along_from (put ecu buffer client) before ts)
all_put_tell ecu buffer client before [] ecu_long earlier all = tt
all_put_tell ecu buffer client before (t ∷ ts) ecu_long earlier all =
    all_both TellsLen (put ecu buffer client before t) (along_from (put ecu buffer client) (before ++ t ∷ []) ts) (put_tells ecu buffer client before t ecu_long earlier all.0)
    (all_put_tell ecu buffer client (before ++ t ∷ []) ts ecu_long (all_both CarriesLen before (t ∷ []) earlier (all.0, tt)) all.1)

pub sent_tell : (ecu : List ℕ) (buffer client : ℕ) (ts : List Traffic) → length ecu ≡ 4 → AllByRecursion CarriesLen ts → AllByRecursion TellsLen (sent ecu buffer client ts)
sent_tell ecu buffer client ts ecu_long all = all_put_tell ecu buffer client [] ts ecu_long tt all

-- ---- the traffic of events

all_admitted : (frames : List (List ℕ)) → AllByRecursion TellsLen frames → AllByRecursion CarriesLen (map Admitted frames)
all_admitted [] all = tt
all_admitted (frame ∷ frames) all = (all.0, all_admitted frames all.1)

pub event_tells : (source : FrameSource) (before : List Event) (e : Event) → length source.ecu ≡ 4 → GivesLengths source before e → AllByRecursion CarriesLen (traffic_of source before e)
event_tells source before (event.Connect client) ecu_long gives = (tt, tt)
event_tells source before (event.Request client frame done) ecu_long gives = (gives, tt)
event_tells source before (event.Close client why) ecu_long gives = (tt, tt)
event_tells source before (event.Claim claim moment) ecu_long gives = tt
event_tells source before (event.Level slot level) ecu_long gives = tt
event_tells source before (event.Log app writer call moment) ecu_long gives = (gives, tt)
event_tells source before (event.Lost app count moment) ecu_long gives =
    all_admitted (overflow_frames source.ecu (source.apid app) zero_id count) (records_tell source.ecu (source.apid app) zero_id count ecu_long gives refl)
event_tells source before (event.User channel msg moment) ecu_long gives = all_admitted (user_frames source.ecu msg) (user_tells source.ecu msg ecu_long gives.0 gives.1)

events_tell : (source : FrameSource) (before events : List Event) → length source.ecu ≡ 4 → EachGivesLengths source before events → AllByRecursion CarriesLen (along_from (traffic_of source) before events)
events_tell source before [] ecu_long all = tt
events_tell source before (e ∷ events) ecu_long all =
    all_both CarriesLen (traffic_of source before e) (along_from (traffic_of source) (before ++ e ∷ []) events) (event_tells source before e ecu_long all.0)
    (events_tell source (before ++ e ∷ []) events ecu_long all.1)

pub journal_tells : (source : FrameSource) (events : List Event) → length source.ecu ≡ 4 → EachGivesLengths source [] events → AllByRecursion CarriesLen (traffic source events)
journal_tells source events ecu_long all = events_tell source [] events ecu_long all

pub journal_goes_on : (source : FrameSource) (events more : List Event) → length source.ecu ≡ 4 → AllByRecursion CarriesLen (traffic source events) → EachGivesLengths source events more →
    AllByRecursion CarriesLen (traffic source (events ++ more))
journal_goes_on source events more ecu_long told all =
    subst (AllByRecursion CarriesLen) (sym (along_from-append (traffic_of source) [] events more))
    (all_both CarriesLen (traffic source events) (along_from (traffic_of source) events more) told (events_tell source events more ecu_long all))
