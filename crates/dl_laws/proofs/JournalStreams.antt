-- The streams of a journal's clients, and its backlog.
use Rattle.std.proofs.Common.{◌≡◌, ℕ, ◌+◌, ◌-◌, ◌<◌, Bool, true, false, cond, eqb, leb, List, [], ◌∷◌, ◌++◌, length, Some, None, refl, sym, ap, subst, ◌∙◌, append_assoc, length-append, arith, inl, inr}
use Rattle.std.specs.Prelude.{map, ◌||◌}
use Rattle.std.specs.List.{list_any, filter_map, cons_option, after_last}
use Rattle.std.proofs.lemmas.Bool.{cases_Bool, or_parts, or_from}
use Rattle.std.proofs.lemmas.List.{append-nil}
use Rattle.std.proofs.lemmas.List.Elements.{filter_map-append}
use Rattle.std.proofs.lemmas.List.Concat.{flat_map-append}
use Rattle.std.proofs.lemmas.List.Folds.{list_any-append}
use Rattle.dl_lemmas.proofs.Lists.{by_end}
use Rattle.dl_events.specs.declared.event.Event.{Event}
use Rattle.dl_events.specs.declared.event.Event.TheVariants as event
use Rattle.dl_events.specs.declared.event.Why.{Why}
use Rattle.dl_model.specs.Along.{along_from}
use Rattle.dl_model.specs.Setting.{Setting}
use Rattle.dl_model.specs.Journal.{is_connect, is_close, comes_or_goes, IsOpen, IsWellFormed}
use Rattle.dl_model.specs.Frames.{FrameSource, frames_of, admitted}
use Rattle.dl_model.specs.Traffic as t
use Rattle.dl_model.specs.Traffic.{Traffic, Connected, Admitted, Reply, Closed, is_going, frame_of, admitted_in, meant_for, is_any_open}
use Rattle.dl_model.specs.Backlog.{waiting, fitting, refused}
use Rattle.dl_model.specs.ClientStream.{put, sent, traffic_of, traffic, stream}
use Rattle.dl_model.proofs.Lists.{along_from-append, along-one, after_last-one}
use Rattle.dl_model.proofs.ClientStreams.{unbroken, any_open, is_open-one, admits_all, meant_admit}
use Rattle.dl_laws.proofs.Backlogs.{counted}
use Rattle.dl_laws.specs.ClientParts.{IsMerged, reply_to, replies_after, IsSent}
use Rattle.dl_laws.proofs.ClientStays.{opened, opened-one, opened_is, is_open_in, quiet_before, quiet_while, quiet_after}

-- ---- one event and its traffic

none_admit : (client : ℕ) (frames : List (List ℕ)) → list_any (t.comes_or_goes client) (map Admitted frames) ≡ false
none_admit client [] = refl
none_admit client (frame ∷ frames) = none_admit client frames

-- an event that doesn't say that the client came or went, in traffic
quiet_event : (source : FrameSource) (client : ℕ) (before : List Event) (e : Event) → comes_or_goes client e ≡ false → list_any (t.comes_or_goes client) (traffic_of source before e) ≡ false
quiet_event source client before (event.Connect other) none = ap (λ (b : Bool). b || false) none
quiet_event source client before (event.Request other frame done) none = refl
quiet_event source client before (event.Close other why) none = ap (λ (b : Bool). b || false) none
quiet_event source client before e none = none_admit client (frames_of source e)

pub quiet_traffic : (source : FrameSource) (client : ℕ) (before events : List Event) → list_any (comes_or_goes client) events ≡ false → list_any (t.comes_or_goes client) (along_from (traffic_of source) before events) ≡ false
quiet_traffic source client before [] none = refl
quiet_traffic source client before (e ∷ events) none =
    let parts = or_parts (comes_or_goes client e) (list_any (comes_or_goes client) events) none in
    list_any-append (t.comes_or_goes client) (traffic_of source before e) (along_from (traffic_of source) (before ++ e ∷ []) events)
    ∙ or_from (list_any (t.comes_or_goes client) (traffic_of source before e)) (list_any (t.comes_or_goes client) (along_from (traffic_of source) (before ++ e ∷ []) events))
    (quiet_event source client before e parts.0) (quiet_traffic source client (before ++ e ∷ []) events parts.1)

-- ---- what is meant for a client, put together

merged_left : (fs xs ys zs : List (List ℕ)) → IsMerged xs ys zs → IsMerged (fs ++ xs) ys (fs ++ zs)
merged_left [] xs ys zs is = is
merged_left (f ∷ fs) xs ys zs is = inl (fs ++ xs, refl, merged_left fs xs ys zs is)

merged_right : (fs xs ys zs : List (List ℕ)) → IsMerged xs ys zs → IsMerged xs (fs ++ ys) (fs ++ zs)
merged_right [] xs ys zs is = is
merged_right (f ∷ fs) xs ys zs is = inr (fs ++ ys, refl, merged_right fs xs ys zs is)

-- one event more at the front
one_merged : (source : FrameSource) (client : ℕ) (before : List Event) (e : Event) (xs ys zs : List (List ℕ)) → IsMerged xs ys zs →
    IsMerged (frames_of source e ++ xs) (reply_to source client before e ++ ys) (filter_map (meant_for client) (traffic_of source before e) ++ zs)
one_merged source client before (event.Connect other) xs ys zs is = is
one_merged source client before (event.Request other frame done) xs ys zs is = by_test (eqb other client) where
  by_test : (b : Bool) → IsMerged xs (cond b (source.reply before frame done ∷ []) [] ++ ys) (cons_option (cond b (Some (source.reply before frame done)) None) [] ++ zs)
  by_test true = merged_right (source.reply before frame done ∷ []) xs ys zs is
  by_test false = is
one_merged source client before (event.Close other why) xs ys zs is = is
one_merged source client before (event.Claim claim moment) xs ys zs is = is
one_merged source client before (event.Level slot level) xs ys zs is = is
one_merged source client before (event.Log app writer call moment) xs ys zs is = merged_left (source.frame writer call ∷ []) xs ys zs is
one_merged source client before (event.Lost app count moment) xs ys zs is =
    let fs = frames_of source (event.Lost app count moment) in
    subst (λ (l : List (List ℕ)). IsMerged (fs ++ xs) ys (l ++ zs)) (sym (meant_admit client fs)) (merged_left fs xs ys zs is)
one_merged source client before (event.User channel msg moment) xs ys zs is =
    let fs = frames_of source (event.User channel msg moment) in
    subst (λ (l : List (List ℕ)). IsMerged (fs ++ xs) ys (l ++ zs)) (sym (meant_admit client fs)) (merged_left fs xs ys zs is)

all_merged : (source : FrameSource) (client : ℕ) (before events : List Event) →
    IsMerged (admitted source events) (replies_after source client before events) (filter_map (meant_for client) (along_from (traffic_of source) before events))
all_merged source client before [] = (refl, refl)
all_merged source client before (e ∷ events) =
    let later = all_merged source client (before ++ e ∷ []) events in
    let now = one_merged source client before e (admitted source events) (replies_after source client (before ++ e ∷ []) events)
    (filter_map (meant_for client) (along_from (traffic_of source) (before ++ e ∷ []) events)) later in
    subst (λ (l : List (List ℕ)). IsMerged (frames_of source e ++ admitted source events) (replies_after source client before (e ∷ events)) l)
    (sym (filter_map-append (meant_for client) (traffic_of source before e) (along_from (traffic_of source) (before ++ e ∷ []) events))) now

-- ---- a client's stream

-- the traffic of a journal in which a client comes
pub traffic_parts : (source : FrameSource) (client : ℕ) (before events : List Event) →
    traffic source (before ++ event.Connect client ∷ events) ≡ traffic source before ++ Connected client ∷ along_from (traffic_of source) (before ++ event.Connect client ∷ []) events
traffic_parts source client before events = along_from-append (traffic_of source) [] before (event.Connect client ∷ events)

pub closed_stream : (setting : Setting) (source : FrameSource) (buffer client : ℕ) (why : Why) (before middle after : List Event) →
    IsWellFormed setting source (before ++ event.Connect client ∷ (middle ++ event.Close client why ∷ after)) →
    IsSent source buffer client before middle (stream source buffer client (before ++ event.Connect client ∷ (middle ++ event.Close client why ∷ after)))
closed_stream setting source buffer client why before middle after formed =
    let events = middle ++ event.Close client why ∷ after in
    let come = before ++ event.Connect client ∷ [] in
    let left = (come ++ middle) ++ event.Close client why ∷ [] in
    let rest = quiet_after setting source client before events formed middle after why refl in
    let first = quiet_before setting source client before events formed in
    let during = along_from (traffic_of source) come middle in
    let behind = along_from (traffic_of source) left after in
    let parts : along_from (traffic_of source) come events ≡ during ++ Closed client ∷ behind = along_from-append (traffic_of source) come middle (event.Close client why ∷ after) in
    record {
      live = filter_map (meant_for client) during;
      parts = ap (sent source.ecu buffer client) (traffic_parts source client before events ∙ ap (λ (ts : List Traffic). traffic source before ++ Connected client ∷ ts) parts)
          ∙ unbroken source.ecu buffer client (traffic source before) during behind
          (quiet_traffic source client [] before first) (quiet_traffic source client come middle rest.0) (quiet_traffic source client left after rest.1);
      merged = all_merged source client come middle;
    }

pub open_stream : (setting : Setting) (source : FrameSource) (buffer client : ℕ) (before middle : List Event) →
    IsWellFormed setting source (before ++ event.Connect client ∷ middle) → IsOpen client (before ++ event.Connect client ∷ middle) →
    IsSent source buffer client before middle (stream source buffer client (before ++ event.Connect client ∷ middle))
open_stream setting source buffer client before middle formed is =
    let come = before ++ event.Connect client ∷ [] in
    let first = quiet_before setting source client before middle formed in
    let still : opened client (come ++ middle) ≡ true = ap (opened client) (append_assoc before (event.Connect client ∷ []) middle) ∙ opened_is client (before ++ event.Connect client ∷ middle) is in
    let quiet = quiet_while setting source client before middle formed middle [] (sym (append-nil middle)) still in
    let during = along_from (traffic_of source) come middle in
    let all = traffic source before ++ Connected client ∷ during in
    -- with its going put behind, which sends nothing
    let ended : sent source.ecu buffer client (all ++ Closed client ∷ []) ≡ sent source.ecu buffer client all =
    along-one (put source.ecu buffer client) all (Closed client) ∙ append-nil (sent source.ecu buffer client all) in
    let moved : all ++ Closed client ∷ [] ≡ traffic source before ++ Connected client ∷ (during ++ Closed client ∷ []) = append_assoc (traffic source before) (Connected client ∷ during) (Closed client ∷ []) in
    record {
      live = filter_map (meant_for client) during;
      parts = ap (sent source.ecu buffer client) (traffic_parts source client before middle) ∙ sym ended ∙ ap (sent source.ecu buffer client) moved
          ∙ unbroken source.ecu buffer client (traffic source before) during [] (quiet_traffic source client [] before first) (quiet_traffic source client come middle quiet) refl;
      merged = all_merged source client come middle;
    }

pub one_part : (source : FrameSource) (client : ℕ) (why : Why) (before middle after : List Event) →
    admitted source (before ++ event.Connect client ∷ (middle ++ event.Close client why ∷ after)) ≡ admitted source before ++ (admitted source middle ++ admitted source after)
one_part source client why before middle after =
    flat_map-append (frames_of source) before (event.Connect client ∷ (middle ++ event.Close client why ∷ after))
    ∙ ap (λ (fs : List (List ℕ)). admitted source before ++ fs) (flat_map-append (frames_of source) middle (event.Close client why ∷ after))

pub last_part : (source : FrameSource) (client : ℕ) (before middle : List Event) → admitted source (before ++ event.Connect client ∷ middle) ≡ admitted source before ++ admitted source middle
last_part source client before middle = flat_map-append (frames_of source) before (event.Connect client ∷ middle)

-- ---- the backlog

-- traffic in which none goes stands behind the last that went
behind_last : (ts us : List Traffic) → list_any is_going us ≡ false → after_last is_going (ts ++ us) ≡ after_last is_going ts ++ us
behind_last ts [] none = ap (after_last is_going) (append-nil ts) ∙ sym (append-nil (after_last is_going ts))
behind_last ts (u ∷ us) none =
    let parts = or_parts (is_going u) (list_any is_going us) none in
    let one : after_last is_going (ts ++ u ∷ []) ≡ after_last is_going ts ++ u ∷ [] = after_last-one is_going ts u ∙ ap (λ (b : Bool). cond b [] (after_last is_going ts ++ u ∷ [])) parts.0 in
    ap (after_last is_going) (sym (append_assoc ts (u ∷ []) us)) ∙ behind_last (ts ++ u ∷ []) us parts.1
    ∙ ap (λ (l : List Traffic). l ++ us) one ∙ append_assoc (after_last is_going ts) (u ∷ []) us

none_goes : (frames : List (List ℕ)) → list_any is_going (map Admitted frames) ≡ false
none_goes [] = refl
none_goes (frame ∷ frames) = none_goes frames

abbrev Since : FrameSource → List Event → Type 0
Since source events = admitted_in (after_last is_going (traffic source events)) ≡ admitted source (after_last is_close events)

-- an event that is no Close goes on with its frames
since_more : (source : FrameSource) (events : List Event) (e : Event) → is_close e ≡ false → list_any is_going (traffic_of source events e) ≡ false → filter_map frame_of (traffic_of source events e) ≡ frames_of source e →
    Since source events → Since source (events ++ e ∷ [])
since_more source events e not_close none frames is =
    let us = traffic_of source events e in
    let left : after_last is_going (traffic source (events ++ e ∷ [])) ≡ after_last is_going (traffic source events) ++ us =
    ap (after_last is_going) (along-one (traffic_of source) events e) ∙ behind_last (traffic source events) us none in
    let right : after_last is_close (events ++ e ∷ []) ≡ after_last is_close events ++ e ∷ [] = after_last-one is_close events e ∙ ap (λ (b : Bool). cond b [] (after_last is_close events ++ e ∷ [])) not_close in
    ap admitted_in left ∙ filter_map-append frame_of (after_last is_going (traffic source events)) us ∙ ap (λ (fs : List (List ℕ)). fs ++ filter_map frame_of us) is
    ∙ ap (λ (fs : List (List ℕ)). admitted source (after_last is_close events) ++ fs) (frames ∙ sym (append-nil (frames_of source e)))
    ∙ sym (flat_map-append (frames_of source) (after_last is_close events) (e ∷ [])) ∙ ap (admitted source) (sym right)

since_one : (source : FrameSource) (events : List Event) (e : Event) → Since source events → Since source (events ++ e ∷ [])
since_one source events (event.Close client why) is =
    let left : after_last is_going (traffic source (events ++ event.Close client why ∷ [])) ≡ [] =
    ap (after_last is_going) (along-one (traffic_of source) events (event.Close client why)) ∙ after_last-one is_going (traffic source events) (Closed client) in
    let right : after_last is_close (events ++ event.Close client why ∷ []) ≡ [] = after_last-one is_close events (event.Close client why) in
    ap admitted_in left ∙ ap (admitted source) (sym right)
since_one source events (event.Connect client) is = since_more source events (event.Connect client) refl refl refl is
since_one source events (event.Request client frame done) is = since_more source events (event.Request client frame done) refl refl refl is
since_one source events (event.Claim claim moment) is = since_more source events (event.Claim claim moment) refl refl refl is
since_one source events (event.Level slot level) is = since_more source events (event.Level slot level) refl refl refl is
since_one source events (event.Log app writer call moment) is = since_more source events (event.Log app writer call moment) refl refl refl is
since_one source events (event.Lost app count moment) is =
    let fs = frames_of source (event.Lost app count moment) in
    since_more source events (event.Lost app count moment) refl (none_goes fs) (admits_all fs) is
since_one source events (event.User channel msg moment) is =
    let fs = frames_of source (event.User channel msg moment) in
    since_more source events (event.User channel msg moment) refl (none_goes fs) (admits_all fs) is

since : (source : FrameSource) (events : List Event) → Since source events
since source = by_end (Since source) refl (since_one source)

-- a client is open in the traffic where it is in the journal
quiet_admits : (client : ℕ) (ts : List Traffic) (frames : List (List ℕ)) → t.is_open client (ts ++ map Admitted frames) ≡ t.is_open client ts
quiet_admits client ts [] = ap (t.is_open client) (append-nil ts)
quiet_admits client ts (frame ∷ frames) =
    ap (t.is_open client) (sym (append_assoc ts (Admitted frame ∷ []) (map Admitted frames))) ∙ quiet_admits client (ts ++ Admitted frame ∷ []) frames ∙ is_open-one client ts (Admitted frame)

open_event : (source : FrameSource) (client : ℕ) (events : List Event) (e : Event) →
    t.is_open client (traffic source events ++ traffic_of source events e) ≡ cond (comes_or_goes client e) (is_connect e) (t.is_open client (traffic source events))
open_event source client events (event.Connect other) = is_open-one client (traffic source events) (Connected other)
open_event source client events (event.Request other frame done) = is_open-one client (traffic source events) (Reply other (source.reply events frame done))
open_event source client events (event.Close other why) = is_open-one client (traffic source events) (Closed other)
open_event source client events (event.Claim claim moment) = ap (t.is_open client) (append-nil (traffic source events))
open_event source client events (event.Level slot level) = ap (t.is_open client) (append-nil (traffic source events))
open_event source client events (event.Log app writer call moment) = quiet_admits client (traffic source events) (frames_of source (event.Log app writer call moment))
open_event source client events (event.Lost app count moment) = quiet_admits client (traffic source events) (frames_of source (event.Lost app count moment))
open_event source client events (event.User channel msg moment) = quiet_admits client (traffic source events) (frames_of source (event.User channel msg moment))

pub open_same : (source : FrameSource) (client : ℕ) (events : List Event) → t.is_open client (traffic source events) ≡ opened client events
open_same source client = by_end (λ events. t.is_open client (traffic source events) ≡ opened client events) refl (λ events e is.
    ap (t.is_open client) (along-one (traffic_of source) events e) ∙ open_event source client events e
    ∙ ap (λ (b : Bool). cond (comes_or_goes client e) (is_connect e) b) is ∙ sym (opened-one client events e))

nobody : (source : FrameSource) (events : List Event) → ((client : ℕ) → IsOpen client events → ⊥) → is_any_open (traffic source events) ≡ false
nobody source events none = elim (cases_Bool (is_any_open (traffic source events))) [
  | inl is ↦
      let there = (any_open (traffic source events)).0 is in
      absurd (none there.0 (is_open_in there.0 events (sym (open_same source there.0 events) ∙ there.1)))
  | inr not ↦ not
]

pub waits_since : (source : FrameSource) (events : List Event) → ((client : ℕ) → IsOpen client events → ⊥) → waiting (traffic source events) ≡ admitted source (after_last is_close events)
waits_since source events none = ap (λ (b : Bool). cond b [] (admitted_in (after_last is_going (traffic source events)))) (nobody source events none) ∙ since source events

pub due_and_refused : (source : FrameSource) (buffer : ℕ) (events : List Event) → ((client : ℕ) → IsOpen client events → ⊥) →
    length (fitting buffer (waiting (traffic source events))) + refused buffer (waiting (traffic source events)) ≡ length (admitted source (after_last is_close events))
due_and_refused source buffer events none = counted buffer (waiting (traffic source events)) ∙ ap length (waits_since source events none)

-- ---- once a frame was refused

still_refused : (limit : ℕ) (frames more : List (List ℕ)) → 0 < refused limit frames → fitting limit (frames ++ more) ≡ fitting limit frames
still_refused limit [] more some = absurd (omega (arith, some))
still_refused limit (frame ∷ frames) more some = by_test (leb (length frame) limit) some (still_refused (limit - length frame) frames more) where
  by_test : (b : Bool) → 0 < length (frame ∷ frames) - length (cond b (frame ∷ fitting (limit - length frame) frames) []) → (0 < refused (limit - length frame) frames → fitting (limit - length frame) (frames ++ more) ≡ fitting (limit - length frame) frames) →
      cond b (frame ∷ fitting (limit - length frame) (frames ++ more)) [] ≡ cond b (frame ∷ fitting (limit - length frame) frames) []
  by_test true lt later =
      let size : length (frame ∷ fitting (limit - length frame) frames) ≡ 1 + length (fitting (limit - length frame) frames) = omega arith in
      let all : length (frame ∷ frames) ≡ 1 + length frames = omega arith in
      ap (λ (fs : List (List ℕ)). frame ∷ fs) (later (omega (arith, lt, size, all)))
  by_test false lt later = refl

pub refused_on : (limit : ℕ) (frames more : List (List ℕ)) → 0 < refused limit frames → (fitting limit (frames ++ more) ≡ fitting limit frames) × (refused limit (frames ++ more) ≡ refused limit frames + length more)
refused_on limit frames more some =
    let same = still_refused limit frames more some in
    (same, omega (arith, counted limit frames, counted limit (frames ++ more), ap length same, length-append frames more))
