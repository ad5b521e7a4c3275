-- What a client hears of a journal.
use Rattle.std.proofs.Common.{◌≡◌, ℕ, ◌+◌, ◌-◌, Bool, true, false, cond, eqb, List, [], ◌∷◌, ◌++◌, length, map, Option, Some, None, refl, sym, ap, subst, ◌∙◌, append_assoc, length-append, arith}
use Rattle.std.specs.Prelude.{◌||◌, ◌&&◌}
use Rattle.std.specs.List.{list_any, filter_map}
use Rattle.std.proofs.lemmas.List.{append-nil}
use Rattle.std.proofs.lemmas.List.Elements.{filter_map-append}
use Rattle.std.proofs.lemmas.List.Folds.{list_any-append}
use Rattle.dl_control.specs.Reply.{daemon_apid, daemon_ctid}
use Rattle.dl_events.specs.declared.event.Event.{Event}
use Rattle.dl_events.specs.declared.event.Event.TheVariants as event
use Rattle.dl_model.specs.Along.{along_from}
use Rattle.dl_model.specs.Backlog.{waiting, fitting, refused, due_backlog}
use Rattle.dl_model.specs.ClientStream.{put, sent, traffic_of, traffic, stream}
use Rattle.dl_model.specs.Frames.{FrameSource, frames_of}
use Rattle.dl_model.specs.Overflow.{overflow_frames}
use Rattle.dl_model.specs.Traffic as ts
use Rattle.dl_model.specs.Traffic.{Traffic, Connected, Admitted, Reply, Closed, meant_for, is_coming, is_open, is_any_open}
use Rattle.dl_model.proofs.Lists.{along_from-append}
use Rattle.dl_model.proofs.ClientStreams.{is_open-one, same_number, any_open-admit, any_open-reply, waiting-admit, waiting-reply, meant_admit}
use Rattle.dl_receive.specs.Calls.{heard_frames, comes_or_goes, stirs}
use Rattle.dl_lemmas.proofs.Bools.{neither}

-- ---- no coming or going

admits_stay : (client : ℕ) (frames : List (List ℕ)) → list_any (ts.comes_or_goes client) (map Admitted frames) ≡ false
admits_stay client [] = refl
admits_stay client (frame ∷ frames) = admits_stay client frames

event_stays : (source : FrameSource) (client : ℕ) (before : List Event) (e : Event) → comes_or_goes client e ≡ false → list_any (ts.comes_or_goes client) (traffic_of source before e) ≡ false
event_stays source client before (event.Connect other) none = rw none refl
event_stays source client before (event.Close other why) none = rw none refl
event_stays source client before (event.Request other frame done) none = refl
event_stays source client before (event.Claim claim moment) none = refl
event_stays source client before (event.Level slot level) none = refl
event_stays source client before (event.Log app writer call moment) none = refl
event_stays source client before (event.Lost app count moment) none = admits_stay client (frames_of source (event.Lost app count moment))
event_stays source client before (event.User channel msg moment) none = admits_stay client (frames_of source (event.User channel msg moment))

or_none : (a b : Bool) → a ≡ false → b ≡ false → (a || b) ≡ false
or_none true b p q = absurd cc
or_none false b p q = q

events_stay : (source : FrameSource) (client : ℕ) (before events : List Event) → list_any (comes_or_goes client) events ≡ false
    → list_any (ts.comes_or_goes client) (along_from (traffic_of source) before events) ≡ false
events_stay source client before [] none = refl
events_stay source client before (e ∷ events) none =
    let parts = neither (comes_or_goes client e) (list_any (comes_or_goes client) events) none in
    list_any-append (ts.comes_or_goes client) (traffic_of source before e) (along_from (traffic_of source) (before ++ e ∷ []) events)
    ∙ or_none _ _ (event_stays source client before e parts.0) (events_stay source client (before ++ e ∷ []) events parts.1)

-- ---- while the client is open

puts_meant : (ecu : List ℕ) (buffer client : ℕ) (before : List Traffic) (t : Traffic) → is_open client before ≡ true → ts.comes_or_goes client t ≡ false →
    put ecu buffer client before t ≡ filter_map (meant_for client) (t ∷ [])
puts_meant ecu buffer client before (Connected other) there none = rw none refl
puts_meant ecu buffer client before (Admitted frame) there none = rw there refl
puts_meant ecu buffer client before (Reply other frame) there none = rw there (by_test (eqb other client)) where
  by_test : (b : Bool) → cond (b && true) (frame ∷ []) [] ≡ filter_map (λ (o : Option (List ℕ)). o) (cond b (Some frame) None ∷ [])
  by_test true = refl
  by_test false = refl
puts_meant ecu buffer client before (Closed other) there none = refl

during : (ecu : List ℕ) (buffer client : ℕ) (before all : List Traffic) → is_open client before ≡ true → list_any (ts.comes_or_goes client) all ≡ false →
    along_from (put ecu buffer client) before all ≡ filter_map (meant_for client) all
during ecu buffer client before [] there none = refl
during ecu buffer client before (t ∷ all) there none =
    let parts = neither (ts.comes_or_goes client t) (list_any (ts.comes_or_goes client) all) none in
    let next : is_open client (before ++ t ∷ []) ≡ true = is_open-one client before t ∙ rw parts.0 there in
    let later = during ecu buffer client (before ++ t ∷ []) all next parts.1 in
    let now = puts_meant ecu buffer client before t there parts.0 in
    rw (now, later) (sym (filter_map-append (meant_for client) (t ∷ []) all))

-- from its coming on: what waited, and all that is meant for it
coming : (ecu : List ℕ) (buffer client : ℕ) (before all : List Traffic) → list_any (ts.comes_or_goes client) all ≡ false →
    along_from (put ecu buffer client) before (Connected client ∷ all) ≡ due_backlog ecu buffer (waiting before) ++ filter_map (meant_for client) all
coming ecu buffer client before all none =
    let there : is_open client (before ++ Connected client ∷ []) ≡ true = is_open-one client before (Connected client) ∙ ap (λ b. cond b true (is_open client before)) (same_number client) in
    let first : put ecu buffer client before (Connected client) ≡ due_backlog ecu buffer (waiting before) = ap (λ b. cond b (due_backlog ecu buffer (waiting before)) []) (same_number client) in
    ap (λ (x : List (List ℕ)). x ++ along_from (put ecu buffer client) (before ++ Connected client ∷ []) all) first
    ∙ ap (λ (x : List (List ℕ)). due_backlog ecu buffer (waiting before) ++ x) (during ecu buffer client (before ++ Connected client ∷ []) all there none)

-- ---- a stream in three parts

module _ (source : FrameSource) (buffer client : ℕ) (before middle after : List Event) (none : list_any (comes_or_goes client) middle ≡ false) where
  abbrev first : List Traffic
  first = traffic source before

  abbrev second : List Traffic
  second = along_from (traffic_of source) (before ++ event.Connect client ∷ []) middle

  abbrev third : List Traffic
  third = along_from (traffic_of source) (before ++ event.Connect client ∷ middle) after

  parts : traffic source (before ++ ((event.Connect client ∷ middle) ++ after)) ≡ first ++ ((Connected client ∷ second) ++ third)
  parts =
      along_from-append (traffic_of source) [] before (event.Connect client ∷ (middle ++ after))
      ∙ ap (λ (x : List Traffic). first ++ x) (along_from-append (traffic_of source) before (event.Connect client ∷ middle) after)

  abbrev puts : List Traffic → List Traffic → List (List ℕ)
  puts = along_from (put source.ecu buffer client)

  pub stream_parts : (later : List (List ℕ)) × (stream source buffer client (before ++ ((event.Connect client ∷ middle) ++ after))
      ≡ puts [] first ++ ((due_backlog source.ecu buffer (waiting first) ++ heard_frames source client before (event.Connect client ∷ middle)) ++ later))
  stream_parts = (
    puts (first ++ (Connected client ∷ second)) third,
    ap (sent source.ecu buffer client) parts
        ∙ along_from-append (put source.ecu buffer client) [] first ((Connected client ∷ second) ++ third)
        ∙ ap (λ (x : List (List ℕ)). puts [] first ++ x) (along_from-append (put source.ecu buffer client) first (Connected client ∷ second) third
        ∙ ap (λ (x : List (List ℕ)). x ++ puts (first ++ (Connected client ∷ second)) third) (coming source.ecu buffer client first second (events_stay source client (before ++ event.Connect client ∷ []) middle none))),
  )

pub listening : (source : FrameSource) (buffer client : ℕ) (before middle after : List Event) → list_any (comes_or_goes client) middle ≡ false →
    (earlier later : List (List ℕ)) × (stream source buffer client (before ++ ((event.Connect client ∷ middle) ++ after))
    ≡ earlier ++ (heard_frames source client before (event.Connect client ∷ middle) ++ later))
listening source buffer client before middle after none =
    let s = stream_parts source buffer client before middle after none in
    let earlier = along_from (put source.ecu buffer client) [] (traffic source before) in
    let due = due_backlog source.ecu buffer (waiting (traffic source before)) in
    let heard = heard_frames source client before (event.Connect client ∷ middle) in
    (earlier ++ due, s.0, s.1 ∙ ap (λ (x : List (List ℕ)). earlier ++ x) (append_assoc due heard s.0) ∙ sym (append_assoc earlier due (heard ++ s.0)))

-- ---- what waits

-- what waits goes on with frames while nobody is there
waits_on : (before : List Traffic) (frames : List (List ℕ)) → is_any_open before ≡ false
    → (waiting (before ++ map Admitted frames) ≡ waiting before ++ frames) × (is_any_open (before ++ map Admitted frames) ≡ false)
waits_on before [] shut = (ap waiting (append-nil before) ∙ sym (append-nil (waiting before)), ap is_any_open (append-nil before) ∙ shut)
waits_on before (frame ∷ frames) shut =
    let more = before ++ Admitted frame ∷ [] in
    let still : is_any_open more ≡ false = any_open-admit frame before ∙ shut in
    let one : waiting more ≡ waiting before ++ frame ∷ [] = waiting-admit frame before ∙ ap (λ b. cond b [] (waiting before ++ frame ∷ [])) shut in
    let later = waits_on more frames still in
    let all : more ++ map Admitted frames ≡ before ++ (Admitted frame ∷ map Admitted frames) = append_assoc before (Admitted frame ∷ []) (map Admitted frames) in
    (ap waiting (sym all) ∙ later.0 ∙ ap (λ (x : List (List ℕ)). x ++ frames) one ∙ append_assoc (waiting before) (frame ∷ []) frames, ap is_any_open (sym all) ∙ later.1)

-- traffic that only makes frames wait
abbrev Waits : ℕ → List Traffic → List Traffic → Type 0
Waits client before more =
    (waiting (before ++ more) ≡ waiting before ++ filter_map (meant_for client) more) × (is_any_open (before ++ more) ≡ false)

frames_wait : (client : ℕ) (before : List Traffic) (frames : List (List ℕ)) → is_any_open before ≡ false → Waits client before (map Admitted frames)
frames_wait client before frames shut =
    let w = waits_on before frames shut in
    (w.0 ∙ ap (λ (x : List (List ℕ)). waiting before ++ x) (sym (meant_admit client frames)), w.1)

nothing_waits : (client : ℕ) (before : List Traffic) → is_any_open before ≡ false → Waits client before []
nothing_waits client before shut = frames_wait client before [] shut

event_waits : (source : FrameSource) (client : ℕ) (done : List Event) (before : List Traffic) (e : Event) → is_any_open before ≡ false → stirs client e ≡ false
    → Waits client before (traffic_of source done e)
event_waits source client done before (event.Connect other) shut none = absurd cc
event_waits source client done before (event.Close other why) shut none = absurd cc
event_waits source client done before (event.Request other frame answer) shut none =
    let reply = source.reply done frame answer in (
      waiting-reply other reply before ∙ sym (append-nil (waiting before))
          ∙ ap (λ (o : Option (List ℕ)). waiting before ++ filter_map (λ (p : Option (List ℕ)). p) (o ∷ [])) (sym (ap (λ b. cond b (Some reply) None) none)),
      any_open-reply other reply before ∙ shut,
    )
event_waits source client done before (event.Claim claim moment) shut none = nothing_waits client before shut
event_waits source client done before (event.Level slot level) shut none = nothing_waits client before shut
event_waits source client done before (event.Log app writer call moment) shut none = frames_wait client before (source.frame writer call ∷ []) shut
event_waits source client done before (event.Lost app count moment) shut none = frames_wait client before (frames_of source (event.Lost app count moment)) shut
event_waits source client done before (event.User channel msg moment) shut none = frames_wait client before (frames_of source (event.User channel msg moment)) shut

events_wait : (source : FrameSource) (client : ℕ) (done events : List Event) (before : List Traffic) → is_any_open before ≡ false → list_any (stirs client) events ≡ false
    → Waits client before (along_from (traffic_of source) done events)
events_wait source client done [] before shut none = nothing_waits client before shut
events_wait source client done (e ∷ events) before shut none =
    let parts = neither (stirs client e) (list_any (stirs client) events) none in
    let now = traffic_of source done e in
    let rest = along_from (traffic_of source) (done ++ e ∷ []) events in
    let first = event_waits source client done before e shut parts.0 in
    let later = events_wait source client (done ++ e ∷ []) events (before ++ now) first.1 parts.1 in
    let all : (before ++ now) ++ rest ≡ before ++ (now ++ rest) = append_assoc before now rest in (
      ap waiting (sym all) ∙ later.0 ∙ ap (λ (x : List (List ℕ)). x ++ filter_map (meant_for client) rest) first.0
          ∙ append_assoc (waiting before) (filter_map (meant_for client) now) (filter_map (meant_for client) rest)
          ∙ ap (λ (x : List (List ℕ)). waiting before ++ x) (sym (filter_map-append (meant_for client) now rest)),
      ap is_any_open (sym all) ∙ later.1,
    )

-- ---- a backlog that refused nothing is handed over whole

fits_all : (limit : ℕ) (frames : List (List ℕ)) → refused limit frames ≡ 0 → fitting limit frames ≡ frames
fits_all limit frames none = by_prefix (fitting limit frames) (prefix limit frames) none where
  prefix : (room : ℕ) (all : List (List ℕ)) → (others : List (List ℕ)) × (all ≡ fitting room all ++ others)
  prefix room [] = ([], refl)
  prefix room (frame ∷ all) = by_test (Rattle.std.proofs.Common.leb (length frame) room) (prefix (room - length frame) all) where
    by_test : (b : Bool) → (others : List (List ℕ)) × (all ≡ fitting (room - length frame) all ++ others)
        → (others : List (List ℕ)) × (frame ∷ all ≡ cond b (frame ∷ fitting (room - length frame) all) [] ++ others)
    by_test true h = (h.0, ap (λ (fs : List (List ℕ)). frame ∷ fs) h.1)
    by_test false h = (frame ∷ all, refl)

  by_prefix : (kept : List (List ℕ)) → (others : List (List ℕ)) × (frames ≡ kept ++ others) → length frames - length kept ≡ 0 → kept ≡ frames
  by_prefix kept ([], e) zero = sym (append-nil kept) ∙ sym e
  by_prefix kept (x ∷ others, e) zero = absurd (omega (arith, ap length e, length-append kept (x ∷ others), zero))

none_over : (ecu apid ctid : List ℕ) (kept : List (List ℕ)) (n : ℕ) → n ≡ 0 → kept ++ overflow_frames ecu apid ctid n ≡ kept
none_over ecu apid ctid kept n none = ap (λ (m : ℕ). kept ++ overflow_frames ecu apid ctid m) none ∙ append-nil kept

hands_all : (ecu : List ℕ) (buffer : ℕ) (frames : List (List ℕ)) → refused buffer frames ≡ 0 → due_backlog ecu buffer frames ≡ frames
hands_all ecu buffer frames none = none_over ecu daemon_apid daemon_ctid (fitting buffer frames) (refused buffer frames) none ∙ fits_all buffer frames none

pub waited_for : (source : FrameSource) (buffer client : ℕ) (before waited middle after : List Event) → is_any_open (traffic source before) ≡ false →
    list_any (stirs client) waited ≡ false → refused buffer (waiting (traffic source (before ++ waited))) ≡ 0 → list_any (comes_or_goes client) middle ≡ false →
    (earlier later : List (List ℕ)) × (stream source buffer client (before ++ ((waited ++ event.Connect client ∷ middle) ++ after))
    ≡ earlier ++ (heard_frames source client before (waited ++ event.Connect client ∷ middle) ++ later))
waited_for source buffer client before waited middle after shut still none stays =
    let s = stream_parts source buffer client (before ++ waited) middle after stays in
    let earlier = along_from (put source.ecu buffer client) [] (traffic source (before ++ waited)) in
    let w = events_wait source client before waited (traffic source before) shut still in
    let since = heard_frames source client before waited in
    let then = heard_frames source client (before ++ waited) (event.Connect client ∷ middle) in
    let already = waiting (traffic source before) in
    let due : due_backlog source.ecu buffer (waiting (traffic source (before ++ waited))) ≡ already ++ since =
    hands_all source.ecu buffer (waiting (traffic source (before ++ waited))) none ∙ ap waiting (along_from-append (traffic_of source) [] before waited) ∙ w.0 in
    let all : heard_frames source client before (waited ++ event.Connect client ∷ middle) ≡ since ++ then =
    ap (filter_map (meant_for client)) (along_from-append (traffic_of source) before waited (event.Connect client ∷ middle))
    ∙ filter_map-append (meant_for client) (along_from (traffic_of source) before waited) (along_from (traffic_of source) (before ++ waited) (event.Connect client ∷ middle)) in
    let place : before ++ ((waited ++ event.Connect client ∷ middle) ++ after) ≡ (before ++ waited) ++ ((event.Connect client ∷ middle) ++ after) =
    ap (λ (x : List Event). before ++ x) (append_assoc waited (event.Connect client ∷ middle) after) ∙ sym (append_assoc before waited ((event.Connect client ∷ middle) ++ after)) in (
      earlier ++ already,
      s.0,
      ap (stream source buffer client) place ∙ s.1
          ∙ ap (λ (x : List (List ℕ)). earlier ++ ((x ++ then) ++ s.0)) due
          ∙ ap (λ (x : List (List ℕ)). earlier ++ x) (ap (λ (x : List (List ℕ)). x ++ s.0) (append_assoc already since then) ∙ append_assoc already (since ++ then) s.0)
          ∙ sym (append_assoc earlier already ((since ++ then) ++ s.0))
          ∙ ap (λ (x : List (List ℕ)). (earlier ++ already) ++ (x ++ s.0)) (sym all),
    )
