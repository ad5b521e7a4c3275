-- A turn, a pump and the closing turns, told by their events and by the bytes of the link.
use Rattle.std.proofs.Common.{◌≡◌, ℕ, zero, suc, List, [], ◌++◌, Option, Some, None, inl, inr, refl, sym, ap, subst, ◌∙◌, append_assoc}
use Rattle.std.specs.Prelude.{◌≤◌, length, take, IsSomeAnd}
use Rattle.std.proofs.lemmas.List.{append-nil}
use Rattle.dl_outside.proofs.Staying.{grows_both}
use Rattle.dl_events.specs.declared.event.Event.{Event}
use Rattle.dl_events.specs.declared.event.Why.{Why}
use Rattle.dl_events.specs.declared.event.Why.TheVariants.{Left, Broken, Slow, Malformed, TooMany, NoMemory, Stuck, Stopped}
use Rattle.dl_message.specs.Cutting.{Cutting}
use Rattle.dl_model.specs.ClientEnds.{asked_by}
use Rattle.dl_outside.specs.Outside.{Grows}
use Rattle.dl_outside.specs.Told.{LinkTold}
use Rattle.dl_hub.specs.Follows.{took_more}
use Rattle.dl_hub.specs.State.{Hub, Waiting, bytes_before, changed, outbox_of, without}
use Rattle.dl_core.specs.Admission.{AddsEach}
use Rattle.dl_core.specs.Follows.{HoldsTrace, IsAfter, Run, source_of}
use Rattle.dl_core.specs.State.{Core}
use Rattle.dl_turns.specs.Events.{Closes}
use Rattle.dl_turns.specs.Injected.{HasInjected}
use Rattle.dl_turns.specs.Later.{HasHeard, IsDeskLater, IsLater, IsLaterStage, IsOpenWith}
use Rattle.dl_turns.specs.Sent.{HasCut}
use Rattle.dl_turns.specs.State.{Side, Stage}
use Rattle.dl_turns.specs.Stopping.{IsClosedIn, IsStop, HasClosingTurns, TurnsOn}
use Rattle.dl_turns.specs.Turns.{IsPump, IsTurn, Listens, SendsRightly, heard}
use Rattle.dl_turns.proofs.ClosesInTurn.{comes, heeds_end, sends_end, stop_ends}
use Rattle.dl_turns.proofs.GrownBytes.{gives_heard, stays_grow, stays_same}
use Rattle.dl_turns.proofs.HeardSides.{AsksAll, heard_heeds, heard_nothing}
use Rattle.dl_turns.proofs.LaterSides.{closed_calm, later_both, later_closed, later_closes, later_heeds, later_same, others_by}

-- ---- one after the other

-- where the cutter is the same and nothing came
cut_none : (stream : List ℕ) (cutter cutter_now : Cutting) → cutter_now ≡ cutter → HasCut stream cutter → HasCut (stream ++ []) cutter_now
cut_none stream cutter cutter_now same cut =
    subst (λ (c : Cutting). HasCut (stream ++ []) c) (sym same) (subst (λ (bytes : List ℕ). HasCut bytes cutter) (sym (append-nil stream)) cut)

pub stages_both : (client : ℕ) (why : Option Why) (old between new : Stage) → IsLaterStage client None old between → IsLaterStage client why between new → IsLaterStage client why old new
unfolding later_both
stages_both client why old between new one two =
    let side = later_both client why one.sent two.sent old.side between.side new.side one.side two.side in
    let calm : one.side.more ≡ one.side.calm = one.side.ends ∙ append-nil one.side.calm in
    record {
      given = one.given ++ two.given;
      link_gave = grows_both old.link.given between.link.given new.link.given one.given two.given one.link_gave two.link_gave;
      sent = one.sent ++ two.sent;
      link_took = grows_both old.link.taken between.link.taken new.link.taken one.sent two.sent one.link_took two.link_took;
      side = side;
      cut = λ stream stays was.
          subst (λ (bytes : List ℕ). HasCut bytes new.cutter) (append_assoc stream one.given two.given) (two.cut (stream ++ one.given) stays (one.cut stream refl was));
      heard = λ run past taken stream was.
          let first = one.heard run past taken stream was in
          let now : IsOpenWith client run (past ++ one.side.more) (took_more taken client one.sent) (stream ++ one.given) between = record {
            after = (one.side.after run past taken was.after).0;
            cut = one.cut stream refl was.cut;
            asked = ap (λ (es : List Event). asked_by client (past ++ es)) calm ∙ sym first.asked;
          } in
          let later = two.heard run (past ++ one.side.more) (took_more taken client one.sent) (stream ++ one.given) now in
          subst (λ (bytes : List ℕ). HasHeard (source_of run) (past ++ (one.side.more ++ two.side.calm)) client why bytes) (append_assoc stream one.given two.given)
          (subst (λ (es : List Event). HasHeard (source_of run) es client why ((stream ++ one.given) ++ two.given)) (append_assoc past one.side.more two.side.calm) later);
    }

-- ---- a turn

stage_listens : (client : ℕ) (old new : Stage) → Listens client None old new → IsLaterStage client None old new
stage_listens client old new listens =
    let side = later_heeds client old.cutter.unread listens.answer listens.into None old.side new.side listens.heeds in
    record {
      given = heard listens.answer listens.into;
      link_gave = gives_heard old.link.given new.link.given listens.answer listens.into listens.hears.given;
      sent = [];
      link_took = stays_grow old.link.taken new.link.taken listens.hears.untaken;
      side = side;
      cut = listens.cut;
      heard = λ run past taken stream was.
          subst (λ (es : List Event). HasHeard (source_of run) (past ++ es) client None (stream ++ heard listens.answer listens.into)) (side.ends ∙ append-nil side.calm)
          (heard_heeds client old.cutter listens.answer listens.into None old.side new.side listens.heeds run past taken stream was.after was.cut was.asked);
    }

pub stage_turn : (client : ℕ) (why : Option Why) (old new : Stage) → IsTurn client why old new → IsLaterStage client why old new
unfolding later_both
stage_turn client why old new turn =
    let listens = turn.listens in
    let ends = comes client why turn.between new.side (heeds_end client old.cutter.unread listens.answer listens.into why old.side turn.between listens.heeds) turn.closes in
    let heeds = later_heeds client old.cutter.unread listens.answer listens.into why old.side turn.between listens.heeds in
    let closed = later_closed client why turn.between new.side ends turn.closes in
    let calm : heeds.more ≡ heeds.more ++ closed.calm = sym (ap (λ (es : List Event). heeds.more ++ es) (closed_calm client why turn.between new.side ends turn.closes) ∙ append-nil heeds.more) in
    record {
      given = heard listens.answer listens.into;
      link_gave = gives_heard old.link.given new.link.given listens.answer listens.into listens.hears.given;
      sent = [];
      link_took = stays_grow old.link.taken new.link.taken listens.hears.untaken;
      side = later_both client why [] [] old.side turn.between new.side heeds closed;
      cut = listens.cut;
      heard = λ run past taken stream was.
          subst (λ (es : List Event). HasHeard (source_of run) (past ++ es) client why (stream ++ heard listens.answer listens.into)) calm
          (heard_heeds client old.cutter listens.answer listens.into why old.side turn.between listens.heeds run past taken stream was.after was.cut was.asked);
    }

-- ---- a pump

grows_by : (o : Option Waiting) (count : ℕ) (taken taken_now : Option (List ℕ)) → IsSomeAnd o (λ w. (count ≤ length w.bytes) × Grows taken taken_now (take count w.bytes)) → Grows taken taken_now (bytes_before count o)
grows_by None count taken taken_now sent = absurd sent
grows_by (Some w) count taken taken_now sent = sent.1

pub fits : (o : Option Waiting) (count : ℕ) (taken taken_now : Option (List ℕ)) → IsSomeAnd o (λ w. (count ≤ length w.bytes) × Grows taken taken_now (take count w.bytes)) → IsSomeAnd o (λ w. count ≤ length w.bytes)
fits None count taken taken_now sent = absurd sent
fits (Some w) count taken taken_now sent = sent.0

-- a pump closes a client for a fault of its link alone
pump_asks_all : (client : ℕ) (why : Option Why) (core : Core) (link link_now : LinkTold) → SendsRightly client why core link link_now → AsksAll why × (why ≡ Some Malformed → ⊥)
pump_asks_all client None core link link_now sends = (λ source before given asked same. same, λ is. absurd (cc is))
pump_asks_all client (Some Broken) core link link_now sends = (λ source before given asked same. same, λ is. absurd (cc is))
pump_asks_all client (Some Left) core link link_now sends = absurd sends
pump_asks_all client (Some Malformed) core link link_now sends = absurd sends
pump_asks_all client (Some TooMany) core link link_now sends = absurd sends
pump_asks_all client (Some NoMemory) core link link_now sends = absurd sends
pump_asks_all client (Some (Slow room need)) core link link_now sends = absurd sends
pump_asks_all client (Some (Stuck left)) core link link_now sends = absurd sends
pump_asks_all client (Some Stopped) core link link_now sends = absurd sends

abbrev pub WhatLinksTake : Type 0
WhatLinksTake = (run : Run) (events : List Event) (taken : ℕ → List ℕ) (core : Core) (count client : ℕ) → IsAfter run events taken core
    → IsSomeAnd (outbox_of core.hub client) (λ outbox. count ≤ length outbox.bytes)
    → IsAfter run events (took_more taken client (bytes_before count (outbox_of core.hub client))) (record core { hub = changed client (without count) core.hub })

module _ (takes : WhatLinksTake) where
  -- what went through the link
  pumped : (client : ℕ) (link link_now : LinkTold) (old : Side) (why : Option Why) (new : Side) (pump : IsPump client why link link_now old new)
      → IsLater client None (bytes_before pump.pumps.count (outbox_of old.core.hub client)) old pump.between
  unfolding later_same
  pumped client link link_now old why new pump =
      let count = pump.pumps.count in
      let o = outbox_of old.core.hub client in
      let sent = bytes_before count o in
      let core : pump.between.core ≡ record old.core { hub = changed client (without count) old.core.hub } =
      ap (λ (s : Side). s.core) pump.rest ∙ ap (λ (h : Hub). record old.core { hub = h }) pump.pumps.left in
      let same = later_same client old old refl in
      record {
        more = [];
        events = subst (λ (s : Side). AddsEach old.events s.events []) (sym pump.rest) same.events;
        calm = [];
        all_calm = tt;
        ends = refl;
        formed = λ run past taken was. tt;
        after = λ run past taken was.
            let none : past ≡ past ++ [] = sym (append-nil past) in (
              subst (λ (es : List Event). IsAfter run es (took_more taken client sent) pump.between.core) none
                  (subst (λ (k : Core). IsAfter run past (took_more taken client sent) k) (sym core) (takes run past taken old.core count client was (fits o count link.taken link_now.taken pump.pumps.sent))),
              λ held. subst (λ (es : List Event). HoldsTrace run es pump.between.core pump.between.folder) none (subst (λ (s : Side). HoldsTrace run past s.core s.folder) (sym pump.rest) held),
            );
        desk = subst (λ (s : Side). IsDeskLater [] old.desk s.desk) (sym pump.rest) same.desk;
        posts = λ run past taken was app. subst (λ (s : Side). HasInjected run.setting past [] app old.desk s.desk) (sym pump.rest) (same.posts run past taken was app);
        leaves = tt;
        others = λ other apart. others_by old.core.hub pump.between.core.hub client (without count) pump.pumps.left other apart;
      }

  pub stage_pump : (client : ℕ) (why : Option Why) (old new : Stage) → IsPump client why old.link new.link old.side new.side → new.cutter ≡ old.cutter → IsLaterStage client why old new
  unfolding later_both pumped
  stage_pump client why old new pump same =
      let count = pump.pumps.count in
      let o = outbox_of old.side.core.hub client in
      let ends = comes client why pump.between new.side (sends_end client why pump.between.core old.link new.link pump.sends) pump.closes in
      let first = pumped client old.link new.link old.side why new.side pump in
      let closed = later_closed client why pump.between new.side ends pump.closes in
      let calm : [] ≡ first.more ++ closed.calm = sym (closed_calm client why pump.between new.side ends pump.closes) in
      record {
        given = [];
        link_gave = stays_grow old.link.given new.link.given pump.only_sent.given;
        sent = bytes_before count o ++ [];
        link_took = subst (λ (bytes : List ℕ). Grows old.link.taken new.link.taken bytes) (sym (append-nil (bytes_before count o))) (grows_by o count old.link.taken new.link.taken pump.pumps.sent);
        side = later_both client why (bytes_before count o) [] old.side pump.between new.side first closed;
        cut = λ stream stays was. cut_none stream old.cutter new.cutter same was;
        heard = λ run past taken stream was.
            let sent = pump_asks_all client why pump.between.core old.link new.link pump.sends in
            subst (λ (es : List Event). HasHeard (source_of run) (past ++ es) client why (stream ++ [])) calm
            (heard_nothing (source_of run) past client why stream old.cutter sent.0 sent.1 was.cut was.asked);
      }

  -- ---- the closing turns

  stage_goes : (client : ℕ) (old new : Stage) (heard : Stage) → Listens client None old heard → (why : Option Why) → IsPump client why heard.link new.link heard.side new.side → new.cutter ≡ heard.cutter
      → IsLaterStage client why old new
  stage_goes client old new heard listens why pump same = stages_both client why old heard new (stage_listens client old heard listens) (stage_pump client why heard new pump same)

  stage_closed : (client : ℕ) (why : Why) (old new : Stage) → IsClosedIn client why old new → IsLaterStage client (Some why) old new
  stage_closed client why old new (inl turn) = stage_turn client (Some why) old new turn
  stage_closed client why old new (inr closed) = stage_goes client old new closed.0 closed.1 (Some why) closed.2 closed.3

  stop_asks_all : (why : Why) → IsStop why → AsksAll (Some why) × (Some why ≡ Some Malformed → ⊥)
  stop_asks_all Stopped stop = (λ source before given asked same. same, λ is. absurd (cc is))
  stop_asks_all (Stuck left) stop = (λ source before given asked same. same, λ is. absurd (cc is))
  stop_asks_all _ stop = absurd stop

  stage_stop : (client : ℕ) (why : Why) (old new : Stage) → IsStop why → Closes client why old.side new.side → new.link ≡ old.link → IsLaterStage client (Some why) old new
  unfolding later_closed later_closes
  stage_stop client why old new stop closes same =
      let side = later_closed client (Some why) old.side new.side (comes client (Some why) old.side new.side (stop_ends client why old.side.core stop) closes) closes in
      record {
        given = [];
        link_gave = subst (λ (l : LinkTold). Grows old.link.given l.given []) (sym same) (stays_grow old.link.given old.link.given (stays_same old.link.given));
        sent = [];
        link_took = subst (λ (l : LinkTold). Grows old.link.taken l.taken []) (sym same) (stays_grow old.link.taken old.link.taken (stays_same old.link.taken));
        side = side;
        cut = λ stream stays was. absurd (cc stays);
        heard = λ run past taken stream was. let all = stop_asks_all why stop in heard_nothing (source_of run) past client (Some why) stream old.cutter all.0 all.1 was.cut was.asked;
      }

  -- turns, and what comes behind them
  stage_behind : (client count : ℕ) (why : Option Why) (old last new : Stage) → TurnsOn client count old last → IsLaterStage client why last new → IsLaterStage client why old new
  stage_behind client zero why old last new turns later = subst (λ (s : Stage). IsLaterStage client why s new) turns later
  stage_behind client (suc count) why old last new turns later =
      let goes = turns.1 in
      stages_both client why old turns.0 new (stage_goes client old turns.0 goes.heard goes.listens None goes.pumps goes.cutter) (stage_behind client count why turns.0 last new turns.2 later)

  pub stage_wound_up : (client : ℕ) (why : Why) (old new : Stage) → HasClosingTurns client why old new → IsLaterStage client (Some why) old new
  stage_wound_up client why old new wound =
      let last = wound.last in
      stage_behind client wound.count (Some why) old last new wound.turns (elim wound.ends [
        | inl closed ↦ stage_closed client why last new closed.1
        | inr stopped ↦
            let end = stopped.0 in
            let closes = stage_stop client why end new stopped.2 stopped.3 stopped.4 in
            elim stopped.1 [
              | inl quiet ↦ let goes = quiet.1 in stages_both client (Some why) last end new (stage_goes client last end goes.heard goes.listens None goes.pumps goes.cutter) closes
              | inr all ↦ subst (λ (s : Stage). IsLaterStage client (Some why) s new) all.1 closes
            ]
      ])
