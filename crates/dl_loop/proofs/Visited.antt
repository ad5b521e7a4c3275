-- What no visit to a client does: no client is stopped in its round, and no frame is admitted.
use Rattle.std.proofs.Common.{◌≡◌, ℕ, Bool, true, false, List, [], ◌∷◌, ◌++◌, Option, Some, None, inl, inr, unwrap_or, take, refl, sym, ap, subst, ◌∙◌}
use Rattle.std.specs.Prelude.{IfSome}
use Rattle.std.specs.List.{AllByRecursion, list_any}
use Rattle.dl_events.specs.declared.event.Event.{Event}
use Rattle.dl_events.specs.declared.event.Event.TheVariants as event
use Rattle.dl_events.specs.declared.event.Why.{Why}
use Rattle.dl_events.specs.declared.event.Why.TheVariants as why
use Rattle.dl_model.specs.Journal.{is_stop, IsRunning}
use Rattle.dl_outside.specs.declared.link.Gave.{Gave}
use Rattle.dl_outside.specs.declared.link.Gave.TheVariants as gave
use Rattle.dl_model.specs.declared.registry.LevelChange.{LevelChange}
use Rattle.dl_message.specs.Requests.{requests}
use Rattle.dl_outside.specs.Told.{LinkTold}
use Rattle.dl_hub.specs.State.{Hub}
use Rattle.dl_core.specs.State.{Core}
use Rattle.dl_core.specs.Admission.{AddsEach}
use Rattle.dl_core.proofs.Following.{running_on}
use Rattle.dl_turns.specs.Events.{SetsLevels}
use Rattle.dl_turns.specs.Later.{IsCalm, IsLaterStage, close_of}
use Rattle.dl_turns.proofs.LaterStages.{stage_turn}
use Rattle.dl_turns.specs.Sent.{is_bad}
use Rattle.dl_turns.specs.State.{Side, Stage}
use Rattle.dl_turns.specs.Turns.{ClosesFor, Heeds, IsTurn, IsPump, Refuses, SendsRightly, ServesEach}
use Rattle.dl_rounds.specs.Clients.{Client, Clients, Visits, VisitsAll, stage_of, with_client}
use Rattle.dl_rounds.specs.Visits.{Heard, HearsAll, Pumped}
use Rattle.dl_rounds.specs.declared.listener.Listener.{Listener}

-- ---- no client is closed in its turn as at the daemon's stop

refuses_no_stop : (client : ℕ) (frame : List ℕ) (cause : Why) (core : Core) → Refuses client frame cause core → is_stop (event.Close client cause) ≡ false
refuses_no_stop client frame why.TooMany core refuses = refl
refuses_no_stop client frame why.NoMemory core refuses = refl
refuses_no_stop client frame (why.Slow room need) core refuses = refl
refuses_no_stop client frame why.Left core refuses = refl
refuses_no_stop client frame why.Broken core refuses = refl
refuses_no_stop client frame why.Malformed core refuses = refl
refuses_no_stop client frame (why.Stuck left) core refuses = absurd refuses
refuses_no_stop client frame why.Stopped core refuses = absurd refuses

serves_no_stop : (client : ℕ) (frames : List (List ℕ)) (bad : Bool) (cause : Why) (old new : Side) → ServesEach client frames bad (Some cause) old new → is_stop (event.Close client cause) ≡ false
serves_no_stop client [] true cause old new serves = ap (λ (o : Option Why). is_stop (event.Close client (unwrap_or o cause))) serves.0
serves_no_stop client [] false cause old new serves = absurd (cc serves.0)
serves_no_stop client (frame ∷ frames) bad cause old new (inl refused) = refuses_no_stop client frame cause old.core refused.0
serves_no_stop client (frame ∷ frames) bad cause old new (inr served) = serves_no_stop client frames bad cause served.0 new served.2

heeds_no_stop : (client : ℕ) (unread : List ℕ) (answer : Gave) (into : List ℕ) (cause : Why) (old new : Side) → Heeds client unread answer into (Some cause) old new → is_stop (event.Close client cause) ≡ false
heeds_no_stop client unread (gave.Bytes count) into cause old new heeds = serves_no_stop client (requests (unread ++ take count into)) (is_bad (unread ++ take count into)) cause old new heeds
heeds_no_stop client unread gave.NotYet into cause old new heeds = absurd (cc heeds.0)
heeds_no_stop client unread gave.End into cause old new heeds = ap (λ (o : Option Why). is_stop (event.Close client (unwrap_or o cause))) heeds.0
heeds_no_stop client unread gave.Failed into cause old new heeds = ap (λ (o : Option Why). is_stop (event.Close client (unwrap_or o cause))) heeds.0

pub turn_no_stop : (client : ℕ) (cause : Why) (old new : Stage) → IsTurn client (Some cause) old new → is_stop (event.Close client cause) ≡ false
turn_no_stop client cause old new turn = heeds_no_stop client old.cutter.unread turn.listens.answer turn.listens.into cause old.side turn.between turn.listens.heeds

pub pump_no_stop : (client : ℕ) (cause : Why) (link link_now : LinkTold) (old new : Side) → IsPump client (Some cause) link link_now old new → is_stop (event.Close client cause) ≡ false
pump_no_stop client cause link link_now old new pump = sends_no_stop cause pump.sends where
  sends_no_stop : (cause : Why) → SendsRightly client (Some cause) pump.between.core link link_now → is_stop (event.Close client cause) ≡ false
  sends_no_stop why.Broken sends = refl
  sends_no_stop why.TooMany sends = refl
  sends_no_stop why.NoMemory sends = refl
  sends_no_stop (why.Slow room need) sends = refl
  sends_no_stop why.Left sends = refl
  sends_no_stop why.Malformed sends = refl
  sends_no_stop (why.Stuck left) sends = absurd sends
  sends_no_stop why.Stopped sends = absurd sends

-- ---- no frame is admitted in a visit

levels_admit_none : (changes : List LevelChange) (old new : Side) → SetsLevels changes old new → new.core.hub.admitted ≡ old.core.hub.admitted
levels_admit_none [] old new sets = ap (λ (s : Side). s.core.hub.admitted) sets.0
levels_admit_none (next ∷ changes) old new sets = levels_admit_none changes sets.0 new sets.2 ∙ ap (λ (c : Core). c.hub.admitted) sets.1.core

serves_admit_none : (client : ℕ) (frames : List (List ℕ)) (bad : Bool) (cause : Option Why) (old new : Side) → ServesEach client frames bad cause old new → new.core.hub.admitted ≡ old.core.hub.admitted
serves_admit_none client [] bad cause old new serves = ap (λ (s : Side). s.core.hub.admitted) serves.1
serves_admit_none client (frame ∷ frames) bad cause old new (inl refused) = ap (λ (s : Side). s.core.hub.admitted) refused.1
serves_admit_none client (frame ∷ frames) bad cause old new (inr served) =
    serves_admit_none client frames bad cause served.0 new served.2
    ∙ levels_admit_none served.1.2.0 served.1.0 served.0 served.1.2.1
    ∙ ap (λ (h : Hub). h.admitted) served.1.1.serves.reply

heeds_admit_none : (client : ℕ) (unread : List ℕ) (answer : Gave) (into : List ℕ) (cause : Option Why) (old new : Side) → Heeds client unread answer into cause old new → new.core.hub.admitted ≡ old.core.hub.admitted
heeds_admit_none client unread (gave.Bytes count) into cause old new heeds = serves_admit_none client (requests (unread ++ take count into)) (is_bad (unread ++ take count into)) cause old new heeds
heeds_admit_none client unread gave.NotYet into cause old new heeds = ap (λ (s : Side). s.core.hub.admitted) heeds.1
heeds_admit_none client unread gave.End into cause old new heeds = ap (λ (s : Side). s.core.hub.admitted) heeds.1
heeds_admit_none client unread gave.Failed into cause old new heeds = ap (λ (s : Side). s.core.hub.admitted) heeds.1

closes_admit_none : (client : ℕ) (cause : Option Why) (old new : Side) → ClosesFor client cause old new → new.core.hub.admitted ≡ old.core.hub.admitted
closes_admit_none client None old new closes = ap (λ (s : Side). s.core.hub.admitted) closes
closes_admit_none client (Some cause) old new closes = ap (λ (c : Core). c.hub.admitted) closes.core

pub turn_admits_none : (client : ℕ) (cause : Option Why) (old new : Stage) → IsTurn client cause old new → new.side.core.hub.admitted ≡ old.side.core.hub.admitted
turn_admits_none client cause old new turn =
    closes_admit_none client cause turn.between new.side turn.closes
    ∙ heeds_admit_none client old.cutter.unread turn.listens.answer turn.listens.into cause old.side turn.between turn.listens.heeds

pub pump_admits_none : (client : ℕ) (cause : Option Why) (link link_now : LinkTold) (old new : Side) → IsPump client cause link link_now old new → new.core.hub.admitted ≡ old.core.hub.admitted
pump_admits_none client cause link link_now old new pump =
    closes_admit_none client cause pump.between new pump.closes ∙ ap (λ (h : Hub). h.admitted) pump.pumps.left

-- ---- what each visit keeps, visits to all clients keep

-- a property that each visit keeps is kept by visits
pub visits_keep : (Visit : ℕ → Bool → Client → Client → Type 0) (P : Clients → Type 0)
    → ((number : ℕ) (moved : Bool) (clients : Clients) (was now : Client) → was.side ≡ clients.side → Visit number moved was now → P clients → P (with_client number now clients))
    → (last : ℕ) (numbers : List ℕ) (moved : Bool) (old new : Clients) → Visits Visit last numbers moved old new → P old → P new
visits_keep Visit P keeps last [] moved old new visits holds = subst P (sym visits.2) holds
visits_keep Visit P keeps last (number ∷ numbers) moved old new visits holds =
    visits_keep Visit P keeps number numbers visits.6 (with_client number visits.3 old) new visits.8 (keeps number visits.4 old visits.1 visits.3 visits.2.side visits.5 holds)

-- no frame is admitted
pub heard_admits_none : (moved : Bool) (old new : Clients) → HearsAll moved old new → new.side.core.hub.admitted ≡ old.side.core.hub.admitted
heard_admits_none moved old new hears = visits_keep Heard (λ (c : Clients). c.side.core.hub.admitted ≡ old.side.core.hub.admitted)
    (λ number here clients was now is heard so.
    turn_admits_none number heard.why (stage_of was) (record (stage_of now) { link = heard.link }) heard.turn ∙ ap (λ (s : Side). s.core.hub.admitted) is ∙ so)
    0 hears.0 moved old new hears.1 refl

pub pumped_admits_none : (moved : Bool) (old new : Clients) → VisitsAll Pumped moved old new → new.side.core.hub.admitted ≡ old.side.core.hub.admitted
pumped_admits_none moved old new pumps = visits_keep Pumped (λ (c : Clients). c.side.core.hub.admitted ≡ old.side.core.hub.admitted)
    (λ number here clients was now is pumped so.
    pump_admits_none number pumped.why was.link pumped.link was.side now.side pumped.pump ∙ ap (λ (s : Side). s.core.hub.admitted) is ∙ so)
    0 pumps.0 moved old new pumps.1 refl

-- ---- no client is stopped

calm_runs : (client : ℕ) (calm later : List Event) → AllByRecursion (IsCalm client) calm → list_any is_stop later ≡ false → list_any is_stop (calm ++ later) ≡ false
calm_runs client [] later is none = none
calm_runs client (event.Request other frame answer ∷ calm) later is none = calm_runs client calm later is.1 none
calm_runs client (event.Level slot level ∷ calm) later is none = calm_runs client calm later is.1 none
calm_runs client (event.Log app writer call moment ∷ calm) later is none = absurd is.0
calm_runs client (event.Claim claim moment ∷ calm) later is none = absurd is.0
calm_runs client (event.Lost app count moment ∷ calm) later is none = absurd is.0
calm_runs client (event.User channel msg moment ∷ calm) later is none = absurd is.0
calm_runs client (event.Connect other ∷ calm) later is none = absurd is.0
calm_runs client (event.Close other cause ∷ calm) later is none = absurd is.0

close_runs : (client : ℕ) (cause : Option Why) → IfSome cause (λ c. is_stop (event.Close client c) ≡ false) → list_any is_stop (close_of client cause) ≡ false
close_runs client None none = refl
close_runs client (Some c) none = rw none refl

-- the journal is kept, and no client was stopped in it
abbrev pub Runs : Clients → Type 0
Runs clients = IfSome clients.side.events IsRunning

runs_on : (client : ℕ) (cause : Option Why) (old new : Stage) → IsLaterStage client cause old new → IfSome cause (λ c. is_stop (event.Close client c) ≡ false)
    → (events : Option (List Event)) → old.side.events ≡ events → IfSome events IsRunning → IfSome new.side.events IsRunning
runs_on client cause old new later none None is running =
    subst (λ (o : Option (List Event)). IfSome o IsRunning) (sym (subst (λ (o : Option (List Event)). AddsEach o new.side.events later.side.more) is later.side.events)) tt
runs_on client cause old new later none (Some events) is running =
    subst (λ (o : Option (List Event)). IfSome o IsRunning) (sym (subst (λ (o : Option (List Event)). AddsEach o new.side.events later.side.more) is later.side.events))
    (running_on events later.side.more running
    (ap (list_any is_stop) later.side.ends ∙ calm_runs client later.side.calm (close_of client cause) later.side.all_calm (close_runs client cause none)))

turn_runs : (number : ℕ) (cause : Option Why) (old new : Stage) → IsTurn number cause old new → IfSome cause (λ c. is_stop (event.Close number c) ≡ false)
turn_runs number None old new turn = tt
turn_runs number (Some c) old new turn = turn_no_stop number c old new turn

pump_runs : (number : ℕ) (cause : Option Why) (link link_now : LinkTold) (old new : Side) → IsPump number cause link link_now old new → IfSome cause (λ c. is_stop (event.Close number c) ≡ false)
pump_runs number None link link_now old new pump = tt
pump_runs number (Some c) link link_now old new pump = pump_no_stop number c link link_now old new pump

pub heard_runs : (moved : Bool) (old new : Clients) → HearsAll moved old new → Runs old → Runs new
heard_runs moved old new hears = visits_keep Heard Runs
    (λ number here clients was now is heard runs.
    let after : Stage = record (stage_of now) { link = heard.link } in
    runs_on number heard.why (stage_of was) after (stage_turn number heard.why (stage_of was) after heard.turn) (turn_runs number heard.why (stage_of was) after heard.turn)
    clients.side.events (ap (λ (s : Side). s.events) is) runs)
    0 hears.0 moved old new hears.1

-- a pump is its events, as the turns of a client have it
abbrev pub PumpsAreEvents : Type 0
PumpsAreEvents = (client : ℕ) (cause : Option Why) (old new : Stage) → IsPump client cause old.link new.link old.side new.side → new.cutter ≡ old.cutter → IsLaterStage client cause old new

pub pumped_runs : PumpsAreEvents → (moved : Bool) (old new : Clients) → VisitsAll Pumped moved old new → Runs old → Runs new
pumped_runs events moved old new pumps = visits_keep Pumped Runs
    (λ number here clients was now is pumped runs.
    let after : Stage = record (stage_of now) { link = pumped.link } in
    runs_on number pumped.why (stage_of was) after (events number pumped.why (stage_of was) after pumped.pump (ap (λ (l : Listener). l.cutter) pumped.listener))
    (pump_runs number pumped.why was.link pumped.link was.side now.side pumped.pump) clients.side.events (ap (λ (s : Side). s.events) is) runs)
    0 pumps.0 moved old new pumps.1
