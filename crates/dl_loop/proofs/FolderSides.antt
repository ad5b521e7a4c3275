-- What becomes of the folder in the turns of clients, in pumps and in closing turns, and in visits to all clients.
use Rattle.std.proofs.Common.{◌≡◌, ℕ, zero, suc, Bool, List, [], ◌∷◌, ◌++◌, Option, Some, None, inl, inr, refl, sym, ap, subst, ◌∙◌, append_assoc, append-nil}
use Rattle.std.specs.List.{AllByRecursion}
use Rattle.std.proofs.lemmas.List.{append_cancel_left}
use Rattle.dl_events.specs.declared.event.Event.{Event}
use Rattle.dl_events.specs.declared.event.Event.TheVariants as event
use Rattle.dl_events.specs.declared.event.Why.{Why}
use Rattle.dl_model.specs.declared.registry.LevelChange.{LevelChange}
use Rattle.dl_outside.specs.Told.{LinkTold}
use Rattle.dl_outside.specs.declared.link.Gave.{Gave}
use Rattle.dl_outside.specs.declared.link.Gave.TheVariants as gave
use Rattle.dl_trace.specs.State.{Trace}
use Rattle.dl_hub.specs.Follows.{took_more}
use Rattle.dl_hub.specs.State.{Hub, bytes_before, changed, outbox_of, without}
use Rattle.dl_services.specs.Wish.{needed}
use Rattle.dl_core.specs.Admission.{AddsEach}
use Rattle.dl_core.specs.Follows.{IsAfter, Run}
use Rattle.dl_core.specs.State.{Core}
use Rattle.dl_core.proofs.Noted.{added_one}
use Rattle.dl_core.proofs.Replies.{need_is}
use Rattle.dl_core.specs.Files.{Leaves}
use Rattle.dl_core.specs.Later.{IsFolderLater}
use Rattle.dl_core.proofs.AskedFiles.{request_leaves}
use Rattle.dl_core.proofs.LaterFolders.{folder_asked, folder_both, folder_none}
use Rattle.dl_core.proofs.LeftFiles.{leaves_alone, leaves_both}
use Rattle.dl_admission.specs.Kept.{end_of}
use Rattle.dl_turns.specs.Events.{Asks, Closes, ServesOne, SetsLevel, SetsLevels}
use Rattle.dl_turns.specs.State.{Side, Stage}
use Rattle.dl_turns.specs.Stopping.{GoesOn, IsClosedIn, HasClosingTurns, TurnsOn}
use Rattle.dl_turns.specs.Turns.{ClosesFor, Heeds, IsPump, IsTurn, ServesEach}
use Rattle.dl_turns.proofs.AddedEvents.{each_both, each_none}
use Rattle.dl_turns.proofs.LaterStages.{WhatLinksTake, fits}
use Rattle.dl_rounds.specs.Clients.{Client, Clients, Visits, VisitsAll, stage_of, with_client}
use Rattle.dl_rounds.specs.Visits.{Closed, ClosesAll, Heard, HearsAll, Pumped}
use Rattle.dl_settling.proofs.NoRequests.{AsksNothing}
use Rattle.dl_loop.proofs.FolderEvents.{folder_kept, keeps_still, leaves_kept}

-- ---- one side and a later one

-- The folder of a side is later by these events, in each run that the core stands for.
pub record FolderOn (more : List Event) (old new : Side) : Type 0 where
  pub events : AddsEach old.events new.events more
  pub after : (run : Run) (past : List Event) (taken : ℕ → List ℕ) → IsAfter run past taken old.core → (took : ℕ → List ℕ) × IsAfter run (past ++ more) took new.core
  pub leaves : Leaves old.core new.core old.folder new.folder
  pub later : (run : Run) (past : List Event) (taken : ℕ → List ℕ) → IsAfter run past taken old.core
      → IsFolderLater run.setting past more (end_of old.core.trace) (end_of new.core.trace) old.folder new.folder

abbrev pub FolderGoesOn : Side → Side → Type 0
FolderGoesOn old new = (more : List Event) × FolderOn more old new

on_none : (side : Side) → FolderGoesOn side side
on_none side = (
  [],
  record {
    events = each_none side.events;
    after = λ run past taken is. (taken, subst (λ (es : List Event). IsAfter run es taken side.core) (sym (append-nil past)) is);
    leaves = leaves_alone side.core side.core side.folder refl;
    later = λ run past taken is. folder_none run.setting past (end_of side.core.trace) side.folder;
  },
)

on_same : (old new : Side) → new ≡ old → FolderGoesOn old new
on_same old new same = subst (λ (s : Side). FolderGoesOn old s) (sym same) (on_none old)

on_both : (a b c : Side) → FolderGoesOn a b → FolderGoesOn b c → FolderGoesOn a c
on_both a b c one two =
    let first = one.0 in
    let second = two.0 in (
      first ++ second,
      record {
        events = each_both a.events b.events c.events first second one.1.events two.1.events;
        after = λ run past taken is.
            let here = one.1.after run past taken is in
            let there = two.1.after run (past ++ first) here.0 here.1 in
            (there.0, subst (λ (es : List Event). IsAfter run es there.0 c.core) (append_assoc past first second) there.1);
        leaves = leaves_both a.core b.core c.core a.folder b.folder c.folder one.1.leaves two.1.leaves;
        later = λ run past taken is.
            let here = one.1.after run past taken is in
            folder_both run.setting past first second (end_of a.core.trace) (end_of b.core.trace) (end_of c.core.trace) a.folder b.folder c.folder (one.1.later run past taken is)
            (two.1.later run (past ++ first) here.0 here.1);
      },
    )

-- the same events, behind the same journal
pub same_more : (events : List Event) (now : Option (List Event)) (more other : List Event) → AddsEach (Some events) now more → AddsEach (Some events) now other → more ≡ other
same_more events now more other one two =
    let same : events ++ more ≡ events ++ other = cc (one, two) in append_cancel_left events more other same

-- events that ask nothing, while trace and folder are as they were
on_still : (more : List Event) (old new : Side) → AddsEach old.events new.events more → AllByRecursion AsksNothing more → new.core.trace ≡ old.core.trace → new.folder ≡ old.folder
    → ((run : Run) (past : List Event) (taken : ℕ → List ℕ) → IsAfter run past taken old.core → (took : ℕ → List ℕ) × IsAfter run (past ++ more) took new.core) → FolderGoesOn old new
on_still more old new events none trace folder after =
    let keeps = keeps_still old.core.trace new.core.trace old.folder new.folder trace folder in (
      more,
      record {
        events = events;
        after = after;
        leaves = leaves_kept old.core new.core old.folder new.folder keeps;
        later = λ run past taken is. folder_kept old.core.trace new.core.trace old.folder new.folder keeps run.setting past more none;
      },
    )

-- ---- a turn

on_sets : (next : LevelChange) (old new : Side) → SetsLevel next old new → FolderGoesOn old new
on_sets next old new sets = on_still (event.Level next.slot next.level ∷ []) old new sets.events (tt, tt) (ap (λ (c : Core). c.trace) sets.core) sets.folder
    (λ run past taken is. (taken, (sets.after old.folder run past taken tt is).0))

on_levels : (changes : List LevelChange) (old new : Side) → SetsLevels changes old new → FolderGoesOn old new
on_levels [] old new all = on_same old new all.0
on_levels (next ∷ others) old new all = on_both old all.0 new (on_sets next old all.0 all.1) (on_levels others all.0 new all.2)

on_asks : (client : ℕ) (frame : List ℕ) (old new : Side) → Asks client frame old new → FolderGoesOn old new
on_asks client frame old new asks =
    let serves = asks.serves in
    let ready = asks.ready in
    let trace : new.core.trace ≡ old.core.trace = ap (λ (c : Core). c.trace) asks.rest in (
      event.Request ready.client ready.frame serves.answer ∷ [],
      record {
        events = added_one old.events new.events (event.Request ready.client ready.frame serves.answer) (event.Request ready.client ready.frame serves.answer) refl serves.notes;
        after = λ run past taken is. (taken, (serves.after run past taken tt is).0);
        leaves = request_leaves ready.want asks.pushed serves.answer old.core new.core old.folder new.folder serves.acts trace;
        later = λ run past taken is.
            subst (λ (t : Option Trace). IsFolderLater run.setting past (event.Request ready.client ready.frame serves.answer ∷ []) (end_of old.core.trace) (end_of t) old.folder new.folder) (sym trace)
            (folder_asked run.setting past ready.client ready.frame (end_of old.core.trace) ready.want asks.pushed serves.answer old.folder new.folder
            (need_is run past taken old.core ready.frame is ∙ ap needed (sym asks.is_ready.want)) serves.acts);
      },
    )

on_one : (client : ℕ) (frame : List ℕ) (old new : Side) → ServesOne client frame old new → FolderGoesOn old new
on_one client frame old new one = on_both old one.0 new (on_asks client frame old one.0 one.1) (on_levels one.2.0 one.0 new one.2.1)

on_each : (client : ℕ) (frames : List (List ℕ)) (bad : Bool) (why : Option Why) (old new : Side) → ServesEach client frames bad why old new → FolderGoesOn old new
on_each client [] bad why old new all = on_same old new all.1
on_each client (frame ∷ frames) bad why old new (inl refused) = on_same old new refused.1
on_each client (frame ∷ frames) bad why old new (inr served) = on_both old served.0 new (on_one client frame old served.0 served.1) (on_each client frames bad why served.0 new served.2)

on_heeds : (client : ℕ) (unread : List ℕ) (answer : Gave) (into : List ℕ) (why : Option Why) (old new : Side) → Heeds client unread answer into why old new → FolderGoesOn old new
on_heeds client unread (gave.Bytes count) into why old new heeds = on_each client _ _ why old new heeds
on_heeds client unread gave.NotYet into why old new heeds = on_same old new heeds.1
on_heeds client unread gave.End into why old new heeds = on_same old new heeds.1
on_heeds client unread gave.Failed into why old new heeds = on_same old new heeds.1

on_closes : (client : ℕ) (why : Why) (old new : Side) → Closes client why old new → FolderGoesOn old new
on_closes client why old new closes = on_still (event.Close client why ∷ []) old new closes.events (tt, tt) (ap (λ (c : Core). c.trace) closes.core) closes.folder
    (λ run past taken is. (taken, (closes.after old.folder run past taken tt is).0))

on_closed : (client : ℕ) (why : Option Why) (old new : Side) → ClosesFor client why old new → FolderGoesOn old new
on_closed client None old new same = on_same old new same
on_closed client (Some why) old new closes = on_closes client why old new closes

on_turn : (client : ℕ) (why : Option Why) (old new : Stage) → IsTurn client why old new → FolderGoesOn old.side new.side
on_turn client why old new turn =
    on_both old.side turn.between new.side (on_heeds client old.cutter.unread turn.listens.answer turn.listens.into why old.side turn.between turn.listens.heeds)
    (on_closed client why turn.between new.side turn.closes)

-- ---- a pump, and the closing turns

module _ (takes : WhatLinksTake) where
  on_pump : (client : ℕ) (why : Option Why) (link link_now : LinkTold) (old new : Side) → IsPump client why link link_now old new → FolderGoesOn old new
  on_pump client why link link_now old new pump =
      let count = pump.pumps.count in
      let o = outbox_of old.core.hub client in
      let core : pump.between.core ≡ record old.core { hub = changed client (without count) old.core.hub } =
      ap (λ (s : Side). s.core) pump.rest ∙ ap (λ (h : Hub). record old.core { hub = h }) pump.pumps.left in
      on_both old pump.between new
      (on_still [] old pump.between (subst (λ (s : Side). AddsEach old.events s.events []) (sym pump.rest) (each_none old.events)) tt (ap (λ (c : Core). c.trace) core)
      (ap (λ (s : Side). s.folder) pump.rest)
      (λ run past taken is. (
        took_more taken client (bytes_before count o),
        subst (λ (es : List Event). IsAfter run es (took_more taken client (bytes_before count o)) pump.between.core) (sym (append-nil past))
            (subst (λ (k : Core). IsAfter run past (took_more taken client (bytes_before count o)) k) (sym core) (takes run past taken old.core count client is (fits o count link.taken link_now.taken pump.pumps.sent))),
      )))
      (on_closed client why pump.between new pump.closes)

  on_goes : (client : ℕ) (quiet : Bool) (old new : Stage) → GoesOn client quiet old new → FolderGoesOn old.side new.side
  on_goes client quiet old new goes =
      on_both old.side goes.heard.side new.side (on_heeds client old.cutter.unread goes.listens.answer goes.listens.into None old.side goes.heard.side goes.listens.heeds)
      (on_pump client None goes.heard.link new.link goes.heard.side new.side goes.pumps)

  on_closed_in : (client : ℕ) (why : Why) (old new : Stage) → IsClosedIn client why old new → FolderGoesOn old.side new.side
  on_closed_in client why old new (inl turn) = on_turn client (Some why) old new turn
  on_closed_in client why old new (inr closed) =
      let heard = closed.0 in
      on_both old.side heard.side new.side (on_heeds client old.cutter.unread closed.1.answer closed.1.into None old.side heard.side closed.1.heeds)
      (on_pump client (Some why) heard.link new.link heard.side new.side closed.2)

  on_turns : (client count : ℕ) (old new : Stage) → TurnsOn client count old new → FolderGoesOn old.side new.side
  on_turns client zero old new same = on_same old.side new.side (ap (λ (s : Stage). s.side) same)
  on_turns client (suc count) old new turns = on_both old.side turns.0.side new.side (on_goes client _ old turns.0 turns.1) (on_turns client count turns.0 new turns.2)

  on_wound_up : (client : ℕ) (why : Why) (old new : Stage) → HasClosingTurns client why old new → FolderGoesOn old.side new.side
  on_wound_up client why old new wound =
      let last = wound.last in
      on_both old.side last.side new.side (on_turns client wound.count old last wound.turns) (elim wound.ends [
        | inl closed ↦ on_closed_in client why last new closed.1
        | inr stopped ↦
            let end = stopped.0 in
            let closes = on_closes client why end.side new.side stopped.3 in
            elim stopped.1 [
              | inl quiet ↦ on_both last.side end.side new.side (on_goes client _ last end quiet.1) closes
              | inr all ↦ subst (λ (s : Stage). FolderGoesOn s.side new.side) all.1 closes
            ]
      ])

-- ---- visits to all clients

visits_on : (Visit : ℕ → Bool → Client → Client → Type 0) → ((number : ℕ) (moved : Bool) (was now : Client) → Visit number moved was now → FolderGoesOn was.side now.side)
    → (last : ℕ) (numbers : List ℕ) (moved : Bool) (old new : Clients) → Visits Visit last numbers moved old new → FolderGoesOn old.side new.side
visits_on Visit on last [] moved old new visits = on_same old.side new.side (ap (λ (c : Clients). c.side) visits.2)
visits_on Visit on last (number ∷ numbers) moved old new visits =
    on_both old.side visits.3.side new.side
    (subst (λ (s : Side). FolderGoesOn s visits.3.side) visits.2.side (on number visits.4 visits.1 visits.3 visits.5))
    (visits_on Visit on number numbers visits.6 (with_client number visits.3 old) new visits.8)

pub heard_on : (moved : Bool) (old new : Clients) → HearsAll moved old new → FolderGoesOn old.side new.side
heard_on moved old new hears = visits_on Heard (λ number here was now heard. on_turn number heard.why (stage_of was) (record (stage_of now) { link = heard.link }) heard.turn)
    0 hears.0 moved old new hears.1

pub pumped_on : WhatLinksTake → (moved : Bool) (old new : Clients) → VisitsAll Pumped moved old new → FolderGoesOn old.side new.side
pumped_on takes moved old new pumps = visits_on Pumped (λ number here was now pumped. on_pump takes number pumped.why was.link pumped.link was.side now.side pumped.pump)
    0 pumps.0 moved old new pumps.1

pub closed_on : WhatLinksTake → {Tells : Type 0} (old new : Clients) → ClosesAll Tells old new → FolderGoesOn old.side new.side
closed_on takes {Tells} old new closes = visits_on (Closed Tells) (λ number here was now closed. on_wound_up takes number closed.why (stage_of was) (record (stage_of now) { link = closed.link }) closed.wound_up)
    0 closes.1.0 closes.0 old new closes.1.1
