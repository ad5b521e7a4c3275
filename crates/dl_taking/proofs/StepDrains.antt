-- What each step of taking comes to: calls, a claim, a level, a report of losses.
use Rattle.std.proofs.Common.{◌≡◌, ℕ, ◌<◌, ◌≤◌, Bool, true, false, cond, List, [], ◌∷◌, ◌++◌, length, map, append-nil, eqb, Option, None, count_by, refl, sym, ap, ◌∙◌, subst, arith}
use Rattle.std.specs.List.{AllByRecursion, filter_map}
use Rattle.std.proofs.lemmas.List.{length-map}
use Rattle.std.proofs.lemmas.List.Sums.{sum_by-append, sum_by-cons}
use Rattle.dl_bytes.specs.declared.conf.AppSpec.{AppSpec}
use Rattle.dl_bytes.specs.declared.item.Item.{Item}
use Rattle.dl_bytes.specs.declared.moment.Moment.{Moment}
use Rattle.dl_events.specs.declared.event.Event.{Event}
use Rattle.dl_events.specs.declared.event.Event.TheVariants as event
use Rattle.dl_cells.specs.declared.level_history.Change.{Change}
use Rattle.dl_cells.specs.Losses.{reported_of}
use Rattle.dl_cells.proofs.LossSums.{reported_else}
use Rattle.dl_model.specs.Backlog.{size_of}
use Rattle.dl_model.specs.Journal.{IsInTurn, IsRunning}
use Rattle.dl_model.specs.Report.{closed_of}
use Rattle.dl_model.specs.declared.registry.LevelChange.{LevelChange}
use Rattle.dl_outside.specs.Told.{FolderTold}
use Rattle.dl_model.proofs.LongerJournals.{goes_on}
use Rattle.dl_ring.specs.declared.item.RingItem.{RingItem}
use Rattle.dl_ring.specs.declared.item.RingItem.TheVariants.{Log, Register}
use Rattle.dl_ring.specs.Items.{calls_in}
use Rattle.dl_ring.proofs.Items.{calls_in-append}
use Rattle.dl_registry.specs.Kept.{Kept}
use Rattle.dl_hub.specs.State.{Hub}
use Rattle.dl_trace.specs.State.{Trace}
use Rattle.dl_core.specs.Admission.{AddsEach, GivesApid, GivesFrame, GivesFrames, lost_frames}
use Rattle.dl_core.specs.Follows.{Adds, AddsAlone, IsAfter, Run, source_of}
use Rattle.dl_core.specs.State.{Core}
use Rattle.dl_core.proofs.InTurn.{claim_in_turn, level_in_turn}
use Rattle.dl_admission.specs.Admission.{Admits, AreNoted, Entry, KeepsClients, call_entry, loss_entries}
use Rattle.dl_admission.specs.Kept.{KeepsTrace}
use Rattle.dl_admission.specs.Slow.{Slow, TellsRoom, slow_close}
use Rattle.dl_admission.specs.Telling.{IsTaken}
use Rattle.dl_admission.proofs.KeptClients.{clients_noted}
use Rattle.dl_admission.proofs.KeptTraces.{trace_none}
use Rattle.dl_turns.specs.Events.{SetsLevel, SetsLevels}
use Rattle.dl_turns.specs.Later.{level_in}
use Rattle.dl_turns.specs.State as turns
use Rattle.dl_taking.specs.Drained.{GivesTook, IsDrain, IsOfDrain, is_claim, is_noted}
use Rattle.dl_taking.specs.Side.{Side, turned}
use Rattle.dl_taking.specs.Takes.{AreThere, Reports, TakesClaim, TellAllTaken, owned, owned_claim}
use Rattle.dl_taking.specs.Took.{Took, with_items}
use Rattle.dl_taking.proofs.JoinedDrains.{IsCounted, counted_both, counted_none}
use Rattle.dl_taking.proofs.StayingApps.{claim_there}
use Rattle.dl_taking.proofs.Tooks.{calls_are, taken_else, taken_here}
use Rattle.dl_taking.proofs.Telling.{calls_told, claim_told, items_told, level_told, losses_told}
use Rattle.dl_lemmas.proofs.Lists.{all_both, all_second, there}

-- ---- the kinds of events, and how many there are

pub closes_kinds : (need : ℕ) (slows : List Slow) → AllByRecursion IsOfDrain (map (slow_close need) slows)
closes_kinds need [] = tt
closes_kinds need (slow ∷ slows) = (tt, closes_kinds need slows)

noted_kinds : (es : List Entry) (noted : List Event) → AllByRecursion (λ e. IsOfDrain e.event) es → AreNoted es noted → AllByRecursion IsOfDrain noted
noted_kinds [] noted all is = subst (AllByRecursion IsOfDrain) (sym is) tt
noted_kinds (e ∷ es) noted all is =
    subst (AllByRecursion IsOfDrain) (sym is.2) (all_both IsOfDrain (map (slow_close e.need) is.0) (e.event ∷ is.1) (closes_kinds e.need is.0) (all.0, noted_kinds es is.1 all.1 is.5))

call_kinds : (ecu : List ℕ) (moment : Moment) (items : List Item) → AllByRecursion (λ e. IsOfDrain e.event) (map (call_entry ecu moment) items)
call_kinds ecu moment [] = tt
call_kinds ecu moment (item ∷ items) = (tt, call_kinds ecu moment items)

loss_kinds : (ecu : List ℕ) (moment : Moment) (app : ℕ) (apid : List ℕ) (count : ℕ) → AllByRecursion (λ e. IsOfDrain e.event) (loss_entries ecu moment app apid count)
loss_kinds ecu moment app apid count = by (eqb count 0) where
  by : (b : Bool) → AllByRecursion (λ (e : Entry). IsOfDrain e.event) (cond b [] (record { event = event.Lost app count moment; need = size_of (lost_frames ecu apid count) } ∷ []))
  by true = tt
  by false = (tt, tt)

-- what is noted behind Closes of slow clients counts as much as the entries
module _ (p : Event → Bool) (closes : (need : ℕ) (slow : Slow) → p (slow_close need slow) ≡ false) where
  abbrev one : Event → ℕ
  one e = cond (p e) 1 0

  closes_count : (need : ℕ) (slows : List Slow) → count_by p (map (slow_close need) slows) ≡ 0
  closes_count need [] = refl
  closes_count need (slow ∷ slows) =
      let none : one (slow_close need slow) ≡ 0 = ap (λ (b : Bool). cond b 1 0) (closes need slow) in
      omega (arith, sum_by-cons one (slow_close need slow) (map (slow_close need) slows), none, closes_count need slows)

  noted_count : (es : List Entry) (noted : List Event) → AreNoted es noted → count_by p noted ≡ count_by p (map (λ (e : Entry). e.event) es)
  noted_count [] noted is = ap (count_by p) is
  noted_count (e ∷ es) noted is =
      ap (count_by p) is.2
      ∙ omega (
        arith,
        sum_by-append one (map (slow_close e.need) is.0) (e.event ∷ is.1),
        closes_count e.need is.0,
        sum_by-cons one e.event is.1,
        sum_by-cons one e.event (map (λ (e : Entry). e.event) es),
        noted_count es is.1 is.5,
      )

calls_count : (ecu : List ℕ) (moment : Moment) (items : List Item) → count_by is_noted (map (λ (e : Entry). e.event) (map (call_entry ecu moment) items)) ≡ length items
calls_count ecu moment [] = refl
calls_count ecu moment (item ∷ items) =
    omega (
      arith,
      sum_by-cons (λ (e : Event). cond (is_noted e) 1 0) (event.Log item.app item.writer item.call moment) (map (λ (e : Entry). e.event) (map (call_entry ecu moment) items)),
      calls_count ecu moment items,
    )

calls_claim_none : (ecu : List ℕ) (moment : Moment) (items : List Item) → count_by is_claim (map (λ (e : Entry). e.event) (map (call_entry ecu moment) items)) ≡ 0
calls_claim_none ecu moment [] = refl
calls_claim_none ecu moment (item ∷ items) = calls_claim_none ecu moment items

losses_count : (ecu : List ℕ) (moment : Moment) (app : ℕ) (apid : List ℕ) (count : ℕ) → count_by is_noted (map (λ (e : Entry). e.event) (loss_entries ecu moment app apid count)) ≡ cond (eqb count 0) 0 1
losses_count ecu moment app apid count = by (eqb count 0) where
  by : (b : Bool) → count_by is_noted (map (λ (e : Entry). e.event) (cond b [] (record { event = event.Lost app count moment; need = size_of (lost_frames ecu apid count) } ∷ []))) ≡ cond b 0 1
  by true = refl
  by false = refl

losses_claim_none : (ecu : List ℕ) (moment : Moment) (app : ℕ) (apid : List ℕ) (count : ℕ) → count_by is_claim (map (λ (e : Entry). e.event) (loss_entries ecu moment app apid count)) ≡ 0
losses_claim_none ecu moment app apid count = by (eqb count 0) where
  by : (b : Bool) → count_by is_claim (map (λ (e : Entry). e.event) (cond b [] (record { event = event.Lost app count moment; need = size_of (lost_frames ecu apid count) } ∷ []))) ≡ 0
  by true = refl
  by false = refl

-- no level is set by admissions
taken_sets_nothing : (more : List Event) → AllByRecursion IsTaken more → filter_map level_in more ≡ []
taken_sets_nothing [] are = refl
taken_sets_nothing (event.Log app writer call moment ∷ more) are = taken_sets_nothing more are.1
taken_sets_nothing (event.Lost app count moment ∷ more) are = taken_sets_nothing more are.1
taken_sets_nothing (event.Close client cause ∷ more) are = taken_sets_nothing more are.1
taken_sets_nothing (event.Claim claim moment ∷ more) are = absurd are.0
taken_sets_nothing (event.User channel msg moment ∷ more) are = absurd are.0
taken_sets_nothing (event.Level slot level ∷ more) are = absurd are.0
taken_sets_nothing (event.Connect client ∷ more) are = absurd are.0
taken_sets_nothing (event.Request client frame answer ∷ more) are = absurd are.0

-- ---- what is taken

items_more : (app other : ℕ) (items : List RingItem) (took : Took) → (more : List RingItem) × ((with_items app items took).taken other ≡ took.taken other ++ more)
items_more app other items took = by (eqb other app) where
  by : (b : Bool) → (more : List RingItem) × (cond b (took.taken other ++ items) (took.taken other) ≡ took.taken other ++ more)
  by true = (items, refl)
  by false = ([], sym (append-nil (took.taken other)))

own_frames : (app : ℕ) (items : List Item) (run : Run) → GivesFrames items run → GivesFrames (map (owned app) items) run
own_frames app [] run gives = tt
own_frames app (item ∷ items) run gives = (gives.0, own_frames app items run gives.1)

-- a run gives the frames of the calls that were taken last
frames_of : (specs : List AppSpec) (app : ℕ) (items : List Item) (took took_now : Took) (run : Run) → took_now ≡ with_items app (map Log items) took → GivesTook specs took_now run
    → GivesFrames (map (owned app) items) run
frames_of specs app items took took_now run is gives =
    own_frames app items run (all_second (λ item. GivesFrame item run) (calls_in (took.taken app)) items
    (subst (λ (xs : List Item). GivesFrames xs run)
    (ap (λ (t : Took). calls_in (t.taken app)) is ∙ ap calls_in (taken_here app (map Log items) took) ∙ calls_in-append (took.taken app) (map Log items)
    ∙ ap (λ (xs : List Item). calls_in (took.taken app) ++ xs) (calls_are items)) (gives.frames app)))

-- ---- admissions

-- an admission, in runs that give what was taken, which sets no level
abbrev admitted_drain : {es : List Entry} {Gives : Run → Type 0} {n : ℕ} (specs : List AppSpec) (old new : Side) (admits : Admits es Gives n old.part new.part)
    → ((run : Run) → GivesTook specs new.took run → Gives run) → AllByRecursion IsOfDrain admits.more → AllByRecursion IsTaken admits.more → new.desk ≡ old.desk
    → ((past : List Event) → TellAllTaken past old.took → TellAllTaken (past ++ admits.more) new.took)
    → ((app : ℕ) → (items : List RingItem) × (new.took.taken app ≡ old.took.taken app ++ items))
    → ((app : ℕ) → length specs ≤ app → (new.took.taken app ≡ old.took.taken app) × (reported_of app new.took.reported ≡ reported_of app old.took.reported)) → IsDrain specs old new
admitted_drain {es} {Gives} {n} specs old new admits gives kinds are desk told taken_more others = record {
  entries = es;
  more = admits.more;
  events = admits.events;
  noted = admits.noted;
  kinds = kinds;
  running = admits.running;
  after = λ run past taken gave is. admits.after run past taken (gives run gave) is;
  formed = λ run past taken gave is there running well. admits.formed run past taken (gives run gave) is running well;
  there = λ there. subst (AreThere (length specs)) (sym (ap (λ (k : Core). k.registry) admits.rest)) there;
  rooms = λ run past taken gave is. admits.rooms run past taken (gives run gave) is;
  frames = n;
  admitted = admits.admitted;
  clients = admits.clients;
  trace = admits.trace;
  rest = admits.rest ∙ ap (λ (r : Kept). record old.part.core { registry = r; hub = new.part.core.hub; trace = new.part.core.trace }) (sym (ap (λ (k : Core). k.registry) admits.rest));
  desk = desk ∙ ap (λ (cs : List Change). record old.desk { sets = cs }) (sym (append-nil old.desk.sets) ∙ ap (λ (cs : List Change). old.desk.sets ++ cs) (sym (taken_sets_nothing admits.more are)));
  told = told;
  taken_more = taken_more;
  others = others;
}

-- the calls of a batch
pub logs_drain : (specs : List AppSpec) (app : ℕ) (moment : Moment) (items : List Item) (old new : Side) → app < length specs → new.took ≡ with_items app (map Log items) old.took
    → Admits (map (call_entry old.part.core.ecu moment) (map (owned app) items)) (GivesFrames (map (owned app) items)) (length (map (owned app) items)) old.part new.part → new.desk ≡ old.desk
    → IsCounted specs (length items) 0 (length items) old new
logs_drain specs app moment items old new within took logs desk =
    let ecu = old.part.core.ecu in
    let told = calls_told ecu moment app items logs.more logs.noted in
    let many = length-map items (owned app) in
    record {
      drain = admitted_drain specs old new logs (λ run gives. frames_of specs app items old.took new.took run took gives)
          (noted_kinds (map (call_entry ecu moment) (map (owned app) items)) logs.more (call_kinds ecu moment (map (owned app) items)) logs.noted) told.0 desk
          (λ past before. subst (TellAllTaken (past ++ logs.more)) (sym took) (items_told app (map Log items) past logs.more old.took told.1 before))
          (λ other. subst (λ (t : Took). (more : List RingItem) × (t.taken other ≡ old.took.taken other ++ more)) (sym took) (items_more app other (map Log items) old.took))
          (λ other beyond. (
            ap (λ (t : Took). t.taken other) took ∙ taken_else app other (map Log items) old.took (λ same. absurd (omega (arith, same, within, beyond))),
            ap (λ (t : Took). reported_of other t.reported) took,
          ));
      logs_so = noted_count is_noted (λ need slow. refl) (map (call_entry ecu moment) (map (owned app) items)) logs.more logs.noted ∙ calls_count ecu moment (map (owned app) items) ∙ many;
      claims_so = noted_count is_claim (λ need slow. refl) (map (call_entry ecu moment) (map (owned app) items)) logs.more logs.noted ∙ calls_claim_none ecu moment (map (owned app) items);
      frames_so = many;
    }

-- a report of losses
pub losses_drain : (specs : List AppSpec) (app count : ℕ) (old new : Side) → app < length specs → (reports : Reports specs app count old new)
    → IsCounted specs (cond (eqb count 0) 0 1) 0 (length (lost_frames old.part.core.ecu reports.apid count)) old new
losses_drain specs app count old new within reports =
    let ecu = old.part.core.ecu in
    let tells = reports.tells in
    let place = there specs app within in
    let es = loss_entries ecu reports.moment app reports.apid count in
    let told = losses_told ecu reports.moment app reports.apid count tells.more tells.noted in
    let apid_of : (run : Run) → GivesTook specs new.took run → GivesApid app reports.apid run = λ run gives. gives.apids app place.0 place.1 ∙ sym (reports.its_apid place.0 place.1) in
    record {
      drain = admitted_drain specs old new tells apid_of (noted_kinds es tells.more (loss_kinds ecu reports.moment app reports.apid count) tells.noted) told.0 reports.desk
          (λ past before. subst (TellAllTaken (past ++ tells.more)) (sym reports.took) (told.1 past old.took before))
          (λ other. ([], ap (λ (t : Took). t.taken other) reports.took ∙ sym (append-nil (old.took.taken other))))
          (λ other beyond. (
            ap (λ (t : Took). t.taken other) reports.took,
            ap (λ (t : Took). reported_of other t.reported) reports.took ∙ reported_else other app count old.took.reported (λ same. absurd (omega (arith, same, within, beyond))),
          ));
      logs_so = noted_count is_noted (λ need slow. refl) es tells.more tells.noted ∙ losses_count ecu reports.moment app reports.apid count;
      claims_so = noted_count is_claim (λ need slow. refl) es tells.more tells.noted ∙ losses_claim_none ecu reports.moment app reports.apid count;
      frames_so = refl;
    }

-- ---- an event for which no frame is admitted

abbrev alone_drain : (specs : List AppSpec) (e : Event) (old new : Side) → IsOfDrain e → IsRunning (e ∷ []) → ((client : ℕ) → closed_of client e ≡ None)
    → ((run : Run) (taken : ℕ → List ℕ) (past : List Event) → TellsRoom run taken past e)
    → AddsEach old.part.events new.part.events (e ∷ []) → AddsAlone (e ∷ []) old.part.core new.part.core → new.part.core ≡ record old.part.core { registry = new.part.core.registry }
    → new.part.folder ≡ old.part.folder
    → ((run : Run) (past : List Event) (taken : ℕ → List ℕ) → IsAfter run past taken old.part.core → AreThere (length specs) old.part.core.registry → IsRunning past → IsInTurn run.setting (source_of run) past e [])
    → (AreThere (length specs) old.part.core.registry → AreThere (length specs) new.part.core.registry) → new.desk ≡ record old.desk { sets = old.desk.sets ++ filter_map level_in (e ∷ []) }
    → ((past : List Event) → TellAllTaken past old.took → TellAllTaken (past ++ e ∷ []) new.took)
    → ((app : ℕ) → (items : List RingItem) × (new.took.taken app ≡ old.took.taken app ++ items))
    → ((app : ℕ) → length specs ≤ app → (new.took.taken app ≡ old.took.taken app) × (reported_of app new.took.reported ≡ reported_of app old.took.reported)) → IsDrain specs old new
alone_drain specs e old new kind running nobody room events after core folder turn there desk told taken_more others =
    let hub : new.part.core.hub ≡ old.part.core.hub = ap (λ (k : Core). k.hub) core in
    let trace : new.part.core.trace ≡ old.part.core.trace = ap (λ (k : Core). k.trace) core in
    record {
      entries = record { event = e; need = 0 } ∷ [];
      more = e ∷ [];
      events = events;
      noted = ([], [], refl, tt, tt, refl);
      kinds = (kind, tt);
      running = running;
      after = λ run past taken gives is.
          subst (λ (f : FolderTold). Adds (e ∷ []) (λ run. Unit {0}) old.part.core new.part.core old.part.folder f) (sym folder) (after old.part.folder) run past taken tt is;
      formed = λ run past taken gives is there running well. goes_on run.setting (source_of run) past (e ∷ []) well (turn run past taken is there running, tt);
      there = there;
      rooms = λ run past taken gives is. (room run taken past, tt);
      frames = 0;
      admitted = omega (arith, ap (λ (h : Hub). h.admitted) hub);
      clients = subst (λ (h : Hub). KeepsClients (e ∷ []) old.part.core.hub h) (sym hub)
          (clients_noted e old.part.core.hub old.part.core.hub nobody (record { ecu = refl; buffer = refl; limit = refl }) refl refl);
      trace = subst (λ (t : Option Trace). KeepsTrace old.part.core.trace t old.part.folder new.part.folder) (sym trace)
          (subst (λ (f : FolderTold). KeepsTrace old.part.core.trace old.part.core.trace old.part.folder f) (sym folder) (trace_none old.part.core.trace old.part.folder));
      rest = core ∙ (λ i. record old.part.core { registry = new.part.core.registry; hub = sym hub i; trace = sym trace i });
      desk = desk;
      told = told;
      taken_more = taken_more;
      others = others;
    }

-- the same, where who sets levels sees this, and so much was taken
abbrev pub lift : Took → ℕ → ℕ → turns.Side → Side
lift took noted spare s = record { part = record { core = s.core; events = s.events; folder = s.folder }; took = took; desk = s.desk; noted = noted; spare = spare }

-- a level that was set
level_drain : (specs : List AppSpec) (took : Took) (noted spare : ℕ) (next : LevelChange) (old new : turns.Side) → SetsLevel next old new
    → IsCounted specs 0 0 0 (lift took noted spare old) (lift took noted spare new)
level_drain specs took noted spare next old new sets = record {
  drain = alone_drain specs (event.Level next.slot next.level) (lift took noted spare old) (lift took noted spare new) tt refl (λ client. refl) (λ run taken past. tt) sets.events sets.after
      (sets.core ∙ ap (λ (r : Kept). record old.core { registry = r }) (sym (ap (λ (k : Core). k.registry) sets.core))) sets.folder
      (λ run past taken is there running. level_in_turn old.core next [] sets.owed run past taken is)
      (λ there app within. subst (λ (k : Core). AreThere (length specs) k.registry) (sym sets.core) there app within) sets.desk
      (λ past told. level_told next.slot next.level past took told) (λ app. ([], sym (append-nil (took.taken app)))) (λ app beyond. (refl, refl));
  logs_so = refl;
  claims_so = refl;
  frames_so = refl;
}

levels_drain : (specs : List AppSpec) (took : Took) (noted spare : ℕ) (changes : List LevelChange) (old new : turns.Side) → SetsLevels changes old new
    → IsCounted specs 0 0 0 (lift took noted spare old) (lift took noted spare new)
levels_drain specs took noted spare [] old new all = subst (λ (s : turns.Side). IsCounted specs 0 0 0 (lift took noted spare old) (lift took noted spare s)) (sym all.0) (counted_none specs (lift took noted spare old))
levels_drain specs took noted spare (next ∷ others) old new all =
    counted_both specs 0 0 0 0 0 0 (lift took noted spare old) (lift took noted spare all.0) (lift took noted spare new) (level_drain specs took noted spare next old all.0 all.1)
    (levels_drain specs took noted spare others all.0 new all.2)

-- a claim, and its level
pub claim_drain : (specs : List AppSpec) (app : ℕ) (moment : Moment) (old new : Side) → app < length specs → TakesClaim app moment old new → IsCounted specs 0 1 0 old new
claim_drain specs app moment old new within takes =
    let notes = takes.notes in
    let between = notes.between in
    let own = owned_claim app takes.claim in
    let claimed : Side = lift new.took new.noted new.spare between in
    let noted = notes.notes old.part.folder in
    let one : IsCounted specs 0 1 0 old claimed = record {
      drain = alone_drain specs (event.Claim own moment) old claimed tt refl (λ client. refl) (λ run taken past. tt) noted.event (λ folder. (notes.notes folder).after) notes.core notes.folder
          (λ run past taken is there running. claim_in_turn old.part.core own moment [] (there app within) notes.settled run past taken is running)
          (λ there. claim_there own old.part.core.registry between.core.registry (length specs) notes.claims there)
          (notes.desk ∙ ap (λ (cs : List Change). record old.desk { sets = cs }) (sym (append-nil old.desk.sets)))
          (λ past told. subst (TellAllTaken (past ++ event.Claim own moment ∷ [])) (sym takes.took)
          (items_told app (Register takes.claim ∷ []) past (event.Claim own moment ∷ []) old.took (claim_told app takes.claim moment) told))
          (λ other. subst (λ (t : Took). (more : List RingItem) × (t.taken other ≡ old.took.taken other ++ more)) (sym takes.took) (items_more app other (Register takes.claim ∷ []) old.took))
          (λ other beyond. (
            ap (λ (t : Took). t.taken other) takes.took ∙ taken_else app other (Register takes.claim ∷ []) old.took (λ same. absurd (omega (arith, same, within, beyond))),
            ap (λ (t : Took). reported_of other t.reported) takes.took,
          ));
      logs_so = refl;
      claims_so = refl;
      frames_so = refl;
    } in
    counted_both specs 0 1 0 0 0 0 old claimed new one (levels_drain specs new.took new.noted new.spare notes.levels.0 between (turned new) notes.levels.1)
