-- What is admitted, one after the other.
use Rattle.std.proofs.Common.{◌≡◌, ◌+◌, ℕ, false, List, [], ◌∷◌, ◌++◌, append_assoc, append-nil, map, Option, Some, None, refl, sym, ap, subst, ◌∙◌, arith}
use Rattle.std.proofs.lemmas.List.Folds.{list_any-append}
use Rattle.dl_events.specs.declared.event.Event.{Event}
use Rattle.dl_outside.specs.Told.{FolderTold}
use Rattle.dl_model.specs.Backlog.{size_of}
use Rattle.dl_model.specs.Frames.{frames_of}
use Rattle.dl_model.specs.Journal.{is_slow, is_stop, IsFramesNeed, IsInTurn, IsRunning, IsWellFormed}
use Rattle.dl_model.specs.Report.{closed_of}
use Rattle.dl_model.proofs.LongerJournals.{goes_on}
use Rattle.dl_hub.specs.State.{Hub}
use Rattle.dl_trace.specs.State.{Trace}
use Rattle.dl_core.specs.State.{Core}
use Rattle.dl_core.specs.Follows.{Adds, IsAfter, Run, source_of}
use Rattle.dl_core.specs.Noting.{Notes}
use Rattle.dl_admission.specs.Admission.{Admits, AreNoted, Entry, KeepsClients}
use Rattle.dl_admission.specs.Kept.{KeepsTrace}
use Rattle.dl_admission.specs.Part.{Part}
use Rattle.dl_admission.specs.Slow.{ClosesSlow, Slow, TellsRoom, slow_clients, slow_close}
use Rattle.dl_admission.proofs.Added.{adds_both, adds_each_both, adds_each_none, adds_none}
use Rattle.dl_admission.proofs.KeptClients.{clients_both, clients_closed, clients_none, clients_noted}
use Rattle.dl_admission.proofs.KeptTraces.{trace_both, trace_none}
use Rattle.dl_admission.proofs.Rooms.{rooms_both}
use Rattle.dl_admission.proofs.SlowLists.{slow_in_order, slow_short}

-- ---- what is noted

pub noted_both : (es fs : List Entry) (xs ys : List Event) → AreNoted es xs → AreNoted fs ys → AreNoted (es ++ fs) (xs ++ ys)
noted_both [] fs xs ys first second = subst (λ (zs : List Event). AreNoted fs (zs ++ ys)) (sym first) second
noted_both (e ∷ es) fs xs ys first second = (
  first.0,
  first.1 ++ ys,
  ap (λ (zs : List Event). zs ++ ys) first.2 ∙ append_assoc (map (slow_close e.need) first.0) (e.event ∷ first.1) ys,
  first.3,
  first.4,
  noted_both es fs first.1 ys first.5 second,
)

pub running_both : (xs ys : List Event) → IsRunning xs → IsRunning ys → IsRunning (xs ++ ys)
running_both xs ys first second = list_any-append is_stop xs ys ∙ (rw (first, second) refl)

running_closes : (need : ℕ) (slows : List Slow) → IsRunning (map (slow_close need) slows)
running_closes need [] = refl
running_closes need (slow ∷ slows) = running_closes need slows

-- ---- nothing

pub admits_none : (p : Part) → Admits [] (λ run. Unit {0}) 0 p p
admits_none p = record {
  more = [];
  events = adds_each_none p.events;
  noted = refl;
  running = refl;
  after = adds_none p.core p.folder;
  formed = λ run past taken gives is running well. subst (IsWellFormed run.setting (source_of run)) (sym (append-nil past)) well;
  rooms = λ run past taken gives is. tt;
  admitted = omega arith;
  clients = clients_none p.core.hub;
  trace = trace_none p.core.trace p.folder;
  rest = refl;
}

-- ---- one call behind another

pub admits_both : (es fs : List Entry) (One Other : Run → Type 0) (n m : ℕ) (old between new : Part) → Admits es One n old between → Admits fs Other m between new
    → Admits (es ++ fs) (λ run. One run × Other run) (n + m) old new
admits_both es fs One Other n m old between new first second = record {
  more = first.more ++ second.more;
  events = adds_each_both old.events between.events new.events first.more second.more first.events second.events;
  noted = noted_both es fs first.more second.more first.noted second.noted;
  running = running_both first.more second.more first.running second.running;
  after = adds_both first.more second.more One Other old.core between.core new.core old.folder between.folder new.folder first.after second.after;
  formed = λ run past taken gives is running well.
      subst (IsWellFormed run.setting (source_of run)) (append_assoc past first.more second.more)
      (second.formed run (past ++ first.more) taken gives.1 (first.after run past taken gives.0 is).0 (running_both past first.more running first.running)
      (first.formed run past taken gives.0 is running well));
  rooms = λ run past taken gives is.
      rooms_both run taken past first.more second.more (first.rooms run past taken gives.0 is)
      (second.rooms run (past ++ first.more) taken gives.1 (first.after run past taken gives.0 is).0);
  admitted = omega (arith, first.admitted, second.admitted);
  clients = clients_both first.more second.more old.core.hub between.core.hub new.core.hub first.clients second.clients;
  trace = trace_both old.core.trace between.core.trace new.core.trace old.folder between.folder new.folder first.trace second.trace;
  rest = second.rest ∙ ap (λ (k : Core). record k { hub = new.core.hub; trace = new.core.trace }) first.rest;
}

-- of runs that give more
pub admits_given : {es : List Entry} {Gives More : Run → Type 0} {n : ℕ} {old new : Part} → ((run : Run) → More run → Gives run) → Admits es Gives n old new → Admits es More n old new
admits_given gives it = record {
  more = it.more;
  events = it.events;
  noted = it.noted;
  running = it.running;
  after = λ run past taken more is. it.after run past taken (gives run more) is;
  formed = λ run past taken more is. it.formed run past taken (gives run more) is;
  rooms = λ run past taken more is. it.rooms run past taken (gives run more) is;
  admitted = it.admitted;
  clients = it.clients;
  trace = it.trace;
  rest = it.rest;
}

-- ---- one event behind its Closes

-- an event that closes nobody
pub record IsQuiet (e : Event) : Type 0 where
  pub slow : is_slow e ≡ false
  pub stop : is_stop e ≡ false
  pub cause : (client : ℕ) → closed_of client e ≡ None
  pub room : (run : Run) (taken : ℕ → List ℕ) (before : List Event) → TellsRoom run taken before e

pub admits_one : (entry : Entry) (Gives : Run → Type 0) (n : ℕ) (Leaves : Option Trace → Option Trace → FolderTold → FolderTold → Type 0) (old between new : Part)
    → ClosesSlow entry.need old between → Notes (entry.event ∷ []) Gives n Leaves between.core new.core between.folder new.folder between.events new.events
    → KeepsTrace between.core.trace new.core.trace between.folder new.folder → new.core ≡ record between.core { hub = new.core.hub; trace = new.core.trace }
    → IsQuiet entry.event
    → ((run : Run) (past : List Event) (taken : ℕ → List ℕ) → Gives run → IsAfter run past taken old.core → size_of (frames_of (source_of run) entry.event) ≡ entry.need)
    → ((run : Run) (past : List Event) (taken : ℕ → List ℕ) → IsAfter run past taken between.core → IsRunning past → IsInTurn run.setting (source_of run) past entry.event [])
    → Admits (entry ∷ []) Gives n old new
admits_one entry Gives n Leaves old between new closes notes keeps same quiet size turn =
    let slows : List Slow = slow_clients entry.need old.core.hub in
    let closings : List Event = map (slow_close entry.need) slows in
    let hub_is = ap (λ (k : Core). k.hub) closes.core in
    record {
      more = closings ++ entry.event ∷ [];
      events = adds_each_both old.events between.events new.events closings (entry.event ∷ []) closes.events notes.event;
      noted = (slows, [], refl, slow_in_order entry.need 0 1 old.core.hub.clients (omega arith), slow_short entry.need old.core.hub slows closes.as_told, refl);
      running = running_both closings (entry.event ∷ []) (running_closes entry.need slows) (rw quiet.stop refl);
      after = λ run past taken gives is.
          adds_both closings (entry.event ∷ []) (λ run. Unit {0}) Gives old.core between.core new.core old.folder between.folder new.folder
          (subst (λ (f : FolderTold). Adds closings (λ run. Unit {0}) old.core between.core old.folder f) (sym closes.folder) (closes.after old.folder))
          notes.after run past taken (tt, gives) is;
      formed = λ run past taken gives is running well.
          let source = source_of run in
          let here = (closes.after old.folder run past taken tt is).0 in
          let needed : IsFramesNeed source (entry.event ∷ []) entry.need = rw quiet.slow (ap Some (size run past taken gives is)) in
          goes_on run.setting source past (closings ++ entry.event ∷ []) well
          (closes.in_turn run past taken (entry.event ∷ []) is needed (turn run (past ++ closings) taken here (running_both past closings running (running_closes entry.need slows)), tt));
      rooms = λ run past taken gives is.
          rooms_both run taken past closings (entry.event ∷ []) (closes.rooms run past taken is) (quiet.room run taken (past ++ closings), tt);
      admitted = notes.admitted ∙ ap (λ (h : Hub). h.admitted + n) hub_is;
      clients = clients_both closings (entry.event ∷ []) old.core.hub between.core.hub new.core.hub
          (subst (KeepsClients closings old.core.hub) (sym hub_is) (clients_closed entry.need old.core.hub))
          (clients_noted entry.event between.core.hub new.core.hub quiet.cause notes.same notes.replies notes.still_open);
      trace = trace_both old.core.trace between.core.trace new.core.trace old.folder between.folder new.folder
          (subst (λ (f : FolderTold). KeepsTrace old.core.trace between.core.trace old.folder f) (sym closes.folder)
          (subst (λ (t : Option Trace). KeepsTrace old.core.trace t old.folder old.folder) (sym (ap (λ (k : Core). k.trace) closes.core)) (trace_none old.core.trace old.folder)))
          keeps;
      rest = same ∙ ap (λ (k : Core). record k { hub = new.core.hub; trace = new.core.trace }) closes.core;
    }
