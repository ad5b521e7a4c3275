-- Each kind of entry, behind its Closes, and log calls together.
use Rattle.std.proofs.Common.{◌≡◌, ◌+◌, ℕ, Bool, true, false, cond, List, [], ◌∷◌, ◌++◌, length, length-append, map, None, Result, Ok, Err, OnErr, OnOk, refl, sym, ap, subst, ◌∙◌, eqb, arith}
use Rattle.std.specs.Prelude.{slice_get, count_by}
use Rattle.std.specs.List.{filter_map}
use Rattle.std.proofs.lemmas.List.{map-append}
use Rattle.std.proofs.lemmas.List.Sums.{sum_by-cons}
use Rattle.dl_bytes.specs.Id.{zero_id}
use Rattle.dl_bytes.specs.declared.item.Item.{Item}
use Rattle.dl_bytes.specs.declared.moment.Moment.{Moment}
use Rattle.dl_bytes.specs.declared.user.UserMsg.{UserMsg}
use Rattle.dl_events.specs.Journal.{one_more}
use Rattle.dl_events.specs.declared.event.Event.{Event}
use Rattle.dl_events.specs.declared.event.Event.TheVariants as event
use Rattle.dl_events.specs.declared.event.Why.{Why}
use Rattle.dl_message.specs.Frames.{log_message}
use Rattle.dl_model.specs.Backlog.{size_of}
use Rattle.dl_model.specs.Frames.{stored, user_frames}
use Rattle.dl_model.specs.Overflow.{overflow_frames}
use Rattle.dl_model.specs.Journal.{AreInTurn, IsRunning}
use Rattle.dl_model.specs.Report.{closed_of}
use Rattle.dl_model.proofs.LongerJournals.{goes_on}
use Rattle.dl_registry.specs.Kept as registry
use Rattle.dl_registry.specs.Kept.{Kept, owed_change}
use Rattle.dl_registry.proofs.Following.{after_event, change_is_owed}
use Rattle.dl_hub.specs.State.{Client, Hub, is_open}
use Rattle.dl_hub.proofs.Keeping.{count-cons}
use Rattle.dl_core.specs.State.{Core}
use Rattle.dl_core.specs.Admission.{GivesApid, GivesFrame, GivesFrames, log_event, lost_frames, more_noted}
use Rattle.dl_core.specs.Follows.{Run, source_of}
use Rattle.dl_core.specs.Noting.{NotesLog, NotesLogs, NotesLost, NotesMessage}
use Rattle.dl_trace.specs.Written.{StoresEach, StoresIn}
use Rattle.dl_core.proofs.InTurn.{log_in_turn, lost_in_turn, user_in_turn}
use Rattle.dl_admission.specs.Admission.{Admits, AreNoted, Entry, Forwards, Logs, Tells, Uses, call_entry, loss_entries, message_entry}
use Rattle.dl_admission.specs.Part.{Part}
use Rattle.dl_admission.specs.Slow.{ClosesSlow, TellRooms}
use Rattle.dl_admission.proofs.Added.{more_both}
use Rattle.dl_admission.proofs.Admitted.{admits_both, admits_given, admits_none, admits_one, running_both}
use Rattle.dl_admission.proofs.KeptClients.{clients_stay}
use Rattle.dl_admission.proofs.KeptTraces.{trace_each, trace_in}

pub settled_behind : (need : ℕ) (old between : Part) → ClosesSlow need old between → owed_change old.core.registry ≡ None → owed_change between.core.registry ≡ None
settled_behind need old between closes settled = ap (λ (k : Core). owed_change k.registry) closes.core ∙ settled

-- ---- one event

size_one : (frame : List ℕ) → size_of (frame ∷ []) ≡ length frame
size_one frame = omega (arith, sum_by-cons length frame [])

pub log_admits : (item : Item) (moment : Moment) (old between new : Part) → owed_change old.core.registry ≡ None → ClosesSlow (length (log_message old.core.ecu item)) old between
    → NotesLog moment item between.core new.core between.folder new.folder between.events new.events → new.core ≡ record between.core { hub = new.core.hub; trace = new.core.trace }
    → Logs moment (item ∷ []) old new
log_admits item moment old between new settled closes notes same =
    admits_given (λ run gives. gives.0)
    (admits_one (call_entry old.core.ecu moment item) (GivesFrame item) 1 (StoresIn (stored between.core.ecu moment (log_message between.core.ecu item) ∷ [])) old between new closes notes
    (trace_in (stored between.core.ecu moment (log_message between.core.ecu item) ∷ []) between.core.trace new.core.trace between.folder new.folder notes.stores notes.others) same
    (record { slow = refl; stop = refl; cause = λ client. refl; room = λ run taken before. tt })
    (λ run past taken gives is. size_one (run.frame item.writer item.call) ∙ ap length (gives ∙ ap (λ (e : List ℕ). log_message e item) (sym is.set_to.ecu)))
    (log_in_turn between.core item.app item.writer item.call moment [] (settled_behind (length (log_message old.core.ecu item)) old between closes settled)))

pub lost_admits : (app : ℕ) (apid : List ℕ) (count : ℕ) (moment : Moment) (old between new : Part) → eqb count 0 ≡ false → owed_change old.core.registry ≡ None
    → ClosesSlow (size_of (lost_frames old.core.ecu apid count)) old between
    → NotesLost moment app apid count between.core new.core between.folder new.folder between.events new.events → new.core ≡ record between.core { hub = new.core.hub; trace = new.core.trace }
    → Tells moment app apid count old new
lost_admits app apid count moment old between new some settled closes notes same =
    let entry : Entry = record { event = event.Lost app count moment; need = size_of (lost_frames old.core.ecu apid count) } in
    let ecu : between.core.ecu ≡ old.core.ecu = ap (λ (k : Core). k.ecu) closes.core in
    subst (λ (es : List Entry). Admits es (GivesApid app apid) (length (lost_frames old.core.ecu apid count)) old new) (ap (λ (b : Bool). cond b [] (entry ∷ [])) (sym some))
    (subst (λ (e : List ℕ). Admits (entry ∷ []) (GivesApid app apid) (length (lost_frames e apid count)) old new) ecu
    (admits_one entry (GivesApid app apid) (length (lost_frames between.core.ecu apid count)) (StoresEach (map (stored between.core.ecu moment) (lost_frames between.core.ecu apid count))) old between new closes notes
    (trace_each (map (stored between.core.ecu moment) (lost_frames between.core.ecu apid count)) between.core.trace new.core.trace between.folder new.folder notes.stores notes.others) same
    (record { slow = refl; stop = refl; cause = λ client. refl; room = λ run taken before. tt })
    (λ run past taken gives is. ap (λ (a : List ℕ). size_of (overflow_frames run.setting.ecu a zero_id count)) gives ∙ ap (λ (e : List ℕ). size_of (overflow_frames e apid zero_id count)) (sym is.set_to.ecu))
    (lost_in_turn between.core app count moment [] (settled_behind (size_of (lost_frames old.core.ecu apid count)) old between closes settled))))

pub tells_none : (app : ℕ) (apid : List ℕ) (count : ℕ) (moment : Moment) (p : Part) → count ≡ 0 → Tells moment app apid count p p
tells_none app apid count moment p none = subst (λ (n : ℕ). Tells moment app apid n p p) (sym none) (admits_given (λ run gives. tt) (admits_none p))

pub one_loss : (ecu : List ℕ) (app : ℕ) (apid : List ℕ) (count : ℕ) (moment : Moment) → eqb count 0 ≡ false → length (loss_entries ecu moment app apid count) ≡ 1
one_loss ecu app apid count moment some = rw some refl

pub message_admits : (channel : ℕ) (msg : UserMsg) (moment : Moment) (old between new : Part) → owed_change old.core.registry ≡ None
    → ClosesSlow (size_of (user_frames old.core.ecu msg)) old between
    → NotesMessage moment channel msg between.core new.core between.folder new.folder between.events new.events → new.core ≡ record between.core { hub = new.core.hub; trace = new.core.trace }
    → Forwards moment channel msg old new
message_admits channel msg moment old between new settled closes notes same =
    let entry : Entry = message_entry old.core.ecu moment channel msg in
    let ecu : between.core.ecu ≡ old.core.ecu = ap (λ (k : Core). k.ecu) closes.core in
    subst (λ (e : List ℕ). Admits (entry ∷ []) (λ run. Unit {0}) (length (user_frames e msg)) old new) ecu
    (admits_one entry (λ run. Unit {0}) (length (user_frames between.core.ecu msg)) (StoresEach (map (stored between.core.ecu moment) (user_frames between.core.ecu msg))) old between new closes notes
    (trace_each (map (stored between.core.ecu moment) (user_frames between.core.ecu msg)) between.core.trace new.core.trace between.folder new.folder notes.stores notes.others) same
    (record { slow = refl; stop = refl; cause = λ client. refl; room = λ run taken before. tt })
    (λ run past taken gives is. ap (λ (e : List ℕ). size_of (user_frames e msg)) (sym is.set_to.ecu))
    (user_in_turn between.core channel msg moment [] (settled_behind (size_of (user_frames old.core.ecu msg)) old between closes settled)))

-- ---- log calls together

calls_noted : (ecu : List ℕ) (moment : Moment) (items : List Item) → AreNoted (map (call_entry ecu moment) items) (map (log_event moment) items)
calls_noted ecu moment [] = refl
calls_noted ecu moment (item ∷ items) = ([], map (log_event moment) items, refl, tt, tt, calls_noted ecu moment items)

calls_running : (moment : Moment) (items : List Item) → IsRunning (map (log_event moment) items)
calls_running moment [] = refl
calls_running moment (item ∷ items) = calls_running moment items

calls_close : (moment : Moment) (client : ℕ) (items : List Item) → filter_map (closed_of client) (map (log_event moment) items) ≡ []
calls_close moment client [] = refl
calls_close moment client (item ∷ items) = calls_close moment client items

calls_in_turn : (run : Run) (moment : Moment) (items : List Item) (before : List Event) (kept : Kept) → registry.IsAfter run.setting before kept → owed_change kept ≡ None → IsRunning before
    → AreInTurn run.setting (source_of run) before (map (log_event moment) items)
calls_in_turn run moment [] before kept is none running = tt
calls_in_turn run moment (item ∷ items) before kept is none running = (
  (sym (change_is_owed run.setting before kept is) ∙ none, running),
  calls_in_turn run moment items (before ++ log_event moment item ∷ []) kept (after_event run.setting before (log_event moment item) kept kept is (λ slot. refl) refl refl refl) none
      (running_both before (log_event moment item ∷ []) running refl),
)

calls_rooms : (run : Run) (taken : ℕ → List ℕ) (moment : Moment) (items : List Item) (before : List Event) → TellRooms run taken before (map (log_event moment) items)
calls_rooms run taken moment [] before = tt
calls_rooms run taken moment (item ∷ items) before = (tt, calls_rooms run taken moment items (before ++ log_event moment item ∷ []))

pub batch_admits : (items : List Item) (moment : Moment) (old new : Part) → owed_change old.core.registry ≡ None
    → NotesLogs moment items old.core new.core old.folder new.folder old.events new.events → new.core ≡ record old.core { hub = new.core.hub; trace = new.core.trace }
    → Logs moment items old new
batch_admits items moment old new settled notes same = record {
  more = map (log_event moment) items;
  events = notes.event;
  noted = calls_noted old.core.ecu moment items;
  running = calls_running moment items;
  after = notes.after;
  formed = λ run past taken gives is running well.
      goes_on run.setting (source_of run) past (map (log_event moment) items) well (calls_in_turn run moment items past old.core.registry is.registry settled running);
  rooms = λ run past taken gives is. calls_rooms run taken moment items past;
  admitted = notes.admitted;
  clients = clients_stay (map (log_event moment) items) old.core.hub new.core.hub (λ client. ap (λ (ws : List Why). slice_get ws 0) (calls_close moment client items)) notes.same notes.replies notes.still_open;
  trace = trace_in (map (λ item. stored old.core.ecu moment (log_message old.core.ecu item)) items) old.core.trace new.core.trace old.folder new.folder notes.stores notes.others;
  rest = same;
}

-- ---- one call more

gives_parts : (run : Run) (items : List Item) (item : Item) → GivesFrames (items ++ item ∷ []) run → GivesFrames items run × GivesFrames (item ∷ []) run
gives_parts run [] item gives = (tt, gives)
gives_parts run (x ∷ items) item gives = let rest = gives_parts run items item gives.1 in ((gives.0, rest.0), rest.1)

pub logs_none : (moment : Moment) (p : Part) → Logs moment [] p p
logs_none moment p = admits_given (λ run gives. tt) (admits_none p)

pub logs_more : (moment : Moment) (items : List Item) (item : Item) (old between new : Part) → Logs moment items old between → Logs moment (item ∷ []) between new → Logs moment (items ++ item ∷ []) old new
logs_more moment items item old between new first second =
    let ecu : between.core.ecu ≡ old.core.ecu = ap (λ (k : Core). k.ecu) first.rest in
    let behind = subst (λ (e : List ℕ). Admits (map (call_entry e moment) (item ∷ [])) (GivesFrames (item ∷ [])) 1 between new) ecu second in
    let both = admits_both (map (call_entry old.core.ecu moment) items) (map (call_entry old.core.ecu moment) (item ∷ [])) (GivesFrames items) (GivesFrames (item ∷ [])) (length items) 1 old between new first behind in
    let count : length items + 1 ≡ length (items ++ item ∷ []) = sym (length-append items (item ∷ [])) in
    subst (λ (n : ℕ). Admits (map (call_entry old.core.ecu moment) (items ++ item ∷ [])) (GivesFrames (items ++ item ∷ [])) n old new) count
    (subst (λ (es : List Entry). Admits es (GivesFrames (items ++ item ∷ [])) (length items + 1) old new) (sym (map-append (call_entry old.core.ecu moment) items (item ∷ [])))
    (admits_given (λ run gives. gives_parts run items item gives) both))

-- ---- the journal's count and room

open_counts : (bs : List Client) → count_by is_open bs ≡ count_by (λ (b : Bool). b) (map is_open bs)
open_counts [] = refl
open_counts (c ∷ cs) = omega (arith, count-cons is_open c cs, count-cons (λ (b : Bool). b) (is_open c) (map is_open cs), open_counts cs)

count_same : (cs ds : List Client) → map is_open cs ≡ map is_open ds → count_by is_open cs ≡ count_by is_open ds
count_same cs ds same = open_counts cs ∙ ap (count_by (λ (b : Bool). b)) same ∙ sym (open_counts ds)

pub uses_none : (hub : Hub) (noted spare : ℕ) → Uses 0 hub hub noted noted spare spare
uses_none hub noted spare = record { closed = 0; clients = omega arith; noted_so = refl; spare_so = omega arith }

pub uses_both : (a b : ℕ) (old between new : Hub) (n0 n1 n2 s0 s1 s2 : ℕ) → Uses a old between n0 n1 s0 s1 → Uses b between new n1 n2 s1 s2 → Uses (a + b) old new n0 n2 s0 s2
uses_both a b old between new n0 n1 n2 s0 s1 s2 first second =
    let sum : b + second.closed + (a + first.closed) ≡ a + b + (first.closed + second.closed) = omega arith in record {
      closed = first.closed + second.closed;
      clients = omega (arith, first.clients, second.clients);
      noted_so = second.noted_so ∙ ap (more_noted (b + second.closed)) first.noted_so ∙ more_both (a + first.closed) (b + second.closed) n0 ∙ ap (λ (n : ℕ). more_noted n n0) sum;
      spare_so = omega (arith, first.spare_so, second.spare_so);
    }

pub uses_closes : (closed : ℕ) (old between : Hub) (n0 n1 s0 s1 : ℕ) → count_by is_open between.clients + closed ≡ count_by is_open old.clients → n1 ≡ more_noted closed n0 → s1 + closed ≡ s0 → Uses 0 old between n0 n1 s0 s1
uses_closes closed old between n0 n1 s0 s1 clients noted spare =
    let sum : closed ≡ 0 + closed = omega arith in record { closed = closed; clients = clients; noted_so = noted ∙ ap (λ (n : ℕ). more_noted n n0) sum; spare_so = omega (arith, spare) }

pub uses_noted : (count : ℕ) (old new : Hub) (n0 n1 s0 s1 : ℕ) → map is_open new.clients ≡ map is_open old.clients → n1 ≡ more_noted count n0 → s1 + count ≡ s0 → Uses count old new n0 n1 s0 s1
uses_noted count old new n0 n1 s0 s1 still noted spare =
    let sum : count ≡ count + 0 = omega arith in
    record { closed = 0; clients = omega (arith, count_same new.clients old.clients still); noted_so = noted ∙ ap (λ (n : ℕ). more_noted n n0) sum; spare_so = omega (arith, spare) }

-- one event behind its Closes
pub uses_one : (closed : ℕ) (old between new : Hub) (n0 n1 n2 s0 s1 s2 : ℕ) → count_by is_open between.clients + closed ≡ count_by is_open old.clients → n1 ≡ more_noted closed n0 → s1 + closed ≡ s0
    → map is_open new.clients ≡ map is_open between.clients → n2 ≡ one_more n1 → s2 + 1 ≡ s1 → Uses 1 old new n0 n2 s0 s2
uses_one closed old between new n0 n1 n2 s0 s1 s2 clients noted spare still noted_one spare_one =
    uses_both 0 1 old between new n0 n1 n2 s0 s1 s2 (uses_closes closed old between n0 n1 s0 s1 clients noted spare) (uses_noted 1 between new n1 n2 s1 s2 still noted_one spare_one)

-- ---- a call that is never wanting memory

pub sure : {A B : Type 0} (r : Result A B) (b : Bool) (P : Type 0) → OnErr r (b ≡ false) → b ≡ true → OnOk r P → P
sure (Ok x) b P fails is holds = holds
sure (Err e) b P fails is holds = let no : true ≡ false = sym is ∙ fails in absurd (cc no)

pub only_hub : (old new : Core) → new.registry ≡ old.registry → new ≡ record old { registry = new.registry; hub = new.hub; trace = new.trace } → new ≡ record old { hub = new.hub; trace = new.trace }
only_hub old new same rest = rest ∙ ap (λ (k : Kept). record old { registry = k; hub = new.hub; trace = new.trace }) same
