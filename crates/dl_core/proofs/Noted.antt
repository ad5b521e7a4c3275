-- The events of admissions and of clients.
use Rattle.std.proofs.Common.{◌≡◌, ℕ, List, [], ◌∷◌, ◌++◌, map, Option, Some, None, refl, sym, ap, subst, ◌∙◌, append_assoc}
use Rattle.std.specs.List.{flat_map}
use Rattle.std.proofs.lemmas.Grind.{flat_map-append}
use Rattle.std.proofs.lemmas.List.{append-nil, map-append}
use Rattle.dl_bytes.specs.Id.{zero_id}
use Rattle.dl_bytes.specs.declared.item.Item.{Item}
use Rattle.dl_bytes.specs.declared.moment.Moment.{Moment}
use Rattle.dl_events.specs.Journal as notes
use Rattle.dl_events.specs.declared.event.Event.{Event}
use Rattle.dl_events.specs.declared.event.Event.TheVariants as event
use Rattle.dl_events.specs.declared.event.Why.{Why}
use Rattle.dl_outside.specs.Told.{FolderTold}
use Rattle.dl_message.specs.Frames.{log_message}
use Rattle.dl_model.specs.Along.{along_from}
use Rattle.dl_model.specs.Overflow.{overflow_frames}
use Rattle.dl_model.specs.Setting.{Setting}
use Rattle.dl_model.specs.Frames.{stored, stored_of, stored_frames}
use Rattle.dl_model.specs.Traffic.{Traffic, Admitted, Connected, Closed}
use Rattle.dl_model.specs.ClientStream.{traffic, traffic_of}
use Rattle.dl_model.proofs.Lists.{along_from-append}
use Rattle.dl_registry.specs.Kept as registry
use Rattle.dl_registry.specs.Kept.{Kept}
use Rattle.dl_registry.proofs.Following.{after_event}
use Rattle.dl_hub.specs.Follows as hub
use Rattle.dl_core.specs.State.{Core}
use Rattle.dl_core.specs.Follows.{Run, source_of, stored_by, IsAfter, HoldsTrace, Adds, AddsAlone}
use Rattle.dl_core.specs.Admission.{log_event, lost_frames, AddsEach, Admits, GivesFrame, GivesFrames, GivesApid}
use Rattle.dl_trace.specs.Written.{StoresIn, StoresEach}
use Rattle.dl_core.proofs.Tracing.{trace_follows, each_follows}
use Rattle.dl_core.proofs.Journals.{IsSameCore, events_follow, event_follows, quiet_event}

-- one event by itself
pub added_one : (past present : Option (List Event)) (noted event : Event) → noted ≡ event → notes.Adds past present noted → AddsEach past present (event ∷ [])
added_one None present noted event same adds = adds
added_one (Some events) present noted event same adds = adds ∙ ap (λ (e : Event). Some (events ++ e ∷ [])) same

-- ---- log calls

registry_logs : (setting : Setting) (events : List Event) (item : Item) (moment : Moment) (old new : Kept) → registry.IsAfter setting events old → new ≡ old
    → registry.IsAfter setting (events ++ log_event moment item ∷ []) new
registry_logs setting events item moment old new is same =
    subst (λ (k : Kept). registry.IsAfter setting (events ++ log_event moment item ∷ []) k) (sym same)
    (after_event setting events (log_event moment item) old old is (λ slot. refl) refl refl refl)

pub log_follows : (item : Item) (moment : Moment) (old new : Core) (told told_now : FolderTold)
    → IsSameCore old new → new.registry ≡ old.registry
    → hub.Adds (Admitted (log_message old.ecu item)) old.hub new.hub
    → StoresIn (stored old.ecu moment (log_message old.ecu item) ∷ []) old.trace new.trace told told_now
    → Adds (log_event moment item ∷ []) (GivesFrame item) old new told told_now
log_follows item moment old new told told_now same kept talks stores = λ run events taken gives is.
    let frame : run.frame item.writer item.call ≡ log_message old.ecu item = gives ∙ ap (λ (e : List ℕ). log_message e item) (sym is.set_to.ecu) in
    let all : stored_of (source_of run) (log_event moment item) ≡ stored old.ecu moment (log_message old.ecu item) ∷ [] =
    ap (λ (f : List ℕ). stored run.setting.ecu moment f ∷ []) frame ∙ ap (λ (e : List ℕ). stored e moment (log_message old.ecu item) ∷ []) (sym is.set_to.ecu) in
    event_follows run events taken (log_event moment item) (stored old.ecu moment (log_message old.ecu item) ∷ []) old new told told_now same
    (registry_logs run.setting events item moment old.registry new.registry is.registry kept)
    (subst (λ (f : List ℕ). hub.Adds (Admitted f) old.hub new.hub) (sym frame) talks)
    all
    (trace_follows run (stored_by run events) (stored old.ecu moment (log_message old.ecu item) ∷ []) old.trace new.trace told told_now stores)
    is

-- ---- reports of lost calls

pub lost_follows : (app : ℕ) (apid : List ℕ) (count : ℕ) (moment : Moment) (old new : Core) (told told_now : FolderTold)
    → IsSameCore old new → new.registry ≡ old.registry
    → Admits (lost_frames old.ecu apid count) old.hub new.hub
    → StoresEach (map (stored old.ecu moment) (lost_frames old.ecu apid count)) old.trace new.trace told told_now
    → Adds (event.Lost app count moment ∷ []) (GivesApid app apid) old new told told_now
lost_follows app apid count moment old new told told_now same kept talks stores = λ run events taken gives is.
    let frames : overflow_frames run.setting.ecu (run.apid app) zero_id count ≡ lost_frames old.ecu apid count =
    ap (λ (a : List ℕ). overflow_frames run.setting.ecu a zero_id count) gives ∙ ap (λ (e : List ℕ). overflow_frames e apid zero_id count) (sym is.set_to.ecu) in
    let all : stored_of (source_of run) (event.Lost app count moment) ≡ map (stored old.ecu moment) (lost_frames old.ecu apid count) =
    ap (map (stored run.setting.ecu moment)) frames ∙ ap (λ (e : List ℕ). map (stored e moment) (lost_frames old.ecu apid count)) (sym is.set_to.ecu) in
    event_follows run events taken (event.Lost app count moment) (map (stored old.ecu moment) (lost_frames old.ecu apid count)) old new told told_now same
    (subst (λ (k : Kept). registry.IsAfter run.setting (events ++ event.Lost app count moment ∷ []) k) (sym kept)
    (after_event run.setting events (event.Lost app count moment) old.registry old.registry is.registry (λ slot. refl) refl refl refl))
    (subst (λ (fs : List (List ℕ)). Admits fs old.hub new.hub) (sym frames) talks)
    all
    (each_follows run (stored_by run events) (map (stored old.ecu moment) (lost_frames old.ecu apid count)) old.trace new.trace told told_now stores)
    is

-- ---- batches of log calls

talks_logs : (run : Run) (items : List Item) (moment : Moment) (before : List Event) → GivesFrames items run
    → along_from (traffic_of (source_of run)) before (map (log_event moment) items) ≡ map Admitted (map (log_message run.setting.ecu) items)
talks_logs run [] moment before gives = refl
talks_logs run (item ∷ items) moment before gives =
    ap (λ (f : List ℕ). Admitted f ∷ along_from (traffic_of (source_of run)) (before ++ log_event moment item ∷ []) (map (log_event moment) items)) gives.0
    ∙ ap (λ (ts : List Traffic). Admitted (log_message run.setting.ecu item) ∷ ts) (talks_logs run items moment (before ++ log_event moment item ∷ []) gives.1)

stores_logs : (run : Run) (items : List Item) (moment : Moment) → GivesFrames items run
    → flat_map (stored_of (source_of run)) (map (log_event moment) items) ≡ map (λ item. stored run.setting.ecu moment (log_message run.setting.ecu item)) items
stores_logs run [] moment gives = refl
stores_logs run (item ∷ items) moment gives =
    ap (λ (f : List ℕ). stored run.setting.ecu moment f ∷ flat_map (stored_of (source_of run)) (map (log_event moment) items)) gives.0
    ∙ ap (λ (fs : List (List ℕ)). stored run.setting.ecu moment (log_message run.setting.ecu item) ∷ fs) (stores_logs run items moment gives.1)

registry_batch : (setting : Setting) (items : List Item) (moment : Moment) (events : List Event) (kept : Kept) → registry.IsAfter setting events kept
    → registry.IsAfter setting (events ++ map (log_event moment) items) kept
registry_batch setting [] moment events kept is = subst (λ (es : List Event). registry.IsAfter setting es kept) (sym (append-nil events)) is
registry_batch setting (item ∷ items) moment events kept is =
    subst (λ (es : List Event). registry.IsAfter setting es kept) (append_assoc events (log_event moment item ∷ []) (map (log_event moment) items))
    (registry_batch setting items moment (events ++ log_event moment item ∷ []) kept (registry_logs setting events item moment kept kept is refl))

pub batch_follows : (items : List Item) (moment : Moment) (old new : Core) (told told_now : FolderTold)
    → IsSameCore old new → new.registry ≡ old.registry
    → Admits (map (log_message old.ecu) items) old.hub new.hub
    → StoresIn (map (λ item. stored old.ecu moment (log_message old.ecu item)) items) old.trace new.trace told told_now
    → Adds (map (log_event moment) items) (GivesFrames items) old new told told_now
batch_follows items moment old new told told_now same kept talks stores = λ run events taken gives is.
    let more = map (log_event moment) items in
    let entries : along_from (traffic_of (source_of run)) events more ≡ map Admitted (map (log_message old.ecu) items) =
    talks_logs run items moment events gives ∙ ap (λ (e : List ℕ). map Admitted (map (log_message e) items)) (sym is.set_to.ecu) in
    let frames : flat_map (stored_of (source_of run)) more ≡ map (λ item. stored old.ecu moment (log_message old.ecu item)) items =
    stores_logs run items moment gives ∙ ap (λ (e : List ℕ). map (λ item. stored e moment (log_message e item)) items) (sym is.set_to.ecu) in
    events_follow run events more taken (map Admitted (map (log_message old.ecu) items)) (map (λ item. stored old.ecu moment (log_message old.ecu item)) items) old new told told_now same
    (subst (λ (k : Kept). registry.IsAfter run.setting (events ++ more) k) (sym kept) (registry_batch run.setting items moment events old.registry is.registry))
    (along_from-append (traffic_of (source_of run)) [] events more ∙ ap (λ (ts : List Traffic). traffic (source_of run) events ++ ts) entries)
    talks
    (flat_map-append (stored_of (source_of run)) events more ∙ ap (λ (fs : List (List ℕ)). stored_frames (source_of run) events ++ fs) frames)
    (trace_follows run (stored_by run events) (map (λ item. stored old.ecu moment (log_message old.ecu item)) items) old.trace new.trace told told_now stores)
    is

gives_parts : (run : Run) (items : List Item) (item : Item) → GivesFrames (items ++ item ∷ []) run → GivesFrames items run × GivesFrame item run
gives_parts run [] item gives = (tt, gives.0)
gives_parts run (x ∷ items) item gives = let rest = gives_parts run items item gives.1 in ((gives.0, rest.0), rest.1)

-- one call behind a batch is the batch with that call
pub batch_one : (moment : Moment) (items : List Item) (item : Item) (old between new : Core) (told told_between told_now : FolderTold)
    → Adds (map (log_event moment) items) (GivesFrames items) old between told told_between
    → Adds (log_event moment item ∷ []) (GivesFrame item) between new told_between told_now
    → Adds (map (log_event moment) (items ++ item ∷ [])) (GivesFrames (items ++ item ∷ [])) old new told told_now
batch_one moment items item old between new told told_between told_now first second = λ run events taken gives is.
    let parts = gives_parts run items item gives in
    let here = first run events taken parts.0 is in
    let there = second run (events ++ map (log_event moment) items) taken parts.1 here.0 in
    subst (λ (es : List Event). IsAfter run es taken new × (HoldsTrace run events old told → HoldsTrace run es new told_now))
    (append_assoc events (map (log_event moment) items) (log_event moment item ∷ []) ∙ ap (λ (es : List Event). events ++ es) (sym (map-append (log_event moment) items (item ∷ []))))
    (there.0, λ holds. there.1 (here.1 holds))

-- ---- clients

pub connect_follows : (client : ℕ) (old new : Core) → IsSameCore old new → new.registry ≡ old.registry → new.trace ≡ old.trace
    → hub.Adds (Connected client) old.hub new.hub → AddsAlone (event.Connect client ∷ []) old new
connect_follows client old new same kept trace talks = λ told run events taken gives is.
    quiet_event run events taken (event.Connect client) old new told same trace
    (subst (λ (k : Kept). registry.IsAfter run.setting (events ++ event.Connect client ∷ []) k) (sym kept)
    (after_event run.setting events (event.Connect client) old.registry old.registry is.registry (λ slot. refl) refl refl refl))
    talks refl is

pub close_follows : (client : ℕ) (why : Why) (old new : Core) → IsSameCore old new → new.registry ≡ old.registry → new.trace ≡ old.trace
    → hub.Adds (Closed client) old.hub new.hub → AddsAlone (event.Close client why ∷ []) old new
close_follows client why old new same kept trace talks = λ told run events taken gives is.
    quiet_event run events taken (event.Close client why) old new told same trace
    (subst (λ (k : Kept). registry.IsAfter run.setting (events ++ event.Close client why ∷ []) k) (sym kept)
    (after_event run.setting events (event.Close client why) old.registry old.registry is.registry (λ slot. refl) refl refl refl))
    talks refl is
