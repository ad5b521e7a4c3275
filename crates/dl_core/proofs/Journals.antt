-- The core after one event more.
use Rattle.std.proofs.Common.{◌≡◌, ◌≤◌, ℕ, ◌+◌, List, [], ◌∷◌, ◌++◌, drop, length, Option, None, sym, ap, subst, ◌∙◌, append_assoc, length-append, arith}
use Rattle.std.specs.Prelude.{IfSome}
use Rattle.std.proofs.lemmas.List.{append-nil, drop-append-le}
use Rattle.std.proofs.lemmas.Grind.{flat_map-append}
use Rattle.dl_events.specs.declared.event.Event.{Event}
use Rattle.dl_outside.specs.Told.{FolderTold}
use Rattle.dl_model.specs.Frames.{FrameSource, stored_of, stored_frames}
use Rattle.dl_model.specs.Traffic.{Traffic}
use Rattle.dl_model.specs.ClientStream.{traffic, traffic_of}
use Rattle.dl_model.proofs.Lists.{along-one}
use Rattle.dl_registry.specs.Kept as registry
use Rattle.dl_hub.specs.Follows as hub
use Rattle.dl_hub.specs.State.{Hub, IsSameHub}
use Rattle.dl_trace.specs.State.{Trace}
use Rattle.dl_core.specs.State.{Core}
use Rattle.dl_core.specs.Settings.{IsSetTo}
use Rattle.dl_core.specs.Follows.{Run, source_of, stored_by, IsTraceAfter, IsAfter, HoldsFiles, HoldsTrace}
use Rattle.dl_core.proofs.Tracing.{Traced, trace_stays}

-- the stored frames of a journal with one event more
pub stored-one : (source : FrameSource) (events : List Event) (event : Event) → stored_frames source (events ++ event ∷ []) ≡ stored_frames source events ++ stored_of source event
stored-one source events event = flat_map-append (stored_of source) events (event ∷ []) ∙ ap (λ (fs : List (List ℕ)). stored_frames source events ++ fs) (append-nil (stored_of source event))

-- what a call leaves of what doesn't change
pub record IsSameCore (old new : Core) : Type 0 where
  pub ecu : new.ecu ≡ old.ecu
  pub level : new.level ≡ old.level
  pub injection : new.injection ≡ old.injection
  pub software : new.software ≡ old.software
  pub hub : IsSameHub old.hub new.hub

set_later : (run : Run) (old new : Core) → IsSameCore old new → IsSetTo run.setting old → IsSetTo run.setting new
set_later run old new same is = record {
  ecu = same.ecu ∙ is.ecu;
  unit = same.hub.ecu ∙ is.unit;
  buffer = same.hub.buffer ∙ is.buffer;
  level = same.level ∙ is.level;
  injection = same.injection ∙ is.injection;
  software = same.software ∙ is.software;
  clients = same.hub.limit ∙ is.clients;
}

-- whatever hub these entries make, they make of the traffic of the journal the traffic of the longer one
abbrev pub AddsTraffic : List Traffic → Hub → Hub → Type 0
AddsTraffic more old new = (before : List Traffic) (taken : ℕ → List ℕ) → hub.IsAfter before taken old → hub.IsAfter (before ++ more) taken new

-- the frames that a trace is to store, with some more
pub stored_more : (run : Run) (before after frames : List (List ℕ)) → after ≡ before ++ frames → run.before ≤ length before
    → run.head ++ drop run.before after ≡ (run.head ++ drop run.before before) ++ frames
stored_more run before after frames all begun =
    ap (λ (fs : List (List ℕ)). run.head ++ drop run.before fs) all ∙ ap (λ (fs : List (List ℕ)). run.head ++ fs) (drop-append-le run.before before frames begun)
    ∙ sym (append_assoc run.head (drop run.before before) frames)

-- The core after some events more: what they are for the registry, for the clients, and for the trace.
pub events_follow : (run : Run) (events more : List Event) (taken : ℕ → List ℕ) (entries : List Traffic) (frames : List (List ℕ)) (old new : Core) (told told_now : FolderTold)
    → IsSameCore old new
    → registry.IsAfter run.setting (events ++ more) new.registry
    → traffic (source_of run) (events ++ more) ≡ traffic (source_of run) events ++ entries
    → AddsTraffic entries old.hub new.hub
    → stored_frames (source_of run) (events ++ more) ≡ stored_frames (source_of run) events ++ frames
    → Traced run (stored_by run events) (stored_by run events ++ frames) old.trace new.trace told.files told_now.files
    → IsAfter run events taken old
    → IsAfter run (events ++ more) taken new × (HoldsTrace run events old told → HoldsTrace run (events ++ more) new told_now)
events_follow run events more taken entries frames old new told told_now same registers talk talks all traced is =
    let left = traced is.trace in
    let stored : stored_by run (events ++ more) ≡ stored_by run events ++ frames =
    stored_more run (stored_frames (source_of run) events) (stored_frames (source_of run) (events ++ more)) frames all is.begun in
    let longer : length (stored_frames (source_of run) (events ++ more)) ≡ length (stored_frames (source_of run) events) + length frames =
    ap length all ∙ length-append (stored_frames (source_of run) events) frames in (
      record {
        set_to = set_later run old new same is.set_to;
        registry = registers;
        hub = subst (λ (ts : List Traffic). hub.IsAfter ts taken new.hub) (sym talk) (talks (traffic (source_of run) events) taken is.hub);
        begun = omega (arith, is.begun, longer);
        trace = subst (λ (fs : List (List ℕ)). IfSome new.trace (IsTraceAfter run fs)) (sym stored) left.0;
      },
      λ holds. subst (λ (fs : List (List ℕ)). IfSome new.trace (λ t. t.state.end ≡ None → HoldsFiles run fs told_now.files)) (sym stored) (left.1 holds),
    )

-- the same of one event
pub event_follows : (run : Run) (events : List Event) (taken : ℕ → List ℕ) (event : Event) (frames : List (List ℕ)) (old new : Core) (told told_now : FolderTold)
    → IsSameCore old new
    → registry.IsAfter run.setting (events ++ event ∷ []) new.registry
    → AddsTraffic (traffic_of (source_of run) events event) old.hub new.hub
    → stored_of (source_of run) event ≡ frames
    → Traced run (stored_by run events) (stored_by run events ++ frames) old.trace new.trace told.files told_now.files
    → IsAfter run events taken old
    → IsAfter run (events ++ event ∷ []) taken new × (HoldsTrace run events old told → HoldsTrace run (events ++ event ∷ []) new told_now)
event_follows run events taken event frames old new told told_now same registers talks stored traced is =
    events_follow run events (event ∷ []) taken (traffic_of (source_of run) events event) frames old new told told_now same registers
    (along-one (traffic_of (source_of run)) events event) talks
    (stored-one (source_of run) events event ∙ ap (λ (fs : List (List ℕ)). stored_frames (source_of run) events ++ fs) stored) traced is

-- and of one that stores nothing
pub quiet_event : (run : Run) (events : List Event) (taken : ℕ → List ℕ) (event : Event) (old new : Core) (told : FolderTold)
    → IsSameCore old new → new.trace ≡ old.trace
    → registry.IsAfter run.setting (events ++ event ∷ []) new.registry
    → AddsTraffic (traffic_of (source_of run) events event) old.hub new.hub
    → stored_of (source_of run) event ≡ []
    → IsAfter run events taken old
    → IsAfter run (events ++ event ∷ []) taken new × (HoldsTrace run events old told → HoldsTrace run (events ++ event ∷ []) new told)
quiet_event run events taken event old new told same kept registers talks none is =
    event_follows run events taken event [] old new told told same registers talks none
    (subst (λ (o : Option Trace). Traced run (stored_by run events) (stored_by run events ++ []) old.trace o told.files told.files) (sym kept) (trace_stays run (stored_by run events) old.trace told.files)) is
