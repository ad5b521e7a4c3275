-- The frames that the daemon's events admit.
use Rattle.std.specs.Prelude.{ℕ, List, [], ◌∷◌, ◌++◌, map, Option, Some, None}
use Rattle.std.specs.List.{flat_map}
use Rattle.std.specs.Option.{option_map_or}
use Rattle.dl_bytes.specs.Id.{zero_id}
use Rattle.dl_bytes.specs.declared.moment.Moment.{Moment}
use Rattle.dl_bytes.specs.declared.outcome.Done.{Done}
use Rattle.dl_bytes.specs.declared.user.UserMsg.{UserMsg}
use Rattle.dl_bytes.specs.declared.user.UserMsg.TheVariants as user
use Rattle.dl_headers.specs.Header.{storage_header}
use Rattle.dl_events.specs.declared.event.Event.{Event}
use Rattle.dl_events.specs.declared.event.Event.TheVariants as event
use Rattle.dl_model.specs.Overflow.{overflow_frames}

-- Where the frames of events come from, since events don't tell: the control unit, the frame of a log call by its writer and its number, the APID of an
-- application by its number, and the reply to a request after a journal.
pub record FrameSource : Type 0 where
  pub ecu : List ℕ
  pub frame : ℕ → ℕ → List ℕ
  pub apid : ℕ → List ℕ
  pub reply : List Event → List ℕ → Done → List ℕ

-- the frames of a user message: a log message as it is, and the report of lost ones; no other message admits any
abbrev pub user_frames : List ℕ → UserMsg → List (List ℕ)
user_frames ecu (user.Log message) = message ∷ []
user_frames ecu (user.Overflow counter apid) = overflow_frames ecu apid zero_id counter
user_frames ecu _ = []

-- the frames that one event admits
abbrev pub frames_of : FrameSource → Event → List (List ℕ)
frames_of source (event.Log app writer call moment) = source.frame writer call ∷ []
frames_of source (event.Lost app count moment) = overflow_frames source.ecu (source.apid app) zero_id count
frames_of source (event.User channel msg moment) = user_frames source.ecu msg
frames_of source _ = []

-- the frames that a journal admits, in order
abbrev pub admitted : FrameSource → List Event → List (List ℕ)
admitted source events = flat_map (frames_of source) events

-- ---- the same as they are stored in trace files

-- when an event happened, where it says so; the others admit nothing
abbrev pub moment_of : Event → Option Moment
moment_of (event.Log app writer call moment) = Some moment
moment_of (event.Lost app count moment) = Some moment
moment_of (event.User channel msg moment) = Some moment
moment_of _ = None

-- a frame behind its storage header
abbrev pub stored : List ℕ → Moment → List ℕ → List ℕ
stored ecu moment frame = storage_header ecu moment ++ frame

-- the frames that one event admits, each behind a storage header with the event's moment
abbrev pub stored_of : FrameSource → Event → List (List ℕ)
stored_of source e = option_map_or (λ moment. map (stored source.ecu moment) (frames_of source e)) (moment_of e) []

-- the stored frames of a journal, in order
abbrev pub stored_frames : FrameSource → List Event → List (List ℕ)
stored_frames source events = flat_map (stored_of source) events
