-- What the calls leave that admit frames, of the hub and the trace, and of the core with its journal; and what a claim leaves.
use Rattle.std.specs.Prelude.{◌≡◌, ℕ, ◌+◌, List, [], ◌∷◌, length, map, Option}
use Rattle.dl_bytes.specs.Claim.{Claimed}
use Rattle.dl_bytes.specs.declared.item.Item.{Item}
use Rattle.dl_bytes.specs.declared.moment.Moment.{Moment}
use Rattle.dl_bytes.specs.declared.user.UserMsg.{UserMsg}
use Rattle.dl_events.specs.declared.event.Event.{Event}
use Rattle.dl_events.specs.declared.event.Event.TheVariants as event
use Rattle.dl_message.specs.Frames.{log_message}
use Rattle.dl_model.specs.Frames.{stored, user_frames}
use Rattle.dl_outside.specs.Told.{FolderTold}
use Rattle.dl_hub.specs.State.{Hub, IsSameHub, is_open, replies_of}
use Rattle.dl_trace.specs.State.{Trace}
use Rattle.dl_core.specs.Admission.{Admits, AddsEach, GivesApid, GivesFrame, GivesFrames, log_event, lost_frames, message_frames, user_event}
use Rattle.dl_core.specs.Follows.{Run, Adds}
use Rattle.dl_core.specs.State.{Core}
use Rattle.dl_trace.specs.Written.{ChangesTraceAlone, StoresEach, StoresIn}

-- These frames were admitted, and stored one after the other; who is open stays, and nobody was put a reply.
pub record TakesIn (ecu : List ℕ) (moment : Moment) (frames : List (List ℕ)) (hub hub_now : Hub) (kept kept_now : Option Trace) (folder folder_now : FolderTold) : Type 0 where
  pub adds : Admits frames hub hub_now
  pub same : IsSameHub hub hub_now
  pub still_open : map is_open hub_now.clients ≡ map is_open hub.clients
  pub replies : replies_of hub_now ≡ replies_of hub
  pub admitted : hub_now.admitted ≡ hub.admitted + length frames
  pub stores : StoresEach (map (stored ecu moment) frames) kept kept_now folder folder_now
  pub others : ChangesTraceAlone kept folder folder_now

-- the same of a core
abbrev pub AdmitsFrames : Moment → List (List ℕ) → Core → Core → FolderTold → FolderTold → Type 0
AdmitsFrames moment frames old new folder folder_now = TakesIn old.ecu moment frames old.hub new.hub old.trace new.trace folder folder_now

-- These events were noted, so many frames admitted for them, and stored; who is open stays, nobody was put a reply, and no file
-- changed but the trace files. The core stands for the journal with these events more, in each run that gives what the call was handed.
pub record Notes (events : List Event) (Gives : Run → Type 0) (count : ℕ) (Leaves : Option Trace → Option Trace → FolderTold → FolderTold → Type 0)
    (old new : Core) (folder folder_now : FolderTold) (past present : Option (List Event)) : Type 0 where
  pub after : Adds events Gives old new folder folder_now
  pub event : AddsEach past present events
  pub stores : Leaves old.trace new.trace folder folder_now
  pub others : ChangesTraceAlone old.trace folder folder_now
  pub admitted : new.hub.admitted ≡ old.hub.admitted + count
  pub still_open : map is_open new.hub.clients ≡ map is_open old.hub.clients
  pub replies : replies_of new.hub ≡ replies_of old.hub
  pub same : IsSameHub old.hub new.hub

-- a log call that was taken from its ring
abbrev pub NotesLog : Moment → Item → Core → Core → FolderTold → FolderTold → Option (List Event) → Option (List Event) → Type 0
NotesLog moment item old = Notes (log_event moment item ∷ []) (GivesFrame item) 1 (StoresIn (stored old.ecu moment (log_message old.ecu item) ∷ [])) old

-- log calls of one moment, whose frames are stored together
abbrev pub NotesLogs : Moment → List Item → Core → Core → FolderTold → FolderTold → Option (List Event) → Option (List Event) → Type 0
NotesLogs moment items old =
    Notes (map (log_event moment) items) (GivesFrames items) (length items) (StoresIn (map (λ item. stored old.ecu moment (log_message old.ecu item)) items)) old

-- a report of so many lost calls of an application
abbrev pub NotesLost : Moment → ℕ → List ℕ → ℕ → Core → Core → FolderTold → FolderTold → Option (List Event) → Option (List Event) → Type 0
NotesLost moment app apid count old =
    Notes (event.Lost app count moment ∷ []) (GivesApid app apid) (length (lost_frames old.ecu apid count))
    (StoresEach (map (stored old.ecu moment) (lost_frames old.ecu apid count))) old

-- a user message
abbrev pub NotesMessage : Moment → ℕ → UserMsg → Core → Core → FolderTold → FolderTold → Option (List Event) → Option (List Event) → Type 0
NotesMessage moment channel msg old =
    Notes (event.User channel msg moment ∷ []) (λ run. Unit {0}) (length (user_frames old.ecu msg))
    (StoresEach (map (stored old.ecu moment) (user_frames old.ecu msg))) old

-- user messages of one channel and one moment, whose frames are stored together
abbrev pub NotesMessages : Moment → ℕ → List UserMsg → Core → Core → FolderTold → FolderTold → Option (List Event) → Option (List Event) → Type 0
NotesMessages moment channel msgs old =
    Notes (map (user_event moment channel) msgs) (λ run. Unit {0}) (length (message_frames old.ecu msgs))
    (StoresIn (map (stored old.ecu moment) (message_frames old.ecu msgs))) old

-- a claim of a writer of this process: no frame is admitted for it, and no folder is asked
abbrev pub NotesClaim : Moment → Claimed → Core → Core → Option (List Event) → Option (List Event) → Type 0
NotesClaim moment claim old new past present =
    (folder : FolderTold) → Notes (event.Claim claim moment ∷ []) (λ run. Unit {0}) 0 (StoresEach []) old new folder folder past present

-- ---- what a core stands for afterwards, and what its folder holds, of each of these calls alone

abbrev pub AddsCall : Moment → Item → Core → Core → FolderTold → FolderTold → Type 0
AddsCall moment item old new folder folder_now = Adds (log_event moment item ∷ []) (GivesFrame item) old new folder folder_now

abbrev pub AddsCalls : Moment → List Item → Core → Core → FolderTold → FolderTold → Type 0
AddsCalls moment items old new folder folder_now = Adds (map (log_event moment) items) (GivesFrames items) old new folder folder_now

abbrev pub AddsMessage : Moment → ℕ → UserMsg → Core → Core → FolderTold → FolderTold → Type 0
AddsMessage moment channel msg old new folder folder_now = Adds (user_event moment channel msg ∷ []) (λ run. Unit {0}) old new folder folder_now

abbrev pub AddsMessages : Moment → ℕ → List UserMsg → Core → Core → FolderTold → FolderTold → Type 0
AddsMessages moment channel msgs old new folder folder_now = Adds (map (user_event moment channel) msgs) (λ run. Unit {0}) old new folder folder_now
