-- What became of a log call, for one client: the one answer to the question why a message isn't in its stream.
use Rattle.std.specs.Prelude.{ℕ, ◌==◌, ◌&&◌, nat_le, Bool, false, List, [], ◌∷◌, ◌++◌, length, Option, Some, None, if◌then◌else◌}
use Rattle.dl_events.specs.declared.event.Event.{Event}
use Rattle.dl_events.specs.declared.event.Event.TheVariants as event
use Rattle.dl_events.specs.declared.record.Record.{Record}
use Rattle.dl_events.specs.declared.record.Answer.{Answer}
use Rattle.dl_events.specs.declared.record.Answer.TheVariants as answer
use Rattle.dl_model.specs.Frames.{FrameSource}
use Rattle.dl_model.specs.Traffic.{is_open, is_any_open}
use Rattle.dl_model.specs.Backlog.{size_of, waiting}
use Rattle.dl_model.specs.ClientStream.{traffic, stream}

pub data Fate : Type 0 where
  -- its severity was above the level that its context held at the call's own load
  Filtered : Fate
  -- its ring was full when it was pushed, and it was counted as lost
  RingFull : Fate
  -- it lies in its ring: the daemon didn't take it yet
  InRing : Fate
  -- it stands in the client's stream, behind so many frames
  InStream : ℕ → Fate
  -- nobody listens, and it waits for the client that comes next, behind so many frames
  InBacklog : ℕ → Fate
  -- nobody listened and the buffer was full; the client that came next, if one did, was told
  BufferFull : Option ℕ → Fate
  -- it was put into another client's stream while this one wasn't there
  ForOthers : Fate

-- the client that comes next
abbrev pub next_client : List Event → Option ℕ
next_client [] = None
next_client (event.Connect client ∷ events) = Some client
next_client (_ ∷ events) = next_client events

-- A frame that the buffer kept behind so many others: it is handed to the client that comes next.
abbrev pub kept : ℕ → ℕ → Option ℕ → Fate
kept client place None = InBacklog place
kept client place (Some next) = if next == client then InStream place else ForOthers

-- A frame that was admitted behind these events and before those: who was open heard it; where nobody was, it went into the
-- buffer, if that had room.
abbrev pub of_frame : FrameSource → ℕ → ℕ → List Event → List ℕ → List Event → Fate
of_frame source buffer client before frame after =
    if is_open client (traffic source before) then InStream (length (stream source buffer client before))
    else if is_any_open (traffic source before) then ForOthers
    else if nat_le (size_of (waiting (traffic source before) ++ frame ∷ [])) buffer then kept client (length (waiting (traffic source before))) (next_client after)
    else BufferFull (next_client after)

-- the Log event of a writer's call
abbrev pub logs : ℕ → ℕ → Event → Bool
logs writer call (event.Log app other number moment) = (other == writer) && (number == call)
logs writer call _ = false

-- a call that its ring took, from these events on, behind those before: the daemon notes its Log event when it takes it
abbrev pub of_queued : FrameSource → (buffer client writer call : ℕ) → List Event → List Event → Fate
of_queued source buffer client writer call before [] = InRing
of_queued source buffer client writer call before (e ∷ events) =
    if logs writer call e then of_frame source buffer client before (source.frame writer call) events
    else of_queued source buffer client writer call (before ++ e ∷ []) events

-- what became of a call whose writer was given this answer
abbrev pub by_answer : Answer → Fate → Fate
by_answer answer.Filtered queued = Filtered
by_answer answer.Lost queued = RingFull
by_answer answer.Queued queued = queued

-- What became of a recorded call, for a client, in a journal.
abbrev pub what_became_of : FrameSource → (buffer client : ℕ) → List Event → Record → Fate
what_became_of source buffer client events r = by_answer r.answer (of_queued source buffer client r.item.writer r.item.call [] events)
