-- The log calls of a writer, as a client of this project's daemon is sent them, and what of them is missing there.
use Rattle.std.specs.Prelude.{◌≡◌, ℕ, ◌+◌, ◌<◌, ◌==◌, Bool, true, false, List, ◌∷◌, ◌++◌, length, map, None}
use Rattle.std.specs.List.{filter, filter_map, AllByRecursion}
use Rattle.dl_events.specs.declared.event.Event.{Event}
use Rattle.dl_events.specs.declared.event.Event.TheVariants as event
use Rattle.dl_events.specs.declared.record.Record.{Record}
use Rattle.dl_events.specs.declared.record.Answer.TheVariants as answer
use Rattle.dl_message.specs.Frames.{log_message, IsLogCall}
use Rattle.dl_model.specs.Accounts.{order, of_writer, name_of, with_answer}
use Rattle.dl_model.specs.Along.{along_from}
use Rattle.dl_model.specs.ClientStream.{traffic_of}
use Rattle.dl_model.specs.Frames.{FrameSource}
use Rattle.dl_model.specs.Traffic.{meant_for}
use Rattle.dl_receive.specs.declared.kind.Kind.TheVariants.{Log}
use Rattle.dl_receive.specs.declared.counting.Counting.TheVariants.{Sessions}
use Rattle.dl_receive.specs.Counting.{entry_of, of_session, session_counter}
use Rattle.dl_receive.specs.MessageKind.{kind_of}
use Rattle.dl_receive.specs.Text.{gap, last_counter}

-- ---- what a client hears

-- the frames that events are for a client that hears all of them, after those before: all that they admit, and its replies
abbrev pub heard_frames : FrameSource → ℕ → List Event → List Event → List (List ℕ)
heard_frames source client before events = filter_map (meant_for client) (along_from (traffic_of source) before events)

-- this client comes or goes
abbrev pub comes_or_goes : ℕ → Event → Bool
comes_or_goes client (event.Connect other) = other == client
comes_or_goes client (event.Close other why) = other == client
comes_or_goes client _ = false

-- some client comes or goes, or this one asks for something
abbrev pub stirs : ℕ → Event → Bool
stirs client (event.Connect other) = true
stirs client (event.Close other why) = true
stirs client (event.Request other frame done) = other == client
stirs client _ = false

-- ---- a writer's calls

-- the frame of each call is its log message
abbrev pub AreFramed : FrameSource → List Record → Type 0
AreFramed source records = AllByRecursion (λ r. IsLogCall r.item × (source.frame r.item.writer r.item.call ≡ log_message source.ecu r.item)) records

-- the calls of a writer that a journal admits, by their names
abbrev pub logged : ℕ → ℕ → List Event → List (ℕ × ℕ)
logged app writer events = filter (of_writer writer) (order app events)

-- what the ring took of a writer was admitted in its order, or will be
abbrev pub AreInOrder : ℕ → ℕ → List Event → List Record → Type 0
AreInOrder app writer events records =
    (others : List (ℕ × ℕ)) × (map (λ r. name_of r.item) (with_answer answer.Queued records) ≡ logged app writer events ++ others)

-- how many of these calls were lost: they passed their level, and met a full ring
abbrev pub lost : List Record → ℕ
lost records = length (with_answer answer.Lost records)

-- Two log messages of a writer in a stream, with none of its between them: the records of their calls, and what a receiver
-- says at the second one. Where fewer than 256 calls were lost between them, and no other message there has the writer's
-- session, the gap before the second is the number of these calls.
pub record Neighbours (source : FrameSource) (writer first second : ℕ) (stream between : List (List ℕ)) (records : List Record) : Type 0 where
  pub one : Record
  pub two : Record
  pub earlier : List Record
  pub middle : List Record
  pub later : List Record
  pub records_are : records ≡ earlier ++ one ∷ (middle ++ two ∷ later)
  pub one_is : name_of one.item ≡ (writer, first)
  pub two_is : name_of two.item ≡ (writer, second)
  pub before : List (List ℕ)
  pub after : List (List ℕ)
  pub stream_is : stream ≡ (before ++ source.frame writer first ∷ between) ++ source.frame writer second ∷ after
  pub kind_is : kind_of (source.frame writer second) ≡ Log writer two.item.mcnt two.item.apid two.item.ctid (26 + length two.item.payload.bytes)
  pub gap_is : lost middle < 256 → last_counter (of_session writer) (map (entry_of Sessions) between) ≡ None
      → gap (map (entry_of Sessions) (before ++ source.frame writer first ∷ between)) (session_counter writer two.item.mcnt) ≡ lost middle
