-- Why clients went and how their links ended: the journal of a daemon, over what each client's link gave and took.
use Rattle.std.specs.Prelude.{◌≡◌, ℕ, ◌+◌, ◌-◌, ◌<◌, ◌≤◌, ◌==◌, ◌⊎◌, Bool, true, List, ◌∷◌, ◌++◌, length, map, count_by, is_some, Option, Some, None, if◌then◌else◌}
use Rattle.std.specs.List.{concat, filter_map, range_with_len}
use Rattle.dl_bytes.specs.Limits.{message_limit, open_client_limit, request_limit}
use Rattle.dl_bytes.specs.declared.outcome.Done.{Done}
use Rattle.dl_bytes.specs.declared.outcome.LinkEnd.{LinkEnd}
use Rattle.dl_message.specs.Cut.{rest_fault, rest_of}
use Rattle.dl_message.specs.Requests.{requests}
use Rattle.dl_events.specs.declared.event.Event.{Event}
use Rattle.dl_events.specs.declared.event.Event.TheVariants.{Request, Close}
use Rattle.dl_events.specs.declared.event.Why.{Why}
use Rattle.dl_events.specs.declared.event.Why.TheVariants as why
use Rattle.dl_model.specs.Backlog.{outbox_limit, size_of}
use Rattle.dl_model.specs.ClientStream.{stream}
use Rattle.dl_model.specs.Frames.{FrameSource}
use Rattle.dl_model.specs.Journal.{is_connect}
use Rattle.dl_model.specs.Setting.{Setting}

-- What a client's link did: the bytes that it gave and took, whether it will give no more, and how often it failed, had
-- nothing to give at that moment, and took nothing.
pub record LinkDid : Type 0 where
  pub given : List ℕ
  pub taken : List ℕ
  pub is_over : Bool
  pub faults : ℕ
  pub idles : ℕ
  pub waits : ℕ

-- ---- what a client asked

-- the message of a client's Request event
abbrev pub asked_in : ℕ → Event → Option (List ℕ)
asked_in client (Request other frame answer) = if other == client then Some frame else None
asked_in client _ = None

-- what a client asked, by its Request events
abbrev pub asked_by : ℕ → List Event → List (List ℕ)
asked_by client events = filter_map (asked_in client) events

-- of these requests the client asked those before this one, at which it was closed
abbrev pub IsClosedAt : List ℕ → List (List ℕ) → List (List ℕ) → Type 0
IsClosedAt frame given asked = (others : List (List ℕ)) × (given ≡ asked ++ frame ∷ others)

-- after these events the reply to this request has so many bytes
abbrev pub IsReplyOf : FrameSource → List Event → List ℕ → ℕ → Type 0
IsReplyOf source before frame need = (answer : Done) × (need ≡ length (source.reply before frame answer))

-- What a client asked, of the requests that its link gave: all of them. Where it was closed at a request, those before it: at
-- the 1001st, at one for which there was no memory, or at one whose reply its outbox had no room for. A client that was too
-- slow for an event's frames asked all.
abbrev pub HasAsked : FrameSource → List Event → Why → List (List ℕ) → List (List ℕ) → Type 0
HasAsked source before why.TooMany given asked = ((frame : List ℕ) × IsClosedAt frame given asked) × (length asked ≡ request_limit)
HasAsked source before why.NoMemory given asked = (frame : List ℕ) × IsClosedAt frame given asked
HasAsked source before (why.Slow room need) given asked =
    (given ≡ asked) ⊎ ((frame : List ℕ) × IsClosedAt frame given asked × IsReplyOf source before frame need)
HasAsked source before cause given asked = given ≡ asked

-- ---- why it went

-- the bytes that a link gave show a bad header behind their messages
abbrev pub IsMalformed : List ℕ → Type 0
IsMalformed given = is_some (rest_fault message_limit (rest_of message_limit given)) ≡ true

-- a link was tried a thousand times: it gave a byte, or took nothing
abbrev pub WasTried : LinkDid → Type 0
WasTried did = 1000 ≤ did.waits + length did.given

-- The cause of a Close is so, where the link left so many bytes of the client's stream.
abbrev pub IsCause : Setting → LinkDid → ℕ → Why → Type 0
IsCause setting did left why.Left = did.is_over ≡ true
IsCause setting did left why.Broken = 0 < did.faults
IsCause setting did left why.Malformed = IsMalformed did.given
IsCause setting did left (why.Slow room need) = room + left ≡ outbox_limit setting.buffer
IsCause setting did left (why.Stuck bytes) = (bytes ≡ left) × (0 < left) × (0 < did.waits) × WasTried did
IsCause setting did left why.Stopped = (left ≡ 0) × ((0 < did.idles) ⊎ WasTried did)
-- one request too many is told by what was asked, and want of memory by nothing
IsCause setting did left why.TooMany = Unit {0}
IsCause setting did left why.NoMemory = Unit {0}

-- A client went: its one Close stands behind these events. Its link took the front of its stream and left the rest. The cause
-- is so, and no other one than a bad header or one request too many comes where there is one of these.
pub record HasGone (setting : Setting) (source : FrameSource) (events : List Event) (client : ℕ) (did : LinkDid) : Type 0 where
  pub before : List Event
  pub cause : Why
  pub after : List Event
  pub place : events ≡ before ++ Close client cause ∷ after
  pub left : List ℕ
  pub took : concat (stream source setting.buffer client events) ≡ did.taken ++ left
  pub so : IsCause setting did (length left) cause
  pub asked : HasAsked source before cause (requests did.given) (asked_by client before)
  pub malformed : IsMalformed did.given → requests did.given ≡ asked_by client before → cause ≡ why.Malformed
  pub too_many : request_limit < length (requests did.given) → length (asked_by client before) ≡ request_limit → cause ≡ why.TooMany

-- ---- how its link ended

-- what was put into a client's stream, and whether its link took all of it
abbrev pub end_of_link : Setting → FrameSource → List Event → ℕ → LinkDid → LinkEnd
end_of_link setting source events client did =
    let sent = stream source setting.buffer client events in record {
      client = client;
      frames = length sent;
      bytes = size_of sent;
      complete = size_of sent == length did.taken;
    }

-- links are dropped only where eight clients had come
abbrev pub MayDrop : List Event → ℕ → Type 0
MayDrop events dropped = count_by is_connect events < open_client_limit → dropped ≡ 0
