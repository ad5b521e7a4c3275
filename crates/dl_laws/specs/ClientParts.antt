-- What a client is sent, taken apart: what was due, what was admitted, and its replies.
use Rattle.std.specs.Prelude.{◌≡◌, ℕ, ◌==◌, ◌⊎◌, true, false, List, [], ◌∷◌, ◌++◌, count_by, if◌then◌else◌}
use Rattle.std.specs.List.{list_any, range_with_len}
use Rattle.dl_events.specs.declared.event.Event.{Event}
use Rattle.dl_events.specs.declared.event.Event.TheVariants.{Close, Connect, Request}
use Rattle.dl_events.specs.declared.event.Why.{Why}
use Rattle.dl_model.specs.Along.{along_from}
use Rattle.dl_model.specs.Frames.{FrameSource, admitted}
use Rattle.dl_model.specs.Backlog.{waiting, due_backlog}
use Rattle.dl_model.specs.ClientEnds.{LinkDid, end_of_link}
use Rattle.dl_model.specs.ClientStream.{traffic}
use Rattle.dl_model.specs.Journal.{comes_or_goes, is_connect}
use Rattle.dl_model.specs.Setting.{Setting}
use Rattle.dl_model.specs.Traffic.{is_open}

-- ---- a whole stay

-- The stay of a client in a journal: the events before it came, those while it was there, why it was closed, and those after that.
pub record Stay : Type 0 where
  pub client : ℕ
  pub cause : Why
  pub before : List Event
  pub middle : List Event
  pub after : List Event

-- the journal of a stay
abbrev pub events_of : Stay → List Event
events_of stay = stay.before ++ Connect stay.client ∷ (stay.middle ++ Close stay.client stay.cause ∷ stay.after)

-- none of these events says of the client that it came or went
abbrev pub NeitherComesNorGoes : ℕ → List Event → Type 0
NeitherComesNorGoes client events = list_any (comes_or_goes client) events ≡ false

-- the link of a client took all of its stream, or not all
abbrev pub TookAll : Setting → FrameSource → List Event → ℕ → LinkDid → Type 0
TookAll setting source events client did = (end_of_link setting source events client did).complete ≡ true

abbrev pub WasCutOff : Setting → FrameSource → List Event → ℕ → LinkDid → Type 0
WasCutOff setting source events client did = (end_of_link setting source events client did).complete ≡ false

-- ---- what is sent

-- how many clients are open, of those that came
abbrev pub open_count : FrameSource → List Event → ℕ
open_count source events = count_by (λ client. is_open client (traffic source events)) (range_with_len 1 (count_by is_connect events))

-- A list is put together from two others: it has all their entries, those of each in their order.
abbrev pub IsMerged : {A : Type 0} → List A → List A → List A → Type 0
IsMerged xs ys [] = (xs ≡ []) × (ys ≡ [])
IsMerged {A = A} xs ys (z ∷ zs) =
    ((others : List A) × (xs ≡ z ∷ others) × IsMerged others ys zs) ⊎ ((others : List A) × (ys ≡ z ∷ others) × IsMerged xs others zs)

-- the reply to a request of this client, after the events before it
abbrev pub reply_to : FrameSource → ℕ → List Event → Event → List (List ℕ)
reply_to source client before (Request other frame answer) = if other == client then source.reply before frame answer ∷ [] else []
reply_to source client before _ = []

-- the replies to this client's requests among some events, in order
abbrev pub replies_after : FrameSource → ℕ → List Event → List Event → List (List ℕ)
replies_after source client before events = along_from (reply_to source client) before events

-- What is sent to a client that comes behind some events and stays while others happen: what was due to it, and then all
-- frames that these admit, with its replies among them, each in its order.
pub record IsSent (source : FrameSource) (buffer client : ℕ) (before middle : List Event) (sent : List (List ℕ)) : Type 0 where
  pub live : List (List ℕ)
  pub parts : sent ≡ due_backlog source.ecu buffer (waiting (traffic source before)) ++ live
  pub merged : IsMerged (admitted source middle) (replies_after source client (before ++ Connect client ∷ []) middle) live
