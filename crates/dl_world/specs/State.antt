-- What contracts see of the clients and the channels of a script.
use Rattle.std.specs.Prelude.{ℕ, ◌-◌, ◌==◌, List, [], ◌++◌, map, slice_get, slice_set, Option, None, IfSome, if◌then◌else◌}
use Rattle.std.specs.List.{concat, find}
use Rattle.std.specs.Option.{option_map_or}
use Rattle.dl_bytes.specs.Limits.{message_limit}
use Rattle.dl_message.specs.Cutting.{Cutting, unfed}
use Rattle.dl_user.specs.Channel as user
use Rattle.dl_world.specs.Fed.{IsFedBy}

-- a client: what it sent, as its cutter holds it, and the frames that its link took
pub record Client : Type 0 where
  pub cutter : Cutting
  pub frames : List (List ℕ)

-- a client that sent nothing, and was sent nothing
abbrev pub new_client : Client
new_client = record { cutter = unfed message_limit; frames = [] }

-- the client of a number from 1
abbrev pub client_at : List Client → ℕ → Option Client
client_at clients number = if number == 0 then None else slice_get clients (number - 1)

-- it sent these bytes, where it came
abbrev pub HasSent : List ℕ → Option Client → Type 0
HasSent stream client = IfSome client (λ (c : Client). IsFedBy stream c.cutter)

-- the clients where one has changed
abbrev pub with_client : ℕ → (Client → Client) → List Client → List Client
with_client number change clients = option_map_or (λ client. slice_set clients (number - 1) (change client)) (client_at clients number) clients

abbrev pub with_cutter : Cutting → Client → Client
with_cutter cutter client = record { cutter = cutter; frames = client.frames }

abbrev pub with_frames : List (List ℕ) → Client → Client
with_frames parts client = record { cutter = client.cutter; frames = client.frames ++ parts }

-- what each of them sent
abbrev pub cutters_of : List Client → List Cutting
cutters_of clients = map (λ (client : Client). client.cutter) clients

-- the bytes that the link of a client took
abbrev pub taken_by : List Client → ℕ → List ℕ
taken_by clients number = option_map_or (λ (client : Client). concat client.frames) (client_at clients number) []

-- a channel that something came on
pub record Channel : Type 0 where
  pub number : ℕ
  pub cutter : user.Channel

-- what came on a channel, as its cutter holds it
abbrev pub channel_at : List Channel → ℕ → user.Channel
channel_at channels number = option_map_or (λ (channel : Channel). channel.cutter) (find (λ (channel : Channel). channel.number == number) channels) user.unfed
