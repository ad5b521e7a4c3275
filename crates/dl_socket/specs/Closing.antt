-- What the end of a channel comes to.
use Rattle.std.specs.Prelude.{◌≡◌, ◌==◌, ℕ, List, [], ◌∷◌, filter, length, Some, None}
use Rattle.dl_bytes.specs.declared.moment.Moment.{Moment}
use Rattle.dl_bytes.specs.declared.user.UserMsg.TheVariants.{UnregisterApp}
use Rattle.dl_channel.specs.State.{Outbox}
use Rattle.dl_channel_turns.specs.Messages.{ServesOne}
use Rattle.dl_channel_turns.specs.State.{Side, without}
use Rattle.dl_model.specs.Registry.{App, Registry}
use Rattle.dl_registry.specs.Kept.{first_app}
use Rattle.dl_socket.specs.Channels.{Channels, without_inbox}

-- how many applications of a channel are there
abbrev pub apps_of : Registry → ℕ → ℕ
apps_of registry channel = length (filter (λ (entry : List ℕ × App). entry.1.channel == channel) registry.apps)

-- Applications of a channel were unregistered, with pid 0: each is the first one that is there when its turn comes.
abbrev pub UnregistersEach : ℕ → Moment → List (List ℕ) → Side → Side → Type 0
UnregistersEach channel moment [] old new = new ≡ old
UnregistersEach channel moment (apid ∷ apids) old new =
    (first_app old.core.registry.registry channel ≡ Some apid)
    × (between : Side) × ServesOne channel moment (UnregisterApp apid 0) old between × UnregistersEach channel moment apids between new

abbrev pub HasUnregistered : ℕ → Moment → Side → Side → Type 0
HasUnregistered channel moment old new = (apids : List (List ℕ)) × UnregistersEach channel moment apids old new

-- All applications of a channel were unregistered, and then it ended: what waited for it is gone, and what it sent that is no message.
pub record HasClosed (channel : ℕ) (moment : Moment) (old new : Side) (channels channels_now : Channels) : Type 0 where
  pub outboxes : List (ℕ × Outbox)
  pub unregistered : HasUnregistered channel moment old (record new { outboxes = outboxes })
  pub none_left : first_app new.core.registry.registry channel ≡ None
  pub is : channels_now ≡ record channels { outboxes = without channel outboxes; inboxes = without_inbox channel channels.inboxes }

-- The first applications of a channel were unregistered, and it stays open.
pub record HasBegunToClose (channel : ℕ) (moment : Moment) (old new : Side) (channels channels_now : Channels) : Type 0 where
  pub unregistered : HasUnregistered channel moment old new
  pub is : channels_now ≡ record channels { outboxes = new.outboxes }
