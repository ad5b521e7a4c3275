-- What a round over all channels comes to.
use Rattle.std.specs.Prelude.{◌≡◌, ◌==◌, ◌||◌, ◌+◌, ◌-◌, ◌++◌, ℕ, nat_eq, Bool, true, false, if◌then◌else◌, List, [], ◌∷◌, map, slice_get, slice_set, Option, Some, is_some}
use Rattle.std.specs.Option.{option_map_or}
use Rattle.dl_admission.specs.Part.{Part, part}
use Rattle.dl_bytes.specs.declared.moment.Moment.{Moment}
use Rattle.dl_channel.specs.declared.outcome.ChannelEnd.{ChannelEnd}
use Rattle.dl_core.specs.State.{Core}
use Rattle.dl_events.specs.declared.event.Event.{Event}
use Rattle.dl_outside.specs.Links.{Links}
use Rattle.dl_outside.specs.Told.{FolderTold, LinkTold}
use Rattle.dl_socket.specs.Channels.{Channels, open_in}
use Rattle.dl_socket.specs.Turns.{ChannelView, sight}
use Rattle.dl_channels.specs.Visits.{Ends, Hears, Pumps}

-- What a round over channels sees and changes: what their links tell, and why each ends, by the channels' numbers from 1; the channels; and the core,
-- the events and the folder.
pub record Scene : Type 0 where
  pub links : List LinkTold
  pub ends : List (Option ChannelEnd)
  pub channels : Channels
  pub part : Part

-- the scene of links, ends, channels, a core, a journal and a folder, where these are the words for what they tell
abbrev pub scene : {L J F : Type 0} → (L → LinkTold) → (J → Option (List Event)) → (F → FolderTold) → Links L → List (Option ChannelEnd) → Channels → Core → J → F → Scene
scene link_told events folder_told links ends channels core journal folder =
    record { links = map link_told links.links; ends = ends; channels = channels; part = part core (events journal) (folder_told folder) }

-- what a visit to a channel with this link sees
abbrev pub seen_by : LinkTold → Part → ChannelView
seen_by link part = sight link part.core part.events part.folder

-- A channel was visited: nothing has changed but its link, the ends, the channels and the daemon's side as the visit left them.
pub record Visited (Visit : ℕ → Bool → List (Option ChannelEnd) → List (Option ChannelEnd) → ChannelView → ChannelView → Channels → Channels → Type 0)
    (channel : ℕ) (moved : Bool) (old new : Scene) : Type 0 where
  pub link : LinkTold
  pub link_now : LinkTold
  pub was : slice_get old.links (channel - 1) ≡ Some link
  pub visit : Visit channel moved old.ends new.ends (seen_by link old.part) (seen_by link_now new.part) old.channels new.channels
  pub links : new.links ≡ slice_set old.links (channel - 1) link_now

-- These channels were visited, one after the other. Something moved where it did in one of the visits.
abbrev pub VisitsEach : (ℕ → Bool → List (Option ChannelEnd) → List (Option ChannelEnd) → ChannelView → ChannelView → Channels → Channels → Type 0)
    → List ℕ → Bool → Scene → Scene → Type 0
VisitsEach Visit [] moved old new = (moved ≡ false) × (new ≡ old)
VisitsEach Visit (channel ∷ others) moved old new =
    (between : Scene) × (here : Bool) × (later : Bool) × (moved ≡ (here || later))
    × Visited Visit channel here old between × VisitsEach Visit others later between new

-- ---- the visits

-- A channel was listened to, and ends where there is a cause. Something moved where it ends, or its link did not say that nothing had come.
pub record Heard (moment : Moment) (channel : ℕ) (moved : Bool) (ends ends_now : List (Option ChannelEnd)) (before after : ChannelView) (old new : Channels) : Type 0 where
  pub end : Option ChannelEnd
  pub end_now : Option ChannelEnd
  pub was : slice_get ends (channel - 1) ≡ Some end
  pub is : ends_now ≡ slice_set ends (channel - 1) end_now
  pub hears : Hears channel moment end end_now before after old new
  pub moves : moved ≡ (is_some end_now || (after.link.idles == before.link.idles))

-- A channel was sent what waits for it, and ends where there is a cause.
pub record Sent (moment : Moment) (channel : ℕ) (moved : Bool) (ends ends_now : List (Option ChannelEnd)) (before after : ChannelView) (old new : Channels) : Type 0 where
  pub end : Option ChannelEnd
  pub end_now : Option ChannelEnd
  pub was : slice_get ends (channel - 1) ≡ Some end
  pub is : ends_now ≡ slice_set ends (channel - 1) end_now
  pub pumps : Pumps channel moment end end_now before after old new
  pub moves : moved ≡ false

-- A channel was ended as the daemon stops, without a cause of its own; or its close has begun.
pub record Stopped (moment : Moment) (closed : Bool) (channel : ℕ) (moved : Bool) (ends ends_now : List (Option ChannelEnd)) (before after : ChannelView)
    (old new : Channels) : Type 0 where
  pub stops : Ends channel moment closed before after old new
  pub ends_so : ends_now ≡ ends
  pub moves : moved ≡ false

-- ---- all channels that were open, in the order in which they came

-- each was listened to
abbrev pub HearsAll : Moment → Bool → Scene → Scene → Type 0
HearsAll moment moved old new = VisitsEach (Heard moment) (open_in old.channels) moved old new

-- each was sent what waits for it
abbrev pub PumpsAll : Moment → Scene → Scene → Type 0
PumpsAll moment old new = VisitsEach (Sent moment) (open_in old.channels) false old new

-- each was ended, and none is open
abbrev pub StopsAll : Moment → Scene → Scene → Type 0
StopsAll moment old new = VisitsEach (Stopped moment true) (open_in old.channels) false old new × (open_in new.channels ≡ [])

-- The first ones were ended, and memory was wanting for the next one, which has begun to close. The others stand.
pub record StopsSome (moment : Moment) (old new : Scene) : Type 0 where
  pub done : List ℕ
  pub channel : ℕ
  pub others : List ℕ
  pub all : open_in old.channels ≡ done ++ channel ∷ others
  pub between : Scene
  pub stops : VisitsEach (Stopped moment true) done false old between
  pub begins : Visited (Stopped moment false) channel false between new

-- ---- inner

-- whether a channel is at this place of those that are open
abbrev pub is_at : List ℕ → ℕ → ℕ → Bool
is_at numbers place channel = option_map_or (λ other. nat_eq other channel) (slice_get numbers place) false

-- where the next one stands behind a visit to the channel that was at a place
abbrev pub place_behind : List ℕ → ℕ → ℕ → ℕ
place_behind numbers place channel = if is_at numbers place channel then place + 1 else place
