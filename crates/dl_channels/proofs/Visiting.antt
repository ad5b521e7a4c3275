-- Visits to channels, one after the other.
use Rattle.std.proofs.Common.{◌≡◌, ◌<◌, ◌^◌, ℕ, ◌-◌, ◌||◌, Bool, true, false, List, [], ◌∷◌, ◌++◌, length, Option, Some, slice_get, refl, sym, ap, ◌∙◌, arith}
use Rattle.std.specs.Prelude.{option_map, slice_set}
use Rattle.std.specs.Map.{keys_of}
use Rattle.std.proofs.lemmas.List.{length-map}
use Rattle.std.proofs.lemmas.Option.{slice_get-map, slice_get_within}
use Rattle.dl_admission.specs.Part.{part}
use Rattle.dl_channel.specs.declared.outcome.ChannelEnd.{ChannelEnd}
use Rattle.dl_core.specs.State.{Core}
use Rattle.dl_events.specs.declared.event.Event.{Event}
use Rattle.dl_outside.specs.Links.{Links}
use Rattle.dl_outside.specs.Told.{FolderTold, LinkTold}
use Rattle.dl_rounds.proofs.ByPlace.{set_length, set_map}
use Rattle.dl_socket.specs.Channels.{Channels, open_in}
use Rattle.dl_socket.specs.Turns.{ChannelView}
use Rattle.dl_channels.specs.Accepting.{AreLinked}
use Rattle.dl_channels.specs.Rounds.{Scene, Visited, VisitsEach, scene, seen_by}
use Rattle.dl_channels.proofs.LeftOpen.{Leaves}

module _ {L J F : Type 0} (told : L → LinkTold) (events : J → Option (List Event)) (folder_told : F → FolderTold)
    (Visit : ℕ → Bool → List (Option ChannelEnd) → List (Option ChannelEnd) → ChannelView → ChannelView → Channels → Channels → Type 0) where
  -- one visit, where links are kept in a list
  pub visited_one : (channel : ℕ) (here : Bool) (links : Links L) (link link_now : L) (ends ends_now : List (Option ChannelEnd)) (channels channels_now : Channels)
      (core core_now : Core) (journal journal_now : J) (folder folder_now : F) → slice_get links.links (channel - 1) ≡ Some link
      → Visit channel here ends ends_now (seen_by (told link) (part core (events journal) (folder_told folder))) (seen_by (told link_now) (part core_now (events journal_now) (folder_told folder_now))) channels channels_now
      → Visited Visit channel here (scene told events folder_told links ends channels core journal folder)
      (scene told events folder_told (record { links = slice_set links.links (channel - 1) link_now; room = links.room }) ends_now channels_now core_now journal_now folder_now)
  visited_one channel here links link link_now ends ends_now channels channels_now core core_now journal journal_now folder folder_now there visit = record {
    link = told link;
    link_now = told link_now;
    was = slice_get-map told links.links (channel - 1) ∙ ap (option_map told) there;
    visit = visit;
    links = set_map told links.links (channel - 1) link_now;
  }

  -- and the others behind it
  pub visited_next : (channel : ℕ) (others : List ℕ) (here later : Bool) (links : Links L) (link link_now : L) (ends ends_now : List (Option ChannelEnd)) (channels channels_now : Channels)
      (core core_now : Core) (journal journal_now : J) (folder folder_now : F) (new : Scene) → slice_get links.links (channel - 1) ≡ Some link
      → Visit channel here ends ends_now (seen_by (told link) (part core (events journal) (folder_told folder))) (seen_by (told link_now) (part core_now (events journal_now) (folder_told folder_now))) channels channels_now
      → VisitsEach Visit others later (scene told events folder_told (record { links = slice_set links.links (channel - 1) link_now; room = links.room }) ends_now channels_now core_now journal_now folder_now) new
      → VisitsEach Visit (channel ∷ others) (here || later) (scene told events folder_told links ends channels core journal folder) new
  visited_next channel others here later links link link_now ends ends_now channels channels_now core core_now journal journal_now folder folder_now new there visit rest = (
    scene told events folder_told (record { links = slice_set links.links (channel - 1) link_now; room = links.room }) ends_now channels_now core_now journal_now folder_now,
    here,
    later,
    refl,
    visited_one channel here links link link_now ends ends_now channels channels_now core core_now journal journal_now folder folder_now there visit,
    rest,
  )

-- each channel has a link all the same
pub linked_again : {L : Type 0} (channel place : ℕ) (links : Links L) (link_now : L) (old new : Channels) → AreLinked links old → Leaves channel old new
    → AreLinked (record { links = slice_set links.links place link_now; room = links.room }) new
linked_again channel place links link_now old new linked left = record {
  many = left.opened ∙ linked.many ∙ sym (set_length links.links place link_now);
  place = omega (arith, linked.place, left.in_all);
}

-- where a channel stands, is no more than may be
pub low_place : (channels : Channels) (place channel : ℕ) → length channels.inboxes < 2 ^ 63 → slice_get (open_in channels) place ≡ Some channel → place < 2 ^ 63
low_place channels place channel few there = omega (arith, few, slice_get_within (open_in channels) place channel there, length-map channels.inboxes (λ e. e.0))
