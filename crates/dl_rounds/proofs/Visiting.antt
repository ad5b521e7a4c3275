-- Visits, one after the other.
use Rattle.std.proofs.Common.{◌≡◌, ℕ, ◌-◌, Option, Bool, true, false, List, [], ◌∷◌, Some, None, refl, ap, subst, ◌∙◌}
use Rattle.std.specs.Prelude.{◌||◌, option_map, slice_get, slice_set}
use Rattle.std.proofs.lemmas.Option.{slice_get-map}
use Rattle.dl_events.specs.declared.event.Event.{Event}
use Rattle.dl_outside.specs.Links.{Links}
use Rattle.dl_outside.specs.Told.{FolderTold, LinkTold}
use Rattle.dl_desk.specs.Told.{ControlTold}
use Rattle.dl_hub.specs.State.{Hub, IsNextOpen}
use Rattle.dl_core.specs.State.{Core}
use Rattle.dl_rounds.specs.declared.listener.Listener.{Listener}
use Rattle.dl_rounds.specs.Clients.{Client, Clients, HaveVisited, IsClient, Visits, seen, with_client}
use Rattle.dl_rounds.specs.Rounds.{seen as all_seen}
use Rattle.dl_rounds.proofs.ByPlace.{set_map}
use Rattle.dl_lemmas.proofs.Bools.{or_false}

pub visited_none : (Visit : ℕ → Bool → Client → Client → Type 0) (last : ℕ) (clients : Clients) → IsNextOpen clients.side.core.hub last None → HaveVisited Visit last false clients clients
visited_none Visit last clients none = ([], (none, refl, refl))

pub visited_one : (Visit : ℕ → Bool → Client → Client → Type 0) (last number : ℕ) (here later : Bool) (old between new : Clients) (was now : Client)
    → IsNextOpen old.side.core.hub last (Some number) → IsClient number old was → Visit number here was now → between ≡ with_client number now old → HaveVisited Visit number later between new
    → HaveVisited Visit last (here || later) old new
visited_one Visit last number here later old between new was now next is visit same rest =
    let behind = subst (λ (c : Clients). Visits Visit number rest.0 later c new) same rest.1 in
    (number ∷ rest.0, (next, was, is, now, here, visit, later, refl, behind))

pub moved_or : (a b c : Bool) → ((a || b) || c) ≡ (a || (b || c))
moved_or true b c = refl
moved_or false b c = refl

-- the next visit, where links and listeners are kept in lists
pub visited_next : {L D J F : Type 0} (told : L → LinkTold) (desk_told : D → ControlTold) (events : J → Option (List Event)) (folder_told : F → FolderTold)
    (Visit : ℕ → Bool → Client → Client → Type 0) (last number : ℕ) (here later : Bool) (links : Links L) (link link_now : L) (listeners : List Listener) (listener listener_now : Listener)
    (core core_now : Core) (desk desk_now : D) (journal journal_now : J) (folder folder_now : F) (new : Clients)
    → IsNextOpen core.hub last (Some number) → slice_get links.links (number - 1) ≡ Some link → slice_get listeners (number - 1) ≡ Some listener
    → Visit number here (seen told desk_told events folder_told link listener core desk journal folder) (seen told desk_told events folder_told link_now listener_now core_now desk_now journal_now folder_now)
    → HaveVisited Visit number later
    (all_seen told desk_told events folder_told (record { links = slice_set links.links (number - 1) link_now; room = links.room }) (slice_set listeners (number - 1) listener_now) core_now desk_now journal_now folder_now) new
    → HaveVisited Visit last (here || later) (all_seen told desk_told events folder_told links listeners core desk journal folder) new
visited_next told desk_told events folder_told Visit last number here later links link link_now listeners listener listener_now core core_now desk desk_now journal journal_now folder folder_now new next at ear visit rest =
    let old : Clients = all_seen told desk_told events folder_told links listeners core desk journal folder in
    let was : Client = seen told desk_told events folder_told link listener core desk journal folder in
    let now : Client = seen told desk_told events folder_told link_now listener_now core_now desk_now journal_now folder_now in
    let between : Clients = all_seen told desk_told events folder_told (record { links = slice_set links.links (number - 1) link_now; room = links.room }) (slice_set listeners (number - 1) listener_now) core_now desk_now journal_now folder_now in
    let is : IsClient number old was = record { link = slice_get-map told links.links (number - 1) ∙ ap (option_map told) at; listener = ear; side = refl } in
    let same : between ≡ with_client number now old =
    ap (λ (ls : List LinkTold). record { links = ls; listeners = slice_set listeners (number - 1) listener_now; side = now.side }) (set_map told links.links (number - 1) link_now) in
    visited_one Visit last number here later old between new was now next is visit same rest
