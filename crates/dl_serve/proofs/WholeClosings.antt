-- What the links of channels that go on took is all that was put for them, through the closing of a server.
use Rattle.std.proofs.Common.{◌≡◌, ◌+◌, ◌-◌, ℕ, Bool, true, false, List, [], ◌∷◌, ◌++◌, Option, Some, None, refl, sym, ap, subst, ◌∙◌, append-nil, append_assoc}
use Rattle.std.specs.Prelude.{slice_get}
use Rattle.std.specs.List.{AllByRecursion}
use Rattle.dl_bytes.specs.declared.moment.Moment.{Moment}
use Rattle.dl_channel.specs.declared.outcome.ChannelEnd.{ChannelEnd}
use Rattle.dl_events.specs.declared.event.Event.{Event}
use Rattle.dl_events.specs.declared.event.Event.TheVariants as event
use Rattle.dl_model.specs.Journal.{registry_of}
use Rattle.dl_model.specs.Setting.{Setting}
use Rattle.dl_outside.proofs.Staying.{stays_same}
use Rattle.dl_outside.specs.Outside.{Stays}
use Rattle.dl_outside.specs.Told.{LinkTold}
use Rattle.dl_registry.specs.Kept.{owed_change}
use Rattle.dl_rounds.proofs.ByPlace.{set_cases}
use Rattle.dl_rounds.specs.Clients.{Clients}
use Rattle.dl_rounds.specs.Passing.{AreLater, IsOfClients}
use Rattle.dl_rounds.specs.Visits.{ClosesAll}
use Rattle.dl_server.specs.Closing.{IsClosed, closing_scene}
use Rattle.dl_server.specs.State.{State, clients_of}
use Rattle.dl_channels.specs.Rounds.{Scene, Stopped, VisitsEach, Visited, seen_by}
use Rattle.dl_socket.specs.Channels.{open_in}
use Rattle.dl_machine.proofs.NamedSlots.{AreApart}
use Rattle.dl_serve.specs.Levels.{levels_put}
use Rattle.dl_serve.proofs.EmptiedChannels.{EachOpen, ends_led}
use Rattle.dl_serve.proofs.NobodyPuts.{IsNotOf, none_put}
use Rattle.dl_serve.proofs.NotedSteps.{Follows}
use Rattle.dl_serve.proofs.TakenLevels.{levels_same, put_on, silent_puts, stays_so}
use Rattle.dl_serve.proofs.TookSteps.{noted_so}

-- clients send no message of a program
clients_not : (channel : ℕ) (events : List Event) → AllByRecursion IsOfClients events → AllByRecursion (IsNotOf channel) events
clients_not channel [] all = tt
clients_not channel (e ∷ events) all = (by e all.0, clients_not channel events all.1) where
  by : (e : Event) → IsOfClients e → IsNotOf channel e
  by (event.User from msg moment) is = absurd is
  by (event.Claim claim moment) is = is
  by _ is = tt

module _ (Tells : Type 0) (setting : Setting) where
  -- a link that never had to wait took all that was put for its channel
  abbrev pub TookAll : List Event → ℕ → LinkTold → Type 0
  TookAll past place link = link.waits ≡ 0 → Tells → link.taken ≡ Some (levels_put setting (place + 1) past)

  -- so it is of each channel that goes on
  abbrev pub AllWhole : List Event → List LinkTold → List (Option ChannelEnd) → Type 0
  AllWhole past links ends = EachOpen (TookAll past) links ends

  -- where nothing more is put for it
  none_more : (past more : List Event) (place : ℕ) (link link_now : LinkTold) → put_on setting (place + 1) past more ≡ [] → link_now.waits ≡ link.waits → Stays link.taken link_now.taken → TookAll past place link
      → TookAll (past ++ more) place link_now
  none_more past more place link link_now none waits stays took = λ never tells.
      stays_so link.taken link_now.taken (levels_put setting (place + 1) past) stays (took (sym waits ∙ never) tells) ∙ ap Some (sym (levels_same setting (place + 1) past more none))

  -- ---- the channels

  -- at the closing no level is owed, and of each channel that went on all was taken
  record IsClosing (ends : List (Option ChannelEnd)) (past : List Event) (s : Scene) : Type 0 where
    kept : s.part.events ≡ Some past
    follows : Follows setting past s.part.core
    settled : owed_change s.part.core.registry ≡ None
    whole : AllWhole past s.links ends

  module _ (ends : List (Option ChannelEnd)) (moment : Moment) where
    one_closing : (past : List Event) (channel : ℕ) (moved : Bool) (old new : Scene) → Visited (Stopped moment true) channel moved old new → IsClosing ends past old → (more : List Event) × IsClosing ends (past ++ more) new
    one_closing past channel moved old new visited all =
        let stops = visited.visit.stops in
        let quiet = ends_led setting channel moment past true (seen_by visited.link old.part) (seen_by visited.link_now new.part) old.channels new.channels stops all.follows all.settled in
        let more : List Event = quiet.more in (
          more,
          record {
            kept = noted_so old.part.events new.part.events past more all.kept quiet.events;
            follows = quiet.follows;
            settled = quiet.settled;
            whole = λ place link there slot.
                let none : put_on setting (place + 1) past more ≡ [] = silent_puts setting (place + 1) past more quiet.silent in
                set_cases (TookAll (past ++ more) place) old.links (channel - 1) place visited.link visited.link_now link visited.was
                (λ same. none_more past more place visited.link visited.link_now none stops.shut.waits stops.shut.taken (all.whole place visited.link (ap (λ (n : ℕ). slice_get old.links n) same ∙ visited.was) slot))
                (λ apart was. none_more past more place link link none refl (stays_same link.taken) (all.whole place link was slot)) (sym (ap (λ (ls : List LinkTold). slice_get ls place) visited.links) ∙ there);
          },
        )

    each_closing : (channels : List ℕ) (moved : Bool) (old new : Scene) (past : List Event) → VisitsEach (Stopped moment true) channels moved old new → IsClosing ends past old → (more : List Event) × IsClosing ends (past ++ more) new
    each_closing [] moved old new past visits all =
        ([], subst (λ (es : List Event). IsClosing ends es new) (sym (append-nil past)) (subst (IsClosing ends past) (sym visits.1) all))
    each_closing (channel ∷ others) moved old new past visits all =
        let first = one_closing past channel visits.1 old visits.0 visits.4 all in
        let rest = each_closing others visits.2 visits.0 new (past ++ first.0) visits.5 first.1 in
        (first.0 ++ rest.0, subst (λ (es : List Event). IsClosing ends es new) (append_assoc past first.0 rest.0) rest.1)

  -- ---- a server

  -- Behind its channels no application of them is there; so what clients set then is put for none.
  pub closing_whole : {Over : Type 0} → ((old new : Clients) → ClosesAll Over old new → AreLater old new) → (moment : Moment) (old new : State) (past : List Event) (closes : IsClosed Over moment old new)
      → ((events : List Event) → closes.between.events ≡ Some events → (place : ℕ) → AreApart (place + 1) (registry_of setting events).apps)
      → old.events ≡ Some past → Follows setting past old.core → owed_change old.core.registry ≡ None → AllWhole past old.programs old.ends
      → (more : List Event) × (new.events ≡ Some (past ++ more)) × AllWhole (past ++ more) new.programs new.ends
  closing_whole closed moment old new past closes apart kept follows settled whole =
      let programs = closes.programs in
      let between : State = closes.between in
      let first = each_closing old.ends moment (open_in old.channels) false (closing_scene old) (closing_scene between) past programs.stops.0 (record { kept = kept; follows = follows; settled = settled; whole = whole }) in
      let now : List Event = past ++ first.0 in
      let clients = closes.clients in
      let serves = clients.serves in
      let later : AreLater (clients_of between serves.desk) (clients_of new serves.desk_now) = closed (clients_of between serves.desk) (clients_of new serves.desk_now) serves.visits in
      let more : List Event = later.more in
      let all : AllWhole (now ++ more) between.programs old.ends =
      (λ place link there slot. none_more now more place link link (none_put (place + 1) setting now more (apart now first.1.kept place) (clients_not (place + 1) more later.of_clients)) refl (stays_same link.taken)
      (first.1.whole place link there slot)) in
      let same_ends : new.ends ≡ old.ends = ap (λ (s : State). s.ends) clients.rest ∙ ap (λ (s : State). s.ends) programs.rest in
      let same : now ++ more ≡ past ++ (first.0 ++ more) = append_assoc past first.0 more in (
        first.0 ++ more,
        noted_so between.events new.events now more first.1.kept later.events ∙ ap Some same,
        subst (λ (es : List Event). AllWhole es new.programs new.ends) same
            (subst (λ (ls : List LinkTold). AllWhole (now ++ more) ls new.ends) (sym (ap (λ (s : State). s.programs) clients.rest))
            (subst (λ (es : List (Option ChannelEnd)). AllWhole (now ++ more) between.programs es) (sym same_ends) all)),
      )
