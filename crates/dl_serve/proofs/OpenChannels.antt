-- A channel that goes on is open, through the rounds of a server.
use Rattle.std.proofs.Common.{◌≡◌, ◌≢◌, ◌<◌, ◌≤◌, ◌+◌, ◌-◌, ℕ, Bool, false, inl, inr, List, [], ◌∷◌, ◌++◌, length, map, Option, Some, None, is_some, refl, sym, ap, subst, ◌∙◌, arith, length-append}
use Rattle.std.specs.Prelude.{IsSome, slice_get, slice_set}
use Rattle.std.specs.List.{AllByRecursion}
use Rattle.std.specs.Map.{keys_of}
use Rattle.std.proofs.lemmas.Bool.Decides.{eqb_tells}
use Rattle.std.proofs.lemmas.List.{map-append}
use Rattle.dl_bytes.specs.declared.moment.Moment.{Moment}
use Rattle.dl_channel.specs.declared.outcome.ChannelEnd.{ChannelEnd}
use Rattle.dl_outside.specs.Links.{Links}
use Rattle.dl_outside.specs.Told.{LinkTold, NetTold}
use Rattle.dl_server.specs.Accepts.{AcceptsClientIfMay, AcceptsProgramIfMay}
use Rattle.dl_server.specs.Round.{Hears, IsRound, Pumps}
use Rattle.dl_server.specs.State.{State, scene_of, with_want}
use Rattle.dl_server.specs.Steps.{HearsClientsIfMay, PumpsClientsIfMay}
use Rattle.dl_channels.specs.Accepting.{Enters}
use Rattle.dl_channels.specs.Rounds as rounds
use Rattle.dl_channels.specs.Rounds.{Scene, VisitsEach, seen_by}
use Rattle.dl_channels.specs.Visits as visits
use Rattle.dl_channels.specs.declared.accepting.Entry.{Entry}
use Rattle.dl_channels.specs.declared.accepting.Entry.TheVariants as entry
use Rattle.dl_channels.proofs.LeftOpen.{Leaves, heard_leaves, pumped_leaves}
use Rattle.dl_socket.specs.Channels.{Channels, IsOpen, Opens, inbox_of, open_in}
use Rattle.dl_socket.specs.Turns.{ChannelView}
use Rattle.dl_user.specs.Channel as cutter
use Rattle.dl_user.specs.Channel.{unfed}
use Rattle.dl_serve.proofs.EmptiedChannels.{EachOpen}
use Rattle.dl_serve.proofs.OtherEntries.{added_apart, added_some, last_at, set_apart, set_here, set_long, value_here, within}
use Rattle.dl_serve.proofs.HeldInboxes.{OthersHeld, hears_held, keys_added, left_low, low_added, pumps_held}

-- Each channel that came has its link, and the ones that go on are open.
pub record AllOpen (links : List LinkTold) (ends : List (Option ChannelEnd)) (channels : Channels) : Type 0 where
  pub many : channels.opened ≡ length links
  pub low : AllByRecursion (λ channel. 1 ≤ channel) (open_in channels)
  pub each : EachOpen (λ place link. IsOpen (place + 1) channels) links ends

-- ---- one visit

open_still : (channel : ℕ) (old new : Channels) → new ≡ old → IsOpen channel old → IsOpen channel new
open_still channel old new same is = ap (λ (c : Channels). is_some (inbox_of c.inboxes channel)) same ∙ is

heard_open : (channel : ℕ) (moment : Moment) (end end_now : Option ChannelEnd) (before after : ChannelView) (old new : Channels) → visits.Hears channel moment end end_now before after old new → end_now ≡ None
    → (end ≡ None → IsOpen channel old) → IsOpen channel new
heard_open channel moment None end_now before after old new hears none was =
    elim (subst (λ (e : Option ChannelEnd). visits.Hears channel moment None e before after old new) none hears) [
      | inl turned ↦
          let turn = turned.2 in
          ap (λ (c : Channels). is_some (inbox_of c.inboxes channel)) (turned.3.1 ∙ turn.is) ∙ ap is_some (value_here channel old.inboxes turn.inbox_now turn.inbox turn.was)
      | inr full ↦ open_still channel old new full.3 (was refl)
    ]
heard_open channel moment (Some cause) end_now before after old new hears none was = absurd (let bad : Some cause ≡ None = sym hears.0 ∙ none in cc bad)

pumped_open : (channel : ℕ) (moment : Moment) (end end_now : Option ChannelEnd) (before after : ChannelView) (old new : Channels) → visits.Pumps channel moment end end_now before after old new → end_now ≡ None
    → (end ≡ None → IsOpen channel old) → IsOpen channel new
pumped_open channel moment None end_now before after old new pumps none was =
    let goes_on : visits.Pumps channel moment None None before after old new = subst (λ (e : Option ChannelEnd). visits.Pumps channel moment None e before after old new) none pumps in
    ap (λ (c : Channels). is_some (inbox_of c.inboxes channel)) (goes_on.4.1 ∙ goes_on.2.is) ∙ was refl
pumped_open channel moment (Some cause) end_now before after old new pumps none was = absurd (let bad : Some cause ≡ None = sym pumps.0 ∙ none in cc bad)

module _ (channel : ℕ) (links links_now : List LinkTold) (ends ends_now : List (Option ChannelEnd)) (old new : Channels) (link link_now : LinkTold) (end end_now : Option ChannelEnd) (one : 1 ≤ channel)
    (was : slice_get links (channel - 1) ≡ Some link) (links_so : links_now ≡ slice_set links (channel - 1) link_now) (end_was : slice_get ends (channel - 1) ≡ Some end)
    (ends_so : ends_now ≡ slice_set ends (channel - 1) end_now) (leaves : Leaves channel old new) (held : OthersHeld channel old new)
    (its : end_now ≡ None → (end ≡ None → IsOpen channel old) → IsOpen channel new) (all : AllOpen links ends old) where
  back : channel - 1 + 1 ≡ channel
  back = omega (arith, one)

  visited_open : AllOpen links_now ends_now new
  visited_open = record {
    many = leaves.opened ∙ all.many ∙ sym (ap (λ (ls : List LinkTold). length ls) links_so ∙ set_long links (channel - 1) link_now);
    low = left_low channel old new leaves all.low;
    each = λ place now there slot. elim (eqb_tells place (channel - 1)) [
      | inl same ↦
          let at : slice_get ends_now place ≡ Some end_now =
          ap (λ (n : ℕ). slice_get ends_now n) same.1 ∙ ap (λ (es : List (Option ChannelEnd)). slice_get es (channel - 1)) ends_so ∙ set_here ends (channel - 1) end_now end end_was in
          let goes_on : end_now ≡ None = cc (sym at ∙ slot) in
          let number : channel ≡ place + 1 = omega (arith, same.1, one) in
          subst (λ (n : ℕ). IsOpen n new) number (its goes_on (λ none. subst (λ (n : ℕ). IsOpen n old) back (all.each (channel - 1) link was (end_was ∙ ap Some none))))
      | inr apart ↦
          let differs : place + 1 ≢ channel = (λ same. apart.1 (omega (arith, same))) in
          let before : slice_get links place ≡ Some now = sym (ap (λ (ls : List LinkTold). slice_get ls place) links_so ∙ set_apart links (channel - 1) place link_now apart.1) ∙ there in
          let went_on : slice_get ends place ≡ Some None = sym (ap (λ (es : List (Option ChannelEnd)). slice_get es place) ends_so ∙ set_apart ends (channel - 1) place end_now apart.1) ∙ slot in
          ap is_some (held (place + 1) differs) ∙ all.each place now before went_on
    ];
  }

-- ---- visits one after the other

abbrev OpenAt : Scene → Type 0
OpenAt s = AllOpen s.links s.ends s.channels

module _ (moment : Moment) where
  heard_each : (channels : List ℕ) (moved : Bool) (old new : Scene) → AllByRecursion (λ channel. 1 ≤ channel) channels → VisitsEach (rounds.Heard moment) channels moved old new → OpenAt old → OpenAt new
  heard_each [] moved old new low same all = subst OpenAt (sym same.1) all
  heard_each (channel ∷ others) moved old new low visited all =
      let one = visited.4 in
      let v = one.visit in
      let between : Scene = visited.0 in
      let before : ChannelView = seen_by one.link old.part in
      let now : ChannelView = seen_by one.link_now between.part in
      heard_each others visited.2 between new low.1 visited.5
      (visited_open channel old.links between.links old.ends between.ends old.channels between.channels one.link one.link_now v.end v.end_now low.0 one.was one.links v.was v.is
      (heard_leaves channel moment v.end v.end_now before now old.channels between.channels v.hears) (hears_held channel moment v.end v.end_now before now old.channels between.channels v.hears)
      (heard_open channel moment v.end v.end_now before now old.channels between.channels v.hears) all)

  sent_each : (channels : List ℕ) (moved : Bool) (old new : Scene) → AllByRecursion (λ channel. 1 ≤ channel) channels → VisitsEach (rounds.Sent moment) channels moved old new → OpenAt old → OpenAt new
  sent_each [] moved old new low same all = subst OpenAt (sym same.1) all
  sent_each (channel ∷ others) moved old new low visited all =
      let one = visited.4 in
      let v = one.visit in
      let between : Scene = visited.0 in
      let before : ChannelView = seen_by one.link old.part in
      let now : ChannelView = seen_by one.link_now between.part in
      sent_each others visited.2 between new low.1 visited.5
      (visited_open channel old.links between.links old.ends between.ends old.channels between.channels one.link one.link_now v.end v.end_now low.0 one.was one.links v.was v.is
      (pumped_leaves channel moment v.end v.end_now before now old.channels between.channels v.pumps) (pumps_held channel moment v.end v.end_now before now old.channels between.channels v.pumps)
      (pumped_open channel moment v.end v.end_now before now old.channels between.channels v.pumps) all)

-- ---- a server

abbrev pub OpenIn : State → Type 0
OpenIn s = AllOpen s.programs s.ends s.channels

stays_open : (old new : State) → new.programs ≡ old.programs → new.ends ≡ old.ends → new.channels.opened ≡ old.channels.opened → new.channels.inboxes ≡ old.channels.inboxes → OpenIn old → OpenIn new
stays_open old new programs ends opened inboxes all = record {
  many = opened ∙ all.many ∙ ap (λ (ls : List LinkTold). length ls) (sym programs);
  low = subst (AllByRecursion (λ channel. 1 ≤ channel)) (sym (ap (λ (is : List (ℕ × cutter.Channel)). keys_of is) inboxes)) all.low;
  each = λ place link there slot.
      ap (λ (is : List (ℕ × cutter.Channel)). is_some (inbox_of is (place + 1))) inboxes
      ∙ all.each place link (ap (λ (ls : List LinkTold). slice_get ls place) (sym programs) ∙ there) (ap (λ (es : List (Option ChannelEnd)). slice_get es place) (sym ends) ∙ slot);
}

still_open : (old new : State) → new.programs ≡ old.programs → new.ends ≡ old.ends → new.channels ≡ old.channels → OpenIn old → OpenIn new
still_open old new programs ends channels all = stays_open old new programs ends (ap (λ (c : Channels). c.opened) channels) (ap (λ (c : Channels). c.inboxes) channels) all

same_open : (old new : State) → new ≡ old → OpenIn old → OpenIn new
same_open old new same all = subst OpenIn (sym same) all

wants_open : (old new : State) → new ≡ with_want old → OpenIn old → OpenIn new
wants_open old new want all = still_open old new (ap (λ (s : State). s.programs) want) (ap (λ (s : State). s.ends) want) (ap (λ (s : State). s.channels) want) all

-- one more came
one_more : (links : List LinkTold) (ends : List (Option ChannelEnd)) (old new : Channels) (number : ℕ) (link : LinkTold) → Opens number old new → AllOpen links ends old → AllOpen (links ++ link ∷ []) ends new
one_more links ends old new number link opens all =
    let next : number ≡ length links + 1 = omega (arith, opens.2, all.many) in
    let inboxes : new.inboxes ≡ old.inboxes ++ (number, unfed) ∷ [] = ap (λ (c : Channels). c.inboxes) opens.3 in record {
      many = ap (λ (c : Channels). c.opened) opens.3 ∙ next ∙ sym (length-append links (link ∷ []));
      low = subst (AllByRecursion (λ channel. 1 ≤ channel)) (sym (ap (λ (is : List (ℕ × cutter.Channel)). keys_of is) inboxes ∙ keys_added old.inboxes number unfed))
          (low_added (open_in old) number (omega (arith, next)) all.low);
      each = λ place now there slot.
          ap (λ (is : List (ℕ × cutter.Channel)). is_some (inbox_of is (place + 1))) inboxes ∙ elim (last_at links link now place there) [
            | inl before ↦
                let below : place < length links = within links place now before in
                ap is_some (added_apart number (place + 1) old.inboxes unfed (λ same. omega (arith, same, next, below))) ∙ all.each place now before slot
            | inr last ↦
                let number_is : number ≡ place + 1 = omega (arith, next, last.0) in
                subst (λ (n : ℕ). IsSome (inbox_of (old.inboxes ++ (number, unfed) ∷ []) n)) number_is (added_some number old.inboxes unfed)
          ];
    }

module _ {L : Type 0} (told : L → LinkTold) where
  client_came : (came : Bool) (net net_now : NetTold L) (old new : State) → AcceptsClientIfMay told came net net_now old new → OpenIn old → OpenIn new
  client_came came net net_now old new (inl none) all = same_open old new none.3 all
  client_came came net net_now old new (inr (inl want)) all = wants_open old new want.3 all
  client_came came net net_now old new (inr (inr accepts)) all =
      let rest = accepts.1.2.rest in still_open old new (ap (λ (s : State). s.programs) rest) (ap (λ (s : State). s.ends) rest) (ap (λ (s : State). s.channels) rest) all

  entered : (came : Entry) (net net_now : NetTold L) (old new : State) (links links_now : Links L) → old.programs ≡ map told links.links → new.programs ≡ map told links_now.links
      → Enters told came net net_now links links_now old.dropped new.dropped old.channels new.channels → new.ends ≡ old.ends → OpenIn old → OpenIn new
  entered (entry.Channel number) net net_now old new links links_now were are enters ends all =
      let link = enters.0 in
      let added : new.programs ≡ old.programs ++ told link ∷ [] =
      are ∙ ap (λ (ls : Links L). map told ls.links) enters.2 ∙ map-append told links.links (link ∷ []) ∙ ap (λ (ls : List LinkTold). ls ++ told link ∷ []) (sym were) in
      subst (λ (ls : List LinkTold). AllOpen ls new.ends new.channels) (sym added)
      (subst (λ (es : List (Option ChannelEnd)). AllOpen (old.programs ++ told link ∷ []) es new.channels) (sym ends) (one_more old.programs old.ends old.channels new.channels number (told link) enters.4 all))
  entered entry.Dropped net net_now old new links links_now were are enters ends all = still_open old new (are ∙ ap (λ (ls : Links L). map told ls.links) enters.2 ∙ sym were) ends enters.4 all
  entered entry.Unopened net net_now old new links links_now were are enters ends all = still_open old new (are ∙ ap (λ (ls : Links L). map told ls.links) enters.2 ∙ sym were) ends enters.4 all
  entered entry.Nobody net net_now old new links links_now were are enters ends all = still_open old new (are ∙ ap (λ (ls : Links L). map told ls.links) enters.3 ∙ sym were) ends enters.5 all
  entered entry.Failed net net_now old new links links_now were are enters ends all = still_open old new (are ∙ ap (λ (ls : Links L). map told ls.links) enters.2 ∙ sym were) ends enters.4 all
  entered entry.OutOfMemory net net_now old new links links_now were are enters ends all = still_open old new (are ∙ ap (λ (ls : Links L). map told ls.links) enters.2 ∙ sym were) ends enters.4 all

  program_came : (came : Bool) (users users_now : NetTold L) (old new : State) → AcceptsProgramIfMay told came users users_now old new → OpenIn old → OpenIn new
  program_came came users users_now old new (inl none) all = same_open old new none.3 all
  program_came came users users_now old new (inr accepts) all =
      let a = accepts.3 in entered accepts.1 users users_now old new a.links a.links_now a.were a.are a.enters (ap (λ (s : State). s.ends) a.rest) all

  clients_heard : (moved : Bool) (old new : State) → HearsClientsIfMay moved old new → OpenIn old → OpenIn new
  clients_heard moved old new (inl nobody) all = same_open old new nobody.2 all
  clients_heard moved old new (inr (inl want)) all = wants_open old new want.1 all
  clients_heard moved old new (inr (inr hears)) all =
      let is = hears.serves.is in
      stays_open old new (ap (λ (s : State). s.programs) hears.rest) (ap (λ (s : State). s.ends) hears.rest) (ap (λ (c : Channels). c.opened) is) (ap (λ (c : Channels). c.inboxes) is) all

  clients_pumped : (moved : Bool) (old new : State) → PumpsClientsIfMay moved old new → OpenIn old → OpenIn new
  clients_pumped moved old new (inl want) all = wants_open old new want.1 all
  clients_pumped moved old new (inr pumps) all =
      still_open old new (ap (λ (s : State). s.programs) pumps.rest) (ap (λ (s : State). s.ends) pumps.rest) (ap (λ (s : State). s.channels) pumps.rest) all

  all_hear : (old new : State) → Hears old new → OpenIn old → OpenIn new
  all_hear old new hears all =
      let served = clients_heard hears.asked old hears.served hears.clients all in
      heard_each hears.moment (open_in hears.served.channels) hears.moved (scene_of hears.served) (scene_of new) served.low hears.programs.hears served

  all_pump : (old new : State) → Pumps old new → OpenIn old → OpenIn new
  all_pump old new pumps all =
      let sent = clients_pumped pumps.moved old pumps.sent pumps.clients all in
      let pumped = sent_each pumps.moment (open_in pumps.sent.channels) false (scene_of pumps.sent) (scene_of pumps.pumped) sent.low pumps.programs.pumps sent in
      let rest = pumps.parts.rest in
      still_open pumps.pumped new (ap (λ (s : State). s.programs) rest) (ap (λ (s : State). s.ends) rest) (ap (λ (s : State). s.channels) rest) pumped

  -- once a client was accepted
  pub came_open : (net net_now users users_now : NetTold L) (old new : State) (round : IsRound told net net_now users users_now old new) → OpenIn old → OpenIn round.accepts.accepted
  came_open net net_now users users_now old new round all = client_came round.accepts.came net net_now old round.accepts.accepted round.accepts.accepts all

  -- before its channels are listened to
  pub served_open : (net net_now users users_now : NetTold L) (old new : State) (round : IsRound told net net_now users users_now old new) → OpenIn old → OpenIn round.hears.served
  served_open net net_now users users_now old new round all =
      let one = client_came round.accepts.came net net_now old round.accepts.accepted round.accepts.accepts all in
      let two = program_came round.accepts.entered users users_now round.accepts.accepted round.accepted round.accepts.enters one in
      clients_heard round.hears.asked round.accepted round.hears.served round.hears.clients two

  -- before its channels are pumped
  pub sent_open : (net net_now users users_now : NetTold L) (old new : State) (round : IsRound told net net_now users users_now old new) → OpenIn old → OpenIn round.pumps.sent
  sent_open net net_now users users_now old new round all =
      let one = client_came round.accepts.came net net_now old round.accepts.accepted round.accepts.accepts all in
      let two = program_came round.accepts.entered users users_now round.accepts.accepted round.accepted round.accepts.enters one in
      clients_pumped round.pumps.moved round.heard round.pumps.sent round.pumps.clients (all_hear round.accepted round.heard round.hears two)

  -- a round
  pub round_open : (net net_now users users_now : NetTold L) (old new : State) → IsRound told net net_now users users_now old new → OpenIn old → OpenIn new
  round_open net net_now users users_now old new round all =
      let one = client_came round.accepts.came net net_now old round.accepts.accepted round.accepts.accepts all in
      let two = program_came round.accepts.entered users users_now round.accepts.accepted round.accepted round.accepts.enters one in
      all_pump round.heard new round.pumps (all_hear round.accepted round.heard round.hears two)

-- before a channel came
pub none_open : (links : List LinkTold) (ends : List (Option ChannelEnd)) (channels : Channels) → links ≡ [] → channels.opened ≡ 0 → channels.inboxes ≡ [] → AllOpen links ends channels
none_open links ends channels no_links opened no_inboxes = record {
  many = opened ∙ ap (λ (ls : List LinkTold). length ls) (sym no_links);
  low = subst (AllByRecursion (λ channel. 1 ≤ channel)) (sym (ap (λ (is : List (ℕ × cutter.Channel)). keys_of is) no_inboxes)) tt;
  each = λ place link there slot. absurd (let bad : slice_get [] place ≡ Some link = subst (λ (ls : List LinkTold). slice_get ls place ≡ Some link) no_links there in cc bad);
}
