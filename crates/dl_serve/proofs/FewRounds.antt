-- How few frames are admitted in the rounds of a server, and so who was handed out.
use Rattle.std.proofs.Common.{◌≡◌, ◌<◌, ◌≤◌, ◌+◌, ◌*◌, ℕ, zero, suc, Bool, false, inl, inr, List, [], ◌∷◌, ◌++◌, length, map, replicate, Option, Some, sym, ap, subst, ◌∙◌, arith, slice_get, length-append, append-nil, true}
use Rattle.std.specs.Prelude.{IsSomeAnd}
use Rattle.std.proofs.lemmas.List.{length-map, length-replicate, map-append}
use Rattle.dl_channel.specs.declared.outcome.ChannelEnd.{ChannelEnd}
use Rattle.dl_core.specs.State.{Core}
use Rattle.dl_events.specs.Journal as notes
use Rattle.dl_events.specs.declared.event.Event.{Event}
use Rattle.dl_events.specs.declared.event.Event.TheVariants as event
use Rattle.dl_loop.proofs.Visited.{heard_admits_none, pumped_admits_none}
use Rattle.dl_outside.specs.Links.{Links}
use Rattle.dl_outside.specs.Told.{LinkTold, NetTold}
use Rattle.dl_rounds.specs.Arrivals.{ConnectsAs}
use Rattle.dl_rounds.specs.Clients.{Clients, VisitsAll}
use Rattle.dl_rounds.specs.Passing.{AreLater}
use Rattle.dl_rounds.specs.Ready.{fresh_listener}
use Rattle.dl_rounds.specs.Visits.{HearsAll, Pumped}
use Rattle.dl_rounds.specs.declared.accepting.Arrival.{Arrival}
use Rattle.dl_rounds.specs.declared.accepting.Arrival.TheVariants as arrival
use Rattle.dl_rounds.specs.declared.listener.Listener.{Listener}
use Rattle.dl_server.specs.Accepts.{AcceptsClientIfMay, AcceptsProgramIfMay}
use Rattle.dl_server.specs.Round.{IsRound}
use Rattle.dl_server.specs.State.{State, clients_of, scene_of, with_want}
use Rattle.dl_server.specs.Steps.{HearsClientsIfMay, PumpsClientsIfMay}
use Rattle.dl_server.proofs.HeldRounds.{no_desk}
use Rattle.dl_channels.specs.Accepting.{Enters}
use Rattle.dl_channels.specs.Rounds.{Heard, Sent}
use Rattle.dl_channels.specs.declared.accepting.Entry.{Entry}
use Rattle.dl_channels.specs.declared.accepting.Entry.TheVariants as entry
use Rattle.dl_socket.specs.Channels.{Channels, Opens, channel_limit, inbox_of, open_in}
use Rattle.dl_user.specs.Channel as cutter
use Rattle.dl_user.specs.Channel.{unfed}
use Rattle.dl_server.specs.State.{seen}
use Rattle.dl_events.specs.Journal.{Journaled}
use Rattle.dl_serve.specs.declared.beginning.Begun.{Begun}
use Rattle.dl_serve.specs.declared.closed.Closed.{Closed}
use Rattle.dl_serve.specs.WhoWaited.{HasAcceptedInOrder, NetsStand}
use Rattle.dl_serve.specs.Open.{setting}
use Rattle.dl_serve.specs.Program.{HasOpened, IsServed}
use Rattle.dl_serve.specs.Rounds.{AreRounds, HasRoom, event_limit, kept}
use Rattle.dl_serve.specs.Service.{Standing, frames_in}
use Rattle.dl_serve.specs.Told.{Told}
use Rattle.dl_serve.proofs.HandedServices.{handed_out}
use Rattle.dl_serve.proofs.FewFrames.{NoMessage, nothing_begins}
use Rattle.dl_serve.proofs.HeldInboxes.{adds_so}
use Rattle.dl_serve.proofs.LastingScenes.{each_lasts, heard_one, sent_one}
use Rattle.dl_serve.proofs.OpenChannels.{OpenIn, came_open, none_open, round_open, sent_open, served_open}
use Rattle.dl_serve.proofs.OtherEntries.{added_apart, added_here, last_at, within}
use Rattle.dl_serve.proofs.QuietPrograms.{Quiet, heard_quiet, sent_quiet}

-- ---- how many are open

-- no more channels are open than came, and no more came than may
pub record AreCounted (channels : Channels) : Type 0 where
  pub open_few : length (open_in channels) ≤ channels.opened
  pub within : channels.opened ≤ channels.in_all
  pub in_all : channels.in_all ≡ channel_limit

counted_as : (old new : Channels) → new.inboxes ≡ old.inboxes → new.opened ≡ old.opened → new.in_all ≡ old.in_all → AreCounted old → AreCounted new
counted_as old new inboxes opened in_all c = record {
  open_few = (let same = ap (λ (is : List (ℕ × cutter.Channel)). length is) inboxes in let few = c.open_few in
      omega (arith, same, few, opened, length-map old.inboxes (λ e. e.0), length-map new.inboxes (λ e. e.0)));
  within = omega (arith, opened, in_all, c.within);
  in_all = in_all ∙ c.in_all;
}

counted_same : (old new : Channels) → new ≡ old → AreCounted old → AreCounted new
counted_same old new same c = subst AreCounted (sym same) c

counted_one : (number : ℕ) (old new : Channels) → Opens number old new → AreCounted old → AreCounted new
counted_one number old new opens c =
    let inboxes : length new.inboxes ≡ length old.inboxes + 1 = ap (λ (c : Channels). length c.inboxes) opens.3 ∙ length-append old.inboxes _ in
    let opened : new.opened ≡ number = ap (λ (c : Channels). c.opened) opens.3 in
    let in_all : new.in_all ≡ old.in_all = ap (λ (c : Channels). c.in_all) opens.3 in record {
      open_few = (let few = c.open_few in omega (arith, few, inboxes, opened, opens.2, length-map old.inboxes (λ e. e.0), length-map new.inboxes (λ e. e.0)));
      within = omega (arith, opened, in_all, opens.0, opens.2);
      in_all = in_all ∙ c.in_all;
    }

module _ {L : Type 0} (told : L → LinkTold) where
  counted_entered : (moved : Bool) (users users_now : NetTold L) (old new : State) → AcceptsProgramIfMay told moved users users_now old new → AreCounted old.channels → AreCounted new.channels
  counted_entered moved users users_now old new (inl failed) c = counted_same old.channels new.channels (ap (λ (s : State). s.channels) failed.3) c
  counted_entered moved users users_now old new (inr accepts) c = (let a = accepts.3 in by accepts.1 a.links a.links_now a.enters) where
    by : (it : Entry) (links links_now : Links L) → Enters told it users users_now links links_now old.dropped new.dropped old.channels new.channels → AreCounted new.channels
    by (entry.Channel number) links links_now e = counted_one number old.channels new.channels e.4 c
    by entry.Dropped links links_now e = counted_same old.channels new.channels e.4 c
    by entry.Unopened links links_now e = counted_same old.channels new.channels e.4 c
    by entry.Nobody links links_now e = counted_same old.channels new.channels e.5 c
    by entry.Failed links links_now e = counted_same old.channels new.channels e.4 c
    by entry.OutOfMemory links links_now e = counted_same old.channels new.channels e.4 c

  counted_came : (moved : Bool) (net net_now : NetTold L) (old new : State) → AcceptsClientIfMay told moved net net_now old new → new.channels ≡ old.channels
  counted_came moved net net_now old new (inl failed) = ap (λ (s : State). s.channels) failed.3
  counted_came moved net net_now old new (inr (inl want)) = ap (λ (s : State). s.channels) want.3
  counted_came moved net net_now old new (inr (inr accepts)) = ap (λ (s : State). s.channels) accepts.1.2.rest

counted_served : (moved : Bool) (old new : State) → HearsClientsIfMay moved old new → AreCounted old.channels → AreCounted new.channels
counted_served moved old new (inl nobody) c = counted_same old.channels new.channels (ap (λ (s : State). s.channels) nobody.2) c
counted_served moved old new (inr (inl want)) c = counted_same old.channels new.channels (ap (λ (s : State). s.channels) want.1) c
counted_served moved old new (inr (inr hears)) c =
    let is = hears.serves.is in counted_as old.channels new.channels (ap (λ (c : Channels). c.inboxes) is) (ap (λ (c : Channels). c.opened) is) (ap (λ (c : Channels). c.in_all) is) c

counted_sent : (moved : Bool) (old new : State) → PumpsClientsIfMay moved old new → AreCounted old.channels → AreCounted new.channels
counted_sent moved old new (inl want) c = counted_same old.channels new.channels (ap (λ (s : State). s.channels) want.1) c
counted_sent moved old new (inr pumps) c = counted_same old.channels new.channels (ap (λ (s : State). s.channels) pumps.rest) c

module _ {L : Type 0} (told : L → LinkTold) (net net_now users users_now : NetTold L) (old new : State) (round : IsRound told net net_now users users_now old new) where
  served_counted : AreCounted old.channels → AreCounted round.hears.served.channels
  served_counted c =
      let a = round.accepts in
      let one = counted_same old.channels a.accepted.channels (counted_came told a.came net net_now old a.accepted a.accepts) c in
      counted_served round.hears.asked round.accepted round.hears.served round.hears.clients (counted_entered told a.entered users users_now a.accepted round.accepted a.enters one)

  round_counted : AreCounted old.channels → AreCounted new.channels
  round_counted c =
      let h = round.hears in
      let served = served_counted c in
      let heard = each_lasts (Heard h.moment) (heard_one h.moment) (open_in h.served.channels) h.moved (scene_of h.served) (scene_of round.heard) h.programs.hears in
      let p = round.pumps in
      let then : AreCounted round.heard.channels =
      record { open_few = omega (arith, heard.open_few, heard.opened, served.open_few); within = omega (arith, heard.opened, heard.in_all, served.within); in_all = heard.in_all ∙ served.in_all } in
      let sent = counted_sent p.moved round.heard p.sent p.clients then in
      let pumped = each_lasts (Sent p.moment) (sent_one p.moment) (open_in p.sent.channels) false (scene_of p.sent) (scene_of p.pumped) p.programs.pumps in
      counted_same p.pumped.channels new.channels (ap (λ (s : State). s.channels) p.parts.rest)
      (record { open_few = omega (arith, pumped.open_few, pumped.opened, sent.open_few); within = omega (arith, pumped.opened, pumped.in_all, sent.within); in_all = pumped.in_all ∙ sent.in_all })

-- ---- beside the visits to channels

-- events were noted that admit no frame
quiet_aside : (old new : State) (more : List Event) (q : Quiet (scene_of old)) → new.programs ≡ old.programs → new.ends ≡ old.ends → new.channels.inboxes ≡ old.channels.inboxes → new.events ≡ Some (q.events ++ more)
    → new.core.hub.admitted ≡ old.core.hub.admitted → Quiet (scene_of new)
quiet_aside old new more q programs ends inboxes events admitted = record {
  quiet = λ place link there slot inbox at.
      q.quiet place link (ap (λ (ls : List LinkTold). slice_get ls place) (sym programs) ∙ there) (ap (λ (es : List (Option ChannelEnd)). slice_get es place) (sym ends) ∙ slot) inbox
      (ap (λ (is : List (ℕ × cutter.Channel)). inbox_of is (place + 1)) (sym inboxes) ∙ at);
  unheld = λ channel above. ap (λ (is : List (ℕ × cutter.Channel)). inbox_of is channel) inboxes ∙ q.unheld channel (let long = ap (λ (ls : List LinkTold). length ls) programs in omega (arith, above, long));
  events = q.events ++ more;
  kept = events;
  few = omega (arith, q.few, admitted, length-append q.events more);
}

quiet_still : (old new : State) (q : Quiet (scene_of old)) → new.programs ≡ old.programs → new.ends ≡ old.ends → new.channels.inboxes ≡ old.channels.inboxes → new.events ≡ old.events
    → new.core.hub.admitted ≡ old.core.hub.admitted → Quiet (scene_of new)
quiet_still old new q programs ends inboxes events admitted = quiet_aside old new [] q programs ends inboxes (events ∙ q.kept ∙ ap Some (sym (append-nil q.events))) admitted

-- what the steps beside those visits leave, with the count of frames
abbrev Stays : State → State → Type 0
Stays old new = Quiet (scene_of old) → Quiet (scene_of new) × (new.core.hub.admitted ≡ old.core.hub.admitted)

stays_same : (old new : State) → new ≡ old → Stays old new
stays_same old new same q = (subst (λ (s : State). Quiet (scene_of s)) (sym same) q, ap (λ (s : State). s.core.hub.admitted) same)

stays_want : (old new : State) → new ≡ with_want old → Stays old new
stays_want old new want q =
    let admitted = ap (λ (s : State). s.core.hub.admitted) want in
    (quiet_still old new q (ap (λ (s : State). s.programs) want) (ap (λ (s : State). s.ends) want) (ap (λ (s : State). s.channels.inboxes) want) (ap (λ (s : State). s.events) want) admitted, admitted)

connected : (it : Arrival) (old new : State) → ConnectsAs it old.core new.core old.events new.events → new.programs ≡ old.programs → new.ends ≡ old.ends → new.channels.inboxes ≡ old.channels.inboxes → Stays old new
connected it old new connects programs ends inboxes q = by it connects where
  aside : new.core ≡ old.core → new.events ≡ old.events → Quiet (scene_of new) × (new.core.hub.admitted ≡ old.core.hub.admitted)
  aside core events = (let admitted = ap (λ (c : Core). c.hub.admitted) core in (quiet_still old new q programs ends inboxes events admitted, admitted))

  by : (it : Arrival) → ConnectsAs it old.core new.core old.events new.events → Quiet (scene_of new) × (new.core.hub.admitted ≡ old.core.hub.admitted)
  by (arrival.Client number) c =
      (quiet_aside old new (event.Connect number ∷ []) q programs ends inboxes (subst (λ (o : Option (List Event)). notes.Adds o new.events (event.Connect number)) q.kept c.event) c.admitted, c.admitted)
  by arrival.Dropped c = aside c.1 c.2
  by arrival.Nobody c = aside c.0 c.1
  by arrival.Failed c = aside c.0 c.1
  by arrival.OutOfMemory c = aside c.0 c.1

module _ {L : Type 0} (told : L → LinkTold) where
  came : (moved : Bool) (net net_now : NetTold L) (old new : State) → AcceptsClientIfMay told moved net net_now old new → Stays old new
  came moved net net_now old new (inl failed) = stays_same old new failed.3
  came moved net net_now old new (inr (inl want)) = stays_want old new want.3
  came moved net net_now old new (inr (inr accepts)) =
      let a = accepts.1.2 in
      connected accepts.1.0 old new a.connects (ap (λ (s : State). s.programs) a.rest) (ap (λ (s : State). s.ends) a.rest) (ap (λ (s : State). s.channels.inboxes) a.rest)

  -- one more came, of which nothing is held
  one_more : (old new : State) (number : ℕ) (link : L) → new.programs ≡ old.programs ++ told link ∷ [] → new.ends ≡ old.ends → new.events ≡ old.events → new.core ≡ old.core → Opens number old.channels new.channels
      → old.channels.opened ≡ length old.programs → Quiet (scene_of old) → Quiet (scene_of new)
  one_more old new number link programs ends events core opens counted q =
      let next : number ≡ length old.programs + 1 = omega (arith, opens.2, counted) in
      let inboxes : new.channels.inboxes ≡ old.channels.inboxes ++ (number, unfed) ∷ [] = ap (λ (c : Channels). c.inboxes) opens.3 in
      let long : length new.programs ≡ length old.programs + 1 = ap (λ (ls : List LinkTold). length ls) programs ∙ length-append old.programs (told link ∷ []) in record {
        quiet = λ place now there slot inbox at. elim (last_at old.programs (told link) now place (ap (λ (ls : List LinkTold). slice_get ls place) (sym programs) ∙ there)) [
          | inl before ↦
              let below : place < length old.programs = within old.programs place now before in
              q.quiet place now before (ap (λ (es : List (Option ChannelEnd)). slice_get es place) (sym ends) ∙ slot) inbox
              (sym (added_apart number (place + 1) old.channels.inboxes unfed (λ same. omega (arith, same, next, below))) ∙ ap (λ (is : List (ℕ × cutter.Channel)). inbox_of is (place + 1)) (sym inboxes) ∙ at)
          | inr last ↦
              let number_is : number ≡ place + 1 = omega (arith, next, last.0) in
              let fresh : inbox_of new.channels.inboxes (place + 1) ≡ Some unfed =
              ap (λ (n : ℕ). inbox_of new.channels.inboxes n) (sym number_is) ∙ ap (λ (is : List (ℕ × cutter.Channel)). inbox_of is number) inboxes
              ∙ added_here number old.channels.inboxes unfed (q.unheld number (omega (arith, next))) in
              let same : unfed ≡ inbox = cc (sym fresh ∙ at) in
              subst (λ (c : cutter.Channel). NoMessage c.unread) same nothing_begins
        ];
        unheld = λ channel above.
            ap (λ (is : List (ℕ × cutter.Channel)). inbox_of is channel) inboxes ∙ added_apart number channel old.channels.inboxes unfed (λ same. omega (arith, same, next, above, long))
            ∙ q.unheld channel (omega (arith, above, long));
        events = q.events;
        kept = events ∙ q.kept;
        few = omega (arith, q.few, ap (λ (c : Core). c.hub.admitted) core);
      }

  entered : (moved : Bool) (users users_now : NetTold L) (old new : State) → AcceptsProgramIfMay told moved users users_now old new → OpenIn old → Stays old new
  entered moved users users_now old new (inl failed) open_so q = stays_same old new failed.3 q
  entered moved users users_now old new (inr accepts) open_so q = (by accepts.1 accepts.3.links accepts.3.links_now accepts.3.were accepts.3.are accepts.3.enters, ap (λ (c : Core). c.hub.admitted) core) where
    ends : new.ends ≡ old.ends
    ends = ap (λ (s : State). s.ends) accepts.3.rest

    events : new.events ≡ old.events
    events = ap (λ (s : State). s.events) accepts.3.rest

    core : new.core ≡ old.core
    core = ap (λ (s : State). s.core) accepts.3.rest

    still : (links links_now : Links L) → old.programs ≡ map told links.links → new.programs ≡ map told links_now.links → links_now ≡ links → new.channels ≡ old.channels → Quiet (scene_of new)
    still links links_now were are same channels =
        quiet_still old new q (are ∙ ap (λ (ls : Links L). map told ls.links) same ∙ sym were) ends (ap (λ (c : Channels). c.inboxes) channels) events (ap (λ (c : Core). c.hub.admitted) core)

    by : (it : Entry) (links links_now : Links L) → old.programs ≡ map told links.links → new.programs ≡ map told links_now.links
        → Enters told it users users_now links links_now old.dropped new.dropped old.channels new.channels → Quiet (scene_of new)
    by (entry.Channel number) links links_now were are e =
        one_more old new number e.0
        (are ∙ ap (λ (ls : Links L). map told ls.links) e.2 ∙ map-append told links.links (e.0 ∷ []) ∙ ap (λ (ls : List LinkTold). ls ++ told e.0 ∷ []) (sym were)) ends events core e.4 open_so.many q
    by entry.Dropped links links_now were are e = still links links_now were are e.2 e.4
    by entry.Unopened links links_now were are e = still links links_now were are e.2 e.4
    by entry.Nobody links links_now were are e = still links links_now were are e.3 e.5
    by entry.Failed links links_now were are e = still links links_now were are e.2 e.4
    by entry.OutOfMemory links links_now were are e = still links links_now were are e.2 e.4

clients_heard : (heard : (moved : Bool) (old new : Clients) → HearsAll moved old new → AreLater old new) (moved : Bool) (old new : State) → HearsClientsIfMay moved old new → Stays old new
clients_heard heard moved old new (inl nobody) = stays_same old new nobody.2
clients_heard heard moved old new (inr (inl want)) = stays_want old new want.1
clients_heard heard moved old new (inr (inr hears)) = λ q.
    let serves = hears.serves in
    let later = heard moved (clients_of old serves.desk) (clients_of new serves.desk_now) serves.visits in
    let none = heard_admits_none moved (clients_of old serves.desk) (clients_of new serves.desk_now) serves.visits in (
      quiet_aside old new later.more q (ap (λ (s : State). s.programs) hears.rest) (ap (λ (s : State). s.ends) hears.rest) (ap (λ (c : Channels). c.inboxes) serves.is)
          (adds_so old.events new.events q.events later.more q.kept later.events) none,
      none,
    )

clients_pumped : (pumped : (moved : Bool) (old new : Clients) → VisitsAll Pumped moved old new → AreLater old new) (moved : Bool) (old new : State) → PumpsClientsIfMay moved old new → Stays old new
clients_pumped pumped moved old new (inl want) = stays_want old new want.1
clients_pumped pumped moved old new (inr pumps) = λ q.
    let listeners : List Listener = replicate (length old.clients) fresh_listener in
    let enough : length old.clients ≤ length listeners = omega (arith, length-replicate (length old.clients) fresh_listener) in
    let visits = pumps.pumps no_desk old.folder listeners enough in
    let later = pumped moved _ _ visits in
    let none = pumped_admits_none moved _ _ visits in (
      quiet_aside old new later.more q (ap (λ (s : State). s.programs) pumps.rest) (ap (λ (s : State). s.ends) pumps.rest) (ap (λ (s : State). s.channels.inboxes) pumps.rest)
          (adds_so old.events new.events q.events later.more q.kept later.events) none,
      none,
    )

-- ---- rounds

few_events : (events : Option (List Event)) (all : List Event) → events ≡ Some all → HasRoom events → length all < event_limit
few_events events all is room = subst (λ (o : Option (List Event)). IsSomeAnd o (λ es. length es < event_limit)) is room

-- of a server that made rounds
pub record IsFew (s : State) : Type 0 where
  pub quiet : Quiet (scene_of s)
  pub counted : AreCounted s.channels
  pub open_so : OpenIn s
  pub bound : s.core.hub.admitted ≤ event_limit + 4096 * channel_limit

module _ {L : Type 0} (told : L → LinkTold) (heard : (moved : Bool) (old new : Clients) → HearsAll moved old new → AreLater old new)
    (pumped : (moved : Bool) (old new : Clients) → VisitsAll Pumped moved old new → AreLater old new) where
  round_few : (net net_now users users_now : NetTold L) (old new : State) → IsRound told net net_now users users_now old new → HasRoom old.events → IsFew old → IsFew new
  round_few net net_now users users_now old new round room f =
      let a = round.accepts in
      let h = round.hears in
      let p = round.pumps in
      let one = came told a.came net net_now old a.accepted a.accepts f.quiet in
      let two = entered told a.entered users users_now a.accepted round.accepted a.enters (came_open told net net_now users users_now old new round f.open_so) one.0 in
      let three = clients_heard heard h.asked round.accepted h.served h.clients two.0 in
      let few = few_events old.events f.quiet.events f.quiet.kept room in
      let counted = served_counted told net net_now users users_now old new round f.counted in
      let four = heard_quiet h.moment (open_in h.served.channels) h.moved (scene_of h.served) (scene_of round.heard) (served_open told net net_now users users_now old new round f.open_so).low h.programs.hears three.0 in
      let five = clients_pumped pumped p.moved round.heard p.sent p.clients four.0 in
      let six = sent_quiet p.moment (open_in p.sent.channels) false (scene_of p.sent) (scene_of p.pumped) (sent_open told net net_now users users_now old new round f.open_so).low p.programs.pumps five.0 in record {
        quiet = quiet_still p.pumped new six.0 (ap (λ (s : State). s.programs) p.parts.rest) (ap (λ (s : State). s.ends) p.parts.rest) (ap (λ (s : State). s.channels.inboxes) p.parts.rest) (ap (λ (s : State). s.events) p.parts.rest)
            (ap (λ (s : State). s.core.hub.admitted) p.parts.rest);
        counted = round_counted told net net_now users users_now old new round f.counted;
        open_so = round_open told net net_now users users_now old new round f.open_so;
        bound = (let last = ap (λ (s : State). s.core.hub.admitted) p.parts.rest in let sent = six.1 in let pumped_none = five.1 in let most = four.1 in let served_none = three.1 in let entered_none = two.1 in
            let came_none = one.1 in let so_far = f.quiet.few in let open_few = counted.open_few in let within_all = counted.within in let in_all = counted.in_all in
            omega (arith, last, sent, pumped_none, most, served_none, entered_none, came_none, so_far, few, open_few, within_all, in_all));
      }

  pub rounds_few : (many : ℕ) (net net_now users users_now : NetTold L) (old new : State) → AreRounds told many net net_now users users_now old new → IsFew old → IsFew new
  rounds_few zero net net_now users users_now old new rounds f = subst IsFew (sym rounds.2) f
  rounds_few (suc many) net net_now users users_now old new rounds f = round_few rounds.0 net_now rounds.1 users_now rounds.2 new rounds.5 rounds.4 (rounds_few many net rounds.0 users rounds.1 old rounds.2 rounds.3 f)

-- ---- the whole

module _ {L : Type 0} (told : L → LinkTold) (heard : (moved : Bool) (old new : Clients) → HearsAll moved old new → AreLater old new)
    (pumped : (moved : Bool) (old new : Clients) → VisitsAll Pumped moved old new → AreLater old new) (begun : Begun) (old new : Told L) (full : Bool) (closed : Closed L) (last : Standing L)
    (has : HasOpened told begun full old new closed) where
  few_last : IsFew has.run.last
  few_last =
      let made = has.is_opened.made in
      let channels = made.channels_are in
      let start : State = seen told kept true old.folder has.opened.server in
      let no_programs : start.programs ≡ [] = ap (λ (ls : Links L). map told ls.links) made.no_program in
      let no_inboxes = ap (λ (c : Channels). c.inboxes) channels in
      let nothing = ap (λ (c : Core). c.hub.admitted) made.core_is in
      rounds_few told heard pumped has.run.served.many has.net new.net has.users new.users start has.run.last has.run.served.rounds (record {
        quiet = record {
          quiet = λ place link there slot inbox at. absurd (let bad : slice_get [] place ≡ Some link = subst (λ (ls : List LinkTold). slice_get ls place ≡ Some link) no_programs there in cc bad);
          unheld = λ channel above. ap (λ (is : List (ℕ × cutter.Channel)). inbox_of is channel) no_inboxes;
          events = [];
          kept = ap (λ (j : Journaled). Some j.events) made.journal_is;
          few = omega (arith, nothing);
        };
        counted = record {
          open_few = (let same = ap (λ (c : Channels). length (open_in c)) channels in omega (arith, same));
          within = (let opened = ap (λ (c : Channels). c.opened) channels in omega (arith, opened));
          in_all = ap (λ (c : Channels). c.in_all) channels;
        };
        open_so = none_open start.programs start.ends start.channels no_programs (ap (λ (c : Channels). c.opened) channels) no_inboxes;
        bound = omega (arith, nothing);
      })

  pub handed_out_few : frames_in (setting begun) last.events ≡ has.run.last.core.hub.admitted → IsServed told begun full old.net new.net old.users new.users closed last → full ≡ false → closed.memory ≡ false
      → NetsStand old new → HasAcceptedInOrder told begun.rounds last.events old.net new.net old.users new.users closed
  handed_out_few frames served room unwanted stand =
      handed_out told begun old new full closed last served room unwanted stand (let few = few_last.bound in omega (arith, frames, few))
