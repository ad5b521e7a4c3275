-- Round after round, who is there is served; and what the closing leaves.
use Rattle.std.proofs.Common.{◌≡◌, ◌<◌, ◌≤◌, ◌+◌, ◌-◌, ℕ, zero, suc, Bool, true, false, inl, inr, List, [], ◌++◌, length, map, replicate, take, Option, Some, None, is_some, refl, sym, ap, subst, ◌∙◌, arith, slice_get, append_assoc, length-take}
use Rattle.std.specs.Prelude.{◌⊎◌, IsSomeAnd}
use Rattle.std.specs.List.{AllByRecursion}
use Rattle.std.proofs.lemmas.List.{append_cancel_left, length-map, length-replicate}
use Rattle.dl_bytes.specs.Limits.{client_limit}
use Rattle.dl_bytes.specs.declared.moment.Moment.{Moment}
use Rattle.dl_bytes.specs.declared.outcome.Ends.{Ends}
use Rattle.dl_channel.specs.declared.outcome.ChannelEnd.{ChannelEnd}
use Rattle.dl_core.specs.Follows.{IsAfter, Run, source_of}
use Rattle.dl_core.specs.State.{Core}
use Rattle.dl_events.specs.Journal.{Journaled}
use Rattle.dl_events.specs.declared.event.Event.{Event}
use Rattle.dl_hub.specs.State.{Hub, outbox_of}
use Rattle.dl_model.proofs.Rotation.{length-concat}
use Rattle.dl_lemmas.proofs.Lists.{all_both, there}
use Rattle.dl_lemmas.proofs.Options.{none_of}
use Rattle.dl_loop.proofs.Visited.{PumpsAreEvents}
use Rattle.dl_loop.specs.Daemon.{TellTaken}
use Rattle.dl_machine.proofs.Joined.{joined_get, joined_left, joined_length}
use Rattle.dl_model.specs.Backlog.{fitting, left, size_of, waiting}
use Rattle.dl_model.specs.ClientStream.{traffic}
use Rattle.dl_model.specs.Report.{why_of}
use Rattle.dl_model.specs.Setting.{Setting}
use Rattle.dl_model.specs.TraceFiles.{StoredFile}
use Rattle.dl_outside.specs.Links.{Links}
use Rattle.dl_outside.specs.Told.{FolderTold, LinkTold, NetTold}
use Rattle.dl_registry.specs.Kept.{owed_change}
use Rattle.dl_rounds.specs.Clients.{Clients, VisitsAll}
use Rattle.dl_rounds.specs.Partings.{AreShut, ShutsGone}
use Rattle.dl_rounds.specs.Passing.{AreLater, EachOpen, WasRead, WasSent}
use Rattle.dl_rounds.specs.Ready.{fresh_listener}
use Rattle.dl_rounds.specs.Visits.{ClosesAll, HearsAll, Pumped}
use Rattle.dl_server.proofs.HeldRounds.{all_close}
use Rattle.dl_server.specs.Closing.{IsClosed, closing_scene}
use Rattle.dl_server.specs.Holds.{Holds}
use Rattle.dl_server.specs.State.{State, clients_of, seen}
use Rattle.dl_socket.specs.Channels.{Channels, channel_limit, none_opened, open_channel_limit, open_in}
use Rattle.dl_startup.specs.Setup.{IsBegun}
use Rattle.dl_turns.specs.Gone.{TellTheEnd}
use Rattle.dl_serve.specs.declared.beginning.Begun.{Begun}
use Rattle.dl_serve.specs.declared.closed.Closed.{Closed}
use Rattle.dl_serve.specs.Closed.{IsLeft, backlog_of}
use Rattle.dl_serve.specs.Comes.{run_in}
use Rattle.dl_serve.specs.Open.{setting as setting_of}
use Rattle.dl_serve.specs.Program.{HasOpened, IsServed, ServesOnce}
use Rattle.dl_serve.specs.Rounds.{AreRounds, HasRoom, IsFull, event_limit, kept}
use Rattle.dl_serve.specs.Service.{ComesNever, EachNow, GoesOn, IsAt, IsClosing, Program, Rounds, ServesRound, Standing, frames_in, nobody, source_in}
use Rattle.dl_serve.specs.Told.{Told}
use Rattle.dl_serve.proofs.AdmittedSteps.{none_admitted}
use Rattle.dl_serve.proofs.CameTo.{what_stood}
use Rattle.dl_serve.proofs.EmptiedChannels.{IsAmong, among_keys}
use Rattle.dl_serve.proofs.Farewells.{clients_at, closes_none, quiet_at, stopped_quietly}
use Rattle.dl_serve.proofs.GoingLinks.{AllGo, all_both as both_go, all_same, channels_stopped, clients_closed}
use Rattle.dl_serve.proofs.HandedLinks.{Keeps as Stays, closing_keeps}
use Rattle.dl_serve.proofs.HeldInboxes.{adds_so}
use Rattle.dl_serve.proofs.OpenChannels.{none_open}
use Rattle.dl_serve.proofs.OtherEntries.{taken_at, within}
use Rattle.dl_serve.proofs.ServedRounds.{Keeps, Stands, frames_so, noted, program_of, programs_of, served, standing, stands_on}
use Rattle.dl_serve.proofs.PassedEvents as passed
use Rattle.dl_serve.proofs.ServingSteps.{seen_tells}
use Rattle.dl_serve.proofs.ShutPrograms.{stopped_shut}
use Rattle.dl_serve.proofs.TookServings.{first_stands}

-- ---- before the first round

pub stands_first : {L : Type 0} (net users : NetTold L) (s : State) → s.clients ≡ [] → s.programs ≡ [] → s.dropped ≡ 0 → s.wanted ≡ false → standing net users [] s ≡ nobody net users
stands_first net users s clients programs dropped wanted = λ i. record {
  net = net;
  users = users;
  events = [];
  clients = clients i;
  programs = programs_of (programs i) s.ends;
  dropped = dropped i;
  wanted = wanted i;
}

ends_many : (many : ℕ) (end : Option ChannelEnd) → length (replicate many end) ≡ many
ends_many many end = length-replicate many end

-- ---- links that go on

go_now : (old new : List LinkTold) → AllGo old new → EachNow ComesNever (λ place was now. GoesOn was now) old new
go_now old new go = λ place now at. (let was = go place now at in (was.0, inl was.1, was.2))

-- what waits, as the journal has it
backlog_so : (run : Run) (events : List Event) (taken : ℕ → List ℕ) (core : Core) → IsAfter run events taken core → backlog_of core.hub ≡ left run.setting.buffer (traffic (source_of run) events)
backlog_so run events taken core is =
    let waits = is.hub.waits in
    let frames : List (List ℕ) = fitting core.hub.buffer (waiting (traffic (source_of run) events)) in
    let bytes : length core.hub.backlog ≡ size_of frames = ap (λ (bs : List ℕ). length bs) (sym waits.bytes) ∙ length-concat frames in
    (λ i. record { frames = sym waits.frames_kept i; bytes = bytes i; refused = sym waits.refusals i })
    ∙ ap (λ (buffer : ℕ). left buffer (traffic (source_of run) events)) is.set_to.buffer

module _ {L : Type 0} (told : L → LinkTold) (heard : (moved : Bool) (old new : Clients) → HearsAll moved old new → AreLater old new)
    (pumped : (moved : Bool) (old new : Clients) → VisitsAll Pumped moved old new → AreLater old new) (closed_so : (old new : Clients) → ClosesAll (TellTheEnd told) old new → AreLater old new)
    (pump : PumpsAreEvents) (read : (moved : Bool) (old new : Clients) → HearsAll moved old new → EachOpen WasRead old new)
    (sends : (moved : Bool) (old new : Clients) → VisitsAll Pumped moved old new → EachOpen WasSent old new) (parted : (hub : Hub) (old new : List LinkTold) → ShutsGone hub old new → AreShut hub new)
    (shuts : (old new : Clients) → ClosesAll (TellTheEnd told) old new → AreShut old.side.core.hub old.links → AreShut new.side.core.hub new.links) where
  module _ (setting : Setting) (stood : List StoredFile) (before : ℕ × List (List ℕ)) where
    abbrev pub KeepsIn : List Event → State → Type 0
    KeepsIn events s = Keeps told heard pumped pump read sends parted setting stood before events s

    abbrev run : Run
    run = record (run_in setting stood) { before = before.0; head = before.1 }

    pub first_keeps : (start : State) (at_once most many : ℕ) → start.events ≡ Some [] → start.clients ≡ [] → start.programs ≡ [] → start.channels ≡ none_opened at_once many → start.listeners ≡ replicate most fresh_listener
        → start.ends ≡ replicate many None → start.dropped ≡ 0 → IsAfter run [] (λ number. []) start.core → length start.core.hub.clients ≡ length start.clients → owed_change start.core.registry ≡ None → KeepsIn [] start
    first_keeps start at_once most many events clients programs channels listeners ends dropped after linked settled =
        let opened = ap (λ (c : Channels). c.opened) channels in
        let stands = first_stands told setting many start at_once most many events programs channels listeners ends (record { registry = after.registry; level = after.set_to.level }) settled in record {
          holds = record {
            kept = events;
            took = λ number. [];
            after = after;
            taken = λ tells place link at. absurd (let bad : slice_get [] place ≡ Some link = subst (λ (ls : List LinkTold). slice_get ls place ≡ Some link) clients at in cc bad);
            many = linked;
            settled = settled;
            running = λ _. refl;
            formed = tt;
            trace = λ none. absurd none;
          };
          room = many;
          taken = stands.keeps;
          ready = stands.ready;
          opened = none_open start.programs start.ends start.channels programs opened (ap (λ (c : Channels). c.inboxes) channels);
          few = omega (arith, dropped);
          shut = λ number link low none at. absurd (let bad : slice_get [] (number - 1) ≡ Some link = subst (λ (ls : List LinkTold). slice_get ls (number - 1) ≡ Some link) clients at in cc bad);
          ended = λ place link cause at slot. absurd (let bad : slice_get [] place ≡ Some link = subst (λ (ls : List LinkTold). slice_get ls place ≡ Some link) programs at in cc bad);
          has_ends = record {
            within = omega (arith, opened);
            enough = (let in_all = ap (λ (c : Channels). c.in_all) channels in let long = ap (λ (es : List (Option ChannelEnd)). length es) ends in omega (arith, in_all, long, ends_many many None));
          };
          admits = λ _. none_admitted start events programs opened (ap (λ (c : Channels). c.inboxes) channels);
        }

    -- ---- the closing

    module _ (moment : Moment) (last final : State) (events : List Event) (closed : Closed L) (closes : IsClosed (TellTheEnd told) moment last final) (left_so : IsLeft told final closed) (k : KeepsIn events last) where
      abbrev between : State
      between = closes.between

      out : (more : List Event) × Holds (TellTaken told) ⊥ ⊥ run (events ++ more) final
      out = all_close (TellTaken told) ⊥ closed_so moment last final closes run events k.holds

      noted_so : events ++ out.0 ≡ closed.events.events
      noted_so = cc (out.1.kept, left_so.events)

      stays : Stays last final
      stays = closing_keeps moment last final closes

      -- what the closing notes
      at_once : AllByRecursion (IsAt moment) out.0
      at_once =
          let serves = closes.clients.serves in
          let quiet = stopped_quietly moment (open_in last.channels) false (closing_scene last) (closing_scene between) closes.programs.stops.0 in
          let later = closed_so (clients_of between serves.desk) (clients_of final serves.desk_now) serves.visits in
          let first : between.events ≡ Some (events ++ quiet.0) = adds_so last.events between.events events quiet.0 k.holds.kept quiet.1 in
          let second : final.events ≡ Some ((events ++ quiet.0) ++ later.more) = adds_so between.events final.events (events ++ quiet.0) later.more first later.events in
          let all : (events ++ quiet.0) ++ later.more ≡ events ++ out.0 = cc (second, out.1.kept) in
          let same : quiet.0 ++ later.more ≡ out.0 = append_cancel_left events (quiet.0 ++ later.more) out.0 (sym (append_assoc events quiet.0 later.more) ∙ all) in
          subst (AllByRecursion (IsAt moment)) same (all_both (IsAt moment) quiet.0 later.more (quiet_at moment quiet.0 quiet.2) (clients_at moment later.more later.of_clients))

      clients_go : AllGo last.clients final.clients
      clients_go =
          let serves = closes.clients.serves in
          both_go last.clients between.clients final.clients (all_same last.clients between.clients (ap (λ (s : State). s.clients) closes.programs.rest))
          (clients_closed (TellTheEnd told) (clients_of between serves.desk) (clients_of final serves.desk_now) serves.visits)

      programs_go : AllGo last.programs final.programs
      programs_go =
          both_go last.programs between.programs final.programs (channels_stopped moment (open_in last.channels) false (closing_scene last) (closing_scene between) closes.programs.stops.0)
          (all_same between.programs final.programs (ap (λ (s : State). s.programs) closes.clients.rest))

      ends_same : final.ends ≡ last.ends
      ends_same = ap (λ (s : State). s.ends) closes.clients.rest ∙ ap (λ (s : State). s.ends) closes.programs.rest

      abbrev programs_last : List Program
      programs_last = programs_of last.programs last.ends

      links_last : map (λ (program : Program). program.link) programs_last ≡ last.programs
      links_last = joined_left program_of None (λ (program : Program). program.link) (λ x y. refl) last.programs last.ends

      last_slot : (place : ℕ) (end : Option ChannelEnd) → slice_get closed.ends place ≡ Some end → slice_get last.ends place ≡ Some end
      last_slot place end at =
          ap (λ (es : List (Option ChannelEnd)). slice_get es place) (sym ends_same)
          ∙ taken_at final.ends (length final.programs) place end (ap (λ (es : List (Option ChannelEnd)). slice_get es place) (sym left_so.ends) ∙ at)

      end_at : (place : ℕ) (end : Option ChannelEnd) → slice_get closed.ends place ≡ Some end → IsSomeAnd (slice_get programs_last place) (λ program. program.end ≡ end)
      end_at place end at =
          let taken : slice_get (take (length final.programs) final.ends) place ≡ Some end = ap (λ (es : List (Option ChannelEnd)). slice_get es place) (sym left_so.ends) ∙ at in
          let below = within (take (length final.programs) final.ends) place end taken in
          let link = there last.programs place (omega (arith, below, length-take (length final.programs) final.ends, stays.programs)) in
          subst (λ (o : Option Program). IsSomeAnd o (λ program. program.end ≡ end)) (sym (joined_get program_of None last.programs last.ends place link.0 end link.1 (last_slot place end at))) refl

      -- no client is closed while channels end, so that each that is open then is closed behind that, and its link shut
      between_shut : AreShut between.core.hub between.clients
      between_shut = λ number link low none at.
          let quiet = stopped_quietly moment (open_in last.channels) false (closing_scene last) (closing_scene between) closes.programs.stops.0 in
          let passes = passed.all_stopped moment (closing_scene last) (closing_scene between) closes.programs.stops in
          let by_quiet : between.events ≡ Some (events ++ quiet.0) = adds_so last.events between.events events quiet.0 k.holds.kept quiet.1 in
          let by_passes : between.events ≡ Some (events ++ passes.more) = adds_so last.events between.events events passes.more k.holds.kept passes.events in
          let both : events ++ quiet.0 ≡ events ++ passes.more = cc (by_quiet, by_passes) in
          let same : quiet.0 ≡ passes.more = append_cancel_left events quiet.0 passes.more both in
          let stays : why_of number passes.more ≡ None = subst (λ (es : List Event). why_of number es ≡ None) same (closes_none moment number quiet.0 quiet.2) in
          k.shut number link low (none_of (outbox_of last.core.hub number) (sym (passes.clients.stay number stays) ∙ ap is_some none)) (ap (λ (ls : List LinkTold). slice_get ls (number - 1)) (sym (ap (λ (s : State). s.clients) closes.programs.rest)) ∙ at)

      clients_shut : (place : ℕ) (link : LinkTold) → slice_get final.clients place ≡ Some link → link.is_shut ≡ true
      clients_shut place link at =
          let serves = closes.clients.serves in
          shuts (clients_of between serves.desk) (clients_of final serves.desk_now) serves.visits between_shut (place + 1) link (omega arith) (closes.clients.none_open (place + 1))
          (subst (λ (n : ℕ). slice_get final.clients n ≡ Some link) (let back : place ≡ place + 1 - 1 = omega arith in back) at)

      programs_shut : (place : ℕ) (link : LinkTold) (end : Option ChannelEnd) → slice_get final.programs place ≡ Some link → slice_get last.ends place ≡ Some end → link.is_shut ≡ true
      programs_shut place link end at slot =
          let at_between : slice_get between.programs place ≡ Some link = ap (λ (s : State). slice_get s.programs place) (sym closes.clients.rest) ∙ at in
          elim (stopped_shut moment (open_in last.channels) false (closing_scene last) (closing_scene between) k.opened.low closes.programs.stops.0 place
          (λ first there. by first there end slot) link at_between) [ inl none ↦ absurd none | inr shut ↦ shut ]
        where
          by : (first : LinkTold) → slice_get last.programs place ≡ Some first → (end : Option ChannelEnd) → slice_get last.ends place ≡ Some end → IsAmong (place + 1) (open_in last.channels) ⊎ (first.is_shut ≡ true)
          by first there None slot = inl (among_keys (place + 1) last.channels.inboxes (k.opened.each place first there slot))
          by first there (Some cause) slot = inr (k.ended place first cause there slot)

      pub closing : (net users : NetTold L) → IsClosing told setting (standing net users events last) closed
      closing net users = record {
        moment = moment;
        more = out.0;
        noted = sym noted_so;
        at_once = at_once;
        clients_many = sym (length-map closed.clients.links told) ∙ ap (λ (ls : List LinkTold). length ls) left_so.clients ∙ stays.clients;
        clients = subst (λ (ls : List LinkTold). EachNow ComesNever (λ place was now. GoesOn was now) last.clients ls) (sym left_so.clients) (go_now last.clients final.clients clients_go);
        programs_many = sym (length-map closed.users.links told) ∙ ap (λ (ls : List LinkTold). length ls) left_so.users ∙ stays.programs ∙ sym (joined_length program_of None last.programs last.ends);
        programs = subst (λ (ls : List LinkTold). EachNow ComesNever (λ place was now. GoesOn was now) ls (map told closed.users.links)) (sym links_last)
            (subst (λ (ls : List LinkTold). EachNow ComesNever (λ place was now. GoesOn was now) last.programs ls) (sym left_so.users) (go_now last.programs final.programs programs_go));
        clients_shut = λ place link at. clients_shut place link (ap (λ (ls : List LinkTold). slice_get ls place) (sym left_so.clients) ∙ at);
        programs_shut = λ place link end at slot. programs_shut place link end (ap (λ (ls : List LinkTold). slice_get ls place) (sym left_so.users) ∙ at) (last_slot place end slot);
        ends = end_at;
        dropped = ap (λ (e : Ends). e.dropped) left_so.state ∙ stays.dropped;
        wanted = left_so.memory ∙ ap (λ (s : State). s.wanted) closes.clients.rest ∙ ap (λ (s : State). s.wanted) closes.programs.rest;
        backlog = left_so.backlog ∙ backlog_so run (events ++ out.0) out.1.took final.core out.1.after ∙ ap (λ (es : List Event). left setting.buffer (traffic (source_in setting) es)) noted_so;
      }

  -- ---- the rounds of a server

  few_events : (events : Option (List Event)) (all : List Event) → events ≡ Some all → HasRoom events → length all < event_limit
  few_events events all is room = subst (λ (o : Option (List Event)). IsSomeAnd o (λ es. length es < event_limit)) is room

  full_events : (events : Option (List Event)) (all : List Event) → events ≡ Some all → IsFull events → event_limit ≤ length all
  full_events events all is full = subst (λ (o : Option (List Event)). IsSomeAnd o (λ es. event_limit ≤ length es)) is full

  module _ (setting : Setting) (stood : List StoredFile) (net users : NetTold L) (start : State) (k : KeepsIn setting stood (0, []) [] start) (first : standing net users [] start ≡ nobody net users)
      (clients_come : start.no_clients ≡ false) (programs_come : start.no_programs ≡ false) where
    abbrev StandsAt : NetTold L → NetTold L → List Event → State → Type 0
    StandsAt net_now users_now events s = Stands told heard pumped pump read sends parted setting stood (0, []) net.faults users.faults net_now users_now events s

    -- rounds were made, and each served
    abbrev HaveServed : ℕ → NetTold L → NetTold L → State → Type 0
    HaveServed many net_now users_now s =
        (events : List Event) × Rounds (ServesOnce told setting net.faults users.faults) many (nobody net users) (standing net_now users_now events s) × StandsAt net_now users_now events s

    none_yet : HaveServed zero net users start
    none_yet = (
      [],
      first,
      record {
        keeps = k;
        later = omega arith;
        user_later = omega arith;
        risen = λ failed. absurd (let bad : true ≡ false = sym failed ∙ clients_come in cc bad);
        user_risen = λ failed. absurd (let bad : true ≡ false = sym failed ∙ programs_come in cc bad);
      },
    )

    rounds_serve : (many : ℕ) (net_now users_now : NetTold L) (new : State) → AreRounds told many net net_now users users_now start new → HaveServed many net_now users_now new
    rounds_serve zero net_now users_now new rounds =
        subst (λ (n : NetTold L). HaveServed zero n users_now new) (sym rounds.0) (subst (λ (n : NetTold L). HaveServed zero net n new) (sym rounds.1) (subst (λ (s : State). HaveServed zero net users s) (sym rounds.2) none_yet))
    rounds_serve (suc many) net_now users_now new rounds =
        let middle = rounds.2 in
        let so_far = rounds_serve many rounds.0 rounds.1 middle rounds.3 in
        let tell_overs = seen_tells told kept true middle rounds.6 in
        let room = few_events middle.events so_far.0 so_far.2.keeps.holds.kept rounds.4 in (
          noted told heard pumped pump read sends parted setting stood (0, []) net.faults users.faults rounds.0 net_now rounds.1 users_now middle new so_far.0 rounds.5 tell_overs so_far.2,
          (
            standing rounds.0 rounds.1 so_far.0 middle,
            so_far.1,
            (
              room,
              subst (λ (may : Bool). ServesRound told may setting net.faults users.faults (standing rounds.0 rounds.1 so_far.0 middle) (standing net_now users_now (noted told heard pumped pump read sends parted setting stood (0, []) net.faults users.faults rounds.0 net_now rounds.1 users_now middle new so_far.0 rounds.5 tell_overs so_far.2) new))
                  (ap (λ (s : State). s.may_run_out) rounds.6.is)
                  (served told heard pumped pump read sends parted setting stood (0, []) net.faults users.faults rounds.0 net_now rounds.1 users_now middle new so_far.0 rounds.5 tell_overs so_far.2),
            ),
          ),
          stands_on told heard pumped pump read sends parted setting stood (0, []) net.faults users.faults rounds.0 net_now rounds.1 users_now middle new so_far.0 rounds.5 tell_overs so_far.2,
        )

  module _ (begun : Begun) (old new : Told L) (full : Bool) (closed : Closed L) (first : FolderTold) (begins : IsBegun begun.conf first.files begun.trace) (has : HasOpened told begun full old new closed) where
    pub serving_serves : (last : Standing L) × (has.run.last.events ≡ Some last.events) × (frames_in (setting_of begun) last.events ≡ has.run.last.core.hub.admitted) × IsServed told begun full old.net new.net old.users new.users closed last
    serving_serves =
        let set : Setting = setting_of begun in
        let found = what_stood begun.conf first.files begun.trace begins in
        let made = has.is_opened.made in
        let start : State = seen told kept true old.folder has.opened.server in
        let no_clients : start.clients ≡ [] = ap (λ (ls : Links L). map told ls.links) made.no_client in
        let no_programs : start.programs ≡ [] = ap (λ (ls : Links L). map told ls.links) made.no_program in
        let k = first_keeps set found.stood (0, []) start open_channel_limit client_limit channel_limit (ap (λ (j : Journaled). Some j.events) made.journal_is) no_clients no_programs made.channels_are made.listeners_are
        made.no_end made.none_dropped (has.is_opened.begins (run set found.stood (0, [])) refl refl found.after)
        (has.is_opened.is_server.linked.many ∙ sym (length-map has.opened.server.clients.links told)) has.is_opened.is_server.linked.settled in
        let rounds = rounds_serve set found.stood has.net has.users start k (stands_first has.net has.users start no_clients no_programs made.none_dropped made.unwanted) made.clients_come made.programs_come
        has.run.served.many new.net new.users has.run.last has.run.served.rounds in (
          standing new.net new.users rounds.0 has.run.last,
          rounds.2.keeps.holds.kept,
          (let held = rounds.2.keeps.holds in frames_so (run set found.stood (0, [])) rounds.0 held.took has.run.last.core held.after),
          record {
            first_net = has.net;
            first_users = has.users;
            net_heard = has.net_heard;
            users_heard = has.users_heard;
            many = has.run.served.many;
            rounds = rounds.1;
            all = has.run.served.all;
            fewer = λ is. (let some = has.run.served.fewer is in (some.0, full_events has.run.last.events rounds.0 rounds.2.keeps.holds.kept some.1));
            net_last = refl;
            users_last = refl;
            closing = closing set found.stood (0, []) has.run.moment has.run.last has.run.closes.0 rounds.0 closed has.run.closes.2 has.run.closes.3 rounds.2.keeps new.net new.users;
            net_listens = has.net_listens;
            users_listen = has.users_listen;
          },
        )
