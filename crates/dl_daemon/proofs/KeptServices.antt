-- Round after round of a daemon, who is there is served.
use Rattle.std.proofs.Common.{◌≡◌, ◌⊎◌, inl, inr, ℕ, zero, suc, Bool, false, List, [], map, Option, Some, None, refl, sym, ap, subst, ◌∙◌, arith}
use Rattle.std.proofs.lemmas.List.{length-map}
use Rattle.dl_bytes.specs.declared.conf.Conf.{Conf}
use Rattle.dl_bytes.specs.declared.moment.Moment.{Moment}
use Rattle.dl_core.specs.Follows.{Run, begun_anew, unstored_records}
use Rattle.dl_core.proofs.Beginnings.{goes_on_with}
use Rattle.dl_core.specs.Settings.{HasSizes}
use Rattle.dl_core.specs.State.{Core}
use Rattle.dl_events.specs.Told.{Told}
use Rattle.dl_events.specs.declared.event.Event.{Event}
use Rattle.dl_hub.specs.State.{Hub}
use Rattle.dl_loop.proofs.Visited.{PumpsAreEvents}
use Rattle.dl_loop.specs.Daemon.{TellTaken}
use Rattle.dl_model.specs.Setting.{Setting}
use Rattle.dl_model.specs.TraceFiles.{StoredFile}
use Rattle.dl_outside.specs.Links.{Links}
use Rattle.dl_outside.specs.Told.{FolderTold, LinkTold, NetTold}
use Rattle.dl_rounds.specs.Clients.{Clients, VisitsAll}
use Rattle.dl_rounds.specs.Partings.{AreShut, ShutsGone}
use Rattle.dl_rounds.specs.Passing.{AreLater, EachOpen, WasRead, WasSent}
use Rattle.dl_rounds.specs.Visits.{ClosesAll, HearsAll, Pumped}
use Rattle.dl_server.specs.Holds.{Holds}
use Rattle.dl_server.specs.State.{State, seen}
use Rattle.dl_startup.specs.Setup.{IsBegun}
use Rattle.dl_turns.specs.Gone.{TellTheEnd}
use Rattle.dl_serve.proofs.ServerSteps.{TellsOvers, state_of}
use Rattle.dl_serve.specs.Service.{Rounds, ServesRound, frames_in}
use Rattle.dl_serve.specs.declared.beginning.Begun.{Begun}
use Rattle.dl_serve.specs.declared.closed.Closed.{Closed}
use Rattle.dl_serve.proofs.AdmittedSteps.{goes_keep}
use Rattle.dl_serve.proofs.CameTo.{what_stood}
use Rattle.dl_serve.proofs.ServedRounds.{Keeps, Stands, frames_so, served, noted as noted_in, standing, stands_on}
use Rattle.dl_serve.proofs.Services.{closing, first_keeps, stands_first}
use Rattle.dl_serve.proofs.ServingSteps.{seen_tells}
use Rattle.dl_serve.proofs.WholeServers.{keeps_on}
use Rattle.dl_daemon.specs.declared.limits.Limits.{Limits}
use Rattle.dl_daemon.specs.declared.rounds.Stop.{Stop}
use Rattle.dl_daemon.specs.declared.rounds.Stop.TheVariants.{Asked, Spent}
use Rattle.dl_daemon.specs.Open.{setting}
use Rattle.dl_daemon.specs.Outside.{Outside}
use Rattle.dl_daemon.specs.Program.{HasOpened}
use Rattle.dl_daemon.specs.Renewing.{Renewed, Renews, last_anew, untried}
use Rattle.dl_daemon.specs.Rounds.{AreRounds, IsRenewedRound, StopsFor, noted, with_trace}
use Rattle.dl_daemon.specs.Service.{Between, EndsFor, HasGoneOn, ServesOnce, untouched}
use Rattle.dl_daemon.proofs.DaemonSteps.{BeginsIn, begins_in, renewed, renewed_leads}
use Rattle.dl_daemon.proofs.KeptJournals.{holds_same, run_behind}
use Rattle.dl_daemon.proofs.Renewals.{IsAnew, IsStill, renewed_so, with_new}

-- ---- what stands

-- where a trace is begun, the hub stands
hub_stands : (old new : Core) → BeginsIn old new → new.hub ≡ old.hub
hub_stands old new (inl same) = ap (λ (c : Core). c.hub) same
hub_stands old new (inr anew) = ap (λ (c : Core). c.hub) anew.2

abbrev pub between : {L : Type 0} → NetTold L → NetTold L → List Event → Renewed → State → Between L
between net users events renewed s = record { standing = standing net users events s; trace = s.core.trace; folder = s.folder; renewed = renewed }

module _ {L : Type 0} (told : L → LinkTold) (heard : (moved : Bool) (old new : Clients) → HearsAll moved old new → AreLater old new)
    (pumped : (moved : Bool) (old new : Clients) → VisitsAll Pumped moved old new → AreLater old new) (closed_so : (old new : Clients) → ClosesAll (TellTheEnd told) old new → AreLater old new)
    (pump : PumpsAreEvents) (read : (moved : Bool) (old new : Clients) → HearsAll moved old new → EachOpen WasRead old new)
    (sends : (moved : Bool) (old new : Clients) → VisitsAll Pumped moved old new → EachOpen WasSent old new) (parted : (hub : Hub) (old new : List LinkTold) → ShutsGone hub old new → AreShut hub new)
    (shuts : (old new : Clients) → ClosesAll (TellTheEnd told) old new → AreShut old.side.core.hub old.links → AreShut new.side.core.hub new.links) where
  module _ (conf : Conf) (set : Setting) (sizes : HasSizes conf set) where
    abbrev KeepsIn : List StoredFile → ℕ × List (List ℕ) → List Event → State → Type 0
    KeepsIn stood before events s = Keeps told heard pumped pump read sends parted set stood before events s

    -- what is known in a run of this setting, whenever its trace began
    abbrev KnownIn : List Event → State → Type 0
    KnownIn events s = (stood : List StoredFile) × (before : ℕ × List (List ℕ)) × KeepsIn stood before events s

    abbrev HoldsIn : List Event → State → Type 0
    HoldsIn events s = (stood : List StoredFile) × (before : ℕ × List (List ℕ)) × Holds (TellTaken told) ⊥ (Unit {0}) (run_behind set stood before) events s

    -- a trace is begun, or none
    holds_anew : (events : List Event) (s : State) (moment : Moment) (so : Option ℕ) (core : Core) (folder : FolderTold) (new : IsAnew conf moment so s.core core s.folder folder) → HoldsIn events s
        → HoldsIn events (with_trace s (with_new s.core new.trace) folder)
    holds_anew events s moment so core folder new held =
        let was : Run = run_behind set held.0 held.1 in
        let head = unstored_records s.core.ecu moment new.unstored in
        let now : Run = begun_anew new.stood head events was in
        let h = held.2 in (
          new.stood,
          (now.before, now.head),
          record {
            kept = h.kept;
            took = h.took;
            after = (goes_on_with conf head new.trace s.core was events h.took new.stood h.after sizes new.has).0;
            taken = h.taken;
            many = h.many;
            settled = h.settled;
            running = h.running;
            formed = h.formed;
            trace = λ none. absurd none;
          },
        )

    holds_renewed : (moment : Moment) (so : Option ℕ) (events : List Event) (s : State) (core : Core) (folder : FolderTold) → IsStill so s.core core s.folder folder ⊎ IsAnew conf moment so s.core core s.folder folder → HoldsIn events s
        → HoldsIn events (with_trace s core folder)
    holds_renewed moment so events s core folder (inl still) held =
        (held.0, held.1, holds_same (TellTaken told) ⊥ (run_behind set held.0 held.1) events s core folder still.same still.stays held.2)
    holds_renewed moment so events s core folder (inr new) held = subst (λ (c : Core). HoldsIn events (with_trace s c folder)) (sym new.is) (holds_anew events s moment so core folder new held)

    -- ---- rounds

    module _ (kept kept_now : Renewed) (net net_now users users_now : NetTold L) (old new : State) (events : List Event) (r : IsRenewedRound told conf kept kept_now net net_now users users_now old new) (known : KnownIn events old) where
      -- nets are asked again
      abbrev again : State
      again = renewed told conf kept kept_now net net_now users users_now old new r

      held : HoldsIn events (with_trace old r.core r.folder)
      held = holds_renewed r.moment r.begun events old r.core r.folder (renewed_so conf r.moment r.begun old.core r.core old.folder r.folder r.rest kept.tries kept_now.tries r.renews) (known.0, known.1, known.2.holds)

      tell_overs : TellsOvers told again.clients
      tell_overs = seen_tells told noted false (with_trace old r.core r.folder) r.seen_so

      stands : Stands told heard pumped pump read sends parted set held.0 held.1 net.faults users.faults net users events again
      stands = record {
        keeps = (let k = known.2 in let h = held.2 in let lead = renewed_leads told conf kept kept_now net net_now users users_now old new r k.ready in record {
          holds = record { kept = h.kept; took = h.took; after = h.after; taken = h.taken; many = h.many; settled = h.settled; running = h.running; formed = h.formed; trace = h.trace };
          room = k.room;
          taken = keeps_on told set k.room (state_of old) (state_of again) lead.0 k.taken;
          ready = lead.1;
          opened = k.opened;
          few = k.few;
          shut = subst (λ (hub : Hub). AreShut hub old.clients) (sym (hub_stands old.core r.core (begins_in told conf kept kept_now net net_now users users_now old new r))) k.shut;
          ended = k.ended;
          has_ends = record { within = k.has_ends.within; enough = k.has_ends.enough };
          admits = λ tells. goes_keep told tells (state_of old) (state_of again) lead.0 (k.admits tells);
        });
        later = omega arith;
        user_later = omega arith;
        risen = λ failed. absurd (cc failed);
        user_risen = λ failed. absurd (cc failed);
      }

      abbrev events_now : List Event
      events_now = noted_in told heard pumped pump read sends parted set held.0 held.1 net.faults users.faults net net_now users users_now again new events r.round tell_overs stands

      known_now : KnownIn events_now new
      known_now = (
        held.0,
        held.1,
        (stands_on told heard pumped pump read sends parted set held.0 held.1 net.faults users.faults net net_now users users_now again new events r.round tell_overs stands).keeps,
      )

      one_served : ServesOnce told conf set (between net users events kept old) (between net_now users_now events_now kept_now new)
      one_served = record {
        room = (let room = r.room in let h = known.2.holds in omega (arith, room, frames_so (run_behind set known.0 known.1) events h.took old.core h.after));
        moment = r.moment;
        begun = r.begun;
        trace = r.core.trace;
        folder = r.folder;
        renews = subst (λ (ecu : List ℕ). Renews conf ecu r.moment r.begun kept.tries kept_now.tries old.core.trace r.core.trace old.folder r.folder) known.2.holds.after.set_to.ecu r.renews;
        anew = r.anew ∙ ap (λ (past : Option (List Event)). last_anew r.begun r.moment old.folder past kept.anew) known.2.holds.kept;
        serves = subst (λ (may : Bool). ServesRound told may set net.faults users.faults (standing net users events again) (standing net_now users_now events_now new)) (ap (λ (s : State). s.may_run_out) r.seen_so.is)
            (served told heard pumped pump read sends parted set held.0 held.1 net.faults users.faults net net_now users users_now again new events r.round tell_overs stands);
      }

    module _ (kept : Renewed) (net users : NetTold L) (start : State) (first : Between L) (first_so : between net users [] kept start ≡ first) (known : KnownIn [] start) where
      -- rounds were made, and each served
      abbrev HaveServed : ℕ → Renewed → NetTold L → NetTold L → State → Type 0
      HaveServed many kept_now net_now users_now s =
          (events : List Event) × Rounds (ServesOnce told conf set) many first (between net_now users_now events kept_now s) × KnownIn events s

      rounds_serve : (many : ℕ) (kept_now : Renewed) (net_now users_now : NetTold L) (new : State) → AreRounds told conf many kept kept_now net net_now users users_now start new → HaveServed many kept_now net_now users_now new
      rounds_serve zero kept_now net_now users_now new rounds =
          subst (λ (k : Renewed). HaveServed zero k net_now users_now new) (sym rounds.0) (subst (λ (n : NetTold L). HaveServed zero kept n users_now new) (sym rounds.1)
          (subst (λ (n : NetTold L). HaveServed zero kept net n new) (sym rounds.2) (subst (λ (s : State). HaveServed zero kept net users s) (sym rounds.3) ([], first_so, known))))
      rounds_serve (suc many) kept_now net_now users_now new rounds =
          let so_far = rounds_serve many rounds.0 rounds.1 rounds.2 rounds.3 rounds.4 in (
            events_now rounds.0 kept_now rounds.1 net_now rounds.2 users_now rounds.3 new so_far.0 rounds.5 so_far.2,
            (between rounds.1 rounds.2 so_far.0 rounds.0 rounds.3, so_far.1, one_served rounds.0 kept_now rounds.1 net_now rounds.2 users_now rounds.3 new so_far.0 rounds.5 so_far.2),
            known_now rounds.0 kept_now rounds.1 net_now rounds.2 users_now rounds.3 new so_far.0 rounds.5 so_far.2,
          )

  ends_for : (why : Stop) (core : Core) (frames : ℕ) → frames ≡ core.hub.admitted → StopsFor why core → EndsFor why frames
  ends_for Spent core frames same stops = omega (arith, same, stops)
  ends_for Asked core frames same stops = omega (arith, same, stops)

  module _ (most : Limits) (begun : Begun) (old new : Outside L) (why : Stop) (closed : Closed L) (first : FolderTold) (begins : IsBegun begun.conf first.files begun.trace)
      (has : HasOpened told most begun why old new closed) where
    pub keeping_serves : (last : Between L) × (last.renewed ≡ has.run.served.kept) × HasGoneOn told most begun why old.folder old.net new.net old.users new.users old.watch new.watch closed last
    keeping_serves =
        let set : Setting = setting most begun in
        let found = what_stood begun.conf first.files begun.trace begins in
        let made = has.is_opened.made in
        let start : State = seen told noted false old.folder has.opened.server in
        let no_clients : start.clients ≡ [] = ap (λ (ls : Links L). map told ls.links) made.no_client in
        let no_programs : start.programs ≡ [] = ap (λ (ls : Links L). map told ls.links) made.no_program in
        let k = first_keeps told heard pumped closed_so pump read sends parted shuts set found.stood (0, []) start most.open_channels most.clients most.channels (ap (λ (j : Told). Some j.events) made.journal_is) no_clients no_programs
        made.channels_are made.listeners_are made.no_end made.none_dropped (has.is_opened.begins (run_behind set found.stood (0, [])) refl refl found.after)
        (has.is_opened.is_server.linked.many ∙ sym (length-map has.opened.server.clients.links told)) has.is_opened.is_server.linked.settled in
        let untried_yet : Renewed = record { tries = untried; anew = None } in
        let nobody_came = stands_first has.net has.users start no_clients no_programs made.none_dropped made.unwanted in
        let trace : start.core.trace ≡ begun.trace = ap (λ (c : Core). c.trace) made.core_is in
        let first_so : between has.net has.users [] untried_yet start ≡ untouched has.net has.users begun.trace old.folder =
        (λ i. record { standing = nobody_came i; trace = trace i; folder = old.folder; renewed = untried_yet }) in
        let sizes : HasSizes begun.conf set = record { directory = refl; file_size = refl; max_size = refl } in
        let rounds = rounds_serve begun.conf set sizes untried_yet has.net has.users start (untouched has.net has.users begun.trace old.folder) first_so (found.stood, (0, []), k) has.run.served.many has.run.served.kept new.net new.users
        has.run.last has.run.served.rounds in
        let held = rounds.2.2.holds in (
          between new.net new.users rounds.0 has.run.served.kept has.run.last,
          refl,
          record {
            first_net = has.net;
            first_users = has.users;
            net_heard = has.net_heard;
            users_heard = has.users_heard;
            many = has.run.served.many;
            rounds = rounds.1;
            ends = ends_for why has.run.last.core (frames_in set rounds.0) (frames_so (run_behind set rounds.2.0 rounds.2.1) rounds.0 held.took has.run.last.core held.after) has.run.served.stops;
            watched = has.run.served.watched;
            net_last = refl;
            users_last = refl;
            closing = closing told heard pumped closed_so pump read sends parted shuts set rounds.2.0 rounds.2.1 has.run.moment has.run.last has.run.closes.0 rounds.0 closed has.run.closes.2 has.run.closes.3 rounds.2.2
                new.net new.users;
            net_listens = has.net_listens;
            users_listen = has.users_listen;
          },
        )
