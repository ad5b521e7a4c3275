-- What is true of a daemon goes on with what is taken of rings and loss words.
use Rattle.std.proofs.Common.{◌≡◌, ℕ, ◌+◌, ◌≤◌, List, [], ◌∷◌, ◌++◌, append-nil, None, length, map, count_by, refl, sym, ap, subst, ◌∙◌, true, arith}
use Rattle.std.specs.Prelude.{cond}
use Rattle.std.specs.List.{filter_map}
use Rattle.std.proofs.lemmas.List.Elements.{filter_map-append}
use Rattle.std.proofs.lemmas.List.Sums.{sum_by-append}
use Rattle.dl_bytes.specs.declared.conf.AppSpec.{AppSpec}
use Rattle.dl_bytes.specs.declared.item.Item.{Item}
use Rattle.dl_events.specs.declared.event.Event.{Event}
use Rattle.dl_cells.specs.declared.level_history.Change.{Change}
use Rattle.dl_model.specs.Accounts.{takes}
use Rattle.dl_model.specs.Journal.{IsRunning}
use Rattle.dl_model.specs.Report.{reported}
use Rattle.dl_outside.specs.Told.{LinkTold}
use Rattle.dl_ring.specs.declared.item.RingItem.{RingItem}
use Rattle.dl_ring.specs.Items.{calls_in}
use Rattle.dl_ring.proofs.Items.{calls_in-append}
use Rattle.dl_desk.specs.Lists.{At}
use Rattle.dl_desk.specs.Made.{IsLater}
use Rattle.dl_desk.specs.QueuedInjections.{without_pushes}
use Rattle.dl_desk.specs.State.{DeskState}
use Rattle.dl_desk.specs.Told.{ControlTold}
use Rattle.dl_desk.specs.declared.app_handles.AppHandles.{AppHandles}
use Rattle.dl_account.specs.Known.{taken_of, told_as}
use Rattle.dl_registry.specs.Kept.{owed_change}
use Rattle.dl_core.specs.Admission.{GivesFrame, GivesFrames}
use Rattle.dl_core.specs.Follows.{Run}
use Rattle.dl_taking.specs.Drained.{GivesTook, IsDrain, IsTake, is_claim, is_noted}
use Rattle.dl_taking.specs.Took.{took_by, without_takes}
use Rattle.dl_taking.specs.Takes.{AreThere, TellAllTaken}
use Rattle.dl_turns.specs.Events.{IsDeskOf}
use Rattle.dl_turns.specs.Gone.{TellTheEnd}
use Rattle.dl_turns.specs.Later.{level_in}
use Rattle.dl_turns.proofs.PostedSides.{posted_both}
use Rattle.dl_core.proofs.Following.{running_on}
use Rattle.dl_rounds.specs.Shown.{AllShowWhy}
use Rattle.dl_settling.specs.Room.{HasFewClaims, IsFew}
use Rattle.dl_settling.specs.Went.{TellBytes}
use Rattle.dl_settling.proofs.NoRequests.{posted_none}
use Rattle.dl_settling.proofs.ShownDrains.{shown_drain}
use Rattle.dl_loop.specs.Bounds.{HasBounds}
use Rattle.dl_loop.specs.Daemon.{IsDaemon, TellTaken}
use Rattle.dl_loop.specs.Holds.{Gives, HoldsIn}
use Rattle.dl_loop.specs.Scene.{Scene, taking_of}
use Rattle.dl_loop.specs.Limits.{claim_limit}
use Rattle.dl_loop.specs.State.{DaemonState, desk_told}
use Rattle.dl_loop.specs.Takes.{SameButTaken}
use Rattle.dl_loop.specs.Told.{IsToldBy}
use Rattle.dl_loop.proofs.DeskRest.{later_both}
use Rattle.dl_loop.proofs.NotedDaemons.{noted_taken}
use Rattle.dl_loop.proofs.TakenEvents.{as_many, drain_asks, open_before, served_before}
use Rattle.dl_lemmas.proofs.Lists.{all_first as front}

-- ---- the desk

-- a list without what was taken and injected is one of the same rings and queues
rings_untaken : (apps : List AppHandles) → map (λ (e : AppHandles). e.ring.ring) (map without_takes (map without_pushes apps)) ≡ map (λ (e : AppHandles). e.ring.ring) apps
rings_untaken [] = refl
rings_untaken (e ∷ apps) = ap (λ ids. e.ring.ring ∷ ids) (rings_untaken apps)

queues_untaken : (apps : List AppHandles) → map (λ (e : AppHandles). e.queue.queue) (map without_takes (map without_pushes apps)) ≡ map (λ (e : AppHandles). e.queue.queue) apps
queues_untaken [] = refl
queues_untaken (e ∷ apps) = ap (λ ids. e.queue.queue ∷ ids) (queues_untaken apps)

pub taken_apps : (old new : DeskState) → SameButTaken old new → new.apps ≡ old.apps
taken_apps old new same = ap (λ (d : DeskState). d.apps) same

-- it is the desk of the same writers, and of the same rings, queues and words
pub taken_later : (old new : DeskState) → SameButTaken old new → IsLater old new
taken_later old new same = record {
  apps = taken_apps old new same;
  rings = sym (rings_untaken new.handles.apps) ∙ ap (λ (d : DeskState). map (λ (e : AppHandles). e.ring.ring) d.handles.apps) same ∙ rings_untaken old.handles.apps;
  queues = sym (queues_untaken new.handles.apps) ∙ ap (λ (d : DeskState). map (λ (e : AppHandles). e.queue.queue) d.handles.apps) same ∙ queues_untaken old.handles.apps;
  levels = ap (λ (d : DeskState). d.handles.levels.table) same;
  claims = ap (λ (d : DeskState). d.handles.levels.claims) same;
  losses = ap (λ (d : DeskState). d.handles.losses.table) same;
  more = [];
  owners = ap (λ (d : DeskState). d.owners) same ∙ sym (append-nil old.owners);
}

-- ---- the daemon

-- What was taken is its events, so many of calls and losses and so many of claims, and the daemon counts them: they stay few enough, and the bound on
-- frames goes on.
pub record Took {L : Type 0} (logs claims frames : ℕ) (old new : Scene L) : Type 0 where
  pub take : IsTake old.daemon.desk.apps logs claims frames (taking_of old) (taking_of new)
  pub greeted : old.daemon.greeted ≡ true
  pub settled : owed_change new.daemon.core.registry ≡ None
  pub desk_so : IsDeskOf new.daemon.core.registry (desk_told new.daemon.desk)
  pub desk : SameButTaken old.daemon.desk new.daemon.desk
  pub noted : new.daemon.noted ≡ old.daemon.noted + logs
  pub claimed : new.daemon.claimed ≡ old.daemon.claimed + claims
  pub within : new.daemon.noted ≤ old.daemon.calls
  pub within_claims : new.daemon.claimed ≤ claim_limit
  pub few : IsFew new.daemon.noted (took_by new.daemon.desk.handles) (length old.daemon.desk.apps)
  pub few_claims : HasFewClaims new.daemon.claimed (took_by new.daemon.desk.handles) (length old.daemon.desk.apps)
  pub bounds : HasBounds new.daemon.noted new.daemon.core.hub.admitted new.daemon.desk.handles.losses.reported
  pub rest : new.daemon
      ≡ record old.daemon { core = new.daemon.core; desk = new.daemon.desk; journal = new.daemon.journal; noted = new.daemon.noted; claimed = new.daemon.claimed }

module _ {L : Type 0} (told : L → LinkTold) (logs claims frames : ℕ) (old new : Scene L) (is : IsDaemon told old.daemon) (took : Took logs claims frames old new) where
  abbrev drain : IsDrain old.daemon.desk.apps (taking_of old) (taking_of new)
  drain = took.take.drain

  pub taken_events : new.daemon.journal.events ≡ old.daemon.journal.events ++ drain.more
  taken_events = cc drain.events

  -- what was taken of each ring grew
  pub taken_grows : (app : ℕ) → (items : List RingItem) × (taken_of new.daemon.desk.handles app ≡ taken_of old.daemon.desk.handles app ++ items)
  taken_grows = drain.taken_more

  -- a run that gives what was taken in the end gives what was before, and what the events ask
  pub gives_before : (run : Run) → Gives run old.daemon.first_core new.daemon.desk.apps new.daemon.desk.handles → Gives run old.daemon.first_core old.daemon.desk.apps old.daemon.desk.handles
  gives_before run gives = record {
    begins = gives.begins;
    frames = λ app.
        let more = taken_grows app in
        front (λ (item : Item). GivesFrame item run) (calls_in (taken_of old.daemon.desk.handles app)) (calls_in more.0)
        (subst (λ (items : List Item). GivesFrames items run) (ap (λ (xs : List RingItem). calls_in xs) more.1 ∙ calls_in-append (taken_of old.daemon.desk.handles app) more.0) (gives.frames app));
    apids = subst (λ (apps : List AppSpec). (app : ℕ) → At apps app (λ spec. run.apid app ≡ spec.apid)) (taken_apps old.daemon.desk new.daemon.desk took.desk) gives.apids;
  }

  pub gives_took : (run : Run) → Gives run old.daemon.first_core new.daemon.desk.apps new.daemon.desk.handles → GivesTook old.daemon.desk.apps (took_by new.daemon.desk.handles) run
  gives_took run gives = record {
    frames = gives.frames;
    apids = subst (λ (apps : List AppSpec). (app : ℕ) → At apps app (λ spec. run.apid app ≡ spec.apid)) (taken_apps old.daemon.desk new.daemon.desk took.desk) gives.apids;
  }

  -- a run that held goes on
  holds_taken : (run : Run) → Gives run old.daemon.first_core new.daemon.desk.apps new.daemon.desk.handles
      → HoldsIn (TellTaken told) (TellBytes told) (old.daemon.greeted ≡ true) run (map told old.daemon.links.links) old.daemon.seated.listeners (old.daemon.journal.events ++ drain.more) new.daemon.core
      (desk_told old.daemon.first_desk) (desk_told new.daemon.desk)
  holds_taken run gives =
      let holds = is.runs run (gives_before run gives) in
      let it = gives_took run gives in
      let apps : length new.daemon.desk.apps ≡ length old.daemon.desk.apps = ap (λ (specs : List AppSpec). length specs) (taken_apps old.daemon.desk new.daemon.desk took.desk) in record {
        took = holds.took;
        taken = holds.taken;
        after = (drain.after run old.daemon.journal.events holds.took it holds.after).0;
        noted = λ tells. noted_taken run old.daemon.journal.events holds.took old.daemon.desk.apps (taking_of old) (taking_of new) drain it (map told old.daemon.links.links) old.daemon.seated.listeners (holds.noted tells);
        formed = drain.formed run old.daemon.journal.events holds.took it holds.after (holds.there took.greeted) is.running holds.formed;
        posted = λ app. posted_both run.setting [] old.daemon.journal.events drain.more app (desk_told old.daemon.first_desk) (desk_told old.daemon.desk) (desk_told new.daemon.desk) (holds.posted app)
            (posted_none run.setting old.daemon.journal.events drain.more app (desk_told old.daemon.desk) (desk_told new.daemon.desk) (drain_asks drain.more drain.kinds)
            (ap (λ (p : ControlTold). p.pushed app) drain.desk) (ap (λ (p : ControlTold). p.refusals app) drain.desk));
        there = λ greeted. subst (λ (n : ℕ). AreThere n new.daemon.core.registry) (sym apps) (drain.there (holds.there greeted));
      }

  -- the journal tells just what was taken
  tells : TellAllTaken (old.daemon.journal.events ++ drain.more) (took_by new.daemon.desk.handles)
  tells = drain.told old.daemon.journal.events (record { admitted = is.told_by.admitted; losses = is.told_by.losses })

  -- and nothing of no application
  alone : (app : ℕ) → length old.daemon.desk.apps ≤ app → (takes app (old.daemon.journal.events ++ drain.more) ≡ []) × (reported app (old.daemon.journal.events ++ drain.more) ≡ 0)
  alone app beyond =
      let before = is.told_by.alone app beyond in
      let same = drain.others app beyond in (
        tells.admitted app ∙ ap (map (told_as app)) same.0 ∙ sym (is.told_by.admitted app) ∙ before.0,
        tells.losses app ∙ same.1 ∙ sym (is.told_by.losses app) ∙ before.1,
      )

  told_so : IsToldBy (old.daemon.journal.events ++ drain.more) (length old.daemon.desk.apps) new.daemon.desk.handles
  told_so = record {
    admitted = tells.admitted;
    losses = tells.losses;
    alone = alone;
    first = ap (λ (p : ControlTold). p.first) drain.desk ∙ is.told_by.first;
    levels = ap (λ (p : ControlTold). p.sets) drain.desk ∙ ap (λ (cs : List Change). cs ++ filter_map level_in drain.more) is.told_by.levels
        ∙ sym (filter_map-append level_in old.daemon.journal.events drain.more);
  }

  -- a daemon is one after it
  pub taken_daemon : IsDaemon told new.daemon
  taken_daemon =
      let more = drain.more in
      let events = taken_events in
      let clients = drain.clients in
      let many = as_many more old.daemon.core.hub new.daemon.core.hub clients in
      let limit = clients.same.limit in
      let apps = taken_apps old.daemon.desk new.daemon.desk took.desk in
      let take = took.take in
      subst (λ (d : DaemonState L). IsDaemon told d) (sym took.rest) (record {
        told_by = subst (λ (es : List Event). IsToldBy es (length new.daemon.desk.apps) new.daemon.desk.handles) (sym events)
            (subst (λ (specs : List AppSpec). IsToldBy (old.daemon.journal.events ++ more) (length specs) new.daemon.desk.handles) (sym apps) told_so);
        linked = record {
          many = many ∙ is.linked.many;
          few = omega (arith, is.linked.few, many, limit);
          place = omega (arith, is.linked.place, limit);
          settled = took.settled;
          room = omega (arith, is.room.spare, is.room.few_claims, took.noted, took.claimed, took.within, took.within_claims, take.few, take.clients, take.spare_so);
        };
        heard = record {
          enough = omega (arith, is.heard.enough, limit);
          limits = is.heard.limits;
          counts = λ place listener there below. served_before place listener.served old.daemon.core new.daemon.core clients.replies (is.heard.counts place listener there (omega (arith, below, many)));
          unused = λ place listener there above. is.heard.unused place listener there (omega (arith, above, many));
          waiting = λ number some. is.heard.waiting number (open_before more old.daemon.core.hub new.daemon.core.hub clients number some);
          desk_so = took.desk_so;
        };
        room = record {
          noted = took.noted
              ∙ omega (arith, is.room.noted, take.logs_so, sum_by-append (λ (e : Event). cond (is_noted e) 1 0) old.daemon.journal.events more, ap (count_by is_noted) events);
          claimed = took.claimed
              ∙ omega (arith, is.room.claimed, take.claims_so, sum_by-append (λ (e : Event). cond (is_claim e) 1 0) old.daemon.journal.events more, ap (count_by is_claim) events);
          few = took.within;
          few_claims = took.within_claims;
          limit = limit ∙ is.room.limit;
          spare = omega (arith, is.room.spare, took.noted, took.claimed, took.within, took.within_claims, take.few, take.clients, take.spare_so, many);
        };
        bounds = took.bounds;
        few = subst (λ (specs : List AppSpec). IsFew new.daemon.noted (took_by new.daemon.desk.handles) (length specs)) (sym apps) took.few;
        few_claims = subst (λ (specs : List AppSpec). HasFewClaims new.daemon.claimed (took_by new.daemon.desk.handles) (length specs)) (sym apps) took.few_claims;
        apps = subst (λ (specs : List AppSpec). length specs ≤ 16) (sym apps) is.apps;
        desk = later_both old.daemon.first_desk old.daemon.desk new.daemon.desk is.desk (taken_later old.daemon.desk new.daemon.desk took.desk);
        running = subst IsRunning (sym events) (running_on old.daemon.journal.events more is.running drain.running);
        runs = λ run gives. subst (λ (es : List Event). HoldsIn (TellTaken told) (TellBytes told) (old.daemon.greeted ≡ true) run (map told old.daemon.links.links) old.daemon.seated.listeners es new.daemon.core
            (desk_told old.daemon.first_desk) (desk_told new.daemon.desk)) (sym events) (holds_taken run gives);
        shown = λ run gives.
            let before = gives_before run gives in
            let holds = is.runs run before in
            subst (λ (es : List Event). AllShowWhy (TellTheEnd told) es new.daemon.core.hub (map told old.daemon.links.links)) (sym events)
            (shown_drain run old.daemon.journal.events holds.took old.daemon.desk.apps (taking_of old) (taking_of new) drain (gives_took run gives) holds.after (map told old.daemon.links.links) (is.shown run before));
      })
