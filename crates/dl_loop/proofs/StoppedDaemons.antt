-- A daemon that stops.
use Rattle.std.proofs.Common.{◌≡◌, ℕ, zero, suc, ◌+◌, ◌-◌, ◌^◌, ◌<◌, ◌≤◌, true, List, [], ◌∷◌, ◌++◌, length, map, slice_get, Option, Some, refl, sym, ap, ◌∙◌, subst, arith}
use Rattle.std.specs.Prelude.{◌↔◌, IsSome, All, unwrap_or}
use Rattle.std.specs.Option.{option_map}
use Rattle.std.specs.List.{filter_map}
use Rattle.std.proofs.lemmas.List.Elements.{filter_map-append}
use Rattle.dl_bytes.specs.declared.conf.AppSpec.{AppSpec}
use Rattle.dl_bytes.specs.declared.item.Item.{Item}
use Rattle.dl_bytes.specs.declared.outcome.Ends.{Ends}
use Rattle.dl_events.specs.declared.event.Event.{Event}
use Rattle.dl_cells.specs.declared.level_history.Change.{Change}
use Rattle.dl_cells.specs.Losses.{reported_of}
use Rattle.dl_model.specs.Journal.{IsOpen, IsWellFormed}
use Rattle.dl_outside.specs.Links.{Links}
use Rattle.dl_outside.specs.Told.{FolderTold, LinkTold}
use Rattle.dl_ring.specs.declared.item.RingItem.{RingItem}
use Rattle.dl_ring.specs.Items.{calls_in}
use Rattle.dl_ring.proofs.Items.{calls_in-append}
use Rattle.dl_writer.specs.State.{BookState, IsWhole}
use Rattle.dl_desk.specs.Lists.{At}
use Rattle.dl_desk.specs.State.{DeskState}
use Rattle.dl_desk.specs.Told.{ControlTold}
use Rattle.dl_desk.specs.declared.app_handles.AppHandles.{AppHandles}
use Rattle.dl_account.specs.Known.{AreGathered, taken_of, told_as}
use Rattle.dl_account.specs.Making.{IsMadeOf, KeepsDesk}
use Rattle.dl_account.specs.State.{AccountState, ClosingState}
use Rattle.dl_hub.specs.State.{outbox_of}
use Rattle.dl_core.specs.Admission.{GivesFrame, GivesFrames}
use Rattle.dl_core.specs.Follows.{HoldsTrace, IsAfter, Run, source_of}
use Rattle.dl_core.specs.State.{Core}
use Rattle.dl_core.specs.Later.{IsFolderLater}
use Rattle.dl_admission.specs.Kept.{end_of}
use Rattle.dl_taking.specs.Drained.{GivesTook}
use Rattle.dl_taking.specs.Draining.{all_claims_left, closing_told, closing_took}
use Rattle.dl_taking.specs.Takes.{AreThere, TellAllTaken}
use Rattle.dl_taking.specs.Took.{Took, took_by}
use Rattle.dl_turns.specs.Gone.{TellTheEnd}
use Rattle.dl_turns.specs.Injected.{HasInjected}
use Rattle.dl_turns.specs.Later.{level_in}
use Rattle.dl_turns.proofs.PostedSides.{posted_both}
use Rattle.dl_rounds.specs.Passing.{AreAsNoted, took_all}
use Rattle.dl_rounds.specs.Ready.{AreHeard}
use Rattle.dl_rounds.specs.Shown.{AllShowWhy}
use Rattle.dl_settling.specs.Ends.{ends_in}
use Rattle.dl_settling.specs.Room.{HasFewClaims, IsFew, together}
use Rattle.dl_settling.specs.Settling.{Settles}
use Rattle.dl_settling.specs.State as stopping
use Rattle.dl_settling.specs.Stopped.{IsStop, account_told, account_took}
use Rattle.dl_settling.specs.Went.{HaveEnded, HaveGone, TellBytes, TellStreams}
use Rattle.dl_settling.proofs.Rooms.{claims_left_fit, left_fits}
use Rattle.dl_settling.proofs.WentClients.{streams_told}
use Rattle.dl_loop.specs.Daemon.{IsDaemon}
use Rattle.dl_loop.specs.Holds.{Gives}
use Rattle.dl_loop.specs.Limits.{place_limit}
use Rattle.dl_loop.specs.State.{DaemonState, desk_told}
use Rattle.dl_loop.specs.Stops.{IsStopped, MayStop, StopsIn, stopping_of}
use Rattle.dl_loop.specs.Told.{IsToldBy}
use Rattle.dl_loop.proofs.AdmittedBounds.{bounds_few}
use Rattle.dl_loop.proofs.FolderSides.{same_more}
use Rattle.dl_loop.proofs.StoppedFolders.{FolderStops}
use Rattle.dl_lemmas.proofs.Options.{not_some}
use Rattle.dl_lemmas.proofs.Lists.{all_first}

-- ---- what stands for the desk tells what the desk told

get_map : {A B : Type 0} (f : A → B) (xs : List A) (place : ℕ) → slice_get (map f xs) place ≡ option_map f (slice_get xs place)
get_map f [] place = refl
get_map f (x ∷ xs) zero = refl
get_map f (x ∷ xs) (suc place) = get_map f xs place

by_map : {A B : Type 0} (f : A → B) (xs ys : List A) (d : B) (place : ℕ) → map f xs ≡ map f ys → unwrap_or (option_map f (slice_get xs place)) d ≡ unwrap_or (option_map f (slice_get ys place)) d
by_map {A} {B} f xs ys d place same =
    ap (λ (o : Option B). unwrap_or o d) (sym (get_map f xs place) ∙ ap (λ (zs : List B). slice_get zs place) same ∙ get_map f ys place)

module _ (desk : DeskState) (closing : ClosingState) (keeps : KeepsDesk desk closing) where
  pub took_kept : closing_took closing ≡ took_by desk.handles
  took_kept = λ i. record { taken = λ app. by_map (λ (e : AppHandles). e.ring.taken) closing.handles.apps desk.handles.apps [] app keeps.taken i; reported = keeps.reported i }

  pub told_kept : closing_told closing ≡ desk_told desk
  told_kept = λ i. record {
    apps = ap (λ (specs : List AppSpec). length specs) keeps.apps i;
    first = keeps.first i;
    sets = keeps.sets i;
    pushed = λ app. by_map (λ (e : AppHandles). e.queue.pushed) closing.handles.apps desk.handles.apps [] app keeps.pushed i;
    refusals = λ app. by_map (λ (e : AppHandles). e.queue.refusals) closing.handles.apps desk.handles.apps 0 app keeps.refusals i;
  }

-- ---- what a stop asks

-- all claims have places
pub claims_fit : {L : Type 0} (told : L → LinkTold) (d : DaemonState L) (books : List BookState) (closing : ClosingState) → IsDaemon told d → IsMadeOf d.desk books closing → AreGathered closing
    → d.claimed + all_claims_left closing ≤ place_limit
claims_fit told d books closing is made gathered =
    let apps : length closing.apps ≡ length d.desk.apps = ap (λ (specs : List AppSpec). length specs) made.kept.apps in
    claims_left_fit closing d.claimed gathered (omega (arith, apps, is.apps))
    (subst (λ (n : ℕ). HasFewClaims d.claimed (closing_took closing) n) (sym apps) (subst (λ (t : Took). HasFewClaims d.claimed t (length d.desk.apps)) (sym (took_kept d.desk closing made.kept)) is.few_claims))

pub may_stop : {L : Type 0} (told : L → LinkTold) (d : DaemonState L) (books : List BookState) (closing : ClosingState) → IsDaemon told d → IsFew d.noted (took_by d.desk.handles) (length d.desk.apps)
    → d.calls < 2 ^ 32 → IsMadeOf d.desk books closing → AreGathered closing → All IsWhole closing.books → together closing.books ≤ d.calls → MayStop d closing (d.calls - d.noted) (place_limit - d.claimed)
may_stop told d books closing is few calls made gathered whole fits =
    let apps : length closing.apps ≡ length d.desk.apps = ap (λ (specs : List AppSpec). length specs) made.kept.apps in
    let took = took_kept d.desk closing made.kept in
    let few_so : IsFew d.noted (closing_took closing) (length closing.apps) =
    subst (λ (n : ℕ). IsFew d.noted (closing_took closing) n) (sym apps) (subst (λ (t : Took). IsFew d.noted t (length d.desk.apps)) (sym took) few) in
    let left = left_fits closing d.noted d.calls gathered whole fits few_so in
    let claims = claims_fit told d books closing is made gathered in
    let admitted = bounds_few d.noted d.core.hub.admitted d.desk.handles.losses.reported is.bounds (omega (arith, calls, is.room.few)) in
    record {
      apps = omega (arith, apps, is.apps);
      clients = omega (arith, is.room.limit);
      enough = omega (arith, left);
      enough_claims = omega (arith, claims);
      may = record { spare_so = omega (arith, is.room.spare, claims); few = omega (arith, admitted, calls, apps, is.apps) };
      linked = is.linked;
      heard = subst (AreHeard d.seated d.core) (sym (told_kept d.desk closing made.kept)) is.heard;
    }

-- ---- what it leaves

module _ {L : Type 0} (told : L → LinkTold) (d : DaemonState L) (books : List BookState) (closing : ClosingState) (account : AccountState) (links : Links L) (folder folder_now : FolderTold)
    (core : Core) (is : IsDaemon told d) (greeted : d.greeted ≡ true) (made : IsMadeOf d.desk books closing) (stop : IsStop told d.dropped core (stopping_of d closing) account links folder folder_now)
    (went : (run : Run) (taken : ℕ → List ℕ) → TellBytes told → GivesTook account.apps (account_took account) run → AreAsNoted run d.journal.events taken (stopping.clients_of told (stopping_of d closing) folder)
    → HaveGone run account.events (map told links.links) account.outcome.links)
    (ended : (run : Run) (taken : ℕ → List ℕ) → GivesTook account.apps (account_took account) run → IsAfter run d.journal.events taken d.core
    → AllShowWhy (TellTheEnd told) d.journal.events d.core.hub (map told d.links.links) → HaveEnded (TellTheEnd told) run.setting account.events (map told links.links) account.outcome.links)
    (outbox : (run : Run) (events : List Event) (taken : ℕ → List ℕ) (core : Core) (client : ℕ) → IsAfter run events taken core → IsSome (outbox_of core.hub client) ↔ IsOpen client events)
    (stops : FolderStops (stopping_of d closing) core account folder folder_now) where
  apps_so : account.apps ≡ d.desk.apps
  apps_so = stop.apps ∙ made.kept.apps

  took_so : closing_took closing ≡ took_by d.desk.handles
  took_so = took_kept d.desk closing made.kept

  told_so : closing_told closing ≡ desk_told d.desk
  told_so = told_kept d.desk closing made.kept

  tells : TellAllTaken account.events (account_took account)
  tells = subst (λ (es : List Event). TellAllTaken es (account_took account)) (sym stop.events)
      (stop.tells d.journal.events (subst (TellAllTaken d.journal.events) (sym took_so) (record { admitted = is.told_by.admitted; losses = is.told_by.losses })))

  told_by_so : IsToldBy account.events (length account.apps) account.handles
  told_by_so = record {
    admitted = tells.admitted;
    losses = tells.losses;
    alone = λ app beyond.
        let other = stop.others app beyond in
        let before = is.told_by.alone app (subst (λ (specs : List AppSpec). length specs ≤ app) apps_so beyond) in (
          tells.admitted app ∙ ap (map (told_as app)) (other.0 ∙ ap (λ (t : Took). t.taken app) took_so) ∙ sym (is.told_by.admitted app) ∙ before.0,
          tells.losses app ∙ other.1 ∙ ap (λ (t : Took). reported_of app t.reported) took_so ∙ sym (is.told_by.losses app) ∙ before.1,
        );
    first = stop.first ∙ made.kept.first ∙ is.told_by.first;
    levels = stop.sets ∙ ap (λ (cs : List Change). cs ++ filter_map level_in stop.more) (made.kept.sets ∙ is.told_by.levels) ∙ sym (filter_map-append level_in d.journal.events stop.more)
        ∙ ap (filter_map level_in) (sym stop.events);
  }

  gives_before : (run : Run) → Gives run d.first_core account.apps account.handles → Gives run d.first_core d.desk.apps d.desk.handles
  gives_before run gives = record {
    begins = gives.begins;
    frames = λ app.
        let more = stop.taken_more app in
        all_first (λ (item : Item). GivesFrame item run) (calls_in (taken_of d.desk.handles app)) (calls_in more.0)
        (subst (λ (items : List Item). GivesFrames items run)
        (ap (λ (xs : List RingItem). calls_in xs) (more.1 ∙ ap (λ (t : Took). t.taken app ++ more.0) took_so) ∙ calls_in-append (taken_of d.desk.handles app) more.0) (gives.frames app));
    apids = subst (λ (specs : List AppSpec). (app : ℕ) → At specs app (λ spec. run.apid app ≡ spec.apid)) apps_so gives.apids;
  }

  runs_so : (run : Run) → Gives run d.first_core account.apps account.handles → StopsIn told run d core account links folder folder_now
  runs_so run gives =
      let holds = is.runs run (gives_before run gives) in
      let took : GivesTook account.apps (account_took account) run = record { frames = gives.frames; apids = gives.apids } in
      let on = stop.runs run d.journal.events holds.took took holds.after in
      let events = sym stop.events in
      let taken : ℕ → List ℕ = took_all holds.took stop.sent in
      let after : IsAfter run account.events taken core = subst (λ (es : List Event). IsAfter run es taken core) events on.after in
      let ends : account.outcome.links ≡ ends_in core.hub = ap (λ (o : Ends). o.links) stop.outcome in
      record {
        took = taken;
        after = after;
        formed = subst (IsWellFormed run.setting (source_of run)) events (on.formed (subst (λ (t : ControlTold). AreThere t.apps d.core.registry) (sym told_so) (holds.there greeted)) is.running holds.formed);
        none_open = λ client open_so. not_some (outbox_of core.hub client) (stop.none_open client) ((outbox run account.events taken core client after).1 open_so);
        posted = λ app. subst (λ (es : List Event). HasInjected run.setting [] es app (desk_told d.first_desk) (account_told account)) events
            (posted_both run.setting [] d.journal.events stop.more app (desk_told d.first_desk) (desk_told d.desk) (account_told account) (holds.posted app)
            (subst (λ (t : ControlTold). HasInjected run.setting d.journal.events stop.more app t (account_told account)) told_so (on.posted app)));
        ends = subst (λ (n : ℕ). TellStreams run account.events n account.outcome.links) stop.clients
            (subst (TellStreams run account.events (length core.hub.clients)) (sym ends) (streams_told run account.events taken core after));
        trace = ap (λ (o : Ends). o.trace) stop.outcome;
        holds = λ held. subst (λ (es : List Event). HoldsTrace run es core folder_now) events (on.holds held);
        ended = ended run holds.took took holds.after (is.shown run (gives_before run gives));
        gone = λ tells. went run holds.took tells took (holds.noted tells (closing_told closing) (Some d.journal.events) folder);
      }

  pub stopped_so : IsStopped told d account links folder folder_now
  stopped_so = record {
    more = stop.more;
    events = stop.events;
    of_stop = stop.of_stop;
    apps = apps_so;
    told_by = told_by_so;
    taken = λ app. (let more = stop.taken_more app in (more.0, more.1 ∙ ap (λ (t : Took). t.taken app ++ more.0) took_so));
    many = stop.many;
    dropped = ap (λ (o : Ends). o.dropped) stop.outcome;
    last_core = core;
    runs = runs_so;
    leaves = stops.leaves;
    trace = stops.trace;
    folder_later = λ run gives.
        let holds = is.runs run (gives_before run gives) in
        subst (λ (es : List Event). IsFolderLater run.setting d.journal.events es (end_of d.core.trace) account.outcome.trace.end folder folder_now)
        (same_more d.journal.events (Some account.events) stops.more stop.more (ap Some stops.events) (ap Some stop.events))
        (stops.later run d.journal.events holds.took (record { frames = gives.frames; apids = gives.apids }) holds.after);
  }

-- the books of the account are those that were taken back
pub stop_books : {L : Type 0} (told : L → LinkTold) (dropped : ℕ) (old : stopping.Stopping L) (account : AccountState) (links : Links L) (folder folder_now : FolderTold)
    → Settles told dropped old account links folder folder_now → account.books ≡ old.closing.books
stop_books told dropped old account links folder folder_now settles =
    ap (λ (a : AccountState). a.books) settles.account_is ∙ ap (λ (c : ClosingState). c.books) settles.closes.same ∙ ap (λ (c : ClosingState). c.books) settles.drains.same
