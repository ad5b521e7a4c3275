-- How clients ended by the end of a stop, whatever their links tell.
use Rattle.std.proofs.Common.{◌≡◌, ℕ, ◌+◌, ◌-◌, ◌<◌, ◌≤◌, ◌==◌, inl, inr, true, false, List, ◌++◌, length, map, slice_get, length-append, Option, Some, None, is_some, sym, ap, ◌∙◌, subst, arith}
use Rattle.std.specs.Prelude.{IsSomeAnd}
use Rattle.std.specs.Option.{option_map_or}
use Rattle.std.proofs.lemmas.Bool.{eq-eqb, ne_eqb}
use Rattle.std.proofs.lemmas.Bool.Decides.{eqb_tells}
use Rattle.std.proofs.lemmas.List.{length-map}
use Rattle.dl_bytes.specs.Limits.{request_limit}
use Rattle.dl_bytes.specs.declared.conf.AppSpec.{AppSpec}
use Rattle.dl_bytes.specs.declared.outcome.LinkEnd.{LinkEnd}
use Rattle.dl_events.specs.declared.event.Event.{Event}
use Rattle.dl_events.specs.declared.event.Why.{Why}
use Rattle.dl_events.specs.declared.event.Why.TheVariants.{Slow, Stopped, Stuck, TooMany}
use Rattle.dl_model.specs.Backlog.{outbox_limit}
use Rattle.dl_model.specs.ClientStream.{stream}
use Rattle.dl_model.specs.Setting.{Setting}
use Rattle.dl_outside.specs.Links.{Links}
use Rattle.dl_outside.specs.Told.{FolderTold, LinkTold}
use Rattle.dl_model.proofs.Rotation.{length-concat}
use Rattle.dl_account.specs.State.{AccountState, ClosingState}
use Rattle.dl_hub.specs.State.{Client as HubClient, Hub, client_of}
use Rattle.dl_core.specs.Follows.{IsAfter, Run, source_of}
use Rattle.dl_core.proofs.Answered.{replies_are}
use Rattle.dl_taking.specs.Drained.{GivesTook, IsDrain}
use Rattle.dl_taking.specs.Draining.{closing_took}
use Rattle.dl_taking.specs.Took.{Took}
use Rattle.dl_taking.proofs.DrainedEvents.{all_drain}
use Rattle.dl_turns.specs.Gone.{TellTheEnd}
use Rattle.dl_turns.specs.Later.{LeavesSo}
use Rattle.dl_rounds.specs.Clients.{Clients}
use Rattle.dl_rounds.specs.Passing.{AreLater, took_all}
use Rattle.dl_rounds.specs.Shown.{AllShowWhy, ShowWhy, WasServedAll}
use Rattle.dl_rounds.specs.Visits.{ClosesAll}
use Rattle.dl_rounds.proofs.ShownClients.{shows_shut}
use Rattle.dl_settling.specs.Ends.{end_in, ends_in}
use Rattle.dl_settling.specs.Settling.{Settles}
use Rattle.dl_settling.specs.State.{Stopping, clients_of, taking_of}
use Rattle.dl_settling.specs.Stopped.{account_took}
use Rattle.dl_settling.specs.Went.{HasEnded, HaveEnded}
use Rattle.dl_settling.proofs.ShownDrains.{left_at, outbox_at, shown_drain}
use Rattle.dl_settling.proofs.StoppedEvents.{same_took, shut_at}
use Rattle.dl_settling.proofs.WentClients.{client_at, end_at, stream_of}
use Rattle.dl_rounds.proofs.NotedClients.{left_of}
use Rattle.dl_lemmas.proofs.Lists.{there_too, within_of}
use Rattle.dl_lemmas.proofs.Options.{one_is}

-- the replies that a client was put who asked too much
all_served : (hub : Hub) (number : ℕ) (c : HubClient) → client_of hub number ≡ Some c → WasServedAll number TooMany hub → c.replies ≡ request_limit
all_served hub number c at served = subst (λ (o : Option HubClient). IsSomeAnd o (λ k. k.replies ≡ request_limit)) at served

module _ {L : Type 0} (told : L → LinkTold) (dropped : ℕ) (old : Stopping L) (account : AccountState) (links : Links L) (folder folder_now : FolderTold)
    (on : (was now : Clients) → ClosesAll (TellTheEnd told) was now → ShowWhy (TellTheEnd told) was → ShowWhy (TellTheEnd told) now)
    (events_of : (was now : Clients) → ClosesAll (TellTheEnd told) was now → AreLater was now) (settles : Settles told dropped old account links folder folder_now)
    (run : Run) (gives : GivesTook account.apps (account_took account) run) (taken : ℕ → List ℕ) (is : IsAfter run old.journal.events taken old.core)
    (shown : AllShowWhy (TellTheEnd told) old.journal.events old.core.hub (map told old.links.links)) where
  abbrev drained : Stopping L
  drained = settles.drained

  abbrev closed : Stopping L
  closed = settles.closed

  first : IsDrain old.closing.apps (taking_of old folder) (taking_of drained settles.between)
  first = all_drain old.closing.apps (taking_of old folder) (taking_of drained settles.between) settles.drains.drains

  later : AreLater (clients_of told drained settles.between) (clients_of told closed folder_now)
  later = events_of (clients_of told drained settles.between) (clients_of told closed folder_now) settles.closes.closes

  gives_so : GivesTook old.closing.apps (closing_took drained.closing) run
  gives_so =
      let of_closed = subst (λ (a : AccountState). GivesTook a.apps (account_took a) run) settles.account_is gives in
      let took : closing_took closed.closing ≡ closing_took drained.closing = same_took drained.closing closed.closing settles.closes.same in
      let apps : closed.closing.apps ≡ old.closing.apps = ap (λ (c : ClosingState). c.apps) settles.closes.same ∙ ap (λ (c : ClosingState). c.apps) settles.drains.same in
      subst (λ (specs : List AppSpec). GivesTook specs (closing_took drained.closing) run) apps (subst (λ (t : Took). GivesTook closed.closing.apps t run) took of_closed)

  -- once all was taken
  drained_events : old.journal.events ++ first.more ≡ drained.journal.events
  drained_events = sym events_so where
    events_so : drained.journal.events ≡ old.journal.events ++ first.more
    events_so = cc first.events

  shown_drained : AllShowWhy (TellTheEnd told) drained.journal.events drained.core.hub (map told drained.links.links)
  shown_drained =
      subst (λ (ls : Links L). AllShowWhy (TellTheEnd told) drained.journal.events drained.core.hub (map told ls.links)) (sym settles.drains.links)
      (subst (λ (es : List Event). AllShowWhy (TellTheEnd told) es drained.core.hub (map told old.links.links)) drained_events
      (shown_drain run old.journal.events taken old.closing.apps (taking_of old folder) (taking_of drained settles.between) first gives_so is (map told old.links.links) shown))

  after_drained : IsAfter run drained.journal.events taken drained.core
  after_drained = subst (λ (es : List Event). IsAfter run es taken drained.core) drained_events (first.after run old.journal.events taken gives_so is).0

  -- once each client was closed
  shown_closed : AllShowWhy (TellTheEnd told) closed.journal.events closed.core.hub (map told closed.links.links)
  shown_closed = on (clients_of told drained settles.between) (clients_of told closed folder_now) settles.closes.closes shown_drained

  abbrev taken_now : ℕ → List ℕ
  taken_now = took_all taken later.sent

  after_closed : IsAfter run closed.journal.events taken_now closed.core
  after_closed = subst (λ (es : List Event). IsAfter run es taken_now closed.core) (sym events_so) (later.after run drained.journal.events taken after_drained).0 where
    events_so : closed.journal.events ≡ drained.journal.events ++ later.more
    events_so = cc later.events

  -- no more is left of a stream than it has
  left_within : (number : ℕ) (c : HubClient) → client_of closed.core.hub number ≡ Some c → c.outbox ≡ None → c.left ≤ c.bytes
  left_within number c at shut =
      let left = left_of run closed.journal.events taken_now closed.core number c after_closed at shut in
      let has = stream_of run closed.journal.events taken_now closed.core number c after_closed at in
      let frames : List (List ℕ) = stream (source_of run) run.setting.buffer number closed.journal.events in
      omega (arith, has.bytes, length-concat frames, ap length left.parts, length-append (taken_now number) left.left, left.size_is)

  -- and once the links were shut
  ended_one : (place : ℕ) (link : LinkTold) (end : LinkEnd) → slice_get (map told links.links) place ≡ Some link → slice_get (ends_in closed.core.hub) place ≡ Some end
      → HasEnded (TellTheEnd told) run.setting closed.journal.events (place + 1) link end
  ended_one place link end at end_is =
      let between = there_too (map told closed.links.links) (map told links.links) place link settles.shuts.many at in
      let shut = shut_at closed.core.hub (map told closed.links.links) (map told links.links) settles.shuts settles.closes.none_open place between.0 link between.1 at in
      let within = within_of (map told closed.links.links) place between.0 between.1 in
      let below : place < length closed.core.hub.clients = omega (arith, within, length-map closed.links.links told, settles.closes.linked.many) in
      let c = client_at closed.core.hub place below in
      let back : place ≡ place + 1 - 1 = omega arith in
      let number : 1 + place ≡ place + 1 = omega arith in
      let gone = settles.closes.none_open (place + 1) in
      let shut_client : c.0.outbox ≡ None = sym (outbox_at closed.core.hub (place + 1) c.0 c.1) ∙ gone in
      let shows = shows_shut closed.journal.events closed.core.hub (place + 1) between.0 link shut
      (shown_closed (place + 1) between.0 (ap is_some c.1) gone (subst (λ (p : ℕ). slice_get (map told closed.links.links) p ≡ Some between.0) back between.1)) in
      let its : end_in closed.core.hub (place + 1) ≡ end =
      one_is (end_in closed.core.hub (place + 1)) end (slice_get (ends_in closed.core.hub) place)
      (end_at (end_in closed.core.hub) 1 (length closed.core.hub.clients) place below ∙ ap (λ (n : ℕ). Some (end_in closed.core.hub n)) number) end_is in
      subst (HasEnded (TellTheEnd told) run.setting closed.journal.events (place + 1) link) its (record {
        before = shows.before;
        cause = shows.cause;
        after = shows.after;
        place = shows.place;
        left = c.0.left;
        within = subst (λ (n : ℕ). c.0.left ≤ n) (sym (ap (λ (o : Option HubClient). option_map_or (λ (k : HubClient). k.bytes) o 0) c.1)) (left_within (place + 1) c.0 c.1 shut_client);
        complete = ap (λ (o : Option HubClient). option_map_or (λ (k : HubClient). k.left) o 0 == 0) c.1;
        leaves = subst (λ (b : ℕ). LeavesSo (outbox_limit b) shows.cause c.0.left) after_closed.set_to.buffer (left_at closed.core.hub (place + 1) shows.cause c.0 c.1 shows.left);
        asked = λ this. sym (replies_are run closed.journal.events taken_now closed.core (place + 1) c.0 after_closed c.1)
            ∙ all_served closed.core.hub (place + 1) c.0 c.1 (subst (λ (w : Why). WasServedAll (place + 1) w closed.core.hub) this shows.served);
        counts = shows.counts;
        over = shows.over;
      })

  pub all_ended : HaveEnded (TellTheEnd told) run.setting account.events (map told links.links) account.outcome.links
  all_ended = λ place link end at end_is.
      subst (λ (es : List Event). HasEnded (TellTheEnd told) run.setting es (place + 1) link end) (sym (ap (λ (a : AccountState). a.events) settles.account_is))
      (ended_one place link end at (ap (λ (ends : List LinkEnd). slice_get ends place) (sym (ap (λ (a : AccountState). a.outcome.links) settles.account_is)) ∙ end_is))

-- ---- whether all was taken

module _ {Tells : Type 0} (setting : Setting) (events : List Event) where
  pub stopped_ends : (number : ℕ) (link : LinkTold) (end : LinkEnd) (ended : HasEnded Tells setting events number link end) → ended.cause ≡ Stopped → end.complete ≡ true
  stopped_ends number link end ended this =
      let none : ended.left ≡ 0 = subst (λ (w : Why). LeavesSo (outbox_limit setting.buffer) w ended.left) this ended.leaves in
      ended.complete ∙ eq-eqb ended.left 0 none

  pub stuck_ends : (number bytes : ℕ) (link : LinkTold) (end : LinkEnd) (ended : HasEnded Tells setting events number link end) → ended.cause ≡ Stuck bytes → end.complete ≡ false
  stuck_ends number bytes link end ended this =
      let some = subst (λ (w : Why). LeavesSo (outbox_limit setting.buffer) w ended.left) this ended.leaves in
      ended.complete ∙ ne_eqb ended.left 0 (λ none. omega (arith, none, some.1))

  pub slow_ends : (number room need : ℕ) (link : LinkTold) (end : LinkEnd) (ended : HasEnded Tells setting events number link end) → ended.cause ≡ Slow room need
      → end.complete ≡ (room == outbox_limit setting.buffer)
  slow_ends number room need link end ended this =
      let fills : room + ended.left ≡ outbox_limit setting.buffer = subst (λ (w : Why). LeavesSo (outbox_limit setting.buffer) w ended.left) this ended.leaves in
      ended.complete ∙ elim (eqb_tells ended.left 0) [
        | inl none ↦ none.0 ∙ sym (eq-eqb room (outbox_limit setting.buffer) (omega (arith, fills, none.1)))
        | inr some ↦ some.0 ∙ sym (ne_eqb room (outbox_limit setting.buffer) (λ same. some.1 (omega (arith, fills, same))))
      ]
