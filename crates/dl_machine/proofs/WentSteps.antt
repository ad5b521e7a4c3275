-- How clients went, step by step: in a run, the core stands for the events, and each client is as they have it.
use Rattle.std.proofs.Common.{◌≡◌, ◌≢◌, ◌<◌, ◌≤◌, ◌+◌, ◌-◌, ◌==◌, ℕ, Bool, true, false, cond, inl, inr, List, [], ◌∷◌, ◌++◌, length, map, slice_get, Option, Some, None, is_some, refl, sym, ap, subst, ◌∙◌, append-nil, length-append, arith}
use Rattle.std.specs.Prelude.{IsSome, IsSomeAnd, option_map, take}
use Rattle.std.specs.List.{AllByRecursion}
use Rattle.std.specs.Option.{option_and_then}
use Rattle.std.proofs.lemmas.Bool.{eq-eqb, ne_eqb}
use Rattle.std.proofs.lemmas.List.{length-map}
use Rattle.std.proofs.lemmas.Option.{slice_get-map}
use Rattle.dl_admission.specs.Admission.{Admits, Entry, KeepsClients, call_entry}
use Rattle.dl_admission.specs.Part.{Part}
use Rattle.dl_admission.specs.Slow.{TellRooms}
use Rattle.dl_admission.proofs.KeptClients.{clients_noted}
use Rattle.dl_admission.proofs.Told.{all_noted, all_of_messages, events_of}
use Rattle.dl_bytes.specs.Limits.{message_limit}
use Rattle.dl_bytes.specs.declared.item.Item.{Item}
use Rattle.dl_bytes.specs.declared.user.UserMsg.TheVariants.{UnregisterApp}
use Rattle.dl_cells.specs.Losses.{report}
use Rattle.dl_core.specs.Admission.{AddsEach, GivesFrames}
use Rattle.dl_core.specs.Follows.{IsAfter, Run}
use Rattle.dl_core.specs.Noting.{Notes}
use Rattle.dl_core.specs.Serving.{reply_now}
use Rattle.dl_core.specs.State.{Core}
use Rattle.dl_core.proofs.Answered.{replies_are}
use Rattle.dl_core.proofs.Noted.{added_one}
use Rattle.dl_events.specs.declared.event.Event.{Event}
use Rattle.dl_events.specs.declared.event.Event.TheVariants as event
use Rattle.dl_events.specs.declared.event.Why.{Why}
use Rattle.dl_events.specs.declared.event.Why.TheVariants as why
use Rattle.dl_hub.specs.Follows.{took_more}
use Rattle.dl_hub.specs.State.{Client as HubClient, Hub, Waiting, bytes_before, changed, client_of, consumed, outbox_of, shut, with_reply, without}
use Rattle.dl_lemmas.proofs.Lists.{empty_of, front_empty, get_end, last_or_before, there_too, within_of}
use Rattle.dl_lemmas.proofs.Options.{nothing_taken, some_is}
use Rattle.dl_message.proofs.Pieces.{short_no_piece}
use Rattle.dl_model.specs.ClientEnds.{asked_by}
use Rattle.dl_model.specs.Report.{closed_of}
use Rattle.dl_model.specs.declared.registry.LevelChange.{LevelChange}
use Rattle.dl_outside.specs.Outside.{Grows}
use Rattle.dl_outside.specs.Told.{FolderTold, LinkTold}
use Rattle.dl_ring.specs.declared.item.RingItem.{RingItem}
use Rattle.dl_ring.specs.declared.item.RingItem.TheVariants.{Log, Register}
use Rattle.dl_rounds.specs.Greetings.{own_channel}
use Rattle.dl_rounds.proofs.ByPlace.{get_before}
use Rattle.dl_taking.specs.Takes.{owned}
use Rattle.dl_taking.specs.Took.{Took, with_items}
use Rattle.dl_trace.specs.State.{Trace}
use Rattle.dl_turns.specs.Later.{HasLeft}
use Rattle.dl_turns.proofs.ClientChanges.{still_open}
use Rattle.dl_turns.proofs.HeardSides.{how_many}
use Rattle.dl_turns.proofs.LaterSides.{others_by}
use Rattle.dl_turns.proofs.LaterStages.{WhatLinksTake, fits}
use Rattle.dl_turns.proofs.LeftBytes.{has_left}
use Rattle.dl_turns.proofs.ServedRequests.{open_served}
use Rattle.dl_machine.specs.State.{AreIdle, Changes, Client, State, new_client}
use Rattle.dl_machine.specs.Steps.{Asked, BeginsOrStays, Came, ClientKind, Closed, Ended, Entered, Forwarded, Gave, Goes, Greeted, IsClientStep, IsProgramStep, IsRingStep, IsStep, Kind, LetGo, Levelled, Noted, OfClient, OfProgram, OfRings, Parted, PartedAll, ProgramKind, Renewed, RingKind, Said, Sent, ShowsOver, ShutOff, Stopping, TookCalls, TookClaim, TookLevels, TookLosses, Unregistered, Wanted, part_of, side_of}
use Rattle.dl_machine.proofs.ClientSteps.{TellOvers, some_and}
use Rattle.dl_machine.proofs.Composed.{steps_keep}
use Rattle.dl_machine.proofs.Joined.{EachNumbered, numbered_changed}
use Rattle.dl_machine.proofs.RenewedRuns.{IsLike, like_both, renewed, renewed_after}
use Rattle.dl_machine.proofs.Standing.{Sizes, changed_length, changed_sizes}
use Rattle.dl_machine.proofs.WentClients.{IsKnown, IsMild, IsOther, admitted_known, aside, asked_open, closed_gone, gave_open, gone_known, its_open, liked, open_known, sent_open, shut_known, stays_as}

-- nothing was taken of rings and loss words
pub record IsBare (took : Took) : Type 0 where
  pub taken : (app : ℕ) → took.taken app ≡ []
  pub reported : took.reported ≡ []

-- ---- clients in the hub

abbrev opened : Option HubClient → Bool
opened o = is_some (option_and_then (λ (c : HubClient). c.outbox) o)

-- of one that changes the others are as open as before
others_open : (number : ℕ) (change : HubClient → HubClient) (old new : Hub) → new ≡ changed number change old → (other : ℕ) → other ≢ number → is_some (outbox_of new other) ≡ is_some (outbox_of old other)
others_open number change old new is other apart = ap (λ (o : Option HubClient). is_some (option_and_then (λ (c : HubClient). c.outbox) o)) (others_by old new number change is other apart)

keeps_many : (more : List Event) (old new : Hub) → KeepsClients more old new → length new.clients ≡ length old.clients
keeps_many more old new keeps =
    sym (length-map new.clients (λ (c : HubClient). c.replies)) ∙ ap (λ (ns : List ℕ). length ns) keeps.replies ∙ length-map old.clients (λ (c : HubClient). c.replies)

hub_at : (hub : Hub) (place : ℕ) (c : HubClient) → slice_get hub.clients place ≡ Some c → client_of hub (place + 1) ≡ Some c
hub_at hub place c at =
    let back : place + 1 - 1 ≡ place = omega arith in
    ap (λ (b : Bool). cond b None (slice_get hub.clients (place + 1 - 1))) (ne_eqb (place + 1) 0 (λ same. absurd (omega (arith, same)))) ∙ ap (λ (i : ℕ). slice_get hub.clients i) back ∙ at

-- what went through a link
grew : (o : Option Waiting) (count : ℕ) (taken taken_now : Option (List ℕ)) → IsSomeAnd o (λ w. (count ≤ length w.bytes) × Grows taken taken_now (take count w.bytes)) → Grows taken taken_now (bytes_before count o)
grew None count taken taken_now sent = absurd sent
grew (Some w) count taken taken_now sent = sent.1

-- where nothing was taken in the end, nothing was before, and no more than that
back_empty : {A : Type 0} (xs ys : List A) → xs ++ ys ≡ [] → ys ≡ []
back_empty [] ys none = none
back_empty (x ∷ xs) ys none = absurd (cc none)

bare_before : (app : ℕ) (items : List RingItem) (took : Took) → IsBare (with_items app items took) → (items ≡ []) × IsBare took
bare_before app items took bare = (
  back_empty (took.taken app) items (subst (λ (b : Bool). cond b (took.taken app ++ items) (took.taken app) ≡ []) (eq-eqb app app refl) (bare.taken app)),
  record { taken = λ other. by (other == app) (took.taken other) (bare.taken other); reported = bare.reported },
) where
  by : (b : Bool) (xs : List RingItem) → cond b (xs ++ items) xs ≡ [] → xs ≡ []
  by true xs none = front_empty xs items none
  by false xs none = none

-- one of many in the hub has changed
changed_many : (number : ℕ) (change : HubClient → HubClient) (hub : Hub) → length (changed number change hub).clients ≡ length hub.clients
changed_many number change hub = ap (λ (s : Sizes). s.came) (changed_sizes number change hub)

module _ (IsTold : LinkTold → Type 0) where
  -- links that are told like this tell what they gave and took
  abbrev pub TellGiven : Type 0
  TellGiven = (other : LinkTold) → IsTold other → IsSome other.given × IsSome other.taken

  abbrev pub Is : Run → List Event → (ℕ → List ℕ) → Hub → ℕ → Client → Type 0
  Is run events took hub number client = IsKnown TellGiven (TellOvers IsTold) run events took hub number client

  -- In a run like this one the core stands for the events that are kept, and for what the links of clients took. Each client has its link, and is as the events have it.
  pub record Known (run : Run) (core : Core) (events : Option (List Event)) (clients : List Client) : Type 0 where
    pub now : Run
    pub like : IsLike run now
    pub all : List Event
    pub kept : events ≡ Some all
    pub took : ℕ → List ℕ
    pub after : IsAfter now all took core
    pub many : length core.hub.clients ≡ length clients
    pub each : EachNumbered (λ number client. Is now all took core.hub number client) clients

  -- ---- these events were noted, in each run

  module _ (run : Run) (old new : Core) (events events_now : Option (List Event)) (more : List Event) (adds : AddsEach events events_now more)
      (after : (now : Run) (past : List Event) (took : ℕ → List ℕ) → IsAfter now past took old → IsAfter now (past ++ more) took new) where
    with_each : (clients clients_now : List Client) → length new.hub.clients ≡ length clients_now
        → ((now : Run) (past : List Event) (took : ℕ → List ℕ) → IsAfter now past took old → EachNumbered (λ number client. Is now past took old.hub number client) clients
        → EachNumbered (λ number client. Is now (past ++ more) took new.hub number client) clients_now) → Known run old events clients → Known run new events_now clients_now
    with_each clients clients_now many each k = record {
      now = k.now;
      like = k.like;
      all = k.all ++ more;
      kept = subst (λ (o : Option (List Event)). AddsEach o events_now more) k.kept adds;
      took = k.took;
      after = after k.now k.all k.took k.after;
      many = many;
      each = each k.now k.all k.took k.after k.each;
    }

    aside_all : (clients : List Client) → ((number : ℕ) → AllByRecursion (IsOther number) more) → KeepsClients more old.hub new.hub → ((number : ℕ) → is_some (outbox_of new.hub number) ≡ is_some (outbox_of old.hub number))
        → Known run old events clients → Known run new events_now clients
    aside_all clients others keeps same k = with_each clients clients (keeps_many more old.hub new.hub keeps ∙ k.many)
        (λ now past took is all place client at. aside _ _ now past more took took old new.hub is (place + 1) client (others (place + 1)) refl (same (place + 1)) (all place client at)) k

    admitted_all : (clients : List Client) → AreIdle clients → AllByRecursion IsMild more → ((now : Run) (past : List Event) (took : ℕ → List ℕ) → IsAfter now past took old → TellRooms now took past more)
        → KeepsClients more old.hub new.hub → Known run old events clients → Known run new events_now clients
    admitted_all clients idle mild rooms keeps k = with_each clients clients (keeps_many more old.hub new.hub keeps ∙ k.many)
        (λ now past took is all place client at. admitted_known _ _ now past more took old new is mild (rooms now past took is) keeps (place + 1) client (idle place client at) (all place client at)) k

    -- one client has changed
    one_changed : (number : ℕ) (was client : Client) (clients clients_now : List Client) → 1 ≤ number → Changes number was client clients clients_now → length new.hub.clients ≡ length old.hub.clients
        → ((other : ℕ) → other ≢ number → AllByRecursion (IsOther other) more) → ((other : ℕ) → other ≢ number → is_some (outbox_of new.hub other) ≡ is_some (outbox_of old.hub other))
        → ((now : Run) (past : List Event) (took : ℕ → List ℕ) → IsAfter now past took old → Is now past took old.hub number was → Is now (past ++ more) took new.hub number client)
        → Known run old events clients → Known run new events_now clients_now
    one_changed number was client clients clients_now low c many others same one k = with_each clients clients_now (many ∙ k.many ∙ sym (changed_length number was client clients clients_now c))
        (λ now past took is all. numbered_changed (λ n x. Is now past took old.hub n x) (λ n x. Is now (past ++ more) took new.hub n x) number was client clients clients_now low c
        (λ other x above apart h. aside _ _ now past more took took old new.hub is other x (others other apart) refl (same other apart) h) (one now past took is) all) k

  -- ---- nothing was noted, and one client has changed

  one_here : (run : Run) (core : Core) (events : Option (List Event)) (number : ℕ) (was client : Client) (clients clients_now : List Client) → 1 ≤ number → Changes number was client clients clients_now
      → ((now : Run) (past : List Event) (took : ℕ → List ℕ) → Is now past took core.hub number was → Is now past took core.hub number client) → Known run core events clients → Known run core events clients_now
  one_here run core events number was client clients clients_now low c one k = record {
    now = k.now;
    like = k.like;
    all = k.all;
    kept = k.kept;
    took = k.took;
    after = k.after;
    many = k.many ∙ sym (changed_length number was client clients clients_now c);
    each = numbered_changed (λ n x. Is k.now k.all k.took core.hub n x) (λ n x. Is k.now k.all k.took core.hub n x) number was client clients clients_now low c (λ other x above apart h. h) (one k.now k.all k.took) k.each;
  }

  same_part : (run : Run) (old new : Core) (events events_now : Option (List Event)) (clients : List Client) → new ≡ old → events_now ≡ events → Known run old events clients → Known run new events_now clients
  same_part run old new events events_now clients core same k =
      subst (λ (c : Core). Known run c events_now clients) (sym core) (subst (λ (o : Option (List Event)). Known run old o clients) (sym same) k)

  of_part : (run : Run) (old new : State) → part_of new ≡ part_of old → Known run old.core old.events old.clients → Known run new.core new.events old.clients
  of_part run old new same k = same_part run old.core new.core old.events new.events old.clients (ap (λ (p : Part). p.core) same) (ap (λ (p : Part). p.events) same) k

  -- ---- a client came

  came_known : (run : Run) (number : ℕ) (link : LinkTold) (old new : State) → IsStep IsTold (Came number link) old new → Known run old.core old.events old.clients → Known run new.core new.events (old.clients ++ new_client link ∷ [])
  came_known run number link old new step k =
      let connects = step.2 in
      let c : HubClient = connects.comes.0 in
      let clients : new.core.hub.clients ≡ old.core.hub.clients ++ c ∷ [] = connects.comes.1 in
      let more : List Event = event.Connect number ∷ [] in
      let longer : length (old.clients ++ new_client link ∷ []) ≡ length old.clients + 1 = length-append old.clients (new_client link ∷ []) in
      let came : length new.core.hub.clients ≡ length old.core.hub.clients + 1 = ap (λ (cs : List HubClient). length cs) clients ∙ length-append old.core.hub.clients (c ∷ []) in
      with_each run old.core new.core old.events new.events more (added_one old.events new.events (event.Connect number) (event.Connect number) refl connects.event)
      (λ now past took is. (connects.after old.folder now past took tt is).0) old.clients (old.clients ++ new_client link ∷ []) (omega (arith, longer, came, k.many))
      (λ now past took is all place client at.
      let is_now : IsAfter now (past ++ more) took new.core = (connects.after old.folder now past took tt is).0 in
      last_or_before old.clients (new_client link) client place at (Is now (past ++ more) took new.core.hub (place + 1) client)
      (λ before.
      let below : place + 1 - 1 < length old.core.hub.clients = (let within = k.many in omega (arith, within, within_of old.clients place client before)) in
      aside _ _ now past more took took old.core new.core.hub is (place + 1) client ((λ same. absurd (omega (arith, same, connects.next, below))), tt) refl
      (ap (λ (o : Option HubClient). opened (cond (place + 1 == 0) None o)) (ap (λ (cs : List HubClient). slice_get cs (place + 1 - 1)) clients ∙ get_before old.core.hub.clients (c ∷ []) (place + 1 - 1) below)) (all place client before))
      (λ last same. subst (λ (x : Client). Is now (past ++ more) took new.core.hub (place + 1) x) same
      (let at_end : slice_get new.core.hub.clients place ≡ Some c =
      ap (λ (cs : List HubClient). slice_get cs place) clients ∙ ap (λ (i : ℕ). slice_get (old.core.hub.clients ++ c ∷ []) i) (last ∙ sym k.many) ∙ get_end old.core.hub.clients c in
      let there : client_of new.core.hub (place + 1) ≡ Some c = hub_at new.core.hub place c at_end in
      let none : asked_by (place + 1) (past ++ more) ≡ [] =
      empty_of (asked_by (place + 1) (past ++ more)) (how_many (place + 1) (past ++ more) ∙ sym (replies_are now (past ++ more) took new.core (place + 1) c is_now there) ∙ connects.comes.3) in
      open_known _ _ now (past ++ more) took new.core.hub (place + 1) (new_client link) (ap opened there ∙ connects.comes.2)
      (λ tells. nothing_taken link.taken (tells link step.1).1 step.0.nothing_taken ∙ ap Some (sym (is.hub.untaken (place + 1) (omega (arith, last, k.many)))))
      (record {
        due = tt;
        reads = λ tells. record {
          given = [];
          told = nothing_taken link.given (tells link step.1).0 step.0.nothing_given;
          asked = ap (λ (fs : List (List ℕ)). fs ++ []) (sym none);
          cut = record { limit = refl; rest = refl; good = record { good = refl; ends = short_no_piece message_limit [] (inl (omega arith)) } };
          tried = omega arith;
        };
      })))) k

  -- ---- clients

  module _ (takes : WhatLinksTake) where
    sent_known : (run : Run) (number : ℕ) (due : Option Why) (link : LinkTold) (old new : State) → 1 ≤ number → IsClientStep number (Sent due link) old new → Known run old.core old.events old.clients
        → Known run new.core new.events new.clients
    sent_known run number due link old new low step k =
        let was : Client = step.0 in
        let client : Client = record was { link = link; due = due; turn = step.1 } in
        let count : ℕ = step.3.count in
        let sent : List ℕ = bytes_before count (outbox_of old.core.hub number) in
        let took : ℕ → List ℕ = took_more k.took number sent in
        let left : new.core.hub ≡ changed number (without count) old.core.hub = step.3.left in
        let core : new.core ≡ record old.core { hub = changed number (without count) old.core.hub } = ap (λ (p : Part). p.core) step.6 ∙ ap (λ (h : Hub). record old.core { hub = h }) left in
        let here : took number ≡ k.took number ++ sent = ap (λ (b : Bool). cond b (k.took number ++ sent) (k.took number)) (eq-eqb number number refl) in
        let there : IsSome (outbox_of old.core.hub number) = some_and _ (outbox_of old.core.hub number) step.3.sent in
        let still : IsSome (outbox_of new.core.hub number) = subst (λ (h : Hub). IsSome (outbox_of h number)) (sym left) (still_open old.core.hub number (without count) (λ c some. kept count c.outbox some) there) in
        let its = its_open _ _ k.now k.all k.took old.core.hub number was there in
        record {
          now = k.now;
          like = k.like;
          all = k.all;
          kept = ap (λ (p : Part). p.events) step.6 ∙ k.kept;
          took = took;
          after = subst (λ (c : Core). IsAfter k.now k.all took c) (sym core) (takes k.now k.all k.took old.core count number k.after (fits (outbox_of old.core.hub number) count was.link.taken link.taken step.3.sent));
          many = ap (λ (h : Hub). length h.clients) left ∙ changed_many number (without count) old.core.hub ∙ k.many ∙ sym (changed_length number was client old.clients new.clients step.2);
          each = numbered_changed (λ n x. Is k.now k.all k.took old.core.hub n x) (λ n x. Is k.now k.all took new.core.hub n x) number was client old.clients new.clients low step.2
              (λ other x above apart h. subst (λ (es : List Event). Is k.now es took new.core.hub other x) (append-nil k.all)
              (aside _ _ k.now k.all [] k.took took old.core new.core.hub k.after other x tt (ap (λ (b : Bool). cond b (k.took other ++ sent) (k.took other)) (ne_eqb other number apart))
              (others_open number (without count) old.core.hub new.core.hub left other apart) h))
              (λ h. open_known _ _ k.now k.all took new.core.hub number client still
              (λ tells. subst (λ (o : Option (List ℕ)). Grows o link.taken sent) (h.taken tells) (grew (outbox_of old.core.hub number) count was.link.taken link.taken step.3.sent) ∙ ap Some (sym here))
              (sent_open _ _ k.all number was link due step.1 new.core step.5 step.4 step.7 step.8 step.9 (its h))) k.each;
        }
      where
        kept : (count : ℕ) (o : Option Waiting) → IsSome o → IsSome (option_map (consumed count) o)
        kept count None some = absurd (cc some)
        kept count (Some w) some = refl

    client_known : (run : Run) (number : ℕ) (kind : ClientKind) (old new : State) → 1 ≤ number → IsClientStep number kind old new → ShowsOver IsTold kind → Known run old.core old.events old.clients
        → Known run new.core new.events new.clients
    client_known run number (Gave due link cut) old new low step over k =
        same_part run old.core new.core old.events new.events new.clients (ap (λ (p : Part). p.core) step.9) (ap (λ (p : Part). p.events) step.9)
        (one_here run old.core old.events number step.0 _ old.clients new.clients low step.2
        (λ now past took h. open_known _ _ now past took old.core.hub number _ step.12 (λ tells. stays_as step.0.link.taken link.taken (took number) step.6.untaken (h.taken tells))
        (gave_open _ _ past number step.0 link cut due step.1 step.3 step.4 step.6 step.7 step.8 step.10 step.11 (left_over due over) (its_open _ _ now past took old.core.hub number step.0 step.12 h))) k)
      where
        left_over : (o : Option Why) → ShowsOver IsTold (Gave o link cut) → o ≡ Some why.Left → TellOvers IsTold → link.over ≡ Some true
        left_over o shows is = subst (λ (d : Option Why). ShowsOver IsTold (Gave d link cut)) is shows
    client_known run number (Asked frame) old new low step over k =
        let asks = step.2 in
        let serves = asks.serves in
        let e : Event = event.Request asks.ready.client asks.ready.frame serves.answer in
        let reply : List ℕ = reply_now old.core asks.ready.frame serves.answer in
        let hub : new.core.hub ≡ changed number (with_reply reply) old.core.hub = serves.reply ∙ ap (λ (n : ℕ). changed n (with_reply reply) old.core.hub) asks.of_client in
        one_changed run old.core new.core old.events new.events (e ∷ []) (added_one old.events new.events e e refl serves.notes) (λ now past took is. (serves.after now past took tt is).0) number step.3 _ old.clients new.clients low step.6
        (ap (λ (h : Hub). length h.clients) hub ∙ changed_many number (with_reply reply) old.core.hub) (λ other apart. ((λ same. apart (sym same ∙ asks.of_client)), tt))
        (others_open number (with_reply reply) old.core.hub new.core.hub hub)
        (λ now past took is h. open_known _ _ now (past ++ e ∷ []) took new.core.hub number _ (open_served old.core.hub new.core.hub number reply hub asks.few.0) h.taken
        (asked_open _ _ past number step.3 frame step.4 asks.ready.client asks.ready.frame serves.answer asks.of_client asks.of_frame step.5 (its_open _ _ now past took old.core.hub number step.3 asks.few.0 h))) k
    client_known run number (Sent due link) old new low step over k = sent_known run number due link old new low step k
    client_known run number (Closed cause) old new low step over k =
        let closes = step.4 in
        let hub : new.core.hub ≡ changed number shut old.core.hub = ap (λ (c : Core). c.hub) closes.core in
        let left : HasLeft number cause new.core.hub = has_left number cause (side_of old step.3) (side_of new step.3) closes in
        let after : (now : Run) (past : List Event) (took : ℕ → List ℕ) → IsAfter now past took old.core → IsAfter now (past ++ event.Close number cause ∷ []) took new.core =
        (λ now past took is. (closes.after old.folder now past took tt is).0) in
        one_changed run old.core new.core old.events new.events (event.Close number cause ∷ []) closes.events after number step.0 _ old.clients new.clients low step.2
        (ap (λ (h : Hub). length h.clients) hub ∙ changed_many number shut old.core.hub) (λ other apart. (tt, tt)) (others_open number shut old.core.hub new.core.hub hub)
        (λ now past took is h. gone_known _ _ now (past ++ event.Close number cause ∷ []) took new.core.hub number _ (none_left _ (client_of new.core.hub number) left) h.taken
        (closed_gone _ _ now past took old new number cause step.0 is (after now past took is) step.1 left (its_open _ _ now past took old.core.hub number step.0 (some_and _ (outbox_of old.core.hub number) closes.limit) h))) k
      where
        none_left : (P : HubClient → Type 0) (o : Option HubClient) → IsSomeAnd o (λ c. (c.outbox ≡ None) × P c) → opened o ≡ false
        none_left P None has = absurd has
        none_left P (Some c) has = ap is_some has.0
    client_known run number (Parted link) old new low step over k =
        same_part run old.core new.core old.events new.events new.clients (ap (λ (p : Part). p.core) step.3) (ap (λ (p : Part). p.events) step.3)
        (one_here run old.core old.events number step.0 _ old.clients new.clients low step.1 (λ now past took h. shut_known _ _ now past took old.core.hub number step.0 link step.2 h) k)

  -- the links of all that have gone were shut
  module _ (run : Run) (old new : State) (step : IsStep IsTold PartedAll old new) (k : Known run old.core old.events old.clients) where
    long : length new.clients ≡ length old.clients
    long = sym (length-map new.clients (λ (c : Client). c.due)) ∙ ap (λ (xs : List (Option Why)). length xs) step.2 ∙ length-map old.clients (λ (c : Client). c.due)

    linked : (cs : List Client) (place : ℕ) (c : Client) → slice_get cs place ≡ Some c → slice_get (map (λ (x : Client). x.link) cs) (place + 1 - 1) ≡ Some c.link
    linked cs place c at =
        let back : place + 1 - 1 ≡ place = omega arith in
        ap (λ (i : ℕ). slice_get (map (λ (x : Client). x.link) cs) i) back ∙ slice_get-map (λ (x : Client). x.link) cs place ∙ ap (λ (o : Option Client). option_map (λ (x : Client). x.link) o) at

    seen : {B : Type 0} (f : Client → B) → map f new.clients ≡ map f old.clients → (place : ℕ) (was client : Client) → slice_get old.clients place ≡ Some was → slice_get new.clients place ≡ Some client → f client ≡ f was
    seen f same place was client at at_now = some_is
        (sym (slice_get-map f new.clients place ∙ ap (λ (o : Option Client). option_map f o) at_now) ∙ ap (λ (xs : List _). slice_get xs place) same ∙ slice_get-map f old.clients place ∙ ap (λ (o : Option Client). option_map f o) at)

    one_parted : (place : ℕ) (was client : Client) → slice_get old.clients place ≡ Some was → slice_get new.clients place ≡ Some client → (o : Option Waiting) → outbox_of old.core.hub (place + 1) ≡ o
        → Is k.now k.all k.took old.core.hub (place + 1) was → Is k.now k.all k.took old.core.hub (place + 1) (record was { link = client.link })
    one_parted place was client at at_now (Some w) some h =
        let same : client.link ≡ was.link = some_is (sym (linked new.clients place client at_now) ∙ step.0.others (place + 1) (omega arith) (inr (ap is_some some)) ∙ linked old.clients place was at) in
        subst (λ (l : LinkTold). Is k.now k.all k.took old.core.hub (place + 1) (record was { link = l })) (sym same) h
    one_parted place was client at at_now None none h =
        shut_known _ _ k.now k.all k.took old.core.hub (place + 1) was client.link
        (step.0.gone (place + 1) was.link client.link (omega arith) (omega (arith, within_of old.clients place was at, length-map old.clients (λ (x : Client). x.link))) none (linked old.clients place was at)
        (linked new.clients place client at_now)) h

    parted_known : Known run old.core old.events new.clients
    parted_known = record {
      now = k.now;
      like = k.like;
      all = k.all;
      kept = k.kept;
      took = k.took;
      after = k.after;
      many = k.many ∙ sym long;
      each = λ place client at.
          let was = there_too old.clients new.clients place client long at in
          let is : client ≡ record was.0 { link = client.link } = λ i. record {
            link = client.link;
            cutter = seen (λ (c : Client). c.cutter) step.1 place was.0 client was.1 at i;
            due = seen (λ (c : Client). c.due) step.2 place was.0 client was.1 at i;
            turn = seen (λ (c : Client). c.turn) step.4 place was.0 client was.1 at i;
          } in
          subst (λ (c : Client). Is k.now k.all k.took old.core.hub (place + 1) c) (sym is) (one_parted place was.0 client was.1 at (outbox_of old.core.hub (place + 1)) refl (k.each place was.0 was.1));
    }

  -- ---- what is noted of programs, and of this process

  noted_known : {Leaves : Option Trace → Option Trace → FolderTold → FolderTold → Type 0} (run : Run) (e : Event) (count : ℕ) (old new : State)
      → Notes (e ∷ []) (λ run. Unit {0}) count Leaves old.core new.core old.folder new.folder old.events new.events → ((number : ℕ) → closed_of number e ≡ None) → ((number : ℕ) → IsOther number e)
      → Known run old.core old.events old.clients → Known run new.core new.events old.clients
  noted_known run e count old new notes none others k =
      let keeps = clients_noted e old.core.hub new.core.hub none notes.same notes.replies notes.still_open in
      aside_all run old.core new.core old.events new.events (e ∷ []) notes.event (λ now past took is. (notes.after now past took tt is).0) old.clients (λ number. (others number, tt)) keeps
      (λ number. keeps.stay number (rw (none number) refl)) k

  level_known : (run : Run) (change : LevelChange) (old new : State) → IsStep IsTold (Levelled change) old new → Known run old.core old.events old.clients → Known run new.core new.events old.clients
  level_known run change old new step k =
      let one = step.0 in
      let e : Event = event.Level change.slot change.level in
      let hub : new.core.hub ≡ old.core.hub = ap (λ (c : Core). c.hub) one.core in
      let keeps : KeepsClients (e ∷ []) old.core.hub new.core.hub =
      subst (KeepsClients (e ∷ []) old.core.hub) (sym hub) (clients_noted e old.core.hub old.core.hub (λ number. refl) (record { ecu = refl; buffer = refl; limit = refl }) refl refl) in
      aside_all run old.core new.core old.events new.events (e ∷ []) one.events (λ now past took is. (one.after old.folder now past took tt is).0) old.clients (λ number. (tt, tt)) keeps
      (λ number. ap (λ (h : Hub). is_some (outbox_of h number)) hub) k

  admits_known : {entries : List Entry} {Gives : Run → Type 0} {frames : ℕ} (run : Run) (old new : State) (admits : Admits entries Gives frames (part_of old) (part_of new)) → ((now : Run) → Gives now)
      → AreIdle old.clients → AllByRecursion IsMild admits.more → Known run old.core old.events old.clients → Known run new.core new.events old.clients
  admits_known run old new admits gives idle mild k =
      admitted_all run old.core new.core old.events new.events admits.more admits.events (λ now past took is. (admits.after now past took (gives now) is).0) old.clients idle mild
      (λ now past took is. admits.rooms now past took (gives now) is) admits.clients k

  program_known : (run : Run) (number : ℕ) (kind : ProgramKind) (old new : State) → IsProgramStep number kind old new → Known run old.core old.events old.clients → Known run new.core new.events old.clients
  program_known run number (Said ends link inbox msgs) old new step k = of_part run old new step.11 k
  program_known run number (Forwarded moment msgs) old new step k =
      admits_known run old new step.1 (λ now. tt) step.4 (all_of_messages old.core.ecu moment number IsMild msgs step.1.more (λ need slow. tt) (λ msg. tt) step.1.noted) k
  program_known run number (Noted moment msg) old new step k = noted_known run (event.User number msg moment) _ old new step.1.notes (λ n. refl) (λ n. tt) k
  program_known run number (Unregistered moment apid) old new step k = noted_known run (event.User number (UnregisterApp apid 0) moment) _ old new step.1.notes (λ n. refl) (λ n. tt) k
  program_known run number (TookLevels ends link) old new step k = of_part run old new step.5 k
  program_known run number (ShutOff link) old new step k = of_part run old new step.4 k
  program_known run number Ended old new step k = of_part run old new step.3 k

  rings_known : (run : Run) (kind : RingKind) (old new : State) → IsRingStep kind old new → IsBare new.took → (IsBare old.took → Known run old.core old.events old.clients) → Known run new.core new.events old.clients
  rings_known run (TookCalls app moment items) old new step bare k =
      let before = bare_before app (map Log items) old.took (subst IsBare step.1 bare) in
      let none : items ≡ [] = empty_of items (sym (length-map items Log) ∙ ap (λ (xs : List RingItem). length xs) before.0) in
      admits_known run old new step.0 (λ now. subst (λ (is : List Item). GivesFrames (map (owned app) is) now) (sym none) tt) step.2
      (all_noted IsMild (λ need slow. tt) _ step.0.more (subst (λ (is : List Item). AllByRecursion IsMild (events_of (map (call_entry old.core.ecu moment) (map (owned app) is)))) (sym none) tt) step.0.noted) (k before.1)
  rings_known run (TookClaim app moment claim) old new step bare k = absurd (cc (bare_before app (Register claim ∷ []) old.took (subst IsBare step.4 bare)).0)
  rings_known run (TookLosses app moment apid count) old new step bare k = absurd (cc (back_empty old.took.reported (report app count ∷ []) (subst IsBare step.1 bare).reported))
  rings_known run (Greeted moment msg) old new step bare k = noted_known run (event.User own_channel msg moment) _ old new step.0 (λ n. refl) (λ n. tt) (k (subst IsBare step.2 bare))

  -- a trace was begun anew
  renewed_known : (run : Run) (old new : State) → BeginsOrStays old new → Known run old.core old.events old.clients → Known run new.core old.events old.clients
  renewed_known run old new (inl same) k = same_part run old.core new.core old.events old.events old.clients same refl k
  renewed_known run old new (inr anew) k =
      let now : Run = renewed k.now k.all k.took old.core anew.0 anew.1 anew.3 anew.4 k.after anew.5 in
      let so = renewed_after k.now k.all k.took old.core anew.0 anew.1 anew.3 anew.4 k.after anew.5 in
      subst (λ (c : Core). Known run c old.events old.clients) (sym anew.2) (record {
        now = now;
        like = like_both run k.now now k.like so.0;
        all = k.all;
        kept = k.kept;
        took = k.took;
        after = so.1;
        many = k.many;
        each = λ place client at. liked _ _ k.now now so.0 k.all k.took old.core.hub (place + 1) client (k.each place client at);
      })

  -- ---- each kind

  -- where nothing was taken of this process
  abbrev pub AreKnown : Run → State → Type 0
  AreKnown run s = IsBare s.took → Known run s.core s.events s.clients

  module _ (takes : WhatLinksTake) (run : Run) where
    pub step_keeps : (kind : Kind) (old new : State) → IsStep IsTold kind old new → AreKnown run old → AreKnown run new
    step_keeps (Came number link) old new step k = subst (AreKnown run) (sym step.3) (λ bare. came_known run number link old new step (k bare))
    step_keeps (Entered number link) old new step k = subst (AreKnown run) (sym step.3) k
    step_keeps LetGo old new step k = subst (AreKnown run) (sym step.1) k
    step_keeps Wanted old new step k = subst (AreKnown run) (sym step) k
    step_keeps (Levelled change) old new step k = subst (AreKnown run) (sym step.1) (λ bare. level_known run change old new step (k bare))
    step_keeps (OfClient number kind) old new step k = subst (AreKnown run) (sym step.2) (λ bare. client_known takes run number kind old new step.0 step.1 step.3 (k bare))
    step_keeps (OfProgram number kind) old new step k = subst (AreKnown run) (sym step.2) (λ bare. program_known run number kind old new step.1 (k bare))
    step_keeps (OfRings kind) old new step k = subst (AreKnown run) (sym step.1) (λ bare. rings_known run kind old new step.0 bare k)
    step_keeps PartedAll old new step k = subst (AreKnown run) (sym step.3) (λ bare. parted_known run old new step (k bare))
    step_keeps Renewed old new step k = subst (AreKnown run) (sym step.1) (λ bare. renewed_known run old new step.0 (k bare))
    step_keeps Stopping old new step k = subst (AreKnown run) (sym step) k

    pub all_known : (old new : State) → Goes IsTold old new → AreKnown run old → AreKnown run new
    all_known old new goes k = steps_keep IsTold (AreKnown run) step_keeps goes.kinds old new goes.steps k
