-- How the clients of a server that closed went: what is known of them step by step, at its begin and in the end.
use Rattle.std.proofs.Common.{◌≡◌, ◌+◌, ◌<◌, ◌≤◌, ◌==◌, ℕ, Bool, true, inl, inr, List, [], ◌∷◌, ◌++◌, length, map, slice_get, length-append, Option, Some, None, is_some, refl, sym, ap, ◌∙◌, subst, arith}
use Rattle.std.specs.Prelude.{IsSome}
use Rattle.std.specs.List.{concat}
use Rattle.std.specs.Option.{option_map_or}
use Rattle.dl_bytes.specs.declared.outcome.Ends.{Ends}
use Rattle.dl_bytes.specs.declared.outcome.LinkEnd.{LinkEnd}
use Rattle.dl_core.specs.Follows.{IsAfter, Run, source_of}
use Rattle.dl_core.specs.State.{Core}
use Rattle.dl_events.specs.Journal.{Journaled}
use Rattle.dl_events.specs.declared.event.Event.{Event}
use Rattle.dl_events.specs.declared.event.Event.TheVariants as event
use Rattle.dl_events.specs.declared.event.Why.{Why}
use Rattle.dl_events.specs.declared.event.Why.TheVariants as why
use Rattle.dl_hub.specs.State.{Client as HubClient, Hub, client_of, outbox_of}
use Rattle.dl_model.proofs.Rotation.{length-concat}
use Rattle.dl_lemmas.proofs.Lists.{within_of}
use Rattle.dl_lemmas.proofs.Numbers.{all_or_some}
use Rattle.dl_lemmas.proofs.Options.{one_is, some_is}
use Rattle.dl_model.specs.Backlog.{outbox_limit, size_of}
use Rattle.dl_model.specs.ClientEnds.{IsCause, IsMalformed, LinkDid, end_of_link}
use Rattle.dl_model.specs.ClientStream.{stream as streamed}
use Rattle.dl_model.specs.Frames.{FrameSource}
use Rattle.dl_model.specs.Setting.{Setting}
use Rattle.dl_model.specs.TraceFiles.{StoredFile}
use Rattle.dl_outside.specs.Links.{Links}
use Rattle.dl_outside.specs.Told.{FolderTold, LinkTold}
use Rattle.dl_rounds.specs.Passing.{Did}
use Rattle.dl_rounds.specs.Ready.{fresh_listener}
use Rattle.dl_rounds.proofs.NotedClients.{left_of}
use Rattle.dl_server.specs.State as server
use Rattle.dl_settling.specs.Ends.{end_in, ends_in}
use Rattle.dl_settling.specs.Went.{HasEnded, HaveEnded, HaveGone, TellBytes}
use Rattle.dl_settling.proofs.ShownDrains.{outbox_at}
use Rattle.dl_settling.proofs.WentClients.{client_at, end_at, stream_of}
use Rattle.dl_startup.specs.Setup.{IsBegun}
use Rattle.dl_turns.specs.Gone.{ShowsCause, TellTheEnd}
use Rattle.dl_turns.specs.Later.{HasHeard, LeavesSo}
use Rattle.dl_turns.proofs.HeardSides.{how_many}
use Rattle.dl_turns.proofs.LaterStages.{WhatLinksTake}
use Rattle.dl_machine.specs.State.{Client}
use Rattle.dl_machine.specs.Steps.{Goes, IsToldBy}
use Rattle.dl_machine.proofs.ClientSteps.{TellOvers, client_with, clients_with}
use Rattle.dl_machine.proofs.Joined.{joined_first, joined_length}
use Rattle.dl_serve.proofs.ServerSteps.{state_in, state_of}
use Rattle.dl_machine.proofs.WentClients as known
use Rattle.dl_machine.proofs.WentClients.{Asked, IsTriedFor, StandsBy, frames_in, liked}
use Rattle.dl_machine.proofs.WentSteps.{Known, TellGiven, all_known}
use Rattle.dl_serve.specs.declared.beginning.Begun.{Begun}
use Rattle.dl_serve.specs.declared.closed.Closed.{Closed}
use Rattle.dl_serve.specs.Closed.{IsLeft}
use Rattle.dl_serve.specs.Comes.{run_in}
use Rattle.dl_serve.specs.Open.{setting}
use Rattle.dl_serve.specs.Program.{HasOpened}
use Rattle.dl_serve.specs.Told.{Told}
use Rattle.dl_serve.specs.Went.{EachCloseHasCause}
use Rattle.dl_serve.proofs.CameTo.{what_stood}
use Rattle.dl_serve.proofs.ServingSteps.{first, serving_goes}

module _ {L : Type 0} (told : L → LinkTold) where
  abbrev Kind : LinkTold → Type 0
  Kind link = IsToldBy told link

  tells : TellBytes told → TellGiven Kind
  tells all = λ other is. subst (λ (l : LinkTold). IsSome l.given × IsSome l.taken) (sym is.1) (all is.0)

  overs : TellTheEnd told → TellOvers Kind
  overs all = λ other is. subst (λ (l : LinkTold). IsSome l.over) (sym is.1) (all is.0)

  -- ---- in the end

  module _ (run : Run) (core : Core) (kept : Option (List Event)) (links : List LinkTold) (clients : List Client) (k : Known Kind run core kept clients) (many : length clients ≡ length links)
      (with_link : (place : ℕ) (link : LinkTold) → slice_get links place ≡ Some link → (client : Client) × (slice_get clients place ≡ Some client) × (client.link ≡ link))
      (none_open : (number : ℕ) → outbox_of core.hub number ≡ None) where
    abbrev hub : Hub
    hub = core.hub

    abbrev events : List Event
    events = k.all

    -- the client of a link, and what stands at the end of it
    record IsOne (place : ℕ) (link : LinkTold) : Type 0 where
      client : HubClient
      at : client_of hub (place + 1) ≡ Some client
      end_so : slice_get (ends_in hub) place ≡ Some (end_in hub (place + 1))
      taken : TellBytes told → link.taken ≡ Some (k.took (place + 1))
      gone : known.HasGone (TellGiven Kind) (TellOvers Kind) run events (k.took (place + 1)) (place + 1) link
      frames : client.frames ≡ length (frames_in run (place + 1) events)
      bytes : client.bytes ≡ size_of (frames_in run (place + 1) events)
      sizes : size_of (frames_in run (place + 1) events) ≡ length (k.took (place + 1)) + client.left
      left : client.left ≡ length gone.left

    one_of : (place : ℕ) (link : LinkTold) → slice_get links place ≡ Some link → IsOne place link
    one_of place link there =
        let below : place < length hub.clients = omega (arith, within_of links place link there, k.many, many) in
        let c = client_at hub place below in
        let number : 1 + place ≡ place + 1 = omega arith in
        let its = with_link place link there in
        let same : frames_in k.now (place + 1) events ≡ frames_in run (place + 1) events = (λ i. streamed (k.like.source i) (k.like.buffer i) (place + 1) events) in
        let stands = liked (TellGiven Kind) (TellOvers Kind) k.now run (record { source = sym k.like.source; buffer = sym k.like.buffer }) events k.took hub (place + 1) its.0 (k.each place its.0 its.1) in
        let gone_of : known.HasGone (TellGiven Kind) (TellOvers Kind) run events (k.took (place + 1)) (place + 1) its.0.link =
        subst (λ (b : Bool). StandsBy (TellGiven Kind) (TellOvers Kind) b run events (k.took (place + 1)) (place + 1) its.0) (ap is_some (none_open (place + 1))) stands.stands in
        let gone : known.HasGone (TellGiven Kind) (TellOvers Kind) run events (k.took (place + 1)) (place + 1) link = subst (known.HasGone (TellGiven Kind) (TellOvers Kind) run events (k.took (place + 1)) (place + 1)) its.2 gone_of in
        let has = stream_of k.now events k.took core (place + 1) c.0 k.after c.1 in
        let rest = left_of k.now events k.took core (place + 1) c.0 k.after c.1 (sym (outbox_at hub (place + 1) c.0 c.1) ∙ none_open (place + 1)) in
        let all : length (k.took (place + 1) ++ rest.left) ≡ length (k.took (place + 1) ++ gone.left) =
        ap (λ (bytes : List ℕ). length bytes) (sym rest.parts ∙ ap (λ (fs : List (List ℕ)). concat fs) same ∙ gone.parts) in
        let left : c.0.left ≡ length gone.left = omega (arith, all, length-append (k.took (place + 1)) rest.left, length-append (k.took (place + 1)) gone.left, rest.size_is) in
        record {
          client = c.0;
          at = c.1;
          end_so = end_at (end_in hub) 1 (length hub.clients) place below ∙ ap (λ (n : ℕ). Some (end_in hub n)) number;
          taken = λ b. ap (λ (l : LinkTold). l.taken) (sym its.2) ∙ stands.taken (tells b);
          gone = gone;
          frames = has.frames ∙ ap (λ (fs : List (List ℕ)). length fs) same;
          bytes = has.bytes ∙ ap size_of same;
          sizes = omega (arith, length-concat (frames_in run (place + 1) events), ap (λ (bytes : List ℕ). length bytes) gone.parts, length-append (k.took (place + 1)) gone.left, left);
          left = left;
        }

    all_ended : HaveEnded (TellTheEnd told) run.setting events links (ends_in hub)
    all_ended = λ place link end there end_is.
        let one = one_of place link there in
        let c = one.client in
        let gone = one.gone in
        let within : length gone.left ≤ c.bytes = omega (arith, one.sizes, one.bytes, one.left) in
        subst (HasEnded (TellTheEnd told) run.setting events (place + 1) link) (one_is (end_in hub (place + 1)) end (slice_get (ends_in hub) place) one.end_so end_is) (record {
          before = gone.close.before;
          cause = gone.close.cause;
          after = gone.close.after;
          place = gone.close.place;
          left = length gone.left;
          within = subst (λ (n : ℕ). length gone.left ≤ n) (sym (ap (λ (o : Option HubClient). option_map_or (λ (k : HubClient). k.bytes) o 0) one.at)) within;
          complete = ap (λ (o : Option HubClient). option_map_or (λ (k : HubClient). k.left) o 0 == 0) one.at ∙ ap (λ (n : ℕ). n == 0) one.left;
          leaves = gone.leaves;
          asked = λ this. sym (how_many (place + 1) events) ∙ gone.close.limit this;
          counts = gone.shows.counts;
          over = λ o. gone.shows.over (overs o);
        })

    -- the cause is so
    cause_so : (number : ℕ) (link : LinkTold) (did : LinkDid) (left : ℕ) (cause : Why) (source : FrameSource) (before : List Event) → LeavesSo (outbox_limit run.setting.buffer) cause left → ShowsCause link cause → Did link did
        → Asked source before number cause link → (cause ≡ why.Left → did.is_over ≡ true) → IsCause run.setting did left cause
    cause_so number link did left cause source before leaves counts is asked over = by cause leaves counts asked.tried (λ bad. asked.heard_so.bad (ap Some bad)) over where
      given : did.given ≡ asked.given
      given = one_is did.given asked.given link.given is.given asked.told

      tried : 1000 ≤ link.waits + length asked.given → 1000 ≤ did.waits + length did.given
      tried most = omega (arith, most, is.waits, ap (λ (bytes : List ℕ). length bytes) given)

      by : (w : Why) → LeavesSo (outbox_limit run.setting.buffer) w left → ShowsCause link w → IsTriedFor w link asked.given → (w ≡ why.Malformed → IsMalformed asked.given) → (w ≡ why.Left → did.is_over ≡ true)
          → IsCause run.setting did left w
      by why.Left leaves counts tried_so bad over = over refl
      by why.Broken leaves counts tried_so bad over = omega (arith, counts, is.faults)
      by why.Malformed leaves counts tried_so bad over = subst IsMalformed (sym given) (bad refl)
      by (why.Slow room need) leaves counts tried_so bad over = leaves
      by (why.Stuck bytes) leaves counts tried_so bad over = (leaves.0, leaves.1, omega (arith, counts, is.waits), tried tried_so)
      by why.Stopped leaves counts (inl idle) bad over = (leaves, inl (omega (arith, idle, is.idles)))
      by why.Stopped leaves counts (inr most) bad over = (leaves, inr (tried most))
      by why.TooMany leaves counts tried_so bad over = tt
      by why.NoMemory leaves counts tried_so bad over = tt

    all_gone : TellBytes told → HaveGone run events links (ends_in hub)
    all_gone b = record {
      gone = λ place link did there is over.
          let one = one_of place link there in
          let gone = one.gone in
          let asked = gone.shows.asked (tells b) in
          let given : asked.given ≡ did.given = one_is asked.given did.given link.given asked.told is.given in
          let close = gone.close in
          let heard = subst (λ (bytes : List ℕ). HasHeard (source_of run) close.before (place + 1) (Some close.cause) bytes) given asked.heard_so in
          record {
            before = close.before;
            cause = close.cause;
            after = close.after;
            place = close.place;
            left = gone.left;
            took = gone.parts ∙ ap (λ (bytes : List ℕ). bytes ++ gone.left) (one_is (k.took (place + 1)) did.taken link.taken (one.taken b) is.taken);
            so = cause_so (place + 1) link did (length gone.left) close.cause (source_of run) close.before gone.leaves gone.shows.counts is asked
                (λ left. over close.before close.after (close.place ∙ ap (λ (w : Why). close.before ++ event.Close (place + 1) w ∷ close.after) left));
            asked = heard.asked;
            malformed = λ bad same. some_is (heard.malformed bad same);
            too_many = λ most full. some_is (heard.too_many most full);
          };
      ended = λ place link did there is.
          let one = one_of place link there in
          let took_so : did.taken ≡ k.took (place + 1) = one_is did.taken (k.took (place + 1)) link.taken is.taken (one.taken b) in
          let size : size_of (frames_in run (place + 1) events) ≡ length did.taken + one.client.left = omega (arith, one.sizes, ap (λ (bytes : List ℕ). length bytes) took_so) in
          let its : end_in hub (place + 1) ≡ end_of_link run.setting (source_of run) events (place + 1) did = λ i. record {
            client = place + 1;
            frames = (ap (λ (o : Option HubClient). option_map_or (λ (k : HubClient). k.frames) o 0) one.at ∙ one.frames) i;
            bytes = (ap (λ (o : Option HubClient). option_map_or (λ (k : HubClient). k.bytes) o 0) one.at ∙ one.bytes) i;
            complete = (ap (λ (o : Option HubClient). option_map_or (λ (k : HubClient). k.left) o 0 == 0) one.at
                ∙ all_or_some one.client.left (length did.taken) (size_of (frames_in run (place + 1) events)) size) i;
          } in
          one.end_so ∙ ap Some its;
    }

  -- ---- the whole

  -- a server to which no client had come came to this by steps, and this was left of it
  pub left_went : WhatLinksTake → (set : Setting) (stood : List StoredFile) (old new : server.State) (closed : Closed L) → Goes Kind (state_of old) (state_in true new) → old.events ≡ Some [] → old.clients ≡ []
      → length old.core.hub.clients ≡ 0 → IsAfter (run_in set stood) [] (λ number. []) old.core → ((number : ℕ) → outbox_of new.core.hub number ≡ None) → IsLeft told new closed → EachCloseHasCause told set closed
  left_went takes set stood old new closed goes kept none many after none_open left =
      let run : Run = run_in set [] in
      let at_first : Known Kind run old.core old.events (clients_with old.clients old.listeners) =
      subst (λ (ls : List LinkTold). Known Kind run old.core old.events (clients_with ls old.listeners)) (sym none) (record {
        now = run_in set stood;
        like = record { source = refl; buffer = refl };
        all = [];
        kept = kept;
        took = λ number. [];
        after = after;
        many = many;
        each = λ place client at. absurd (cc at);
      }) in
      let k : Known Kind run new.core new.events (clients_with new.clients new.listeners) = all_known Kind takes run (state_of old) (state_in true new) goes (λ bare. at_first) (record { taken = λ app. refl; reported = refl }) in
      let long : length (clients_with new.clients new.listeners) ≡ length new.clients = joined_length client_with fresh_listener new.clients new.listeners in
      let linked : (place : ℕ) (link : LinkTold) → slice_get new.clients place ≡ Some link → (client : Client) × (slice_get (clients_with new.clients new.listeners) place ≡ Some client) × (client.link ≡ link) =
      (λ place link there. let one = joined_first client_with fresh_listener new.clients new.listeners place link link there in (client_with link one.0, one.1, refl)) in
      let ended = all_ended run new.core new.events new.clients (clients_with new.clients new.listeners) k long linked none_open in
      let gone = all_gone run new.core new.events new.clients (clients_with new.clients new.listeners) k long linked none_open in
      let ends : closed.state.links ≡ ends_in new.core.hub = ap (λ (e : Ends). e.links) left.state in
      let same : k.all ≡ closed.events.events = cc (k.kept, left.events) in
      record {
        ended = subst (λ (es : List LinkEnd). HaveEnded (TellTheEnd told) set closed.events.events (map told closed.clients.links) es) (sym ends)
            (subst (λ (ls : List LinkTold). HaveEnded (TellTheEnd told) set closed.events.events ls (ends_in new.core.hub)) (sym left.clients)
            (subst (λ (es : List Event). HaveEnded (TellTheEnd told) set es new.clients (ends_in new.core.hub)) same ended));
        gone = λ b. subst (λ (es : List LinkEnd). HaveGone run closed.events.events (map told closed.clients.links) es) (sym ends)
            (subst (λ (ls : List LinkTold). HaveGone run closed.events.events ls (ends_in new.core.hub)) (sym left.clients)
            (subst (λ (es : List Event). HaveGone run es new.clients (ends_in new.core.hub)) same (gone b)));
      }

  pub all_went : WhatLinksTake → (begun : Begun) (old new : Told L) (full : Bool) (closed : Closed L) (begin : FolderTold) → IsBegun begun.conf begin.files begun.trace → HasOpened told begun full old new closed
      → EachCloseHasCause told (setting begun) closed
  all_went takes begun old new full closed begin begins has =
      let opened = has.is_opened in
      let made = opened.made in
      let before = what_stood begun.conf begin.files begun.trace begins in
      let run = run_in (setting begun) before.stood in
      left_went takes (setting begun) before.stood (first told begun old new full closed has) has.run.closes.0 closed (serving_goes told begun old new full closed has)
      (ap (λ (j : Journaled). Some j.events) made.journal_is) (ap (λ (ls : Links L). map told ls.links) made.no_client)
      (opened.is_server.linked.many ∙ ap (λ (ls : Links L). length ls.links) made.no_client) (opened.begins run refl refl before.after) has.run.closes.2.clients.none_open has.run.closes.3
