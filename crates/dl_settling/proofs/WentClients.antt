-- How clients went by the end of a stop, and the ends of their links.
use Rattle.std.proofs.Common.{◌≡◌, ℕ, zero, suc, ◌+◌, ◌-◌, ◌<◌, ◌==◌, Bool, false, cond, eqb, List, [], ◌∷◌, ◌++◌, length, map, slice_get, length-append, Option, Some, None, is_some, refl, sym, ap, ◌∙◌, subst, arith}
use Rattle.std.specs.Prelude.{IsSome}
use Rattle.std.specs.List.{range_with_len}
use Rattle.std.specs.Option.{option_and_then, option_map_or}
use Rattle.std.proofs.lemmas.Bool.{ne_eqb}
use Rattle.std.proofs.lemmas.List.{length-map}
use Rattle.std.proofs.lemmas.List.FromFn.{length-range_with_len}
use Rattle.dl_bytes.specs.declared.conf.AppSpec.{AppSpec}
use Rattle.dl_bytes.specs.declared.outcome.LinkEnd.{LinkEnd}
use Rattle.dl_events.specs.declared.event.Event.{Event}
use Rattle.dl_model.specs.Backlog.{size_of}
use Rattle.dl_model.specs.ClientEnds.{HasGone, LinkDid, end_of_link}
use Rattle.dl_model.specs.ClientStream.{sent, stream, traffic}
use Rattle.dl_outside.specs.Links.{Links}
use Rattle.dl_outside.specs.Outside.{Stays}
use Rattle.dl_outside.specs.Told.{FolderTold, LinkTold}
use Rattle.dl_model.proofs.Rotation.{length-concat}
use Rattle.dl_account.specs.State.{AccountState, ClosingState}
use Rattle.dl_hub.specs.State.{Client as HubClient, Hub, client_of}
use Rattle.dl_core.specs.Follows.{IsAfter, Run, source_of}
use Rattle.dl_core.specs.State.{Core}
use Rattle.dl_core.proofs.OpenClients.{its_stream}
use Rattle.dl_taking.specs.Drained.{GivesTook, IsDrain}
use Rattle.dl_taking.specs.Draining.{closing_took}
use Rattle.dl_taking.specs.Took.{Took}
use Rattle.dl_taking.proofs.DrainedEvents.{all_drain}
use Rattle.dl_turns.specs.Gone.{TellTheEnd}
use Rattle.dl_rounds.specs.Clients.{Client, Clients}
use Rattle.dl_rounds.specs.Passing.{AreAsNoted, Did, IsOverIfLeft, StayAsNoted, TellFrom, took_all}
use Rattle.dl_rounds.specs.Visits.{ClosesAll, IsShut}
use Rattle.dl_settling.specs.Ends.{end_in, ends_in}
use Rattle.dl_settling.specs.Settling.{Settles}
use Rattle.dl_settling.specs.State.{Stopping, clients_at, clients_of, taking_of}
use Rattle.dl_settling.specs.Stopped.{account_took}
use Rattle.dl_settling.specs.Went.{HaveGone, TellBytes, TellsStream, TellStreams}
use Rattle.dl_settling.proofs.NotedDrains.{noted_drain}
use Rattle.dl_settling.proofs.StoppedEvents.{same_took, shut_at}
use Rattle.dl_lemmas.proofs.Options.{one_is}
use Rattle.dl_lemmas.proofs.Lists.{there as get_of, there_too, within_of}
use Rattle.dl_lemmas.proofs.Numbers.{all_or_some}
use Rattle.dl_rounds.proofs.NotedClients.{left_of}

-- ---- ends by their places

pub end_at : (f : ℕ → LinkEnd) (first many place : ℕ) → place < many → slice_get (map f (range_with_len first many)) place ≡ Some (f (first + place))
end_at f first zero place below = absurd (omega (arith, below))
end_at f first (suc many) zero below = let same : first ≡ first + 0 = omega arith in ap (λ (n : ℕ). Some (f n)) same
end_at f first (suc many) (suc place) below = let same : first + 1 + place ≡ first + suc place = omega arith in end_at f (first + 1) many place (omega (arith, below)) ∙ ap (λ (n : ℕ). Some (f n)) same

-- the client at a place
pub client_at : (hub : Hub) (place : ℕ) → place < length hub.clients → (c : HubClient) × (client_of hub (place + 1) ≡ Some c)
client_at hub place below =
    let entry = entry_of hub.clients place below in
    let back : place + 1 - 1 ≡ place = omega arith in
    let some : eqb (place + 1) 0 ≡ false = ne_eqb (place + 1) 0 (λ same. omega (arith, same)) in
    (entry.0, ap (λ (b : Bool). cond b None (slice_get hub.clients (place + 1 - 1))) some ∙ ap (λ (n : ℕ). slice_get hub.clients n) back ∙ entry.1)
  where
    entry_of : (cs : List HubClient) (place : ℕ) → place < length cs → (c : HubClient) × (slice_get cs place ≡ Some c)
    entry_of [] place below = absurd (omega (arith, below))
    entry_of (c ∷ cs) zero below = (c, refl)
    entry_of (c ∷ cs) (suc place) below = entry_of cs place (omega (arith, below))

-- its stream, in the words of a run
pub record HasStream (run : Run) (events : List Event) (number : ℕ) (c : HubClient) : Type 0 where
  pub frames : c.frames ≡ length (stream (source_of run) run.setting.buffer number events)
  pub bytes : c.bytes ≡ size_of (stream (source_of run) run.setting.buffer number events)

pub stream_of : (run : Run) (events : List Event) (taken : ℕ → List ℕ) (core : Core) (number : ℕ) (c : HubClient) → IsAfter run events taken core → client_of core.hub number ≡ Some c → HasStream run events number c
stream_of run events taken core number c is there =
    let its = its_stream run events taken core is number c there in
    let frames : (ecu : List ℕ) (buffer : ℕ) → List (List ℕ) = λ ecu buffer. sent ecu buffer number (traffic (source_of run) events) in
    let same : frames core.hub.ecu core.hub.buffer ≡ frames run.setting.ecu run.setting.buffer =
    ap (λ (e : List ℕ). frames e core.hub.buffer) is.set_to.unit ∙ ap (λ (b : ℕ). frames run.setting.ecu b) is.set_to.buffer in record {
      frames = sym its.frames ∙ ap (λ (fs : List (List ℕ)). length fs) same;
      bytes = sym its.bytes ∙ ap size_of same;
    }

pub streams_told : (run : Run) (events : List Event) (taken : ℕ → List ℕ) (core : Core) → IsAfter run events taken core → TellStreams run events (length core.hub.clients) (ends_in core.hub)
streams_told run events taken core is =
    let many : length (ends_in core.hub) ≡ length core.hub.clients = length-map (range_with_len 1 (length core.hub.clients)) (end_in core.hub) ∙ length-range_with_len 1 (length core.hub.clients) in record {
      many_so = many;
      each = λ place end at.
          let below : place < length core.hub.clients = omega (arith, within_of (ends_in core.hub) place end at, many) in
          let c = client_at core.hub place below in
          let stream = stream_of run events taken core (place + 1) c.0 is c.1 in
          let number : 1 + place ≡ place + 1 = omega arith in
          let its : end_in core.hub (place + 1) ≡ end =
          one_is (end_in core.hub (place + 1)) end (slice_get (ends_in core.hub) place) (end_at (end_in core.hub) 1 (length core.hub.clients) place below ∙ ap (λ (n : ℕ). Some (end_in core.hub n)) number) at in
          subst (TellsStream run events (place + 1)) its (record {
            client = refl;
            frames = ap (λ (o : Option HubClient). option_map_or (λ (k : HubClient). k.frames) o 0) c.1 ∙ stream.frames;
            bytes = ap (λ (o : Option HubClient). option_map_or (λ (k : HubClient). k.bytes) o 0) c.1 ∙ stream.bytes;
          });
    }

-- ---- what links did

-- whatever each link of a kind tells, these tell
pub each_told : {L : Type 0} (told : L → LinkTold) (P : LinkTold → Type 0) (links : List L) (place : ℕ) (link : LinkTold) → ((l : L) → P (told l)) → slice_get (map told links) place ≡ Some link → P link
each_told told P [] place link all at = absurd cc
each_told told P (l ∷ links) zero link all at = subst P (one_is (told l) link (Some (told l)) refl at) (all l)
each_told told P (l ∷ links) (suc place) link all at = each_told told P links place link all at

pub bytes_before : (was now : Option (List ℕ)) (bytes : List ℕ) → IsSome was → Stays was now → now ≡ Some bytes → was ≡ Some bytes
bytes_before None now bytes some stays is = absurd cc
bytes_before (Some x) now bytes some stays is = sym stays ∙ is

pub did_before : (was now : LinkTold) (did : LinkDid) → IsShut was now → IsSome was.given → IsSome was.taken → Did now did → Did was did
did_before was now did shut given taken tells = record {
  given = bytes_before was.given now.given did.given given shut.given tells.given;
  taken = bytes_before was.taken now.taken did.taken taken shut.taken tells.taken;
  faults = sym shut.faults ∙ tells.faults;
  idles = sym shut.idles ∙ tells.idles;
  waits = sym shut.waits ∙ tells.waits;
}

-- ---- all of it

module _ {L : Type 0} (told : L → LinkTold) (dropped : ℕ) (old : Stopping L) (account : AccountState) (links : Links L) (folder folder_now : FolderTold)
    (stay : (was now : Clients) → ClosesAll (TellTheEnd told) was now → StayAsNoted was now) (settles : Settles told dropped old account links folder folder_now) (bytes : TellBytes told)
    (run : Run) (gives : GivesTook account.apps (account_took account) run) (taken : ℕ → List ℕ) (noted : AreAsNoted run old.journal.events taken (clients_of told old folder)) where
  drained : Stopping L
  drained = settles.drained

  closed : Stopping L
  closed = settles.closed

  stays : StayAsNoted (clients_of told settles.drained settles.between) (clients_of told settles.closed folder_now)
  stays = stay (clients_of told settles.drained settles.between) (clients_of told settles.closed folder_now) settles.closes.closes

  first : IsDrain old.closing.apps (taking_of old folder) (taking_of settles.drained settles.between)
  first = all_drain old.closing.apps (taking_of old folder) (taking_of settles.drained settles.between) settles.drains.drains

  gives_so : GivesTook old.closing.apps (closing_took settles.drained.closing) run
  gives_so =
      let of_closed = subst (λ (a : AccountState). GivesTook a.apps (account_took a) run) settles.account_is gives in
      let took : closing_took settles.closed.closing ≡ closing_took settles.drained.closing = same_took settles.drained.closing settles.closed.closing settles.closes.same in
      let apps : settles.closed.closing.apps ≡ old.closing.apps = ap (λ (c : ClosingState). c.apps) settles.closes.same ∙ ap (λ (c : ClosingState). c.apps) settles.drains.same in
      subst (λ (specs : List AppSpec). GivesTook specs (closing_took settles.drained.closing) run) apps (subst (λ (t : Took). GivesTook settles.closed.closing.apps t run) took of_closed)

  final : AreAsNoted run settles.closed.journal.events (took_all taken stays.later.sent) (clients_of told settles.closed folder_now)
  final =
      let one = noted_drain run old.journal.events taken old.closing.apps (taking_of old folder) (taking_of settles.drained settles.between) (map told old.links.links) old.seated.listeners first gives_so noted in
      let between_is : clients_at (map told old.links.links) old.seated.listeners (taking_of settles.drained settles.between) ≡ clients_of told settles.drained settles.between =
      λ i. clients_at (map told (sym settles.drains.links i).links) (sym settles.drains.seated i).listeners (taking_of settles.drained settles.between) in
      let drained_events : old.journal.events ++ first.more ≡ settles.drained.journal.events = sym cc_first in
      let two : AreAsNoted run settles.drained.journal.events taken (clients_of told settles.drained settles.between) =
      subst (λ (es : List Event). AreAsNoted run es taken (clients_of told settles.drained settles.between)) drained_events (subst (AreAsNoted run (old.journal.events ++ first.more) taken) between_is one) in
      let from : TellFrom 0 (map told settles.drained.links.links) = λ place link above at. each_told told (λ (l : LinkTold). IsSome l.given × IsSome l.taken) settles.drained.links.links place link bytes at in
      subst (λ (es : List Event). AreAsNoted run es (took_all taken stays.later.sent) (clients_of told settles.closed folder_now)) (sym cc_second) (stays.stay run settles.drained.journal.events taken from two)
    where
      cc_first : settles.drained.journal.events ≡ old.journal.events ++ first.more
      cc_first = cc first.events

      cc_second : settles.closed.journal.events ≡ settles.drained.journal.events ++ stays.later.more
      cc_second = cc stays.later.events

  events_so : account.events ≡ settles.closed.journal.events
  events_so = ap (λ (a : AccountState). a.events) settles.account_is

  ends_so : account.outcome.links ≡ ends_in settles.closed.core.hub
  ends_so = ap (λ (a : AccountState). a.outcome.links) settles.account_is

  -- what a client is at the end
  record IsLast (place : ℕ) (did : LinkDid) : Type 0 where
    client : HubClient
    there : client_of settles.closed.core.hub (place + 1) ≡ Some client
    shut : client.outbox ≡ None
    took : did.taken ≡ took_all taken stays.later.sent (place + 1)
    gone : IsOverIfLeft settles.closed.journal.events (place + 1) did → HasGone run.setting (source_of run) settles.closed.journal.events (place + 1) did

  last_of : (place : ℕ) (link : LinkTold) (did : LinkDid) → slice_get (map told links.links) place ≡ Some link → Did link did → IsLast place did
  last_of place link did at tells =
      let between = there_too (map told settles.closed.links.links) (map told links.links) place link settles.shuts.many at in
      let shut = shut_at settles.closed.core.hub (map told settles.closed.links.links) (map told links.links) settles.shuts settles.closes.none_open place between.0 link between.1 at in
      let tell = each_told told (λ (l : LinkTold). IsSome l.given × IsSome l.taken) settles.closed.links.links place between.0 bytes between.1 in
      let did_so : Did between.0 did = did_before between.0 link did shut tell.0 tell.1 tells in
      let within = within_of (map told settles.closed.links.links) place between.0 between.1 in
      let long : length (map told settles.closed.links.links) ≡ length settles.closed.links.links = length-map settles.closed.links.links told in
      let below : place < length settles.closed.core.hub.clients = omega (arith, within, long, settles.closes.linked.many) in
      let listener = get_of settles.closed.seated.listeners place (omega (arith, below, settles.closes.linked.few, settles.closes.heard.enough)) in
      let c = client_at settles.closed.core.hub place below in
      let back : place ≡ place + 1 - 1 = omega arith in
      let client : Client = record { link = between.0; listener = listener.0; side = (clients_of told settles.closed folder_now).side } in
      let none = settles.closes.none_open (place + 1) in record {
        client = c.0;
        there = c.1;
        shut = sym (ap (λ (o : Option HubClient). option_and_then (λ (k : HubClient). k.outbox) o) c.1) ∙ none;
        took = final.took place between.0 did.taken between.1 did_so.taken;
        gone = λ over. (final.each (place + 1) client (record {
          link = ap (λ (n : ℕ). slice_get (map told settles.closed.links.links) n) (sym back) ∙ between.1;
          listener = ap (λ (n : ℕ). slice_get settles.closed.seated.listeners n) (sym back) ∙ listener.1;
          side = refl;
        }) (ap is_some c.1)).gone_so none did did_so over;
      }

  pub all_went : HaveGone run account.events (map told links.links) account.outcome.links
  all_went = record {
    gone = λ place link did at tells over.
        subst (λ (es : List Event). HasGone run.setting (source_of run) es (place + 1) did) (sym events_so)
        ((last_of place link did at tells).gone (subst (λ (es : List Event). IsOverIfLeft es (place + 1) did) events_so over));
    ended = λ place link did at tells.
        let last = last_of place link did at tells in
        let events = settles.closed.journal.events in
        let stream_so = stream_of run events (took_all taken stays.later.sent) settles.closed.core (place + 1) last.client final.after last.there in
        let left = left_of run events (took_all taken stays.later.sent) settles.closed.core (place + 1) last.client final.after last.there last.shut in
        let frames : List (List ℕ) = stream (source_of run) run.setting.buffer (place + 1) events in
        let size : size_of frames ≡ length did.taken + last.client.left =
        omega (arith, length-concat frames, ap length left.parts, length-append (took_all taken stays.later.sent (place + 1)) left.left, left.size_is, ap length last.took) in
        let within = within_of (map told links.links) place link at in
        let below : place < length settles.closed.core.hub.clients =
        omega (arith, within, settles.shuts.many, length-map settles.closed.links.links told, settles.closes.linked.many) in
        let number : 1 + place ≡ place + 1 = omega arith in
        let its : end_in settles.closed.core.hub (place + 1) ≡ end_of_link run.setting (source_of run) events (place + 1) did = λ i. record {
          client = place + 1;
          frames = (ap (λ (o : Option HubClient). option_map_or (λ (k : HubClient). k.frames) o 0) last.there ∙ stream_so.frames) i;
          bytes = (ap (λ (o : Option HubClient). option_map_or (λ (k : HubClient). k.bytes) o 0) last.there ∙ stream_so.bytes) i;
          complete = (ap (λ (o : Option HubClient). option_map_or (λ (k : HubClient). k.left) o 0 == 0) last.there ∙ all_or_some last.client.left (length did.taken) (size_of frames) size) i;
        } in
        subst (λ (es : List Event). slice_get account.outcome.links place ≡ Some (end_of_link run.setting (source_of run) es (place + 1) did)) (sym events_so)
        (ap (λ (ends : List LinkEnd). slice_get ends place) ends_so ∙ end_at (end_in settles.closed.core.hub) 1 (length settles.closed.core.hub.clients) place below
        ∙ ap (λ (n : ℕ). Some (end_in settles.closed.core.hub n)) number ∙ ap Some its);
  }
