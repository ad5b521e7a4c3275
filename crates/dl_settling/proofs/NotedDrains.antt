-- Clients stay as a run's events have them while calls, claims and losses are taken.
use Rattle.std.proofs.Common.{◌≡◌, ℕ, ◌+◌, ◌-◌, Bool, true, false, eqb, List, [], ◌∷◌, ◌++◌, length, append_assoc, append-nil, length-append, Option, Some, None, is_some, inl, inr, refl, sym, ap, ◌∙◌, subst, arith}
use Rattle.std.specs.Prelude.{IsSome}
use Rattle.std.specs.List.{AllByRecursion, concat}
use Rattle.std.specs.Option.{option_and_then}
use Rattle.std.proofs.lemmas.Bool.Decides.{eqb_tells}
use Rattle.std.proofs.lemmas.List.Elements.{filter_map-append}
use Rattle.dl_bytes.specs.declared.conf.AppSpec.{AppSpec}
use Rattle.dl_bytes.specs.Limits.{message_limit}
use Rattle.dl_events.specs.declared.event.Event.{Event}
use Rattle.dl_events.specs.declared.event.Event.TheVariants as event
use Rattle.dl_events.specs.declared.event.Why.{Why}
use Rattle.dl_events.specs.declared.event.Why.TheVariants as why
use Rattle.dl_message.specs.Cut.{rest_fault, rest_of}
use Rattle.dl_message.specs.Requests.{requests}
use Rattle.dl_model.specs.Backlog.{outbox_limit}
use Rattle.dl_model.specs.ClientEnds.{HasGone, LinkDid, asked_by, asked_in}
use Rattle.dl_model.specs.ClientStream.{stream}
use Rattle.dl_model.specs.Report.{why_of}
use Rattle.dl_hub.specs.State.{Client as HubClient, client_of, outbox_of}
use Rattle.dl_core.specs.Follows.{IsAfter, Run, source_of}
use Rattle.dl_core.specs.State.{Core}
use Rattle.dl_core.proofs.OpenClients.{its_stream}
use Rattle.dl_admission.specs.Slow.{TellRooms, TellsRoom}
use Rattle.dl_turns.specs.Sent.{HasCut}
use Rattle.dl_turns.specs.State as turns
use Rattle.dl_outside.specs.Told.{LinkTold}
use Rattle.dl_rounds.specs.Clients.{Client}
use Rattle.dl_rounds.specs.declared.listener.Listener.{Listener}
use Rattle.dl_rounds.specs.Passing.{AreAsNoted, Did, IsAsNoted, IsOverIfLeft}
use Rattle.dl_rounds.proofs.NotedClients.{gone_longer, left_of, not_bad, over_longer}
use Rattle.dl_rounds.proofs.Turned.{placed}
use Rattle.dl_taking.specs.Drained.{GivesTook, IsDrain, IsOfDrain}
use Rattle.dl_taking.specs.Side.{Side}
use Rattle.dl_settling.specs.State.{clients_at}
use Rattle.dl_admission.proofs.StandingClients.{replies, same_replies}
use Rattle.dl_settling.proofs.StandingStreams.{StandsAfter, stands_closing, stands_on}
use Rattle.dl_lemmas.proofs.Lists.{all_first, all_second}
use Rattle.dl_lemmas.proofs.Options.{none_of, some_of, as_some}

-- ---- where a client was closed

-- the events before its Close, which is for too little room, and those behind it
pub record Parts (client : ℕ) (events : List Event) : Type 0 where
  pub before : List Event
  pub room : ℕ
  pub need : ℕ
  pub after : List Event
  pub parted : events ≡ before ++ event.Close client (why.Slow room need) ∷ after

pub later_parts : (client : ℕ) (e : Event) (events : List Event) → Parts client events → Parts client (e ∷ events)
later_parts client e events p = record { before = e ∷ p.before; room = p.room; need = p.need; after = p.after; parted = ap (λ (es : List Event). e ∷ es) p.parted }

pub close_parts : (client other room need : ℕ) (events : List Event) → (IsSome (why_of client events) → Parts client events) → IsSome (why_of client (event.Close other (why.Slow room need) ∷ events))
    → Parts client (event.Close other (why.Slow room need) ∷ events)
close_parts client other room need events rest some = elim (eqb_tells other client) [
  | inl same ↦ record { before = []; room = room; need = need; after = events; parted = ap (λ (n : ℕ). event.Close n (why.Slow room need) ∷ events) same.1 }
  | inr apart ↦ later_parts client (event.Close other (why.Slow room need)) events (rest (sym (ap is_some (passed apart.0)) ∙ some))
] where
  passed : eqb other client ≡ false → why_of client (event.Close other (why.Slow room need) ∷ events) ≡ why_of client events
  passed no_so = rw no_so refl

-- it is found where one is told
parts_of : (client : ℕ) (events : List Event) → AllByRecursion IsOfDrain events → IsSome (why_of client events) → Parts client events
parts_of client [] all some = absurd cc
parts_of client (event.Log app writer call moment ∷ events) all some = later_parts client (event.Log app writer call moment) events (parts_of client events all.1 some)
parts_of client (event.Lost app count moment ∷ events) all some = later_parts client (event.Lost app count moment) events (parts_of client events all.1 some)
parts_of client (event.Claim claim moment ∷ events) all some = later_parts client (event.Claim claim moment) events (parts_of client events all.1 some)
parts_of client (event.Level slot level ∷ events) all some = later_parts client (event.Level slot level) events (parts_of client events all.1 some)
parts_of client (event.Close other (why.Slow room need) ∷ events) all some = close_parts client other room need events (parts_of client events all.1) some
parts_of client (event.Close other why.Left ∷ events) all some = absurd all.0
parts_of client (event.Close other why.Broken ∷ events) all some = absurd all.0
parts_of client (event.Close other why.Malformed ∷ events) all some = absurd all.0
parts_of client (event.Close other why.TooMany ∷ events) all some = absurd all.0
parts_of client (event.Close other why.NoMemory ∷ events) all some = absurd all.0
parts_of client (event.Close other (why.Stuck left) ∷ events) all some = absurd all.0
parts_of client (event.Close other why.Stopped ∷ events) all some = absurd all.0
parts_of client (event.User channel msg moment ∷ events) all some = absurd all.0
parts_of client (event.Connect other ∷ events) all some = absurd all.0
parts_of client (event.Request other frame answer ∷ events) all some = absurd all.0

-- nothing is asked
asks_none : (client : ℕ) (events : List Event) → AllByRecursion IsOfDrain events → asked_by client events ≡ []
asks_none client [] all = refl
asks_none client (event.Log app writer call moment ∷ events) all = asks_none client events all.1
asks_none client (event.Lost app count moment ∷ events) all = asks_none client events all.1
asks_none client (event.Close other cause ∷ events) all = asks_none client events all.1
asks_none client (event.Claim claim moment ∷ events) all = asks_none client events all.1
asks_none client (event.User channel msg moment ∷ events) all = absurd all.0
asks_none client (event.Level slot level ∷ events) all = asks_none client events all.1
asks_none client (event.Connect other ∷ events) all = absurd all.0
asks_none client (event.Request other frame answer ∷ events) all = absurd all.0

asked_still : (client : ℕ) (past more : List Event) → AllByRecursion IsOfDrain more → asked_by client (past ++ more) ≡ asked_by client past
asked_still client past more all =
    filter_map-append (asked_in client) past more ∙ ap (λ (fs : List (List ℕ)). asked_by client past ++ fs) (asks_none client more all) ∙ append-nil (asked_by client past)

pub rooms_at : (run : Run) (taken : ℕ → List ℕ) (past xs : List Event) (e : Event) (ys : List Event) → TellRooms run taken past (xs ++ e ∷ ys) → TellsRoom run taken (past ++ xs) e
rooms_at run taken past [] e ys rooms = subst (λ (es : List Event). TellsRoom run taken es e) (sym (append-nil past)) rooms.0
rooms_at run taken past (x ∷ xs) e ys rooms = subst (λ (es : List Event). TellsRoom run taken es e) (append_assoc past (x ∷ []) xs) (rooms_at run taken (past ++ x ∷ []) xs e ys rooms.1)

both_so : (b : Bool) → b ≡ false → b ≡ true → ⊥
both_so b no_so yes_so = let bad : true ≡ false = sym yes_so ∙ no_so in cc bad

-- ---- one client

module _ (run : Run) (past : List Event) (taken : ℕ → List ℕ) (specs : List AppSpec) (old new : Side) (drain : IsDrain specs old new) (gives : GivesTook specs new.took run)
    (is : IsAfter run past taken old.part.core) where
  abbrev more : List Event
  more = drain.more

  now : IsAfter run (past ++ more) taken new.part.core
  now = (drain.after run past taken gives is).0

  -- of a client that was gone before as much is left
  pub left_before : (number : ℕ) (c c_now : HubClient) → client_of old.part.core.hub number ≡ Some c → client_of new.part.core.hub number ≡ Some c_now → c.outbox ≡ None → c_now.outbox ≡ None → c_now.left ≡ c.left
  left_before number c c_now at at_now shut shut_now =
      let a = left_of run past taken old.part.core number c is at shut in
      let b = left_of run (past ++ more) taken new.part.core number c_now now at_now shut_now in
      let source = source_of run in
      let still : StandsAfter source run.setting.buffer number (stream source run.setting.buffer number past) past = record {
        shut = (its_stream run past taken old.part.core is number c at).is_there ∙ ap (λ (o : Option _). is_some o) shut;
        same = refl;
      } in
      let same = (stands_on source run.setting.buffer number (stream source run.setting.buffer number past) past more drain.kinds still).same in
      let all : taken number ++ b.left ≡ taken number ++ a.left = sym b.parts ∙ ap (λ (fs : List (List ℕ)). concat fs) same ∙ a.parts in
      omega (arith, ap length all, length-append (taken number) a.left, length-append (taken number) b.left, a.size_is, b.size_is)

  -- what one is that was closed as slow
  pub record WasSlow (number : ℕ) : Type 0 where
    pub parts : Parts number more
    pub place : past ++ more ≡ (past ++ parts.before) ++ event.Close number (why.Slow parts.room parts.need) ∷ parts.after
    pub whole : stream (source_of run) run.setting.buffer number (past ++ more) ≡ stream (source_of run) run.setting.buffer number (past ++ parts.before)
    pub left : List ℕ
    pub took : concat (stream (source_of run) run.setting.buffer number (past ++ parts.before)) ≡ taken number ++ left
    pub room_so : parts.room + length left ≡ outbox_limit run.setting.buffer

  pub was_slow : (number : ℕ) → IsSome (why_of number more) → WasSlow number
  was_slow number some =
      let source = source_of run in
      let buffer = run.setting.buffer in
      let parts = parts_of number more drain.kinds some in
      let close : Event = event.Close number (why.Slow parts.room parts.need) in
      let kinds_parted = subst (AllByRecursion IsOfDrain) parts.parted drain.kinds in
      let room = rooms_at run taken past parts.before close parts.after (subst (TellRooms run taken past) parts.parted (drain.rooms run past taken gives is)) in
      let place : past ++ more ≡ (past ++ parts.before) ++ close ∷ parts.after = ap (λ (events : List Event). past ++ events) parts.parted ∙ sym (append_assoc past parts.before (close ∷ parts.after)) in
      let kinds_after = (all_second IsOfDrain parts.before (close ∷ parts.after) kinds_parted).1 in
      let same : stream source buffer number (((past ++ parts.before) ++ close ∷ []) ++ parts.after) ≡ stream source buffer number (past ++ parts.before) =
      (stands_on source buffer number (stream source buffer number (past ++ parts.before)) ((past ++ parts.before) ++ close ∷ []) parts.after kinds_after
      (stands_closing source buffer number (why.Slow parts.room parts.need) (past ++ parts.before))).same in
      record {
        parts = parts;
        place = place;
        whole = ap (stream source buffer number) (place ∙ sym (append_assoc (past ++ parts.before) (close ∷ []) parts.after)) ∙ same;
        left = room.0;
        took = room.1;
        room_so = room.2;
      }

  module _ (number : ℕ) (was client : Client) (core_was : was.side.core ≡ old.part.core) (core_now : client.side.core ≡ new.part.core) (link : client.link ≡ was.link) (listener : client.listener ≡ was.listener)
      (noted : IsAsNoted run past number was) (there : IsSome (client_of new.part.core.hub number)) (took : (bytes : List ℕ) → was.link.taken ≡ Some bytes → bytes ≡ taken number) where
    opened : IsSome (outbox_of old.part.core.hub number) → (given : List ℕ) → client.link.given ≡ Some given → HasCut given client.listener.cutter × (asked_by number past ≡ requests given)
    opened some given is_given =
        let so = noted.open_so (subst (λ (k : Core). IsSome (outbox_of k.hub number)) (sym core_was) some) given (ap (λ (l : LinkTold). l.given) (sym link) ∙ is_given) in
        (subst (λ (l : Listener). HasCut given l.cutter) (sym listener) so.0, so.1)

    went_before : why_of number more ≡ None → outbox_of new.part.core.hub number ≡ None → (did : LinkDid) → Did client.link did → IsOverIfLeft (past ++ more) number did
        → HasGone run.setting (source_of run) (past ++ more) number did
    went_before stays none did tells over =
        let gone_old : outbox_of old.part.core.hub number ≡ None = none_of (outbox_of old.part.core.hub number) (sym (drain.clients.stay number stays) ∙ ap is_some none) in
        let c_now = some_of (client_of new.part.core.hub number) there in
        let c = some_of (client_of old.part.core.hub number) (as_some replies (client_of old.part.core.hub number) (client_of new.part.core.hub number) (same_replies old.part.core.hub new.part.core.hub number drain.clients.replies) there) in
        let shut : c.0.outbox ≡ None = sym (ap (λ (o : Option HubClient). option_and_then (λ (k : HubClient). k.outbox) o) c.1) ∙ gone_old in
        let shut_now : c_now.0.outbox ≡ None = sym (ap (λ (o : Option HubClient). option_and_then (λ (k : HubClient). k.outbox) o) c_now.1) ∙ none in
        let left : c_now.0.left ≡ c.0.left = left_before number c.0 c_now.0 c.1 c_now.1 shut shut_now in
        let tells_was : Did was.link did = subst (λ (l : LinkTold). Did l did) link tells in
        gone_longer run past more taken taken old.part.core new.part.core number did c.0 c_now.0 is now c.1 c_now.1 shut shut_now left refl (took did.taken tells_was.taken)
        (noted.gone_so (ap (λ (k : Core). outbox_of k.hub number) core_was ∙ gone_old) did tells_was (over_longer past more number did over))

    went_now : IsSome (why_of number more) → (did : LinkDid) → Did client.link did → HasGone run.setting (source_of run) (past ++ more) number did
    went_now some did tells =
        let slow = was_slow number some in
        let parts = slow.parts in
        let close : Event = event.Close number (why.Slow parts.room parts.need) in
        let kinds_parted = subst (AllByRecursion IsOfDrain) parts.parted drain.kinds in
        let cut = opened (drain.clients.go number some).0 did.given tells.given in
        let asked : requests did.given ≡ asked_by number (past ++ parts.before) =
        sym cut.1 ∙ sym (asked_still number past parts.before (all_first IsOfDrain parts.before (close ∷ parts.after) kinds_parted)) in
        let took_so : did.taken ≡ taken number = took did.taken (ap (λ (l : LinkTold). l.taken) (sym link) ∙ tells.taken) in
        record {
          before = past ++ parts.before;
          cause = why.Slow parts.room parts.need;
          after = parts.after;
          place = slow.place;
          left = slow.left;
          took = ap (λ (fs : List (List ℕ)). concat fs) slow.whole ∙ slow.took ∙ ap (λ (bytes : List ℕ). bytes ++ slow.left) (sym took_so);
          so = slow.room_so;
          asked = inl asked;
          malformed = λ bad same. absurd (both_so (is_some (rest_fault message_limit (rest_of message_limit did.given))) (not_bad did.given client.listener.cutter cut.0) bad);
          too_many = λ many full. absurd (omega (arith, many, full, ap length asked));
        }

    pub noted_still : IsAsNoted run (past ++ more) number client
    noted_still = record {
      open_so = λ some given is_given. open_by (why_of number more) refl (subst (λ (k : Core). IsSome (outbox_of k.hub number)) core_now some) given is_given;
      gone_so = λ none did tells over. gone_by (why_of number more) refl (ap (λ (k : Core). outbox_of k.hub number) (sym core_now) ∙ none) did tells over;
    } where
      open_by : (o : Option Why) → why_of number more ≡ o → IsSome (outbox_of new.part.core.hub number) → (given : List ℕ) → client.link.given ≡ Some given
          → HasCut given client.listener.cutter × (asked_by number (past ++ more) ≡ requests given)
      open_by None stays some given is_given = let so = opened (sym (drain.clients.stay number stays) ∙ some) given is_given in (so.0, asked_still number past more drain.kinds ∙ so.1)
      open_by (Some cause) gone some given is_given = absurd (both_so (is_some (outbox_of new.part.core.hub number)) (ap is_some (drain.clients.go number (ap is_some gone)).1) some)

      gone_by : (o : Option Why) → why_of number more ≡ o → outbox_of new.part.core.hub number ≡ None → (did : LinkDid) → Did client.link did → IsOverIfLeft (past ++ more) number did
          → HasGone run.setting (source_of run) (past ++ more) number did
      gone_by None stays none did tells over = went_before stays none did tells over
      gone_by (Some cause) gone none did tells over = went_now (ap is_some gone) did tells

-- ---- all of them

pub noted_drain : (run : Run) (past : List Event) (taken : ℕ → List ℕ) (specs : List AppSpec) (old new : Side) (links : List LinkTold) (listeners : List Listener)
    → (drain : IsDrain specs old new) → GivesTook specs new.took run → AreAsNoted run past taken (clients_at links listeners old)
    → AreAsNoted run (past ++ drain.more) taken (clients_at links listeners new)
noted_drain run past taken specs old new links listeners drain gives noted = record {
  after = (drain.after run past taken gives noted.after).0;
  took = noted.took;
  each = λ number client at there.
      let place = placed new.part.core.hub number there in
      let back : number - 1 + 1 ≡ number = omega (arith, place.3) in
      let was : Client = record { link = client.link; listener = client.listener; side = (clients_at links listeners old).side } in
      let there_was = as_some replies (client_of old.part.core.hub number) (client_of new.part.core.hub number) (same_replies old.part.core.hub new.part.core.hub number drain.clients.replies) there in
      noted_still run past taken specs old new drain gives noted.after number was client refl (ap (λ (s : turns.Side). s.core) at.side) refl refl
      (noted.each number was (record { link = at.link; listener = at.listener; side = refl }) there_was) there
      (λ bytes is. noted.took (number - 1) client.link bytes at.link is ∙ ap taken back);
}
