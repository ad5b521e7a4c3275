-- What is known of a client by the events of a journal: while it is open, and once it has gone.
use Rattle.std.proofs.Common.{◌≡◌, ◌≢◌, ◌<◌, ◌≤◌, ◌+◌, ◌-◌, ◌^◌, ◌⊎◌, ℕ, Bool, true, false, cond, inl, inr, List, [], ◌∷◌, ◌++◌, length, map, Option, Some, None, is_some, refl, sym, ap, subst, ◌∙◌, append-nil, append_assoc, length-append, arith}
use Rattle.std.specs.Prelude.{◌==◌, ◌&&◌, IsSome, IsSomeAnd, min, take}
use Rattle.std.specs.List.{AllByRecursion, concat, cons_option}
use Rattle.std.proofs.Math.Bool.{and-false}
use Rattle.std.proofs.lemmas.Bool.{eq-eqb, ne_eqb}
use Rattle.dl_admission.specs.Admission.{KeepsClients}
use Rattle.dl_admission.specs.Slow.{TellRooms}
use Rattle.dl_bytes.specs.Limits.{message_limit, request_limit}
use Rattle.dl_bytes.specs.declared.outcome.Done.{Done}
use Rattle.dl_bytes.specs.declared.outcome.Done.TheVariants as did
use Rattle.dl_core.specs.Follows.{IsAfter, Run, source_of}
use Rattle.dl_core.specs.State.{Core}
use Rattle.dl_core.proofs.Answered.{replies_are}
use Rattle.dl_core.proofs.OpenClients.{open_as}
use Rattle.dl_core.proofs.Replies.{reply_is}
use Rattle.dl_events.specs.declared.event.Event.{Event}
use Rattle.dl_events.specs.declared.event.Event.TheVariants as event
use Rattle.dl_events.specs.declared.event.Why.{Why}
use Rattle.dl_events.specs.declared.event.Why.TheVariants as why
use Rattle.dl_hub.specs.Pumping.{IsOnlySent}
use Rattle.dl_hub.specs.State.{Client as HubClient, Hub, client_of, outbox_of}
use Rattle.dl_model.proofs.ClientStreams.{is_open-one}
use Rattle.dl_model.proofs.Lists.{along-one}
use Rattle.dl_lemmas.proofs.Lists.{all_first, all_map, all_second}
use Rattle.dl_message.specs.Cut.{rest_fault, rest_of}
use Rattle.dl_message.specs.Cutting.{Cutting}
use Rattle.dl_message.specs.Requests.{requests}
use Rattle.dl_message.proofs.Cuts.{requests-append}
use Rattle.dl_model.specs.Backlog.{due_backlog, outbox_limit, waiting}
use Rattle.dl_model.specs.ClientEnds.{asked_by, asked_in}
use Rattle.dl_model.specs.ClientStream.{put, sent, stream, traffic, traffic_of}
use Rattle.dl_model.specs.Frames.{FrameSource, frames_of}
use Rattle.dl_model.specs.Report.{why_of}
use Rattle.dl_model.specs.Traffic.{Admitted, Closed, Connected, Reply, Traffic, comes_or_goes, is_coming, is_open}
use Rattle.dl_outside.specs.Link.{HasReceiveCause}
use Rattle.dl_outside.specs.Outside.{Grows, HasRisen, Stays}
use Rattle.dl_outside.specs.Told.{LinkTold}
use Rattle.dl_outside.specs.declared.link.Gave.{Gave as Answer}
use Rattle.dl_outside.specs.declared.link.Gave.TheVariants as answer
use Rattle.dl_rounds.specs.Shown.{IsOverFor}
use Rattle.dl_rounds.specs.Visits.{IsShut}
use Rattle.dl_rounds.proofs.NotedClients.{left_of, not_bad}
use Rattle.dl_rounds.proofs.ShownClients.{counts_shut, over_shut}
use Rattle.dl_settling.proofs.NotedDrains.{Parts, close_parts, later_parts, rooms_at}
use Rattle.dl_settling.proofs.StandingStreams.{Stands, StandsAfter, stands_closing}
use Rattle.dl_turns.specs.Gone.{ShowsCause}
use Rattle.dl_turns.specs.Later.{HasHeard, HasLeft, LeavesSo}
use Rattle.dl_turns.specs.Sent.{HasCut, is_bad}
use Rattle.dl_turns.specs.Turns.{HasGiven, Hears, Refuses, SendsRightly, heard}
use Rattle.dl_turns.proofs.GrownBytes.{gives_heard}
use Rattle.dl_turns.proofs.HeardSides.{AsksAll, asked_both, how_many}
use Rattle.dl_turns.proofs.ServedRequests.{rest_on}
use Rattle.dl_machine.specs.State.{Client, IsIdle, State, Turn}
use Rattle.dl_machine.specs.Steps.{Counts, IsDue, MayClose}
use Rattle.dl_machine.proofs.RenewedRuns.{IsLike}

-- ---- events of others

-- it is no coming and no request of this client
abbrev pub IsOther : ℕ → Event → Type 0
IsOther number (event.Connect other) = other ≢ number
IsOther number (event.Request other frame answer) = other ≢ number
IsOther number other = Unit {0}

unasked_one : (number : ℕ) (e : Event) (others : List (List ℕ)) → IsOther number e → cons_option (asked_in number e) others ≡ others
unasked_one number (event.Request other frame answer) others apart = rw (ne_eqb other number apart) refl
unasked_one number _ others apart = refl

unasked : (number : ℕ) (events : List Event) → AllByRecursion (IsOther number) events → asked_by number events ≡ []
unasked number [] all = refl
unasked number (e ∷ events) all = unasked_one number e (asked_by number events) all.0 ∙ unasked number events all.1

asked_still : (number : ℕ) (past more : List Event) → AllByRecursion (IsOther number) more → asked_by number (past ++ more) ≡ asked_by number past
asked_still number past more all =
    asked_both number past more ∙ ap (λ (fs : List (List ℕ)). asked_by number past ++ fs) (unasked number more all) ∙ append-nil (asked_by number past)

-- the stream of a client that has gone stands
module _ (source : FrameSource) (buffer number : ℕ) (frames : List (List ℕ)) where
  abbrev Still : List Traffic → Type 0
  Still ts = Stands source.ecu buffer number frames ts

  entry : (ts : List Traffic) (t : Traffic) → Still ts → cond (comes_or_goes number t) (is_coming t) false ≡ false → put source.ecu buffer number ts t ≡ [] → Still (ts ++ t ∷ [])
  entry ts t so shut none = record {
    shut = is_open-one number ts t ∙ ap (λ (b : Bool). cond (comes_or_goes number t) (is_coming t) b) so.shut ∙ shut;
    same = along-one (put source.ecu buffer number) ts t ∙ ap (λ (fs : List (List ℕ)). sent source.ecu buffer number ts ++ fs) none ∙ append-nil (sent source.ecu buffer number ts) ∙ so.same;
  }

  admitted : (ts : List Traffic) (fs : List (List ℕ)) → Still ts → Still (ts ++ map Admitted fs)
  admitted ts [] so = subst Still (sym (append-nil ts)) so
  admitted ts (f ∷ fs) so = subst Still (append_assoc ts (Admitted f ∷ []) (map Admitted fs))
      (admitted (ts ++ Admitted f ∷ []) fs (entry ts (Admitted f) so refl (ap (λ (b : Bool). cond b (f ∷ []) []) so.shut)))

  never : (b : Bool) → cond b false false ≡ false
  never true = refl
  never false = refl

  one : (past : List Event) (e : Event) → IsOther number e → Still (traffic source past) → Still (traffic source past ++ traffic_of source past e)
  one past (event.Connect other) apart so =
      let it : (other == number) ≡ false = ne_eqb other number apart in
      entry (traffic source past) (Connected other) so (ap (λ (b : Bool). cond b true false) it) (ap (λ (b : Bool). cond b (due_backlog source.ecu buffer (waiting (traffic source past))) []) it)
  one past (event.Request other frame answer) apart so =
      let reply : List ℕ = source.reply past frame answer in
      entry (traffic source past) (Reply other reply) so refl (ap (λ (b : Bool). cond ((other == number) && b) (reply ∷ []) []) so.shut ∙ ap (λ (b : Bool). cond b (reply ∷ []) []) (and-false (other == number)))
  one past (event.Close other cause) apart so = entry (traffic source past) (Closed other) so (never (other == number)) refl
  one past (event.User channel msg moment) apart so = admitted (traffic source past) (frames_of source (event.User channel msg moment)) so
  one past (event.Level slot level) apart so = admitted (traffic source past) (frames_of source (event.Level slot level)) so
  one past (event.Log app writer call moment) apart so = admitted (traffic source past) (frames_of source (event.Log app writer call moment)) so
  one past (event.Claim claim moment) apart so = admitted (traffic source past) (frames_of source (event.Claim claim moment)) so
  one past (event.Lost app count moment) apart so = admitted (traffic source past) (frames_of source (event.Lost app count moment)) so

  stream_still : (past more : List Event) → AllByRecursion (IsOther number) more → StandsAfter source buffer number frames past → StandsAfter source buffer number frames (past ++ more)
  stream_still past [] all so = subst (StandsAfter source buffer number frames) (sym (append-nil past)) so
  stream_still past (e ∷ more) all so =
      subst (StandsAfter source buffer number frames) (append_assoc past (e ∷ []) more)
      (stream_still (past ++ e ∷ []) more all.1 (subst Still (sym (along-one (traffic_of source) past e)) (one past e all.0 so)))

-- ---- what is known

-- the frames of a client's stream in a run
abbrev pub frames_in : Run → ℕ → List Event → List (List ℕ)
frames_in run number events = stream (source_of run) run.setting.buffer number events

-- a client's Close among the events; one that asked too much had as many requests served as one may
pub record ClosedIn (events : List Event) (number : ℕ) : Type 0 where
  pub before : List Event
  pub cause : Why
  pub after : List Event
  pub place : events ≡ before ++ event.Close number cause ∷ after
  pub limit : cause ≡ why.TooMany → length (asked_by number events) ≡ request_limit

-- how what a link gave is cut, by why its client is to be closed
abbrev pub IsCutFor : Option Why → List ℕ → Cutting → Type 0
IsCutFor None given cutter = HasCut given cutter
IsCutFor (Some why.Left) given cutter = is_bad given ≡ false
IsCutFor (Some why.Broken) given cutter = is_bad given ≡ false
IsCutFor (Some why.Malformed) given cutter = is_bad given ≡ true
IsCutFor (Some other) given cutter = Unit {0}

-- an open client: its Request events and what is still to be served are the requests of what its link gave, where that tells it
pub record Reads (events : List Event) (number : ℕ) (client : Client) : Type 0 where
  pub given : List ℕ
  pub told : client.link.given ≡ Some given
  pub asked : requests given ≡ asked_by number events ++ client.turn.asks
  pub cut : IsCutFor client.due given client.cutter
  pub tried : min client.turn.tried (2 ^ 64 - 1) ≤ client.link.waits + length given

-- what a link that told what it gave shows of its client's stop
abbrev pub IsTriedFor : Why → LinkTold → List ℕ → Type 0
IsTriedFor why.Stopped link given = (0 < link.idles) ⊎ (1000 ≤ link.waits + length given)
IsTriedFor (why.Stuck left) link given = 1000 ≤ link.waits + length given
IsTriedFor other link given = Unit {0}

-- a client that has gone: what it asked before its Close is what its link gave, as the cause says
pub record Asked (source : FrameSource) (before : List Event) (number : ℕ) (cause : Why) (link : LinkTold) : Type 0 where
  pub given : List ℕ
  pub told : link.given ≡ Some given
  pub heard_so : HasHeard source before number (Some cause) given
  pub tried : IsTriedFor cause link given

-- ---- small facts

pub stays_as : {A : Type 0} (old new : Option A) (x : A) → Stays old new → old ≡ Some x → new ≡ Some x
stays_as old new x stays is = subst (λ (o : Option _). Stays o new) is stays

neither : {A : Type 0} (b : Bool) → b ≡ false → b ≡ true → A
neither b no_so yes_so = absurd (let wrong : true ≡ false = sym yes_so ∙ no_so in cc wrong)

-- ---- what a client asked that was closed

-- a client that asked all, and no bad header stands behind that but where it is closed for it
heard_all : (source : FrameSource) (past : List Event) (number : ℕ) (cause : Why) (given : List ℕ) → AsksAll (Some cause) → (is_bad given ≡ true → cause ≡ why.Malformed) → (cause ≡ why.Malformed → is_bad given ≡ true)
    → requests given ≡ asked_by number past → HasHeard source past number (Some cause) given
heard_all source past number cause given all bad only same = record {
  asked = all source past (requests given) (asked_by number past) same;
  malformed = λ is others. ap Some (bad is);
  too_many = λ many full. absurd (omega (arith, many, full, ap (λ (fs : List (List ℕ)). length fs) same));
  bad = λ is. only (cc is);
}

heard_good : (source : FrameSource) (past : List Event) (number : ℕ) (cause : Why) (given : List ℕ) → AsksAll (Some cause) → (cause ≡ why.Malformed → ⊥) → is_bad given ≡ false
    → requests given ≡ asked_by number past → HasHeard source past number (Some cause) given
heard_good source past number cause given all other good same = heard_all source past number cause given all (λ bad. neither (is_bad given) good bad) (λ is. absurd (other is)) same

module _ (run : Run) (events : List Event) (took : ℕ → List ℕ) (core : Core) (after : IsAfter run events took core) (number : ℕ) where
  -- how many it asked, by the core
  asked_count : (P : ℕ → Type 0) (o : Option HubClient) → client_of core.hub number ≡ o → IsSomeAnd o (λ c. P c.replies) → P (length (asked_by number events))
  asked_count P None there is = absurd is
  asked_count P (Some c) there is = subst P (replies_are run events took core number c after there ∙ sym (how_many number events)) is

  heard_refused : (frame : List ℕ) (others : List (List ℕ)) (cause : Why) (given : List ℕ) → requests given ≡ asked_by number events ++ frame ∷ others → Refuses number frame cause core
      → HasHeard (source_of run) events number (Some cause) given
  heard_refused frame others cause given are refused = by cause refused where
    apart : {A : Type 0} → requests given ≡ asked_by number events → A
    apart same =
        absurd (omega (arith, ap (λ (fs : List (List ℕ)). length fs) same, ap (λ (fs : List (List ℕ)). length fs) are, length-append (asked_by number events) (frame ∷ others)))

    not_full : {A : Type 0} → IsSomeAnd (client_of core.hub number) (λ c. c.replies < request_limit) → length (asked_by number events) ≡ request_limit → A
    not_full few full = absurd (let fewer = asked_count (λ (n : ℕ). n < request_limit) (client_of core.hub number) refl few in omega (arith, full, fewer))

    by : (w : Why) → Refuses number frame w core → HasHeard (source_of run) events number (Some w) given
    by why.TooMany so = record {
      asked = ((frame, (others, are)), asked_count (λ (n : ℕ). n ≡ request_limit) (client_of core.hub number) refl so);
      malformed = λ bad same. apart same;
      too_many = λ many full. refl;
      bad = λ other. absurd (cc other);
    }
    by why.NoMemory so = record { asked = (frame, (others, are)); malformed = λ bad same. apart same; too_many = λ many full. not_full so.1 full; bad = λ other. absurd (cc other) }
    by (why.Slow room need) so = record {
      asked = inr (frame, (others, are), (did.Yes, so.3 did.Yes ∙ ap (λ (bytes : List ℕ). length bytes) (sym (reply_is run events took core frame did.Yes after))));
      malformed = λ bad same. apart same;
      too_many = λ many full. not_full so.0.1 full;
      bad = λ other. absurd (cc other);
    }
    by _ so = absurd so

  -- what is left of its stream
  left_so : (cause : Why) (o : Option HubClient) → client_of core.hub number ≡ o → IsSomeAnd o (λ c. (c.outbox ≡ None) × LeavesSo (outbox_limit core.hub.buffer) cause c.left)
      → (left : List ℕ) × (concat (frames_in run number events) ≡ took number ++ left) × LeavesSo (outbox_limit run.setting.buffer) cause (length left)
  left_so cause None there has = absurd has
  left_so cause (Some c) there has =
      let l = left_of run events took core number c after there has.0 in (
        l.left,
        l.parts,
        subst (λ (n : ℕ). LeavesSo (outbox_limit run.setting.buffer) cause n) (sym l.size_is) (subst (λ (b : ℕ). LeavesSo (outbox_limit b) cause c.left) after.set_to.buffer has.1),
      )

-- ---- what an admission notes

-- an event of an admission: nobody came, asked or was closed but for being slow
abbrev pub IsMild : Event → Type 0
IsMild (event.Close client (why.Slow room need)) = Unit {0}
IsMild (event.Close client cause) = ⊥
IsMild (event.Connect client) = ⊥
IsMild (event.Request client frame answer) = ⊥
IsMild other = Unit {0}

mild_other : (number : ℕ) (e : Event) → IsMild e → IsOther number e
mild_other number (event.Connect client) mild = absurd mild
mild_other number (event.Request client frame answer) mild = absurd mild
mild_other number _ mild = tt

part_of : (number : ℕ) (e : Event) (events : List Event) → (IsSome (why_of number events) → Parts number events) → IsMild e → IsSome (why_of number (e ∷ events)) → Parts number (e ∷ events)
part_of number (event.Close other (why.Slow room need)) events later mild some = close_parts number other room need events later some
part_of number (event.Close other _) events later mild some = absurd mild
part_of number (event.Connect other) events later mild some = absurd mild
part_of number (event.Request other frame answer) events later mild some = absurd mild
part_of number (event.User channel msg moment) events later mild some = later_parts number (event.User channel msg moment) events (later some)
part_of number (event.Level slot level) events later mild some = later_parts number (event.Level slot level) events (later some)
part_of number (event.Log app writer call moment) events later mild some = later_parts number (event.Log app writer call moment) events (later some)
part_of number (event.Claim claim moment) events later mild some = later_parts number (event.Claim claim moment) events (later some)
part_of number (event.Lost app count moment) events later mild some = later_parts number (event.Lost app count moment) events (later some)

parts_of : (number : ℕ) (events : List Event) → AllByRecursion IsMild events → IsSome (why_of number events) → Parts number events
parts_of number [] all some = absurd cc
parts_of number (e ∷ events) all some = part_of number e events (parts_of number events all.1) all.0 some

-- ---- open, and gone

-- bytes are told where this holds, and whether a link is over where that does
module _ (Bytes Over : Type 0) where
  -- why it is to be closed
  abbrev ShowsDue : Option Why → LinkTold → Type 0
  ShowsDue (Some why.Left) link = Over → link.over ≡ Some true
  ShowsDue (Some why.Broken) link = 0 < link.faults
  ShowsDue other link = Unit {0}

  pub record IsOpen (events : List Event) (number : ℕ) (client : Client) : Type 0 where
    pub due : ShowsDue client.due client.link
    pub reads : Bytes → Reads events number client

  -- what the link of a client that was closed shows of the cause
  pub record Shows (source : FrameSource) (before : List Event) (number : ℕ) (cause : Why) (link : LinkTold) : Type 0 where
    pub counts : ShowsCause link cause
    pub over : Over → IsOverFor cause link
    pub asked : Bytes → Asked source before number cause link

  -- Its Close is among the events, its link took the front of its stream and left so much of it, as the cause tells, and shows the cause.
  pub record HasGone (run : Run) (events : List Event) (took : List ℕ) (number : ℕ) (link : LinkTold) : Type 0 where
    pub close : ClosedIn events number
    pub left : List ℕ
    pub parts : concat (frames_in run number events) ≡ took ++ left
    pub leaves : LeavesSo (outbox_limit run.setting.buffer) close.cause (length left)
    pub shows : Shows (source_of run) close.before number close.cause link

  abbrev pub StandsBy : Bool → Run → List Event → List ℕ → ℕ → Client → Type 0
  StandsBy true run events took number client = IsOpen events number client
  StandsBy false run events took number client = HasGone run events took number client.link

  pub record IsKnown (run : Run) (events : List Event) (took : ℕ → List ℕ) (hub : Hub) (number : ℕ) (client : Client) : Type 0 where
    pub taken : Bytes → client.link.taken ≡ Some (took number)
    pub stands : StandsBy (is_some (outbox_of hub number)) run events (took number) number client

  -- of an open one
  pub its_open : (run : Run) (events : List Event) (took : ℕ → List ℕ) (hub : Hub) (number : ℕ) (client : Client) → IsSome (outbox_of hub number) → IsKnown run events took hub number client → IsOpen events number client
  its_open run events took hub number client there k = subst (λ (b : Bool). StandsBy b run events (took number) number client) there k.stands

  pub open_known : (run : Run) (events : List Event) (took : ℕ → List ℕ) (hub : Hub) (number : ℕ) (client : Client) → IsSome (outbox_of hub number)
      → (Bytes → client.link.taken ≡ Some (took number)) → IsOpen events number client → IsKnown run events took hub number client
  open_known run events took hub number client there taken is =
      record { taken = taken; stands = subst (λ (b : Bool). StandsBy b run events (took number) number client) (sym there) is }

  pub gone_known : (run : Run) (events : List Event) (took : ℕ → List ℕ) (hub : Hub) (number : ℕ) (client : Client) → is_some (outbox_of hub number) ≡ false
      → (Bytes → client.link.taken ≡ Some (took number)) → HasGone run events (took number) number client.link → IsKnown run events took hub number client
  gone_known run events took hub number client none taken is =
      record { taken = taken; stands = subst (λ (b : Bool). StandsBy b run events (took number) number client) (sym none) is }

  -- in a run like it
  pub liked : (run now : Run) → IsLike run now → (events : List Event) (took : ℕ → List ℕ) (hub : Hub) (number : ℕ) (client : Client) → IsKnown run events took hub number client → IsKnown now events took hub number client
  liked run now like events took hub number client k = record { taken = k.taken; stands = by (is_some (outbox_of hub number)) k.stands } where
    frames : frames_in run number events ≡ frames_in now number events
    frames = λ i. stream (sym like.source i) (sym like.buffer i) number events

    by : (b : Bool) → StandsBy b run events (took number) number client → StandsBy b now events (took number) number client
    by true is = is
    by false gone = record {
      close = gone.close;
      left = gone.left;
      parts = ap (λ (fs : List (List ℕ)). concat fs) (sym frames) ∙ gone.parts;
      leaves = subst (λ (b : ℕ). LeavesSo (outbox_limit b) gone.close.cause (length gone.left)) (sym like.buffer) gone.leaves;
      shows = subst (λ (source : FrameSource). Shows source gone.close.before number gone.close.cause client.link) (sym like.source) gone.shows;
    }

  -- ---- others do something

  open_longer : (events more : List Event) (number : ℕ) (client : Client) → AllByRecursion (IsOther number) more → IsOpen events number client → IsOpen (events ++ more) number client
  open_longer events more number client others is = record {
    due = is.due;
    reads = λ b.
        let r = is.reads b in record {
          given = r.given;
          told = r.told;
          asked = r.asked ∙ ap (λ (fs : List (List ℕ)). fs ++ client.turn.asks) (sym (asked_still number events more others));
          cut = r.cut;
          tried = r.tried;
        };
  }

  gone_longer : (run : Run) (events more : List Event) (took : List ℕ) (number : ℕ) (link : LinkTold) → AllByRecursion (IsOther number) more → is_open number (traffic (source_of run) events) ≡ false
      → HasGone run events took number link → HasGone run (events ++ more) took number link
  gone_longer run events more took number link others shut gone =
      let close = gone.close in
      let same = (stream_still (source_of run) run.setting.buffer number (frames_in run number events) events more others (record { shut = shut; same = refl })).same in
      record {
        close = record {
          before = close.before;
          cause = close.cause;
          after = close.after ++ more;
          place = ap (λ (es : List Event). es ++ more) close.place ∙ append_assoc close.before (event.Close number close.cause ∷ close.after) more;
          limit = λ is. ap (λ (fs : List (List ℕ)). length fs) (asked_still number events more others) ∙ close.limit is;
        };
        left = gone.left;
        parts = ap (λ (fs : List (List ℕ)). concat fs) same ∙ gone.parts;
        leaves = gone.leaves;
        shows = gone.shows;
      }

  pub aside : (run : Run) (events more : List Event) (took took_now : ℕ → List ℕ) (old : Core) (new : Hub) → IsAfter run events took old → (number : ℕ) (client : Client) → AllByRecursion (IsOther number) more
      → took_now number ≡ took number → is_some (outbox_of new number) ≡ is_some (outbox_of old.hub number) → IsKnown run events took old.hub number client → IsKnown run (events ++ more) took_now new number client
  aside run events more took took_now old new after number client others same_took same_open k = record {
    taken = λ b. k.taken b ∙ ap Some (sym same_took);
    stands = subst (λ (b : Bool). StandsBy b run (events ++ more) (took_now number) number client) (sym same_open)
        (subst (λ (t : List ℕ). StandsBy (is_some (outbox_of old.hub number)) run (events ++ more) t number client) (sym same_took) (by (is_some (outbox_of old.hub number)) refl k.stands));
  } where
    by : (b : Bool) → is_some (outbox_of old.hub number) ≡ b → StandsBy b run events (took number) number client → StandsBy b run (events ++ more) (took number) number client
    by true is so = open_longer events more number client others so
    by false is so = gone_longer run events more (took number) number client.link others (open_as run events took old after number ∙ is) so

  -- ---- its link was shut

  pub shut_known : (run : Run) (events : List Event) (took : ℕ → List ℕ) (hub : Hub) (number : ℕ) (was : Client) (link : LinkTold) → IsShut was.link link → IsKnown run events took hub number was
      → IsKnown run events took hub number (record was { link = link })
  shut_known run events took hub number was link shut k = record {
    taken = λ b. stays_as was.link.taken link.taken (took number) shut.taken (k.taken b);
    stands = by (is_some (outbox_of hub number)) k.stands;
  } where
    due_shut : (due : Option Why) → ShowsDue due was.link → ShowsDue due link
    due_shut None shows = tt
    due_shut (Some why.Left) shows = λ o. shut.over (shows o)
    due_shut (Some why.Broken) shows = omega (arith, shows, shut.faults)
    due_shut (Some _) shows = tt

    tried_shut : (cause : Why) (given : List ℕ) → IsTriedFor cause was.link given → IsTriedFor cause link given
    tried_shut why.Stopped given (inl idle) = inl (omega (arith, idle, shut.idles))
    tried_shut why.Stopped given (inr tried) = inr (omega (arith, tried, shut.waits))
    tried_shut (why.Stuck left) given tried = omega (arith, tried, shut.waits)
    tried_shut _ given tried = tt

    by : (b : Bool) → StandsBy b run events (took number) number was → StandsBy b run events (took number) number (record was { link = link })
    by true is = record {
      due = due_shut was.due is.due;
      reads = λ b.
          let r = is.reads b in record {
            given = r.given;
            told = stays_as was.link.given link.given r.given shut.given r.told;
            asked = r.asked;
            cut = r.cut;
            tried = omega (arith, r.tried, shut.waits);
          };
    }
    by false gone =
        let cause : Why = gone.close.cause in
        let shows = gone.shows in
        let asked_now : Bytes → Asked (source_of run) gone.close.before number cause link = λ b.
        let a = shows.asked b in record { given = a.given; told = stays_as was.link.given link.given a.given shut.given a.told; heard_so = a.heard_so; tried = tried_shut cause a.given a.tried } in
        record {
          close = gone.close;
          left = gone.left;
          parts = gone.parts;
          leaves = gone.leaves;
          shows = record { counts = counts_shut cause was.link link shut shows.counts; over = λ o. over_shut cause was.link link shut (shows.over o); asked = asked_now };
        }

  -- ---- its link gave something

  due_heard : (number : ℕ) (due : Option Why) (link link_now : LinkTold) (gave : Answer) (into unread : List ℕ) (asks : List (List ℕ)) → IsDue gave into unread due asks → HasReceiveCause link link_now gave
      → (due ≡ Some why.Left → Over → link_now.over ≡ Some true) → ShowsDue due link_now
  due_heard number None link link_now gave into unread asks is cause over = tt
  due_heard number (Some why.Left) link link_now gave into unread asks is cause over = over refl
  due_heard number (Some why.Broken) link link_now (answer.Bytes n) into unread asks is cause over = absurd is.0
  due_heard number (Some why.Broken) link link_now answer.NotYet into unread asks is cause over = absurd (cc is.0)
  due_heard number (Some why.Broken) link link_now answer.End into unread asks is cause over = absurd (cc is.0)
  due_heard number (Some why.Broken) link link_now answer.Failed into unread asks is cause over = (let rose = cause.0.1 in omega (arith, rose))
  due_heard number (Some _) link link_now gave into unread asks is cause over = tt

  module _ (events : List Event) (number : ℕ) (was : Client) (link : LinkTold) (cut : Cutting) (due : Option Why) (turn : Turn) (gave : Answer) (into : List ℕ) (hears : Hears was.link link gave into)
      (is_due : IsDue gave into was.cutter.unread due turn.asks) (cut_so : (stream : List ℕ) → due ≡ None → HasCut stream was.cutter → HasCut (stream ++ heard gave into) cut) (idle : IsIdle was)
      (counts : Counts (HasGiven was.link.given link.given) was.turn.tried turn.tried) where
    abbrev now : Client
    now = record { link = link; cutter = cut; due = due; turn = turn }

    gave_reads : Reads events number was → Reads events number now
    gave_reads r = record {
      given = all;
      told = told;
      asked = asked_now gave is_due;
      cut = cut_now due refl;
      tried = tried_now counts;
    } where
      all : List ℕ
      all = r.given ++ heard gave into

      told : link.given ≡ Some all
      told = subst (λ (o : Option (List ℕ)). Grows o link.given (heard gave into)) r.told (gives_heard was.link.given link.given gave into hears.given)

      was_cut : HasCut r.given was.cutter
      was_cut = subst (λ (o : Option Why). IsCutFor o r.given was.cutter) idle.0 r.cut

      asked : requests r.given ≡ asked_by number events
      asked = r.asked ∙ ap (λ (fs : List (List ℕ)). asked_by number events ++ fs) idle.1 ∙ append-nil (asked_by number events)

      nothing : turn.asks ≡ [] → requests (r.given ++ []) ≡ asked_by number events ++ turn.asks
      nothing none = ap requests (append-nil r.given) ∙ asked ∙ sym (append-nil (asked_by number events)) ∙ ap (λ (fs : List (List ℕ)). asked_by number events ++ fs) (sym none)

      asked_now : (it : Answer) → IsDue it into was.cutter.unread due turn.asks → requests (r.given ++ heard it into) ≡ asked_by number events ++ turn.asks
      asked_now (answer.Bytes n) is =
          requests-append r.given (take n into) ∙ ap (λ (u : List ℕ). requests r.given ++ requests (u ++ take n into)) (sym was_cut.rest)
          ∙ ap (λ (fs : List (List ℕ)). fs ++ requests (was.cutter.unread ++ take n into)) asked ∙ ap (λ (fs : List (List ℕ)). asked_by number events ++ fs) (sym is.1)
      asked_now answer.NotYet is = nothing is.1
      asked_now answer.End is = nothing is.1
      asked_now answer.Failed is = nothing is.1

      good : is_bad (r.given ++ []) ≡ false
      good = ap is_bad (append-nil r.given) ∙ not_bad r.given was.cutter was_cut

      bad : (it : Answer) (cause : Why) → due ≡ Some cause → IsDue it into was.cutter.unread due turn.asks → IsCutFor (Some cause) (r.given ++ heard it into) cut
      bad (answer.Bytes n) why.Left same is = absurd (subst (λ (o : Option Why). IsDue (answer.Bytes n) into was.cutter.unread o turn.asks) same is).0
      bad (answer.Bytes n) why.Broken same is = absurd (subst (λ (o : Option Why). IsDue (answer.Bytes n) into was.cutter.unread o turn.asks) same is).0
      bad (answer.Bytes n) why.Malformed same is =
          ap (λ (rest : List ℕ). is_some (rest_fault message_limit rest)) (rest_on r.given (take n into) ∙ ap (λ (u : List ℕ). rest_of message_limit (u ++ take n into)) (sym was_cut.rest))
          ∙ (subst (λ (o : Option Why). IsDue (answer.Bytes n) into was.cutter.unread o turn.asks) same is).0
      bad (answer.Bytes n) _ same is = tt
      bad answer.NotYet cause same is = absurd (let wrong : None ≡ Some cause = sym is.0 ∙ same in cc wrong)
      bad answer.End cause same is = subst (λ (o : Option Why). IsCutFor o (r.given ++ []) cut) (sym is.0 ∙ same) good
      bad answer.Failed cause same is = subst (λ (o : Option Why). IsCutFor o (r.given ++ []) cut) (sym is.0 ∙ same) good

      cut_now : (o : Option Why) → due ≡ o → IsCutFor o all cut
      cut_now None same = cut_so r.given same was_cut
      cut_now (Some cause) same = bad gave cause same is_due

      tried_now : Counts (HasGiven was.link.given link.given) was.turn.tried turn.tried → min turn.tried (2 ^ 64 - 1) ≤ link.waits + length all
      tried_now (inl same) = omega (arith, same, r.tried, hears.waits, length-append r.given (heard gave into))
      tried_now (inr more) =
          let grown : link.given ≡ Some (r.given ++ more.0.0) = subst (λ (o : Option (List ℕ)). Grows o link.given more.0.0) r.told more.0.1 in
          let same : all ≡ r.given ++ more.0.0 = cc (sym told ∙ grown) in
          let one = more.0.2 in
          omega (arith, more.1, one, r.tried, hears.waits, ap (λ (xs : List ℕ). length xs) same, length-append r.given more.0.0)

    pub gave_open : (due ≡ Some why.Left → Over → link.over ≡ Some true) → IsOpen events number was → IsOpen events number now
    gave_open over is = record { due = due_heard number due was.link link gave into was.cutter.unread turn.asks is_due hears.cause over; reads = λ b. gave_reads (is.reads b) }

  -- ---- a request was served

  pub asked_open : (events : List Event) (number : ℕ) (was : Client) (frame : List ℕ) (others : List (List ℕ)) (client : ℕ) (frame_now : List ℕ) (done : Done) → client ≡ number → frame_now ≡ frame
      → was.turn.asks ≡ frame ∷ others → IsOpen events number was → IsOpen (events ++ event.Request client frame_now done ∷ []) number (record was { turn = record was.turn { asks = others } })
  asked_open events number was frame others client frame_now done of_client of_frame next is = record {
    due = is.due;
    reads = λ b.
        let r = is.reads b in
        let one : asked_by number (event.Request client frame_now done ∷ []) ≡ frame ∷ [] = rw (eq-eqb client number of_client) (ap (λ (f : List ℕ). f ∷ []) of_frame) in
        record {
          given = r.given;
          told = r.told;
          asked = r.asked ∙ ap (λ (fs : List (List ℕ)). asked_by number events ++ fs) next ∙ sym (append_assoc (asked_by number events) (frame ∷ []) others)
              ∙ ap (λ (fs : List (List ℕ)). (asked_by number events ++ fs) ++ others) (sym one) ∙ ap (λ (fs : List (List ℕ)). fs ++ others) (sym (asked_both number events (event.Request client frame_now done ∷ [])));
          cut = r.cut;
          tried = r.tried;
        };
  }

  -- ---- what waits was sent

  pub sent_open : (events : List Event) (number : ℕ) (was : Client) (link : LinkTold) (due : Option Why) (turn : Turn) (core : Core) → IsOnlySent was.link link → SendsRightly number due core was.link link → IsIdle was
      → turn.asks ≡ [] → Counts (HasRisen was.link.waits link.waits) was.turn.tried turn.tried → IsOpen events number was → IsOpen events number (record was { link = link; due = due; turn = turn })
  sent_open events number was link due turn core only sends idle none counts is = record {
    due = due_sent due sends;
    reads = λ b.
        let r = is.reads b in
        let was_cut : HasCut r.given was.cutter = subst (λ (o : Option Why). IsCutFor o r.given was.cutter) idle.0 r.cut in
        record {
          given = r.given;
          told = stays_as was.link.given link.given r.given only.given r.told;
          asked = r.asked ∙ ap (λ (fs : List (List ℕ)). asked_by number events ++ fs) (idle.1 ∙ sym none);
          cut = cut_sent r.given was_cut due sends;
          tried = tried_sent r.given r.tried counts;
        };
  } where
    due_sent : (o : Option Why) → SendsRightly number o core was.link link → ShowsDue o link
    due_sent None sends = tt
    due_sent (Some why.Broken) sends = (let rose = sends.0.1 in omega (arith, rose))
    due_sent (Some _) sends = absurd sends

    cut_sent : (given : List ℕ) → HasCut given was.cutter → (o : Option Why) → SendsRightly number o core was.link link → IsCutFor o given was.cutter
    cut_sent given cut None sends = cut
    cut_sent given cut (Some why.Broken) sends = not_bad given was.cutter cut
    cut_sent given cut (Some _) sends = absurd sends

    waits : (o : Option Why) → SendsRightly number o core was.link link → was.link.waits ≤ link.waits
    waits None sends = elim sends.0 [ inl all ↦ omega (arith, all.1) | inr some ↦ some.1.0 ]
    waits (Some why.Broken) sends = omega (arith, sends.1)
    waits (Some _) sends = absurd sends

    tried_sent : (given : List ℕ) → min was.turn.tried (2 ^ 64 - 1) ≤ was.link.waits + length given → Counts (HasRisen was.link.waits link.waits) was.turn.tried turn.tried
        → min turn.tried (2 ^ 64 - 1) ≤ link.waits + length given
    tried_sent given tried (inl same) = omega (arith, same, tried, waits due sends)
    tried_sent given tried (inr more) = (let rose = more.0.1 in omega (arith, more.1, rose, tried))

  -- ---- it was closed

  shows_so : (events : List Event) (number : ℕ) (cause : Why) (was : Client) (old : State) → MayClose number cause was old → IsOpen events number was → ShowsCause was.link cause × (Over → IsOverFor cause was.link)
  shows_so events number why.Left was old may is = (tt, subst (λ (o : Option Why). ShowsDue o was.link) may.0 is.due)
  shows_so events number why.Broken was old may is = (subst (λ (o : Option Why). ShowsDue o was.link) may.0 is.due, λ o. tt)
  shows_so events number (why.Stuck left) was old may is = (may.2, λ o. tt)
  shows_so events number _ was old may is = (tt, λ o. tt)

  asked_so : (run : Run) (events : List Event) (took : ℕ → List ℕ) (old : State) → IsAfter run events took old.core → (number : ℕ) (cause : Why) (was : Client) → MayClose number cause was old → Reads events number was
      → Asked (source_of run) events number cause was.link
  asked_so run events took old after number cause was may r = let so = by cause may in record { given = r.given; told = r.told; heard_so = so.0; tried = so.1 } where
    all : was.turn.asks ≡ [] → requests r.given ≡ asked_by number events
    all none = r.asked ∙ ap (λ (fs : List (List ℕ)). asked_by number events ++ fs) none ∙ append-nil (asked_by number events)

    cut_for : (w : Why) → was.due ≡ Some w → IsCutFor (Some w) r.given was.cutter
    cut_for w due = subst (λ (o : Option Why). IsCutFor o r.given was.cutter) due r.cut

    good : was.due ≡ None → is_bad r.given ≡ false
    good due = not_bad r.given was.cutter (subst (λ (o : Option Why). IsCutFor o r.given was.cutter) due r.cut)

    refused : (w : Why) (frame : List ℕ) (others : List (List ℕ)) → was.turn.asks ≡ frame ∷ others → Refuses number frame w old.core → HasHeard (source_of run) events number (Some w) r.given
    refused w frame others next so = heard_refused run events took old.core after number frame others w r.given (r.asked ∙ ap (λ (fs : List (List ℕ)). asked_by number events ++ fs) next) so

    by : (w : Why) → MayClose number w was old → HasHeard (source_of run) events number (Some w) r.given × IsTriedFor w was.link r.given
    by why.Left may = (heard_good (source_of run) events number why.Left r.given (λ s b g a is. is) (λ is. absurd (cc is)) (cut_for why.Left may.0) (all may.1), tt)
    by why.Broken may = (heard_good (source_of run) events number why.Broken r.given (λ s b g a is. is) (λ is. absurd (cc is)) (cut_for why.Broken may.0) (all may.1), tt)
    by why.Malformed may = (heard_all (source_of run) events number why.Malformed r.given (λ s b g a is. is) (λ bad. refl) (λ is. cut_for why.Malformed may.0) (all may.1), tt)
    by why.Stopped may = (
      heard_good (source_of run) events number why.Stopped r.given (λ s b g a is. is) (λ is. absurd (cc is)) (good may.1.0) (all may.1.1),
      elim may.2 [ inl idle ↦ inl idle | inr tried ↦ inr (omega (arith, tried, r.tried)) ],
    )
    by (why.Stuck left) may =
        (heard_good (source_of run) events number (why.Stuck left) r.given (λ s b g a is. is) (λ is. absurd (cc is)) (good may.1.0) (all may.1.1), let tried = may.3 in omega (arith, tried, r.tried))
    by why.TooMany may = (refused why.TooMany may.0 may.1 may.2 may.3, tt)
    by why.NoMemory may = (refused why.NoMemory may.0 may.1 may.2 may.3, tt)
    by (why.Slow room need) may = (refused (why.Slow room need) may.0 may.1 may.2 may.3, tt)

  pub closed_gone : (run : Run) (events : List Event) (took : ℕ → List ℕ) (old new : State) (number : ℕ) (cause : Why) (was : Client) → IsAfter run events took old.core
      → IsAfter run (events ++ event.Close number cause ∷ []) took new.core → MayClose number cause was old → HasLeft number cause new.core.hub → IsOpen events number was
      → HasGone run (events ++ event.Close number cause ∷ []) (took number) number was.link
  closed_gone run events took old new number cause was after now may left is =
      let shows = shows_so events number cause was old may is in
      let rest = left_so run (events ++ event.Close number cause ∷ []) took new.core now number cause (client_of new.core.hub number) refl left in
      let full = λ (same : cause ≡ why.TooMany).
      let refused = subst (λ (w : Why). MayClose number w was old) same may in
      asked_count run events took old.core after number (λ (n : ℕ). n ≡ request_limit) (client_of old.core.hub number) refl refused.3 in
      record {
        close = record {
          before = events;
          cause = cause;
          after = [];
          place = refl;
          limit = λ same. ap (λ (fs : List (List ℕ)). length fs) (asked_still number events (event.Close number cause ∷ []) (tt, tt)) ∙ full same;
        };
        left = rest.0;
        parts = rest.1;
        leaves = rest.2;
        shows = record { counts = shows.0; over = shows.1; asked = λ b. asked_so run events took old after number cause was may (is.reads b) };
      }

  -- ---- what was admitted

  module _ (run : Run) (events more : List Event) (took : ℕ → List ℕ) (old new : Core) (after : IsAfter run events took old) (mild : AllByRecursion IsMild more) (rooms : TellRooms run took events more)
      (clients : KeepsClients more old.hub new.hub) (number : ℕ) (client : Client) (idle : IsIdle client) (k : IsKnown run events took old.hub number client) where
    slow_gone : IsSome (why_of number more) → HasGone run (events ++ more) (took number) number client.link
    slow_gone some =
        let source = source_of run in
        let parts = parts_of number more mild some in
        let cause : Why = why.Slow parts.room parts.need in
        let close : Event = event.Close number cause in
        let before : List Event = events ++ parts.before in
        let all_mild = subst (AllByRecursion IsMild) parts.parted mild in
        let room = rooms_at run took events parts.before close parts.after (subst (TellRooms run took events) parts.parted rooms) in
        let place : events ++ more ≡ before ++ close ∷ parts.after = ap (λ (es : List Event). events ++ es) parts.parted ∙ sym (append_assoc events parts.before (close ∷ parts.after)) in
        let others_before = all_map IsMild (IsOther number) (mild_other number) parts.before (all_first IsMild parts.before (close ∷ parts.after) all_mild) in
        let others_after = all_map IsMild (IsOther number) (mild_other number) parts.after (all_second IsMild parts.before (close ∷ parts.after) all_mild).1 in
        let whole : frames_in run number (events ++ more) ≡ frames_in run number before =
        ap (frames_in run number) (place ∙ sym (append_assoc before (close ∷ []) parts.after))
        ∙ (stream_still source run.setting.buffer number (frames_in run number before) (before ++ close ∷ []) parts.after others_after (stands_closing source run.setting.buffer number cause before)).same in
        let is = its_open run events took old.hub number client (clients.go number some).0 k in
        let asked_now : Bytes → Asked source before number cause client.link = λ b.
        let r = is.reads b in
        let all : requests r.given ≡ asked_by number before =
        r.asked ∙ ap (λ (fs : List (List ℕ)). asked_by number events ++ fs) idle.1 ∙ append-nil (asked_by number events) ∙ sym (asked_still number events parts.before others_before) in
        let good : is_bad r.given ≡ false = not_bad r.given client.cutter (subst (λ (o : Option Why). IsCutFor o r.given client.cutter) idle.0 r.cut) in
        record { given = r.given; told = r.told; heard_so = heard_good source before number cause r.given (λ s e g a same. inl same) (λ same. absurd (cc same)) good all; tried = tt } in
        record {
          close = record { before = before; cause = cause; after = parts.after; place = place; limit = λ same. absurd (cc same) };
          left = room.0;
          parts = ap (λ (fs : List (List ℕ)). concat fs) whole ∙ room.1;
          leaves = room.2;
          shows = record { counts = tt; over = λ o. tt; asked = asked_now };
        }

    pub admitted_known : IsKnown run (events ++ more) took new.hub number client
    admitted_known = by (why_of number more) refl where
      by : (o : Option Why) → why_of number more ≡ o → IsKnown run (events ++ more) took new.hub number client
      by None stays = aside run events more took took old new.hub after number client (all_map IsMild (IsOther number) (mild_other number) more mild) refl (clients.stay number stays) k
      by (Some cause) goes = record {
        taken = k.taken;
        stands = subst (λ (b : Bool). StandsBy b run (events ++ more) (took number) number client) (sym (ap is_some (clients.go number (ap is_some goes)).1)) (slow_gone (ap is_some goes));
      }
