-- What a client is, by the events of a run, before and after visits.
use Rattle.std.proofs.Common.{◌≡◌, ◌≢◌, ℕ, ◌+◌, ◌-◌, ◌<◌, ◌≤◌, Bool, true, false, cond, List, [], ◌∷◌, ◌++◌, length, Option, Some, None, inl, inr, refl, sym, ap, subst, ◌∙◌, append_assoc, length-append, arith}
use Rattle.std.specs.Prelude.{is_some, slice_get, slice_set, IfNone, IfSome, IsSome, IsSomeAnd}
use Rattle.std.specs.List.{concat}
use Rattle.std.specs.Option.{option_and_then}
use Rattle.std.proofs.lemmas.Bool.Decides.{eqb_tells}
use Rattle.std.proofs.lemmas.List.{append-nil}
use Rattle.dl_events.specs.declared.event.Event.{Event}
use Rattle.dl_events.specs.declared.event.Event.TheVariants as event
use Rattle.dl_events.specs.declared.event.Why.{Why}
use Rattle.dl_events.specs.declared.event.Why.TheVariants.{Left}
use Rattle.dl_bytes.specs.Limits.{message_limit}
use Rattle.dl_message.specs.Cut.{rest_fault, rest_of}
use Rattle.dl_message.specs.Cutting.{Cutting}
use Rattle.dl_message.specs.Requests.{requests}
use Rattle.dl_model.specs.ClientEnds.{HasGone, IsCause, LinkDid, asked_by}
use Rattle.dl_model.specs.ClientStream.{sent, stream, traffic}
use Rattle.dl_outside.specs.Outside.{Grows, Stays}
use Rattle.dl_outside.specs.Told.{LinkTold}
use Rattle.dl_hub.specs.State.{Client as HubClient, client_of, outbox_of}
use Rattle.dl_core.specs.Follows.{IsAfter, Run, source_of}
use Rattle.dl_core.specs.State.{Core}
use Rattle.dl_core.proofs.OpenClients.{its_stream}
use Rattle.dl_turns.specs.Gone.{IsShown, Tells}
use Rattle.dl_turns.specs.Later.{IsLaterStage, IsOpenWith, LeavesSo}
use Rattle.dl_turns.specs.Sent.{HasCut}
use Rattle.dl_turns.specs.State.{Side}
use Rattle.dl_turns.proofs.GoneClients.{goes, stays, unasked}
use Rattle.dl_turns.proofs.HeardSides.{asked_both}
use Rattle.dl_rounds.specs.Clients.{Client, Clients, IsClient, Visits, stage_of, with_client}
use Rattle.dl_rounds.specs.Passing.{AreAsNoted, AreLater, IsAsNoted, IsOverIfLeft, IsVisit, StayAsNoted, TellFrom, took_all}
use Rattle.dl_rounds.specs.Visits.{ShutsFor}
use Rattle.dl_rounds.proofs.Turned.{open_and_gone, placed, there_of}
use Rattle.dl_rounds.proofs.VisitedEvents.{all_both, all_none, all_one, only, took_none, took_twice}
use Rattle.dl_lemmas.proofs.Options.{some_of}
use Rattle.dl_lemmas.proofs.Lists.{set_here, set_other}

-- ---- a client that went stays as it went

-- what is left of its stream
pub record IsLeft (run : Run) (events : List Event) (number : ℕ) (took : List ℕ) (size : ℕ) : Type 0 where
  pub left : List ℕ
  pub parts : concat (stream (source_of run) run.setting.buffer number events) ≡ took ++ left
  pub size_is : length left ≡ size

pub left_of : (run : Run) (events : List Event) (taken : ℕ → List ℕ) (core : Core) (number : ℕ) (c : HubClient) → IsAfter run events taken core → client_of core.hub number ≡ Some c → c.outbox ≡ None
    → IsLeft run events number (taken number) c.left
left_of run events taken core number c is there gone =
    let rest = (its_stream run events taken core is number c there).gone gone in
    let frames : (ecu : List ℕ) (buffer : ℕ) → List (List ℕ) = λ ecu buffer. sent ecu buffer number (traffic (source_of run) events) in
    let ecu : concat (frames core.hub.ecu core.hub.buffer) ≡ concat (frames run.setting.ecu core.hub.buffer) = ap (λ (e : List ℕ). concat (frames e core.hub.buffer)) is.set_to.unit in
    let buffer : concat (frames run.setting.ecu core.hub.buffer) ≡ concat (frames run.setting.ecu run.setting.buffer) = ap (λ (b : ℕ). concat (frames run.setting.ecu b)) is.set_to.buffer in
    record { left = rest.0; parts = sym (ecu ∙ buffer) ∙ rest.1; size_is = rest.2 }

pub gone_longer : (run : Run) (past more : List Event) (taken taken_now : ℕ → List ℕ) (core core_now : Core) (number : ℕ) (did : LinkDid) (c c_now : HubClient) → IsAfter run past taken core
    → IsAfter run (past ++ more) taken_now core_now → client_of core.hub number ≡ Some c → client_of core_now.hub number ≡ Some c_now → c.outbox ≡ None → c_now.outbox ≡ None → c_now.left ≡ c.left
    → taken_now number ≡ taken number
    → did.taken ≡ taken number → HasGone run.setting (source_of run) past number did → HasGone run.setting (source_of run) (past ++ more) number did
gone_longer run past more taken taken_now core core_now number did c c_now is is_now there there_now none none_now same_left same_taken took gone =
    let a = left_of run past taken core number c is there none in
    let b = left_of run (past ++ more) taken_now core_now number c_now is_now there_now none_now in
    let all : did.taken ++ gone.left ≡ taken number ++ a.left = sym gone.took ∙ a.parts in
    let same : length gone.left ≡ length b.left =
    omega (arith, ap length all, length-append did.taken gone.left, length-append (taken number) a.left, ap length took, a.size_is, b.size_is, same_left) in
    record {
      before = gone.before;
      cause = gone.cause;
      after = gone.after ++ more;
      place = ap (λ (es : List Event). es ++ more) gone.place ∙ append_assoc gone.before (event.Close number gone.cause ∷ gone.after) more;
      left = b.left;
      took = b.parts ∙ ap (λ (bytes : List ℕ). bytes ++ b.left) (same_taken ∙ sym took);
      so = subst (λ (n : ℕ). IsCause run.setting did n gone.cause) same gone.so;
      asked = gone.asked;
      malformed = gone.malformed;
      too_many = gone.too_many;
    }

pub over_longer : (past more : List Event) (number : ℕ) (did : LinkDid) → IsOverIfLeft (past ++ more) number did → IsOverIfLeft past number did
over_longer past more number did over before after is =
    over before (after ++ more) (ap (λ (es : List Event). es ++ more) is ∙ append_assoc before (event.Close number Left ∷ after) more)

-- ---- a cutter that waits for more of the next message

pub not_bad : (bytes : List ℕ) (cutter : Cutting) → HasCut bytes cutter → is_some (rest_fault message_limit (rest_of message_limit bytes)) ≡ false
not_bad bytes cutter cut = ap (λ (rest : List ℕ). is_some (rest_fault message_limit rest)) (sym cut.rest) ∙ ap (λ (o : Option _). is_some o) cut.good.good

-- ---- what links tell

grown : (old new : Option (List ℕ)) (bytes more : List ℕ) → old ≡ Some bytes → Grows old new more → new ≡ Some (bytes ++ more)
grown None new bytes more is grows = absurd cc
grown (Some b) new bytes more is grows = let same : b ≡ bytes = cc is in grows ∙ ap (λ (x : List ℕ). Some (x ++ more)) same

stayed : (old new : Option (List ℕ)) (bytes : List ℕ) → old ≡ Some bytes → Stays old new → new ≡ Some bytes
stayed None new bytes is same = absurd cc
stayed (Some b) new bytes is same = let alike : b ≡ bytes = cc is in same ∙ ap Some alike

same_bytes : (o : Option (List ℕ)) (a b : List ℕ) → o ≡ Some a → o ≡ Some b → a ≡ b
same_bytes o a b one two = cc (sym one ∙ two)

one_bytes : {A : Type 0} (a b : A) → Some a ≡ Some b → a ≡ b
one_bytes a b is = cc is

shut_given : (why : Option Why) (link link_now : LinkTold) (bytes : List ℕ) → ShutsFor why link link_now → link.given ≡ Some bytes → link_now.given ≡ Some bytes
shut_given None link link_now bytes same is = ap (λ (l : LinkTold). l.given) same ∙ is
shut_given (Some why) link link_now bytes shut is = stayed link.given link_now.given bytes is shut.given

shut_taken : (why : Option Why) (link link_now : LinkTold) (bytes : List ℕ) → ShutsFor why link link_now → link.taken ≡ Some bytes → link_now.taken ≡ Some bytes
shut_taken None link link_now bytes same is = ap (λ (l : LinkTold). l.taken) same ∙ is
shut_taken (Some why) link link_now bytes shut is = stayed link.taken link_now.taken bytes is shut.taken

has_none : (o : Option HubClient) (limit : ℕ) (why : Why) → IsSomeAnd o (λ c. (c.outbox ≡ None) × LeavesSo limit why c.left) → option_and_then (λ (c : HubClient). c.outbox) o ≡ None
has_none None limit why has = absurd has
has_none (Some c) limit why has = has.0

took_other : (taken : ℕ → List ℕ) (number other : ℕ) (bytes : List ℕ) → other ≢ number → took_all taken (only number bytes) other ≡ taken other
took_other taken number other bytes apart = elim (eqb_tells other number) [
  | inl this ↦ absurd (apart this.1)
  | inr no_so ↦ ap (λ (b : Bool). taken other ++ cond b bytes []) no_so.0 ∙ append-nil (taken other)
]

took_here : (taken : ℕ → List ℕ) (number other : ℕ) (bytes : List ℕ) → other ≡ number → took_all taken (only number bytes) other ≡ taken number ++ bytes
took_here taken number other bytes same = elim (eqb_tells other number) [
  | inl this ↦ ap (λ (b : Bool). taken other ++ cond b bytes []) this.0 ∙ ap (λ (n : ℕ). taken n ++ bytes) same
  | inr apart ↦ absurd (apart.1 same)
]

-- ---- one visit

module _ (number : ℕ) (clients : Clients) (was now : Client) (some : 1 ≤ number) (is : IsClient number clients was) (visit : IsVisit number was now)
    (open_so : IsSome (outbox_of clients.side.core.hub number)) (told : IsSome was.link.given × IsSome was.link.taken)
    (run : Run) (past : List Event) (taken : ℕ → List ℕ) (noted : AreAsNoted run past taken clients) where
  back : number - 1 + 1 ≡ number
  back = omega (arith, some)

  gave : (bytes : List ℕ) × (was.link.given ≡ Some bytes)
  gave = some_of was.link.given told.0

  took : (bytes : List ℕ) × (was.link.taken ≡ Some bytes)
  took = some_of was.link.taken told.1

  took_so : took.0 ≡ taken number
  took_so = noted.took (number - 1) was.link took.0 is.link took.1 ∙ ap taken back

  there : IsSome (client_of clients.side.core.hub number)
  there = there_of clients.side.core.hub number open_so

  was_noted : HasCut gave.0 was.listener.cutter × (asked_by number past ≡ requests gave.0)
  was_noted = (noted.each number was is there).open_so (subst (λ (s : Side). IsSome (outbox_of s.core.hub number)) (sym is.side) open_so) gave.0 gave.1

  was_open : IsOpenWith number run past taken gave.0 (stage_of was)
  was_open = record { after = subst (λ (s : Side). IsAfter run past taken s.core) (sym is.side) noted.after; cut = was_noted.0; asked = was_noted.1 }

  noted_now : (why : Option Why) (link : LinkTold) (later : IsLaterStage number why (stage_of was) (record (stage_of now) { link = link })) → ShutsFor why link now.link
      → IfNone why (IsSome (outbox_of now.side.core.hub number))
      → IfSome why (λ cause. (did : LinkDid) → Tells was.link link did → (cause ≡ Left → did.is_over ≡ true) → IsShown did cause)
      → IsAsNoted run (past ++ later.side.more) number now
  noted_now None link later shut open_now shows =
      let with_it = stays number (stage_of was) (record (stage_of now) { link = link }) later run past taken gave.0 was_open in record {
        open_so = λ some_now given is_given.
            let same : given ≡ gave.0 ++ later.given = same_bytes now.link.given given (gave.0 ++ later.given) is_given
            (shut_given None link now.link (gave.0 ++ later.given) shut (grown was.link.given link.given gave.0 later.given gave.1 later.link_gave)) in
            (subst (λ (bytes : List ℕ). HasCut bytes now.listener.cutter) (sym same) with_it.cut, with_it.asked ∙ ap requests (sym same));
        gone_so = λ none did tells over. open_and_gone now.side.core.hub number open_now none;
      }
  noted_now (Some why) link later shut open_now shows = record {
    open_so = λ some_now given is_given. open_and_gone now.side.core.hub number some_now (has_none (client_of now.side.core.hub number) _ why later.side.leaves);
    gone_so = λ none did tells over.
        let link_given = grown was.link.given link.given gave.0 later.given gave.1 later.link_gave in
        let link_taken = grown was.link.taken link.taken took.0 later.sent took.1 later.link_took in
        let given : did.given ≡ gave.0 ++ later.given = same_bytes now.link.given did.given (gave.0 ++ later.given) tells.given (shut_given (Some why) link now.link (gave.0 ++ later.given) shut link_given) in
        let all_taken : did.taken ≡ took.0 ++ later.sent = same_bytes now.link.taken did.taken (took.0 ++ later.sent) tells.taken (shut_taken (Some why) link now.link (took.0 ++ later.sent) shut link_taken) in
        let tells_so : Tells was.link link did = record {
          before = told.0;
          given = link_given ∙ ap Some (sym given);
          taken = link_taken ∙ ap Some (sym all_taken);
          faults = sym shut.faults ∙ tells.faults;
          idles = sym shut.idles ∙ tells.idles;
          waits = sym shut.waits ∙ tells.waits;
        } in
        let is_over = λ (left : why ≡ Left).
        over (past ++ later.side.calm) []
        (ap (λ (es : List Event). past ++ es) later.side.ends ∙ sym (append_assoc past later.side.calm (event.Close number why ∷ []))
        ∙ ap (λ (w : Why). (past ++ later.side.calm) ++ event.Close number w ∷ []) left) in
        goes number why (stage_of was) (record (stage_of now) { link = link }) later run past taken gave.0 did was_open given
        (all_taken ∙ ap (λ (bytes : List ℕ). bytes ++ later.sent) took_so) (shows did tells_so is_over);
  }

  after_now : IsAfter run (past ++ visit.later.side.more) (took_all taken (only number visit.later.sent)) now.side.core
  unfolding all_one
  after_now = ((all_one number clients was now some is visit).after run past taken noted.after).0

  visited_so : (client : Client) → IsClient number (with_client number now clients) client → IsAsNoted run (past ++ visit.later.side.more) number client
  visited_so client at =
      let link : client.link ≡ now.link = one_bytes client.link now.link (sym at.link ∙ set_here clients.links (number - 1) was.link now.link is.link) in
      let listener : client.listener ≡ now.listener = one_bytes client.listener now.listener (sym at.listener ∙ set_here clients.listeners (number - 1) was.listener now.listener is.listener) in
      let same : client ≡ now = λ i. record { link = link i; listener = listener i; side = at.side i } in
      subst (λ (c : Client). IsAsNoted run (past ++ visit.later.side.more) number c) (sym same) (noted_now visit.why visit.link visit.later visit.shut visit.stays visit.shows)

  other_so : (other : ℕ) → other ≢ number → (client : Client) → IsClient other (with_client number now clients) client → IsSome (client_of now.side.core.hub other)
      → IsAsNoted run (past ++ visit.later.side.more) other client
  other_so other apart client at some_now =
      let place = placed now.side.core.hub other some_now in
      let hub : client_of now.side.core.hub other ≡ client_of clients.side.core.hub other = visit.later.side.others other apart ∙ ap (λ (s : Side). client_of s.core.hub other) is.side in
      let elsewhere : other - 1 ≢ number - 1 = λ e. apart (omega (arith, e, some, place.3)) in
      let before : Client = record { link = client.link; listener = client.listener; side = clients.side } in
      let at_before : IsClient other clients before = record {
        link = sym (set_other clients.links (number - 1) (other - 1) now.link elsewhere) ∙ at.link;
        listener = sym (set_other clients.listeners (number - 1) (other - 1) now.listener elsewhere) ∙ at.listener;
        side = refl;
      } in
      let was_so = noted.each other before at_before (subst (λ (o : Option HubClient). IsSome o) hub some_now) in
      let outbox : outbox_of client.side.core.hub other ≡ outbox_of clients.side.core.hub other =
      ap (λ (s : Side). outbox_of s.core.hub other) at.side ∙ ap (λ (o : Option HubClient). option_and_then (λ (c : HubClient). c.outbox) o) hub in
      let asked : asked_by other (past ++ visit.later.side.more) ≡ asked_by other past =
      asked_both other past visit.later.side.more
      ∙ ap (λ (fs : List (List ℕ)). asked_by other past ++ fs) (unasked number other visit.why visit.later.sent was.side now.side visit.later.side apart) ∙ append-nil (asked_by other past) in
      record {
        open_so = λ open_now given is_given.
            let so = was_so.open_so (subst (λ (o : Option _). IsSome o) outbox open_now) given is_given in (so.0, asked ∙ so.1);
        gone_so = λ none did tells over.
            let gone = was_so.gone_so (sym outbox ∙ none) did tells (over_longer past visit.later.side.more other did over) in
            let took_did : did.taken ≡ taken other = noted.took (other - 1) client.link did.taken at_before.link tells.taken ∙ ap taken (omega (arith, place.3)) in
            let none_of : place.0.outbox ≡ None =
            sym (ap (λ (o : Option HubClient). option_and_then (λ (c : HubClient). c.outbox) o) place.1) ∙ sym (ap (λ (s : Side). outbox_of s.core.hub other) at.side) ∙ none in
            gone_longer run past visit.later.side.more taken (took_all taken (only number visit.later.sent)) clients.side.core now.side.core other did place.0 place.0 noted.after after_now (sym hub ∙ place.1) place.1 none_of none_of refl
            (took_other taken number other visit.later.sent apart) took_did gone;
      }

  took_now : (place : ℕ) (link : LinkTold) (bytes : List ℕ) → slice_get (slice_set clients.links (number - 1) now.link) place ≡ Some link → link.taken ≡ Some bytes
      → bytes ≡ took_all taken (only number visit.later.sent) (place + 1)
  took_now place link bytes at is_taken = elim (eqb_tells (place + 1) number) [
    | inl this ↦
        let here : place ≡ number - 1 = omega (arith, this.1) in
        let same : link ≡ now.link =
        one_bytes link now.link (sym at ∙ ap (λ (n : ℕ). slice_get (slice_set clients.links (number - 1) now.link) n) here ∙ set_here clients.links (number - 1) was.link now.link is.link) in
        let now_taken = shut_taken visit.why visit.link now.link (took.0 ++ visit.later.sent) visit.shut (grown was.link.taken visit.link.taken took.0 visit.later.sent took.1 visit.later.link_took) in
        same_bytes now.link.taken bytes (took.0 ++ visit.later.sent) (sym (ap (λ (l : LinkTold). l.taken) same) ∙ is_taken) now_taken
        ∙ ap (λ (xs : List ℕ). xs ++ visit.later.sent) took_so ∙ sym (took_here taken number (place + 1) visit.later.sent this.1)
    | inr other ↦
        let apart : place ≢ number - 1 = λ e. other.1 (omega (arith, e, some)) in
        noted.took place link bytes (sym (set_other clients.links (number - 1) place now.link apart) ∙ at) is_taken ∙ sym (took_other taken number (place + 1) visit.later.sent other.1)
  ]

  noted_one : AreAsNoted run (past ++ visit.later.side.more) (took_all taken (only number visit.later.sent)) (with_client number now clients)
  noted_one = record {
    after = after_now;
    took = took_now;
    each = λ other client at some_now. elim (eqb_tells other number) [
      | inl this ↦ subst (λ (n : ℕ). IsAsNoted run (past ++ visit.later.side.more) n client) (sym this.1) (visited_so client (subst (λ (n : ℕ). IsClient n (with_client number now clients) client) this.1 at))
      | inr apart ↦ other_so other apart.1 client at some_now
    ];
  }

-- ---- all of them

-- the same from a client on
record StayFrom (last : ℕ) (old new : Clients) : Type 0 where
  later : AreLater old new
  stay : (run : Run) (past : List Event) (taken : ℕ → List ℕ) → TellFrom last old.links → AreAsNoted run past taken old → AreAsNoted run (past ++ later.more) (took_all taken later.sent) new

stay_none : (last : ℕ) (clients : Clients) → StayFrom last clients clients
unfolding all_none
stay_none last clients = record {
  later = all_none clients;
  stay = λ run past taken told noted.
      subst (λ (t : ℕ → List ℕ). AreAsNoted run (past ++ []) t clients) (took_none taken) (subst (λ (es : List Event). AreAsNoted run es taken clients) (sym (append-nil past)) noted);
}

stay_one : (last number : ℕ) (old new : Clients) (was now : Client) → last < number → IsSome (outbox_of old.side.core.hub number) → IsClient number old was → IsVisit number was now
    → StayFrom number (with_client number now old) new → StayFrom last old new
unfolding all_both all_one
stay_one last number old new was now above open_so is visit rest =
    let some : 1 ≤ number = omega (arith, above) in
    let between = with_client number now old in
    let one = all_one number old was now some is visit in
    record {
      later = all_both old between new one rest.later;
      stay = λ run past taken told noted.
          let here = noted_one number old was now some is visit open_so (told (number - 1) was.link (omega (arith, above)) is.link) run past taken noted in
          let beyond : TellFrom number between.links = λ place link first at.
          told place link (omega (arith, first, above)) (sym (set_other old.links (number - 1) place now.link (λ e. absurd (omega (arith, e, first, some)))) ∙ at) in
          let all = rest.stay run (past ++ one.more) (took_all taken one.sent) beyond here in
          subst (λ (t : ℕ → List ℕ). AreAsNoted run (past ++ (one.more ++ rest.later.more)) t new) (took_twice taken one.sent rest.later.sent)
          (subst (λ (es : List Event). AreAsNoted run es (took_all (took_all taken one.sent) rest.later.sent) new) (append_assoc past one.more rest.later.more) all);
    }

stay_from : (Visit : ℕ → Bool → Client → Client → Type 0) → ((number : ℕ) (moved : Bool) (was now : Client) → Visit number moved was now → IsVisit number was now)
    → (last : ℕ) (numbers : List ℕ) (moved : Bool) (old new : Clients) → Visits Visit last numbers moved old new → StayFrom last old new
stay_from Visit is last [] moved old new visits = subst (λ (c : Clients). StayFrom last old c) (sym visits.2) (stay_none last old)
stay_from Visit is last (number ∷ numbers) moved old new visits =
    stay_one last number old new visits.1 visits.3 visits.0.0 visits.0.1 visits.2 (is number visits.4 visits.1 visits.3 visits.5) (stay_from Visit is number numbers visits.6 (with_client number visits.3 old) new visits.8)

pub stay_all : (Visit : ℕ → Bool → Client → Client → Type 0) → ((number : ℕ) (moved : Bool) (was now : Client) → Visit number moved was now → IsVisit number was now)
    → (moved : Bool) (old new : Clients) (numbers : List ℕ) → Visits Visit 0 numbers moved old new → StayAsNoted old new
stay_all Visit is moved old new numbers visits =
    let all = stay_from Visit is 0 numbers moved old new visits in record { later = all.later; stay = all.stay }
