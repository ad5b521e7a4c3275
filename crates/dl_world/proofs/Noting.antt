-- An event was noted: the world is then after its mark, and the links are behind by what it put into the outboxes.
use Rattle.std.proofs.Common.{◌⊎◌, inl, inr, ◌≡◌, ◌≢◌, ℕ, zero, suc, ◌+◌, ◌-◌, ◌<◌, ◌≤◌, eqb, cond, Bool, true, false, List, [], ◌∷◌, ◌++◌, length, Option, Some, None, refl, sym, ap, subst, ◌∙◌, arith}
use Rattle.std.specs.Prelude.{IfSome, is_some, slice_get, count_by}
use Rattle.std.specs.List.{range_with_len, concat, AllByRecursion}
use Rattle.std.specs.Option.{option_map_or, option_and_then}
use Rattle.std.proofs.lemmas.Option.{slice_get_within, slice_get_cases}
use Rattle.std.proofs.lemmas.List.FromFn.{length-range_with_len}
use Rattle.std.proofs.lemmas.List.Elements.{filter_map-append}
use Rattle.std.proofs.lemmas.Bool.Decides.{eqb_tells}
use Rattle.dl_events.specs.declared.event.Event.{Event}
use Rattle.dl_model.specs.Along.{last_that}
use Rattle.dl_model.specs.Frames.{FrameSource}
use Rattle.dl_model.specs.Journal.{is_close, is_connect, comes_or_goes}
use Rattle.dl_model.specs.Traffic as traffic
use Rattle.dl_model.specs.Traffic.{Traffic, clients}
use Rattle.dl_model.specs.ClientStream.{traffic, stream}
use Rattle.dl_script_model.specs.Marks.{Mark, Noted, event_of, journal, fed}
use Rattle.dl_model.proofs.Lists.{last_that-one, count_by-append}
use Rattle.dl_world_calls.specs.Follows as calls
use Rattle.dl_world_calls.proofs.InjectionCounts.{no-injection-stays}
use Rattle.dl_hub.specs.State as hub
use Rattle.dl_hub.specs.State.{Hub, Waiting, client_of, outbox_of}
use Rattle.dl_hub.specs.Follows as hub_after
use Rattle.dl_laws.specs.FrameLengths.{CarriesLen, GivesLengths}
use Rattle.dl_laws.specs.FramesPut.{IsPut}
use Rattle.dl_laws.proofs.FramesBehind.{put_by_events}
use Rattle.dl_laws.proofs.Traffics.{journal_goes_on}
use Rattle.dl_laws.proofs.Quiet.{open_in_journal, came_in_journal, shut_after}
use Rattle.dl_core.specs.Follows as core
use Rattle.dl_core.specs.Follows.{Run, source_of}
use Rattle.dl_core.specs.State.{Core}
use Rattle.dl_world.specs.Fed.{IsFedBy}
use Rattle.dl_world.specs.Follows.{IsAfter, IsBefore, IsBehind, stream_in}
use Rattle.dl_world.specs.State.{Client, client_at, taken_by}
use Rattle.dl_world.specs.declared.world.World.{World}
use Rattle.dl_world.proofs.Quiet.{apps_same, fed_same, heard_same, moment_same, later_same}
use Rattle.dl_lemmas.proofs.Options.{if_some}

pub journal_noted : (done : List Mark) (e : Event) → journal (done ++ Noted e ∷ []) ≡ journal done ++ e ∷ []
journal_noted done e = filter_map-append event_of done (Noted e ∷ [])

-- ---- how many clients are open

pub same_counts : (p q : ℕ → Bool) (first n : ℕ) → ((number : ℕ) → first ≤ number → number < first + n → p number ≡ q number)
    → count_by p (range_with_len first n) ≡ count_by q (range_with_len first n)
same_counts p q first zero same = refl
same_counts p q first (suc n) same =
    let here : p first ≡ q first = same first (omega arith) (omega arith) in
    let later = same_counts p q (first + 1) n (λ number above below. same number (omega (arith, above)) (omega (arith, below))) in
    let split = λ (r : ℕ → Bool). count_by-append r (first ∷ []) (range_with_len (first + 1) n) in
    let one : count_by p (first ∷ []) ≡ count_by q (first ∷ []) = rw here refl in
    omega (arith, split p, split q, one, later)

-- clients by their numbers, as the traffic has them
numbered : (p : ℕ → Bool) (cs : List hub.Client) (first : ℕ) → ((place : ℕ) (client : hub.Client) → slice_get cs place ≡ Some client → p (first + place) ≡ hub.is_open client)
    → count_by hub.is_open cs ≡ count_by p (range_with_len first (length cs))
numbered p [] first same = refl
numbered p (c ∷ cs) first same =
    let here : p first ≡ hub.is_open c = subst (λ (n : ℕ). p n ≡ hub.is_open c) (omega arith) (same 0 c refl) in
    let later = numbered p cs (first + 1) (λ place client there. subst (λ (n : ℕ). p n ≡ hub.is_open client) (omega arith) (same (suc place) client there)) in
    let one : count_by hub.is_open (c ∷ []) ≡ count_by p (first ∷ []) = rw here refl in
    omega (arith, count_by-append hub.is_open (c ∷ []) cs, count_by-append p (first ∷ []) (range_with_len (first + 1) (length cs)), one, later)

pub open_by_traffic : (ts : List Traffic) (taken : ℕ → List ℕ) (h : Hub) → hub_after.IsAfter ts taken h
    → count_by hub.is_open h.clients ≡ count_by (λ number. traffic.is_open number ts) (range_with_len 1 (length h.clients))
open_by_traffic ts taken h is =
    numbered (λ number. traffic.is_open number ts) h.clients 1
    (λ place client there. subst (λ (n : ℕ). traffic.is_open n ts ≡ hub.is_open client) (omega arith) (is.streams place client there).is_there)

pub came_by_events : (source : FrameSource) (events : List Event) (taken : ℕ → List ℕ) (h : Hub) → hub_after.IsAfter (traffic source events) taken h
    → length h.clients ≡ count_by is_connect events
came_by_events source events taken h is = sym (length-range_with_len 1 (length h.clients)) ∙ ap length (sym is.came) ∙ came_in_journal source events

pub open_again : (source : FrameSource) (events : List Event) (e : Event) (number : ℕ) → comes_or_goes number e ≡ false
    → traffic.is_open number (traffic source (events ++ e ∷ [])) ≡ traffic.is_open number (traffic source events)
open_again source events e number none =
    let same : last_that (comes_or_goes number) (events ++ e ∷ []) ≡ last_that (comes_or_goes number) events =
    last_that-one (comes_or_goes number) events e ∙ ap (λ (b : Bool). cond b (Some e) (last_that (comes_or_goes number) events)) none in
    open_in_journal source number (events ++ e ∷ []) ∙ ap (λ (o : Option Event). option_map_or is_connect o false) same ∙ sym (open_in_journal source number events)

-- an event by which nobody comes or goes
pub record IsNoTurn (e : Event) : Type 0 where
  pub connects : is_connect e ≡ false
  pub closes : is_close e ≡ false
  pub nobody : (number : ℕ) → comes_or_goes number e ≡ false

-- the clients of the hub are then as many as before, and as many of them are open
pub as_many : (source : FrameSource) (events : List Event) (e : Event) (taken taken_now : ℕ → List ℕ) (old new : Hub) → IsNoTurn e
    → hub_after.IsAfter (traffic source events) taken old → hub_after.IsAfter (traffic source (events ++ e ∷ [])) taken_now new
    → (length new.clients ≡ length old.clients) × (count_by hub.is_open new.clients ≡ count_by hub.is_open old.clients)
as_many source events e taken taken_now old new quiet was is =
    let one : count_by is_connect (e ∷ []) ≡ 0 = rw quiet.connects refl in
    let many : length new.clients ≡ length old.clients =
    omega (arith, came_by_events source (events ++ e ∷ []) taken_now new is, came_by_events source events taken old was, count_by-append is_connect events (e ∷ []), one) in
    let opens = open_by_traffic (traffic source (events ++ e ∷ [])) taken_now new is in
    let opened = open_by_traffic (traffic source events) taken old was in
    let same = same_counts (λ number. traffic.is_open number (traffic source (events ++ e ∷ []))) (λ number. traffic.is_open number (traffic source events)) 1 (length old.clients)
    (λ number above below. open_again source events e number (quiet.nobody number)) in
    (many, opens ∙ ap (λ (n : ℕ). count_by (λ number. traffic.is_open number (traffic source (events ++ e ∷ []))) (range_with_len 1 n)) many ∙ same ∙ sym opened)

-- ---- clients by their numbers

pub client_at_zero : (links : List Client) (number : ℕ) → eqb number 0 ≡ true → client_at links number ≡ None
client_at_zero links number nobody = rw nobody refl

pub client_at_place : (links : List Client) (number : ℕ) → eqb number 0 ≡ false → client_at links number ≡ slice_get links (number - 1)
client_at_place links number some = rw some refl

pub client_of_place : (h : Hub) (number : ℕ) → eqb number 0 ≡ false → client_of h number ≡ slice_get h.clients (number - 1)
client_of_place h number some = rw some refl

from_one : (number : ℕ) → eqb number 0 ≡ false → number - 1 + 1 ≡ number
from_one number some = elim (eqb_tells number 0) as (λ _. number - 1 + 1 ≡ number) [ inl nobody ↦ absurd cc | inr other ↦ omega (arith, other.1) ]

pub missing : {A B : Type 0} (xs : List A) (ys : List B) (place : ℕ) (x : A) → length xs ≡ length ys → slice_get xs place ≡ Some x → slice_get ys place ≡ None → ⊥
missing xs ys place x long at none =
    let within = slice_get_within xs place x at in
    elim (slice_get_cases ys place).1 as (λ _. ⊥) [ inl there ↦ absurd (let bad : Some there.0 ≡ None = sym there.2 ∙ none in cc) | inr past ↦ absurd (omega (arith, within, past.0, long)) ]

-- ---- links are behind by what waits

-- the link of one client, by its outbox
abbrev Behind : List (List ℕ) → Client → Option Waiting → Type 0
Behind frames client None = client.frames ≡ frames
Behind frames client (Some outbox) = IsPut client.frames outbox.bytes frames

is_behind : (run : Run) (done : List Mark) (number : ℕ) (client : Client) (o : Option Waiting) → Behind (stream_in run done number) client o → IsBehind run done number client o
is_behind run done number client None is = is
is_behind run done number client (Some outbox) is = is

module _ (run : Run) (events : List Event) (e : Event) (links : List Client) (now : Core) where
  abbrev stream_then : ℕ → List (List ℕ)
  stream_then number = stream (source_of run) run.setting.buffer number events

  abbrev stream_now : ℕ → List (List ℕ)
  stream_now number = stream (source_of run) run.setting.buffer number (events ++ e ∷ [])

  pub behind_one : (is : core.IsAfter run (events ++ e ∷ []) (taken_by links) now) → length run.setting.ecu ≡ 4
      → AllByRecursion CarriesLen (traffic (source_of run) (events ++ e ∷ []))
      → (number : ℕ) (client : Client) (there : hub.Client) → eqb number 0 ≡ false → client_at links number ≡ Some client → client_of now.hub number ≡ Some there
      → client.frames ≡ stream_then number → Behind (stream_now number) client there.outbox
  behind_one is ecu_long tell number client there some at known had = by_outbox there.outbox refl where
    traffic_now : List Traffic
    traffic_now = traffic (source_of run) (events ++ e ∷ [])

    the_stream : hub_after.IsStream run.setting.ecu run.setting.buffer traffic_now (concat client.frames) number there
    the_stream =
        let place : number - 1 + 1 ≡ number = from_one number some in
        let raw = is.hub.streams (number - 1) there (sym (client_of_place now.hub number some) ∙ known) in
        let here = subst (λ (n : ℕ). hub_after.IsStream now.hub.ecu now.hub.buffer traffic_now (taken_by links n) n there) place raw in
        subst (λ (taken : List ℕ). hub_after.IsStream run.setting.ecu run.setting.buffer traffic_now taken number there)
        (ap (λ (o : Option Client). option_map_or (λ (c : Client). concat c.frames) o []) at)
        (subst (λ (buffer : ℕ). hub_after.IsStream run.setting.ecu buffer traffic_now (taken_by links number) number there) is.set_to.buffer
        (subst (λ (ecu : List ℕ). hub_after.IsStream ecu now.hub.buffer traffic_now (taken_by links number) number there) is.set_to.unit here))

    by_outbox : (o : Option Waiting) → there.outbox ≡ o → Behind (stream_now number) client o
    by_outbox None none =
        let shut : traffic.is_open number traffic_now ≡ false = the_stream.is_there ∙ ap (λ (o : Option Waiting). is_some o) none in
        had ∙ sym (shut_after (source_of run) run.setting.buffer number events e shut)
    by_outbox (Some outbox) some =
        put_by_events (source_of run) run.setting.buffer number events (e ∷ []) client.frames outbox.bytes ecu_long tell had
        (subst (λ (o : Option Waiting). IfSome o (λ w. concat (stream_now number) ≡ concat client.frames ++ w.bytes)) some the_stream.left)

  pub behind_each : (is : core.IsAfter run (events ++ e ∷ []) (taken_by links) now) → length run.setting.ecu ≡ 4
      → AllByRecursion CarriesLen (traffic (source_of run) (events ++ e ∷ [])) → length links ≡ length now.hub.clients
      → (number : ℕ) → IfSome (client_at links number) (λ client. client.frames ≡ stream_then number)
      → IfSome (client_at links number) (λ client. Behind (stream_now number) client (outbox_of now.hub number))
  behind_each is ecu_long tell many number had = by_number (eqb_tells number 0) where
    Goal : Option Client → Type 0
    Goal o = IfSome o (λ client. Behind (stream_now number) client (outbox_of now.hub number))

    by_there : (client : Client) → eqb number 0 ≡ false → client_at links number ≡ Some client → client.frames ≡ stream_then number
        → (o : Option hub.Client) → client_of now.hub number ≡ o → Behind (stream_now number) client (option_and_then (λ (c : hub.Client). c.outbox) o)
    by_there client some at had None none = absurd (missing links now.hub.clients (number - 1) client many (sym (client_at_place links number some) ∙ at) (sym (client_of_place now.hub number some) ∙ none))
    by_there client some at had (Some there) known = behind_one is ecu_long tell number client there some at known had

    by_client : eqb number 0 ≡ false → (o : Option Client) → client_at links number ≡ o → IfSome o (λ client. client.frames ≡ stream_then number) → Goal o
    by_client some None none had = tt
    by_client some (Some client) at had = by_there client some at had (client_of now.hub number) refl

    by_number : ((eqb number 0 ≡ true) × (number ≡ 0)) ⊎ ((eqb number 0 ≡ false) × (number ≢ 0)) → Goal (client_at links number)
    by_number (inl nobody) = subst Goal (sym (client_at_zero links number nobody.0)) tt
    by_number (inr other) = by_client other.0 (client_at links number) refl had

-- ---- all of the world

-- beside the core, the journal and the log calls, the world is as it was
pub record IsRest (old new : World) : Type 0 where
  pub injections_rest : new.injections ≡ old.injections
  pub clients_rest : new.clients ≡ old.clients
  pub channels_rest : new.channels ≡ old.channels
  pub moment_rest : new.moment ≡ old.moment
  pub later_rest : new.later ≡ old.later

-- What noting an event does to the parts: core and journal have it, and the log calls what they have of its mark.
pub record IsNoted (run : Run) (done : List Mark) (e : Event) (old new : World) : Type 0 where
  pub core_noted : core.IsAfter run (journal done ++ e ∷ []) (taken_by old.clients) new.core
  pub gives : GivesLengths (source_of run) (journal done) e
  pub calls_noted : calls.IsAfter (done ++ Noted e ∷ []) new.calls
  pub events_noted : new.journal.events ≡ old.journal.events ++ e ∷ []
  pub rest : IsRest old new

-- The same where clients came or went as the event says.
pub record IsNotedSo (run : Run) (done : List Mark) (e : Event) (old new : World) : Type 0 where
  pub core_noted : core.IsAfter run (journal done ++ e ∷ []) (taken_by new.clients) new.core
  pub gives : GivesLengths (source_of run) (journal done) e
  pub calls_noted : calls.IsAfter (done ++ Noted e ∷ []) new.calls
  pub events_noted : new.journal.events ≡ old.journal.events ++ e ∷ []
  pub injections_rest : new.injections ≡ old.injections
  pub channels_rest : new.channels ≡ old.channels
  pub moment_rest : new.moment ≡ old.moment
  pub later_rest : new.later ≡ old.later
  pub came_noted : length new.clients ≡ length new.core.hub.clients
  pub gone_noted : count_by is_close (journal done ++ e ∷ []) + count_by hub.is_open new.core.hub.clients ≡ length new.core.hub.clients
  pub fed_noted : (number : ℕ) → IfSome (client_at new.clients number) (λ client. IsFedBy (fed number done) client.cutter)
  pub unfed_noted : (number : ℕ) → client_at new.clients number ≡ None → fed number done ≡ []
  pub had : (number : ℕ) → IfSome (client_at new.clients number) (λ client. client.frames ≡ stream_in run done number)

pub noted_where : (run : Run) (done : List Mark) (e : Event) (old new : World) → IsAfter run done old → IsNotedSo run done e old new → IsBefore run (done ++ Noted e ∷ []) new
noted_where run done e old new is noted =
    let events = journal_noted done e in
    let tell = journal_goes_on (source_of run) (journal done) (e ∷ []) is.so_far.ecu_so is.so_far.lengths_so (noted.gives, tt) in
    record {
      so_far = record {
        ecu_so = is.so_far.ecu_so;
        limit_so = is.so_far.limit_so;
        calls_so = noted.calls_noted;
        few_so = rw (apps_same done (Noted e ∷ []) refl) is.so_far.few_so;
        injections_so = rw noted.injections_rest (no-injection-stays done (Noted e) old.injections refl is.so_far.injections_so);
        events_so = noted.events_noted ∙ ap (λ (es : List Event). es ++ e ∷ []) is.so_far.events_so ∙ sym events;
        core_so = rw events noted.core_noted;
        lengths_so = rw events tell;
        came_so = noted.came_noted;
        gone_so = omega (arith, ap (count_by is_close) events, noted.gone_noted);
        fed_so = λ number. rw (fed_same number done (Noted e ∷ []) refl) (noted.fed_noted number);
        unfed_so = λ number nobody. fed_same number done (Noted e ∷ []) refl ∙ noted.unfed_noted number nobody;
        heard_so = λ channel. rw (noted.channels_rest, heard_same channel done (Noted e ∷ []) refl) (is.so_far.heard_so channel);
        moment_so = noted.moment_rest ∙ is.so_far.moment_so ∙ sym (moment_same done (Noted e ∷ []) refl);
        later_so = noted.later_rest ∙ is.so_far.later_so ∙ sym (later_same done (Noted e ∷ []) refl);
      };
      behind = λ number.
          if_some (λ client. Behind (stream_in run (done ++ Noted e ∷ []) number) client (outbox_of new.core.hub number))
          (λ client. IsBehind run (done ++ Noted e ∷ []) number client (outbox_of new.core.hub number)) (client_at new.clients number)
          (λ client. is_behind run (done ++ Noted e ∷ []) number client (outbox_of new.core.hub number))
          (subst (λ (es : List Event). IfSome (client_at new.clients number) (λ client. Behind (stream (source_of run) run.setting.buffer number es) client (outbox_of new.core.hub number))) (sym events)
          (behind_each run (journal done) e new.clients new.core noted.core_noted is.so_far.ecu_so tell noted.came_noted number (noted.had number)));
    }

-- an event by which nobody comes or goes
pub noted_before : (run : Run) (done : List Mark) (e : Event) (old new : World) → IsNoTurn e → IsAfter run done old → IsNoted run done e old new → IsBefore run (done ++ Noted e ∷ []) new
noted_before run done e old new quiet is noted =
    let taken_is : taken_by new.clients ≡ taken_by old.clients = ap taken_by noted.rest.clients_rest in
    let many = as_many (source_of run) (journal done) e (taken_by old.clients) (taken_by old.clients) old.core.hub new.core.hub quiet is.so_far.core_so.hub noted.core_noted.hub in
    let none_closed : count_by is_close (journal done ++ e ∷ []) ≡ count_by is_close (journal done) =
    count_by-append is_close (journal done) (e ∷ []) ∙ (let one : count_by is_close (e ∷ []) ≡ 0 = rw quiet.closes refl in omega (arith, one)) in
    noted_where run done e old new is (record {
      core_noted = rw taken_is noted.core_noted;
      gives = noted.gives;
      calls_noted = noted.calls_noted;
      events_noted = noted.events_noted;
      injections_rest = noted.rest.injections_rest;
      channels_rest = noted.rest.channels_rest;
      moment_rest = noted.rest.moment_rest;
      later_rest = noted.rest.later_rest;
      came_noted = ap length noted.rest.clients_rest ∙ is.so_far.came_so ∙ sym many.0;
      gone_noted = omega (arith, none_closed, many.0, many.1, is.so_far.gone_so);
      fed_noted = λ number. rw noted.rest.clients_rest (is.so_far.fed_so number);
      unfed_noted = λ number nobody. is.so_far.unfed_so number (ap (λ (cs : List Client). client_at cs number) (sym noted.rest.clients_rest) ∙ nobody);
      had = λ number. subst (λ (cs : List Client). IfSome (client_at cs number) (λ client. client.frames ≡ stream_in run done number)) (sym noted.rest.clients_rest) (is.taken number);
    })
