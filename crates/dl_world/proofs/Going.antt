-- A client that goes, and who is open.
use Rattle.std.proofs.Common.{◌≡◌, ◌≢◌, ◌⊎◌, inl, inr, ℕ, ◌+◌, ◌-◌, ◌<◌, ◌≤◌, Bool, true, false, cond, eqb, List, [], ◌∷◌, ◌++◌, length, Option, Some, None, refl, sym, ap, subst, ◌∙◌, arith}
use Rattle.std.specs.Prelude.{IfSome, IsSome, IsSomeAnd, is_some, count_by, slice_set}
use Rattle.std.specs.List.{concat, list_any, AllByRecursion}
use Rattle.std.specs.Option.{option_map_or, option_and_then}
use Rattle.std.proofs.lemmas.Bool.{cases_lt}
use Rattle.std.proofs.lemmas.Bool.Decides.{eqb_tells}
use Rattle.std.proofs.lemmas.List.{append-nil, length-set}
use Rattle.std.proofs.lemmas.List.Elements.{filter_map-append}
use Rattle.std.proofs.lemmas.List.Folds.{list_any-append}
use Rattle.dl_events.specs.declared.event.Event.{Event}
use Rattle.dl_events.specs.declared.event.Event.TheVariants as event
use Rattle.dl_events.specs.declared.event.Why.{Why}
use Rattle.dl_events.specs.declared.event.Why.TheVariants as why
use Rattle.dl_events.specs.Journal as notes
use Rattle.dl_events.specs.Journal.{Journaled}
use Rattle.dl_outside.specs.Told.{FolderTold}
use Rattle.dl_model.specs.ClientStream.{traffic, stream}
use Rattle.dl_model.specs.Traffic as traffic
use Rattle.dl_model.specs.Traffic.{Traffic, Connected, Admitted, Reply, Closed, comer_of, clients, is_coming, comes_or_goes}
use Rattle.dl_model.specs.Journal.{is_close}
use Rattle.dl_script_model.specs.Marks.{Mark, Noted, journal}
use Rattle.dl_script_model.specs.Steps as steps
use Rattle.dl_model.proofs.Lists.{count_by-append}
use Rattle.dl_model.proofs.ClientStreams.{is_open-one}
use Rattle.dl_world_calls.proofs.Changing.{no-call-stays}
use Rattle.dl_laws.specs.FramesPut.{IsPut}
use Rattle.dl_laws.specs.FrameLengths.{CarriesLen}
use Rattle.dl_laws.proofs.FramesBehind.{put_by_events}
use Rattle.dl_laws.proofs.Quiet.{open_in_journal, closes_quietly}
use Rattle.dl_hub.specs.State as hub
use Rattle.dl_hub.specs.State.{Waiting, client_of, outbox_of, changed, shut}
use Rattle.dl_hub.specs.Follows as hub_after
use Rattle.dl_hub.proofs.Keeping.{found, changed_at, count-set}
use Rattle.dl_core.specs.Closing.{MayEnd}
use Rattle.dl_core.specs.Follows as core
use Rattle.dl_core.specs.Follows.{Run, AddsAlone, HoldsTrace, source_of}
use Rattle.dl_core.specs.State.{Core}
use Rattle.dl_core.specs.Standing.{KeepsTrace}
use Rattle.dl_core.proofs.StandingFiles.{keeps_quiet, kept_same}
use Rattle.dl_world.specs.Follows.{IsAfter, IsBefore, IsBehind, HasTaken, IsPlain, Doing, noting, stream_in}
use Rattle.dl_world.specs.State.{Client, client_at, taken_by}
use Rattle.dl_world.specs.declared.world.World.{World}
use Rattle.dl_world.proofs.ByNumber.{at_place, at_zero}
use Rattle.dl_world.proofs.Noting.{journal_noted, noted_where, missing}
use Rattle.dl_world.proofs.Doings.{doing_by, holds_by, the_events, after_quiet_event, nothing_told}
use Rattle.dl_lemmas.proofs.Bools.{neither, choice_same}
use Rattle.dl_lemmas.proofs.Lists.{by_end, not_in_range}

-- ---- a client's stream, by its link

pub link_stream : (run : Run) (events : List Event) (links : List Client) (now : Core) (number : ℕ) (client : Client) (there : hub.Client) → core.IsAfter run events (taken_by links) now → 1 ≤ number
    → client_at links number ≡ Some client → client_of now.hub number ≡ Some there
    → hub_after.IsStream run.setting.ecu run.setting.buffer (traffic (source_of run) events) (concat client.frames) number there
link_stream run events links now number client there is some at known =
    let ts = traffic (source_of run) events in
    let place : number - 1 + 1 ≡ number = omega (arith, some) in
    let raw = is.hub.streams (number - 1) there (sym (at_place now.hub.clients number some) ∙ known) in
    let here = subst (λ (n : ℕ). hub_after.IsStream now.hub.ecu now.hub.buffer ts (taken_by links n) n there) place raw in
    subst (λ (taken : List ℕ). hub_after.IsStream run.setting.ecu run.setting.buffer ts taken number there)
    (ap (λ (o : Option Client). option_map_or (λ (c : Client). concat c.frames) o []) at)
    (subst (λ (buffer : ℕ). hub_after.IsStream run.setting.ecu buffer ts (taken_by links number) number there) is.set_to.buffer
    (subst (λ (ecu : List ℕ). hub_after.IsStream ecu now.hub.buffer ts (taken_by links number) number there) is.set_to.unit here))

-- ---- where the links took all, none is behind

pub before_of_after : (run : Run) (done : List Mark) (world : World) → IsAfter run done world → IsBefore run done world
before_of_after run done world is = record { so_far = is.so_far; behind = λ number. by_number number (eqb_tells number 0) } where
  put : (number : ℕ) (client : Client) (there : hub.Client) (w : Waiting) → 1 ≤ number → client_at world.clients number ≡ Some client → client_of world.core.hub number ≡ Some there → there.outbox ≡ Some w
      → client.frames ≡ stream_in run done number → IsPut client.frames w.bytes (stream_in run done number)
  put number client there w some at known has took =
      let same : journal done ++ [] ≡ journal done = append-nil (journal done) in
      let left = subst (λ (o : Option Waiting). IfSome o (λ out. concat (stream_in run done number) ≡ concat client.frames ++ out.bytes)) has
      (link_stream run (journal done) world.clients world.core number client there is.so_far.core_so some at known).left in
      subst (λ (es : List Event). IsPut client.frames w.bytes (stream (source_of run) run.setting.buffer number es)) same
      (put_by_events (source_of run) run.setting.buffer number (journal done) [] client.frames w.bytes is.so_far.ecu_so
      (subst (λ (es : List Event). AllByRecursion CarriesLen (traffic (source_of run) es)) (sym same) is.so_far.lengths_so) took
      (subst (λ (es : List Event). concat (stream (source_of run) run.setting.buffer number es) ≡ concat client.frames ++ w.bytes) (sym same) left))

  by_outbox : (number : ℕ) (client : Client) (there : hub.Client) → 1 ≤ number → client_at world.clients number ≡ Some client → client_of world.core.hub number ≡ Some there
      → client.frames ≡ stream_in run done number → (o : Option Waiting) → there.outbox ≡ o → IsBehind run done number client o
  by_outbox number client there some at known took None none = took
  by_outbox number client there some at known took (Some w) has = put number client there w some at known has took

  by_there : (number : ℕ) (client : Client) → 1 ≤ number → client_at world.clients number ≡ Some client → client.frames ≡ stream_in run done number
      → (o : Option hub.Client) → client_of world.core.hub number ≡ o → IsBehind run done number client (option_and_then (λ (c : hub.Client). c.outbox) o)
  by_there number client some at took None none =
      absurd (missing world.clients world.core.hub.clients (number - 1) client is.so_far.came_so (sym (at_place world.clients number some) ∙ at) (sym (at_place world.core.hub.clients number some) ∙ none))
  by_there number client some at took (Some there) known = by_outbox number client there some at known took there.outbox refl

  by_client : (number : ℕ) → 1 ≤ number → (o : Option Client) → client_at world.clients number ≡ o → IfSome o (λ client. client.frames ≡ stream_in run done number)
      → IfSome o (λ client. IsBehind run done number client (outbox_of world.core.hub number))
  by_client number some None none took = tt
  by_client number some (Some client) at took = by_there number client some at took (client_of world.core.hub number) refl

  by_number : (number : ℕ) → ((eqb number 0 ≡ true) × (number ≡ 0)) ⊎ ((eqb number 0 ≡ false) × (number ≢ 0))
      → IfSome (client_at world.clients number) (λ client. IsBehind run done number client (outbox_of world.core.hub number))
  by_number number (inl nobody) = subst (λ (o : Option Client). IfSome o (λ client. IsBehind run done number client (outbox_of world.core.hub number))) (sym (at_zero world.clients number nobody.0)) tt
  by_number number (inr other) = by_client number (omega (arith, other.1)) (client_at world.clients number) refl (is.taken number)

-- ---- who is open

-- who never came is not there
never_came : (client : ℕ) (ts : List Traffic) → list_any (λ d. eqb d client) (clients ts) ≡ false → traffic.is_open client ts ≡ false
never_came client ts = by_end (λ (es : List Traffic). list_any p (clients es) ≡ false → traffic.is_open client es ≡ false) (λ none. refl) (λ es t so none. more es t so none) ts where
  p : ℕ → Bool
  p d = eqb d client

  parts : (es : List Traffic) (t : Traffic) → list_any (λ d. eqb d client) (clients (es ++ t ∷ [])) ≡ false → (list_any (λ d. eqb d client) (clients es) ≡ false) × (list_any (λ d. eqb d client) (clients (t ∷ [])) ≡ false)
  parts es t none =
      let split : list_any (λ d. eqb d client) (clients es ++ clients (t ∷ [])) ≡ false = ap (list_any (λ d. eqb d client)) (sym (filter_map-append comer_of es (t ∷ []))) ∙ none in
      neither (list_any (λ d. eqb d client) (clients es)) (list_any (λ d. eqb d client) (clients (t ∷ []))) (sym (list_any-append (λ d. eqb d client) (clients es) (clients (t ∷ []))) ∙ split)

  last : (t : Traffic) (was : Bool) → was ≡ false → list_any (λ d. eqb d client) (clients (t ∷ [])) ≡ false → cond (comes_or_goes client t) (is_coming t) was ≡ false
  last (Connected other) was shut none = ap (λ (b : Bool). cond b true was) (neither (eqb other client) false none).0 ∙ shut
  last (Closed other) was shut none = ap (cond (eqb other client) false) shut ∙ choice_same (eqb other client)
  last (Admitted frame) was shut none = shut
  last (Reply other frame) was shut none = shut

  more : (es : List Traffic) (t : Traffic) → (list_any (λ d. eqb d client) (clients es) ≡ false → traffic.is_open client es ≡ false) → list_any (λ d. eqb d client) (clients (es ++ t ∷ [])) ≡ false
      → traffic.is_open client (es ++ t ∷ []) ≡ false
  more es t so none = let its = parts es t none in is_open-one client es t ∙ last t (traffic.is_open client es) (so its.0) its.1

-- the marks say that a client is open just where the hub has an outbox for it
pub open_by_hub : (run : Run) (done : List Mark) (world : World) (client : ℕ) → IsAfter run done world → steps.is_open client done ≡ is_some (outbox_of world.core.hub client)
open_by_hub run done world client is = sym (open_in_journal (source_of run) client (journal done)) ∙ by_number (eqb_tells client 0) where
  ts : List Traffic
  ts = traffic (source_of run) (journal done)

  h : hub.Hub
  h = world.core.hub

  nobody : (client < 1) ⊎ (1 + length h.clients ≤ client) → traffic.is_open client ts ≡ false
  nobody out = never_came client ts (ap (list_any (λ d. eqb d client)) is.so_far.core_so.hub.came ∙ not_in_range 1 (length h.clients) client out)

  by_there : 1 ≤ client → (o : Option hub.Client) → client_of h client ≡ o → traffic.is_open client ts ≡ is_some (option_and_then (λ (c : hub.Client). c.outbox) o)
  by_there some None none = elim (cases_lt (length h.clients) client) as (λ _. traffic.is_open client ts ≡ false) [
    | inl above ↦ nobody (inr (omega (arith, above)))
    | inr within ↦ absurd (let it = Rattle.dl_world.proofs.ByNumber.at_there h.clients client some within in let bad : Some it.0 ≡ None = sym it.1 ∙ none in cc)
  ]
  by_there some (Some there) known =
      let place : client - 1 + 1 ≡ client = omega (arith, some) in
      subst (λ (n : ℕ). traffic.is_open n ts ≡ is_some there.outbox) place (is.so_far.core_so.hub.streams (client - 1) there (sym (at_place h.clients client some) ∙ known)).is_there

  by_number : ((eqb client 0 ≡ true) × (client ≡ 0)) ⊎ ((eqb client 0 ≡ false) × (client ≢ 0)) → traffic.is_open client ts ≡ is_some (outbox_of h client)
  by_number (inl zero_is) =
      nobody (inl (omega (arith, zero_is.1))) ∙ sym (ap (λ (o : Option hub.Client). is_some (option_and_then (λ (c : hub.Client). c.outbox) o)) (at_zero h.clients client zero_is.0))
  by_number (inr other) = by_there (omega (arith, other.1)) (client_of h client) refl

-- one that has an outbox came to the world
pub known_by_hub : (run : Run) (done : List Mark) (world : World) (client : ℕ) → IsAfter run done world → IsSome (outbox_of world.core.hub client) → (1 ≤ client) × (client ≤ length world.clients)
known_by_hub run done world client is there =
    let it = found world.core.hub client there in
    (it.4, omega (arith, Rattle.std.proofs.lemmas.Option.slice_get_within world.core.hub.clients (client - 1) it.0 it.2, is.so_far.came_so, it.4))

-- ---- a client goes

-- it is open no longer
one_shut : (h : hub.Hub) (client : ℕ) → IsSome (outbox_of h client) → (count_by hub.is_open (changed client shut h).clients + 1 ≡ count_by hub.is_open h.clients) × (length (changed client shut h).clients ≡ length h.clients)
one_shut h client there =
    let it = found h client there in
    let clients_are : (changed client shut h).clients ≡ slice_set h.clients (client - 1) (shut it.0) = ap (λ (k : hub.Hub). k.clients) (changed_at h client shut it.0 it.4 it.2) in
    let opened : hub.is_open it.0 ≡ true = ap (λ (o : Option Waiting). is_some o) it.3 in
    let one : ◌≡◌ {A = ℕ} (cond (hub.is_open it.0) 1 0) 1 = ap (λ (b : Bool). cond {A = ℕ} b 1 0) opened in
    let counts = count-set hub.is_open h.clients (client - 1) it.0 (shut it.0) it.2 in
    (omega (arith, ap (count_by hub.is_open) clients_are, counts, one), ap length clients_are ∙ length-set h.clients (client - 1) (shut it.0))

pub close_after : (run : Run) (done : List Mark) (mid : World) (core_now : Core) (kept : Journaled) (client : ℕ) (cause : Why) → IsAfter run done mid → IsSome (outbox_of mid.core.hub client)
    → core_now ≡ record mid.core { hub = changed client shut mid.core.hub }
    → core.IsAfter run (journal done ++ event.Close client cause ∷ []) (taken_by mid.clients) core_now
    → kept.events ≡ mid.journal.events ++ event.Close client cause ∷ []
    → IsAfter run (done ++ Noted (event.Close client cause) ∷ []) (record mid { core = core_now; journal = kept })
close_after run done mid core_now kept client cause is there value core_noted events_noted =
    let e = event.Close client cause in
    let gone = one_shut mid.core.hub client there in
    let hub_is : core_now.hub ≡ changed client shut mid.core.hub = ap (λ (c : Core). c.hub) value in
    let opens = ap (λ (h : hub.Hub). count_by hub.is_open h.clients) hub_is in
    let long = ap (λ (h : hub.Hub). length h.clients) hub_is in
    let new : World = record mid { core = core_now; journal = kept } in
    let one : count_by is_close (e ∷ []) ≡ 1 = omega arith in
    let before = noted_where run done e mid new is (record {
      core_noted = core_noted;
      gives = tt;
      calls_noted = no-call-stays done (Noted e) mid.calls refl is.so_far.calls_so;
      events_noted = events_noted;
      injections_rest = refl;
      channels_rest = refl;
      moment_rest = refl;
      later_rest = refl;
      came_noted = omega (arith, is.so_far.came_so, long, gone.1);
      gone_noted = omega (arith, count_by-append is_close (journal done) (e ∷ []), one, opens, long, gone.0, gone.1, is.so_far.gone_so);
      fed_noted = is.so_far.fed_so;
      unfed_noted = is.so_far.unfed_so;
      had = is.taken;
    }) in
    after_quiet_event run done e mid new refl is (λ number. closes_quietly (source_of run) run.setting.buffer number client cause (journal done)) before.so_far

-- the call that notes it, once its link took all
pub close_does : (old mid new : World) (core_now : Core) (made kept : Journaled) (client : ℕ) (cause : Why) → IsSome (outbox_of mid.core.hub client)
    → ((run : Run) (done : List Mark) → IsBefore run done old → IsBefore run done mid × HasTaken run done mid client)
    → ((run : Run) (done : List Mark) (other : ℕ) → IsBefore run done old → HasTaken run done old other → HasTaken run done mid other)
    → mid.core.trace ≡ old.core.trace → made.events ≡ mid.journal.events
    → core_now ≡ record mid.core { hub = changed client shut mid.core.hub }
    → AddsAlone (event.Close client cause ∷ []) mid.core core_now → notes.Adds (Some made.events) (Some kept.events) (event.Close client cause)
    → new ≡ record mid { core = core_now; journal = kept }
    → Doing (noting (λ now. event.Close client cause)) old new
close_does old mid new core_now made kept client cause there takes keeps same made_is value adds noted new_is =
    let trace_is : core_now.trace ≡ old.core.trace = ap (λ (c : Core). c.trace) value ∙ same in
    let e = event.Close client cause in
    doing_by (noting (λ now. event.Close client cause)) old new (ap (λ (w : World). w.core.trace) new_is ∙ trace_is)
    (λ run done after is_run.
    let before = before_of_after run done old after in
    let now : IsAfter run done mid = record { so_far = (takes run done before).0.so_far; taken = λ other. keeps run done other before (after.taken other) } in
    let core_noted = λ (told : FolderTold). adds told run (journal done) (taken_by mid.clients) tt now.so_far.core_so in
    record {
      after = subst (λ (w : World). IsAfter run (done ++ Noted e ∷ []) w) (sym new_is)
          (close_after run done mid core_now kept client cause now there value (core_noted nothing_told).0 (the_events made.events kept.events mid.journal.events e made_is noted));
      holds = λ told held. subst (λ (w : World). HoldsTrace run (journal (done ++ Noted e ∷ [])) w.core told) (sym new_is)
          (subst (λ (es : List Event). HoldsTrace run es core_now told) (sym (journal_noted done e)) ((core_noted told).1 (holds_by run done old.core mid.core told same held)));
      stands = λ told first kept. subst (λ (w : World). KeepsTrace run first (journal (done ++ Noted e ∷ [])) w.core told) (sym new_is)
          (subst (λ (es : List Event). KeepsTrace run first es core_now told) (sym (journal_noted done e))
          (keeps_quiet run first (journal done) e old.core core_now told told trace_is refl (kept_same told.files) kept));
      unasked = refl;
    })
