-- The link of a client takes all that is in its outbox.
use Rattle.std.proofs.Common.{◌≡◌, ◌≢◌, ◌⊎◌, inl, inr, ℕ, ◌+◌, ◌-◌, ◌<◌, ◌≤◌, Bool, true, false, cond, eqb, Result, Ok, Err, take, drop, List, [], ◌∷◌, ◌++◌, length, Option, Some, None, refl, sym, ap, subst, ◌∙◌, length-drop, arith}
use Rattle.std.specs.Prelude.{OnOk, IsTrue, IfSome, IsSome, IsSomeAnd, is_some, option_map, count_by, slice_get, slice_set}
use Rattle.std.specs.List.{concat, AllByRecursion}
use Rattle.std.specs.Option.{option_map_or}
use Rattle.std.proofs.lemmas.Bool.{cases_lt}
use Rattle.std.proofs.lemmas.Bool.Decides.{eqb_tells}
use Rattle.std.proofs.lemmas.List.{append-nil, length-map, take_all}
use Rattle.std.proofs.lemmas.List.Folds.{concat-append}
use Rattle.dl_events.specs.declared.event.Event.{Event}
use Rattle.dl_model.specs.ClientStream.{traffic}
use Rattle.dl_model.specs.Traffic.{Traffic}
use Rattle.dl_script_model.specs.Marks.{Mark, journal}
use Rattle.dl_laws.specs.Frames.{TellsLen}
use Rattle.dl_laws.specs.FramesPut.{IsPut}
use Rattle.dl_hub.specs.State as hub
use Rattle.dl_hub.specs.State.{Hub, Waiting, client_of, outbox_of, changed, without, consumed, bytes_before, is_open}
use Rattle.dl_hub.specs.Follows.{took_more}
use Rattle.dl_hub.specs.Follows as hub_after
use Rattle.dl_hub.proofs.Calls.{some_and}
use Rattle.dl_hub.proofs.Keeping.{found, changed_at, count-set}
use Rattle.dl_hub.proofs.Following.{took-follows}
use Rattle.dl_hub.proofs.Pumping.{outbox-after}
use Rattle.dl_core.specs.Follows as core
use Rattle.dl_core.specs.Follows.{Run, source_of}
use Rattle.dl_core.specs.State.{Core}
use Rattle.dl_world.specs.Fed.{IsFedBy}
use Rattle.dl_world.specs.Follows.{IsSoFar, IsAfter, IsBefore, IsBehind, HasTaken, IsDelivered, stream_in}
use Rattle.dl_world.specs.State.{Client, client_at, with_client, with_frames, taken_by, cutters_of}
use Rattle.dl_world.specs.declared.world.World.{World}
use Rattle.dl_world.proofs.ByNumber.{at_zero, at_past, at_place, at_there, with_same, with_other, with_long, outbox_other}

-- ---- the core, where a link took bytes

pub hub_took : (ts : List Traffic) (taken : ℕ → List ℕ) (h : Hub) (number count : ℕ) (w : Waiting) → hub_after.IsAfter ts taken h → outbox_of h number ≡ Some w → count ≤ length w.bytes
    → hub_after.IsAfter ts (took_more taken number (take count w.bytes)) (changed number (without count) h)
hub_took ts taken h number count w is at fits =
    let it = found h number (subst (λ (o : Option Waiting). IsSome o) (sym at) refl) in
    let own : it.0.outbox ≡ Some w = it.3 ∙ sym it.5 ∙ at in
    let next : number - 1 + 1 ≡ number = omega (arith, it.4) in
    subst (λ k. hub_after.IsAfter ts (took_more taken number (take count w.bytes)) k) (sym (changed_at h number (without count) it.0 it.4 it.2))
    (subst (λ (o : Option Waiting). hub_after.IsAfter ts (took_more taken number (bytes_before count o)) (record h { clients = slice_set h.clients (number - 1) (without count it.0) })) own
    (subst (λ k. hub_after.IsAfter ts (took_more taken k (bytes_before count it.0.outbox)) (record h { clients = slice_set h.clients (number - 1) (without count it.0) })) next
    (took-follows count (number - 1) it.0 ts taken h is it.2 (subst (λ (o : Option Waiting). IsSomeAnd o (λ outbox. count ≤ length outbox.bytes)) (sym own) fits))))

pub core_took : (run : Run) (events : List Event) (taken : ℕ → List ℕ) (now : Core) (number count : ℕ) (w : Waiting) → core.IsAfter run events taken now
    → outbox_of now.hub number ≡ Some w → count ≤ length w.bytes
    → core.IsAfter run events (took_more taken number (take count w.bytes)) (record now { hub = changed number (without count) now.hub })
core_took run events taken now number count w is at fits = record {
  set_to = record { ecu = is.set_to.ecu; unit = is.set_to.unit; buffer = is.set_to.buffer; level = is.set_to.level; injection = is.set_to.injection; clients = is.set_to.clients; software = is.set_to.software };
  registry = is.registry;
  hub = hub_took (traffic (source_of run) events) taken now.hub number count w is.hub at fits;
  begun = is.begun;
  trace = is.trace;
}

-- it stays open
pub still_open : (count : ℕ) (c : hub.Client) → is_open (without count c) ≡ is_open c
still_open count c = by c.outbox where
  by : (o : Option Waiting) → is_some (option_map (consumed count) o) ≡ is_some o
  by None = refl
  by (Some w) = refl

-- ---- what the links took

module _ (links : List Client) (number : ℕ) (link : Client) (parts : List (List ℕ)) (some : 1 ≤ number) (within : number ≤ length links) (at : client_at links number ≡ Some link) where
  abbrev links_now : List Client
  links_now = with_client number (with_frames parts) links

  taken_now : (other : ℕ) → taken_by links_now other ≡ took_more (taken_by links) number (concat parts) other
  taken_now other = by (eqb_tells other number) where
    by : ((eqb other number ≡ true) × (other ≡ number)) ⊎ ((eqb other number ≡ false) × (other ≢ number)) → taken_by links_now other ≡ took_more (taken_by links) number (concat parts) other
    by (inl same) =
        ap (taken_by links_now) same.1
        ∙ ap (λ (o : Option Client). option_map_or (λ (c : Client). concat c.frames) o []) (with_same links number (with_frames parts) link some within at)
        ∙ concat-append link.frames parts
        ∙ ap (λ (o : Option Client). option_map_or (λ (c : Client). concat c.frames) o [] ++ concat parts) (sym at)
        ∙ ap (λ (n : ℕ). taken_by links n ++ concat parts) (sym same.1)
        ∙ sym (ap (λ (b : Bool). cond b (taken_by links other ++ concat parts) (taken_by links other)) same.0)
    by (inr apart) =
        ap (λ (o : Option Client). option_map_or (λ (c : Client). concat c.frames) o []) (with_other links number other (with_frames parts) link some at apart.1)
        ∙ sym (ap (λ (b : Bool). cond b (taken_by links other ++ concat parts) (taken_by links other)) apart.0)

  pub all_taken : taken_by links_now ≡ took_more (taken_by links) number (concat parts)
  all_taken = λ i other. taken_now other i

-- ---- a delivery

module _ (old : World) (number : ℕ) (bytes : List ℕ) (core_now : Core) (links_now : List Client)
    (open_so : (1 ≤ number) × (number ≤ length old.clients) × IsSome (outbox_of old.core.hub number))
    (all : IsSomeAnd (outbox_of old.core.hub number) (λ outbox. bytes ≡ outbox.bytes))
    (value : core_now ≡ record old.core { hub = changed number (without (length bytes)) old.core.hub }) where
  abbrev delivered : World
  delivered = record old { core = core_now; clients = links_now }

  abbrev it : (c : hub.Client) × (w : Waiting) × (slice_get old.core.hub.clients (number - 1) ≡ Some c) × (c.outbox ≡ Some w) × (0 < number) × (outbox_of old.core.hub number ≡ Some w)
  it = found old.core.hub number open_so.2

  abbrev link_there : (x : Client) × (client_at old.clients number ≡ Some x) × (slice_get old.clients (number - 1) ≡ Some x)
  link_there = at_there old.clients number open_so.0 open_so.1

  bytes_are : bytes ≡ it.1.bytes
  bytes_are = some_and (λ outbox. bytes ≡ outbox.bytes) (outbox_of old.core.hub number) it.1 it.5 all

  hub_is : core_now.hub ≡ changed number (without (length bytes)) old.core.hub
  hub_is = ap (λ (c : Core). c.hub) value

  hub_there : client_of old.core.hub number ≡ Some it.0
  hub_there = at_place old.core.hub.clients number open_so.0 ∙ it.2

  hub_clients : core_now.hub.clients ≡ slice_set old.core.hub.clients (number - 1) (without (length bytes) it.0)
  hub_clients = ap (λ (h : Hub). h.clients) (hub_is ∙ changed_at old.core.hub number (without (length bytes)) it.0 it.4 it.2)

  outbox_now : outbox_of core_now.hub number ≡ Some (consumed (length bytes) it.1)
  outbox_now = ap (λ (h : Hub). outbox_of h number) hub_is ∙ outbox-after number (length bytes) old.core.hub it.1 it.5

  outbox_others : (other : ℕ) → other ≢ number → outbox_of core_now.hub other ≡ outbox_of old.core.hub other
  outbox_others other apart = ap (λ (h : Hub). outbox_of h other) hub_is ∙ outbox_other old.core.hub number other (without (length bytes)) it.0 open_so.0 hub_there apart

  nothing_left : (n : ℕ) (xs : List ℕ) → n ≡ length xs → drop n xs ≡ []
  nothing_left n xs e = none (drop n xs) (omega (arith, length-drop n xs, e)) where
    none : (ys : List ℕ) → length ys ≡ 0 → ys ≡ []
    none [] e = refl
    none (y ∷ ys) e = absurd (omega (arith, e))

  -- where the bytes are these frames
  module _ (parts : List (List ℕ)) (tell : AllByRecursion TellsLen parts) (bytes_parts : bytes ≡ concat parts) (links_are : links_now ≡ with_client number (with_frames parts) old.clients)
      (run : Run) (done : List Mark) (is : IsBefore run done old) (behind : IsPut link_there.0.frames it.1.bytes (stream_in run done number)) (parts_are : stream_in run done number ≡ link_there.0.frames ++ parts) where
    at_now : client_at links_now number ≡ Some (with_frames parts link_there.0)
    at_now = ap (λ (cs : List Client). client_at cs number) links_are ∙ with_same old.clients number (with_frames parts) link_there.0 open_so.0 open_so.1 link_there.1

    at_others : (other : ℕ) → other ≢ number → client_at links_now other ≡ client_at old.clients other
    at_others other apart = ap (λ (cs : List Client). client_at cs other) links_are ∙ with_other old.clients number other (with_frames parts) link_there.0 open_so.0 link_there.1 apart

    core_is : core.IsAfter run (journal done) (taken_by links_now) core_now
    core_is =
        let took = core_took run (journal done) (taken_by old.clients) old.core number (length bytes) it.1 is.so_far.core_so it.5 (omega (arith, ap length bytes_are)) in
        let piece : take (length bytes) it.1.bytes ≡ concat parts = take_all (length bytes) it.1.bytes (omega (arith, ap length bytes_are)) ∙ sym bytes_are ∙ bytes_parts in
        let same : took_more (taken_by old.clients) number (take (length bytes) it.1.bytes) ≡ taken_by links_now =
        ap (took_more (taken_by old.clients) number) piece ∙ sym (all_taken old.clients number link_there.0 parts open_so.0 open_so.1 link_there.1) ∙ ap taken_by (sym links_are) in
        subst (λ (c : Core). core.IsAfter run (journal done) (taken_by links_now) c) (sym value)
        (subst (λ (taken : ℕ → List ℕ). core.IsAfter run (journal done) taken (record old.core { hub = changed number (without (length bytes)) old.core.hub })) same took)

    long_now : length links_now ≡ length old.clients
    long_now = ap length links_are ∙ with_long old.clients number (with_frames parts) link_there.0 link_there.1

    hub_long : length core_now.hub.clients ≡ length old.core.hub.clients
    hub_long = ap length hub_clients ∙ Rattle.std.proofs.lemmas.List.length-set old.core.hub.clients (number - 1) (without (length bytes) it.0)

    opens : count_by is_open core_now.hub.clients ≡ count_by is_open old.core.hub.clients
    opens =
        let counts = count-set is_open old.core.hub.clients (number - 1) it.0 (without (length bytes) it.0) it.2 in
        let same : ◌≡◌ {A = ℕ} (cond (is_open (without (length bytes) it.0)) 1 0) (cond (is_open it.0) 1 0) = ap (λ (b : Bool). cond {A = ℕ} b 1 0) (still_open (length bytes) it.0) in
        ap (count_by is_open) hub_clients ∙ omega (arith, counts, same)

    fed_other : (P : Client → Type 0) (other : ℕ) → ((c : Client) → P c → P (with_frames parts c)) → IfSome (client_at old.clients other) P → IfSome (client_at links_now other) P
    fed_other P other goes was = elim (eqb_tells other number) as (λ _. IfSome (client_at links_now other) P) [
      | inl same ↦
          subst (λ (n : ℕ). IfSome (client_at links_now n) P) (sym same.1)
          (subst (λ (o : Option Client). IfSome o P) (sym at_now) (goes link_there.0 (subst (λ (o : Option Client). IfSome o P) (ap (client_at old.clients) same.1 ∙ link_there.1) was)))
      | inr apart ↦ subst (λ (o : Option Client). IfSome o P) (sym (at_others other apart.1)) was
    ]

    unfed_other : (other : ℕ) → client_at links_now other ≡ None → client_at old.clients other ≡ None
    unfed_other other none = elim (eqb_tells other number) as (λ _. client_at old.clients other ≡ None) [
      | inl same ↦ absurd (let bad : Some (with_frames parts link_there.0) ≡ None = sym at_now ∙ ap (client_at links_now) (sym same.1) ∙ none in cc)
      | inr apart ↦ sym (at_others other apart.1) ∙ none
    ]

    so_far_now : IsSoFar run done delivered
    so_far_now = record {
      ecu_so = is.so_far.ecu_so;
      limit_so = is.so_far.limit_so;
      calls_so = is.so_far.calls_so;
      few_so = is.so_far.few_so;
      injections_so = is.so_far.injections_so;
      events_so = is.so_far.events_so;
      core_so = core_is;
      lengths_so = is.so_far.lengths_so;
      came_so = long_now ∙ is.so_far.came_so ∙ sym hub_long;
      gone_so = omega (arith, opens, hub_long, is.so_far.gone_so);
      fed_so = λ other. fed_other (λ client. IsFedBy (Rattle.dl_script_model.specs.Marks.fed other done) client.cutter) other (λ c fed. fed) (is.so_far.fed_so other);
      unfed_so = λ other none. is.so_far.unfed_so other (unfed_other other none);
      heard_so = is.so_far.heard_so;
      moment_so = is.so_far.moment_so;
      later_so = is.so_far.later_so;
    }

    pub taken_all : HasTaken run done delivered number
    taken_all = subst (λ (o : Option Client). IfSome o (λ client. client.frames ≡ stream_in run done number)) (sym at_now) (sym parts_are)

    behind_now : (other : ℕ) → IfSome (client_at links_now other) (λ client. IsBehind run done other client (outbox_of core_now.hub other))
    behind_now other = elim (eqb_tells other number) as (λ _. IfSome (client_at links_now other) (λ client. IsBehind run done other client (outbox_of core_now.hub other))) [
      | inl same ↦
          subst (λ (n : ℕ). IfSome (client_at links_now n) (λ client. IsBehind run done n client (outbox_of core_now.hub n))) (sym same.1)
          (subst (λ (o : Option Client). IfSome o (λ client. IsBehind run done number client (outbox_of core_now.hub number))) (sym at_now)
          (subst (λ (o : Option Waiting). IsBehind run done number (with_frames parts link_there.0) o) (sym outbox_now)
          (record {
            parts = [];
            tell = tt;
            are = nothing_left (length bytes) it.1.bytes (ap length bytes_are);
            behind = parts_are ∙ sym (append-nil (link_there.0.frames ++ parts));
          })))
      | inr apart ↦
          subst (λ (o : Option Client). IfSome o (λ client. IsBehind run done other client (outbox_of core_now.hub other))) (sym (at_others other apart.1))
          (subst (λ (o : Option Waiting). IfSome (client_at old.clients other) (λ client. IsBehind run done other client o)) (sym (outbox_others other apart.1)) (is.behind other))
    ]

    pub before_now : IsBefore run done delivered
    before_now = record { so_far = so_far_now; behind = behind_now }

    pub keeps_others : (other : ℕ) → HasTaken run done old other → HasTaken run done delivered other
    keeps_others other had = elim (eqb_tells other number) as (λ _. HasTaken run done delivered other) [
      | inl same ↦ subst (HasTaken run done delivered) (sym same.1) taken_all
      | inr apart ↦ subst (λ (o : Option Client). IfSome o (λ client. client.frames ≡ stream_in run done other)) (sym (at_others other apart.1)) had
    ]

  -- what was put behind the frames that the link had
  put_there : (run : Run) (done : List Mark) → IsBefore run done old → IsPut link_there.0.frames it.1.bytes (stream_in run done number)
  put_there run done is =
      some_of_link (λ client. IsBehind run done number client (Some it.1)) (client_at old.clients number) link_there.0 link_there.1
      (subst (λ (o : Option Waiting). IfSome (client_at old.clients number) (λ client. IsBehind run done number client o)) it.5 (is.behind number)) where
        some_of_link : (P : Client → Type 0) (o : Option Client) (x : Client) → o ≡ Some x → IfSome o P → P x
        some_of_link P o x e h = subst (λ (p : Option Client). IfSome p P) e h

  abbrev Frames : Type 0
  Frames = (parts : List (List ℕ)) → AllByRecursion TellsLen parts → bytes ≡ concat parts → links_now ≡ with_client number (with_frames parts) old.clients

  pub delivery_takes : Frames → (run : Run) (done : List Mark) → IsBefore run done old → IsBefore run done delivered × HasTaken run done delivered number
  delivery_takes frames run done is =
      let put = put_there run done is in
      let parts_are = bytes_are ∙ put.are in
      let links_are = frames put.parts put.tell parts_are in
      (before_now put.parts put.tell parts_are links_are run done is put put.behind, taken_all put.parts put.tell parts_are links_are run done is put put.behind)

  pub delivery_keeps : Frames → (run : Run) (done : List Mark) (other : ℕ) → IsBefore run done old → HasTaken run done old other → HasTaken run done delivered other
  delivery_keeps frames run done other is had =
      let put = put_there run done is in
      let parts_are = bytes_are ∙ put.are in
      keeps_others put.parts put.tell parts_are (frames put.parts put.tell parts_are) run done is put put.behind other had

  pub delivery_rest : cutters_of links_now ≡ cutters_of old.clients → IsDelivered old delivered
  delivery_rest same = record {
    calls_same = refl;
    registry_same = ap (λ (c : Core). c.registry) value;
    clients_same = sym (length-map links_now (λ (c : Client). c.cutter)) ∙ ap length same ∙ length-map old.clients (λ (c : Client). c.cutter);
    open_same = λ other there. open_there other there (eqb_tells other number);
  } where
    open_there : (other : ℕ) → IsSome (outbox_of old.core.hub other) → ((eqb other number ≡ true) × (other ≡ number)) ⊎ ((eqb other number ≡ false) × (other ≢ number)) → IsSome (outbox_of core_now.hub other)
    open_there other there (inl same) = subst (λ (n : ℕ). IsSome (outbox_of core_now.hub n)) (sym same.1) (subst (λ (o : Option Waiting). IsSome o) (sym outbox_now) refl)
    open_there other there (inr apart) = subst (λ (o : Option Waiting). IsSome o) (sym (outbox_others other apart.1)) there

-- what holds in any case holds where a call went well
pub always : {T E : Type 0} (r : Result T E) (P : Type 0) → P → OnOk r P
always (Ok x) P is = is
always (Err e) P is = tt

-- ---- each client in turn

pub delivered_both : (first mid now : World) → IsDelivered first mid → IsDelivered mid now → IsDelivered first now
delivered_both first mid now one two = record {
  calls_same = two.calls_same ∙ one.calls_same;
  registry_same = two.registry_same ∙ one.registry_same;
  clients_same = two.clients_same ∙ one.clients_same;
  open_same = λ number there. two.open_same number (one.open_same number there);
}

pub delivered_none : (world : World) → IsDelivered world world
delivered_none world = record { calls_same = refl; registry_same = refl; clients_same = refl; open_same = λ number there. there }

-- the links of the clients below a number have taken all
pub record IsDelivering (first now : World) (next : ℕ) : Type 0 where
  pub before : (run : Run) (done : List Mark) → IsBefore run done first → IsBefore run done now
  pub below : (run : Run) (done : List Mark) → IsBefore run done first → (number : ℕ) → number < next → HasTaken run done now number
  pub rest : IsDelivered first now
  pub trace : now.core.trace ≡ first.core.trace

pub delivers_none : (world : World) → IsDelivering world world 1
delivers_none world = record {
  before = λ run done is. is;
  below = λ run done is number below. nobody run done number (eqb_tells number 0) below;
  rest = delivered_none world;
  trace = refl;
} where
  nobody : (run : Run) (done : List Mark) (number : ℕ) → ((eqb number 0 ≡ true) × (number ≡ 0)) ⊎ ((eqb number 0 ≡ false) × (number ≢ 0)) → number < 1 → HasTaken run done world number
  nobody run done number (inl zero_is) below = subst (λ (o : Option Client). IfSome o (λ client. client.frames ≡ stream_in run done number)) (sym (at_zero world.clients number zero_is.0)) tt
  nobody run done number (inr other) below = absurd (omega (arith, other.1, below))

-- the next one is open
pub delivers_open : (first now new : World) (number : ℕ) → IsDelivering first now number
    → ((run : Run) (done : List Mark) → IsBefore run done now → IsBefore run done new × HasTaken run done new number)
    → ((run : Run) (done : List Mark) (other : ℕ) → IsBefore run done now → HasTaken run done now other → HasTaken run done new other)
    → IsDelivered now new → new.core.trace ≡ now.core.trace → IsDelivering first new (number + 1)
delivers_open first now new number so takes keeps rest trace = record {
  before = λ run done is. (takes run done (so.before run done is)).0;
  below = λ run done is other below. by run done is other below (eqb_tells other number);
  rest = delivered_both first now new so.rest rest;
  trace = trace ∙ so.trace;
} where
  by : (run : Run) (done : List Mark) → IsBefore run done first → (other : ℕ) → other < number + 1 → ((eqb other number ≡ true) × (other ≡ number)) ⊎ ((eqb other number ≡ false) × (other ≢ number)) → HasTaken run done new other
  by run done is other below (inl same) = subst (HasTaken run done new) (sym same.1) (takes run done (so.before run done is)).1
  by run done is other below (inr apart) = keeps run done other (so.before run done is) (so.below run done is other (omega (arith, below, apart.1)))

-- or it is not
pub delivers_shut : (first now : World) (number : ℕ) → IsDelivering first now number → (IsSome (outbox_of now.core.hub number) → ⊥) → IsDelivering first now (number + 1)
delivers_shut first now number so shut = record {
  before = so.before;
  below = λ run done is other below. by run done is other below (eqb_tells other number);
  rest = so.rest;
  trace = so.trace;
} where
  by_outbox : (run : Run) (done : List Mark) (o : Option Waiting) → outbox_of now.core.hub number ≡ o → IfSome (client_at now.clients number) (λ client. IsBehind run done number client o) → HasTaken run done now number
  by_outbox run done None none behind = behind
  by_outbox run done (Some w) some behind = absurd (shut (subst (λ (o : Option Waiting). IsSome o) (sym some) refl))

  by : (run : Run) (done : List Mark) → IsBefore run done first → (other : ℕ) → other < number + 1 → ((eqb other number ≡ true) × (other ≡ number)) ⊎ ((eqb other number ≡ false) × (other ≢ number)) → HasTaken run done now other
  by run done is other below (inl same) = subst (HasTaken run done now) (sym same.1) (by_outbox run done (outbox_of now.core.hub number) refl ((so.before run done is).behind number))
  by run done is other below (inr apart) = so.below run done is other (omega (arith, below, apart.1))

-- all of them had their turn
pub delivers_all : (first now : World) (next : ℕ) → IsDelivering first now next → length first.clients < next → (run : Run) (done : List Mark) → IsBefore run done first → IsAfter run done now
delivers_all first now next so above run done is = record {
  so_far = (so.before run done is).so_far;
  taken = λ number. by number (cases_lt number next);
} where
  by : (number : ℕ) → (number < next) ⊎ (next ≤ number) → HasTaken run done now number
  by number (inl below) = so.below run done is number below
  by number (inr past) = subst (λ (o : Option Client). IfSome o (λ client. client.frames ≡ stream_in run done number)) (sym (at_past now.clients number (omega (arith, above, past, so.rest.clients_same)))) tt

-- what tells that no outbox is there
pub shut_where : (b : Bool) (P Q : Type 0) → b ≡ false → (P → IsTrue b) → (Q → P) → Q → ⊥
shut_where true P Q not_so tells all there = absurd cc
shut_where false P Q not_so tells all there = absurd (let is_so : IsTrue false = tells (all there) in cc)
