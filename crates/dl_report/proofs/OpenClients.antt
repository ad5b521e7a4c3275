-- How many clients are open after one event more.
use Rattle.std.proofs.Common.{◌≡◌, ℕ, ◌+◌, ◌-◌, ◌<◌, ◌≤◌, Bool, true, false, cond, eqb, List, [], ◌∷◌, ◌++◌, length, refl, sym, ap, ◌∙◌, arith, inl, inr}
use Rattle.std.specs.Prelude.{count_by}
use Rattle.std.proofs.lemmas.Bool.{cases_Bool, eq-eqb, eqb-true, ne_eqb}
use Rattle.std.proofs.lemmas.List.Sums.{sum_by-cons}
use Rattle.dl_events.specs.declared.event.Event.{Event}
use Rattle.dl_events.specs.declared.event.Event.TheVariants as event
use Rattle.dl_events.specs.declared.event.Why.{Why}
use Rattle.dl_model.specs.ClientStream.{traffic}
use Rattle.dl_model.specs.Frames.{FrameSource}
use Rattle.dl_model.specs.Journal.{IsOpen, comes_or_goes}
use Rattle.dl_model.specs.Traffic.{is_any_open}
use Rattle.dl_model.proofs.ClientStreams.{any_open}
use Rattle.dl_laws.proofs.ClientStays.{opened, opened-one, opened_is, is_open_in}
use Rattle.dl_laws.proofs.JournalStreams.{open_same}
use Rattle.dl_report.specs.Following.{AreOpen}

abbrev bit : Bool → ℕ
bit b = cond b 1 0

-- how often a client is in a list
abbrev times : ℕ → List ℕ → ℕ
times client clients = count_by (λ other. eqb other client) clients

times_more : (client other : ℕ) (clients : List ℕ) → times client (other ∷ clients) ≡ bit (eqb other client) + times client clients
times_more client other clients = sum_by-cons (λ (o : ℕ). bit (eqb o client)) other clients

pub none_open : AreOpen 0 []
none_open = record { clients = []; size = refl; each = λ client. refl }

-- ---- one comes

pub comes : (count client : ℕ) (events : List Event) → AreOpen count events → (IsOpen client events → ⊥) → AreOpen (count + 1) (events ++ event.Connect client ∷ [])
comes count client events are shut = record {
  clients = client ∷ are.clients;
  size = omega (arith, are.size);
  each = λ other. times_more other client are.clients ∙ by_test other (eqb client other) refl;
} where
  closed : opened client events ≡ false
  closed = elim (cases_Bool (opened client events)) [
    | inl is ↦ absurd (shut (is_open_in client events is))
    | inr not ↦ not
  ]

  by_test : (other : ℕ) (b : Bool) → eqb client other ≡ b → bit (eqb client other) + times other are.clients ≡ bit (opened other (events ++ event.Connect client ∷ []))
  by_test other true is =
      let same : client ≡ other = eqb-true client other is in
      let none : times other are.clients ≡ 0 = are.each other ∙ ap bit (ap (λ (c : ℕ). opened c events) (sym same) ∙ closed) in
      let now : opened other (events ++ event.Connect client ∷ []) ≡ true = opened-one other events (event.Connect client) ∙ ap (λ (b : Bool). cond b true (opened other events)) is in
      omega (arith, ap bit is, none, ap bit now)
  by_test other false is =
      let now : opened other (events ++ event.Connect client ∷ []) ≡ opened other events = opened-one other events (event.Connect client) ∙ ap (λ (b : Bool). cond b true (opened other events)) is in
      omega (arith, ap bit is, are.each other, ap bit now)

-- ---- one goes

-- the list without the first place of a client
abbrev without : ℕ → List ℕ → List ℕ
without client [] = []
without client (other ∷ clients) = cond (eqb other client) clients (other ∷ without client clients)

shorter : (client : ℕ) (clients : List ℕ) → 0 < times client clients → length (without client clients) + 1 ≡ length clients
shorter client [] some = absurd (omega (arith, some))
shorter client (other ∷ clients) some = by_test (eqb other client) refl (shorter client clients) where
  by_test : (b : Bool) → eqb other client ≡ b → (0 < times client clients → length (without client clients) + 1 ≡ length clients) → length (cond b clients (other ∷ without client clients)) + 1 ≡ length (other ∷ clients)
  by_test true is later = omega arith
  by_test false is later =
      let rest : 0 < times client clients = omega (arith, some, times_more client other clients, ap bit is) in
      omega (arith, later rest)

fewer : (client other : ℕ) (clients : List ℕ) → 0 < times client clients → times other (without client clients) + bit (eqb client other) ≡ times other clients
fewer client other [] some = absurd (omega (arith, some))
fewer client other (first ∷ clients) some = by_test (eqb first client) refl (fewer client other clients) where
  by_test : (b : Bool) → eqb first client ≡ b → (0 < times client clients → times other (without client clients) + bit (eqb client other) ≡ times other clients)
      → times other (cond b clients (first ∷ without client clients)) + bit (eqb client other) ≡ times other (first ∷ clients)
  by_test true is later =
      let same : bit (eqb first other) ≡ bit (eqb client other) = ap (λ (c : ℕ). bit (eqb c other)) (eqb-true first client is) in
      omega (arith, times_more other first clients, same)
  by_test false is later =
      let rest : 0 < times client clients = omega (arith, some, times_more client first clients, ap bit is) in
      omega (arith, later rest, times_more other first clients, times_more other first (without client clients))

once : (count client : ℕ) (events : List Event) (are : AreOpen count events) → IsOpen client events → times client are.clients ≡ 1
once count client events are is = are.each client ∙ ap bit (opened_is client events is)

pub goes : (count client : ℕ) (why : Why) (events : List Event) → AreOpen count events → IsOpen client events → AreOpen (count - 1) (events ++ event.Close client why ∷ [])
goes count client why events are is = record {
  clients = without client are.clients;
  size = omega (arith, shorter client are.clients some, are.size);
  each = λ other. by_test other (eqb client other) refl (fewer client other are.clients some);
} where
  some : 0 < times client are.clients
  some = omega (arith, once count client events are is)

  by_test : (other : ℕ) (b : Bool) → eqb client other ≡ b → times other (without client are.clients) + bit (eqb client other) ≡ times other are.clients
      → times other (without client are.clients) ≡ bit (opened other (events ++ event.Close client why ∷ []))
  by_test other true eq less =
      let same : times other are.clients ≡ 1 = ap (λ (c : ℕ). times c are.clients) (sym (eqb-true client other eq)) ∙ once count client events are is in
      let now : opened other (events ++ event.Close client why ∷ []) ≡ false = opened-one other events (event.Close client why) ∙ ap (λ (b : Bool). cond b false (opened other events)) eq in
      omega (arith, less, same, ap bit eq, ap bit now)
  by_test other false eq less =
      let now : opened other (events ++ event.Close client why ∷ []) ≡ opened other events = opened-one other events (event.Close client why) ∙ ap (λ (b : Bool). cond b false (opened other events)) eq in
      omega (arith, less, are.each other, ap bit eq, ap bit now)

at_most_all : (client : ℕ) (clients : List ℕ) → times client clients ≤ length clients
at_most_all client [] = omega arith
at_most_all client (other ∷ clients) = by_test (eqb other client) refl (at_most_all client clients) where
  by_test : (b : Bool) → eqb other client ≡ b → times client clients ≤ length clients → times client (other ∷ clients) ≤ length (other ∷ clients)
  by_test true is later = omega (arith, times_more client other clients, ap bit is, later)
  by_test false is later = omega (arith, times_more client other clients, ap bit is, later)

pub may_go : (count client : ℕ) (events : List Event) → AreOpen count events → IsOpen client events → 0 < count
may_go count client events are is = omega (arith, once count client events are is, at_most_all client are.clients, are.size)

-- ---- nobody comes or goes

pub stay : (count : ℕ) (e : Event) (events : List Event) → ((client : ℕ) → comes_or_goes client e ≡ false) → AreOpen count events → AreOpen count (events ++ e ∷ [])
stay count e events quiet are = record {
  clients = are.clients;
  size = are.size;
  each = λ client. rw (opened-one client events e, quiet client) (are.each client);
}

-- ---- whether a client is open, whichever

pub counts_open : (count : ℕ) (source : FrameSource) (events : List Event) → AreOpen count events → is_any_open (traffic source events) ≡ cond (eqb count 0) false true
counts_open count source events are = by_clients are.clients are.size are.each where
  by_clients : (clients : List ℕ) → length clients ≡ count → ((client : ℕ) → times client clients ≡ bit (opened client events)) → is_any_open (traffic source events) ≡ cond (eqb count 0) false true
  by_clients [] size each =
      let none : eqb count 0 ≡ true = eq-eqb count 0 (omega (arith, size)) in
      elim (cases_Bool (is_any_open (traffic source events))) [
        | inl is ↦
            let one = (any_open (traffic source events)).0 is in
            let there : opened one.0 events ≡ true = sym (open_same source one.0 events) ∙ one.1 in
            absurd (omega (arith, each one.0, ap bit there))
        | inr not ↦ rw none not
      ]
  by_clients (client ∷ clients) size each =
      let some : eqb count 0 ≡ false = ne_eqb count 0 (λ none. omega (arith, size, none)) in
      elim (cases_Bool (opened client events)) [
        | inl is ↦ rw some ((any_open (traffic source events)).1 client (open_same source client events ∙ is))
        | inr not ↦ absurd (omega (arith, each client, times_more client client clients, ap bit not, ap bit (eq-eqb client client refl)))
      ]
