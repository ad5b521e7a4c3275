-- What holds of every list of marks that rest on those before them.
use Rattle.std.proofs.Common.{◌≡◌, ℕ, length-append, ◌+◌, ◌-◌, ◌≤◌, Bool, true, false, cond, eqb, List, [], ◌∷◌, ◌++◌, length, take, Option, Some, None, refl, sym, ap, subst, ◌∙◌, append_assoc, arith}
use Rattle.std.specs.Prelude.{IfSome, unwrap_or, count_by, sum_by, map, slice_get, not, reverse}
use Rattle.std.specs.List.{cons_option, filter_map, after_last, last_or, AllByRecursion}
use Rattle.std.specs.Option.{option_and_then}
use Rattle.std.proofs.lemmas.List.{append-nil, take-append-le, map-append}
use Rattle.std.proofs.lemmas.List.Elements.{filter_map-append}
use Rattle.std.proofs.lemmas.List.Sums.{sum_by-append}
use Rattle.std.proofs.lemmas.Bool.{eqb-true}
use Rattle.dl_lemmas.proofs.Lists.{all_both, all_found, all_map, all_reverse, get_more, take_next}
use Rattle.dl_bytes.specs.Claim.{Claimed}
use Rattle.dl_bytes.specs.Level.{passes}
use Rattle.dl_events.specs.declared.event.Event.{Event}
use Rattle.dl_events.specs.declared.event.Event.TheVariants as event
use Rattle.dl_model.specs.Setting.{Setting}
use Rattle.dl_script_model.specs.Marks.{call_of, record_of, is_step_of, passed, refused, to_push, to_count, taken, is_taken_of, queued, queued_of, Pushed, OfCall, OfClaim, call_in, claim_in, pushes, pushed_of, Call, Mark, Filtered, Passed, Queued, Refused, Counted, Announced, Noted, journal, event_of, pending, is_lost_of, is_counted_of}
use Rattle.dl_script_model.specs.Runs.{IsLoaded, RestsOn, AreFounded}
use Rattle.std.proofs.lemmas.Option.{slice_get_within}
use Rattle.dl_model.specs.History.{history, level_for}
use Rattle.dl_model.specs.Along.{last_that}
use Rattle.dl_model.specs.Accounts.{IsExact, Took, TookCall, TookClaim, took_of, takes, order, logged_of, claims, name_of, claim_of as event_claim}
use Rattle.dl_model.specs.Report.{reported, lost_of}
use Rattle.dl_runs.specs.Takes.{as_took}
use Rattle.dl_runs.proofs.Founded.{passed_is, refused_is, last_step}
use Rattle.dl_model.proofs.Lists.{after_last-one, count_by-append}

-- what holds at the beginning, and goes on to hold with each mark that rests on those before it, holds
pub holds_after : (setting : Setting) (P : List Mark → Type 0) → ((done : List Mark) (mark : Mark) → P done → RestsOn setting done mark → P (done ++ mark ∷ [])) →
    (before marks : List Mark) → P before → AreFounded setting before marks → P (before ++ marks)
holds_after setting P goes_on before [] holds founded = subst P (sym (append-nil before)) holds
holds_after setting P goes_on before (mark ∷ marks) holds founded =
    subst P (append_assoc before (mark ∷ []) marks) (holds_after setting P goes_on (before ++ mark ∷ []) marks (goes_on before mark holds founded.0) founded.1)

-- ---- losses

abbrev Told : List Mark → Type 0
Told done = (app : ℕ) → reported app (journal done) + pending app done ≡ count_by (is_counted_of app) done

-- what a mark tells of an application's losses
abbrev lost_in : ℕ → Mark → ℕ
lost_in app mark = sum_by (lost_of app) (filter_map event_of (mark ∷ []))

told_by : (setting : Setting) (app : ℕ) (done : List Mark) (mark : Mark) → RestsOn setting done mark →
    lost_in app mark + cond (is_lost_of app mark) 0 (pending app done + cond (is_counted_of app mark) 1 0) ≡ pending app done + cond (is_counted_of app mark) 1 0
told_by setting app done (Noted (event.Lost other n moment)) rests = by_test (eqb other app) refl where
  by_test : (b : Bool) → eqb other app ≡ b → 0 + cond b n 0 + cond b 0 (pending app done + 0) ≡ pending app done + 0
  by_test true e =
      let same : pending other done ≡ pending app done = ap (λ a. pending a done) (eqb-true other app e) in
      omega (arith, rests.0, same)
  by_test false e = omega arith
told_by setting app done _ rests = omega arith

told_goes_on : (setting : Setting) (done : List Mark) (mark : Mark) → Told done → RestsOn setting done mark → Told (done ++ mark ∷ [])
told_goes_on setting done mark told rests app =
    let journal_more = filter_map-append event_of done (mark ∷ []) in
    let reported_more : reported app (journal (done ++ mark ∷ [])) ≡ reported app (journal done) + lost_in app mark =
    ap (sum_by (lost_of app)) journal_more ∙ sum_by-append (lost_of app) (journal done) (filter_map event_of (mark ∷ [])) in
    let counted_more : count_by (is_counted_of app) (done ++ mark ∷ []) ≡ count_by (is_counted_of app) done + cond (is_counted_of app mark) 1 0 =
    omega (arith, count_by-append (is_counted_of app) done (mark ∷ [])) in
    let pending_more : pending app (done ++ mark ∷ []) ≡ cond (is_lost_of app mark) 0 (pending app done + cond (is_counted_of app mark) 1 0) =
    ap (count_by (is_counted_of app)) (after_last-one (is_lost_of app) done mark) ∙ pending_by (is_lost_of app mark) in
    omega (arith, reported_more, counted_more, pending_more, told app, told_by setting app done mark rests) where
      pending_by : (b : Bool) → count_by (is_counted_of app) (cond b [] (after_last (is_lost_of app) done ++ mark ∷ [])) ≡ cond b 0 (pending app done + cond (is_counted_of app mark) 1 0)
      pending_by true = refl
      pending_by false =
          let more = count_by-append (is_counted_of app) (after_last (is_lost_of app) done) (mark ∷ []) in
          omega (arith, more)

pub losses_told : (setting : Setting) (marks : List Mark) → AreFounded setting [] marks → (app : ℕ) → reported app (journal marks) + pending app marks ≡ count_by (is_counted_of app) marks
losses_told setting marks founded = holds_after setting Told (told_goes_on setting) [] marks (λ _. refl) founded

-- ---- the order of admission

-- what was taken so far is the first that was pushed
abbrev IsFront : List Took → ℕ → List Pushed → Type 0
IsFront took count whats = (took ≡ map as_took (take count whats)) × (count ≤ length whats)

still_front : (took : List Took) (count : ℕ) (whats more : List Pushed) → IsFront took count whats → IsFront (took ++ []) (count + 0) (whats ++ more)
still_front took count whats more front =
    let same : count + 0 ≡ count = omega arith in (
      append-nil took ∙ front.0 ∙ ap (map as_took) (sym (take-append-le count whats more front.1) ∙ ap (λ n. take n (whats ++ more)) (sym same)),
      omega (arith, front.1, length-append whats more),
    )

next_front : (took : List Took) (count : ℕ) (whats : List Pushed) (what : Pushed) → IsFront took count whats → slice_get whats count ≡ Some what → IsFront (took ++ as_took what ∷ []) (count + 1) (whats ++ [])
next_front took count whats what front is = (
  ap (λ (ts : List Took). ts ++ as_took what ∷ []) front.0 ∙ sym (map-append as_took (take count whats) (what ∷ []))
      ∙ ap (map as_took) (sym (take_next whats count what is) ∙ ap (take (count + 1)) (sym (append-nil whats))),
  omega (arith, slice_get_within whats count what is, length-append whats []),
)

abbrev InOrder : List Mark → Type 0
InOrder done = (app : ℕ) → IsFront (takes app (journal done)) (taken app done) (pushes app done)

-- what a mark adds to what was taken of an application, to its number, and to what was pushed
abbrev took_in : ℕ → Mark → List Took
took_in app mark = filter_map (took_of app) (filter_map event_of (mark ∷ []))

abbrev takes_in : ℕ → Mark → ℕ
takes_in app mark = count_by (is_taken_of app) (filter_map event_of (mark ∷ []))

abbrev pushes_in : ℕ → Mark → List Pushed
pushes_in app mark = filter_map (pushed_of app) (mark ∷ [])

front_by : (setting : Setting) (app : ℕ) (done : List Mark) (mark : Mark) → RestsOn setting done mark → IsFront (takes app (journal done)) (taken app done) (pushes app done) →
    IsFront (takes app (journal done) ++ took_in app mark) (taken app done + takes_in app mark) (pushes app done ++ pushes_in app mark)
front_by setting app done (Queued c) rests front = still_front (takes app (journal done)) (taken app done) (pushes app done) (pushes_in app (Queued c)) front
front_by setting app done (Announced c) rests front = still_front (takes app (journal done)) (taken app done) (pushes app done) (pushes_in app (Announced c)) front
front_by setting app done (Noted (event.Log other writer call moment)) rests front = by_test (eqb other app) refl where
  here : eqb other app ≡ true → IsFront (takes app (journal done) ++ TookCall writer call ∷ []) (taken app done + 1) (pushes app done ++ [])
  here e =
      let first : slice_get (pushes app done) (taken app done) ≡ Some (OfCall rests.call) =
      subst (λ a. slice_get (pushes a done) (taken a done) ≡ Some (OfCall rests.call)) (eqb-true other app e) rests.first in
      let is = next_front (takes app (journal done)) (taken app done) (pushes app done) (OfCall rests.call) front first in
      subst (λ w. IsFront (takes app (journal done) ++ TookCall w call ∷ []) (taken app done + 1) (pushes app done ++ [])) rests.writer_is
      (subst (λ n. IsFront (takes app (journal done) ++ TookCall rests.call.item.writer n ∷ []) (taken app done + 1) (pushes app done ++ [])) rests.number_is is)

  by_test : (b : Bool) → eqb other app ≡ b →
      IsFront (takes app (journal done) ++ filter_map (λ (o : Option Took). o) (cond b (Some (TookCall writer call)) None ∷ [])) (taken app done + (0 + cond b 1 0)) (pushes app done ++ [])
  by_test true e = here e
  by_test false e = still_front (takes app (journal done)) (taken app done) (pushes app done) [] front
front_by setting app done (Noted (event.Claim c moment)) rests front = by_test (eqb c.app app) refl where
  here : eqb c.app app ≡ true → IsFront (takes app (journal done) ++ TookClaim c ∷ []) (taken app done + 1) (pushes app done ++ [])
  here e =
      next_front (takes app (journal done)) (taken app done) (pushes app done) (OfClaim c) front
      (subst (λ a. slice_get (pushes a done) (taken a done) ≡ Some (OfClaim c)) (eqb-true c.app app e) rests)

  by_test : (b : Bool) → eqb c.app app ≡ b →
      IsFront (takes app (journal done) ++ filter_map (λ (o : Option Took). o) (cond b (Some (TookClaim c)) None ∷ [])) (taken app done + (0 + cond b 1 0)) (pushes app done ++ [])
  by_test true e = here e
  by_test false e = still_front (takes app (journal done)) (taken app done) (pushes app done) [] front
front_by setting app done _ rests front = still_front (takes app (journal done)) (taken app done) (pushes app done) [] front

in_order_goes_on : (setting : Setting) (done : List Mark) (mark : Mark) → InOrder done → RestsOn setting done mark → InOrder (done ++ mark ∷ [])
in_order_goes_on setting done mark ordered rests app =
    let journal_more = filter_map-append event_of done (mark ∷ []) in
    let names : takes app (journal (done ++ mark ∷ [])) ≡ takes app (journal done) ++ took_in app mark =
    ap (filter_map (took_of app)) journal_more ∙ filter_map-append (took_of app) (journal done) (filter_map event_of (mark ∷ [])) in
    let count : taken app (done ++ mark ∷ []) ≡ taken app done + takes_in app mark =
    ap (count_by (is_taken_of app)) journal_more ∙ count_by-append (is_taken_of app) (journal done) (filter_map event_of (mark ∷ [])) in
    let whats : pushes app (done ++ mark ∷ []) ≡ pushes app done ++ pushes_in app mark = filter_map-append (pushed_of app) done (mark ∷ []) in
    subst (λ ts. IsFront ts (taken app (done ++ mark ∷ [])) (pushes app (done ++ mark ∷ []))) (sym names)
    (subst (λ n. IsFront (takes app (journal done) ++ took_in app mark) n (pushes app (done ++ mark ∷ []))) (sym count)
    (subst (λ ps. IsFront (takes app (journal done) ++ took_in app mark) (taken app done + takes_in app mark) ps) (sym whats)
    (front_by setting app done mark rests (ordered app))))

pub admitted_in_order : (setting : Setting) (marks : List Mark) → AreFounded setting [] marks → (app : ℕ) →
    (takes app (journal marks) ≡ map as_took (take (taken app marks) (pushes app marks))) × (taken app marks ≤ length (pushes app marks))
admitted_in_order setting marks founded = holds_after setting InOrder (in_order_goes_on setting) [] marks (λ app. (refl, omega arith)) founded

-- ---- calls and claims among them

abbrev call_took : Took → Option (ℕ × ℕ)
call_took (TookCall writer call) = Some (writer, call)
call_took (TookClaim c) = None

abbrev claim_took : Took → Option Claimed
claim_took (TookCall writer call) = None
claim_took (TookClaim c) = Some c

-- what one function gives of entries is what another one gives of what a third gives of them
given_twice : {X Y Z : Type 0} (f : X → Option Z) (g : X → Option Y) (h : Y → Option Z) → ((x : X) → f x ≡ option_and_then h (g x)) → (xs : List X) → filter_map f xs ≡ filter_map h (filter_map g xs)
given_twice f g h is [] = refl
given_twice {Y = Y} {Z = Z} f g h is (x ∷ xs) = ap (λ (o : Option Z). cons_option o (filter_map f xs)) (is x) ∙ by_entry (g x) (given_twice f g h is xs) where
  by_entry : (o : Option Y) → filter_map f xs ≡ filter_map h (filter_map g xs) → cons_option (option_and_then h o) (filter_map f xs) ≡ filter_map h (cons_option o (filter_map g xs))
  by_entry None others = others
  by_entry (Some y) others = ap (cons_option (h y)) others

logged_among : (app : ℕ) (e : Event) → logged_of app e ≡ option_and_then call_took (took_of app e)
logged_among app (event.Log other writer call moment) = by_test (eqb other app) where
  by_test : (b : Bool) → cond b (Some (writer, call)) None ≡ option_and_then call_took (cond b (Some (TookCall writer call)) None)
  by_test true = refl
  by_test false = refl
logged_among app (event.Claim c moment) = by_test (eqb c.app app) where
  by_test : (b : Bool) → None ≡ option_and_then call_took (cond b (Some (TookClaim c)) None)
  by_test true = refl
  by_test false = refl
logged_among app _ = refl

claimed_among : (app : ℕ) (e : Event) → event_claim app e ≡ option_and_then claim_took (took_of app e)
claimed_among app (event.Log other writer call moment) = by_test (eqb other app) where
  by_test : (b : Bool) → None ≡ option_and_then claim_took (cond b (Some (TookCall writer call)) None)
  by_test true = refl
  by_test false = refl
claimed_among app (event.Claim c moment) = by_test (eqb c.app app) where
  by_test : (b : Bool) → cond b (Some c) None ≡ option_and_then claim_took (cond b (Some (TookClaim c)) None)
  by_test true = refl
  by_test false = refl
claimed_among app _ = refl

queued_among : (app : ℕ) (mark : Mark) → queued_of app mark ≡ option_and_then call_in (pushed_of app mark)
queued_among app (Queued c) = by_test (eqb c.item.app app) where
  by_test : (b : Bool) → cond b (Some c) None ≡ option_and_then call_in (cond b (Some (OfCall c)) None)
  by_test true = refl
  by_test false = refl
queued_among app (Announced c) = by_test (eqb c.app app) where
  by_test : (b : Bool) → None ≡ option_and_then call_in (cond b (Some (OfClaim c)) None)
  by_test true = refl
  by_test false = refl
queued_among app _ = refl

-- the calls that an application's ring took are those among all that it took
pub queued_in_ring : (app : ℕ) (marks : List Mark) → queued app marks ≡ filter_map call_in (pushes app marks)
queued_in_ring app marks = given_twice (queued_of app) (pushed_of app) call_in (queued_among app) marks

calls_of_takes : (whats : List Pushed) → filter_map call_took (map as_took whats) ≡ map (λ (c : Call). name_of c.item) (filter_map call_in whats)
calls_of_takes [] = refl
calls_of_takes (OfCall c ∷ whats) = ap (λ (ns : List (ℕ × ℕ)). name_of c.item ∷ ns) (calls_of_takes whats)
calls_of_takes (OfClaim c ∷ whats) = calls_of_takes whats

claims_of_takes : (whats : List Pushed) → filter_map claim_took (map as_took whats) ≡ filter_map claim_in whats
claims_of_takes [] = refl
claims_of_takes (OfCall c ∷ whats) = claims_of_takes whats
claims_of_takes (OfClaim c ∷ whats) = ap (λ (cs : List Claimed). c ∷ cs) (claims_of_takes whats)

-- the calls that were logged, and the claims that were noted, are those among the first that the ring took
pub calls_in_order : (setting : Setting) (marks : List Mark) → AreFounded setting [] marks → (app : ℕ) →
    order app (journal marks) ≡ map (λ (c : Call). name_of c.item) (filter_map call_in (take (taken app marks) (pushes app marks)))
calls_in_order setting marks founded app =
    given_twice (logged_of app) (took_of app) call_took (logged_among app) (journal marks)
    ∙ ap (filter_map call_took) (admitted_in_order setting marks founded app).0 ∙ calls_of_takes (take (taken app marks) (pushes app marks))

pub claims_in_order : (setting : Setting) (marks : List Mark) → AreFounded setting [] marks → (app : ℕ) →
    claims app (journal marks) ≡ filter_map claim_in (take (taken app marks) (pushes app marks))
claims_in_order setting marks founded app =
    given_twice (event_claim app) (took_of app) claim_took (claimed_among app) (journal marks)
    ∙ ap (filter_map claim_took) (admitted_in_order setting marks founded app).0 ∙ claims_of_takes (take (taken app marks) (pushes app marks))

-- ---- filtered exactly

-- a call that a mark is a step of, with what its level says of it
abbrev IsRight : Mark → Type 0
IsRight (Filtered c) = passes c.item.severity c.held ≡ false
IsRight (Passed c) = passes c.item.severity c.held ≡ true
IsRight (Queued c) = passes c.item.severity c.held ≡ true
IsRight (Refused c) = passes c.item.severity c.held ≡ true
IsRight (Counted c) = passes c.item.severity c.held ≡ true
IsRight _ = Unit {0}

right_push : (writer : ℕ) (done : List Mark) (c : Call) → AllByRecursion IsRight done → to_push writer done ≡ Some c → passes c.item.severity c.held ≡ true
right_push writer done c all e =
    let last = last_step passed (last_that (is_step_of writer) done) c e in
    subst IsRight (passed_is last.0 c last.2) (all_found IsRight (is_step_of writer) (reverse done) last.0 (all_reverse IsRight done all) last.1)

right_count : (writer : ℕ) (done : List Mark) (c : Call) → AllByRecursion IsRight done → to_count writer done ≡ Some c → passes c.item.severity c.held ≡ true
right_count writer done c all e =
    let last = last_step refused (last_that (is_step_of writer) done) c e in
    subst IsRight (refused_is last.0 c last.2) (all_found IsRight (is_step_of writer) (reverse done) last.0 (all_reverse IsRight done all) last.1)

right_by : (setting : Setting) (done : List Mark) (mark : Mark) → AllByRecursion IsRight done → RestsOn setting done mark → IsRight mark
right_by setting done (Filtered c) all rests = rests.1
right_by setting done (Passed c) all rests = rests.1
right_by setting done (Queued c) all rests = right_push c.item.writer done c all rests.0
right_by setting done (Refused c) all rests = right_push c.item.writer done c all rests.0
right_by setting done (Counted c) all rests = right_count c.item.writer done c all rests
right_by setting done _ all rests = tt

-- ---- each call holds the level that its slot held at its version

last_entry : (x : ℕ) (xs : List ℕ) → slice_get (x ∷ xs) (length xs) ≡ Some (unwrap_or (last_or (Some x) xs) 0)
last_entry x [] = refl
last_entry x (y ∷ xs) = last_entry y xs

abbrev Holds : ℕ → List Event → Call → Type 0
Holds first events c = (first ≤ c.version) × (slice_get (history events c.slot) (c.version - first) ≡ Some c.held)

holds_more : (first : ℕ) (events more : List Event) (c : Call) → Holds first events c → Holds first (events ++ more) c
holds_more first events more c holds = (
  holds.0,
  subst (λ h. slice_get h (c.version - first) ≡ Some c.held) (ap (λ (t : List ℕ). 0 ∷ t) (sym (filter_map-append (level_for c.slot) events more)))
      (get_more (history events c.slot) (filter_map (level_for c.slot) more) (c.version - first) c.held holds.1),
)

holds_at : (setting : Setting) (done : List Mark) (c : Call) → IsLoaded setting c done → Holds setting.first (journal done) c
holds_at setting done c loaded =
    let levels = filter_map (level_for c.slot) (journal done) in
    let place : c.version - setting.first ≡ length levels = omega (arith, loaded.version) in
    (omega (arith, loaded.version), ap (slice_get (0 ∷ levels)) place ∙ last_entry 0 levels ∙ ap Some (sym loaded.held))

abbrev HoldsMark : ℕ → List Event → Mark → Type 0
HoldsMark first events mark = IfSome (call_of mark) (Holds first events)

mark_more : (first : ℕ) (events more : List Event) (mark : Mark) → HoldsMark first events mark → HoldsMark first (events ++ more) mark
mark_more first events more mark holds = by_call (call_of mark) holds where
  by_call : (o : Option Call) → IfSome o (Holds first events) → IfSome o (Holds first (events ++ more))
  by_call None holds = tt
  by_call (Some c) holds = holds_more first events more c holds

held_push : (first writer : ℕ) (done : List Mark) (c : Call) → AllByRecursion (HoldsMark first (journal done)) done → to_push writer done ≡ Some c → Holds first (journal done) c
held_push first writer done c all e =
    let last = last_step passed (last_that (is_step_of writer) done) c e in
    let P = HoldsMark first (journal done) in
    subst P (passed_is last.0 c last.2) (all_found P (is_step_of writer) (reverse done) last.0 (all_reverse P done all) last.1)

held_count : (first writer : ℕ) (done : List Mark) (c : Call) → AllByRecursion (HoldsMark first (journal done)) done → to_count writer done ≡ Some c → Holds first (journal done) c
held_count first writer done c all e =
    let last = last_step refused (last_that (is_step_of writer) done) c e in
    let P = HoldsMark first (journal done) in
    subst P (refused_is last.0 c last.2) (all_found P (is_step_of writer) (reverse done) last.0 (all_reverse P done all) last.1)

held_by_mark : (setting : Setting) (done : List Mark) (mark : Mark) → AllByRecursion (HoldsMark setting.first (journal done)) done → RestsOn setting done mark → HoldsMark setting.first (journal done) mark
held_by_mark setting done (Filtered c) all rests = holds_at setting done c rests.0
held_by_mark setting done (Passed c) all rests = holds_at setting done c rests.0
held_by_mark setting done (Queued c) all rests = held_push setting.first c.item.writer done c all rests.0
held_by_mark setting done (Refused c) all rests = held_push setting.first c.item.writer done c all rests.0
held_by_mark setting done (Counted c) all rests = held_count setting.first c.item.writer done c all rests
held_by_mark setting done _ all rests = tt

abbrev AllHold : ℕ → List Mark → Type 0
AllHold first done = AllByRecursion (HoldsMark first (journal done)) done

held_goes_on : (setting : Setting) (done : List Mark) (mark : Mark) → AllHold setting.first done → RestsOn setting done mark → AllHold setting.first (done ++ mark ∷ [])
held_goes_on setting done mark all rests =
    let P = HoldsMark setting.first (journal done) in
    let Q = HoldsMark setting.first (journal done ++ filter_map event_of (mark ∷ [])) in
    let more = all_map P Q (mark_more setting.first (journal done) (filter_map event_of (mark ∷ []))) (done ++ mark ∷ [])
    (all_both P done (mark ∷ []) all (held_by_mark setting done mark all rests, tt)) in
    subst (λ events. AllByRecursion (HoldsMark setting.first events) (done ++ mark ∷ [])) (sym (filter_map-append event_of done (mark ∷ []))) more

exact_records : (first : ℕ) (events : List Event) (done : List Mark) → AllByRecursion IsRight done → AllByRecursion (HoldsMark first events) done → AllByRecursion (IsExact first events) (filter_map record_of done)
exact_records first events [] right held = tt
exact_records first events (Filtered c ∷ done) right held =
    (record { not_before = held.0.0; held = held.0.1; filtered = ap not (sym right.0) }, exact_records first events done right.1 held.1)
exact_records first events (Queued c ∷ done) right held =
    (record { not_before = held.0.0; held = held.0.1; filtered = ap not (sym right.0) }, exact_records first events done right.1 held.1)
exact_records first events (Counted c ∷ done) right held =
    (record { not_before = held.0.0; held = held.0.1; filtered = ap not (sym right.0) }, exact_records first events done right.1 held.1)
exact_records first events (_ ∷ done) right held = exact_records first events done right.1 held.1

pub calls_exact : (setting : Setting) (marks : List Mark) → AreFounded setting [] marks → AllByRecursion (IsExact setting.first (journal marks)) (filter_map record_of marks)
calls_exact setting marks founded =
    exact_records setting.first (journal marks) marks
    (holds_after setting (AllByRecursion IsRight) (λ done mark all rests. all_both IsRight done (mark ∷ []) all (right_by setting done mark all rests, tt)) [] marks tt founded)
    (holds_after setting (AllHold setting.first) (held_goes_on setting) [] marks tt founded)
