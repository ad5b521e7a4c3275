-- What draining keeps, batch after batch and application after application.
use Rattle.std.proofs.Common.{◌≡◌, ◌≢◌, ℕ, zero, suc, ◌+◌, ◌-◌, ◌*◌, ◌<◌, ◌≤◌, Bool, true, false, List, [], ◌∷◌, ◌++◌, length, length-append, map, append-nil, eqb, eq-eqb, true≢false, refl, sym, ap, ◌∙◌, subst, None, inl, inr, arith}
use Rattle.std.specs.Prelude.{min}
use Rattle.std.proofs.lemmas.Bool.{cases_lt}
use Rattle.std.proofs.lemmas.Bool.Decides.{eqb_tells}
use Rattle.dl_bytes.specs.Claim.{Claimed}
use Rattle.dl_bytes.specs.declared.conf.AppSpec.{AppSpec}
use Rattle.dl_cells.specs.Losses.{reported_of}
use Rattle.dl_cells.specs.declared.loss_keeper.Report.{Report}
use Rattle.dl_cells.proofs.LossSums.{reported_else, reported_more}
use Rattle.dl_ring.specs.declared.item.RingItem.{RingItem}
use Rattle.dl_ring.specs.declared.item.RingItem.TheVariants.{Log, Register}
use Rattle.dl_ring.specs.Items.{calls_in, claims_in}
use Rattle.dl_ring.proofs.Items.{calls_in-append, claims_in-append, length-calls_in}
use Rattle.dl_cells.specs.Views.{bit}
use Rattle.dl_desk.specs.Told.{ControlTold}
use Rattle.dl_writer.specs.State.{BookState}
use Rattle.dl_account.specs.Books.{lost_of, items_pushed_of}
use Rattle.dl_account.specs.Known.{AreGathered, IsEmpty, IsTold, taken_of}
use Rattle.dl_account.specs.State.{ClosingState}
use Rattle.dl_registry.specs.Kept.{Kept, owed_change}
use Rattle.dl_hub.specs.State.{Hub}
use Rattle.dl_core.specs.State.{Core}
use Rattle.dl_admission.specs.Admission.{Admits, Entry, Uses}
use Rattle.dl_core.specs.Follows.{Run}
use Rattle.dl_admission.specs.Part.{Part}
use Rattle.dl_turns.specs.Events.{IsDeskOf}
use Rattle.dl_taking.specs.Draining.{DrainsApp, DrainsFirst, MayNote, SameButTaken, TakesBatch, TakesOn, calls_left, calls_pushed, claims_left, claims_left_from, claims_pushed, closing_took, losses_left, to_note, to_note_from}
use Rattle.dl_taking.specs.Side.{Side}
use Rattle.dl_taking.specs.Takes.{TakesClaimIf, TakesSome}
use Rattle.dl_taking.specs.Took.{Took, with_items, with_losses}
use Rattle.dl_taking.specs.declared.taking.Got.{Got}
use Rattle.dl_taking.proofs.DrainedEvents.{step_drain}
use Rattle.dl_taking.proofs.PushedItems.{AreFewer, fewer_taken, pushed_parts}
use Rattle.dl_taking.proofs.Tooks.{calls_are, items_both, no_claims, taken_else, taken_here}

-- ---- one batch

pub one_batch : (app most : ℕ) (got : Got) (old new : Side) → most ≤ 64 → TakesSome app most got old new → TakesBatch app old new
one_batch app most got old new few takes = (
  got,
  record {
    items = takes.items;
    moment = takes.moment;
    between = takes.between;
    count_is = takes.count_is;
    few = omega (arith, few, takes.few);
    took = takes.took;
    logs = takes.logs;
    uses = takes.uses;
    desk = takes.desk;
    claim = takes.claim;
  },
)

-- what a step took of an application's ring: so many calls, and a claim where it is told
pub record IsTakenOf (app : ℕ) (got : Got) (old new : Took) : Type 0 where
  pub items : List RingItem
  pub took : new ≡ with_items app items old
  pub calls : length (calls_in items) ≡ got.calls
  pub claims : length (claims_in items) ≡ bit got.claimed

pub taken_of_step : (app most : ℕ) (got : Got) (old new : Side) → TakesSome app most got old new → IsTakenOf app got old.took new.took
taken_of_step app most got old new takes = by got.claimed refl takes.claim where
  by : (b : Bool) → got.claimed ≡ b → TakesClaimIf b app takes.moment takes.between new → IsTakenOf app got old.took new.took
  by true is claim = record {
    items = map Log takes.items ++ Register claim.claim ∷ [];
    took = claim.took ∙ ap (with_items app (Register claim.claim ∷ [])) takes.took ∙ items_both app (map Log takes.items) (Register claim.claim ∷ []) old.took;
    calls = ap length (calls_in-append (map Log takes.items) (Register claim.claim ∷ []) ∙ append-nil (calls_in (map Log takes.items)) ∙ calls_are takes.items) ∙ sym takes.count_is;
    claims = ap length (claims_in-append (map Log takes.items) (Register claim.claim ∷ []) ∙ ap (λ (cs : List Claimed). cs ++ claim.claim ∷ []) (no_claims takes.items)) ∙ ap bit (sym is);
  }
  by false is same = record {
    items = map Log takes.items;
    took = ap (λ (s : Side). s.took) same ∙ takes.took;
    calls = ap length (calls_are takes.items) ∙ sym takes.count_is;
    claims = ap length (no_claims takes.items) ∙ ap bit (sym is);
  }

-- so many fewer are left
pub record AreLeft (books books_now : List BookState) (app : ℕ) (got : Got) (old new : Took) : Type 0 where
  pub calls : calls_left books_now new app + got.calls ≡ calls_left books old app
  pub claims : claims_left books_now new app + bit got.claimed ≡ claims_left books old app

pub fewer_left : (books books_now : List BookState) (app most : ℕ) (got : Got) (old new : Side) → TakesSome app most got old new → books_now ≡ books
    → AreFewer books_now (new.took.taken app) app → AreLeft books books_now app got old.took new.took
fewer_left books books_now app most got old new takes same fewer =
    let step = taken_of_step app most got old new takes in
    let all : new.took.taken app ≡ old.took.taken app ++ step.items = ap (λ (t : Took). t.taken app) step.took ∙ taken_here app step.items old.took in
    let calls : length (calls_in (new.took.taken app)) ≡ length (calls_in (old.took.taken app)) + length (calls_in step.items) =
    ap (λ (items : List RingItem). length (calls_in items)) all ∙ ap length (calls_in-append (old.took.taken app) step.items) ∙ length-append (calls_in (old.took.taken app)) (calls_in step.items) in
    let claims : length (claims_in (new.took.taken app)) ≡ length (claims_in (old.took.taken app)) + length (claims_in step.items) =
    ap (λ (items : List RingItem). length (claims_in items)) all ∙ ap length (claims_in-append (old.took.taken app) step.items) ∙ length-append (claims_in (old.took.taken app)) (claims_in step.items) in
    record {
      calls = omega (arith, calls, ap (calls_pushed app) same, fewer.calls, step.calls);
      claims = omega (arith, claims, ap (claims_pushed app) same, fewer.claims, step.claims);
    }

-- as many were taken as the writers pushed, at most
pub taken_within : (new : ClosingState) → AreGathered new → (old : ClosingState) (app : ℕ) → SameButTaken old new → app < length old.apps → AreFewer new.books (taken_of new.handles app) app
taken_within new gathered old app same below =
    let apps : length new.apps ≡ length old.apps = ap (λ (s : ClosingState). length s.apps) same in
    let contents = gathered.rings app (omega (arith, apps, below)) in
    fewer_taken app new.books (taken_of new.handles app) contents.0 contents.1

-- where none is left the ring is empty, and only there
pub none_left : (new : ClosingState) (app : ℕ) → AreFewer new.books (taken_of new.handles app) app → calls_left new.books (closing_took new) app ≡ 0 → claims_left new.books (closing_took new) app ≡ 0 → IsEmpty new app
none_left new app fewer calls claims = omega (arith, fewer.calls, fewer.claims, calls, claims, length-calls_in (taken_of new.handles app), pushed_parts app new.books)

pub none_of : (new : ClosingState) (app : ℕ) → AreFewer new.books (taken_of new.handles app) app → IsEmpty new app
    → (calls_left new.books (closing_took new) app ≡ 0) × (claims_left new.books (closing_took new) app ≡ 0)
none_of new app fewer empty = (
  omega (arith, fewer.calls, fewer.claims, empty, length-calls_in (taken_of new.handles app), pushed_parts app new.books),
  omega (arith, fewer.calls, fewer.claims, empty, length-calls_in (taken_of new.handles app), pushed_parts app new.books),
)

-- a batch without a claim that is not full was cut short by the ring, or by the events that may be noted
pub by_count : (got : Got) (most : ℕ) (new : ClosingState) (app : ℕ) → got.calls ≤ most → (got.calls < most → IsEmpty new app) → (got.calls ≡ most → IsEmpty new app) → IsEmpty new app
by_count got most new app few short all = elim (cases_lt got.calls most) [
  | inl below ↦ short below
  | inr above ↦ all (omega (arith, few, above))
]

-- ---- the journal's room

-- after a step
pub may_step : (specs : List AppSpec) (app most : ℕ) (got : Got) (old new : Side) → app < length specs → TakesSome app most got old new → (left left_now claims claims_now reports : ℕ) → left_now + got.calls ≡ left
    → claims_now + bit got.claimed ≡ claims → MayNote left claims reports old.part.core.hub old.spare → MayNote left_now claims_now reports new.part.core.hub new.spare
may_step specs app most got old new within takes left left_now claims claims_now reports used claims_used may =
    let step = step_drain specs app most got old new within takes in
    record {
      spare_so = omega (arith, step.clients, step.spare_so, step.few, used, claims_used, may.spare_so);
      few = omega (arith, step.drain.admitted, step.frames_so, used, claims_used, may.few);
    }

-- ---- losses

losses_still : (books books_now : List BookState) (app : ℕ) (reports reports_now : List Report) → books_now ≡ books → reports_now ≡ reports
    → lost_of app books_now - reported_of app reports_now ≡ lost_of app books - reported_of app reports
losses_still books books_now app reports reports_now same told = ap (λ (bs : List BookState). lost_of app bs - reported_of app reports_now) same ∙ ap (λ (rs : List Report). lost_of app books - reported_of app rs) told

-- what is empty stays so while losses are told
pub empty_behind : (old new : ClosingState) (app count : ℕ) → closing_took new ≡ with_losses app count (closing_took old) → SameButTaken old new → IsEmpty old app → IsEmpty new app
empty_behind old new app count took same empty =
    ap (λ (t : Took). length (t.taken app)) took ∙ empty ∙ ap (λ (s : ClosingState). items_pushed_of app s.books) (sym same)

-- ---- batches

pub on_reported : (app count : ℕ) (old new : Side) → TakesOn app count old new → new.took.reported ≡ old.took.reported
on_reported app zero old new takes = ap (λ (s : Side). s.took.reported) takes
on_reported app (suc count) old new takes = ap (λ (t : Took). t.reported) (taken_of_step app 64 takes.2.0 takes.0 new takes.2.1).took ∙ on_reported app count old takes.0 takes.1

on_else : (app other count : ℕ) (old new : Side) → other ≢ app → TakesOn app count old new → new.took.taken other ≡ old.took.taken other
on_else app other zero old new apart takes = ap (λ (s : Side). s.took.taken other) takes
on_else app other (suc count) old new apart takes =
    let step = taken_of_step app 64 takes.2.0 takes.0 new takes.2.1 in
    ap (λ (t : Took). t.taken other) step.took ∙ taken_else app other step.items takes.0.took apart ∙ on_else app other count old takes.0 apart takes.1

-- no losses of it are told while calls are taken
pub on_losses : (app count : ℕ) (old new : Side) (was now : ClosingState) → TakesOn app count old new → old.took ≡ closing_took was → new.took ≡ closing_took now → SameButTaken was now
    → losses_left now.books (closing_took now) app ≡ losses_left was.books (closing_took was) app
on_losses app count old new was now takes from to same =
    losses_still was.books now.books app (closing_took was).reported (closing_took now).reported (ap (λ (s : ClosingState). s.books) same)
    (ap (λ (t : Took). t.reported) (sym to) ∙ on_reported app count old new takes ∙ ap (λ (t : Took). t.reported) from)

-- ---- applications

-- of another application neither calls nor losses were taken
pub record IsLeft (other : ℕ) (old new : Took) : Type 0 where
  pub calls : new.taken other ≡ old.taken other
  pub losses : reported_of other new.reported ≡ reported_of other old.reported

pub app_else : (specs : List AppSpec) (app other : ℕ) (old new : Side) → other ≢ app → DrainsApp specs app old new → IsLeft other old.took new.took
app_else specs app other old new apart drains = record {
  calls = ap (λ (t : Took). t.taken other) drains.reports.took ∙ on_else app other drains.count old drains.emptied apart drains.takes;
  losses = ap (λ (t : Took). reported_of other t.reported) drains.reports.took ∙ reported_else other app drains.lost drains.emptied.took.reported (λ (e : app ≡ other). apart (sym e))
      ∙ ap (reported_of other) (on_reported app drains.count old drains.emptied drains.takes);
}

note_else : (books books_now : List BookState) (other : ℕ) (took took_now : Took) → books_now ≡ books → IsLeft other took took_now → to_note books_now took_now other ≡ to_note books took other
note_else books books_now other took took_now same left =
    ap (λ (bs : List BookState). to_note bs took_now other) same
    ∙ ap (λ (items : List RingItem). calls_pushed other books - length (calls_in items) + min 1 (lost_of other books - reported_of other took_now.reported)) left.calls
    ∙ ap (λ (n : ℕ). calls_left books took other + min 1 (lost_of other books - n)) left.losses

claims_else : (books books_now : List BookState) (other : ℕ) (took took_now : Took) → books_now ≡ books → IsLeft other took took_now → claims_left books_now took_now other ≡ claims_left books took other
claims_else books books_now other took took_now same left =
    ap (λ (bs : List BookState). claims_left bs took_now other) same ∙ ap (λ (items : List RingItem). claims_pushed other books - length (claims_in items)) left.calls

-- what is to be noted of later applications stays
pub from_else : (books books_now : List BookState) (app more first : ℕ) (took took_now : Took) → books_now ≡ books → app < first → ((other : ℕ) → other ≢ app → IsLeft other took took_now)
    → to_note_from books_now took_now first more ≡ to_note_from books took first more
from_else books books_now app zero first took took_now same above left = refl
from_else books books_now app (suc more) first took took_now same above left =
    let here : to_note books_now took_now first ≡ to_note books took first = note_else books books_now first took took_now same (left first (λ e. absurd (omega (arith, above, e)))) in
    let later : to_note_from books_now took_now (first + 1) more ≡ to_note_from books took (first + 1) more = from_else books books_now app more (first + 1) took took_now same (omega (arith, above)) left in
    omega (arith, here, later)

claims_from_else : (books books_now : List BookState) (app more first : ℕ) (took took_now : Took) → books_now ≡ books → app < first → ((other : ℕ) → other ≢ app → IsLeft other took took_now)
    → claims_left_from books_now took_now first more ≡ claims_left_from books took first more
claims_from_else books books_now app zero first took took_now same above left = refl
claims_from_else books books_now app (suc more) first took took_now same above left =
    let here : claims_left books_now took_now first ≡ claims_left books took first = claims_else books books_now first took took_now same (left first (λ e. absurd (omega (arith, above, e)))) in
    let later : claims_left_from books_now took_now (first + 1) more ≡ claims_left_from books took (first + 1) more = claims_from_else books books_now app more (first + 1) took took_now same (omega (arith, above)) left in
    omega (arith, here, later)

pub claims_first_of : (books : List BookState) (took : Took) (app many : ℕ) → app < many
    → claims_left_from books took app (many - app) ≡ claims_left books took app + claims_left_from books took (app + 1) (many - (app + 1))
claims_first_of books took app many below =
    let one : many - app ≡ suc (many - (app + 1)) = omega (arith, below) in
    ap (claims_left_from books took app) one

pub first_of : (books : List BookState) (took : Took) (app many : ℕ) → app < many → to_note_from books took app (many - app) ≡ to_note books took app + to_note_from books took (app + 1) (many - (app + 1))
first_of books took app many below =
    let one : many - app ≡ suc (many - (app + 1)) = omega (arith, below) in
    ap (to_note_from books took app) one

-- ---- one application more

pub first_more : (specs : List AppSpec) (app : ℕ) (old next new : Side) → DrainsFirst specs app old next → DrainsApp specs app next new → DrainsFirst specs (app + 1) old new
first_more specs app old next new before drains =
    let more : suc app ≡ app + 1 = omega arith in subst (λ (n : ℕ). DrainsFirst specs n old new) more (next, before, drains)

-- it stays so of the applications before it
pub drained_more : (specs : List AppSpec) (app : ℕ) (old new : Side) (was now : ClosingState) → DrainsApp specs app old new → old.took ≡ closing_took was → new.took ≡ closing_took now → SameButTaken was now
    → IsEmpty now app → IsTold now app → ((n : ℕ) → n < app → IsEmpty was n × IsTold was n) → (n : ℕ) → n < app + 1 → IsEmpty now n × IsTold now n
drained_more specs app old new was now drains from to same empty told before n below = elim (eqb_tells n app) [
  | inl this ↦ subst (λ (k : ℕ). IsEmpty now k × IsTold now k) (sym this.1) (empty, told)
  | inr other ↦
      let left = app_else specs app n old new other.1 drains in
      let so = before n (omega (arith, below, other.1)) in
      let books = ap (λ (s : ClosingState). s.books) same in (
        ap (λ (t : Took). length (t.taken n)) (sym to) ∙ ap (λ (xs : List RingItem). length xs) left.calls ∙ ap (λ (t : Took). length (t.taken n)) from ∙ so.0 ∙ ap (items_pushed_of n) (sym books),
        ap (λ (t : Took). reported_of n t.reported) (sym to) ∙ left.losses ∙ ap (λ (t : Took). reported_of n t.reported) from ∙ so.1 ∙ ap (lost_of n) (sym books),
      )
]

-- and what is to be noted of those behind it
pub enough_more : (specs : List AppSpec) (app many left left_now : ℕ) (old new : Side) (was now : ClosingState) → DrainsApp specs app old new → old.took ≡ closing_took was → new.took ≡ closing_took now → SameButTaken was now
    → app < many → to_note_from was.books (closing_took was) app (many - app) ≤ left → left_now + to_note was.books (closing_took was) app ≡ left
    → to_note_from now.books (closing_took now) (app + 1) (many - (app + 1)) ≤ left_now
enough_more specs app many left left_now old new was now drains from to same below enough used =
    let later : to_note_from now.books (closing_took now) (app + 1) (many - (app + 1)) ≡ to_note_from was.books (closing_took was) (app + 1) (many - (app + 1)) =
    from_else was.books now.books app (many - (app + 1)) (app + 1) (closing_took was) (closing_took now) (ap (λ (s : ClosingState). s.books) same) (omega arith)
    (λ other apart. subst (λ (t : Took). IsLeft other (closing_took was) t) to (subst (λ (t : Took). IsLeft other t new.took) from (app_else specs app other old new apart drains))) in
    omega (arith, later, first_of was.books (closing_took was) app many below, enough, used)

pub claims_more : (specs : List AppSpec) (app many left left_now : ℕ) (old new : Side) (was now : ClosingState) → DrainsApp specs app old new → old.took ≡ closing_took was → new.took ≡ closing_took now → SameButTaken was now
    → app < many → claims_left_from was.books (closing_took was) app (many - app) ≤ left → left_now + claims_left was.books (closing_took was) app ≡ left
    → claims_left_from now.books (closing_took now) (app + 1) (many - (app + 1)) ≤ left_now
claims_more specs app many left left_now old new was now drains from to same below enough used =
    let later : claims_left_from now.books (closing_took now) (app + 1) (many - (app + 1)) ≡ claims_left_from was.books (closing_took was) (app + 1) (many - (app + 1)) =
    claims_from_else was.books now.books app (many - (app + 1)) (app + 1) (closing_took was) (closing_took now) (ap (λ (s : ClosingState). s.books) same) (omega arith)
    (λ other apart. subst (λ (t : Took). IsLeft other (closing_took was) t) to (subst (λ (t : Took). IsLeft other t new.took) from (app_else specs app other old new apart drains))) in
    omega (arith, later, claims_first_of was.books (closing_took was) app many below, enough, used)
