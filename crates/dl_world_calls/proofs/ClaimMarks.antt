-- The claims of one writer, and of one application, after one mark more.
use Rattle.std.proofs.Common.{◌≡◌, ℕ, zero, suc, ◌+◌, ◌-◌, ◌≤◌, Bool, true, false, cond, eqb, get_or, List, [], ◌∷◌, ◌++◌, length, length-append, take, Some, refl, sym, ap, subst, ◌∙◌, arith}
use Rattle.std.specs.Prelude.{slice_get}
use Rattle.std.specs.List.{filter, filter_map, AllByRecursion}
use Rattle.std.proofs.lemmas.List.{append-nil, take-append-le}
use Rattle.std.proofs.lemmas.List.Elements.{filter-append, filter_map-append}
use Rattle.std.proofs.lemmas.Option.{slice_get_within}
use Rattle.dl_lemmas.proofs.Lists.{take_next}
use Rattle.dl_bytes.specs.Claim.{Claimed}
use Rattle.dl_script_model.specs.Marks.{Mark, HasClaim, Announced, claim_of, announced_of, claims_of, claims_on, announced_by, to_announce}
use Rattle.dl_runs.proofs.Founded.{kept-passes}
use Rattle.dl_world_calls.specs.State.{App, Writer}
use Rattle.dl_world_calls.specs.Follows.{no_app, writer_at, IsClaimerAfter}

-- ---- words of claims, with one mark more

abbrev by_writer : ℕ → Claimed → Bool
by_writer number c = eqb c.writer number

abbrev on_app : ℕ → Claimed → Bool
on_app number c = eqb c.app number

claims-one : (number : ℕ) (done : List Mark) (mark : Mark) → claims_of number (done ++ mark ∷ []) ≡ claims_of number done ++ filter (by_writer number) (filter_map claim_of (mark ∷ []))
claims-one number done mark = ap (filter (by_writer number)) (filter_map-append claim_of done (mark ∷ [])) ∙ filter-append (by_writer number) (filter_map claim_of done) (filter_map claim_of (mark ∷ []))

announced-one : (number : ℕ) (done : List Mark) (mark : Mark) → announced_by number (done ++ mark ∷ []) ≡ announced_by number done ++ filter (by_writer number) (filter_map announced_of (mark ∷ []))
announced-one number done mark = ap (filter (by_writer number)) (filter_map-append announced_of done (mark ∷ [])) ∙ filter-append (by_writer number) (filter_map announced_of done) (filter_map announced_of (mark ∷ []))

on-one : (number : ℕ) (done : List Mark) (mark : Mark) → claims_on number (done ++ mark ∷ []) ≡ claims_on number done ++ filter (on_app number) (filter_map claim_of (mark ∷ []))
on-one number done mark = ap (filter (on_app number)) (filter_map-append claim_of done (mark ∷ [])) ∙ filter-append (on_app number) (filter_map claim_of done) (filter_map claim_of (mark ∷ []))

-- ---- a mark that is no claim

pub record IsStill (mark : Mark) : Type 0 where
  pub no_claim : filter_map claim_of (mark ∷ []) ≡ []
  pub no_announcement : filter_map announced_of (mark ∷ []) ≡ []

claims-still : (number : ℕ) (done : List Mark) (mark : Mark) → filter (by_writer number) (filter_map claim_of (mark ∷ [])) ≡ [] → claims_of number (done ++ mark ∷ []) ≡ claims_of number done
claims-still number done mark e = claims-one number done mark ∙ ap (λ (cs : List Claimed). claims_of number done ++ cs) e ∙ append-nil (claims_of number done)

announced-still : (number : ℕ) (done : List Mark) (mark : Mark) → filter (by_writer number) (filter_map announced_of (mark ∷ [])) ≡ [] → announced_by number (done ++ mark ∷ []) ≡ announced_by number done
announced-still number done mark e = announced-one number done mark ∙ ap (λ (cs : List Claimed). announced_by number done ++ cs) e ∙ append-nil (announced_by number done)

claimer-stays : (done : List Mark) (number : ℕ) (writer : Writer) (mark : Mark) → filter (by_writer number) (filter_map claim_of (mark ∷ [])) ≡ [] → filter (by_writer number) (filter_map announced_of (mark ∷ [])) ≡ []
    → IsClaimerAfter done number writer → IsClaimerAfter (done ++ mark ∷ []) number writer
claimer-stays done number writer mark no_claim no_announcement is = record {
  claims_are = claims-still number done mark no_claim ∙ is.claims_are;
  own = is.own;
  announced_are = announced-still number done mark no_announcement ∙ is.announced_are;
  announced_at_most = is.announced_at_most;
}

-- a writer whose claims are those of another one
pub record AreKept (new old : Writer) : Type 0 where
  pub claims_is : new.claims ≡ old.claims
  pub announced_is : new.announced ≡ old.announced
  pub app_is : new.app ≡ old.app

claimer-kept : (done : List Mark) (number : ℕ) (new old : Writer) → AreKept new old → IsClaimerAfter done number old → IsClaimerAfter done number new
claimer-kept done number new old kept is = record {
  claims_are = is.claims_are ∙ sym kept.claims_is;
  own = rw (kept.claims_is, kept.app_is) is.own;
  announced_are = rw (kept.claims_is, kept.announced_is) is.announced_are;
  announced_at_most = rw (kept.claims_is, kept.announced_is) is.announced_at_most;
}

-- all writers, where a mark is no claim and their claims are as they were
pub claimers-stay : (done : List Mark) (mark : Mark) (old new : List Writer) → IsStill mark → ((k : ℕ) → IsClaimerAfter done k (writer_at old k)) → ((k : ℕ) → AreKept (writer_at new k) (writer_at old k)) →
    (k : ℕ) → IsClaimerAfter (done ++ mark ∷ []) k (writer_at new k)
claimers-stay done mark old new still is kept k =
    claimer-kept (done ++ mark ∷ []) k (writer_at new k) (writer_at old k) (kept k)
    (claimer-stays done k (writer_at old k) mark (ap (filter (by_writer k)) still.no_claim) (ap (filter (by_writer k)) still.no_announcement) (is k))

-- all applications, likewise
pub claimed-stay : (done : List Mark) (mark : Mark) (old new : List App) → filter_map claim_of (mark ∷ []) ≡ [] → ((k : ℕ) → length (claims_on k done) ≡ (get_or old k no_app).claimed) → ((k : ℕ) → (get_or new k no_app).claimed ≡ (get_or old k no_app).claimed) →
    (k : ℕ) → length (claims_on k (done ++ mark ∷ [])) ≡ (get_or new k no_app).claimed
claimed-stay done mark old new none is kept k =
    let same : claims_on k (done ++ mark ∷ []) ≡ claims_on k done = on-one k done mark ∙ ap (λ (cs : List Claimed). claims_on k done ++ filter (on_app k) cs) none ∙ append-nil (claims_on k done) in
    ap length same ∙ is k ∙ sym (kept k)

pub same_kept : (writer : Writer) → AreKept writer writer
same_kept writer = record { claims_is = refl; announced_is = refl; app_is = refl }

-- ---- a claim is made

all-snoc : (P : Claimed → Type 0) (cs : List Claimed) (c : Claimed) → AllByRecursion P cs → P c → AllByRecursion P (cs ++ c ∷ [])
all-snoc P [] c all one = (one, tt)
all-snoc P (d ∷ cs) c all one = (all.0, all-snoc P cs c all.1 one)

pub claimer-claims : (done : List Mark) (number : ℕ) (writer : Writer) (c : Claimed) → eqb c.writer number ≡ true → c.app ≡ writer.app → IsClaimerAfter done number writer
    → IsClaimerAfter (done ++ HasClaim c ∷ []) number (record writer { claims = writer.claims ++ c ∷ [] })
claimer-claims done number writer c e own is = record {
  claims_are = claims-one number done (HasClaim c) ∙ rw (e, is.claims_are) refl;
  own = all-snoc (λ (claim : Claimed). claim.app ≡ writer.app) writer.claims c is.own own;
  announced_are = announced-still number done (HasClaim c) refl ∙ is.announced_are ∙ sym (take-append-le writer.announced writer.claims (c ∷ []) is.announced_at_most);
  announced_at_most = omega (arith, is.announced_at_most, length-append writer.claims (c ∷ []));
}

pub claimer-apart : (done : List Mark) (number : ℕ) (writer : Writer) (c : Claimed) → eqb c.writer number ≡ false → IsClaimerAfter done number writer → IsClaimerAfter (done ++ HasClaim c ∷ []) number writer
claimer-apart done number writer c e is = claimer-stays done number writer (HasClaim c) (ap (λ (b : Bool). cond b (c ∷ []) []) e) refl is

-- how many claims of an application there are with one more
pub claimed-more : (number : ℕ) (done : List Mark) (c : Claimed) → length (claims_on number (done ++ HasClaim c ∷ [])) ≡ length (claims_on number done) + cond (eqb c.app number) 1 0
claimed-more number done c =
    ap length (on-one number done (HasClaim c)) ∙ length-append (claims_on number done) (filter (on_app number) (filter_map claim_of (HasClaim c ∷ [])))
    ∙ ap (λ (n : ℕ). length (claims_on number done) + n) (by_test (eqb c.app number)) where
      by_test : (b : Bool) → length (cond b (c ∷ []) []) ≡ cond b 1 0
      by_test true = refl
      by_test false = refl

-- ---- a claim is announced

pub claimer-announces : (done : List Mark) (number : ℕ) (writer : Writer) (c : Claimed) → eqb c.writer number ≡ true → slice_get writer.claims writer.announced ≡ Some c → IsClaimerAfter done number writer
    → IsClaimerAfter (done ++ Announced c ∷ []) number (record writer { announced = writer.announced + 1 })
claimer-announces done number writer c e first is = record {
  claims_are = claims-still number done (Announced c) refl ∙ is.claims_are;
  own = is.own;
  announced_are = announced-one number done (Announced c) ∙ rw (e, is.announced_are) (sym (take_next writer.claims writer.announced c first));
  announced_at_most = let within = slice_get_within writer.claims writer.announced c first in omega (arith, within);
}

pub announced-apart : (done : List Mark) (number : ℕ) (writer : Writer) (c : Claimed) → eqb c.writer number ≡ false → IsClaimerAfter done number writer → IsClaimerAfter (done ++ Announced c ∷ []) number writer
announced-apart done number writer c e is = claimer-stays done number writer (Announced c) refl (ap (λ (b : Bool). cond b (c ∷ []) []) e) is

-- ---- the first that waits

taken_length : (n : ℕ) (cs : List Claimed) → n ≤ length cs → length (take n cs) ≡ n
taken_length zero cs le = refl
taken_length (suc n) [] le = absurd (omega (arith, le))
taken_length (suc n) (c ∷ cs) le = ap suc (taken_length n cs (omega (arith, le)))

-- what a writer made, and how much of it was announced, told by the marks
pub first_waiting : (done : List Mark) (number : ℕ) (writer : Writer) → IsClaimerAfter done number writer → slice_get (claims_of number done) (length (announced_by number done)) ≡ slice_get writer.claims writer.announced
first_waiting done number writer is =
    let count : length (announced_by number done) ≡ writer.announced = ap length is.announced_are ∙ taken_length writer.announced writer.claims is.announced_at_most in
    ap (λ (cs : List Claimed). slice_get cs (length (announced_by number done))) is.claims_are ∙ ap (slice_get writer.claims) count

pub how_many_wait : (done : List Mark) (number : ℕ) (writer : Writer) → IsClaimerAfter done number writer → length (claims_of number done) - length (announced_by number done) ≡ length writer.claims - writer.announced
how_many_wait done number writer is =
    let count : length (announced_by number done) ≡ writer.announced = ap length is.announced_are ∙ taken_length writer.announced writer.claims is.announced_at_most in
    let made : length (claims_of number done) ≡ length writer.claims = ap length is.claims_are in
    omega (arith, count, made)

-- what holds of all claims holds of one of them
pub own_in : (P : Claimed → Type 0) (cs : List Claimed) (i : ℕ) (c : Claimed) → AllByRecursion P cs → slice_get cs i ≡ Some c → P c
own_in P [] i c all e = absurd cc
own_in P (d ∷ cs) zero c all e = let same : d ≡ c = cc in subst P same all.0
own_in P (d ∷ cs) (suc i) c all e = own_in P cs i c all.1 e

-- the first that waits is one of its writer
pub own_waiting : (done : List Mark) (number : ℕ) (c : Claimed) → to_announce number done ≡ Some c → eqb c.writer number ≡ true
own_waiting done number c e = kept-passes (by_writer number) (filter_map claim_of done) (length (announced_by number done)) c e
