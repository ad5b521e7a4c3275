-- Messages noted one after the other.
use Rattle.std.proofs.Common.{◌≡◌, ℕ, zero, suc, ◌+◌, List, [], ◌∷◌, ◌++◌, length, take, drop, Some, Result, Ok, Err, refl, sym, ap, subst, ◌∙◌, append_assoc, arith}
use Rattle.std.specs.Prelude.{slice_get, OnErr}
use Rattle.std.specs.List.{AllByRecursion, sum_by}
use Rattle.std.proofs.Math.Seq.{take-length}
use Rattle.std.proofs.lemmas.List.{append-nil}
use Rattle.std.proofs.lemmas.List.Sums.{sum_by-cons}
use Rattle.std.proofs.lemmas.Option.{get_or_from_slice_get, slice_get_within}
use Rattle.dl_lemmas.proofs.Lists.{item_here}
use Rattle.dl_bytes.specs.declared.moment.Moment.{Moment}
use Rattle.dl_bytes.specs.declared.user.UserMsg.{UserMsg}
use Rattle.dl_bytes.specs.declared.user.UserMsg.TheVariants.{Log, RegisterApp, UnregisterApp, RegisterContext, UnregisterContext, LogLevel, Injection, Overflow}
use Rattle.dl_desk.specs.Apps.{AppState}
use Rattle.dl_turns.specs.State.{Side}
use Rattle.dl_rounds.specs.Greetings.{Greets, GreetsEach, GreetsFirst, IsContext, IsIntroduced, IsRegistration, apps_in, hello_of}

pub each_both : (moment : Moment) (first second : List UserMsg) (a b c : Side) → GreetsEach moment first a b → GreetsEach moment second b c → GreetsEach moment (first ++ second) a c
each_both moment [] second a b c one two = subst (λ (s : Side). GreetsEach moment second s c) one two
each_both moment (msg ∷ first) second a b c one two = (one.0, one.1, each_both moment first second one.0 b c one.2 two)

pub each_one : (moment : Moment) (done : List UserMsg) (msg : UserMsg) (a b c : Side) → GreetsEach moment done a b → Greets moment msg b c → GreetsEach moment (done ++ msg ∷ []) a c
each_one moment done msg a b c one greets = each_both moment done (msg ∷ []) a b c one (c, greets, refl)

-- those before a place, and from it on
pub parted : {A : Type 0} (xs : List A) (k : ℕ) → xs ≡ take k xs ++ drop k xs
parted [] zero = refl
parted [] (suc k) = refl
parted (x ∷ xs) zero = refl
parted (x ∷ xs) (suc k) = ap (λ (ys : List _). x ∷ ys) (parted xs k)

pub first_of : (moment : Moment) (msgs : List UserMsg) (k : ℕ) (a b : Side) → GreetsEach moment (take k msgs) a b → GreetsFirst moment msgs a b
first_of moment msgs k a b done = (take k msgs, drop k msgs, parted msgs k, done)

-- ---- the messages of an application

contexts_register : (msgs : List UserMsg) → AllByRecursion IsContext msgs → AllByRecursion IsRegistration msgs × (sum_by apps_in msgs ≡ 0)
contexts_register [] all = (tt, refl)
contexts_register (Log message ∷ msgs) all = absurd all.0
contexts_register (RegisterApp apid pid text ∷ msgs) all = absurd all.0
contexts_register (UnregisterApp apid pid ∷ msgs) all = absurd all.0
contexts_register (RegisterContext apid ctid position level trace pid text ∷ msgs) all =
    let rest = contexts_register msgs all.1 in
    ((tt, rest.0), omega (arith, rest.1, sum_by-cons apps_in (RegisterContext apid ctid position level trace pid text) msgs))
contexts_register (UnregisterContext apid ctid pid ∷ msgs) all = absurd all.0
contexts_register (LogLevel level trace position ∷ msgs) all = absurd all.0
contexts_register (Injection position service body ∷ msgs) all = absurd all.0
contexts_register (Overflow counter apid ∷ msgs) all = absurd all.0

pub introduced : (app : AppState) → IsIntroduced app → AllByRecursion IsRegistration app.hello × (sum_by apps_in app.hello ≡ 1)
introduced app is =
    let rest = contexts_register is.contexts is.are_contexts in
    subst (λ (msgs : List UserMsg). AllByRecursion IsRegistration msgs × (sum_by apps_in msgs ≡ 1)) (sym is.hello)
    ((tt, rest.0), omega (arith, rest.1, sum_by-cons apps_in (RegisterApp is.apid is.pid is.text) is.contexts))

-- ---- the messages of all applications

pub hello_both : (first second : List AppState) → hello_of (first ++ second) ≡ hello_of first ++ hello_of second
hello_both [] second = refl
hello_both (app ∷ first) second = ap (λ (ms : List UserMsg). app.hello ++ ms) (hello_both first second) ∙ sym (append_assoc app.hello (hello_of first) (hello_of second))

pub apps_parted : (apps : List AppState) (place : ℕ) (app : AppState) → slice_get apps place ≡ Some app
    → (take (place + 1) apps ≡ take place apps ++ app ∷ []) × (drop place apps ≡ app ∷ drop (place + 1) apps)
apps_parted apps place app is = item_here apps place app (slice_get_within apps place app is) (sym (get_or_from_slice_get apps place app app is))

pub hello_one : (moment : Moment) (apps : List AppState) (place : ℕ) (app : AppState) (a b c : Side) → slice_get apps place ≡ Some app → GreetsEach moment (hello_of (take place apps)) a b
    → GreetsEach moment app.hello b c → GreetsEach moment (hello_of (take (place + 1) apps)) a c
hello_one moment apps place app a b c is one two =
    let same : hello_of (take (place + 1) apps) ≡ hello_of (take place apps) ++ app.hello =
    ap hello_of (apps_parted apps place app is).0 ∙ hello_both (take place apps) (app ∷ []) ∙ ap (λ (ms : List UserMsg). hello_of (take place apps) ++ ms) (append-nil app.hello) in
    subst (λ (ms : List UserMsg). GreetsEach moment ms a c) (sym same) (each_both moment (hello_of (take place apps)) app.hello a b c one two)

pub hello_first : (moment : Moment) (apps : List AppState) (place : ℕ) (app : AppState) (a b c : Side) → slice_get apps place ≡ Some app → GreetsEach moment (hello_of (take place apps)) a b
    → GreetsFirst moment app.hello b c → GreetsFirst moment (hello_of apps) a c
hello_first moment apps place app a b c is one two =
    let before = hello_of (take place apps) in
    let after = hello_of (drop (place + 1) apps) in
    let all : hello_of apps ≡ before ++ (app.hello ++ after) =
    ap hello_of (parted apps place) ∙ hello_both (take place apps) (drop place apps) ∙ ap (λ (xs : List AppState). before ++ hello_of xs) (apps_parted apps place app is).1 in (
      before ++ two.0,
      two.1 ++ after,
      all ∙ ap (λ (ms : List UserMsg). before ++ (ms ++ after)) two.2 ∙ ap (λ (ms : List UserMsg). before ++ ms) (append_assoc two.0 two.1 after) ∙ sym (append_assoc before two.0 (two.1 ++ after)),
      each_both moment before two.0 a b c one two.3,
    )

pub on_err : {T E : Type 0} (P : Type 0) (r : Result T E) → P → OnErr r P
on_err P (Ok x) is = tt
on_err P (Err e) is = is
