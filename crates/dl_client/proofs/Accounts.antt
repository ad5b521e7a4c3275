-- Accounts one after the other, and what they leave.
use Rattle.std.proofs.Common.{Bool, List, false, inr, true, Some, [], ap, length, refl, slice_get, subst, sym, ℕ, zero, suc, add-zero, arith, ◌++◌, ◌+◌, ◌<◌, ◌∙◌, ◌∷◌, ◌≡◌}
use Rattle.std.specs.Prelude.{slice_set}
use Rattle.dl_lemmas.proofs.Lists.{set_again, set_here, there}
use Rattle.dl_lemmas.proofs.Options.{one_is}
use Rattle.dl_user.specs.Layout.{user_message}
use Rattle.dl_client.specs.Outcomes.{At, CountsAreFull, Ends, IsDecided, IsLogged, IsToldAt, NoneLostBelow, OnlyAccounts, filters}
use Rattle.dl_client.specs.Program.{AreAccounts, Does, Filters, IsTold, Loses, Opens, Program, Queues, Runs, Step, Tells, one_filtered, opened, registration, told, with_bytes, with_context}
use Rattle.dl_client.specs.Seen.{IsSame, seen}
use Rattle.dl_client.specs.declared.client.Client.{Client}
use Rattle.dl_client.specs.declared.context.Call.{Call}
use Rattle.dl_client.specs.declared.context.Context.{Context}
use Rattle.dl_client.specs.declared.context.Opening.{Opening}
use Rattle.dl_client.specs.declared.outcome.Logged.{Logged}
use Rattle.dl_client.specs.declared.outcome.Logged.TheVariants.{Filtered, Lost, Queued, Refused}
use Rattle.dl_client.proofs.Places.{set_below}

runs_both : (xs ys : List Step) (a b c : Program) → Runs a xs b → Runs b ys c → Runs a (xs ++ ys) c
runs_both [] ys a b c first second = subst (λ (p : Program). Runs p ys c) (sym first) second
runs_both (x ∷ xs) ys a b c first second = (first.0, first.1, runs_both xs ys first.0 b c first.2 second)

accounts_both : (xs ys : List Step) → AreAccounts xs → AreAccounts ys → AreAccounts (xs ++ ys)
accounts_both [] ys first second = second
accounts_both (Tells place context number ticks ∷ xs) ys first second = accounts_both xs ys first second
accounts_both (step ∷ xs) ys first second = absurd first

pub only_both : (a b c : Client) → OnlyAccounts a b → OnlyAccounts b c → OnlyAccounts a c
only_both a b c first second = (
  first.0 ++ second.0,
  accounts_both first.0 second.0 first.1 second.1,
  λ (taken : List ℕ). runs_both first.0 second.0 (seen a taken) (seen b taken) (seen c taken) (first.2 taken) (second.2 taken),
)

pub ends_after : (a b c : Client) (step : Step) → OnlyAccounts a b → ((taken : List ℕ) → Does (seen b taken) step (seen c taken)) → Ends a step c
ends_after a b c step first does = (
  first.0,
  first.1,
  λ (taken : List ℕ). runs_both first.0 (step ∷ []) (seen a taken) (seen b taken) (seen c taken) (first.2 taken) (seen c taken, does taken, refl),
)

pub only_same : (a b : Client) → IsSame a b → OnlyAccounts a b
only_same a b same = ([], tt, λ (taken : List ℕ). sym (same taken))

pub ends_at_once : (a c : Client) (step : Step) → ((taken : List ℕ) → Does (seen a taken) step (seen c taken)) → Ends a step c
ends_at_once a c step does = ([], tt, λ (taken : List ℕ). (seen c taken, does taken, refl))

pub only_one : (a b : Client) (place : ℕ) (context : Context) (number ticks : ℕ)
    → ((taken : List ℕ) → Does (seen a taken) (Tells place context number ticks) (seen b taken)) → OnlyAccounts a b
only_one a b place context number ticks does =
    (Tells place context number ticks ∷ [], tt, λ (taken : List ℕ). (seen b taken, does taken, refl))

pub told_below : (a b : Client) (place : ℕ) (context : Context) (number ticks : ℕ)
    → ((taken : List ℕ) → Does (seen a taken) (Tells place context number ticks) (seen b taken))
    → NoneLostBelow place a.contexts.now → NoneLostBelow (place + 1) b.contexts.now
told_below a b place context number ticks does below =
    let one = does [] in
    let e : b.contexts.now ≡ slice_set a.contexts.now place (told context) = ap (λ (p : Program). p.contexts) one.2 in
    subst (λ (xs : List Context). NoneLostBelow (place + 1) xs) (sym e) (set_below a.contexts.now place context (told context) one.0 refl below)

pub told_here : (a b : Client) (place : ℕ) (context : Context) (number ticks : ℕ)
    → ((taken : List ℕ) → Does (seen a taken) (Tells place context number ticks) (seen b taken)) → IsToldAt b.contexts.now place
told_here a b place context number ticks does found is =
    let one = does [] in
    let e : b.contexts.now ≡ slice_set a.contexts.now place (told context) = ap (λ (p : Program). p.contexts) one.2 in
    let here : slice_get (slice_set a.contexts.now place (told context)) place ≡ Some found = subst (λ (xs : List Context). slice_get xs place ≡ Some found) e is in
    let same : told context ≡ found = one_is (told context) found (slice_get (slice_set a.contexts.now place (told context)) place)
    (set_here a.contexts.now place context (told context) one.0) here in
    subst (λ (x : Context). IsTold x) same (refl, refl, refl)

-- an account was told, or nothing was done
pub told_or_same : (b : Bool) (old new : Client) (place : ℕ) (context : Context) (number ticks : ℕ)
    → (b ≡ true → (taken : List ℕ) → Does (seen old taken) (Tells place context number ticks) (seen new taken)) → (b ≡ false → IsSame old new)
    → OnlyAccounts old new
told_or_same true old new place context number ticks told same = only_one old new place context number ticks (told refl)
told_or_same false old new place context number ticks told same = only_same old new (same refl)

-- a call is decided behind accounts
pub logged_after : (result : Logged) (place : ℕ) (call : Call) (payload : List ℕ) (a b c : Client) → OnlyAccounts a b
    → IsDecided result place call payload b c → IsLogged result place call payload a c
logged_after Filtered place call payload a b c only d = (d.0, ends_after a b c (Filters place d.0 call.severity) only d.1)
logged_after Queued place call payload a b c only d = (d.0, ends_after a b c (Queues place d.0 call payload) only d.1)
logged_after Lost place call payload a b c only d = (d.0, ends_after a b c (Loses place d.0 call payload) only d.1)
logged_after Refused place call payload a b c only d =
    let same : c.contexts.now ≡ b.contexts.now = ap (λ (p : Program). p.contexts) (d.0 []) in
    (only_both a b c only (only_same b c d.0), inr (inr (subst (λ (xs : List Context). At xs place CountsAreFull) (sym same) d.1)))

-- a context is registered behind accounts
pub opens_after : (a b d e : Client) (place : ℕ) (opening : Opening) → place < length b.contexts.now → OnlyAccounts a b → IsToldAt b.contexts.now place
    → ((taken : List ℕ) → seen d taken ≡ with_bytes (seen b taken) (user_message (registration place (opened opening) opening.own opening.pid opening.text.now)))
    → ((taken : List ℕ) → seen e taken ≡ with_context (seen d taken) place (opened opening))
    → Ends a (Opens place (opened opening) opening.own opening.pid opening.text.now) e
opens_after a b d e place opening within only is_told pushed set =
    let before = there b.contexts.now place within in
    ends_after a b e (Opens place (opened opening) opening.own opening.pid opening.text.now) only (λ (taken : List ℕ). (
      before.0,
      before.1,
      is_told before.0 before.1,
      (refl, refl, refl),
      set taken ∙ ap (λ (p : Program). with_context p place (opened opening)) (pushed taken),
    ))

set_twice : (xs : List Context) (i : ℕ) (a b : Context) → slice_set (slice_set xs i a) i b ≡ slice_set xs i b
set_twice [] i a b = refl
set_twice (x ∷ xs) zero a b = refl
set_twice (x ∷ xs) (suc i) a b = ap (λ (ys : List Context). x ∷ ys) (set_twice xs i a b)

abbrev more_filtered : Context → ℕ → Context
more_filtered c count = record c { filtered = c.filtered + count }

pub runs_filters : (count : ℕ) (p : Program) (place : ℕ) (c : Context) → slice_get p.contexts place ≡ Some c
    → Runs p (filters place c count) (with_context p place (record c { filtered = c.filtered + count }))
runs_filters zero p place c at =
    let none : more_filtered c 0 ≡ c = ap (λ (n : ℕ). record c { filtered = n }) (add-zero c.filtered) in
    sym (ap (with_context p place) none ∙ ap (λ (xs : List Context). record p { contexts = xs }) (set_again p.contexts place c at))
runs_filters (suc count) p place c at =
    let one = with_context p place (one_filtered c) in
    let more : c.filtered + 1 + count ≡ c.filtered + suc count = omega arith in
    let last : with_context one place (more_filtered (one_filtered c) count) ≡ with_context p place (more_filtered c (suc count)) =
    ap (λ (xs : List Context). record p { contexts = xs }) (set_twice p.contexts place (one_filtered c) (more_filtered (one_filtered c) count))
    ∙ ap (λ (n : ℕ). with_context p place (record c { filtered = n })) more in (
      one,
      (at, omega arith, refl),
      subst (λ (q : Program). Runs one (filters place (one_filtered c) count) q) last
          (runs_filters count one place (one_filtered c) (set_here p.contexts place c (one_filtered c) at)),
    )
