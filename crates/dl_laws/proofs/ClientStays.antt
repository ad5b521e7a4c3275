-- In a well-formed journal a client comes once and goes once.
use Rattle.std.proofs.Common.{◌≡◌, ℕ, ◌+◌, ◌<◌, ◌≤◌, Bool, true, false, cond, List, [], ◌∷◌, ◌++◌, Option, Some, None, refl, sym, ap, subst, ◌∙◌, append_assoc, arith, inl, inr}
use Rattle.std.specs.Prelude.{count_by, reverse, find, ◌||◌, ◌⊎◌}
use Rattle.std.specs.List.{list_any}
use Rattle.std.specs.Option.{option_map_or, option_or}
use Rattle.std.proofs.lemmas.Bool.{eq-eqb, ne_eqb, eqb-true, cases_lt, or_parts, or_from}
use Rattle.std.proofs.lemmas.List.{append-nil, reverse-append}
use Rattle.std.proofs.lemmas.List.Folds.{list_any-append, find-append}
use Rattle.dl_events.specs.declared.event.Event.{Event}
use Rattle.dl_events.specs.declared.event.Event.TheVariants as event
use Rattle.dl_events.specs.declared.event.Why.{Why}
use Rattle.dl_model.specs.Along.{last_that}
use Rattle.dl_model.specs.Setting.{Setting}
use Rattle.dl_model.specs.Frames.{FrameSource}
use Rattle.dl_model.specs.Journal.{is_connect, comes_or_goes, IsOpen, IsInTurn, AreInTurn, IsWellFormed}
use Rattle.dl_model.proofs.Lists.{last_that-one, count_by-append, find-passes}

-- what an event may say of clients, after those before it
abbrev pub Speaks : List Event → Event → Type 0
Speaks before (event.Connect client) = client ≡ 1 + count_by is_connect before
Speaks before (event.Close client cause) = IsOpen client before
Speaks before _ = Unit {0}

abbrev pub AllSpeak : List Event → List Event → Type 0
AllSpeak before [] = Unit {0}
AllSpeak before (e ∷ events) = Speaks before e × AllSpeak (before ++ e ∷ []) events

speaks : (setting : Setting) (source : FrameSource) (before : List Event) (e : Event) (events : List Event) → IsInTurn setting source before e events → Speaks before e
speaks setting source before (event.Connect client) events turn = turn.number
speaks setting source before (event.Close client cause) events turn = turn.is_open
speaks setting source before _ events turn = tt

pub all_speak : (setting : Setting) (source : FrameSource) (before events : List Event) → AreInTurn setting source before events → AllSpeak before events
all_speak setting source before [] all = tt
all_speak setting source before (e ∷ events) all = (speaks setting source before e events all.0, all_speak setting source (before ++ e ∷ []) events all.1)

pub first_speak : (before xs ys : List Event) → AllSpeak before (xs ++ ys) → AllSpeak before xs
first_speak before [] ys all = tt
first_speak before (x ∷ xs) ys all = (all.0, first_speak (before ++ x ∷ []) xs ys all.1)

pub second_speak : (before xs ys : List Event) → AllSpeak before (xs ++ ys) → AllSpeak (before ++ xs) ys
second_speak before [] ys all = subst (λ b. AllSpeak b ys) (sym (append-nil before)) all
second_speak before (x ∷ xs) ys all = subst (λ b. AllSpeak b ys) (append_assoc before (x ∷ []) xs) (second_speak (before ++ x ∷ []) xs ys all.1)

-- ---- whether a client is open

abbrev pub opened : ℕ → List Event → Bool
opened client events = option_map_or is_connect (last_that (comes_or_goes client) events) false

pub opened-one : (client : ℕ) (events : List Event) (e : Event) → opened client (events ++ e ∷ []) ≡ cond (comes_or_goes client e) (is_connect e) (opened client events)
opened-one client events e = ap (λ (o : Option Event). option_map_or is_connect o false) (last_that-one (comes_or_goes client) events e) ∙ by_test (comes_or_goes client e) where
  by_test : (b : Bool) → option_map_or is_connect (cond b (Some e) (last_that (comes_or_goes client) events)) false ≡ cond b (is_connect e) (opened client events)
  by_test true = refl
  by_test false = refl

pub opened_is : (client : ℕ) (events : List Event) → IsOpen client events → opened client events ≡ true
opened_is client events is = ap (λ (o : Option Event). option_map_or is_connect o false) is

-- an open client came last
open_by : (client : ℕ) (o : Option Event) → ((e : Event) → o ≡ Some e → comes_or_goes client e ≡ true) → option_map_or is_connect o false ≡ true → o ≡ Some (event.Connect client)
open_by client None passes is = absurd cc
open_by client (Some (event.Connect other)) passes is = ap (λ (n : ℕ). Some (event.Connect n)) (eqb-true other client (passes (event.Connect other) refl))
open_by client (Some _) passes is = absurd cc

pub is_open_in : (client : ℕ) (events : List Event) → opened client events ≡ true → IsOpen client events
is_open_in client events is = open_by client (last_that (comes_or_goes client) events) (λ e found. find-passes (comes_or_goes client) (reverse events) e found) is

pub came_more : (before : List Event) (e : Event) → count_by is_connect (before ++ e ∷ []) ≡ count_by is_connect before + cond (is_connect e) 1 0
came_more before e = omega (arith, count_by-append is_connect before (e ∷ []))

pub true_not_false : (b : Bool) → b ≡ true → b ≡ false → ⊥
true_not_false b e f = absurd cc

-- once it is closed it stays so
pub closed_on : (client : ℕ) (before events : List Event) → AllSpeak before events → client ≤ count_by is_connect before → opened client before ≡ false →
    (list_any (comes_or_goes client) events ≡ false) × (opened client (before ++ events) ≡ false)
closed_on client before [] all was shut = (refl, ap (opened client) (append-nil before) ∙ shut)
closed_on client before (e ∷ events) all was shut =
    let says_nothing = silent e all.0 in
    let next : opened client (before ++ e ∷ []) ≡ false = opened-one client before e ∙ ap (λ (b : Bool). cond b (is_connect e) (opened client before)) says_nothing ∙ shut in
    let later = closed_on client (before ++ e ∷ []) events all.1 (omega (arith, was, came_more before e)) next in
    (or_from (comes_or_goes client e) (list_any (comes_or_goes client) events) says_nothing later.0, ap (opened client) (sym (append_assoc before (e ∷ []) events)) ∙ later.1) where
      silent : (e : Event) → Speaks before e → comes_or_goes client e ≡ false
      silent (event.Connect other) says = ne_eqb other client (λ same. omega (arith, same, says, was))
      silent (event.Close other cause) says = ne_eqb other client (λ same. true_not_false (opened client before) (ap (λ (c : ℕ). opened c before) (sym same) ∙ opened_is other before says) shut)
      silent _ says = refl

-- while it is open nothing says that it comes or goes
open_on : (client : ℕ) (before events : List Event) → AllSpeak before events → client ≤ count_by is_connect before → opened client before ≡ true → opened client (before ++ events) ≡ true →
    list_any (comes_or_goes client) events ≡ false
open_on client before [] all was there still = refl
open_on client before (e ∷ events) all was there still =
    by_test (comes_or_goes client e) refl (λ quiet. open_on client (before ++ e ∷ []) events all.1 (omega (arith, was, came_more before e))
    (opened-one client before e ∙ ap (λ (b : Bool). cond b (is_connect e) (opened client before)) quiet ∙ there)
    (ap (opened client) (append_assoc before (e ∷ []) events) ∙ still)) where
      leaves : (e : Event) → Speaks before e → comes_or_goes client e ≡ true → is_connect e ≡ false
      leaves (event.Connect other) says is = absurd (omega (arith, eqb-true other client is, says, was))
      leaves (event.Close other cause) says is = refl
      leaves _ says is = absurd cc

      by_test : (b : Bool) → comes_or_goes client e ≡ b → (comes_or_goes client e ≡ false → list_any (comes_or_goes client) events ≡ false) → (comes_or_goes client e || list_any (comes_or_goes client) events) ≡ false
      by_test true is later =
          let gone : opened client (before ++ e ∷ []) ≡ false = opened-one client before e ∙ ap (λ (b : Bool). cond b (is_connect e) (opened client before)) is ∙ leaves e all.0 is in
          let end = closed_on client (before ++ e ∷ []) events all.1 (omega (arith, was, came_more before e)) gone in
          absurd (true_not_false (opened client (before ++ (e ∷ events))) still (ap (opened client) (sym (append_assoc before (e ∷ []) events)) ∙ end.1))
      by_test false is later = or_from (comes_or_goes client e) (list_any (comes_or_goes client) events) is (later is)

-- ---- before it comes

-- no number above those that came is spoken of
abbrev pub NoneAbove : List Event → Type 0
NoneAbove before = (client : ℕ) → count_by is_connect before < client → list_any (comes_or_goes client) before ≡ false

any_reverse : (p : Event → Bool) (xs : List Event) → list_any p xs ≡ false → find p (reverse xs) ≡ None
any_reverse p [] none = refl
any_reverse p (x ∷ xs) none =
    let parts = or_parts (p x) (list_any p xs) none in
    ap (find p) (reverse-append (x ∷ []) xs) ∙ find_both p (reverse xs) (x ∷ []) (any_reverse p xs parts.1) (ap (λ (b : Bool). cond b (Some x) None) parts.0) where
      find_both : (p : Event → Bool) (xs ys : List Event) → find p xs ≡ None → find p ys ≡ None → find p (xs ++ ys) ≡ None
      find_both p xs ys first second = find-append p xs ys ∙ ap (λ (o : Option Event). option_or o (find p ys)) first ∙ second

pub none_open : (client : ℕ) (before : List Event) → list_any (comes_or_goes client) before ≡ false → IsOpen client before → ⊥
none_open client before none is =
    let never : last_that (comes_or_goes client) before ≡ None = any_reverse (comes_or_goes client) before none in
    absurd cc

pub none_above : (before events : List Event) → NoneAbove before → AllSpeak before events → NoneAbove (before ++ events)
none_above before [] above all = subst NoneAbove (sym (append-nil before)) above
none_above before (e ∷ events) above all = subst NoneAbove (append_assoc before (e ∷ []) events) (none_above (before ++ e ∷ []) events next all.1) where
  was : (other : ℕ) → IsOpen other before → (other ≤ count_by is_connect before) ⊎ (count_by is_connect before < other) → other ≤ count_by is_connect before
  was other is (inl le) = le
  was other is (inr lt) = absurd (none_open other before (above other lt) is)

  silent : (e : Event) → Speaks before e → (client : ℕ) → count_by is_connect (before ++ e ∷ []) < client → comes_or_goes client e ≡ false
  silent (event.Connect other) says client lt =
      let more : count_by is_connect (before ++ event.Connect other ∷ []) ≡ count_by is_connect before + 1 = came_more before (event.Connect other) in
      ne_eqb other client (λ same. omega (arith, same, says, more, lt))
  silent (event.Close other cause) says client lt =
      let within = was other says (swap (cases_lt (count_by is_connect before) other)) in
      ne_eqb other client (λ same. omega (arith, same, within, came_more before (event.Close other cause), lt)) where
        swap : {A B : Type 0} → A ⊎ B → B ⊎ A
        swap (inl a) = inr a
        swap (inr b) = inl b
  silent _ says client lt = refl

  next : NoneAbove (before ++ e ∷ [])
  next client lt =
      let first : list_any (comes_or_goes client) before ≡ false = above client (omega (arith, lt, came_more before e)) in
      list_any-append (comes_or_goes client) before (e ∷ []) ∙ or_from (list_any (comes_or_goes client) before) (comes_or_goes client e || false) first (or_from (comes_or_goes client e) false (silent e all.0 client lt) refl)

-- ---- a whole stay

module _ (setting : Setting) (source : FrameSource) (client : ℕ) (before events : List Event) (formed : IsWellFormed setting source (before ++ event.Connect client ∷ events)) where
  abbrev come : List Event
  come = before ++ event.Connect client ∷ []

  all : AllSpeak [] (before ++ event.Connect client ∷ events)
  all = all_speak setting source [] (before ++ event.Connect client ∷ events) formed

  from_client : AllSpeak before (event.Connect client ∷ events)
  from_client = second_speak [] before (event.Connect client ∷ events) all

  pub behind : AllSpeak come events
  behind = from_client.1

  was : client ≤ count_by is_connect come
  was =
      let more : count_by is_connect come ≡ count_by is_connect before + 1 = came_more before (event.Connect client) in
      omega (arith, from_client.0, more)

  there : opened client come ≡ true
  there = opened-one client before (event.Connect client) ∙ ap (λ (b : Bool). cond b true (opened client before)) (eq-eqb client client refl)

  pub quiet_before : list_any (comes_or_goes client) before ≡ false
  quiet_before = none_above [] before (λ c lt. refl) (first_speak [] before (event.Connect client ∷ events) all) client (omega (arith, from_client.0))

  pub quiet_while : (middle after : List Event) → events ≡ middle ++ after → opened client (come ++ middle) ≡ true → list_any (comes_or_goes client) middle ≡ false
  quiet_while middle after parts still = open_on client come middle (first_speak come middle after (subst (AllSpeak come) parts behind)) was there still

  pub quiet_after : (middle after : List Event) (cause : Why) → events ≡ middle ++ event.Close client cause ∷ after →
      (list_any (comes_or_goes client) middle ≡ false) × (list_any (comes_or_goes client) after ≡ false)
  quiet_after middle after cause parts =
      let close = event.Close client cause in
      let speak : AllSpeak come (middle ++ close ∷ after) = subst (AllSpeak come) parts behind in
      let rest : AllSpeak (come ++ middle) (close ∷ after) = second_speak come middle (close ∷ after) speak in
      let first = quiet_while middle (close ∷ after) parts (opened_is client (come ++ middle) rest.0) in
      let gone : opened client ((come ++ middle) ++ close ∷ []) ≡ false =
      opened-one client (come ++ middle) close ∙ ap (λ (b : Bool). cond b false (opened client (come ++ middle))) (eq-eqb client client refl) in
      let came_all : client ≤ count_by is_connect ((come ++ middle) ++ close ∷ []) =
      omega (arith, was, count_by-append is_connect come middle, count_by-append is_connect (come ++ middle) (close ∷ [])) in
      (first, (closed_on client ((come ++ middle) ++ close ∷ []) after rest.1 came_all gone).0)

pub stays_once : (setting : Setting) (source : FrameSource) (client : ℕ) (cause : Why) (before middle after : List Event) → IsWellFormed setting source (before ++ event.Connect client ∷ (middle ++ event.Close client cause ∷ after)) →
    (list_any (comes_or_goes client) before ≡ false) × (list_any (comes_or_goes client) middle ≡ false) × (list_any (comes_or_goes client) after ≡ false)
stays_once setting source client cause before middle after formed =
    let events = middle ++ event.Close client cause ∷ after in
    let rest = quiet_after setting source client before events formed middle after cause refl in
    (quiet_before setting source client before events formed, rest.0, rest.1)
