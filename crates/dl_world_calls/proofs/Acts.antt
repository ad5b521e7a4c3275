-- What each call of the log calls owes, over plain values.
use Rattle.std.proofs.Common.{◌≡◌, ℕ, suc, ◌+◌, ◌-◌, ◌<◌, Bool, true, false, cond, eqb, eq-eqb, get_or, set, List, [], ◌∷◌, ◌++◌, length, Option, Some, None, refl, sym, ap, subst, append_assoc, ◌∙◌, ◌⊎◌, inl, inr, ◌≢◌, arith}
use Rattle.std.specs.Prelude.{slice_get, map, nat_le, not, Result, Ok, Err, OnOk, IsSomeAnd}
use Rattle.std.specs.List.{position_or_len}
use Rattle.std.specs.Option.{option_and_then, option_map, option_map_or}
use Rattle.std.proofs.lemmas.List.{append-nil, length-set, length-map}
use Rattle.std.proofs.lemmas.List.Elements.{All-set}
use Rattle.std.proofs.lemmas.Bool.Decides.{nat_tests, eqb_tells}
use Rattle.std.proofs.lemmas.Option.{slice_get-map, slice_get_within}
use Rattle.dl_bytes.specs.Claim.{Claimed}
use Rattle.dl_events.specs.declared.record.Answer.TheVariants as answers
use Rattle.dl_script_model.specs.declared.line.ClaimLine.{ClaimLine}
use Rattle.dl_script_model.specs.declared.line.ContextLine.{ContextLine}
use Rattle.dl_script_model.specs.Marks.{Mark, Queued, Refused, Counted, HasClaim, Announced, HeldBack, app_of_writer, contexts_of, to_push, to_count, to_announce, unannounced, is_full}
use Rattle.dl_script_model.specs.Steps.{push, count, finish, claim_made, claim, announce, is_held_back, announce_upto, announce_all}
use Rattle.dl_world_calls.specs.declared.queue.Entry.{Entry}
use Rattle.dl_world_calls.specs.declared.queue.Entry.TheVariants as entry
use Rattle.dl_world_calls.specs.Queue.{waiting}
use Rattle.dl_world_calls.specs.State.{App, Writer, Calls, Fits, writer_of, owner_of, pusher, counter, announcer, unannounced_of, answered, turned_away}
use Rattle.dl_world_calls.specs.Follows.{no_app, no_writer, writer_at, is_named, IsOwned, IsClaimerAfter, IsAfter, Does}
use Rattle.dl_world_calls.proofs.Places.{found, there, missing, any_default, position_to_len}
use Rattle.dl_world_calls.proofs.Following.{here, claims_here, refused, taken_in, fullness, full_by, counted_in, held_back, announced_in, claimed_in}
use Rattle.dl_world_calls.proofs.Declaring.{number_is}
use Rattle.dl_world_calls.proofs.ClaimMarks.{own_waiting, own_in, first_waiting, how_many_wait}

-- ---- the writer that has an open call

abbrev picked : {A : Type 0} → (Writer → Option A) → Calls → ℕ → Option ℕ
picked {A = A} f calls n = option_and_then (λ (writer : Writer). option_map (λ (c : A). writer.app) (f writer)) (writer_of calls n)

pub record IsPicked {A : Type 0} (f : Writer → Option A) (calls : Calls) (n a : ℕ) : Type 0 where
  pub some : 0 < n
  pub below : n - 1 < length calls.writers
  pub app_is : (get_or calls.writers (n - 1) no_writer).app ≡ a
  pub call : A
  pub call_is : f (get_or calls.writers (n - 1) no_writer) ≡ Some call

pub picked_is : {A : Type 0} (f : Writer → Option A) (calls : Calls) (n a : ℕ) → picked f calls n ≡ Some a → IsPicked f calls n a
picked_is {A = A} f calls n a e = by_number (eqb_tells n 0) where
  by_call : (w : Writer) (o : Option A) → f w ≡ o → option_map (λ (c : A). w.app) o ≡ Some a → (w.app ≡ a) × (c : A) × (f w ≡ Some c)
  by_call w None is e = absurd cc
  by_call w (Some c) is e = (cc, c, is)

  by_writer : 0 < n → (o : Option Writer) → slice_get calls.writers (n - 1) ≡ o → option_and_then (λ (writer : Writer). option_map (λ (c : A). writer.app) (f writer)) o ≡ Some a → IsPicked f calls n a
  by_writer some None is e = absurd cc
  by_writer some (Some w) is e =
      let at = found calls.writers (n - 1) w no_writer is in
      let open_call = by_call w (f w) refl e in
      record { some = some; below = at.0; app_is = ap (λ (x : Writer). x.app) at.1 ∙ open_call.0; call = open_call.1; call_is = ap f at.1 ∙ open_call.2 }

  by_number : ((eqb n 0 ≡ true) × (n ≡ 0)) ⊎ ((eqb n 0 ≡ false) × (n ≢ 0)) → IsPicked f calls n a
  by_number (inl zero) = let none : option_and_then (λ (writer : Writer). option_map (λ (c : A). writer.app) (f writer)) None ≡ Some a = rw zero.0 at e in absurd cc
  by_number (inr other) = by_writer (omega (arith, other.1)) (slice_get calls.writers (n - 1)) refl (rw other.0 at e)

pub picked_none : {A : Type 0} (f : Writer → Option A) (calls : Calls) (n : ℕ) → f no_writer ≡ None → picked f calls n ≡ None → f (writer_at calls.writers n) ≡ None
picked_none {A = A} f calls n nobody e = by_test (eqb n 0) e where
  by_call : (o : Option A) (a : ℕ) → option_map (λ (c : A). a) o ≡ None → o ≡ None
  by_call None a e = refl
  by_call (Some c) a e = absurd cc

  by_writer : (o : Option Writer) → slice_get calls.writers (n - 1) ≡ o → option_and_then (λ (writer : Writer). option_map (λ (c : A). writer.app) (f writer)) o ≡ None → f (get_or calls.writers (n - 1) no_writer) ≡ None
  by_writer None is e = ap f (missing calls.writers (n - 1) no_writer is) ∙ nobody
  by_writer (Some w) is e = let at = found calls.writers (n - 1) w no_writer is in ap f at.1 ∙ by_call (f w) w.app e

  by_test : (b : Bool) → option_and_then (λ (writer : Writer). option_map (λ (c : A). writer.app) (f writer)) (cond b None (slice_get calls.writers (n - 1))) ≡ None
      → f (cond b no_writer (get_or calls.writers (n - 1) no_writer)) ≡ None
  by_test true e = nobody
  by_test false e = by_writer (slice_get calls.writers (n - 1)) refl e

-- what a call that went well tells
pub on_ok : {T E : Type 0} (r : Result T E) (P Q : Type 0) → (P → Q) → OnOk r P → OnOk r Q
on_ok (Ok x) P Q goes is = goes is
on_ok (Err e) P Q goes is = is

-- ---- nothing is open

pub push-nothing : (calls : Calls) (n : ℕ) → pusher calls n ≡ None → Does (push n) calls calls
push-nothing calls n e done is =
    let none : to_push n done ≡ None = (is.each_writer n).push_is ∙ picked_none (λ (w : Writer). w.to_push) calls n refl e in
    let same : done ++ push n done ≡ done = rw none (append-nil done) in
    subst (λ marks. IsAfter marks calls) (sym same) is

pub count-nothing : (calls : Calls) (n : ℕ) → counter calls n ≡ None → Does (count n) calls calls
count-nothing calls n e done is =
    let none : to_count n done ≡ None = (is.each_writer n).count_is ∙ picked_none (λ (w : Writer). w.to_count) calls n refl e in
    let same : done ++ count n done ≡ done = rw none (append-nil done) in
    subst (λ marks. IsAfter marks calls) (sym same) is

-- ---- the push and the count, one after the other

pub finish-does : (n : ℕ) (old mid new : Calls) → Does (push n) old mid → Does (count n) mid new → Does (finish n) old new
finish-does n old mid new first second done is =
    let after = second (done ++ push n done) (first done is) in
    let same : (done ++ push n done) ++ count n (done ++ push n done) ≡ done ++ (push n done ++ (count n (done ++ push n done) ++ [])) =
    append_assoc done (push n done) (count n (done ++ push n done)) ∙ ap (λ (marks : List Mark). done ++ (push n done ++ marks)) (sym (append-nil (count n (done ++ push n done)))) in
    subst (λ marks. IsAfter marks new) same after

-- ---- bounds

pub fits-writer : (apps : List App) (ws : List Writer) (p : ℕ) (y : Writer) → Fits (record { apps = apps; writers = ws }) → p < length ws → y.app ≡ (get_or ws p no_writer).app → Fits (record { apps = apps; writers = set ws p y })
fits-writer apps ws p y fits below same = record {
  apps = fits.apps;
  writers = rw (length-set ws p y) fits.writers;
  owners = All-set (λ (w : Writer). w.app < length apps) ws p y (rw same (fits.owners p no_writer below)) fits.owners;
}

pub fits-app : (apps : List App) (ws : List Writer) (a : ℕ) (y : App) → Fits (record { apps = apps; writers = ws }) → Fits (record { apps = set apps a y; writers = ws })
fits-app apps ws a y fits = record {
  apps = rw (length-set apps a y) fits.apps;
  writers = fits.writers;
  owners = λ k d below. rw (length-set apps a y) (fits.owners k d below);
}

-- ---- the push and the count of a writer whose call is open

module _ (apps : List App) (ws : List Writer) (now : Calls) (view_is : record { apps = apps; writers = ws } ≡ now) (fits : Fits (record { apps = apps; writers = ws })) (n a : ℕ) where
  abbrev calls : Calls
  calls = record { apps = apps; writers = ws }

  module _ (picks : pusher now n ≡ Some a) where
    pub is_pushed : IsPicked (λ (w : Writer). w.to_push) (record { apps = apps; writers = ws }) n a
    is_pushed = picked_is (λ (w : Writer). w.to_push) calls n a (subst (λ (k : Calls). pusher k n ≡ Some a) (sym view_is) picks)

    pub app_there : a < length apps
    app_there = subst (λ k. k < length apps) is_pushed.app_is (fits.owners (n - 1) no_writer is_pushed.below)

    pub push-full : (w x : Writer) (app y : App) → w ≡ get_or ws (n - 1) x → app ≡ get_or apps a y → nat_le app.spec.capacity (waiting app.ring) ≡ true →
        Does (push n) now (record { apps = apps; writers = set ws (n - 1) (turned_away w w.to_push) })
    push-full w x app y w_is app_is full = subst (λ (old : Calls). Does (push n) old (record { apps = apps; writers = set ws (n - 1) (turned_away w w.to_push) })) view_is direct where
      writer_is : w ≡ get_or ws (n - 1) no_writer
      writer_is = w_is ∙ any_default ws (n - 1) x no_writer is_pushed.below

      its_app : app ≡ get_or apps a no_app
      its_app = app_is ∙ any_default apps a y no_app app_there

      direct : Does (push n) calls (record { apps = apps; writers = set ws (n - 1) (turned_away w w.to_push) })
      direct done is =
          let open_call : to_push n done ≡ Some is_pushed.call = (here done calls is n is_pushed.some is_pushed.below).push_is ∙ is_pushed.call_is in
          let is_so : is_full is_pushed.call.item.app done ≡ true = fullness done calls is n is_pushed.some is_pushed.below is_pushed.call is_pushed.call_is a app (sym is_pushed.app_is) app_there its_app ∙ full in
          let act : push n done ≡ Refused is_pushed.call ∷ [] = rw (open_call, is_so) refl in
          let same : turned_away (get_or ws (n - 1) no_writer) (Some is_pushed.call) ≡ turned_away w w.to_push = rw (writer_is, is_pushed.call_is) refl in
          subst (λ (y : Writer). IsAfter (done ++ push n done) (record { apps = apps; writers = set ws (n - 1) y })) same
          (subst (λ marks. IsAfter (done ++ marks) (record { apps = apps; writers = set ws (n - 1) (turned_away (get_or ws (n - 1) no_writer) (Some is_pushed.call)) })) (sym act)
          (refused done calls is n is_pushed.some is_pushed.below is_pushed.call is_pushed.call_is))

    abbrev at_end : Writer → Entry
    at_end w = entry.Call (record { writer = n; place = length w.records })

    abbrev with_call : App → Entry → App
    with_call app at = record app { ring = record { entries = app.ring.entries ++ at ∷ []; gone = app.ring.gone } }

    pub push-room : (w x : Writer) (app y : App) → w ≡ get_or ws (n - 1) x → app ≡ get_or apps a y → nat_le app.spec.capacity (waiting app.ring) ≡ false →
        Does (push n) now (record { apps = set apps a (record app { ring = record { entries = app.ring.entries ++ entry.Call (record { writer = n; place = length w.records }) ∷ []; gone = app.ring.gone } }); writers = set ws (n - 1) (answered w answers.Queued w.to_push) })
    push-room w x app y w_is app_is room = subst (λ (old : Calls). Does (push n) old (record { apps = set apps a (with_call app (at_end w)); writers = set ws (n - 1) (answered w answers.Queued w.to_push) })) view_is direct where
      writer_is : w ≡ get_or ws (n - 1) no_writer
      writer_is = w_is ∙ any_default ws (n - 1) x no_writer is_pushed.below

      its_app : app ≡ get_or apps a no_app
      its_app = app_is ∙ any_default apps a y no_app app_there

      direct : Does (push n) calls (record { apps = set apps a (with_call app (at_end w)); writers = set ws (n - 1) (answered w answers.Queued w.to_push) })
      direct done is =
          let open_call : to_push n done ≡ Some is_pushed.call = (here done calls is n is_pushed.some is_pushed.below).push_is ∙ is_pushed.call_is in
          let is_so : is_full is_pushed.call.item.app done ≡ false = fullness done calls is n is_pushed.some is_pushed.below is_pushed.call is_pushed.call_is a app (sym is_pushed.app_is) app_there its_app ∙ room in
          let act : push n done ≡ Queued is_pushed.call ∷ [] = rw (open_call, is_so) refl in
          let same : answered (get_or ws (n - 1) no_writer) answers.Queued (Some is_pushed.call) ≡ answered w answers.Queued w.to_push = rw (writer_is, is_pushed.call_is) refl in
          let state = λ (z : Writer) (y : Writer). IsAfter (done ++ push n done) (record { apps = set apps a (with_call app (at_end z)); writers = set ws (n - 1) y }) in
          subst (λ (z : Writer). state z (answered w answers.Queued w.to_push)) (sym writer_is)
          (subst (λ (y : Writer). state (get_or ws (n - 1) no_writer) y) same
          (subst (λ marks. IsAfter (done ++ marks) (record { apps = set apps a (with_call app (at_end (get_or ws (n - 1) no_writer))); writers = set ws (n - 1) (answered (get_or ws (n - 1) no_writer) answers.Queued (Some is_pushed.call)) })) (sym act)
          (taken_in done calls is n is_pushed.some is_pushed.below is_pushed.call is_pushed.call_is a app (sym is_pushed.app_is) app_there its_app)))

    -- the same where the new values are known by equations
    pub push-room-as : (v w : Writer) (app : App) (place : ℕ) (z : App) (y : Writer) → v ≡ get_or ws (n - 1) v → place ≡ length v.records → w ≡ get_or ws (n - 1) w → app ≡ get_or apps a app → nat_le app.spec.capacity (waiting app.ring) ≡ false
        → z ≡ record app { ring = record { entries = app.ring.entries ++ entry.Call (record { writer = n; place = place }) ∷ []; gone = app.ring.gone } } → y ≡ answered w answers.Queued w.to_push
        → Does (push n) now (record { apps = set apps a z; writers = set ws (n - 1) y })
    push-room-as v w app place z y v_is place_is w_is app_is room z_is y_is =
        let same : v ≡ w = v_is ∙ any_default ws (n - 1) v w is_pushed.below ∙ sym w_is in
        let place_of_w : place ≡ length w.records = place_is ∙ ap (λ (x : Writer). length x.records) same in
        rw (z_is, y_is, place_of_w) (push-room w w app app w_is app_is room)

  module _ (picks : counter now n ≡ Some a) where
    pub is_counted : IsPicked (λ (w : Writer). w.to_count) (record { apps = apps; writers = ws }) n a
    is_counted = picked_is (λ (w : Writer). w.to_count) calls n a (subst (λ (k : Calls). counter k n ≡ Some a) (sym view_is) picks)

    pub app_of_lost : a < length apps
    app_of_lost = subst (λ k. k < length apps) is_counted.app_is (fits.owners (n - 1) no_writer is_counted.below)

    pub count-does : (w x : Writer) (app y : App) (at : Entry) → w ≡ get_or ws (n - 1) x → app ≡ get_or apps a y →
        Does (count n) now (record { apps = set apps a (record app { losses = record { entries = app.losses.entries ++ at ∷ []; gone = app.losses.gone } }); writers = set ws (n - 1) (answered w answers.Lost w.to_count) })
    count-does w x app y at w_is app_is = subst (λ (old : Calls). Does (count n) old (record { apps = set apps a (record app { losses = record { entries = app.losses.entries ++ at ∷ []; gone = app.losses.gone } }); writers = set ws (n - 1) (answered w answers.Lost w.to_count) })) view_is direct where
      writer_is : w ≡ get_or ws (n - 1) no_writer
      writer_is = w_is ∙ any_default ws (n - 1) x no_writer is_counted.below

      its_app : app ≡ get_or apps a no_app
      its_app = app_is ∙ any_default apps a y no_app app_of_lost

      direct : Does (count n) calls (record { apps = set apps a (record app { losses = record { entries = app.losses.entries ++ at ∷ []; gone = app.losses.gone } }); writers = set ws (n - 1) (answered w answers.Lost w.to_count) })
      direct done is =
          let open_call : to_count n done ≡ Some is_counted.call = (here done calls is n is_counted.some is_counted.below).count_is ∙ is_counted.call_is in
          let act : count n done ≡ Counted is_counted.call ∷ [] = rw open_call refl in
          let same : answered (get_or ws (n - 1) no_writer) answers.Lost (Some is_counted.call) ≡ answered w answers.Lost w.to_count = rw (writer_is, is_counted.call_is) refl in
          let state = λ (y : Writer). IsAfter (done ++ count n done) (record { apps = set apps a (record app { losses = record { entries = app.losses.entries ++ at ∷ []; gone = app.losses.gone } }); writers = set ws (n - 1) y }) in
          subst (λ (y : Writer). state y) same
          (subst (λ marks. IsAfter (done ++ marks) (record { apps = set apps a (record app { losses = record { entries = app.losses.entries ++ at ∷ []; gone = app.losses.gone } }); writers = set ws (n - 1) (answered (get_or ws (n - 1) no_writer) answers.Lost (Some is_counted.call)) })) (sym act)
          (counted_in done calls is n is_counted.some is_counted.below is_counted.call is_counted.call_is a app (sym is_counted.app_is) app_of_lost its_app at))

    pub count-does-as : (w : Writer) (app : App) (at : Entry) (z : App) (y : Writer) → w ≡ get_or ws (n - 1) w → app ≡ get_or apps a app
        → z ≡ record app { losses = record { entries = app.losses.entries ++ at ∷ []; gone = app.losses.gone } } → y ≡ answered w answers.Lost w.to_count
        → Does (count n) now (record { apps = set apps a z; writers = set ws (n - 1) y })
    count-does-as w app at z y w_is app_is z_is y_is = rw (z_is, y_is) (count-does w w app app at w_is app_is)

  module _ (picks : announcer now n ≡ Some a) where
    pub is_announced : IsPicked (λ (w : Writer). slice_get w.claims w.announced) (record { apps = apps; writers = ws }) n a
    is_announced = picked_is (λ (w : Writer). slice_get w.claims w.announced) calls n a (subst (λ (k : Calls). announcer k n ≡ Some a) (sym view_is) picks)

    pub app_of_claim : a < length apps
    app_of_claim = subst (λ k. k < length apps) is_announced.app_is (fits.owners (n - 1) no_writer is_announced.below)

    pub one_waits : (w : Writer) → w ≡ get_or ws (n - 1) w → w.announced < length w.claims
    one_waits w w_is =
        let same : w ≡ get_or ws (n - 1) no_writer = w_is ∙ any_default ws (n - 1) w no_writer is_announced.below in
        let within = slice_get_within w.claims w.announced is_announced.call (ap (λ (x : Writer). slice_get x.claims x.announced) same ∙ is_announced.call_is) in
        within

    -- the claim that is announced
    module _ (done : List Mark) (is : IsAfter done (record { apps = apps; writers = ws })) where
      its_claims : IsClaimerAfter done n (get_or ws (n - 1) no_writer)
      its_claims = claims_here done (record { apps = apps; writers = ws }) is n is_announced.some is_announced.below

      waiting_first : to_announce n done ≡ Some is_announced.call
      waiting_first = first_waiting done n (get_or ws (n - 1) no_writer) its_claims ∙ is_announced.call_is

      of_writer : eqb is_announced.call.writer n ≡ true
      of_writer = own_waiting done n is_announced.call waiting_first

      of_app : is_announced.call.app ≡ a
      of_app = own_in (λ (c : Claimed). c.app ≡ (get_or ws (n - 1) no_writer).app) (get_or ws (n - 1) no_writer).claims (get_or ws (n - 1) no_writer).announced is_announced.call its_claims.own is_announced.call_is ∙ is_announced.app_is

      full_now : (app : App) → app ≡ get_or apps a no_app → is_full is_announced.call.app done ≡ nat_le app.spec.capacity (waiting app.ring)
      full_now app app_is = ap (λ (k : ℕ). is_full k done) of_app ∙ full_by done (record { apps = apps; writers = ws }) is n is_announced.some is_announced.below a app app_of_claim app_is

      pub act_full : (app : App) → app ≡ get_or apps a no_app → nat_le app.spec.capacity (waiting app.ring) ≡ true → announce n done ≡ HeldBack is_announced.call ∷ []
      act_full app app_is full = let is_so : is_full is_announced.call.app done ≡ true = full_now app app_is ∙ full in rw (waiting_first, is_so) refl

      pub act_room : (app : App) → app ≡ get_or apps a no_app → nat_le app.spec.capacity (waiting app.ring) ≡ false → announce n done ≡ Announced is_announced.call ∷ []
      act_room app app_is room = let is_so : is_full is_announced.call.app done ≡ false = full_now app app_is ∙ room in rw (waiting_first, is_so) refl

      pub after_full : (app : App) → app ≡ get_or apps a no_app → nat_le app.spec.capacity (waiting app.ring) ≡ true → IsAfter (done ++ announce n done) (record { apps = apps; writers = ws })
      after_full app app_is full =
          subst (λ (ms : List Mark). IsAfter (done ++ ms) (record { apps = apps; writers = ws })) (sym (act_full app app_is full))
          (held_back done (record { apps = apps; writers = ws }) is n is_announced.some is_announced.below is_announced.call)

      pub after_room : (app : App) → app ≡ get_or apps a no_app → nat_le app.spec.capacity (waiting app.ring) ≡ false → (place : ℕ) → place ≡ (get_or ws (n - 1) no_writer).announced →
          IsAfter (done ++ announce n done) (record {
            apps = set apps a (record app { ring = record { entries = app.ring.entries ++ entry.Claim (record { writer = n; place = place }) ∷ []; gone = app.ring.gone } });
            writers = set ws (n - 1) (record (get_or ws (n - 1) no_writer) { announced = (get_or ws (n - 1) no_writer).announced + 1 });
          })
      after_room app app_is room place place_is =
          rw place_is
          (subst (λ (ms : List Mark). IsAfter (done ++ ms) (record {
            apps = set apps a (record app { ring = record { entries = app.ring.entries ++ entry.Claim (record { writer = n; place = (get_or ws (n - 1) no_writer).announced }) ∷ []; gone = app.ring.gone } });
            writers = set ws (n - 1) (record (get_or ws (n - 1) no_writer) { announced = (get_or ws (n - 1) no_writer).announced + 1 });
          })) (sym (act_room app app_is room))
          (announced_in done (record { apps = apps; writers = ws }) is n is_announced.some is_announced.below is_announced.call of_writer is_announced.call_is a app of_app app_of_claim app_is))

    module _ (app y : App) (app_is : app ≡ get_or apps a y) where
      the_app : app ≡ get_or apps a no_app
      the_app = app_is ∙ any_default apps a y no_app app_of_claim

      pub announce-full : nat_le app.spec.capacity (waiting app.ring) ≡ true → Does (announce n) now now
      announce-full full = subst (λ (k : Calls). Does (announce n) k k) view_is (λ done is. after_full done is app the_app full)

      pub refused-full : nat_le app.spec.capacity (waiting app.ring) ≡ true → (done : List Mark) → IsAfter done now → is_held_back (announce n done) ≡ not false
      refused-full full done is = ap is_held_back (act_full done (subst (IsAfter done) (sym view_is) is) app the_app full)

      pub refused-room : nat_le app.spec.capacity (waiting app.ring) ≡ false → (done : List Mark) → IsAfter done now → is_held_back (announce n done) ≡ not true
      refused-room room done is = ap is_held_back (act_room done (subst (IsAfter done) (sym view_is) is) app the_app room)

      pub announce-room : (v w : Writer) (place : ℕ) (z : App) (x : Writer) → nat_le app.spec.capacity (waiting app.ring) ≡ false → v ≡ get_or ws (n - 1) v → place ≡ v.announced → w ≡ get_or ws (n - 1) w
          → z ≡ record app { ring = record { entries = app.ring.entries ++ entry.Claim (record { writer = n; place = place }) ∷ []; gone = app.ring.gone } } → x ≡ record w { announced = w.announced + 1 }
          → Does (announce n) now (record { apps = set apps a z; writers = set ws (n - 1) x })
      announce-room v w place z x room v_is place_is w_is z_is x_is =
          let v_same : v ≡ get_or ws (n - 1) no_writer = v_is ∙ any_default ws (n - 1) v no_writer is_announced.below in
          let w_same : w ≡ get_or ws (n - 1) no_writer = w_is ∙ any_default ws (n - 1) w no_writer is_announced.below in
          let at : place ≡ (get_or ws (n - 1) no_writer).announced = place_is ∙ ap (λ (k : Writer). k.announced) v_same in
          let new : x ≡ record (get_or ws (n - 1) no_writer) { announced = (get_or ws (n - 1) no_writer).announced + 1 } = x_is ∙ ap (λ (k : Writer). record k { announced = k.announced + 1 }) w_same in
          subst (λ (old : Calls). Does (announce n) old (record { apps = set apps a z; writers = set ws (n - 1) x })) view_is
          (λ done is. rw (z_is, new) (after_room done is app the_app room place at))

-- ---- nothing waits

pub announce-nothing : (calls : Calls) (n : ℕ) → announcer calls n ≡ None → (done : List Mark) → IsAfter done calls → announce n done ≡ []
announce-nothing calls n e done is =
    let none : to_announce n done ≡ None = first_waiting done n (writer_at calls.writers n) (is.each_claimer n) ∙ picked_none (λ (w : Writer). slice_get w.claims w.announced) calls n refl e in
    rw none refl

pub announce-none : (calls : Calls) (n : ℕ) → announcer calls n ≡ None → Does (announce n) calls calls
announce-none calls n e done is = subst (λ (ms : List Mark). IsAfter ms calls) (sym (ap (λ (ms : List Mark). done ++ ms) (announce-nothing calls n e done is) ∙ append-nil done)) is

pub refused-none : (calls : Calls) (n : ℕ) → announcer calls n ≡ None → (done : List Mark) → IsAfter done calls → is_held_back (announce n done) ≡ not true
refused-none calls n e done is = ap is_held_back (announce-nothing calls n e done is)

-- ---- one claim after the other

-- what is left is announced from there, once the first was
pub announces_on : (n k : ℕ) (old mid new : Calls) → Does (announce n) old mid → ((done : List Mark) → IsAfter done old → is_held_back (announce n done) ≡ not true) → Does (announce_upto k n) mid new → Does (announce_upto (suc k) n) old new
announces_on n k old mid new first goes rest done is =
    let step = announce n done in
    let later = rest (done ++ step) (first done is) in
    let act : announce_upto (suc k) n done ≡ step ++ announce_upto k n (done ++ step) = ap (λ (b : Bool). step ++ cond b [] (announce_upto k n (done ++ step))) (goes done is) in
    subst (λ (ms : List Mark). IsAfter ms new) (append_assoc done step (announce_upto k n (done ++ step)) ∙ ap (λ (ms : List Mark). done ++ ms) (sym act)) later

-- the first is refused, and no other one is pushed
pub announces_no_more : (n k : ℕ) (old new : Calls) → Does (announce n) old new → ((done : List Mark) → IsAfter done old → is_held_back (announce n done) ≡ not false) → Does (announce_upto (suc k) n) old new
announces_no_more n k old new first stops done is =
    let step = announce n done in
    let act : announce_upto (suc k) n done ≡ step = ap (λ (b : Bool). step ++ cond b [] (announce_upto k n (done ++ step))) (stops done is) ∙ append-nil step in
    subst (λ (ms : List Mark). IsAfter (done ++ ms) new) (sym act) (first done is)

pub announces_none : (n : ℕ) (calls : Calls) → Does (announce_upto 0 n) calls calls
announces_none n calls done is = subst (λ (ms : List Mark). IsAfter ms calls) (sym (append-nil done)) is

pub announces_all : (n k : ℕ) (old new : Calls) → ((done : List Mark) → IsAfter done old → unannounced n done ≡ k) → Does (announce_upto k n) old new → Does (announce_all n) old new
announces_all n k old new count goes done is = subst (λ (m : ℕ). IsAfter (done ++ announce_upto m n done) new) (sym (count done is)) (goes done is)

pub unannounced_is : (calls : Calls) (n k : ℕ) → k ≡ unannounced_of calls n → (done : List Mark) → IsAfter done calls → unannounced n done ≡ k
unannounced_is calls n k k_is done is =
    how_many_wait done n (writer_at calls.writers n) (is.each_claimer n) ∙ by_test (eqb n 0) ∙ sym k_is where
      by_writer : (p : Option Writer) → slice_get calls.writers (n - 1) ≡ p → length (get_or calls.writers (n - 1) no_writer).claims - (get_or calls.writers (n - 1) no_writer).announced ≡ option_map_or (λ (w : Writer). length w.claims - w.announced) p 0
      by_writer None e = ap (λ (w : Writer). length w.claims - w.announced) (missing calls.writers (n - 1) no_writer e)
      by_writer (Some w) e = let at = found calls.writers (n - 1) w no_writer e in ap (λ (x : Writer). length x.claims - x.announced) at.1

      by_test : (b : Bool) → length (cond b no_writer (get_or calls.writers (n - 1) no_writer)).claims - (cond b no_writer (get_or calls.writers (n - 1) no_writer)).announced
          ≡ option_map_or (λ (w : Writer). length w.claims - w.announced) (cond b None (slice_get calls.writers (n - 1))) 0
      by_test true = refl
      by_test false = by_writer (slice_get calls.writers (n - 1)) refl

-- ---- a claim is made

-- a writer that can claim: it is there, and its application has a place left
pub record CanClaim (calls : Calls) (n : ℕ) : Type 0 where
  pub some : 0 < n
  pub below : n - 1 < length calls.writers
  pub app_below : (get_or calls.writers (n - 1) no_writer).app < length calls.apps
  pub room : length (get_or calls.apps (get_or calls.writers (n - 1) no_writer).app no_app).contexts + (get_or calls.apps (get_or calls.writers (n - 1) no_writer).app no_app).claimed < 64

abbrev has_place : App → Type 0
has_place app = length app.contexts + app.claimed < 64

pub can_claim : (calls : Calls) (n : ℕ) → IsSomeAnd (owner_of calls n) (λ (app : App). length app.contexts + app.claimed < 64) → CanClaim calls n
can_claim calls n room = by_number (eqb_tells n 0) where
  by_app : 0 < n → (w : Writer) → slice_get calls.writers (n - 1) ≡ Some w → (o : Option App) → slice_get calls.apps w.app ≡ o → IsSomeAnd o has_place → CanClaim calls n
  by_app some w w_is None is room = absurd room
  by_app some w w_is (Some app) is room =
      let at = found calls.writers (n - 1) w no_writer w_is in
      let app_at = found calls.apps w.app app no_app is in
      record {
        some = some;
        below = at.0;
        app_below = subst (λ (x : Writer). x.app < length calls.apps) (sym at.1) app_at.0;
        room = rw (at.1, app_at.1) room;
      }

  by_writer : 0 < n → (o : Option Writer) → slice_get calls.writers (n - 1) ≡ o → IsSomeAnd (option_and_then (λ (writer : Writer). slice_get calls.apps writer.app) o) has_place → CanClaim calls n
  by_writer some None is room = absurd room
  by_writer some (Some w) is room = by_app some w is (slice_get calls.apps w.app) refl room

  by_number : ((eqb n 0 ≡ true) × (n ≡ 0)) ⊎ ((eqb n 0 ≡ false) × (n ≢ 0)) → CanClaim calls n
  by_number (inl zero) = let none : IsSomeAnd (option_and_then (λ (writer : Writer). slice_get calls.apps writer.app) None) has_place = rw zero.0 at room in absurd none
  by_number (inr other) = by_writer (omega (arith, other.1)) (slice_get calls.writers (n - 1)) refl (rw other.0 at room)

module _ (done : List Mark) (calls : Calls) (is : IsAfter done calls) (asked : ClaimLine) (can : CanClaim calls asked.writer) where
  abbrev claimer : Writer
  claimer = get_or calls.writers (asked.writer - 1) no_writer

  abbrev claimed_app : App
  claimed_app = get_or calls.apps (get_or calls.writers (asked.writer - 1) no_writer).app no_app

  abbrev the_claim : Claimed
  the_claim = record { app = claimer.app; writer = asked.writer; place = length claimed_app.contexts + claimed_app.claimed; ctid = asked.ctid; level = asked.level; text = asked.text }

  own_writer : IsOwned done (get_or calls.writers (asked.writer - 1) no_writer)
  own_writer = is.owned (asked.writer - 1) no_writer can.below

  apid_is : app_of_writer asked.writer done ≡ Some (get_or calls.writers (asked.writer - 1) no_writer).apid
  apid_is =
      let not_zero : eqb asked.writer 0 ≡ false = let some = can.some in grind (arith, nat_tests) in
      let there_now : slice_get calls.writers (asked.writer - 1) ≡ Some (get_or calls.writers (asked.writer - 1) no_writer) = there calls.writers (asked.writer - 1) no_writer can.below in
      let at : slice_get (map (λ (x : Writer). x.apid) calls.writers) (asked.writer - 1) ≡ Some (get_or calls.writers (asked.writer - 1) no_writer).apid =
      slice_get-map (λ (x : Writer). x.apid) calls.writers (asked.writer - 1) ∙ ap (option_map (λ (x : Writer). x.apid)) there_now in
      rw not_zero (ap (λ (ids : List (List ℕ)). slice_get ids (asked.writer - 1)) (sym is.writers_are) ∙ at)

  contexts_count : length (contexts_of claimer.apid done) ≡ length claimed_app.contexts
  contexts_count =
      let place : position_or_len (is_named claimer.apid) calls.apps ≡ claimer.app = (position_to_len (is_named claimer.apid) calls.apps claimer.app (number_is done calls claimer.apid is.apps_are ∙ own_writer.app_is)).0 in
      let ids : claimed_app.contexts ≡ map (λ (c : ContextLine). c.ctid) (contexts_of claimer.apid done) = ap (λ (k : ℕ). (get_or calls.apps k no_app).contexts) (sym place) ∙ is.contexts_are claimer.apid in
      sym (length-map (contexts_of claimer.apid done) (λ (c : ContextLine). c.ctid)) ∙ ap (λ (xs : List (List ℕ)). length xs) (sym ids)

  made : claim_made asked done ≡ Some the_claim
  made = let count = is.claimed_are claimer.app in rw (apid_is, own_writer.app_is, contexts_count, count) refl

  pub claims_there : IsAfter (done ++ claim asked done) (record {
    apps = set calls.apps claimer.app (record claimed_app { claimed = claimed_app.claimed + 1 });
    writers = set calls.writers (asked.writer - 1) (record claimer { claims = claimer.claims ++ the_claim ∷ [] });
  })
  claims_there =
      let act : claim asked done ≡ HasClaim the_claim ∷ [] = rw made refl in
      subst (λ (ms : List Mark). IsAfter (done ++ ms) (record {
        apps = set calls.apps claimer.app (record claimed_app { claimed = claimed_app.claimed + 1 });
        writers = set calls.writers (asked.writer - 1) (record claimer { claims = claimer.claims ++ the_claim ∷ [] });
      })) (sym act)
      (claimed_in done calls is asked.writer can.some can.below the_claim (eq-eqb asked.writer asked.writer refl) refl claimer.app claimed_app refl can.app_below refl)

pub claim-does : (apps : List App) (ws : List Writer) (now : Calls) → record { apps = apps; writers = ws } ≡ now → (asked : ClaimLine) → CanClaim (record { apps = apps; writers = ws }) asked.writer
    → (v w y : Writer) (k place : ℕ) (b d z : App) (c : Claimed) → v ≡ get_or ws (asked.writer - 1) v → k ≡ v.app → b ≡ get_or apps k b → place ≡ length b.contexts + b.claimed
    → c ≡ record { app = k; writer = asked.writer; place = place; ctid = asked.ctid; level = asked.level; text = asked.text }
    → w ≡ get_or ws (asked.writer - 1) w → y ≡ record w { claims = w.claims ++ c ∷ [] } → d ≡ get_or apps k d → z ≡ record d { claimed = d.claimed + 1 }
    → Does (claim asked) now (record { apps = set apps k z; writers = set ws (asked.writer - 1) y })
claim-does apps ws now view_is asked can v w y k place b d z c v_is k_is b_is place_is c_is w_is y_is d_is z_is =
    subst (λ (old : Calls). Does (claim asked) old (record { apps = set apps k z; writers = set ws (asked.writer - 1) y })) view_is
    (λ done is. rw (z_is, d_now, y_is, w_now, c_is, place_is, b_now, k_now) (claims_there done (record { apps = apps; writers = ws }) is asked can)) where
      w_now : w ≡ get_or ws (asked.writer - 1) no_writer
      w_now = w_is ∙ any_default ws (asked.writer - 1) w no_writer can.below

      k_now : k ≡ (get_or ws (asked.writer - 1) no_writer).app
      k_now = k_is ∙ ap (λ (x : Writer). x.app) (v_is ∙ any_default ws (asked.writer - 1) v no_writer can.below)

      below : k < length apps
      below = subst (λ (i : ℕ). i < length apps) (sym k_now) can.app_below

      b_now : b ≡ get_or apps k no_app
      b_now = b_is ∙ any_default apps k b no_app below

      d_now : d ≡ get_or apps k no_app
      d_now = d_is ∙ any_default apps k d no_app below

-- the same of the fields: the writer and its application are there, and the application has a place left
module _ (apps : List App) (ws : List Writer) (now : Calls) (view_is : record { apps = apps; writers = ws } ≡ now) (n : ℕ) (room : IsSomeAnd (owner_of now n) (λ (app : App). length app.contexts + app.claimed < 64)) where
  pub can_here : CanClaim (record { apps = apps; writers = ws }) n
  can_here = can_claim (record { apps = apps; writers = ws }) n (subst (λ (k : Calls). IsSomeAnd (owner_of k n) (λ (app : App). length app.contexts + app.claimed < 64)) (sym view_is) room)

  pub app_of_claimer : (v : Writer) (k : ℕ) → v ≡ get_or ws (n - 1) v → k ≡ v.app → k < length apps
  app_of_claimer v k v_is k_is =
      let same : k ≡ (get_or ws (n - 1) no_writer).app = k_is ∙ ap (λ (x : Writer). x.app) (v_is ∙ any_default ws (n - 1) v no_writer can_here.below) in
      subst (λ (i : ℕ). i < length apps) (sym same) can_here.app_below

  pub place_left : (v : Writer) (k : ℕ) (b : App) → v ≡ get_or ws (n - 1) v → k ≡ v.app → b ≡ get_or apps k b → length b.contexts + b.claimed < 64
  place_left v k b v_is k_is b_is =
      let same : k ≡ (get_or ws (n - 1) no_writer).app = k_is ∙ ap (λ (x : Writer). x.app) (v_is ∙ any_default ws (n - 1) v no_writer can_here.below) in
      let app_is : b ≡ get_or apps (get_or ws (n - 1) no_writer).app no_app = b_is ∙ any_default apps k b no_app (app_of_claimer v k v_is k_is) ∙ ap (λ (i : ℕ). get_or apps i no_app) same in
      subst has_place (sym app_is) can_here.room
