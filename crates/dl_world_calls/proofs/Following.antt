-- What all log calls are after one mark more.
use Rattle.std.proofs.Common.{◌≡◌, ℕ, ◌+◌, ◌-◌, ◌<◌, Bool, true, false, cond, eqb, eq-eqb, get_or, set, List, [], ◌∷◌, ◌++◌, length, Option, Some, None, refl, sym, ap, subst, ◌∙◌, arith}
use Rattle.std.specs.Prelude.{map, slice_get, nat_le, IfSome}
use Rattle.std.specs.List.{position, position_or_len, All}
use Rattle.std.specs.Option.{option_map, option_and_then}
use Rattle.std.specs.Str.{bytes_eq}
use Rattle.std.proofs.Math.Seq.{map-set_same}
use Rattle.std.proofs.lemmas.List.{append-nil, length-map}
use Rattle.std.proofs.lemmas.List.Elements.{filter_map-append, All-set}
use Rattle.std.proofs.lemmas.List.Folds.{position_or_len-set}
use Rattle.std.proofs.lemmas.Option.{slice_get-map}
use Rattle.std.proofs.lemmas.Bool.Decides.{nat_tests}
use Rattle.dl_bytes.specs.Claim.{Claimed}
use Rattle.dl_events.specs.declared.record.Record.{Record}
use Rattle.dl_events.specs.declared.record.Answer.TheVariants as answers
use Rattle.dl_script_model.specs.declared.line.AppLine.{AppLine}
use Rattle.dl_script_model.specs.declared.line.ContextLine.{ContextLine}
use Rattle.dl_script_model.specs.Marks.{Call, Mark, Queued, Refused, Counted, HasClaim, Announced, HeldBack, recorded, app_of, context_of, writer_of, apps, writers, number_of, capacity_of, is_full, held_by, claims_on, OfCall, OfClaim, pushed_of, pushes, is_step_of}
use Rattle.dl_script_model.proofs.Marks.{contexts-same, writers-same}
use Rattle.dl_world_calls.specs.declared.queue.OwnPlace.{OwnPlace}
use Rattle.dl_world_calls.specs.declared.queue.Entry.{Entry}
use Rattle.dl_world_calls.specs.declared.queue.Entry.TheVariants as entry
use Rattle.dl_world_calls.specs.Queue.{waiting}
use Rattle.dl_world_calls.specs.State.{App, Writer, Calls, Held, HeldCall, HeldClaim, record_at, claim_at, held_at, answered, turned_away}
use Rattle.dl_world_calls.specs.Follows.{no_app, no_writer, writer_at, line_of, is_named, contexts_in, as_pushed, IsOwned, IsWriterAfter, IsClaimerAfter, IsAppAfter, IsAfter}
use Rattle.dl_world_calls.proofs.WriterMarks.{stays, one_stage, own_push, own_count, queues, refuses, counts}
use Rattle.dl_world_calls.proofs.AppMarks.{Keeps, app-stays, app-pushes, app-loses}
use Rattle.dl_world_calls.proofs.ClaimMarks.{IsStill, AreKept, same_kept, claimers-stay, claimed-stay, claimer-claims, claimer-apart, claimed-more, claimer-announces, announced-apart}
use Rattle.dl_world_calls.proofs.Places.{there, alike, apart, get_or-set, writer_at-set, each_set, kept_set, slice_get-set, told_set}
use Rattle.dl_lemmas.proofs.Lists.{get_more, get_end}

-- ---- a mark that declares nothing

pub record IsQuiet (mark : Mark) : Type 0 where
  pub no_app_line : app_of mark ≡ None
  pub no_context_line : context_of mark ≡ None
  pub no_writer_line : writer_of mark ≡ None

pub apps-same : (done : List Mark) (mark : Mark) → app_of mark ≡ None → apps (done ++ mark ∷ []) ≡ apps done
apps-same done mark e = filter_map-append app_of done (mark ∷ []) ∙ rw e (append-nil (apps done))

pub number-same : (apid : List ℕ) (done : List Mark) (mark : Mark) → app_of mark ≡ None → number_of apid (done ++ mark ∷ []) ≡ number_of apid done
number-same apid done mark e = ap (position (λ (app : AppLine). bytes_eq app.apid apid)) (apps-same done mark e)

pub owned_on : (done : List Mark) (mark : Mark) → app_of mark ≡ None → (writer : Writer) → IsOwned done writer → IsOwned (done ++ mark ∷ []) writer
owned_on done mark e writer is = record { app_is = number-same writer.apid done mark e ∙ is.app_is; pushes = is.pushes; counts = is.counts }

abbrev pub apid_of_writer : Writer → List ℕ
apid_of_writer writer = writer.apid

pub goes_on : (done : List Mark) (mark : Mark) (old new : Calls) → IsQuiet mark → IsAfter done old
    → map line_of new.apps ≡ map line_of old.apps
    → ((apid : List ℕ) → contexts_in new.apps apid ≡ contexts_in old.apps apid)
    → map apid_of_writer new.writers ≡ map apid_of_writer old.writers
    → All (IsOwned done) new.writers
    → ((number : ℕ) → IsWriterAfter (done ++ mark ∷ []) number (writer_at new.writers number))
    → ((number : ℕ) → IsClaimerAfter (done ++ mark ∷ []) number (writer_at new.writers number))
    → ((number : ℕ) → IsAppAfter (done ++ mark ∷ []) new.writers number (get_or new.apps number no_app))
    → ((number : ℕ) → length (claims_on number (done ++ mark ∷ [])) ≡ (get_or new.apps number no_app).claimed)
    → IsAfter (done ++ mark ∷ []) new
goes_on done mark old new quiet is lines contexts names owned each_writer each_claimer each_app claimed = record {
  apps_are = lines ∙ is.apps_are ∙ sym (apps-same done mark quiet.no_app_line);
  writers_are = names ∙ is.writers_are ∙ sym (writers-same done mark quiet.no_writer_line);
  contexts_are = λ apid. contexts apid ∙ is.contexts_are apid ∙ ap (map (λ (context : ContextLine). context.ctid)) (sym (contexts-same apid done mark quiet.no_context_line));
  owned = λ k d below. owned_on done mark quiet.no_app_line (get_or new.writers k d) (owned k d below);
  each_writer = each_writer;
  each_claimer = each_claimer;
  each_app = each_app;
  claimed_are = claimed;
}

-- ---- one application changed, which is declared as before

pub lines_set : (apps : List App) (a : ℕ) (y : App) → y.spec ≡ (get_or apps a no_app).spec → map line_of (set apps a y) ≡ map line_of apps
lines_set apps a y same = map-set_same line_of apps a y no_app (rw same refl)

pub contexts_set : (apps : List App) (a : ℕ) (y : App) → y.spec ≡ (get_or apps a no_app).spec → y.contexts ≡ (get_or apps a no_app).contexts → (apid : List ℕ) → contexts_in (set apps a y) apid ≡ contexts_in apps apid
contexts_set apps a y spec contexts apid =
    let place : position_or_len (is_named apid) (set apps a y) ≡ position_or_len (is_named apid) apps = position_or_len-set (is_named apid) apps a y no_app (rw spec refl) in
    ap (λ (k : ℕ). (get_or (set apps a y) k no_app).contexts) place ∙ told_set (λ (app : App). app.contexts) apps a (position_or_len (is_named apid) apps) y no_app contexts

-- ---- one writer changed

-- what a writer has at a place
abbrev own_at : {A : Type 0} → (Writer → List A) → List Writer → OwnPlace → Option A
own_at f ws at = cond (eqb at.writer 0) None (option_and_then (λ (writer : Writer). slice_get (f writer) at.place) (slice_get ws (at.writer - 1)))

own_keeps : {A : Type 0} (f : Writer → List A) (ws : List Writer) (p : ℕ) (y : Writer) (more : List A) → f y ≡ f (get_or ws p no_writer) ++ more → (at : OwnPlace) (x : A) → own_at f ws at ≡ Some x → own_at f (set ws p y) at ≡ Some x
own_keeps f ws p y more e at x there = by_test (eqb at.writer 0) there where
  still : slice_get (f (get_or ws p no_writer)) at.place ≡ Some x → slice_get (f y) at.place ≡ Some x
  still is = rw e (get_more (f (get_or ws p no_writer)) more at.place x is)

  by_test : (b : Bool) → cond b None (option_and_then (λ (writer : Writer). slice_get (f writer) at.place) (slice_get ws (at.writer - 1))) ≡ Some x
      → cond b None (option_and_then (λ (writer : Writer). slice_get (f writer) at.place) (slice_get (set ws p y) (at.writer - 1))) ≡ Some x
  by_test true is = absurd cc
  by_test false is = kept_set (λ (writer : Writer). slice_get (f writer) at.place) ws p (at.writer - 1) y no_writer x still is

-- what holds of records and of claims holds of both
pub held_keeps : (old new : List Writer) → ((at : OwnPlace) (r : Record) → record_at old at ≡ Some r → record_at new at ≡ Some r) → ((at : OwnPlace) (c : Claimed) → claim_at old at ≡ Some c → claim_at new at ≡ Some c) → Keeps old new
held_keeps old new records claims (entry.Call at) held e = by_option (record_at old at) refl e where
  by_option : (o : Option Record) → record_at old at ≡ o → option_map HeldCall o ≡ Some held → option_map HeldCall (record_at new at) ≡ Some held
  by_option None is e = absurd cc
  by_option (Some r) is e = ap (option_map HeldCall) (records at r is) ∙ e
held_keeps old new records claims (entry.Claim at) held e = by_option (claim_at old at) refl e where
  by_option : (o : Option Claimed) → claim_at old at ≡ o → option_map HeldClaim o ≡ Some held → option_map HeldClaim (claim_at new at) ≡ Some held
  by_option None is e = absurd cc
  by_option (Some c) is e = ap (option_map HeldClaim) (claims at c is) ∙ e

pub keeps_more : (ws : List Writer) (p : ℕ) (y : Writer) (more : List Record) (more_claims : List Claimed) → y.records ≡ (get_or ws p no_writer).records ++ more → y.claims ≡ (get_or ws p no_writer).claims ++ more_claims → Keeps ws (set ws p y)
keeps_more ws p y more more_claims records claims =
    held_keeps ws (set ws p y) (own_keeps (λ (w : Writer). w.records) ws p y more records) (own_keeps (λ (w : Writer). w.claims) ws p y more_claims claims)

module _ (done : List Mark) (calls : Calls) (is : IsAfter done calls) (n : ℕ) (some : 0 < n) (below : n - 1 < length calls.writers) where
  abbrev pub old_writer : Writer
  old_writer = get_or calls.writers (n - 1) no_writer

  not_zero : eqb n 0 ≡ false
  not_zero = grind (arith, nat_tests)

  pub here : IsWriterAfter done n old_writer
  here = let all = is.each_writer n in rw not_zero at all

  pub claims_here : IsClaimerAfter done n old_writer
  claims_here = let all = is.each_claimer n in rw not_zero at all

  pub owner : IsOwned done old_writer
  owner = is.owned (n - 1) no_writer below

  -- each writer, where this one changed by a step of its own
  pub each_writer_now : (mark : Mark) (y : Writer) → ((k : ℕ) → eqb k n ≡ false → is_step_of k mark ≡ false) → IsWriterAfter (done ++ mark ∷ []) n y
      → (k : ℕ) → IsWriterAfter (done ++ mark ∷ []) k (writer_at (set calls.writers (n - 1) y) k)
  each_writer_now mark y others now k =
      subst (IsWriterAfter (done ++ mark ∷ []) k) (sym (writer_at-set calls.writers n k y some below))
      (each_set (IsWriterAfter (done ++ mark ∷ [])) (writer_at calls.writers) n y now (λ j differs. stays done j (writer_at calls.writers j) mark (others j differs) (is.each_writer j)) k)

  -- each writer's claims, where those of this one are as they were
  pub claims_kept : (y : Writer) → AreKept y old_writer → (k : ℕ) → AreKept (writer_at (set calls.writers (n - 1) y) k) (writer_at calls.writers k)
  claims_kept y kept k =
      subst (λ (w : Writer). AreKept w (writer_at calls.writers k)) (sym (writer_at-set calls.writers n k y some below))
      (each_set (λ j w. AreKept w (writer_at calls.writers j)) (writer_at calls.writers) n y (rw not_zero kept) (λ j differs. same_kept (writer_at calls.writers j)) k)

  pub claimers_now : (mark : Mark) (y : Writer) → IsStill mark → AreKept y old_writer → (k : ℕ) → IsClaimerAfter (done ++ mark ∷ []) k (writer_at (set calls.writers (n - 1) y) k)
  claimers_now mark y still kept = claimers-stay done mark calls.writers (set calls.writers (n - 1) y) still is.each_claimer (claims_kept y kept)

  -- the records of the applications' rings stay where they are
  pub names_now : (y : Writer) → y.apid ≡ old_writer.apid → map apid_of_writer (set calls.writers (n - 1) y) ≡ map apid_of_writer calls.writers
  names_now y same = map-set_same apid_of_writer calls.writers (n - 1) y no_writer same

  pub owned_now : (y : Writer) → IsOwned done y → All (IsOwned done) (set calls.writers (n - 1) y)
  owned_now y own = All-set (IsOwned done) calls.writers (n - 1) y own is.owned

  -- the capacity of an application that is there
  capacity_is : (a : ℕ) → a < length calls.apps → capacity_of done a ≡ (get_or calls.apps a no_app).spec.capacity
  capacity_is a below_apps =
      let line : slice_get (apps done) a ≡ Some (line_of (get_or calls.apps a no_app)) =
      ap (λ (xs : List AppLine). slice_get xs a) (sym is.apps_are) ∙ slice_get-map line_of calls.apps a ∙ rw (there calls.apps a no_app below_apps) refl in
      rw line refl

  -- whether its ring is full
  pub full_by : (a : ℕ) (app : App) → a < length calls.apps → app ≡ get_or calls.apps a no_app → is_full a done ≡ nat_le app.spec.capacity (waiting app.ring)
  full_by a app below_apps is_app =
      let app_now : IsAppAfter done calls.writers a app = subst (IsAppAfter done calls.writers a) (sym is_app) (is.each_app a) in
      let capacity : capacity_of done a ≡ app.spec.capacity = capacity_is a below_apps ∙ ap (λ (x : App). x.spec.capacity) (sym is_app) in
      let count : length (pushes a done) ≡ length app.ring.entries =
      sym (length-map (pushes a done) as_pushed) ∙ ap (λ (hs : List (Option Held)). length hs) (sym app_now.ring_is) ∙ length-map app.ring.entries (held_at calls.writers) in
      let held : held_by a done ≡ waiting app.ring = rw (count, app_now.taken_is) refl in
      rw (capacity, held) refl

  -- a call is queued
  module _ (c : Call) (e : old_writer.to_push ≡ Some c) where
    its_number : eqb c.item.writer n ≡ true
    its_number = own_push done n c (here.push_is ∙ e)

    its_app : c.item.app ≡ old_writer.app
    its_app = subst (λ o. IfSome o (λ (call : Call). call.item.app ≡ old_writer.app)) e owner.pushes

    other_writers : (k : ℕ) → eqb k n ≡ false → eqb c.item.writer k ≡ false
    other_writers k differs = apart c.item.writer n k (alike c.item.writer n its_number) differs

    pub refused : IsAfter (done ++ Refused c ∷ []) (record { apps = calls.apps; writers = set calls.writers (n - 1) (turned_away old_writer (Some c)) })
    refused =
        let y = turned_away old_writer (Some c) in
        goes_on done (Refused c) calls (record { apps = calls.apps; writers = set calls.writers (n - 1) y }) (record { no_app_line = refl; no_context_line = refl; no_writer_line = refl }) is
        refl (λ apid. refl) (names_now y refl)
        (owned_now y (record { app_is = owner.app_is; pushes = tt {0}; counts = its_app }))
        (each_writer_now (Refused c) y other_writers (refuses done n old_writer c its_number e here))
        (claimers_now (Refused c) y (record { no_claim = refl; no_announcement = refl }) (record { claims_is = refl; announced_is = refl; app_is = refl }))
        (λ k. app-stays done calls.writers (set calls.writers (n - 1) y) k (get_or calls.apps k no_app) (Refused c)
        (record { not_pushed = refl; not_taken = refl; not_lost = refl; not_counted = refl })
        (keeps_more calls.writers (n - 1) y [] [] (sym (append-nil old_writer.records)) (sym (append-nil old_writer.claims))) (is.each_app k))
        (claimed-stay done (Refused c) calls.apps calls.apps refl is.claimed_are (λ k. refl))

    pub taken_in : (a : ℕ) (app : App) → a ≡ old_writer.app → a < length calls.apps → app ≡ get_or calls.apps a no_app →
        let at : OwnPlace = record { writer = n; place = length old_writer.records } in
        IsAfter (done ++ Queued c ∷ []) (record {
          apps = set calls.apps a (record app { ring = record { entries = app.ring.entries ++ entry.Call at ∷ []; gone = app.ring.gone } });
          writers = set calls.writers (n - 1) (answered old_writer answers.Queued (Some c));
        })
    taken_in a app its below_apps is_app =
        let y = answered old_writer answers.Queued (Some c) in
        let at : OwnPlace = record { writer = n; place = length old_writer.records } in
        let z : App = record app { ring = record { entries = app.ring.entries ++ entry.Call at ∷ []; gone = app.ring.gone } } in
        let keeps = keeps_more calls.writers (n - 1) y (recorded c answers.Queued ∷ []) [] refl (sym (append-nil old_writer.claims)) in
        let spec : z.spec ≡ (get_or calls.apps a no_app).spec = ap (λ (x : App). x.spec) is_app in
        let contexts : z.contexts ≡ (get_or calls.apps a no_app).contexts = ap (λ (x : App). x.contexts) is_app in
        let same_app : c.item.app ≡ a = its_app ∙ sym its in
        let found_record : record_at (set calls.writers (n - 1) y) at ≡ Some (recorded c answers.Queued) = rw (not_zero, slice_get-set calls.writers (n - 1) y below) (get_end old_writer.records (recorded c answers.Queued)) in
        let found : held_at (set calls.writers (n - 1) y) (entry.Call at) ≡ as_pushed (OfCall c) = ap (option_map HeldCall) found_record in
        let in_ring : pushed_of a (Queued c) ≡ Some (OfCall c) = ap (λ (b : Bool). cond b (Some (OfCall c)) None) (eq-eqb c.item.app a same_app) in
        goes_on done (Queued c) calls (record { apps = set calls.apps a z; writers = set calls.writers (n - 1) y }) (record { no_app_line = refl; no_context_line = refl; no_writer_line = refl }) is
        (lines_set calls.apps a z spec) (contexts_set calls.apps a z spec contexts) (names_now y refl)
        (owned_now y (record { app_is = owner.app_is; pushes = tt {0}; counts = tt {0} }))
        (each_writer_now (Queued c) y other_writers (queues done n old_writer c its_number e here))
        (claimers_now (Queued c) y (record { no_claim = refl; no_announcement = refl }) (record { claims_is = refl; announced_is = refl; app_is = refl }))
        (λ k. subst (IsAppAfter (done ++ Queued c ∷ []) (set calls.writers (n - 1) y) k) (sym (get_or-set calls.apps a k z no_app below_apps))
        (each_set (IsAppAfter (done ++ Queued c ∷ []) (set calls.writers (n - 1) y)) (λ j. get_or calls.apps j no_app) a z
        (app-pushes done calls.writers (set calls.writers (n - 1) y) a app (Queued c) (OfCall c) (entry.Call at) in_ring refl refl refl keeps found (subst (IsAppAfter done calls.writers a) (sym is_app) (is.each_app a)))
        (λ j differs. app-stays done calls.writers (set calls.writers (n - 1) y) j (get_or calls.apps j no_app) (Queued c)
        (record { not_pushed = rw (apart c.item.app a j same_app differs) refl; not_taken = refl; not_lost = refl; not_counted = refl })
        keeps (is.each_app j))
        k))
        (claimed-stay done (Queued c) calls.apps (set calls.apps a z) refl is.claimed_are (λ k. told_set (λ (x : App). x.claimed) calls.apps a k z no_app (ap (λ (x : App). x.claimed) is_app)))

    pub fullness : (a : ℕ) (app : App) → a ≡ old_writer.app → a < length calls.apps → app ≡ get_or calls.apps a no_app → is_full c.item.app done ≡ nat_le app.spec.capacity (waiting app.ring)
    fullness a app its below_apps is_app = ap (λ (k : ℕ). is_full k done) (its_app ∙ sym its) ∙ full_by a app below_apps is_app

  -- a call is counted
  module _ (c : Call) (e : old_writer.to_count ≡ Some c) where
    its_count : eqb c.item.writer n ≡ true
    its_count = own_count done n c (here.count_is ∙ e)

    app_of_count : c.item.app ≡ old_writer.app
    app_of_count = subst (λ o. IfSome o (λ (call : Call). call.item.app ≡ old_writer.app)) e owner.counts

    not_pushed : old_writer.to_push ≡ None
    not_pushed = sym here.push_is ∙ one_stage done n c (here.count_is ∙ e)

    pub counted_in : (a : ℕ) (app : App) → a ≡ old_writer.app → a < length calls.apps → app ≡ get_or calls.apps a no_app → (at : Entry) →
        IsAfter (done ++ Counted c ∷ []) (record {
          apps = set calls.apps a (record app { losses = record { entries = app.losses.entries ++ at ∷ []; gone = app.losses.gone } });
          writers = set calls.writers (n - 1) (answered old_writer answers.Lost (Some c));
        })
    counted_in a app its below_apps is_app at =
        let y = answered old_writer answers.Lost (Some c) in
        let z : App = record app { losses = record { entries = app.losses.entries ++ at ∷ []; gone = app.losses.gone } } in
        let keeps = keeps_more calls.writers (n - 1) y (recorded c answers.Lost ∷ []) [] refl (sym (append-nil old_writer.claims)) in
        let spec : z.spec ≡ (get_or calls.apps a no_app).spec = ap (λ (x : App). x.spec) is_app in
        let contexts : z.contexts ≡ (get_or calls.apps a no_app).contexts = ap (λ (x : App). x.contexts) is_app in
        let same_app : c.item.app ≡ a = app_of_count ∙ sym its in
        goes_on done (Counted c) calls (record { apps = set calls.apps a z; writers = set calls.writers (n - 1) y }) (record { no_app_line = refl; no_context_line = refl; no_writer_line = refl }) is
        (lines_set calls.apps a z spec) (contexts_set calls.apps a z spec contexts) (names_now y refl)
        (owned_now y (record { app_is = owner.app_is; pushes = tt {0}; counts = tt {0} }))
        (each_writer_now (Counted c) y (λ k differs. apart c.item.writer n k (alike c.item.writer n its_count) differs) (counts done n old_writer c its_count not_pushed e here))
        (claimers_now (Counted c) y (record { no_claim = refl; no_announcement = refl }) (record { claims_is = refl; announced_is = refl; app_is = refl }))
        (λ k. subst (IsAppAfter (done ++ Counted c ∷ []) (set calls.writers (n - 1) y) k) (sym (get_or-set calls.apps a k z no_app below_apps))
        (each_set (IsAppAfter (done ++ Counted c ∷ []) (set calls.writers (n - 1) y)) (λ j. get_or calls.apps j no_app) a z
        (app-loses done calls.writers (set calls.writers (n - 1) y) a app c at (eq-eqb c.item.app a same_app) keeps (subst (IsAppAfter done calls.writers a) (sym is_app) (is.each_app a)))
        (λ j differs. app-stays done calls.writers (set calls.writers (n - 1) y) j (get_or calls.apps j no_app) (Counted c)
        (record { not_pushed = refl; not_taken = refl; not_lost = refl; not_counted = apart c.item.app a j same_app differs })
        keeps (is.each_app j))
        k))
        (claimed-stay done (Counted c) calls.apps (set calls.apps a z) refl is.claimed_are (λ k. told_set (λ (x : App). x.claimed) calls.apps a k z no_app (ap (λ (x : App). x.claimed) is_app)))

-- ---- a claim is pushed, and one is made

-- a writer with other claims has the same calls, and an application with more of them the same ring
with_claims : (done : List Mark) (n : ℕ) (w : Writer) (claims : List Claimed) (announced : ℕ) → IsWriterAfter done n w → IsWriterAfter done n (record w { claims = claims; announced = announced })
with_claims done n w claims announced is = record { begun = is.begun; counter = is.counter; push_is = is.push_is; count_is = is.count_is; records_are = is.records_are }

with_claim : (done : List Mark) (ws : List Writer) (number : ℕ) (app : App) (claimed : ℕ) → IsAppAfter done ws number app → IsAppAfter done ws number (record app { claimed = claimed })
with_claim done ws number app claimed is = record { ring_is = is.ring_is; taken_is = is.taken_is; pending_is = is.pending_is; told_at_most = is.told_at_most }

module _ (done : List Mark) (calls : Calls) (is : IsAfter done calls) (n : ℕ) (some : 0 < n) (below : n - 1 < length calls.writers) (c : Claimed) where
  abbrev claimer : Writer
  claimer = get_or calls.writers (n - 1) no_writer

  some_number : eqb n 0 ≡ false
  some_number = grind (arith, nat_tests)

  -- the other writers' claims, and this one's
  others_now : (mark : Mark) (y : Writer) → eqb c.writer n ≡ true → ((k : ℕ) → eqb c.writer k ≡ false → IsClaimerAfter done k (writer_at calls.writers k) → IsClaimerAfter (done ++ mark ∷ []) k (writer_at calls.writers k))
      → IsClaimerAfter (done ++ mark ∷ []) n y → (k : ℕ) → IsClaimerAfter (done ++ mark ∷ []) k (writer_at (set calls.writers (n - 1) y) k)
  others_now mark y number others now k =
      subst (IsClaimerAfter (done ++ mark ∷ []) k) (sym (writer_at-set calls.writers n k y some below))
      (each_set (IsClaimerAfter (done ++ mark ∷ [])) (writer_at calls.writers) n y now (λ j differs. others j (apart c.writer n j (alike c.writer n number) differs) (is.each_claimer j)) k)

  -- each writer's calls stay
  calls_stay : (mark : Mark) (y : Writer) → ((k : ℕ) → is_step_of k mark ≡ false) → IsWriterAfter (done ++ mark ∷ []) n y → (k : ℕ) → IsWriterAfter (done ++ mark ∷ []) k (writer_at (set calls.writers (n - 1) y) k)
  calls_stay mark y no_step now = each_writer_now done calls is n some below mark y (λ k differs. no_step k) now

  -- the ring is full, and nothing changes
  pub held_back : IsAfter (done ++ HeldBack c ∷ []) calls
  held_back =
      goes_on done (HeldBack c) calls calls (record { no_app_line = refl; no_context_line = refl; no_writer_line = refl }) is refl (λ apid. refl) refl is.owned
      (λ k. stays done k (writer_at calls.writers k) (HeldBack c) refl (is.each_writer k))
      (claimers-stay done (HeldBack c) calls.writers calls.writers (record { no_claim = refl; no_announcement = refl }) is.each_claimer (λ k. same_kept (writer_at calls.writers k)))
      (λ k. app-stays done calls.writers calls.writers k (get_or calls.apps k no_app) (HeldBack c) (record { not_pushed = refl; not_taken = refl; not_lost = refl; not_counted = refl })
      (λ at held e. e) (is.each_app k))
      (claimed-stay done (HeldBack c) calls.apps calls.apps refl is.claimed_are (λ k. refl))

  pub announced_in : eqb c.writer n ≡ true → slice_get claimer.claims claimer.announced ≡ Some c → (a : ℕ) (app : App) → c.app ≡ a → a < length calls.apps → app ≡ get_or calls.apps a no_app →
      let at : OwnPlace = record { writer = n; place = claimer.announced } in
      IsAfter (done ++ Announced c ∷ []) (record {
        apps = set calls.apps a (record app { ring = record { entries = app.ring.entries ++ entry.Claim at ∷ []; gone = app.ring.gone } });
        writers = set calls.writers (n - 1) (record claimer { announced = claimer.announced + 1 });
      })
  announced_in number first a app same_app below_apps is_app =
      let y : Writer = record claimer { announced = claimer.announced + 1 } in
      let at : OwnPlace = record { writer = n; place = claimer.announced } in
      let z : App = record app { ring = record { entries = app.ring.entries ++ entry.Claim at ∷ []; gone = app.ring.gone } } in
      let keeps = keeps_more calls.writers (n - 1) y [] [] (sym (append-nil claimer.records)) (sym (append-nil claimer.claims)) in
      let spec : z.spec ≡ (get_or calls.apps a no_app).spec = ap (λ (x : App). x.spec) is_app in
      let contexts : z.contexts ≡ (get_or calls.apps a no_app).contexts = ap (λ (x : App). x.contexts) is_app in
      let found_claim : claim_at (set calls.writers (n - 1) y) at ≡ Some c = rw (some_number, slice_get-set calls.writers (n - 1) y below) first in
      let found : held_at (set calls.writers (n - 1) y) (entry.Claim at) ≡ as_pushed (OfClaim c) = ap (option_map HeldClaim) found_claim in
      let in_ring : pushed_of a (Announced c) ≡ Some (OfClaim c) = ap (λ (b : Bool). cond b (Some (OfClaim c)) None) (eq-eqb c.app a same_app) in
      let own = owner done calls is n some below in
      goes_on done (Announced c) calls (record { apps = set calls.apps a z; writers = set calls.writers (n - 1) y }) (record { no_app_line = refl; no_context_line = refl; no_writer_line = refl }) is
      (lines_set calls.apps a z spec) (contexts_set calls.apps a z spec contexts) (names_now done calls is n some below y refl)
      (owned_now done calls is n some below y (record { app_is = own.app_is; pushes = own.pushes; counts = own.counts }))
      (calls_stay (Announced c) y (λ k. refl) (with_claims (done ++ Announced c ∷ []) n claimer claimer.claims (claimer.announced + 1) (stays done n claimer (Announced c) refl (here done calls is n some below))))
      (others_now (Announced c) y number (λ k other. announced-apart done k (writer_at calls.writers k) c other) (claimer-announces done n claimer c number first (claims_here done calls is n some below)))
      (λ k. subst (IsAppAfter (done ++ Announced c ∷ []) (set calls.writers (n - 1) y) k) (sym (get_or-set calls.apps a k z no_app below_apps))
      (each_set (IsAppAfter (done ++ Announced c ∷ []) (set calls.writers (n - 1) y)) (λ j. get_or calls.apps j no_app) a z
      (app-pushes done calls.writers (set calls.writers (n - 1) y) a app (Announced c) (OfClaim c) (entry.Claim at) in_ring refl refl refl keeps found (subst (IsAppAfter done calls.writers a) (sym is_app) (is.each_app a)))
      (λ j differs. app-stays done calls.writers (set calls.writers (n - 1) y) j (get_or calls.apps j no_app) (Announced c)
      (record { not_pushed = rw (apart c.app a j same_app differs) refl; not_taken = refl; not_lost = refl; not_counted = refl })
      keeps (is.each_app j))
      k))
      (claimed-stay done (Announced c) calls.apps (set calls.apps a z) refl is.claimed_are (λ k. told_set (λ (x : App). x.claimed) calls.apps a k z no_app (ap (λ (x : App). x.claimed) is_app)))

  pub claimed_in : eqb c.writer n ≡ true → c.app ≡ claimer.app → (a : ℕ) (app : App) → c.app ≡ a → a < length calls.apps → app ≡ get_or calls.apps a no_app →
      IsAfter (done ++ HasClaim c ∷ []) (record {
        apps = set calls.apps a (record app { claimed = app.claimed + 1 });
        writers = set calls.writers (n - 1) (record claimer { claims = claimer.claims ++ c ∷ [] });
      })
  claimed_in number its a app same_app below_apps is_app =
      let y : Writer = record claimer { claims = claimer.claims ++ c ∷ [] } in
      let z : App = record app { claimed = app.claimed + 1 } in
      let keeps = keeps_more calls.writers (n - 1) y [] (c ∷ []) (sym (append-nil claimer.records)) refl in
      let spec : z.spec ≡ (get_or calls.apps a no_app).spec = ap (λ (x : App). x.spec) is_app in
      let contexts : z.contexts ≡ (get_or calls.apps a no_app).contexts = ap (λ (x : App). x.contexts) is_app in
      let own = owner done calls is n some below in
      let app_now : IsAppAfter done calls.writers a app = subst (IsAppAfter done calls.writers a) (sym is_app) (is.each_app a) in
      goes_on done (HasClaim c) calls (record { apps = set calls.apps a z; writers = set calls.writers (n - 1) y }) (record { no_app_line = refl; no_context_line = refl; no_writer_line = refl }) is
      (lines_set calls.apps a z spec) (contexts_set calls.apps a z spec contexts) (names_now done calls is n some below y refl)
      (owned_now done calls is n some below y (record { app_is = own.app_is; pushes = own.pushes; counts = own.counts }))
      (calls_stay (HasClaim c) y (λ k. refl) (with_claims (done ++ HasClaim c ∷ []) n claimer (claimer.claims ++ c ∷ []) claimer.announced (stays done n claimer (HasClaim c) refl (here done calls is n some below))))
      (others_now (HasClaim c) y number (λ k other. claimer-apart done k (writer_at calls.writers k) c other) (claimer-claims done n claimer c number its (claims_here done calls is n some below)))
      (λ k. subst (IsAppAfter (done ++ HasClaim c ∷ []) (set calls.writers (n - 1) y) k) (sym (get_or-set calls.apps a k z no_app below_apps))
      (each_set (IsAppAfter (done ++ HasClaim c ∷ []) (set calls.writers (n - 1) y)) (λ j. get_or calls.apps j no_app) a z
      (with_claim (done ++ HasClaim c ∷ []) (set calls.writers (n - 1) y) a app (app.claimed + 1)
      (app-stays done calls.writers (set calls.writers (n - 1) y) a app (HasClaim c) (record { not_pushed = refl; not_taken = refl; not_lost = refl; not_counted = refl }) keeps app_now))
      (λ j differs. app-stays done calls.writers (set calls.writers (n - 1) y) j (get_or calls.apps j no_app) (HasClaim c)
      (record { not_pushed = refl; not_taken = refl; not_lost = refl; not_counted = refl })
      keeps (is.each_app j))
      k))
      (λ k. subst (λ (x : App). length (claims_on k (done ++ HasClaim c ∷ [])) ≡ x.claimed) (sym (get_or-set calls.apps a k z no_app below_apps))
      (each_set (λ j (x : App). length (claims_on j (done ++ HasClaim c ∷ [])) ≡ x.claimed) (λ j. get_or calls.apps j no_app) a z
      (let one : ◌≡◌ {A = ℕ} (cond (eqb c.app a) 1 0) 1 = ap (λ (b : Bool). cond b 1 0) (eq-eqb c.app a same_app) in
      omega (arith, claimed-more a done c, one, is.claimed_are a, ap (λ (x : App). x.claimed) is_app))
      (λ j differs.
      (let none : ◌≡◌ {A = ℕ} (cond (eqb c.app j) 1 0) 0 = ap (λ (b : Bool). cond b 1 0) (apart c.app a j same_app differs) in
      omega (arith, claimed-more j done c, none, is.claimed_are j)))
      k))
