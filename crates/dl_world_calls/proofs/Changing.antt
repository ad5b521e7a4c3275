-- What all log calls are after a mark of the daemon.
use Rattle.std.proofs.Common.{◌≡◌, ℕ, ◌+◌, ◌<◌, true, false, eqb, eq-eqb, get_or, set, List, [], ◌∷◌, ◌++◌, length, Option, Some, None, refl, sym, ap, subst, ◌∙◌}
use Rattle.std.specs.Prelude.{map, slice_get, option_map, IsSome}
use Rattle.std.proofs.lemmas.Option.{slice_get-map, slice_get_within}
use Rattle.dl_bytes.specs.Claim.{Claimed}
use Rattle.dl_bytes.specs.Number.{◌>>=◌}
use Rattle.dl_bytes.specs.declared.moment.Moment.{Moment}
use Rattle.dl_events.specs.declared.event.Event.{Event}
use Rattle.dl_events.specs.declared.event.Event.TheVariants as event
use Rattle.dl_script_model.specs.Marks.{Mark, Noted, Clocked, LevelsWait, Fed, Heard, Answered, Injected, Handed, is_step_of, is_taken_of, is_lost_of, pushes, taken}
use Rattle.dl_script_model.specs.Steps.{just}
use Rattle.dl_world_calls.specs.declared.queue.Entry.{Entry}
use Rattle.dl_world_calls.specs.State.{App, Writer, Calls, Held, held_at, as_held, next_held}
use Rattle.dl_world_calls.specs.Follows.{no_app, writer_at, as_pushed, is_no_call, IsAppAfter, IsAfter, Does}
use Rattle.dl_world_calls.proofs.WriterMarks.{stays}
use Rattle.dl_world_calls.proofs.AppMarks.{IsApart, app-stays, app-takes, app-tells}
use Rattle.dl_world_calls.proofs.ClaimMarks.{IsStill, claimers-stay, claimed-stay, same_kept}
use Rattle.dl_world_calls.proofs.Places.{get_or-set, each_set, told_set, any_default, there, found, apart}
use Rattle.dl_world_calls.proofs.Following.{IsQuiet, goes_on, lines_set, contexts_set}
use Rattle.dl_world_calls.proofs.Declaring.{keeps_all}

-- ---- a mark that is none of theirs

pub others-stay : (done : List Mark) (mark : Mark) (calls : Calls) → IsQuiet mark → ((k : ℕ) → is_step_of k mark ≡ false) → IsStill mark → ((j : ℕ) → IsApart j mark) → IsAfter done calls → IsAfter (done ++ mark ∷ []) calls
others-stay done mark calls quiet no_step still no_app_mark is =
    goes_on done mark calls calls quiet is refl (λ apid. refl) refl is.owned
    (λ k. stays done k (writer_at calls.writers k) mark (no_step k) (is.each_writer k))
    (claimers-stay done mark calls.writers calls.writers still is.each_claimer (λ k. same_kept (writer_at calls.writers k)))
    (λ j. app-stays done calls.writers calls.writers j (get_or calls.apps j no_app) mark (no_app_mark j) (keeps_all calls.writers) (is.each_app j))
    (claimed-stay done mark calls.apps calls.apps still.no_claim is.claimed_are (λ k. refl))

apart_mark : (mark : Mark) → is_no_call mark ≡ true → (j : ℕ) → IsApart j mark
apart_mark (Noted (event.Log app writer call moment)) e j = absurd cc
apart_mark (Noted (event.Lost app count moment)) e j = absurd cc
apart_mark (Noted (event.Claim claim moment)) e j = absurd cc
apart_mark (Noted (event.User channel msg moment)) e j = record { not_pushed = refl; not_taken = refl; not_lost = refl; not_counted = refl }
apart_mark (Noted (event.Level slot level)) e j = record { not_pushed = refl; not_taken = refl; not_lost = refl; not_counted = refl }
apart_mark (Noted (event.Connect client)) e j = record { not_pushed = refl; not_taken = refl; not_lost = refl; not_counted = refl }
apart_mark (Noted (event.Request client frame answer)) e j = record { not_pushed = refl; not_taken = refl; not_lost = refl; not_counted = refl }
apart_mark (Noted (event.Close client cause)) e j = record { not_pushed = refl; not_taken = refl; not_lost = refl; not_counted = refl }
apart_mark (Clocked moment) e j = record { not_pushed = refl; not_taken = refl; not_lost = refl; not_counted = refl }
apart_mark (LevelsWait later) e j = record { not_pushed = refl; not_taken = refl; not_lost = refl; not_counted = refl }
apart_mark (Fed client bytes) e j = record { not_pushed = refl; not_taken = refl; not_lost = refl; not_counted = refl }
apart_mark (Heard channel bytes) e j = record { not_pushed = refl; not_taken = refl; not_lost = refl; not_counted = refl }
apart_mark (Answered what) e j = record { not_pushed = refl; not_taken = refl; not_lost = refl; not_counted = refl }
apart_mark (Injected app) e j = record { not_pushed = refl; not_taken = refl; not_lost = refl; not_counted = refl }
apart_mark (Handed app) e j = record { not_pushed = refl; not_taken = refl; not_lost = refl; not_counted = refl }
apart_mark _ e j = absurd cc

quiet_mark : (mark : Mark) → is_no_call mark ≡ true → IsQuiet mark
quiet_mark (Noted e) is = record { no_app_line = refl; no_context_line = refl; no_writer_line = refl }
quiet_mark (Clocked moment) is = record { no_app_line = refl; no_context_line = refl; no_writer_line = refl }
quiet_mark (LevelsWait later) is = record { no_app_line = refl; no_context_line = refl; no_writer_line = refl }
quiet_mark (Fed client bytes) is = record { no_app_line = refl; no_context_line = refl; no_writer_line = refl }
quiet_mark (Heard channel bytes) is = record { no_app_line = refl; no_context_line = refl; no_writer_line = refl }
quiet_mark (Answered what) is = record { no_app_line = refl; no_context_line = refl; no_writer_line = refl }
quiet_mark (Injected app) is = record { no_app_line = refl; no_context_line = refl; no_writer_line = refl }
quiet_mark (Handed app) is = record { no_app_line = refl; no_context_line = refl; no_writer_line = refl }
quiet_mark _ is = absurd cc

no_step : (mark : Mark) → is_no_call mark ≡ true → (k : ℕ) → is_step_of k mark ≡ false
no_step (Noted e) is k = refl
no_step (Clocked moment) is k = refl
no_step (LevelsWait later) is k = refl
no_step (Fed client bytes) is k = refl
no_step (Heard channel bytes) is k = refl
no_step (Answered what) is k = refl
no_step (Injected app) is k = refl
no_step (Handed app) is k = refl
no_step _ is k = absurd cc

still_mark : (mark : Mark) → is_no_call mark ≡ true → IsStill mark
still_mark (Noted e) is = record { no_claim = refl; no_announcement = refl }
still_mark (Clocked moment) is = record { no_claim = refl; no_announcement = refl }
still_mark (LevelsWait later) is = record { no_claim = refl; no_announcement = refl }
still_mark (Fed client bytes) is = record { no_claim = refl; no_announcement = refl }
still_mark (Heard channel bytes) is = record { no_claim = refl; no_announcement = refl }
still_mark (Answered what) is = record { no_claim = refl; no_announcement = refl }
still_mark (Injected app) is = record { no_claim = refl; no_announcement = refl }
still_mark (Handed app) is = record { no_claim = refl; no_announcement = refl }
still_mark _ is = absurd cc

pub no-call-stays : (done : List Mark) (mark : Mark) (calls : Calls) → is_no_call mark ≡ true → IsAfter done calls → IsAfter (done ++ mark ∷ []) calls
no-call-stays done mark calls e is = others-stay done mark calls (quiet_mark mark e) (no_step mark e) (still_mark mark e) (apart_mark mark e) is

-- ---- a mark of one application

app-changed : (done : List Mark) (mark : Mark) (calls : Calls) (a : ℕ) (z : App) → IsQuiet mark → ((k : ℕ) → is_step_of k mark ≡ false) → IsStill mark → a < length calls.apps
    → z.spec ≡ (get_or calls.apps a no_app).spec → z.contexts ≡ (get_or calls.apps a no_app).contexts → z.claimed ≡ (get_or calls.apps a no_app).claimed
    → IsAppAfter (done ++ mark ∷ []) calls.writers a z → ((j : ℕ) → eqb j a ≡ false → IsApart j mark) → IsAfter done calls
    → IsAfter (done ++ mark ∷ []) (record { apps = set calls.apps a z; writers = calls.writers })
app-changed done mark calls a z quiet no_step still below spec contexts claimed now others is =
    goes_on done mark calls (record { apps = set calls.apps a z; writers = calls.writers }) quiet is
    (lines_set calls.apps a z spec) (contexts_set calls.apps a z spec contexts) refl is.owned
    (λ k. stays done k (writer_at calls.writers k) mark (no_step k) (is.each_writer k))
    (claimers-stay done mark calls.writers calls.writers still is.each_claimer (λ k. same_kept (writer_at calls.writers k)))
    (λ k. subst (IsAppAfter (done ++ mark ∷ []) calls.writers k) (sym (get_or-set calls.apps a k z no_app below))
    (each_set (IsAppAfter (done ++ mark ∷ []) calls.writers) (λ j. get_or calls.apps j no_app) a z now
    (λ j differs. app-stays done calls.writers calls.writers j (get_or calls.apps j no_app) mark (others j differs) (keeps_all calls.writers) (is.each_app j)) k))
    (claimed-stay done mark calls.apps (set calls.apps a z) still.no_claim is.claimed_are (λ k. told_set (λ (x : App). x.claimed) calls.apps a k z no_app claimed))

module _ (apps : List App) (ws : List Writer) (now : Calls) (view_is : record { apps = apps; writers = ws } ≡ now) (a : ℕ) (is_there : a < length now.apps) (app : App) (app_is : app ≡ get_or apps a app) where
  below : a < length apps
  below = subst (λ (k : Calls). a < length k.apps) (sym view_is) is_there

  its_app : app ≡ get_or apps a no_app
  its_app = app_is ∙ any_default apps a app no_app below

  abbrev calls : Calls
  calls = record { apps = apps; writers = ws }

  app_now : (done : List Mark) → IsAfter done (record { apps = apps; writers = ws }) → IsAppAfter done ws a app
  app_now done is = subst (IsAppAfter done ws a) (sym its_app) (is.each_app a)

  took-does : (z : App) → z ≡ record app { ring = record { entries = app.ring.entries; gone = app.ring.gone + 1 } } → (e : Event) → is_taken_of a e ≡ true → is_lost_of a (Noted e) ≡ false
      → ((j : ℕ) → eqb j a ≡ false → IsApart j (Noted e)) → Does (just (Noted e)) now (record { apps = set apps a z; writers = ws })
  took-does z z_is e takes not_lost others = subst (λ (old : Calls). Does (just (Noted e)) old (record { apps = set apps a z; writers = ws })) view_is
      (λ done is. rw z_is (app-changed done (Noted e) calls a (record app { ring = record { entries = app.ring.entries; gone = app.ring.gone + 1 } })
      (record { no_app_line = refl; no_context_line = refl; no_writer_line = refl }) (λ k. refl) (record { no_claim = refl; no_announcement = refl }) below
      (ap (λ (x : App). x.spec) its_app) (ap (λ (x : App). x.contexts) its_app) (ap (λ (x : App). x.claimed) its_app)
      (app-takes done ws a app e takes not_lost (app_now done is)) others is))

  pub took-call : (z : App) → z ≡ record app { ring = record { entries = app.ring.entries; gone = app.ring.gone + 1 } } → (writer call : ℕ) (moment : Moment)
      → Does (just (Noted (event.Log a writer call moment))) now (record { apps = set apps a z; writers = ws })
  took-call z z_is writer call moment = took-does z z_is (event.Log a writer call moment) (eq-eqb a a refl) refl
      (λ j differs. record { not_pushed = refl; not_taken = rw (apart a a j refl differs) refl; not_lost = refl; not_counted = refl })

  pub took-claim : (z : App) → z ≡ record app { ring = record { entries = app.ring.entries; gone = app.ring.gone + 1 } } → (claim : Claimed) (moment : Moment) → claim.app ≡ a
      → Does (just (Noted (event.Claim claim moment))) now (record { apps = set apps a z; writers = ws })
  took-claim z z_is claim moment same = took-does z z_is (event.Claim claim moment) (eq-eqb claim.app a same) refl
      (λ j differs. record { not_pushed = refl; not_taken = rw (apart claim.app a j same differs) refl; not_lost = refl; not_counted = refl })

  pub told-does : (z : App) → z ≡ record app { losses = record { entries = app.losses.entries; gone = length app.losses.entries } } → (count : ℕ) (moment : Moment)
      → Does (just (Noted (event.Lost a count moment))) now (record { apps = set apps a z; writers = ws })
  told-does z z_is count moment = subst (λ (old : Calls). Does (just (Noted (event.Lost a count moment))) old (record { apps = set apps a z; writers = ws })) view_is
      (λ done is. rw z_is (app-changed done (Noted (event.Lost a count moment)) calls a (record app { losses = record { entries = app.losses.entries; gone = length app.losses.entries } })
      (record { no_app_line = refl; no_context_line = refl; no_writer_line = refl }) (λ k. refl) (record { no_claim = refl; no_announcement = refl }) below
      (ap (λ (x : App). x.spec) its_app) (ap (λ (x : App). x.contexts) its_app) (ap (λ (x : App). x.claimed) its_app)
      (app-tells done ws a app a count moment (eq-eqb a a refl) (app_now done is))
      (λ j differs. record { not_pushed = refl; not_taken = refl; not_lost = apart a a j refl differs; not_counted = refl })
      is))

-- ---- the first in a ring

-- an application whose ring has a next one is there, and so is that one
pub next_there : (calls : Calls) (a : ℕ) → IsSome (next_held calls a) → (a < length calls.apps) × ((get_or calls.apps a no_app).ring.gone < length (get_or calls.apps a no_app).ring.entries)
next_there calls a some = by_app (slice_get calls.apps a) refl some where
  by_entry : (app : App) (o : Option Entry) → slice_get app.ring.entries app.ring.gone ≡ o → IsSome (o >>= (λ (first : Entry). held_at calls.writers first)) → app.ring.gone < length app.ring.entries
  by_entry app None is some = absurd cc
  by_entry app (Some first) is some = slice_get_within app.ring.entries app.ring.gone first is

  by_app : (o : Option App) → slice_get calls.apps a ≡ o
      → IsSome (o >>= (λ (app : App). slice_get app.ring.entries app.ring.gone >>= (λ (first : Entry). held_at calls.writers first)))
      → (a < length calls.apps) × ((get_or calls.apps a no_app).ring.gone < length (get_or calls.apps a no_app).ring.entries)
  by_app None is some = absurd cc
  by_app (Some app) is some =
      let at = found calls.apps a app no_app is in
      (at.0, subst (λ (x : App). x.ring.gone < length x.ring.entries) (sym at.1) (by_entry app (slice_get app.ring.entries app.ring.gone) refl some))

-- what two options hold alike
both_alike : {A B C : Type 0} (f : A → Option C) (g : B → C) (o : Option A) (p : Option B) → option_map f o ≡ option_map (λ (b : B). Some (g b)) p → (o >>= f) ≡ option_map g p
both_alike f g None None e = refl
both_alike f g None (Some b) e = absurd cc
both_alike f g (Some a) None e = absurd cc
both_alike f g (Some a) (Some b) e = cc

-- what the daemon takes next out of a ring is the first of what it took in that was not taken
pub next_tells : (done : List Mark) (calls : Calls) (a : ℕ) → a < length calls.apps → IsAfter done calls → next_held calls a ≡ option_map as_held (slice_get (pushes a done) (taken a done))
next_tells done calls a below is =
    let app_is : slice_get calls.apps a ≡ Some (get_or calls.apps a no_app) = there calls.apps a no_app below in
    rw app_is (both_alike (held_at calls.writers) as_held (slice_get (get_or calls.apps a no_app).ring.entries (get_or calls.apps a no_app).ring.gone) (slice_get (pushes a done) (taken a done)) both) where
      both : option_map (held_at calls.writers) (slice_get (get_or calls.apps a no_app).ring.entries (get_or calls.apps a no_app).ring.gone) ≡ option_map as_pushed (slice_get (pushes a done) (taken a done))
      both =
          sym (slice_get-map (held_at calls.writers) (get_or calls.apps a no_app).ring.entries (get_or calls.apps a no_app).ring.gone)
          ∙ ap (λ (hs : List (Option Held)). slice_get hs (get_or calls.apps a no_app).ring.gone) (is.each_app a).ring_is
          ∙ ap (λ (k : ℕ). slice_get (map as_pushed (pushes a done)) k) (sym (is.each_app a).taken_is) ∙ slice_get-map as_pushed (pushes a done) (taken a done)
