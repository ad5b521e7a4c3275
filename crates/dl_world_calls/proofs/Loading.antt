-- The load of a call.
use Rattle.std.proofs.Common.{◌≡◌, ◌≢◌, ℕ, ◌+◌, ◌-◌, ◌%◌, ◌<◌, ◌⊎◌, inl, inr, Bool, true, false, cond, eqb, eq-eqb, get_or, set, List, [], ◌∷◌, ◌++◌, length, Option, Some, None, refl, sym, ap, subst, ◌∙◌, arith}
use Rattle.std.specs.Prelude.{map, slice_get}
use Rattle.std.specs.List.{position, position_or_len}
use Rattle.std.specs.Option.{option_map, option_or}
use Rattle.std.specs.Str.{bytes_eq}
use Rattle.std.proofs.lemmas.Option.{slice_get-map}
use Rattle.std.proofs.lemmas.List.{append-nil}
use Rattle.std.proofs.lemmas.Bool.Decides.{nat_tests, eqb_tells}
use Rattle.dl_bytes.specs.Claim.{Claimed}
use Rattle.dl_bytes.specs.Level.{passes}
use Rattle.dl_bytes.specs.Number.{◌>>=◌}
use Rattle.dl_bytes.specs.Context.{Context}
use Rattle.dl_events.specs.declared.record.Answer.TheVariants as answers
use Rattle.dl_script_model.specs.declared.line.CallLine.{CallLine}
use Rattle.dl_script_model.specs.declared.line.ContextLine.{ContextLine}
use Rattle.dl_model.specs.declared.registry.Slot.{Slot}
use Rattle.dl_model.specs.Setting.{Setting}
use Rattle.dl_model.specs.Registry.{slot_of}
use Rattle.dl_model.specs.Journal.{slots_of}
use Rattle.dl_script_model.specs.Marks.{Call, Mark, recorded, Filtered, Passed, journal, to_push, to_count, writers, app_of_writer, number_of, place_of, named_place, contexts_of, claims_of, calls_of, passed_of}
use Rattle.dl_script_model.specs.Steps.{loaded, load}
use Rattle.dl_world_calls.specs.State.{App, Writer, Calls, writer_of, claimed_place, place_named, named, context_in, begun, made_call}
use Rattle.dl_world_calls.specs.Follows.{no_app, no_writer, is_named, IsOwned, IsWriterAfter, IsClaimerAfter, IsAfter}
use Rattle.dl_world_calls.proofs.WriterMarks.{filters, passes_on}
use Rattle.dl_world_calls.proofs.AppMarks.{app-stays}
use Rattle.dl_world_calls.proofs.ClaimMarks.{claimed-stay}
use Rattle.dl_world_calls.proofs.Places.{any_default, apart, there, found, position-map, position_to_len}
use Rattle.dl_world_calls.proofs.Following.{goes_on, here, claims_here, each_writer_now, claimers_now, names_now, owned_now, keeps_more}
use Rattle.dl_world_calls.proofs.Declaring.{number_is}

-- ---- what a call names

-- the writer, the application and the place that a call names
pub record IsNamed (calls : Calls) (line : CallLine) (context : Context) : Type 0 where
  pub some : 0 < line.writer
  pub below : line.writer - 1 < length calls.writers
  pub app_is : (get_or calls.writers (line.writer - 1) no_writer).app ≡ context.app
  pub apid_is : (get_or calls.writers (line.writer - 1) no_writer).apid ≡ context.apid
  pub app_below : context.app < length calls.apps
  pub place_is : place_named (get_or calls.apps context.app no_app) (get_or calls.writers (line.writer - 1) no_writer) line.ctid ≡ Some context.place
  pub ctid_is : context.ctid ≡ line.ctid

abbrev context_with : ℕ → ℕ → List ℕ → List ℕ → Context
context_with app place apid ctid = record { app = app; place = place; apid = apid; ctid = ctid }

pub named_is : (calls : Calls) (line : CallLine) (context : Context) → named calls line ≡ Some context → IsNamed calls line context
named_is calls line context e = by_number (eqb_tells line.writer 0) where
  by_place : 0 < line.writer → (w : Writer) → slice_get calls.writers (line.writer - 1) ≡ Some w → (app : App) → slice_get calls.apps w.app ≡ Some app
      → (o : Option ℕ) → place_named app w line.ctid ≡ o
      → option_map (λ (place : ℕ). context_with w.app place w.apid line.ctid) o ≡ Some context → IsNamed calls line context
  by_place some w w_is app app_is None place_is e = absurd cc
  by_place some w w_is app app_is (Some place) place_is e =
      let same : context_with w.app place w.apid line.ctid ≡ context = cc in
      let at = found calls.writers (line.writer - 1) w no_writer w_is in
      let app_at = found calls.apps w.app app no_app app_is in
      subst (IsNamed calls line) same (record {
        some = some;
        below = at.0;
        app_is = ap (λ (x : Writer). x.app) at.1;
        apid_is = ap (λ (x : Writer). x.apid) at.1;
        app_below = app_at.0;
        place_is = rw (app_at.1, at.1) place_is;
        ctid_is = refl;
      })

  by_app : 0 < line.writer → (w : Writer) → slice_get calls.writers (line.writer - 1) ≡ Some w → (o : Option App) → slice_get calls.apps w.app ≡ o
      → (o >>= (λ (app : App). option_map (λ (place : ℕ). context_with w.app place w.apid line.ctid) (place_named app w line.ctid))) ≡ Some context
      → IsNamed calls line context
  by_app some w w_is None app_is e = absurd cc
  by_app some w w_is (Some app) app_is e = by_place some w w_is app app_is (place_named app w line.ctid) refl e

  by_writer : 0 < line.writer → (o : Option Writer) → slice_get calls.writers (line.writer - 1) ≡ o → (o >>= (λ (w : Writer). slice_get calls.apps w.app >>= (λ (app : App). option_map (λ (place : ℕ). context_with w.app place w.apid line.ctid) (place_named app w line.ctid)))) ≡ Some context → IsNamed calls line context
  by_writer some None w_is e = absurd cc
  by_writer some (Some w) w_is e = by_app some w w_is (slice_get calls.apps w.app) refl e

  by_number : ((eqb line.writer 0 ≡ true) × (line.writer ≡ 0)) ⊎ ((eqb line.writer 0 ≡ false) × (line.writer ≢ 0)) → IsNamed calls line context
  by_number (inl zero) = let none : (None >>= (λ (w : Writer). slice_get calls.apps w.app >>= (λ (app : App). option_map (λ (place : ℕ). context_with w.app place w.apid line.ctid) (place_named app w line.ctid)))) ≡ Some context = rw zero.0 at e in absurd cc
  by_number (inr other) = by_writer (omega (arith, other.1)) (slice_get calls.writers (line.writer - 1)) refl (rw other.0 at e)

module _ (done : List Mark) (calls : Calls) (is : IsAfter done calls) (line : CallLine) (context : Context) (names : IsNamed calls line context) where
  w : Writer
  w = get_or calls.writers (line.writer - 1) no_writer

  own : IsOwned done (get_or calls.writers (line.writer - 1) no_writer)
  own = is.owned (line.writer - 1) no_writer names.below

  apid_is : app_of_writer line.writer done ≡ Some context.apid
  apid_is =
      let not_zero : eqb line.writer 0 ≡ false = let some = names.some in grind (arith, nat_tests) in
      let at : slice_get (map (λ (x : Writer). x.apid) calls.writers) (line.writer - 1) ≡ Some context.apid =
      slice_get-map (λ (x : Writer). x.apid) calls.writers (line.writer - 1) ∙ rw (there_now, names.apid_is) refl in
      rw not_zero (ap (λ (ids : List (List ℕ)). slice_get ids (line.writer - 1)) (sym is.writers_are) ∙ at) where
        there_now : slice_get calls.writers (line.writer - 1) ≡ Some (get_or calls.writers (line.writer - 1) no_writer)
        there_now = there calls.writers (line.writer - 1) no_writer names.below

  app_number : number_of context.apid done ≡ Some context.app
  app_number = subst (λ (id : List ℕ). number_of id done ≡ Some context.app) names.apid_is (own.app_is ∙ ap Some names.app_is)

  place_number : named_place line.writer context.apid line.ctid done ≡ Some context.place
  place_number =
      let known : position (λ (app : App). bytes_eq app.spec.apid context.apid) calls.apps ≡ Some context.app = number_is done calls context.apid is.apps_are ∙ app_number in
      let at : position_or_len (is_named context.apid) calls.apps ≡ context.app = (position_to_len (is_named context.apid) calls.apps context.app known).0 in
      let ids : (get_or calls.apps context.app no_app).contexts ≡ map (λ (c : ContextLine). c.ctid) (contexts_of context.apid done) =
      ap (λ (k : ℕ). (get_or calls.apps k no_app).contexts) (sym at) ∙ is.contexts_are context.apid in
      let declared : place_of context.apid line.ctid done ≡ position (λ (id : List ℕ). bytes_eq id line.ctid) (get_or calls.apps context.app no_app).contexts =
      sym (position-map (λ (c : ContextLine). c.ctid) (λ (id : List ℕ). bytes_eq id line.ctid) (contexts_of context.apid done)) ∙ ap (position (λ (id : List ℕ). bytes_eq id line.ctid)) (sym ids) in
      let claims_are = (claims_here done calls is line.writer names.some names.below).claims_are in
      ap (λ (cs : List Claimed). option_or (claimed_place cs line.ctid) (place_of context.apid line.ctid done)) claims_are
      ∙ ap (λ (o : Option ℕ). option_or (claimed_place (get_or calls.writers (line.writer - 1) no_writer).claims line.ctid) o) declared ∙ names.place_is

  -- the call that the load makes
  abbrev pub call_made : Setting → Call
  call_made setting = let slot = slots_of setting (journal done) (slot_of context.app context.place) in record {
    item = record {
      app = context.app;
      writer = line.writer;
      call = 1 + calls_of line.writer done;
      apid = context.apid;
      ctid = line.ctid;
      severity = line.severity;
      at = line.at;
      mcnt = passed_of line.writer done % 256;
      payload = line.payload;
    };
    slot = slot_of context.app context.place;
    version = slot.version;
    held = slot.level;
  }

  pub loaded_is : (setting : Setting) → loaded setting line done ≡ Some (call_made setting)
  loaded_is setting = rw (apid_is, app_number, place_number) refl

  -- the writer begins the call
  pub load-goes : (setting : Setting) (y : Writer) → (get_or calls.writers (line.writer - 1) no_writer).to_push ≡ None → (get_or calls.writers (line.writer - 1) no_writer).to_count ≡ None
      → y ≡ begun (get_or calls.writers (line.writer - 1) no_writer) (call_made setting) → IsAfter (done ++ load setting line done) (record { apps = calls.apps; writers = set calls.writers (line.writer - 1) y })
  load-goes setting y no_push no_count y_is = by_level (passes line.severity (call_made setting).held) refl where
    c : Call
    c = call_made setting

    its_own : eqb line.writer line.writer ≡ true
    its_own = eq-eqb line.writer line.writer refl

    others : (k : ℕ) → eqb k line.writer ≡ false → eqb line.writer k ≡ false
    others k differs = apart line.writer line.writer k refl differs

    by_level : (b : Bool) → passes line.severity (call_made setting).held ≡ b → IsAfter (done ++ load setting line done) (record { apps = calls.apps; writers = set calls.writers (line.writer - 1) y })
    by_level true lets =
        let z : Writer = record (get_or calls.writers (line.writer - 1) no_writer) { passed = ((get_or calls.writers (line.writer - 1) no_writer).passed + 1) % 256; to_push = Some (call_made setting); to_count = None } in
        let same : y ≡ z = y_is ∙ rw lets refl in
        let act : load setting line done ≡ Passed (call_made setting) ∷ [] = rw (loaded_is setting, lets) refl in
        rw (act, same)
        (goes_on done (Passed (call_made setting)) calls (record { apps = calls.apps; writers = set calls.writers (line.writer - 1) z }) (record { no_app_line = refl; no_context_line = refl; no_writer_line = refl }) is
        refl (λ apid. refl) (names_now done calls is line.writer names.some names.below z refl)
        (owned_now done calls is line.writer names.some names.below z (record { app_is = own.app_is; pushes = sym names.app_is; counts = tt {0} }))
        (each_writer_now done calls is line.writer names.some names.below (Passed (call_made setting)) z others
        (passes_on done line.writer (get_or calls.writers (line.writer - 1) no_writer) (call_made setting) its_own no_push no_count (here done calls is line.writer names.some names.below)))
        (claimers_now done calls is line.writer names.some names.below (Passed (call_made setting)) z (record { no_claim = refl; no_announcement = refl }) (record { claims_is = refl; announced_is = refl; app_is = refl }))
        (λ j. app-stays done calls.writers (set calls.writers (line.writer - 1) z) j (get_or calls.apps j no_app) (Passed (call_made setting))
        (record { not_pushed = refl; not_taken = refl; not_lost = refl; not_counted = refl })
        (keeps_more calls.writers (line.writer - 1) z [] [] (sym (append-nil (get_or calls.writers (line.writer - 1) no_writer).records)) (sym (append-nil (get_or calls.writers (line.writer - 1) no_writer).claims))) (is.each_app j))
        (claimed-stay done (Passed (call_made setting)) calls.apps calls.apps refl is.claimed_are (λ k. refl)))
    by_level false lets =
        let z : Writer = record (get_or calls.writers (line.writer - 1) no_writer) { records = (get_or calls.writers (line.writer - 1) no_writer).records ++ recorded (call_made setting) answers.Filtered ∷ [] } in
        let same : y ≡ z = y_is ∙ rw lets refl in
        let act : load setting line done ≡ Filtered (call_made setting) ∷ [] = rw (loaded_is setting, lets) refl in
        rw (act, same)
        (goes_on done (Filtered (call_made setting)) calls (record { apps = calls.apps; writers = set calls.writers (line.writer - 1) z }) (record { no_app_line = refl; no_context_line = refl; no_writer_line = refl }) is
        refl (λ apid. refl) (names_now done calls is line.writer names.some names.below z refl)
        (owned_now done calls is line.writer names.some names.below z (record { app_is = own.app_is; pushes = own.pushes; counts = own.counts }))
        (each_writer_now done calls is line.writer names.some names.below (Filtered (call_made setting)) z others
        (filters done line.writer (get_or calls.writers (line.writer - 1) no_writer) (call_made setting) its_own no_push no_count (here done calls is line.writer names.some names.below)))
        (claimers_now done calls is line.writer names.some names.below (Filtered (call_made setting)) z (record { no_claim = refl; no_announcement = refl }) (record { claims_is = refl; announced_is = refl; app_is = refl }))
        (λ j. app-stays done calls.writers (set calls.writers (line.writer - 1) z) j (get_or calls.apps j no_app) (Filtered (call_made setting))
        (record { not_pushed = refl; not_taken = refl; not_lost = refl; not_counted = refl })
        (keeps_more calls.writers (line.writer - 1) z (recorded (call_made setting) answers.Filtered ∷ []) [] refl (sym (append-nil (get_or calls.writers (line.writer - 1) no_writer).claims))) (is.each_app j))
        (claimed-stay done (Filtered (call_made setting)) calls.apps calls.apps refl is.claimed_are (λ k. refl)))

-- ---- the same as a call

pub load-does : (apps : List App) (ws : List Writer) (now : Calls) → record { apps = apps; writers = ws } ≡ now → (line : CallLine) (context : Context) (seen : Slot) → named now line ≡ Some context
    → (w y : Writer) (number mcnt : ℕ) (call : Call) → w ≡ get_or ws (line.writer - 1) w → number ≡ length w.records + 1 → mcnt ≡ w.passed → call ≡ made_call line context seen number mcnt → (w.to_push ≡ None → w.to_count ≡ None → y ≡ begun w call)
    → (setting : Setting) (done : List Mark) → IsAfter done now → slots_of setting (journal done) (slot_of context.app context.place) ≡ seen → to_push line.writer done ≡ None → to_count line.writer done ≡ None
    → IsAfter (done ++ load setting line done) (record { apps = apps; writers = set ws (line.writer - 1) y })
load-does apps ws now view_is line context seen known w y number mcnt call w_is number_is mcnt_is call_is y_is setting done is slot_is no_push no_count =
    load-goes done calls is_here line context names setting y (sym before.push_is ∙ no_push) (sym before.count_is ∙ no_count) made where
      calls : Calls
      calls = record { apps = apps; writers = ws }

      is_here : IsAfter done (record { apps = apps; writers = ws })
      is_here = subst (IsAfter done) (sym view_is) is

      names : IsNamed (record { apps = apps; writers = ws }) line context
      names = named_is (record { apps = apps; writers = ws }) line context (subst (λ (k : Calls). named k line ≡ Some context) (sym view_is) known)

      writer_is : w ≡ get_or ws (line.writer - 1) no_writer
      writer_is = w_is ∙ any_default ws (line.writer - 1) w no_writer names.below

      before : IsWriterAfter done line.writer (get_or ws (line.writer - 1) no_writer)
      before = here done (record { apps = apps; writers = ws }) is_here line.writer names.some names.below

      count_is_so : number ≡ 1 + calls_of line.writer done
      count_is_so =
          let begun_is : calls_of line.writer done ≡ length (get_or ws (line.writer - 1) no_writer).records + 0 = before.begun ∙ rw (sym before.push_is ∙ no_push, sym before.count_is ∙ no_count) refl in
          let records_is : length w.records ≡ length (get_or ws (line.writer - 1) no_writer).records = ap (λ (x : Writer). length x.records) writer_is in
          omega (arith, begun_is, records_is, number_is)

      counter_is_so : mcnt ≡ passed_of line.writer done % 256
      counter_is_so = mcnt_is ∙ ap (λ (x : Writer). x.passed) writer_is ∙ sym before.counter

      call_is_so : call ≡ call_made done (record { apps = apps; writers = ws }) is_here line context names setting
      call_is_so = call_is ∙ rw (count_is_so, counter_is_so, sym names.ctid_is, sym slot_is) refl

      made : y ≡ begun (get_or ws (line.writer - 1) no_writer) (call_made done (record { apps = apps; writers = ws }) is_here line context names setting)
      made =
          y_is (ap (λ (x : Writer). x.to_push) writer_is ∙ sym before.push_is ∙ no_push) (ap (λ (x : Writer). x.to_count) writer_is ∙ sym before.count_is ∙ no_count)
          ∙ rw (call_is_so, writer_is) refl

-- ---- a call that names nothing

-- where a writer, or a context of its application, is not known, nothing is loaded
pub nothing_named : (setting : Setting) (done : List Mark) (calls : Calls) (line : CallLine) → IsAfter done calls → named calls line ≡ None → loaded setting line done ≡ None
nothing_named setting done calls line is none = by_writer (writer_of calls line.writer) refl none where
  ids : app_of_writer line.writer done ≡ option_map (λ (w : Writer). w.apid) (writer_of calls line.writer)
  ids = by_number (eqb line.writer 0) where
    by_number : (b : Bool) → cond b None (slice_get (writers done) (line.writer - 1)) ≡ option_map (λ (w : Writer). w.apid) (cond b None (slice_get calls.writers (line.writer - 1)))
    by_number true = refl
    by_number false = ap (λ (xs : List (List ℕ)). slice_get xs (line.writer - 1)) (sym is.writers_are) ∙ slice_get-map (λ (w : Writer). w.apid) calls.writers (line.writer - 1)

  by_writer : (o : Option Writer) → writer_of calls line.writer ≡ o
      → (o >>= (λ (w : Writer). slice_get calls.apps w.app >>= (λ (app : App). context_in app w line.ctid))) ≡ None → loaded setting line done ≡ None
  by_writer None e nothing = let id : app_of_writer line.writer done ≡ None = ids ∙ ap (option_map (λ (w : Writer). w.apid)) e in rw id refl
  by_writer (Some w) e nothing =
      let id : app_of_writer line.writer done ≡ Some w.apid = ids ∙ ap (option_map (λ (x : Writer). x.apid)) e in
      let own : IsOwned done w = owned_at (eqb line.writer 0) e in
      let app_is : slice_get calls.apps w.app ≡ Some (get_or calls.apps w.app no_app) = there calls.apps w.app no_app (known_place w own).1 in
      let no_context : context_in (get_or calls.apps w.app no_app) w line.ctid ≡ None = rw app_is at nothing in
      let declared : place_of w.apid line.ctid done ≡ position (λ (id : List ℕ). bytes_eq id line.ctid) (get_or calls.apps w.app no_app).contexts =
      sym (position-map (λ (c : ContextLine). c.ctid) (λ (id : List ℕ). bytes_eq id line.ctid) (contexts_of w.apid done))
      ∙ ap (position (λ (id : List ℕ). bytes_eq id line.ctid)) (sym (contexts_are w own)) in
      let no_place : named_place line.writer w.apid line.ctid done ≡ None =
      ap (λ (cs : List Claimed). option_or (claimed_place cs line.ctid) (place_of w.apid line.ctid done)) (claims_at (eqb line.writer 0) e (is.each_claimer line.writer))
      ∙ ap (λ (o : Option ℕ). option_or (claimed_place w.claims line.ctid) o) declared ∙ not_there (place_named (get_or calls.apps w.app no_app) w line.ctid) no_context in
      rw (id, own.app_is, no_place) refl where
        owned_at : (b : Bool) → cond b None (slice_get calls.writers (line.writer - 1)) ≡ Some w → IsOwned done w
        owned_at true e = absurd cc
        owned_at false e = let at = found calls.writers (line.writer - 1) w no_writer e in subst (IsOwned done) at.1 (is.owned (line.writer - 1) no_writer at.0)

        claims_at : (b : Bool) → cond b None (slice_get calls.writers (line.writer - 1)) ≡ Some w → IsClaimerAfter done line.writer (cond b no_writer (get_or calls.writers (line.writer - 1) no_writer)) → claims_of line.writer done ≡ w.claims
        claims_at true e claims = absurd cc
        claims_at false e claims = let at = found calls.writers (line.writer - 1) w no_writer e in claims.claims_are ∙ ap (λ (x : Writer). x.claims) at.1

        known_place : (w : Writer) → IsOwned done w → (position_or_len (is_named w.apid) calls.apps ≡ w.app) × (w.app < length calls.apps)
        known_place w own = position_to_len (is_named w.apid) calls.apps w.app (number_is done calls w.apid is.apps_are ∙ own.app_is)

        contexts_are : (w : Writer) → IsOwned done w → (get_or calls.apps w.app no_app).contexts ≡ map (λ (c : ContextLine). c.ctid) (contexts_of w.apid done)
        contexts_are w own =
            ap (λ (k : ℕ). (get_or calls.apps k no_app).contexts) (sym (known_place w own).0) ∙ is.contexts_are w.apid

        not_there : (o : Option ℕ) → option_map (λ (place : ℕ). context_with w.app place w.apid line.ctid) o ≡ None → o ≡ None
        not_there None e = refl
        not_there (Some place) e = absurd cc
