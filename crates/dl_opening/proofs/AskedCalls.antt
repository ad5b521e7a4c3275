-- What a worker calls is all that the lines ask of its writer.
use Rattle.std.proofs.Common.{◌≡◌, ℕ, zero, suc, ◌+◌, cond, eqb, ltb, Bool, true, false, not, ◌&&◌, ◌||◌, List, [], ◌∷◌, ◌++◌, length, map, replicate, take, Option, Some, None, refl, sym, ap, ◌∙◌, subst, append_assoc, length-append, eq-eqb, arith}
use Rattle.std.specs.Prelude.{find}
use Rattle.std.specs.List.{cons_option, list_any, range_with_len}
use Rattle.std.specs.Option.{option_map_or, option_or}
use Rattle.std.specs.Str.{bytes_eq}
use Rattle.std.proofs.lemmas.Bool.{eqb-true}
use Rattle.std.proofs.lemmas.List.{length-map, length-replicate, map-append, reverse-append, take-append-le, take_all}
use Rattle.std.proofs.lemmas.List.Folds.{list_any-append}
use Rattle.std.proofs.lemmas.List.Quantifiers.{position-Some}
use Rattle.std.proofs.lemmas.Slice.Eq.{bytes_eq-Decides}
use Rattle.dl_bytes.specs.Claim.{Claimed}
use Rattle.dl_bytes.specs.Context.{Context}
use Rattle.dl_bytes.specs.Payload.{Arguments}
use Rattle.dl_bytes.specs.declared.conf.AppSpec.{AppSpec}
use Rattle.dl_bytes.specs.declared.level.Severity.{Severity}
use Rattle.dl_model.specs.Along.{last_that}
use Rattle.dl_script_fields.specs.declared.kind.ScriptKind.TheVariants.{Limit, Unknown}
use Rattle.dl_script_model.specs.declared.line.ClaimLine.{ClaimLine}
use Rattle.dl_script_model.specs.declared.scenario.ScenarioLine.{ScenarioLine}
use Rattle.dl_script_model.specs.declared.scenario.ScenarioLine.TheVariants as line
use Rattle.dl_script.specs.Earlier.{Declared, claims_for, is_claim_of, is_context, is_named, logs_under, noted, nothing, numbered}
use Rattle.dl_script.specs.Playable.{IsRunnable}
use Rattle.dl_script.specs.Spelled.{MayFollow, scenario_claim}
use Rattle.dl_script.specs.declared.claim.ContextName.{ContextName}
use Rattle.dl_script.specs.declared.claim.PlaceName.{PlaceName}
use Rattle.dl_writer.specs.State.{BookState, WriterState, numbers}
use Rattle.dl_crew.specs.Calls.{CallContent, IsClaimOf, behind_from, calls_behind, calls_from, calls_in, calls_of, content, context_named, count_in, counted, handle_of, handles_of, has_name, register_in, registers_of}
use Rattle.dl_crew.specs.Plays.{ArePairs}
use Rattle.dl_opening.specs.Asked.{AskedCall, IsAsked, asked_in, asked_of, count_from, without_slot}
use Rattle.dl_opening.specs.Opening.{IsBookOf, IsOpened}
use Rattle.dl_opening.specs.Scenario.{apps, contexts_of, handles_from, number_in, spec_of, specs_of, writers}
use Rattle.dl_opening.specs.declared.opened.Opened.{Opened}
use Rattle.dl_opening.proofs.ClaimedPlaces.{numbered_still}
use Rattle.dl_opening.proofs.Declared.{map_at}
use Rattle.dl_opening.proofs.FoundContexts.{IsFound, found_from, names}
use Rattle.dl_opening.proofs.Playing.{numbered_here}
use Rattle.dl_opening.proofs.Runnable.{may_claim, no_cause}
use Rattle.dl_lemmas.proofs.Options.{some_is}
use Rattle.dl_lemmas.proofs.Lists.{head_is, tail_is, get_or-there, there}

alike : (call : CallContent) (count : ℕ) → map without_slot (replicate count call) ≡ replicate count (without_slot call)
alike call zero = refl
alike call (suc count) = ap (λ (l : List AskedCall). without_slot call ∷ l) (alike call count)

-- the last that passes, with one more at the end
last_with : {A : Type 0} (p : A → Bool) (xs : List A) (x : A) → last_that p (xs ++ x ∷ []) ≡ cond (p x) (Some x) (last_that p xs)
last_with p xs x = ap (find p) (reverse-append xs (x ∷ []))

-- ---- line by line

-- The writer makes these claims, and its application has this id.
module _ (handles : List Context) (w : WriterState) (apid : List ℕ) (id_so : w.apid ≡ apid) (claims : List Claimed) where
  -- a context that lines name is one of the handles
  abbrev AreThere : List ContextName → Type 0
  AreThere all = (ctid : List ℕ) → list_any (is_named apid ctid) all ≡ true → IsFound apid ctid (find (has_name w.app ctid) handles)

  -- what an id names of the writer's own contexts; it names none only where no line claims it
  abbrev IsOwn : Bool → List ℕ → Option Context → Type 0
  IsOwn claimed ctid None = claimed ≡ false
  IsOwn claimed ctid (Some ctx) = (ctx.apid ≡ apid) × (ctx.ctid ≡ ctid)

  -- that of each id, once these claims were made
  abbrev AreOwn : Declared → List Claimed → Type 0
  AreOwn known done = (ctid : List ℕ) → IsOwn (claims_for known w.push.number ctid) ctid (last_that (has_name w.app ctid) (handles_of w done))

  -- each line asks for the same calls on both sides
  abbrev EachAsks : ℕ → List ScenarioLine → Type 0
  EachAsks before [] = Unit {0}
  EachAsks before (entry ∷ rest) =
      (map without_slot (calls_in handles (handles_of w (take before claims)) w.app w.push.number entry) ≡ asked_in apid w.push.number entry)
      × EachAsks (before + counted (register_in w.push.number entry)) rest

  one_line : (own : List Context) (ctid : List ℕ) (severity : Severity) (count : ℕ) (payload : Arguments) → IsFound apid ctid (context_named handles own w.app ctid)
      → map without_slot (option_map_or (λ (ctx : Context). replicate count (content ctx severity payload)) (context_named handles own w.app ctid) [])
      ≡ replicate count (record { apid = apid; ctid = ctid; severity = severity; payload = payload })
  one_line own ctid severity count payload found =
      ap (λ (o : Option Context). map without_slot (option_map_or (λ (ctx : Context). replicate count (content ctx severity payload)) o [])) found.is
      ∙ alike (content found.ctx severity payload) count
      ∙ ap (λ (id : List ℕ). replicate count (record { apid = id; ctid = found.ctx.ctid; severity = severity; payload = payload })) found.app_so
      ∙ ap (λ (id : List ℕ). replicate count (record { apid = apid; ctid = id; severity = severity; payload = payload })) found.ctid_so

  -- a context that is claimed or declared is found
  found_either : (claimed declared : Bool) (ctid : List ℕ) (own there : Option Context) → (declared || claimed) ≡ true → IsOwn claimed ctid own → (declared ≡ true → IsFound apid ctid there)
      → IsFound apid ctid (option_or own there)
  found_either claimed declared ctid (Some ctx) there one is found = record { ctx = ctx; is = refl; app_so = is.0; ctid_so = is.1 }
  found_either claimed true ctid None there one is found = found refl
  found_either true false ctid None there one is found = absurd cc
  found_either false false ctid None there one is found = absurd cc

  -- one claim more of the writer
  own_more : (known : Declared) (done : List Claimed) (asked : ClaimLine) (claim : Claimed) (id : List ℕ) → asked.writer ≡ w.push.number → IsClaimOf w asked claim → AreOwn known done
      → AreOwn (record known { places = known.places ++ record { writer = asked.writer; apid = id; ctid = asked.ctid } ∷ [] }) (done ++ claim ∷ [])
  own_more known done asked claim id own is so_far ctid =
      let place : PlaceName = record { writer = asked.writer; apid = id; ctid = asked.ctid } in
      let name : claim.ctid ≡ asked.ctid = ap (λ (c : Claimed). c.ctid) is in
      let now : last_that (has_name w.app ctid) (handles_of w (done ++ claim ∷ [])) ≡ cond (bytes_eq asked.ctid ctid) (Some (handle_of w claim)) (last_that (has_name w.app ctid) (handles_of w done)) =
      ap (last_that (has_name w.app ctid)) (map-append (handle_of w) done (claim ∷ [])) ∙ last_with (has_name w.app ctid) (handles_of w done) (handle_of w claim)
      ∙ ap (λ (b : Bool). cond (b && bytes_eq claim.ctid ctid) (Some (handle_of w claim)) (last_that (has_name w.app ctid) (handles_of w done))) (eq-eqb w.app w.app refl)
      ∙ ap (λ (i : List ℕ). cond (bytes_eq i ctid) (Some (handle_of w claim)) (last_that (has_name w.app ctid) (handles_of w done))) name in
      let claims_now : list_any (is_claim_of w.push.number ctid) (known.places ++ place ∷ []) ≡ (claims_for known w.push.number ctid || (bytes_eq asked.ctid ctid || false)) =
      list_any-append (is_claim_of w.push.number ctid) known.places (place ∷ [])
      ∙ ap (λ (b : Bool). claims_for known w.push.number ctid || ((b && bytes_eq asked.ctid ctid) || false)) (eq-eqb asked.writer w.push.number own) in
      subst (λ (b : Bool). IsOwn b ctid (last_that (has_name w.app ctid) (handles_of w (done ++ claim ∷ [])))) (sym claims_now)
      (subst (IsOwn (claims_for known w.push.number ctid || (bytes_eq asked.ctid ctid || false)) ctid) (sym now)
      (by_id (bytes_eq asked.ctid ctid) refl name (claims_for known w.push.number ctid) (last_that (has_name w.app ctid) (handles_of w done)) (so_far ctid))) where
        by_id : (b : Bool) → bytes_eq asked.ctid ctid ≡ b → claim.ctid ≡ asked.ctid → (claimed : Bool) (before : Option Context) → IsOwn claimed ctid before
            → IsOwn (claimed || (b || false)) ctid (cond b (Some (handle_of w claim)) before)
        by_id true same name claimed before is = (id_so, name ∙ (bytes_eq-Decides asked.ctid ctid).0 same)
        by_id false other name true None is = is
        by_id false other name false None is = is
        by_id false other name claimed (Some ctx) is = is

  -- one of another writer
  own_still : (known : Declared) (done : List Claimed) (asked : ClaimLine) (id : List ℕ) → eqb asked.writer w.push.number ≡ false → AreOwn known done
      → AreOwn (record known { places = known.places ++ record { writer = asked.writer; apid = id; ctid = asked.ctid } ∷ [] }) done
  own_still known done asked id other so_far ctid =
      let place : PlaceName = record { writer = asked.writer; apid = id; ctid = asked.ctid } in
      let claims_now : list_any (is_claim_of w.push.number ctid) (known.places ++ place ∷ []) ≡ claims_for known w.push.number ctid =
      list_any-append (is_claim_of w.push.number ctid) known.places (place ∷ [])
      ∙ ap (λ (b : Bool). claims_for known w.push.number ctid || ((b && bytes_eq asked.ctid ctid) || false)) other ∙ none (claims_for known w.push.number ctid) in
      subst (λ (b : Bool). IsOwn b ctid (last_that (has_name w.app ctid) (handles_of w done))) (sym claims_now) (so_far ctid) where
        none : (b : Bool) → (b || (false || false)) ≡ b
        none true = refl
        none false = refl

  -- ---- the calls of one line

  calls_asked : (known : Declared) (rest : List ScenarioLine) (done : List Claimed) (number : ℕ) (ctid : List ℕ) (severity : Severity) (count : ℕ) (payload : Arguments)
      → not (logs_under known number ctid) ≡ false → numbered (known.writers ++ writers rest) w.push.number ≡ Some apid → AreThere (known.contexts ++ names rest) → AreOwn known done
      → map without_slot (calls_in handles (handles_of w done) w.app w.push.number (line.Calls number ctid severity count payload))
      ≡ asked_in apid w.push.number (line.Calls number ctid severity count payload)
  calls_asked known rest done number ctid severity count payload logs own there_so own_so = by_number (eqb number w.push.number) refl where
    -- the writer's application has the context, or the writer claimed it
    by_writer : (o : Option (List ℕ)) → numbered known.writers number ≡ o → not (option_map_or (λ id. is_context known id ctid || claims_for known number ctid) o false) ≡ false
        → number ≡ w.push.number → IsFound apid ctid (context_named handles (handles_of w done) w.app ctid)
    by_writer None is known_so same = absurd cc
    by_writer (Some id) is known_so same =
        let still = numbered_still known.writers (writers rest) number id is in
        let here : id ≡ apid = some_is (sym still ∙ ap (numbered (known.writers ++ writers rest)) same ∙ own) in
        let one = yes (is_context known id ctid || claims_for known number ctid) known_so
        in
        let one_here : (is_context known apid ctid || claims_for known w.push.number ctid) ≡ true =
        ap (λ (n : ℕ). is_context known apid ctid || claims_for known n ctid) (sym same) ∙ ap (λ (a : List ℕ). is_context known a ctid || claims_for known number ctid) (sym here) ∙ one in
        found_either (claims_for known w.push.number ctid) (is_context known apid ctid) ctid (last_that (has_name w.app ctid) (handles_of w done)) (find (has_name w.app ctid) handles) one_here (own_so ctid)
        (λ declared. there_so ctid (list_any-append (is_named apid ctid) known.contexts (names rest)
        ∙ ap (λ (b : Bool). b || list_any (is_named apid ctid) (names rest)) declared)) where
          yes : (b : Bool) → not b ≡ false → b ≡ true
          yes true is = refl
          yes false is = absurd cc

    by_number : (b : Bool) → eqb number w.push.number ≡ b
        → map without_slot (cond b (option_map_or (λ (ctx : Context). replicate count (content ctx severity payload)) (context_named handles (handles_of w done) w.app ctid) []) [])
        ≡ cond b (replicate count (record { apid = apid; ctid = ctid; severity = severity; payload = payload })) []
    by_number false other = refl
    by_number true same = one_line (handles_of w done) ctid severity count payload (by_writer (numbered known.writers number) refl logs (eqb-true number w.push.number same))

  -- ---- all lines

  taken_so : (done left : List Claimed) (before : ℕ) → claims ≡ done ++ left → before ≡ length done → take before claims ≡ done
  taken_so done left before parted is =
      ap (take before) parted ∙ take-append-le before done left (omega (arith, is)) ∙ take_all before done (omega (arith, is))

  -- the claims so far, and one more
  asks : (known : Declared) (rest : List ScenarioLine) (before : ℕ) (done left : List Claimed) → MayFollow scenario_claim known rest
      → numbered (known.writers ++ writers rest) w.push.number ≡ Some apid → AreThere (known.contexts ++ names rest)
      → claims ≡ done ++ left → before ≡ length done → ArePairs (IsClaimOf w) (registers_of w.push.number rest) left → AreOwn known done → EachAsks before rest
  asks known [] before done left may own there_so parted count pairs own_so = tt
  asks known (line.App a ∷ rest) before done left may own there_so parted count pairs own_so =
      (refl, asks (noted known (scenario_claim (line.App a))) rest (before + 0) done left may.1 own there_so parted (omega (arith, count)) pairs own_so)
  asks known (line.Context c ∷ rest) before done left may own there_so parted count pairs own_so = (
    refl,
    asks (noted known (scenario_claim (line.Context c))) rest (before + 0) done left may.1 own
        (subst AreThere (sym (append_assoc known.contexts (record { apid = c.apid; ctid = c.ctid } ∷ []) (names rest))) there_so) parted (omega (arith, count)) pairs own_so,
  )
  asks known (line.Writer id ∷ rest) before done left may own there_so parted count pairs own_so = (
    refl,
    asks (noted known (scenario_claim (line.Writer id))) rest (before + 0) done left may.1
        (ap (λ (l : List (List ℕ)). numbered l w.push.number) (append_assoc known.writers (id ∷ []) (writers rest)) ∙ own) there_so parted (omega (arith, count)) pairs own_so,
  )
  asks known (line.Register asked ∷ rest) before done left may own there_so parted count pairs own_so =
      let notes = (may_claim known asked.writer asked.ctid may.0).notes in
      let own_still_so = ap (λ (d : Declared). numbered (d.writers ++ writers rest) w.push.number) notes ∙ own in
      let still_there = subst (λ (d : Declared). AreThere (d.contexts ++ names rest)) (sym notes) there_so in (
        refl,
        by_writer (eqb asked.writer w.push.number) refl left parted pairs
            (λ before done left parted count pairs own_so. asks (noted known (scenario_claim (line.Register asked))) rest before done left may.1 own_still_so still_there parted count pairs own_so),
      ) where
        by_writer : (b : Bool) → eqb asked.writer w.push.number ≡ b → (left : List Claimed) → claims ≡ done ++ left
            → ArePairs (IsClaimOf w) (cons_option (cond b (Some asked) None) (registers_of w.push.number rest)) left
            → ((before : ℕ) (done left : List Claimed) → claims ≡ done ++ left → before ≡ length done → ArePairs (IsClaimOf w) (registers_of w.push.number rest) left
            → AreOwn (noted known (scenario_claim (line.Register asked))) done → EachAsks before rest)
            → EachAsks (before + counted (cond b (Some asked) None)) rest
        by_writer true same [] parted pairs go = absurd pairs
        by_writer true same (claim ∷ left) parted pairs go =
            let may_so = may_claim known asked.writer asked.ctid may.0 in
            let long = length-append done (claim ∷ []) in
            go (before + 1) (done ++ claim ∷ []) left (parted ∙ sym (append_assoc done (claim ∷ []) left)) (omega (arith, count, long)) pairs.1
            (subst (λ (d : Declared). AreOwn d (done ++ claim ∷ [])) (sym may_so.notes) (own_more known done asked claim may_so.apid (eqb-true asked.writer w.push.number same) pairs.0 own_so))
        by_writer false other left parted pairs go =
            let may_so = may_claim known asked.writer asked.ctid may.0 in
            go (before + 0) done left parted (omega (arith, count)) pairs (subst (λ (d : Declared). AreOwn d done) (sym may_so.notes) (own_still known done asked may_so.apid other own_so))
  asks known (line.Calls number ctid severity count payload ∷ rest) before done left may own there_so parted so_many pairs own_so =
      let unknown = no_cause (not (logs_under known number ctid)) Unknown ((ltb 1000000 (known.calls + count), Limit) ∷ []) may.0 in
      let here = calls_asked known rest done number ctid severity count payload unknown.this own there_so own_so in (
        subst (λ (cs : List Claimed). map without_slot (calls_in handles (handles_of w cs) w.app w.push.number (line.Calls number ctid severity count payload))
            ≡ asked_in apid w.push.number (line.Calls number ctid severity count payload)) (sym (taken_so done left before parted so_many)) here,
        asks (noted known (scenario_claim (line.Calls number ctid severity count payload))) rest (before + 0) done left may.1 own there_so parted (omega (arith, so_many)) pairs own_so,
      )
  asks known (line.Client ∷ rest) before done left may own there_so parted count pairs own_so =
      (refl, asks (noted known (scenario_claim line.Client)) rest (before + 0) done left may.1 own there_so parted (omega (arith, count)) pairs own_so)
  asks known (line.Send client bytes ∷ rest) before done left may own there_so parted count pairs own_so =
      (refl, asks (noted known (scenario_claim (line.Send client bytes))) rest (before + 0) done left may.1 own there_so parted (omega (arith, count)) pairs own_so)
  asks known (line.Leave client bytes ∷ rest) before done left may own there_so parted count pairs own_so =
      (refl, asks (noted known (scenario_claim (line.Leave client bytes))) rest (before + 0) done left may.1 own there_so parted (omega (arith, count)) pairs own_so)

  -- ---- their calls together, and those behind a line

  all_calls : (rest : List ScenarioLine) (before : ℕ) → EachAsks before rest → map without_slot (calls_from handles w claims before rest) ≡ asked_of apid w.push.number rest
  all_calls [] before each = refl
  all_calls (entry ∷ rest) before each =
      let now = before + counted (register_in w.push.number entry) in
      map-append without_slot (calls_in handles (handles_of w (take before claims)) w.app w.push.number entry) (calls_from handles w claims now rest)
      ∙ ap (λ (l : List AskedCall). l ++ map without_slot (calls_from handles w claims now rest)) each.0
      ∙ ap (λ (l : List AskedCall). asked_in apid w.push.number entry ++ l) (all_calls rest now each.1)

  many_asked : (entry : ScenarioLine) → length (asked_in apid w.push.number entry) ≡ count_in w.push.number entry
  many_asked (line.App a) = refl
  many_asked (line.Context c) = refl
  many_asked (line.Writer id) = refl
  many_asked (line.Register asked) = refl
  many_asked (line.Calls number ctid severity count payload) = by_number (eqb number w.push.number) where
    by_number : (b : Bool) → length {A = AskedCall} (cond b (replicate count (record { apid = apid; ctid = ctid; severity = severity; payload = payload })) []) ≡ cond b count 0
    by_number true = length-replicate count (record { apid = apid; ctid = ctid; severity = severity; payload = payload })
    by_number false = refl
  many_asked line.Client = refl
  many_asked (line.Send client bytes) = refl
  many_asked (line.Leave client bytes) = refl

  many_behind : (number : ℕ) (rest : List ScenarioLine) (before : ℕ) → EachAsks before rest → behind_from handles w claims number before rest ≡ count_from w.push.number number before rest
  many_behind number [] before each = refl
  many_behind number (entry ∷ rest) before each =
      let calls = calls_in handles (handles_of w (take before claims)) w.app w.push.number entry in
      let now = before + counted (register_in w.push.number entry) in
      let long : length calls ≡ count_in w.push.number entry = sym (length-map calls without_slot) ∙ ap length each.0 ∙ many_asked entry in
      ap (λ (n : ℕ). cond (ltb number before) n 0 + behind_from handles w claims number now rest) long
      ∙ ap (λ (n : ℕ). cond (ltb number before) (count_in w.push.number entry) 0 + n) (many_behind number rest now each.1)

-- ---- the contexts of an application, as lines name them

named_there : (apid ctid : List ℕ) (lines : List ScenarioLine) → list_any (is_named apid ctid) (names lines) ≡ true → list_any (λ context. bytes_eq context.ctid ctid) (contexts_of apid lines) ≡ true
named_there apid ctid [] one = one
named_there apid ctid (line.App a ∷ rest) one = named_there apid ctid rest one
named_there apid ctid (line.Context c ∷ rest) one = by_app (bytes_eq c.apid apid) one (named_there apid ctid rest) where
  by_app : (b : Bool) → ((b && bytes_eq c.ctid ctid) || list_any (is_named apid ctid) (names rest)) ≡ true
      → (list_any (is_named apid ctid) (names rest) ≡ true → list_any (λ context. bytes_eq context.ctid ctid) (contexts_of apid rest) ≡ true)
      → list_any (λ context. bytes_eq context.ctid ctid) (cons_option (cond b (Some c) None) (contexts_of apid rest)) ≡ true
  by_app false one go = go one
  by_app true one go = by_id (bytes_eq c.ctid ctid) one where
    by_id : (b : Bool) → (b || list_any (is_named apid ctid) (names rest)) ≡ true → (b || list_any (λ context. bytes_eq context.ctid ctid) (contexts_of apid rest)) ≡ true
    by_id true one = refl
    by_id false one = go one
named_there apid ctid (line.Writer id ∷ rest) one = named_there apid ctid rest one
named_there apid ctid (line.Register asked ∷ rest) one = named_there apid ctid rest one
named_there apid ctid (line.Calls number id severity count payload ∷ rest) one = named_there apid ctid rest one
named_there apid ctid (line.Client ∷ rest) one = named_there apid ctid rest one
named_there apid ctid (line.Send client bytes ∷ rest) one = named_there apid ctid rest one
named_there apid ctid (line.Leave client count ∷ rest) one = named_there apid ctid rest one

handles_there : (lines : List ScenarioLine) (apid : List ℕ) (app : ℕ) → number_in apid (specs_of lines) ≡ Some app
    → (ctid : List ℕ) → list_any (is_named apid ctid) (names lines) ≡ true → IsFound apid ctid (find (has_name app ctid) (handles_from lines 0 (apps lines)))
handles_there lines apid app number ctid one =
    let none : AppSpec = record { apid = []; capacity = 0; text = [] } in
    let at = position-Some (λ spec. bytes_eq spec.apid apid) (specs_of lines) app none number in
    let many = length-map (apps lines) spec_of in
    let entry = there (apps lines) app (omega (arith, at.0, many)) in
    let same : bytes_eq entry.0.apid apid ≡ true =
    ap (λ (spec : AppSpec). bytes_eq spec.apid apid) (sym (get_or-there (specs_of lines) app (spec_of entry.0) none (map_at spec_of (apps lines) app entry.0 entry.1))) ∙ at.1 in
    let named : entry.0.apid ≡ apid = (bytes_eq-Decides entry.0.apid apid).0 same in
    let zero_more : 0 + app ≡ app = omega arith in
    subst (λ (n : ℕ). IsFound apid ctid (find (has_name n ctid) (handles_from lines 0 (apps lines)))) zero_more
    (subst (λ (id : List ℕ). IsFound id ctid (find (has_name (0 + app) ctid) (handles_from lines 0 (apps lines)))) named
    (found_from lines 0 (apps lines) app entry.0 ctid entry.1
    (subst (λ (id : List ℕ). list_any (λ context. bytes_eq context.ctid ctid) (contexts_of id lines) ≡ true) (sym named) (named_there apid ctid lines one))))

-- ---- book by book

book_asked : (lines : List ScenarioLine) (o : Opened) → IsRunnable lines → IsOpened lines o → (apid : List ℕ) (b : BookState) → numbered (writers lines) b.writer.push.number ≡ Some apid → IsBookOf lines apid b → IsAsked lines o apid b
book_asked lines o runs is apid b own book = record {
  calls = λ claims pairs. (
      ap (λ (ctxs : List Context). map without_slot (calls_of ctxs b.writer claims o.plan.lines)) is.contexts
      ∙ ap (λ (l : List ScenarioLine). map without_slot (calls_of (handles_from lines 0 (apps lines)) b.writer claims l)) is.same_lines
      ∙ all_calls (handles_from lines 0 (apps lines)) b.writer apid book.id claims lines 0 (each claims pairs));
  behind = λ claims pairs number. (
      ap (λ (ctxs : List Context). calls_behind ctxs b.writer claims number o.plan.lines) is.contexts
      ∙ ap (λ (l : List ScenarioLine). calls_behind (handles_from lines 0 (apps lines)) b.writer claims number l) is.same_lines
      ∙ many_behind (handles_from lines 0 (apps lines)) b.writer apid book.id claims number lines 0 (each claims pairs));
} where
  each : (claims : List Claimed) → ArePairs (IsClaimOf b.writer) (registers_of b.writer.push.number lines) claims → EachAsks (handles_from lines 0 (apps lines)) b.writer apid book.id claims 0 lines
  each claims pairs =
      asks (handles_from lines 0 (apps lines)) b.writer apid book.id claims nothing lines 0 [] claims runs.follows own (handles_there lines apid b.writer.app book.app) refl refl pairs (λ ctid. refl)

each_asked : (lines : List ScenarioLine) (o : Opened) → IsRunnable lines → IsOpened lines o → (before apids : List (List ℕ)) (books : List BookState) → writers lines ≡ before ++ apids
    → numbers books ≡ range_with_len (length before + 1) (length books) → ArePairs (IsBookOf lines) apids books → ArePairs (IsAsked lines o) apids books
each_asked lines o runs is before [] [] all numbered_so pairs = tt
each_asked lines o runs is before [] (b ∷ books) all numbered_so pairs = absurd pairs
each_asked lines o runs is before (apid ∷ apids) [] all numbered_so pairs = absurd pairs
each_asked lines o runs is before (apid ∷ apids) (b ∷ books) all numbered_so pairs =
    let number = head_is b.writer.push.number (length before + 1) (numbers books) (range_with_len (length before + 1 + 1) (length books)) numbered_so in
    let others = tail_is b.writer.push.number (length before + 1) (numbers books) (range_with_len (length before + 1 + 1) (length books)) numbered_so in
    let own : numbered (writers lines) b.writer.push.number ≡ Some apid =
    ap (λ (l : List (List ℕ)). numbered l b.writer.push.number) all ∙ numbered_here before apids apid b.writer.push.number number in
    let long = length-append before (apid ∷ []) in
    let more : length before + 1 + 1 ≡ length (before ++ apid ∷ []) + 1 = omega (arith, long) in (
      book_asked lines o runs is apid b own pairs.0,
      each_asked lines o runs is (before ++ apid ∷ []) apids books (all ∙ sym (append_assoc before (apid ∷ []) apids))
          (others ∙ ap (λ (n : ℕ). range_with_len n (length books)) more) pairs.1,
    )

pub all_asked : (lines : List ScenarioLine) (o : Opened) → IsRunnable lines → IsOpened lines o → ArePairs (IsAsked lines o) (writers lines) o.books
all_asked lines o runs is =
    let one : 1 ≡ length {A = List ℕ} [] + 1 = omega arith in
    each_asked lines o runs is [] (writers lines) o.books refl (is.books.numbered ∙ ap (λ (n : ℕ). range_with_len n (length o.books)) one) is.books.each
