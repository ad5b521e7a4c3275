-- The contexts that the lines of a script declare are in the registry, each on the place at which it stands among those of its application.
use Rattle.std.proofs.Common.{◌≡◌, ◌≢◌, ℕ, ◌+◌, ◌<◌, ◌≤◌, Bool, true, false, cond, get_or, List, [], ◌∷◌, ◌++◌, length, map, Option, Some, None, Result, Ok, Err, refl, sym, ap, subst, ◌∙◌, append_assoc, append-nil, length-append, arith, inl, inr, true≢false}
use Rattle.std.specs.Prelude.{◌==◌, ◌&&◌, ◌||◌, nat_eq, nat_le, negsuc, slice_get}
use Rattle.std.specs.List.{AllByRecursion, IsDistinct, cons_option, filter, filter_map, list_any}
use Rattle.std.specs.Map.{lookup}
use Rattle.std.specs.Option.{option_map, option_map_or, option_or}
use Rattle.std.specs.Result.{result_unwrap_or}
use Rattle.std.specs.Str.{bytes_eq}
use Rattle.std.proofs.lemmas.Bool.{cases_lt, eq-eqb, eqb-true, ne_eqb}
use Rattle.std.proofs.lemmas.List.{map-append}
use Rattle.std.proofs.lemmas.List.Elements.{filter-append, filter_map-append}
use Rattle.std.proofs.lemmas.List.Folds.{list_any-append}
use Rattle.std.proofs.lemmas.List.Quantifiers.{position-Some}
use Rattle.std.proofs.lemmas.Option.{slice_get-get_or, slice_get_within}
use Rattle.std.proofs.lemmas.Map.Keys.{IsDistinct-head, IsDistinct-tail}
use Rattle.std.proofs.Math.Bool.{or-true}
use Rattle.dl_lemmas.proofs.Bools.{neither}
use Rattle.dl_lemmas.proofs.Lists.{all_at, all_both, last_or_before}
use Rattle.dl_lemmas.proofs.Options.{some_of}
use Rattle.dl_bytes.specs.Claim.{Claimed}
use Rattle.dl_bytes.specs.Id.{zero_id}
use Rattle.dl_bytes.specs.Limits.{last_version}
use Rattle.dl_bytes.specs.declared.outcome.Done.{Done}
use Rattle.dl_bytes.specs.declared.user.UserMsg.{UserMsg}
use Rattle.dl_bytes.specs.declared.user.UserMsg.TheVariants as user
use Rattle.dl_events.specs.declared.event.Event.{Event}
use Rattle.dl_events.specs.declared.event.Event.TheVariants as event
use Rattle.dl_script_model.specs.declared.line.ContextLine.{ContextLine}
use Rattle.dl_script_model.specs.declared.step.Step.{Step}
use Rattle.dl_script_model.specs.declared.step.Step.TheVariants as line
use Rattle.dl_model.proofs.StandingApps.{channel_found, own_found}
use Rattle.dl_script_model.proofs.Marks.{in_sequence-one}
use Rattle.dl_script.specs.Earlier.{Declared, is_named, noted, nothing, numbered, refusal}
use Rattle.dl_script.specs.declared.claim.Claim.TheVariants as claim_of_line
use Rattle.dl_script.specs.declared.claim.ContextName.{ContextName}
use Rattle.dl_script.specs.Playable.{IsInBounds, IsPlayable}
use Rattle.dl_script.specs.Spelled.{MayFollow, step_claim}
use Rattle.dl_model.specs.declared.context.Context.{Context}
use Rattle.dl_model.specs.declared.registry.LevelChange.{LevelChange}
use Rattle.dl_model.specs.declared.registry.RegistryFault.{RegistryFault}
use Rattle.dl_model.specs.declared.registry.RegistryFault.TheVariants as fault
use Rattle.dl_model.specs.declared.registry.Slot.{Slot}
use Rattle.dl_model.specs.Accounts.{claims}
use Rattle.dl_model.specs.Journal.{registry_of, slots_of}
use Rattle.dl_script_model.specs.Marks.{Call, Mark, HasContext, Filtered, Passed, Noted, context_of as context_in, contexts_of, event_of, is_later, is_load, journal, moment, place_of}
use Rattle.dl_model.specs.Registry.{App, IsNumbered, Registry, app_of, applied, context_of, context_registered, for_app, has_place, least_free, places, places_of, slot_of, stored_level, with_app, with_new_context}
use Rattle.dl_model.specs.Setting.{Setting}
use Rattle.dl_script_model.specs.Steps.{Act, act_of, after_lines, changes, end_of, in_sequence, just, level_noted, note_levels, note_levels_now, run, tell}
use Rattle.dl_model.proofs.Numbered.{IsNumbered-add, IsNumbered-length, below_least_free, least_free-is_free}
use Rattle.dl_model.proofs.Order.{app_of_found, in_order-registry_of, placed_of_found}
use Rattle.dl_model.proofs.Placed.{all-left, all-right, apart-right}
use Rattle.dl_model.proofs.Presence.{bytes_differ, bytes_same, bytes_tell, lookup-push, lookup-set_same, same_bytes}
use Rattle.dl_runs.specs.RunRecords.{IsLoadedIn}
use Rattle.dl_runs.proofs.EarlyCalls.{stand_and_owe}
use Rattle.dl_runs.proofs.FreePlaces.{IsUnused, lack-lookup, unused}
use Rattle.dl_runs.proofs.Relations.{AreAll, Keeps, both, first_part, holds_on, second_part, turns, weaker}
use Rattle.dl_runs.proofs.WellFormed.{Stands, lines_stand, plain}
use Rattle.dl_script_runs.specs.OwnSlots.{IsInOwnSlot, claim_named}
use Rattle.dl_script_runs.proofs.CallSlots.{in_own_slot, its_number, named}
use Rattle.dl_script_runs.proofs.ClaimedFree.{Comes, IsBehind, Leaves, are_left, begins, comes_on, none_of, none_taken, quietly_left}
use Rattle.dl_script_runs.proofs.ContextsFirst.{IsAdmitted, context_admitted}
use Rattle.dl_script_runs.proofs.FairMarks.{Calm, Fair, IsNoContext, calm_fair, calmly, events_stay, fairly, levels_calm, levels_now_calm, line_calm, line_fair}
use Rattle.dl_script_runs.proofs.LeftFree.{alone_at}
use Rattle.dl_script_runs.proofs.PresentApps.{Known, hands_out_quiet, place_apps, registry_noted, stand_still}
use Rattle.dl_script_runs.proofs.StayingContexts.{Has, Seated, seated_on}
use Rattle.dl_script_runs.proofs.TrackedClaims.{Aside, tells}
use Rattle.dl_script_runs.proofs.Walks.{ends}

-- ---- ids

bytes_turned : (a b : List ℕ) → bytes_eq a b ≡ bytes_eq b a
bytes_turned a b = elim (bytes_tell a b) [
  | inl same ↦ same.0 ∙ sym (ap (bytes_eq b) same.1 ∙ bytes_same b)
  | inr other ↦ other.0 ∙ sym (bytes_differ b a (λ same. other.1 (sym same)))
]

any_turned : (id : List ℕ) (ids : List (List ℕ)) → list_any (bytes_eq id) ids ≡ list_any (λ other. bytes_eq other id) ids
any_turned id [] = refl
any_turned id (other ∷ ids) = ap (λ (b : Bool). b || list_any (bytes_eq id) ids) (bytes_turned id other) ∙ ap (λ (b : Bool). bytes_eq other id || b) (any_turned id ids)

-- ---- places of contexts

pub lookup_place : (place : ℕ) (test : List ℕ → Bool) (cs : List (List ℕ × Context)) (c : Context) → lookup test cs ≡ Some c → Has place c → list_any (nat_eq place) (places cs) ≡ true
lookup_place place test [] c found has = absurd cc
lookup_place place test (e ∷ cs) c found has = list_any-append (nat_eq place) (places_of e.1) (places cs) ∙ by (test e.0) found (λ later. lookup_place place test cs c later has) where
  by : (b : Bool) → cond b (Some e.1) (lookup test cs) ≡ Some c → (lookup test cs ≡ Some c → list_any (nat_eq place) (places cs) ≡ true) → (list_any (nat_eq place) (places_of e.1) || list_any (nat_eq place) (places cs)) ≡ true
  by true here next =
      let same : e.1 ≡ c = cc in
      ap (λ (b : Bool). b || list_any (nat_eq place) (places cs)) (ap (λ (x : Context). has_place place x) same ∙ has)
  by false past next = ap (λ (b : Bool). list_any (nat_eq place) (places_of e.1) || b) (next past) ∙ or-true (list_any (nat_eq place) (places_of e.1))

pub lookup_below : (test : List ℕ → Bool) (cs : List (List ℕ × Context)) (c : Context) → AllByRecursion (λ n. n < 64) (places cs) → lookup test cs ≡ Some c → c.place < 64
lookup_below test [] c below found = absurd cc
lookup_below test (e ∷ cs) c below found = by (test e.0) found (λ later. lookup_below test cs c (all-right (λ n. n < 64) (places_of e.1) (places cs) below) later) where
  by : (b : Bool) → cond b (Some e.1) (lookup test cs) ≡ Some c → (lookup test cs ≡ Some c → c.place < 64) → c.place < 64
  by true here next =
      let same : e.1 ≡ c = cc in
      subst (λ (x : Context). x.place < 64) same (all-left (λ n. n < 64) (places_of e.1) (places cs) below).0
  by false past next = next past

differs_from_all : (n : ℕ) (xs : List ℕ) → AllByRecursion (λ x. nat_eq n x ≡ false) xs → list_any (nat_eq n) xs ≡ false
differs_from_all n [] all = refl
differs_from_all n (x ∷ xs) all = ap (λ (b : Bool). b || list_any (nat_eq n) xs) all.0 ∙ differs_from_all n xs all.1

pub not_twice : (n : ℕ) (xs ys : List ℕ) → IsDistinct nat_eq (xs ++ ys) → list_any (nat_eq n) xs ≡ true → list_any (nat_eq n) ys ≡ true → ⊥
not_twice n [] ys apart first second = true≢false (sym first)
not_twice n (x ∷ xs) ys apart first second = by (nat_eq n x) refl first (not_twice n xs ys (IsDistinct-tail nat_eq x (xs ++ ys) apart)) where
  by : (b : Bool) → nat_eq n x ≡ b → (b || list_any (nat_eq n) xs) ≡ true → (list_any (nat_eq n) xs ≡ true → list_any (nat_eq n) ys ≡ true → ⊥) → ⊥
  by true here first next =
      let same : n ≡ x = eqb-true n x here in
      let none = differs_from_all x ys (all-right (λ y. nat_eq x y ≡ false) xs ys (IsDistinct-head nat_eq x (xs ++ ys) apart)) in
      true≢false (sym second ∙ ap (λ (m : ℕ). list_any (nat_eq m) ys) same ∙ none)
  by false past first next = next first second

-- a place is one context's
one_of_place : (place : ℕ) (one two : List ℕ) (cs : List (List ℕ × Context)) (c d : Context) → IsDistinct nat_eq (places cs) → lookup (bytes_eq one) cs ≡ Some c → Has place c → lookup (bytes_eq two) cs ≡ Some d → Has place d → one ≡ two
one_of_place place one two [] c d apart first has second too = absurd cc
one_of_place place one two (e ∷ cs) c d apart first has second too =
    by (bytes_eq one e.0) (bytes_eq two e.0) refl refl first second (λ past gone. one_of_place place one two cs c d (apart-right (places_of e.1) (places cs) apart) past has gone too) where
      here : (x : Context) → e.1 ≡ x → Has place x → Has place e.1
      here x same is = ap (λ (y : Context). has_place place y) same ∙ is

      by : (a b : Bool) → bytes_eq one e.0 ≡ a → bytes_eq two e.0 ≡ b → cond a (Some e.1) (lookup (bytes_eq one) cs) ≡ Some c → cond b (Some e.1) (lookup (bytes_eq two) cs) ≡ Some d →
          (lookup (bytes_eq one) cs ≡ Some c → lookup (bytes_eq two) cs ≡ Some d → one ≡ two) → one ≡ two
      by true true is also first second next = same_bytes one e.0 is ∙ sym (same_bytes two e.0 also)
      by true false is also first second next =
          let same : e.1 ≡ c = cc in
          absurd (not_twice place (places_of e.1) (places cs) apart (here c same has) (lookup_place place (bytes_eq two) cs d second too))
      by false true is also first second next =
          let same : e.1 ≡ d = cc in
          absurd (not_twice place (places_of e.1) (places cs) apart (here d same too) (lookup_place place (bytes_eq one) cs c first has))
      by false false is also first second next = next first second

-- ---- what was declared, with marks more

along : (R : List Mark → Mark → Type 0) → ((done : List Mark) (mark : Mark) → R done mark → context_in mark ≡ None) → (done marks : List Mark) → AreAll R done marks →
    filter_map context_in (done ++ marks) ≡ filter_map context_in done
along R none done marks all =
    holds_on R (λ now. filter_map context_in now ≡ filter_map context_in done) (λ now mark is here.
    filter_map-append context_in now (mark ∷ []) ∙ ap (λ (o : Option ContextLine). filter_map context_in now ++ cons_option o []) (none now mark here) ∙ append-nil (filter_map context_in now) ∙ is) done marks refl all

calm_none : (done : List Mark) (mark : Mark) → Calm done mark → context_in mark ≡ None
calm_none done (HasContext context) calm = absurd calm
calm_none done _ calm = refl

aside_none : (done : List Mark) (mark : Mark) → Aside done mark → context_in mark ≡ None
aside_none done (HasContext context) aside = absurd aside
aside_none done _ aside = refl

abbrev of_app : List ℕ → ContextLine → Bool
of_app apid context = bytes_eq context.apid apid

-- the ids of a context that a line declares
abbrev name : ContextLine → ContextName
name context = record { apid = context.apid; ctid = context.ctid }

-- one that isn't named yet is none of its application's
none_named : (apid ctid : List ℕ) (cs : List ContextLine) → list_any (is_named apid ctid) (map name cs) ≡ false → AllByRecursion (λ (c : ContextLine). bytes_eq c.ctid ctid ≡ false) (filter (of_app apid) cs)
none_named apid ctid [] none = tt
none_named apid ctid (c ∷ cs) none =
    let parts = neither (is_named apid ctid (name c)) (list_any (is_named apid ctid) (map name cs)) none in
    by (bytes_eq c.apid apid) parts.0 (none_named apid ctid cs parts.1) where
      by : (b : Bool) → (b && bytes_eq c.ctid ctid) ≡ false → AllByRecursion (λ (c : ContextLine). bytes_eq c.ctid ctid ≡ false) (filter (of_app apid) cs) →
          AllByRecursion (λ (c : ContextLine). bytes_eq c.ctid ctid ≡ false) (cond b (c ∷ filter (of_app apid) cs) (filter (of_app apid) cs))
      by true other rest = (other, rest)
      by false other rest = rest

levels_no_claims : (app : ℕ) (cs : List LevelChange) → claims app (journal (map level_noted cs)) ≡ []
levels_no_claims app [] = refl
levels_no_claims app (c ∷ cs) = levels_no_claims app cs

module _ (setting : Setting) where
  -- each context that lines declared is in the registry
  abbrev pub AreSeated : List Mark → Type 0
  AreSeated done = (apid : List ℕ) (place : ℕ) (context : ContextLine) → slice_get (contexts_of apid done) place ≡ Some context →
      (n : ℕ) × Seated apid n context.ctid place (registry_of setting (journal done))

  -- one that is there stays there by fair marks
  later : (apid : List ℕ) (n : ℕ) (ctid : List ℕ) (place : ℕ) (done marks : List Mark) → AreAll Fair done marks → Seated apid n ctid place (registry_of setting (journal done)) →
      Seated apid n ctid place (registry_of setting (journal (done ++ marks)))
  later apid n ctid place done marks fair seat =
      subst (λ (es : List Event). Seated apid n ctid place (registry_of setting es)) (sym (filter_map-append event_of done marks)) (seated_on apid n ctid place setting (journal done) (journal marks) (events_stay done marks fair) seat)

  -- so do all, by marks that declare none
  pub calm_seated : (done marks : List Mark) → AreAll Calm done marks → AreSeated done → AreSeated (done ++ marks)
  calm_seated done marks calm seated apid place context at =
      let same : contexts_of apid (done ++ marks) ≡ contexts_of apid done = ap (filter (of_app apid)) (along Calm calm_none done marks calm) in
      let before = seated apid place context (ap (λ (cs : List ContextLine). slice_get cs place) (sym same) ∙ at) in
      (before.0, later apid before.0 context.ctid place done marks (weaker Calm Fair calm_fair done marks calm) before.1)

  -- at each load
  abbrev pub Sits : List Mark → Mark → Type 0
  Sits done (Filtered c) = AreSeated done
  Sits done (Passed c) = AreSeated done
  Sits done _ = Unit {0}

  sits : (done : List Mark) (mark : Mark) → AreSeated done → Sits done mark
  sits done (Filtered c) seated = seated
  sits done (Passed c) seated = seated
  sits done _ seated = tt

  pub calm_sit : (done marks : List Mark) → AreAll Calm done marks → AreSeated done → AreAll Sits done marks
  calm_sit done [] calm seated = tt
  calm_sit done (mark ∷ marks) calm seated =
      (sits done mark seated, calm_sit (done ++ mark ∷ []) marks calm.1 (calm_seated done (mark ∷ []) (calm.0, tt) seated))

-- ---- a context that a line declares

module _ (setting : Setting) (answers : List Done) (begins_fresh : setting.first ≢ last_version) (known : Declared) (done : List Mark) (comes : Comes setting answers known done)
    (names : AllByRecursion (λ id. id ≢ zero_id) known.apps) (same_names : map name (filter_map context_in done) ≡ known.contexts) (seated : AreSeated setting done) where
  module _ (context : ContextLine) (admitted : refusal known (claim_of_line.Context context.apid context.ctid) ≡ None) where
    abbrev msg : UserMsg
    msg = user.RegisterContext context.apid context.ctid 0 context.level (negsuc 0) 0 context.text

    abbrev declared : List Mark
    declared = done ++ HasContext context ∷ []

    abbrev levels : List Mark
    levels = note_levels setting declared

    abbrev now : List Mark
    now = declared ++ levels

    abbrev told : Mark
    told = Noted (event.User 0 msg (moment now))

    abbrev behind : List Mark
    behind = in_sequence (note_levels_now setting ∷ []) (now ++ told ∷ [])

    abbrev here : Registry
    here = registry_of setting (journal now)

    abbrev place : ℕ
    place = length (contexts_of context.apid done)

    may : IsAdmitted known context.apid context.ctid
    may = context_admitted known context.apid context.ctid admitted

    stand : Known setting known now
    stand =
        stand_still setting known.apps known.user known.apps (note_levels setting) (hands_out_quiet setting) declared
        (stand_still setting known.apps known.user known.apps (just (HasContext context)) (λ _. (tt, tt)) done comes.stand)

    found : (a : App) × (app_of here 0 context.apid ≡ Some a)
    found = some_of (app_of here 0 context.apid) (own_found 0 known.apps here.apps context.apid stand.first (any_turned context.apid known.apps ∙ may.there))

    abbrev app : App
    app = found.0

    looked : lookup (bytes_eq context.apid) here.apps ≡ Some app
    looked = app_of_found here 0 context.apid app found.1

    own : app.channel ≡ 0
    own = channel_found 0 (lookup (bytes_eq context.apid) here.apps) app found.1

    -- it is declared under its number
    at : (k : ℕ) × (app.number ≡ 0 + k) × (slice_get known.apps k ≡ Some context.apid)
    at = alone_at 0 known.apps here.apps stand.first (stand.alone may.no_user) context.apid app looked

    at_number : slice_get known.apps app.number ≡ Some context.apid
    at_number = ap (slice_get known.apps) (omega (arith, at.1)) ∙ at.2

    place_below : place < 64
    place_below = omega (arith, comes.tracked.contexts context.apid, may.room)

    -- ---- no place behind is taken

    stands : AreAll (Stands setting) [] now
    stands =
        let R = Stands setting in
        let line_marks = act_of setting answers (line.Context context) done in
        let all : AreAll R [] (done ++ line_marks) =
        subst (AreAll R []) (sym (ap (λ (ms : List Mark). ms ++ act_of setting answers (line.Context context) ms) comes.are ∙ one_line)) (lines_stand setting answers (comes.lines ++ line.Context context ∷ [])) in
        let mine = second_part R [] done line_marks all in
        let levels_stand = first_part R declared levels (told ∷ behind) (first_part R declared (tell setting 0 msg declared) [] mine.1) in
        both R [] declared levels (both R [] done (HasContext context ∷ []) (first_part R [] done line_marks all) (mine.0, tt)) levels_stand
      where
        one_line : after_lines setting answers comes.lines ++ act_of setting answers (line.Context context) (after_lines setting answers comes.lines) ≡ after_lines setting answers (comes.lines ++ line.Context context ∷ [])
        one_line =
            sym (ap (λ (acts : List Act). in_sequence acts []) (map-append (act_of setting answers) comes.lines (line.Context context ∷ []))
            ∙ in_sequence-one (map (act_of setting answers) comes.lines) (act_of setting answers (line.Context context)) [])

    journal_now : journal now ≡ journal done ++ journal levels
    journal_now = filter_map-append event_of declared levels ∙ ap (λ (es : List Event). es ++ journal levels) (plain done (HasContext context) refl)

    untaken : AllByRecursion (λ c. c.app ≡ app.number → ⊥) (claims app.number (journal now))
    untaken =
        subst (AllByRecursion (λ c. c.app ≡ app.number → ⊥))
        (sym (ap (claims app.number) journal_now ∙ filter_map-append _ (journal done) (journal levels) ∙ ap (λ cs. claims app.number (journal done) ++ cs) (levels_no_claims app.number (changes setting (journal declared))) ∙ append-nil (claims app.number (journal done))))
        (none_of setting answers known done comes app.number context.apid at_number may.no_place)

    -- so each place from this one on is free, and its slot fresh
    free_from : (n : ℕ) → place ≤ n → n < 64 → IsUnused setting app.number n (journal now)
    free_from n from below =
        let R = Leaves setting app.number n in
        let is : IsBehind known done app.number n = record {
          contexts = λ apid is. (let ids : Some context.apid ≡ Some apid = sym at_number ∙ is in let id : context.apid ≡ apid = cc in omega (arith, from, ap (λ (x : List ℕ). length (contexts_of x done)) id));
          declared = λ came. slice_get_within known.apps app.number context.apid at_number;
        } in
        let left = both R [] declared levels (both R [] done (HasContext context ∷ []) (comes.left app.number n is) (tt, tt)) (quietly_left setting app.number n (note_levels setting) (hands_out_quiet setting) declared) in
        unused setting app.number n below (journal now) (stand_and_owe setting [] now stands) (none_taken app.number n (journal now) untaken) (are_left setting app.number n [] now left)

    free_at : (n : ℕ) → place ≤ n → n < 64 → list_any (nat_eq n) (places app.contexts) ≡ false
    free_at n from below = lack-lookup app.number n (bytes_eq context.apid) here.apps app (free_from n from below).free looked refl

    -- ---- each place before is taken

    fair_now : AreAll Fair done (HasContext context ∷ levels)
    fair_now = (tt, fairly (note_levels setting) (levels_calm setting) declared)

    taken_by : (k : ℕ) (c : ContextLine) → slice_get (contexts_of context.apid done) k ≡ Some c → (x : Context) × (lookup (bytes_eq c.ctid) app.contexts ≡ Some x) × Has k x
    taken_by k c there =
        let seat = seated context.apid k c there in
        let still = subst (λ (ms : List Mark). Seated context.apid seat.0 c.ctid k (registry_of setting (journal ms))) (sym (append_assoc done (HasContext context ∷ []) levels))
        (later setting context.apid seat.0 c.ctid k done (HasContext context ∷ levels) fair_now seat.1) in
        let both_are : Some still.entry ≡ Some app = sym still.there ∙ looked in
        let same : still.entry ≡ app = cc in
        let one = still.is.context in
        (one.entry, ap (λ (a : App). lookup (bytes_eq c.ctid) a.contexts) (sym same) ∙ one.there, one.is)

    line_at : (k : ℕ) → k < place → (c : ContextLine) × (slice_get (contexts_of context.apid done) k ≡ Some c)
    line_at k lt = (get_or (contexts_of context.apid done) k context, slice_get-get_or (contexts_of context.apid done) k context lt)

    least_is : least_free (places app.contexts) ≡ place
    least_is =
        let least = least_free (places app.contexts) in
        elim (cases_lt place least) [
          | inl more ↦ absurd (true≢false (sym (below_least_free (places app.contexts) place more) ∙ free_at place (omega arith) place_below))
          | inr most ↦ elim (cases_lt least place) [
            | inl less ↦
                let one = line_at least less in
                let by = taken_by least one.0 one.1 in
                absurd (true≢false (sym (lookup_place least (bytes_eq one.0.ctid) app.contexts by.0 by.1 by.2) ∙ least_free-is_free (places app.contexts)))
            | inr same ↦ omega (arith, most, same)
          ]
        ]

    in_order : IsNumbered 64 (places app.contexts)
    in_order = placed_of_found here context.apid app (in_order-registry_of setting (journal now)) looked

    fresh_names : AllByRecursion (λ (c : ContextLine). bytes_eq c.ctid context.ctid ≡ false) (contexts_of context.apid done)
    fresh_names = none_named context.apid context.ctid (filter_map context_in done) (ap (list_any (is_named context.apid context.ctid)) same_names ∙ may.fresh)

    -- the context isn't there yet
    new_one : context_of app context.ctid ≡ None
    new_one = by (context_of app context.ctid) refl where
      none_there : (x : Context) → context_of app context.ctid ≡ Some x → ⊥
      none_there x is =
          let n = x.place in
          let has : Has n x = ap (λ (b : Bool). b || list_any (nat_eq n) x.further) (eq-eqb n n refl) in
          let below = lookup_below (bytes_eq context.ctid) app.contexts x in_order.below is in
          elim (cases_lt n place) [
            | inl less ↦
                let one = line_at n less in
                let by = taken_by n one.0 one.1 in
                let same : one.0.ctid ≡ context.ctid = one_of_place n one.0.ctid context.ctid app.contexts by.0 x in_order.apart by.1 by.2 is has in
                let other = all_at (λ (c : ContextLine). bytes_eq c.ctid context.ctid ≡ false) (contexts_of context.apid done) n one.0 fresh_names one.1 in
                true≢false (sym (ap (λ (id : List ℕ). bytes_eq id context.ctid) same ∙ bytes_same context.ctid) ∙ other)
            | inr more ↦ true≢false (sym (lookup_place n (bytes_eq context.ctid) app.contexts x is has) ∙ free_at n more below)
          ]

      by : (o : Option Context) → context_of app context.ctid ≡ o → o ≡ None
      by None is = refl
      by (Some x) is = absurd (none_there x is)

    room : nat_le 64 (length (places app.contexts)) ≡ false
    room =
        let more = IsNumbered-add 64 (places app.contexts) place in_order (free_at place (omega arith) place_below) place_below in
        let count : length (places app.contexts) < 64 = omega (arith, IsNumbered-length 64 (places app.contexts ++ place ∷ []) more, length-append (places app.contexts) (place ∷ [])) in
        grind (arith, count)

    slot_fresh : ((slots_of setting (journal now) (slot_of app.number (least_free (places app.contexts)))).version == last_version) ≡ false
    slot_fresh =
        ap (λ (k : ℕ). (slots_of setting (journal now) (slot_of app.number k)).version == last_version) least_is
        ∙ ap (λ (s : Slot). s.version == last_version) (free_from place (omega arith) place_below).slot ∙ ne_eqb setting.first last_version begins_fresh

    module _ (zero_not : context.ctid ≢ zero_id) where
      abbrev new : Context
      new = record {
        place = least_free (places app.contexts);
        further = [];
        own = option_or (stored_level here.stored context.apid context.ctid) context.level;
        position = 0;
        text = context.text;
      }

      abbrev registered : Registry
      registered = with_app here context.apid (with_new_context app context.ctid new)

      ids_named : (bytes_eq context.apid zero_id || bytes_eq context.ctid zero_id) ≡ false
      ids_named =
          ap (λ (b : Bool). b || bytes_eq context.ctid zero_id) (bytes_differ context.apid zero_id (all_at (λ id. id ≢ zero_id) known.apps app.number context.apid names at_number))
          ∙ bytes_differ context.ctid zero_id zero_not

      accepted : applied (slots_of setting (journal now)) here 0 msg ≡ Ok registered
      accepted =
          let slots = slots_of setting (journal now) in
          let next : App → Result Registry RegistryFault = λ a. context_registered slots here context.apid context.ctid 0 context.level context.text a (context_of a context.ctid) in
          ap (λ (b : Bool). cond b (Err fault.ZeroId) (for_app (app_of here 0 context.apid) next)) ids_named
          ∙ ap (λ (o : Option App). for_app o next) found.1
          ∙ ap (context_registered slots here context.apid context.ctid 0 context.level context.text app) new_one
          ∙ ap (λ (b : Bool). cond b (Err fault.ContextsFull) (cond ((slots (slot_of app.number (least_free (places app.contexts)))).version == last_version) (Err fault.Worn) (Ok registered))) room
          ∙ ap (λ (b : Bool). cond b (Err fault.Worn) (Ok registered)) slot_fresh

      -- so it is there right after its message
      new_seated : Seated context.apid app.number context.ctid place (registry_of setting (journal (now ++ told ∷ [])))
      new_seated =
          let is : registry_of setting (journal (now ++ told ∷ [])) ≡ registered =
          registry_noted setting now (event.User 0 msg (moment now)) ∙ ap (λ (result : Result Registry RegistryFault). result_unwrap_or result here) accepted in
          subst (Seated context.apid app.number context.ctid place) (sym is) (record {
            entry = with_new_context app context.ctid new;
            there = lookup-set_same context.apid here.apps app (with_new_context app context.ctid new) looked;
            is = record {
              own = own;
              number_is = refl;
              context = record {
                entry = new;
                there = lookup-push (bytes_eq context.ctid) app.contexts context.ctid new ∙ ap (λ (o : Option Context). option_or o (cond (bytes_eq context.ctid context.ctid) (Some new) None)) new_one
                    ∙ ap (λ (b : Bool). cond b (Some new) None) (bytes_same context.ctid);
                is = ap (λ (b : Bool). b || false) (eq-eqb place new.place (sym least_is));
              };
            };
          })

    -- ---- what the line leaves

    abbrev line_marks : List Mark
    line_marks = act_of setting answers (line.Context context) done

    parts : done ++ line_marks ≡ (now ++ told ∷ []) ++ behind
    parts =
        sym (append_assoc done (HasContext context ∷ []) (tell setting 0 msg declared ++ [])) ∙ ap (λ (ms : List Mark). declared ++ ms) (append-nil (tell setting 0 msg declared))
        ∙ sym (append_assoc declared levels (told ∷ behind)) ∙ sym (append_assoc now (told ∷ []) behind)

    behind_fair : AreAll Fair (now ++ told ∷ []) behind
    behind_fair = turns Fair (note_levels_now setting ∷ []) (fairly (note_levels_now setting) (levels_now_calm setting), tt) (now ++ told ∷ [])

    contexts_now : filter_map context_in (done ++ line_marks) ≡ filter_map context_in done ++ context ∷ []
    contexts_now =
        ap (filter_map context_in) (sym (append_assoc done (HasContext context ∷ []) (tell setting 0 msg declared ++ [])))
        ∙ along Aside aside_none declared (tell setting 0 msg declared ++ []) (both Aside declared (tell setting 0 msg declared) [] (tells setting 0 msg declared) tt)
        ∙ filter_map-append context_in done (HasContext context ∷ [])

    abbrev Now : List ℕ → ContextLine → ℕ → Type 0
    Now apid c k = (n : ℕ) × Seated apid n c.ctid k (registry_of setting (journal (done ++ line_marks)))

    contexts_seated : IsInBounds (line.Context context) → AreSeated setting (done ++ line_marks)
    contexts_seated bounds apid k c there =
        let grown : contexts_of apid (done ++ line_marks) ≡ contexts_of apid done ++ filter (of_app apid) (context ∷ []) =
        ap (filter (of_app apid)) contexts_now ∙ filter-append (of_app apid) (filter_map context_in done) (context ∷ []) in
        by (bytes_eq context.apid apid) refl (sym (ap (λ (cs : List ContextLine). slice_get cs k) grown) ∙ there) where
          before : slice_get (contexts_of apid done) k ≡ Some c → Now apid c k
          before at =
              let was = seated apid k c at in
              (was.0, later setting apid was.0 c.ctid k done line_marks (line_fair setting answers (line.Context context) bounds done) was.1)

          this_one : context.apid ≡ apid → k ≡ place → context ≡ c → Now apid c k
          this_one mine at same =
              let new_one = later setting context.apid app.number context.ctid place (now ++ told ∷ []) behind behind_fair (new_seated bounds.1) in
              let whole = subst (λ (ms : List Mark). Seated context.apid app.number context.ctid place (registry_of setting (journal ms))) (sym parts) new_one in
              let r = registry_of setting (journal (done ++ line_marks)) in (
                app.number,
                subst (λ (id : List ℕ). Seated id app.number c.ctid k r) mine (subst (λ (x : ContextLine). Seated context.apid app.number x.ctid k r) same
                    (subst (λ (n : ℕ). Seated context.apid app.number context.ctid n r) (sym at) whole)),
              )

          by : (b : Bool) → bytes_eq context.apid apid ≡ b
              → slice_get (contexts_of apid done ++ cond b (context ∷ []) []) k ≡ Some c → Now apid c k
          by false other at =
              let same = append-nil (contexts_of apid done) in
              before (sym (ap (λ (cs : List ContextLine). slice_get cs k) same) ∙ at)
          by true mine at =
              let ids = same_bytes context.apid apid mine in
              last_or_before (contexts_of apid done) context c k at (Now apid c k) (λ there. before there) (λ end same.
              this_one ids (end ∙ ap (λ (id : List ℕ). length (contexts_of id done)) (sym ids)) same)

-- ---- messages load no call

levels_sit : (setting : Setting) (done : List Mark) (cs : List LevelChange) → AreAll (Sits setting) done (map level_noted cs)
levels_sit setting done [] = tt
levels_sit setting done (c ∷ cs) = (tt, levels_sit setting (done ++ level_noted c ∷ []) cs)

tell_sits : (setting : Setting) (channel : ℕ) (msg : UserMsg) → Keeps (Sits setting) (tell setting channel msg)
tell_sits setting channel msg =
    turns (Sits setting) (note_levels setting ∷ (λ done. Noted (event.User channel msg (moment done)) ∷ []) ∷ note_levels_now setting ∷ [])
    (owed, ((λ done. (tt, tt)), ((λ done. by done (is_later done)), tt))) where
      owed : Keeps (Sits setting) (note_levels setting)
      owed done = levels_sit setting done (changes setting (journal done))

      by : (done : List Mark) (b : Bool) → AreAll (Sits setting) done (cond b [] (note_levels setting done))
      by done true = tt
      by done false = levels_sit setting done (changes setting (journal done))

-- ---- lines

-- after lines: the contexts that they declare are in the registry
record Seating (setting : Setting) (answers : List Done) (known : Declared) (done : List Mark) : Type 0 where
  comes : Comes setting answers known done
  names : AllByRecursion (λ id. id ≢ zero_id) known.apps
  same_names : map name (filter_map context_in done) ≡ known.contexts
  seated : AreSeated setting done

-- what a line leaves, behind these marks
record LineSits (setting : Setting) (answers : List Done) (known : Declared) (step : Step) (done : List Mark) : Type 0 where
  sit : AreAll (Sits setting) done (act_of setting answers step done)
  after : Seating setting answers (noted known (step_claim step)) (done ++ act_of setting answers step done)

place_contexts : (known : Declared) (writer : ℕ) (ctid : List ℕ) → (noted known (claim_of_line.Place writer ctid)).contexts ≡ known.contexts
place_contexts known writer ctid = by (numbered known.writers writer) where
  by : (o : Option (List ℕ)) → (option_map_or (λ apid. record known { places = known.places ++ record { writer = writer; apid = apid; ctid = ctid } ∷ [] }) o known).contexts ≡ known.contexts
  by None = refl
  by (Some apid) = refl

module _ (setting : Setting) (answers : List Done) (begins_fresh : setting.first ≢ last_version) (known : Declared) (done : List Mark) (is : Seating setting answers known done) where
  -- a line that declares no context
  goes_calm : (step : Step) → IsNoContext setting step → refusal known (step_claim step) ≡ None → IsInBounds step → AllByRecursion (λ id. id ≢ zero_id) (noted known (step_claim step)).apps
      → (noted known (step_claim step)).contexts ≡ known.contexts → LineSits setting answers known step done
  goes_calm step none admitted bounds names contexts =
      let marks = act_of setting answers step done in
      let calm = line_calm setting answers step bounds none done in
      record {
        sit = calm_sit setting done marks calm is.seated;
        after = record {
          comes = comes_on setting answers known done is.comes step admitted bounds;
          names = names;
          same_names = ap (map name) (along Calm calm_none done marks calm) ∙ is.same_names ∙ sym contexts;
          seated = calm_seated setting done marks calm is.seated;
        };
      }

  goes_context : (context : ContextLine) → refusal known (claim_of_line.Context context.apid context.ctid) ≡ None → IsInBounds (line.Context context) → LineSits setting answers known (line.Context context) done
  goes_context context admitted bounds =
      let msg = user.RegisterContext context.apid context.ctid 0 context.level (negsuc 0) 0 context.text in
      record {
        sit = turns (Sits setting) (just (HasContext context) ∷ tell setting 0 msg ∷ []) ((λ _. (tt, tt)), (tell_sits setting 0 msg, tt)) done;
        after = record {
          comes = comes_on setting answers known done is.comes (line.Context context) admitted bounds;
          names = is.names;
          same_names = ap (map name) (contexts_now setting answers begins_fresh known done is.comes is.names is.same_names is.seated context admitted)
              ∙ map-append name (filter_map context_in done) (context ∷ []) ∙ ap (λ (ns : List ContextName). ns ++ name context ∷ []) is.same_names;
          seated = contexts_seated setting answers begins_fresh known done is.comes is.names is.same_names is.seated context admitted bounds;
        };
      }

  line_sits : (step : Step) → refusal known (step_claim step) ≡ None → IsInBounds step → LineSits setting answers known step done
  line_sits (line.App app) admitted bounds = goes_calm (line.App app) tt admitted bounds (all_both (λ id. id ≢ zero_id) known.apps (app.apid ∷ []) is.names (bounds.0, tt)) refl
  line_sits (line.Context context) admitted bounds = goes_context context admitted bounds
  line_sits (line.Claim asked) admitted bounds =
      goes_calm (line.Claim asked) tt admitted bounds (subst (AllByRecursion (λ id. id ≢ zero_id)) (sym (place_apps known asked.writer asked.ctid)) is.names) (place_contexts known asked.writer asked.ctid)
  line_sits (line.Register asked) admitted bounds =
      goes_calm (line.Register asked) tt admitted bounds (subst (AllByRecursion (λ id. id ≢ zero_id)) (sym (place_apps known asked.writer asked.ctid)) is.names) (place_contexts known asked.writer asked.ctid)
  line_sits step admitted bounds = goes_calm step tt admitted bounds is.names refl

module _ (setting : Setting) (answers : List Done) (begins_fresh : setting.first ≢ last_version) where
  lines_sit : (steps : List Step) (known : Declared) (done : List Mark) → MayFollow step_claim known steps → AllByRecursion IsInBounds steps → Seating setting answers known done →
      AreAll (Sits setting) done (in_sequence (map (act_of setting answers) steps) done) × AreSeated setting (done ++ in_sequence (map (act_of setting answers) steps) done)
  lines_sit [] known done follows bounds is = (tt, subst (AreSeated setting) (sym (append-nil done)) is.seated)
  lines_sit (step ∷ steps) known done follows bounds is =
      let more = act_of setting answers step done in
      let one = line_sits setting answers begins_fresh known done is step follows.0 bounds.0 in
      let next = in_sequence (map (act_of setting answers) steps) (done ++ more) in
      let rest = lines_sit steps (noted known (step_claim step)) (done ++ more) follows.1 bounds.1 one.after in
      (both (Sits setting) done more next one.sit rest.0, subst (AreSeated setting) (append_assoc done more next) rest.1)

  none_seated : AreSeated setting []
  none_seated apid place context at = absurd cc

  -- ---- runs

  run_sits : (steps : List Step) → IsPlayable steps → AreAll (Sits setting) [] (run setting answers steps)
  run_sits steps playable =
      let acts = map (act_of setting answers) steps in
      let lines = in_sequence acts [] in
      let go = lines_sit steps nothing [] playable.follows playable.bounds (record { comes = begins setting answers; names = tt; same_names = refl; seated = none_seated }) in
      subst (AreAll (Sits setting) []) (sym (in_sequence-one acts (end_of setting) []))
      (both (Sits setting) [] lines (end_of setting lines) go.0 (calm_sit setting lines (end_of setting lines) (calmly (end_of setting) (ends setting) lines) go.1))

  pub declared_in_slot : (steps : List Step) (call : Call) → IsPlayable steps → (loaded : IsLoadedIn setting (run setting answers steps) call) → claim_named call.item.writer call.item.ctid loaded.before ≡ None →
      IsInOwnSlot (registry_of setting (journal loaded.before)) call
  declared_in_slot steps call playable loaded none =
      let is = named setting answers steps playable call loaded in
      let r = registry_of setting (journal loaded.before) in
      let contexts = contexts_of call.item.apid loaded.before in
      let all_seated : AreSeated setting loaded.before = by loaded.load loaded.first_step
      (second_part (Sits setting) [] loaded.before (loaded.load ∷ loaded.after) (subst (AreAll (Sits setting) []) loaded.place (run_sits steps playable))).0 in
      let at : place_of call.item.apid call.item.ctid loaded.before ≡ Some is.place =
      sym (ap (λ (o : Option Claimed). option_or (option_map (λ (c : Claimed). c.place) o) (place_of call.item.apid call.item.ctid loaded.before)) none) ∙ is.named in
      let some : ContextLine = record { apid = []; ctid = []; level = None; text = [] } in
      let first = position-Some (λ (c : ContextLine). bytes_eq c.ctid call.item.ctid) contexts is.place some at in
      let context = get_or contexts is.place some in
      let seat = all_seated call.item.apid is.place context (slice_get-get_or contexts is.place some first.0) in
      let mine : Seated call.item.apid seat.0 call.item.ctid is.place r =
      subst (λ (id : List ℕ). Seated call.item.apid seat.0 id is.place r) (same_bytes context.ctid call.item.ctid first.1) seat.1 in
      in_own_slot r call is.place (subst (λ (n : ℕ). Seated call.item.apid n call.item.ctid is.place r) {x = seat.0} (its_number setting answers steps playable call loaded seat.0 call.item.ctid is.place mine) mine) is.slot
    where
      by : (mark : Mark) → is_load mark ≡ true → Sits setting loaded.before mark → AreSeated setting loaded.before
      by (Filtered c) is sat = sat
      by (Passed c) is sat = sat
      by _ is sat = absurd (true≢false (sym is))
