-- The writers of an application ask for no more places than it has left beside its declared contexts.
use Rattle.std.proofs.Common.{◌≡◌, ℕ, ◌+◌, ◌≤◌, cond, eqb, Bool, true, false, List, [], ◌∷◌, ◌++◌, length, Option, Some, None, slice_get, refl, sym, ap, ◌∙◌, subst, append_assoc, length-append, arith}
use Rattle.std.specs.Prelude.{All}
use Rattle.std.specs.List.{filter, range_with_len}
use Rattle.std.specs.Option.{option_map_or}
use Rattle.std.specs.Str.{bytes_eq}
use Rattle.std.proofs.lemmas.Bool.{eqb-true}
use Rattle.std.proofs.lemmas.List.{length-map}
use Rattle.std.proofs.lemmas.List.Elements.{All-filter, filter_passes}
use Rattle.std.proofs.lemmas.List.Quantifiers.{position-Some}
use Rattle.std.proofs.lemmas.Slice.Eq.{bytes_eq-Decides}
use Rattle.dl_bytes.specs.Context.{Context}
use Rattle.dl_bytes.specs.declared.conf.AppSpec.{AppSpec}
use Rattle.dl_script_model.specs.declared.line.AppLine.{AppLine}
use Rattle.dl_script_model.specs.declared.scenario.ScenarioLine.{ScenarioLine}
use Rattle.dl_script.specs.Earlier.{numbered}
use Rattle.dl_script.specs.Playable.{IsRunnable}
use Rattle.dl_cells.specs.Views.{total}
use Rattle.dl_writer.specs.State.{BookState, numbers}
use Rattle.dl_crew.specs.Calls.{registers_of as asked_of}
use Rattle.dl_crew.specs.Plays.{ArePairs, HasPlayed}
use Rattle.dl_crew.proofs.Pairs.{same_bases}
use Rattle.dl_account.specs.Books.{books_of, registers_of}
use Rattle.dl_opening.specs.Opening.{IsBookOf, IsOpened}
use Rattle.dl_opening.specs.Scenario.{apps, base_of, contexts_of, number_in, spec_of, specs_of, writers}
use Rattle.dl_opening.specs.declared.opened.Opened.{Opened}
use Rattle.dl_opening.proofs.AllCalls.{of_row}
use Rattle.dl_opening.proofs.ClaimedPlaces.{few_places, lines_row, own_claims}
use Rattle.dl_opening.proofs.Declared.{app_named}
use Rattle.dl_opening.proofs.Playing.{numbered_here, opened_bases}
use Rattle.dl_lemmas.proofs.Lists.{head_is, tail_is, there}

-- ---- the writers of one application, one after the other

-- their application has this number, and it has this id
module _ (lines : List ScenarioLine) (contexts : List Context) (app : ℕ) (apid : List ℕ) (named : (id : List ℕ) → number_in id (specs_of lines) ≡ Some app → id ≡ apid) where
  asked_by : (before apids : List (List ℕ)) (old new : List BookState) → writers lines ≡ before ++ apids → numbers old ≡ range_with_len (length before + 1) (length old)
      → ArePairs (IsBookOf lines) apids old → ArePairs (HasPlayed contexts lines) old new
      → registers_of app new ≤ of_row (own_claims (writers lines) apid lines) (length before + 1) (length old)
  asked_by before [] [] [] all numbered_so pairs played = omega arith
  asked_by before [] [] (n ∷ new) all numbered_so pairs played = absurd played
  asked_by before [] (b ∷ old) new all numbered_so pairs played = absurd pairs
  asked_by before (id ∷ apids) [] new all numbered_so pairs played = absurd pairs
  asked_by before (id ∷ apids) (b ∷ old) [] all numbered_so pairs played = absurd played
  asked_by before (id ∷ apids) (b ∷ old) (n ∷ new) all numbered_so pairs played =
      let number = head_is b.writer.push.number (length before + 1) (numbers old) (range_with_len (length before + 1 + 1) (length old)) numbered_so in
      let others = tail_is b.writer.push.number (length before + 1) (numbers old) (range_with_len (length before + 1 + 1) (length old)) numbered_so in
      let long = length-append before (id ∷ []) in
      let more : length before + 1 + 1 ≡ length (before ++ id ∷ []) + 1 = omega (arith, long) in
      let rest = asked_by (before ++ id ∷ []) apids old new (all ∙ sym (append_assoc before (id ∷ []) apids)) (others ∙ ap (λ (k : ℕ). range_with_len k (length old)) more) pairs.1 played.1 in
      let behind = ap (λ (k : ℕ). of_row (own_claims (writers lines) apid lines) k (length old)) more in
      by_app (eqb n.writer.app app) refl number (omega (arith, rest, behind)) where
        -- where the writer is of this application, all its `register` lines count
        own : n.writer.app ≡ app → b.writer.push.number ≡ length before + 1 → own_claims (writers lines) apid lines (length before + 1) ≡ length (asked_of b.writer.push.number lines)
        own same number =
            let is : id ≡ apid = named id (pairs.0.app ∙ ap (λ (k : ℕ). Some k) (sym played.0.stays.app ∙ same)) in
            let here = ap (λ (ids : List (List ℕ)). option_map_or (λ i. bytes_eq i apid) (numbered ids (length before + 1)) false) all
            ∙ ap (λ (o : Option (List ℕ)). option_map_or (λ i. bytes_eq i apid) o false) (numbered_here before apids id (length before + 1) refl) ∙ (bytes_eq-Decides id apid).1 is in
            ap (λ (b : Bool). cond b (length (asked_of (length before + 1) lines)) 0) here ∙ ap (λ (k : ℕ). length (asked_of k lines)) (sym number)

        by_app : (t : Bool) → eqb n.writer.app app ≡ t → b.writer.push.number ≡ length before + 1
            → total (λ b. b.writer.registers) (filter (λ b. eqb b.writer.app app) new) ≤ of_row (own_claims (writers lines) apid lines) (length before + 1 + 1) (length old)
            → total (λ b. b.writer.registers) (cond t (n ∷ filter (λ b. eqb b.writer.app app) new) (filter (λ b. eqb b.writer.app app) new))
            ≤ own_claims (writers lines) apid lines (length before + 1) + of_row (own_claims (writers lines) apid lines) (length before + 1 + 1) (length old)
        by_app true is number rest =
            let here = own (eqb-true n.writer.app app is) number in
            let asks = played.0.registers in
            let none = pairs.0.unused.registers in
            omega (arith, rest, here, asks, none)
        by_app false is number rest = omega (arith, rest)

-- ---- one application

module _ (lines : List ScenarioLine) (o : Opened) (books : List BookState) (runs : IsRunnable lines) (is : IsOpened lines o) (played : ArePairs (HasPlayed o.plan.contexts o.plan.lines) o.books books) (app : ℕ) where
  -- all that its writers asked for
  beside : (apid : List ℕ) → ((id : List ℕ) → number_in id (specs_of lines) ≡ Some app → id ≡ apid) → registers_of app books + length (contexts_of apid lines) ≤ 64
  beside apid named =
      let one : 1 ≡ length {A = List ℕ} [] + 1 = omega arith in
      let asked = asked_by lines o.plan.contexts app apid named [] (writers lines) o.books books refl (is.books.numbered ∙ ap (λ (n : ℕ). range_with_len n (length o.books)) one) is.books.each
      (subst (λ (l : List ScenarioLine). ArePairs (HasPlayed o.plan.contexts l) o.books books) is.same_lines played) in
      let row = lines_row (writers lines) apid lines 1 (length o.books) in
      let few = few_places lines runs apid in
      omega (arith, asked, row, few)

  all_left : registers_of app books + base_of lines app ≤ 64
  all_left = by_app (slice_get (apps lines) app) refl where
    -- an application that isn't there has no writer
    none_named : slice_get (apps lines) app ≡ None → (id : List ℕ) → number_in id (specs_of lines) ≡ Some app → id ≡ []
    none_named none id number =
        let nothing : AppSpec = record { apid = []; capacity = 0; text = [] } in
        let found = position-Some (λ spec. bytes_eq spec.apid id) (specs_of lines) app nothing number in
        let many = length-map (apps lines) spec_of in
        let entry = there (apps lines) app (omega (arith, found.0, many)) in
        let clash : None ≡ Some entry.0 = sym none ∙ entry.1 in
        absurd cc

    by_app : (found : Option AppLine) → slice_get (apps lines) app ≡ found → registers_of app books + option_map_or (λ a. length (contexts_of a.apid lines)) found 0 ≤ 64
    by_app None at = let all = beside [] (none_named at) in omega (arith, all)
    by_app (Some a) at = beside a.apid (λ id number. sym (app_named lines id app a at number))

  left_by_each : All (λ b. registers_of app books + b.writer.base ≤ 64) (books_of app books)
  left_by_each k d less =
      let bases = All-filter (λ (b : BookState). eqb b.writer.app app) (λ (b : BookState). b.writer.base ≡ base_of lines b.writer.app) books
      (same_bases o.plan.contexts o.plan.lines (base_of lines) o.books books played (opened_bases lines o is)) k d less in
      let own = eqb-true _ app (filter_passes (λ (b : BookState). eqb b.writer.app app) books k d less) in
      let same = bases ∙ ap (base_of lines) own in
      let all = all_left in
      omega (arith, same, all)

pub places_left : (lines : List ScenarioLine) (o : Opened) (books : List BookState) → IsRunnable lines → IsOpened lines o → ArePairs (HasPlayed o.plan.contexts o.plan.lines) o.books books
    → (app : ℕ) → All (λ b. registers_of app books + b.writer.base ≤ 64) (books_of app books)
places_left lines o books runs is played app = left_by_each lines o books runs is played app
