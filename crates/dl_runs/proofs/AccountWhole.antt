-- A whole run is accounted: nothing waits in a ring, and no loss is pending.
use Rattle.std.proofs.Common.{◌≡◌, ℕ, ◌<◌, ◌≤◌, Bool, cond, List, [], ◌∷◌, ◌++◌, length, refl, sym, ap, subst, ◌∙◌, arith, inl, inr}
use Rattle.std.specs.Prelude.{map}
use Rattle.std.specs.List.{filter, filter_map, AllByRecursion}
use Rattle.std.proofs.lemmas.Bool.{ne_eqb, cases_lt}
use Rattle.std.proofs.lemmas.List.{append-nil}
use Rattle.dl_lemmas.proofs.Lists.{all_map, front_empty}
use Rattle.dl_bytes.specs.Claim.{Claimed}
use Rattle.dl_bytes.specs.declared.outcome.Done.{Done}
use Rattle.dl_events.specs.declared.record.Record.{Record}
use Rattle.dl_events.specs.declared.record.Answer.TheVariants as answer
use Rattle.dl_script_model.specs.declared.step.Step.{Step}
use Rattle.dl_model.specs.Setting.{Setting}
use Rattle.dl_script_model.specs.Marks.{Mark, journal, announced_by, apps, record_of, records_of, records, claims as claims_taken}
use Rattle.dl_model.specs.Report.{records_of_app}
use Rattle.dl_model.specs.Accounts.{order, of_writer, claims, claimed_by, with_answer, AreTold}
use Rattle.dl_script_model.specs.Runs.{AreFounded}
use Rattle.dl_script_model.specs.Steps.{run}
use Rattle.dl_runs.proofs.Founded.{run_founded}
use Rattle.dl_model.specs.WholeAccounts.{IsOwned, IsAccounted, claims_by}
use Rattle.dl_runs.specs.RunRecords.{refusals_of}
use Rattle.dl_runs.proofs.Relations.{AreAll}
use Rattle.dl_runs.proofs.WriterRuns.{Right}
use Rattle.dl_runs.proofs.WriterLaws.{counted_records, never_falling, lost_refused}
use Rattle.dl_runs.proofs.OwnApps.{IsOwnItem, own_records, number-within}
use Rattle.dl_runs.proofs.RightRuns.{run_right}
use Rattle.dl_runs.proofs.Drained.{Emptied, run_empties}
use Rattle.dl_runs.proofs.AccountRuns.{nr, in_app, numbered, exact_of, owner_of, belongs_to, ring_in_order, waiting_of, none_waits, by_number, told_so_far, lost_of_app, all_owned, claims_by_number}
use Rattle.dl_runs.proofs.ClaimPlaces.{IsOwnClaim, home, own_announced, announced_at_home, claims_waiting, none_waiting, writer_claims, places_apart}

module _ (setting : Setting) (marks : List Mark) (founded : AreFounded setting [] marks) (right : AreAll (Right setting) [] marks) (emptied : (app : ℕ) → app < length (apps marks) → Emptied app marks) where
  -- a writer that has a record is of an application whose ring is empty
  in_order_by : (writer app : ℕ) (rs : List Record) → AllByRecursion (λ (r : Record). IsOwnItem writer marks r.item) rs → AllByRecursion (λ (r : Record). r.item.app ≡ app) rs →
      filter (of_writer writer) (order app (journal marks)) ++ waiting_of writer app marks ≡ map nr (with_answer answer.Queued rs) →
      filter (of_writer writer) (order app (journal marks)) ≡ map nr (with_answer answer.Queued rs)
  in_order_by writer app [] own all is = front_empty (filter (of_writer writer) (order app (journal marks))) (waiting_of writer app marks) is
  in_order_by writer app (r ∷ rs) own all is =
      let lt : app < length (apps marks) = omega (arith, number-within marks own.0.apid r.item.app own.0.number, all.0) in
      let none = none_waits writer app marks (emptied app lt).all_taken in
      sym (append-nil (filter (of_writer writer) (order app (journal marks)))) ∙ ap (λ (l : List (ℕ × ℕ)). filter (of_writer writer) (order app (journal marks)) ++ l) (sym none) ∙ is

  -- so of a claim
  claimed_by_home : (writer : ℕ) (cs : List Claimed) → AllByRecursion (IsOwnClaim marks) cs → AllByRecursion (λ (c : Claimed). c.app ≡ home writer marks) cs →
      filter (claimed_by writer) (claims (home writer marks) (journal marks)) ++ filter (claimed_by writer) (claims_waiting (home writer marks) marks) ≡ cs →
      filter (claimed_by writer) (claims (home writer marks) (journal marks)) ≡ cs
  claimed_by_home writer [] own all is = front_empty (filter (claimed_by writer) (claims (home writer marks) (journal marks))) (filter (claimed_by writer) (claims_waiting (home writer marks) marks)) is
  claimed_by_home writer (c ∷ cs) own all is =
      let lt : home writer marks < length (apps marks) = omega (arith, number-within marks own.0.apid c.app own.0.number, all.0) in
      let none = none_waiting (home writer marks) marks (emptied (home writer marks) lt).all_taken in
      sym (append-nil (filter (claimed_by writer) (claims (home writer marks) (journal marks))))
      ∙ ap (λ (l : List Claimed). filter (claimed_by writer) (claims (home writer marks) (journal marks)) ++ filter (claimed_by writer) l) (sym none) ∙ is

  owned : (writer : ℕ) → IsOwned setting.first (journal marks) writer (refusals_of marks writer) (announced_by writer marks) (records_of writer marks)
  owned writer =
      let app = home writer marks in
      let all = owner_of setting marks right writer in
      record {
        app = app;
        belongs = belongs_to setting marks founded right writer;
        account = record {
          numbered = numbered setting writer marks founded;
          counted = counted_records setting writer marks right;
          exact = exact_of setting marks founded writer;
          never_fall = never_falling setting writer marks right;
          in_order = in_order_by writer app (records_of writer marks) (own_records setting writer marks right) all (ring_in_order setting marks founded writer app all);
          claimed = claimed_by_home writer (announced_by writer marks) (own_announced setting marks founded writer) (announced_at_home setting marks founded writer) (writer_claims setting marks founded writer);
          refused = lost_refused setting writer marks right;
        };
      }

  -- no record is of an application that was not declared
  none_beyond : (n app : ℕ) (rs : List Record) → AllByRecursion (λ (r : Record). r.item.app < n) rs → n ≤ app → in_app app rs ≡ []
  none_beyond n app [] all le = refl
  none_beyond n app (r ∷ rs) all le =
      ap (λ (b : Bool). cond b (r ∷ in_app app rs) (in_app app rs)) (ne_eqb r.item.app app (λ same. omega (arith, same, all.0, le))) ∙ none_beyond n app rs all.1 le

  within : AllByRecursion (λ (r : Record). r.item.app < length (apps marks)) (filter_map record_of marks)
  within = all_map (λ (r : Record). IsOwnItem r.item.writer marks r.item) (λ (r : Record). r.item.app < length (apps marks)) (λ r is. number-within marks is.apid r.item.app is.number) (filter_map record_of marks) (all_owned setting marks right)

  none_lost : (app : ℕ) → length (apps marks) ≤ app → length (with_answer answer.Lost (records_of_app app (records marks))) ≡ 0
  none_lost app le = lost_of_app setting marks right app ∙ ap (λ (rs : List Record). length (with_answer answer.Lost rs)) (none_beyond (length (apps marks)) app (filter_map record_of marks) within le)

  told : (app : ℕ) → AreTold app (journal marks) 0 (records_of_app app (records marks))
  told app = elim (cases_lt app (length (apps marks))) [
    | inl lt ↦ omega (arith, told_so_far setting marks founded right app, (emptied app lt).none_pending)
    | inr le ↦ omega (arith, told_so_far setting marks founded right app, none_lost app le)
  ]

  accounted : IsAccounted setting.first (journal marks) (λ app. 0) (refusals_of marks) (claims_taken marks) (records marks)
  accounted = record {
    writers = λ writer.
        subst (IsOwned setting.first (journal marks) writer (refusals_of marks writer) (claims_by writer (claims_taken marks))) (sym (by_number setting marks right writer))
        (subst (λ (cs : List Claimed). IsOwned setting.first (journal marks) writer (refusals_of marks writer) cs (records_of writer marks)) (sym (claims_by_number setting marks founded writer)) (owned writer));
    places = places_apart setting marks founded;
    told = told;
  }

pub run_accounted : (setting : Setting) (answers : List Done) (steps : List Step) →
    IsAccounted setting.first (journal (run setting answers steps)) (λ app. 0) (refusals_of (run setting answers steps)) (claims_taken (run setting answers steps)) (records (run setting answers steps))
run_accounted setting answers steps =
    accounted setting (run setting answers steps) (run_founded setting answers steps) (run_right setting answers steps) (run_empties setting answers steps)
