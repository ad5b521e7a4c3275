-- The rows of calls, with one call more.
use Rattle.std.proofs.Common.{◌≡◌, ℕ, ◌+◌, List, [], ◌∷◌, ◌++◌, Option, Some, None, Bor, refl, sym, ap, ◌∙◌, append_assoc}
use Rattle.std.specs.Prelude.{count_by, option_map}
use Rattle.std.specs.Option.{option_map_or}
use Rattle.dl_bytes.specs.declared.conf.AppSpec.{AppSpec}
use Rattle.dl_events.specs.declared.record.Record.{Record}
use Rattle.dl_model.specs.WholeAccounts.{record_named}
use Rattle.dl_model.proofs.Lists.{along-one}
use Rattle.dl_fates.specs.Rows.{is_by, record_at}
use Rattle.dl_fates.specs.Written.{row_by, rows_by}
use Rattle.dl_fates.specs.declared.call.CallAt.{CallAt}
use Rattle.dl_fates.specs.declared.fates.Fates.{Fates}

module _ (records : List (List Record)) (specs : List AppSpec) (nobody : Fates) (clients : List Fates) (more : CallAt → Record → List ℕ) where
  -- a row, of a record that is lent
  lent : (at : CallAt) (o : Option (Bor Record)) → option_map_or (λ (r : Bor Record). row_by specs nobody clients more at r.now) o [] ≡ option_map_or (row_by specs nobody clients more at) (option_map (λ (r : Bor Record). r.now) o) []
  lent at None = refl
  lent at (Some r) = refl

  pub rows_more : (calls : List CallAt) (at : CallAt) (o : Option (Bor Record)) (number : ℕ) (first before after : List ℕ) → number ≡ 1 + count_by (is_by at.writer) calls →
      option_map (λ (r : Bor Record). r.now) o ≡ record_named records at.writer number → before ≡ first ++ rows_by records specs nobody clients more calls →
      after ≡ before ++ option_map_or (λ (r : Bor Record). row_by specs nobody clients more at r.now) o [] → after ≡ first ++ rows_by records specs nobody clients more (calls ++ at ∷ [])
  rows_more calls at o number first before after numbered found was is =
      let row : List CallAt → CallAt → List ℕ = λ (some : List CallAt) (one : CallAt). option_map_or (row_by specs nobody clients more one) (record_at records some one) [] in
      let own : option_map_or (λ (r : Bor Record). row_by specs nobody clients more at r.now) o [] ≡ row calls at =
      lent at o ∙ ap (λ (x : Option Record). option_map_or (row_by specs nobody clients more at) x []) (found ∙ ap (record_named records at.writer) numbered) in
      is ∙ ap (λ (text : List ℕ). text ++ option_map_or (λ (r : Bor Record). row_by specs nobody clients more at r.now) o []) was
      ∙ ap (λ (text : List ℕ). (first ++ rows_by records specs nobody clients more calls) ++ text) own
      ∙ append_assoc first (rows_by records specs nobody clients more calls) (row calls at)
      ∙ ap (λ (text : List ℕ). first ++ text) (sym (along-one row calls at))
