-- The columns of overflow records, with one call more.
use Rattle.std.proofs.Common.{◌≡◌, ℕ, Bool, true, false, cond, List, [], ◌∷◌, ◌++◌, Option, Some, None, sym, ap, ◌∙◌}
use Rattle.std.specs.Prelude.{unwrap_or}
use Rattle.std.specs.Option.{option_map_or}
use Rattle.dl_lemmas.proofs.Lists.{fold-one}
use Rattle.dl_call_timeline.specs.Calls.{same_record, teller_of}
use Rattle.dl_call_timeline.specs.Records.{record_column, with_call}
use Rattle.dl_call_timeline.specs.Scale.{column_of}
use Rattle.dl_call_timeline.specs.declared.call.Call.{Call}
use Rattle.dl_call_timeline.specs.declared.call.RecordName.{RecordName}
use Rattle.dl_call_timeline.specs.declared.scale.Scale.{Scale}

module _ (scale : Scale) (calls : List Call) (call : Call) (name : RecordName) where
  -- the column of a record behind the call, by the record that tells of it
  abbrev behind : Option RecordName → ℕ
  behind o = cond (option_map_or (λ (other : RecordName). same_record other name) o false) (column_of scale call) (record_column scale calls name)

  one_more : (o : Option RecordName) → teller_of call ≡ o → record_column scale (calls ++ call ∷ []) name ≡ behind o
  one_more o is = fold-one (with_call scale name) 0 calls call ∙ ap behind is

  -- no record tells of it
  pub untold : teller_of call ≡ None → record_column scale calls name ≡ record_column scale (calls ++ call ∷ []) name
  untold none = sym (one_more None none)

  -- a record does
  pub told : (old new : RecordName → Option ℕ) (teller : RecordName) (column : ℕ) → teller_of call ≡ Some teller → column ≡ column_of scale call →
      ((other : RecordName) → new other ≡ cond (same_record teller other) (Some column) (old other)) → ((other : RecordName) → unwrap_or (old other) 0 ≡ record_column scale calls other) →
      unwrap_or (new name) 0 ≡ record_column scale (calls ++ call ∷ []) name
  told old new teller column tells is updates keeps = ap (λ (o : Option ℕ). unwrap_or o 0) (updates name) ∙ by_test (same_record teller name) ∙ sym (one_more (Some teller) tells) where
    by_test : (b : Bool) → unwrap_or (cond b (Some column) (old name)) 0 ≡ cond b (column_of scale call) (record_column scale calls name)
    by_test true = is
    by_test false = keeps name
