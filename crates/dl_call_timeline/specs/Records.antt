-- Where overflow records stand.
use Rattle.std.specs.Prelude.{◌≡◌, ℕ, List, fold, unwrap_or, if◌then◌else◌}
use Rattle.std.specs.HashMap as hash
use Rattle.dl_call_timeline.specs.Calls.{same_record, tells}
use Rattle.dl_call_timeline.specs.Scale.{column_of}
use Rattle.dl_call_timeline.specs.declared.call.Call.{Call}
use Rattle.dl_call_timeline.specs.declared.call.RecordName.{RecordName}
use Rattle.dl_call_timeline.specs.declared.scale.Scale.{Scale}

abbrev pub with_call : Scale → RecordName → ℕ → Call → ℕ
with_call scale name so_far call = if tells name call then column_of scale call else so_far

-- the column of a record: that of the last call that it tells of
abbrev pub record_column : Scale → List Call → RecordName → ℕ
record_column scale calls name = fold (with_call scale name) 0 calls

-- what is kept of them
abbrev pub KeepsColumns : {S : Type 0} → Scale → List Call → hash.HashMap RecordName ℕ S → Type 0
KeepsColumns scale calls columns = (name : RecordName) → unwrap_or (hash.get same_record columns name) 0 ≡ record_column scale calls name
