-- Why storing ended, and how the folder's count of faults shows it.
use Rattle.std.specs.Prelude.{◌≡◌, ℕ, Option, Some, None}
use Rattle.dl_bytes.specs.declared.outcome.TraceEnd.{TraceEnd}
use Rattle.dl_bytes.specs.declared.outcome.TraceEnd.TheVariants.{Failed, Spent, NoMemory}
use Rattle.dl_outside.specs.Outside.{HasRisen}

-- the folder's count of faults rose where it failed, and stands where it didn't
abbrev pub EndHasCause : ℕ → ℕ → Option TraceEnd → Type 0
EndHasCause before now None = now ≡ before
EndHasCause before now (Some Failed) = HasRisen before now
EndHasCause before now (Some Spent) = now ≡ before
EndHasCause before now (Some NoMemory) = now ≡ before
