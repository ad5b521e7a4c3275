-- What the answers of a dial say of its faults.
use Rattle.std.specs.Prelude.{◌≡◌, ℕ, Result, Ok, Err}
use Rattle.dl_outside.specs.declared.dial.DialFault.{DialFault}
use Rattle.dl_outside.specs.declared.dial.DialFault.TheVariants.{Failed, OutOfMemory}
use Rattle.dl_outside.specs.Outside.{HasRisen}

-- the count of faults rose where the call failed, and stands with every other answer
abbrev pub HasCause : {T : Type 0} → ℕ → ℕ → Result T DialFault → Type 0
HasCause before now (Ok answer) = now ≡ before
HasCause before now (Err Failed) = HasRisen before now
HasCause before now (Err OutOfMemory) = now ≡ before
