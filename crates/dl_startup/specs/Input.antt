-- What reading a text to its end gives.
use Rattle.std.specs.Prelude.{◌≡◌, ℕ, ◌+◌, ◌<◌, ◌≤◌, List, [], ◌++◌, length, drop, Option, Some, IfSome}
use Rattle.dl_outside.specs.Outside.{HasRisen}
use Rattle.dl_text.specs.Faults.{size_limit}
use Rattle.dl_startup.specs.declared.input.ReadError.{ReadError}
use Rattle.dl_startup.specs.declared.input.ReadError.TheVariants.{Long, Fault, OutOfMemory}

-- the text is all that the source had, and no longer than a text may be
abbrev pub IsWhole : Option (List ℕ) → Option (List ℕ) → List ℕ → Type 0
IsWhole old new text = (length text ≤ size_limit) × IfSome old (λ bytes. (text ≡ bytes) × (new ≡ Some []))

-- why a text could not be read: its source has too many bytes, or failed, or there was no memory
abbrev pub FailsToRead : Option (List ℕ) → ℕ → ℕ → ReadError → Type 0
FailsToRead old before now Long = (now ≡ before) × IfSome old (λ bytes. size_limit < length bytes)
FailsToRead old before now Fault = HasRisen before now
FailsToRead old before now OutOfMemory = now ≡ before

-- a source gave no more than a text may have, and one byte
abbrev pub GaveAtMost : Option (List ℕ) → Option (List ℕ) → Type 0
GaveAtMost old new = IfSome old (λ bytes. (n : ℕ) × (n ≤ size_limit + 1) × (new ≡ Some (drop n bytes)))

-- what was read so far, and what is left, are what the source had
abbrev pub HasRead : Option (List ℕ) → Option (List ℕ) → List ℕ → Type 0
HasRead old new text = IfSome old (λ all. (rest : List ℕ) × (new ≡ Some rest) × (text ++ rest ≡ all))
