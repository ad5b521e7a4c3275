-- Severities and levels by their numbers in the standard.
use Rattle.std.specs.Prelude.{ℕ, Bool, nat_le, if◌then◌else◌, zero, suc, Option, Some, None, ℤ, pos, negsuc}
use Rattle.dl_bytes.specs.declared.level.Severity.{Severity}
use Rattle.dl_bytes.specs.declared.level.Severity.TheVariants.{Fatal, Error, Warn, Info, Debug, Verbose}

-- the field MTIN of a log message
abbrev pub severity_number : Severity → ℕ
severity_number Fatal = 1
severity_number Error = 2
severity_number Warn = 3
severity_number Info = 4
severity_number Debug = 5
severity_number Verbose = 6

-- a message passes a level that its severity does not exceed
abbrev pub passes : Severity → ℕ → Bool
passes severity level = nat_le (severity_number severity) level

-- the own level that a number stands for: -1 is none, 0 to 6 is a level, nothing else is one
abbrev pub own_level_of : ℤ → Option (Option ℕ)
own_level_of (pos n) = if nat_le n 6 then Some (Some n) else None
own_level_of (negsuc zero) = Some None
own_level_of (negsuc (suc n)) = None
