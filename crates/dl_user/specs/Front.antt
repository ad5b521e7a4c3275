-- What was read of the front of a channel's bytes.
use Rattle.std.specs.Prelude.{ℕ, ◌≤◌, ◌<◌, List, length, drop, Result, Ok, Err}
use Rattle.dl_bytes.specs.declared.user.UserMsg.{UserMsg}
use Rattle.dl_user.specs.declared.fault.Stop.TheVariants.{NeedMore, Bad}
use Rattle.dl_user.specs.declared.fault.ReadError.{ReadError}
use Rattle.dl_user.specs.declared.fault.ReadError.TheVariants.{Stop, OutOfMemory}
use Rattle.dl_user.specs.Channel.{longest}
use Rattle.dl_user.specs.Cut.{Begins, Stops}

-- A message and how many bytes it takes, or why there is none: fewer bytes than the longest message has, or a fault.
abbrev pub IsFront : List ℕ → Result (UserMsg × ℕ) ReadError → Type 0
IsFront bytes (Ok found) = (found.1 ≤ length bytes) × Begins bytes found.0 (drop found.1 bytes)
IsFront bytes (Err (Stop NeedMore)) = Stops bytes NeedMore × (length bytes < longest)
IsFront bytes (Err (Stop (Bad fault))) = Stops bytes (Bad fault)
IsFront bytes (Err OutOfMemory) = (msg : UserMsg) × (after : List ℕ) × Begins bytes msg after
