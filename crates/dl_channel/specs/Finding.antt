-- What comes next in what a program sent.
use Rattle.std.specs.Prelude.{◌≡◌, ℕ, ◌+◌, ◌≤◌, List, ◌++◌, length, drop}
use Rattle.dl_bytes.specs.declared.user.UserMsg.{UserMsg}
use Rattle.dl_user.specs.Channel as cutter
use Rattle.dl_user.specs.Channel.{longest}
use Rattle.dl_user.specs.Cut.{Begins, Stops}
use Rattle.dl_user.specs.declared.fault.Stop.TheVariants as stops
use Rattle.dl_channel.specs.declared.finding.Next.{Next}
use Rattle.dl_channel.specs.declared.finding.Next.TheVariants.{Message, NoMore, Bad, NoMemory}

-- a cutter holds and takes no more than the bytes of the longest message
abbrev pub IsWithin : cutter.Channel → Type 0
IsWithin cutter = length cutter.unread + cutter.room ≤ longest

-- What comes next in bytes, of which the last ones are a piece that is being fed: a message, with so much of the piece fed, and what is left
-- behind it; nothing more, and all is fed; bytes that no message begins; or a message for which there is no memory.
abbrev pub Finds : List ℕ → List ℕ → Next → cutter.Channel → Type 0
Finds bytes piece (Message msg taken) cutter = (taken ≤ length piece) × Begins bytes msg (cutter.unread ++ drop taken piece)
Finds bytes piece NoMore cutter = Stops bytes stops.NeedMore × (cutter.unread ≡ bytes)
Finds bytes piece (Bad fault) cutter = Stops bytes (stops.Bad fault)
Finds bytes piece NoMemory cutter = (msg : UserMsg) × (after : List ℕ) × Begins bytes msg after
