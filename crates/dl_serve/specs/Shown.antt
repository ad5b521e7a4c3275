-- Why channels have ended, as their links show it.
use Rattle.std.specs.Prelude.{◌≡◌, ◌<◌, ℕ, List, [], slice_get, Option, Some, IsSome}
use Rattle.dl_channel.specs.declared.outcome.ChannelEnd.{ChannelEnd}
use Rattle.dl_channel.specs.declared.outcome.ChannelEnd.TheVariants.{Left, Broken}
use Rattle.dl_outside.specs.Told.{LinkTold}

-- links of this kind tell what is left of their input
abbrev pub TellLeft : {L : Type 0} → (L → LinkTold) → Type 0
TellLeft {L} told = (link : L) → IsSome (told link).left

-- Nothing is left to read of the link of a program that left, where links tell that. A broken one has counted a fault.
abbrev pub ShowsEnd : Type 0 → Option ChannelEnd → LinkTold → Type 0
ShowsEnd Tells (Some Left) link = Tells → link.left ≡ Some []
ShowsEnd Tells (Some Broken) link = 0 < link.faults
ShowsEnd Tells other link = Unit {0}

-- so it is of each channel that came, by number
abbrev pub AllShowEnds : Type 0 → List LinkTold → List (Option ChannelEnd) → Type 0
AllShowEnds Tells links ends = (place : ℕ) (link : LinkTold) (end : Option ChannelEnd) → slice_get links place ≡ Some link → slice_get ends place ≡ Some end
    → ShowsEnd Tells end link
