-- A client after its turn, open or gone, and what its link did.
use Rattle.std.specs.Prelude.{◌≡◌, ◌<◌, ◌⊎◌, true, Some, IsSome}
use Rattle.dl_events.specs.declared.event.Why.{Why}
use Rattle.dl_events.specs.declared.event.Why.TheVariants.{Left, Broken, Stuck, Stopped}
use Rattle.dl_model.specs.ClientEnds.{LinkDid, WasTried}
use Rattle.dl_outside.specs.Told.{LinkTold}

-- A link tells what it did: the bytes that it gave and took, and its counts. It told what it gave before this, too.
pub record Tells (link link_now : LinkTold) (did : LinkDid) : Type 0 where
  pub before : IsSome link.given
  pub given : link_now.given ≡ Some did.given
  pub taken : link_now.taken ≡ Some did.taken
  pub faults : link_now.faults ≡ did.faults
  pub idles : link_now.idles ≡ did.idles
  pub waits : link_now.waits ≡ did.waits

-- every link of a kind tells whether it is over
abbrev pub TellTheEnd : {L : Type 0} → (L → LinkTold) → Type 0
TellTheEnd {L} told = (link : L) → IsSome (told link).over

-- What a link did shows why its client went: it is over, it failed, it took nothing, or it had nothing to give. Other causes are shown by the
-- bytes and the journal.
abbrev pub IsShown : LinkDid → Why → Type 0
IsShown did Left = did.is_over ≡ true
IsShown did Broken = 0 < did.faults
IsShown did (Stuck bytes) = (0 < did.waits) × WasTried did
IsShown did Stopped = (0 < did.idles) ⊎ WasTried did
IsShown did other = Unit {0}

-- What every link shows of that by its counts, whatever else it tells: it failed, or it took nothing.
abbrev pub ShowsCause : LinkTold → Why → Type 0
ShowsCause link Broken = 0 < link.faults
ShowsCause link (Stuck bytes) = 0 < link.waits
ShowsCause link other = Unit {0}
