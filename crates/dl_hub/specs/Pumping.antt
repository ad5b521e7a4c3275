-- What it means that an outbox is sent.
use Rattle.std.specs.Prelude.{◌≡◌, ℕ, ◌≤◌, length, take, IsSomeAnd}
use Rattle.dl_outside.specs.Outside.{Grows, HasRisen, Stays}
use Rattle.dl_outside.specs.Link.{StaysOver}
use Rattle.dl_outside.specs.Told.{LinkTold}
use Rattle.dl_hub.specs.State.{Hub, outbox_of, changed, without}
use Rattle.dl_hub.specs.declared.hub.Pumped.{Pumped}
use Rattle.dl_hub.specs.declared.hub.Pumped.TheVariants.{All, Busy, Failed}

-- bytes from the front of a client's outbox went through its link, and nothing else changed
pub record Pumps (client : ℕ) (old new : Hub) (link link_now : LinkTold) : Type 0 where
  pub count : ℕ
  pub sent : IsSomeAnd (outbox_of old client) (λ outbox. (count ≤ length outbox.bytes) × Grows link.taken link_now.taken (take count outbox.bytes))
  pub left : new ≡ changed client (without count) old

-- the link's count of faults rose exactly where it failed
abbrev pub HasFailed : Pumped → LinkTold → LinkTold → Type 0
HasFailed Failed link link_now = HasRisen link.faults link_now.faults
HasFailed All link link_now = link_now.faults ≡ link.faults
HasFailed Busy link link_now = link_now.faults ≡ link.faults

-- and that of busy turns exactly where it was busy
abbrev pub HasWaited : Pumped → LinkTold → LinkTold → Type 0
HasWaited Busy link link_now = HasRisen link.waits link_now.waits
HasWaited All link link_now = link_now.waits ≡ link.waits
HasWaited Failed link link_now = link_now.waits ≡ link.waits

-- nothing was read from the link, and it was not shut
pub record IsOnlySent (link link_now : LinkTold) : Type 0 where
  pub left : Stays link.left link_now.left
  pub over : StaysOver link link_now
  pub given : Stays link.given link_now.given
  pub idles : link_now.idles ≡ link.idles
  pub shut : link_now.is_shut ≡ link.is_shut
