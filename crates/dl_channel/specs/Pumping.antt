-- What it means that what waits is sent.
use Rattle.std.specs.Prelude.{◌≡◌, ℕ, ◌<◌, ◌≤◌, ◌⊎◌, Bool, true, false, List, [], length, take, drop, Option, Some, None}
use Rattle.dl_outside.specs.Outside.{Grows, HasRisen}
use Rattle.dl_outside.specs.Told.{LinkTold}
use Rattle.dl_hub.specs.Pumping.{IsOnlySent}
use Rattle.dl_channel.specs.State.{Outbox}
use Rattle.dl_channel.specs.declared.outcome.ChannelEnd.{ChannelEnd}
use Rattle.dl_channel.specs.declared.outcome.ChannelEnd.TheVariants.{Broken, Slow}

-- The channel goes on where nothing is left to send, or where the link takes nothing now, its count of busy turns risen. It is broken only
-- where the link failed with something left.
abbrev pub EndsSending : Option ChannelEnd → List ℕ → LinkTold → LinkTold → Type 0
EndsSending None left link link_now =
    (((left ≡ []) × (link_now.waits ≡ link.waits)) ⊎ ((0 < length left) × HasRisen link.waits link_now.waits)) × (link_now.faults ≡ link.faults)
EndsSending (Some Broken) left link link_now = (0 < length left) × HasRisen link.faults link_now.faults × (link_now.waits ≡ link.waits)
EndsSending (Some other) left link link_now = ⊥

-- Bytes from the front of what waited went through the link, and nothing else did.
pub record HasSent (end : Option ChannelEnd) (old new : List ℕ) (link link_now : LinkTold) : Type 0 where
  pub count : ℕ
  pub within : count ≤ length old
  pub taken : Grows link.taken link_now.taken (take count old)
  pub left : new ≡ drop count old
  pub ends : EndsSending end new link link_now
  pub only_sent : IsOnlySent link link_now

-- A full outbox ends its channel as slow, with nothing sent. Of any other the front of what waits is sent.
abbrev pub PumpsBy : Bool → Option ChannelEnd → Outbox → Outbox → LinkTold → LinkTold → Type 0
PumpsBy true end old new link link_now = (end ≡ Some Slow) × (new ≡ old) × (link_now ≡ link)
PumpsBy false end old new link link_now = HasSent end old.waiting new.waiting link link_now × (new ≡ record old { waiting = new.waiting })

abbrev pub IsPump : Option ChannelEnd → Outbox → Outbox → LinkTold → LinkTold → Type 0
IsPump end old new link link_now = PumpsBy old.full end old new link link_now
