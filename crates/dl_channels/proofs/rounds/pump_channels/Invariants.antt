use Rattle.std.proofs.Common.{◌≡◌, ◌≤◌, ◌||◌, Bool, None, drop, length}
use Rattle.dl_bytes.specs.Limits.{admitted_limit}
use Rattle.dl_registry.specs.Kept.{owed_change}
use Rattle.dl_socket.specs.Channels.{open_in}
use Rattle.dl_channels.specs.Accepting.{AreLinked}
use Rattle.dl_channels.specs.Rounds.{Sent, Scene, VisitsEach, scene}
use Rattle.dl_channels.proofs.rounds.pump_channels.Given as goal

-- who visits the rest, has visited all
abbrev pub invariant-loop-channel : goal.invariant-loop-channel
invariant-loop-channel g l = let s = scene g.L.Link.told g.J.Journal.events g.F.Folder.told in record {
  behind : (later : Bool) (new : Scene) → VisitsEach (Sent l.fn.moment) (drop l.place (open_in l.channels)) later (s l.links l.ends l.channels l.core l.journal l.folder) new
      → VisitsEach (Sent l.fn.moment) (open_in l.fn.channels) later (s l.fn.links l.fn.ends l.fn.channels l.fn.core l.fn.journal l.fn.folder) new;
  linked : AreLinked l.links l.channels;
  ends : length l.ends ≡ length l.fn.ends;
  opened : l.channels.opened ≡ l.fn.channels.opened;
  settled : owed_change l.core.registry ≡ None;
  few : l.core.hub.admitted ≤ admitted_limit;
}

abbrev pub decreases-loop-channel : goal.decreases-loop-channel
decreases-loop-channel g l = length (drop l.place (open_in l.channels))
