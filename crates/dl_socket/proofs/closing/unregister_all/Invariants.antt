use Rattle.std.proofs.Common.{◌≡◌, ◌≤◌, ℕ, List, None}
use Rattle.dl_bytes.specs.Limits.{admitted_limit}
use Rattle.dl_channel_turns.specs.State.{Side, side}
use Rattle.dl_registry.specs.Kept.{owed_change}
use Rattle.dl_socket.specs.Closing.{HasUnregistered, UnregistersEach, apps_of}
use Rattle.dl_socket.proofs.closing.unregister_all.Given as goal

-- what unregisters the others, unregisters all
abbrev pub invariant-loop-apid : goal.invariant-loop-apid
invariant-loop-apid g l = record {
  settled : owed_change l.core.registry ≡ None;
  few : l.core.hub.admitted ≤ admitted_limit;
  same : l.messenger ≡ record l.fn.messenger { outboxes = l.messenger.outboxes };
  rest : (apids : List (List ℕ)) (new : Side) → UnregistersEach l.fn.channel l.fn.moment apids (side l.core l.messenger.outboxes (g.J.Journal.events l.journal) (g.F.Folder.told l.folder)) new
      → HasUnregistered l.fn.channel l.fn.moment (side l.fn.core l.fn.messenger.outboxes (g.J.Journal.events l.fn.journal) (g.F.Folder.told l.fn.folder)) new;
}

abbrev pub decreases-loop-apid : goal.decreases-loop-apid
decreases-loop-apid g l = apps_of l.core.registry.registry l.fn.channel
