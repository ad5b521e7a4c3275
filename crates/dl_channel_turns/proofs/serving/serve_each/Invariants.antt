use Rattle.std.proofs.Common.{◌≡◌, ◌≤◌, ◌+◌, ◌*◌, ◌++◌, None, length}
use Rattle.std.specs.List.{AllByRecursion}
use Rattle.dl_bytes.specs.Limits.{admitted_limit}
use Rattle.dl_registry.specs.Kept.{owed_change}
use Rattle.dl_core.specs.Admission.{IsLog}
use Rattle.dl_channel_turns.specs.State.{side}
use Rattle.dl_channel_turns.proofs.ServedMessages.{SoFar}
use Rattle.dl_channel_turns.proofs.serving.serve_each.Given as goal

-- the messages so far are taken in, but for those that are gathered
abbrev pub invariant-loop-msg : goal.invariant-loop-msg
invariant-loop-msg g l = record {
  settled : owed_change l.core.registry ≡ None;
  few : 8 * (l.core.hub.admitted + length l.gathered) + length (l.inbox.unread ++ l.rest) ≤ 8 * admitted_limit;
  logs : AllByRecursion IsLog l.gathered;
  far : SoFar l.fn.channel l.fn.moment (l.fn.inbox.unread ++ l.fn.piece) (l.inbox.unread ++ l.rest) l.gathered
      (side l.fn.core l.fn.outboxes (g.J.Journal.events l.fn.journal) (g.F.Folder.told l.fn.folder)) (side l.core l.outboxes (g.J.Journal.events l.journal) (g.F.Folder.told l.folder));
}

-- each message takes bytes from the front
abbrev pub decreases-loop-msg : goal.decreases-loop-msg
decreases-loop-msg g l = length (l.inbox.unread ++ l.rest)
