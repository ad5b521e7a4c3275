use Rattle.std.proofs.Common.{◌≡◌, ◌≤◌, ◌++◌, Option, length}
use Rattle.dl_bytes.specs.Limits.{message_limit}
use Rattle.dl_events.specs.declared.event.Why.{Why}
use Rattle.dl_message.specs.Cut.{rest_of}
use Rattle.dl_message.specs.Requests.{requests}
use Rattle.dl_turns.specs.Clients.{IsSame}
use Rattle.dl_turns.specs.Events.{IsServing}
use Rattle.dl_turns.specs.Sent.{is_bad}
use Rattle.dl_turns.specs.State.{Side, side}
use Rattle.dl_turns.specs.Turns.{ServesEach}
use Rattle.dl_turns.proofs.serving.serve_each.Given as goal

-- what serves the rest, serves all
abbrev pub invariant-loop-taken : goal.invariant-loop-taken
invariant-loop-taken g l = record {
  limit : l.client.cutter.now.limit ≡ message_limit;
  rest : (why : Option Why) (new : Side) → ServesEach l.fn.client.number (requests (l.client.cutter.now.unread ++ l.rest)) (is_bad (l.client.cutter.now.unread ++ l.rest)) why
      (side l.core (g.D.WriterControl.told l.desk) (g.J.Journal.events l.journal) (g.F.Folder.told l.folder)) new
      → ServesEach l.fn.client.number (requests (l.fn.client.cutter.now.unread ++ l.fn.piece)) (is_bad (l.fn.client.cutter.now.unread ++ l.fn.piece)) why
      (side l.fn.core (g.D.WriterControl.told l.fn.desk) (g.J.Journal.events l.fn.journal) (g.F.Folder.told l.fn.folder)) new;
  left : rest_of message_limit (l.fn.client.cutter.now.unread ++ l.fn.piece) ≡ rest_of message_limit (l.client.cutter.now.unread ++ l.rest);
  serving : IsServing l.fn.client.number l.client.served.now l.core (g.D.WriterControl.told l.desk);
  spare : g.J.Journal.spare l.fn.journal ≤ g.J.Journal.spare l.journal;
  alike : IsSame l.fn.client l.client;
  same : g.D.WriterControl.same_rest l.fn.desk l.desk;
}

-- each turn of the loop takes a request
abbrev pub decreases-loop-taken : goal.decreases-loop-taken
decreases-loop-taken g l = length (requests (l.client.cutter.now.unread ++ l.rest))
