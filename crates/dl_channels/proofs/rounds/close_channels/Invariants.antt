use Rattle.std.proofs.Common.{◌≡◌, ◌≤◌, ◌++◌, ℕ, false, true, List, [], None, length}
use Rattle.dl_bytes.specs.Limits.{admitted_limit}
use Rattle.dl_registry.specs.Kept.{owed_change}
use Rattle.dl_socket.specs.Channels.{open_in}
use Rattle.dl_channels.specs.Accepting.{AreLinked}
use Rattle.dl_channels.specs.Rounds.{Scene, Stopped, VisitsEach, scene}
use Rattle.dl_channels.proofs.rounds.close_channels.Given as goal

-- who stops others behind those that are done, has stopped all these
abbrev pub invariant-loop-channel : goal.invariant-loop-channel
invariant-loop-channel g l = let s = scene g.L.Link.told g.J.Journal.events g.F.Folder.told in record {
  done : List ℕ;
  all : open_in l.fn.channels ≡ done ++ open_in l.channels;
  behind : (others : List ℕ) (new : Scene) → VisitsEach (Stopped l.fn.moment true) others false (s l.links [] l.channels l.core l.journal l.folder) new
      → VisitsEach (Stopped l.fn.moment true) (done ++ others) false (s l.fn.links [] l.fn.channels l.fn.core l.fn.journal l.fn.folder) new;
  linked : AreLinked l.links l.channels;
  settled : owed_change l.core.registry ≡ None;
  few : l.core.hub.admitted ≤ admitted_limit;
}

abbrev pub decreases-loop-channel : goal.decreases-loop-channel
decreases-loop-channel g l = length (open_in l.channels)
