-- What is left of a server, were its events kept.
use Rattle.std.proofs.Common.{ap, take, refl, sym, false}
use Rattle.std.proofs.lemmas.List.{length-map}
use Rattle.dl_outside.specs.Told.{FolderTold, LinkTold}
use Rattle.dl_server.specs.State.{seen}
use Rattle.dl_server.specs.declared.server.Server.{Server}
use Rattle.dl_events.specs.Told.{Told}
use Rattle.dl_serve.specs.Closed.{IsLeft}
use Rattle.dl_daemon.specs.Left.{closed_of}
use Rattle.dl_daemon.specs.Rounds.{noted}

pub is_left : {L : Type 0} (told : L → LinkTold) (folder : FolderTold) (s : Server Told L) → IsLeft told (seen told noted false folder s) (closed_of s)
is_left told folder s = record {
  events = refl;
  state = refl;
  backlog = refl;
  clients = refl;
  users = refl;
  ends = ap (λ n. take n s.ends.items) (sym (length-map s.programs.links told));
  memory = refl;
}
