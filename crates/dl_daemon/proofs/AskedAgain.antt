-- A trace that is begun anew, and nets that are asked again: nothing else of a daemon changes.
use Rattle.std.proofs.Common.{◌≡◌, ◌⊎◌, inl, inr, ℕ, Option, sym, subst}
use Rattle.dl_bytes.specs.declared.conf.Conf.{Conf}
use Rattle.dl_bytes.specs.declared.moment.Moment.{Moment}
use Rattle.dl_core.specs.State.{Core}
use Rattle.dl_outside.specs.Told.{FolderTold, LinkTold}
use Rattle.dl_rounds.specs.ListenerPool.{Seated}
use Rattle.dl_server.specs.Server.{IsServer}
use Rattle.dl_server.specs.declared.server.Server.{Server}
use Rattle.dl_socket.specs.Listening.{HaveListeners}
use Rattle.dl_trace.specs.State.{Trace}
use Rattle.dl_events.specs.Told.{Told}
use Rattle.dl_daemon.specs.Rounds.{opened_again}
use Rattle.dl_daemon.proofs.Renewals.{IsAnew, IsStill, with_new}

server_again : {L : Type 0} (told : L → LinkTold) (s : Server Told L) → IsServer told s → IsServer told (opened_again s)
server_again told s is = record {
  linked = is.linked;
  heard = is.heard;
  programs = is.programs;
  given = is.given;
  enough = is.enough;
  few = is.few;
  shut = is.shut;
}

pub server_at : {L : Type 0} (told : L → LinkTold) (old new : Server Told L) → new ≡ opened_again old → IsServer told old → IsServer told new
server_at told old new is holds = subst (IsServer told) (sym is) (server_again told old holds)

server_as : {L : Type 0} (told : L → LinkTold) (s : Server Told L) → IsServer told s → IsServer told (record s { core = s.core })
server_as told s is = record {
  linked = is.linked;
  heard = is.heard;
  programs = is.programs;
  given = is.given;
  enough = is.enough;
  few = is.few;
  shut = is.shut;
}

heard_with : (seated : Seated) (core : Core) (trace : Trace) → HaveListeners seated core → HaveListeners seated (with_new core trace)
heard_with seated core trace heard = λ desk of_it.
    let h = heard desk of_it in record { enough = h.enough; limits = h.limits; counts = h.counts; unused = h.unused; waiting = h.waiting; desk_so = h.desk_so }

server_with : {L : Type 0} (told : L → LinkTold) (s : Server Told L) (trace : Trace) → IsServer told s → IsServer told (record s { core = with_new s.core trace })
server_with told s trace is = record {
  linked = record { many = is.linked.many; few = is.linked.few; place = is.linked.place; settled = is.linked.settled };
  heard = heard_with s.seats s.core trace is.heard;
  programs = is.programs;
  given = is.given;
  enough = is.enough;
  few = is.few;
  shut = is.shut;
}

pub server_renewed : {L : Type 0} (told : L → LinkTold) (conf : Conf) (moment : Moment) (begun : Option ℕ) (old new : Server Told L) (folder folder_now : FolderTold) → new ≡ record old { core = new.core }
    → IsStill begun old.core new.core folder folder_now ⊎ IsAnew conf moment begun old.core new.core folder folder_now → IsServer told old → IsServer told new
server_renewed told conf moment begun old new folder folder_now rest (inl still) is =
    subst (IsServer told) (sym rest) (subst (λ (c : Core). IsServer told (record old { core = c })) (sym still.same) (server_as told old is))
server_renewed told conf moment begun old new folder folder_now rest (inr anew) is =
    subst (IsServer told) (sym rest) (subst (λ (c : Core). IsServer told (record old { core = c })) (sym anew.is) (server_with told old anew.trace is))
