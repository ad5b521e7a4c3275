-- A daemon may be handed to another thread where its links may.
use denote.RattleType.{RattleType}
use denote.Param.Send.{IsSend, view_send, recorded_send, struct_send, sendable}
use denote.Struct.Declared.{shape}
use Rattle.std.proofs.alloc.Global.TheSendSync as global
use Rattle.std.proofs.Crossing.{crosses}
use Rattle.std.specs.contracts.snapshot.Snapshot as Snapshot
use Rattle.dl_core.specs.contracts.daemon.Core as Core
use Rattle.dl_core.proofs.daemon.Core.TheSendSync as core
use Rattle.dl_desk.specs.contracts.desk.Desk as Desk
use Rattle.dl_desk.proofs.desk.Desk.TheSendSync as desk
use Rattle.dl_events.proofs.journal.Kept.TheSendSync as journal
use Rattle.dl_outside.specs.declared.link.Link.{Ghosts}
use Rattle.dl_outside.proofs.links.LinkList.TheSendSync as links
use Rattle.dl_rounds.proofs.listener_pool.ListenerPool.TheSendSync as seats
use Rattle.dl_settling.proofs.ends.EndRoom.TheSendSync as ends
use Rattle.dl_taking.proofs.batch.Batch.TheSendSync as batch
use Rattle.dl_loop.specs.contracts.daemon.Daemon as Daemon
use Rattle.dl_loop.specs.contracts.daemon.Daemon.TheInside as inside

snapshot_send : (R : RattleType) → IsSend (Snapshot.the_row R)
snapshot_send R = search crosses

module _ (L : RattleType) (g : Ghosts L.Denot) where
  fields_send : IsSend L → IsSend (inside.the_row L g)
  fields_send s =
      recorded_send _ _ _ (inside.the_type L g).to_one (struct_send (shape (inside.the_type L g)) (
        core.the_send,
        (
          desk.the_send,
          (
            journal.the_send,
            (
              links.the_send L s,
              (
                seats.the_send,
                (
                  batch.the_send,
                  (
                    ends.the_send,
                    (
                      search sendable,
                      (
                        search sendable,
                        (
                          search sendable,
                          (
                            search sendable,
                            (
                              search sendable,
                              (
                                search sendable,
                                (
                                  search sendable,
                                  (
                                    global.the_field_send,
                                    (snapshot_send Core.the_row, (snapshot_send Desk.the_row, tt)),
                                  ),
                                ),
                              ),
                            ),
                          ),
                        ),
                      ),
                    ),
                  ),
                ),
              ),
            ),
          ),
        ),
      ))

  pub daemon_send : IsSend L → IsSend (Daemon.the_row L g)
  daemon_send s = view_send _ _ _ _ _ (fields_send s)
