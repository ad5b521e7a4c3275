use denote.Exit.{no}
use denote.Param.Send.{mut_send, shr_send}
use Rattle.dl_live.proofs.SentClosures.{captures_send, flag_sync}
use Rattle.dl_loop.proofs.SentDaemons.{daemon_send}
use Rattle.dl_live.proofs.workers.beside.Goals as goal

pub join_mut-wanted-requires-send-F : goal.join_mut-wanted-requires-send-F
join_mut-wanted-requires-send-F g c κs within =
    let is = c.type_bounds in
    captures_send _ _ _ _ _ _ _ _ _ no (shr_send _ _ _ is.sync-R) (shr_send _ _ _ flag_sync) (mut_send _ _ _ (daemon_send _ g.N.L.Link is.send-N-L))
    (mut_send _ _ _ is.send-N) (shr_send _ _ _ is.sync-C) (mut_send _ _ _ is.send-F)
