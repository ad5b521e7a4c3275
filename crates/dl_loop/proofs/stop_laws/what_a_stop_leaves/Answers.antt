use Rattle.dl_loop.specs.Stops.{stopping_of}
use Rattle.dl_loop.proofs.StoppedDaemons.{stopped_so}
use Rattle.dl_loop.proofs.StoppedFolders.{folder_stops}
use Rattle.dl_loop.proofs.stop_laws.what_a_stop_leaves.Goals as goal

pub returns : goal.returns
returns g c = λ d books closing account links folder folder_now is greeted made settles.
    stopped_so g.L.Link.told d books closing account links folder folder_now settles.closed.core is greeted made
    (c.a_stop_is_its_events.ensures d.dropped (stopping_of d closing) account links folder folder_now settles)
    (λ run taken bytes gives noted. c.how_clients_went.ensures run taken d.dropped (stopping_of d closing) account links folder folder_now settles bytes gives noted)
    (λ run taken gives after shown. c.how_clients_ended.ensures run taken d.dropped (stopping_of d closing) account links folder folder_now settles gives after shown)
    c.who_has_an_outbox.ensures
    (folder_stops g.L.Link.told d.dropped (stopping_of d closing) account links folder folder_now c.what_links_take.ensures settles)
