use Rattle.dl_channel_turns.proofs.OpenClients.{all_counted, goes_on}
use Rattle.dl_channel_turns.proofs.clients.open_clients.Goals as goal

pub loop-client-preserved : goal.loop-client-preserved
loop-client-preserved c = goes_on _ c.loop-client.after c.loop-client.count c.loop-client.invariant c.in-Some.client c.room-room.result c.in-Some.ensures c.room-room.ensures.value

pub returns-clause-count : goal.returns-clause-count
returns-clause-count c = all_counted _ c.loop-client.after c.loop-client.count c.loop-client.invariant c.in_default.ensures
