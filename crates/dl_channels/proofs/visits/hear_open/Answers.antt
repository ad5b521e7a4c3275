use Rattle.dl_channels.proofs.StillOpen.{open_after_turn}
use Rattle.dl_channels.proofs.visits.hear_open.Goals as goal

pub end_channel-closed-requires-clause-open : goal.end_channel-closed-requires-clause-open
end_channel-closed-requires-clause-open g c = open_after_turn c.args.channel c.args.moment _ _ _ _ _ c.turn.ensures.turn c.requires.open
