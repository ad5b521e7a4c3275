use Rattle.dl_channel_turns.proofs.AnsweredRegistrations.{are_answered}
use Rattle.dl_channel_turns.proofs.laws.registrations_are_answered.Goals as goal

pub returns : goal.returns
returns c = λ slots registry channel apid ctid position. are_answered apid ctid position slots registry channel
