use Rattle.dl_control.specs.Reply.{daemon_apid, daemon_ctid, reply_payload}
use Rattle.std.proofs.Common.{refl}
use Rattle.dl_laws.proofs.Spellings.{told_by_room}
use Rattle.dl_laws.proofs.Answered.{every_reply_tells}
use Rattle.dl_laws.proofs.lengths.replies_tell_their_length.Goals as goal

pub returns-clause-short : goal.returns-clause-short
returns-clause-short c = λ ecu reply ecu_long within. told_by_room ecu daemon_apid daemon_ctid (reply_payload reply.service reply.status reply.body) ecu_long refl refl within

pub returns-clause-every : goal.returns-clause-every
returns-clause-every c = every_reply_tells
