-- How many bytes a message has.
use Rattle.std.proofs.Common.{ℕ, ◌≡◌, ◌+◌, List, length, length-append, arith}
use Rattle.dl_client.specs.Message.{message, user_log}
use Rattle.dl_client.specs.declared.context.Call.{Call}
use Rattle.dl_client.specs.declared.context.Sender.{Sender}
use Rattle.dl_client.specs.declared.message.Source.{Source}

pub message_len : (sender : Sender) (source : Source) (call : Call) (payload : List ℕ) → length sender.ecu ≡ 4 → length source.apid ≡ 4 → length source.ctid ≡ 4
    → length (user_log (message sender source call payload)) ≡ 34 + length payload
message_len sender source call payload ecu apid ctid = simp length-append (omega (arith, ecu, apid, ctid))
