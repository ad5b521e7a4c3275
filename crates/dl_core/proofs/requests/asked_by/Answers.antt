use Rattle.std.proofs.Common.{subst}
use Rattle.std.specs.Prelude.{IfOk}
use Rattle.dl_headers.specs.Message.{IsMessage}
use Rattle.dl_message.specs.Parts.{message_of}
use Rattle.dl_core.proofs.Asked.{ids_read}
use Rattle.dl_core.proofs.requests.asked_by.Goals as goal

pub returns-clause-target : goal.returns-clause-target
returns-clause-target c =
    let bytes = c.args.frame.now in
    let parts = c.unwrap-parts.result in
    let is : IsMessage (message_of parts bytes) bytes = subst (λ r. IfOk r (λ parts. IsMessage (message_of parts bytes) bytes)) c.unwrap-parts.ensures c.read_message.ensures.message in
    ids_read (message_of parts bytes) bytes c.unwrap-head.result is c.unwrap-head.ensures
