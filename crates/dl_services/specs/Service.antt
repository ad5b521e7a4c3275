-- What serving a request gives: the reply, and what is kept of the registry.
use Rattle.std.specs.Prelude.{◌≡◌, ◌<◌, ℕ, Bool, List, length, Result}
use Rattle.dl_bytes.specs.declared.outcome.Done.{Done}
use Rattle.dl_control.specs.declared.reply.Reply.{Reply}
use Rattle.dl_control.specs.declared.request.Request.{Request}
use Rattle.dl_control.specs.declared.request.RequestFault.{RequestFault}
use Rattle.dl_model.specs.Reply.{reply_to, served}
use Rattle.dl_model.specs.Setting.{Setting}
use Rattle.dl_model.specs.declared.software.Software.{Software}
use Rattle.dl_registry.specs.Kept.{Kept, slots, with_registry}
use Rattle.dl_services.specs.Wish.{IsSetTo}

-- the reply of this program to a request for these ids, before which this was kept
abbrev pub Replies : Software → Bool → ℕ → Kept → List ℕ × List ℕ → Result Request RequestFault → Done → Reply → Type 0
Replies software injection level old target request answer reply =
    (setting : Setting) → IsSetTo injection level setting → setting.software ≡ software → reply ≡ reply_to setting (slots old) old.registry target.0 target.1 request answer

-- after a request the registry is what the request makes of it, and no slot holds another level
abbrev pub Leaves : Bool → ℕ → Kept → Result Request RequestFault → Done → Kept → Type 0
Leaves injection level old request answer new =
    (setting : Setting) → IsSetTo injection level setting → new ≡ with_registry old (served setting (slots old) old.registry request answer)

-- the reply to it has a body: that of GetLogInfo, of GetDefaultLogLevel or of GetSoftwareVersion
abbrev pub HasBody : Software → Bool → ℕ → Kept → List ℕ × List ℕ → Result Request RequestFault → Done → Type 0
HasBody software injection level old target request answer =
    (setting : Setting) → IsSetTo injection level setting → setting.software ≡ software → 0 < length (reply_to setting (slots old) old.registry target.0 target.1 request answer).body
