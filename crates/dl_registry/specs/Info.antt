-- What GetLogInfo tells.
use Rattle.std.specs.Prelude.{ℕ, ◌≡◌, List, [], if◌then◌else◌, Result, Ok, Err}
use Rattle.dl_model.specs.Registry.{App, Registry}
use Rattle.dl_model.specs.Reply.{app_info, bare, info_reply, is_listed}
use Rattle.dl_registry.specs.declared.info.InfoFault.{InfoFault}
use Rattle.dl_registry.specs.declared.info.InfoFault.TheVariants as fault

-- What an application adds to the body: nothing where no context of it is named.
abbrev pub info_of : ℕ → List ℕ → List ℕ → List ℕ × App → List ℕ
info_of options apid ctid app = if is_listed apid ctid app then app_info options apid ctid app else []

-- The body is that of the reply. Without one the reply has status 8, where the ids name no context, or 9, where it would be too
-- long. Where memory was wanting there is a body to give.
abbrev pub GivesInfo : Registry → ℕ → List ℕ → List ℕ → Result (List ℕ) InfoFault → Type 0
GivesInfo registry options apid ctid (Ok body) = info_reply registry options apid ctid ≡ record { service = 0x03; status = options; body = body }
GivesInfo registry options apid ctid (Err fault.Nobody) = info_reply registry options apid ctid ≡ bare 0x03 8
GivesInfo registry options apid ctid (Err fault.TooLong) = info_reply registry options apid ctid ≡ bare 0x03 9
GivesInfo registry options apid ctid (Err fault.OutOfMemory) = (info_reply registry options apid ctid).status ≡ options
