-- The reply to any control message has room in a message.
use Rattle.std.proofs.Common.{◌≡◌, ℕ, ◌+◌, ◌≤◌, Bool, true, false, cond, eqb, ltb, List, ◌∷◌, length, length-append, refl, arith}
use Rattle.std.specs.Prelude.{Result, Ok, Err, not, ◌||◌}
use Rattle.std.proofs.lemmas.Bool.{ltb-false}
use Rattle.byteorder.specs.Endian.{little_bytes}
use Rattle.byteorder.specs.Numbers.{length-bytes_low_first}
use Rattle.dl_bytes.specs.declared.outcome.Done.{Done}
use Rattle.dl_control.specs.Reply.{daemon_apid, daemon_ctid, reply_payload}
use Rattle.dl_control.specs.declared.reply.Reply.{Reply}
use Rattle.dl_control.specs.declared.request.Request.{Request}
use Rattle.dl_control.specs.declared.request.Request.TheVariants.{GetLogInfo, GetDefault, Version}
use Rattle.dl_control.specs.declared.request.RequestFault.{RequestFault}
use Rattle.dl_control.specs.declared.request.RequestFault.TheVariants.{Short, Excess}
use Rattle.dl_model.specs.declared.registry.Slot.{Slot}
use Rattle.dl_model.specs.Registry.{Registry, named_contexts}
use Rattle.dl_model.specs.Reply.{apid_of, ctid_of, asked, bare, info_body, info_reply, reply_to, reply_frame_to, version_reply}
use Rattle.dl_model.specs.Setting.{Setting}
use Rattle.dl_model.specs.declared.software.Software.{Software}
use Rattle.dl_model.specs.declared.software.Software.TheVariants as program
use Rattle.dl_laws.specs.Frames.{TellsLen}
use Rattle.dl_laws.proofs.Spellings.{reply_tells}

-- the body of a reply has room: the headers have 18 bytes, service and status 5
abbrev HasRoom : Reply → Type 0
HasRoom reply = 23 + length reply.body ≤ 65535

info_by : (options : ℕ) (body : List ℕ) (a b c : Bool) → ltb 65535 (23 + length body) ≡ c →
    HasRoom (cond a (bare 0x03 1) (cond b (bare 0x03 8) (cond c (bare 0x03 9) (record { service = 0x03; status = options; body = body }))))
info_by options body true b c e = omega arith
info_by options body false true c e = omega arith
info_by options body false false true e = omega arith
info_by options body false false false e = ltb-false 65535 (23 + length body) e

info_room : (registry : Registry) (options : ℕ) (apid ctid : List ℕ) → HasRoom (info_reply registry options apid ctid)
info_room registry options apid ctid =
    let body = info_body options registry apid ctid in
    info_by options body (not (eqb options 6 || eqb options 7)) (eqb (length (named_contexts registry apid ctid)) 0) (ltb 65535 (23 + length body)) refl

version_room : (software : Software) → HasRoom (version_reply software)
version_room program.Run = omega arith
version_room program.Daemon = omega arith

any_room : (setting : Setting) (slots : ℕ → Slot) (registry : Registry) (apid ctid : List ℕ) (request : Result Request RequestFault) (answer : Done) → HasRoom (reply_to setting slots registry apid ctid request answer)
any_room setting slots registry apid ctid (Err (Short service)) answer = omega arith
any_room setting slots registry apid ctid (Err (Excess service)) answer = omega arith
any_room setting slots registry apid ctid (Ok (GetLogInfo options app context)) answer = info_room registry options app context
any_room setting slots registry apid ctid (Ok GetDefault) answer = omega arith
any_room setting slots registry apid ctid (Ok Version) answer = version_room setting.software
any_room setting slots registry apid ctid (Ok _) answer = omega arith

payload_long : (service status : ℕ) (body : List ℕ) → length (reply_payload service status body) ≡ 5 + length body
payload_long service status body = omega (arith, length-append (little_bytes 4 service) (status ∷ body), length-bytes_low_first 0 4 service)

pub every_reply_tells : (setting : Setting) (slots : ℕ → Slot) (registry : Registry) (frame : List ℕ) (answer : Done) → length setting.ecu ≡ 4 → TellsLen (reply_frame_to setting slots registry frame answer)
every_reply_tells setting slots registry frame answer ecu_long =
    let told = reply_to setting slots registry (apid_of frame) (ctid_of frame) (asked frame) answer in
    let room : HasRoom told = any_room setting slots registry (apid_of frame) (ctid_of frame) (asked frame) answer in
    reply_tells setting.ecu daemon_apid daemon_ctid (reply_payload told.service told.status told.body) ecu_long refl refl (omega (arith, room, payload_long told.service told.status told.body))
