-- Requests by their kind: what their replies are, and where their ids stand.
use Rattle.std.proofs.Common.{◌≡◌, ℕ, suc, ◌+◌, ◌≤◌, Bool, true, false, eqb, List, [], ◌∷◌, ◌++◌, length, take, drop, Option, Some, None, Result, Ok, Err, refl, sym, ap, subst, ◌∙◌, append_assoc, arith}
use Rattle.std.specs.Prelude.{◌<◌, ◌||◌, not, unwrap_or, IfOk, IfSome, OnErr, if◌then◌else◌}
use Rattle.std.specs.Option.{option_map, option_and_then}
use Rattle.std.specs.Result.{result_ok}
use Rattle.std.proofs.lemmas.Bool.{ltb-false}
use Rattle.dl_bytes.specs.Htyp.{htyp_of, standard_len}
use Rattle.dl_bytes.specs.declared.outcome.Done.{Done}
use Rattle.dl_bytes.specs.declared.outcome.Done.TheVariants as done
use Rattle.dl_headers.proofs.Lengths.{apid_at, ctid_at, standard_long}
use Rattle.dl_control.specs.declared.reply.Reply.{Reply}
use Rattle.dl_control.specs.declared.request.Request.{Request}
use Rattle.dl_control.specs.declared.request.Request.TheVariants.{SetLogLevel, GetLogInfo, GetDefault, Store, Reset, SetDefault, Version, SetAllLogLevel, Inject, Other}
use Rattle.dl_control.specs.declared.request.RequestFault.{RequestFault}
use Rattle.dl_control.specs.declared.request.RequestFault.TheVariants.{Short, Excess}
use Rattle.dl_headers.specs.declared.header.Extended.{Extended}
use Rattle.dl_headers.specs.Header.{standard_header, extended_header, optional, IsExtended}
use Rattle.dl_headers.specs.Message.{Message, IsMessage}
use Rattle.dl_model.specs.declared.registry.Slot.{Slot}
use Rattle.dl_model.specs.Registry.{Registry, app_of, context_of, named_contexts, reset}
use Rattle.dl_model.specs.Traffic as traffic
use Rattle.dl_hub.specs.Follows as hub
use Rattle.dl_hub.specs.State.{Hub}
use Rattle.dl_control.specs.Reply.{control_reply}
use Rattle.dl_model.specs.Reply.{apid_of, asked, bare, ctid_of, info_body, info_reply, inject_status, is_too_long, reply_to, reset_status, version_reply, served, where_done}
use Rattle.dl_model.specs.Setting.{Setting}
use Rattle.dl_model.specs.declared.software.Software.{Software}
use Rattle.dl_model.specs.declared.software.Software.TheVariants as program
use Rattle.dl_registry.specs.Kept.{Kept, slots}
use Rattle.dl_services.specs.Service.{Replies, HasBody}
use Rattle.dl_services.specs.Wish.{wanted}
use Rattle.dl_services.specs.declared.wish.Want.TheVariants as want
use Rattle.dl_core.specs.Serving.{has_body, reply_now}
use Rattle.dl_core.specs.Settings.{seen}
use Rattle.dl_core.specs.State.{Core}

-- ---- what a request sees of the configuration

-- a request sees the level, `InjectionMode` and the program alone
pub reply_alike : (one other : Setting) (slots : ℕ → Slot) (registry : Registry) (apid ctid : List ℕ) (request : Result Request RequestFault) (answer : Done)
    → one.level ≡ other.level → one.injection ≡ other.injection → one.software ≡ other.software
    → reply_to one slots registry apid ctid request answer ≡ reply_to other slots registry apid ctid request answer
reply_alike one other slots registry apid ctid (Ok Reset) answer level mode named =
    ap (λ (n : ℕ). bare 0x06 (reset_status (result_ok (reset slots registry n)) answer)) level
reply_alike one other slots registry apid ctid (Ok (Inject service body)) answer level mode named =
    ap (λ (b : Bool). bare service (inject_status
    (if b then option_and_then (λ app. option_map (λ context. (app, context)) (context_of app ctid)) (app_of registry 0 apid) else None) answer)) mode
reply_alike one other slots registry apid ctid (Ok Version) answer level mode named = ap version_reply named
reply_alike one other slots registry apid ctid (Err (Short service)) answer level mode named = refl
reply_alike one other slots registry apid ctid (Err (Excess service)) answer level mode named = refl
reply_alike one other slots registry apid ctid _ answer level mode named = refl

pub served_alike : (one other : Setting) (slots : ℕ → Slot) (registry : Registry) (request : Result Request RequestFault) (answer : Done)
    → one.level ≡ other.level → served one slots registry request answer ≡ served other slots registry request answer
served_alike one other slots registry (Ok Reset) answer level =
    ap (λ (n : ℕ). where_done answer (unwrap_or (result_ok (reset slots registry n)) registry) registry) level
served_alike one other slots registry _ answer level = refl

-- ---- replies with a body, and without

-- ---- the ids of a request's message

-- what stands some bytes behind a part
drop_behind : (front rest : List ℕ) (size more : ℕ) → length front ≡ size → drop (size + more) (front ++ rest) ≡ drop more rest
drop_behind front rest size more long = subst (λ (n : ℕ). drop (n + more) (front ++ rest) ≡ drop more rest) long (skipped front) where
  skipped : (front : List ℕ) → drop (length front + more) (front ++ rest) ≡ drop more rest
  skipped [] =
      let shift : length {A = ℕ} [] + more ≡ more = omega arith in
      ap (λ (n : ℕ). drop n rest) shift
  skipped (x ∷ front) =
      let shift : length (x ∷ front) + more ≡ suc (length front + more) = omega arith in
      ap (λ (n : ℕ). drop n (x ∷ front ++ rest)) shift ∙ skipped front

pub ids_read : (m : Message) (bytes : List ℕ) (head : Extended) → IsMessage m bytes → m.extended ≡ Some head
    → ◌≡◌ {A = List ℕ × List ℕ} (head.apid, head.ctid) (apid_of bytes, ctid_of bytes)
ids_read m bytes head is there =
    let s = m.standard in
    let fits : IsExtended head = subst (λ (e : Option Extended). IfSome e IsExtended) there is.extended in
    let split : bytes ≡ standard_header s ++ (extended_header head ++ m.payload) =
    is.spelled ∙ append_assoc (standard_header s) (optional extended_header m.extended) m.payload
    ∙ ap (λ (e : Option Extended). standard_header s ++ (optional extended_header e ++ m.payload)) there in
    let htyp : htyp_of bytes ≡ s.htyp = ap htyp_of split in
    let at : (more : ℕ) → drop (standard_len (htyp_of bytes) + more) bytes ≡ drop more (extended_header head ++ m.payload) = (λ more.
    ap (λ (h : ℕ). drop (standard_len h + more) bytes) htyp ∙ ap (drop (standard_len s.htyp + more)) split
    ∙ drop_behind (standard_header s) (extended_header head ++ m.payload) (standard_len s.htyp) more (standard_long s is.standard)) in
    let apid : apid_of bytes ≡ head.apid = ap (take 4) (at 2) ∙ apid_at head.msin head.noar head.apid head.ctid m.payload fits.apid in
    let ctid : ctid_of bytes ≡ head.ctid = ap (take 4) (at 6) ∙ ctid_at head.msin head.noar head.apid head.ctid m.payload fits.apid fits.ctid in
    λ i. (sym apid i, sym ctid i)

-- ---- from every configuration to that which the core sees

pub replies_seen : (core : Core) (software : Software) (injection : Bool) (level : ℕ) (kept : Kept) (target : List ℕ × List ℕ) (request : Result Request RequestFault) {E : Type 0} (answer : Done) (result : Result Reply E)
    → core.software ≡ software → core.injection ≡ injection → core.level ≡ level → core.registry ≡ kept
    → IfOk result (Replies software injection level kept target request answer)
    → IfOk result (λ reply. reply ≡ reply_to (seen core) (slots core.registry) core.registry.registry target.0 target.1 request answer)
replies_seen core software injection level kept target request answer (Ok reply) named mode at is replies =
    let here : Replies software injection level core.registry target request answer reply =
    subst (λ (k : Kept). Replies software injection level k target request answer reply) (sym is) replies in
    here (seen core) (record { mode_is = mode; level_is = at }) named
replies_seen core software injection level kept target request answer (Err fault) named mode at is replies = tt {0}

pub body_seen : (core : Core) (software : Software) (injection : Bool) (level : ℕ) (kept : Kept) (target : List ℕ × List ℕ) (request : Result Request RequestFault) {E : Type 0} (answer : Done) (result : Result Reply E)
    → core.software ≡ software → core.injection ≡ injection → core.level ≡ level → core.registry ≡ kept
    → OnErr result (HasBody software injection level kept target request answer)
    → OnErr result (0 < length (reply_to (seen core) (slots core.registry) core.registry.registry target.0 target.1 request answer).body)
body_seen core software injection level kept target request answer (Ok reply) named mode at is has = tt {0}
body_seen core software injection level kept target request answer (Err fault) named mode at is has =
    let here : HasBody software injection level core.registry target request answer =
    subst (λ (k : Kept). HasBody software injection level k target request answer) (sym is) has in
    here (seen core) (record { mode_is = mode; level_is = at }) named

-- ---- the reply's frame

reply_long : (ecu : List ℕ) (reply : Reply) → length ecu ≡ 4 → length (control_reply ecu reply) ≡ 23 + length reply.body
reply_long (a ∷ b ∷ c ∷ d ∷ []) reply four = omega arith
reply_long [] reply four = absurd (omega (arith, four))
reply_long (a ∷ []) reply four = absurd (omega (arith, four))
reply_long (a ∷ b ∷ []) reply four = absurd (omega (arith, four))
reply_long (a ∷ b ∷ c ∷ []) reply four = absurd (omega (arith, four))
reply_long (a ∷ b ∷ c ∷ d ∷ e ∷ more) reply four = absurd (omega (arith, four))

-- of what is asked for these ids, that of the message
pub reply_asked : (core : Core) (frame : List ℕ) (request : Result Request RequestFault) (target : List ℕ × List ℕ) (answer : Done)
    → request ≡ asked frame → target ≡ (apid_of frame, ctid_of frame)
    → reply_to (seen core) (slots core.registry) core.registry.registry target.0 target.1 request answer
    ≡ reply_to (seen core) (slots core.registry) core.registry.registry (apid_of frame) (ctid_of frame) (asked frame) answer
reply_asked core frame request target answer asks ids =
    ap (λ (r : Result Request RequestFault). reply_to (seen core) (slots core.registry) core.registry.registry target.0 target.1 r answer) asks
    ∙ ap (λ (ids : List ℕ × List ℕ). reply_to (seen core) (slots core.registry) core.registry.registry ids.0 ids.1 (asked frame) answer) ids

pub needs_seen : {E : Type 0} (core : Core) (frame : List ℕ) (request : Result Request RequestFault) (target : List ℕ × List ℕ) (result : Result ℕ E)
    → length core.ecu ≡ 4 → request ≡ asked frame → target ≡ (apid_of frame, ctid_of frame)
    → IfOk result (λ need. (answer : Done) → need ≡ 23 + length (reply_to (seen core) (slots core.registry) core.registry.registry target.0 target.1 request answer).body)
    → IfOk result (λ need. (answer : Done) → need ≡ length (reply_now core frame answer))
needs_seen core frame request target (Ok need) four asks ids is = λ answer.
    is answer
    ∙ ap (λ (r : Reply). 23 + length r.body) (reply_asked core frame request target answer asks ids)
    ∙ sym (reply_long core.ecu (reply_to (seen core) (slots core.registry) core.registry.registry (apid_of frame) (ctid_of frame) (asked frame) answer) four)
needs_seen core frame request target (Err fault) four asks ids is = tt {0}

-- ---- replies have at most 65,535 bytes

info_fits : (registry : Registry) (options : ℕ) (apid ctid : List ℕ) → 23 + length (info_reply registry options apid ctid).body ≤ 65535
info_fits registry options apid ctid = by_tests (not (eqb options 6 || eqb options 7)) (eqb (length (named_contexts registry apid ctid)) 0) (is_too_long body) refl where
  body : List ℕ
  body = info_body options registry apid ctid

  by_tests : (other nobody long : Bool) → is_too_long body ≡ long
      → 23 + length (if other then bare 0x03 1 else if nobody then bare 0x03 8 else if long then bare 0x03 9 else record { service = 0x03; status = options; body = body }).body ≤ 65535
  by_tests true nobody long is = omega arith
  by_tests false true long is = omega arith
  by_tests false false true is = omega arith
  by_tests false false false is = ltb-false 65535 (23 + length body) is

version_fits : (software : Software) → 23 + length (version_reply software).body ≤ 65535
version_fits program.Run = omega arith
version_fits program.Daemon = omega arith

reply_fits : (setting : Setting) (slots : ℕ → Slot) (registry : Registry) (apid ctid : List ℕ) (request : Result Request RequestFault) (answer : Done)
    → 23 + length (reply_to setting slots registry apid ctid request answer).body ≤ 65535
reply_fits setting slots registry apid ctid (Ok (GetLogInfo options app context)) answer = info_fits registry options app context
reply_fits setting slots registry apid ctid (Ok Version) answer = version_fits setting.software
reply_fits setting slots registry apid ctid (Err (Short service)) answer = omega arith
reply_fits setting slots registry apid ctid (Err (Excess service)) answer = omega arith
reply_fits setting slots registry apid ctid _ answer = omega arith

pub needs_fit : {E : Type 0} (core : Core) (request : Result Request RequestFault) (target : List ℕ × List ℕ) (result : Result ℕ E)
    → IfOk result (λ need. (answer : Done) → need ≡ 23 + length (reply_to (seen core) (slots core.registry) core.registry.registry target.0 target.1 request answer).body)
    → IfOk result (λ need. need ≤ 65535)
needs_fit core request target (Ok need) is =
    omega (arith, is done.Yes, reply_fits (seen core) (slots core.registry) core.registry.registry target.0 target.1 request done.Yes)
needs_fit core request target (Err fault) is = tt {0}

-- the same frame, from the same hub
pub adds_reply : (client : ℕ) (frame whole : List ℕ) (old before new : Hub) → frame ≡ whole → before ≡ old → hub.Adds (traffic.Reply client frame) before new
    → hub.Adds (traffic.Reply client whole) old new
adds_reply client frame whole old before new same from adds =
    subst (λ (h : Hub). hub.Adds (traffic.Reply client whole) h new) from (subst (λ (f : List ℕ). hub.Adds (traffic.Reply client f) before new) same adds)
