-- What is got ready for a request, and how it serves.
use Rattle.std.proofs.Common.{◌≡◌, ℕ, ◌+◌, ◌≤◌, Bool, List, length, Option, Some, None, Result, is_some, refl, sym, ap, subst, ◌∙◌, arith}
use Rattle.std.specs.Prelude.{IfSome}
use Rattle.dl_bytes.specs.declared.outcome.Done.{Done}
use Rattle.dl_control.specs.Reply.{control_reply}
use Rattle.dl_control.specs.declared.request.Request.{Request}
use Rattle.dl_control.specs.declared.request.RequestFault.{RequestFault}
use Rattle.dl_model.specs.Reply.{apid_of, asked, ctid_of, reply_to, served}
use Rattle.dl_registry.specs.Kept.{owed_change, slots, with_registry}
use Rattle.dl_services.specs.Wish.{Wants, wanted}
use Rattle.dl_services.specs.declared.wish.Want.{Want}
use Rattle.dl_core.specs.State.{Core}
use Rattle.dl_core.specs.Settings.{seen}
use Rattle.dl_core.specs.Serving.{IsRequest, IsReady, Ready, changes_of, has_body, reply_now, served_now, wanted_now, Answers, Serves}
use Rattle.dl_core.specs.Waiting.{waiting}
use Rattle.dl_events.specs.Journal as journal
use Rattle.dl_events.specs.declared.event.Event.{Event}
use Rattle.dl_events.specs.declared.event.Event.TheVariants as event
use Rattle.dl_model.specs.Traffic as traffic
use Rattle.dl_outside.specs.Told.{FolderTold}
use Rattle.dl_hub.specs.Follows as hub
use Rattle.dl_hub.specs.State.{Hub, HasRoom, IsSameHub, changed, with_reply}
use Rattle.dl_core.proofs.Asked.{reply_asked}
use Rattle.dl_core.proofs.Journals.{IsSameCore}
use Rattle.dl_core.proofs.Owing.{owes_most}
use Rattle.dl_core.proofs.Requested.{answers_keep, request_follows}

-- ---- getting ready

-- the ids of a message
pub ids_of : List ℕ → List ℕ × List ℕ
ids_of frame = (apid_of frame, ctid_of frame)

pub asked_in : (all frame : List ℕ) (request : Result Request RequestFault) → request ≡ asked all → all ≡ frame → request ≡ asked frame
asked_in all frame request asks same = asks ∙ ap asked same

pub target_in : (all frame : List ℕ) (target : List ℕ × List ℕ) → target ≡ (apid_of all, ctid_of all) → all ≡ frame → target ≡ (apid_of frame, ctid_of frame)
unfolding ids_of
target_in all frame target ids same = ids ∙ ap ids_of same

wants_seen : (core : Core) (frame : List ℕ) (request : Result Request RequestFault) (target : List ℕ × List ℕ) (wants : Want)
    → request ≡ asked frame → target ≡ (apid_of frame, ctid_of frame)
    → Wants core.injection core.level core.registry target request wants → wants ≡ wanted_now core frame
wants_seen core frame request target wants asks ids is =
    is (seen core) (record { mode_is = refl; level_is = refl })
    ∙ ap (λ (r : Result Request RequestFault). wanted (seen core) (slots core.registry) core.registry.registry target.0 target.1 r) asks
    ∙ ap (λ (ids : List ℕ × List ℕ). wanted (seen core) (slots core.registry) core.registry.registry ids.0 ids.1 (asked frame)) ids

-- the reply that was written, for these ids and for those of the message
abbrev pub IsWritten : Core → Result Request RequestFault → List ℕ × List ℕ → Option (List ℕ) → Type 0
IsWritten core request target reply = IfSome reply (λ bytes. (answer : Done)
    → (bytes ≡ control_reply core.ecu (reply_to (seen core) (slots core.registry) core.registry.registry target.0 target.1 request answer)) × (length bytes ≤ 65535))

written_seen : (core : Core) (frame : List ℕ) (request : Result Request RequestFault) (target : List ℕ × List ℕ) (reply : Option (List ℕ))
    → request ≡ asked frame → target ≡ (apid_of frame, ctid_of frame) → IsWritten core request target reply
    → IfSome reply (λ bytes. (answer : Done) → (bytes ≡ reply_now core frame answer) × (length bytes ≤ 65535))
written_seen core frame request target None asks ids is = tt {0}
written_seen core frame request target (Some bytes) asks ids is = λ answer. (
  (is answer).0 ∙ ap (control_reply core.ecu) (reply_asked core frame request target answer asks ids),
  (is answer).1,
)

pub made_ready : (core before : Core) (client : ℕ) (frame : List ℕ) (request : Result Request RequestFault) (target : List ℕ × List ℕ) (wants : Want) (reply : Option (List ℕ))
    → before ≡ core → IsRequest frame → request ≡ asked frame → target ≡ (apid_of frame, ctid_of frame)
    → Wants before.injection before.level before.registry target request wants → IsWritten core request target reply → is_some reply ≡ has_body request
    → IsReady core (record { client = client; frame = frame; want = wants; reply = reply })
made_ready core before client frame request target wants reply same is asks ids wished written kind = record {
  request = is;
  want = wants_seen core frame request target wants asks ids
      (subst (λ (c : Core). Wants c.injection c.level c.registry target request wants) same wished);
  reply = written_seen core frame request target reply asks ids written;
  kind = kind ∙ ap has_body asks;
}

-- there is room for the request's event, and for the Level events that it owes
pub reserved : (core : Core) (frame : List ℕ) (request : Result Request RequestFault) (spare changes more now : ℕ)
    → request ≡ asked frame → owed_change core.registry ≡ None → changes ≡ changes_of core.level core.registry request → more ≡ spare + (1 + changes) → more ≤ now
    → (answer : Done) → spare + 1 + waiting (served_now core frame answer) ≤ now
reserved core frame request spare changes more now asks settled bound sum room answer =
    let owes = owes_most (seen core) core.registry (asked frame) answer settled in
    let most : changes ≡ changes_of core.level core.registry (asked frame) = bound ∙ ap (changes_of core.level core.registry) asks in
    within spare changes more now (changes_of core.level core.registry (asked frame)) (waiting (served_now core frame answer)) owes most sum room where
      within : (spare changes more now most waits : ℕ) → waits ≤ most → changes ≡ most → more ≡ spare + (1 + changes) → more ≤ now → spare + 1 + waits ≤ now
      within spare changes more now most waits owes same sum room = omega (arith, owes, same, sum, room)

-- ---- serving

-- the written reply is the frame of the reply
pub is_written : (reply : Option (List ℕ)) (bytes whole : List ℕ) → reply ≡ Some bytes → IfSome reply (λ bytes. (bytes ≡ whole) × (length bytes ≤ 65535)) → bytes ≡ whole
is_written None bytes whole is long = absurd (cc is)
is_written (Some written) bytes whole is long = let same : written ≡ bytes = cc is in sym same ∙ long.0

module _ (core : Core) (ready : Ready) (request : Result Request RequestFault) (target : List ℕ × List ℕ)
    (is : IsReady core ready) (asks : request ≡ asked ready.frame) (ids : target ≡ (apid_of ready.frame, ctid_of ready.frame)) where
  pub ready_wants : ready.want ≡ wanted (seen core) (slots core.registry) core.registry.registry target.0 target.1 request
  ready_wants =
      is.want
      ∙ ap (λ (ids : List ℕ × List ℕ). wanted (seen core) (slots core.registry) core.registry.registry ids.0 ids.1 (asked ready.frame)) (sym ids)
      ∙ ap (λ (r : Result Request RequestFault). wanted (seen core) (slots core.registry) core.registry.registry target.0 target.1 r) (sym asks)

  frame_asked : (answer : Done) → reply_now core ready.frame answer
      ≡ control_reply core.ecu (reply_to (seen core) (slots core.registry) core.registry.registry target.0 target.1 request answer)
  frame_asked answer = ap (control_reply core.ecu) (sym (reply_asked core ready.frame request target answer asks ids))

  pub ready_long : (answer : Done) → IfSome ready.reply (λ bytes.
      (bytes ≡ control_reply core.ecu (reply_to (seen core) (slots core.registry) core.registry.registry target.0 target.1 request answer)) × (length bytes ≤ 65535))
  ready_long answer = by ready.reply is.reply where
    by : (o : Option (List ℕ)) → IfSome o (λ bytes. (answer : Done) → (bytes ≡ reply_now core ready.frame answer) × (length bytes ≤ 65535))
        → IfSome o (λ bytes. (bytes ≡ control_reply core.ecu (reply_to (seen core) (slots core.registry) core.registry.registry target.0 target.1 request answer)) × (length bytes ≤ 65535))
    by None long = tt {0}
    by (Some bytes) long = ((long answer).0 ∙ frame_asked answer, (long answer).1)

  pub ready_kind : is_some ready.reply ≡ has_body request
  ready_kind = is.kind ∙ ap has_body (sym asks)

  pub ready_room : (answer : Done) → HasRoom (length (reply_now core ready.frame answer)) core.hub ready.client
      → HasRoom (length (control_reply core.ecu (reply_to (seen core) (slots core.registry) core.registry.registry target.0 target.1 request answer))) core.hub ready.client
  ready_room answer room = subst (λ (frame : List ℕ). HasRoom (length frame) core.hub ready.client) (frame_asked answer) room

  -- what was answered, and noted
  pub serves : (new : Core) (pushed : Bool) (answer : Done) (told told_now : FolderTold) (events events_now : Option (List Event))
      → Answers ready.want pushed answer told told_now
      → journal.Adds events events_now (event.Request ready.client ready.frame answer)
      → new.registry ≡ with_registry core.registry (served (seen core) (slots core.registry) core.registry.registry request answer)
      → hub.Adds (traffic.Reply ready.client (control_reply core.ecu (reply_to (seen core) (slots core.registry) core.registry.registry target.0 target.1 request answer))) core.hub new.hub
      → new.hub ≡ changed ready.client (with_reply (control_reply core.ecu (reply_to (seen core) (slots core.registry) core.registry.registry target.0 target.1 request answer))) core.hub
      → new ≡ record core { registry = new.registry; hub = new.hub }
      → Serves ready pushed core new told told_now events events_now
  serves new pushed answer told told_now events events_now acts notes kept talks puts rest =
      let registry_is : new.registry ≡ served_now core ready.frame answer =
      kept ∙ ap (λ (r : Result Request RequestFault). with_registry core.registry (served (seen core) (slots core.registry) core.registry.registry r answer)) asks in
      let hub_is : new.hub ≡ changed ready.client (with_reply (reply_now core ready.frame answer)) core.hub =
      puts ∙ ap (λ (frame : List ℕ). changed ready.client (with_reply frame) core.hub) (sym (frame_asked answer)) in
      let same : IsSameHub core.hub new.hub = record { ecu = ap (λ (h : Hub). h.ecu) hub_is; buffer = ap (λ (h : Hub). h.buffer) hub_is; limit = ap (λ (h : Hub). h.limit) hub_is } in
      let alike : IsSameCore core new = record {
        ecu = ap (λ (c : Core). c.ecu) rest;
        level = ap (λ (c : Core). c.level) rest;
        injection = ap (λ (c : Core). c.injection) rest;
        software = ap (λ (c : Core). c.software) rest;
        hub = same;
      } in
      record {
        answer = answer;
        acts = acts;
        notes = notes;
        registry = registry_is;
        reply = hub_is;
        after = request_follows ready.client ready.frame answer core new told told_now alike (ap (λ (c : Core). c.trace) rest) registry_is
            (subst (λ (frame : List ℕ). hub.Adds (traffic.Reply ready.client frame) core.hub new.hub) (sym (frame_asked answer)) talks)
            (answers_keep ready.want pushed answer told told_now acts);
      }
