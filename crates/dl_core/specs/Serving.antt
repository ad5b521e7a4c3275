-- Requests: what is got ready for one, and what it leaves.
use Rattle.std.specs.Prelude.{◌≡◌, ◌≤◌, ℕ, Bool, true, false, List, [], ◌∷◌, length, codes, nat_le, Option, Some, None, is_some, unwrap_or, IfSome, Result, Ok, Err, if◌then◌else◌}
use Rattle.std.specs.Option.{option_map, option_map_or}
use Rattle.dl_bytes.specs.Level.{own_level_of}
use Rattle.dl_bytes.specs.Limits.{message_limit}
use Rattle.dl_bytes.specs.declared.item.Injection.{Injection}
use Rattle.dl_bytes.specs.declared.outcome.Done.{Done}
use Rattle.dl_bytes.specs.declared.outcome.Done.TheVariants as done
use Rattle.dl_control.specs.declared.request.Request.{Request}
use Rattle.dl_control.specs.declared.request.Request.TheVariants.{SetLogLevel, SetAllLogLevel, GetLogInfo, GetDefault, Reset, SetDefault, Version}
use Rattle.dl_control.specs.declared.request.RequestFault.{RequestFault}
use Rattle.dl_message.specs.Cut.{IsWholeMessage}
use Rattle.dl_message.specs.Requests.{asks}
use Rattle.dl_events.specs.Journal as journal
use Rattle.dl_events.specs.declared.event.Event.{Event}
use Rattle.dl_events.specs.declared.event.Event.TheVariants as event
use Rattle.dl_control.specs.Reply.{control_reply}
use Rattle.dl_control.specs.declared.reply.Reply.{Reply}
use Rattle.dl_model.specs.Registry.{Registry}
use Rattle.dl_model.specs.Reply.{apid_of, asked, ctid_of, reply_frame_to, reply_to, served}
use Rattle.dl_outside.specs.Folder.{HasCause, Puts, Removes}
use Rattle.dl_outside.specs.Outside.{one_more}
use Rattle.dl_outside.specs.Told.{FolderTold}
use Rattle.dl_outside.specs.declared.folder.FolderFault.{FolderFault}
use Rattle.dl_outside.specs.declared.folder.FolderFault.TheVariants as fault
use Rattle.dl_registry.specs.Kept.{Kept, slots, with_registry}
use Rattle.dl_services.specs.Wish.{wanted}
use Rattle.dl_services.specs.declared.wish.Want.{Want}
use Rattle.dl_services.specs.declared.wish.Want.TheVariants as want
use Rattle.dl_hub.specs.State.{changed, with_reply}
use Rattle.dl_core.specs.State.{Core}
use Rattle.dl_core.specs.Follows.{Adds}
use Rattle.dl_core.specs.Settings.{seen}
use Rattle.dl_core.specs.Waiting.{others}

-- a message that asks for something: a whole one within the limit of clients, with a request's MSIN
pub record IsRequest (frame : List ℕ) : Type 0 where
  pub whole : IsWholeMessage message_limit frame
  pub request : asks frame ≡ true

-- the name of the file that has the stored configuration
abbrev pub stored_name : List ℕ
stored_name = codes "dlt_stored.cfg"

-- ---- a request that comes now

-- the frame of its reply, by what the folder or the application's queue answers
abbrev pub reply_now : Core → List ℕ → Done → List ℕ
reply_now core frame answer = reply_frame_to (seen core) (slots core.registry) core.registry.registry frame answer

-- the registry that it leaves
abbrev pub served_now : Core → List ℕ → Done → Kept
served_now core frame answer =
    with_registry core.registry (served (seen core) (slots core.registry) core.registry.registry (asked frame) answer)

-- what it wants of the folder, or of an application's queue
abbrev pub wanted_now : Core → List ℕ → Want
wanted_now core frame = wanted (seen core) (slots core.registry) core.registry.registry (apid_of frame) (ctid_of frame) (asked frame)

-- ---- the same by what the request asks, and the ids that it is for

abbrev pub reply_for : Core → Result Request RequestFault → List ℕ × List ℕ → Done → Reply
reply_for core request target answer = reply_to (seen core) (slots core.registry) core.registry.registry target.0 target.1 request answer

abbrev pub frame_for : Core → Result Request RequestFault → List ℕ × List ℕ → Done → List ℕ
frame_for core request target answer = control_reply core.ecu (reply_for core request target answer)

abbrev pub served_for : Core → Result Request RequestFault → Done → Kept
served_for core request answer = with_registry core.registry (served (seen core) (slots core.registry) core.registry.registry request answer)

abbrev pub wanted_for : Core → Result Request RequestFault → List ℕ × List ℕ → Want
wanted_for core request target = wanted (seen core) (slots core.registry) core.registry.registry target.0 target.1 request

-- a reply's frame that was written, where it was, is that of the request
abbrev pub IsReplyFor : Core → Result Request RequestFault → List ℕ × List ℕ → Done → Option (List ℕ) → Type 0
IsReplyFor core request target answer reply = IfSome reply (λ bytes. (bytes ≡ frame_for core request target answer) × (length bytes ≤ 65535))

-- ---- by its kind

-- its reply has a body: that of GetLogInfo, GetDefaultLogLevel or GetSoftwareVersion, which change nothing
abbrev pub has_body : Result Request RequestFault → Bool
has_body (Ok (GetLogInfo options apid ctid)) = true
has_body (Ok GetDefault) = true
has_body (Ok Version) = true
has_body request = false

-- the level that it gives contexts, where it sets levels: with no own level they follow the default level
abbrev pub level_set : ℕ → Registry → Result Request RequestFault → Option ℕ
level_set level registry (Ok (SetLogLevel apid ctid own)) = option_map (λ own. unwrap_or own registry.level) (own_level_of own)
level_set level registry (Ok (SetAllLogLevel own)) = option_map (λ own. unwrap_or own registry.level) (own_level_of own)
level_set level registry (Ok (SetDefault default)) = if nat_le default 6 then Some default else None
level_set level registry (Ok Reset) = Some level
level_set level registry request = None

-- how many Level events it can owe at most: one for each slot whose context has another level
abbrev pub changes_of : ℕ → Kept → Result Request RequestFault → ℕ
changes_of level kept request = option_map_or (λ to. others to kept) (level_set level kept.registry request) 0

-- ---- what is got ready

-- The client, the whole message of its request, what it wants of the folder or of an application's queue, and the reply's frame
-- where that has a body.
pub record Ready : Type 0 where
  pub client : ℕ
  pub frame : List ℕ
  pub want : Want
  pub reply : Option (List ℕ)

-- it was got ready for a core like this one
pub record IsReady (core : Core) (ready : Ready) : Type 0 where
  pub request : IsRequest ready.frame
  pub want : ready.want ≡ wanted_now core ready.frame
  pub reply : IfSome ready.reply (λ bytes. (answer : Done) → (bytes ≡ reply_now core ready.frame answer) × (length bytes ≤ 65535))
  pub kind : is_some ready.reply ≡ has_body (asked ready.frame)

-- the injection that is to go to the application with this number
abbrev pub injection_in : Want → Option (ℕ × Injection)
injection_in (want.Inject app injection) = Some (app, injection)
injection_in other = None

-- ---- what a request leaves

-- a request is done where the folder did what it wanted
abbrev pub done_by : Result (Unit {0}) FolderFault → Done
done_by (Ok made) = done.Yes
done_by (Err fault.Failed) = done.Failed
done_by (Err fault.OutOfMemory) = done.NoMemory

-- The folder was asked for what the request wants, and the answer is the folder's; an injection is done where the queue took it.
-- Nothing else changed in the folder.
abbrev pub Answers : Want → Bool → Done → FolderTold → FolderTold → Type 0
Answers want.Nothing pushed answer folder folder_now = (answer ≡ done.Yes) × (folder_now ≡ folder)
Answers (want.Put text stored) pushed answer folder folder_now =
    (result : Result (Unit {0}) FolderFault) × (answer ≡ done_by result)
    × Puts folder.files folder_now.files result stored_name text × HasCause folder.faults folder_now.faults result
Answers want.Remove pushed answer folder folder_now =
    (result : Result (Unit {0}) FolderFault) × (answer ≡ done_by result)
    × Removes folder.files folder_now.files result stored_name × HasCause folder.faults folder_now.faults result
Answers (want.Inject app injection) pushed answer folder folder_now =
    (answer ≡ (if pushed then done.Yes else done.Failed)) × (folder_now ≡ folder)

-- the folder was asked once to change a file, where the request wants that
abbrev pub Asks : Want → FolderTold → FolderTold → Type 0
Asks (want.Put text stored) folder folder_now = folder_now.changes ≡ one_more folder.changes
Asks want.Remove folder folder_now = folder_now.changes ≡ one_more folder.changes
Asks other folder folder_now = folder_now.changes ≡ folder.changes

-- The request was served: the folder did what it wanted, or not; the Request event with that answer is noted; the registry is what
-- the request makes of it, the reply is at the end of the client's outbox, and the core stands for the journal with the event.
pub record Serves (ready : Ready) (pushed : Bool) (old new : Core) (folder folder_now : FolderTold) (events events_now : Option (List Event)) : Type 0 where
  pub answer : Done
  pub acts : Answers ready.want pushed answer folder folder_now
  pub notes : journal.Adds events events_now (event.Request ready.client ready.frame answer)
  pub registry : new.registry ≡ served_now old ready.frame answer
  pub reply : new.hub ≡ changed ready.client (with_reply (reply_now old ready.frame answer)) old.hub
  pub after : Adds (event.Request ready.client ready.frame answer ∷ []) (λ run. Unit {0}) old new folder folder_now
