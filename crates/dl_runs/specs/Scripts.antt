-- Scripts of the examples on steps.
use Rattle.std.specs.Prelude.{ℕ, ◌+◌, List, [], ◌∷◌, ◌++◌, length, replicate, codes, Option, Some}
use Rattle.byteorder.specs.Endian.{little_bytes}
use Rattle.dl_bytes.specs.Id.{zero_id}
use Rattle.dl_bytes.specs.Payload.{Arguments}
use Rattle.dl_bytes.specs.declared.level.Severity.{Severity}
use Rattle.dl_bytes.specs.declared.level.Severity.TheVariants.{Debug, Info}
use Rattle.dl_events.specs.declared.record.Record.{Record}
use Rattle.dl_events.specs.declared.record.Answer.{Answer}
use Rattle.dl_script_model.specs.declared.line.CallLine.{CallLine}
use Rattle.dl_script_model.specs.declared.step.LevelEvents.TheVariants.{Later}
use Rattle.dl_script_model.specs.declared.step.Step.{Step}
use Rattle.dl_script_model.specs.declared.step.Step.TheVariants.{Announce, App, Clock, Close, Context, Levels, Writer, Call, Log, Load, Push, Register, Take, Connect, Bytes, User}
use Rattle.dl_script_model.specs.Marks.{Mark, Passed}
use Rattle.dl_script_model.specs.Marks as marks
use Rattle.dl_model.specs.Setting.{Setting}
use Rattle.dl_script_model.specs.Steps.{after_lines}
use Rattle.dl_model.specs.TraceFiles.{StoredFile}
use Rattle.dl_model.specs.RegistryExamples.{id, control, query, defaults, hex, reset_all, store}

-- the written form of one text argument
abbrev pub text : List ℕ → Arguments
text letters = record { bytes = (0x00 ∷ 0x82 ∷ 0x00 ∷ 0x00 ∷ []) ++ little_bytes 2 (length letters + 1) ++ letters ++ 0 ∷ []; args = 1 }

-- a text of so many letters x
abbrev pub fill : ℕ → Arguments
fill n = text (replicate n 0x78)

-- ---- lines

abbrev pub app : List ℕ → ℕ → Step
app apid capacity = App (record { apid = id apid; capacity = capacity; text = [] })

abbrev pub context : List ℕ → List ℕ → Option ℕ → Step
context apid ctid level = Context (record { apid = id apid; ctid = id ctid; level = level; text = [] })

abbrev pub writer : List ℕ → Step
writer apid = Writer (id apid)

-- a call of writer 1 in the context TEST
abbrev pub call_line : Severity → ℕ → Arguments → CallLine
call_line severity at payload = record { writer = 1; ctid = codes "TEST"; severity = severity; at = at; payload = payload }

-- an application with a ring of this capacity, its context TEST at info, and writer 1
abbrev pub one_writer : ℕ → List Step
one_writer capacity = app (codes "LOG1") capacity ∷ context (codes "LOG1") (codes "TEST") (Some 4) ∷ writer (codes "LOG1") ∷ []

-- an info call and its take; the same call alone
abbrev pub log_info : ℕ → List ℕ → Step
log_info at letters = Log (call_line Info at (text letters))

abbrev pub call_info : ℕ → List ℕ → Step
call_info at letters = Call (call_line Info at (text letters))

-- a request of client 1, as bytes
abbrev pub ask : List ℕ → Step
ask payload = Bytes 1 (query payload)

-- ---- frames

-- the frame of an info call of one letter: its message counter and its moment have a byte each
abbrev pub frame_of : (mcnt at : ℕ) → List ℕ → List ℕ
frame_of mcnt at letter =
    hex (codes "3D") ++ mcnt ∷ hex (codes "00 22 45 43 55 31 00 00 00 01 00 00 00") ++ at ∷ hex (codes "41 01 4C 4F 47 31 54 45 53 54 00 82 00 00 02 00") ++ letter ++ 0 ∷ []

-- the reply to a request that tells its status alone
abbrev pub status_reply : (service status : ℕ) → List ℕ
status_reply service status = hex (codes "25 00 00 17 45 43 55 31 26 01 44 41 31 00 44 43 31 00") ++ little_bytes 4 service ++ status ∷ []

-- ---- scripts

-- three calls wait for a client, which hears a fourth one and leaves
abbrev pub waiting_script : List Step
waiting_script = one_writer 16 ++ log_info 1 (codes "a") ∷ log_info 2 (codes "b") ∷ log_info 3 (codes "c") ∷ Connect ∷ log_info 4 (codes "d") ∷ Close 1 ∷ []

-- a buffer that keeps two frames of 34 bytes
abbrev pub two_frames : Setting
two_frames = record defaults { buffer = 70 }

-- four calls wait, of which the last is the shortest
abbrev pub full_buffer_script : List Step
full_buffer_script = one_writer 16 ++ log_info 1 (codes "a") ∷ log_info 1 (codes "b") ∷ log_info 1 (codes "long") ∷ log_info 1 [] ∷ Connect ∷ []

-- a client asks for a Store and a Reset, and hears a call
abbrev pub store_script : List Step
store_script = one_writer 16 ++ Connect ∷ ask store ∷ ask reset_all ∷ log_info 1 (codes "a") ∷ []

-- a channel of user messages: an application registers, and then logs a message, which comes in two pieces; four bytes that begin none end it, and
-- the message comes once more
abbrev pub channel_script : List Step
channel_script =
    Connect ∷ User 1 (hex (codes "44 55 48 01 02 00 00 00 53 4F 43 4B 01 00 00 00 03 00 00 00 61 62 63 44 55 48")) ∷ User 1 (hex (codes "01 01 00 00 00 20 00 00 05 AA"))
    ∷ User 1 (hex (codes "00 00 00 00")) ∷ User 1 (hex (codes "44 55 48 01 01 00 00 00 20 00 00 05 AA")) ∷ []

abbrev pub two_clients_script : List Step
two_clients_script = one_writer 16 ++ log_info 1 (codes "z") ∷ Connect ∷ log_info 1 (codes "a") ∷ Connect ∷ log_info 1 (codes "b") ∷ []

abbrev pub full_ring_script : List Step
full_ring_script =
    one_writer 1 ++ Connect ∷ call_info 1 (codes "a") ∷ call_info 2 (codes "b") ∷ Take (id (codes "LOG1")) ∷ call_info 3 (codes "c") ∷ []

-- SetLogLevel of all contexts
abbrev pub set_all : ℕ → List ℕ
set_all level = 1 ∷ 0 ∷ 0 ∷ 0 ∷ (zero_id ++ zero_id ++ (level ∷ 0 ∷ 0 ∷ 0 ∷ 0 ∷ []))

abbrev pub between_script : List Step
between_script =
    one_writer 16 ++ Connect ∷ Load (call_line Info 1 (text (codes "a"))) ∷ ask (set_all 3) ∷ Push 1 ∷ call_info 2 (codes "b") ∷ []

-- what became of a call, and the version and the level that its load gave
pub record Loaded : Type 0 where
  pub answer : Answer
  pub version : ℕ
  pub held : ℕ

abbrev pub with_level : Answer → ℕ → ℕ → Loaded
with_level answer version held = record { answer = answer; version = version; held = held }

abbrev pub loaded_level : Record → Loaded
loaded_level r = with_level r.answer r.version r.held

-- an info call of a text of so many letters, and its take
abbrev pub log_filled : ℕ → Step
log_filled n = Log (call_line Info 1 (fill n))

-- a trace in files of 2000 bytes, and 4000 bytes in all
abbrev pub small_files : Setting
small_files = record defaults { directory = codes "trace"; file_size = 2000; max_size = 4000 }

-- trace file 4 of an earlier run, with 1500 bytes
abbrev pub file_four : StoredFile
file_four = record { number = 4; bytes = replicate 1500 0 }

-- Level events wait, and a client asks for a lower level
abbrev pub later_script : List Step
later_script = one_writer 16 ++ Connect ∷ Levels Later ∷ ask (set_all 3) ∷ []

-- GetSoftwareVersion
abbrev pub version : List ℕ
version = 0x13 ∷ 0 ∷ 0 ∷ 0 ∷ []

-- an injection of one byte for the context TEST of LOG1
abbrev pub injection : Step
injection = Bytes 1 (control (codes "LOG1") (codes "TEST") (0xff ∷ 0x0f ∷ 0 ∷ 0 ∷ 1 ∷ 0 ∷ 0 ∷ 0 ∷ 0xab ∷ []))

abbrev pub injections_script : List Step
injections_script = one_writer 16 ++ Connect ∷ []

-- two contexts of one application, at levels 2 and 5, and the same call in the second and in the first
abbrev pub two_levels_script : List Step
two_levels_script =
    app (codes "LOG1") 16 ∷ context (codes "LOG1") (codes "TEST") (Some 2) ∷ context (codes "LOG1") (codes "FULL") (Some 5) ∷ writer (codes "LOG1")
    ∷ Call (record (call_line Debug 1 (text [])) { ctid = id (codes "FULL") }) ∷ Call (call_line Debug 1 (text [])) ∷ []

-- a call whose take has a moment
abbrev pub clocked_script : List Step
clocked_script = one_writer 16 ++ Clock 1 258 ∷ log_info 1 (codes "a") ∷ []

-- a writer claims a place for a context, and announces it
abbrev pub register : ℕ → List ℕ → ℕ → List ℕ → Step
register writer ctid level text = Register (record { writer = writer; ctid = ctid; level = Some level; text = text })

-- a call of a writer under a context
abbrev pub call_under : ℕ → List ℕ → Severity → ℕ → List ℕ → CallLine
call_under writer ctid severity at letters = record { writer = writer; ctid = ctid; severity = severity; at = at; payload = text letters }

-- a context that is claimed: the call before the claim is taken is filtered, and the one after it passes
abbrev pub claimed_script : List Step
claimed_script =
    one_writer 16 ++ register 1 (codes "CTX2") 5 (codes "c") ∷ Connect ∷ Load (call_under 1 (codes "CTX2") Info 1 (codes "a")) ∷ Take (id (codes "LOG1"))
    ∷ Log (call_under 1 (codes "CTX2") Debug 2 (codes "b")) ∷ []

-- two writers claim places for one context
abbrev pub same_context_script : List Step
same_context_script =
    app (codes "LOG1") 16 ∷ writer (codes "LOG1") ∷ writer (codes "LOG1") ∷ register 1 (codes "SAME") 4 [] ∷ register 2 (codes "SAME") 5 []
    ∷ Take (id (codes "LOG1")) ∷ Take (id (codes "LOG1")) ∷ Log (call_under 1 (codes "SAME") Info 1 (codes "a")) ∷ Log (call_under 2 (codes "SAME") Info 2 (codes "b")) ∷ []

-- a ring that holds one claim, and a second claim that waits until it is announced again
abbrev pub waiting_claim_script : List Step
waiting_claim_script =
    app (codes "LOG1") 1 ∷ writer (codes "LOG1") ∷ register 1 (codes "AAAA") 4 [] ∷ register 1 (codes "BBBB") 4 []
    ∷ Take (id (codes "LOG1")) ∷ Announce 1 ∷ Take (id (codes "LOG1")) ∷ []

-- a call of writer 1 that passed its level
abbrev pub passed_call : marks.Call
passed_call = record {
  item = record { app = 0; writer = 1; call = 1; apid = id (codes "LOG1"); ctid = id (codes "TEST"); severity = Info; at = 1; mcnt = 0; payload = text [] };
  slot = 0;
  version = 1;
  held = 4;
}

-- the marks of one writer's declaration, and so many calls of it that passed
abbrev pub calls_that_passed : ℕ → List Mark
calls_that_passed n = after_lines defaults [] (one_writer 16) ++ replicate n (Passed passed_call)
