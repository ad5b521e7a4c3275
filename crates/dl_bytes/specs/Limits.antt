-- The limits of the daemon and of its messages, each once.
use Rattle.std.specs.Prelude.{ℕ, ◌-◌, ◌^◌}

-- ---- messages

-- the most bytes of a log call's arguments, and of an injection
abbrev pub payload_limit : ℕ
payload_limit = 1390

-- the most arguments of a log call
abbrev pub args_limit : ℕ
args_limit = 255

-- the most bytes of the description of an application or a context
abbrev pub text_limit : ℕ
text_limit = 255

-- the most bytes of the description of a context that a writer claims
abbrev pub claim_text_limit : ℕ
claim_text_limit = 48

-- the most bytes of a log message that the daemon takes
abbrev pub frame_limit : ℕ
frame_limit = 1984

-- the greatest LEN of a message that a client sends
abbrev pub message_limit : ℕ
message_limit = 2048

-- ---- programs that log

-- the most applications
abbrev pub app_limit : ℕ
app_limit = 16

-- the most contexts of an application
abbrev pub context_limit : ℕ
context_limit = 64

-- the most writers of a run
abbrev pub writer_limit : ℕ
writer_limit = 32

-- the most calls that a ring holds
abbrev pub ring_limit : ℕ
ring_limit = 4096

-- the most injections that the queue of an application holds
abbrev pub injection_limit : ℕ
injection_limit = 16

-- the most calls of a script, of a scenario, and of a run of either
abbrev pub call_limit : ℕ
call_limit = 1000000

-- the most calls of one writer
abbrev pub writer_call_limit : ℕ
writer_call_limit = 2 ^ 40

-- the last version of a slot's level
abbrev pub last_version : ℕ
last_version = 0xff_ffff_ffff_ffff

-- ---- the daemon and its clients

-- the most clients of a run, where the run ends: of a script, of a scenario, and of channels that are served for a while
abbrev pub client_limit : ℕ
client_limit = 32

-- the most clients that are open at once
abbrev pub open_client_limit : ℕ
open_client_limit = 8

-- the most requests of one client
abbrev pub request_limit : ℕ
request_limit = 1000

-- the most frames that are admitted
abbrev pub admitted_limit : ℕ
admitted_limit = 2 ^ 40
