-- What the lines of a scenario ask of a writer: its claims, and its calls under contexts that it claimed or that were declared.
use Rattle.std.specs.Prelude.{◌≡◌, ℕ, ◌+◌, ◌==◌, ◌&&◌, nat_lt, Bool, List, [], ◌∷◌, ◌++◌, length, map, take, replicate, find, sum_by, Option, Some, None, if◌then◌else◌}
use Rattle.std.specs.List.{filter_map}
use Rattle.std.specs.Option.{option_map_or, option_or}
use Rattle.std.specs.Str.{bytes_eq}
use Rattle.dl_bytes.specs.Claim.{Claimed}
use Rattle.dl_bytes.specs.Context.{Context, slot_of}
use Rattle.dl_bytes.specs.Payload.{Arguments}
use Rattle.dl_bytes.specs.declared.level.Severity.{Severity}
use Rattle.dl_events.specs.declared.record.Record.{Record}
use Rattle.dl_model.specs.Along.{last_that}
use Rattle.dl_script_model.specs.declared.line.ClaimLine.{ClaimLine}
use Rattle.dl_script_model.specs.declared.scenario.ScenarioLine.{ScenarioLine}
use Rattle.dl_script_model.specs.declared.scenario.ScenarioLine.TheVariants as line
use Rattle.dl_writer.specs.State.{WriterState}

-- ---- claims

-- what a line asks a writer to claim, where it is one of this writer's `register` lines
abbrev pub register_in : ℕ → ScenarioLine → Option ClaimLine
register_in writer (line.Register asked) = if asked.writer == writer then Some asked else None
register_in writer _ = None

-- those of all lines, in order
abbrev pub registers_of : ℕ → List ScenarioLine → List ClaimLine
registers_of writer lines = filter_map (register_in writer) lines

-- one `register` line or none
abbrev pub counted : Option ClaimLine → ℕ
counted (Some asked) = 1
counted None = 0

-- The claim is the one that this line asks for, whatever place it got.
abbrev pub IsClaimOf : WriterState → ClaimLine → Claimed → Type 0
IsClaimOf w asked claim = claim ≡ record { app = w.app; writer = w.push.number; place = claim.place; ctid = asked.ctid; level = asked.level; text = asked.text }

-- the handles of the contexts that a writer claimed
abbrev pub handle_of : WriterState → Claimed → Context
handle_of w claim = record { app = w.app; place = claim.place; apid = w.apid; ctid = claim.ctid }

abbrev pub handles_of : WriterState → List Claimed → List Context
handles_of w claims = map (handle_of w) claims

-- ---- calls

-- what a call says, whenever it is made and whatever becomes of it: the ids and the slot of its context, its severity and
-- its arguments
pub record CallContent : Type 0 where
  pub apid : List ℕ
  pub ctid : List ℕ
  pub slot : ℕ
  pub severity : Severity
  pub payload : Arguments

-- that of a call under this context
abbrev pub content : Context → Severity → Arguments → CallContent
content ctx severity payload = record { apid = ctx.apid; ctid = ctx.ctid; slot = slot_of ctx; severity = severity; payload = payload }

-- that of the call that a record tells of
abbrev pub content_of : Record → CallContent
content_of r = record { apid = r.item.apid; ctid = r.item.ctid; slot = r.slot; severity = r.item.severity; payload = r.item.payload }

-- a context of the application with this number that has this id
abbrev pub has_name : ℕ → List ℕ → Context → Bool
has_name app ctid ctx = (ctx.app == app) && bytes_eq ctx.ctid ctid

-- The context that an id names: the last of those that the writer claimed so far which has it, or else the declared one.
abbrev pub context_named : List Context → List Context → ℕ → List ℕ → Option Context
context_named contexts own app ctid = option_or (last_that (has_name app ctid) own) (find (has_name app ctid) contexts)

-- The calls that a line asks of a writer of this application: so many like one another, where it is a `calls` line of this
-- writer, whose context is among those that were declared or that the writer claimed so far.
abbrev pub calls_in : List Context → List Context → ℕ → ℕ → ScenarioLine → List CallContent
calls_in contexts own app writer (line.Calls number ctid severity count payload) =
    if number == writer then option_map_or (λ ctx. replicate count (content ctx severity payload)) (context_named contexts own app ctid) [] else []
calls_in contexts own app writer _ = []

-- Those of all lines, in order. The writer makes these claims, one for each of its `register` lines, of which so many stand
-- before these lines.
abbrev pub calls_from : List Context → WriterState → List Claimed → ℕ → List ScenarioLine → List CallContent
calls_from contexts w claims before [] = []
calls_from contexts w claims before (entry ∷ lines) =
    calls_in contexts (handles_of w (take before claims)) w.app w.push.number entry
    ++ calls_from contexts w claims (before + counted (register_in w.push.number entry)) lines

-- How many of them stand behind the `register` line of the writer with this number, from 0.
abbrev pub behind_from : List Context → WriterState → List Claimed → ℕ → ℕ → List ScenarioLine → ℕ
behind_from contexts w claims number before [] = 0
behind_from contexts w claims number before (entry ∷ lines) =
    (if nat_lt number before then length (calls_in contexts (handles_of w (take before claims)) w.app w.push.number entry) else 0)
    + behind_from contexts w claims number (before + counted (register_in w.push.number entry)) lines

-- from the first line on
abbrev pub calls_of : List Context → WriterState → List Claimed → List ScenarioLine → List CallContent
calls_of contexts w claims lines = calls_from contexts w claims 0 lines

abbrev pub calls_behind : List Context → WriterState → List Claimed → ℕ → List ScenarioLine → ℕ
calls_behind contexts w claims number lines = behind_from contexts w claims number 0 lines

-- ---- how many calls

-- how many calls a line asks of a writer
abbrev pub count_in : ℕ → ScenarioLine → ℕ
count_in writer (line.Calls number ctid severity count payload) = if number == writer then count else 0
count_in writer _ = 0

-- and all lines together
abbrev pub count_of : ℕ → List ScenarioLine → ℕ
count_of writer lines = sum_by (count_in writer) lines
