-- What the lines ask of a writer, in their own words.
use Rattle.std.specs.Prelude.{◌≡◌, ℕ, ◌+◌, ◌==◌, nat_lt, List, [], ◌∷◌, map, replicate, if◌then◌else◌}
use Rattle.std.specs.List.{flat_map}
use Rattle.dl_bytes.specs.Claim.{Claimed}
use Rattle.dl_bytes.specs.Payload.{Arguments}
use Rattle.dl_bytes.specs.declared.level.Severity.{Severity}
use Rattle.dl_script_model.specs.declared.scenario.ScenarioLine.{ScenarioLine}
use Rattle.dl_script_model.specs.declared.scenario.ScenarioLine.TheVariants as line
use Rattle.dl_crew.specs.Calls.{CallContent, IsClaimOf, calls_behind, calls_of, count_in, counted, register_in, registers_of}
use Rattle.dl_crew.specs.Plays.{ArePairs}
use Rattle.dl_writer.specs.State.{BookState}
use Rattle.dl_opening.specs.declared.opened.Opened.{Opened}

-- a call as its line asks for it, under the application of its writer
pub record AskedCall : Type 0 where
  pub apid : List ℕ
  pub ctid : List ℕ
  pub severity : Severity
  pub payload : Arguments

-- the calls of one line, where it is one of this writer's, whose application has this id
abbrev pub asked_in : List ℕ → ℕ → ScenarioLine → List AskedCall
asked_in apid writer (line.Calls number ctid severity count payload) =
    if number == writer then replicate count (record { apid = apid; ctid = ctid; severity = severity; payload = payload }) else []
asked_in apid writer _ = []

-- those of all lines, in order
abbrev pub asked_of : List ℕ → ℕ → List ScenarioLine → List AskedCall
asked_of apid writer lines = flat_map (asked_in apid writer) lines

-- How many calls the lines ask of a writer behind its `register` line with this number, from 0, where so many of its `register`
-- lines stand before them.
abbrev pub count_from : ℕ → ℕ → ℕ → List ScenarioLine → ℕ
count_from writer number before [] = 0
count_from writer number before (entry ∷ lines) =
    (if nat_lt number before then count_in writer entry else 0) + count_from writer number (before + counted (register_in writer entry)) lines

-- from the first line on
abbrev pub count_behind : ℕ → ℕ → List ScenarioLine → ℕ
count_behind writer number lines = count_from writer number 0 lines

-- what a worker's call says of them
abbrev pub without_slot : CallContent → AskedCall
without_slot call = record { apid = call.apid; ctid = call.ctid; severity = call.severity; payload = call.payload }

-- The calls that a worker makes with this book are all that the lines ask of its writer, whatever places its claims get; and as
-- many stand behind each of its claims.
pub record IsAsked (lines : List ScenarioLine) (o : Opened) (apid : List ℕ) (b : BookState) : Type 0 where
  pub calls : (claims : List Claimed) → ArePairs (IsClaimOf b.writer) (registers_of b.writer.push.number lines) claims
      → map without_slot (calls_of o.plan.contexts b.writer claims o.plan.lines) ≡ asked_of apid b.writer.push.number lines
  pub behind : (claims : List Claimed) → ArePairs (IsClaimOf b.writer) (registers_of b.writer.push.number lines) claims
      → (number : ℕ) → calls_behind o.plan.contexts b.writer claims number o.plan.lines ≡ count_behind b.writer.push.number number lines
