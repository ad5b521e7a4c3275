-- What the lines of a scenario declare.
use Rattle.std.specs.Prelude.{ℕ, ◌+◌, ◌==◌, Bool, false, List, [], ◌∷◌, ◌++◌, length, map, position, slice_get, sum_by, Option, Some, None, if◌then◌else◌}
use Rattle.std.specs.List.{filter_map, flat_map, list_any, range_with_len}
use Rattle.std.specs.Option.{option_map_or}
use Rattle.std.specs.Str.{bytes_eq}
use Rattle.dl_bytes.specs.Context.{Context}
use Rattle.dl_bytes.specs.declared.conf.AppSpec.{AppSpec}
use Rattle.dl_bytes.specs.declared.user.UserMsg.{UserMsg}
use Rattle.dl_desk.specs.Apps.{AppState, context_registration, registration}
use Rattle.dl_outside.specs.declared.client.ClientScript.{ClientScript}
use Rattle.dl_script_model.specs.declared.line.AppLine.{AppLine}
use Rattle.dl_script_model.specs.declared.line.ContextLine.{ContextLine}
use Rattle.dl_script_model.specs.declared.scenario.ScenarioLine.{ScenarioLine}
use Rattle.dl_script_model.specs.declared.scenario.ScenarioLine.TheVariants as line

-- ---- applications

abbrev pub app_in : ScenarioLine → Option AppLine
app_in (line.App app) = Some app
app_in _ = None

-- the applications, in the order of their lines; each has its place as its number
abbrev pub apps : List ScenarioLine → List AppLine
apps lines = filter_map app_in lines

abbrev pub spec_of : AppLine → AppSpec
spec_of app = record { apid = app.apid; capacity = app.capacity; text = app.text }

abbrev pub specs_of : List ScenarioLine → List AppSpec
specs_of lines = map spec_of (apps lines)

-- the number of the application with this id
abbrev pub number_in : List ℕ → List AppSpec → Option ℕ
number_in apid specs = position (λ spec. bytes_eq spec.apid apid) specs

-- ---- contexts

-- a context of this application
abbrev pub context_in : List ℕ → ScenarioLine → Option ContextLine
context_in apid (line.Context context) = if bytes_eq context.apid apid then Some context else None
context_in apid _ = None

-- the contexts of an application, in the order of their lines; each has its place
abbrev pub contexts_of : List ℕ → List ScenarioLine → List ContextLine
contexts_of apid lines = filter_map (context_in apid) lines

-- what the application tells the daemon: its registration, and then those of its contexts
abbrev pub registered : List ℕ → ContextLine → UserMsg
registered apid context = context_registration apid context.ctid context.level context.text

abbrev pub hello_of : List ScenarioLine → AppLine → List UserMsg
hello_of lines app = registration (spec_of app) ∷ map (registered app.apid) (contexts_of app.apid lines)

-- one of these ids is that of the application with this number
abbrev pub is_one_of : List ScenarioLine → ℕ → List (List ℕ) → Bool
is_one_of lines number made = list_any (λ apid. option_map_or (λ n. n == number) (number_in apid (specs_of lines)) false) made

-- an application with its contexts, under this number, where the writers that were made are of the applications with these ids
abbrev pub opened_app : List ScenarioLine → List (List ℕ) → ℕ → AppLine → AppState
opened_app lines made number app = record { number = number; apid = app.apid; hello = hello_of lines app; started = is_one_of lines number made }

-- applications with their contexts, numbered from here on
abbrev pub opened_from : List ScenarioLine → List (List ℕ) → ℕ → List AppLine → List AppState
opened_from lines made number [] = []
opened_from lines made number (app ∷ rest) = opened_app lines made number app ∷ opened_from lines made (number + 1) rest

-- how many contexts are declared of the application with this number
abbrev pub base_of : List ScenarioLine → ℕ → ℕ
base_of lines number = option_map_or (λ app. length (contexts_of app.apid lines)) (slice_get (apps lines) number) 0

-- the handles of an application's contexts, from this place on
abbrev pub placed : ℕ → List ℕ → ℕ → List ContextLine → List Context
placed app apid place [] = []
placed app apid place (context ∷ rest) = record { app = app; place = place; apid = apid; ctid = context.ctid } ∷ placed app apid (place + 1) rest

-- those of all applications, one application's after the other's
abbrev pub handles_from : List ScenarioLine → ℕ → List AppLine → List Context
handles_from lines number [] = []
handles_from lines number (app ∷ rest) = placed number app.apid 0 (contexts_of app.apid lines) ++ handles_from lines (number + 1) rest

-- ---- writers

abbrev pub writer_in : ScenarioLine → Option (List ℕ)
writer_in (line.Writer apid) = Some apid
writer_in _ = None

-- the application of each writer, by its id, in the order of their lines; they are numbered from 1
abbrev pub writers : List ScenarioLine → List (List ℕ)
writers lines = filter_map writer_in lines

-- how many calls a line asks for, whoever its writer is
abbrev pub calls_in : ScenarioLine → ℕ
calls_in (line.Calls number ctid severity count payload) = count
calls_in _ = 0

-- and all lines together
abbrev pub all_calls : List ScenarioLine → ℕ
all_calls lines = sum_by calls_in lines

-- ---- clients

abbrev pub clients_in : ScenarioLine → ℕ
clients_in line.Client = 1
clients_in _ = 0

-- how many clients there are; they are numbered from 1
abbrev pub clients : List ScenarioLine → ℕ
clients lines = sum_by clients_in lines

-- what a client sends, line by line
abbrev pub sent_in : ℕ → ScenarioLine → List ℕ
sent_in client (line.Send number bytes) = if number == client then bytes else []
sent_in client _ = []

-- after how many bytes it leaves, where a line says that
abbrev pub leave_in : ℕ → ScenarioLine → Option ℕ
leave_in client (line.Leave number count) = if number == client then Some count else None
leave_in client _ = None

abbrev pub first_of : List ℕ → Option ℕ
first_of [] = None
first_of (count ∷ rest) = Some count

abbrev pub script_of : List ScenarioLine → ℕ → ClientScript
script_of lines client = record { sends = flat_map (sent_in client) lines; leave = first_of (filter_map (leave_in client) lines) }

-- the scripts of all clients, in the order of their lines
abbrev pub scripts_of : List ScenarioLine → List ClientScript
scripts_of lines = map (script_of lines) (range_with_len 1 (clients lines))
