-- What contracts see of the log calls and the claims of a script.
use Rattle.std.specs.Prelude.{◌≤◌, ◌<◌, length, ℕ, ◌+◌, ◌-◌, ◌%◌, ◌==◌, List, [], ◌∷◌, ◌++◌, slice_get, Option, Some, None, if◌then◌else◌}
use Rattle.std.specs.List.{position, All}
use Rattle.std.specs.Option.{option_map, option_map_or, option_and_then, option_or}
use Rattle.std.specs.Str.{bytes_eq}
use Rattle.dl_bytes.specs.Claim.{Claimed}
use Rattle.dl_bytes.specs.Level.{passes}
use Rattle.dl_bytes.specs.Number.{◌>>=◌}
use Rattle.dl_bytes.specs.Context.{Context}
use Rattle.dl_bytes.specs.declared.conf.AppSpec.{AppSpec}
use Rattle.dl_bytes.specs.declared.item.Item.{Item}
use Rattle.dl_events.specs.declared.record.Record.{Record}
use Rattle.dl_model.specs.declared.registry.Slot.{Slot}
use Rattle.dl_model.specs.Registry.{slot_of}
use Rattle.dl_events.specs.declared.record.Answer.{Answer}
use Rattle.dl_events.specs.declared.record.Answer.TheVariants as answers
use Rattle.dl_model.specs.Along.{last_that}
use Rattle.dl_script_model.specs.Marks.{Call, Pushed, OfCall, OfClaim, recorded}
use Rattle.dl_world_calls.specs.declared.queue.OwnPlace.{OwnPlace}
use Rattle.dl_world_calls.specs.declared.queue.Entry.{Entry}
use Rattle.dl_world_calls.specs.declared.queue.Entry.TheVariants as entry
use Rattle.dl_world_calls.specs.Queue.{Waiting}
use Rattle.dl_script_model.specs.declared.line.CallLine.{CallLine}

-- An application: the ids of its contexts, how many of its places are claimed, what its ring took, and the calls that were counted as
-- lost.
pub record App : Type 0 where
  pub spec : AppSpec
  pub contexts : List (List ℕ)
  pub claimed : ℕ
  pub ring : Waiting
  pub losses : Waiting

-- A writer: its application, how many of its calls passed, modulo 256, the call that is to be pushed or counted, its records, its
-- claims, and how many of them its ring took.
pub record Writer : Type 0 where
  pub app : ℕ
  pub apid : List ℕ
  pub passed : ℕ
  pub to_push : Option Call
  pub to_count : Option Call
  pub records : List Record
  pub claims : List Claimed
  pub announced : ℕ

pub record Calls : Type 0 where
  pub apps : List App
  pub writers : List Writer

-- nothing came
abbrev pub nothing : Waiting
nothing = record { entries = []; gone = 0 }

abbrev pub new_app : AppSpec → App
new_app spec = record { spec = spec; contexts = []; claimed = 0; ring = nothing; losses = nothing }

abbrev pub new_writer : ℕ → List ℕ → Writer
new_writer app apid = record { app = app; apid = apid; passed = 0; to_push = None; to_count = None; records = []; claims = []; announced = 0 }

-- ---- the steps of a writer

-- a call that it begins: it passes, and is to be pushed; or it is filtered
abbrev pub begun : Writer → Call → Writer
begun writer call =
    if passes call.item.severity call.held
    then record writer { passed = (writer.passed + 1) % 256; to_push = Some call; to_count = None }
    else record writer { records = writer.records ++ recorded call answers.Filtered ∷ [] }

-- its call has this answer
abbrev pub answered : Writer → Answer → Option Call → Writer
answered writer answer None = writer
answered writer answer (Some call) = record writer { to_push = None; to_count = None; records = writer.records ++ recorded call answer ∷ [] }

-- its call was refused
abbrev pub turned_away : Writer → Option Call → Writer
turned_away writer None = writer
turned_away writer (Some call) = record writer { to_push = None; to_count = Some call }

-- ---- what was declared

-- the number of the application of this id
abbrev pub numbered : Calls → List ℕ → Option ℕ
numbered calls apid = position (λ (app : App). bytes_eq app.spec.apid apid) calls.apps

-- the application of this id
abbrev pub app_named : Calls → List ℕ → Option App
app_named calls apid = option_and_then (λ number. slice_get calls.apps number) (numbered calls apid)

-- all fit: at most 16 applications and 32 writers, each of an application that is there
pub record Fits (calls : Calls) : Type 0 where
  pub apps : length calls.apps ≤ 16
  pub writers : length calls.writers ≤ 32
  pub owners : All (λ (writer : Writer). writer.app < length calls.apps) calls.writers

-- ---- names

-- writers are numbered from 1
abbrev pub writer_of : Calls → ℕ → Option Writer
writer_of calls number = if number == 0 then None else slice_get calls.writers (number - 1)

-- the application of a writer
abbrev pub owner_of : Calls → ℕ → Option App
owner_of calls number = option_and_then (λ (writer : Writer). slice_get calls.apps writer.app) (writer_of calls number)

-- the place of the last claim of an id
abbrev pub claimed_place : List Claimed → List ℕ → Option ℕ
claimed_place claims ctid = option_map (λ claim. claim.place) (last_that (λ claim. bytes_eq claim.ctid ctid) claims)

-- the place that an id names in a call of a writer: that of its last claim of the id, or else that of the context that was declared
abbrev pub place_named : App → Writer → List ℕ → Option ℕ
place_named app writer ctid = option_or (claimed_place writer.claims ctid) (position (λ id. bytes_eq id ctid) app.contexts)

-- the context of a writer's application that has this id
abbrev pub context_in : App → Writer → List ℕ → Option Context
context_in app writer ctid =
    option_map (λ place. record { app = writer.app; place = place; apid = writer.apid; ctid = ctid }) (place_named app writer ctid)

-- the context that a call names
abbrev pub named : Calls → CallLine → Option Context
named calls call = do
  writer ← writer_of calls call.writer
  app ← slice_get calls.apps writer.app
  context_in app writer call.ctid

-- the application of the writer whose call is to be pushed, and of the one whose call is to be counted
abbrev pub pusher : Calls → ℕ → Option ℕ
pusher calls number = option_and_then (λ (writer : Writer). option_map (λ _. writer.app) writer.to_push) (writer_of calls number)

abbrev pub counter : Calls → ℕ → Option ℕ
counter calls number = option_and_then (λ (writer : Writer). option_map (λ _. writer.app) writer.to_count) (writer_of calls number)

-- the application of the writer of whose claims one waits
abbrev pub announcer : Calls → ℕ → Option ℕ
announcer calls number = option_and_then (λ (writer : Writer). option_map (λ _. writer.app) (slice_get writer.claims writer.announced)) (writer_of calls number)

-- how many of its claims wait
abbrev pub unannounced_of : Calls → ℕ → ℕ
unannounced_of calls number = option_map_or (λ (writer : Writer). length writer.claims - writer.announced) (writer_of calls number) 0

-- ---- what rings hold

-- the record, and the claim, at a place
abbrev pub record_at : List Writer → OwnPlace → Option Record
record_at writers at = if at.writer == 0 then None else option_and_then (λ (writer : Writer). slice_get writer.records at.place) (slice_get writers (at.writer - 1))

abbrev pub claim_at : List Writer → OwnPlace → Option Claimed
claim_at writers at = if at.writer == 0 then None else option_and_then (λ (writer : Writer). slice_get writer.claims at.place) (slice_get writers (at.writer - 1))

-- the record of a call, or a claim
pub data Held : Type 0 where
  HeldCall : Record → Held
  HeldClaim : Claimed → Held

abbrev pub held_at : List Writer → Entry → Option Held
held_at writers (entry.Call at) = option_map HeldCall (record_at writers at)
held_at writers (entry.Claim at) = option_map HeldClaim (claim_at writers at)

-- what a ring took, as it is held
abbrev pub as_held : Pushed → Held
as_held (OfCall call) = HeldCall (recorded call answers.Queued)
as_held (OfClaim claim) = HeldClaim claim

-- what the daemon takes next out of an application's ring: a call, or a claim
abbrev pub next_held : Calls → ℕ → Option Held
next_held calls number = do
  app ← slice_get calls.apps number
  first ← slice_get app.ring.entries app.ring.gone
  held_at calls.writers first

abbrev pub item_held : Held → Option Item
item_held (HeldCall r) = Some r.item
item_held (HeldClaim claim) = None

abbrev pub claim_held : Held → Option Claimed
claim_held (HeldCall r) = None
claim_held (HeldClaim claim) = Some claim

abbrev pub next_item : Calls → ℕ → Option Item
next_item calls number = option_and_then item_held (next_held calls number)

abbrev pub next_claim : Calls → ℕ → Option Claimed
next_claim calls number = option_and_then claim_held (next_held calls number)

-- the call that a load makes of a line, where its context's slot holds this
abbrev pub made_call : CallLine → Context → Slot → ℕ → ℕ → Call
made_call call context seen number mcnt = record {
  item = record {
    app = context.app;
    writer = call.writer;
    call = number;
    apid = context.apid;
    ctid = call.ctid;
    severity = call.severity;
    at = call.at;
    mcnt = mcnt;
    payload = call.payload;
  };
  slot = slot_of context.app context.place;
  version = seen.version;
  held = seen.level;
}
