-- Marks: what the atomic steps of a run came to, in order. A run is a list of marks, and all that is asked of it is a
-- count or a filter of them.
use Rattle.std.specs.Prelude.{ℕ, ◌+◌, ◌-◌, ◌%◌, ◌==◌, Bool, true, false, nat_le, List, [], ◌∷◌, length, map, count_by, position, slice_get, Option, Some, None, unwrap_or, if◌then◌else◌}
use Rattle.std.specs.List.{filter, filter_map, flat_map, after_last, range_with_len}
use Rattle.std.specs.Option.{option_map, option_map_or, option_and_then, option_or}
use Rattle.std.specs.Str.{bytes_eq}
use Rattle.std.proofs.lemmas.Nat.{mod_below}
use Rattle.std.proofs.Math.Dec.{lit<}
use Rattle.dl_bytes.specs.Claim.{Claimed}
use Rattle.dl_bytes.specs.declared.item.Item.{Item}
use Rattle.dl_bytes.specs.declared.moment.Moment.{Moment}
use Rattle.dl_bytes.specs.declared.outcome.Done.{Done}
use Rattle.dl_events.specs.declared.event.Event.{Event}
use Rattle.dl_events.specs.declared.event.Event.TheVariants as event
use Rattle.dl_events.specs.declared.record.Record.{Record}
use Rattle.dl_events.specs.declared.record.Answer.{Answer}
use Rattle.dl_events.specs.declared.record.Answer.TheVariants as answer
use Rattle.dl_script_model.specs.declared.line.AppLine.{AppLine}
use Rattle.dl_script_model.specs.declared.line.ContextLine.{ContextLine}
use Rattle.dl_model.specs.Along.{last_that}

-- a log call after its load: its item, the slot of its context, and the version and the level that the load gave
pub record Call : Type 0 where
  pub item : Item
  pub slot : ℕ
  pub version : ℕ
  pub held : ℕ

pub data Mark : Type 0 where
  -- an application, a context and a writer were declared
  HasApp : AppLine → Mark
  HasContext : ContextLine → Mark
  HasWriter : List ℕ → Mark
  -- the load of a call: its level filters it, or it passes
  Filtered : Call → Mark
  Passed : Call → Mark
  -- the push of a call that passed: the ring takes it, or is full
  Queued : Call → Mark
  Refused : Call → Mark
  -- the count of a call that the ring refused
  Counted : Call → Mark
  -- a writer claimed a place; the claim waits
  HasClaim : Claimed → Mark
  -- the push of a claim that waited: the ring takes it, or is full
  Announced : Claimed → Mark
  HeldBack : Claimed → Mark
  -- the daemon noted an event
  Noted : Event → Mark
  -- later events have this moment
  Clocked : Moment → Mark
  -- Level events wait from now on, or no longer
  LevelsWait : Bool → Mark
  -- bytes came from a client, and on a channel of user messages
  Fed : ℕ → List ℕ → Mark
  Heard : ℕ → List ℕ → Mark
  -- the folder answered to a Store or a Reset
  Answered : Done → Mark
  -- an application's queue took an injection, and the application took one out
  Injected : ℕ → Mark
  Handed : ℕ → Mark

-- ---- events and records

abbrev pub event_of : Mark → Option Event
event_of (Noted e) = Some e
event_of _ = None

-- the daemon's journal
abbrev pub journal : List Mark → List Event
journal done = filter_map event_of done

abbrev pub recorded : Call → Answer → Record
recorded call what = record { item = call.item; slot = call.slot; version = call.version; held = call.held; answer = what }

-- a call's record stands from its last step on
abbrev pub record_of : Mark → Option Record
record_of (Filtered call) = Some (recorded call answer.Filtered)
record_of (Queued call) = Some (recorded call answer.Queued)
record_of (Counted call) = Some (recorded call answer.Lost)
record_of _ = None

-- the records of one writer, in the order of its calls
abbrev pub records_of : ℕ → List Mark → List Record
records_of writer done = filter (λ r. r.item.writer == writer) (filter_map record_of done)

-- ---- what was declared

abbrev pub app_of : Mark → Option AppLine
app_of (HasApp app) = Some app
app_of _ = None

abbrev pub context_of : Mark → Option ContextLine
context_of (HasContext context) = Some context
context_of _ = None

abbrev pub writer_of : Mark → Option (List ℕ)
writer_of (HasWriter apid) = Some apid
writer_of _ = None

-- the applications; each has its place as its number
abbrev pub apps : List Mark → List AppLine
apps done = filter_map app_of done

abbrev pub number_of : List ℕ → List Mark → Option ℕ
number_of apid done = position (λ app. bytes_eq app.apid apid) (apps done)

-- the APID of an application, and how many calls and claims its ring holds
abbrev pub apid_of : List Mark → ℕ → List ℕ
apid_of done app = option_map_or (λ line. line.apid) (slice_get (apps done) app) []

abbrev pub capacity_of : List Mark → ℕ → ℕ
capacity_of done app = option_map_or (λ line. line.capacity) (slice_get (apps done) app) 0

-- the contexts of an application; each has its place
abbrev pub contexts_of : List ℕ → List Mark → List ContextLine
contexts_of apid done = filter (λ context. bytes_eq context.apid apid) (filter_map context_of done)

abbrev pub place_of : List ℕ → List ℕ → List Mark → Option ℕ
place_of apid ctid done = position (λ context. bytes_eq context.ctid ctid) (contexts_of apid done)

-- the writers are numbered from 1; the APID of each
abbrev pub writers : List Mark → List (List ℕ)
writers done = filter_map writer_of done

abbrev pub writer_numbers : List Mark → List ℕ
writer_numbers done = range_with_len 1 (length (writers done))

abbrev pub app_of_writer : ℕ → List Mark → Option (List ℕ)
app_of_writer writer done = if writer == 0 then None else slice_get (writers done) (writer - 1)

-- the records of all writers, by their numbers
abbrev pub records : List Mark → List (List Record)
records done = map (λ writer. records_of writer done) (writer_numbers done)

-- ---- the calls of a writer

-- the call that a mark is a step of
abbrev pub call_of : Mark → Option Call
call_of (Filtered call) = Some call
call_of (Passed call) = Some call
call_of (Queued call) = Some call
call_of (Refused call) = Some call
call_of (Counted call) = Some call
call_of _ = None

abbrev pub is_step_of : ℕ → Mark → Bool
is_step_of writer mark = option_map_or (λ call. call.item.writer == writer) (call_of mark) false

abbrev pub is_load : Mark → Bool
is_load (Filtered call) = true
is_load (Passed call) = true
is_load _ = false

abbrev pub is_passed : Mark → Bool
is_passed (Passed call) = true
is_passed _ = false

-- how many calls a writer began, and how many of them passed their level
abbrev pub calls_of : ℕ → List Mark → ℕ
calls_of writer done = count_by is_load (filter (is_step_of writer) done)

abbrev pub passed_of : ℕ → List Mark → ℕ
passed_of writer done = count_by is_passed (filter (is_step_of writer) done)

abbrev pub passed : Mark → Option Call
passed (Passed call) = Some call
passed _ = None

abbrev pub refused : Mark → Option Call
refused (Refused call) = Some call
refused _ = None

-- a writer's call whose next step is its push, and one whose next step is its count
abbrev pub to_push : ℕ → List Mark → Option Call
to_push writer done = option_and_then passed (last_that (is_step_of writer) done)

abbrev pub to_count : ℕ → List Mark → Option Call
to_count writer done = option_and_then refused (last_that (is_step_of writer) done)

-- the call of a writer that is open, by its last step: it passed and isn't pushed, or was refused and isn't counted
abbrev pub opened_call : Option Mark → List Call
opened_call (Some (Passed call)) = call ∷ []
opened_call (Some (Refused call)) = call ∷ []
opened_call _ = []

-- ---- the claims of a writer

abbrev pub claim_of : Mark → Option Claimed
claim_of (HasClaim claim) = Some claim
claim_of _ = None

abbrev pub announced_of : Mark → Option Claimed
announced_of (Announced claim) = Some claim
announced_of _ = None

-- the claims that a writer made, and those of an application's writers
abbrev pub claims_of : ℕ → List Mark → List Claimed
claims_of writer done = filter (λ claim. claim.writer == writer) (filter_map claim_of done)

abbrev pub claims_on : ℕ → List Mark → List Claimed
claims_on app done = filter (λ claim. claim.app == app) (filter_map claim_of done)

-- those of a writer that its ring took
abbrev pub announced_by : ℕ → List Mark → List Claimed
announced_by writer done = filter (λ claim. claim.writer == writer) (filter_map announced_of done)

-- how many of its claims wait, and the first of them
abbrev pub unannounced : ℕ → List Mark → ℕ
unannounced writer done = length (claims_of writer done) - length (announced_by writer done)

abbrev pub to_announce : ℕ → List Mark → Option Claimed
to_announce writer done = slice_get (claims_of writer done) (length (announced_by writer done))

-- the claims of all writers that rings took, by the writers' numbers
abbrev pub claims : List Mark → List (List Claimed)
claims done = map (λ writer. announced_by writer done) (writer_numbers done)

-- The place that an id names in a call of a writer of this application: that of its last claim of the id, where there is one, or
-- else that of the context that was declared.
abbrev pub claimed_place : ℕ → List ℕ → List Mark → Option ℕ
claimed_place writer ctid done = option_map (λ claim. claim.place) (last_that (λ claim. bytes_eq claim.ctid ctid) (claims_of writer done))

abbrev pub named_place : ℕ → List ℕ → List ℕ → List Mark → Option ℕ
named_place writer apid ctid done = option_or (claimed_place writer ctid done) (place_of apid ctid done)

-- the next place of an application: as many were given by its contexts that were declared, and by claims
abbrev pub next_place : List ℕ → ℕ → List Mark → ℕ
next_place apid app done = length (contexts_of apid done) + length (claims_on app done)

-- ---- rings and losses

-- what a ring takes: a log call, or a claim
pub data Pushed : Type 0 where
  OfCall : Call → Pushed
  OfClaim : Claimed → Pushed

abbrev pub call_in : Pushed → Option Call
call_in (OfCall call) = Some call
call_in (OfClaim claim) = None

abbrev pub claim_in : Pushed → Option Claimed
claim_in (OfCall call) = None
claim_in (OfClaim claim) = Some claim

abbrev pub pushed_of : ℕ → Mark → Option Pushed
pushed_of app (Queued call) = if call.item.app == app then Some (OfCall call) else None
pushed_of app (Announced claim) = if claim.app == app then Some (OfClaim claim) else None
pushed_of app _ = None

-- all that an application's ring took, in order
abbrev pub pushes : ℕ → List Mark → List Pushed
pushes app done = filter_map (pushed_of app) done

abbrev pub queued_of : ℕ → Mark → Option Call
queued_of app (Queued call) = if call.item.app == app then Some call else None
queued_of app _ = None

-- the log calls among it
abbrev pub queued : ℕ → List Mark → List Call
queued app done = filter_map (queued_of app) done

abbrev pub is_log_of : ℕ → Event → Bool
is_log_of app (event.Log other writer call moment) = other == app
is_log_of app _ = false

abbrev pub is_taken_of : ℕ → Event → Bool
is_taken_of app (event.Log other writer call moment) = other == app
is_taken_of app (event.Claim claim moment) = claim.app == app
is_taken_of app _ = false

-- how much of it the daemon took
abbrev pub taken : ℕ → List Mark → ℕ
taken app done = count_by (is_taken_of app) (journal done)

-- how much the ring holds
abbrev pub held_by : ℕ → List Mark → ℕ
held_by app done = length (pushes app done) - taken app done

-- the ring holds as many as it can
abbrev pub is_full : ℕ → List Mark → Bool
is_full app done = nat_le (capacity_of done app) (held_by app done)

abbrev pub is_counted_of : ℕ → Mark → Bool
is_counted_of app (Counted call) = call.item.app == app
is_counted_of app _ = false

abbrev pub is_lost_of : ℕ → Mark → Bool
is_lost_of app (Noted (event.Lost other count moment)) = other == app
is_lost_of app _ = false

-- how many lost calls of an application are counted and not yet told
abbrev pub pending : ℕ → List Mark → ℕ
pending app done = count_by (is_counted_of app) (after_last (is_lost_of app) done)

-- ---- the rest of a run's state

abbrev pub clocked : Mark → Option Moment
clocked (Clocked moment) = Some moment
clocked _ = None

-- A moment of the script's clock: micros is below 1,000,000. Its timestamp is 0.
abbrev pub moment_at : ℕ → ℕ → Moment
moment_at secs micros = record { secs = secs; micros = micros % 1000000; ticks = 0; within_second = mod_below micros 1000000 (lit< tt) }

-- the moment that an event has: the last that the clock told, at first 0
abbrev pub moment : List Mark → Moment
moment done = unwrap_or (last_that (λ _. true) (filter_map clocked done)) (moment_at 0 0)

abbrev pub waits_of : Mark → Option Bool
waits_of (LevelsWait later) = Some later
waits_of _ = None

-- Level events wait: so the last line on it says
abbrev pub is_later : List Mark → Bool
is_later done = unwrap_or (last_that (λ _. true) (filter_map waits_of done)) false

abbrev pub fed_of : ℕ → Mark → List ℕ
fed_of client (Fed other bytes) = if other == client then bytes else []
fed_of client _ = []

-- all bytes that came from a client
abbrev pub fed : ℕ → List Mark → List ℕ
fed client done = flat_map (fed_of client) done

abbrev pub heard_of : ℕ → Mark → List ℕ
heard_of channel (Heard other bytes) = if other == channel then bytes else []
heard_of channel _ = []

-- all bytes that came on a channel
abbrev pub heard : ℕ → List Mark → List ℕ
heard channel done = flat_map (heard_of channel) done

abbrev pub is_answer : Mark → Bool
is_answer (Answered what) = true
is_answer _ = false

abbrev pub is_injected : ℕ → Mark → Bool
is_injected app (Injected other) = other == app
is_injected app _ = false

abbrev pub is_handed : ℕ → Mark → Bool
is_handed app (Handed other) = other == app
is_handed app _ = false

-- how many injections an application's queue holds
abbrev pub injections : ℕ → List Mark → ℕ
injections app done = count_by (is_injected app) done - count_by (is_handed app) done
