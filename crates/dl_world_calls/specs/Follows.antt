-- What the log calls are after the marks of a run: each writer's open call, records and claims, each ring, and each count.
use Rattle.std.specs.Prelude.{◌≡◌, ℕ, ◌+◌, ◌-◌, ◌≤◌, ◌%◌, ◌==◌, Bool, true, false, if◌then◌else◌, List, [], ◌++◌, length, map, take, get_or, Option, Some, None, IfSome}
use Rattle.std.specs.List.{position_or_len, All, AllByRecursion}
use Rattle.std.specs.Str.{bytes_eq}
use Rattle.dl_events.specs.declared.event.Event.TheVariants as event
use Rattle.dl_bytes.specs.Claim.{Claimed}
use Rattle.dl_bytes.specs.Context.{Context}
use Rattle.dl_script_model.specs.declared.line.AppLine.{AppLine}
use Rattle.dl_script_model.specs.declared.line.CallLine.{CallLine}
use Rattle.dl_script_model.specs.declared.line.ContextLine.{ContextLine}
use Rattle.dl_script_model.specs.Marks.{Call, Mark, Noted, Clocked, LevelsWait, Fed, Heard, Answered, Pushed, apps, journal, writers, contexts_of, number_of, calls_of, passed_of, to_push, to_count, records_of, claims_of, claims_on, announced_by, pushes, taken, pending, Injected, Handed}
use Rattle.dl_script_model.specs.Steps.{Act, load}
use Rattle.dl_model.specs.declared.registry.Slot.{Slot}
use Rattle.dl_model.specs.Journal.{slots_of}
use Rattle.dl_model.specs.Registry.{slot_of}
use Rattle.dl_model.specs.Setting.{Setting}
use Rattle.dl_world_calls.specs.Queue.{waiting}
use Rattle.dl_world_calls.specs.State.{App, Writer, Calls, Held, new_app, new_writer, held_at, as_held}

-- ---- one writer

-- how many calls are open: one or none
abbrev pub open_calls : Option Call → Option Call → ℕ
open_calls None None = 0
open_calls _ _ = 1

-- its call that is open, its message counter and its records are those of the marks
pub record IsWriterAfter (done : List Mark) (number : ℕ) (writer : Writer) : Type 0 where
  pub begun : calls_of number done ≡ length writer.records + open_calls writer.to_push writer.to_count
  pub counter : passed_of number done % 256 ≡ writer.passed
  pub push_is : to_push number done ≡ writer.to_push
  pub count_is : to_count number done ≡ writer.to_count
  pub records_are : records_of number done ≡ writer.records

-- its claims are those of the marks, each on a place of its application, and its ring took the first of them
pub record IsClaimerAfter (done : List Mark) (number : ℕ) (writer : Writer) : Type 0 where
  pub claims_are : claims_of number done ≡ writer.claims
  pub own : AllByRecursion (λ (claim : Claimed). claim.app ≡ writer.app) writer.claims
  pub announced_are : announced_by number done ≡ take writer.announced writer.claims
  pub announced_at_most : writer.announced ≤ length writer.claims

-- ---- one application

-- what a ring took is there
abbrev pub as_pushed : Pushed → Option Held
as_pushed what = Some (as_held what)

-- its ring holds the places of what the marks pushed, and its counts are those of the marks
pub record IsAppAfter (done : List Mark) (writers : List Writer) (number : ℕ) (app : App) : Type 0 where
  pub ring_is : map (held_at writers) app.ring.entries ≡ map as_pushed (pushes number done)
  pub taken_is : taken number done ≡ app.ring.gone
  pub pending_is : pending number done ≡ waiting app.losses
  pub told_at_most : app.losses.gone ≤ length app.losses.entries

-- ---- all

-- an application and a writer without calls, which stand for those that aren't declared
abbrev pub no_app : App
no_app = new_app (record { apid = []; capacity = 0; text = [] })

abbrev pub no_writer : Writer
no_writer = new_writer 0 []

abbrev pub line_of : App → AppLine
line_of app = record { apid = app.spec.apid; capacity = app.spec.capacity; text = app.spec.text }

abbrev pub is_named : List ℕ → App → Bool
is_named apid app = bytes_eq app.spec.apid apid

-- the writer of this number, from 1
abbrev pub writer_at : List Writer → ℕ → Writer
writer_at writers number = if number == 0 then no_writer else get_or writers (number - 1) no_writer

-- the contexts of the first application of this id
abbrev pub contexts_in : List App → List ℕ → List (List ℕ)
contexts_in apps apid = (get_or apps (position_or_len (is_named apid) apps) no_app).contexts

-- a writer's application is known, and its open call is one of that application
pub record IsOwned (done : List Mark) (writer : Writer) : Type 0 where
  pub app_is : number_of writer.apid done ≡ Some writer.app
  pub pushes : IfSome writer.to_push (λ (call : Call). call.item.app ≡ writer.app)
  pub counts : IfSome writer.to_count (λ (call : Call). call.item.app ≡ writer.app)

-- the log calls are what these marks came to
pub record IsAfter (done : List Mark) (calls : Calls) : Type 0 where
  pub apps_are : map line_of calls.apps ≡ apps done
  pub writers_are : map (λ (writer : Writer). writer.apid) calls.writers ≡ writers done
  pub contexts_are : (apid : List ℕ) → contexts_in calls.apps apid ≡ map (λ (context : ContextLine). context.ctid) (contexts_of apid done)
  pub owned : All (IsOwned done) calls.writers
  pub each_writer : (number : ℕ) → IsWriterAfter done number (writer_at calls.writers number)
  pub each_claimer : (number : ℕ) → IsClaimerAfter done number (writer_at calls.writers number)
  pub each_app : (number : ℕ) → IsAppAfter done calls.writers number (get_or calls.apps number no_app)
  pub claimed_are : (number : ℕ) → length (claims_on number done) ≡ (get_or calls.apps number no_app).claimed

-- The call is this act: whatever marks came before, it comes to the marks of the act after them.
abbrev pub Does : Act → Calls → Calls → Type 0
Does act old new = (done : List Mark) → IsAfter done old → IsAfter (done ++ act done) new

-- The call of this line is loaded: where its slot holds what was seen, and its writer has no open call, the marks of its load come after those before.
abbrev pub Loads : CallLine → Context → Slot → Calls → Calls → Type 0
Loads line context seen old new =
    (setting : Setting) (done : List Mark) → IsAfter done old → slots_of setting (journal done) (slot_of context.app context.place) ≡ seen
    → to_push line.writer done ≡ None → to_count line.writer done ≡ None → IsAfter (done ++ load setting line done) new

-- a mark that is no declaration, no step of a call, and nothing that the daemon takes of an application
abbrev pub is_no_call : Mark → Bool
is_no_call (Noted (event.Log app writer call moment)) = false
is_no_call (Noted (event.Lost app count moment)) = false
is_no_call (Noted (event.Claim claim moment)) = false
is_no_call (Noted e) = true
is_no_call (Clocked moment) = true
is_no_call (LevelsWait later) = true
is_no_call (Fed client bytes) = true
is_no_call (Heard channel bytes) = true
is_no_call (Answered what) = true
is_no_call (Injected app) = true
is_no_call (Handed app) = true
is_no_call _ = false
