-- The account of a whole run: of all writers, and of all applications; and the frames that its records make.
use Rattle.std.specs.Prelude.{◌≡◌, ℕ, ◌-◌, ◌==◌, ◌≤◌, nat_eq, List, [], ◌++◌, length, map, slice_get, Option, unwrap_or, if◌then◌else◌}
use Rattle.std.specs.List.{filter, find, AllByRecursion, IsDistinct}
use Rattle.std.specs.Option.{option_map_or}
use Rattle.dl_bytes.specs.Claim.{Claimed}
use Rattle.dl_bytes.specs.declared.conf.AppSpec.{AppSpec}
use Rattle.dl_message.specs.Frames.{log_message}
use Rattle.dl_events.specs.declared.event.Event.{Event}
use Rattle.dl_events.specs.declared.record.Record.{Record}
use Rattle.dl_events.specs.declared.record.Answer.TheVariants as answer
use Rattle.dl_model.specs.Setting.{Setting}
use Rattle.dl_model.specs.Frames.{FrameSource}
use Rattle.dl_model.specs.Journal.{source_by}
use Rattle.dl_model.specs.Accounts.{order, of_writer, claims, claimed_by, name_of, with_answer, AreNumbered, AreCounted, IsExact, NeverFall, WriterAccount, AreTold}
use Rattle.dl_model.specs.Report.{records_of_app}

-- the records of a writer, by its number, from 1 on
abbrev pub records_by : ℕ → List (List Record) → List Record
records_by writer records = if writer == 0 then [] else unwrap_or (slice_get records (writer - 1)) []

-- the claims of a writer that its ring took, likewise
abbrev pub claims_by : ℕ → List (List Claimed) → List Claimed
claims_by writer pushed = if writer == 0 then [] else unwrap_or (slice_get pushed (writer - 1)) []

-- A writer belongs to one application: all its records are of that, and of no other one a call or a claim of it was taken.
pub record BelongsTo (app writer : ℕ) (events : List Event) (records : List Record) : Type 0 where
  pub own : AllByRecursion (λ r. r.item.app ≡ app) records
  pub by_writer : AllByRecursion (λ r. r.item.writer ≡ writer) records
  pub alone : (other : ℕ) → (other ≡ app → ⊥) → filter (of_writer writer) (order other events) ≡ []
  pub claims_alone : (other : ℕ) → (other ≡ app → ⊥) → filter (claimed_by writer) (claims other events) ≡ []

-- The account of a writer at the end of a run.
pub record IsOwned (first : ℕ) (events : List Event) (writer refusals : ℕ) (pushed : List Claimed) (records : List Record) : Type 0 where
  pub app : ℕ
  pub belongs : BelongsTo app writer events records
  pub account : WriterAccount first events app writer refusals pushed records

-- no two claims of an application are on the same place
abbrev pub ArePlacesApart : List Event → Type 0
ArePlacesApart events = (app : ℕ) → IsDistinct nat_eq (map (λ claim. claim.place) (claims app events))

-- A journal with the records of all writers, and with the claims that rings took of them, is accounted: each writer has its
-- account, the places that were claimed of an application differ, and what is told of the losses of each application, with
-- those that are pending, are its lost calls.
pub record IsAccounted (first : ℕ) (events : List Event) (pending refusals : ℕ → ℕ) (pushed : List (List Claimed)) (records : List (List Record)) : Type 0 where
  pub writers : (writer : ℕ) → IsOwned first events writer (refusals writer) (claims_by writer pushed) (records_by writer records)
  pub places : ArePlacesApart events
  pub told : (app : ℕ) → AreTold app events (pending app) (records_of_app app records)

-- ---- in the middle of a run

-- The account of a writer in the middle of a run. The last of the calls and claims that its ring took may still wait in the ring.
pub record AccountSoFar (first : ℕ) (events : List Event) (app writer refusals : ℕ) (pushed : List Claimed) (records : List Record) : Type 0 where
  pub numbered : AreNumbered records
  pub counted : AreCounted 0 records
  pub exact : AllByRecursion (IsExact first events) records
  pub never_fall : NeverFall records
  pub waiting : List (ℕ × ℕ)
  pub in_order : filter (of_writer writer) (order app events) ++ waiting ≡ map (λ r. name_of r.item) (with_answer answer.Queued records)
  pub waiting_claims : List Claimed
  pub claimed : filter (claimed_by writer) (claims app events) ++ waiting_claims ≡ pushed
  pub refused : length (with_answer answer.Lost records) ≤ refusals

-- the same of a writer with its application
pub record IsOwnedSoFar (first : ℕ) (events : List Event) (writer refusals : ℕ) (pushed : List Claimed) (records : List Record) : Type 0 where
  pub app : ℕ
  pub belongs : BelongsTo app writer events records
  pub account : AccountSoFar first events app writer refusals pushed records

-- a journal with the records of all writers, and with the claims that rings took of them, is accounted so far
pub record IsAccountedSoFar (first : ℕ) (events : List Event) (pending refusals : ℕ → ℕ) (pushed : List (List Claimed)) (records : List (List Record)) : Type 0 where
  pub writers : (writer : ℕ) → IsOwnedSoFar first events writer (refusals writer) (claims_by writer pushed) (records_by writer records)
  pub places : ArePlacesApart events
  pub told : (app : ℕ) → AreTold app events (pending app) (records_of_app app records)

-- ---- the frames of records

-- the record of a writer's call, by its number
abbrev pub record_named : List (List Record) → ℕ → ℕ → Option Record
record_named records writer call = find (λ r. r.item.call == call) (records_by writer records)

-- its frame
abbrev pub frame_of_record : List ℕ → List (List Record) → ℕ → ℕ → List ℕ
frame_of_record ecu records writer call = option_map_or (λ r. log_message ecu r.item) (record_named records writer call) []

-- the APID of an application, by its number
abbrev pub apid_in : List AppSpec → ℕ → List ℕ
apid_in specs app = option_map_or (λ spec. spec.apid) (slice_get specs app) []

-- where the frames of a run come from whose records are gathered: a log call's is that of its record
abbrev pub source_of_records : Setting → List (List Record) → List AppSpec → FrameSource
source_of_records setting records specs = source_by setting (frame_of_record setting.ecu records) (apid_in specs)
