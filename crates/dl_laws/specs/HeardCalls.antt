-- What a client hears that was there throughout.
use Rattle.std.specs.Prelude.{◌≡◌, ℕ, ◌==◌, Bool, false, List, [], length, map, sum}
use Rattle.std.specs.List.{filter}
use Rattle.dl_bytes.specs.Claim.{Claimed}
use Rattle.dl_bytes.specs.Id.{zero_id}
use Rattle.dl_bytes.specs.declared.conf.AppSpec.{AppSpec}
use Rattle.dl_message.specs.Frames.{log_message, overflow_record}
use Rattle.dl_events.specs.declared.event.Event.{Event}
use Rattle.dl_events.specs.declared.event.Event.TheVariants.{Log, Lost}
use Rattle.dl_events.specs.declared.record.Record.{Record}
use Rattle.dl_events.specs.declared.record.Answer.TheVariants as answer
use Rattle.dl_model.specs.Accounts.{with_answer}
use Rattle.dl_model.specs.ClientStream.{stream}
use Rattle.dl_model.specs.Frames.{admitted}
use Rattle.dl_model.specs.Journal.{IsWellFormed}
use Rattle.dl_model.specs.Report.{records_of_app}
use Rattle.dl_model.specs.Setting.{Setting}
use Rattle.dl_model.specs.WholeAccounts.{IsAccounted, apid_in, records_by, source_of_records}
use Rattle.dl_laws.specs.ClientParts.{IsMerged, Stay, events_of}

-- a Log event of this writer
abbrev pub logs_by : ℕ → Event → Bool
logs_by writer (Log app other call moment) = other == writer
logs_by writer _ = false

-- a Lost event of this application
abbrev pub tells_losses_of : ℕ → Event → Bool
tells_losses_of app (Lost other count moment) = other == app
tells_losses_of app _ = false

-- the frames of these log calls of a writer, and of these losses of an application
abbrev pub calls_heard : Setting → List (List Record) → List AppSpec → ℕ → List Event → List (List ℕ)
calls_heard setting records specs writer events = admitted (source_of_records setting records specs) (filter (logs_by writer) events)

abbrev pub losses_heard : Setting → List (List Record) → List AppSpec → ℕ → List Event → List (List ℕ)
losses_heard setting records specs app events = admitted (source_of_records setting records specs) (filter (tells_losses_of app) events)

-- A client was sent all that these events admit, with its replies among it. The calls of each writer that its ring took are there, each
-- once, in their order; and the overflow records of an application count its lost calls.
pub record HearsAll (setting : Setting) (records : List (List Record)) (specs : List AppSpec) (events : List Event) (sent : List (List ℕ)) : Type 0 where
  pub replies : List (List ℕ)
  pub all : IsMerged (admitted (source_of_records setting records specs) events) replies sent
  pub calls : (writer : ℕ) → calls_heard setting records specs writer events ≡ map (λ r. log_message setting.ecu r.item) (with_answer answer.Queued (records_by writer records))
  pub losses : (app : ℕ) → (counts : List ℕ) × (losses_heard setting records specs app events ≡ map (overflow_record setting.ecu (apid_in specs app) zero_id) counts)
      × (sum counts ≡ length (with_answer answer.Lost (records_of_app app records)))

-- what the client of a stay is sent, where the frames of calls are those of these records
abbrev pub sent_in : Setting → List (List Record) → List AppSpec → Stay → List (List ℕ)
sent_in setting records specs stay = stream (source_of_records setting records specs) setting.buffer stay.client (events_of stay)

-- A client was there throughout: in a well-formed journal with a whole account nothing was admitted before it came or after it went, and
-- no loss is pending.
pub record WasThereThroughout (setting : Setting) (records : List (List Record)) (specs : List AppSpec) (stay : Stay) : Type 0 where
  pub refusals : ℕ → ℕ
  pub pushed : List (List Claimed)
  pub formed : IsWellFormed setting (source_of_records setting records specs) (events_of stay)
  pub accounted : IsAccounted setting.first (events_of stay) (λ app. 0) refusals pushed records
  pub none_before : admitted (source_of_records setting records specs) stay.before ≡ []
  pub none_after : admitted (source_of_records setting records specs) stay.after ≡ []
