-- The log calls of a step script as their picture shows them.
use Rattle.std.specs.Prelude.{ℕ, List, [], ◌∷◌, Option, Some, None, unwrap_or}
use Rattle.std.specs.Option.{option_map_or}
use Rattle.dl_call_timeline.specs.declared.call.Call.{Call}
use Rattle.dl_call_timeline.specs.declared.call.Outcome.{Outcome}
use Rattle.dl_call_timeline.specs.declared.call.Outcome.TheVariants as drawn
use Rattle.dl_call_timeline.specs.declared.call.RecordName.{RecordName}
use Rattle.dl_bytes.specs.declared.conf.AppSpec.{AppSpec}
use Rattle.dl_fates.specs.declared.call.CallAt.{CallAt}
use Rattle.dl_events.specs.declared.event.Event.{Event}
use Rattle.dl_events.specs.declared.record.Record.{Record}
use Rattle.dl_model.specs.Along.{along}
use Rattle.dl_model.specs.Frames.{FrameSource}
use Rattle.dl_model.specs.Setting.{Setting}
use Rattle.dl_model.specs.WholeAccounts.{source_of_records}
use Rattle.dl_laws.specs.Fates.{Fate, Filtered, RingFull, InRing, InStream, InBacklog, BufferFull, ForOthers, what_became_of}
use Rattle.dl_fates.specs.Rows.{nobody, record_at}
use Rattle.dl_fates.specs.Written.{fate_in}
use Rattle.dl_fates.specs.declared.fates.Fates.{Fates}

-- the record that is told in a line, or behind the last one
abbrev pub in_line : Option ℕ → RecordName
in_line told = record { line = unwrap_or told 0; client = 0 }

-- the record that a client is handed
abbrev pub for_client : ℕ → RecordName
for_client client = record { line = 0; client = client }

-- What a call counts as, by its fate for a client that never comes; the line that tells of a lost one is the call's own. A refused one is told to the
-- client that came next.
abbrev pub outcome_of : Option ℕ → Fate → Outcome
outcome_of told Filtered = drawn.Filtered
outcome_of told RingFull = drawn.Missing (Some (in_line told))
outcome_of told InRing = drawn.InRing
outcome_of told (InStream place) = drawn.Admitted
outcome_of told (InBacklog place) = drawn.Admitted
outcome_of told (BufferFull None) = drawn.Missing None
outcome_of told (BufferFull (Some client)) = drawn.Missing (Some (for_client client))
outcome_of told ForOthers = drawn.Admitted

-- a call in its line, with what became of it
abbrev pub drawn_as : CallAt → Record → Fate → Call
drawn_as at r fate = record { writer = at.writer; line = at.line; ticks = r.item.at; outcome = outcome_of at.told fate }

-- The calls of a script, in the order of its lines, each with what became of it by the law of causes.
abbrev pub cases_of : FrameSource → (buffer : ℕ) → List (List Record) → List Event → List CallAt → List Call
cases_of source buffer records events calls =
    along (λ before at. option_map_or (λ r. drawn_as at r (what_became_of source buffer nobody events r) ∷ []) (record_at records before at) []) calls

-- the same of a run, by what it left: its records, its journal and its applications
abbrev pub cases_of_run : Setting → (buffer : ℕ) → List (List Record) → List Event → List AppSpec → List CallAt → List Call
cases_of_run setting buffer records events specs calls = cases_of (source_of_records setting records specs) buffer records events calls

-- the same by what the code found (of the code alone)
abbrev pub cases_by : List (List Record) → Fates → List CallAt → List Call
cases_by records found calls = along (λ before at. option_map_or (λ r. drawn_as at r (fate_in found r) ∷ []) (record_at records before at) []) calls
