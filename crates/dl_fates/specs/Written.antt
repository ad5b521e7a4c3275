-- What the code writes of what it found. (Of the code alone: no promise rests on these words.)
use Rattle.std.specs.Prelude.{◌≡◌, ℕ, ◌==◌, Bool, List, [], ◌++◌, ◌<◌, codes, count_by, length, Option, Some, None, unwrap_or}
use Rattle.std.specs.HashMap as hash
use Rattle.std.specs.List.{flat_map}
use Rattle.std.specs.Option.{option_map_or}
use Rattle.dl_bytes.specs.declared.conf.AppSpec.{AppSpec}
use Rattle.dl_events.specs.declared.record.Record.{Record}
use Rattle.dl_model.specs.Along.{along}
use Rattle.dl_laws.specs.Fates.{Fate, InRing, by_answer}
use Rattle.dl_events.specs.declared.event.Event.{Event}
use Rattle.dl_model.specs.Frames.{FrameSource}
use Rattle.dl_model.specs.Setting.{Setting}
use Rattle.dl_model.specs.TraceFiles.{StoredFile}
use Rattle.dl_fates.specs.Claims.{claim_words}
use Rattle.dl_fates.specs.Found.{TellsWhole, name_of, or_later, same_call}
use Rattle.dl_fates.specs.Rows.{fate_words, heard_words, is_by, name_words, place_words, record_at, stored_words}
use Rattle.dl_fates.specs.declared.call.CallAt.{CallAt}
use Rattle.dl_fates.specs.declared.claim_lines.ClaimAt.{ClaimAt}
use Rattle.dl_fates.specs.StoredFound.{IsOf, stored_by}
use Rattle.dl_fates.specs.declared.stored_calls.Rotation.{Rotation}
use Rattle.dl_fates.specs.declared.stored_calls.StoredCalls.{StoredCalls}
use Rattle.dl_fates.specs.declared.fates.Fates.{Fates}
use Rattle.dl_fates.specs.declared.rows.Findings.{Findings}
use Rattle.dl_fates.specs.declared.rows.WriterName.{WriterName}

-- what was found of a call, for a client
abbrev pub fate_in : Fates → Record → Fate
fate_in fates r = by_answer r.answer (or_later (hash.get same_call fates.calls (name_of r)) InRing)

-- where clients have it
abbrev pub heard_by : List Fates → Record → List ℕ
heard_by clients r = flat_map (λ (fates : Fates). heard_words fates.client (fate_in fates r)) clients

-- where the frame of a call is stored, by what was found
abbrev pub storage_by : List ℕ → Option StoredCalls → Record → List ℕ
storage_by directory found r = option_map_or (λ calls. option_map_or (stored_words directory) (stored_by calls r) []) found []

-- what is said besides, by what was found
abbrev pub more_by : List ClaimAt → List ℕ → List ℕ → Option StoredCalls → CallAt → Record → List ℕ
more_by claims taken directory found at r = claim_words claims taken at r ++ storage_by directory found r

abbrev pub row_by : List AppSpec → Fates → List Fates → (CallAt → Record → List ℕ) → CallAt → Record → List ℕ
row_by specs nobody clients more at r = place_words at.line r ++ name_words r ++ fate_words specs at.told r (fate_in nobody r) (heard_by clients r) ++ more at r ++ codes "\n"

abbrev pub rows_by : List (List Record) → List AppSpec → Fates → List Fates → (CallAt → Record → List ℕ) → List CallAt → List ℕ
rows_by records specs nobody clients more calls =
    along (λ before at. option_map_or (row_by specs nobody clients more at) (record_at records before at) []) calls

-- the rows of these calls by all that was found
abbrev pub rows_found : List (List Record) → Findings → List CallAt → List ℕ
rows_found records found calls =
    rows_by records found.specs.now found.nobody found.clients.items (more_by found.claims.now found.taken.items found.directory.now found.stored) calls

abbrev pub same_writer : WriterName → WriterName → Bool
same_writer a b = a.number == b.number

-- how many calls each writer has among these
abbrev pub KeepsCounts : {S : Type 0} → hash.HashMap WriterName ℕ S → List CallAt → Type 0
KeepsCounts counts calls = (writer : WriterName) → unwrap_or (hash.get same_writer counts writer) 0 ≡ count_by (is_by writer.number) calls

-- what was found for a client tells what became of every call of a journal
abbrev pub TellWhole : FrameSource → (buffer : ℕ) → List Event → Fates → Type 0
TellWhole source buffer events fates = TellsWhole source buffer fates.client events fates.calls

-- A setting keeps a trace by this rotation in this directory, where these files stood before; or it keeps none.
abbrev pub IsRotating : Setting → List StoredFile → List ℕ → Option Rotation → Type 0
IsRotating setting stood directory None = setting.directory ≡ []
IsRotating setting stood directory (Some rotation) = (0 < length setting.directory) × (setting.directory ≡ directory) × IsOf setting stood rotation

-- so it is said of each setting of this control unit that does, and of the files that stood before
abbrev pub InEach : List ℕ → List ℕ → Option Rotation → (Setting → List StoredFile → Type 0) → Type 0
InEach ecu directory rotation Said = (setting : Setting) (stood : List StoredFile) → setting.ecu ≡ ecu → IsRotating setting stood directory rotation → Said setting stood
