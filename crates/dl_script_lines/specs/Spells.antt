-- Which lists of fields spell what a line says.
use Rattle.std.specs.Prelude.{◌≡◌, ℕ, ◌≤◌, List, [], ◌∷◌, length, map, codes, Some}
use Rattle.std.specs.List.{AllByRecursion}
use Rattle.dl_bytes.specs.Payload.{Arguments}
use Rattle.dl_bytes.specs.declared.level.Severity.{Severity}
use Rattle.dl_args.specs.declared.arg.Arg.{Arg}
use Rattle.dl_script_model.specs.declared.line.AppLine.{AppLine}
use Rattle.dl_script_model.specs.declared.line.ClaimLine.{ClaimLine}
use Rattle.dl_script_model.specs.declared.line.ContextLine.{ContextLine}
use Rattle.dl_script_model.specs.declared.step.LevelEvents.{LevelEvents}
use Rattle.dl_script_model.specs.declared.step.LevelEvents.TheVariants.{Later, Now}
use Rattle.dl_script_fields.specs.Argument.{payload_of}
use Rattle.dl_script_fields.specs.Spelling.{spelling}
use Rattle.dl_script_fields.specs.Spells.{IsSaid, IsShortText, SpellsBytes, SpellsId, SpellsLevel, SpellsNumber, quoted, severity_word}

-- when levels are handed out: `later` or `now`
abbrev pub levels_word : LevelEvents → List ℕ
levels_word Later = codes "later"
levels_word Now = codes "now"

-- ---- the fields of a line

-- a text in quotes, of at most 255 bytes; an empty one may be left out
abbrev pub SpellsTexts : List (List ℕ) → List ℕ → Type 0
SpellsTexts [] text = text ≡ []
SpellsTexts (field ∷ []) text = IsShortText text × (field ≡ quoted text)
SpellsTexts _ text = ⊥

-- arguments that fit a payload
abbrev pub SpellsArguments : List (List ℕ) → Arguments → Type 0
SpellsArguments fields payload = (args : List Arg) × AllByRecursion IsSaid args × (payload_of args ≡ Some payload) × (fields ≡ map spelling args)

-- no field
abbrev pub SpellsNothing : List (List ℕ) → Type 0
SpellsNothing [] = Unit {0}
SpellsNothing _ = ⊥

-- `ID CAPACITY [TEXT]`
abbrev pub SpellsApp : List (List ℕ) → AppLine → Type 0
SpellsApp (apid ∷ capacity ∷ texts) app = SpellsId apid app.apid × SpellsNumber 1 4096 capacity app.capacity × SpellsTexts texts app.text
SpellsApp _ app = ⊥

-- `APID CTID LEVEL [TEXT]`
abbrev pub SpellsContext : List (List ℕ) → ContextLine → Type 0
SpellsContext (apid ∷ ctid ∷ level ∷ texts) context =
    SpellsId apid context.apid × SpellsId ctid context.ctid × SpellsLevel level context.level × SpellsTexts texts context.text
SpellsContext _ context = ⊥

-- `W CTID LEVEL [TEXT]`, with a text of at most 48 bytes
abbrev pub SpellsClaim : List (List ℕ) → ClaimLine → Type 0
SpellsClaim (w ∷ ctid ∷ level ∷ texts) claim =
    SpellsNumber 0 255 w claim.writer × SpellsId ctid claim.ctid × SpellsLevel level claim.level × SpellsTexts texts claim.text × (length claim.text ≤ 48)
SpellsClaim _ claim = ⊥

-- `APID`
abbrev pub SpellsApid : List (List ℕ) → List ℕ → Type 0
SpellsApid (field ∷ []) apid = SpellsId field apid
SpellsApid _ apid = ⊥

-- `W CTID SEV NUMBER ARG..`, with a number in this range
abbrev pub SpellsCall : (low high : ℕ) → List (List ℕ) → (writer : ℕ) → (ctid : List ℕ) → Severity → (number : ℕ) → Arguments → Type 0
SpellsCall low high (w ∷ c ∷ s ∷ n ∷ arguments) writer ctid severity number payload =
    SpellsNumber 0 255 w writer × SpellsId c ctid × (s ≡ severity_word severity) × SpellsNumber low high n number × SpellsArguments arguments payload
SpellsCall low high _ writer ctid severity number payload = ⊥

-- `SECS MICROS`
abbrev pub SpellsClock : List (List ℕ) → (secs micros : ℕ) → Type 0
SpellsClock (s ∷ m ∷ []) secs micros = SpellsNumber 0 4294967295 s secs × SpellsNumber 0 999999 m micros
SpellsClock _ secs micros = ⊥

-- `W`
abbrev pub SpellsWriter : List (List ℕ) → (writer : ℕ) → Type 0
SpellsWriter (field ∷ []) writer = SpellsNumber 0 255 field writer
SpellsWriter _ writer = ⊥

-- `later` or `now`
abbrev pub SpellsLevels : List (List ℕ) → LevelEvents → Type 0
SpellsLevels (field ∷ []) levels = field ≡ levels_word levels
SpellsLevels _ levels = ⊥

-- `C`
abbrev pub SpellsClient : List (List ℕ) → (client : ℕ) → Type 0
SpellsClient (field ∷ []) client = SpellsNumber 0 4294967295 field client
SpellsClient _ client = ⊥

-- `C HEX`
abbrev pub SpellsSent : List (List ℕ) → (client : ℕ) → (bytes : List ℕ) → Type 0
SpellsSent (field ∷ hex ∷ []) client bytes = SpellsNumber 0 4294967295 field client × SpellsBytes hex bytes
SpellsSent _ client bytes = ⊥

-- `CH HEX`
abbrev pub SpellsUser : List (List ℕ) → (channel : ℕ) → (bytes : List ℕ) → Type 0
SpellsUser (field ∷ hex ∷ []) channel bytes = SpellsNumber 1 16 field channel × SpellsBytes hex bytes
SpellsUser _ channel bytes = ⊥

-- `C BYTES`
abbrev pub SpellsLeave : List (List ℕ) → (client count : ℕ) → Type 0
SpellsLeave (field ∷ n ∷ []) client count = SpellsNumber 0 4294967295 field client × SpellsNumber 0 9223372036854775807 n count
SpellsLeave _ client count = ⊥
