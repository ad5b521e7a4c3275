-- The step list that a number makes: four applications with two contexts and two writers each, a client, and log calls.
use Rattle.std.specs.Prelude.{ℕ, zero, suc, ◌+◌, ◌*◌, ◌/◌, ◌%◌, ◌^◌, ◌==◌, List, [], ◌∷◌, ◌++◌, codes, Some, None, if◌then◌else◌}
use Rattle.dl_bytes.specs.declared.level.Severity.{Severity}
use Rattle.dl_bytes.specs.declared.level.Severity.TheVariants.{Fatal, Error, Warn, Info, Debug, Verbose}
use Rattle.dl_args.specs.Argument.{written}
use Rattle.dl_args.specs.declared.arg.Arg.TheVariants.{Uint}
use Rattle.dl_args.specs.declared.width.Width.TheVariants.{W32}
use Rattle.dl_script_model.specs.declared.step.Step.{Step}
use Rattle.dl_script_model.specs.declared.step.Step.TheVariants as step

-- ---- draws

-- the next word of 64 bits (Knuth's linear congruential generator)
abbrev pub next : ℕ → ℕ
next x = (6364136223846793005 * x + 1442695040888963407) % 2 ^ 64

-- a draw below n, from the upper bits of the next word, and that word
unfoldable pub draw : ℕ → ℕ → ℕ × ℕ
draw n x = (next x / 2 ^ 33 % n, next x)

-- ---- names and numbers

-- `GEN1` to `GEN4`
abbrev pub app_id : ℕ → List ℕ
app_id k = 71 ∷ 69 ∷ 78 ∷ (48 + k) ∷ []

-- `CTXA` and `CTXB`
abbrev pub context_id : ℕ → List ℕ
context_id c = if c == 0 then codes "CTXA" else codes "CTXB"

-- the severity with this number, 1 to 6
abbrev pub severity_at : ℕ → Severity
severity_at s =
    if s == 1 then Fatal
    else if s == 2 then Error
    else if s == 3 then Warn
    else if s == 4 then Info
    else if s == 5 then Debug
    else Verbose

-- a request to set all contexts to a level: a whole message of 31 bytes, of the application `APP` and the context `CON`
abbrev pub level_request : ℕ → List ℕ
level_request level =
    0x21 ∷ 0x00 ∷ 0x00 ∷ 0x1f ∷ 0x16 ∷ 0x01 ∷ 0x41 ∷ 0x50 ∷ 0x50 ∷ 0x00 ∷ 0x43 ∷ 0x4f ∷ 0x4e ∷ 0x00
    ∷ 0x01 ∷ 0x00 ∷ 0x00 ∷ 0x00 ∷ 0x00 ∷ 0x00 ∷ 0x00 ∷ 0x00 ∷ 0x00 ∷ 0x00 ∷ 0x00 ∷ 0x00 ∷ level ∷ 0x00 ∷ 0x00 ∷ 0x00 ∷ 0x00 ∷ []

-- ---- the lines

-- the lines that declare an application
abbrev pub declares : ℕ → List Step
declares k =
    step.App (record { apid = app_id k; capacity = 8; text = [] })
    ∷ step.Context (record { apid = app_id k; ctid = context_id 0; level = None; text = [] })
    ∷ step.Context (record { apid = app_id k; ctid = context_id 1; level = Some 4; text = [] })
    ∷ step.Writer (app_id k)
    ∷ step.Writer (app_id k)
    ∷ []

-- a call of writer w under a context, with the call's number as timestamp and as its one argument
abbrev pub call : ℕ → ℕ → ℕ → ℕ → Step
call w c s i = step.Call (record {
  writer = w;
  ctid = context_id c;
  severity = severity_at s;
  at = i;
  payload = record { bytes = written (Uint None None W32 i); args = 1 };
})

-- steps, and the word after them
abbrev pub Drawn : Type 0
Drawn = List Step × ℕ

-- the call with number i
unfoldable pub call_at : ℕ → ℕ → Drawn
call_at i x =
    let w = draw 8 x in
    let c = draw 2 w.1 in
    let s = draw 6 c.1 in
    (call (1 + w.0) c.0 (1 + s.0) i ∷ [], s.1)

-- in one of two cases a take of an application
unfoldable pub take_at : ℕ → Drawn
take_at x =
    let t = draw 2 x in
    let g = draw 4 t.1 in
    if t.0 == 0 then (step.Take (app_id (1 + g.0)) ∷ [], g.1) else ([], t.1)

-- the losses of each application, at each thousandth call
unfoldable pub losses_at : ℕ → List Step
losses_at i =
    if i % 1000 == 0
    then step.Losses (app_id 1) ∷ step.Losses (app_id 2) ∷ step.Losses (app_id 3) ∷ step.Losses (app_id 4) ∷ []
    else []

-- a request for another level, at each second of these
unfoldable pub request_at : ℕ → ℕ → Drawn
request_at i x =
    let v = draw 6 x in
    if i % 2000 == 0 then (step.Bytes 1 (level_request (1 + v.0)) ∷ [], v.1) else ([], x)

-- the steps of the call with number i
unfoldable pub turn : ℕ → ℕ → Drawn
turn i x =
    let called = call_at i x in
    let taken = take_at called.1 in
    let asked = request_at i taken.1 in
    (called.0 ++ taken.0 ++ losses_at i ++ asked.0, asked.1)

-- so many calls, the first with number i
unfoldable pub turns : ℕ → ℕ → ℕ → List Step
turns zero i x = []
turns (suc n) i x = let first = turn i x in first.0 ++ turns n (i + 1) first.1

-- four applications, and a client
unfoldable pub started : List Step
started = declares 1 ++ declares 2 ++ declares 3 ++ declares 4 ++ (step.Connect ∷ [])

-- the step list of a number, with so many calls
abbrev pub generated : ℕ → ℕ → List Step
generated number calls = started ++ turns calls 1 number
