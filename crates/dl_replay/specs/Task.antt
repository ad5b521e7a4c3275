-- The words of the command line, and the task that they name.
use Rattle.std.specs.Prelude.{ℕ, ◌≤◌, ◌==◌, ◌&&◌, nat_le, nat_lt, Bool, true, false, List, [], ◌∷◌, length, slice_index, codes, Option, Some, None, if◌then◌else◌}
use Rattle.std.specs.Str.{bytes_eq}
use Rattle.dl_bytes.specs.Number.{◌>>=◌}
use Rattle.dl_text.specs.Decimal.{number_of}
use Rattle.dl_replay.specs.declared.task.Task.{Task}
use Rattle.dl_replay.specs.declared.task.Task.TheVariants.{Steps, Generate}

-- a number of a command line: decimal digits, with no zero before others, below 2^64
abbrev pub plain_number : List ℕ → Option ℕ
plain_number word = if nat_lt 1 (length word) && (slice_index word 0 == 48) then None else number_of word

-- a script is made by a number, and has 1,000,000 calls at most
abbrev pub generate_of : List ℕ → List ℕ → Option Task
generate_of number_word calls_word = do
  number ← plain_number number_word
  calls ← plain_number calls_word
  if nat_le calls 1000000 then Some (Generate number calls) else None

-- the task of one word, and of three
abbrev pub steps_by : List ℕ → Option Task
steps_by word = if bytes_eq word (codes "steps") then Some Steps else None

abbrev pub generate_by : List ℕ → List ℕ → List ℕ → Option Task
generate_by word number_word calls_word = if bytes_eq word (codes "generate") then generate_of number_word calls_word else None

-- The task: `steps`, or `generate NUMBER CALLS`, after the program's name.
abbrev pub task_of : List (List ℕ) → Option Task
task_of (name ∷ word ∷ []) = steps_by word
task_of (name ∷ word ∷ number_word ∷ calls_word ∷ []) = generate_by word number_word calls_word
task_of _ = None

-- the report shows the frames of the clients where a script was read
abbrev pub shows_frames : Task → Bool
shows_frames Steps = true
shows_frames (Generate number calls) = false

-- it has no more calls than a script may have
abbrev pub IsWithin : Task → Type 0
IsWithin Steps = Unit {0}
IsWithin (Generate number calls) = calls ≤ 1000000
