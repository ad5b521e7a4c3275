-- Scripts that come to the same.
use Rattle.std.specs.Prelude.{◌≡◌, ℕ, Bool, List, ◌∷◌, ◌++◌, map}
use Rattle.std.specs.List.{concat}
use Rattle.dl_bytes.specs.Bytes.{IsBytes}
use Rattle.dl_bytes.specs.declared.outcome.Done.{Done}
use Rattle.dl_script_model.specs.declared.step.Step.{Step}
use Rattle.dl_script_model.specs.declared.step.Step.TheVariants.{User}
use Rattle.dl_model.specs.Setting.{Setting}
use Rattle.dl_model.specs.TraceFiles.{StoredFile}
use Rattle.dl_script_model.specs.Marks.{journal, records}
use Rattle.dl_script_model.specs.Steps.{run}
use Rattle.dl_script_model.specs.Replay.{stream_of, printed}

-- Two scripts come to the same where the folder answers alike: the same journal, the same records, the same stream of each
-- client, and the same report, whatever trace files stood before and whether the frames are printed.
pub record ComeToTheSame (setting : Setting) (answers : List Done) (steps others : List Step) : Type 0 where
  pub same_journal : journal (run setting answers steps) ≡ journal (run setting answers others)
  pub same_records : records (run setting answers steps) ≡ records (run setting answers others)
  pub same_streams : (client : ℕ) → stream_of setting (run setting answers steps) client ≡ stream_of setting (run setting answers others) client
  pub same_report : (old : List StoredFile) (with_frames : Bool) → printed setting answers old with_frames steps ≡ printed setting answers old with_frames others

-- the bytes of a line of user messages are bytes
abbrev pub HoldsBytes : Step → Type 0
HoldsBytes (User channel bytes) = IsBytes bytes
HoldsBytes _ = Unit {0}

-- pieces of bytes, of which there is a first one, with the lines of a script before them and those after
pub record Cut : Type 0 where
  pub before : List Step
  pub first : List ℕ
  pub others : List (List ℕ)
  pub after : List Step

abbrev pub pieces_of : Cut → List (List ℕ)
pieces_of cut = cut.first ∷ cut.others

-- the script in which they come in one line of this kind, and the one in which each has a line of its own
abbrev pub in_one_line : (List ℕ → Step) → Cut → List Step
in_one_line line cut = cut.before ++ line (concat (pieces_of cut)) ∷ cut.after

abbrev pub in_lines : (List ℕ → Step) → Cut → List Step
in_lines line cut = cut.before ++ (map line (pieces_of cut) ++ cut.after)
