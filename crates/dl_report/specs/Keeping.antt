-- What a buffer keeps of frames, as a backlog of numbers. (Of the code alone: no promise rests on these words.)
use Rattle.std.specs.Prelude.{ℕ, ◌+◌, List, length}
use Rattle.dl_bytes.specs.declared.outcome.Backlog.{Backlog}
use Rattle.dl_model.specs.Backlog.{fitting, refused, size_of}

-- so many of the frames are kept, with these bytes, and so many are refused
abbrev pub kept : ℕ → List (List ℕ) → Backlog
kept limit frames = record {
  frames = length (fitting limit frames);
  bytes = size_of (fitting limit frames);
  refused = refused limit frames;
}

-- how many frames it speaks of
abbrev pub counted : Backlog → ℕ
counted backlog = backlog.frames + backlog.refused
