-- The status line, and when it is said.
use Rattle.std.specs.Prelude.{ℕ, ◌+◌, ◌-◌, ◌%◌, ◌^◌, nat_le, Bool, false, List, [], ◌∷◌, ◌++◌, codes, Option, Some, None, if◌then◌else◌}
use Rattle.std.specs.Fmt.{decimal}
use Rattle.dl_events.specs.declared.closes.Closes.{Closes}
use Rattle.dl_daemon.specs.declared.figures.ChannelEnds.{ChannelEnds}
use Rattle.dl_daemon.specs.declared.figures.Figures.{Figures}

-- who came, and who is there
unfoldable pub comers : Figures → List ℕ
comers f =
    codes "clients " ++ decimal f.clients ++ codes " open " ++ decimal f.open_clients ++ codes " channels " ++ decimal f.channels ++ codes " open " ++ decimal f.open_channels

-- what became of frames and links
unfoldable pub traffic : Figures → List ℕ
traffic f =
    codes " frames " ++ decimal f.frames ++ codes " waiting " ++ decimal f.waiting ++ codes " refused " ++ decimal f.refused ++ codes " dropped " ++ decimal f.dropped

-- the faults of both nets, the trace files, how often the trace was begun anew, how often one of its files was taken away, and how many frames it did not store
unfoldable pub outside : Figures → List ℕ
outside f =
    codes " faults " ++ decimal f.client_faults ++ codes " " ++ decimal f.program_faults ++ codes " files " ++ decimal f.files ++ codes " " ++ decimal f.bytes ++ codes " renewed " ++ decimal f.renewed ++ codes " taken " ++ decimal f.taken ++
    codes " unstored " ++ decimal f.unstored

-- how many clients went by themselves, or were closed as too slow
unfoldable pub gone : Closes → List ℕ
gone closes = codes " left " ++ decimal closes.left ++ codes " broken " ++ decimal closes.broken ++ codes " slow " ++ decimal closes.slow

-- how many were closed for what they sent
unfoldable pub expelled : Closes → List ℕ
expelled closes = codes " malformed " ++ decimal closes.malformed ++ codes " requests " ++ decimal closes.too_many ++ codes " memory " ++ decimal closes.no_memory

-- how many programs went by themselves
unfoldable pub ended : ChannelEnds → List ℕ
ended ends = codes " left " ++ decimal ends.left ++ codes " broken " ++ decimal ends.broken

-- how many channels of programs were ended by the daemon
unfoldable pub cut_off : ChannelEnds → List ℕ
cut_off ends = codes " bad " ++ decimal ends.bad ++ codes " slow " ++ decimal ends.slow ++ codes " memory " ++ decimal ends.no_memory

-- how clients and programs went, and how many bytes clients left
unfoldable pub went : Figures → List ℕ
went f =
    codes " closed" ++ gone f.closes ++ expelled f.closes ++ codes " untaken " ++ decimal f.untaken ++ codes " programs" ++ ended f.ends ++ cut_off f.ends

-- whether the trace goes on
abbrev pub trace_word : Bool → List ℕ
trace_word ended = if ended then codes " ended" else []

-- the line of these figures
abbrev pub status_line : Figures → List ℕ
status_line f = comers f ++ traffic f ++ outside f ++ went f ++ trace_word f.ended ++ 10 ∷ []

-- A line is due where lines are asked for, and so many seconds have passed since the last one, as a clock of 32 bits has them: where it was set back,
-- one is due at once.
abbrev pub is_due : Option ℕ → ℕ → ℕ → Bool
is_due None last now = false
is_due (Some every) last now = nat_le every ((now + 2 ^ 32 - last) % 2 ^ 32)
