-- How an account ends.
use Rattle.std.proofs.Common.{◌≡◌, List, Option, Some, None, ℕ, false, refl, ap, subst, ◌∙◌}
use Rattle.std.specs.Prelude.{IfSome, Result, Ok, Err}
use Rattle.std.specs.FinMap as map
use Rattle.dl_outside.specs.Folder.{Files}
use Rattle.dl_outside.specs.Outside.{HasRisen, Stays, one_more}
use Rattle.dl_outside.specs.Told.{FolderTold, SinkTold}
use Rattle.dl_outside.specs.Written.{WroteAll, WroteFront}
use Rattle.dl_outside.proofs.Staying.{stays_same}
use Rattle.dl_picture.specs.Picture.{picture}
use Rattle.dl_sessions.specs.declared.session.Told.{Told}
use Rattle.dl_timeline.specs.Timeline.{timeline}
use Rattle.dl_trace_files.specs.Left.{IsLeft}
use Rattle.dl_trace_files.proofs.Looking.{left_on, left_same, stays_on}
use Rattle.dl_trace_why.specs.Account.{Draws, Ends, Keeps, Spares, sides, text_of}
use Rattle.dl_trace_why.specs.Reads.{Reads, Stops}
use Rattle.dl_trace_why.specs.Says.{Says, SaysLine}
use Rattle.dl_trace_why.specs.Status.{is_ok}
use Rattle.dl_trace_why.specs.Writes.{Prints, PutsPicture, TriesToDraw, Writes}
use Rattle.dl_trace_why.specs.declared.reading.Reading.{Reading}
use Rattle.dl_trace_why.specs.declared.status.Status.{Status}
use Rattle.dl_trace_why.specs.declared.status.Status.TheVariants as end

-- ---- what is said

pub says_line : (status : Status) (old new : SinkTold) → is_ok status ≡ false → SaysLine status old new → Says status old new
says_line end.Ok old new other said = absurd cc
says_line (end.BadMessage file place) old new other said = said
says_line (end.NoFile file) old new other said = said
says_line end.NoTrace old new other said = said
says_line end.WriteFault old new other said = said
says_line end.ReadFault old new other said = said
says_line end.PictureFault old new other said = said
says_line end.OutOfMemory old new other said = said

-- ---- what is drawn

pub keeps_same : (drawn : Option (List ℕ)) (told : FolderTold) → Keeps drawn told told
keeps_same None told = left_same told
keeps_same (Some name) told = stays_same told.files

pub drawn_by : (name text : List ℕ) (stream : List Told) (old new : FolderTold) (result : Result (Unit {0}) Status) → text ≡ picture (timeline stream) → PutsPicture name text old new result
    → TriesToDraw (Some name) stream old new result
drawn_by name text stream old new (Ok done) is puts = subst (λ (t : List ℕ). (new.changes ≡ one_more old.changes) × IfSome old.files (λ files. new.files ≡ Some (map.insert files name t))) is puts
drawn_by name text stream old new (Err end.Ok) is puts = absurd puts
drawn_by name text stream old new (Err (end.BadMessage file place)) is puts = absurd puts
drawn_by name text stream old new (Err (end.NoFile file)) is puts = absurd puts
drawn_by name text stream old new (Err end.NoTrace) is puts = absurd puts
drawn_by name text stream old new (Err end.WriteFault) is puts = absurd puts
drawn_by name text stream old new (Err end.ReadFault) is puts = absurd puts
drawn_by name text stream old new (Err end.PictureFault) is puts = puts
drawn_by name text stream old new (Err end.OutOfMemory) is puts = puts

-- ---- what is written

pub written : (drawn : Option (List ℕ)) (stream : List Told) (ends text : List ℕ) (old new : FolderTold) (out out_now : SinkTold) (status : Status) → text ≡ text_of stream ends
    → Draws drawn stream old new → Prints text out out_now status → Writes drawn stream ends (sides old out) (sides new out_now) status
written drawn stream ends text old new out out_now end.Ok is draws prints = (subst (WroteAll out out_now) is prints, draws)
written drawn stream ends text old new out out_now (end.BadMessage file place) is draws prints = absurd prints
written drawn stream ends text old new out out_now (end.NoFile file) is draws prints = absurd prints
written drawn stream ends text old new out out_now end.NoTrace is draws prints = absurd prints
written drawn stream ends text old new out out_now end.WriteFault is draws prints = (subst (WroteFront out out_now) is prints, draws)
written drawn stream ends text old new out out_now end.ReadFault is draws prints = absurd prints
written drawn stream ends text old new out out_now end.PictureFault is draws prints = absurd prints
written drawn stream ends text old new out out_now end.OutOfMemory is draws prints = absurd prints

pub not_drawn : (drawn : Option (List ℕ)) (stream : List Told) (ends : List ℕ) (old new : FolderTold) (out : SinkTold) (status : Status) → TriesToDraw drawn stream old new (Err status)
    → Writes drawn stream ends (sides old out) (sides new out) status
not_drawn drawn stream ends old new out end.Ok tries = absurd tries
not_drawn drawn stream ends old new out (end.BadMessage file place) tries = absurd tries
not_drawn drawn stream ends old new out (end.NoFile file) tries = absurd tries
not_drawn drawn stream ends old new out end.NoTrace tries = absurd tries
not_drawn drawn stream ends old new out end.WriteFault tries = absurd tries
not_drawn drawn stream ends old new out end.ReadFault tries = absurd tries
not_drawn drawn stream ends old new out end.PictureFault tries = (tries.0, refl, tries.1)
not_drawn drawn stream ends old new out end.OutOfMemory tries = (refl, tries)

-- ---- the whole

later : (old mid : Option Files) (P : Files → Type 0) → Stays old mid → IfSome mid P → IfSome old P
later None mid P stays so = tt
later (Some files) mid P stays so = subst (λ (m : Option Files). IfSome m P) stays so

draws_on : (drawn : Option (List ℕ)) (stream : List Told) (old mid new : FolderTold) → IsLeft old mid → Draws drawn stream mid new → Draws drawn stream old new
draws_on None stream old mid new left draws = left_on old mid new left draws
draws_on (Some name) stream old mid new left draws =
    (draws.0 ∙ ap one_more left.changes, later old.files mid.files (λ files. new.files ≡ Some (map.insert files name (picture (timeline stream)))) left.files draws.1)

spares_on : (drawn : Option (List ℕ)) (old mid new : FolderTold) → IsLeft old mid → Spares drawn mid new → Spares drawn old new
spares_on None old mid new left spares = absurd spares
spares_on (Some name) old mid new left spares = later old.files mid.files (λ files. (now : Files) × (new.files ≡ Some now) × (map.remove now name ≡ map.remove files name)) left.files spares

keeps_on : (drawn : Option (List ℕ)) (old mid new : FolderTold) → IsLeft old mid → Keeps drawn mid new → Keeps drawn old new
keeps_on None old mid new left keeps = left_on old mid new left keeps
keeps_on (Some name) old mid new left keeps = stays_on old.files mid.files new.files left.files keeps

pub ends_written : (names : Files → List (List ℕ)) (drawn : Option (List ℕ)) (reading : Reading) (old mid new : FolderTold) (out out_now : SinkTold) (status : Status) → (reads : Reads names old mid (Ok reading)) → IsLeft old mid
    → Writes drawn reads.1.0 reading.ends.items (sides mid out) (sides new out_now) status → Ends names drawn (sides old out) (sides new out_now) status
ends_written names drawn reading old mid new out out_now end.Ok reads left writes =
    (reads.1.0, reading.ends.items, reads.1.2, (writes.0, draws_on drawn reads.1.0 old mid new left writes.1))
ends_written names drawn reading old mid new out out_now (end.BadMessage file place) reads left writes = absurd writes
ends_written names drawn reading old mid new out out_now (end.NoFile file) reads left writes = absurd writes
ends_written names drawn reading old mid new out out_now end.NoTrace reads left writes = absurd writes
ends_written names drawn reading old mid new out out_now end.WriteFault reads left writes =
    (reads.1.0, reading.ends.items, reads.1.2, (writes.0, draws_on drawn reads.1.0 old mid new left writes.1))
ends_written names drawn reading old mid new out out_now end.ReadFault reads left writes = absurd writes
ends_written names drawn reading old mid new out out_now end.PictureFault reads left writes =
    (subst (λ (n : ℕ). HasRisen n new.faults) reads.0 writes.0, writes.1, spares_on drawn old mid new left writes.2)
ends_written names drawn reading old mid new out out_now end.OutOfMemory reads left writes = (writes.0, keeps_on drawn old mid new left writes.1)

left_kept : (drawn : Option (List ℕ)) (old new : FolderTold) → IsLeft old new → Keeps drawn old new
left_kept None old new left = left
left_kept (Some name) old new left = left.files

pub ends_unread : (names : Files → List (List ℕ)) (drawn : Option (List ℕ)) (old new : FolderTold) (out : SinkTold) (status : Status) → Stops names old new status → IsLeft old new → Ends names drawn (sides old out) (sides new out) status
ends_unread names drawn old new out end.Ok stops left = absurd stops
ends_unread names drawn old new out (end.BadMessage file place) stops left = (stops, (refl, left))
ends_unread names drawn old new out (end.NoFile file) stops left = (stops, (refl, left))
ends_unread names drawn old new out end.NoTrace stops left = (stops, (refl, left))
ends_unread names drawn old new out end.WriteFault stops left = absurd stops
ends_unread names drawn old new out end.ReadFault stops left = (stops, (refl, left))
ends_unread names drawn old new out end.PictureFault stops left = absurd stops
ends_unread names drawn old new out end.OutOfMemory stops left = (refl, left_kept drawn old new left)
