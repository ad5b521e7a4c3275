-- Parts of lines.
use Rattle.std.specs.Prelude.{ℕ, ◌+◌, List, [], ◌∷◌, ◌++◌, codes, if◌then◌else◌}
use Rattle.std.specs.Fmt.{decimal}
use Rattle.dl_bytes.specs.declared.outcome.LinkEnd.{LinkEnd}
use Rattle.dl_text.specs.IdText.{id_text}
use Rattle.dl_model.specs.Report.{text_line, hex_byte}
use Rattle.dl_report.specs.declared.count.AppCounts.{AppCounts}

-- the same line as `app_line`, where these are the counts
abbrev pub counted_line : List ℕ → AppCounts → List ℕ
counted_line apid counts = text_line (
    codes "app" ∷ id_text apid ∷ codes "calls" ∷ decimal (counts.queued + counts.filtered + counts.lost) ∷ codes "queued" ∷ decimal counts.queued
    ∷ codes "filtered" ∷ decimal counts.filtered ∷ codes "lost" ∷ decimal counts.lost ∷ codes "reported" ∷ decimal counts.reported ∷ [])

-- the end of a client's line: what was put into its stream, and whether its link took all of that
abbrev pub stream_end : LinkEnd → List ℕ
stream_end link =
    codes " " ++ decimal link.frames ++ codes " " ++ decimal link.bytes ++ codes " " ++ (if link.complete then codes "complete" else codes "cut") ++ 10 ∷ []

-- a byte, and a blank behind it
abbrev pub spelled : ℕ → List ℕ
spelled b = hex_byte b ++ 32 ∷ []
