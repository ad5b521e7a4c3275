use Rattle.std.proofs.Common.{◌≡◌, ℕ, ◌+◌, ◌-◌, length, sym, ap, ◌∙◌, subst, arith, Err}
use Rattle.std.specs.Prelude.{slice_set, get_or}
use Rattle.dl_bytes.specs.declared.outcome.TraceEnd.{TraceEnd}
use Rattle.dl_trace.specs.Steps.{Extends, last_name}
use Rattle.dl_trace.proofs.Removing.{last_grown, last_named, extends_by, extends_not}
use Rattle.dl_trace.proofs.files.extend_file.Goals as goal

pub returns-in-Ok-clause-files : goal.returns-in-Ok-clause-files
returns-in-Ok-clause-files g c =
    let files = c.args.files.now.items in
    let newest = c.index_mut.result.now in
    let at : c.len-newest.result - 1 ≡ length files - 1 = omega (arith, c.len-newest.ensures, c.args.files.now.ok.0) in
    ap (λ (k : ℕ). slice_set files k (record { name = newest.name; bytes = newest.bytes + length c.args.piece.now })) at
    ∙ last_grown files newest (length c.args.piece.now) c.requires.some (c.index_mut.ensures.value ∙ ap (λ (k : ℕ). get_or files k newest) at)

pub returns-in-Ok-clause-folder : goal.returns-in-Ok-clause-folder
returns-in-Ok-clause-folder g c =
    let files = c.args.files.now.items in
    let at : c.len-newest.result - 1 ≡ length files - 1 = omega (arith, c.len-newest.ensures, c.args.files.now.ok.0) in
    extends_by (g.F.Folder.told c.args.folder.now).files (g.F.Folder.told c.append.new.self).files c.as_text.result.now (last_name files) c.args.piece.now
    (c.as_text.ensures ∙ c.all.ensures ∙ last_named files c.index.result.now c.requires.some (c.index.ensures ∙ ap (λ (k : ℕ). get_or files k c.index.result.now) at)) c.in-Ok.ensures.files

pub returns-in-Err-clause-folder : goal.returns-in-Err-clause-folder
returns-in-Err-clause-folder g c =
    let files = c.args.files.now.items in
    let at : c.len-newest.result - 1 ≡ length files - 1 = omega (arith, c.len-newest.ensures, c.args.files.now.ok.0) in
    subst (λ (end : TraceEnd). Extends (g.F.Folder.told c.args.folder.now).files (g.F.Folder.told c.append.new.self).files (Err end) (last_name files) c.args.piece.now) (sym c.end_of.ensures)
    (extends_not (g.F.Folder.told c.args.folder.now).files (g.F.Folder.told c.append.new.self).files c.as_text.result.now (last_name files) c.args.piece.now c.in-Err.fault
    (c.as_text.ensures ∙ c.all.ensures ∙ last_named files c.index.result.now c.requires.some (c.index.ensures ∙ ap (λ (k : ℕ). get_or files k c.index.result.now) at)) c.in-Err.ensures.files)
