use Rattle.std.proofs.Common.{ℕ, Option, refl, subst}
use Rattle.std.specs.Prelude.{Ok}
use Rattle.dl_pieces.specs.Pieces.{ReadsAt}
use Rattle.dl_find.proofs.Refills.{has_read}
use Rattle.dl_find.proofs.reader.Reader.read_more.Goals as goal

pub returns-in-Ok-clause-reads : goal.returns-in-Ok-clause-reads
returns-in-Ok-clause-reads g c =
    let told = (g.F.Folder.told c.args.folder.now).files in
    let piece = c.read_at.new.into in
    let found = subst (λ (o : Option ℕ). ReadsAt told c.args.name.now c.args.self.now.read piece (Ok o)) c.in-Ok-Some.field-0-is c.in-Ok-Some.ensures.found in
    has_read told c.args.name.now c.args.self.now c.add.new.self piece _ c.in-Ok-Some.count found.0 refl c.in-Ok.ensures found.1
