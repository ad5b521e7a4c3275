use Rattle.std.proofs.Common.{refl}
use Rattle.std.proofs.lemmas.Result.{on_ok_weaker}
use Rattle.dl_find.proofs.Growing.{searched}
use Rattle.dl_find.proofs.search.Search.add.Goals as goal

pub returns : goal.returns
returns c = λ q mets is.
    let old = c.args.self.now in
    on_ok_weaker c.note.result (searched q mets old (record old { finding = c.note.new.finding }) c.args.spot c.args.message.now c.args.told.now is refl) c.note.ensures
