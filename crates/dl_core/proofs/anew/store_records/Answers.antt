use Rattle.std.proofs.Common.{◌∙◌, ℕ, List, refl, sym, subst}
use Rattle.std.specs.Prelude.{IfNone}
use Rattle.std.proofs.lemmas.Option.{IfSome_then}
use Rattle.dl_trace.specs.Storing.{StoresOrStops}
use Rattle.dl_trace.proofs.Joined.{unchanged}
use Rattle.dl_core.specs.Follows.{unstored_records}
use Rattle.dl_core.proofs.Untold.{stored_so}
use Rattle.dl_core.proofs.anew.store_records.Goals as goal

pub returns-then-not-gather-clause-others : goal.returns-then-not-gather-clause-others
returns-then-not-gather-clause-others g c = unchanged c.args.trace.now.directory (g.F.Folder.told c.args.folder.now).files

pub returns-clause-stored : goal.returns-clause-stored
returns-clause-stored g c = λ ok.
    let told = g.F.Folder.told c.args.folder.now in
    let now = g.F.Folder.told c.write_all.new.folder in
    stored_so (unstored_records c.args.ecu c.args.moment c.args.unstored) c.args.trace.now c.write_all.new.self told now c.args.trace.now.state.end c.write_all.result (IfSome_then c.args.trace.now.state.end c.write_all.ensures.ended (λ why is. is.0))
    (subst (λ (rs : List (List ℕ)). IfNone c.args.trace.now.state.end (StoresOrStops rs c.write_all.result c.args.trace.now c.write_all.new.self told now)) (c.if-not-gather.ensures.all refl) c.write_all.ensures.stored)
    (sym c.is_ok.ensures.value ∙ ok)
