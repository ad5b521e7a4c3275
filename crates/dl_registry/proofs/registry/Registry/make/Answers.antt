use Rattle.std.proofs.Common.{◌≡◌, [], subst, sym}
use Rattle.dl_registry.specs.Kept.{Fits}
use Rattle.dl_registry.specs.Table.{Table}
use Rattle.dl_registry.proofs.OwedSlots.{made_table}
use Rattle.dl_registry.proofs.Waiting.{made_fits}
use Rattle.dl_registry.proofs.registry.Registry.make.Goals as goal

pub invariant_of-result : goal.invariant_of-result
invariant_of-result c =
    let nobody : c.new.result.entries ≡ [] = c.new.ensures.empty in
    let table : c.in_ok-table.table ≡ made_table c.args.first = c.in_ok-table.ensures in
    subst (λ es. Fits (record { level = c.unwrap_or.result; stored = c.args.stored.own; apps = es }) c.in_ok-table.table) (sym nobody)
    (subst (λ (t : Table). Fits (record { level = c.unwrap_or.result; stored = c.args.stored.own; apps = [] }) t) (sym table) (made_fits c.args.first c.unwrap_or.result c.args.stored.own))

pub returns : goal.returns
returns c =
    let nobody : c.new.result.entries ≡ [] = c.new.ensures.empty in
    let table : c.in_ok-table.table ≡ made_table c.args.first = c.in_ok-table.ensures in
    λ i. record { registry = record { level = c.unwrap_or.ensures i; stored = c.args.stored.own; apps = nobody i }; first = (table i).first; held = (table i).held }
