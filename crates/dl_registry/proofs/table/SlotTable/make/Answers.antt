use Rattle.std.proofs.Common.{◌≡◌, ℕ, replicate, ap, subst, sym, ◌∙◌}
use Rattle.dl_model.specs.declared.registry.Slot.{Slot}
use Rattle.dl_registry.specs.Table.{Table, Holds, unset}
use Rattle.dl_registry.proofs.OwedSlots.{made_table, made_holds}
use Rattle.dl_registry.proofs.table.SlotTable.make.Goals as goal

pub invariant_of-result : goal.invariant_of-result
invariant_of-result c =
    let held : c.in_ok-held.held.items ≡ replicate 1024 (unset c.args.first) = c.in_ok-held.ensures.items_if_clones_equal (λ y e. e) ∙ ap (λ (l : ℕ). replicate 1024 (let s : Slot = record { version = c.args.first; level = l } in s)) c.off.ensures in
    let table : (let t : Table = record { first = c.args.first; held = c.in_ok-held.held.items; wanted = c.in_ok-wanted.wanted.items } in t) ≡ made_table c.args.first =
    λ i. record { first = c.args.first; held = held i; wanted = c.in_ok-wanted.ensures i } in
    subst (λ (t : Table). Holds t 0 0) (sym table) (made_holds c.args.first c.requires)

pub returns : goal.returns
returns c =
    let held : c.in_ok-held.held.items ≡ replicate 1024 (unset c.args.first) = c.in_ok-held.ensures.items_if_clones_equal (λ y e. e) ∙ ap (λ (l : ℕ). replicate 1024 (let s : Slot = record { version = c.args.first; level = l } in s)) c.off.ensures in
    λ i. record { first = c.args.first; held = held i; wanted = c.in_ok-wanted.ensures i }
