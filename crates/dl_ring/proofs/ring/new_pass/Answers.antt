use Rattle.std.proofs.Common.{ℕ, sym, ◌∙◌, ap, arith}
use Rattle.crossbeam_queue.specs.Passes.{view}
use Rattle.dl_cells.specs.Views.{times}
use Rattle.dl_ring.specs.Rule.{Keeps}
use Rattle.dl_ring.proofs.Boxing.{boxed_forks}
use Rattle.dl_ring.proofs.Keeping.{forks}
use Rattle.dl_ring.proofs.ring.new_pass.Goals as goal

pub another-requires-clause-rule : goal.another-requires-clause-rule
another-requires-clause-rule g c =
    boxed_forks Keeps _ _ _ _ (forks g.N.Number.number c.args.pass.now.id (view c.args.pass.now) c.requires.pass.1
    (let is = c.requires.number in let positive = c.requires.positive in λ z. omega arith)
    (ap (λ (n : ℕ). times n (view c.args.pass.now).given) (sym c.requires.number) ∙ c.requires.fresh))
