use Rattle.std.proofs.Common.{ℕ, sym, subst}
use Rattle.dl_desk.specs.Made.{IsMadeWith}
use Rattle.dl_account.specs.Making.{AreAmong, AreNumberedTo}
use Rattle.dl_account.proofs.InOrder.{all_of_ordered, are_numbered, bases_of_ordered}
use Rattle.dl_account.proofs.closing.Closing.make.Goals as goal

pub in_order-requires-clause-numbered : goal.in_order-requires-clause-numbered
in_order-requires-clause-numbered c =
    let made = c.writers-writers.ensures.value in
    subst (λ (n : ℕ). AreNumberedTo n c.args.books) (sym made)
    (are_numbered c.args.desk c.args.books c.requires (subst (λ (n : ℕ). AreAmong c.args.books n) made c.in-None.ensures.all))

pub gather-requires-clause-made : goal.gather-requires-clause-made
gather-requires-clause-made c = all_of_ordered (λ b. IsMadeWith c.args.desk b.writer) c.args.books c.in_order.result c.in_order.ensures.order c.requires.each

pub gather-requires-clause-bases : goal.gather-requires-clause-bases
gather-requires-clause-bases c = bases_of_ordered c.args.books c.in_order.result c.in_order.ensures.order c.requires.bases
