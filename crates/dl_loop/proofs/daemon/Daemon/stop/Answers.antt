use Rattle.std.proofs.Common.{◌≡◌, ◌≤◌, true, sym, subst, arith}
use Rattle.dl_writer.specs.State.{IsWhole}
use Rattle.dl_account.specs.Making.{AreInOrder}
use Rattle.dl_account.proofs.InOrder.{all_of_ordered}
use Rattle.dl_settling.specs.Room.{together}
use Rattle.dl_loop.specs.State.{DaemonState}
use Rattle.dl_loop.specs.Stops.{Stops}
use Rattle.dl_loop.proofs.OrderedBooks.{together_in_order, within_calls}
use Rattle.dl_loop.proofs.StoppedDaemons.{claims_fit, may_stop, stop_books}
use Rattle.dl_loop.proofs.daemon.Daemon.stop.Goals as goal

pub settle-requires-clause-enough : goal.settle-requires-clause-enough
settle-requires-clause-enough g c =
    (may_stop g.L.Link.told _ c.args.books c.in-Ok.closing c.self.invariant c.self.invariant.few c.in_range.ensures c.in-Ok.ensures.made c.gathered.ensures
    (all_of_ordered IsWhole c.args.books c.in-Ok.closing.books c.in-Ok.ensures.made.order c.requires.whole)
    (within_calls (together c.in-Ok.closing.books) (together c.args.books) c.self.inside.calls (together_in_order c.args.books c.in-Ok.closing.books c.in-Ok.ensures.made.order)
    (subst (λ (d : DaemonState g.row.L.Denot). together c.args.books ≤ d.calls) (sym c.self.view_is) c.requires.few))).enough

pub overflow_sub-parts-2 : goal.overflow_sub-parts-2
overflow_sub-parts-2 g c = omega (arith, claims_fit g.L.Link.told _ c.args.books c.in-Ok.closing c.self.invariant c.in-Ok.ensures.made c.gathered.ensures)

pub settle-requires-clause-claims : goal.settle-requires-clause-claims
settle-requires-clause-claims g c = omega (arith, claims_fit g.L.Link.told _ c.args.books c.in-Ok.closing c.self.invariant c.in-Ok.ensures.made c.gathered.ensures)

pub settle-requires-clause-may : goal.settle-requires-clause-may
settle-requires-clause-may g c =
    (may_stop g.L.Link.told _ c.args.books c.in-Ok.closing c.self.invariant c.self.invariant.few c.in_range.ensures c.in-Ok.ensures.made c.gathered.ensures
    (all_of_ordered IsWhole c.args.books c.in-Ok.closing.books c.in-Ok.ensures.made.order c.requires.whole)
    (within_calls (together c.in-Ok.closing.books) (together c.args.books) c.self.inside.calls (together_in_order c.args.books c.in-Ok.closing.books c.in-Ok.ensures.made.order)
    (subst (λ (d : DaemonState g.row.L.Denot). together c.args.books ≤ d.calls) (sym c.self.view_is) c.requires.few))).may

pub settle-requires-clause-heard : goal.settle-requires-clause-heard
settle-requires-clause-heard g c =
    (may_stop g.L.Link.told _ c.args.books c.in-Ok.closing c.self.invariant c.self.invariant.few c.in_range.ensures c.in-Ok.ensures.made c.gathered.ensures
    (all_of_ordered IsWhole c.args.books c.in-Ok.closing.books c.in-Ok.ensures.made.order c.requires.whole)
    (within_calls (together c.in-Ok.closing.books) (together c.args.books) c.self.inside.calls (together_in_order c.args.books c.in-Ok.closing.books c.in-Ok.ensures.made.order)
    (subst (λ (d : DaemonState g.row.L.Denot). together c.args.books ≤ d.calls) (sym c.self.view_is) c.requires.few))).heard

pub returns-clause-stops : goal.returns-clause-stops
returns-clause-stops g c =
    let account = c.settle.result.0 in
    let links = c.settle.result.1 in
    let settles = c.settle.ensures.settles in
    subst (λ (d : DaemonState g.row.L.Denot). Stops g.L.Link.told d c.args.books account links (g.F.Folder.told c.args.folder.now) (g.F.Folder.told c.settle.new.folder)) c.self.view_is (record {
      settled = c.settle.ensures.settled;
      books_are = subst (AreInOrder c.args.books) (sym (stop_books g.L.Link.told c.self.inside.dropped _ account links (g.F.Folder.told c.args.folder.now) (g.F.Folder.told c.settle.new.folder) settles)) c.in-Ok.ensures.made.order;
      closing = c.in-Ok.closing;
      made = c.in-Ok.ensures.made;
      settles = settles;
      stopped = c.what_a_stop_leaves.ensures _ c.args.books c.in-Ok.closing account links (g.F.Folder.told c.args.folder.now) (g.F.Folder.told c.settle.new.folder) c.self.invariant (subst (λ (d : DaemonState g.row.L.Denot). d.greeted ≡ true) (sym c.self.view_is) c.requires.greeted) c.in-Ok.ensures.made settles;
    })
