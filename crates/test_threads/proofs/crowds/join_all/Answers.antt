use Rattle.std.proofs.Common.{◌∷◌, [], List, length, ap, length-append, arith}
use Rattle.std.specs.Vec.Iter.{into_iter_items}
use Rattle.dl_writer.specs.State.{BookState}
use Rattle.test_threads.proofs.Later.{one_back, one_based, one_made}
use Rattle.test_threads.proofs.crowds.join_all.Goals as goal

pub loop-child-preserved : goal.loop-child-preserved
loop-child-preserved g c =
    let was = c.loop-child.invariant in
    let next = c.in-Some.ensures.steps.0 in
    let more = c.add.ensures in
    let kept = c.join-worked.ensures in
    let book : BookState = c.join-worked.result.book in
    let waiting = into_iter_items c.loop-child.child-iterator in
    let rest = into_iter_items c.next.new.self in
    record {
      few = (let a = ap (λ (l : List BookState). length l) more in let b = ap (λ l. length l) next in let few = was.few in omega (arith, a, b, few, length-append c.loop-child.books (book ∷ [])));
      numbered = one_back (λ h. h.promise.before.value.writer.push.number) c.loop-child.books c.add.new.self book waiting rest c.in-Some.child _ next more kept.1 was.numbered;
      made = λ desk same. one_made (λ h. h.promise.desk.value) desk c.loop-child.books c.add.new.self book waiting rest c.in-Some.child next more kept.0 (was.made desk same);
      based = one_based (λ h. h.promise.before.value.writer.base) c.loop-child.books c.add.new.self book waiting rest c.in-Some.child next more kept.2 was.based;
    }
