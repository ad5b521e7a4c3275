use Rattle.std.proofs.Common.{◌≡◌, ◌∷◌, List, ap, ◌∙◌, sym, subst, rules, All}
use Rattle.std.proofs.lemmas.List.Elements.{All-head, All-push, All-tail}
use Rattle.std.specs.Vec.Iter.{into_iter_items}
use Rattle.dl_writer.specs.State.{BookState}
use Rattle.dl_desk.specs.Made.{IsMadeWith}
use Rattle.dl_desk.specs.State.{DeskState}
use Rattle.test_threads.proofs.Later.{one_begun, one_started}
use Rattle.test_threads.proofs.crowds.start.Goals as goal

pub loop-book-preserved : goal.loop-book-preserved
loop-book-preserved g c =
    let was = c.loop-book.invariant in
    let next = c.in-Some.ensures.steps.0 in
    let more = c.in_ok-push.ensures.items in
    let started = c.in_ok-child.ensures.ok in
    let waiting = into_iter_items c.loop-book.book-iterator in
    let rest = into_iter_items c.next.new.self in
    record {
      made = All-tail (λ (b : BookState). IsMadeWith c.args.desk.now b.writer) c.in-Some.book rest (subst (λ (l : List BookState). All (λ b. IsMadeWith c.args.desk.now b.writer) l) next was.made);
      numbered = one_started (λ h. h.promise.before.value.writer.push.number) c.loop-book.children.items c.push.new.self.items c.in_ok-child.child waiting rest c.in-Some.book _ next more
          (ap (λ p. p.before.value.writer.push.number) started ∙ ap (λ (b : BookState). b.writer.push.number) c.of-before.ensures) was.numbered;
      based = one_begun (λ h. h.promise.before.value.writer.base) c.loop-book.children.items c.push.new.self.items c.in_ok-child.child waiting rest c.in-Some.book next more
          (ap (λ p. p.before.value.writer.base) started ∙ ap (λ (b : BookState). b.writer.base) c.of-before.ensures) was.based;
      same = subst (λ l. All (λ h. h.promise.desk.value ≡ c.args.desk.now) l) (sym more)
          (All-push (λ h. h.promise.desk.value ≡ c.args.desk.now) c.loop-book.children.items c.in_ok-child.child was.same (ap (λ p. p.desk.value) started ∙ c.of.ensures));
    }

-- the thread's work leaves its writer one of the desk, under its number and with its base
pub spawn_with-requires-clause-keeps : goal.spawn_with-requires-clause-keeps
spawn_with-requires-clause-keeps g c κs within = λ r gave.
    let before : BookState = c.in-Some.book in
    let now : BookState = r.book in
    let made : (desk : DeskState) → IsMadeWith desk before.writer → IsMadeWith desk now.writer = search rules in
    let number : now.writer.push.number ≡ before.writer.push.number = search rules in
    let base : now.writer.base ≡ before.writer.base = search rules in
    let waiting : All (λ (b : BookState). IsMadeWith c.args.desk.now b.writer) (before ∷ into_iter_items c.next.new.self) =
    subst (λ (l : List BookState). All (λ b. IsMadeWith c.args.desk.now b.writer) l) c.in-Some.ensures.steps.0 c.loop-book.invariant.made in (
      subst (λ (d : DeskState). IsMadeWith d now.writer) (sym c.of.ensures) (made c.args.desk.now (All-head (λ (b : BookState). IsMadeWith c.args.desk.now b.writer) before (into_iter_items c.next.new.self) waiting)),
      number ∙ ap (λ (b : BookState). b.writer.push.number) (sym c.of-before.ensures),
      base ∙ ap (λ (b : BookState). b.writer.base) (sym c.of-before.ensures),
    )
