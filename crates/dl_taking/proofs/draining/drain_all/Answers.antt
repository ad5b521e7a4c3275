use Rattle.std.proofs.Common.{◌≡◌, ◌+◌, ◌<◌, ◌-◌, ℕ, List, length, refl, ap, ◌∙◌, subst, arith}
use Rattle.dl_bytes.specs.declared.conf.AppSpec.{AppSpec}
use Rattle.dl_account.specs.State.{ClosingState}
use Rattle.dl_taking.specs.Draining.{DrainsApp, MayNote, closing_told, closing_took}
use Rattle.dl_taking.specs.Side.{Side, seen}
use Rattle.dl_taking.proofs.Drains.{claims_first_of, claims_more, drained_more, enough_more, first_more, first_of}
use Rattle.dl_taking.proofs.draining.drain_all.Goals as goal

pub drain_app-requires-clause-enough : goal.drain_app-requires-clause-enough
drain_app-requires-clause-enough g c =
    let was = c.loop-app in
    let below : was.app < length c.args.closing.now.apps = subst (λ (xs : List AppSpec). was.app < length xs) c.apps.ensures c.loop-app-test.true in
    omega (arith, was.invariant.enough, first_of was.closing.books (closing_took was.closing) was.app (length c.args.closing.now.apps) below)

pub drain_app-requires-clause-claims : goal.drain_app-requires-clause-claims
drain_app-requires-clause-claims g c =
    let was = c.loop-app in
    let below : was.app < length c.args.closing.now.apps = subst (λ (xs : List AppSpec). was.app < length xs) c.apps.ensures c.loop-app-test.true in
    omega (arith, was.invariant.claims, claims_first_of was.closing.books (closing_took was.closing) was.app (length c.args.closing.now.apps) below)

pub loop-app-preserved : goal.loop-app-preserved
loop-app-preserved g c =
    let s = seen g.J.Journal.events g.J.Journal.noted g.J.Journal.spare g.F.Folder.told closing_took closing_told in
    let was = c.loop-app in
    let now = c.drain_app.new in
    let so = was.invariant in
    let one = c.drain_app.ensures in
    let before : Side = s was.core was.journal was.folder was.closing in
    let behind : Side = s now.core now.journal now.folder now.closing in
    let specs = ap (λ (x : ClosingState). x.apps) so.same in
    let drains : DrainsApp c.args.closing.now.apps was.app before behind = subst (λ (xs : List AppSpec). DrainsApp xs was.app before behind) specs one.drains in
    let many : ℕ = length c.args.closing.now.apps in
    let below : was.app < many = subst (λ (xs : List AppSpec). was.app < length xs) c.apps.ensures c.loop-app-test.true in
    let one_less : many - was.app ≡ many - (was.app + 1) + 1 = omega (arith, below) in
    record {
      drains = first_more c.args.closing.now.apps was.app _ before behind so.drains drains;
      drained = drained_more c.args.closing.now.apps was.app before behind was.closing now.closing drains refl refl one.rest one.empty one.none_lost so.drained;
      enough = enough_more c.args.closing.now.apps was.app many was.left.events now.left.events before behind was.closing now.closing drains refl refl one.rest below so.enough one.used;
      claims = claims_more c.args.closing.now.apps was.app many was.left.claims now.left.claims before behind was.closing now.closing drains refl refl one.rest below so.claims one.claims_used;
      may = one.may (many - (was.app + 1)) (subst (λ (n : ℕ). MayNote was.left.events was.left.claims n was.core.hub (g.J.Journal.spare was.journal)) one_less so.may);
      settled = one.settled;
      desk = one.desk;
      same = one.rest ∙ so.same;
    }
