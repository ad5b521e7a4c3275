use Rattle.std.proofs.Common.{◌+◌, zero, suc, List, refl, ap, ◌∙◌, subst, arith}
use Rattle.dl_bytes.specs.declared.conf.AppSpec.{AppSpec}
use Rattle.dl_account.specs.State.{ClosingState}
use Rattle.dl_taking.specs.Draining.{closing_told, closing_took}
use Rattle.dl_taking.specs.Side.{Side, seen}
use Rattle.dl_taking.specs.Takes.{Reports}
use Rattle.dl_taking.proofs.Drains.{empty_behind, none_of, on_losses, taken_within}
use Rattle.dl_taking.proofs.draining.drain_app.Goals as goal

pub loop-init : goal.loop-init
loop-init g c = record {
  count = zero;
  takes = refl;
  enough = omega (arith, c.requires.enough);
  claims = c.requires.claims;
  used = omega arith;
  claims_used = omega arith;
  may = λ reports may. may;
  settled = c.requires.settled;
  desk = c.requires.desk;
  same = refl;
}

pub loop-preserved : goal.loop-preserved
loop-preserved g c =
    let so = c.loop.invariant in
    let one = c.take_batch.ensures in
    record {
      count = suc so.count;
      takes = (_, so.takes, one.takes);
      enough = omega (arith, so.enough, one.used);
      claims = omega (arith, so.claims, one.claims_used);
      used = omega (arith, so.used, one.used);
      claims_used = omega (arith, so.claims_used, one.claims_used);
      may = λ reports may. one.may reports (so.may reports may);
      settled = one.settled;
      desk = one.desk;
      same = one.rest ∙ so.same;
    }

pub tell_losses-requires-clause-enough : goal.tell_losses-requires-clause-enough
tell_losses-requires-clause-enough g c =
    let s = seen g.J.Journal.events g.J.Journal.noted g.J.Journal.spare g.F.Folder.told closing_took closing_told in
    let now = c.take_batch.new in
    let was : Side = s c.args.core.now c.args.journal.now c.args.folder.now c.args.closing.now in
    let is : Side = s now.core now.journal now.folder now.closing in
    let so = c.loop.invariant in
    let one = c.take_batch.ensures in
    let fewer = taken_within now.closing c.gathered.ensures c.args.closing.now c.args.app (one.rest ∙ so.same) c.requires.app in
    let none = none_of now.closing c.args.app fewer (one.empty c.loop-test.false) in
    let losses = on_losses c.args.app (suc so.count) was is c.args.closing.now now.closing (_, so.takes, one.takes) refl refl (one.rest ∙ so.same) in
    omega (arith, c.requires.enough, so.used, one.used, none.0, losses)

pub tell_losses-requires-clause-may : goal.tell_losses-requires-clause-may
tell_losses-requires-clause-may g c = c.take_batch.ensures.may 1 (c.loop.invariant.may 1 c.requires.may)

pub returns-clause-drains : goal.returns-clause-drains
returns-clause-drains g c =
    let s = seen g.J.Journal.events g.J.Journal.noted g.J.Journal.spare g.F.Folder.told closing_took closing_told in
    let now = c.take_batch.new in
    let new = c.tell_losses.new in
    let is : Side = s now.core now.journal now.folder now.closing in
    let end : Side = s new.core new.journal new.folder new.closing in
    let so = c.loop.invariant in
    let one = c.take_batch.ensures in
    let told = c.tell_losses.ensures.reports in
    record {
      count = suc so.count;
      emptied = is;
      takes = (_, so.takes, one.takes);
      lost = told.0;
      reports = subst (λ (specs : List AppSpec). Reports specs c.args.app told.0 is end) (ap (λ (x : ClosingState). x.apps) (one.rest ∙ so.same)) told.1;
    }

pub returns-clause-empty : goal.returns-clause-empty
returns-clause-empty g c =
    let told = c.tell_losses.ensures.reports in
    empty_behind c.take_batch.new.closing c.tell_losses.new.closing c.args.app told.0 told.1.took c.tell_losses.ensures.rest (c.take_batch.ensures.empty c.loop-test.false)

pub returns-clause-used : goal.returns-clause-used
returns-clause-used g c =
    let s = seen g.J.Journal.events g.J.Journal.noted g.J.Journal.spare g.F.Folder.told closing_took closing_told in
    let now = c.take_batch.new in
    let was : Side = s c.args.core.now c.args.journal.now c.args.folder.now c.args.closing.now in
    let is : Side = s now.core now.journal now.folder now.closing in
    let so = c.loop.invariant in
    let one = c.take_batch.ensures in
    let fewer = taken_within now.closing c.gathered.ensures c.args.closing.now c.args.app (one.rest ∙ so.same) c.requires.app in
    let none = none_of now.closing c.args.app fewer (one.empty c.loop-test.false) in
    let losses = on_losses c.args.app (suc so.count) was is c.args.closing.now now.closing (_, so.takes, one.takes) refl refl (one.rest ∙ so.same) in
    omega (arith, so.used, one.used, none.0, losses, c.tell_losses.ensures.used)

pub returns-clause-claims_used : goal.returns-clause-claims_used
returns-clause-claims_used g c =
    let now = c.take_batch.new in
    let so = c.loop.invariant in
    let one = c.take_batch.ensures in
    let fewer = taken_within now.closing c.gathered.ensures c.args.closing.now c.args.app (one.rest ∙ so.same) c.requires.app in
    let none = none_of now.closing c.args.app fewer (one.empty c.loop-test.false) in
    omega (arith, so.claims_used, one.claims_used, none.1, c.tell_losses.ensures.claims)

pub returns-clause-may : goal.returns-clause-may
returns-clause-may g c = λ reports may. c.tell_losses.ensures.may reports (c.take_batch.ensures.may (reports + 1) (c.loop.invariant.may (reports + 1) may))
