use Rattle.std.proofs.Common.{◌≡◌, ◌+◌, ◌-◌, ◌≤◌, ℕ, List, length, map, subst, sym, ◌∙◌, arith}
use Rattle.std.proofs.lemmas.List.{length-map}
use Rattle.dl_outside.specs.Told.{LinkTold}
use Rattle.dl_rounds.specs.Partings.{ShutsTo}
use Rattle.dl_rounds.proofs.ByPlace.{set_length}
use Rattle.dl_rounds.proofs.ShutLinks.{shuts_next}
use Rattle.dl_rounds.proofs.partings.shut_gone.Goals as goal

pub loop-place-preserved : goal.loop-place-preserved
loop-place-preserved g c =
    let was = c.loop-place in
    let place = was.place + 1 - 1 in
    record {
      end = was.invariant.end;
      within = omega (arith, c.loop-place-test.true);
      many = set_length was.links.links place c.shut_if_gone.new.link ∙ was.invariant.many;
      room = was.invariant.room;
      shuts = shuts_next g.L.Link.told was.place place c.args.hub.now (map g.L.Link.told c.args.links.now.links) was.links.links c.of_mut.result.now c.shut_if_gone.new.link
          (omega arith) was.invariant.shuts c.of_mut.ensures.value c.shut_if_gone.ensures.open c.shut_if_gone.ensures.gone;
    }

pub returns-clause-shuts : goal.returns-clause-shuts
returns-clause-shuts g c =
    let told = g.L.Link.told in
    let was = c.args.links.now.links in
    let now = c.loop-place in
    subst (λ (done : ℕ). ShutsTo done c.args.hub.now (map told was) (map told now.links.links)) (omega (arith, now.invariant.end, now.invariant.within, c.loop-place-test.false, length-map was told)) now.invariant.shuts
