use Rattle.std.proofs.Common.{◌≡◌, ◌++◌, ◌∷◌, [], ℕ, List, ap, sym, ◌∙◌, arith}
use Rattle.std.specs.List.{filter_map}
use Rattle.std.proofs.lemmas.Grind.{common_steps}
use Rattle.std.proofs.lemmas.List.Elements.{filter_map-append}
use Rattle.dl_storage.specs.FiltersHeld.{names_held}
use Rattle.dl_storage.specs.FilterWhole.{name_in}
use Rattle.dl_storage.proofs.FilterNames.{goes_on}
use Rattle.dl_storage.proofs.filter_reading.faulty_line.Goals as goal

pub loop-line-preserved : goal.loop-line-preserved
loop-line-preserved c =
    let so_far = c.loop-line.invariant.fault in
    let before = so_far.0 in
    let line = c.in-Some.line.now in
    let next : c.loop-line.line-iterator ≡ line ∷ c.next.new.self = grind (arith, common_steps, c.in-Some.ensures.goes) in
    record {
      fault = (
        before ++ line ∷ [],
        grind (arith, common_steps, so_far.1),
        c.in-Ok.ensures.names ∙ ap (λ (names : List (List ℕ)). names ++ filter_map name_in (line ∷ [])) so_far.2 ∙ sym (filter_map-append name_in before (line ∷ [])),
        goes_on before c.loop-line.line-iterator c.next.new.self line (names_held c.loop-line.names.items) so_far.2 (sym c.in-Ok.ensures.fault) next ∙ so_far.3,
      );
      room = grind (arith, common_steps);
    }
