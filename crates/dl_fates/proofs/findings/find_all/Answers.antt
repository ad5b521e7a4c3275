use Rattle.std.proofs.Common.{◌≡◌, ℕ, ◌+◌, ◌++◌, ◌∷◌, [], List, map, add-one, sym, ap, subst, ◌∙◌, arith}
use Rattle.std.specs.List.{AllByRecursion, range_with_len}
use Rattle.std.proofs.lemmas.List.{map-append}
use Rattle.dl_lemmas.proofs.Lists.{all_both}
use Rattle.dl_model.specs.WholeAccounts.{source_of_records}
use Rattle.dl_fates.specs.Found.{TellsWhole}
use Rattle.dl_fates.specs.Written.{TellWhole}
use Rattle.dl_fates.specs.declared.fates.Fates.{Fates}
use Rattle.dl_fates.proofs.Lawful.{range_more}
use Rattle.dl_fates.proofs.findings.find_all.Goals as goal

pub loop-place-preserved : goal.loop-place-preserved
loop-place-preserved c =
    let n = c.loop-place.place in
    let one = c.in_ok-fates.fates in
    let old = c.loop-place.all.items in
    let client : Fates → ℕ = λ (fates : Fates). fates.client in
    let number : one.client ≡ 1 + n = c.in_ok-fates.ensures.client ∙ omega arith in
    record {
      clients = ap (map client) c.in_ok-push.ensures.items ∙ map-append client old (one ∷ []) ∙ ap (λ (l : List ℕ). l ++ one.client ∷ []) c.loop-place.invariant.clients
          ∙ ap (λ (m : ℕ). range_with_len 1 n ++ m ∷ []) number ∙ sym (range_more 1 n) ∙ ap (range_with_len 1) (sym (add-one n));
      fates = λ setting same.
          let source = source_of_records setting c.args.sources.now.records.now c.args.sources.now.specs.now in
          let tells : TellWhole source c.args.buffer c.args.events.now one =
          subst (λ (m : ℕ). TellsWhole source c.args.buffer m c.args.events.now one.calls) (sym c.in_ok-fates.ensures.client) (c.in_ok-fates.ensures.fates setting same) in
          subst (λ (l : List Fates). AllByRecursion (TellWhole source c.args.buffer c.args.events.now) l) (sym c.in_ok-push.ensures.items)
          (all_both (TellWhole source c.args.buffer c.args.events.now) old (one ∷ []) (c.loop-place.invariant.fates setting same) (tells, tt));
    }
