use Rattle.std.proofs.Common.{◌≡◌, ℕ, ◌++◌, ◌∷◌, [], List, map, sym, ap, subst, ◌∙◌, arith}
use Rattle.std.proofs.lemmas.List.{map-append}
use Rattle.std.specs.List.{range_with_len}
use Rattle.std.proofs.lemmas.List.FromFn.{map-range_with_len_more}
use Rattle.dl_call_timeline.specs.Names.{column_name}
use Rattle.dl_call_timeline.proofs.names.column_names.Goals as goal

pub loop-column-preserved : goal.loop-column-preserved
loop-column-preserved c =
    let f : ℕ → List ℕ = column_name c.args.scale.now in
    let n = c.loop-column.column in
    let name = c.in_ok-name.name in
    ap (map (λ name. name.items)) c.in_ok-push.ensures.items ∙ map-append (λ name. name.items) c.loop-column.names.items (name ∷ []) ∙ ap (λ (l : List (List ℕ)). l ++ name.items ∷ []) c.loop-column.invariant
    ∙ ap (λ (l : List ℕ). map f (range_with_len 0 n) ++ l ∷ []) c.in_ok-name.ensures ∙ sym (map-range_with_len_more f 0 n n (omega arith))

pub returns : goal.returns
returns c =
    let all : c.loop-column.column ≡ 120 = omega arith in
    subst (λ (n : ℕ). map (λ name. name.items) c.loop-column.names.items ≡ map (column_name c.args.scale.now) (range_with_len 0 n)) all c.loop-column.invariant
