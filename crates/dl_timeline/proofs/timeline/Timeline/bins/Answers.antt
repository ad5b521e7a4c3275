use Rattle.std.proofs.Common.{◌≡◌, ℕ, ◌+◌, ◌++◌, ◌∷◌, [], List, map, sym, ap, subst, ◌∙◌, arith}
use Rattle.std.specs.List.{range_with_len}
use Rattle.std.proofs.lemmas.List.FromFn.{map-range_with_len_more}
use Rattle.dl_picture.specs.declared.chart.Bin.{Bin}
use Rattle.dl_timeline.specs.Timeline.{bin_of}
use Rattle.dl_timeline.proofs.timeline.Timeline.bins.Goals as goal

pub loop-column-preserved : goal.loop-column-preserved
loop-column-preserved c = λ stream is.
    let f : ℕ → Bin = bin_of stream c.args.session.now in
    let n = c.loop-column.column in
    c.in_ok-push.ensures.items ∙ ap (λ (b : Bin). c.loop-column.bins.items ++ b ∷ []) (c.bin.ensures stream is) ∙ ap (λ (l : List Bin). l ++ f n ∷ []) (c.loop-column.invariant stream is)
    ∙ sym (map-range_with_len_more f 0 n n (omega arith))

pub returns : goal.returns
returns c = λ stream is.
    let all : c.loop-column.column ≡ 120 = omega arith in
    subst (λ (n : ℕ). c.loop-column.bins.items ≡ map (bin_of stream c.args.session.now) (range_with_len 0 n)) all (c.loop-column.invariant stream is)
