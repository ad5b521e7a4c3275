use Rattle.std.proofs.Common.{◌∙◌, arith, rules}
use Rattle.std.proofs.lemmas.List.{nil_from_length}
use Rattle.dl_report.proofs.Spelling.{pieces_more, pieces_all}
use Rattle.dl_report.proofs.frame.push_bytes.Goals as goal

pub loop-piece-init : goal.loop-piece-init
loop-piece-init c = record { size = search rules; text = search rules }

pub push_piece-requires : goal.push_piece-requires
push_piece-requires c = omega (arith, c.in-Some.ensures.steps.1.1, c.loop-piece.invariant.size)

pub loop-piece-preserved : goal.loop-piece-preserved
loop-piece-preserved c = record {
  size = c.in-Some.ensures.steps.0 ∙ c.loop-piece.invariant.size;
  text = pieces_more _ _ _ _ _ _ c.in_ok-push_piece.ensures c.in-Some.ensures.steps.1.0 c.loop-piece.invariant.text;
}

pub returns : goal.returns
returns c = pieces_all _ _ _ (nil_from_length _ c.in-None.ensures.steps.1.0) c.loop-piece.invariant.text
