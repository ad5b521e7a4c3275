use Rattle.std.proofs.Common.{◌∙◌, arith, refl, length-set}
use Rattle.dl_report.proofs.Spelling.{spelled_more, spelled_all}
use Rattle.dl_report.proofs.frame.spell.Goals as goal

pub loop-place-init : goal.loop-place-init
loop-place-init c = record { size = c.told-letters; spelled = refl }

pub loop-place-preserved : goal.loop-place-preserved
loop-place-preserved c = record {
  size = length-set _ _ _ ∙ length-set _ _ _ ∙ length-set _ _ _ ∙ c.loop-place.invariant.size;
  spelled = spelled_more c.args.piece.now c.loop-place.letters c.loop-place.place _ _ (omega arith) (omega arith)
      c.digit.ensures c.digit-in-loop-place.ensures c.loop-place.invariant.spelled;
}

pub returns : goal.returns
returns c = spelled_all c.args.piece.now c.loop-place.letters c.loop-place.place (omega arith) (omega arith) c.loop-place.invariant.spelled
