use Rattle.std.proofs.Common.{◌≡◌, ℕ, Bool, cond, is_some, sym, ap, ◌∙◌, arith}
use Rattle.dl_core.specs.Waiting.{other_at}
use Rattle.dl_core.proofs.Owing.{all_counted, slot_more}
use Rattle.dl_core.proofs.daemon.Core.others.Goals.{then-is_other, else-is_other}
use Rattle.dl_core.proofs.daemon.Core.others.Goals as goal

pub loop-slot-preserved : goal.loop-slot-preserved
loop-slot-preserved c = elim c.if-is_other.branch [
  | then-is_other w ↦
      let differs = other_at c.args.level c.args.self.now.registry.registry in
      let one : ◌≡◌ {A = ℕ} (cond (is_some (differs c.loop-slot.slot)) 1 0) 1 = ap (λ (b : Bool). cond {A = ℕ} b 1 0) (sym c.is_other.ensures ∙ w.if-is_other.true) in
      record {
        number = slot_more differs c.loop-slot.slot c.loop-slot.count c.if-is_other.count c.loop-slot.invariant.number (omega (arith, one, w.count-is));
        small = omega (arith, c.loop-slot.invariant.small, w.count-is);
      }
  | else-is_other w ↦
      let differs = other_at c.args.level c.args.self.now.registry.registry in
      let none : ◌≡◌ {A = ℕ} (cond (is_some (differs c.loop-slot.slot)) 1 0) 0 = ap (λ (b : Bool). cond {A = ℕ} b 1 0) (sym c.is_other.ensures ∙ w.if-is_other.false) in
      record {
        number = slot_more differs c.loop-slot.slot c.loop-slot.count c.if-is_other.count c.loop-slot.invariant.number (omega (arith, none, w.count-is));
        small = omega (arith, c.loop-slot.invariant.small, w.count-is);
      }
]

pub returns-clause-value : goal.returns-clause-value
returns-clause-value c =
    all_counted c.args.level c.args.self.now.registry c.loop-slot.slot c.loop-slot.count c.loop-slot.invariant.number
    (omega (arith, c.loop-slot-test.false, c.loop-slot.auto.slot-end))
