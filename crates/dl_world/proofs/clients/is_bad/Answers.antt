use Rattle.std.proofs.Common.{◌≡◌, false, refl, sym, ap, ◌∙◌}
use Rattle.dl_message.specs.declared.cutter.Cut.{Cut}
use Rattle.dl_message.specs.declared.cutter.Cut.TheVariants.{Message, NeedMore, Bad}
use Rattle.dl_message.proofs.Calls.{cuts_limit}
use Rattle.dl_world.proofs.FedStreams.{is_bad_cut, fed_next, bad_next}
use Rattle.dl_world.proofs.clients.is_bad.Goals as goal

pub returns-in-Bad-clause-stands : goal.returns-in-Bad-clause-stands
returns-in-Bad-clause-stands c = λ stream fed. fed_next stream c.args.cutter.now c.next.new.self c.next.result fed c.next.ensures.answer

pub returns-in-Bad-clause-bad : goal.returns-in-Bad-clause-bad
returns-in-Bad-clause-bad c = λ stream fed. ap is_bad_cut (sym c.in-Bad.is) ∙ bad_next stream c.args.cutter.now c.next.new.self c.next.result fed c.next.ensures.answer

pub returns-in_default : goal.returns-in_default
returns-in_default c =
    let other : is_bad_cut c.next.result ≡ false = elim c.next.result as (λ (cut : Cut). c.next.result ≡ cut → is_bad_cut cut ≡ false) [
      | Message ↦ λ e. refl
      | NeedMore ↦ λ e. refl
      | Bad fault ↦ λ e. absurd (c.in_default.not-Bad fault e)
    ] refl in
    record {
      limit = cuts_limit c.args.cutter.now c.next.new.self c.next.result c.next.ensures.answer;
      stands = λ stream fed. fed_next stream c.args.cutter.now c.next.new.self c.next.result fed c.next.ensures.answer;
      bad = λ stream fed. sym other ∙ bad_next stream c.args.cutter.now c.next.new.self c.next.result fed c.next.ensures.answer;
    }
