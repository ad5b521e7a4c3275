use Rattle.std.proofs.Common.{◌≡◌, ◌+◌, ◌-◌, ℕ, [], ◌∷◌, ◌++◌, true, ap, ◌∙◌, arith}
use Rattle.std.specs.List.{range_with_len}
use Rattle.dl_world.specs.Left.{links_in}
use Rattle.dl_world.proofs.Leaving.{one_link}
use Rattle.dl_world.proofs.ending.links_of.Goals as goal

pub loop-client-preserved : goal.loop-client-preserved
loop-client-preserved c =
    let n = c.loop-client.client in
    let same : n ≡ n + 1 - 1 = omega arith in
    let pushed : c.push.new.self.items ≡ c.loop-client.links.items ++ record { client = n; frames = c.sent-frames.result.0; bytes = c.sent-frames.result.1; complete = true } ∷ [] = c.in_ok-push.ensures.items in
    record {
      some = omega arith;
      made = pushed ∙ one_link c.args.hub.now n c.sent-frames.result c.loop-client.links.items c.loop-client.invariant.some c.loop-client.invariant.made c.sent-frames.ensures
          ∙ ap (λ (k : ℕ). links_in c.args.hub.now (range_with_len 1 k)) same;
    }
