use Rattle.std.proofs.Common.{◌≡◌, ℕ, min, eqb-true, eq-eqb, sym, ap, ◌∙◌}
use Rattle.std.proofs.lemmas.Bool.{false≢true}
use Rattle.std.proofs.lemmas.List.{length-replicate}
use Rattle.dl_receive.proofs.Receivers.{ends_whole, ends_truncated}
use Rattle.dl_receive.proofs.receiver.Receiver.is_whole.Goals as goal

taken : (c : goal.After-feed) → c.feed.result ≡ min 65539 c.args.self.now.cutter.room
taken c = c.feed.ensures.count_is ∙ ap (λ (n : ℕ). min n c.args.self.now.cutter.room) (length-replicate {A = ℕ} 65539 0)

pub returns-clause-whole : goal.returns-clause-whole
returns-clause-whole c = λ counting stream at whole. ends_whole counting stream c.args.self.now at c.feed.result (taken c) (eqb-true c.feed.result 65539 whole)

pub returns-clause-truncated : goal.returns-clause-truncated
returns-clause-truncated c = λ counting stream at less.
    ends_truncated counting stream c.args.self.now at c.feed.result (taken c) (λ e. false≢true (sym less ∙ eq-eqb c.feed.result 65539 e))
