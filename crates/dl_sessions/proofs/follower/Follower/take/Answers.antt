use Rattle.std.proofs.Common.{ℕ, List, ◌++◌, sym, ap, subst, ◌∙◌}
use Rattle.dl_sessions.specs.Follows.{HasCounted}
use Rattle.dl_sessions.proofs.Following.{joins}
use Rattle.dl_sessions.proofs.follower.Follower.take.Goals as goal

pub returns : goal.returns
returns c = λ before bytes follows.
    let old = c.args.self.now in
    let piece = c.args.piece.now in
    let new = c.add_all.new.self in
    let rest = c.in_ok-rest.rest.now in
    subst (λ (r : List ℕ). HasCounted before (bytes ++ piece) r new) (sym c.in_ok-held.ensures.items)
    (joins before bytes old.held.items piece rest old.counts new follows
    (λ stream so. subst (λ (b : List ℕ). HasCounted stream b rest new) (c.deref.ensures.value ∙ c.in_ok-extend_from_slice.ensures.items) (c.in_ok-rest.ensures stream so)))
