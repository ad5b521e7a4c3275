use Rattle.std.proofs.Common.{rules, ◌≡◌, ◌++◌, ◌∷◌, [], Some, ap}
use Rattle.dl_events.proofs.Given.{given-snoc, there-snoc}
use Rattle.dl_events.proofs.claim_list.ClaimList.add.Goals as goal

pub invariant_of-self : goal.invariant_of-self
invariant_of-self c =
    let e : c.try_push.new.self.items ≡ c.self.inside.writers.items ++ Some c.over.result ∷ [] = search rules in
    rw e (there-snoc _ _ c.self.invariant)

pub returns : goal.returns
returns c =
    let e : c.try_push.new.self.items ≡ c.self.inside.writers.items ++ Some c.over.result ∷ [] = search rules in
    rw (e, given-snoc c.self.inside.writers.items c.over.result, c.over.ensures) (ap (λ l. l ++ c.args.claims.items ∷ []) c.self.view_is)
