use Rattle.std.proofs.Common.{◌-◌, ◌^◌, min, ℕ, List, ◌++◌, ◌∷◌, [], length, sym, ap, ◌∙◌, arith}
use Rattle.dl_account.specs.Books.{injected_of}
use Rattle.dl_account.proofs.Counting.{given_more, given_length}
use Rattle.dl_account.proofs.joining.injections_given.Goals as goal

pub push-requires : goal.push-requires
push-requires c =
    let long = ap length c.loop-app.invariant ∙ given_length c.loop-app.app c.args.books.now in
    omega (arith, long, c.loop-app-test.true, c.requires)

pub loop-app-preserved : goal.loop-app-preserved
loop-app-preserved c = c.push.ensures.items ∙ ap (λ (n : ℕ). c.loop-app.all.items ++ n ∷ []) c.injected_of.ensures
    ∙ ap (λ (ns : List ℕ). ns ++ min (2 ^ 64 - 1) (injected_of c.loop-app.app c.args.books.now) ∷ []) c.loop-app.invariant ∙ sym (given_more c.loop-app.app c.args.books.now)
