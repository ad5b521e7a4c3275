use Rattle.std.proofs.Common.{ℕ, ◌<◌, List, length, get_or, sym, ap, ◌∙◌, subst}
use Rattle.dl_account.specs.AccountInside.{settled_side}
use Rattle.dl_account.specs.Books.{injected_of}
use Rattle.dl_account.specs.State.{AccountState}
use Rattle.dl_account.proofs.Knowing.{given_there}
use Rattle.dl_account.proofs.account.Account.injected.Goals as goal

pub bounds-deref-from : goal.bounds-deref-from
bounds-deref-from c =
    let inside = c.self.inside in
    let within : c.args.app < length inside.apps = subst (λ (s : AccountState). c.args.app < length s.apps) (sym c.self.view_is) c.requires in
    let there = given_there (settled_side inside) c.self.invariant.handles c.args.app within inside.injected.items c.self.invariant.injected in
    subst (λ (l : List ℕ). c.from.result < length l) (sym c.deref.ensures.0) (subst (λ (n : ℕ). n < length inside.injected.items) (sym c.from.ensures) there.0)

pub returns : goal.returns
returns c =
    let inside = c.self.inside in
    let within : c.args.app < length inside.apps = subst (λ (s : AccountState). c.args.app < length s.apps) (sym c.self.view_is) c.requires in
    let there = given_there (settled_side inside) c.self.invariant.handles c.args.app within inside.injected.items c.self.invariant.injected in
    ap (λ (l : List ℕ). get_or l c.from.result 0) c.deref.ensures.0 ∙ ap (λ (n : ℕ). get_or inside.injected.items n 0) c.from.ensures
    ∙ there.1 ∙ ap (λ (s : AccountState). injected_of c.args.app s.books) c.self.view_is
