use Rattle.std.proofs.Common.{◌≡◌, ℕ, ◌+◌, ◌-◌, ◌%◌, ◌^◌, ◌≤◌, length, ap, ◌∙◌, subst, arith}
use Rattle.dl_desk.specs.Lists.{At}
use Rattle.dl_desk.proofs.Places.{length-put}
use Rattle.dl_account.specs.Books.{items_pushed_of}
use Rattle.dl_account.proofs.Upto.{table_upto}
use Rattle.dl_account.proofs.waiting.items_waiting.Goals as goal

-- the difference of two counters is exact where what is counted is small
exact : (taken queued counter : ℕ) → queued ≤ 2 ^ 46 → taken ≤ queued → counter ≡ taken % 2 ^ 64 → taken + (queued + (2 ^ 64 - counter)) % 2 ^ 64 ≡ queued
exact taken queued counter small less is = omega arith

pub loop-app-preserved : goal.loop-app-preserved
loop-app-preserved c =
    let i = c.loop-app.invariant in
    let waits : ℕ = (c.items_pushed_by.result + (2 ^ 64 - c.taken.result)) % 2 ^ 64 in
    record {
      long = length-put c.loop-app.items c.from.result waits ∙ i.long;
      each = table_upto (λ app count. At c.args.handles.now.apps app (λ e. length e.ring.taken ≤ items_pushed_of app c.args.books.now → length e.ring.taken + count ≡ items_pushed_of app c.args.books.now))
          c.loop-app.items c.loop-app.app c.from.result waits c.from.ensures
          (let few = c.requires.there.0 in let long = i.long in let below = c.loop-app-test.true in omega (arith, few, long, below))
          i.each
          (λ e at less.
          ap (λ (n : ℕ). length e.ring.taken + (n + (2 ^ 64 - c.taken.result)) % 2 ^ 64) c.items_pushed_by.ensures.value
          ∙ exact (length e.ring.taken) (items_pushed_of c.loop-app.app c.args.books.now) c.taken.result (subst (λ (n : ℕ). n ≤ 2 ^ 46) c.items_pushed_by.ensures.value c.items_pushed_by.ensures.range) less (c.taken.ensures e at));
    }
