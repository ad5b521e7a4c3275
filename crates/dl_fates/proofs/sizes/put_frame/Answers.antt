use Rattle.std.proofs.Common.{◌∙◌, ◌-◌, ℕ, ap}
use Rattle.std.specs.Prelude.{slice_set}
use Rattle.dl_fates.proofs.FileSizes.{begins_lent, grows_lent}
use Rattle.dl_fates.proofs.sizes.put_frame.Goals as goal

pub returns-in_ok-push-in-None : goal.returns-in_ok-push-in-None
returns-in_ok-push-in-None c = c.in_ok-push-in-None.ensures.items ∙ begins_lent c.args.limit c.args.bytes c.deref.result.now c.args.sizes.now.items c.deref.ensures.value c.in-None.ensures.above

pub returns-in-Some : goal.returns-in-Some
returns-in-Some c = ap (λ (n : ℕ). slice_set c.args.sizes.now.items (n - 1) c.in-Some.sum) (c.len-newest.ensures ∙ c.args.sizes.now.ok.0) ∙ grows_lent c.args.limit c.args.bytes c.in-Some.sum c.deref.result.now c.args.sizes.now.items c.deref.ensures.value c.in-Some.ensures.fits
