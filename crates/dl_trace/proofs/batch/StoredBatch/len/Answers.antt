use Rattle.std.proofs.Common.{List, sym, ap, ◌∙◌, length}
use Rattle.std.specs.Prelude.{ℕ}
use Rattle.dl_trace.proofs.Batches.{length-parted}
use Rattle.dl_trace.proofs.batch.StoredBatch.len.Goals as goal

pub returns : goal.returns
returns c = c.len.ensures.value ∙ sym (length-parted c.self.inside.sizes.items c.self.inside.bytes.items) ∙ ap (λ (frames : List (List ℕ)). length frames) c.self.view_is
