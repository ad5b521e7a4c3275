use Rattle.std.proofs.Common.{◌≡◌, ℕ, ◌+◌, length, ap, ◌∙◌, arith}
use Rattle.std.specs.Prelude.{replicate}
use Rattle.dl_bytes.specs.Id.{zero_id}
use Rattle.dl_message.specs.Frames.{overflow_record}
use Rattle.dl_model.specs.Overflow.{counters}
use Rattle.dl_report.proofs.Sizes.{alike, counted, record_len}
use Rattle.dl_report.proofs.batch.reports.Goals as goal

pub returns-clause-batch : goal.returns-clause-batch
returns-clause-batch c = λ apid is.
    let size : (counter : ℕ) → length (overflow_record c.args.ecu apid zero_id counter) ≡ 24 + c.args.apid_len =
    λ counter. omega (arith, record_len c.args.ecu apid counter, c.bytes.ensures.len, is) in
    let many : length (counters c.args.count) ≡ c.div_ceil.result = omega (arith, counted c.args.count, c.div_ceil.ensures) in
    alike (overflow_record c.args.ecu apid zero_id) (24 + c.args.apid_len) size (counters c.args.count) ∙ ap (λ (n : ℕ). replicate n (24 + c.args.apid_len)) many
