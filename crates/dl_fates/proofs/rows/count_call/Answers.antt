use Rattle.std.proofs.Common.{◌≡◌, ◌+◌, arith}
use Rattle.std.specs.Prelude.{count_by}
use Rattle.std.specs.HashMap as hash
use Rattle.dl_fates.specs.Rows.{is_by}
use Rattle.dl_fates.specs.Written.{same_writer}
use Rattle.dl_fates.specs.declared.rows.WriterName.{WriterName}
use Rattle.dl_fates.proofs.Counts.{counts_kept}
use Rattle.dl_fates.proofs.rows.count_call.Goals as goal

pub returns : goal.returns
returns c = λ before keeps.
    let at = c.args.at.now in
    let writer : WriterName = record { number = at.writer } in
    let number : c.in-Some.number ≡ 1 + count_by (is_by at.writer) before = omega (arith, c.in-Some.ensures.1, c.count_so_far.ensures, keeps writer) in (
      number,
      counts_kept (hash.get same_writer c.args.counts.now) (hash.get same_writer c.insert.new.self) before at c.in-Some.number c.in_ok-insert.ensures.updates.0 number keeps,
    )
