use Rattle.std.proofs.Common.{◌≡◌, ◌+◌, ◌++◌, ◌∷◌, [], List, ℕ, None, get_or, take, sym, ap, subst, ◌∙◌}
use Rattle.std.proofs.lemmas.List.{take_more}
use Rattle.dl_events.specs.declared.record.Record.{Record}
use Rattle.dl_fates.specs.Written.{KeepsCounts, more_by, rows_by}
use Rattle.dl_fates.specs.declared.call.CallAt.{CallAt}
use Rattle.dl_fates.proofs.RowLines.{rows_more}
use Rattle.dl_fates.proofs.rows.push_rows.Goals as goal

pub loop-at-preserved : goal.loop-at-preserved
loop-at-preserved c =
    let i = c.loop-at.at-index in
    let calls = c.args.calls.now in
    let at : CallAt = get_or calls i (record { line = 0; writer = 0; told = None }) in
    let findings = c.args.findings.now in
    let more : CallAt → Record → List ℕ = more_by findings.claims.now findings.taken.items findings.directory.now findings.stored in
    let one : take (i + 1) calls ≡ take i calls ++ at ∷ [] = take_more calls i (record { line = 0; writer = 0; told = None }) c.loop-at-test.true in
    let counted = c.in_ok-number.ensures (take i calls) c.loop-at.invariant.counts in
    record {
      rows = rows_more c.args.records.now findings.specs.now findings.nobody findings.clients.items more (take i calls) at c.record_of.result c.in_ok-number.number c.args.text.now.items c.loop-at.text.items c.push_row.new.text.items
          counted.0 c.record_of.ensures c.loop-at.invariant.rows c.in_ok-push_row.ensures
          ∙ ap (λ (cs : List CallAt). c.args.text.now.items ++ rows_by c.args.records.now findings.specs.now findings.nobody findings.clients.items more cs) (sym one);
      counts = subst (KeepsCounts c.count_call.new.counts) (sym one) counted.1;
    }
