use Rattle.std.proofs.Common.{◌≡◌, List, ◌++◌, [], ◌∙◌, ap, sym, subst}
use Rattle.std.specs.Prelude.{option_map}
use Rattle.std.specs.List.{flat_map}
use Rattle.dl_bytes.specs.declared.outcome.LinkEnd.{LinkEnd}
use Rattle.dl_bytes.specs.declared.outcome.TraceFile.{TraceFile}
use Rattle.dl_events.specs.declared.record.Record.{Record}
use Rattle.dl_model.specs.Report.{client_lines, file_line}
use Rattle.dl_report.specs.declared.count.AppCounts.{AppCounts}
use Rattle.dl_report.specs.Counts.{Each, IsCount}
use Rattle.dl_report.proofs.Printing.{in_six}
use Rattle.dl_report.proofs.whole.report.Goals as goal

pub returns : goal.returns
returns c =
    let events = c.args.events.now in
    let lines = client_lines events (option_map (λ f. f.now) c.args.frames) in
    let links : c.push_links.new.text.items ≡ [] ++ flat_map lines c.args.ends.now.links =
    c.in_ok-push_links.ensures events (c.deref.ensures.value ∙ c.in_ok-tally.ensures.closes)
    ∙ ap (λ t. t ++ flat_map lines c.all.result.now) c.new-text.ensures.items ∙ ap (λ (ls : List LinkEnd). [] ++ flat_map lines ls) c.all.ensures in
    let counts : Each (IsCount (flat_map (λ (rs : List Record). rs) c.args.records.now) events) c.deref-2.result.now =
    subst (λ (t : List AppCounts). Each (IsCount (flat_map (λ (rs : List Record). rs) c.args.records.now) events) t) (sym c.deref-2.ensures.value) c.in_ok-tally.ensures.counts in
    let files : c.push_files.new.text.items ≡ c.push_apps.new.text.items ++ flat_map file_line c.args.ends.now.trace.files =
    c.in_ok-push_files.ensures ∙ ap (λ (fs : List TraceFile). c.push_apps.new.text.items ++ flat_map file_line fs) c.all-2.ensures in
    record {
      text =
          c.over.ensures
          ∙ in_six _ _ _ _ _ _ _ _ _ _ _ _ links c.in_ok-push_backlog.ensures (c.in_ok-push_apps.ensures c.args.records.now events counts) files
          c.in_ok-push_end.ensures c.in_ok-push_dropped.ensures;
    }
