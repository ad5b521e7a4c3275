use Rattle.std.proofs.Common.{◌≡◌, List, [], length, map, sym, subst, ap, ◌∙◌, arith}
use Rattle.std.specs.List.{flat_map}
use Rattle.std.specs.Vec.{with_items}
use Rattle.std.proofs.lemmas.List.{length-map, with_items_is}
use Rattle.dl_events.specs.declared.record.Record.{Record}
use Rattle.dl_report.specs.declared.count.AppCounts.{AppCounts}
use Rattle.dl_report.specs.Counts.{Each, IsCount, AreAtMost, no_counts}
use Rattle.dl_report.proofs.Beginning.{none_bounds, none_counts}
use Rattle.dl_report.proofs.count.count_all.Goals as goal

pub count_into-requires : goal.count_into-requires
count_into-requires c =
    let begun : c.deref_mut.result.now ≡ map (λ _. no_counts) c.args.specs.now = c.deref_mut.ensures.value ∙ c.in_ok-apps.ensures in
    record {
      bounds = subst (λ (t : List AppCounts). Each (AreAtMost 0 0) t) (sym begun) (none_bounds c.args.specs.now);
      counts = subst (λ (t : List AppCounts). Each (IsCount [] []) t) (sym begun) (none_counts c.args.specs.now);
    }

pub returns : goal.returns
returns c =
    let new = c.count_into.new.table in
    let long : length new ≡ c.in_ok-apps.apps.len = omega (arith, c.in_ok-closes.ensures.size, ap length c.deref_mut.ensures.value, c.in_ok-apps.apps.ok.0) in
    let items : (with_items c.in_ok-apps.apps new).items ≡ new = with_items_is c.in_ok-apps.apps new long in
    record {
      size =
          ap length items ∙ c.in_ok-closes.ensures.size ∙ ap length (c.deref_mut.ensures.value ∙ c.in_ok-apps.ensures)
          ∙ length-map c.args.specs.now (λ _. no_counts);
      counts = subst (λ (t : List AppCounts). Each (IsCount (flat_map (λ (rs : List Record). rs) c.args.records.now) c.args.events.now) t) (sym items) c.in_ok-closes.ensures.counts;
      bounds = subst (λ (t : List AppCounts). Each (AreAtMost 4722366482869645213696 340282366920938463463374607431768211456) t) (sym items) c.in_ok-closes.ensures.bounds;
      closes = c.in_ok-closes.ensures.closes;
    }
