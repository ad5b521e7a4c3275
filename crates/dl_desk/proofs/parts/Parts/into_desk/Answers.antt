use Rattle.std.proofs.Common.{◌≡◌, ℕ, ◌*◌, ◌≤◌, [], length, sym, ap, ◌∙◌, subst, arith}
use Rattle.dl_cells.specs.LevelStates as levels
use Rattle.dl_cells.specs.LossStates as losses
use Rattle.dl_cells.specs.Losses.{reported_of}
use Rattle.dl_desk.specs.HandlesInside.{words_for}
use Rattle.dl_desk.proofs.Assembling.{begins, new, lengths, length-apps}
use Rattle.dl_desk.proofs.parts.Parts.into_desk.Goals as goal

pub invariant_of-desk : goal.invariant_of-desk
invariant_of-desk c =
    let long = (lengths c.args.self.apps.items c.args.self.handles.items c.args.self.firsts.items c.requires.parts.handles).0 in
    let words : c.words_for-count.result ≡ words_for (length c.args.self.handles.items) = c.words_for-count.ensures.value ∙ ap words_for (c.len.ensures ∙ c.args.self.apps.ok.0 ∙ sym long) in
    let few : length c.args.self.apps.items ≤ 16 = subst (λ (n : ℕ). n ≤ 16) c.args.self.apps.ok.0 c.requires.few in
    record {
      few = subst (λ (n : ℕ). n ≤ 16) (sym long) few;
      slots = ap (λ (k : levels.KeeperState). k.slots) c.in_ok-levels.ensures.keeper ∙ ap (λ (n : ℕ). 64 * n) (c.from.ensures ∙ words);
      words = ap (λ (k : losses.KeeperState). k.apps) c.in_ok-losses.ensures.keeper ∙ words;
      reports = λ app past. ap (λ (k : losses.KeeperState). reported_of app k.reported) c.in_ok-losses.ensures.keeper;
      small = λ app. let none : reported_of app c.in_ok-losses.losses.reported ≡ 0 = ap (λ (k : losses.KeeperState). reported_of app k.reported) c.in_ok-losses.ensures.keeper in omega (arith, none);
    }

pub invariant_of-desk-2 : goal.invariant_of-desk-2
invariant_of-desk-2 c =
    let few : length c.args.self.apps.items ≤ 16 = subst (λ (n : ℕ). n ≤ 16) c.args.self.apps.ok.0 c.requires.few in
    let words : c.words_for-count.result ≡ words_for (length c.args.self.apps.items) = c.words_for-count.ensures.value ∙ ap words_for (c.len.ensures ∙ c.args.self.apps.ok.0) in
    let readers = c.in_ok-levels.ensures.reader ∙ ap (λ (n : ℕ). let r : levels.ReaderState = record {
      table = c.in_ok-levels.levels.table;
      slots = 64 * n;
      reads = [];
      splits_left = 64;
      claims = c.in_ok-levels.levels.claims;
      given = [];
      refused = [];
    } in r) (c.from.ensures ∙ words) in
    let keeper = c.in_ok-levels.ensures.keeper in
    let counters = c.in_ok-losses.ensures.writer ∙ ap (λ (n : ℕ). let r : losses.WriterState = record { table = c.in_ok-losses.losses.table; apps = n; counted = []; splits_left = 64 } in r) words in
    rw c.over.ensures
    (begins (record {
      apps = c.args.self.apps.items;
      handles = record { apps = c.args.self.handles.items; levels = c.in_ok-levels.levels; losses = c.in_ok-losses.losses };
      firsts = c.args.self.firsts.items;
      readers = c.in_ok-levels.readers;
      counters = c.in_ok-losses.counters;
      owners = c.new.result.items;
    }) few c.requires.parts.handles c.new.ensures readers counters
    (ap (λ (k : losses.KeeperState). k.counted) c.in_ok-losses.ensures.keeper) (ap (λ (k : losses.KeeperState). k.shares) c.in_ok-losses.ensures.keeper)
    (ap (λ (k : levels.KeeperState). k.given) keeper, ap (λ (k : levels.KeeperState). k.refused) keeper, ap (λ (k : levels.KeeperState). k.shares) keeper))

pub invariant_of-result : goal.invariant_of-result
invariant_of-result c =
    subst (λ (n : ℕ). n ≤ 16) (c.args.self.apps.ok.0 ∙ sym (ap length c.requires.parts.list ∙ length-apps 0 c.args.self.apps.items)) c.requires.few

pub returns-clause-desk : goal.returns-clause-desk
returns-clause-desk c =
    new (record {
      apps = c.over.result;
      handles = record { apps = c.args.self.handles.items; levels = c.in_ok-levels.levels; losses = c.in_ok-losses.losses };
      firsts = c.args.self.firsts.items;
      readers = c.in_ok-levels.readers;
      counters = c.in_ok-losses.counters;
      owners = c.new.result.items;
    }) c.args.self.apps.items c.over.ensures c.requires.parts.handles c.new.ensures
    (ap (λ (k : levels.KeeperState). k.sets) c.in_ok-levels.ensures.keeper) (ap (λ (k : levels.KeeperState). k.first) c.in_ok-levels.ensures.keeper) (ap (λ (k : losses.KeeperState). k.reported) c.in_ok-losses.ensures.keeper)
