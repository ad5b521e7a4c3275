use Rattle.std.proofs.Common.{◌≡◌, length, ap, ◌∙◌, arith}
use Rattle.dl_desk.specs.Handles.{HandlesState}
use Rattle.dl_account.proofs.Gathering.{all_claimers, all_shared, books_fit, closes, firsts_fit, keeps, long_settled, words_fit}
use Rattle.dl_account.proofs.Joined.{AreReady}
use Rattle.dl_account.proofs.closing.gather.Goals as goal

pub join_books-entries-requires-clause-fit : goal.join_books-entries-requires-clause-fit
join_books-entries-requires-clause-fit c =
    let p = c.into_parts-apps.result in
    let parts = c.into_parts-apps.ensures in
    let ready : AreReady c.args.desk c.args.books = record { kept = parts.kept; made = c.requires.made; numbered = c.requires.numbered; all = c.requires.all } in
    books_fit c.args.desk c.args.books ready p.handles p.handles p.handles p.handles p.handles p.handles p.handles p.firsts.items p.readers p.counters parts.handles parts.firsts parts.readers parts.counters

pub join_firsts-requires-clause-fit : goal.join_firsts-requires-clause-fit
join_firsts-requires-clause-fit c =
    let p = c.into_parts-apps.result in
    let parts = c.into_parts-apps.ensures in
    let ready : AreReady c.args.desk c.args.books = record { kept = parts.kept; made = c.requires.made; numbered = c.requires.numbered; all = c.requires.all } in
    firsts_fit c.args.desk c.args.books ready p.handles c.join_books-entries.new.handles c.join_books-entries.new.handles c.join_books-entries.new.handles c.join_books-entries.new.handles c.join_books-entries.new.handles c.join_books-entries.new.handles p.firsts.items p.readers p.counters parts.handles parts.firsts parts.readers parts.counters c.join_books-entries.ensures.handles

pub join_words-requires-clause-levels : goal.join_words-requires-clause-levels
join_words-requires-clause-levels c =
    let p = c.into_parts-apps.result in
    let parts = c.into_parts-apps.ensures in
    let ready : AreReady c.args.desk c.args.books = record { kept = parts.kept; made = c.requires.made; numbered = c.requires.numbered; all = c.requires.all } in
    (words_fit c.args.desk c.args.books ready p.handles c.join_books-entries.new.handles c.join_firsts.new.handles c.join_firsts.new.handles c.join_firsts.new.handles c.join_firsts.new.handles c.join_firsts.new.handles p.firsts.items p.readers p.counters parts.handles parts.firsts parts.readers parts.counters c.join_books-entries.ensures.handles c.join_firsts.ensures).0

pub join_words-requires-clause-claims : goal.join_words-requires-clause-claims
join_words-requires-clause-claims c =
    let p = c.into_parts-apps.result in
    let parts = c.into_parts-apps.ensures in
    let ready : AreReady c.args.desk c.args.books = record { kept = parts.kept; made = c.requires.made; numbered = c.requires.numbered; all = c.requires.all } in
    (words_fit c.args.desk c.args.books ready p.handles c.join_books-entries.new.handles c.join_firsts.new.handles c.join_firsts.new.handles c.join_firsts.new.handles c.join_firsts.new.handles c.join_firsts.new.handles p.firsts.items p.readers p.counters parts.handles parts.firsts parts.readers parts.counters c.join_books-entries.ensures.handles c.join_firsts.ensures).1

pub join_words-requires-clause-losses : goal.join_words-requires-clause-losses
join_words-requires-clause-losses c =
    let p = c.into_parts-apps.result in
    let parts = c.into_parts-apps.ensures in
    let ready : AreReady c.args.desk c.args.books = record { kept = parts.kept; made = c.requires.made; numbered = c.requires.numbered; all = c.requires.all } in
    (words_fit c.args.desk c.args.books ready p.handles c.join_books-entries.new.handles c.join_firsts.new.handles c.join_firsts.new.handles c.join_firsts.new.handles c.join_firsts.new.handles c.join_firsts.new.handles p.firsts.items p.readers p.counters parts.handles parts.firsts parts.readers parts.counters c.join_books-entries.ensures.handles c.join_firsts.ensures).2

pub look_at_handles-requires-clause-there : goal.look_at_handles-requires-clause-there
look_at_handles-requires-clause-there c =
    let p = c.into_parts-apps.result in
    let parts = c.into_parts-apps.ensures in
    let ready : AreReady c.args.desk c.args.books = record { kept = parts.kept; made = c.requires.made; numbered = c.requires.numbered; all = c.requires.all } in
    let r = c.settle.ensures.reads in
    let counts : c.len-count.result ≡ length c.args.desk.apps = c.len-count.ensures ∙ p.firsts.ok.0 ∙ ap length parts.firsts ∙ parts.kept.firsts in
    let long = long_settled c.args.desk c.args.books ready p.handles c.join_books-entries.new.handles c.join_firsts.new.handles c.join_words.new.self c.settle.new.self c.settle.new.self c.settle.new.self p.firsts.items p.readers p.counters parts.handles parts.firsts parts.readers parts.counters c.join_books-entries.ensures.handles c.join_firsts.ensures c.join_words.ensures r.0 r.1 c.len-count.result counts in
    let few = parts.kept.few in
    (omega (arith, counts, few), omega (arith, long))

pub look_at_handles-requires-clause-shares : goal.look_at_handles-requires-clause-shares
look_at_handles-requires-clause-shares c =
    let p = c.into_parts-apps.result in
    let parts = c.into_parts-apps.ensures in
    let ready : AreReady c.args.desk c.args.books = record { kept = parts.kept; made = c.requires.made; numbered = c.requires.numbered; all = c.requires.all } in
    let r = c.settle.ensures.reads in
    let counts : c.len-count.result ≡ length c.args.desk.apps = c.len-count.ensures ∙ p.firsts.ok.0 ∙ ap length parts.firsts ∙ parts.kept.firsts in
    all_claimers c.args.desk c.args.books ready p.handles c.join_books-entries.new.handles c.join_firsts.new.handles c.join_words.new.self c.settle.new.self c.settle.new.self c.settle.new.self p.firsts.items p.readers p.counters parts.handles parts.firsts parts.readers parts.counters c.join_books-entries.ensures.handles c.join_firsts.ensures c.join_words.ensures r.0 r.1 c.len-count.result counts

pub losses_waiting-losses-requires-clause-there : goal.losses_waiting-losses-requires-clause-there
losses_waiting-losses-requires-clause-there c =
    let p = c.into_parts-apps.result in
    let parts = c.into_parts-apps.ensures in
    let ready : AreReady c.args.desk c.args.books = record { kept = parts.kept; made = c.requires.made; numbered = c.requires.numbered; all = c.requires.all } in
    let r = c.settle.ensures.reads in
    let counts : c.len-count.result ≡ length c.args.desk.apps = c.len-count.ensures ∙ p.firsts.ok.0 ∙ ap length parts.firsts ∙ parts.kept.firsts in
    let long = long_settled c.args.desk c.args.books ready p.handles c.join_books-entries.new.handles c.join_firsts.new.handles c.join_words.new.self c.settle.new.self c.look_at_handles.new.handles c.look_at_handles.new.handles p.firsts.items p.readers p.counters parts.handles parts.firsts parts.readers parts.counters c.join_books-entries.ensures.handles c.join_firsts.ensures c.join_words.ensures r.0 r.1 c.len-count.result counts in
    let few = parts.kept.few in
    let same = ap (λ (e : HandlesState). length e.apps) c.look_at_handles.ensures.same in
    (omega (arith, counts, few), omega (arith, long, same))

pub losses_waiting-losses-requires-clause-shares : goal.losses_waiting-losses-requires-clause-shares
losses_waiting-losses-requires-clause-shares c =
    let p = c.into_parts-apps.result in
    let parts = c.into_parts-apps.ensures in
    let ready : AreReady c.args.desk c.args.books = record { kept = parts.kept; made = c.requires.made; numbered = c.requires.numbered; all = c.requires.all } in
    let r = c.settle.ensures.reads in
    let counts : c.len-count.result ≡ length c.args.desk.apps = c.len-count.ensures ∙ p.firsts.ok.0 ∙ ap length parts.firsts ∙ parts.kept.firsts in
    ap (λ (e : HandlesState). e.losses.shares) c.look_at_handles.ensures.same ∙ all_shared c.args.desk c.args.books ready p.handles c.join_books-entries.new.handles c.join_firsts.new.handles c.join_words.new.self c.settle.new.self c.look_at_handles.new.handles c.look_at_handles.new.handles p.firsts.items p.readers p.counters parts.handles parts.firsts parts.readers parts.counters c.join_books-entries.ensures.handles c.join_firsts.ensures c.join_words.ensures r.0 r.1 c.len-count.result counts

pub invariant_of-result : goal.invariant_of-result
invariant_of-result c =
    let p = c.into_parts-apps.result in
    let parts = c.into_parts-apps.ensures in
    let ready : AreReady c.args.desk c.args.books = record { kept = parts.kept; made = c.requires.made; numbered = c.requires.numbered; all = c.requires.all } in
    let r = c.settle.ensures.reads in
    let counts : c.len-count.result ≡ length c.args.desk.apps = c.len-count.ensures ∙ p.firsts.ok.0 ∙ ap length parts.firsts ∙ parts.kept.firsts in
    closes c.args.desk c.args.books ready p.handles c.join_books-entries.new.handles c.join_firsts.new.handles c.join_words.new.self c.settle.new.self c.look_at_handles.new.handles c.losses_waiting-losses.new.handles p.firsts.items p.readers p.counters parts.handles parts.firsts parts.readers parts.counters c.join_books-entries.ensures.handles c.join_firsts.ensures c.join_words.ensures r.0 r.1 c.len-count.result counts c.look_at_handles.ensures.same c.losses_waiting-losses.ensures.same p.apps c.of-seen.result.value parts.apps c.of-seen.ensures
    c.items_waiting-items.result c.losses_waiting-losses.result c.injections_given-injected.result.items c.join_books-entries.result
    c.items_waiting-items.ensures c.losses_waiting-losses.ensures.each c.injections_given-injected.ensures c.join_books-entries.ensures.entries c.join_books-entries.ensures.told c.requires.bases c.join_books-entries.ensures.claimed
    c.settle.ensures.entries c.look_at_handles.ensures.rings c.look_at_handles.ensures.queues c.look_at_handles.ensures.range c.look_at_handles.ensures.given

pub returns-clause-kept : goal.returns-clause-kept
returns-clause-kept c =
    let p = c.into_parts-apps.result in
    let parts = c.into_parts-apps.ensures in
    let ready : AreReady c.args.desk c.args.books = record { kept = parts.kept; made = c.requires.made; numbered = c.requires.numbered; all = c.requires.all } in
    let r = c.settle.ensures.reads in
    let counts : c.len-count.result ≡ length c.args.desk.apps = c.len-count.ensures ∙ p.firsts.ok.0 ∙ ap length parts.firsts ∙ parts.kept.firsts in
    keeps c.args.desk c.args.books ready p.handles c.join_books-entries.new.handles c.join_firsts.new.handles c.join_words.new.self c.settle.new.self c.look_at_handles.new.handles c.losses_waiting-losses.new.handles p.firsts.items p.readers p.counters parts.handles parts.firsts parts.readers parts.counters c.join_books-entries.ensures.handles c.join_firsts.ensures c.join_words.ensures r.0 r.1 c.len-count.result counts c.look_at_handles.ensures.same c.losses_waiting-losses.ensures.same p.apps c.of-seen.result.value parts.apps c.of-seen.ensures
