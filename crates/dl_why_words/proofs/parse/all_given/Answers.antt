use Rattle.std.proofs.Common.{map, ap, ◌∙◌}
use Rattle.std.specs.Borrow.{Bor}
use Rattle.clap.proofs.WalkLemmas.{raw_values-rows}
use Rattle.clap.specs.Matches.{found_of}
use Rattle.clap.specs.Walk.{Text, all_of, rows_of}
use Rattle.dl_why_words.proofs.Said.{made_so, none_there, texts_there}
use Rattle.dl_why_words.proofs.parse.all_given.Goals as goal

pub returns-in-Some : goal.returns-in-Some
returns-in-Some c =
    let there = texts_there (all_of c.args.id.now (rows_of (found_of c.args.matches.now))) c.get_strs.result c.in-Some.texts
    (c.get_strs.ensures ∙ raw_values-rows (found_of c.args.matches.now) c.args.id.now) c.in-Some.is in
    made_so c.from_slice.result _ _ (λ v is. ap (map (λ (t : Bor Text). t.now)) is ∙ there) c.from_slice.ensures.items

pub returns-in-None : goal.returns-in-None
returns-in-None c =
    ap (map (λ (v : Bor Text). v.now)) c.new.ensures.items
    ∙ none_there (all_of c.args.id.now (rows_of (found_of c.args.matches.now))) c.get_strs.result (c.get_strs.ensures ∙ raw_values-rows (found_of c.args.matches.now) c.args.id.now) c.in-None.is
