use Rattle.std.proofs.Common.{ℕ, List, ◌++◌, length, refl, sym, ap, ◌∙◌}
use Rattle.dl_sessions.specs.Stream.{end_of}
use Rattle.dl_trace_why.specs.Reading.{within_words}
use Rattle.dl_trace_why.specs.declared.reading.Reading.{Reading}
use Rattle.dl_trace_why.proofs.Telling.{ended_whole, ended_within}
use Rattle.dl_trace_why.proofs.reading.end_file.Goals as goal

pub returns-in-Whole : goal.returns-in-Whole
returns-in-Whole c = λ before bytes follows.
    let old = c.args.reading.now in
    let new : Reading = record old { follower = c.close.new.self } in
    ended_whole c.args.label.now bytes before old new (c.close.ensures before bytes follows) (ap end_of (sym c.rest-rest.ensures) ∙ sym c.end_of.ensures ∙ c.in-Whole.is) refl

pub returns-in_ok-push_within-in-Within : goal.returns-in_ok-push_within-in-Within
returns-in_ok-push_within-in-Within c = λ before bytes follows.
    let old = c.args.reading.now in
    let new : Reading = record { follower = c.close-in-Within.new.self; ends = c.push_within.new.text } in
    ended_within c.args.label.now bytes before old new (c.close-in-Within.ensures before bytes follows) (ap end_of (sym c.rest-rest.ensures) ∙ sym c.end_of.ensures ∙ c.in-Within.is)
    (c.in_ok-push_within-in-Within.ensures ∙ ap (λ (l : List ℕ). old.ends.items ++ within_words c.args.label.now (length l)) c.rest-rest.ensures)
