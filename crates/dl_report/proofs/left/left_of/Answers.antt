use Rattle.std.proofs.Common.{◌≡◌, ◌<◌, ◌++◌, ◌+◌, ◌∷◌, [], ℕ, take, length, arith, length-take, sym, ap, subst, ◌∙◌, List}
use Rattle.std.specs.Prelude.{◌^◌}
use Rattle.std.proofs.lemmas.List.{take_all, take_more}
use Rattle.dl_events.specs.declared.event.Event.{Event}
use Rattle.dl_model.specs.Backlog.{waiting}
use Rattle.dl_model.specs.ClientStream.{traffic}
use Rattle.dl_model.specs.WholeAccounts.{source_of_records}
use Rattle.dl_report.specs.Following.{IsAfter}
use Rattle.dl_report.specs.Keeping.{kept}
use Rattle.dl_report.specs.Losses.{told, told_in}
use Rattle.dl_report.specs.declared.waiting.Waiting.{Waiting}
use Rattle.dl_report.proofs.Steps.{in_turn, may_note, told_so_far}
use Rattle.dl_report.proofs.left.left_of.Goals as goal

pub note-requires-clause-may : goal.note-requires-clause-may
note-requires-clause-may c =
    let i = c.loop-event.event-index in
    let one_more : take (i + 1) c.args.events.now ≡ take i c.args.events.now ++ c.event-item.result ∷ [] = rw c.event-item.is (take_more c.args.events.now i c.event-item.result c.loop-event-test.true) in
    let short : length (take i c.args.events.now) + 1 < 2 ^ 63 = omega (arith, length-take i c.args.events.now, c.loop-event-test.true) in
    let few : told (take i c.args.events.now) + told_in c.event-item.result < 2 ^ 63 = omega (arith, c.requires.losses, told_so_far c.args.events.now i c.event-item.result c.loop-event-test.true one_more) in
    may_note _ (take i c.args.events.now) c.event-item.result c.loop-event.waiting short few (in_turn c.args.events.now i c.event-item.result c.requires.clients c.loop-event-test.true one_more) c.loop-event.invariant.after

pub loop-event-preserved : goal.loop-event-preserved
loop-event-preserved c =
    let i = c.loop-event.event-index in
    let one_more : take (i + 1) c.args.events.now ≡ take i c.args.events.now ++ c.event-item.result ∷ [] = rw c.event-item.is (take_more c.args.events.now i c.event-item.result c.loop-event-test.true) in
    let turn = in_turn c.args.events.now i c.event-item.result c.requires.clients c.loop-event-test.true one_more in
    record {
      after = subst (λ (es : List Event). IsAfter (record { records = c.args.records; specs = c.args.specs; ecu = c.args.ecu }) es c.note.new.waiting) (sym one_more) (c.note.ensures.after (take i c.args.events.now) turn c.loop-event.invariant.after);
      limit = c.note.ensures.limit ∙ c.loop-event.invariant.limit;
    }

pub returns : goal.returns
returns c = λ setting same.
    let source = source_of_records setting c.args.records.now c.args.specs.now in
    let all : take c.loop-event.event-index c.args.events.now ≡ c.args.events.now = take_all c.loop-event.event-index c.args.events.now c.loop-event-test.false in
    let limit : c.loop-event.waiting.limit ≡ c.args.buffer = c.loop-event.invariant.limit ∙ ap (λ (w : Waiting). w.limit) c.new-waiting.ensures in
    c.loop-event.invariant.after.waits setting same ∙ ap (λ (n : ℕ). kept n (waiting (traffic source (take c.loop-event.event-index c.args.events.now)))) limit
    ∙ ap (λ (es : List Event). kept c.args.buffer (waiting (traffic source es))) all
