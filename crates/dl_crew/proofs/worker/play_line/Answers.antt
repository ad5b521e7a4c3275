use Rattle.std.proofs.Common.{◌≡◌, ℕ, List, [], None, Some, replicate, refl, subst, sym, ◌∙◌}
use Rattle.std.proofs.lemmas.List.{length-replicate}
use Rattle.dl_bytes.specs.Context.{Context}
use Rattle.dl_writer.specs.Claiming.{KeepsRegistered}
use Rattle.dl_crew.specs.Calls.{calls_in, content, register_in}
use Rattle.dl_crew.proofs.PlayedLines.{claims_alone, line_of_calls, line_of_claim, room_for_calls}
use Rattle.dl_crew.proofs.Played.{makes_none}
use Rattle.dl_crew.proofs.worker.play_line.Goals as goal

pub make_calls-requires-clause-room : goal.make_calls-requires-clause-room
make_calls-requires-clause-room g c =
    let calls = c.in-Some-asked_calls.calls in
    room_for_calls c.all.result.now c.args.work.now.own c.app-app.result c.number-number.result c.args.work.now.book.writer.push.number calls.count c.args.line.now
    (replicate calls.count (content calls.ctx calls.severity calls.payload)) c.args.work.now.book c.number-number.ensures.value c.in-Some-asked_calls.ensures.calls
    (length-replicate calls.count (content calls.ctx calls.severity calls.payload)) c.requires.room

pub returns-in-Some-clause-played : goal.returns-in-Some-clause-played
returns-in-Some-clause-played g c =
    let old = c.args.work.now.book in
    let contexts = c.args.plan.now.contexts in
    let own = c.args.work.now.own in
    let entry = c.args.line.now in
    let asked = c.in-Some.asked.now in
    let asks = subst (λ (n : ℕ). Some asked ≡ register_in n entry) c.number.ensures.value c.in-Some.ensures in
    let kept = subst (λ (text : List ℕ). KeepsRegistered old asked.ctid asked.level text c.in_ok-ctx.ctx c.register.new.self) c.bytes.ensures.value c.in_ok-ctx.ensures.registered in
    line_of_claim old c.register.new.self asked c.in_ok-ctx.ctx c.in_ok-ctx.ensures.whole kept contexts own c.add.new.self entry (sym asks) c.add.ensures
    (claims_alone contexts own old.writer.app old.writer.push.number entry asked (sym asks))

pub returns-in_default-asked_calls-clause-played : goal.returns-in_default-asked_calls-clause-played
returns-in_default-asked_calls-clause-played g c =
    let old = c.args.work.now.book in
    let own = c.args.work.now.own in
    let entry = c.args.line.now in
    let app = c.app-app.result in
    let number = c.number-number.result in
    let none = subst (λ (n : ℕ). None ≡ register_in n entry) (c.number.ensures.value ∙ sym c.number-number.ensures.value) c.in_default.ensures in
    let said = subst (λ (contexts : List Context). [] ≡ calls_in contexts own app number entry) c.all.ensures c.in_default-asked_calls.ensures.calls in
    line_of_calls c.args.plan.now.contexts own own entry old old app number [] refl c.app-app.ensures.value c.number-number.ensures.value (sym none) said (makes_none old)
