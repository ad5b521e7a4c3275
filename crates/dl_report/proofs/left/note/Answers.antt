use Rattle.std.proofs.Common.{arith, ◌≡◌, ◌+◌, ◌-◌, false, ◌∷◌, ◌++◌, [], sym, subst, rules}
use Rattle.dl_events.specs.declared.event.Event.{Event}
use Rattle.dl_model.specs.Journal.{is_close, is_connect}
use Rattle.dl_report.specs.Clients.{MayComeOrGo}
use Rattle.dl_report.specs.Following.{IsAfter}
use Rattle.dl_report.specs.declared.waiting.Waiting.{Waiting}
use Rattle.dl_report.proofs.Steps.{after_admitting, after_coming, after_going, may_admit, nothing}
use Rattle.dl_report.proofs.left.note.Goals as goal

pub returns-in-Connect-clause-after : goal.returns-in-Connect-clause-after
returns-in-Connect-clause-after c = λ events may was.
    let shut = subst (MayComeOrGo events) c.in-Connect.is may in
    let after = after_coming c.args.sources.now events c.in-Connect.client c.args.waiting.now shut was in
    subst (λ (w : Waiting). IsAfter c.args.sources.now (events ++ c.args.event.now ∷ []) w) (sym c.come.ensures)
    (subst (λ (e : Event). IsAfter c.args.sources.now (events ++ e ∷ []) (record c.args.waiting.now { clients = c.args.waiting.now.clients + 1; backlog = nothing })) (sym c.in-Connect.is) after)

pub returns-in-Close-clause-after : goal.returns-in-Close-clause-after
returns-in-Close-clause-after c = λ events may was.
    let there = subst (MayComeOrGo events) c.in-Close.is may in
    let after = after_going c.args.sources.now events c.in-Close.client c.in-Close.why c.args.waiting.now there was in
    subst (λ (w : Waiting). IsAfter c.args.sources.now (events ++ c.args.event.now ∷ []) w) (sym c.go.ensures)
    (subst (λ (e : Event). IsAfter c.args.sources.now (events ++ e ∷ []) (record c.args.waiting.now { clients = c.args.waiting.now.clients - 1; backlog = nothing })) (sym c.in-Close.is) after)

pub admit-requires-clause-within : goal.admit-requires-clause-within
admit-requires-clause-within c =
    let comes : is_connect c.args.event.now ≡ false = search rules in
    let goes : is_close c.args.event.now ≡ false = search rules in
    (may_admit c.args.event.now c.args.waiting.now comes goes c.requires.may).0

pub admit-requires-clause-few : goal.admit-requires-clause-few
admit-requires-clause-few c =
    let comes : is_connect c.args.event.now ≡ false = search rules in
    let goes : is_close c.args.event.now ≡ false = search rules in
    let may = may_admit c.args.event.now c.args.waiting.now comes goes c.requires.may in
    omega (arith, may.1, c.admitted_by.ensures.few)

pub returns-in-Log-clause-after : goal.returns-in-Log-clause-after
returns-in-Log-clause-after c = λ events may was.
    let comes : is_connect c.args.event.now ≡ false = search rules in
    let goes : is_close c.args.event.now ≡ false = search rules in
    after_admitting c.args.sources.now events c.args.event.now c.admitted_by.result c.args.waiting.now c.admit.new.self comes goes c.admitted_by.ensures.few c.admit.ensures.count
    c.admit.ensures.limit c.admit.ensures.clients c.admit.ensures.within c.admitted_by.ensures.batch c.admit.ensures.waits was
