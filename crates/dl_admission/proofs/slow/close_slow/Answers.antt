use Rattle.std.proofs.Common.{List, Some, None, length, ap, subst, ◌∙◌, arith}
use Rattle.dl_hub.specs.State.{Hub, IsNextOpen}
use Rattle.dl_hub.proofs.Keeping.{all_take}
use Rattle.dl_core.specs.Admission.{more_noted}
use Rattle.dl_admission.specs.Slow.{Slow}
use Rattle.dl_admission.proofs.Slows.{all_closed, all_taking, arrives, goes_on, nearer, sets_out, settled_now, spare_left}
use Rattle.dl_admission.proofs.slow.close_slow.Goals as goal

pub loop-client-init : goal.loop-client-init
loop-client-init g c = sets_out c.args.need c.args.core.now _ _ _

pub close_if_slow-requires-clause-settled : goal.close_if_slow-requires-clause-settled
close_if_slow-requires-clause-settled g c = settled_now c.loop-client.invariant c.requires.settled

pub close_if_slow-requires-clause-spare : goal.close_if_slow-requires-clause-spare
close_if_slow-requires-clause-spare g c =
    let next = subst (λ (h : Hub). IsNextOpen h c.loop-client.after (Some c.in-Some.client)) c.hub.ensures c.in-Some.ensures in
    spare_left c.loop-client.invariant c.in-Some.client next.1 c.requires.spare

pub loop-client-smaller : goal.loop-client-smaller
loop-client-smaller g c =
    let next = subst (λ (h : Hub). IsNextOpen h c.loop-client.after (Some c.in-Some.client)) c.hub.ensures c.in-Some.ensures in
    let one = c.close_if_slow.ensures in
    nearer c.loop-client.invariant (goes_on c.args.need c.loop-client.after c.in-Some.client _ _ _ _ _ _ _ _ _ _ _ _ c.loop-client.invariant next one.closes one.noted one.spare) next

pub loop-client-preserved : goal.loop-client-preserved
loop-client-preserved g c =
    let next = subst (λ (h : Hub). IsNextOpen h c.loop-client.after (Some c.in-Some.client)) c.hub.ensures c.in-Some.ensures in
    let one = c.close_if_slow.ensures in
    goes_on c.args.need c.loop-client.after c.in-Some.client _ _ _ _ _ _ _ _ _ _ _ _ c.loop-client.invariant next one.closes one.noted one.spare

pub returns-clause-closes : goal.returns-clause-closes
returns-clause-closes g c =
    let none = subst (λ (h : Hub). IsNextOpen h c.loop-client.after None) c.hub.ensures c.in_default.ensures in
    arrives c.loop-client.invariant none

pub returns-clause-room : goal.returns-clause-room
returns-clause-room g c =
    let none = subst (λ (h : Hub). IsNextOpen h c.loop-client.after None) c.hub.ensures c.in_default.ensures in
    all_take c.args.need c.loop-client.core.hub (all_taking c.args.need c.loop-client.after c.loop-client.core.hub c.loop-client.invariant.taking none)

pub returns-clause-open : goal.returns-clause-open
returns-clause-open g c =
    let none = subst (λ (h : Hub). IsNextOpen h c.loop-client.after None) c.hub.ensures c.in_default.ensures in
    let all = all_closed c.loop-client.invariant (all_taking c.args.need c.loop-client.after c.loop-client.core.hub c.loop-client.invariant.taking none) in
    omega (arith, c.loop-client.invariant.open_so, ap (λ (s : List Slow). length s) all)

pub returns-clause-noted : goal.returns-clause-noted
returns-clause-noted g c =
    let none = subst (λ (h : Hub). IsNextOpen h c.loop-client.after None) c.hub.ensures c.in_default.ensures in
    let all = all_closed c.loop-client.invariant (all_taking c.args.need c.loop-client.after c.loop-client.core.hub c.loop-client.invariant.taking none) in
    c.loop-client.invariant.noted_so ∙ ap (λ (s : List Slow). more_noted (length s) (g.J.Journal.noted c.args.journal.now)) all

pub returns-clause-spare : goal.returns-clause-spare
returns-clause-spare g c =
    let none = subst (λ (h : Hub). IsNextOpen h c.loop-client.after None) c.hub.ensures c.in_default.ensures in
    let all = all_closed c.loop-client.invariant (all_taking c.args.need c.loop-client.after c.loop-client.core.hub c.loop-client.invariant.taking none) in
    omega (arith, c.loop-client.invariant.spare_so, ap (λ (s : List Slow). length s) all)
