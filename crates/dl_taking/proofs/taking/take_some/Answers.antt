use Rattle.std.proofs.Common.{ℕ, Bool, nat_lt, List, length, map, refl, ap, sym, ◌∙◌, subst}
use Rattle.dl_bytes.specs.declared.item.Item.{Item}
use Rattle.dl_ring.specs.declared.item.RingItem.TheVariants.{Log}
use Rattle.dl_admission.specs.Admission.{Logs, Uses}
use Rattle.dl_admission.specs.Part.{part}
use Rattle.dl_taking.specs.Side.{Side}
use Rattle.dl_taking.specs.Took.{empties_now, with_items}
use Rattle.dl_taking.proofs.Steps.{none_claimed, none_unclaimed, takes_calls, takes_claim, with_claim_behind}
use Rattle.dl_taking.proofs.taking.take_some.Goals as goal

pub returns-in-Some-clause-takes : goal.returns-in-Some-clause-takes
returns-in-Some-clause-takes g c =
    let was = part c.args.core.now (g.J.Journal.events c.args.journal.now) (g.F.Folder.told c.args.folder.now) in
    let now = part c.log_items.new.core (g.J.Journal.events c.log_items.new.journal) (g.F.Folder.told c.log_items.new.folder) in
    let fills = c.in-Some.ensures.fills in
    let one = c.note_claim.ensures in
    let between : Side = record {
      part = now;
      took = with_items c.args.app (map Log fills.items) (g.D.CallSource.took c.args.desk.now);
      desk = g.D.WriterControl.told c.fill-claim.new.desk;
      noted = g.J.Journal.noted c.log_items.new.journal;
      spare = g.J.Journal.spare c.log_items.new.journal;
    } in
    takes_claim c.args.app c.args.most c.now-moment.result c.fill-claim.new.batch _ c.in-Some.claim _ _ between _ c.len-calls.ensures refl fills refl
    (subst (λ (xs : List Item). Logs c.now-moment.result xs was now) c.items.ensures c.log_items.ensures.logs)
    (subst (λ (xs : List Item). Uses (length xs) c.args.core.now.hub c.log_items.new.core.hub (g.J.Journal.noted c.args.journal.now) (g.J.Journal.noted c.log_items.new.journal)
    (g.J.Journal.spare c.args.journal.now) (g.J.Journal.spare c.log_items.new.journal)) c.items.ensures c.log_items.ensures.uses) c.fill-claim.ensures.told (record {
      claim = c.in-Some.claim;
      took = g.met.D.CallSource.rest_took c.fill-claim.new.desk c.note_claim.new.desk one.rest ∙ with_claim_behind c.args.app c.args.most c.in-Some.claim _ _ c.fill-claim.new.batch fills;
      notes = one.notes (g.F.Folder.told c.log_items.new.folder);
      few = one.few;
      noted_so = one.noted;
      spare_so = one.spare;
    })

pub returns-in-None-clause-takes : goal.returns-in-None-clause-takes
returns-in-None-clause-takes g c =
    let was = part c.args.core.now (g.J.Journal.events c.args.journal.now) (g.F.Folder.told c.args.folder.now) in
    let now = part c.log_items.new.core (g.J.Journal.events c.log_items.new.journal) (g.F.Folder.told c.log_items.new.folder) in
    takes_calls c.args.app c.args.most c.now-moment.result c.fill-claim.new.batch _ _ _ c.len-calls.ensures refl c.in-None.ensures.fills
    (subst (λ (xs : List Item). Logs c.now-moment.result xs was now) c.items.ensures c.log_items.ensures.logs)
    (subst (λ (xs : List Item). Uses (length xs) c.args.core.now.hub c.log_items.new.core.hub (g.J.Journal.noted c.args.journal.now) (g.J.Journal.noted c.log_items.new.journal)
    (g.J.Journal.spare c.args.journal.now) (g.J.Journal.spare c.log_items.new.journal)) c.items.ensures c.log_items.ensures.uses) c.fill-claim.ensures.told

pub returns-in-Some-clause-empties : goal.returns-in-Some-clause-empties
returns-in-Some-clause-empties g c =
    g.met.D.CallSource.rest_empties c.fill-claim.new.desk c.note_claim.new.desk c.note_claim.ensures.rest ∙ c.in-Some.ensures.empties
    ∙ ap (λ (b : Bool). empties_now c.args.app b (g.D.CallSource.empties c.args.desk.now)) (sym (none_claimed c.args.most c.len-calls.result))

pub returns-in-None-clause-empties : goal.returns-in-None-clause-empties
returns-in-None-clause-empties g c =
    c.in-None.ensures.empties
    ∙ ap (λ (b : Bool). empties_now c.args.app b (g.D.CallSource.empties c.args.desk.now))
    (ap (λ (n : ℕ). nat_lt n c.args.most) (sym c.len-calls.ensures) ∙ sym (none_unclaimed c.args.most c.len-calls.result))
