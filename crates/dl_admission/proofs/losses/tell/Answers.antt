use Rattle.std.proofs.Common.{◌≡◌, ◌+◌, ℕ, List, length, false, eqb, ap, sym, subst, ◌∙◌, arith}
use Rattle.std.proofs.lemmas.Bool.Decides.{nat_tests}
use Rattle.dl_model.specs.Backlog.{size_of}
use Rattle.dl_hub.specs.State.{EachHasRoom}
use Rattle.dl_core.specs.Admission.{lost_frames}
use Rattle.dl_core.specs.State.{Core}
use Rattle.dl_admission.specs.Admission.{Uses}
use Rattle.dl_admission.specs.Part.{part}
use Rattle.dl_admission.specs.Slow.{ClosesSlow}
use Rattle.dl_admission.proofs.Entries.{lost_admits, one_loss, settled_behind, tells_none, uses_one}
use Rattle.dl_admission.proofs.losses.tell.Goals as goal

pub returns-then-count-eq0-clause-tells : goal.returns-then-count-eq0-clause-tells
returns-then-count-eq0-clause-tells g c = tells_none c.args.app c.args.apid c.args.count c.args.moment _ c.if-count-eq0.true

pub lost-requires-clause-settled : goal.lost-requires-clause-settled
lost-requires-clause-settled g c = settled_behind c.lost_need-need.result _ _ (c.close_slow.ensures.closes (g.F.Folder.told c.args.folder.now)) c.requires.settled

pub lost-requires-clause-room : goal.lost-requires-clause-room
lost-requires-clause-room g c =
    let closes = c.close_slow.ensures.closes (g.F.Folder.told c.args.folder.now) in
    let ecu = ap (λ (k : Core). k.ecu) closes.core in
    subst (λ (n : ℕ). EachHasRoom n c.close_slow.new.core.hub)
    (c.lost_need-need.ensures c.args.apid c.bytes-apid.ensures.len ∙ ap (λ (e : List ℕ). size_of (lost_frames e c.args.apid c.args.count)) (sym ecu)) c.close_slow.ensures.room

pub lost-requires-clause-few : goal.lost-requires-clause-few
lost-requires-clause-few g c =
    let closes = c.close_slow.ensures.closes (g.F.Folder.told c.args.folder.now) in
    omega (arith, c.requires.few, ap (λ (k : Core). k.hub.admitted + length (lost_frames k.ecu c.args.apid c.args.count)) closes.core)

pub returns-clause-tells : goal.returns-clause-tells
returns-clause-tells g c =
    let told = g.F.Folder.told c.args.folder.now in
    let some : eqb c.args.count 0 ≡ false = grind (arith, nat_tests, c.if-count-eq0.false) in
    lost_admits c.args.app c.args.apid c.args.count c.args.moment (part c.args.core.now (g.J.Journal.events c.args.journal.now) told)
    (part c.close_slow.new.core (g.J.Journal.events c.close_slow.new.journal) told) _ some c.requires.settled
    (subst (λ (n : ℕ). ClosesSlow n (part c.args.core.now (g.J.Journal.events c.args.journal.now) told) (part c.close_slow.new.core (g.J.Journal.events c.close_slow.new.journal) told))
    (c.lost_need-need.ensures c.args.apid c.bytes-apid.ensures.len) (c.close_slow.ensures.closes told))
    c.lost.ensures.notes c.lost.ensures.rest

pub returns-clause-uses : goal.returns-clause-uses
returns-clause-uses g c =
    let some : eqb c.args.count 0 ≡ false = grind (arith, nat_tests, c.if-count-eq0.false) in
    subst (λ (n : ℕ). Uses n c.args.core.now.hub c.lost.new.self.hub (g.J.Journal.noted c.args.journal.now) (g.J.Journal.noted c.lost.new.journal)
    (g.J.Journal.spare c.args.journal.now) (g.J.Journal.spare c.lost.new.journal)) (sym (one_loss c.args.core.now.ecu c.args.app c.args.apid c.args.count c.args.moment some))
    (uses_one _ _ c.close_slow.new.core.hub _ _ _ _ _ _ _ c.close_slow.ensures.open c.close_slow.ensures.noted c.close_slow.ensures.spare c.lost.ensures.notes.still_open c.lost.ensures.noted c.lost.ensures.spare)
