use Rattle.std.proofs.Common.{List, ℕ, length, ap, sym, subst, ◌∙◌, arith}
use Rattle.dl_message.specs.Frames.{log_message}
use Rattle.dl_hub.specs.State.{EachHasRoom}
use Rattle.dl_core.specs.State.{Core}
use Rattle.dl_admission.specs.Part.{part}
use Rattle.dl_admission.specs.Slow.{ClosesSlow}
use Rattle.dl_admission.proofs.Entries.{log_admits, settled_behind, uses_one}
use Rattle.dl_admission.proofs.calls.log_one.Goals as goal

pub log-requires-clause-settled : goal.log-requires-clause-settled
log-requires-clause-settled g c = settled_behind c.log_need-need.result _ _ (c.close_slow.ensures.closes (g.F.Folder.told c.args.folder.now)) c.requires.settled

pub log-requires-clause-room : goal.log-requires-clause-room
log-requires-clause-room g c =
    let closes = c.close_slow.ensures.closes (g.F.Folder.told c.args.folder.now) in
    let ecu = ap (λ (k : Core). k.ecu) closes.core in
    subst (λ (n : ℕ). EachHasRoom n c.close_slow.new.core.hub) (c.log_need-need.ensures ∙ ap (λ (e : List ℕ). length (log_message e c.args.item.now)) (sym ecu)) c.close_slow.ensures.room

pub log-requires-clause-few : goal.log-requires-clause-few
log-requires-clause-few g c =
    let closes = c.close_slow.ensures.closes (g.F.Folder.told c.args.folder.now) in
    omega (arith, c.requires.few, ap (λ (k : Core). k.hub.admitted) closes.core)

pub returns-clause-logs : goal.returns-clause-logs
returns-clause-logs g c =
    let told = g.F.Folder.told c.args.folder.now in
    log_admits c.args.item.now c.args.moment (part c.args.core.now (g.J.Journal.events c.args.journal.now) told) (part c.close_slow.new.core (g.J.Journal.events c.close_slow.new.journal) told) _
    c.requires.settled
    (subst (λ (n : ℕ). ClosesSlow n (part c.args.core.now (g.J.Journal.events c.args.journal.now) told) (part c.close_slow.new.core (g.J.Journal.events c.close_slow.new.journal) told))
    c.log_need-need.ensures (c.close_slow.ensures.closes told))
    c.log.ensures.notes c.log.ensures.rest

pub returns-clause-uses : goal.returns-clause-uses
returns-clause-uses g c = uses_one _ _ c.close_slow.new.core.hub _ _ _ _ _ _ _ c.close_slow.ensures.open c.close_slow.ensures.noted c.close_slow.ensures.spare c.log.ensures.notes.still_open c.log.ensures.noted c.log.ensures.spare
