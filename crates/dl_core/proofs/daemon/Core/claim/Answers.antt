use Rattle.std.proofs.Common.{ap, subst, ◌∙◌}
use Rattle.dl_registry.specs.Kept.{owed_change}
use Rattle.dl_core.specs.Noting.{NotesClaim}
use Rattle.dl_core.specs.State.{Core}
use Rattle.dl_core.proofs.Claimed.{claim_notes}
use Rattle.dl_core.proofs.Leveled.{claim_waits}
use Rattle.dl_core.proofs.Noted.{added_one}
use Rattle.dl_core.proofs.Parts.{core_of}
use Rattle.dl_core.proofs.daemon.Core.claim.Goals as goal

pub returns-clause-notes : goal.returns-clause-notes
returns-clause-notes g c =
    let i = c.self.inside in
    let old = core_of i.ecu i.level i.injection i.software i.registry i.hub i.trace in
    let new = core_of i.ecu i.level i.injection i.software c.claim.new.self i.hub i.trace in
    let past = g.J.Journal.events c.args.journal.now in
    let present = g.J.Journal.events c.note.new.self in
    subst (λ (k : Core). NotesClaim c.args.moment c.args.claim.now k new past present) c.self.view_is
    (claim_notes c.args.claim.now c.args.moment old c.claim.new.self past present c.claim.ensures
    (added_one past present _ _ c.claimed.ensures c.note.ensures.events))

pub returns-clause-waits : goal.returns-clause-waits
returns-clause-waits g c =
    claim_waits c.args.claim.now c.self.inside.registry c.claim.new.self c.slots_are_apart.ensures.order
    (ap (λ (core : Core). owed_change core.registry) c.self.view_is ∙ c.requires.settled) c.claim.ensures
