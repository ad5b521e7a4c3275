use Rattle.std.proofs.Common.{refl, subst, arith}
use Rattle.dl_bytes.specs.Claim.{Claimed}
use Rattle.dl_registry.specs.Kept.{Claims}
use Rattle.dl_core.specs.Noting.{NotesClaim}
use Rattle.dl_turns.specs.State.{side}
use Rattle.dl_taking.specs.Takes.{owed_by, owned_claim}
use Rattle.dl_taking.proofs.Claims.{desk_claimed, none_wait, noted_both, owed_waits}
use Rattle.dl_taking.proofs.claiming.note_claim.Goals as goal

pub note_levels-requires-clause-desk : goal.note_levels-requires-clause-desk
note_levels-requires-clause-desk g c = desk_claimed c.own_claim.result c.args.core.now.registry c.claim.new.self.registry (g.D.WriterControl.told c.args.desk.now) c.claim.ensures.claims c.requires.desk

pub returns-clause-notes : goal.returns-clause-notes
returns-clause-notes g c = λ folder. record {
  settled = c.requires.settled;
  between = side c.claim.new.self (g.D.WriterControl.told c.args.desk.now) (g.J.Journal.events c.claim.new.journal) folder;
  notes = subst (λ (claim : Claimed). NotesClaim c.args.moment claim c.args.core.now c.claim.new.self (g.J.Journal.events c.args.journal.now) (g.J.Journal.events c.claim.new.journal)) c.own_claim.ensures
      c.claim.ensures.notes;
  claims = subst (λ (claim : Claimed). Claims claim c.args.core.now.registry c.claim.new.self.registry) c.own_claim.ensures c.claim.ensures.claims;
  core = c.claim.ensures.rest;
  folder = refl;
  desk = refl;
  levels = c.note_levels.ensures.levels folder;
}

pub returns-clause-noted : goal.returns-clause-noted
returns-clause-noted g c =
    let claims = subst (λ (claim : Claimed). Claims claim c.args.core.now.registry c.claim.new.self.registry) c.own_claim.ensures c.claim.ensures.claims in
    let own = owned_claim c.args.app c.args.claim.now in
    noted_both (owed_by own c.args.core.now.registry) _ _ _ _ _ (owed_waits own c.args.core.now.registry c.claim.new.self.registry claims)
    (none_wait c.note_levels.new.core.registry c.note_levels.ensures.settled) c.claim.ensures.noted c.note_levels.ensures.noted

pub returns-clause-spare : goal.returns-clause-spare
returns-clause-spare g c =
    let claims = subst (λ (claim : Claimed). Claims claim c.args.core.now.registry c.claim.new.self.registry) c.own_claim.ensures c.claim.ensures.claims in
    let many = owed_waits (owned_claim c.args.app c.args.claim.now) c.args.core.now.registry c.claim.new.self.registry claims in
    let none = none_wait c.note_levels.new.core.registry c.note_levels.ensures.settled in
    omega (arith, many, none, c.claim.ensures.spare, c.note_levels.ensures.spare)
