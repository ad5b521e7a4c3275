use Rattle.std.proofs.Common.{◌≡◌, ◌-◌, ◌<◌, ◌≤◌, ℕ, None, length}
use Rattle.dl_account.specs.Known.{IsEmpty, IsTold}
use Rattle.dl_registry.specs.Kept.{owed_change}
use Rattle.dl_taking.specs.Draining.{DrainsFirst, MayNote, SameButTaken, claims_left_from, closing_told, closing_took, to_note_from}
use Rattle.dl_turns.specs.Events.{IsDeskOf}
use Rattle.dl_taking.specs.Side.{seen}
use Rattle.dl_taking.proofs.draining.drain_all.Given as goal

-- all was taken of the applications before this one
abbrev pub invariant-loop-app : goal.invariant-loop-app
invariant-loop-app g l = let s = seen g.J.Journal.events g.J.Journal.noted g.J.Journal.spare g.F.Folder.told closing_took closing_told in record {
  drains : DrainsFirst l.fn.closing.apps l.app (s l.fn.core l.fn.journal l.fn.folder l.fn.closing) (s l.core l.journal l.folder l.closing);
  drained : (app : ℕ) → app < l.app → IsEmpty l.closing app × IsTold l.closing app;
  enough : to_note_from l.closing.books (closing_took l.closing) l.app (length l.fn.closing.apps - l.app) ≤ l.left.events;
  claims : claims_left_from l.closing.books (closing_took l.closing) l.app (length l.fn.closing.apps - l.app) ≤ l.left.claims;
  may : MayNote l.left.events l.left.claims (length l.fn.closing.apps - l.app) l.core.hub (g.J.Journal.spare l.journal);
  settled : owed_change l.core.registry ≡ None;
  desk : IsDeskOf l.core.registry (closing_told l.closing);
  same : SameButTaken l.fn.closing l.closing;
}
