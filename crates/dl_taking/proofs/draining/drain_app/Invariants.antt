use Rattle.std.proofs.Common.{◌≡◌, ◌+◌, ◌≤◌, ℕ, None}
use Rattle.dl_registry.specs.Kept.{owed_change}
use Rattle.dl_taking.specs.Draining.{MayNote, SameButTaken, TakesOn, calls_left, claims_left, closing_told, closing_took}
use Rattle.dl_turns.specs.Events.{IsDeskOf}
use Rattle.dl_taking.specs.Side.{seen}
use Rattle.dl_taking.proofs.draining.drain_app.Given as goal

-- so many batches were taken
abbrev pub invariant-loop : goal.invariant-loop
invariant-loop g l = let s = seen g.J.Journal.events g.J.Journal.noted g.J.Journal.spare g.F.Folder.told closing_took closing_told in record {
  count : ℕ;
  takes : TakesOn l.fn.app count (s l.fn.core l.fn.journal l.fn.folder l.fn.closing) (s l.core l.journal l.folder l.closing);
  enough : calls_left l.closing.books (closing_took l.closing) l.fn.app ≤ l.left.events;
  claims : claims_left l.closing.books (closing_took l.closing) l.fn.app ≤ l.left.claims;
  used : l.left.events + calls_left l.fn.closing.books (closing_took l.fn.closing) l.fn.app ≡ l.fn.left.events + calls_left l.closing.books (closing_took l.closing) l.fn.app;
  claims_used : l.left.claims + claims_left l.fn.closing.books (closing_took l.fn.closing) l.fn.app ≡ l.fn.left.claims + claims_left l.closing.books (closing_took l.closing) l.fn.app;
  may : (reports : ℕ) → MayNote l.fn.left.events l.fn.left.claims reports l.fn.core.hub (g.J.Journal.spare l.fn.journal) → MayNote l.left.events l.left.claims reports l.core.hub (g.J.Journal.spare l.journal);
  settled : owed_change l.core.registry ≡ None;
  desk : IsDeskOf l.core.registry (closing_told l.closing);
  same : SameButTaken l.fn.closing l.closing;
}

abbrev pub decreases-loop : goal.decreases-loop
decreases-loop g l = l.left.events + l.left.claims
