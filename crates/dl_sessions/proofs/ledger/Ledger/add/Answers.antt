use Rattle.dl_sessions.specs.declared.ledger.Ledger.{Ledger}
use Rattle.dl_sessions.proofs.Noting.{ledger_noted}
use Rattle.dl_sessions.proofs.ledger.Ledger.add.Goals as goal

pub returns : goal.returns
returns c = λ stream is.
    let new : Ledger = record { kept = c.note.new.kept; text = c.note.new.text; messages = c.saturating_add-self.result } in
    ledger_noted stream c.args.told.now c.args.self.now new is c.saturating_add-self.ensures (λ before keeps at. c.in_ok-note.ensures before keeps at)
