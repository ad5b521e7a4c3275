use Rattle.std.proofs.Common.{[], ◌∷◌, ◌++◌, refl, sym, subst}
use Rattle.std.proofs.lemmas.Result.{on_ok_weaker}
use Rattle.dl_sessions.specs.Account.{IsAfter}
use Rattle.dl_sessions.specs.declared.account.Account.{Account}
use Rattle.dl_sessions.specs.declared.session.Told.{Told}
use Rattle.dl_sessions.proofs.Accounts.{reported, passed_by, unstored_by}
use Rattle.dl_sessions.proofs.account.Account.add.Goals as goal

pub returns-in-Lost : goal.returns-in-Lost
returns-in-Lost c = λ stream after.
    let old = c.args.self.now in
    let new : Account = record old { applications = c.note_report.new.self; messages = c.saturating_add-self.result } in
    on_ok_weaker c.note_report.result (λ told. subst (λ (t : Told). IsAfter (stream ++ t ∷ []) new) (sym c.in-Lost.is)
    (reported stream c.in-Lost.report old new after told (λ k. k) (λ k. k) refl refl c.saturating_add-self.ensures)) (c.note_report.ensures stream after.applications_are)

pub returns-in-Unstored : goal.returns-in-Unstored
returns-in-Unstored c = λ stream after.
    let old = c.args.self.now in
    let new : Account = record old { messages = c.saturating_add-self-in-Unstored.result } in
    subst (λ (t : Told). IsAfter (stream ++ t ∷ []) new) (sym c.in-Unstored.is)
    (unstored_by stream c.in-Unstored.field-0 old new after (λ k. k) (λ k. k) (λ k. k) refl refl c.saturating_add-self-in-Unstored.ensures)

pub returns-in-Other : goal.returns-in-Other
returns-in-Other c = λ stream after.
    let old = c.args.self.now in
    let new : Account = record old { messages = c.saturating_add-self-in-Other.result } in
    subst (λ (t : Told). IsAfter (stream ++ t ∷ []) new) (sym c.in-Other.is)
    (passed_by stream old new after (λ k. k) (λ k. k) (λ k. k) refl refl c.saturating_add-self-in-Other.ensures)
