use Rattle.std.proofs.Common.{sym, ap, subst, ◌∙◌}
use Rattle.std.specs.Prelude.{◌≡◌, IfOk, List}
use Rattle.dl_picture.specs.Picture.{Chart, picture}
use Rattle.dl_sessions.specs.Account.{IsAfter}
use Rattle.dl_sessions.specs.declared.account.Account.{Account}
use Rattle.dl_sessions.specs.declared.session.Told.{Told}
use Rattle.dl_timeline.specs.Timeline.{timeline}
use Rattle.dl_trace_why.proofs.writing.picture_of.Goals as goal

pub returns : goal.returns
returns c = λ stream at.
    let same = c.in-Some.ensures stream at in
    let account = c.account.result.now in
    let after = subst (λ (s : List Told). IsAfter s account) (sym same) (subst (λ (a : Account). IsAfter stream a) (sym c.account.ensures) at.counted.account_is) in
    subst (λ (chart : Chart). IfOk c.draw.result (λ text. text.items ≡ picture chart)) (c.in_ok-shown.ensures after ∙ ap timeline same) c.draw.ensures
