use Rattle.std.proofs.Common.{List, ◌++◌, ap, ◌∙◌}
use Rattle.std.specs.List.{flat_map}
use Rattle.std.proofs.lemmas.Result.{on_ok_weaker}
use Rattle.dl_sessions.specs.declared.session.Hole.{Hole}
use Rattle.dl_sessions.specs.declared.session.Session.{Session}
use Rattle.dl_sessions.specs.Printing.{hole_by, session_by}
use Rattle.dl_sessions.proofs.Lines.{lines_are}
use Rattle.dl_sessions.proofs.account.Account.print.Goals as goal

pub returns : goal.returns
returns c = λ stream after.
    let account = c.args.self.now in
    let text = c.args.text.now.items in
    let first = c.push_holes.new.text.items in
    let second = c.push_sessions.new.text.items in
    on_ok_weaker c.push_applications.result (lines_are stream account after text first second c.push_applications.new.text.items
    (c.in_ok-push_holes.ensures ∙ ap (λ (hs : List Hole). text ++ flat_map (hole_by account.totals account.applications) hs) c.deref.ensures.value)
    (c.in_ok-push_sessions.ensures ∙ ap (λ (ss : List Session). first ++ flat_map (session_by account.totals) ss) c.deref-2.ensures.value)) c.push_applications.ensures
