use Rattle.std.proofs.Common.{◌≡◌, ◌+◌, List, length, refl, sym, subst}
use Rattle.std.proofs.lemmas.Result.{on_ok_weaker}
use Rattle.dl_sessions.specs.Gaps.{counted, entries}
use Rattle.dl_sessions.specs.Ledger.{KeepsSince, Notes}
use Rattle.dl_sessions.specs.declared.session.Told.{Told}
use Rattle.dl_sessions.specs.declared.session.Told.TheVariants as told
use Rattle.dl_sessions.proofs.Noting.{quiet_notes, unstored_notes}
use Rattle.dl_sessions.proofs.ledger.note.Goals as goal

pub returns-in-Unstored : goal.returns-in-Unstored
returns-in-Unstored c = λ before keeps place.
    on_ok_weaker c.push_unstored.result (λ line. subst (λ (t : Told). Notes before t c.args.kept.now c.args.text.now.items c.push_unstored.new.text.items) (sym c.in-Unstored.is)
    (unstored_notes c.args.kept.now c.args.text.now.items c.push_unstored.new.text.items before c.in-Unstored.count c.args.place place line keeps)) c.push_unstored.ensures

pub returns-in-Lost : goal.returns-in-Lost
returns-in-Lost c =
    subst (λ (t : Told). (before : List Told) → KeepsSince c.args.kept.now (entries before) → c.args.place ≡ counted (length before + 1) → Notes before t c.args.kept.now c.args.text.now.items c.args.text.now.items)
    (sym c.in-Lost.is) (λ before keeps place. quiet_notes c.args.kept.now c.args.text.now.items (told.Lost c.in-Lost.field-0) refl (λ b. refl) before keeps)

pub returns-in-Other : goal.returns-in-Other
returns-in-Other c =
    subst (λ (t : Told). (before : List Told) → KeepsSince c.args.kept.now (entries before) → c.args.place ≡ counted (length before + 1) → Notes before t c.args.kept.now c.args.text.now.items c.args.text.now.items)
    (sym c.in-Other.is) (λ before keeps place. quiet_notes c.args.kept.now c.args.text.now.items told.Other refl (λ b. refl) before keeps)
