use Rattle.std.proofs.Common.{ℕ, ◌<◌, length, sym, ap, ◌∙◌, subst}
use Rattle.dl_desk.specs.State.{DeskState}
use Rattle.dl_desk.specs.Told.{told_by}
use Rattle.dl_desk.proofs.Changes.{on_ok, on_err}
use Rattle.dl_desk.proofs.Posts.{told_pushed, told_refused, full_of, desk_rest}
use Rattle.dl_desk.proofs.writer_control.DeskWriterControl.inject.Goals as goal

pub returns-clause-pushed : goal.returns-clause-pushed
returns-clause-pushed g c =
    let within : c.args.app < length c.args.self.now.handles.apps = subst (λ (n : ℕ). c.args.app < n) (sym c.have_handles.ensures) c.requires in
    on_ok c.inject.result _ _
    (λ is. ap (λ (s : DeskState). told_by (length s.apps) s.handles) is ∙ told_pushed c.args.self.now.handles c.args.app (length c.args.self.now.apps) c.args.item within)
    c.inject.ensures.pushed

pub returns-clause-refused : goal.returns-clause-refused
returns-clause-refused g c =
    let within : c.args.app < length c.args.self.now.handles.apps = subst (λ (n : ℕ). c.args.app < n) (sym c.have_handles.ensures) c.requires in
    on_err c.inject.result _ _
    (λ is. ap (λ (s : DeskState). told_by (length s.apps) s.handles) is ∙ told_refused c.args.self.now.handles c.args.app (length c.args.self.now.apps) within)
    c.inject.ensures.refused

pub returns-clause-full : goal.returns-clause-full
returns-clause-full g c =
    let within : c.args.app < length c.args.self.now.handles.apps = subst (λ (n : ℕ). c.args.app < n) (sym c.have_handles.ensures) c.requires in
    on_err c.inject.result _ _ (λ many. full_of c.args.self.now.handles c.args.app within many) c.inject.ensures.full

pub returns-clause-rest : goal.returns-clause-rest
returns-clause-rest g c = desk_rest c.inject.result c.args.self.now c.inject.new.self c.args.app c.args.item c.inject.ensures.pushed c.inject.ensures.refused
