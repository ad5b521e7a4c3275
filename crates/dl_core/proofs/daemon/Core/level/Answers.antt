use Rattle.std.specs.Prelude.{option_map, ◌<◌}
use Rattle.std.proofs.Common.{◌∷◌, [], subst, ap, ◌∙◌, arith}
use Rattle.dl_events.specs.declared.event.Event.TheVariants as event
use Rattle.dl_core.specs.State.{Core}
use Rattle.dl_core.specs.Follows.{AddsAlone}
use Rattle.dl_core.specs.Waiting.{waiting}
use Rattle.dl_core.proofs.Leveled.{change_made, level_follows}
use Rattle.dl_core.proofs.daemon.Core.level.Goals as goal

pub note-requires : goal.note-requires
note-requires g c =
    let fewer = change_made c.self.inside.registry c.next_change.new.self c.in_ok-change.change c.slots_are_apart.ensures.all c.in_ok-change.ensures.change c.in_ok-change.ensures.held in
    c.requires.spare (subst (λ (core : Core). 0 < waiting core.registry) c.self.view_is (omega (arith, fewer)))

pub returns-clause-after : goal.returns-clause-after
returns-clause-after g c =
    let change = c.in_ok-change.change in
    let now : Core = record { ecu = c.self.inside.ecu; level = c.self.inside.level; injection = c.self.inside.injection; software = c.self.inside.software; registry = c.next_change.new.self; hub = c.self.inside.hub; trace = option_map (λ w. w.trace) c.self.inside.trace } in
    subst (λ (old : Core). AddsAlone (event.Level change.slot change.level ∷ []) old now) c.self.view_is
    (level_follows (record now { registry = c.self.inside.registry }) c.next_change.new.self change c.in_ok-change.ensures.change c.in_ok-change.ensures.held)

pub returns-clause-waits : goal.returns-clause-waits
returns-clause-waits g c =
    change_made c.self.inside.registry c.next_change.new.self c.in_ok-change.change c.slots_are_apart.ensures.all c.in_ok-change.ensures.change c.in_ok-change.ensures.held
    ∙ ap (λ (core : Core). waiting core.registry) c.self.view_is
