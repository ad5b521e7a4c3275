use Rattle.std.proofs.Common.{Some, length, ap, sym, ◌∙◌}
use Rattle.dl_model.specs.declared.registry.LevelChange.{LevelChange}
use Rattle.dl_registry.specs.Kept.{Kept, with_change}
use Rattle.dl_core.specs.State.{Core}
use Rattle.dl_turns.proofs.LevelWords.{desk_after, desk_as, is_set, owed_within, sets_level}
use Rattle.dl_turns.proofs.levels.note_level.Goals as goal

pub set-set-requires : goal.set-set-requires
set-set-requires g c = owed_within c.args.core.now.registry c.in-Some.change (g.D.WriterControl.told c.args.desk.now) (sym c.in-Some.ensures.change) c.requires.desk

pub returns-in-Some-clause-sets : goal.returns-in-Some-clause-sets
returns-in-Some-clause-sets g c =
    let set =
    is_set c.args.core.now.registry c.in-Some.change (g.D.WriterControl.told c.args.desk.now) (ap (λ (k : Kept). length k.held) (sym c.registry.ensures) ∙ c.slots_are_apart.ensures.all)
    (sym c.in-Some.ensures.change) c.requires.desk c.set-set.result (g.D.WriterControl.told c.set-set.new.self) c.in-Some.ensures.version c.set-set.ensures.worn c.set-set.ensures.set in
    λ yes folder. (
      c.in-Some.change,
      sets_level c.args.core.now c.level.new.self c.in-Some.change _ _ (g.J.Journal.events c.args.journal.now) (g.J.Journal.events c.level.new.journal) (sym c.in-Some.ensures.change) c.in-Some.ensures.value
          c.in-Some.ensures.after c.in-Some.ensures.event set folder,
    )

pub returns-in-Some-clause-desk : goal.returns-in-Some-clause-desk
returns-in-Some-clause-desk g c =
    let old = c.args.core.now.registry in
    let told = g.D.WriterControl.told c.args.desk.now in
    let next : LevelChange = c.in-Some.change in
    let all = ap (λ (k : Kept). length k.held) (sym c.registry.ensures) ∙ c.slots_are_apart.ensures.all in
    let set =
    is_set old next told all (sym c.in-Some.ensures.change) c.requires.desk c.set-set.result (g.D.WriterControl.told c.set-set.new.self) c.in-Some.ensures.version c.set-set.ensures.worn c.set-set.ensures.set in
    desk_as (with_change old (Some next)) c.level.new.self.registry _ (g.D.WriterControl.told c.set-set.new.self) (ap (λ (core : Core). core.registry) c.in-Some.ensures.value) set
    (desk_after old next told all (sym c.in-Some.ensures.change) c.requires.desk)
