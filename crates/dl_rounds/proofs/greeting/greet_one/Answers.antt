use Rattle.std.proofs.Common.{refl, subst, arith}
use Rattle.dl_bytes.specs.declared.user.UserMsg.{UserMsg}
use Rattle.dl_core.specs.Noting.{NotesMessage}
use Rattle.dl_core.specs.Registering.{Registers}
use Rattle.dl_turns.specs.State.{side}
use Rattle.dl_rounds.proofs.Greeted.{greeted, levels_leave_all}
use Rattle.dl_rounds.proofs.greeting.greet_one.Goals as goal

pub note_levels-requires-clause-desk : goal.note_levels-requires-clause-desk
note_levels-requires-clause-desk g c =
    let registers = subst (λ (m : UserMsg). Registers 0 m c.args.core.now c.user.new.self.registry) c.in_ok-copy.ensures c.in_ok-_refusal.ensures.registers in
    (greeted c.args.msg.now c.args.core.now c.user.new.self.registry (g.D.WriterControl.told c.args.desk.now) c.requires.kind registers c.requires.place c.requires.may.desk_so).desk_so

pub returns-clause-greets : goal.returns-clause-greets
returns-clause-greets g c =
    let told = g.F.Folder.told c.args.folder.now in
    let now = g.F.Folder.told c.user.new.folder in
    let past = g.J.Journal.events c.args.journal.now in
    let present = g.J.Journal.events c.user.new.journal in
    record {
      between = side c.user.new.self (g.D.WriterControl.told c.args.desk.now) present now;
      notes = subst (λ (m : UserMsg). NotesMessage c.args.moment 0 m c.args.core.now c.user.new.self told now past present) c.in_ok-copy.ensures c.in_ok-_refusal.ensures.notes;
      registers = subst (λ (m : UserMsg). Registers 0 m c.args.core.now c.user.new.self.registry) c.in_ok-copy.ensures c.in_ok-_refusal.ensures.registers;
      desk = refl;
      levels = c.note_levels.ensures.levels now;
    }

pub returns-clause-place : goal.returns-clause-place
returns-clause-place g c =
    let now = g.F.Folder.told c.user.new.folder in
    let registers = subst (λ (m : UserMsg). Registers 0 m c.args.core.now c.user.new.self.registry) c.in_ok-copy.ensures c.in_ok-_refusal.ensures.registers in
    let is = greeted c.args.msg.now c.args.core.now c.user.new.self.registry (g.D.WriterControl.told c.args.desk.now) c.requires.kind registers c.requires.place c.requires.may.desk_so in
    let same = levels_leave_all (side c.user.new.self (g.D.WriterControl.told c.args.desk.now) (g.J.Journal.events c.user.new.journal) now)
    (side c.note_levels.new.core (g.D.WriterControl.told c.note_levels.new.desk) (g.J.Journal.events c.note_levels.new.journal) now) (c.note_levels.ensures.levels now) in
    omega (arith, same, is.many)
