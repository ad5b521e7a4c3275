use Rattle.std.proofs.Common.{rules, sym, ap, ◌∙◌}
use Rattle.dl_model.specs.declared.registry.Slot.{Slot}
use Rattle.dl_socket.proofs.Versions.{counts_resumed, others_stand, resumed}
use Rattle.dl_socket.proofs.messenger.Messenger.learn_slot.Goals as goal

pub invariant_of-self : goal.invariant_of-self
invariant_of-self c = (search rules, search rules, rw (c.resume.ensures, c.from-place.ensures) (counts_resumed _ _ _ _ (sym c.self.inside.versions.ok.0 ∙ c.self.invariant.1) c.requires (search rules) c.self.invariant.2), c.self.invariant.3)

pub returns-clause-version : goal.returns-clause-version
returns-clause-version c = rw c.resume.ensures (resumed _ _ c.self.inside.history.sets ∙ ap (λ (s : Slot). s.version) c.held-version.ensures)

pub returns-clause-versions : goal.returns-clause-versions
returns-clause-versions c = rw (c.resume.ensures, ← c.self.view_is) (λ other apart. others_stand _ other _ c.self.inside.history.sets apart)
