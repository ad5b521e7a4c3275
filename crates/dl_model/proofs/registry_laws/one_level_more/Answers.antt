use Rattle.std.proofs.Common.{ap, ◌∙◌, ◌++◌}
use Rattle.dl_events.specs.declared.event.Event.TheVariants.{Level}
use Rattle.dl_model.specs.History.{history}
use Rattle.dl_model.proofs.OneMore.{given, history-one, slot-one, slot-other, level_for-own}
use Rattle.dl_model.proofs.registry_laws.one_level_more.Goals as goal

pub returns-clause-history : goal.returns-clause-history
returns-clause-history c = λ events slot level. history-one events slot (Level slot level) ∙ ap (λ o. history events slot ++ given o) (level_for-own slot level)

pub returns-clause-given : goal.returns-clause-given
returns-clause-given c = λ first events slot level. slot-one first events slot (Level slot level) level (level_for-own slot level)

pub returns-clause-others : goal.returns-clause-others
returns-clause-others c = slot-other
