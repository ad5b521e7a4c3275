use Rattle.std.proofs.Common.{ℕ, List, arith}
use Rattle.std.proofs.lemmas.List.{length-map}
use Rattle.dl_model.specs.Journal.{registry_of}
use Rattle.dl_model.specs.Registry.{App, numbers}
use Rattle.dl_model.proofs.Numbered.{IsNumbered-length}
use Rattle.dl_model.proofs.Order.{in_order-registry_of}
use Rattle.dl_model.proofs.registry_laws.numbers_stay_apart.Goals as goal

pub returns-clause-order : goal.returns-clause-order
returns-clause-order c = in_order-registry_of

pub returns-clause-apps : goal.returns-clause-apps
returns-clause-apps c = λ setting events.
    omega (arith, IsNumbered-length 16 (numbers (registry_of setting events).apps) (in_order-registry_of setting events).numbered, length-map (registry_of setting events).apps (λ (e : List ℕ × App). e.1.number))
