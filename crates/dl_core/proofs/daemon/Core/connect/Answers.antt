use Rattle.std.proofs.Common.{◌∷◌, [], refl, subst}
use Rattle.dl_events.specs.declared.event.Event.TheVariants as event
use Rattle.dl_core.specs.State.{Core}
use Rattle.dl_core.specs.Follows.{AddsAlone}
use Rattle.dl_core.proofs.Parts.{core_of}
use Rattle.dl_core.proofs.Journals.{IsSameCore}
use Rattle.dl_core.proofs.Noted.{connect_follows}
use Rattle.dl_core.proofs.daemon.Core.connect.Goals as goal

pub returns-clause-after : goal.returns-clause-after
returns-clause-after g c =
    let i = c.self.inside in
    let old = core_of i.ecu i.level i.injection i.software i.registry i.hub i.trace in
    let new = core_of i.ecu i.level i.injection i.software i.registry c.connect.new.self i.trace in
    let same : IsSameCore old new = record { ecu = refl; level = refl; injection = refl; software = refl; hub = c.connect.ensures.same } in
    subst (λ (k : Core). AddsAlone (event.Connect c.in_ok-client.client ∷ []) k new) c.self.view_is
    (connect_follows c.in_ok-client.client old new same refl refl c.in_ok-client.ensures.adds)
