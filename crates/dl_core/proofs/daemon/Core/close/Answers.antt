use Rattle.std.proofs.Common.{◌∷◌, [], refl, ap, subst}
use Rattle.dl_events.specs.declared.event.Event.TheVariants as event
use Rattle.dl_hub.specs.State.{Hub}
use Rattle.dl_core.specs.State.{Core}
use Rattle.dl_core.specs.Follows.{AddsAlone}
use Rattle.dl_core.proofs.Parts.{core_of}
use Rattle.dl_core.proofs.Journals.{IsSameCore}
use Rattle.dl_core.proofs.Noted.{close_follows}
use Rattle.dl_core.proofs.daemon.Core.close.Goals as goal

pub returns-clause-after : goal.returns-clause-after
returns-clause-after g c =
    let i = c.self.inside in
    let old = core_of i.ecu i.level i.injection i.software i.registry i.hub i.trace in
    let new = core_of i.ecu i.level i.injection i.software i.registry c.close.new.self i.trace in
    let same : IsSameCore old new = record { ecu = refl; level = refl; injection = refl; software = refl; hub = record { ecu = ap (λ (h : Hub). h.ecu) c.close.ensures.value; buffer = ap (λ (h : Hub). h.buffer) c.close.ensures.value; limit = ap (λ (h : Hub). h.limit) c.close.ensures.value } } in
    subst (λ (k : Core). AddsAlone (event.Close c.args.client c.args.why ∷ []) k new) c.self.view_is
    (close_follows c.args.client c.args.why old new same refl refl c.close.ensures.adds)
