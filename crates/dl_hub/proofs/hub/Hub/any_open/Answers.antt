use Rattle.std.proofs.Common.{◌∙◌, ap}
use Rattle.dl_hub.specs.State.{is_any_open}
use Rattle.dl_hub.proofs.Keeping.{open_by_free}
use Rattle.dl_hub.proofs.hub.Hub.any_open.Goals as goal

pub returns : goal.returns
returns c = rw (c.len.ensures, c.self.inside.free.ok.0) (open_by_free _ c.self.inside.clients.items c.self.invariant.0.outboxes ∙ ap is_any_open c.self.view_is)
