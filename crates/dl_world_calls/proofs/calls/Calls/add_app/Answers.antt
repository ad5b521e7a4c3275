use Rattle.std.proofs.Common.{◌≡◌, refl}
use Rattle.dl_bytes.specs.declared.conf.AppSpec.{AppSpec}
use Rattle.dl_world_calls.specs.State.{new_app}
use Rattle.dl_world_calls.specs.Follows.{line_of}
use Rattle.dl_world_calls.proofs.Declaring.{app-does}
use Rattle.dl_world_calls.proofs.calls.Calls.add_app.Goals as goal

pub returns-clause-does : goal.returns-clause-does
returns-clause-does c =
    let spec : AppSpec = record { apid = c.args.app.now.apid; capacity = c.args.app.now.capacity; text = c.over.result } in
    let same : line_of (new_app spec) ≡ c.args.app.now = rw (c.over.ensures, c.in_ok-text.ensures.items, c.all.ensures) refl in
    app-does c.self.inside.apps.items c.self.inside.writers.items c.args.self.now c.self.view_is c.args.app.now spec c.new.result c.push.new.self.items same c.new.ensures c.in_ok-push.ensures.items
