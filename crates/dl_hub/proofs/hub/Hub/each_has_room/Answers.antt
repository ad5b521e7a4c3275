use Rattle.std.proofs.Common.{◌≡◌, sym, ap, ◌∙◌}
use Rattle.std.specs.List.{list_all}
use Rattle.dl_hub.specs.State.{takes}
use Rattle.dl_hub.proofs.Keeping.{all_take, take_all_room}
use Rattle.dl_hub.proofs.Places.{takes_all}
use Rattle.dl_hub.proofs.hub.Hub.each_has_room.Goals as goal

pub returns : goal.returns
returns c =
    let is : c.all_take.result ≡ list_all (takes c.args.more) c.args.self.now.clients =
    c.all_take.ensures ∙ rw (c.deref.ensures.value, c.as_slice.ensures.value, c.self.invariant.3) (takes_all c.args.more c.self.inside.clients.items)
    ∙ ap (λ hub. list_all (takes c.args.more) hub.clients) c.self.view_is in
    ((λ test. all_take c.args.more c.args.self.now (sym is ∙ test)), (λ rooms. is ∙ take_all_room c.args.more c.args.self.now rooms))
