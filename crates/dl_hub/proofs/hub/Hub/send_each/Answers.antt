use Rattle.std.proofs.Common.{◌≡◌, length, map, refl, sym, ap, ◌∙◌}
use Rattle.std.proofs.lemmas.List.{length-map}
use Rattle.dl_hub.specs.State.{Client, is_open, replies_of, with_frame}
use Rattle.dl_hub.specs.Kept.{places_of}
use Rattle.dl_hub.proofs.Places.{open_frames, replies_frames}
use Rattle.dl_hub.proofs.Calls.{open-all, written}
use Rattle.dl_hub.proofs.hub.Hub.send_each.Goals as goal

pub put_each-requires-clause-room : goal.put_each-requires-clause-room
put_each-requires-clause-room c = rw c.deref_mut.ensures.value (open-all c.self.inside.ecu c.self.inside.store c.self.inside.limit c.self.inside.clients.items c.self.inside.admitted c.self.inside.free.items c.self.invariant.0
    c.args.self.now c.args.frame.now c.self.view_is c.requires.open c.requires.room c.requires.size c.requires.few).3

pub put_each-requires-clause-counts : goal.put_each-requires-clause-counts
put_each-requires-clause-counts c = rw c.deref_mut.ensures.value (open-all c.self.inside.ecu c.self.inside.store c.self.inside.limit c.self.inside.clients.items c.self.inside.admitted c.self.inside.free.items c.self.invariant.0
    c.args.self.now c.args.frame.now c.self.view_is c.requires.open c.requires.room c.requires.size c.requires.few).4

pub invariant_of-self : goal.invariant_of-self
invariant_of-self c =
    let put : c.put_each.new.clients ≡ map (with_frame c.args.frame.now) c.self.inside.clients.items = c.put_each.ensures ∙ rw c.deref_mut.ensures.value refl in
    let all = written c.self.inside.clients.len c.self.inside.clients.items c.put_each.new.clients c.self.inside.clients.ok.0 (ap length put ∙ length-map c.self.inside.clients.items (with_frame c.args.frame.now)) in (
      rw (all, put) (open-all c.self.inside.ecu c.self.inside.store c.self.inside.limit c.self.inside.clients.items c.self.inside.admitted c.self.inside.free.items c.self.invariant.0
          c.args.self.now c.args.frame.now c.self.view_is c.requires.open c.requires.room c.requires.size c.requires.few).0,
      c.self.invariant.1,
      c.self.invariant.2,
      c.self.invariant.3 ∙ ap (places_of 0) (sym (open_frames c.args.frame.now c.self.inside.clients.items) ∙ ap (map is_open) (sym (all ∙ put))),
    )

pub returns-clause-adds : goal.returns-clause-adds
returns-clause-adds c =
    let put : c.put_each.new.clients ≡ map (with_frame c.args.frame.now) c.self.inside.clients.items = c.put_each.ensures ∙ rw c.deref_mut.ensures.value refl in
    let all = written c.self.inside.clients.len c.self.inside.clients.items c.put_each.new.clients c.self.inside.clients.ok.0 (ap length put ∙ length-map c.self.inside.clients.items (with_frame c.args.frame.now)) in
    rw (all, put) (open-all c.self.inside.ecu c.self.inside.store c.self.inside.limit c.self.inside.clients.items c.self.inside.admitted c.self.inside.free.items c.self.invariant.0
    c.args.self.now c.args.frame.now c.self.view_is c.requires.open c.requires.room c.requires.size c.requires.few).1

pub returns-clause-rooms : goal.returns-clause-rooms
returns-clause-rooms c =
    let put : c.put_each.new.clients ≡ map (with_frame c.args.frame.now) c.self.inside.clients.items = c.put_each.ensures ∙ rw c.deref_mut.ensures.value refl in
    let all = written c.self.inside.clients.len c.self.inside.clients.items c.put_each.new.clients c.self.inside.clients.ok.0 (ap length put ∙ length-map c.self.inside.clients.items (with_frame c.args.frame.now)) in
    rw (all, put) (open-all c.self.inside.ecu c.self.inside.store c.self.inside.limit c.self.inside.clients.items c.self.inside.admitted c.self.inside.free.items c.self.invariant.0
    c.args.self.now c.args.frame.now c.self.view_is c.requires.open c.requires.room c.requires.size c.requires.few).2

pub returns-clause-open : goal.returns-clause-open
returns-clause-open c =
    let put : c.put_each.new.clients ≡ map (with_frame c.args.frame.now) c.self.inside.clients.items = c.put_each.ensures ∙ rw c.deref_mut.ensures.value refl in
    let all = written c.self.inside.clients.len c.self.inside.clients.items c.put_each.new.clients c.self.inside.clients.ok.0 (ap length put ∙ length-map c.self.inside.clients.items (with_frame c.args.frame.now)) in
    ap (map is_open) (all ∙ put) ∙ open_frames c.args.frame.now c.self.inside.clients.items ∙ ap (λ hub. map is_open hub.clients) c.self.view_is

pub returns-clause-replies : goal.returns-clause-replies
returns-clause-replies c =
    let put : c.put_each.new.clients ≡ map (with_frame c.args.frame.now) c.self.inside.clients.items = c.put_each.ensures ∙ rw c.deref_mut.ensures.value refl in
    let all = written c.self.inside.clients.len c.self.inside.clients.items c.put_each.new.clients c.self.inside.clients.ok.0 (ap length put ∙ length-map c.self.inside.clients.items (with_frame c.args.frame.now)) in
    ap (map (λ (x : Client). x.replies)) (all ∙ put) ∙ replies_frames c.args.frame.now c.self.inside.clients.items ∙ ap replies_of c.self.view_is
