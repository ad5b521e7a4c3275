-- How the ends of links read: whether a link took all of its client's stream, by why the client went.
use Rattle.std.proofs.Common.{◌≡◌, ℕ, ◌+◌, true, false, List, length, sym, ap, subst, ◌∙◌, length-append, arith}
use Rattle.std.proofs.lemmas.Bool.{eq-eqb, eqb-true, ne_eqb}
use Rattle.dl_events.specs.declared.event.Event.{Event}
use Rattle.dl_events.specs.declared.event.Why.TheVariants as why
use Rattle.dl_model.specs.Backlog.{outbox_limit, size_of}
use Rattle.dl_model.specs.ClientEnds.{HasGone, IsCause, LinkDid, end_of_link}
use Rattle.dl_model.specs.ClientStream.{stream}
use Rattle.dl_model.specs.Frames.{FrameSource}
use Rattle.dl_model.specs.Setting.{Setting}
use Rattle.dl_model.proofs.Rotation.{length-concat}

module _ (setting : Setting) (source : FrameSource) (events : List Event) (client : ℕ) (did : LinkDid) (gone : HasGone setting source events client did) where
  sizes : size_of (stream source setting.buffer client events) ≡ length did.taken + length gone.left
  sizes = sym (length-concat (stream source setting.buffer client events)) ∙ ap length gone.took ∙ length-append did.taken gone.left

  pub stopped_is_complete : gone.cause ≡ why.Stopped → (end_of_link setting source events client did).complete ≡ true
  stopped_is_complete is =
      let so = subst (IsCause setting did (length gone.left)) is gone.so in
      eq-eqb (size_of (stream source setting.buffer client events)) (length did.taken) (omega (arith, sizes, so.0))

  pub stuck_is_cut : (left : ℕ) → gone.cause ≡ why.Stuck left → (end_of_link setting source events client did).complete ≡ false
  stuck_is_cut left is =
      let so = subst (IsCause setting did (length gone.left)) is gone.so in
      ne_eqb (size_of (stream source setting.buffer client events)) (length did.taken) (λ same. omega (arith, sizes, same, so.1))

  pub slow_with_room_is_complete : (room need : ℕ) → gone.cause ≡ why.Slow room need → room ≡ outbox_limit setting.buffer → (end_of_link setting source events client did).complete ≡ true
  slow_with_room_is_complete room need is all =
      let so = subst (IsCause setting did (length gone.left)) is gone.so in
      eq-eqb (size_of (stream source setting.buffer client events)) (length did.taken) (omega (arith, sizes, so, all))

  pub complete_had_room : (room need : ℕ) → gone.cause ≡ why.Slow room need → (end_of_link setting source events client did).complete ≡ true → room ≡ outbox_limit setting.buffer
  complete_had_room room need is complete =
      let so = subst (IsCause setting did (length gone.left)) is gone.so in
      let same = eqb-true (size_of (stream source setting.buffer client events)) (length did.taken) complete in
      omega (arith, sizes, so, same)
