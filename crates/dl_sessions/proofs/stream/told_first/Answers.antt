use Rattle.std.proofs.Common.{◌≡◌, ◌≤◌, ℕ, List, length, take, None, sym, ap, subst, ◌∙◌, arith}
use Rattle.std.proofs.lemmas.List.{length-take}
use Rattle.dl_bytes.specs.Htyp.{len_of}
use Rattle.dl_headers.specs.Reading.{front_fault}
use Rattle.dl_sessions.specs.Stream.{told_of}
use Rattle.dl_sessions.proofs.Readings.{message_there, place_is}
use Rattle.dl_sessions.proofs.stream.told_first.Goals as goal

pub told_of-requires-clause-front : goal.told_of-requires-clause-front
told_of-requires-clause-front c =
    subst (λ (m : List ℕ). front_fault (take c.args.place.now.len m) ≡ None) (sym c.behind-message.ensures) (message_there c.args.bytes.now c.args.place.now c.requires).front

pub told_of-requires-clause-len : goal.told_of-requires-clause-len
told_of-requires-clause-len c =
    subst (λ (m : List ℕ). length (take c.args.place.now.len m) ≡ len_of (take c.args.place.now.len m)) (sym c.behind-message.ensures) (message_there c.args.bytes.now c.args.place.now c.requires).len

pub slice_bounds-told_of-end : goal.slice_bounds-told_of-end
slice_bounds-told_of-end c =
    let within = subst (λ (m : List ℕ). c.args.place.now.len ≤ length m) (sym c.behind-message.ensures) (place_is c.args.bytes.now c.args.place.now c.requires).within in
    omega (arith, within, length-take c.args.place.now.len c.behind-message.result.now)

pub returns : goal.returns
returns c = c.told_of.ensures ∙ ap (λ (m : List ℕ). told_of c.args.place.now.ecu (take c.args.place.now.len m)) c.behind-message.ensures
