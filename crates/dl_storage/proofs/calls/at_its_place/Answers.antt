use Rattle.std.proofs.Common.{eqb, ◌≡◌, ℕ, ◌+◌, ◌<◌, sym, ap, ◌∙◌, arith, option_map}
use Rattle.std.specs.Prelude.{slice_get}
use Rattle.std.specs.List.{find}
use Rattle.dl_events.specs.declared.record.Record.{Record}
use Rattle.dl_model.proofs.Records.{found_at, none_below}
use Rattle.dl_storage.proofs.calls.at_its_place.Goals as goal
use Rattle.dl_lemmas.proofs.Lists.{lent_is}

pub returns-in_err-place : goal.returns-in_err-place
returns-in_err-place c =
    let below : c.args.call < 1 = grind (arith, c.in_err-place.ensures) in
    ap (option_map (λ r. r.now)) c.from_residual.ensures ∙ sym (none_below 1 c.args.call c.args.own.now c.requires below)

pub returns : goal.returns
returns c =
    let at : option_map (λ r. r.now) c.get.result ≡ slice_get c.args.own.now c.in_ok-place.place = lent_is c.args.own.now c.in_ok-place.place c.get.result c.get.ensures.lookup in
    let number : 1 + c.in_ok-place.place ≡ c.args.call = omega (arith, c.in_ok-place.ensures.0, c.in_ok-place.ensures.1) in
    at ∙ sym (found_at 1 c.in_ok-place.place c.args.own.now c.requires)
    ∙ ap (λ (n : ℕ). find (λ (r : Record). eqb r.item.call n) c.args.own.now) number
