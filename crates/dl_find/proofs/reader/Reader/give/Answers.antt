use Rattle.std.proofs.Common.{ℕ, ◌+◌, drop, length, refl, sym, ap, ◌∙◌}
use Rattle.std.specs.Prelude.{◌-◌}
use Rattle.dl_sessions.specs.Gaps.{counted}
use Rattle.dl_sessions.specs.Stream.{rest_behind}
use Rattle.dl_find.proofs.Refills.{given_there}
use Rattle.dl_find.proofs.reader.Reader.give.Goals as goal

pub returns : goal.returns
returns c =
    let held = c.args.self.now.held in
    let left = c.behind_first-left.ensures ∙ ap (rest_behind c.args.place.now) c.rest.ensures in
    let given = c.saturating_sub-self.ensures ∙ (λ i. (c.len.ensures ∙ held.ok.0) i - length (left i)) in
    record {
      rest_is = ap (λ (n : ℕ). drop n held.items) given ∙ given_there c.args.place.now held.items c.args.self.now.given;
      read_is = refl;
      offset_is = c.saturating_add-self.ensures ∙ ap (λ (n : ℕ). counted (n + c.args.place.now.len)) c.saturating_add.ensures;
    }
