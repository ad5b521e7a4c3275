use Rattle.std.proofs.Common.{◌≡◌, ◌+◌, ◌-◌, ◌^◌, min, length, map, ap, sym, ◌∙◌, rules}
use Rattle.std.specs.List.{flat_map}
use Rattle.std.specs.Map.Iter.{deref_pair}
use Rattle.std.proofs.lemmas.Map.Iter.{iter_end}
use Rattle.dl_model.specs.Registry.{Registry}
use Rattle.dl_model.specs.Reply.{info_body}
use Rattle.dl_registry.specs.Info.{info_of}
use Rattle.dl_registry.specs.Kept.{Kept}
use Rattle.dl_registry.proofs.Informing.{length-info_body}
use Rattle.dl_registry.proofs.registry.Registry.info_len.Goals as goal

pub returns : goal.returns
returns c =
    let r : Registry = record { level = c.self.inside.level; stored = c.self.inside.stored; apps = c.self.inside.apps.entries } in
    let all : map deref_pair c.loop-id.yielded ≡ c.self.inside.apps.entries = search (rules, iter_end) in
    c.loop-id.invariant
    ∙ (ap (λ es. min (2 ^ 64 - 1) (6 + length (flat_map (info_of c.args.options c.args.apid c.args.ctid) es))) all
    ∙ (ap (min (2 ^ 64 - 1)) (sym (length-info_body c.args.options r c.args.apid c.args.ctid))
    ∙ ap (λ (k : Kept). min (2 ^ 64 - 1) (length (info_body c.args.options k.registry c.args.apid c.args.ctid))) c.self.view_is))
