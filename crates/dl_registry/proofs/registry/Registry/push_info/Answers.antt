use Rattle.std.proofs.Common.{◌≡◌, ◌++◌, [], ◌∷◌, List, ℕ, Result, Ok, Err, OnOk, is_ok, length, map, ap, sym, ◌∙◌, rules, append_assoc}
use Rattle.std.specs.Prelude.{if◌then◌else◌}
use Rattle.std.specs.List.{flat_map}
use Rattle.std.specs.Map.Iter.{deref_pair}
use Rattle.std.proofs.lemmas.Map.Iter.{iter_end}
use Rattle.byteorder.specs.Endian.{little_bytes}
use Rattle.dl_model.specs.Reply.{info_body, listed}
use Rattle.dl_registry.specs.Info.{info_of}
use Rattle.dl_registry.specs.Kept.{Kept}
use Rattle.dl_registry.proofs.Informing.{info_body-is}
use Rattle.dl_registry.proofs.registry.Registry.push_info.Goals as goal

where_ok : {A E : Type 0} (r : Result A E) (new x y z : List ℕ) → new ≡ (if is_ok r then x else y) → x ≡ z → OnOk r (new ≡ z)
where_ok (Ok a) new x y z is same = is ∙ same
where_ok (Err e) new x y z is same = tt

-- put together in another order
parts : (a n i z : List ℕ) → (a ++ (n ++ i)) ++ z ≡ a ++ (n ++ (i ++ z))
parts a n i z = append_assoc a (n ++ i) z ∙ ap (λ t. a ++ t) (append_assoc n i z)

pub returns : goal.returns
returns c =
    let now = c.args.self.now.registry in
    let zeros : List ℕ = 0 ∷ 0 ∷ 0 ∷ 0 ∷ [] in
    let here : map deref_pair c.loop-id.yielded ≡ c.self.inside.apps.entries = search (rules, iter_end) in
    let all : map deref_pair c.loop-id.yielded ≡ now.apps = here ∙ ap (λ (k : Kept). k.registry.apps) c.self.view_is in
    let told = flat_map (info_of c.args.options c.args.apid c.args.ctid) in
    let count = little_bytes 2 (length (listed now c.args.apid c.args.ctid)) in
    where_ok c.extend_from_slice.result c.extend_from_slice.new.self.items (c.loop-id.body.items ++ zeros) c.loop-id.body.items (c.args.body.now.items ++ info_body c.args.options now c.args.apid c.args.ctid) c.extend_from_slice.ensures.items
    (ap (λ b. b ++ zeros) c.loop-id.invariant
    ∙ (parts c.args.body.now.items count (told (map deref_pair c.loop-id.yielded)) zeros
    ∙ (ap (λ es. c.args.body.now.items ++ (count ++ (told es ++ zeros))) all
    ∙ ap (λ t. c.args.body.now.items ++ t) (sym (info_body-is c.args.options now c.args.apid c.args.ctid)))))
