use Rattle.std.proofs.Common.{◌≡◌, map, ℕ, ◌++◌, [], ◌∷◌, List, Some, None, ap, sym, ◌∙◌, append_assoc, append-nil}
use Rattle.std.specs.List.{filter_map}
use Rattle.std.specs.Map.Iter.{deref_pair}
use Rattle.std.specs.Option.{option_map}
use Rattle.dl_bytes.specs.declared.conf.StoredLevel.{StoredLevel}
use Rattle.dl_model.specs.declared.context.Context.{Context}
use Rattle.dl_model.specs.Registry.{own_of_context}
use Rattle.dl_registry.proofs.Informing.{filter_map-more, filter_map-some, filter_map-none}
use Rattle.dl_registry.proofs.registry.push_owns.Goals as goal

pub loop-ctid-preserved-in-Continue-1 : goal.loop-ctid-preserved-in-Continue-1
loop-ctid-preserved-in-Continue-1 c =
    let f = own_of_context c.args.apid in
    let entry : List ℕ × Context = (c.in-Some.ctid.now, c.in-Some.context.now) in
    let own : StoredLevel = record { apid = c.args.apid; ctid = c.in-Some.ctid.now; level = c.in-Some-level_of.level } in
    let is : f entry ≡ Some own = ap (option_map (λ (level : ℕ). let s : StoredLevel = record { apid = c.args.apid; ctid = c.in-Some.ctid.now; level = level } in s)) (sym c.in-Some-level_of.ensures) in
    c.in_ok-push.ensures.items
    ∙ (ap (λ es. es ++ own ∷ []) c.loop-ctid.invariant
    ∙ (append_assoc c.args.owns.now.items _ (own ∷ [])
    ∙ ap (λ es. c.args.owns.now.items ++ es) (sym (filter_map-more f deref_pair c.loop-ctid.yielded (c.in-Some.ctid, c.in-Some.context) ∙ ap (λ es. filter_map f (map deref_pair c.loop-ctid.yielded) ++ es) (filter_map-some f entry own is)))))

pub loop-ctid-preserved : goal.loop-ctid-preserved
loop-ctid-preserved c =
    let f = own_of_context c.args.apid in
    let entry : List ℕ × Context = (c.in-Some.ctid.now, c.in-Some.context.now) in
    let is : f entry ≡ None = ap (option_map (λ (level : ℕ). let s : StoredLevel = record { apid = c.args.apid; ctid = c.in-Some.ctid.now; level = level } in s)) (sym c.level_of.ensures ∙ c.in_default.is) in
    c.loop-ctid.invariant
    ∙ ap (λ es. c.args.owns.now.items ++ es) (sym (filter_map-more f deref_pair c.loop-ctid.yielded (c.in-Some.ctid, c.in-Some.context) ∙ (ap (λ es. filter_map f (map deref_pair c.loop-ctid.yielded) ++ es) (filter_map-none f entry is) ∙ append-nil _)))
