use Rattle.std.proofs.Common.{◌≡◌, ◌+◌, ◌<◌, length, map, Some, slice_get, refl, sym, ap, ◌∙◌, subst, arith}
use Rattle.dl_writer.specs.State.{WriterState}
use Rattle.dl_desk.specs.DeskInside.{desk_state}
use Rattle.dl_desk.specs.State.{DeskState}
use Rattle.dl_desk.proofs.Making.{known_within, gives, takes, fresh, has_room, makes, made}
use Rattle.dl_desk.proofs.desk.Desk.make_writer.Goals as goal

pub split-requires-clause-first : goal.split-requires-clause-first
split-requires-clause-first c =
    let within = known_within (desk_state c.self.inside) _ c.args.owner.app c.args.owner.apid c.self.view_is c.requires.apid in
    gives (desk_state c.self.inside) c.self.invariant c.args.owner.app c.from.result c.index_mut-first.result.now c.from.ensures within c.index_mut-first.ensures.value

pub split-requires-clause-fresh : goal.split-requires-clause-fresh
split-requires-clause-fresh c =
    let within = known_within (desk_state c.self.inside) _ c.args.owner.app c.args.owner.apid c.self.view_is c.requires.apid in
    fresh (desk_state c.self.inside) c.self.invariant c.args.owner.app c.from.result c.index_mut-first.result.now c.from.ensures within c.index_mut-first.ensures.value
    (c.len-2.result + 1) (omega (arith, c.len-2.ensures.value))

pub split-requires-4-clause-first : goal.split-requires-4-clause-first
split-requires-4-clause-first c =
    let within = known_within (desk_state c.self.inside) _ c.args.owner.app c.args.owner.apid c.self.view_is c.requires.apid in
    takes (desk_state c.self.inside) c.self.invariant c.args.owner.app c.from.result c.index_mut-first.result.now c.from.ensures within c.index_mut-first.ensures.value

pub split-requires-4-clause-room : goal.split-requires-4-clause-room
split-requires-4-clause-room c =
    let within = known_within (desk_state c.self.inside) _ c.args.owner.app c.args.owner.apid c.self.view_is c.requires.apid in
    let most = c.self.invariant.writers in
    let few : length c.self.inside.owners.items < 32 = omega (arith, c.len.ensures.value, c.if-len-eq-WRITER_LIMIT.false, most) in
    has_room (desk_state c.self.inside) c.self.invariant c.args.owner.app c.from.result c.index_mut-first.result.now c.from.ensures within c.index_mut-first.ensures.value few

pub invariant_of-self : goal.invariant_of-self
invariant_of-self c =
    let within = known_within (desk_state c.self.inside) _ c.args.owner.app c.args.owner.apid c.self.view_is c.requires.apid in
    let most = c.self.invariant.writers in
    let few : length c.self.inside.owners.items < 32 = omega (arith, c.len.ensures.value, c.if-len-eq-WRITER_LIMIT.false, most) in
    let number : c.len-2.result + 1 ≡ length c.self.inside.owners.items + 1 = omega (arith, c.len-2.ensures.value) in
    rw (c.split.ensures.given, c.split-4.ensures.splits, c.split-2.ensures.this, c.split-3.ensures.this, c.push.ensures.items)
    (makes (desk_state c.self.inside) c.self.invariant c.args.owner.app c.from.result c.index_mut-first.result.now c.from.ensures within c.index_mut-first.ensures.value (c.len-2.result + 1) number few)

pub returns-clause-made : goal.returns-clause-made
returns-clause-made c =
    let within = known_within (desk_state c.self.inside) _ c.args.owner.app c.args.owner.apid c.self.view_is c.requires.apid in
    let number : c.len-2.result + 1 ≡ length c.self.inside.owners.items + 1 = omega (arith, c.len-2.ensures.value) in
    made (desk_state c.self.inside) c.self.invariant c.args.owner.app c.from.result c.index_mut-first.result.now c.from.ensures within c.index_mut-first.ensures.value
    (c.len-2.result + 1) _ c.of.result number refl refl c.push.ensures.items
    (ap (λ (w : WriterState). w.app) c.of.ensures)
    (subst (λ (s : DeskState). slice_get (map (λ a. a.apid) s.apps) c.args.owner.app ≡ Some c.args.owner.apid) (sym c.self.view_is) c.requires.apid ∙ ap Some (sym (ap (λ (w : WriterState). w.apid) c.of.ensures)))
    (ap (λ (w : WriterState). w.push) c.of.ensures ∙ c.split.ensures.new)
    (ap (λ (w : WriterState). w.injections) c.of.ensures ∙ c.split-4.ensures.new)
    (ap (λ (w : WriterState). w.reader.table) c.of.ensures ∙ ap (λ r. r.table) c.split-2.ensures.other)
    (ap (λ (w : WriterState). w.reader.claims) c.of.ensures ∙ ap (λ r. r.claims) c.split-2.ensures.other)
    (ap (λ (w : WriterState). w.reader.splits_left) c.of.ensures ∙ ap (λ r. r.splits_left) c.split-2.ensures.other)
    (ap (λ (w : WriterState). w.losses.table) c.of.ensures ∙ ap (λ r. r.table) c.split-3.ensures.other)
    (ap (λ (w : WriterState). w.losses.splits_left) c.of.ensures ∙ ap (λ r. r.splits_left) c.split-3.ensures.other)
