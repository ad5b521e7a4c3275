use Rattle.dl_writer.proofs.Writers.{claim_made, has_room, is_full, is_joined}
use Rattle.dl_writer.proofs.writer.Writer.claim_context.Goals as goal

pub invariant_of-self : goal.invariant_of-self
invariant_of-self g c =
    is_full c.self.inside c.next_place.new.reader c.one_more-self-inside.result c.one_more-self-inside-in_default-next_place.result
    c.in_default-next_place.ensures.none c.one_more-self-inside.ensures c.one_more-self-inside-in_default-next_place.ensures c.next_place.ensures.few c.self.invariant

pub add-requires : goal.add-requires
add-requires g c =
    let place = c.in-Some-next_place.ensures.place in
    has_room c.self.inside c.next_place.new.reader place.0 place.3 c.next_place.ensures.few c.self.invariant

pub invariant_of-self-2 : goal.invariant_of-self-2
invariant_of-self-2 g c =
    let place = c.in-Some-next_place.ensures.place in
    is_joined c.self.inside c.next_place.new.reader place.0 c.in-Some-next_place.place c.one_more-self-inside.result c.add.new.self c.of-claim.result
    place.3 place.1 place.2 c.one_more-self-inside.ensures c.add.ensures (claim_made c.of-claim.result _ _ _ _ _ _ c.of-claim.ensures) c.next_place.ensures.few c.self.invariant
