-- A link that is lent out of its list.
use Rattle.std.specs.Prelude.{ℕ, ◌-◌, slice_set}
use Rattle.std.specs.Borrow.{Lends, MutBor, Fml, RattleType}
use Rattle.dl_outside.specs.Links.{Links}
use Rattle.dl_outside.specs.contracts.links.LinkList.{the_row}

-- the list with this link at a number
abbrev pub with_link : {L : Type 0} → Links L → ℕ → L → Links L
with_link list number link = record { links = slice_set list.links (number - 1) link; room = list.room }

-- r lends the link of a number: what is last left behind r is the link of that number, and the others stay
abbrev pub LendsLink : (L : RattleType) → MutBor (Links L.Denot) → ℕ → MutBor L.Denot → Fml
LendsLink L list number r = Lends (the_row L) L list r (with_link list.now number)
