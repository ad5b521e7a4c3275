use Rattle.dl_opening.proofs.LeftPlaces.{places_left}
use Rattle.dl_opening.proofs.laws.played_books_have_places.Goals as goal

pub returns : goal.returns
returns c = places_left
