-- What a link tells stays and grows.
use Rattle.std.proofs.Common.{ℕ, List, [], Option, Some, None, refl, sym, ap, ◌∙◌}
use Rattle.std.proofs.lemmas.List.{append-nil}
use Rattle.dl_outside.specs.Link.{Gives}
use Rattle.dl_outside.specs.Outside.{Grows, Stays}
use Rattle.dl_outside.specs.declared.link.Gave.{Gave}
use Rattle.dl_outside.specs.declared.link.Gave.TheVariants as gave
use Rattle.dl_turns.specs.Turns.{heard}

pub stays_same : (told : Option (List ℕ)) → Stays told told
stays_same None = tt
stays_same (Some bytes) = refl

pub stays_grow : (old new : Option (List ℕ)) → Stays old new → Grows old new []
stays_grow None new stays = tt
stays_grow (Some bytes) new stays = stays ∙ ap Some (sym (append-nil bytes))

-- what it gave at once
pub gives_heard : (old new : Option (List ℕ)) (answer : Gave) (into : List ℕ) → Gives old new answer into → Grows old new (heard answer into)
gives_heard old new (gave.Bytes count) into gives = gives
gives_heard old new gave.NotYet into gives = stays_grow old new gives
gives_heard old new gave.End into gives = stays_grow old new gives
gives_heard old new gave.Failed into gives = stays_grow old new gives
