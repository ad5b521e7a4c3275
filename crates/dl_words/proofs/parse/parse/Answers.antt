use Rattle.clap.proofs.WalkLemmas.{both}
use Rattle.dl_words.proofs.parse.parse.Goals as goal

pub returns-in-Ok-clause-parses : goal.returns-in-Ok-clause-parses
returns-in-Ok-clause-parses c =
    (c.in-Ok.ensures.kinds c.requires.simple, (c.in-Ok.ensures.matches (both _ _ c.requires.simple).0).0)
