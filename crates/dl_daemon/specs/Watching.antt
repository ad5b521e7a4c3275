-- What a watch was told and asked, and what it answered.
use Rattle.std.specs.Prelude.{ℕ, zero, suc, Bool, true, false, Option, Some, None}
use Rattle.dl_outside.specs.Outside.{one_more}
use Rattle.dl_words.specs.Daemon.{Daemon}
use Rattle.dl_daemon.specs.declared.rounds.Stop.{Stop}
use Rattle.dl_daemon.specs.declared.rounds.Stop.TheVariants.{Asked, Spent}
use Rattle.dl_daemon.specs.declared.watch.Watched.{Watched}

-- it was told after how many seconds a status line is asked for, where it is
abbrev pub told_of : Option ℕ → Watched → Watched
told_of every watched = record watched { every = Some every }

-- it was asked whether a round is to begin, and answered so
abbrev pub answered : Bool → Watched → Watched
answered true watched = record watched { rounds = one_more watched.rounds }
answered false watched = record watched { ended = true }

-- so many rounds were to begin
abbrev pub let_begin : ℕ → Watched → Watched
let_begin zero watched = watched
let_begin (suc many) watched = answered true (let_begin many watched)

-- It was asked once more, and no round begins since it said so; or it was not asked, since no more frames may be admitted.
abbrev pub ended_for : Stop → Watched → Watched
ended_for Asked watched = answered false watched
ended_for Spent watched = watched

-- it was told what the words ask for, where they ask for a daemon
abbrev pub told_for : Option Daemon → Watched → Watched
told_for None watched = watched
told_for (Some asked) watched = told_of asked.status watched

-- ---- for inner functions

-- whether a round is to begin
abbrev pub asked_once : Option Stop → Watched → Watched
asked_once None watched = answered true watched
asked_once (Some why) watched = ended_for why watched
