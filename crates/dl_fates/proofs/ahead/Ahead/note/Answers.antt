use Rattle.std.proofs.lemmas.Result.{on_ok_weaker}
use Rattle.dl_fates.proofs.ahead.Ahead.note.Goals as goal

pub returns : goal.returns
returns c = λ steps keeps. on_ok_weaker c.note_losses.result
    (λ losses. record {
      losses = losses;
      refused = c.in_ok-note_refused.ensures c.args.line steps keeps.losses keeps.refused;
      loaded = c.in_ok-note_loaded.ensures c.args.line steps keeps.losses keeps.refused keeps.loaded;
    })
    (c.note_losses.ensures steps keeps.losses)
