use Rattle.std.proofs.Common.{Result, Ok, Err, IsOk, OnOk, ◌∙◌}
use Rattle.std.specs.Str.{bytes_eq}
use Rattle.indexmap.proofs.CallerLemmas.{insert_entry-new}
use Rattle.dl_apps.proofs.application.put_in.Goals as goal

-- what an Ok ensures, where the answer is one
done : {A E : Type 0} (r : Result A E) (P : Type 0) → IsOk r → OnOk r P → P
done (Ok x) P ok so = so
done (Err e) P ok so = absurd (cc ok)

pub returns-clause-added : goal.returns-clause-added
returns-clause-added c =
    done c.insert.result _ (c.insert.ensures.succeeds c.requires.room) c.insert.ensures.entries ∙ insert_entry-new bytes_eq c.args.contexts.now c.args.ctid c.args.context c.requires.absent
