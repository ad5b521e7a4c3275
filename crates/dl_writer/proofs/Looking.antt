-- What a look at a level leaves.
use Rattle.std.proofs.Common.{◌≡◌, ℕ, Bool, sym, ap, subst, ◌∙◌}
use Rattle.dl_bytes.specs.Context.{Context, slot_of}
use Rattle.dl_bytes.specs.Level.{passes}
use Rattle.dl_bytes.specs.declared.level.Severity.{Severity}
use Rattle.dl_cells.specs.LevelHistory.{read, NoneAbove}
use Rattle.dl_cells.specs.LevelStates.{ReaderState}
use Rattle.dl_writer.specs.Calls.{with_read, LooksUp}
use Rattle.dl_writer.specs.State.{WriterState}

pub looks_up : (old w : WriterState) (ctx : Context) (severity : Severity) (place version level : ℕ) (answer : Bool) (reader : ReaderState)
    → old ≡ w → place ≡ slot_of ctx → reader ≡ with_read w.reader (read place version level) → NoneAbove place version w.reader.reads → answer ≡ passes severity level
    → LooksUp old ctx severity answer (record w { reader = reader })
looks_up old w ctx severity place version level answer reader same there loaded newest passing =
    subst (λ (o : WriterState). LooksUp o ctx severity answer (record w { reader = reader })) (sym same) (record {
      version = version;
      level = level;
      newest = subst (λ n. NoneAbove n version w.reader.reads) there newest;
      loaded = ap (λ (r : ReaderState). record w { reader = r }) (loaded ∙ ap (λ n. with_read w.reader (read n version level)) there);
      passing = passing;
    })
