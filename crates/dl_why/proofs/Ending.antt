-- How the explanation of a script ends.
use Rattle.std.proofs.Common.{◌≡◌, ◌≢◌, ◌∙◌, ℕ, true, false, cond, List, [], Option, Some, None, ap, refl, subst, sym}
use Rattle.std.specs.Prelude.{IfSome, Result, Ok, Err, is_some, option_map, unwrap_or}
use Rattle.std.specs.FinMap as map
use Rattle.dl_outside.proofs.Staying.{stays_same}
use Rattle.dl_model.specs.TraceFiles.{StoredFile}
use Rattle.dl_outside.specs.Folder.{Files}
use Rattle.dl_outside.specs.Outside.{HasRisen, Stays, one_more}
use Rattle.dl_outside.specs.Told.{FolderTold, SinkTold, SourceTold}
use Rattle.dl_outside.specs.Written.{Wrote, WroteNothing}
use Rattle.dl_startup.specs.Configuration.{SayConfs}
use Rattle.dl_startup.specs.Setup.{conf_name}
use Rattle.dl_startup.specs.Unchanged.{IsQuiet, IsUnchanged}
use Rattle.dl_startup.specs.declared.status.Status.{Status}
use Rattle.dl_startup.specs.declared.status.Status.TheVariants as end
use Rattle.dl_bytes.specs.declared.conf.Conf.{Conf}
use Rattle.dl_trace_why.specs.Account.{Spares}
use Rattle.dl_why.specs.Drawing.{Draws, Keeps, TriesToDraw}
use Rattle.dl_why.specs.Program.{AreStanding, Begins, Ends, LooksAt, Prints, ReadsScript, Says, Told, Writes, drawing_of, line_of, text_of, told}
use Rattle.dl_why.specs.declared.program.Start.{Start}
use Rattle.dl_why.specs.declared.steps_status.StepsStatus.{StepsStatus}
use Rattle.dl_why.specs.declared.steps_status.StepsStatus.TheVariants.{Plain, PictureFault}
use Rattle.dl_startup.proofs.Told.{unchanged_on}
use Rattle.dl_trace_files.proofs.Looking.{stays_on}

-- ---- a folder that is left as it was, twice

pub told_before : (P : Files → Type 0) (old mid : Option Files) → Stays old mid → IfSome mid P → IfSome old P
told_before P None mid was holds = tt
told_before P (Some files) mid was holds = subst (λ (told : Option Files). IfSome told P) was holds

-- ---- what is drawn

draws_on : (drawn : Option (List ℕ)) (text : List ℕ) (old mid new : FolderTold) → IsUnchanged old mid → Draws drawn text mid new → Draws drawn text old new
draws_on None text old mid new left draws = unchanged_on old mid new left draws
draws_on (Some name) text old mid new left draws =
    (draws.0 ∙ ap one_more left.changes, told_before (λ files. new.files ≡ Some (map.insert files name text)) old.files mid.files left.files draws.1)

spares_on : (drawn : Option (List ℕ)) (old mid new : FolderTold) → IsUnchanged old mid → Spares drawn mid new → Spares drawn old new
spares_on None old mid new left spares = absurd spares
spares_on (Some name) old mid new left spares =
    told_before (λ files. (now : Files) × (new.files ≡ Some now) × (map.remove now name ≡ map.remove files name)) old.files mid.files left.files spares

keeps_on : (drawn : Option (List ℕ)) (old mid new : FolderTold) → IsUnchanged old mid → Keeps drawn mid new → Keeps drawn old new
keeps_on None old mid new left keeps = unchanged_on old mid new left keeps
keeps_on (Some name) old mid new left keeps = stays_on old.files mid.files new.files left.files keeps

left_kept : (drawn : Option (List ℕ)) (old new : FolderTold) → IsUnchanged old new → Keeps drawn old new
left_kept None old new left = left
left_kept (Some name) old new left = left.files

module _ {N V : Type 0} (now : N → List ℕ) (items : V → List ℕ) (names : Option N) (shown : Option V) (text : List ℕ) (is : option_map items shown ≡ cond (is_some names) (Some text) None) where
  -- no picture is wanted
  pub no_name : (told : FolderTold) → names ≡ None → TriesToDraw (option_map now names) text told told (Ok tt)
  no_name told none = subst (λ (o : Option N). TriesToDraw (option_map now o) text told told (Ok tt)) (sym none) (record { files = stays_same told.files; changes = refl })

  -- the picture that was drawn is put
  pub put : (n : N) (v : V) (bytes : List ℕ) (old new : FolderTold) (result : Result (Unit {0}) StepsStatus) → names ≡ Some n → shown ≡ Some v → bytes ≡ items v →
      TriesToDraw (Some (now n)) bytes old new result → TriesToDraw (option_map now names) text old new result
  put n v bytes old new result named drew same tries =
      let both : Some (items v) ≡ Some text = sym (ap (option_map items) drew) ∙ is ∙ ap (λ (o : Option N). cond (is_some o) (Some text) None) named in
      let all : bytes ≡ text = same ∙ ap (λ (o : Option (List ℕ)). unwrap_or o []) both in
      subst (λ (o : Option N). TriesToDraw (option_map now o) text old new result) (sym named) (subst (λ (t : List ℕ). TriesToDraw (Some (now n)) t old new result) all tries)

  -- where one is wanted, one was drawn
  pub some_drawn : (n : N) → names ≡ Some n → shown ≡ None → ⊥
  some_drawn n named none =
      let both : None ≡ Some text = sym (ap (option_map items) none) ∙ is ∙ ap (λ (o : Option N). cond (is_some o) (Some text) None) named in
      let apart : false ≡ true = ap is_some both in
      cc

-- ---- what is written

pub written : (start : Start) (stood : List StoredFile) (drawn : Option (List ℕ)) (folder folder_now : FolderTold) (old new : SinkTold) (status : StepsStatus) →
    Draws drawn (drawing_of start.setup start.script) folder folder_now → Prints (text_of start.setup stood start.script) old new status → Writes start stood drawn folder folder_now old new status
written start stood drawn folder folder_now old new (Plain end.Ok) draws prints = (prints, draws)
written start stood drawn folder folder_now old new (Plain end.WordsRefused) draws prints = absurd prints
written start stood drawn folder folder_now old new (Plain (end.ConfRefused line kind)) draws prints = absurd prints
written start stood drawn folder folder_now old new (Plain (end.StoredRefused line kind)) draws prints = absurd prints
written start stood drawn folder folder_now old new (Plain (end.ScriptRefused line kind)) draws prints = absurd prints
written start stood drawn folder folder_now old new (Plain end.WriteFault) draws prints = (prints, draws)
written start stood drawn folder folder_now old new (Plain end.FolderFault) draws prints = absurd prints
written start stood drawn folder folder_now old new (Plain end.NetFault) draws prints = absurd prints
written start stood drawn folder folder_now old new (Plain end.OutOfMemory) draws prints = absurd prints
written start stood drawn folder folder_now old new (Plain end.NamesSpent) draws prints = absurd prints
written start stood drawn folder folder_now old new (Plain end.ReadFault) draws prints = absurd prints
written start stood drawn folder folder_now old new (Plain end.JournalFull) draws prints = absurd prints
written start stood drawn folder folder_now old new (Plain (end.StorageRefused line kind)) draws prints = absurd prints
written start stood drawn folder folder_now old new PictureFault draws prints = absurd prints

pub not_drawn : (start : Start) (stood : List StoredFile) (drawn : Option (List ℕ)) (folder folder_now : FolderTold) (out : SinkTold) (status : StepsStatus) →
    TriesToDraw drawn (drawing_of start.setup start.script) folder folder_now (Err status) → Writes start stood drawn folder folder_now out out status
not_drawn start stood drawn folder folder_now out (Plain end.Ok) tries = absurd tries
not_drawn start stood drawn folder folder_now out (Plain end.WordsRefused) tries = absurd tries
not_drawn start stood drawn folder folder_now out (Plain (end.ConfRefused line kind)) tries = absurd tries
not_drawn start stood drawn folder folder_now out (Plain (end.StoredRefused line kind)) tries = absurd tries
not_drawn start stood drawn folder folder_now out (Plain (end.ScriptRefused line kind)) tries = absurd tries
not_drawn start stood drawn folder folder_now out (Plain end.WriteFault) tries = absurd tries
not_drawn start stood drawn folder folder_now out (Plain end.FolderFault) tries = absurd tries
not_drawn start stood drawn folder folder_now out (Plain end.NetFault) tries = absurd tries
not_drawn start stood drawn folder folder_now out (Plain end.OutOfMemory) tries = (refl, tries)
not_drawn start stood drawn folder folder_now out (Plain end.NamesSpent) tries = absurd tries
not_drawn start stood drawn folder folder_now out (Plain end.ReadFault) tries = absurd tries
not_drawn start stood drawn folder folder_now out (Plain end.JournalFull) tries = absurd tries
not_drawn start stood drawn folder folder_now out (Plain (end.StorageRefused line kind)) tries = absurd tries
not_drawn start stood drawn folder folder_now out PictureFault tries = (tries.0, refl, tries.1)

-- ---- how it ends

pub ended : (start : Start) (stood : List StoredFile) (drawn : Option (List ℕ)) (old new : Told) (mid : FolderTold) (status : StepsStatus) → IfSome old.folder.files (λ files. SayConfs conf_name files start.setup) →
    AreStanding start.setup stood old.folder.files → ReadsScript old.input new.input (Ok start.script) → IsQuiet old.folder mid → Writes start stood drawn mid new.folder old.out new.out status → Ends drawn old new status
ended start stood drawn old new mid (Plain end.Ok) confs stand script quiet wrote =
    (start.setup, stood, start.script, record { confs = confs; stand = stand; script_is = script }, wrote.0, draws_on drawn (drawing_of start.setup start.script) old.folder mid new.folder quiet.unchanged wrote.1)
ended start stood drawn old new mid (Plain end.WordsRefused) confs stand script quiet wrote = absurd wrote
ended start stood drawn old new mid (Plain (end.ConfRefused line kind)) confs stand script quiet wrote = absurd wrote
ended start stood drawn old new mid (Plain (end.StoredRefused line kind)) confs stand script quiet wrote = absurd wrote
ended start stood drawn old new mid (Plain (end.ScriptRefused line kind)) confs stand script quiet wrote = absurd wrote
ended start stood drawn old new mid (Plain end.WriteFault) confs stand script quiet wrote =
    (start.setup, stood, start.script, record { confs = confs; stand = stand; script_is = script }, wrote.0, draws_on drawn (drawing_of start.setup start.script) old.folder mid new.folder quiet.unchanged wrote.1)
ended start stood drawn old new mid (Plain end.FolderFault) confs stand script quiet wrote = absurd wrote
ended start stood drawn old new mid (Plain end.NetFault) confs stand script quiet wrote = absurd wrote
ended start stood drawn old new mid (Plain end.OutOfMemory) confs stand script quiet wrote = (wrote.0, keeps_on drawn old.folder mid new.folder quiet.unchanged wrote.1)
ended start stood drawn old new mid (Plain end.NamesSpent) confs stand script quiet wrote = absurd wrote
ended start stood drawn old new mid (Plain end.ReadFault) confs stand script quiet wrote = absurd wrote
ended start stood drawn old new mid (Plain end.JournalFull) confs stand script quiet wrote = absurd wrote
ended start stood drawn old new mid (Plain (end.StorageRefused line kind)) confs stand script quiet wrote = absurd wrote
ended start stood drawn old new mid PictureFault confs stand script quiet wrote =
    (subst (λ (n : ℕ). HasRisen n new.folder.faults) quiet.well wrote.0, wrote.1, spares_on drawn old.folder mid new.folder quiet.unchanged wrote.2)

-- it did not begin
pub not_begun : (drawn : Option (List ℕ)) (input input_now : SourceTold) (folder folder_now : FolderTold) (out : SinkTold) (status : Status) → Begins input input_now folder folder_now (Err status) →
    Ends drawn (told input folder out) (told input_now folder_now out) (Plain status)
not_begun drawn input input_now folder folder_now out end.Ok begins = absurd begins
not_begun drawn input input_now folder folder_now out end.WordsRefused begins = absurd begins
not_begun drawn input input_now folder folder_now out (end.ConfRefused line kind) begins = (begins.0, (refl, begins.1))
not_begun drawn input input_now folder folder_now out (end.StoredRefused line kind) begins = (begins.0, (refl, begins.1))
not_begun drawn input input_now folder folder_now out (end.ScriptRefused line kind) begins = (begins.0, (refl, begins.1))
not_begun drawn input input_now folder folder_now out end.WriteFault begins = absurd begins
not_begun drawn input input_now folder folder_now out end.FolderFault begins = (begins.0, (refl, begins.1))
not_begun drawn input input_now folder folder_now out end.NetFault begins = absurd begins
not_begun drawn input input_now folder folder_now out end.OutOfMemory begins = (refl, left_kept drawn folder folder_now begins)
not_begun drawn input input_now folder folder_now out end.NamesSpent begins = absurd begins
not_begun drawn input input_now folder folder_now out end.ReadFault begins = (begins.0, (refl, begins.1))
not_begun drawn input input_now folder folder_now out end.JournalFull begins = absurd begins
not_begun drawn input input_now folder folder_now out (end.StorageRefused line kind) begins = absurd begins

-- the trace files could not be looked at
pub not_looked : (drawn : Option (List ℕ)) (conf : Conf) (input input_now : SourceTold) (folder mid folder_now : FolderTold) (out : SinkTold) (status : Status) → IsQuiet folder mid →
    LooksAt conf mid folder_now (Err status) → Ends drawn (told input folder out) (told input_now folder_now out) (Plain status)
not_looked drawn conf input input_now folder mid folder_now out end.Ok quiet looks = absurd looks
not_looked drawn conf input input_now folder mid folder_now out end.WordsRefused quiet looks = absurd looks
not_looked drawn conf input input_now folder mid folder_now out (end.ConfRefused line kind) quiet looks = absurd looks
not_looked drawn conf input input_now folder mid folder_now out (end.StoredRefused line kind) quiet looks = absurd looks
not_looked drawn conf input input_now folder mid folder_now out (end.ScriptRefused line kind) quiet looks = absurd looks
not_looked drawn conf input input_now folder mid folder_now out end.WriteFault quiet looks = absurd looks
not_looked drawn conf input input_now folder mid folder_now out end.FolderFault quiet looks =
    (subst (λ (n : ℕ). HasRisen n folder_now.faults) quiet.well looks.0, (refl, unchanged_on folder mid folder_now quiet.unchanged looks.1))
not_looked drawn conf input input_now folder mid folder_now out end.NetFault quiet looks = absurd looks
not_looked drawn conf input input_now folder mid folder_now out end.OutOfMemory quiet looks = (refl, left_kept drawn folder folder_now (unchanged_on folder mid folder_now quiet.unchanged looks))
not_looked drawn conf input input_now folder mid folder_now out end.NamesSpent quiet looks = absurd looks
not_looked drawn conf input input_now folder mid folder_now out end.ReadFault quiet looks = absurd looks
not_looked drawn conf input input_now folder mid folder_now out end.JournalFull quiet looks = absurd looks
not_looked drawn conf input input_now folder mid folder_now out (end.StorageRefused line kind) quiet looks = absurd looks

pub says : (status : Status) (old new : SinkTold) → (status ≡ end.Ok → WroteNothing old new) → (status ≢ end.Ok → Wrote old new (line_of status)) → Says status old new
says end.Ok old new silent said = silent refl
says end.WordsRefused old new silent said = said (λ same. cc)
says (end.ConfRefused line kind) old new silent said = said (λ same. cc)
says (end.StoredRefused line kind) old new silent said = said (λ same. cc)
says (end.ScriptRefused line kind) old new silent said = said (λ same. cc)
says end.WriteFault old new silent said = said (λ same. cc)
says end.FolderFault old new silent said = said (λ same. cc)
says end.NetFault old new silent said = said (λ same. cc)
says end.OutOfMemory old new silent said = said (λ same. cc)
says end.NamesSpent old new silent said = said (λ same. cc)
says end.ReadFault old new silent said = said (λ same. cc)
says end.JournalFull old new silent said = said (λ same. cc)
says (end.StorageRefused line kind) old new silent said = said (λ same. cc)
