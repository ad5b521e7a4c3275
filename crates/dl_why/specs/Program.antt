-- What `dlt_why` promises.
use Rattle.std.specs.Prelude.{◌≡◌, ◌<◌, ◌⊎◌, ℕ, length, List, [], ◌∷◌, codes, map, IfSome, IsOk, Option, Some, None, Result, Ok, Err, String, string_bytes}
use Rattle.std.specs.FinMap as entries
use Rattle.dl_bytes.specs.declared.conf.Conf.{Conf}
use Rattle.dl_core.specs.Settings.{HasSizes, setting_of}
use Rattle.dl_model.specs.Setting.{Setting}
use Rattle.dl_model.specs.TraceFiles.{StoredFile}
use Rattle.dl_outside.specs.Folder.{Files}
use Rattle.dl_outside.specs.Outside.{HasRisen}
use Rattle.dl_outside.specs.Told.{FolderTold, SinkTold, SourceTold}
use Rattle.dl_outside.specs.Written.{Wrote, WroteAll, WroteFront, WroteNothing}
use Rattle.dl_script.specs.Script.{steps_of}
use Rattle.dl_script.specs.declared.error.ScriptError.TheVariants as bad
use Rattle.dl_script_fields.specs.declared.kind.ScriptKind.TheVariants.{Missing}
use Rattle.dl_startup.specs.Configuration.{SayConfs}
use Rattle.dl_startup.specs.Setup.{conf_in, conf_name, stored_in}
use Rattle.dl_startup.specs.Status as startup
use Rattle.dl_startup.specs.Unchanged.{IsQuiet, IsUnchanged}
use Rattle.dl_startup.specs.declared.configuration.Setup.{Setup}
use Rattle.dl_startup.specs.declared.status.Status.{Status}
use Rattle.dl_startup.specs.declared.status.Status.TheVariants as end
use Rattle.dl_fates.specs.declared.stored_calls.Rotation.{Rotation}
use Rattle.dl_find_words.specs.Asking.{question_of}
use Rattle.dl_find.specs.Found.{Finds}
use Rattle.dl_find_words.specs.declared.question.Question.{Question}
use Rattle.dl_trace.specs.InFolder.{HasFiles}
use Rattle.dl_trace_files.specs.Files.{files_asked}
use Rattle.dl_trace_why.specs.Account as trace
use Rattle.dl_trace_why.specs.Account.{Sides, Spares, sides}
use Rattle.dl_why_words.specs.Words as given_words
use Rattle.dl_why_words.specs.Words.{Asked, AsksSteps, AsksTrace, AsksStream, AsksFind, said}
use Rattle.dl_why_words.specs.declared.parse.WhyFault.{WhyFault}
use Rattle.dl_why_words.specs.declared.parse.WhyFault.TheVariants as fault
use Rattle.dl_why_words.specs.declared.words.WhyWords.{WhyWords}
use Rattle.dl_why.specs.Drawing.{Draws, Keeps}
use Rattle.dl_why.specs.Explained.{drawn, explained}
use Rattle.dl_why.specs.StepsStatus.{number}
use Rattle.dl_fates.specs.Written.{IsRotating}
use Rattle.dl_why.specs.declared.program.Start.{Start}
use Rattle.dl_why.specs.declared.script.Script.{Script}
use Rattle.dl_why.specs.declared.steps_status.StepsStatus.{StepsStatus}
use Rattle.dl_why.specs.declared.steps_status.StepsStatus.TheVariants.{Plain, PictureFault}

-- ---- the script

-- a script is what the input had, and these are its steps; or why there is none
abbrev pub ReadsScript : SourceTold → SourceTold → Result Script Status → Type 0
ReadsScript old new (Ok script) = IfSome old.left (λ all. script.text.items ≡ all) × (steps_of script.text.items ≡ Ok script.steps)
ReadsScript old new (Err (end.ScriptRefused line kind)) = IfSome old.left (λ all. steps_of all ≡ Err (bad.Fault line kind))
ReadsScript old new (Err end.ReadFault) = HasRisen old.faults new.faults
ReadsScript old new (Err end.OutOfMemory) = new.faults ≡ old.faults
ReadsScript old new (Err _) = ⊥

-- what is printed of a script where these configurations are set and these trace files stand
abbrev pub text_of : Setup → List StoredFile → Script → List ℕ
text_of setup stood script = explained (setting_of setup.conf setup.stored 0) stood script.text.items script.steps

-- its picture
abbrev pub drawing_of : Setup → Script → List ℕ
drawing_of setup script = drawn (setting_of setup.conf setup.stored 0) script.text.items script.steps

-- ---- outcomes

-- what the outside tells
pub record Told : Type 0 where
  pub input : SourceTold
  pub folder : FolderTold
  pub out : SinkTold

abbrev pub told : SourceTold → FolderTold → SinkTold → Told
told input folder out = record { input = input; folder = folder; out = out }

-- where a trace is kept, these are the folder's trace files
abbrev pub AreStanding : Setup → List StoredFile → Option Files → Type 0
AreStanding setup stood told = 0 < length setup.conf.directory → IfSome told (λ files. HasFiles setup.conf.directory files stood)

-- folder and input say these configurations, these trace files and this script
pub record IsSaid (old new : Told) (setup : Setup) (stood : List StoredFile) (script : Script) : Type 0 where
  pub confs : IfSome old.folder.files (λ files. SayConfs conf_name files setup)
  pub stand : AreStanding setup stood old.folder.files
  pub script_is : ReadsScript old.input new.input (Ok script)

-- a script was explained, if this is so of its text and of its picture
abbrev pub Explains : Told → Told → (text picture : List ℕ → Type 0) → Type 0
Explains old new text picture =
    (setup : Setup) × (stood : List StoredFile) × (script : Script) × IsSaid old new setup stood script × text (text_of setup stood script) × picture (drawing_of setup script)

-- nothing was written, and no file was to change
abbrev pub IsSilent : Told → Told → Type 0
IsSilent old new = WroteNothing old.out new.out × IsUnchanged old.folder new.folder

-- What each status says, where a picture goes into the file of this name, or none is wanted: the text was written, a front of it, or nothing; and the
-- picture was drawn, or not.
abbrev pub Ends : Option (List ℕ) → Told → Told → StepsStatus → Type 0
Ends drawn old new (Plain end.Ok) = Explains old new (WroteAll old.out new.out) (λ picture. Draws drawn picture old.folder new.folder)
Ends drawn old new (Plain end.WriteFault) = Explains old new (WroteFront old.out new.out) (λ picture. Draws drawn picture old.folder new.folder)
Ends drawn old new (Plain (end.ConfRefused line kind)) = IfSome old.folder.files (λ files. conf_in conf_name files ≡ Err (line, kind)) × IsSilent old new
Ends drawn old new (Plain (end.StoredRefused line kind)) = IfSome old.folder.files (λ files. IsOk (conf_in conf_name files) × (stored_in files ≡ Err (line, kind))) × IsSilent old new
Ends drawn old new (Plain (end.ScriptRefused line kind)) = ReadsScript old.input new.input (Err (end.ScriptRefused line kind)) × IsSilent old new
Ends drawn old new (Plain end.ReadFault) = ReadsScript old.input new.input (Err end.ReadFault) × IsSilent old new
Ends drawn old new (Plain end.FolderFault) = HasRisen old.folder.faults new.folder.faults × IsSilent old new
Ends drawn old new (Plain end.OutOfMemory) = WroteNothing old.out new.out × Keeps drawn old.folder new.folder
Ends drawn old new (Plain _) = ⊥
Ends drawn old new PictureFault = HasRisen old.folder.faults new.folder.faults × WroteNothing old.out new.out × Spares drawn old.folder new.folder

-- ---- for inner functions

-- what a run begins with is what folder and input say; or why it does not begin. No file is to change.
abbrev pub Begins : SourceTold → SourceTold → FolderTold → FolderTold → Result Start Status → Type 0
Begins input input_now folder folder_now (Ok start) =
    IfSome folder.files (λ files. SayConfs conf_name files start.setup) × ReadsScript input input_now (Ok start.script) × IsQuiet folder folder_now
Begins input input_now folder folder_now (Err (end.ConfRefused line kind)) = IfSome folder.files (λ files. conf_in conf_name files ≡ Err (line, kind)) × IsUnchanged folder folder_now
Begins input input_now folder folder_now (Err (end.StoredRefused line kind)) =
    (IfSome folder.files (λ files. IsOk (conf_in conf_name files) × (stored_in files ≡ Err (line, kind)))) × IsUnchanged folder folder_now
Begins input input_now folder folder_now (Err (end.ScriptRefused line kind)) = ReadsScript input input_now (Err (end.ScriptRefused line kind)) × IsUnchanged folder folder_now
Begins input input_now folder folder_now (Err end.ReadFault) = ReadsScript input input_now (Err end.ReadFault) × IsUnchanged folder folder_now
Begins input input_now folder folder_now (Err end.FolderFault) = HasRisen folder.faults folder_now.faults × IsUnchanged folder folder_now
Begins input input_now folder folder_now (Err end.OutOfMemory) = IsUnchanged folder folder_now
Begins input input_now folder folder_now (Err _) = ⊥

-- trace files that stand, with the rotation that goes on with them
pub record Standing (conf : Conf) (rotation : Option Rotation) (told : Option Files) : Type 0 where
  pub stood : List StoredFile
  pub rotates : (setting : Setting) → HasSizes conf setting → IsRotating setting stood conf.directory rotation
  pub stand : 0 < length conf.directory → IfSome told (λ files. HasFiles conf.directory files stood)

-- the trace files were looked at; or why they were not. No file is to change.
abbrev pub LooksAt : Conf → FolderTold → FolderTold → Result (Option Rotation) Status → Type 0
LooksAt conf folder folder_now (Ok rotation) = Standing conf rotation folder.files × IsQuiet folder folder_now
LooksAt conf folder folder_now (Err end.FolderFault) = HasRisen folder.faults folder_now.faults × IsUnchanged folder folder_now
LooksAt conf folder folder_now (Err end.OutOfMemory) = IsUnchanged folder folder_now
LooksAt conf folder folder_now (Err _) = ⊥

-- a text was written, or its front
abbrev pub Prints : List ℕ → SinkTold → SinkTold → StepsStatus → Type 0
Prints text old new (Plain end.Ok) = WroteAll old new text
Prints text old new (Plain end.WriteFault) = WroteFront old new text
Prints text old new _ = ⊥

-- the explanation was written, and drawn where a picture is wanted; or why not. These trace files stood.
abbrev pub Writes : Start → List StoredFile → Option (List ℕ) → FolderTold → FolderTold → SinkTold → SinkTold → StepsStatus → Type 0
Writes start stood drawn folder folder_now old new (Plain end.Ok) = WroteAll old new (text_of start.setup stood start.script) × Draws drawn (drawing_of start.setup start.script) folder folder_now
Writes start stood drawn folder folder_now old new (Plain end.WriteFault) =
    WroteFront old new (text_of start.setup stood start.script) × Draws drawn (drawing_of start.setup start.script) folder folder_now
Writes start stood drawn folder folder_now old new (Plain end.OutOfMemory) = WroteNothing old new × Keeps drawn folder folder_now
Writes start stood drawn folder folder_now old new (Plain _) = ⊥
Writes start stood drawn folder folder_now old new PictureFault = HasRisen folder.faults folder_now.faults × WroteNothing old new × Spares drawn folder folder_now

-- ---- the program

abbrev pub program : List ℕ
program = codes "dlt_why"

abbrev pub usage : List ℕ
usage = codes "dlt_why steps [--picture FILE] [FILE], trace [--picture FILE] [FOLDER|FILE].., stream [--picture FILE] FILE or find APID CTID TIME|COUNTER [FOLDER|FILE].."

abbrev pub line_of : Status → List ℕ
line_of status = startup.line_of program usage status

-- the line of a picture that could not be written, as accounts of traces say it
abbrev pub picture_fault : List ℕ
picture_fault = codes "dlt_why: picture fault\n"

-- what is said on standard error: nothing where all went well, else the line of the status, or its front
abbrev pub Says : Status → SinkTold → SinkTold → Type 0
Says end.Ok old new = WroteNothing old new
Says status old new = Wrote old new (line_of status)

-- the same of how the explanation of a script ended
abbrev pub SaysSteps : StepsStatus → SinkTold → SinkTold → Type 0
SaysSteps (Plain status) old new = Says status old new
SaysSteps PictureFault old new = Wrote old new picture_fault

-- what `steps` comes to, with a picture in the file of this name where one is wanted
pub record RunsSteps (drawn : Option (List ℕ)) (old new : Told) (err err_now : SinkTold) (answer : ℕ) : Type 0 where
  pub status : StepsStatus
  pub number_is : answer ≡ number status
  pub ends : Ends drawn old new status
  pub said : SaysSteps status err err_now

-- the text of the file of this name; or why there is none. The folder is left as it was.
abbrev pub HasText : List ℕ → FolderTold → FolderTold → Result (List ℕ) Status → Type 0
HasText name old new (Ok text) = IfSome old.files (λ files. entries.get files name ≡ Some text) × IsQuiet old new
HasText name old new (Err (end.ScriptRefused line kind)) =
    (line ≡ 0) × (kind ≡ Missing) × (IfSome old.files (λ files. entries.get files name ≡ None)) × IsUnchanged old new
HasText name old new (Err end.FolderFault) = HasRisen old.faults new.faults × IsUnchanged old new
HasText name old new (Err end.OutOfMemory) = IsQuiet old new
HasText name old new (Err _) = ⊥

-- a source that has this text
abbrev pub source_of : List ℕ → SourceTold
source_of text = record { left = Some text; faults = 0 }

-- what `steps` comes to with a script that has this text
abbrev pub RunsText : List ℕ → Option (List ℕ) → Sides → Sides → SinkTold → SinkTold → ℕ → Type 0
RunsText text drawn old new err err_now answer =
    (over : SourceTold) × RunsSteps drawn (told (source_of text) old.folder old.out) (told over new.folder new.out) err err_now answer

-- the file of this name was read
pub record RunsRead (name : List ℕ) (drawn : Option (List ℕ)) (old new : Sides) (err err_now : SinkTold) (answer : ℕ) : Type 0 where
  pub text : List ℕ
  pub read : FolderTold
  pub has : HasText name old.folder read (Ok text)
  pub runs : RunsText text drawn (sides read old.out) new err err_now answer

-- it could not be read
pub record RunsUnread (name : List ℕ) (old new : Sides) (err err_now : SinkTold) (answer : ℕ) : Type 0 where
  pub status : Status
  pub lacks : HasText name old.folder new.folder (Err status)
  pub silent : WroteNothing old.out new.out
  pub number_is : answer ≡ startup.number status
  pub said : Says status err err_now

-- what `steps` comes to with the script of the file of this name
abbrev pub RunsFile : List ℕ → Option (List ℕ) → Sides → Sides → SinkTold → SinkTold → ℕ → Type 0
RunsFile name drawn old new err err_now answer = RunsRead name drawn old new err err_now answer ⊎ RunsUnread name old new err err_now answer

-- what `trace` and `stream` come to: the input is left alone
abbrev pub RunsAccount : (Files → List (List ℕ)) → Option (List ℕ) → Told → Told → SinkTold → SinkTold → ℕ → Type 0
RunsAccount names picture old new err err_now answer =
    (new.input ≡ old.input) × trace.Runs names picture (trace.sides old.folder old.out) (trace.sides new.folder new.out) err err_now answer

-- ---- words that ask for nothing

-- what the program says of itself
unfoldable pub help : List ℕ
help = codes "Says why messages are missing.\n\nUsage: dlt_why steps [--picture FILE] [FILE]\n       dlt_why trace [--picture FILE] [FOLDER|FILE]..\n       dlt_why stream [--picture FILE] FILE\n       dlt_why find APID CTID TIME|COUNTER [FOLDER|FILE]..\n\nTasks:\n  steps   what became of each log call of a step script; without a name of that of standard input\n  trace   what is missing of traces; without a name of those in this folder\n  stream  what is missing of a stream as a client recorded it\n  find    where the message of an application and a context is that has a time (12.3456) or a counter (7), in a session (SEID:) where one is named\n\nOptions:\n      --picture <FILE>  draws the calls or the sessions into this file, as SVG\n  -h, --help            Print help\n  -V, --version         Print version\n"

-- and of its version
abbrev pub version : List ℕ
version = codes "dlt_why 1\n"

-- it was written, or its front
abbrev pub Tells : List ℕ → SinkTold → SinkTold → Status → Type 0
Tells text old new end.Ok = WroteAll old new text
Tells text old new end.WriteFault = WroteFront old new text
Tells text old new _ = ⊥

-- what the status says where words ask for nothing
abbrev pub AnswersFault : WhyFault → SinkTold → SinkTold → Status → Type 0
AnswersFault fault.Help old new status = Tells help old new status
AnswersFault fault.Version old new status = Tells version old new status
AnswersFault fault.Refused old new status = (status ≡ end.WordsRefused) × WroteNothing old new
AnswersFault fault.OutOfMemory old new status = (status ≡ end.OutOfMemory) × WroteNothing old new

pub record RunsNot (cause : WhyFault) (out out_now err err_now : SinkTold) (answer : ℕ) : Type 0 where
  pub status : Status
  pub number_is : answer ≡ startup.number status
  pub ends : AnswersFault cause out out_now status
  pub said : Says status err err_now

-- ---- what is asked for

-- what `find` comes to: a message is searched in the files that names stand for; or the words are refused
abbrev pub RunsFind : Option Question → List (List ℕ) → Sides → Sides → SinkTold → SinkTold → ℕ → Type 0
RunsFind (Some q) names old new err err_now answer = Finds (λ files. files_asked files names) q old new err err_now answer
RunsFind None names old new err err_now answer = (new.folder ≡ old.folder) × RunsNot fault.Refused old.out new.out err err_now answer

-- what a run comes to by what is asked for
abbrev pub RunsAsked : Asked → Told → Told → SinkTold → SinkTold → ℕ → Type 0
RunsAsked (AsksSteps None picture) old new err err_now answer = RunsSteps picture old new err err_now answer
RunsAsked (AsksSteps (Some name) picture) old new err err_now answer =
    (new.input ≡ old.input) × RunsFile name picture (sides old.folder old.out) (sides new.folder new.out) err err_now answer
RunsAsked (AsksTrace names picture) old new err err_now answer = RunsAccount (λ files. files_asked files names) picture old new err err_now answer
RunsAsked (AsksStream name picture) old new err err_now answer = RunsAccount (λ files. name ∷ []) picture old new err err_now answer
RunsAsked (AsksFind apid ctid when names) old new err err_now answer =
    (new.input ≡ old.input) × RunsFind (question_of apid ctid when) names (sides old.folder old.out) (sides new.folder new.out) err err_now answer

-- ---- the program

-- what a run comes to by what was read of the words; input and folder are left alone where they ask for nothing
abbrev pub RunsFor : Result WhyWords WhyFault → Told → Told → SinkTold → SinkTold → ℕ → Type 0
RunsFor (Ok read) old new err err_now answer = RunsAsked (said read) old new err err_now answer
RunsFor (Err cause) old new err err_now answer = (new.input ≡ old.input) × (new.folder ≡ old.folder) × RunsNot cause old.out new.out err err_now answer

-- What a run of the program comes to.
pub record Runs (given : List (List ℕ)) (old new : Told) (err err_now : SinkTold) (answer : ℕ) : Type 0 where
  pub read : Result WhyWords WhyFault
  pub says : given_words.Says given read
  pub runs : RunsFor read old new err err_now answer

-- What the program comes to: its words, what input, folder, output and standard error told before and after, and the exit status.
abbrev pub TellsWhy : {Z : Type 0} → List (String Z) → (input input_now : SourceTold) → (folder folder_now : FolderTold) → (out out_now err err_now : SinkTold) → ℕ → Type 0
TellsWhy words input input_now folder folder_now out out_now err err_now answer =
    Runs (map string_bytes words) (told input folder out) (told input_now folder_now out_now) err err_now answer
