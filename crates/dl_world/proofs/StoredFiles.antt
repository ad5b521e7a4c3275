-- The file of the stored configuration, event by event and mark by mark.
use Rattle.std.proofs.Common.{◌≡◌, ℕ, Bool, false, List, [], ◌∷◌, ◌++◌, Option, Some, None, Result, Ok, Err, refl, sym, ap, subst, ◌∙◌, append_assoc}
use Rattle.std.specs.Prelude.{IsSomeAnd}
use Rattle.std.specs.FinMap as map
use Rattle.std.specs.FinMap.{get-insert, get-remove}
use Rattle.std.specs.Cmp.Lexicographic.{nat_list_cmp_total}
use Rattle.std.specs.List.{cons_option, filter_map}
use Rattle.std.proofs.lemmas.List.{append-nil}
use Rattle.std.proofs.lemmas.List.Elements.{filter_map-append}
use Rattle.dl_bytes.specs.declared.conf.Stored.{Stored}
use Rattle.dl_bytes.specs.declared.item.Injection.{Injection}
use Rattle.dl_bytes.specs.declared.outcome.Done.{Done}
use Rattle.dl_bytes.specs.declared.outcome.Done.TheVariants as did
use Rattle.dl_events.specs.declared.event.Event.{Event}
use Rattle.dl_events.specs.declared.event.Event.TheVariants as event
use Rattle.dl_model.specs.Journal.{registry_of, slots_of}
use Rattle.dl_script_model.specs.Marks.{Mark, Noted, Answered, journal}
use Rattle.dl_model.specs.Reply.{apid_of, asked, ctid_of, Folder}
use Rattle.dl_model.specs.Setting.{Setting}
use Rattle.dl_outside.specs.Folder.{Files, Puts, Removes}
use Rattle.dl_outside.specs.Told.{FolderTold}
use Rattle.dl_outside.specs.declared.folder.FolderFault.{FolderFault}
use Rattle.dl_outside.specs.declared.folder.FolderFault.TheVariants as fault
use Rattle.dl_services.specs.Wish.{needed, wanted}
use Rattle.dl_services.specs.declared.wish.Want.{Want}
use Rattle.dl_services.specs.declared.wish.Want.TheVariants as want
use Rattle.dl_core.specs.Serving.{Answers, done_by, stored_name}
use Rattle.dl_core.specs.Files.{KeepsStored}
use Rattle.dl_world.specs.Follows.{answer_of, answers_in, is_failure}
use Rattle.dl_world.specs.Stored.{HoldsStored, file_by, file_from, file_with, stored_after}
use Rattle.dl_world.proofs.Noting.{journal_noted}
use Rattle.dl_world.proofs.Quiet.{journal_same}

-- ---- one event more

from-one : (setting : Setting) (before events : List Event) (e : Event) (was : Option (List ℕ))
    → file_from setting before (events ++ e ∷ []) was ≡ file_with setting (before ++ events) e (file_from setting before events was)
from-one setting before [] e was = ap (λ (es : List Event). file_with setting es e was) (sym (append-nil before))
from-one setting before (x ∷ events) e was =
    from-one setting (before ++ x ∷ []) events e (file_with setting before x was)
    ∙ ap (λ (es : List Event). file_with setting es e (file_from setting (before ++ x ∷ []) events (file_with setting before x was))) (append_assoc before (x ∷ []) events)

pub stored-one : (setting : Setting) (first : Option (List ℕ)) (events : List Event) (e : Event)
    → stored_after setting first (events ++ e ∷ []) ≡ file_with setting events e (stored_after setting first events)
stored-one setting first events e = from-one setting [] events e first

-- ---- marks without a request

-- the answer of a request, or what the folder answered to one
abbrev pub asked_by : Mark → Option Done
asked_by (Answered what) = Some what
asked_by (Noted (event.Request client frame what)) = Some what
asked_by _ = None

-- the requests among marks
abbrev pub asked_in : List Mark → List Done
asked_in more = filter_map asked_by more

rest_unasked : (mark : Mark) (more : List Mark) → asked_in (mark ∷ more) ≡ [] → (asked_by mark ≡ None) × (asked_in more ≡ [])
rest_unasked mark more none = by (asked_by mark) refl none where
  by : (o : Option Done) → asked_by mark ≡ o → cons_option o (asked_in more) ≡ [] → (asked_by mark ≡ None) × (asked_in more ≡ [])
  by None is rest = (is, rest)
  by (Some what) is rest = absurd cc

-- so the folder answered nothing
one_unanswered : (mark : Mark) → asked_by mark ≡ None → answers_in (mark ∷ []) ≡ []
one_unanswered (Answered what) none = absurd cc
one_unanswered _ none = refl

pub unanswered : (more : List Mark) → asked_in more ≡ [] → answers_in more ≡ []
unanswered [] none = refl
unanswered (mark ∷ more) none =
    let parts = rest_unasked mark more none in
    filter_map-append answer_of (mark ∷ []) more ∙ ap (λ (xs : List Done). xs ++ answers_in more) (one_unanswered mark parts.0) ∙ unanswered more parts.1

-- and the file is as it was
event_unasked : (setting : Setting) (events : List Event) (e : Event) (was : Option (List ℕ)) → asked_by (Noted e) ≡ None → file_with setting events e was ≡ was
event_unasked setting events (event.Request client frame what) was none = absurd cc
event_unasked setting events _ was none = refl

one_unasked : (setting : Setting) (first : Option (List ℕ)) (done : List Mark) (mark : Mark) → asked_by mark ≡ None
    → stored_after setting first (journal (done ++ mark ∷ [])) ≡ stored_after setting first (journal done)
one_unasked setting first done (Noted e) none =
    ap (stored_after setting first) (journal_noted done e) ∙ stored-one setting first (journal done) e ∙ event_unasked setting (journal done) e (stored_after setting first (journal done)) none
one_unasked setting first done mark none = ap (stored_after setting first) (journal_same done (mark ∷ []) refl)

pub stored_unasked : (setting : Setting) (first : Option (List ℕ)) (done more : List Mark) → asked_in more ≡ []
    → stored_after setting first (journal (done ++ more)) ≡ stored_after setting first (journal done)
stored_unasked setting first done [] none = ap (λ (ms : List Mark). stored_after setting first (journal ms)) (append-nil done)
stored_unasked setting first done (mark ∷ more) none =
    let parts = rest_unasked mark more none in
    ap (λ (ms : List Mark). stored_after setting first (journal ms)) (sym (append_assoc done (mark ∷ []) more))
    ∙ stored_unasked setting first (done ++ mark ∷ []) more parts.1 ∙ one_unasked setting first done mark parts.0

-- ---- a folder where the file stays

-- the folder tells its files, and among them this content of the file
abbrev pub Has : Option (List ℕ) → Option Files → Type 0
Has content told = IsSomeAnd told (λ folder. map.get folder stored_name ≡ content)

-- where the events make the same of it
pub holds_same : (setting : Setting) (first : Option (List ℕ)) (events events_now : List Event) (told : Option Files) → stored_after setting first events_now ≡ stored_after setting first events
    → HoldsStored setting first events told → HoldsStored setting first events_now told
holds_same setting first events events_now told same holds = subst (λ (content : Option (List ℕ)). Has content told) (sym same) holds

pub holds_on : (setting : Setting) (first : Option (List ℕ)) (events events_now : List Event) (told told_now : Option Files) → stored_after setting first events_now ≡ stored_after setting first events
    → KeepsStored told told_now → HoldsStored setting first events told → HoldsStored setting first events_now told_now
holds_on setting first events events_now None told_now same keeps holds = absurd holds
holds_on setting first events events_now (Some folder) told_now same keeps holds = subst (λ (content : Option (List ℕ)). Has content told_now) (holds ∙ sym same) keeps

-- ---- a request

-- one that wants nothing of the folder, whatever was answered
nothing_by : (answer : Done) (was : Option (List ℕ)) → file_by answer want.Nothing was ≡ was
nothing_by did.Yes was = refl
nothing_by did.Failed was = refl
nothing_by did.NoMemory was = refl

injection_by : (answer : Done) (app : ℕ) (injection : Injection) (was : Option (List ℕ)) → file_by answer (want.Inject app injection) was ≡ was
injection_by did.Yes app injection was = refl
injection_by did.Failed app injection was = refl
injection_by did.NoMemory app injection was = refl

has_same : (content was : Option (List ℕ)) (told told_now : Option Files) → told_now ≡ told → content ≡ was → Has was told → Has content told_now
has_same content was told told_now same is has = subst (Has content) (sym same) (subst (λ (c : Option (List ℕ)). Has c told) (sym is) has)

-- a Store
put_has : (told told_now : Option Files) (result : Result (Unit {0}) FolderFault) (text : List ℕ) (stored : Stored) (was : Option (List ℕ)) → Puts told told_now result stored_name text
    → is_failure (done_by result) ≡ false → Has was told → Has (file_by (done_by result) (want.Put text stored) was) told_now
put_has None told_now result text stored was puts fine has = absurd has
put_has (Some folder) told_now (Ok made) text stored was puts fine has = subst (Has (Some text)) (sym puts) (get-insert nat_list_cmp_total folder stored_name text stored_name)
put_has (Some folder) told_now (Err fault.Failed) text stored was puts fine has = absurd cc
put_has (Some folder) told_now (Err fault.OutOfMemory) text stored was puts fine has = subst (Has was) (sym puts) has

-- a Reset
gone_has : (told told_now : Option Files) (result : Result (Unit {0}) FolderFault) (was : Option (List ℕ)) → Removes told told_now result stored_name
    → is_failure (done_by result) ≡ false → Has was told → Has (file_by (done_by result) want.Remove was) told_now
gone_has None told_now result was gone fine has = absurd has
gone_has (Some folder) told_now (Ok made) was gone fine has = subst (Has None) (sym gone) (get-remove nat_list_cmp_total folder stored_name stored_name)
gone_has (Some folder) told_now (Err fault.Failed) was gone fine has = absurd cc
gone_has (Some folder) told_now (Err fault.OutOfMemory) was gone fine has = subst (Has was) (sym gone) has

-- whatever it wants, where the folder did not fail
answer_has : (wants : Want) (pushed : Bool) (answer : Done) (told told_now : FolderTold) (was : Option (List ℕ)) → Answers wants pushed answer told told_now
    → (needed wants ≡ Folder → is_failure answer ≡ false) → Has was told.files → Has (file_by answer wants was) told_now.files
answer_has want.Nothing pushed answer told told_now was acts fine has =
    has_same (file_by answer want.Nothing was) was told.files told_now.files (ap (λ (f : FolderTold). f.files) acts.1) (nothing_by answer was) has
answer_has (want.Put text stored) pushed answer told told_now was acts fine has =
    subst (λ (what : Done). Has (file_by what (want.Put text stored) was) told_now.files) (sym acts.1)
    (put_has told.files told_now.files acts.0 text stored was acts.2 (ap is_failure (sym acts.1) ∙ fine refl) has)
answer_has want.Remove pushed answer told told_now was acts fine has =
    subst (λ (what : Done). Has (file_by what want.Remove was) told_now.files) (sym acts.1)
    (gone_has told.files told_now.files acts.0 was acts.2 (ap is_failure (sym acts.1) ∙ fine refl) has)
answer_has (want.Inject app injection) pushed answer told told_now was acts fine has =
    has_same (file_by answer (want.Inject app injection) was) was told.files told_now.files (ap (λ (f : FolderTold). f.files) acts.1) (injection_by answer app injection was) has

-- the event of a request that wanted this makes of the file what the folder did
pub request_stored : (setting : Setting) (first : Option (List ℕ)) (events : List Event) (client : ℕ) (frame : List ℕ) (answer : Done) (wants : Want) (pushed : Bool) (told told_now : FolderTold)
    → wanted setting (slots_of setting events) (registry_of setting events) (apid_of frame) (ctid_of frame) (asked frame) ≡ wants → Answers wants pushed answer told told_now
    → (needed wants ≡ Folder → is_failure answer ≡ false)
    → HoldsStored setting first events told.files → HoldsStored setting first (events ++ event.Request client frame answer ∷ []) told_now.files
request_stored setting first events client frame answer wants pushed told told_now is acts fine holds =
    let was = stored_after setting first events in
    subst (λ (content : Option (List ℕ)). Has content told_now.files)
    (sym (stored-one setting first events (event.Request client frame answer) ∙ ap (λ (w : Want). file_by answer w was) is))
    (answer_has wants pushed answer told told_now was acts fine holds)
