-- What the fields of a line that spell it say.
use Rattle.std.proofs.Common.{◌≡◌, ℕ, ◌^◌, ◌<◌, true, List, [], ◌∷◌, ◌++◌, length, map, Some, Ok, refl, sym, ap, ◌∙◌, subst, lit<, lit≤}
use Rattle.std.specs.List.{list_all, AllByRecursion}
use Rattle.std.specs.Str.{IsUtf8, is_utf8}
use Rattle.std.proofs.lemmas.Bool.{and_from, le-leb}
use Rattle.std.proofs.lemmas.Str.{IsUtf8-append, IsUtf8-nil, IsUtf8-from_ascii, is_utf8-from_IsUtf8}
use Rattle.dl_bytes.specs.Payload.{Arguments}
use Rattle.dl_bytes.specs.declared.level.Severity.{Severity}
use Rattle.dl_args.specs.declared.arg.Arg.{Arg}
use Rattle.dl_script_model.specs.declared.line.AppLine.{AppLine}
use Rattle.dl_script_model.specs.declared.line.ClaimLine.{ClaimLine}
use Rattle.dl_script_model.specs.declared.line.ContextLine.{ContextLine}
use Rattle.dl_script_model.specs.declared.step.LevelEvents.{LevelEvents}
use Rattle.dl_script_model.specs.declared.step.LevelEvents.TheVariants.{Later, Now}
use Rattle.dl_script_model.specs.declared.step.Step.TheVariants as step
use Rattle.dl_script_fields.specs.Argument.{is_argument, arguments_of, payload_of}
use Rattle.dl_script_fields.specs.Joined.{is_field, parted_by_blanks}
use Rattle.dl_script_fields.specs.Kind.{◌>>=◌, is_of_form}
use Rattle.dl_script_lines.specs.Line.{text_field, text_fields, payload_fields, app_line, context_line, claim_line, id_line, call_line, clock_line, writer_line, levels_line, bare_line, client_line, bytes_line, user_line, leave_line}
use Rattle.dl_script_fields.specs.Spelling.{spelling}
use Rattle.dl_script_fields.specs.Spells.{is_letter, IsShortText, IsSaid, quoted}
use Rattle.dl_script_lines.specs.Spells.{SpellsTexts, SpellsArguments, SpellsNothing, SpellsApp, SpellsContext, SpellsClaim, SpellsApid, SpellsCall, SpellsClock, SpellsWriter, SpellsLevels, SpellsClient, SpellsSent, SpellsUser, SpellsLeave, levels_word}
use Rattle.dl_script_fields.proofs.Letters.{ascii, is_whole, whole-append, letters_whole, IsGood, letters_good}
use Rattle.dl_script_fields.proofs.QuotedFields.{one_byte, quoted_good}
use Rattle.dl_script_fields.proofs.SpelledArguments.{argument_good}
use Rattle.dl_script_fields.proofs.SpelledFields.{id_good, id_says, number_good, number_says, ordinal_says, count_says, bytes_good, bytes_say, severity_good, severity_says, level_good, level_says}
use Rattle.dl_script_fields.proofs.Spellings.{said, text_says}

abbrev pub AreGood : List (List ℕ) → Type 0
AreGood fields = AllByRecursion IsGood fields

-- ---- texts and arguments

quoted_says : (text : List ℕ) → IsShortText text → text_field (quoted text) ≡ Ok text
quoted_says text is = rw (text_says text, le-leb (length text) 255 is.short) refl

texts_say : (fields : List (List ℕ)) (text : List ℕ) → SpellsTexts fields text → text_fields fields ≡ Ok text
texts_say [] text is = ap Ok (sym is)
texts_say (field ∷ []) text is = ap text_field is.1 ∙ quoted_says text is.0
texts_say (field ∷ other ∷ more) text is = absurd is

texts_good : (fields : List (List ℕ)) (text : List ℕ) → SpellsTexts fields text → AreGood fields
texts_good [] text is = tt
texts_good (field ∷ []) text is = (subst IsGood (sym is.1) (quoted_good text is.0.held), tt)
texts_good (field ∷ other ∷ more) text is = absurd is

all_said : (args : List Arg) → AllByRecursion IsSaid args → arguments_of (map spelling args) ≡ Ok args
all_said [] are = refl
all_said (a ∷ args) are = rw (said a are.0.sayable, all_said args are.1) refl

all_of_form : (args : List Arg) → AllByRecursion IsSaid args → list_all is_argument (map spelling args) ≡ true
all_of_form [] are = refl
all_of_form (a ∷ args) are = and_from _ _ (ap is_of_form (said a are.0.sayable)) (all_of_form args are.1)

all_good : (args : List Arg) → AllByRecursion IsSaid args → AreGood (map spelling args)
all_good [] are = tt
all_good (a ∷ args) are = (argument_good a are.0, all_good args are.1)

arguments_say : (fields : List (List ℕ)) (payload : Arguments) → SpellsArguments fields payload → (list_all is_argument fields ≡ true) × (payload_fields fields ≡ Ok (Some payload))
arguments_say fields payload is = (
  ap (list_all is_argument) is.3 ∙ all_of_form is.0 is.1,
  ap payload_fields is.3 ∙ ap (λ r. r >>= λ args. Ok (payload_of args)) (all_said is.0 is.1) ∙ ap Ok is.2,
)

arguments_good : (fields : List (List ℕ)) (payload : Arguments) → SpellsArguments fields payload → AreGood fields
arguments_good fields payload is = subst AreGood (sym is.3) (all_good is.0 is.1)

-- ---- the forms of lines

pub nothing_says : (fields : List (List ℕ)) → SpellsNothing fields → bare_line fields ≡ Ok tt
unfolding bare_line
nothing_says [] is = refl
nothing_says (field ∷ fields) is = absurd is

pub nothing_good : (fields : List (List ℕ)) → SpellsNothing fields → AreGood fields
nothing_good [] is = tt
nothing_good (field ∷ fields) is = absurd is

pub app_says : (fields : List (List ℕ)) (app : AppLine) → SpellsApp fields app → app_line fields ≡ Ok app
unfolding app_line
app_says [] app is = absurd is
app_says (apid ∷ []) app is = absurd is
app_says (apid ∷ capacity ∷ texts) app is =
    rw (texts_say texts app.text is.2, id_says apid app.apid is.0, number_says 1 4096 capacity app.capacity (lit< tt) is.1) refl

pub app_good : (fields : List (List ℕ)) (app : AppLine) → SpellsApp fields app → AreGood fields
app_good [] app is = absurd is
app_good (apid ∷ []) app is = absurd is
app_good (apid ∷ capacity ∷ texts) app is = (id_good apid app.apid is.0, (number_good 1 4096 capacity app.capacity is.1, texts_good texts app.text is.2))

pub context_says : (fields : List (List ℕ)) (context : ContextLine) → SpellsContext fields context → context_line fields ≡ Ok context
unfolding context_line
context_says [] context is = absurd is
context_says (apid ∷ []) context is = absurd is
context_says (apid ∷ ctid ∷ []) context is = absurd is
context_says (apid ∷ ctid ∷ level ∷ texts) context is =
    rw (texts_say texts context.text is.3, id_says apid context.apid is.0, id_says ctid context.ctid is.1, level_says level context.level is.2) refl

pub context_good : (fields : List (List ℕ)) (context : ContextLine) → SpellsContext fields context → AreGood fields
context_good [] context is = absurd is
context_good (apid ∷ []) context is = absurd is
context_good (apid ∷ ctid ∷ []) context is = absurd is
context_good (apid ∷ ctid ∷ level ∷ texts) context is =
    (id_good apid context.apid is.0, (id_good ctid context.ctid is.1, (level_good level context.level is.2, texts_good texts context.text is.3)))

pub claim_says : (fields : List (List ℕ)) (claim : ClaimLine) → SpellsClaim fields claim → claim_line fields ≡ Ok claim
unfolding claim_line
claim_says [] claim is = absurd is
claim_says (w ∷ []) claim is = absurd is
claim_says (w ∷ ctid ∷ []) claim is = absurd is
claim_says (w ∷ ctid ∷ level ∷ texts) claim is =
    rw (texts_say texts claim.text is.3, ordinal_says 8 0 255 w claim.writer (lit< tt) is.0, id_says ctid claim.ctid is.1, level_says level claim.level is.2, le-leb (length claim.text) 48 is.4) refl

pub claim_good : (fields : List (List ℕ)) (claim : ClaimLine) → SpellsClaim fields claim → AreGood fields
claim_good [] claim is = absurd is
claim_good (w ∷ []) claim is = absurd is
claim_good (w ∷ ctid ∷ []) claim is = absurd is
claim_good (w ∷ ctid ∷ level ∷ texts) claim is =
    (number_good 0 255 w claim.writer is.0, (id_good ctid claim.ctid is.1, (level_good level claim.level is.2, texts_good texts claim.text is.3)))

pub apid_says : (fields : List (List ℕ)) (apid : List ℕ) → SpellsApid fields apid → id_line fields ≡ Ok apid
unfolding id_line
apid_says [] apid is = absurd is
apid_says (field ∷ []) apid is = id_says field apid is
apid_says (field ∷ other ∷ more) apid is = absurd is

pub apid_good : (fields : List (List ℕ)) (apid : List ℕ) → SpellsApid fields apid → AreGood fields
apid_good [] apid is = absurd is
apid_good (field ∷ []) apid is = (id_good field apid is, tt)
apid_good (field ∷ other ∷ more) apid is = absurd is

module _ (low high : ℕ) (fits : high < 2 ^ 32) (writer : ℕ) (ctid : List ℕ) (severity : Severity) (number : ℕ) (payload : Arguments) where
  pub call_says : (fields : List (List ℕ)) → SpellsCall low high fields writer ctid severity number payload
      → call_line low high fields ≡ Ok (record { writer = writer; ctid = ctid; severity = severity; number = number; payload = Some payload })
  unfolding call_line
  call_says [] is = absurd is
  call_says (w ∷ []) is = absurd is
  call_says (w ∷ c ∷ []) is = absurd is
  call_says (w ∷ c ∷ s ∷ []) is = absurd is
  call_says (w ∷ c ∷ s ∷ n ∷ arguments) is =
      let more = arguments_say arguments payload is.4 in
      rw (more.0, ordinal_says 8 0 255 w writer (lit< tt) is.0, id_says c ctid is.1, is.2, severity_says severity, number_says low high n number fits is.3, more.1) refl

  pub call_good : (fields : List (List ℕ)) → SpellsCall low high fields writer ctid severity number payload → AreGood fields
  call_good [] is = absurd is
  call_good (w ∷ []) is = absurd is
  call_good (w ∷ c ∷ []) is = absurd is
  call_good (w ∷ c ∷ s ∷ []) is = absurd is
  call_good (w ∷ c ∷ s ∷ n ∷ arguments) is =
      (number_good 0 255 w writer is.0, (id_good c ctid is.1, (subst IsGood (sym is.2) (severity_good severity), (number_good low high n number is.3, arguments_good arguments payload is.4))))

pub clock_says : (fields : List (List ℕ)) (secs micros : ℕ) → SpellsClock fields secs micros → clock_line fields ≡ Ok (step.Clock secs micros)
unfolding clock_line
clock_says [] secs micros is = absurd is
clock_says (s ∷ []) secs micros is = absurd is
clock_says (s ∷ m ∷ []) secs micros is = rw (number_says 0 4294967295 s secs (lit< tt) is.0, number_says 0 999999 m micros (lit< tt) is.1) refl
clock_says (s ∷ m ∷ other ∷ more) secs micros is = absurd is

pub clock_good : (fields : List (List ℕ)) (secs micros : ℕ) → SpellsClock fields secs micros → AreGood fields
clock_good [] secs micros is = absurd is
clock_good (s ∷ []) secs micros is = absurd is
clock_good (s ∷ m ∷ []) secs micros is = (number_good 0 4294967295 s secs is.0, (number_good 0 999999 m micros is.1, tt))
clock_good (s ∷ m ∷ other ∷ more) secs micros is = absurd is

pub writer_says : (fields : List (List ℕ)) (writer : ℕ) → SpellsWriter fields writer → writer_line fields ≡ Ok writer
unfolding writer_line
writer_says [] writer is = absurd is
writer_says (field ∷ []) writer is = ordinal_says 8 0 255 field writer (lit< tt) is
writer_says (field ∷ other ∷ more) writer is = absurd is

pub writer_good : (fields : List (List ℕ)) (writer : ℕ) → SpellsWriter fields writer → AreGood fields
writer_good [] writer is = absurd is
writer_good (field ∷ []) writer is = (number_good 0 255 field writer is, tt)
writer_good (field ∷ other ∷ more) writer is = absurd is

word_says : (levels : LevelEvents) → levels_line (levels_word levels ∷ []) ≡ Ok levels
unfolding levels_line
word_says Later = refl
word_says Now = refl

word_good : (levels : LevelEvents) → IsGood (levels_word levels)
word_good Later = letters_good _ refl (lit≤ tt)
word_good Now = letters_good _ refl (lit≤ tt)

pub levels_say : (fields : List (List ℕ)) (levels : LevelEvents) → SpellsLevels fields levels → levels_line fields ≡ Ok levels
levels_say [] levels is = absurd is
levels_say (field ∷ []) levels is = ap (λ f. levels_line (f ∷ [])) is ∙ word_says levels
levels_say (field ∷ other ∷ more) levels is = absurd is

pub levels_good : (fields : List (List ℕ)) (levels : LevelEvents) → SpellsLevels fields levels → AreGood fields
levels_good [] levels is = absurd is
levels_good (field ∷ []) levels is = (subst IsGood (sym is) (word_good levels), tt)
levels_good (field ∷ other ∷ more) levels is = absurd is

pub client_says : (fields : List (List ℕ)) (client : ℕ) → SpellsClient fields client → client_line fields ≡ Ok client
unfolding client_line
client_says [] client is = absurd is
client_says (field ∷ []) client is = ordinal_says 32 0 4294967295 field client (lit< tt) is
client_says (field ∷ other ∷ more) client is = absurd is

pub client_good : (fields : List (List ℕ)) (client : ℕ) → SpellsClient fields client → AreGood fields
client_good [] client is = absurd is
client_good (field ∷ []) client is = (number_good 0 4294967295 field client is, tt)
client_good (field ∷ other ∷ more) client is = absurd is

pub sent_says : (fields : List (List ℕ)) (client : ℕ) (bytes : List ℕ) → SpellsSent fields client bytes → bytes_line fields ≡ Ok (client, bytes)
unfolding bytes_line
sent_says [] client bytes is = absurd is
sent_says (field ∷ []) client bytes is = absurd is
sent_says (field ∷ hex ∷ []) client bytes is = rw (ordinal_says 32 0 4294967295 field client (lit< tt) is.0, bytes_say hex bytes is.1) refl
sent_says (field ∷ hex ∷ other ∷ more) client bytes is = absurd is

pub sent_good : (fields : List (List ℕ)) (client : ℕ) (bytes : List ℕ) → SpellsSent fields client bytes → AreGood fields
sent_good [] client bytes is = absurd is
sent_good (field ∷ []) client bytes is = absurd is
sent_good (field ∷ hex ∷ []) client bytes is = (number_good 0 4294967295 field client is.0, (bytes_good hex bytes is.1, tt))
sent_good (field ∷ hex ∷ other ∷ more) client bytes is = absurd is

pub user_says : (fields : List (List ℕ)) (channel : ℕ) (bytes : List ℕ) → SpellsUser fields channel bytes → user_line fields ≡ Ok (step.User channel bytes)
unfolding user_line
user_says [] channel bytes is = absurd is
user_says (field ∷ []) channel bytes is = absurd is
user_says (field ∷ hex ∷ []) channel bytes is = rw (number_says 1 16 field channel (lit< tt) is.0, bytes_say hex bytes is.1) refl
user_says (field ∷ hex ∷ other ∷ more) channel bytes is = absurd is

pub user_good : (fields : List (List ℕ)) (channel : ℕ) (bytes : List ℕ) → SpellsUser fields channel bytes → AreGood fields
user_good [] channel bytes is = absurd is
user_good (field ∷ []) channel bytes is = absurd is
user_good (field ∷ hex ∷ []) channel bytes is = (number_good 1 16 field channel is.0, (bytes_good hex bytes is.1, tt))
user_good (field ∷ hex ∷ other ∷ more) channel bytes is = absurd is

pub leave_says : (fields : List (List ℕ)) (client count : ℕ) → SpellsLeave fields client count → leave_line fields ≡ Ok (client, count)
unfolding leave_line
leave_says [] client count is = absurd is
leave_says (field ∷ []) client count is = absurd is
leave_says (field ∷ n ∷ []) client count is = rw (ordinal_says 32 0 4294967295 field client (lit< tt) is.0, count_says 0 9223372036854775807 n count (lit< tt) is.1) refl
leave_says (field ∷ n ∷ other ∷ more) client count is = absurd is

pub leave_good : (fields : List (List ℕ)) (client count : ℕ) → SpellsLeave fields client count → AreGood fields
leave_good [] client count is = absurd is
leave_good (field ∷ []) client count is = absurd is
leave_good (field ∷ n ∷ []) client count is = (number_good 0 4294967295 field client is.0, (number_good 0 9223372036854775807 n count is.1, tt))
leave_good (field ∷ n ∷ other ∷ more) client count is = absurd is

-- ---- the line

pub are_fields : (fields : List (List ℕ)) → AreGood fields → list_all is_field fields ≡ true
are_fields [] are = refl
are_fields (field ∷ fields) are = and_from _ _ are.0.is (are_fields fields are.1)

parted_utf8 : (fields : List (List ℕ)) → AreGood fields → IsUtf8 (parted_by_blanks fields)
parted_utf8 [] are = IsUtf8-nil
parted_utf8 (field ∷ fields) are =
    IsUtf8-append (32 ∷ []) (field ++ parted_by_blanks fields) (one_byte 32 (lit< tt)) (IsUtf8-append field (parted_by_blanks fields) are.0.utf8 (parted_utf8 fields are.1))

parted_whole : (fields : List (List ℕ)) → AreGood fields → is_whole (parted_by_blanks fields) ≡ true
parted_whole [] are = refl
parted_whole (field ∷ fields) are = whole-append (32 ∷ []) (field ++ parted_by_blanks fields) refl (whole-append field (parted_by_blanks fields) are.0.whole (parted_whole fields are.1))

module _ (word : List ℕ) (letters : list_all is_letter word ≡ true) (fields : List (List ℕ)) (are : AreGood fields) where
  pub line_utf8 : is_utf8 (word ++ parted_by_blanks fields) ≡ true
  line_utf8 = is_utf8-from_IsUtf8 _ (IsUtf8-append word (parted_by_blanks fields) (IsUtf8-from_ascii word (ascii word letters)) (parted_utf8 fields are))

  pub line_whole : is_whole (word ++ parted_by_blanks fields) ≡ true
  line_whole = whole-append word (parted_by_blanks fields) (letters_whole word letters) (parted_whole fields are)
