-- What is read of fields is in its range: ids have names, numbers are within their bounds, descriptions have at most 255 bytes, or 48.
use Rattle.std.proofs.Common.{◌≡◌, ◌≢◌, ℕ, ◌≤◌, Bool, true, false, cond, eqb, leb, ltb, ◌&&◌, List, [], ◌∷◌, length, Option, Some, None, Result, Ok, Err, refl, ap, arith}
use Rattle.std.proofs.Math.Dec.{lit≤}
use Rattle.std.proofs.lemmas.Bool.{and_parts, leb-true}
use Rattle.std.specs.List.{list_all, list_any}
use Rattle.std.specs.Option.{ok_or}
use Rattle.std.specs.Result.{result_ok}
use Rattle.dl_bytes.specs.Id.{filled, id_of, is_visible, zero_id}
use Rattle.dl_bytes.specs.Number.{◌>>=◌}
use Rattle.dl_bytes.specs.declared.id.IdFault.{IdFault}
use Rattle.dl_bytes.specs.declared.id.IdFault.TheVariants.{NotAscii}
use Rattle.dl_script_fields.specs.Argument.{behind_quote, unescaped, is_argument}
use Rattle.dl_script_fields.specs.Kind.{is_of_form, formed}
use Rattle.dl_script_lines.specs.Line.{short, brief, text_field, text_fields, app_line, call_line, claim_line, context_line, payload_fields}
use Rattle.dl_script_fields.specs.Value.{id_field, number_field, ordinal_field, severity_field, level_field, unsigned_field}
use Rattle.dl_script_fields.specs.declared.kind.ScriptKind.TheVariants as wrong
use Rattle.dl_script.proofs.ReadResults.{Gives, given, refused, then, then_so, either_way}

-- ---- texts

abbrev pub IsShort : List ℕ → Type 0
IsShort text = length text ≤ 255

short_is : (text : List ℕ) → Gives IsShort (short text)
short_is text = by_test (leb (length text) 255) refl where
  by_test : (b : Bool) → leb (length text) 255 ≡ b → Gives IsShort (cond b (Ok text) (Err wrong.Text))
  by_test true is = given (leb-true (length text) 255 is)
  by_test false is = refused

brief_is : (text : List ℕ) → Gives (λ brief_text. length brief_text ≤ 48) (brief text)
brief_is text = by_test (leb (length text) 48) refl where
  by_test : (b : Bool) → leb (length text) 48 ≡ b → Gives (λ brief_text. length brief_text ≤ 48) (cond b (Ok text) (Err wrong.Text))
  by_test true is = given (leb-true (length text) 48 is)
  by_test false is = refused

text_short : (field : List ℕ) → Gives IsShort (text_field field)
text_short field = then (ok_or (behind_quote field) wrong.Fields) (λ quoted. then (ok_or (unescaped quoted) wrong.Fields) short_is)

texts_short : (fields : List (List ℕ)) → Gives IsShort (text_fields fields)
texts_short [] = given (lit≤ tt)
texts_short (field ∷ []) = text_short field
texts_short (field ∷ more ∷ fields) = refused

-- ---- ids

abbrev pub IsNamed : List ℕ → Type 0
IsNamed id = id ≢ zero_id

abbrev pub first_of : List ℕ → ℕ
first_of [] = 0
first_of (b ∷ bytes) = b

id_is : (name : List ℕ) → Gives IsNamed (id_of name)
id_is [] = refused
id_is (b ∷ name) = either_way (eqb (length (b ∷ name)) 0) refused (either_way (ltb 4 (length (b ∷ name))) refused (by_test (list_all is_visible (b ∷ name)) refl)) where
  by_test : (visible : Bool) → list_all is_visible (b ∷ name) ≡ visible → Gives {E = IdFault} IsNamed (cond visible (Ok (filled (b ∷ name))) (Err NotAscii))
  by_test false is = refused
  by_test true is = given (λ zero.
      let none : b ≡ 0 = ap first_of zero in
      let parts = and_parts (is_visible b) (list_all is_visible name) is in
      let range = and_parts (leb 0x21 b) (leb b 0x7e) parts.0 in
      let least = leb-true 0x21 b range.0 in
      omega (arith, none, least))

id_named : (field : List ℕ) → Gives IsNamed (id_field field)
id_named field = either_way (list_any (λ b. eqb b 34) field) refused (by_fault (id_of field) (id_is field)) where
  by_fault : (r : Result (List ℕ) IdFault) → Gives IsNamed r → Gives IsNamed (ok_or (result_ok r) wrong.Id)
  by_fault (Ok id) is = given is.is
  by_fault (Err fault) is = refused

-- ---- numbers

abbrev pub IsWithin : ℕ → ℕ → ℕ → Type 0
IsWithin low high n = (low ≤ n) × (n ≤ high)

pub number_within_is : (low high : ℕ) (field : List ℕ) → Gives (IsWithin low high) (number_field low high field)
number_within_is low high field = by_number (unsigned_field 32 field) where
  by_test : (n : ℕ) (b : Bool) → (leb low n && leb n high) ≡ b → Gives (IsWithin low high) (ok_or (cond b (Some n) None) wrong.Number)
  by_test n false is = refused
  by_test n true is = let parts = and_parts (leb low n) (leb n high) is in given (leb-true low n parts.0, leb-true n high parts.1)

  by_number : (o : Option ℕ) → Gives (IsWithin low high) (ok_or (o >>= λ n. cond (leb low n && leb n high) (Some n) None) wrong.Number)
  by_number None = refused
  by_number (Some n) = by_test n (leb low n && leb n high) refl

-- ---- lines

pub app_in_range : (fields : List (List ℕ)) → Gives (λ app. IsNamed app.apid × (1 ≤ app.capacity) × (app.capacity ≤ 4096) × IsShort app.text) (app_line fields)
unfolding app_line
app_in_range [] = refused
app_in_range (apid ∷ []) = refused
app_in_range (apid ∷ capacity ∷ texts) =
    then (formed (is_of_form (text_fields texts)))
    (λ well. then_so (id_named apid)
    (λ id has_name. then_so (number_within_is 1 4096 capacity)
    (λ number within. then_so (texts_short texts) (λ text is. given (has_name, within.0, within.1, is)))))

pub context_in_range : (fields : List (List ℕ)) → Gives (λ context. IsNamed context.apid × IsNamed context.ctid × IsShort context.text) (context_line fields)
unfolding context_line
context_in_range [] = refused
context_in_range (apid ∷ []) = refused
context_in_range (apid ∷ ctid ∷ []) = refused
context_in_range (apid ∷ ctid ∷ level ∷ texts) =
    then (formed (is_of_form (text_fields texts)))
    (λ well. then_so (id_named apid)
    (λ app has_name. then_so (id_named ctid)
    (λ context has_name_too. then (level_field level)
    (λ own. then_so (texts_short texts) (λ text is. given (has_name, has_name_too, is))))))

pub claim_in_range : (fields : List (List ℕ)) → Gives (λ asked. IsNamed asked.ctid × (length asked.text ≤ 48)) (claim_line fields)
unfolding claim_line
claim_in_range [] = refused
claim_in_range (writer ∷ []) = refused
claim_in_range (writer ∷ ctid ∷ []) = refused
claim_in_range (writer ∷ ctid ∷ level ∷ texts) =
    then (formed (is_of_form (text_fields texts)))
    (λ well. then (ordinal_field 8 writer)
    (λ w. then_so (id_named ctid)
    (λ context has_name. then (level_field level)
    (λ own. then (text_fields texts)
    (λ text. then_so (brief_is text) (λ brief_text is. given (has_name, is)))))))

pub call_in_range : (low high : ℕ) (fields : List (List ℕ)) → Gives (λ call. IsWithin low high call.number) (call_line low high fields)
unfolding call_line
call_in_range low high [] = refused
call_in_range low high (writer ∷ []) = refused
call_in_range low high (writer ∷ ctid ∷ []) = refused
call_in_range low high (writer ∷ ctid ∷ severity ∷ []) = refused
call_in_range low high (writer ∷ ctid ∷ severity ∷ number ∷ arguments) =
    then (formed (list_all is_argument arguments))
    (λ well. then (ordinal_field 8 writer)
    (λ w. then (id_field ctid)
    (λ c. then (severity_field severity)
    (λ s. then_so (number_within_is low high number)
    (λ n within. then (payload_fields arguments) (λ payload. given within))))))
