-- What the getters of the matches give, by the rows.
use Rattle.std.proofs.Common.{◌≡◌, ◌∙◌, ap, ℕ, false, List, [], ◌∷◌, length, Option, Some, None, refl, sym, arith}
use Rattle.std.specs.Prelude.{if◌then◌else◌, option_map, unwrap_or}
use Rattle.std.proofs.lemmas.Bool.{ne_eqb}
use Rattle.std.specs.Borrow.{Bor}
use Rattle.clap.proofs.WalkLemmas.{first_value-rows}
use Rattle.clap.specs.Faults.{fault_of}
use Rattle.clap.specs.Kinds.{IsAmong, Kinds}
use Rattle.clap.specs.declared.error.kind.ErrorKind.{ErrorKind}
use Rattle.clap.specs.Matches.{first_value}
use Rattle.clap.specs.Simple.{App, matches_of}
use Rattle.clap.specs.Walk.{Row, Text, first_of, is_empty, rows_of}
use Rattle.clap.specs.declared.parser.matches.Found.{Found}
use Rattle.dl_words.specs.Parse.{found_in, given_number, number_of}

over : (o : Option (Bor Text)) (absent : Bor Text) → (unwrap_or o absent).now ≡ unwrap_or (option_map (λ s. s.now) o) absent.now
over None absent = refl
over (Some text) absent = refl

-- the value of an option, or the text where it is not given
pub text_given : (found : Found) (id : Text) (o : Option (Bor Text)) (absent : Bor Text) → option_map (λ s. s.now) o ≡ first_value found id
    → (unwrap_or o absent).now ≡ unwrap_or (first_of id (rows_of found)) absent.now
text_given found id o absent is = over o absent ∙ ap (λ (v : Option Text). unwrap_or v absent.now) (is ∙ first_value-rows found id)

-- the number of an option that is not given, and of one that is
pub number_absent : (found : Found) (id : Text) (o : Option (Bor Text)) → option_map (λ s. s.now) o ≡ first_value found id → o ≡ None → None ≡ given_number id (rows_of found)
number_absent found id o is none =
    ap (option_map number_of) (ap (option_map (λ s. s.now)) (sym none) ∙ is ∙ first_value-rows found id)

pub number_present : (found : Found) (id : Text) (o : Option (Bor Text)) (text : Bor Text) (n : ℕ) → option_map (λ s. s.now) o ≡ first_value found id → o ≡ Some text → n ≡ number_of text.now
    → Some n ≡ given_number id (rows_of found)
number_present found id o text n is some value =
    ap Some value ∙ ap (option_map number_of) (ap (option_map (λ s. s.now)) (sym some) ∙ is ∙ first_value-rows found id)

-- ---- what a command finds

not_empty : (kinds : Kinds) (cause : ErrorKind) → IsAmong cause kinds → is_empty kinds ≡ false
not_empty [] cause some = absurd some
not_empty (x ∷ xs) cause some = ne_eqb (length (x ∷ xs)) 0 (λ e. absurd (omega (arith, e)))

pub refused : (command : App) (words : List Text) (cause : ErrorKind) → IsAmong cause (fault_of command words) → found_in command words ≡ None
unfolding found_in
refused command words cause some =
    ap (λ b. if b then Some (matches_of command words) else None) (not_empty (fault_of command words) cause some)

pub taken : (command : App) (words : List Text) (rows : List Row) → fault_of command words ≡ [] → rows ≡ matches_of command words → found_in command words ≡ Some rows
unfolding found_in
taken command words rows none is =
    ap (λ (kinds : Kinds). if is_empty kinds then Some (matches_of command words) else None) none ∙ ap Some (sym is)
