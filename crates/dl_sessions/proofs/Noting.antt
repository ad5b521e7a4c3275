-- What each message leaves of the accounts that were read.
use Rattle.std.proofs.Common.{◌≡◌, ℕ, ◌+◌, List, [], ◌∷◌, ◌++◌, length, Option, Some, None, refl, sym, ap, subst, ◌∙◌, length-append}
use Rattle.std.specs.HashMap as hash
use Rattle.std.specs.List.{filter_map}
use Rattle.std.specs.Option.{option_map_or}
use Rattle.std.proofs.lemmas.List.{append-nil}
use Rattle.std.proofs.lemmas.List.Elements.{filter_map-append}
use Rattle.dl_model.proofs.Lists.{along-one}
use Rattle.dl_sessions.specs.Calls.{calls_in}
use Rattle.dl_sessions.specs.declared.ledger.Ledger.{Ledger}
use Rattle.dl_sessions.specs.declared.session.Calls.{Calls}
use Rattle.dl_sessions.specs.declared.session.Context.{Context}
use Rattle.dl_sessions.specs.declared.session.Entry.{Entry}
use Rattle.dl_sessions.specs.declared.session.Since.{Since}
use Rattle.dl_sessions.specs.declared.session.Told.{Told}
use Rattle.dl_sessions.specs.declared.session.Told.TheVariants as told
use Rattle.dl_sessions.specs.Gaps.{context_of, counted, entries, entry_of}
use Rattle.dl_sessions.specs.Ledger.{IsLedgerOf, KeepsSince, Notes, about, account_here, account_line, account_text, since_of, unstored_text, with_message}
use Rattle.dl_sessions.proofs.OneMore.{goes_on}

pub entries-log : (before : List Told) (e : Entry) → entries (before ++ told.Log e ∷ []) ≡ entries before ++ e ∷ []
entries-log before e = filter_map-append entry_of before (told.Log e ∷ [])

-- a message that tells no session
pub quiet_notes : {S : Type 0} (kept : hash.HashMap Context Since S) (text : List ℕ) (t : Told) → filter_map entry_of (t ∷ []) ≡ [] → ((before : List Told) → account_line before t ≡ [])
    → (before : List Told) → KeepsSince kept (entries before) → Notes before t kept text text
quiet_notes kept text t none no_line before keeps =
    let same = filter_map-append entry_of before (t ∷ []) ∙ ap (λ (l : List Entry). entries before ++ l) none ∙ append-nil (entries before) in
    (sym (ap (λ (l : List ℕ). text ++ l) (no_line before) ∙ append-nil text), subst (KeepsSince kept) (sym same) keeps)

-- the record of messages that were not stored
pub unstored_notes : {S : Type 0} (kept : hash.HashMap Context Since S) (text text_now : List ℕ) (before : List Told) (count place : ℕ) → place ≡ counted (length before + 1)
    → text_now ≡ text ++ unstored_text place count → KeepsSince kept (entries before) → Notes before (told.Unstored count) kept text text_now
unstored_notes kept text text_now before count place at line keeps =
    let same = filter_map-append entry_of before (told.Unstored count ∷ []) ∙ append-nil (entries before) in
    (line ∙ ap (λ (n : ℕ). text ++ unstored_text n count) at, subst (KeepsSince kept) (sym same) keeps)

-- a message of a session that is no account
pub no_account : (before : List Told) (e : Entry) (text : List ℕ) → calls_in e.calls ≡ None → text ≡ text ++ account_line before (told.Log e)
no_account before e text none =
    sym (ap (λ (o : Option Calls). text ++ option_map_or (account_here before e) o []) none ∙ append-nil text)

-- the line of an account
pub line_is : (before : List Told) (e : Entry) (calls : Calls) (place : ℕ) (since own : Since) → calls_in e.calls ≡ Some calls → place ≡ counted (length before + 1) → since ≡ since_of (about e calls) (entries before)
    → own ≡ with_message (since_of (context_of e) (entries before)) e → account_text place e calls since own.missing ≡ account_line before (told.Log e)
line_is before e calls place since own some at since_is own_is =
    (λ i. account_text (at i) e calls (since_is i) (own_is i).missing) ∙ sym (ap (λ (o : Option Calls). option_map_or (account_here before e) o []) some)

-- ---- a ledger

pub ledger_noted : (stream : List Told) (t : Told) (old new : Ledger) → IsLedgerOf stream old → new.messages ≡ counted (old.messages + 1) → ((before : List Told) → KeepsSince old.kept (entries before)
    → new.messages ≡ counted (length before + 1) → Notes before t new.kept old.text.items new.text.items) → IsLedgerOf (stream ++ t ∷ []) new
ledger_noted stream t old new is one_more notes =
    let at : new.messages ≡ counted (length stream + 1) = one_more ∙ ap (λ (n : ℕ). counted (n + 1)) is.messages_are ∙ sym (goes_on (length stream) 1) in
    let noted = notes stream is.keeps at in
    record {
      text_is = noted.0 ∙ ap (λ (l : List ℕ). l ++ account_line stream t) is.text_is ∙ sym (along-one account_line stream t);
      keeps = noted.1;
      messages_are = at ∙ sym (ap counted (length-append stream (t ∷ [])));
    }
