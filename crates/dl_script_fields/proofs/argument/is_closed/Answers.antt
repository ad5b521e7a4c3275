use Rattle.std.proofs.Common.{◌≡◌, ℕ, List, length, eqb, false, Some, None, sym, ◌∙◌, refl}
use Rattle.std.specs.Prelude.{is_some}
use Rattle.dl_script_fields.specs.Argument.{unescaped}
use Rattle.dl_script_fields.specs.Fields.{quoted_len}
use Rattle.dl_script_fields.proofs.Closed.{closed}
use Rattle.dl_script_fields.proofs.argument.is_closed.Goals as goal

closes : (text : List ℕ) (n : ℕ) → quoted_len false text ≡ Some n → eqb n (length text) ≡ is_some (unescaped text)
closes text n e = rw (closed text, e) refl

never : (text : List ℕ) → quoted_len false text ≡ None → false ≡ is_some (unescaped text)
never text e = rw (closed text, e) refl

pub returns-in-Some : goal.returns-in-Some
returns-in-Some c =
    closes c.args.quoted.now c.in-Some.len (sym c.closing_quote.ensures.value ∙ c.in-Some.is)

pub returns-in-None : goal.returns-in-None
returns-in-None c = never c.args.quoted.now (sym c.closing_quote.ensures.value ∙ c.in-None.is)
