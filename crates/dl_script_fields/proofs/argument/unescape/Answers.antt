use Rattle.std.proofs.Common.{◌≡◌, ℕ, List, ◌∷◌, ◌++◌, sym, ap, ◌∙◌, lit<}
use Rattle.std.specs.Prelude.{encode_utf8, string_bytes}
use Rattle.std.specs.Str.Iter.{chars_rest}
use Rattle.std.proofs.lemmas.Str.{encode_ascii}
use Rattle.std.specs.Option.{ok_or}
use Rattle.dl_script_fields.specs.Argument.{unescaped}
use Rattle.dl_script_fields.specs.declared.kind.ScriptKind.TheVariants.{Fields}
use Rattle.dl_script_fields.proofs.Quotes.{plain, escape, no_escape}
use Rattle.dl_script_fields.proofs.argument.unescape.Goals as goal

-- behind a backslash
behind_backslash : (c : ℕ) (left behind bytes : List ℕ) → c ≡ 92 → left ≡ encode_utf8 c ++ behind → behind ≡ bytes → left ≡ 92 ∷ bytes
behind_backslash c left behind bytes e is next =
    is ∙ ap (λ x. encode_utf8 x ++ behind) e ∙ ap (λ b. b ++ behind) (encode_ascii 92 (lit< tt)) ∙ ap (λ b. 92 ∷ b) next

pub loop-c-preserved-then-c-ne92 : goal.loop-c-preserved-then-c-ne92
loop-c-preserved-then-c-ne92 c =
    rw c.in_ok-push.ensures.bytes
    (plain (string_bytes c.loop-c.text) (chars_rest c.loop-c.chars) (unescaped c.args.quoted.now) c.loop-c.invariant
    c.in-Some.c (chars_rest c.next.new.self) c.in-Some.ensures.steps.0 c.if-c-eq34.false c.if-c-ne92.true)

pub returns-then-not-is_escapable : goal.returns-then-not-is_escapable
returns-then-not-is_escapable c =
    sym (ap (λ o. ok_or o Fields) (no_escape (string_bytes c.loop-c.text) (chars_rest c.loop-c.chars) (unescaped c.args.quoted.now) c.loop-c.invariant c.in-Some-next.escaped (chars_rest c.next-in-Some.new.self)
    (behind_backslash c.in-Some.c _ _ _ c.if-c-ne92.false c.in-Some.ensures.steps.0 c.in-Some-next.ensures.steps.0) (sym c.if-not-is_escapable.ensures)))

pub loop-c-preserved : goal.loop-c-preserved
loop-c-preserved c =
    rw c.in_ok-push-2.ensures.bytes
    (escape (string_bytes c.loop-c.text) (chars_rest c.loop-c.chars) (unescaped c.args.quoted.now) c.loop-c.invariant c.in-Some-next.escaped (chars_rest c.next-in-Some.new.self)
    (behind_backslash c.in-Some.c _ _ _ c.if-c-ne92.false c.in-Some.ensures.steps.0 c.in-Some-next.ensures.steps.0) (sym c.if-not-is_escapable.ensures))
