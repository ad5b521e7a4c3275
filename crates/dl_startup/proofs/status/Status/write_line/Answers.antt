use Rattle.std.proofs.Common.{◌≡◌, ℕ, List, OnErr, OnOk, ap, sym, subst, ◌∙◌}
use Rattle.std.specs.Prelude.{codes}
use Rattle.dl_outside.specs.Written.{WroteAll, WroteFront}
use Rattle.dl_startup.specs.Refusal.{refusal_line, script_word}
use Rattle.dl_startup.specs.Status.{line_of}
use Rattle.dl_startup.specs.declared.status.Status.{Status}
use Rattle.dl_startup.specs.declared.status.Status.TheVariants.{ScriptRefused}
use Rattle.dl_script_fields.specs.declared.kind.ScriptKind.{ScriptKind}
use Rattle.dl_startup.proofs.status.Status.write_line.Goals as goal

-- the line of a refused script, with its kind's word
script_line : (program usage : List ℕ) (status : Status) (line : ℕ) (kind : ScriptKind) (word : List ℕ) → status ≡ ScriptRefused line kind → word ≡ script_word kind
    → refusal_line program (codes "script") line word ≡ line_of program usage status
unfolding line_of
script_line program usage status line kind word is named =
    ap (refusal_line program (codes "script") line) named ∙ sym (ap (line_of program usage) is)

pub returns-in-ScriptRefused-clause-ok : goal.returns-in-ScriptRefused-clause-ok
returns-in-ScriptRefused-clause-ok g c =
    subst (λ (text : List ℕ). OnOk c.say_refusal-in-ScriptRefused.result (WroteAll (g.E.Sink.told c.args.err.now) (g.E.Sink.told c.say_refusal-in-ScriptRefused.new.err) text))
    (script_line c.args.program.now c.args.usage.now c.args.self c.in-ScriptRefused.line c.in-ScriptRefused.kind c.script_word.result.now c.in-ScriptRefused.is c.script_word.ensures) c.say_refusal-in-ScriptRefused.ensures.ok

pub returns-in-ScriptRefused-clause-front : goal.returns-in-ScriptRefused-clause-front
returns-in-ScriptRefused-clause-front g c =
    subst (λ (text : List ℕ). OnErr c.say_refusal-in-ScriptRefused.result (WroteFront (g.E.Sink.told c.args.err.now) (g.E.Sink.told c.say_refusal-in-ScriptRefused.new.err) text))
    (script_line c.args.program.now c.args.usage.now c.args.self c.in-ScriptRefused.line c.in-ScriptRefused.kind c.script_word.result.now c.in-ScriptRefused.is c.script_word.ensures) c.say_refusal-in-ScriptRefused.ensures.front
