-- The last counters of sessions, with one message more.
use Rattle.std.proofs.Common.{◌≡◌, ℕ, Bool, true, false, cond, eqb, List, [], ◌∷◌, ◌++◌, Option, Some, None, Result, Ok, Err, refl, sym, ap, ◌∙◌}
use Rattle.std.specs.Prelude.{OnOk}
use Rattle.std.specs.Option.{option_or}
use Rattle.dl_model.specs.Along.{along_from}
use Rattle.dl_model.proofs.Lists.{along-one, along_from-append}
use Rattle.dl_receive.specs.declared.counting.Counted.{Counted}
use Rattle.dl_receive.specs.declared.counting.Counter.{Counter}
use Rattle.dl_receive.specs.declared.counting.Entry.{Entry}
use Rattle.dl_receive.specs.declared.kind.Kind.{Kind}
use Rattle.dl_receive.specs.declared.printer.Printer.{Printer}
use Rattle.dl_receive.specs.Counting.{entry_with, same_counted}
use Rattle.dl_receive.specs.Receiving.{kept, Keeps}
use Rattle.dl_receive.specs.Text.{counter_for, last_counter, lines_of, text_of}
use Rattle.dl_lemmas.proofs.Options.{or_assoc}

or_none : (x : Option ℕ) → option_or None x ≡ option_or x None
or_none None = refl
or_none (Some x) = refl

pub last_counter-one : (who : Counted) (entries : List Entry) (entry : Entry) → last_counter who (entries ++ entry ∷ []) ≡ option_or (counter_for who entry) (last_counter who entries)
last_counter-one who [] entry = or_none (counter_for who entry)
last_counter-one who (e ∷ entries) entry =
    ap (λ (x : Option ℕ). option_or x (counter_for who e)) (last_counter-one who entries entry) ∙ or_assoc (counter_for who entry) (last_counter who entries) (counter_for who e)

by_counted : (b : Bool) (x : ℕ) (y : Option ℕ) → cond b (Some x) y ≡ option_or (cond b (Some x) None) y
by_counted true x y = refl
by_counted false x y = refl

-- a message more that takes a counter
pub keeps_counted : (old new : Printer) (entries : List Entry) (kind : Kind) (counter : Counter) → Keeps old entries
    → ((who : Counted) → kept new who ≡ cond (same_counted counter.counted who) (Some counter.mcnt) (kept old who)) → Keeps new (entries ++ entry_with kind (Some counter) ∷ [])
keeps_counted old new entries kind counter keeps noted who =
    let same = same_counted counter.counted who in
    noted who ∙ ap (cond same (Some counter.mcnt)) (keeps who) ∙ by_counted same counter.mcnt (last_counter who entries)
    ∙ sym (last_counter-one who entries (entry_with kind (Some counter)))

-- a message more that takes none
pub keeps_other : (printer : Printer) (entries : List Entry) (kind : Kind) → Keeps printer entries → Keeps printer (entries ++ entry_with kind None ∷ [])
keeps_other printer entries kind keeps who = keeps who ∙ sym (last_counter-one who entries (entry_with kind None))

-- ---- where a call went well

pub on_ok : {T E : Type 0} (result : Result T E) (P : Type 0) → P → OnOk result P
on_ok (Ok x) P p = p
on_ok (Err e) P p = tt

pub then_ok : {T E : Type 0} (result : Result T E) (P Q : Type 0) → (P → Q) → OnOk result P → OnOk result Q
then_ok (Ok x) P Q f p = f p
then_ok (Err e) P Q f p = tt

-- ---- the text

pub text-none : text_of [] ≡ []
unfolding text_of
text-none = refl

pub text-one : (entries : List Entry) (entry : Entry) → text_of (entries ++ entry ∷ []) ≡ text_of entries ++ lines_of entries entry
unfolding text_of
text-one entries entry = along-one lines_of entries entry

pub text-append : (entries others : List Entry) → text_of (entries ++ others) ≡ text_of entries ++ along_from lines_of entries others
unfolding text_of
text-append entries others = along_from-append lines_of [] entries others
