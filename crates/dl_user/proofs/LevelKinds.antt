-- The readers of the two kinds with a level, and the spellings that they read.
use Rattle.std.proofs.Common.{◌≡◌, ℕ, zero, suc, ◌≤◌, ℤ, pos, negsuc, Bool, true, false, cond, List, [], ◌++◌, length, Option, Some, None, Ok, Err, ◌⊎◌, FitsSigned, refl, sym, subst, ◌∙◌, arith, rules, tests, lit<, inl, inr}
use Rattle.std.specs.Prelude.{IfSome, nat_le, ok_or}
use Rattle.std.specs.Int.{w8, cast_signed}
use Rattle.std.specs.Ordering.{int_eq}
use Rattle.std.proofs.lemmas.Bool.{leb-true, le-leb}
use Rattle.std.proofs.lemmas.List.{append-nil}
use Rattle.dl_bytes.specs.Number.{At}
use Rattle.dl_bytes.specs.declared.user.UserMsg.{UserMsg}
use Rattle.dl_bytes.specs.declared.user.UserMsg.TheVariants.{RegisterContext, LogLevel}
use Rattle.dl_user.specs.declared.fault.UserFault.{UserFault}
use Rattle.dl_user.specs.declared.fault.UserFault.TheVariants.{Level}
use Rattle.dl_user.specs.declared.fault.Stop.TheVariants.{Bad}
use Rattle.dl_user.specs.declared.fields.SettingFields.{SettingFields}
use Rattle.dl_user.specs.Layout.{context_front, setting_front, level_number}
use Rattle.dl_user.specs.Reading.{Reading, ◌>>=◌, registered_level, register_context_at, log_level_at}
use Rattle.dl_user.proofs.Readers.{ok_is, Then, Reads, reads_then, reads_as, reads_end, reads_choice, reads_refuse}
use Rattle.dl_user.proofs.FieldReaders.{reads_wait}
use Rattle.dl_user.specs.Fronts.{IsContext, IsSetting}
use Rattle.dl_user.proofs.Groups.{Ends, context_field, setting_field}
use Rattle.dl_user.proofs.MessageKinds.{IsKind, IsLimited, limited_reads, either, text_behind}

-- ---- kind 6

abbrev IsSet : SettingFields → List ℕ → UserMsg → Type 0
IsSet setting text msg = (setting.level ≤ 6) × Ends (LogLevel setting.level setting.trace setting.position) text msg

abbrev LogLevelParts : List ℕ → UserMsg → Type 0
LogLevelParts = Then IsSetting IsSet

log_level_to : (text : List ℕ) (msg : UserMsg) → LogLevelParts text msg → IsKind 6 text msg
log_level_to text msg t =
    let setting = t.first in
    let spelled : text ≡ setting_front setting =
    rw (t.parts, t.back_spells.1.0) (append-nil t.front ∙ t.front_spells.spelled) in
    subst (λ (x : UserMsg). IsKind 6 text x) (sym t.back_spells.1.1) (record {
      kind_is = refl;
      spelled = inl spelled;
      fit = tt;
      ranges = (t.back_spells.0, t.front_spells.trace, t.front_spells.position);
    })

log_level_from : (text : List ℕ) (msg : UserMsg) → IsKind 6 text msg → LogLevelParts text msg
log_level_from text (LogLevel level trace position) h = record {
  first = record { level = level; trace = trace; position = position };
  front = setting_front (record { level = level; trace = trace; position = position });
  back = [];
  parts = either h.spelled ∙ sym (append-nil (setting_front (record { level = level; trace = trace; position = position })));
  front_spells = record { spelled = refl; level = omega (arith, h.ranges.0); trace = h.ranges.1; position = h.ranges.2 };
  back_spells = (h.ranges.0, (refl, refl));
}
log_level_from text msg h = absurd (omega (arith, h.kind_is))

pub log_level_reads : Reads log_level_at (IsKind 6)
unfolding log_level_at
log_level_reads = reads_as _ _ _ log_level_to log_level_from
    (reads_then _ _ _ IsSet (reads_wait _ _ setting_field) (λ setting.
    reads_choice (nat_le setting.level 6) (λ c. Ok (LogLevel setting.level setting.trace setting.position, c)) (λ c. Err (Bad (Level (cast_signed w8 setting.level)))) (IsSet setting)
    (λ within. reads_as _ (Ends (LogLevel setting.level setting.trace setting.position)) (IsSet setting) (λ text x p. (search rules, p)) (λ text x p. p.1) (reads_end (LogLevel setting.level setting.trace setting.position)))
    (λ above. reads_refuse (Level (cast_signed w8 setting.level)) (IsSet setting) (λ text x p. search rules))))

-- ---- kind 4

-- the text behind a value that was judged before more is read
pub record Judged {A B : Type 0} (v : Reading A) (Q : A → List ℕ → B → Type 0) (text : List ℕ) (y : B) : Type 0 where
  pub value : A
  pub is : v ≡ Ok value
  pub spells : Q value text y

judged : {A B : Type 0} (v : Reading A) (k : A → At → Reading (B × At)) (Q : A → List ℕ → B → Type 0) → ((a : A) → Reads (k a) (Q a)) → Reads (λ c. v >>= λ a. k a c) (Judged v Q)
judged {A = A} (Ok x) k Q h =
    reads_as (k x) (Q x) (Judged (Ok x) Q) (λ text y q. record { value = x; is = refl; spells = q })
    (λ text y p. let same : x ≡ p.value = ok_is x p.value p.is in subst (λ (a : A). Q a text y) (sym same) p.spells) (h x)
judged (Err stop) k Q h = record {
  again = λ text rest y p. let e = p.is in absurd cc;
  found = λ bytes y c fits e. absurd cc;
  bad = λ bytes more fault fits e. e;
}

-- the numbers that are read as a context's own level
abbrev IsLevelNumber : ℤ → Option ℕ → Type 0
IsLevelNumber z level = ((z ≡ level_number (negsuc 0) level) ⊎ (z ≡ level_number (negsuc 1) level)) × IfSome level (λ n. n ≤ 6)

level_of_number : (b : Bool) (n : ℕ) (fault : UserFault) (level : Option ℕ) → ok_or (cond b (Some (Some n)) None) (Bad fault) ≡ Ok level → (b ≡ true) × (level ≡ Some n)
level_of_number true n fault level e = (refl, sym (ok_is (Some n) level e))
level_of_number false n fault level e = absurd cc

level_found : (z : ℤ) (level : Option ℕ) → registered_level z ≡ Ok level → IsLevelNumber z level
unfolding registered_level
level_found (pos n) level e =
    let p = level_of_number (nat_le n 6) n (Level (pos n)) level e in
    subst (IsLevelNumber (pos n)) (sym p.1) (inl refl, leb-true n 6 p.0)
level_found (negsuc zero) level e = subst (IsLevelNumber (negsuc 0)) (ok_is None level e) (inl refl, tt)
level_found (negsuc (suc zero)) level e = subst (IsLevelNumber (negsuc 1)) (ok_is None level e) (inr refl, tt)
level_found (negsuc (suc (suc n))) level e =
    let other : int_eq (negsuc (suc (suc n))) (negsuc 1) ≡ false = search (rules, tests) in
    let refused : registered_level (negsuc (suc (suc n))) ≡ Err (Bad (Level (negsuc (suc (suc n))))) = rw other refl in
    absurd (cc (sym e ∙ refused))

level_again : (level : Option ℕ) → IfSome level (λ n. n ≤ 6) → (registered_level (level_number (negsuc 0) level) ≡ Ok level) × (registered_level (level_number (negsuc 1) level) ≡ Ok level)
unfolding registered_level
level_again None h = (refl, refl)
level_again (Some n) h =
    let within : nat_le n 6 ≡ true = le-leb n 6 h in
    let read : registered_level (pos n) ≡ Ok (Some n) = rw within refl in
    (read, read)

level_fits : (level : Option ℕ) → IfSome level (λ n. n ≤ 6) → FitsSigned w8 (level_number (negsuc 0) level) × FitsSigned w8 (level_number (negsuc 1) level)
level_fits None h = (record { sfits = lit< tt }, record { sfits = lit< tt })
level_fits (Some n) h =
    let fits : FitsSigned w8 (pos n) = record { sfits = omega (arith, h) } in
    (fits, fits)

-- the fields of kind 4, with this number for the level
abbrev context_fields : List ℕ → List ℕ → ℕ → ℤ → ℤ → ℕ → List ℕ → List ℕ
context_fields apid ctid position number trace pid text =
    context_front (record { apid = apid; ctid = ctid; position = position; level = number; trace = trace; pid = pid; len = length text }) ++ text

abbrev RegisterContextParts : List ℕ → UserMsg → Type 0
RegisterContextParts = Then IsContext (λ context. Judged (registered_level context.level) (λ level. Then (IsLimited 255 context.len) (λ text.
    Ends (RegisterContext context.apid context.ctid context.position level context.trace context.pid text))))

register_context_to : (text : List ℕ) (msg : UserMsg) → RegisterContextParts text msg → IsKind 4 text msg
register_context_to text msg t =
    let context = t.first in
    let j = t.back_spells in
    let u = j.spells in
    let level = level_found context.level j.value j.is in
    let len : length u.first ≡ context.len = u.front_spells.1.1 in
    let joined : text ≡ context_front context ++ (u.first ++ []) = cc (t.front_spells.spelled) in
    let spelled : text ≡ context_fields context.apid context.ctid context.position context.level context.trace context.pid u.first = rw len (joined ∙ text_behind (context_front context) u.first) in
    let At_number : ℤ → Type 0 = λ z. text ≡ context_fields context.apid context.ctid context.position z context.trace context.pid u.first in
    subst (λ (x : UserMsg). IsKind 4 text x) (sym u.back_spells.1) (record {
      kind_is = refl;
      spelled = elim level.0 [ inl e ↦ inl (subst At_number e spelled) | inr e ↦ inr (subst At_number e spelled) ];
      fit = omega (arith, u.front_spells.0, len);
      ranges = (t.front_spells.apid, t.front_spells.ctid, t.front_spells.position, level.1, t.front_spells.trace, t.front_spells.pid);
    })

register_context_number : (text apid ctid : List ℕ) (position : ℕ) (level : Option ℕ) (number trace : ℤ) (pid : ℕ) (body : List ℕ)
    → IsKind 4 text (RegisterContext apid ctid position level trace pid body) → text ≡ context_fields apid ctid position number trace pid body
    → registered_level number ≡ Ok level → FitsSigned w8 number → RegisterContextParts text (RegisterContext apid ctid position level trace pid body)
register_context_number text apid ctid position level number trace pid body h spelled read fits = record {
  first = record { apid = apid; ctid = ctid; position = position; level = number; trace = trace; pid = pid; len = length body };
  front = context_front (record { apid = apid; ctid = ctid; position = position; level = number; trace = trace; pid = pid; len = length body });
  back = body ++ [];
  parts = spelled ∙ sym (text_behind (context_front (record { apid = apid; ctid = ctid; position = position; level = number; trace = trace; pid = pid; len = length body })) body);
  front_spells = record { spelled = refl; apid = h.ranges.0; ctid = h.ranges.1; position = h.ranges.2; level = fits; trace = h.ranges.4; pid = h.ranges.5; len = omega (arith, h.fit) };
  back_spells = record {
    value = level;
    is = read;
    spells =
        record { first = body; front = body; back = []; parts = refl; front_spells = (h.fit, (refl, refl)); back_spells = (refl, refl) };
  };
}

register_context_from : (text : List ℕ) (msg : UserMsg) → IsKind 4 text msg → RegisterContextParts text msg
register_context_from text (RegisterContext apid ctid position level trace pid body) h =
    let read = level_again level h.ranges.3 in
    let fits = level_fits level h.ranges.3 in
    elim h.spelled [
      | inl e ↦ register_context_number text apid ctid position level (level_number (negsuc 0) level) trace pid body h e read.0 fits.0
      | inr e ↦ register_context_number text apid ctid position level (level_number (negsuc 1) level) trace pid body h e read.1 fits.1
    ]
register_context_from text msg h = absurd (omega (arith, h.kind_is))

pub register_context_reads : Reads register_context_at (IsKind 4)
unfolding register_context_at
register_context_reads = reads_as _ _ _ register_context_to register_context_from
    (reads_then _ _ _ _ (reads_wait _ _ context_field) (λ context. judged (registered_level context.level) _ _ (λ level.
    reads_then _ _ _ _ (limited_reads 255 context.len) (λ text. reads_end (RegisterContext context.apid context.ctid context.position level context.trace context.pid text)))))
