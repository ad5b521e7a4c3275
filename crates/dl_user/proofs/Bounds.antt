-- How many bytes are enough to tell what stands at the front.
use Rattle.std.proofs.Common.{◌≡◌, ℕ, ℤ, ◌+◌, ◌≤◌, Bool, true, false, cond, ltb, eqb, List, ◌++◌, length, Option, Some, None, Ok, Err, ◌⊎◌, refl, sym, ap, subst, ◌∙◌, arith, inl, inr}
use Rattle.std.specs.Prelude.{ok_or, nat_le}
use Rattle.std.specs.Str.{bytes_eq}
use Rattle.std.proofs.lemmas.Bool.{cases_lt, lt-ltb, le-ltb}
use Rattle.std.proofs.lemmas.List.{length-append}
use Rattle.dl_bytes.specs.Number.{At, bytes_at}
use Rattle.dl_bytes.specs.declared.user.UserMsg.TheVariants.{Log}
use Rattle.dl_user.specs.declared.fault.UserFault.{UserFault}
use Rattle.dl_user.specs.declared.fault.UserFault.TheVariants.{TooLong, Level}
use Rattle.dl_user.specs.declared.fault.Stop.TheVariants.{NeedMore, Bad}
use Rattle.dl_user.specs.declared.fields.AppFields.{AppFields}
use Rattle.dl_user.specs.declared.fields.ContextFields.{ContextFields}
use Rattle.dl_user.specs.declared.fields.SettingFields.{SettingFields}
use Rattle.dl_user.specs.declared.fields.ServiceFields.{ServiceFields}
use Rattle.dl_user.specs.Layout.{marker, uint32, signed}
use Rattle.dl_user.specs.Reading.{little, Reading, ◌>>=◌, wait, inner_len, limited_at, registered_level, log_at, register_app_at, register_context_at, log_level_at, injection_at, kind_at, fields_at, message_at}
use Rattle.dl_bytes.specs.Bytes.{IsBytes}
use Rattle.dl_user.proofs.Readers.{IsBytes-rest, Then, Reads}
use Rattle.dl_user.proofs.FieldReaders.{reads_wait}
use Rattle.dl_user.proofs.FieldBounds.{FieldsNeed, app_need, context_need, setting_need, service_need, unregister_app_need, unregister_context_need, overflow_need, bytes_need, number_need}
use Rattle.dl_user.proofs.Numbers.{AreBytes, bytes_field}
use Rattle.dl_user.specs.Fronts.{IsApp, IsContext, IsSetting, IsService}
use Rattle.dl_user.proofs.Groups.{app_field, context_field, setting_field, injection_field}
use Rattle.dl_user.proofs.MessageKinds.{IsLimited, limited_reads}
use Rattle.dl_user.proofs.LogKind.{too_few, bad_head, too_long, within_limit, inner_case, inner_found}
use Rattle.dl_user.proofs.Messages.{IsMarked, kind_reads}

-- with n bytes there is a value or a fault
pub record Needs {A : Type 0} (r : At → Reading A) (n : ℕ) : Type 0 where
  pub enough : (bytes : List ℕ) → IsBytes bytes → n ≤ length bytes → r (little bytes) ≡ Err NeedMore → ⊥

bind_more : {A B : Type 0} (r : Reading A) (f : A → Reading B) → (r >>= f) ≡ Err NeedMore → (r ≡ Err NeedMore) ⊎ ((x : A) × (r ≡ Ok x) × (f x ≡ Err NeedMore))
bind_more (Ok x) f e = inr (x, refl, e)
bind_more (Err s) f e = inl cc

needs_then : {A B : Type 0} (r : At → Reading (A × At)) (k : A × At → Reading B) (P : List ℕ → A → Type 0) (p q : ℕ)
    → Reads r P → ((text : List ℕ) (x : A) → P text x → length text ≤ p) → Needs r p → ((a : A) → Needs (λ c. k (a, c)) q) → Needs (λ c. r c >>= k) (p + q)
needs_then r k P p q reads short first second = record {
  enough = λ bytes fits h e.
      elim (bind_more (r (little bytes)) k e) [
        | inl more ↦ first.enough bytes fits (omega arith) more
        | inr b ↦
            let t = reads.found bytes b.0.0 b.0.1 fits b.1 in
            let go : k (b.0.0, little b.0.1.rest) ≡ Err NeedMore = subst (λ (d : At). k (b.0.0, d) ≡ Err NeedMore) t.left b.2 in
            let parts = ap length t.parts in
            let left : q ≤ length b.0.1.rest = omega (arith, length-append t.text b.0.1.rest, short t.text b.0.0 t.spells) in
            (second b.0.0).enough b.0.1.rest (IsBytes-rest bytes t.text b.0.1.rest t.parts fits) left go
      ];
}

needs_more : {A : Type 0} (r : At → Reading A) (m n : ℕ) → m ≤ n → Needs r m → Needs r n
needs_more r m n h needs = record { enough = λ bytes fits le e. needs.enough bytes fits (omega arith) e }

needs_end : {A : Type 0} (k : At → A) → Needs (λ c. Ok (k c)) 0
needs_end k = record { enough = λ bytes fits h e. cc }

needs_refuse : {A : Type 0} (fault : UserFault) (n : ℕ) → Needs {A = A} (λ c. Err (Bad fault)) n
needs_refuse fault n = record { enough = λ bytes fits h e. cc }

needs_choice : {A : Type 0} (b : Bool) (r s : At → Reading A) (n : ℕ) → Needs r n → Needs s n → Needs (λ c. cond b (r c) (s c)) n
needs_choice true r s n chosen other = chosen
needs_choice false r s n chosen other = other

wait_more : {A : Type 0} (o : Option A) → wait o ≡ Err NeedMore → o ≡ None
wait_more None e = refl
wait_more (Some x) e = absurd cc

needs_wait : {A : Type 0} (r : At → Option (A × At)) (n : ℕ) → FieldsNeed r n → Needs (λ c. wait (r c)) n
needs_wait r n h = record { enough = λ bytes fits le e. h.enough bytes fits le (wait_more (r (little bytes)) e) }

refused : {A : Type 0} (o : Option A) (fault : UserFault) → ok_or o (Bad fault) ≡ Err NeedMore → ⊥
refused None fault e = cc
refused (Some x) fault e = cc

needs_judged : {A B : Type 0} (v : Reading A) (k : A → At → Reading B) (n : ℕ) → (v ≡ Err NeedMore → ⊥) → ((a : A) → Needs (k a) n) → Needs (λ c. v >>= λ a. k a c) n
needs_judged (Ok x) k n never h = h x
needs_judged (Err NeedMore) k n never h = absurd (never refl)
needs_judged (Err (Bad fault)) k n never h = record { enough = λ bytes fits le e. cc }

-- ---- texts and bodies

limited_short : (limit len : ℕ) (text x : List ℕ) → IsLimited limit len text x → length text ≤ limit
limited_short limit len text x p = let same = ap length p.1.0 in omega (arith, p.0, p.1.1)

limited_need : (limit len : ℕ) → Needs (λ c. limited_at limit len c) limit
unfolding limited_at
limited_need limit len = record {
  enough = λ bytes fits le e.
      elim (cases_lt limit len) [
        | inl above ↦ let test : ltb limit len ≡ true = lt-ltb limit len above in
            let bad : limited_at limit len (little bytes) ≡ Err (Bad (TooLong len)) = rw test refl in
            cc (sym e ∙ bad)
        | inr within ↦ let test : ltb limit len ≡ false = le-ltb limit len within in
            let waits : limited_at limit len (little bytes) ≡ wait (bytes_at len (little bytes)) = rw test refl in
            (needs_wait _ len (bytes_need len)).enough bytes fits (omega arith) (sym waits ∙ e)
      ];
}

-- ---- the kinds

app_text_len : (a p l : List ℕ) → length (a ++ p ++ l) ≡ length a + length p + length l
app_text_len a p l = simp length-append refl

context_text_len : (a c p l t i n : List ℕ) → length (a ++ c ++ p ++ l ++ t ++ i ++ n) ≡ length a + length c + length p + length l + length t + length i + length n
context_text_len a c p l t i n = simp length-append refl

app_short : (text : List ℕ) (app : AppFields) → IsApp text app → length text ≤ 12
app_short text app h = let same = ap length h.spelled in
    omega (arith, h.apid, app_text_len app.apid (uint32 app.pid) (uint32 app.len))

context_short : (text : List ℕ) (context : ContextFields) → IsContext text context → length text ≤ 22
context_short text context h =
    let same = ap length h.spelled in
    omega (arith, h.apid, h.ctid, context_text_len context.apid context.ctid (uint32 context.position) (signed context.level) (signed context.trace) (uint32 context.pid) (uint32 context.len))

service_short : (text : List ℕ) (service : ServiceFields) → IsService text service → length text ≤ 12
service_short text service h = let same = ap length h.spelled in omega arith

setting_short : (text : List ℕ) (setting : SettingFields) → IsSetting text setting → length text ≤ 6
setting_short text setting h = let same = ap length h.spelled in omega arith

register_app_need : Needs register_app_at 267
unfolding register_app_at
register_app_need = needs_then _ _ IsApp 12 255 (reads_wait _ _ app_field) app_short (needs_wait _ 12 app_need) (λ app.
    needs_then _ _ (IsLimited 255 app.len) 255 0 (limited_reads 255 app.len) (limited_short 255 app.len) (limited_need 255 app.len) (λ text. needs_end _))

injection_need : Needs injection_at 1402
unfolding injection_at
injection_need = needs_then _ _ IsService 12 1390 (reads_wait _ _ injection_field) service_short (needs_wait _ 12 service_need) (λ service.
    needs_then _ _ (IsLimited 1390 service.len) 1390 0 (limited_reads 1390 service.len) (limited_short 1390 service.len) (limited_need 1390 service.len) (λ body. needs_end _))

log_level_need : Needs log_level_at 6
unfolding log_level_at
log_level_need = needs_then _ _ IsSetting 6 0 (reads_wait _ _ setting_field) setting_short (needs_wait _ 6 setting_need) (λ setting.
    needs_choice (nat_le setting.level 6) _ _ 0 (needs_end _) (needs_refuse _ 0))

registered_level_tells : (z : ℤ) → registered_level z ≡ Err NeedMore → ⊥
unfolding registered_level
registered_level_tells z e = refused _ (Level z) e

register_context_need : Needs register_context_at 277
unfolding register_context_at
register_context_need = needs_then _ _ IsContext 22 255 (reads_wait _ _ context_field) context_short (needs_wait _ 22 context_need) (λ context.
    needs_judged (registered_level context.level) _ 255 (registered_level_tells context.level) (λ level.
    needs_then _ _ (IsLimited 255 context.len) 255 0 (limited_reads 255 context.len) (limited_short 255 context.len) (limited_need 255 context.len) (λ text. needs_end _)))

inner_need : (bytes : List ℕ) → 4 ≤ length bytes → inner_len bytes ≡ Err NeedMore → ⊥
inner_need bytes h e =
    elim (inner_case bytes) [
      | too_few lt is ↦ omega (arith, lt, h)
      | bad_head fault le front is ↦ cc (sym is ∙ e)
      | too_long front above is ↦ cc (sym is ∙ e)
      | within_limit front within is ↦ cc (sym is ∙ e)
    ]

log_need : Needs log_at 1984
unfolding log_at
log_need = record {
  enough = λ bytes fits le e.
      elim (bind_more (inner_len bytes) (λ len. wait (bytes_at len (little bytes)) >>= λ message. Ok (Log message.0, message.1)) e) [
        | inl more ↦ inner_need bytes (omega arith) more
        | inr b ↦
            let limit = (inner_found bytes b.0 b.1).limit in
            (needs_then _ _ (AreBytes b.0) b.0 0 (reads_wait _ _ (bytes_field b.0)) (λ text x p. let same = ap length p.0 in omega (arith, p.1)) (needs_wait _ b.0 (bytes_need b.0)) (λ message. needs_end _)).enough
            bytes fits (omega arith) b.2
      ];
}

fields_need : (kind : ℕ) → Needs (λ c. fields_at kind c) 1984
unfolding fields_at
fields_need kind =
    needs_choice (eqb kind 1) _ _ 1984 log_need (
    needs_choice (eqb kind 2) _ _ 1984 (needs_more _ 267 1984 (omega arith) register_app_need) (
    needs_choice (eqb kind 3) _ _ 1984 (needs_more _ 8 1984 (omega arith) (needs_wait _ 8 unregister_app_need)) (
    needs_choice (eqb kind 4) _ _ 1984 (needs_more _ 277 1984 (omega arith) register_context_need) (
    needs_choice (eqb kind 5) _ _ 1984 (needs_more _ 12 1984 (omega arith) (needs_wait _ 12 unregister_context_need)) (
    needs_choice (eqb kind 6) _ _ 1984 (needs_more _ 6 1984 (omega arith) log_level_need) (
    needs_choice (eqb kind 7) _ _ 1984 (needs_more _ 1402 1984 (omega arith) injection_need) (
    needs_choice (eqb kind 8) _ _ 1984 (needs_more _ 8 1984 (omega arith) (needs_wait _ 8 overflow_need)) (needs_refuse _ 1984))))))))

kind_need : Needs kind_at 8
unfolding kind_at
kind_need = needs_then _ _ (AreBytes 4) 4 4 (reads_wait _ _ (bytes_field 4)) (λ text x p. let same = ap length p.0 in omega (arith, p.1)) (needs_wait _ 4 (bytes_need 4)) (λ front.
    needs_choice (bytes_eq front marker) _ _ 4 (needs_wait _ 4 (number_need 4)) (needs_refuse _ 4))

kind_short : (text : List ℕ) (kind : ℕ) → Then (AreBytes 4) IsMarked text kind → length text ≤ 8
kind_short text kind t =
    let parts = ap length t.parts in
    let front = ap length t.front_spells.0 in
    let back = ap length t.back_spells.1.0 in
    omega (arith, length-append t.front t.back, t.front_spells.1)

-- eight bytes for the marker and the kind, and at most 1984 behind them
pub message_need : Needs message_at 1992
unfolding message_at
message_need = needs_then _ _ (Then (AreBytes 4) IsMarked) 8 1984 kind_reads kind_short kind_need (λ kind. fields_need kind)
