-- A reader refuses exactly what shows a fault.
use Rattle.std.proofs.Common.{◌≡◌, ◌≢◌, ℕ, zero, suc, ◌^◌, ◌<◌, ◌≤◌, ℤ, pos, negsuc, true, false, eqb, List, [], ◌++◌, length, Option, Some, None, Ok, Err, ◌⊎◌, refl, ◌∙◌, arith, rules, tests, lit<, inl, inr}
use Rattle.std.specs.Prelude.{nat_le}
use Rattle.std.specs.Int.{w8, cast_signed}
use Rattle.std.specs.Str.{bytes_eq}
use Rattle.std.specs.Ordering.{int_eq}
use Rattle.std.proofs.lemmas.Int.{ints}
use Rattle.std.proofs.lemmas.Bool.{cases_lt, ne_eqb, lt-ltb, le-leb, false_from_ne_true}
use Rattle.std.proofs.lemmas.Slice.Eq.{bytes_eq-Decides}
use Rattle.dl_bytes.specs.Number.{At}
use Rattle.dl_user.specs.declared.fault.UserFault.{UserFault}
use Rattle.dl_user.specs.declared.fault.UserFault.TheVariants.{Marker, Kind, TooLong, Level}
use Rattle.dl_user.specs.declared.fault.Stop.TheVariants.{Bad}
use Rattle.dl_user.specs.declared.fields.AppFields.{AppFields}
use Rattle.dl_user.specs.declared.fields.ContextFields.{ContextFields}
use Rattle.dl_user.specs.declared.fields.SettingFields.{SettingFields}
use Rattle.dl_user.specs.declared.fields.ServiceFields.{ServiceFields}
use Rattle.dl_user.specs.Layout.{marker, uint32}
use Rattle.dl_user.specs.Reading.{little, inner_len, limited_at, registered_level, log_at, register_app_at, register_context_at, log_level_at, injection_at, kind_at, fields_at, message_at}
use Rattle.dl_user.specs.Fronts.{IsApp, IsContext, IsSetting, IsService}
use Rattle.dl_user.specs.Faults.{BeginsWith, IsRegistered, ProvesFault, other_marker, other_kind, bad_front, long_message, long_app_text, long_context_text, long_body, context_level, set_level}
use Rattle.dl_user.proofs.Readers.{Then}
use Rattle.dl_user.proofs.Numbers.{AreBytes, bytes_field}
use Rattle.dl_user.proofs.Groups.{app_field, context_field, setting_field, injection_field}
use Rattle.dl_user.proofs.Messages.{IsMarked, kind_reads}
use Rattle.dl_user.proofs.LogKind.{inner_len-append, inner_bad, inner_long}

-- ---- what shows a fault is refused

-- behind the marker and a kind its fields are read
at_fields : (kind : ℕ) (fields : List ℕ) → kind < 2 ^ 32 → message_at (little (marker ++ uint32 kind ++ fields)) ≡ fields_at kind (little fields)
unfolding message_at
at_fields kind fields h =
    let parts : Then (AreBytes 4) IsMarked (marker ++ uint32 kind) kind =
    record { first = marker; front = marker; back = uint32 kind; parts = refl; front_spells = (refl, refl); back_spells = (refl, (refl, h)) } in
    rw (kind_reads.again (marker ++ uint32 kind) fields kind parts) refl

limited_refuses : (limit len : ℕ) (c : At) → limit < len → limited_at limit len c ≡ Err (Bad (TooLong len))
unfolding limited_at
limited_refuses limit len c h = rw (lt-ltb limit len h) refl

pub registered_refuses : (z : ℤ) → (IsRegistered z → ⊥) → registered_level z ≡ Err (Bad (Level z))
unfolding registered_level
registered_refuses (pos n) h =
    elim (cases_lt 6 n) [
      | inl above ↦ let test : nat_le n 6 ≡ false = search (rules, tests) in rw test refl
      | inr within ↦ absurd (h (omega (arith, ints), omega (arith, ints)))
    ]
registered_refuses (negsuc zero) h = absurd (h (omega (arith, ints), omega (arith, ints)))
registered_refuses (negsuc (suc zero)) h = absurd (h (omega (arith, ints), omega (arith, ints)))
registered_refuses (negsuc (suc (suc n))) h =
    let other : int_eq (negsuc (suc (suc n))) (negsuc 1) ≡ false = search (rules, tests) in
    rw other refl

pub registered_gives : (z : ℤ) → IsRegistered z → (level : Option ℕ) × (registered_level z ≡ Ok level)
unfolding registered_level
registered_gives (pos n) h = let test : nat_le n 6 ≡ true = le-leb n 6 (omega (arith, ints, h.1)) in (Some n, rw test refl)
registered_gives (negsuc zero) h = (None, refl)
registered_gives (negsuc (suc zero)) h = (None, refl)
registered_gives (negsuc (suc (suc n))) h = absurd (omega (arith, ints, h.0))

register_app_refuses : (front more : List ℕ) (app : AppFields) → IsApp front app → 255 < app.len → register_app_at (little (front ++ more)) ≡ Err (Bad (TooLong app.len))
unfolding register_app_at
register_app_refuses front more app h above = rw (app_field.again front more app h, limited_refuses 255 app.len (little more) above) refl

injection_refuses : (front more : List ℕ) (injection : ServiceFields) → IsService front injection → 1390 < injection.len → injection_at (little (front ++ more)) ≡ Err (Bad (TooLong injection.len))
unfolding injection_at
injection_refuses front more injection h above = rw (injection_field.again front more injection h, limited_refuses 1390 injection.len (little more) above) refl

context_text_refuses : (front more : List ℕ) (context : ContextFields) → IsContext front context → IsRegistered context.level → 255 < context.len
    → register_context_at (little (front ++ more)) ≡ Err (Bad (TooLong context.len))
unfolding register_context_at
context_text_refuses front more context h within above =
    let level = registered_gives context.level within in
    rw (context_field.again front more context h, level.1, limited_refuses 255 context.len (little more) above) refl

context_level_refuses : (front more : List ℕ) (context : ContextFields) → IsContext front context → (IsRegistered context.level → ⊥)
    → register_context_at (little (front ++ more)) ≡ Err (Bad (Level context.level))
unfolding register_context_at
context_level_refuses front more context h other = rw (context_field.again front more context h, registered_refuses context.level other) refl

set_level_refuses : (front more : List ℕ) (setting : SettingFields) → IsSetting front setting → 6 < setting.level
    → log_level_at (little (front ++ more)) ≡ Err (Bad (Level (cast_signed w8 setting.level)))
unfolding log_level_at
set_level_refuses front more setting h above =
    let test : nat_le setting.level 6 ≡ false = search (rules, tests) in
    rw (setting_field.again front more setting h, test) refl

log_refuses : (head more : List ℕ) (fault : UserFault) → length head ≡ 4 → inner_len head ≡ Err (Bad fault) → log_at (little (head ++ more)) ≡ Err (Bad fault)
unfolding log_at
log_refuses head more fault len e = rw (inner_len-append head more (omega arith), e) refl

other_kind_refuses : (kind : ℕ) (c : At) → (kind < 1) ⊎ (8 < kind) → fields_at kind c ≡ Err (Bad (Kind kind))
unfolding fields_at
other_kind_refuses kind c h =
    let outside : (k : ℕ) → 1 ≤ k → k ≤ 8 → eqb kind k ≡ false = λ k low high. ne_eqb kind k (λ e. elim h [ inl below ↦ omega arith | inr above ↦ omega arith ]) in
    rw (
      outside 1 (omega arith) (omega arith),
      outside 2 (omega arith) (omega arith),
      outside 3 (omega arith) (omega arith),
      outside 4 (omega arith) (omega arith),
      outside 5 (omega arith) (omega arith),
      outside 6 (omega arith) (omega arith),
      outside 7 (omega arith) (omega arith),
      outside 8 (omega arith) (omega arith),
    ) refl

marker_refuses : (front more : List ℕ) → length front ≡ 4 → front ≢ marker → message_at (little (front ++ more)) ≡ Err (Bad Marker)
unfolding message_at kind_at
marker_refuses front more len other =
    let test : bytes_eq front marker ≡ false = false_from_ne_true _ (λ same. other ((bytes_eq-Decides front marker).0 same)) in
    rw ((bytes_field 4).again front more front (refl, len), test) refl

kind_refuses : (bytes front : List ℕ) (kind : ℕ) (fault : UserFault) (b : BeginsWith bytes kind front) → kind < 2 ^ 32 → fields_at kind (little (front ++ b.0)) ≡ Err (Bad fault) → message_at (little bytes) ≡ Err (Bad fault)
kind_refuses bytes front kind fault b h e = rw b.1 (at_fields kind (front ++ b.0) h ∙ e)

-- What shows a fault is refused for it.
pub refuses : (bytes : List ℕ) (fault : UserFault) → ProvesFault bytes fault → message_at (little bytes) ≡ Err (Bad fault)
unfolding fields_at
refuses bytes _ (other_marker front more e len other) = rw e (marker_refuses front more len other)
refuses bytes _ (other_kind kind b h outside) = kind_refuses bytes [] kind (Kind kind) b h (other_kind_refuses kind (little b.0) outside)
refuses bytes _ (bad_front head fault b len front) = kind_refuses bytes head 1 _ b (lit< tt) (log_refuses head b.0 _ len (inner_bad head fault (omega (arith, len)) front))
refuses bytes _ (long_message head b len front above) = kind_refuses bytes head 1 _ b (lit< tt) (log_refuses head b.0 _ len (inner_long head front above))
refuses bytes _ (long_app_text front app b h above) = kind_refuses bytes front 2 _ b (lit< tt) (register_app_refuses front b.0 app h above)
refuses bytes _ (long_context_text front context b h within above) = kind_refuses bytes front 4 _ b (lit< tt) (context_text_refuses front b.0 context h within above)
refuses bytes _ (long_body front injection b h above) = kind_refuses bytes front 7 _ b (lit< tt) (injection_refuses front b.0 injection h above)
refuses bytes _ (context_level front context b h other) = kind_refuses bytes front 4 _ b (lit< tt) (context_level_refuses front b.0 context h other)
refuses bytes _ (set_level front setting b h above) = kind_refuses bytes front 6 _ b (lit< tt) (set_level_refuses front b.0 setting h above)
