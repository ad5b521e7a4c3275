-- The reader of a whole message, and the spellings that it reads.
use Rattle.std.proofs.Common.{◌≡◌, ℕ, ◌^◌, ◌<◌, negsuc, true, false, eqb, List, ◌++◌, Err, refl, sym, ap, subst, ◌∙◌, lit<, inl, inr}
use Rattle.std.specs.Str.{bytes_eq}
use Rattle.std.proofs.lemmas.Bool.{eqb-true, eqb-false, false≢true}
use Rattle.std.proofs.lemmas.Slice.Eq.{bytes_eq-Decides}
use Rattle.dl_bytes.specs.Number.{At, number_at}
use Rattle.dl_bytes.specs.declared.user.UserMsg.{UserMsg}
use Rattle.dl_bytes.specs.declared.user.UserMsg.TheVariants.{Log, RegisterApp, UnregisterApp, RegisterContext, UnregisterContext, LogLevel, Injection, Overflow}
use Rattle.dl_user.specs.declared.fault.UserFault.TheVariants.{Marker, Kind}
use Rattle.dl_user.specs.declared.fault.Stop.TheVariants.{Bad}
use Rattle.dl_user.specs.Layout.{marker, uint32, kind_of, fields_of}
use Rattle.dl_user.specs.Fields.{unregister_app_at, unregister_context_at, overflow_at}
use Rattle.dl_user.specs.Reading.{Reading, wait, log_at, register_app_at, register_context_at, log_level_at, injection_at, kind_at, fields_at, message_at}
use Rattle.dl_user.specs.Cut.{IsSpelled}
use Rattle.dl_user.proofs.Readers.{Then, Reads, reads_then, reads_as, reads_choice, reads_refuse}
use Rattle.dl_user.proofs.FieldReaders.{reads_wait}
use Rattle.dl_user.proofs.Numbers.{AreBytes, IsNumber, bytes_field, long_field}
use Rattle.dl_user.proofs.MessageKinds.{IsKind, register_app_reads, unregister_app_reads, unregister_context_reads, injection_reads, overflow_reads}
use Rattle.dl_user.proofs.LevelKinds.{register_context_reads, log_level_reads}
use Rattle.dl_user.proofs.LogKind.{log_reads}

at_kind : (kind k : ℕ) (r : At → Reading (UserMsg × At)) → eqb kind k ≡ true → Reads r (IsKind k) → Reads r (IsKind kind)
at_kind kind k r e h = subst (λ (n : ℕ). Reads r (IsKind n)) (sym (eqb-true kind k e)) h

record IsNone (kind : ℕ) : Type 0 where
  not1 : eqb kind 1 ≡ false
  not2 : eqb kind 2 ≡ false
  not3 : eqb kind 3 ≡ false
  not4 : eqb kind 4 ≡ false
  not5 : eqb kind 5 ≡ false
  not6 : eqb kind 6 ≡ false
  not7 : eqb kind 7 ≡ false
  not8 : eqb kind 8 ≡ false

no_message : (kind : ℕ) → IsNone kind → (msg : UserMsg) → kind_of msg ≡ kind → ⊥
no_message kind h (Log message) e = eqb-false kind 1 h.not1 (sym e)
no_message kind h (RegisterApp apid pid text) e = eqb-false kind 2 h.not2 (sym e)
no_message kind h (UnregisterApp apid pid) e = eqb-false kind 3 h.not3 (sym e)
no_message kind h (RegisterContext apid ctid position level trace pid text) e = eqb-false kind 4 h.not4 (sym e)
no_message kind h (UnregisterContext apid ctid pid) e = eqb-false kind 5 h.not5 (sym e)
no_message kind h (LogLevel level trace position) e = eqb-false kind 6 h.not6 (sym e)
no_message kind h (Injection position service body) e = eqb-false kind 7 h.not7 (sym e)
no_message kind h (Overflow counter apid) e = eqb-false kind 8 h.not8 (sym e)

fields_reads : (kind : ℕ) → Reads (λ c. fields_at kind c) (IsKind kind)
unfolding fields_at
fields_reads kind =
    reads_choice (eqb kind 1) log_at _ (IsKind kind) (λ e. at_kind kind 1 log_at e log_reads) (λ n1.
    reads_choice (eqb kind 2) register_app_at _ (IsKind kind) (λ e. at_kind kind 2 register_app_at e register_app_reads) (λ n2.
    reads_choice (eqb kind 3) (λ c. wait (unregister_app_at c)) _ (IsKind kind) (λ e. at_kind kind 3 (λ c. wait (unregister_app_at c)) e unregister_app_reads) (λ n3.
    reads_choice (eqb kind 4) register_context_at _ (IsKind kind) (λ e. at_kind kind 4 register_context_at e register_context_reads) (λ n4.
    reads_choice (eqb kind 5) (λ c. wait (unregister_context_at c)) _ (IsKind kind) (λ e. at_kind kind 5 (λ c. wait (unregister_context_at c)) e unregister_context_reads) (λ n5.
    reads_choice (eqb kind 6) log_level_at _ (IsKind kind) (λ e. at_kind kind 6 log_level_at e log_level_reads) (λ n6.
    reads_choice (eqb kind 7) injection_at _ (IsKind kind) (λ e. at_kind kind 7 injection_at e injection_reads) (λ n7.
    reads_choice (eqb kind 8) (λ c. wait (overflow_at c)) _ (IsKind kind) (λ e. at_kind kind 8 (λ c. wait (overflow_at c)) e overflow_reads) (λ n8.
    let others : IsNone kind = record { not1 = n1; not2 = n2; not3 = n3; not4 = n4; not5 = n5; not6 = n6; not7 = n7; not8 = n8 } in
    reads_refuse (Kind kind) (IsKind kind) (λ text msg h. no_message kind others msg h.kind_is)))))))))

-- ---- the marker and the kind

abbrev pub IsMarked : List ℕ → List ℕ → ℕ → Type 0
IsMarked front text kind = (front ≡ marker) × IsNumber 4 text kind

pub kind_reads : Reads kind_at (Then (AreBytes 4) IsMarked)
unfolding kind_at
kind_reads = reads_then _ _ (AreBytes 4) IsMarked (reads_wait _ _ (bytes_field 4)) (λ front.
    reads_choice (bytes_eq front marker) (λ c. wait (number_at 4 c)) (λ c. Err (Bad Marker)) (IsMarked front)
    (λ same. reads_as _ (IsNumber 4) (IsMarked front) (λ text kind p. ((bytes_eq-Decides front marker).0 same, p)) (λ text kind p. p.1) (reads_wait _ _ long_field))
    (λ other. reads_refuse Marker (IsMarked front) (λ text kind p. false≢true (sym other ∙ (bytes_eq-Decides front marker).1 p.0))))

-- ---- the message

kind_below : (msg : UserMsg) → kind_of msg < 2 ^ 32
kind_below (Log message) = lit< tt
kind_below (RegisterApp apid pid text) = lit< tt
kind_below (UnregisterApp apid pid) = lit< tt
kind_below (RegisterContext apid ctid position level trace pid text) = lit< tt
kind_below (UnregisterContext apid ctid pid) = lit< tt
kind_below (LogLevel level trace position) = lit< tt
kind_below (Injection position service body) = lit< tt
kind_below (Overflow counter apid) = lit< tt

abbrev MessageParts : List ℕ → UserMsg → Type 0
MessageParts = Then (Then (AreBytes 4) IsMarked) (λ kind. IsKind kind)

message_to : (text : List ℕ) (msg : UserMsg) → MessageParts text msg → IsSpelled text msg
message_to text msg t =
    let k = t.front_spells in
    let kind = t.back_spells.kind_is in
    let front : t.front ≡ marker ++ uint32 (kind_of msg) =
    rw (k.parts, k.front_spells.0, k.back_spells.0, kind) (ap (λ (x : List ℕ). marker ++ x) k.back_spells.1.0) in
    record {
      spelled = elim t.back_spells.spelled [
        | inl e ↦ inl (rw (t.parts, front, e) refl)
        | inr e ↦ inr (rw (t.parts, front, e) refl)
      ];
      fit = t.back_spells.fit;
      ranges = t.back_spells.ranges;
    }

message_parts : (text fields : List ℕ) (msg : UserMsg) → text ≡ marker ++ uint32 (kind_of msg) ++ fields → IsKind (kind_of msg) fields msg → MessageParts text msg
message_parts text fields msg e h = record {
  first = kind_of msg;
  front = marker ++ uint32 (kind_of msg);
  back = fields;
  parts = e;
  front_spells = record { first = marker; front = marker; back = uint32 (kind_of msg); parts = refl; front_spells = (refl, refl); back_spells = (refl, (refl, kind_below msg)) };
  back_spells = h;
}

message_from : (text : List ℕ) (msg : UserMsg) → IsSpelled text msg → MessageParts text msg
message_from text msg h =
    elim h.spelled [
      | inl e ↦ message_parts text (fields_of (negsuc 0) msg) msg e (record { kind_is = refl; spelled = inl refl; fit = h.fit; ranges = h.ranges })
      | inr e ↦ message_parts text (fields_of (negsuc 1) msg) msg e (record { kind_is = refl; spelled = inr refl; fit = h.fit; ranges = h.ranges })
    ]

-- A message is read exactly from its spellings, and a fault stays whatever follows.
pub message_reads : Reads message_at IsSpelled
unfolding message_at
message_reads = reads_as _ _ _ message_to message_from (reads_then _ _ _ (λ kind. IsKind kind) kind_reads (λ kind. fields_reads kind))
