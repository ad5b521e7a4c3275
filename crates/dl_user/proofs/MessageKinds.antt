-- The readers of each kind's fields, and the spellings that they read.
use Rattle.std.proofs.Common.{◌≡◌, ℕ, ◌≤◌, negsuc, ltb, List, [], ◌++◌, length, Err, ◌⊎◌, refl, sym, ap, subst, ◌∙◌, arith, inl, inr}
use Rattle.std.proofs.lemmas.Bool.{ltb-false, ltb-true}
use Rattle.std.proofs.lemmas.List.{append-nil}
use Rattle.byteorder.specs.Endian.{little_bytes}
use Rattle.dl_bytes.specs.Number.{bytes_at}
use Rattle.dl_bytes.specs.UserMessage.{IsFit}
use Rattle.dl_bytes.specs.declared.user.UserMsg.{UserMsg}
use Rattle.dl_bytes.specs.declared.user.UserMsg.TheVariants.{RegisterApp, UnregisterApp, UnregisterContext, Injection, Overflow}
use Rattle.dl_user.specs.declared.fault.UserFault.TheVariants.{TooLong}
use Rattle.dl_user.specs.declared.fault.Stop.TheVariants.{Bad}
use Rattle.dl_user.specs.Layout.{uint32, app_front, service_front, kind_of, fields_of}
use Rattle.dl_user.specs.Fields.{unregister_app_at, unregister_context_at, overflow_at}
use Rattle.dl_user.specs.Reading.{wait, limited_at, register_app_at, injection_at}
use Rattle.dl_user.specs.Cut.{HasRanges}
use Rattle.dl_user.proofs.Readers.{Then, Reads, reads_then, reads_as, reads_end, reads_choice, reads_refuse}
use Rattle.dl_user.proofs.FieldReaders.{fields_then, fields_as, fields_end, reads_wait}
use Rattle.dl_user.proofs.Numbers.{AreBytes, IsNumber, bytes_field, long_field}
use Rattle.dl_user.specs.Fronts.{IsApp, IsService}
use Rattle.dl_user.proofs.Groups.{Ends, app_field, flat3, injection_field}

-- the fields of a message of this kind, which is within the limits
pub record IsKind (kind : ℕ) (text : List ℕ) (msg : UserMsg) : Type 0 where
  pub kind_is : kind_of msg ≡ kind
  pub spelled : (text ≡ fields_of (negsuc 0) msg) ⊎ (text ≡ fields_of (negsuc 1) msg)
  pub fit : IsFit msg
  pub ranges : HasRanges msg

pub either : {X : Type 0} → X ⊎ X → X
either (inl x) = x
either (inr x) = x

flat2 : (a b : List ℕ) → a ++ (b ++ []) ≡ a ++ b
flat2 a b = simp append-nil

-- ---- kind 3

abbrev UnregisterAppParts : List ℕ → UserMsg → Type 0
UnregisterAppParts = Then (AreBytes 4) (λ apid. Then (IsNumber 4) (λ pid. Ends (UnregisterApp apid pid)))

unregister_app_to : (text : List ℕ) (msg : UserMsg) → UnregisterAppParts text msg → IsKind 3 text msg
unregister_app_to text msg t =
    let u = t.back_spells in
    let joined : text ≡ t.first ++ (little_bytes 4 u.first ++ []) = cc in
    subst (λ (x : UserMsg). IsKind 3 text x) (sym u.back_spells.1) (record {
      kind_is = refl;
      spelled = inl (joined ∙ flat2 t.first (little_bytes 4 u.first));
      fit = tt;
      ranges = (t.front_spells.1, u.front_spells.1);
    })

unregister_app_from : (text : List ℕ) (msg : UserMsg) → IsKind 3 text msg → UnregisterAppParts text msg
unregister_app_from text (UnregisterApp apid pid) h = record {
  first = apid;
  front = apid;
  back = _;
  parts = either h.spelled ∙ sym (flat2 apid (uint32 pid));
  front_spells = (refl, h.ranges.0);
  back_spells = record { first = pid; front = uint32 pid; back = []; parts = refl; front_spells = (refl, h.ranges.1); back_spells = (refl, refl) };
}
unregister_app_from text msg h = absurd (omega (arith, h.kind_is))

pub unregister_app_reads : Reads (λ c. wait (unregister_app_at c)) (IsKind 3)
unfolding unregister_app_at
unregister_app_reads = reads_wait unregister_app_at (IsKind 3) (fields_as _ _ _ unregister_app_to unregister_app_from
    (fields_then _ _ _ _ (bytes_field 4) (λ apid. fields_then _ _ _ _ long_field (λ pid. fields_end (UnregisterApp apid pid)))))

-- ---- kind 5

abbrev UnregisterContextParts : List ℕ → UserMsg → Type 0
UnregisterContextParts = Then (AreBytes 4) (λ apid. Then (AreBytes 4) (λ ctid. Then (IsNumber 4) (λ pid. Ends (UnregisterContext apid ctid pid))))

unregister_context_to : (text : List ℕ) (msg : UserMsg) → UnregisterContextParts text msg → IsKind 5 text msg
unregister_context_to text msg t =
    let u = t.back_spells in
    let v = u.back_spells in
    let joined : text ≡ t.first ++ (u.first ++ (little_bytes 4 v.first ++ [])) = cc in
    subst (λ (x : UserMsg). IsKind 5 text x) (sym v.back_spells.1) (record {
      kind_is = refl;
      spelled = inl (joined ∙ flat3 t.first u.first (little_bytes 4 v.first));
      fit = tt;
      ranges = (t.front_spells.1, u.front_spells.1, v.front_spells.1);
    })

unregister_context_from : (text : List ℕ) (msg : UserMsg) → IsKind 5 text msg → UnregisterContextParts text msg
unregister_context_from text (UnregisterContext apid ctid pid) h = record {
  first = apid;
  front = apid;
  back = _;
  parts = either h.spelled ∙ sym (flat3 apid ctid (uint32 pid));
  front_spells = (refl, h.ranges.0);
  back_spells = record {
    first = ctid;
    front = ctid;
    back = _;
    parts = refl;
    front_spells = (refl, h.ranges.1);
    back_spells = record { first = pid; front = uint32 pid; back = []; parts = refl; front_spells = (refl, h.ranges.2); back_spells = (refl, refl) };
  };
}
unregister_context_from text msg h = absurd (omega (arith, h.kind_is))

pub unregister_context_reads : Reads (λ c. wait (unregister_context_at c)) (IsKind 5)
unfolding unregister_context_at
unregister_context_reads = reads_wait unregister_context_at (IsKind 5) (fields_as _ _ _ unregister_context_to unregister_context_from
    (fields_then _ _ _ _ (bytes_field 4) (λ apid. fields_then _ _ _ _ (bytes_field 4) (λ ctid. fields_then _ _ _ _ long_field (λ pid. fields_end (UnregisterContext apid ctid pid))))))

-- ---- kind 8

abbrev OverflowParts : List ℕ → UserMsg → Type 0
OverflowParts = Then (IsNumber 4) (λ counter. Then (AreBytes 4) (λ apid. Ends (Overflow counter apid)))

overflow_to : (text : List ℕ) (msg : UserMsg) → OverflowParts text msg → IsKind 8 text msg
overflow_to text msg t =
    let u = t.back_spells in
    let joined : text ≡ little_bytes 4 t.first ++ (u.first ++ []) = cc in
    subst (λ (x : UserMsg). IsKind 8 text x) (sym u.back_spells.1) (record {
      kind_is = refl;
      spelled = inl (joined ∙ flat2 (little_bytes 4 t.first) u.first);
      fit = tt;
      ranges = (t.front_spells.1, u.front_spells.1);
    })

overflow_from : (text : List ℕ) (msg : UserMsg) → IsKind 8 text msg → OverflowParts text msg
overflow_from text (Overflow counter apid) h = record {
  first = counter;
  front = uint32 counter;
  back = _;
  parts = either h.spelled ∙ sym (flat2 (uint32 counter) apid);
  front_spells = (refl, h.ranges.0);
  back_spells = record { first = apid; front = apid; back = []; parts = refl; front_spells = (refl, h.ranges.1); back_spells = (refl, refl) };
}
overflow_from text msg h = absurd (omega (arith, h.kind_is))

pub overflow_reads : Reads (λ c. wait (overflow_at c)) (IsKind 8)
unfolding overflow_at
overflow_reads = reads_wait overflow_at (IsKind 8) (fields_as _ _ _ overflow_to overflow_from
    (fields_then _ _ _ _ long_field (λ counter. fields_then _ _ _ _ (bytes_field 4) (λ apid. fields_end (Overflow counter apid)))))

-- ---- a text or a body

-- bytes of a known length, which is within the limit
abbrev pub IsLimited : ℕ → ℕ → List ℕ → List ℕ → Type 0
IsLimited limit len text x = (len ≤ limit) × AreBytes len text x

pub limited_reads : (limit len : ℕ) → Reads (λ c. limited_at limit len c) (IsLimited limit len)
unfolding limited_at
limited_reads limit len = reads_choice (ltb limit len) (λ c. Err (Bad (TooLong len))) (λ c. wait (bytes_at len c)) (IsLimited limit len)
    (λ above. reads_refuse (TooLong len) (IsLimited limit len) (λ text x p. omega (arith, ltb-true limit len above, p.0)))
    (λ within. reads_as _ (AreBytes len) (IsLimited limit len) (λ text x p. (ltb-false limit len within, p)) (λ text x p. p.1) (reads_wait _ _ (bytes_field len)))

-- ---- kind 2

pub text_behind : (front text : List ℕ) → front ++ (text ++ []) ≡ front ++ text
text_behind front text = ap (λ (x : List ℕ). front ++ x) (append-nil text)

abbrev RegisterAppParts : List ℕ → UserMsg → Type 0
RegisterAppParts = Then IsApp (λ app. Then (IsLimited 255 app.len) (λ text. Ends (RegisterApp app.apid app.pid text)))

register_app_to : (text : List ℕ) (msg : UserMsg) → RegisterAppParts text msg → IsKind 2 text msg
register_app_to text msg t =
    let u = t.back_spells in
    let app = t.first in
    let len : length u.first ≡ app.len = u.front_spells.1.1 in
    let joined : text ≡ app_front app ++ (u.first ++ []) = cc (t.front_spells.spelled) in
    let counted_text : text ≡ app_front (record { apid = app.apid; pid = app.pid; len = length u.first }) ++ u.first = rw len (joined ∙ text_behind (app_front app) u.first) in
    subst (λ (x : UserMsg). IsKind 2 text x) (sym u.back_spells.1) (record {
      kind_is = refl;
      spelled = inl counted_text;
      fit = omega (arith, u.front_spells.0, len);
      ranges = (t.front_spells.apid, t.front_spells.pid);
    })

register_app_from : (text : List ℕ) (msg : UserMsg) → IsKind 2 text msg → RegisterAppParts text msg
register_app_from text (RegisterApp apid pid body) h = record {
  first = record { apid = apid; pid = pid; len = length body };
  front = app_front (record { apid = apid; pid = pid; len = length body });
  back = body ++ [];
  parts = either h.spelled ∙ sym (text_behind (app_front (record { apid = apid; pid = pid; len = length body })) body);
  front_spells = record { spelled = refl; apid = h.ranges.0; pid = h.ranges.1; len = omega (arith, h.fit) };
  back_spells = record { first = body; front = body; back = []; parts = refl; front_spells = (h.fit, (refl, refl)); back_spells = (refl, refl) };
}
register_app_from text msg h = absurd (omega (arith, h.kind_is))

pub register_app_reads : Reads register_app_at (IsKind 2)
unfolding register_app_at
register_app_reads = reads_as _ _ _ register_app_to register_app_from
    (reads_then _ _ _ _ (reads_wait _ _ app_field) (λ app. reads_then _ _ _ _ (limited_reads 255 app.len) (λ text. reads_end (RegisterApp app.apid app.pid text))))

-- ---- kind 7

abbrev InjectionParts : List ℕ → UserMsg → Type 0
InjectionParts = Then IsService (λ service. Then (IsLimited 1390 service.len) (λ body. Ends (Injection service.position service.service body)))

injection_to : (text : List ℕ) (msg : UserMsg) → InjectionParts text msg → IsKind 7 text msg
injection_to text msg t =
    let u = t.back_spells in
    let service = t.first in
    let len : length u.first ≡ service.len = u.front_spells.1.1 in
    let joined : text ≡ service_front service ++ (u.first ++ []) = cc (t.front_spells.spelled) in
    let counted_body : text ≡ service_front (record { position = service.position; service = service.service; len = length u.first }) ++ u.first = rw len (joined ∙ text_behind (service_front service) u.first) in
    subst (λ (x : UserMsg). IsKind 7 text x) (sym u.back_spells.1) (record {
      kind_is = refl;
      spelled = inl counted_body;
      fit = omega (arith, u.front_spells.0, len);
      ranges = (t.front_spells.position, t.front_spells.service);
    })

injection_from : (text : List ℕ) (msg : UserMsg) → IsKind 7 text msg → InjectionParts text msg
injection_from text (Injection position service body) h = record {
  first = record { position = position; service = service; len = length body };
  front = service_front (record { position = position; service = service; len = length body });
  back = body ++ [];
  parts = either h.spelled ∙ sym (text_behind (service_front (record { position = position; service = service; len = length body })) body);
  front_spells = record { spelled = refl; position = h.ranges.0; service = h.ranges.1; len = omega (arith, h.fit) };
  back_spells = record { first = body; front = body; back = []; parts = refl; front_spells = (h.fit, (refl, refl)); back_spells = (refl, refl) };
}
injection_from text msg h = absurd (omega (arith, h.kind_is))

pub injection_reads : Reads injection_at (IsKind 7)
unfolding injection_at
injection_reads = reads_as _ _ _ injection_to injection_from
    (reads_then _ _ _ _ (reads_wait _ _ injection_field) (λ service. reads_then _ _ _ _ (limited_reads 1390 service.len) (λ body. reads_end (Injection service.position service.service body))))
