-- The readers of the fields of a known length in front of a text, a body or a level that is still to be judged.
use Rattle.std.proofs.Common.{◌≡◌, ℕ, List, [], ◌++◌, refl, sym, ap, subst, ◌∙◌, append_assoc}
use Rattle.std.proofs.lemmas.List.{append-nil}
use Rattle.byteorder.specs.Endian.{little_bytes}
use Rattle.dl_user.specs.declared.fields.AppFields.{AppFields}
use Rattle.dl_user.specs.declared.fields.ContextFields.{ContextFields}
use Rattle.dl_user.specs.declared.fields.SettingFields.{SettingFields}
use Rattle.dl_user.specs.declared.fields.ServiceFields.{ServiceFields}
use Rattle.dl_user.specs.Layout.{uint32, signed}
use Rattle.dl_user.specs.Fields.{app_at, context_at, setting_at, service_at}
use Rattle.dl_user.specs.Fronts.{IsApp, IsContext, IsSetting, IsService}
use Rattle.dl_user.proofs.Readers.{Then}
use Rattle.dl_user.proofs.FieldReaders.{Fields, fields_then, fields_as, fields_end}
use Rattle.dl_user.proofs.Numbers.{AreBytes, IsNumber, IsSigned, bytes_field, long_field, byte_field, signed_field, lone_byte}

-- the end of a group: nothing more, and this value
abbrev pub Ends : {A : Type 0} → A → List ℕ → A → Type 0
Ends value text x = (text ≡ []) × (x ≡ value)

pub flat3 : (a b c : List ℕ) → a ++ (b ++ (c ++ [])) ≡ a ++ b ++ c
flat3 a b c = simp (append_assoc, append-nil)

flat7 : (a b c d e f g : List ℕ) → a ++ (b ++ (c ++ (d ++ (e ++ (f ++ (g ++ [])))))) ≡ a ++ b ++ c ++ d ++ e ++ f ++ g
flat7 a b c d e f g = simp (append_assoc, append-nil)

-- ---- kind 2

abbrev AppParts : List ℕ → AppFields → Type 0
AppParts = Then (AreBytes 4) (λ apid. Then (IsNumber 4) (λ pid. Then (IsNumber 4) (λ len. Ends (record { apid = apid; pid = pid; len = len }))))

app_parts : Fields app_at AppParts
unfolding app_at
app_parts = fields_then _ _ _ _ (bytes_field 4) (λ apid. fields_then _ _ _ _ long_field (λ pid. fields_then _ _ _ _ long_field (λ len. fields_end (record { apid = apid; pid = pid; len = len }))))

app_to : (text : List ℕ) (app : AppFields) → AppParts text app → IsApp text app
app_to text app t =
    let u = t.back_spells in
    let v = u.back_spells in
    let joined : text ≡ t.first ++ (little_bytes 4 u.first ++ (little_bytes 4 v.first ++ [])) = cc in
    subst (λ (x : AppFields). IsApp text x) (sym v.back_spells.1) (record { spelled = joined ∙ flat3 t.first (little_bytes 4 u.first) (little_bytes 4 v.first); apid = t.front_spells.1; pid = u.front_spells.1; len = v.front_spells.1 })

app_from : (text : List ℕ) (app : AppFields) → IsApp text app → AppParts text app
app_from text app h =
    record {
      first = app.apid;
      front = app.apid;
      back = _;
      parts = h.spelled ∙ sym (flat3 app.apid (little_bytes 4 app.pid) (little_bytes 4 app.len));
      front_spells = (refl, h.apid);
      back_spells =
          record {
            first = app.pid;
            front = little_bytes 4 app.pid;
            back = _;
            parts = refl;
            front_spells = (refl, h.pid);
            back_spells =
                record {
                  first = app.len;
                  front = little_bytes 4 app.len;
                  back = [];
                  parts = refl;
                  front_spells = (refl, h.len);
                  back_spells =
                      (refl, refl);
                };
          };
    }

pub app_field : Fields app_at IsApp
app_field = fields_as _ _ _ app_to app_from app_parts

-- ---- kind 4

abbrev ContextParts : List ℕ → ContextFields → Type 0
ContextParts = Then (AreBytes 4) (λ apid. Then (AreBytes 4) (λ ctid. Then (IsNumber 4) (λ position. Then IsSigned (λ level. Then IsSigned (λ trace. Then (IsNumber 4) (λ pid. Then (IsNumber 4) (λ len. Ends (record { apid = apid; ctid = ctid; position = position; level = level; trace = trace; pid = pid; len = len }))))))))

context_parts : Fields context_at ContextParts
unfolding context_at
context_parts = fields_then _ _ _ _ (bytes_field 4) (λ apid. fields_then _ _ _ _ (bytes_field 4) (λ ctid. fields_then _ _ _ _ long_field (λ position. fields_then _ _ _ _ signed_field (λ level. fields_then _ _ _ _ signed_field (λ trace. fields_then _ _ _ _ long_field (λ pid. fields_then _ _ _ _ long_field (λ len. fields_end (record { apid = apid; ctid = ctid; position = position; level = level; trace = trace; pid = pid; len = len }))))))))

context_to : (text : List ℕ) (context : ContextFields) → ContextParts text context → IsContext text context
context_to text context t =
    let u = t.back_spells in
    let v = u.back_spells in
    let w = v.back_spells in
    let x = w.back_spells in
    let y = x.back_spells in
    let z = y.back_spells in
    let joined : text ≡ t.first ++ (u.first ++ (little_bytes 4 v.first ++ (signed w.first ++ (signed x.first ++ (little_bytes 4 y.first ++ (little_bytes 4 z.first ++ [])))))) = cc in
    subst (λ (x : ContextFields). IsContext text x) (sym z.back_spells.1) (record { spelled = joined ∙ flat7 t.first u.first (little_bytes 4 v.first) (signed w.first) (signed x.first) (little_bytes 4 y.first) (little_bytes 4 z.first); apid = t.front_spells.1; ctid = u.front_spells.1; position = v.front_spells.1; level = w.front_spells.1; trace = x.front_spells.1; pid = y.front_spells.1; len = z.front_spells.1 })

context_from : (text : List ℕ) (context : ContextFields) → IsContext text context → ContextParts text context
context_from text context h =
    record {
      first = context.apid;
      front = context.apid;
      back = _;
      parts = h.spelled ∙ sym (flat7 context.apid context.ctid (little_bytes 4 context.position) (signed context.level) (signed context.trace) (little_bytes 4 context.pid) (little_bytes 4 context.len));
      front_spells = (refl, h.apid);
      back_spells =
          record {
            first = context.ctid;
            front = context.ctid;
            back = _;
            parts = refl;
            front_spells = (refl, h.ctid);
            back_spells =
                record {
                  first = context.position;
                  front = little_bytes 4 context.position;
                  back = _;
                  parts = refl;
                  front_spells = (refl, h.position);
                  back_spells =
                      record {
                        first = context.level;
                        front = signed context.level;
                        back = _;
                        parts = refl;
                        front_spells = (refl, h.level);
                        back_spells =
                            record {
                              first = context.trace;
                              front = signed context.trace;
                              back = _;
                              parts = refl;
                              front_spells = (refl, h.trace);
                              back_spells =
                                  record {
                                    first = context.pid;
                                    front = little_bytes 4 context.pid;
                                    back = _;
                                    parts = refl;
                                    front_spells = (refl, h.pid);
                                    back_spells =
                                        record {
                                          first = context.len;
                                          front = little_bytes 4 context.len;
                                          back = [];
                                          parts = refl;
                                          front_spells = (refl, h.len);
                                          back_spells =
                                              (refl, refl);
                                        };
                                  };
                            };
                      };
                };
          };
    }

pub context_field : Fields context_at IsContext
context_field = fields_as _ _ _ context_to context_from context_parts

-- ---- kind 6

abbrev SettingParts : List ℕ → SettingFields → Type 0
SettingParts = Then (IsNumber 1) (λ level. Then IsSigned (λ trace. Then (IsNumber 4) (λ position. Ends (record { level = level; trace = trace; position = position }))))

setting_parts : Fields setting_at SettingParts
unfolding setting_at
setting_parts = fields_then _ _ _ _ byte_field (λ level. fields_then _ _ _ _ signed_field (λ trace. fields_then _ _ _ _ long_field (λ position. fields_end (record { level = level; trace = trace; position = position }))))

setting_to : (text : List ℕ) (setting : SettingFields) → SettingParts text setting → IsSetting text setting
setting_to text setting t =
    let u = t.back_spells in
    let v = u.back_spells in
    let joined : text ≡ little_bytes 1 t.first ++ (signed u.first ++ (little_bytes 4 v.first ++ [])) = cc in
    subst (λ (x : SettingFields). IsSetting text x) (sym v.back_spells.1) (record { spelled = joined ∙ flat3 (little_bytes 1 t.first) (signed u.first) (little_bytes 4 v.first) ∙ ap (λ (x : List ℕ). x ++ signed u.first ++ little_bytes 4 v.first) (lone_byte t.first t.front_spells.1); level = t.front_spells.1; trace = u.front_spells.1; position = v.front_spells.1 })

setting_from : (text : List ℕ) (setting : SettingFields) → IsSetting text setting → SettingParts text setting
setting_from text setting h =
    record {
      first = setting.level;
      front = little_bytes 1 setting.level;
      back = _;
      parts = h.spelled ∙ ap (λ (x : List ℕ). x ++ signed setting.trace ++ uint32 setting.position) (sym (lone_byte setting.level h.level)) ∙ sym (flat3 (little_bytes 1 setting.level) (signed setting.trace) (little_bytes 4 setting.position));
      front_spells = (refl, h.level);
      back_spells =
          record {
            first = setting.trace;
            front = signed setting.trace;
            back = _;
            parts = refl;
            front_spells = (refl, h.trace);
            back_spells =
                record {
                  first = setting.position;
                  front = little_bytes 4 setting.position;
                  back = [];
                  parts = refl;
                  front_spells = (refl, h.position);
                  back_spells =
                      (refl, refl);
                };
          };
    }

pub setting_field : Fields setting_at IsSetting
setting_field = fields_as _ _ _ setting_to setting_from setting_parts

-- ---- kind 7

abbrev ServiceParts : List ℕ → ServiceFields → Type 0
ServiceParts = Then (IsNumber 4) (λ position. Then (IsNumber 4) (λ service. Then (IsNumber 4) (λ len. Ends (record { position = position; service = service; len = len }))))

injection_parts : Fields service_at ServiceParts
unfolding service_at
injection_parts = fields_then _ _ _ _ long_field (λ position. fields_then _ _ _ _ long_field (λ service. fields_then _ _ _ _ long_field (λ len. fields_end (record { position = position; service = service; len = len }))))

injection_to : (text : List ℕ) (injection : ServiceFields) → ServiceParts text injection → IsService text injection
injection_to text injection t =
    let u = t.back_spells in
    let v = u.back_spells in
    let joined : text ≡ little_bytes 4 t.first ++ (little_bytes 4 u.first ++ (little_bytes 4 v.first ++ [])) = cc in
    subst (λ (x : ServiceFields). IsService text x) (sym v.back_spells.1) (record { spelled = joined ∙ flat3 (little_bytes 4 t.first) (little_bytes 4 u.first) (little_bytes 4 v.first); position = t.front_spells.1; service = u.front_spells.1; len = v.front_spells.1 })

injection_from : (text : List ℕ) (injection : ServiceFields) → IsService text injection → ServiceParts text injection
injection_from text injection h =
    record {
      first = injection.position;
      front = little_bytes 4 injection.position;
      back = _;
      parts = h.spelled ∙ sym (flat3 (little_bytes 4 injection.position) (little_bytes 4 injection.service) (little_bytes 4 injection.len));
      front_spells = (refl, h.position);
      back_spells =
          record {
            first = injection.service;
            front = little_bytes 4 injection.service;
            back = _;
            parts = refl;
            front_spells = (refl, h.service);
            back_spells =
                record {
                  first = injection.len;
                  front = little_bytes 4 injection.len;
                  back = [];
                  parts = refl;
                  front_spells = (refl, h.len);
                  back_spells =
                      (refl, refl);
                };
          };
    }

pub injection_field : Fields service_at IsService
injection_field = fields_as _ _ _ injection_to injection_from injection_parts
