-- What is read as an argument is in the form that is read, and what is in that form is read.
use Rattle.std.proofs.Common.{◌≡◌, ℕ, ℤ, zero, suc, ◌-◌, Bool, true, false, List, [], ◌∷◌, ◌++◌, length, Option, Some, None, Result, Ok, Err, refl, sym, ap, subst, ◌∙◌, append_assoc, arith}
use Rattle.std.specs.Prelude.{is_some}
use Rattle.std.specs.Option.{ok_or}
use Rattle.std.specs.Int.{from_bool}
use Rattle.std.specs.Io.BufRead.{strip_last}
use Rattle.std.proofs.lemmas.Bool.Decides.{nat_tests}
use Rattle.std.proofs.lemmas.List.{append_cancel_right}
use Rattle.dl_bytes.specs.Bytes.{IsBytes}
use Rattle.dl_bytes.specs.declared.cursor.Order.{Order}
use Rattle.dl_bytes.specs.Number.{At, number_at}
use Rattle.dl_args.specs.declared.arg.Arg.{Arg}
use Rattle.dl_args.specs.declared.arg.Arg.TheVariants as arg
use Rattle.dl_args.specs.declared.arg.ArgFault.{ArgFault}
use Rattle.dl_args.specs.declared.arg.ArgFault.TheVariants.{Short, Unsupported, Value}
use Rattle.dl_args.specs.declared.type_info.Kind.{Kind}
use Rattle.dl_args.specs.declared.type_info.Kind.TheVariants as kind
use Rattle.dl_args.specs.declared.width.Width.{Width}
use Rattle.dl_args.specs.Width.{byte_count}
use Rattle.dl_args.specs.TypeInfo.{kind_of, has_name}
use Rattle.dl_args.specs.Fields.{name_at, names_at, named_bytes_at, unsigned_at, signed_at}
use Rattle.dl_args.specs.Reading.{◌>>=◌, truth_of, bool_at, sint_at, uint_at, text_arg_at, raw_at, kind_at, arg_at, args_at}
use Rattle.dl_args.specs.ReadForm.{◌before◌, Is, IsNumber, IsSigned, IsInfo, IsText, IsLength, IsName, AreNames, IsSpelling, AreSpellings}
use Rattle.dl_args.proofs.Parts.{TakesForm, TakesForm-then, at_front, number_takes, number_again, number_fits, one_byte, byte_number, bytes_after}
use Rattle.dl_args.proofs.FieldForms.{text_stripped, stripped_text, name_takes, name_again, names_take, names_again, named_bytes_take, named_bytes_again, unsigned_takes, unsigned_again, signed_takes, signed_again}
use Rattle.dl_args.proofs.InfoForms.{kind_says, kind_again}

-- ---- steps that did not fail

part_ok : {A B : Type 0} (o : Option A) (fault : ArgFault) (f : A → Result B ArgFault) (y : B) → (ok_or o fault >>= f) ≡ Ok y → (x : A) × (o ≡ Some x) × (f x ≡ Ok y)
part_ok (Some x) fault f y e = (x, refl, e)
part_ok None fault f y e = absurd cc

bind_ok : {A B : Type 0} (r : Result A ArgFault) (f : A → Result B ArgFault) (y : B) → (r >>= f) ≡ Ok y → (x : A) × (r ≡ Ok x) × (f x ≡ Ok y)
bind_ok (Ok x) f y e = (x, refl, e)
bind_ok (Err d) f y e = absurd cc

abbrev done : {A : Type 0} → A → Result A ArgFault
done x = Ok x

ok_is : {A : Type 0} (x y : A) → done x ≡ done y → x ≡ y
ok_is x y e = cc

-- the type info of what has a name or not, as it was found
pub named_as : (order : Order) (k : Kind) (named found : Bool) (c d : At) → found ≡ named → TakesForm order (IsInfo order k named) c d → TakesForm order (IsInfo order k found) c d
named_as order k named found c d e t = subst (λ (b : Bool). TakesForm order (IsInfo order k b) c d) (sym e) t

-- ---- what is read of each kind, behind its type info

truth_is : (byte : ℕ) (value : Bool) → truth_of byte ≡ Some value → byte ≡ from_bool value
truth_is byte false e = grind (arith, nat_tests)
truth_is byte true e = grind (arith, nat_tests)

truth_again : (value : Bool) → truth_of (from_bool value) ≡ Some value
truth_again false = refl
truth_again true = refl

bool_takes : (order : Order) (place : ℕ) (named : Bool) (b c : At) (x : Arg × At) → TakesForm order (IsInfo order kind.Bool named) b c → bool_at place named c ≡ Ok x → TakesForm order (IsSpelling order x.0) b x.1
unfolding bool_at
bool_takes order place named b c x t e =
    let n = part_ok (name_at named c) (Short place) (λ name. ok_or (number_at 1 name.1) (Short place) >>= λ byte. ok_or (truth_of byte.0) (Value place) >>= λ value. Ok (arg.Bool name.0 value, byte.1)) x e in
    let d = part_ok (number_at 1 n.0.1) (Short place) (λ byte. ok_or (truth_of byte.0) (Value place) >>= λ value. Ok (arg.Bool n.0.0 value, byte.1)) x n.2 in
    let v = part_ok (truth_of d.0.0) (Value place) (λ value. Ok (arg.Bool n.0.0 value, d.0.1)) x d.2 in
    let t1 = name_takes order named c n.0 t.same n.1 in
    let t2 = number_takes order 1 n.0.1 d.0 t1.0.same d.1 in
    let byte : TakesForm order (Is (from_bool v.0 ∷ [])) n.0.1 d.0.1 = record { front = t2.front; form = one_byte order d.0.0 t2.front t2.form ∙ ap (λ (k : ℕ). k ∷ []) (truth_is d.0.0 v.0 v.1); parts = t2.parts; same = t2.same } in
    let all = TakesForm-then order b c d.0.1 (named_as order kind.Bool named (is_some n.0.0) b c t1.1 t) (TakesForm-then order c n.0.1 d.0.1 t1.0 byte) in
    subst (λ (y : Arg × At). TakesForm order (IsSpelling order y.0) b y.1) (ok_is (arg.Bool n.0.0 v.0, d.0.1) x v.2) all

bool_again : (order : Order) (place : ℕ) (name : Option (List ℕ)) (value : Bool) (front rest : List ℕ) → (IsName order name before Is (from_bool value ∷ [])) front → bool_at place (is_some name) (at_front order (front ++ rest)) ≡ Ok (arg.Bool name value, at_front order rest)
unfolding bool_at
bool_again order place name value front rest form =
    let regrouped : front ++ rest ≡ form.front ++ ((from_bool value ∷ []) ++ rest) = ap (λ (f : List ℕ). f ++ rest) (form.parts ∙ ap (λ (f : List ℕ). form.front ++ f) form.second) ∙ append_assoc form.front (from_bool value ∷ []) rest in
    ap (λ (r : List ℕ). bool_at place (is_some name) (at_front order r)) regrouped
    ∙ rw (name_again order name form.front ((from_bool value ∷ []) ++ rest) form.first, number_again order 1 (from_bool value) (from_bool value ∷ []) rest (byte_number order (from_bool value)), truth_again value) refl

sint_takes : (order : Order) (width : Width) (place : ℕ) (named : Bool) (b c : At) (x : Arg × At) → TakesForm order (IsInfo order (kind.Sint width) named) b c → sint_at width place named c ≡ Ok x → TakesForm order (IsSpelling order x.0) b x.1
unfolding sint_at
sint_takes order width place named b c x t e =
    let n = part_ok (names_at named c) (Short place) (λ names. ok_or (signed_at width names.1) (Short place) >>= λ value. Ok (arg.Sint names.0.0 names.0.1 width value.0, value.1)) x e in
    let v = part_ok (signed_at width n.0.1) (Short place) (λ value. Ok (arg.Sint n.0.0.0 n.0.0.1 width value.0, value.1)) x n.2 in
    let t1 = names_take order named c n.0 t.same n.1 in
    let t2 = signed_takes order width n.0.1 v.0 t1.0.same v.1 in
    let all = TakesForm-then order b c v.0.1 (named_as order (kind.Sint width) named (is_some n.0.0.0) b c t1.1 t) (TakesForm-then order c n.0.1 v.0.1 t1.0 t2) in
    subst (λ (y : Arg × At). TakesForm order (IsSpelling order y.0) b y.1) (ok_is (arg.Sint n.0.0.0 n.0.0.1 width v.0.0, v.0.1) x v.2) all

uint_takes : (order : Order) (width : Width) (place : ℕ) (named : Bool) (b c : At) (x : Arg × At) → TakesForm order (IsInfo order (kind.Uint width) named) b c → uint_at width place named c ≡ Ok x → TakesForm order (IsSpelling order x.0) b x.1
unfolding uint_at
uint_takes order width place named b c x t e =
    let n = part_ok (names_at named c) (Short place) (λ names. ok_or (unsigned_at width names.1) (Short place) >>= λ value. Ok (arg.Uint names.0.0 names.0.1 width value.0, value.1)) x e in
    let v = part_ok (unsigned_at width n.0.1) (Short place) (λ value. Ok (arg.Uint n.0.0.0 n.0.0.1 width value.0, value.1)) x n.2 in
    let t1 = names_take order named c n.0 t.same n.1 in
    let t2 = unsigned_takes order width n.0.1 v.0 t1.0.same v.1 in
    let all = TakesForm-then order b c v.0.1 (named_as order (kind.Uint width) named (is_some n.0.0.0) b c t1.1 t) (TakesForm-then order c n.0.1 v.0.1 t1.0 t2) in
    subst (λ (y : Arg × At). TakesForm order (IsSpelling order y.0) b y.1) (ok_is (arg.Uint n.0.0.0 n.0.0.1 width v.0.0, v.0.1) x v.2) all

text_arg_takes : (order : Order) (utf8 : Bool) (place : ℕ) (named : Bool) (b c : At) (x : Arg × At) → TakesForm order (IsInfo order (kind.Text utf8) named) b c → text_arg_at utf8 place named c ≡ Ok x → TakesForm order (IsSpelling order x.0) b x.1
unfolding text_arg_at
text_arg_takes order utf8 place named b c x t e =
    let n = part_ok (named_bytes_at named c) (Short place) (λ fields. Ok (arg.Text fields.0.0 (strip_last 0 fields.0.1) utf8, fields.1)) x e in
    let t1 = named_bytes_take order named c n.0 t.same n.1 in
    let all = TakesForm-then order b c n.0.1 (named_as order (kind.Text utf8) named (is_some n.0.0.0) b c t1.1 t) t1.0 in
    let made : TakesForm order (IsSpelling order (arg.Text n.0.0.0 (strip_last 0 n.0.0.1) utf8)) b n.0.1 = record { front = all.front; form = (n.0.0.1, text_stripped n.0.0.1, all.form); parts = all.parts; same = all.same } in
    subst (λ (y : Arg × At). TakesForm order (IsSpelling order y.0) b y.1) (ok_is (arg.Text n.0.0.0 (strip_last 0 n.0.0.1) utf8, n.0.1) x n.2) made

raw_takes : (order : Order) (place : ℕ) (named : Bool) (b c : At) (x : Arg × At) → TakesForm order (IsInfo order kind.Raw named) b c → raw_at place named c ≡ Ok x → TakesForm order (IsSpelling order x.0) b x.1
unfolding raw_at
raw_takes order place named b c x t e =
    let n = part_ok (named_bytes_at named c) (Short place) (λ fields. Ok (arg.Raw fields.0.0 fields.0.1, fields.1)) x e in
    let t1 = named_bytes_take order named c n.0 t.same n.1 in
    let all = TakesForm-then order b c n.0.1 (named_as order kind.Raw named (is_some n.0.0.0) b c t1.1 t) t1.0 in
    subst (λ (y : Arg × At). TakesForm order (IsSpelling order y.0) b y.1) (ok_is (arg.Raw n.0.0.0 n.0.0.1, n.0.1) x n.2) all

kind_takes : (order : Order) (k : Kind) (place : ℕ) (named : Bool) (b c : At) (x : Arg × At) → TakesForm order (IsInfo order k named) b c → kind_at k place named c ≡ Ok x → TakesForm order (IsSpelling order x.0) b x.1
unfolding kind_at
kind_takes order kind.Bool place named b c x t e = bool_takes order place named b c x t e
kind_takes order (kind.Sint width) place named b c x t e = sint_takes order width place named b c x t e
kind_takes order (kind.Uint width) place named b c x t e = uint_takes order width place named b c x t e
kind_takes order (kind.Text utf8) place named b c x t e = text_arg_takes order utf8 place named b c x t e
kind_takes order kind.Raw place named b c x t e = raw_takes order place named b c x t e

-- ---- an argument

pub arg_takes : (order : Order) (place : ℕ) (c : At) (x : Arg × At) → c.order ≡ order → IsBytes c.rest → arg_at place c ≡ Ok x → TakesForm order (IsSpelling order x.0) c x.1
unfolding arg_at
arg_takes order place c x same small e =
    let i = part_ok (number_at 4 c) (Short place) (λ info. ok_or (kind_of info.0) (Unsupported place info.0) >>= λ k. kind_at k place (has_name info.0) info.1) x e in
    let k = part_ok (kind_of i.0.0) (Unsupported place i.0.0) (λ k. kind_at k place (has_name i.0.0) i.0.1) x i.2 in
    let t = number_takes order 4 c i.0 same i.1 in
    let info : TakesForm order (IsInfo order k.0 (has_name i.0.0)) c i.0.1 = record { front = t.front; form = record { info = i.0.0; says = kind_says i.0.0 k.0 (number_fits 4 c i.0 small i.1) k.1; number = t.form }; parts = t.parts; same = t.same } in
    kind_takes order k.0 place (has_name i.0.0) c i.0.1 x info k.2

info_again : (order : Order) (place : ℕ) (k : Kind) (named : Bool) (front rest : List ℕ) → IsInfo order k named front → arg_at place (at_front order (front ++ rest)) ≡ kind_at k place named (at_front order rest)
unfolding arg_at
info_again order place k named front rest form =
    let known = kind_again k named form.info form.says in
    rw (number_again order 4 form.info front rest form.number, known.0, known.1) refl

-- what stands behind a front, with what follows
regrouped : (front head back rest : List ℕ) → front ≡ head ++ back → front ++ rest ≡ head ++ (back ++ rest)
regrouped front head back rest e = ap (λ (f : List ℕ). f ++ rest) e ∙ append_assoc head back rest

-- the argument behind a type info
behind : (order : Order) (place : ℕ) (k : Kind) (named : Bool) (Fields : List ℕ → Type 0) (a : Arg) (front rest : List ℕ)
    → ((fields : List ℕ) → Fields fields → kind_at k place named (at_front order (fields ++ rest)) ≡ Ok (a, at_front order rest))
    → (IsInfo order k named before Fields) front → arg_at place (at_front order (front ++ rest)) ≡ Ok (a, at_front order rest)
behind order place k named Fields a front rest fields_again form =
    ap (λ (r : List ℕ). arg_at place (at_front order r)) (regrouped front form.front form.back rest form.parts)
    ∙ info_again order place k named form.front (form.back ++ rest) form.first ∙ fields_again form.back form.second

bool_fields : (order : Order) (place : ℕ) (name : Option (List ℕ)) (value : Bool) (rest fields : List ℕ) → (IsName order name before Is (from_bool value ∷ [])) fields
    → kind_at kind.Bool place (is_some name) (at_front order (fields ++ rest)) ≡ Ok (arg.Bool name value, at_front order rest)
unfolding kind_at
bool_fields order place name value rest fields form = bool_again order place name value fields rest form

sint_fields : (order : Order) (place : ℕ) (name unit : Option (List ℕ)) (width : Width) (value : ℤ) (rest fields : List ℕ) → (AreNames order name unit before IsSigned order width value) fields
    → kind_at (kind.Sint width) place (is_some name) (at_front order (fields ++ rest)) ≡ Ok (arg.Sint name unit width value, at_front order rest)
unfolding kind_at sint_at
sint_fields order place name unit width value rest fields form =
    ap (λ (r : List ℕ). sint_at width place (is_some name) (at_front order r)) (regrouped fields form.front form.back rest form.parts)
    ∙ rw (names_again order name unit form.front (form.back ++ rest) form.first, signed_again order width value form.back rest form.second) refl

uint_fields : (order : Order) (place : ℕ) (name unit : Option (List ℕ)) (width : Width) (value : ℕ) (rest fields : List ℕ) → (AreNames order name unit before IsNumber order (byte_count width) value) fields
    → kind_at (kind.Uint width) place (is_some name) (at_front order (fields ++ rest)) ≡ Ok (arg.Uint name unit width value, at_front order rest)
unfolding kind_at uint_at
uint_fields order place name unit width value rest fields form =
    ap (λ (r : List ℕ). uint_at width place (is_some name) (at_front order r)) (regrouped fields form.front form.back rest form.parts)
    ∙ rw (names_again order name unit form.front (form.back ++ rest) form.first, unsigned_again order width value form.back rest form.second) refl

text_fields : (order : Order) (place : ℕ) (name : Option (List ℕ)) (text field : List ℕ) (utf8 : Bool) (rest fields : List ℕ) → IsText text field → (IsLength order field before IsName order name before Is field) fields
    → kind_at (kind.Text utf8) place (is_some name) (at_front order (fields ++ rest)) ≡ Ok (arg.Text name text utf8, at_front order rest)
unfolding kind_at text_arg_at
text_fields order place name text field utf8 rest fields is_text form = rw (named_bytes_again order name field fields rest form, stripped_text text field is_text) refl

raw_fields : (order : Order) (place : ℕ) (name : Option (List ℕ)) (raw : List ℕ) (rest fields : List ℕ) → (IsLength order raw before IsName order name before Is raw) fields
    → kind_at kind.Raw place (is_some name) (at_front order (fields ++ rest)) ≡ Ok (arg.Raw name raw, at_front order rest)
unfolding kind_at raw_at
raw_fields order place name raw rest fields form = rw (named_bytes_again order name raw fields rest form) refl

pub arg_again : (order : Order) (place : ℕ) (a : Arg) (front rest : List ℕ) → IsSpelling order a front → arg_at place (at_front order (front ++ rest)) ≡ Ok (a, at_front order rest)
arg_again order place (arg.Bool name value) front rest form = behind order place kind.Bool (is_some name) (IsName order name before Is (from_bool value ∷ [])) (arg.Bool name value) front rest (bool_fields order place name value rest) form
arg_again order place (arg.Sint name unit width value) front rest form = behind order place (kind.Sint width) (is_some name) (AreNames order name unit before IsSigned order width value) (arg.Sint name unit width value) front rest (sint_fields order place name unit width value rest) form
arg_again order place (arg.Uint name unit width value) front rest form = behind order place (kind.Uint width) (is_some name) (AreNames order name unit before IsNumber order (byte_count width) value) (arg.Uint name unit width value) front rest (uint_fields order place name unit width value rest) form
arg_again order place (arg.Text name text utf8) front rest form = behind order place (kind.Text utf8) (is_some name) (IsLength order form.0 before IsName order name before Is form.0) (arg.Text name text utf8) front rest (λ fields. text_fields order place name text form.0 utf8 rest fields form.1) form.2
arg_again order place (arg.Raw name raw) front rest form = behind order place kind.Raw (is_some name) (IsLength order raw before IsName order name before Is raw) (arg.Raw name raw) front rest (raw_fields order place name raw rest) form

-- ---- all arguments

pub args_take : (order : Order) (whole count : ℕ) (c : At) (args : List Arg) → c.order ≡ order → IsBytes c.rest → args_at whole count c ≡ Ok args
    → (front : List ℕ) × (rest : List ℕ) × AreSpellings order args front × (c.rest ≡ front ++ rest) × (length args ≡ count)
unfolding args_at
args_take order whole zero c args same small e =
    subst (λ (xs : List Arg). (front : List ℕ) × (rest : List ℕ) × AreSpellings order xs front × (c.rest ≡ front ++ rest) × (length xs ≡ 0)) (ok_is [] args e) ([], c.rest, refl, refl, refl)
args_take order whole (suc count) c args same small e =
    let a = bind_ok (arg_at (whole - length c.rest) c) (λ first. args_at whole count first.1 >>= λ others. Ok (first.0 ∷ others)) args e in
    let b = bind_ok (args_at whole count a.0.1) (λ others. Ok (a.0.0 ∷ others)) args a.2 in
    let t = arg_takes order (whole - length c.rest) c a.0 same small a.1 in
    let others = args_take order whole count a.0.1 b.0 t.same (bytes_after t.front a.0.1.rest (subst IsBytes t.parts small)) b.1 in
    let parts : c.rest ≡ (t.front ++ others.0) ++ others.1 = t.parts ∙ ap (λ (f : List ℕ). t.front ++ f) others.3 ∙ sym (append_assoc t.front others.0 others.1) in
    let form : AreSpellings order (a.0.0 ∷ b.0) (t.front ++ others.0) = record { front = t.front; back = others.0; first = t.form; second = others.2; parts = refl } in
    subst (λ (xs : List Arg). (front : List ℕ) × (rest : List ℕ) × AreSpellings order xs front × (c.rest ≡ front ++ rest) × (length xs ≡ suc count)) (ok_is (a.0.0 ∷ b.0) args b.2) (t.front ++ others.0, others.1, form, parts, ap suc others.4)

pub args_again : (order : Order) (whole : ℕ) (args : List Arg) (front rest : List ℕ) → AreSpellings order args front → args_at whole (length args) (at_front order (front ++ rest)) ≡ Ok args
unfolding args_at
args_again order whole [] front rest form = refl
args_again order whole (a ∷ others) front rest form =
    let place = whole - length (front ++ rest) in
    let first : arg_at place (at_front order (front ++ rest)) ≡ Ok (a, at_front order (form.back ++ rest)) = ap (λ (r : List ℕ). arg_at place (at_front order r)) (regrouped front form.front form.back rest form.parts) ∙ arg_again order place a form.front (form.back ++ rest) form.first in
    rw (first, args_again order whole others form.back rest form.second) refl

-- no spelling of an argument begins another one
pub one_reading : (order : Order) (a b : Arg) (s t x y : List ℕ) → IsSpelling order a s → IsSpelling order b t → s ++ x ≡ t ++ y → (a ≡ b) × (s ≡ t)
one_reading order a b s t x y first second same =
    let both : done (a, at_front order x) ≡ done (b, at_front order y) = sym (arg_again order 0 a s x first) ∙ ap (λ (r : List ℕ). arg_at 0 (at_front order r)) same ∙ arg_again order 0 b t y second in
    let pair = ok_is (a, at_front order x) (b, at_front order y) both in
    let rests : x ≡ y = ap (λ (p : Arg × At). p.1.rest) pair in
    (ap (λ (p : Arg × At). p.0) pair, append_cancel_right s t y (ap (λ (r : List ℕ). s ++ r) (sym rests) ∙ same))
