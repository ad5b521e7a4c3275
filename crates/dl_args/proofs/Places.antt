-- Where a payload has a fault, and which: what the walk over its arguments finds is told by their forms.
use Rattle.std.proofs.Common.{◌≡◌, ℕ, zero, suc, ◌-◌, ◌<◌, ◌≤◌, Bool, false, List, [], ◌∷◌, ◌++◌, length, take, drop, Option, Some, None, Result, Ok, Err, refl, sym, ap, subst, ◌∙◌, append_assoc, arith, inl, inr}
use Rattle.std.specs.Prelude.{◌⊎◌, is_some, IfErr}
use Rattle.std.specs.Option.{ok_or}
use Rattle.std.specs.Io.BufRead.{strip_last}
use Rattle.std.proofs.lemmas.Bool.{cases_lt, le-ltb}
use Rattle.std.proofs.lemmas.Bool.Decides.{nat_tests}
use Rattle.std.proofs.lemmas.List.{length-append, take_at, drop_at, take-append-drop, length-drop, nil_from_length, take-append-le}
use Rattle.dl_bytes.specs.Bytes.{IsBytes}
use Rattle.dl_bytes.specs.declared.cursor.Order.{Order}
use Rattle.dl_bytes.specs.declared.cursor.Order.TheVariants.{Little, Big}
use Rattle.dl_bytes.specs.Number.{At, number_at}
use Rattle.dl_bytes.proofs.Bytes.{IsBytes-append}
use Rattle.dl_args.specs.declared.arg.Arg.{Arg}
use Rattle.dl_args.specs.declared.arg.Arg.TheVariants as arg
use Rattle.dl_args.specs.declared.arg.ArgFault.{ArgFault}
use Rattle.dl_args.specs.declared.arg.ArgFault.TheVariants.{Short, Unsupported, Value, OutOfMemory}
use Rattle.dl_args.specs.declared.type_info.Kind.{Kind}
use Rattle.dl_args.specs.declared.type_info.Kind.TheVariants as kind
use Rattle.dl_args.specs.declared.width.Width.{Width}
use Rattle.dl_args.specs.TypeInfo.{kind_of, has_name}
use Rattle.dl_args.specs.Fields.{name_at, names_at, named_bytes_at, unsigned_at, signed_at}
use Rattle.dl_args.specs.Reading.{◌>>=◌, truth_of, bool_at, sint_at, uint_at, text_arg_at, raw_at, kind_at, arg_at, args_at, arguments_of, ReturnsAll}
use Rattle.dl_args.specs.ReadForm.{Is, IsInfo, IsSpelling, AreSpellings}
use Rattle.dl_args.specs.Refusals.{IsReached, BeginsArgument, SaysNoKind, HasOtherValue, IsFault}
use Rattle.dl_args.proofs.Parts.{TakesForm, TakesForm-then, at_front, number_takes, number_fits, one_byte, bytes_after}
use Rattle.dl_args.proofs.FieldForms.{name_takes}
use Rattle.dl_args.proofs.InfoForms.{kind_says, kind_again}
use Rattle.dl_args.proofs.ArgForms.{arg_takes, arg_again, named_as}
use Rattle.dl_args.proofs.Growth.{onto, onto_twice, Grows, number_grows, name_grows, names_grow, named_bytes_grow, unsigned_grows, signed_grows}

-- ---- where a step failed

bind_err : {A B : Type 0} (r : Result A ArgFault) (f : A → Result B ArgFault) (fault : ArgFault) → (r >>= f) ≡ Err fault
    → (r ≡ Err fault) ⊎ ((x : A) × (r ≡ Ok x) × (f x ≡ Err fault))
bind_err (Ok x) f fault e = inr (x, refl, e)
bind_err (Err d) f fault e = inl cc

part_err : {A B : Type 0} (o : Option A) (d : ArgFault) (f : A → Result B ArgFault) (fault : ArgFault) → (ok_or o d >>= f) ≡ Err fault
    → ((o ≡ None) × (fault ≡ d)) ⊎ ((x : A) × (o ≡ Some x) × (f x ≡ Err fault))
part_err (Some x) d f fault e = inr (x, refl, e)
part_err None d f fault e = inl (refl, cc)

-- ---- fields that are cut off: with more bytes they are read

record Cut {A : Type 0} (place : ℕ) (read : At → Result (A × At) ArgFault) (c : At) (fault : ArgFault) : Type 0 where
  is_short : fault ≡ Short place
  more : List ℕ
  value : A × At
  small : IsBytes more
  reads : read (onto c more) ≡ Ok value

abbrev Cuts : {A : Type 0} → ℕ → (At → Result (A × At) ArgFault) → Type 0
Cuts place read = (c : At) (fault : ArgFault) → read c ≡ Err fault → Cut place read c fault

value_cuts : {A : Type 0} (place : ℕ) (a : A) → Cuts place (λ (c : At). Ok (a, c))
value_cuts place a c fault e = absurd cc

cases_result : {A : Type 0} (r : Result A ArgFault) → ((x : A) × (r ≡ Ok x)) ⊎ ((fault : ArgFault) × (r ≡ Err fault))
cases_result (Ok x) = inl (x, refl)
cases_result (Err fault) = inr (fault, refl)

module _ {A B : Type 0} (place : ℕ) (read : At → Option (A × At)) (f : A × At → Result (B × At) ArgFault) (r : Grows read) (s : (a : A) → Cuts place (λ (d : At). f (a, d))) where
  abbrev part : At → Result (B × At) ArgFault
  part c = ok_or (read c) (Short place) >>= f

  cut_behind : (c : At) (x : A × At) (fault : ArgFault) → read c ≡ Some x → f x ≡ Err fault → Cut place part c fault
  cut_behind c x fault first e =
      let g = s x.0 x.1 fault e in
      record { is_short = g.is_short; more = g.more; value = g.value; small = g.small; reads = rw (r.stays c x g.more first) g.reads }

  part_cuts : Cuts place part
  part_cuts c fault e =
      elim (part_err (read c) (Short place) f fault e) [
        | inl missing ↦
            let g = r.grows c missing.0 in
            elim (cases_result (f (g.value, g.left))) [
              | inl whole ↦ record { is_short = missing.1; more = g.more; value = whole.0; small = g.small; reads = rw g.reads whole.1 }
              | inr again ↦
                  let h = cut_behind (onto c g.more) (g.value, g.left) again.0 g.reads again.1 in
                  record { is_short = missing.1; more = g.more ++ h.more; value = h.value; small = IsBytes-append g.more h.more g.small h.small; reads = rw (← onto_twice c g.more h.more) h.reads }
            ]
        | inr some ↦ cut_behind c some.0 fault some.1 some.2
      ]

sint_cuts : (width : Width) (place : ℕ) (named : Bool) → Cuts place (sint_at width place named)
unfolding sint_at
sint_cuts width place named =
    part_cuts place (names_at named) _ (names_grow named) (λ names.
    part_cuts place (signed_at width) _ (signed_grows width) (λ value. value_cuts place (arg.Sint names.0 names.1 width value)))

uint_cuts : (width : Width) (place : ℕ) (named : Bool) → Cuts place (uint_at width place named)
unfolding uint_at
uint_cuts width place named =
    part_cuts place (names_at named) _ (names_grow named) (λ names.
    part_cuts place (unsigned_at width) _ (unsigned_grows width) (λ value. value_cuts place (arg.Uint names.0 names.1 width value)))

text_cuts : (utf8 : Bool) (place : ℕ) (named : Bool) → Cuts place (text_arg_at utf8 place named)
unfolding text_arg_at
text_cuts utf8 place named = part_cuts place (named_bytes_at named) _ (named_bytes_grow named) (λ fields. value_cuts place (arg.Text fields.0 (strip_last 0 fields.1) utf8))

raw_cuts : (place : ℕ) (named : Bool) → Cuts place (raw_at place named)
unfolding raw_at
raw_cuts place named = part_cuts place (named_bytes_at named) _ (named_bytes_grow named) (λ fields. value_cuts place (arg.Raw fields.0 fields.1))

-- ---- a truth value: its byte may be a wrong one

truth_other : (byte : ℕ) → truth_of byte ≡ None → 1 < byte
truth_other byte e = grind (arith, nat_tests)

zero_in : (order : Order) → number_at 1 (at_front order (0 ∷ [])) ≡ Some (0, at_front order [])
zero_in Little = refl
zero_in Big = refl

zero_byte : (c : At) → c.rest ≡ [] → number_at 1 (onto c (0 ∷ [])) ≡ Some (0, at_front c.order [])
zero_byte c none = rw none (zero_in c.order)

one_small : IsBytes (0 ∷ [])
one_small zero = omega arith
one_small (suc i) = omega arith

number_few : (n : ℕ) (d : At) → number_at n d ≡ None → length d.rest < n
number_few n d e = elim (cases_lt (length d.rest) n) [
  | inl lt ↦ lt
  | inr le ↦ let test = le-ltb (length d.rest) n le in absurd cc
]

bool_reads : (place : ℕ) (named : Bool) (c d : At) (name : Option (List ℕ)) → name_at named c ≡ Some (name, onto d (0 ∷ [])) → d.rest ≡ []
    → bool_at place named c ≡ Ok (arg.Bool name false, at_front d.order [])
unfolding bool_at
bool_reads place named c d name first none = rw (first, zero_byte d none) refl

bool_fault : (order : Order) (place : ℕ) (named : Bool) (b c : At) (fault : ArgFault) → TakesForm order (IsInfo order kind.Bool named) b c → bool_at place named c ≡ Err fault
    → Cut place (bool_at place named) c fault ⊎ ((fault ≡ Value place) × HasOtherValue order b.rest)
unfolding bool_at
bool_fault order place named b c fault t e =
    elim (part_err (name_at named c) (Short place) (λ name. ok_or (number_at 1 name.1) (Short place) >>= λ byte. ok_or (truth_of byte.0) (Value place) >>= λ value. Ok (arg.Bool name.0 value, byte.1)) fault e) [
      | inl missing ↦
          let g = (name_grows named).grows c missing.0 in
          let name : name_at named (onto c (g.more ++ 0 ∷ [])) ≡ Some (g.value, onto g.left (0 ∷ [])) = rw (← onto_twice c g.more (0 ∷ [])) ((name_grows named).stays (onto c g.more) (g.value, g.left) (0 ∷ []) g.reads) in
          inl (record {
            is_short = missing.1;
            more = g.more ++ 0 ∷ [];
            value = (arg.Bool g.value false, at_front g.left.order []);
            small = IsBytes-append g.more (0 ∷ []) g.small one_small;
            reads = bool_reads place named (onto c (g.more ++ 0 ∷ [])) g.left g.value name g.ends;
          })
      | inr n ↦
          elim (part_err (number_at 1 n.0.1) (Short place) (λ byte. ok_or (truth_of byte.0) (Value place) >>= λ value. Ok (arg.Bool n.0.0 value, byte.1)) fault n.2) [
            | inl missing ↦
                let none : n.0.1.rest ≡ [] = nil_from_length n.0.1.rest (omega (arith, number_few 1 n.0.1 missing.0)) in
                inl (record {
                  is_short = missing.1;
                  more = 0 ∷ [];
                  value = (arg.Bool n.0.0 false, at_front n.0.1.order []);
                  small = one_small;
                  reads = bool_reads place named (onto c (0 ∷ [])) n.0.1 n.0.0 ((name_grows named).stays c n.0 (0 ∷ []) n.1) none;
                })
            | inr d ↦
                elim (part_err (truth_of d.0.0) (Value place) (λ value. Ok (arg.Bool n.0.0 value, d.0.1)) fault d.2) [
                  | inl other ↦
                      let t1 = name_takes order named c n.0 t.same n.1 in
                      let t2 = number_takes order 1 n.0.1 d.0 t1.0.same d.1 in
                      let byte : TakesForm order (Is (d.0.0 ∷ [])) n.0.1 d.0.1 = record { front = t2.front; form = one_byte order d.0.0 t2.front t2.form; parts = t2.parts; same = t2.same } in
                      let all = TakesForm-then order b c d.0.1 (named_as order kind.Bool named (is_some n.0.0) b c t1.1 t) (TakesForm-then order c n.0.1 d.0.1 t1.0 byte) in
                      inr (other.1, record { name = n.0.0; byte = d.0.0; other = truth_other d.0.0 other.0; front = all.front; rest = d.0.1.rest; parts = all.parts; spelled = all.form })
                  | inr v ↦ absurd cc
                ]
          ]
    ]

kind_fault : (order : Order) (k : Kind) (place : ℕ) (named : Bool) (b c : At) (fault : ArgFault) → TakesForm order (IsInfo order k named) b c → kind_at k place named c ≡ Err fault
    → Cut place (kind_at k place named) c fault ⊎ ((fault ≡ Value place) × HasOtherValue order b.rest)
unfolding kind_at
kind_fault order kind.Bool place named b c fault t e = bool_fault order place named b c fault t e
kind_fault order (kind.Sint width) place named b c fault t e = inl (sint_cuts width place named c fault e)
kind_fault order (kind.Uint width) place named b c fault t e = inl (uint_cuts width place named c fault e)
kind_fault order (kind.Text utf8) place named b c fault t e = inl (text_cuts utf8 place named c fault e)
kind_fault order kind.Raw place named b c fault t e = inl (raw_cuts place named c fault e)

-- ---- an argument that is cut off begins another one

-- what stands at the front of both
front_of : (a b x y : List ℕ) → a ++ x ≡ b ++ y → length a ≤ length b → b ≡ a ++ drop (length a) b
front_of a b x y e le =
    let head : take (length a) b ≡ a = sym (take-append-le (length a) b y le) ∙ ap (take (length a)) (sym e) ∙ take_at a x (length a) refl in
    sym (take-append-drop (length a) b) ∙ ap (λ (f : List ℕ). f ++ drop (length a) b) head

begins : (order : Order) (place : ℕ) (bytes more : List ℕ) (fault : ArgFault) (x : Arg × At) → IsBytes (bytes ++ more) → arg_at place (at_front order bytes) ≡ Err fault
    → arg_at place (at_front order (bytes ++ more)) ≡ Ok x → BeginsArgument order bytes
begins order place bytes more fault x small refused reads =
    let t = arg_takes order place (at_front order (bytes ++ more)) x refl small reads in
    elim (cases_lt (length bytes) (length t.front)) [
      | inl lt ↦
          let split = front_of bytes t.front more x.1.rest t.parts (omega (arith, lt)) in
          record { arg = x.0; missing = drop (length bytes) t.front; some = omega (arith, lt, length-drop (length bytes) t.front); spelled = subst (IsSpelling order x.0) split t.form }
      | inr le ↦
          let split = front_of t.front bytes x.1.rest more (sym t.parts) le in
          let again = arg_again order place x.0 t.front (drop (length t.front) bytes) t.form in
          let whole : arg_at place (at_front order bytes) ≡ Ok (x.0, at_front order (drop (length t.front) bytes)) = ap (λ (r : List ℕ). arg_at place (at_front order r)) split ∙ again in
          absurd (cc (sym whole ∙ refused))
    ]

-- which fault stands at the front of these bytes, whose place is given
abbrev FaultAt : Order → ℕ → List ℕ → ArgFault → Type 0
FaultAt order place bytes (Short p) = (p ≡ place) × ((length bytes < 4) ⊎ BeginsArgument order bytes)
FaultAt order place bytes (Unsupported p info) = (p ≡ place) × SaysNoKind order info bytes
FaultAt order place bytes (Value p) = (p ≡ place) × HasOtherValue order bytes
FaultAt order place bytes OutOfMemory = Unit {0}

no_kind_said : (order : Order) (bytes : List ℕ) (i : ℕ × At) → number_at 4 (at_front order bytes) ≡ Some i → kind_of i.0 ≡ None → SaysNoKind order i.0 bytes
no_kind_said order bytes i read none =
    let t = number_takes order 4 (at_front order bytes) i refl read in
    record { front = t.front; rest = i.1.rest; parts = t.parts; number = t.form; no_kind = λ k named says. let known = kind_again k named i.0 says in absurd cc }

longer : (order : Order) (place : ℕ) (bytes : List ℕ) (i : ℕ × At) (k : Kind) (more : List ℕ) (x : Arg × At) → number_at 4 (at_front order bytes) ≡ Some i → kind_of i.0 ≡ Some k
    → kind_at k place (has_name i.0) (onto i.1 more) ≡ Ok x → arg_at place (at_front order (bytes ++ more)) ≡ Ok x
unfolding arg_at
longer order place bytes i k more x read known reads = rw ((number_grows 4).stays (at_front order bytes) i more read, known) reads

behind_info : (order : Order) (place : ℕ) (bytes : List ℕ) (fault : ArgFault) (i : ℕ × At) (k : Kind) → IsBytes bytes → arg_at place (at_front order bytes) ≡ Err fault
    → number_at 4 (at_front order bytes) ≡ Some i → kind_of i.0 ≡ Some k → kind_at k place (has_name i.0) i.1 ≡ Err fault → FaultAt order place bytes fault
behind_info order place bytes fault i k small refused read known e =
    let c = at_front order bytes in
    let t = number_takes order 4 c i refl read in
    let info : TakesForm order (IsInfo order k (has_name i.0)) c i.1 = record { front = t.front; form = record { info = i.0; says = kind_says i.0 k (number_fits 4 c i small read) known; number = t.form }; parts = t.parts; same = t.same } in
    elim (kind_fault order k place (has_name i.0) c i.1 fault info e) [
      | inl cut ↦
          let whole = longer order place bytes i k cut.more cut.value read known cut.reads in
          subst (FaultAt order place bytes) (sym cut.is_short) (refl, inr (begins order place bytes cut.more fault cut.value (IsBytes-append bytes cut.more small cut.small) refused whole))
      | inr other ↦ subst (FaultAt order place bytes) (sym other.0) (refl, other.1)
    ]

arg_fault : (order : Order) (place : ℕ) (bytes : List ℕ) (fault : ArgFault) → IsBytes bytes → arg_at place (at_front order bytes) ≡ Err fault → FaultAt order place bytes fault
unfolding arg_at
arg_fault order place bytes fault small e =
    let c = at_front order bytes in
    elim (part_err (number_at 4 c) (Short place) (λ info. ok_or (kind_of info.0) (Unsupported place info.0) >>= λ k. kind_at k place (has_name info.0) info.1) fault e) [
      | inl missing ↦ subst (FaultAt order place bytes) (sym missing.1) (refl, inl (number_few 4 c missing.0))
      | inr i ↦
          elim (part_err (kind_of i.0.0) (Unsupported place i.0.0) (λ k. kind_at k place (has_name i.0.0) i.0.1) fault i.2) [
            | inl none ↦ subst (FaultAt order place bytes) (sym none.1) (refl, no_kind_said order bytes i.0 i.1 none.0)
            | inr k ↦ behind_info order place bytes fault i.0 k.0 small e i.1 k.1 k.2
          ]
    ]

-- ---- the arguments before the fault

-- some arguments are whole, fewer than are read, and the fault stands behind them
record Stopped (order : Order) (whole count : ℕ) (c : At) (fault : ArgFault) : Type 0 where
  args : List Arg
  front : List ℕ
  rest : List ℕ
  spelled : AreSpellings order args front
  parts : c.rest ≡ front ++ rest
  fewer : length args < count
  refused : arg_at (whole - length rest) (at_front order rest) ≡ Err fault

stopped : (order : Order) (whole count : ℕ) (bytes : List ℕ) (fault : ArgFault) → IsBytes bytes → args_at whole count (at_front order bytes) ≡ Err fault
    → Stopped order whole count (at_front order bytes) fault
unfolding args_at
stopped order whole zero bytes fault small e = absurd cc
stopped order whole (suc count) bytes fault small e =
    let c = at_front order bytes in
    elim (bind_err (arg_at (whole - length bytes) c) (λ first. args_at whole count first.1 >>= λ others. Ok (first.0 ∷ others)) fault e) [
      | inl here ↦ record { args = []; front = []; rest = bytes; spelled = refl; parts = refl; fewer = omega arith; refused = here }
      | inr first ↦
          elim (bind_err (args_at whole count first.0.1) (λ others. Ok (first.0.0 ∷ others)) fault first.2) [
            | inl later ↦
                let t = arg_takes order (whole - length bytes) c first.0 refl small first.1 in
                let same : first.0.1 ≡ at_front order first.0.1.rest = ap (λ (o : Order). record { rest = first.0.1.rest; order = o }) t.same in
                let s = stopped order whole count first.0.1.rest fault (bytes_after t.front first.0.1.rest (subst IsBytes t.parts small)) (rw same at later) in
                record {
                  args = first.0.0 ∷ s.args;
                  front = t.front ++ s.front;
                  rest = s.rest;
                  spelled = record { front = t.front; back = s.front; first = t.form; second = s.spelled; parts = refl };
                  parts = t.parts ∙ ap (λ (f : List ℕ). t.front ++ f) s.parts ∙ sym (append_assoc t.front s.front s.rest);
                  fewer = omega (arith, s.fewer);
                  refused = s.refused;
                }
            | inr others ↦ absurd cc
          ]
    ]

at_place : (order : Order) (count : ℕ) (payload : List ℕ) (fault : ArgFault) (place : ℕ) (bytes : List ℕ) → IsReached order count payload place → drop place payload ≡ bytes → FaultAt order place bytes fault
    → IsFault order count payload fault
at_place order count payload (Short p) place bytes reached same (is, cause) = rw (is, same) (reached, cause)
at_place order count payload (Unsupported p info) place bytes reached same (is, cause) = rw (is, same) (reached, cause)
at_place order count payload (Value p) place bytes reached same (is, cause) = rw (is, same) (reached, cause)
at_place order count payload OutOfMemory place bytes reached same cause = tt

-- the fault that the walk finds is the one of the payload
pub fault_is : (order : Order) (count : ℕ) (payload : List ℕ) (fault : ArgFault) → IsBytes payload → arguments_of order count payload ≡ Err fault → IsFault order count payload fault
fault_is order count payload fault small e =
    let s = stopped order (length payload) count payload fault small e in
    let place : length payload - length s.rest ≡ length s.front = omega (arith, ap length s.parts, length-append s.front s.rest) in
    let head : take (length s.front) payload ≡ s.front = ap (take (length s.front)) s.parts ∙ take_at s.front s.rest (length s.front) refl in
    let tail : drop (length s.front) payload ≡ s.rest = ap (drop (length s.front)) s.parts ∙ drop_at s.front s.rest (length s.front) refl in
    let reached : IsReached order count payload (length s.front) = record { args = s.args; within = omega (arith, place, ap length s.parts, length-append s.front s.rest); before_it = rw head s.spelled; fewer = s.fewer } in
    let refused : arg_at (length s.front) (at_front order s.rest) ≡ Err fault = rw place at s.refused in
    at_place order count payload fault (length s.front) s.rest reached tail
    (arg_fault order (length s.front) s.rest fault (bytes_after s.front s.rest (subst IsBytes s.parts small)) refused)

-- what read_args answers, with a fault of the payload or with want of memory
pub fault_found : (order : Order) (count : ℕ) (payload : List ℕ) (r : Result (List Arg) ArgFault) → IsBytes payload → ReturnsAll r (arguments_of order count payload) → IfErr r (IsFault order count payload)
fault_found order count payload (Ok args) small e = tt
fault_found order count payload (Err (Short place)) small e = fault_is order count payload (Short place) small e
fault_found order count payload (Err (Unsupported place info)) small e = fault_is order count payload (Unsupported place info) small e
fault_found order count payload (Err (Value place)) small e = fault_is order count payload (Value place) small e
fault_found order count payload (Err OutOfMemory) small e = tt
