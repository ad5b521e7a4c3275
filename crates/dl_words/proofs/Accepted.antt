-- The value of an option that takes numbers spells one in its range.
use Rattle.std.proofs.Common.{zero, suc, ◌≡◌, ◌∙◌, ◌<◌, ap, ℕ, Bool, true, false, List, [], ◌∷◌, length, map, Option, Some, None, refl, sym, subst, inl, inr, arith}
use Rattle.std.specs.Prelude.{IfSome, codes, option_map, pos, slice_get, unwrap_or}
use Rattle.std.specs.Borrow.{Bor}
use Rattle.std.specs.List.{All, AllByRecursion, slice_index_or}
use Rattle.std.specs.Str.{bytes_eq}
use Rattle.std.specs.Str.Parse.{starts_with_minus}
use Rattle.std.proofs.lemmas.Bool.{cases_lt}
use Rattle.std.proofs.lemmas.Int.{ints}
use Rattle.std.proofs.lemmas.List.Elements.{All-get_or}
use Rattle.std.proofs.lemmas.Slice.Eq.{bytes_eq-Decides}
use Rattle.clap.proofs.CallerLemmas.{entry_by_id}
use Rattle.clap.proofs.SimpleLemmas.{is_false, is_nil}
use Rattle.clap.proofs.TakesLemmas.{each_rule}
use Rattle.clap.proofs.WalkLemmas.{both}
use Rattle.clap.specs.Built.{IsAuto, IsParsedFrom, NamesNoGroup, SameRules}
use Rattle.clap.specs.Facts.{Entry, EntryPasses, PassesArg, args_of, groups_of, parser_of, parser_of_value}
use Rattle.clap.specs.Matches.{first_value, found_of, matched_of}
use Rattle.clap.specs.Simple.{App, app_of, has_simple_rules, shape_of}
use Rattle.clap.specs.Values.{Accepts, IsSignedIn}
use Rattle.clap.specs.Walk.{Rule, Text, is_empty, rule_of}
use Rattle.clap.specs.declared.builder.arg.Arg.{Arg}
use Rattle.clap.specs.declared.builder.command.Command.{Command}
use Rattle.clap.specs.declared.builder.command.Command.TheViews.{out-Command}
use Rattle.clap.specs.declared.builder.value_parser.ValueParser.{ValueParser}
use Rattle.clap.specs.declared.builder.value_parser.ValueParser.TheVariants as parser
use Rattle.clap.specs.declared.parser.matches.ArgMatches.{ArgMatches}
use Rattle.clap.specs.declared.parser.matches.MatchedArg.{MatchedArg}
use Rattle.dl_words.specs.Parse.{IsGivenUpTo, SpellsUpTo}

-- a rule of this id has this parser
abbrev pub HasParser : Text → ValueParser → Rule → Type 0
HasParser id q rule = bytes_eq rule.id id ≡ true → rule.parser ≡ Some q

-- an id that is no option that building adds, and that no group has
pub record IsOwn (id : Text) : Type 0 where
  pub named : is_empty id ≡ false
  pub not_help : bytes_eq id (codes "help") ≡ false
  pub not_version : bytes_eq id (codes "version") ≡ false

never_empty : (id : Text) → IsOwn id → id ≡ [] → ⊥
never_empty id own e = let bad : is_empty {X = ℕ} [] ≡ false = subst (λ (w : Text). is_empty w ≡ false) e own.named in let never : true ≡ false = bad in cc

never_same : (id other : Text) → bytes_eq id other ≡ false → id ≡ other → ⊥
never_same id other apart e = let same : bytes_eq id other ≡ true = (bytes_eq-Decides id other).1 e in cc

each_arg : (P : Rule → Type 0) (xs : List Arg) → AllByRecursion P (map rule_of xs) → (k : ℕ) (d : Arg) → k < length xs → P (rule_of (slice_index_or xs k d))
each_arg P [] h k d lt = absurd (omega (arith, lt))
each_arg P (x ∷ xs) h zero d lt = h.0
each_arg P (x ∷ xs) h (suc k) d lt = each_arg P xs h.1 k d (omega (arith, lt))

-- the first of values that all pass
first_passes : (P : Bor Text → Type 0) (vs : List (Bor Text)) (text : Text) → All P vs → option_map (λ s. s.now) (slice_get vs 0) ≡ Some text → (v : Bor Text) × (v.now ≡ text) × P v
first_passes P [] text all has = cc
first_passes P (v ∷ vs) text all has = (v, ap (λ (o : Option Text). unwrap_or o text) has, All-get_or P (v ∷ vs) 0 v (omega arith) all)

-- what is known of a parse whose command has simple rules
record Known (old built : Command) : Type 0 where
  no_groups : groups_of built ≡ []
  no_globals : (out-Command old).has_globals ≡ false

known : (old : Command) (m : ArgMatches) (p : IsParsedFrom old m) → has_simple_rules (shape_of old) ≡ true → Known old p.built
known old m p simple =
    let plain = (both _ _ simple).0 in
    let groups : groups_of old ≡ [] = is_nil _ (both _ _ plain).0 in
    let globals : (out-Command old).has_globals ≡ false = is_false _ (both _ _ (both _ _ (both _ _ plain).1).1).0 in
    let apart : NamesNoGroup old = λ k d lt. is_nil _ (both _ _ (both _ _ (both _ _ (each_rule (λ (rule : Rule). rule.is_simple) (args_of old) (both _ _ simple).1 k d lt)).1).1).0 in
    record { no_groups = (p.from.same_groups apart).1 ∙ groups; no_globals = globals }

-- the argument of this id that was built has the parser
one_accepts : (old : Command) (m : ArgMatches) (p : IsParsedFrom old m) (id : Text) (q : ValueParser) (text : Text) → IsOwn id → AllByRecursion (HasParser id q) (map rule_of (args_of old))
    → PassesArg p.built id text → (b : Bool) × Accepts b q text
one_accepts old m p id q text own parsers pass =
    let j = pass.0 in
    let x : Arg = pass.1 in
    let x_id : x.id.now ≡ id = (bytes_eq-Decides x.id.now id).0 pass.4.0 in
    elim (cases_lt j (length (args_of old))) [
      | inl under ↦
          let s : SameRules (slice_index_or (args_of old) j x) x = subst (λ (w : Arg). SameRules (slice_index_or (args_of old) j x) w) pass.3 (p.from.kept j x under).1 in
          let same : bytes_eq (slice_index_or (args_of old) j x).id.now id ≡ true = rw (← s.id) pass.4.0 in
          let is_q : parser_of x ≡ q = ap parser_of_value (s.parser q (each_arg (HasParser id q) (args_of old) parsers j x under same)) in
          (x.ignore_case, subst (λ (w : ValueParser). Accepts x.ignore_case w text) is_q pass.4.1)
      | inr over ↦
          let flag : IsAuto x = subst IsAuto pass.3 (p.from.extra j x over pass.2) in
          absurd (elim flag [ inl h ↦ never_same id (codes "help") own.not_help (sym x_id ∙ h) | inr h ↦ never_same id (codes "version") own.not_version (sym x_id ∙ h) ])
    ]

of_entry : (old : Command) (m : ArgMatches) (p : IsParsedFrom old m) (id : Text) (q : ValueParser) (text : Text) → IsOwn id → AllByRecursion (HasParser id q) (map rule_of (args_of old)) → Known old p.built
    → (x : MatchedArg) → option_map (λ s. s.now) (slice_get x.vals.items 0) ≡ Some text → ((e : Entry) × (e.1 ≡ x) × (bytes_eq e.0.now id ≡ true) × EntryPasses p.built e) → (b : Bool) × Accepts b q text
of_entry old m p id q text own parsers is x has got =
    let e = got.0 in
    let key : e.0.now ≡ id = (bytes_eq-Decides e.0.now id).0 got.2 in
    let no_group : e.1.is_group ≡ true → ⊥ = λ g. elim (got.3.3 g) [
      | inl empty ↦ never_empty id own (sym key ∙ empty)
      | inr some ↦
          let bad : 0 < 0 = rw is.no_groups at some in
          absurd (omega (arith, bad))
    ] in
    let all : All (λ v. PassesArg p.built e.0.now v.now) e.1.vals.items = elim got.3.0 [ inl g ↦ absurd (no_group g) | inr vals ↦ vals ] in
    let mine : All (λ v. PassesArg p.built id v.now) x.vals.items =
    subst (λ (w : Text). All (λ v. PassesArg p.built w v.now) x.vals.items) key (subst (λ (y : MatchedArg). All (λ v. PassesArg p.built e.0.now v.now) y.vals.items) got.1 all) in
    let first = first_passes (λ v. PassesArg p.built id v.now) x.vals.items text mine has in
    one_accepts old m p id q text own parsers (subst (λ (w : Text). PassesArg p.built id w) first.1 first.2)

-- a value of an option whose rules have one parser passed that parser
pub accepted : (old : Command) (m : ArgMatches) (p : IsParsedFrom old m) (app : App) (id : Text) (q : ValueParser) (text : Text) → app_of old ≡ app → has_simple_rules app.top ≡ true → IsOwn id
    → AllByRecursion (HasParser id q) app.top.rules → first_value (found_of m) id ≡ Some text → (b : Bool) × Accepts b q text
accepted old m p app id q text is simple own parsers has = go (matched_of (found_of m) id) refl has
  where
    here : AllByRecursion (HasParser id q) (map rule_of (args_of old))
    here = subst (λ (a : App). AllByRecursion (HasParser id q) a.top.rules) (sym is) parsers

    facts : Known old p.built
    facts = known old m p (ap (λ (a : App). has_simple_rules a.top) is ∙ simple)

    go : (o : Option MatchedArg) → matched_of (found_of m) id ≡ o → first_value (found_of m) id ≡ Some text → (b : Bool) × Accepts b q text
    go None e h =
        let bad : None ≡ Some text = rw e at h in
        cc
    go (Some x) e h =
        of_entry old m p id q text own here facts x (rw e at h) (entry_by_id (EntryPasses p.built) (found_of m).entries.items id x (p.parsed (p.from.globals ∙ facts.no_globals)).values e)

-- a text of that range spells the number
spells : (most : ℕ) (text : Text) → IsSignedIn (pos 1) (pos most) text → SpellsUpTo most text
spells most text passed = go (starts_with_minus text) refl
  where
    go : (b : Bool) → starts_with_minus text ≡ b → SpellsUpTo most text
    go true minus =
        let low = rw minus at passed.2 in
        absurd (omega (arith, ints))
    go false minus =
        let numeral = rw minus at passed.0 in
        let low = rw minus at passed.2 in
        let high = rw minus at passed.3 in
        record { numeral = numeral; at_least = omega (arith, ints); at_most = omega (arith, ints) }

where_some : {A : Type 0} (o : Option A) (P : A → Type 0) → ((x : A) → o ≡ Some x → P x) → IfSome o P
where_some None P f = tt
where_some (Some x) P f = f x refl

-- the number of such an option, where it is given
pub number_given : (old : Command) (m : ArgMatches) (p : IsParsedFrom old m) (app : App) (id : Text) (most : ℕ) → app_of old ≡ app → has_simple_rules app.top ≡ true → IsOwn id
    → AllByRecursion (HasParser id (parser.Signed (pos 1) (pos most))) app.top.rules → IsGivenUpTo most (first_value (found_of m) id)
number_given old m p app id most is simple own parsers =
    where_some (first_value (found_of m) id) (SpellsUpTo most) (λ text has. spells most text (accepted old m p app id (parser.Signed (pos 1) (pos most)) text is simple own parsers has).1)
