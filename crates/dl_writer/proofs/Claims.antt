-- What is always so of a writer's claims stays so.
use Rattle.std.proofs.Common.{◌≡◌, ℕ, ◌+◌, ◌<◌, ◌≤◌, Bool, true, false, nat_lt, cond, eqb, Result, Ok, Err, List, [], ◌∷◌, ◌++◌, length, map, filter, refl, sym, ap, subst, ◌∙◌, lt-ltb, le-ltb, append-nil, append_assoc, length-append, inl, inr, ⊎_elim, arith}
use Rattle.std.specs.Prelude.{◌⊎◌, All, Contains, OnOk}
use Rattle.std.specs.Result.{is_err}
use Rattle.std.proofs.lemmas.Bool.{eqb-false}
use Rattle.std.proofs.lemmas.List.{length-map, map-append}
use Rattle.std.proofs.lemmas.List.Sums.{count_by-le-length, length-filter}
use Rattle.std.proofs.lemmas.List.Elements.{filter-append, All-push, All-contains, Contains-append_right}
use Rattle.dl_bytes.specs.Claim.{Claimed}
use Rattle.dl_bytes.specs.declared.item.Item.{Item}
use Rattle.dl_cells.specs.Views.{times}
use Rattle.dl_cells.proofs.Totals.{times-append, times_more}
use Rattle.dl_cells.specs.declared.claimer.Given.{Given}
use Rattle.dl_cells.specs.Claims.{given, given_of, refused_of}
use Rattle.dl_cells.specs.ClaimStates.{once_refused}
use Rattle.dl_cells.proofs.ClaimSums.{given_more, refused_more}
use Rattle.dl_cells.specs.declared.level_history.Read.{Read}
use Rattle.dl_cells.specs.LevelStates.{ReaderState}
use Rattle.dl_ring.specs.declared.item.RingItem.{RingItem}
use Rattle.dl_ring.specs.declared.item.RingItem.TheVariants.{Log, Register}
use Rattle.dl_ring.specs.Items.{calls_in, claims_in}
use Rattle.dl_ring.specs.State.{PushState}
use Rattle.dl_ring.proofs.Items.{calls_in-append, claims_in-append}
use Rattle.dl_writer.specs.Claiming.{claims_of, with_none, with_number, IsSpent, TellsClaims}
use Rattle.dl_writer.specs.State.{WriterState}

-- ---- what the ring took

-- one claim more of the ring's is one fewer that waits
moved : (pushed : List RingItem) (claim : Claimed) (left : List Claimed) → claims_in (pushed ++ Register claim ∷ []) ++ left ≡ claims_in pushed ++ claim ∷ left
moved pushed claim left = ap (λ (cs : List Claimed). cs ++ left) (claims_in-append pushed (Register claim ∷ [])) ∙ append_assoc (claims_in pushed) (claim ∷ []) left

-- a call is no claim
pub claims_in-call : (pushed : List RingItem) (item : Item) → claims_in (pushed ++ Log item ∷ []) ≡ claims_in pushed
claims_in-call pushed item = claims_in-append pushed (Log item ∷ []) ∙ append-nil (claims_in pushed)

-- and a claim is no call
pub calls_in-claim : (pushed : List RingItem) (claim : Claimed) → calls_in (pushed ++ Register claim ∷ []) ≡ calls_in pushed
calls_in-claim pushed claim = calls_in-append pushed (Register claim ∷ []) ∙ append-nil (calls_in pushed)

-- the writer has the claims that it had
same_claims : (w : WriterState) (push : PushState) (waiting : List Claimed) → push.number ≡ w.push.number → claims_in push.pushed ++ waiting ≡ claims_of w → TellsClaims w
    → TellsClaims (record w { push = push; waiting = waiting })
same_claims w push waiting number same tells = record {
  alone = tells.alone;
  counted = tells.counted;
  full = tells.full;
  placed = ap (map (λ (c : Claimed). c.place)) same ∙ tells.placed;
  own = subst (λ n. All (λ (c : Claimed). (c.app ≡ w.app) × (c.writer ≡ n)) (claims_in push.pushed ++ waiting)) (sym number)
      (subst (All (λ (c : Claimed). (c.app ≡ w.app) × (c.writer ≡ w.push.number))) (sym same) tells.own);
  base = tells.base;
  few = tells.few;
}

-- the ring took the first claim that waited
pub tells_announced : (w : WriterState) (push : PushState) (claim : Claimed) (left : List Claimed)
    → push ≡ record w.push { pushed = w.push.pushed ++ Register claim ∷ [] } → w.waiting ≡ claim ∷ left → TellsClaims w → TellsClaims (record w { push = push; waiting = left })
tells_announced w push claim left took first tells =
    same_claims w push left (ap (λ (p : PushState). p.number) took)
    (ap (λ (p : PushState). claims_in p.pushed ++ left) took ∙ moved w.push.pushed claim left ∙ ap (λ (cs : List Claimed). claims_in w.push.pushed ++ cs) (sym first)) tells

-- it took a call
pub tells_called : (w : WriterState) (push : PushState) (item : Item) → push ≡ record w.push { pushed = w.push.pushed ++ Log item ∷ [] } → TellsClaims w → TellsClaims (record w { push = push })
tells_called w push item took tells =
    same_claims w push w.waiting (ap (λ (p : PushState). p.number) took)
    (ap (λ (p : PushState). claims_in p.pushed ++ w.waiting) took ∙ ap (λ (cs : List Claimed). cs ++ w.waiting) (claims_in-call w.push.pushed item)) tells

-- a level was loaded in one call more
pub tells_loaded : (w : WriterState) (calls : ℕ) (reader : ReaderState) (reads : List Read) → reader ≡ record w.reader { reads = reads } → TellsClaims w → TellsClaims (record w { calls = calls; reader = reader })
tells_loaded w calls reader reads made tells =
    subst (λ (r : ReaderState). TellsClaims (record w { calls = calls; reader = r })) (sym made) (record {
      alone = tells.alone;
      counted = tells.counted;
      full = tells.full;
      placed = tells.placed;
      own = tells.own;
      base = tells.base;
      few = tells.few;
    })

-- the first claim that waits is the writer's own
pub own_first : (w : WriterState) (claim : Claimed) (left : List Claimed) → w.waiting ≡ claim ∷ left → TellsClaims w → claim.writer ≡ w.push.number
own_first w claim left first tells =
    let there : Contains (claims_of w) claim = subst (λ (cs : List Claimed). Contains (claims_in w.push.pushed ++ cs) claim) (sym first)
    (Contains-append_right (claims_in w.push.pushed) (claim ∷ left) claim (0, omega arith, refl)) in
    (All-contains (λ (c : Claimed). (c.app ≡ w.app) × (c.writer ≡ w.push.number)) (claims_of w) claim tells.own there).1

-- ---- how many claims there are

-- a writer has at most as many claims as it was given numbers
pub claims_within : (w : WriterState) → TellsClaims w → length (claims_in w.push.pushed) + length w.waiting ≤ length (given_of w.app w.reader.given)
claims_within w tells =
    let numbers = given_of w.app w.reader.given in
    let is_place : ℕ → Bool = λ n. nat_lt (w.base + n) 64 in
    let long : length (claims_of w) ≡ length (filter is_place numbers) =
    sym (length-map (claims_of w) (λ (c : Claimed). c.place)) ∙ ap length tells.placed ∙ length-map (filter is_place numbers) (λ n. w.base + n) in
    let parts = length-append (claims_in w.push.pushed) w.waiting in
    let filtered = length-filter is_place numbers in
    let some = count_by-le-length is_place numbers in
    omega arith

-- and at most 64, so where one waits the ring took fewer
pub one_fits : (w : WriterState) (claim : Claimed) (left : List Claimed) → w.waiting ≡ claim ∷ left → TellsClaims w → length (claims_in w.push.pushed) + 1 ≤ 64
one_fits w claim left first tells =
    let few = tells.few in
    let within = claims_within w tells in
    let some : length w.waiting ≡ length left + 1 = ap length first ∙ omega arith in
    omega arith

-- ---- a claim step more

-- all numbers are of the writer's application
still_alone : (w : WriterState) (number : ℕ) → All (λ (g : Given). g.app ≡ w.app) w.reader.given → All (λ (g : Given). g.app ≡ w.app) (w.reader.given ++ given w.app number ∷ [])
still_alone w number alone = All-push (λ (g : Given). g.app ≡ w.app) w.reader.given (given w.app number) alone refl

-- once one was refused, one is refused
refused_once : (app : ℕ) (refused : List ℕ) → (0 < refused_of app (once_refused app refused)) × (refused_of app (once_refused app refused) ≤ refused_of app refused + 1)
refused_once app refused = by_test (eqb (refused_of app refused) 0) refl where
  by_test : (b : Bool) → eqb (refused_of app refused) 0 ≡ b → (0 < refused_of app (cond b (refused ++ app ∷ []) refused)) × (refused_of app (cond b (refused ++ app ∷ []) refused) ≤ refused_of app refused + 1)
  by_test true none_yet = let more = refused_more app refused in (omega arith, omega arith)
  by_test false some = let there = eqb-false (refused_of app refused) 0 some in (omega arith, omega arith)

-- a list in two parts, the last with one more
behind : (front back : List Claimed) (c : Claimed) → front ++ (back ++ c ∷ []) ≡ (front ++ back) ++ c ∷ []
behind front back c = sym (append_assoc front back (c ∷ []))

-- where one number more is a place, it stands behind those that are
one_more_place : (base number : ℕ) (numbers : List ℕ) → base + number < 64
    → map (λ n. base + n) (filter (λ n. nat_lt (base + n) 64) (numbers ++ number ∷ [])) ≡ map (λ n. base + n) (filter (λ n. nat_lt (base + n) 64) numbers) ++ (base + number) ∷ []
one_more_place base number numbers within =
    let is_place : ℕ → Bool = λ n. nat_lt (base + n) 64 in
    ap (map (λ n. base + n)) (filter-append is_place numbers (number ∷ []))
    ∙ ap (λ b. map (λ n. base + n) (filter is_place numbers ++ cond b (number ∷ []) [])) (lt-ltb (base + number) 64 within)
    ∙ map-append (λ n. base + n) (filter is_place numbers) (number ∷ [])

-- where it is none, the places stay
no_more_place : (base number : ℕ) (numbers : List ℕ) → 64 ≤ base + number
    → map (λ n. base + n) (filter (λ n. nat_lt (base + n) 64) (numbers ++ number ∷ [])) ≡ map (λ n. base + n) (filter (λ n. nat_lt (base + n) 64) numbers)
no_more_place base number numbers beyond =
    let is_place : ℕ → Bool = λ n. nat_lt (base + n) 64 in
    ap (map (λ n. base + n)) (filter-append is_place numbers (number ∷ []))
    ∙ ap (λ b. map (λ n. base + n) (filter is_place numbers ++ cond b (number ∷ []) [])) (le-ltb (base + number) 64 beyond)
    ∙ ap (map (λ n. base + n)) (append-nil (filter is_place numbers))

-- where the table was full, it stays so with one number more
still_spent : (w : WriterState) (number registers table_full : ℕ) (waiting : List Claimed) → IsSpent w
    → IsSpent (record w { reader = with_number w.reader w.app number; registers = registers; table_full = table_full; waiting = waiting })
still_spent w number registers table_full waiting spent = ⊎_elim
    (λ refused. inl refused)
    (λ (x : (n : ℕ) × (1 ≤ times n (given_of w.app w.reader.given)) × (64 ≤ w.base + n)).
    let more : times x.0 (given_of w.app (w.reader.given ++ given w.app number ∷ [])) ≡ times x.0 (given_of w.app w.reader.given) + times x.0 (number ∷ []) =
    ap (times x.0) (given_more w.app number w.reader.given) ∙ times-append x.0 (given_of w.app w.reader.given) (number ∷ []) in
    let so = x.1 in inr (x.0, omega (arith, more, so), x.2))
    spent

-- the claim of a number that is a place joined those that wait
joined : (w : WriterState) (number : ℕ) (claim : Claimed) → w.base + number < 64 → claim.app ≡ w.app → claim.writer ≡ w.push.number → claim.place ≡ w.base + number
    → length (given_of w.app (with_number w.reader w.app number).given) ≤ 64 → TellsClaims w
    → TellsClaims (record w { reader = with_number w.reader w.app number; registers = w.registers + 1; waiting = w.waiting ++ claim ∷ [] })
joined w number claim within app writer place few tells =
    let numbers = given_more w.app number w.reader.given in
    let long : length (given_of w.app (w.reader.given ++ given w.app number ∷ [])) ≡ length (given_of w.app w.reader.given) + 1 =
    ap length numbers ∙ length-append (given_of w.app w.reader.given) (number ∷ []) in
    let counted = tells.counted in
    let last = behind (claims_in w.push.pushed) w.waiting claim in
    record {
      alone = still_alone w number tells.alone;
      counted = omega (arith, long, counted);
      full = λ some. still_spent w number (w.registers + 1) w.table_full (w.waiting ++ claim ∷ []) (tells.full some);
      placed = ap (map (λ (c : Claimed). c.place)) last ∙ map-append (λ (c : Claimed). c.place) (claims_of w) (claim ∷ [])
          ∙ ap (λ (ps : List ℕ). ps ++ claim.place ∷ []) tells.placed
          ∙ ap (λ p. map (λ n. w.base + n) (filter (λ n. nat_lt (w.base + n) 64) (given_of w.app w.reader.given)) ++ p ∷ []) place
          ∙ sym (one_more_place w.base number (given_of w.app w.reader.given) within)
          ∙ ap (λ (ns : List ℕ). map (λ n. w.base + n) (filter (λ n. nat_lt (w.base + n) 64) ns)) (sym numbers);
      own = subst (All (λ (c : Claimed). (c.app ≡ w.app) × (c.writer ≡ w.push.number))) (sym last)
          (All-push (λ (c : Claimed). (c.app ≡ w.app) × (c.writer ≡ w.push.number)) (claims_of w) claim tells.own (app, writer));
      base = tells.base;
      few = few;
    }

-- no number was left
none_left : (w : WriterState) → TellsClaims w → TellsClaims (record w { reader = with_none w.reader w.app; registers = w.registers + 1; table_full = w.table_full + 1 })
none_left w tells =
    let once = refused_once w.app w.reader.refused in
    let counted = tells.counted in
    record {
      alone = tells.alone;
      counted = omega (arith, once.1, counted);
      full = λ some. inl once.0;
      placed = tells.placed;
      own = tells.own;
      base = tells.base;
      few = tells.few;
    }

-- a number was given that is no place
beyond_all : (w : WriterState) (number : ℕ) → 64 ≤ w.base + number → length (given_of w.app (with_number w.reader w.app number).given) ≤ 64 → TellsClaims w
    → TellsClaims (record w { reader = with_number w.reader w.app number; registers = w.registers + 1; table_full = w.table_full + 1 })
beyond_all w number beyond few tells =
    let numbers = given_more w.app number w.reader.given in
    let long : length (given_of w.app (w.reader.given ++ given w.app number ∷ [])) ≡ length (given_of w.app w.reader.given) + 1 =
    ap length numbers ∙ length-append (given_of w.app w.reader.given) (number ∷ []) in
    let counted = tells.counted in
    let here : times number (given_of w.app (w.reader.given ++ given w.app number ∷ [])) ≡ times number (given_of w.app w.reader.given) + 1 =
    ap (times number) numbers ∙ times_more number (given_of w.app w.reader.given) in
    record {
      alone = still_alone w number tells.alone;
      counted = omega (arith, long, counted);
      full = λ some. inr (number, omega (arith, here), beyond);
      placed = tells.placed ∙ sym (no_more_place w.base number (given_of w.app w.reader.given) beyond)
          ∙ ap (λ (ns : List ℕ). map (λ n. w.base + n) (filter (λ n. nat_lt (w.base + n) 64) ns)) (sym numbers);
      own = tells.own;
      base = tells.base;
      few = few;
    }

-- ---- the same of what the code has

pub tells_joined : (w : WriterState) (reader : ReaderState) (number registers : ℕ) (waiting : List Claimed) (claim : Claimed)
    → reader ≡ with_number w.reader w.app number → registers ≡ w.registers + 1 → waiting ≡ w.waiting ++ claim ∷ []
    → w.base + number < 64 → claim.app ≡ w.app → claim.writer ≡ w.push.number → claim.place ≡ w.base + number
    → length (given_of w.app reader.given) ≤ 64 → TellsClaims w
    → TellsClaims (record w { reader = reader; registers = registers; waiting = waiting })
tells_joined w reader number registers waiting claim claimed count last within app writer place few tells =
    subst (λ (r : ReaderState). TellsClaims (record w { reader = r; registers = registers; waiting = waiting })) (sym claimed)
    (subst (λ n. TellsClaims (record w { reader = with_number w.reader w.app number; registers = n; waiting = waiting })) (sym count)
    (subst (λ (cs : List Claimed). TellsClaims (record w { reader = with_number w.reader w.app number; registers = w.registers + 1; waiting = cs })) (sym last)
    (joined w number claim within app writer place (subst (λ (r : ReaderState). length (given_of w.app r.given) ≤ 64) claimed few) tells)))

pub tells_full : (w : WriterState) (reader : ReaderState) (registers table_full : ℕ)
    → (reader ≡ with_none w.reader w.app) ⊎ ((number : ℕ) × (64 ≤ w.base + number) × (reader ≡ with_number w.reader w.app number))
    → registers ≡ w.registers + 1 → table_full ≡ w.table_full + 1 → length (given_of w.app reader.given) ≤ 64 → TellsClaims w
    → TellsClaims (record w { reader = reader; registers = registers; table_full = table_full })
tells_full w reader registers table_full claimed count full few tells =
    subst (λ n. TellsClaims (record w { reader = reader; registers = n; table_full = table_full })) (sym count)
    (subst (λ n. TellsClaims (record w { reader = reader; registers = w.registers + 1; table_full = n })) (sym full)
    (⊎_elim
    (λ none. subst (λ (r : ReaderState). TellsClaims (record w { reader = r; registers = w.registers + 1; table_full = w.table_full + 1 })) (sym none) (none_left w tells))
    (λ (x : (number : ℕ) × (64 ≤ w.base + number) × (reader ≡ with_number w.reader w.app number)).
    subst (λ (r : ReaderState). TellsClaims (record w { reader = r; registers = w.registers + 1; table_full = w.table_full + 1 })) (sym x.2)
    (beyond_all w x.0 x.1 (subst (λ (r : ReaderState). length (given_of w.app r.given) ≤ 64) x.2 few) tells))
    claimed))

-- a push that wasn't refused
pub took_it : {A B : Type 0} (answer : Result A B) (P : Type 0) {b : Bool} → b ≡ is_err answer → b ≡ false → OnOk answer P → P
took_it (Ok a) P is ok took = took
took_it (Err b) P is ok took = absurd cc

-- one list's first entry, and its others, told apart
pub first_and_rest : {A : Type 0} (xs : List A) (x y : A) (ys zs : List A) → xs ≡ x ∷ ys → xs ≡ y ∷ zs → xs ≡ x ∷ zs
first_and_rest [] x y ys zs one other = absurd cc
first_and_rest (a ∷ others) x y ys zs one other =
    let same : a ≡ x = cc in
    let rest : others ≡ zs = cc in
    cc
