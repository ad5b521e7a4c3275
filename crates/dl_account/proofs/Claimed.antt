-- The claims of an application's writers: each number was given to one of them, so their places differ.
use Rattle.std.proofs.Common.{◌≡◌, ◌≢◌, ℕ, ◌+◌, ◌-◌, ◌<◌, ◌≤◌, ◌==◌, inl, inr, Bool, true, false, cond, get_or, List, [], ◌∷◌, ◌++◌, length, map, refl, sym, ap, ◌∙◌, subst, ne_eqb, arith}
use Rattle.std.specs.Prelude.{All, nat_lt}
use Rattle.std.specs.List.{filter}
use Rattle.std.proofs.lemmas.Bool.{eqb-true, eqb-false, ltb-true}
use Rattle.std.proofs.lemmas.List.{map-append}
use Rattle.std.proofs.lemmas.List.Elements.{All-nil, All-cons, All-head, All-tail}
use Rattle.dl_bytes.specs.Claim.{Claimed}
use Rattle.dl_cells.proofs.Bits.{bit_small}
use Rattle.dl_cells.specs.Claims.{given_of, refused_of}
use Rattle.dl_cells.specs.declared.claimer.Given.{Given}
use Rattle.dl_cells.specs.LevelStates.{KeeperState}
use Rattle.dl_ring.specs.Items.{claims_in}
use Rattle.dl_cells.specs.Views.{bit, times, total}
use Rattle.dl_cells.proofs.Totals.{times-append, total_add}
use Rattle.dl_writer.specs.Claiming.{IsSpent, TellsClaims, claims_of}
use Rattle.dl_writer.specs.State.{BookState, WriterState}
use Rattle.dl_account.specs.Books.{books_of, claimed_of, registers_of}
use Rattle.dl_account.specs.Joining.{AreGiven}
use Rattle.dl_account.specs.Known.{AreClaimed}
use Rattle.dl_account.specs.Making.{SameBases}
use Rattle.dl_account.proofs.Apart.{differ, map-flat, part_below, times-filter, times-flat, times-moved, total-below, total-filter, total-passing}
use Rattle.dl_account.proofs.InOrder.{all_front}
use Rattle.dl_account.proofs.Lists.{all_flat, all_kept, all_mapped}

-- ---- one writer

-- of another application it was given no number
none_given : (app : ℕ) (w : WriterState) (given : List Given) → w.app ≢ app → All (λ g. g.app ≡ w.app) given → given_of app given ≡ []
none_given app w [] apart alone = refl
none_given app w (g ∷ given) apart alone =
    ap (λ (t : Bool). map (λ g. g.number) (cond t (g ∷ filter (λ g. g.app == app) given) (filter (λ g. g.app == app) given)))
    (ne_eqb g.app app (λ same. apart (sym (All-head (λ (g : Given). g.app ≡ w.app) g given alone) ∙ same)))
    ∙ none_given app w given apart (All-tail (λ (g : Given). g.app ≡ w.app) g given alone)

-- numbers that are a place behind the base are one
below_all : (base : ℕ) (xs : List ℕ) → All (λ p. p < 64) (map (λ n. base + n) (filter (λ n. nat_lt (base + n) 64) xs))
below_all base [] = All-nil (λ p. p < 64)
below_all base (x ∷ xs) = by_test (below_all base xs) (nat_lt (base + x) 64) refl where
  by_test : All (λ p. p < 64) (map (λ n. base + n) (filter (λ n. nat_lt (base + n) 64) xs)) → (b : Bool) → nat_lt (base + x) 64 ≡ b
      → All (λ p. p < 64) (map (λ n. base + n) (cond b (x ∷ filter (λ n. nat_lt (base + n) 64) xs) (filter (λ n. nat_lt (base + n) 64) xs)))
  by_test rest true is = All-cons (λ p. p < 64) (base + x) (map (λ n. base + n) (filter (λ n. nat_lt (base + n) 64) xs)) (ltb-true (base + x) 64 is) rest
  by_test rest false is = rest

module _ (app : ℕ) (w : WriterState) (same : w.app ≡ app) (told : TellsClaims w) where
  -- each claim that its ring took is on a place of its application
  its_claims : All (λ c. (c.place < 64) × (c.app ≡ app)) (claims_in w.push.pushed)
  its_claims =
      let places : All (λ (c : Claimed). c.place < 64) (claims_of w) = all_mapped (λ p. p < 64) (λ (c : Claimed). c.place) (claims_of w) (subst (All (λ p. p < 64)) (sym told.placed) (below_all w.base (given_of w.app w.reader.given))) in
      let low = all_front (λ (c : Claimed). c.place < 64) (claims_in w.push.pushed) w.waiting places in
      let own = all_front (λ (c : Claimed). (c.app ≡ w.app) × (c.writer ≡ w.push.number)) (claims_in w.push.pushed) w.waiting told.own in
      λ k d lt. (low k d lt, (own k d lt).0 ∙ same)

  -- and no more of them are on a place than that it was given the number behind its base
  its_places : (p : ℕ) → times p (map (λ c. c.place) (claims_in w.push.pushed)) ≤ times (p - w.base) (given_of app w.reader.given)
  its_places p =
      let all : List ℕ = given_of w.app w.reader.given in
      let parts = times-append p (map (λ (c : Claimed). c.place) (claims_in w.push.pushed)) (map (λ (c : Claimed). c.place) w.waiting) in
      let both : times p (map (λ (c : Claimed). c.place) (claims_in w.push.pushed) ++ map (λ (c : Claimed). c.place) w.waiting) ≡ times p (map (λ n. w.base + n) (filter (λ n. nat_lt (w.base + n) 64) all)) =
      ap (times p) (sym (map-append (λ (c : Claimed). c.place) (claims_in w.push.pushed) w.waiting) ∙ told.placed) in
      let moved = times-moved w.base p (filter (λ n. nat_lt (w.base + n) 64) all) in
      let few = times-filter (λ n. nat_lt (w.base + n) 64) (p - w.base) all in
      let here : times (p - w.base) all ≡ times (p - w.base) (given_of app w.reader.given) = ap (λ (n : ℕ). times (p - w.base) (given_of n w.reader.given)) same in
      omega (arith, parts, both, moved, few, here)

-- ---- all of them

one_base : (books : List BookState) → All (λ b. All (λ c. b.writer.base ≡ c.writer.base) books) books → (base : ℕ) × All (λ b. b.writer.base ≡ base) books
one_base [] bases = (0, All-nil (λ (b : BookState). b.writer.base ≡ 0))
one_base (b ∷ books) bases =
    let first = All-head (λ (b' : BookState). All (λ (c : BookState). b'.writer.base ≡ c.writer.base) (b ∷ books)) b books bases in
    (b.writer.base, λ k d lt. sym (first k d lt))

module _ (app count : ℕ) (levels : KeeperState) (books : List BookState) (given : AreGiven app count levels) (bases : SameBases books) (told : All (λ b. TellsClaims b.writer) books)
    (times_are : (n : ℕ) → times n (given_of app levels.given) ≡ total (λ b. times n (given_of app b.writer.reader.given)) books)
    (long : length (given_of app levels.given) ≡ total (λ b. length (given_of app b.writer.reader.given)) books)
    (nones : refused_of app levels.refused ≡ total (λ b. refused_of app b.writer.reader.refused) books) where
  abbrev theirs : List BookState
  theirs = books_of app books

  abbrev is_their : BookState → Bool
  is_their b = b.writer.app == app

  own_told : All (λ b. (b.writer.app ≡ app) × TellsClaims b.writer) theirs
  own_told = all_kept (λ (b : BookState). TellsClaims b.writer) (λ (b : BookState). (b.writer.app ≡ app) × TellsClaims b.writer) is_their books
      (λ b own tells. (eqb-true b.writer.app app own, tells)) told

  base : (base : ℕ) × All (λ b. b.writer.base ≡ base) theirs
  base = one_base theirs (all_kept (λ (b : BookState). All (λ (c : BookState). b.writer.app ≡ c.writer.app → b.writer.base ≡ c.writer.base) books) (λ (b : BookState). All (λ (c : BookState). b.writer.base ≡ c.writer.base) theirs) is_their books
      (λ b own same. all_kept (λ (c : BookState). b.writer.app ≡ c.writer.app → b.writer.base ≡ c.writer.base) (λ (c : BookState). b.writer.base ≡ c.writer.base) is_their books
      (λ c own_too is. is (eqb-true b.writer.app app own ∙ sym (eqb-true c.writer.app app own_too))) same) bases)

  -- no place is claimed twice
  once : (p : ℕ) → times p (map (λ c. c.place) (claimed_of app books)) ≤ 1
  once p =
      let parts : times p (map (λ (c : Claimed). c.place) (claimed_of app books)) ≡ total (λ (b : BookState). times p (map (λ (c : Claimed). c.place) (claims_in b.writer.push.pushed))) theirs =
      ap (times p) (map-flat (λ (c : Claimed). c.place) (λ (b : BookState). claims_in b.writer.push.pushed) theirs) ∙ times-flat (λ (b : BookState). map (λ (c : Claimed). c.place) (claims_in b.writer.push.pushed)) p theirs in
      let each = total-below (λ (b : BookState). times p (map (λ (c : Claimed). c.place) (claims_in b.writer.push.pushed))) (λ (b : BookState). times (p - base.0) (given_of app b.writer.reader.given)) theirs
      (λ k d lt.
      (let own = own_told k d lt in
      let its = its_places app (get_or theirs k d).writer own.0 own.1 p in
      subst (λ (n : ℕ). times p (map (λ (c : Claimed). c.place) (claims_in (get_or theirs k d).writer.push.pushed)) ≤ times (p - n) (given_of app (get_or theirs k d).writer.reader.given)) (base.1 k d lt) its)) in
      let fewer = total-filter (λ (b : BookState). times (p - base.0) (given_of app b.writer.reader.given)) is_their books in
      let all = times_are (p - base.0) in
      let one = given.once (p - base.0) in
      let small = bit_small (nat_lt (p - base.0) count) in
      omega (arith, parts, each, fewer, all, one, small)

  -- each number was given to a writer of the application, and no claim of another's is counted
  all_theirs : total (λ b. length (given_of app b.writer.reader.given)) theirs ≡ length (given_of app levels.given)
  all_theirs = total-passing (λ (b : BookState). length (given_of app b.writer.reader.given)) is_their books
      (λ k d lt other. ap length (none_given app (get_or books k d).writer (get_or books k d).writer.reader.given (eqb-false (get_or books k d).writer.app app other) (told k d lt).alone))
      ∙ sym long

  abbrev steps : BookState → ℕ
  steps b = length (given_of app b.writer.reader.given) + refused_of app b.writer.reader.refused

  registered : count + total (λ b. refused_of app b.writer.reader.refused) theirs ≤ registers_of app books
  registered =
      let each = total-below steps (λ (b : BookState). b.writer.registers) theirs
      (λ k d lt.
      (let own = own_told k d lt in
      subst (λ (n : ℕ). length (given_of n (get_or theirs k d).writer.reader.given) + refused_of n (get_or theirs k d).writer.reader.refused ≤ (get_or theirs k d).writer.registers) own.0 own.1.counted)) in
      let sum = total_add (λ (b : BookState). length (given_of app b.writer.reader.given)) (λ (b : BookState). refused_of app b.writer.reader.refused) theirs in
      let all = all_theirs in
      let so_many = given.long in
      omega (arith, each, sum, all, so_many)

  -- a writer that was refused a place met a claim word that is spent
  refused_so : (b : BookState) → refused_of app b.writer.reader.refused ≤ total (λ b. refused_of app b.writer.reader.refused) theirs → 0 < refused_of app b.writer.reader.refused → 64 < registers_of app books + b.writer.base
  refused_so b part some =
      let fewer = total-filter (λ (b : BookState). refused_of app b.writer.reader.refused) is_their books in
      let all : count ≡ 64 = given.full (omega (arith, nones, fewer, part, some)) in
      let enough = registered in
      omega (arith, all, enough, part, some)

  given_so : (b : BookState) (number : ℕ) → times number (given_of app b.writer.reader.given) ≤ total (λ b. times number (given_of app b.writer.reader.given)) theirs
      → 1 ≤ times number (given_of app b.writer.reader.given) → 64 ≤ b.writer.base + number → 64 < registers_of app books + b.writer.base
  given_so b number part some high =
      let fewer = total-filter (λ (b : BookState). times number (given_of app b.writer.reader.given)) is_their books in
      let all = times_are number in
      let one = given.once number in
      let below : number < count = is_below (nat_lt number count) refl (omega (arith, part, some, fewer, all, one)) in
      let enough = registered in
      omega (arith, below, enough, high) where
        is_below : (t : Bool) → nat_lt number count ≡ t → 1 ≤ bit (nat_lt number count) → number < count
        is_below true is one = ltb-true number count is
        is_below false is one = let none : bit (nat_lt number count) ≡ 0 = ap bit is in absurd (omega (arith, none, one))

  full_so : (b : BookState) → b.writer.app ≡ app → IsSpent b.writer → refused_of app b.writer.reader.refused ≤ total (λ b. refused_of app b.writer.reader.refused) theirs
      → ((number : ℕ) → times number (given_of app b.writer.reader.given) ≤ total (λ b. times number (given_of app b.writer.reader.given)) theirs) → 64 < registers_of app books + b.writer.base
  full_so b same (inl some) part parts = refused_so b part (subst (λ (n : ℕ). 0 < refused_of n b.writer.reader.refused) same some)
  full_so b same (inr last) part parts = given_so b last.0 (parts last.0) (subst (λ (n : ℕ). 1 ≤ times last.0 (given_of n b.writer.reader.given)) same last.1) last.2

  pub claimed : AreClaimed app books
  claimed = record {
    apart = differ (map (λ (c : Claimed). c.place) (claimed_of app books)) once;
    within = all_flat (λ (c : Claimed). (c.place < 64) × (c.app ≡ app)) (λ (b : BookState). claims_in b.writer.push.pushed) theirs
        (λ k d lt. (let own = own_told k d lt in its_claims app (get_or theirs k d).writer own.0 own.1));
    full = λ k d lt some.
        (let own = own_told k d lt in
        full_so (get_or theirs k d) own.0 (own.1.full some) (part_below (λ (b : BookState). refused_of app b.writer.reader.refused) theirs k d lt)
        (λ number. part_below (λ (b : BookState). times number (given_of app b.writer.reader.given)) theirs k d lt));
  }
