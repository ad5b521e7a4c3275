-- The places of the clients that are open.
use Rattle.std.proofs.Common.{◌≡◌, ℕ, ◌+◌, ◌<◌, Bool, true, false, cond, not, eqb, get_or, List, [], ◌∷◌, ◌++◌, length, map, Option, Some, None, refl, sym, ap, ◌∙◌, subst, suc, zero, arith}
use Rattle.std.specs.Prelude.{count_by, slice_get, slice_set, option_map, is_some, filter, find, nat_le, ◌-◌, ◌≤◌, ◌≢◌, IsSome, ◌&&◌}
use Rattle.std.specs.List.{All, list_all}
use Rattle.std.specs.List.Retain.{RetainsInTurn}
use Rattle.std.proofs.lemmas.Option.{get_or_from_slice_get, slice_get-map, slice_get_within}
use Rattle.std.specs.Option.{option_and_then, option_map_or}
use Rattle.std.proofs.lemmas.Bool.Decides.{nat_tests}
use Rattle.std.proofs.lemmas.List.{length-map, map-append}
use Rattle.std.proofs.lemmas.List.Sums.{sum_by-cons}
use Rattle.dl_hub.specs.State.{Client, Hub, Waiting, IsNextOpen, added, is_open, outbox_of, takes, with_frame}
use Rattle.dl_hub.specs.Kept.{places_of, takes_at}

-- ---- where one more comes, one goes, and one changes

pub count_places : (first : ℕ) (clients : List Client) → length (places_of first (map is_open clients)) ≡ count_by is_open clients
count_places first [] = refl
count_places first (c ∷ cs) = by_test (is_open c) (count_places (first + 1) cs) ∙ sym (sum_by-cons (λ x. cond (is_open x) 1 0) c cs) where
  by_test : (b : Bool) → length (places_of (first + 1) (map is_open cs)) ≡ count_by is_open cs
      → length (cond b (first ∷ places_of (first + 1) (map is_open cs)) (places_of (first + 1) (map is_open cs))) ≡ cond b 1 0 + count_by is_open cs
  by_test true later = omega (arith, later)
  by_test false later = omega (arith, later)

pub places-more : (first : ℕ) (bs : List Bool) → places_of first (bs ++ true ∷ []) ≡ places_of first bs ++ (first + length bs) ∷ []
places-more first [] = ap (λ n. n ∷ []) (omega arith)
places-more first (b ∷ bs) = by_test b (places-more (first + 1) bs) where
  by_test : (b : Bool) → places_of (first + 1) (bs ++ true ∷ []) ≡ places_of (first + 1) bs ++ (first + 1 + length bs) ∷ []
      → places_of first (b ∷ bs ++ true ∷ []) ≡ places_of first (b ∷ bs) ++ (first + length (b ∷ bs)) ∷ []
  by_test true later = ap (λ ps. first ∷ ps) (later ∙ ap (λ n. places_of (first + 1) bs ++ n ∷ []) (omega arith))
  by_test false later = later ∙ ap (λ n. places_of (first + 1) bs ++ n ∷ []) (omega arith)

-- a place before the first is not among them
none_before : (first place : ℕ) (bs : List Bool) → place < first → filter (λ other. not (eqb other place)) (places_of first bs) ≡ places_of first bs
none_before first place [] before = refl
none_before first place (b ∷ bs) before = by_test b (none_before (first + 1) place bs (omega (arith, before))) where
  other : eqb first place ≡ false
  other = grind (arith, nat_tests, before)

  by_test : (b : Bool) → filter (λ other. not (eqb other place)) (places_of (first + 1) bs) ≡ places_of (first + 1) bs
      → filter (λ other. not (eqb other place)) (places_of first (b ∷ bs)) ≡ places_of first (b ∷ bs)
  by_test true later = rw (other, later) refl
  by_test false later = later

pub places-without : (first place : ℕ) (bs : List Bool) → filter (λ other. not (eqb other (first + place))) (places_of first bs) ≡ places_of first (slice_set bs place false)
places-without first place [] = refl
places-without first zero (b ∷ bs) = by_test b where
  same : first + 0 ≡ first
  same = omega arith

  itself : eqb first first ≡ true
  itself = grind (arith, nat_tests)

  by_test : (b : Bool) → filter (λ other. not (eqb other (first + 0))) (places_of first (b ∷ bs)) ≡ places_of (first + 1) bs
  by_test true = ap (λ n. filter (λ other. not (eqb other n)) (first ∷ places_of (first + 1) bs)) same ∙ rw itself (none_before (first + 1) first bs (omega arith))
  by_test false = ap (λ n. filter (λ other. not (eqb other n)) (places_of (first + 1) bs)) same ∙ none_before (first + 1) first bs (omega arith)
places-without first (suc place) (b ∷ bs) = by_test b (places-without (first + 1) place bs) where
  next : first + suc place ≡ first + 1 + place
  next = omega arith

  other : eqb first (first + 1 + place) ≡ false
  other = grind (arith, nat_tests)

  by_test : (b : Bool) → filter (λ other. not (eqb other (first + 1 + place))) (places_of (first + 1) bs) ≡ places_of (first + 1) (slice_set bs place false)
      → filter (λ other. not (eqb other (first + suc place))) (places_of first (b ∷ bs)) ≡ places_of first (b ∷ slice_set bs place false)
  by_test true later = ap (λ n. filter (λ other. not (eqb other n)) (first ∷ places_of (first + 1) bs)) next ∙ rw other (ap (λ ps. first ∷ ps) later)
  by_test false later = ap (λ n. filter (λ other. not (eqb other n)) (places_of (first + 1) bs)) next ∙ later

-- what `retain` keeps
pub retained : {F X : Type 0} (R : F → X → Bool → F → X → Type 0) (test : X → Bool) (f : F)
    → ((x : X) (b : Bool) (g : F) (y : X) → R f x b g y → (b ≡ test x) × (g ≡ f) × (y ≡ x))
    → (xs ys : List X) → RetainsInTurn R f xs ys → ys ≡ filter test xs
retained R test f same [] ys all = all
retained R test f same (x ∷ xs) ys all =
    let here = same x all.0 all.1 all.2 all.3 in
    let rest = retained R test f same xs all.4 (subst (λ g. RetainsInTurn R g xs all.4) here.1 all.5) in
    all.6 ∙ ap (λ b. cond b (all.2 ∷ all.4) all.4) here.0 ∙ ap (λ y. cond (test x) (y ∷ all.4) all.4) here.2 ∙ ap (λ zs. cond (test x) (x ∷ zs) zs) rest

pub map-set : {A B : Type 0} (f : A → B) (xs : List A) (i : ℕ) (y : A) → map f (slice_set xs i y) ≡ slice_set (map f xs) i (f y)
map-set f [] i y = refl
map-set f (x ∷ xs) zero y = refl
map-set f (x ∷ xs) (suc i) y = ap (λ ys. f x ∷ ys) (map-set f xs i y)

-- one client changes, and is open or not as before
pub map-same : {A B : Type 0} (f : A → B) (xs : List A) (i : ℕ) (x y : A) → slice_get xs i ≡ Some x → f y ≡ f x → map f (slice_set xs i y) ≡ map f xs
map-same f [] i x y is same = refl
map-same f (z ∷ zs) zero x y is same = let it : z ≡ x = cc in ap (λ v. v ∷ map f zs) (same ∙ sym (ap f it))
map-same f (z ∷ zs) (suc i) x y is same = ap (λ ys. f z ∷ ys) (map-same f zs i x y is same)

pub all_at : {A : Type 0} (P : A → Type 0) (xs : List A) (k : ℕ) (x : A) → All P xs → slice_get xs k ≡ Some x → P x
all_at P xs k x all is = subst P (get_or_from_slice_get xs k x x is) (all k x (slice_get_within xs k x is))

pub slice_get_or : {A : Type 0} (xs : List A) (k : ℕ) (d : A) → k < length xs → slice_get xs k ≡ Some (get_or xs k d)
slice_get_or [] k d below = absurd (omega (arith, below))
slice_get_or (x ∷ xs) zero d below = refl
slice_get_or (x ∷ xs) (suc k) d below = slice_get_or xs k d (omega (arith, below))

-- ---- a frame for each

pub still_open : (frame : List ℕ) (c : Client) → is_open (with_frame frame c) ≡ is_open c
still_open frame c = by_outbox c.outbox where
  by_outbox : (o : Option Waiting) → is_some (option_map (added frame ((length frame, 1) ∷ [])) o) ≡ is_some o
  by_outbox None = refl
  by_outbox (Some w) = refl

pub open_frames : (frame : List ℕ) (clients : List Client) → map is_open (map (with_frame frame) clients) ≡ map is_open clients
open_frames frame [] = refl
open_frames frame (c ∷ cs) = ap (λ b. b ∷ map is_open (map (with_frame frame) cs)) (still_open frame c) ∙ ap (λ bs. is_open c ∷ bs) (open_frames frame cs)

-- and none is put a reply
pub replies_frames : (frame : List ℕ) (clients : List Client) → map (λ (c : Client). c.replies) (map (with_frame frame) clients) ≡ map (λ (c : Client). c.replies) clients
replies_frames frame [] = refl
replies_frames frame (c ∷ cs) = ap (λ ns. c.replies ∷ ns) (replies_frames frame cs)

-- a client that has gone is sent nothing
gone_same : (frame : List ℕ) (c : Client) → is_open c ≡ false → with_frame frame c ≡ c
gone_same frame c gone = by_outbox c.outbox gone where
  by_outbox : (o : Option Waiting) → is_some o ≡ false → with_frame frame (record c { outbox = o }) ≡ record c { outbox = o }
  by_outbox None e = refl
  by_outbox (Some w) e = absurd cc

-- the first so many that are open were sent it
abbrev pub put_first : List ℕ → ℕ → List Client → List Client
put_first frame k [] = []
put_first frame zero (c ∷ cs) = c ∷ cs
put_first frame (suc k) (c ∷ cs) = cond (is_open c) (with_frame frame c ∷ put_first frame k cs) (c ∷ put_first frame (suc k) cs)

pub put-none : (frame : List ℕ) (cs : List Client) → put_first frame 0 cs ≡ cs
put-none frame [] = refl
put-none frame (c ∷ cs) = refl

put-here : (frame : List ℕ) (k : ℕ) (c : Client) (cs : List Client) → is_open c ≡ true → put_first frame (suc k) (c ∷ cs) ≡ with_frame frame c ∷ put_first frame k cs
put-here frame k c cs there = ap (λ b. cond b (with_frame frame c ∷ put_first frame k cs) (c ∷ put_first frame (suc k) cs)) there

put-past : (frame : List ℕ) (k : ℕ) (c : Client) (cs : List Client) → is_open c ≡ false → put_first frame k (c ∷ cs) ≡ c ∷ put_first frame k cs
put-past frame zero c cs gone = ap (λ ds. c ∷ ds) (sym (put-none frame cs))
put-past frame (suc k) c cs gone = ap (λ b. cond b (with_frame frame c ∷ put_first frame k cs) (c ∷ put_first frame (suc k) cs)) gone

pub put-all : (frame : List ℕ) (first : ℕ) (cs : List Client) → put_first frame (length (places_of first (map is_open cs))) cs ≡ map (with_frame frame) cs
put-all frame first [] = refl
put-all frame first (c ∷ cs) = by_test (is_open c) refl (put-all frame (first + 1) cs) where
  later : List ℕ
  later = places_of (first + 1) (map is_open cs)

  by_test : (b : Bool) → is_open c ≡ b → put_first frame (length later) cs ≡ map (with_frame frame) cs
      → put_first frame (length (cond (is_open c) (first ∷ later) later)) (c ∷ cs) ≡ with_frame frame c ∷ map (with_frame frame) cs
  by_test true there rest =
      ap (λ b. put_first frame (length (cond b (first ∷ later) later)) (c ∷ cs)) there
      ∙ put-here frame (length later) c cs there ∙ ap (λ ds. with_frame frame c ∷ ds) rest
  by_test false gone rest =
      ap (λ b. put_first frame (length (cond b (first ∷ later) later)) (c ∷ cs)) gone
      ∙ put-past frame (length later) c cs gone ∙ ap (λ ds. c ∷ ds) rest ∙ ap (λ d. d ∷ map (with_frame frame) cs) (sym (gone_same frame c gone))

-- the client at this place is the next one, and was not sent it yet
abbrev pub IsNextPut : List ℕ → ℕ → ℕ → List Client → ℕ → Type 0
IsNextPut frame first k cs p =
    (i : ℕ) × (p ≡ first + i) × (c : Client) × (slice_get cs i ≡ Some c) × (slice_get (put_first frame k cs) i ≡ Some c)
    × (slice_set (put_first frame k cs) i (with_frame frame c) ≡ put_first frame (suc k) cs)

next-behind : (frame : List ℕ) (first k j : ℕ) (head c : Client) (cs : List Client) (p : ℕ)
    → put_first frame k (c ∷ cs) ≡ head ∷ put_first frame j cs → put_first frame (suc k) (c ∷ cs) ≡ head ∷ put_first frame (suc j) cs
    → IsNextPut frame (first + 1) j cs p → IsNextPut frame first k (c ∷ cs) p
next-behind frame first k j head c cs p now next it = (
  suc it.0,
  omega (arith, it.1),
  it.2,
  it.3,
  ap (λ ds. slice_get ds (suc it.0)) now ∙ it.4,
  ap (λ ds. slice_set ds (suc it.0) (with_frame frame it.2)) now ∙ ap (λ ds. head ∷ ds) it.5 ∙ sym next,
)

pub put-next : (frame : List ℕ) (first k : ℕ) (cs : List Client) (p : ℕ) → slice_get (places_of first (map is_open cs)) k ≡ Some p → IsNextPut frame first k cs p
put-next frame first k [] p is = absurd cc
put-next frame first k (c ∷ cs) p is = by_test (is_open c) refl k is (λ j is. put-next frame (first + 1) j cs p is) where
  by_place : (k : ℕ) → is_open c ≡ true → slice_get (first ∷ places_of (first + 1) (map is_open cs)) k ≡ Some p
      → ((j : ℕ) → slice_get (places_of (first + 1) (map is_open cs)) j ≡ Some p → IsNextPut frame (first + 1) j cs p)
      → IsNextPut frame first k (c ∷ cs) p
  by_place zero there is later =
      let same : first ≡ p = cc in (
        0,
        omega (arith, same),
        c,
        refl,
        refl,
        ap (λ ds. with_frame frame c ∷ ds) (sym (put-none frame cs)) ∙ sym (put-here frame 0 c cs there),
      )
  by_place (suc j) there is later =
      next-behind frame first (suc j) j (with_frame frame c) c cs p (put-here frame j c cs there) (put-here frame (suc j) c cs there) (later j is)

  by_test : (b : Bool) → is_open c ≡ b → (k : ℕ)
      → slice_get (cond (is_open c) (first ∷ places_of (first + 1) (map is_open cs)) (places_of (first + 1) (map is_open cs))) k ≡ Some p
      → ((j : ℕ) → slice_get (places_of (first + 1) (map is_open cs)) j ≡ Some p → IsNextPut frame (first + 1) j cs p)
      → IsNextPut frame first k (c ∷ cs) p
  by_test true there k is later =
      by_place k there (ap (λ b. slice_get (cond b (first ∷ places_of (first + 1) (map is_open cs)) (places_of (first + 1) (map is_open cs))) k) (sym there) ∙ is) later
  by_test false gone k is later =
      next-behind frame first k k c c cs p (put-past frame k c cs gone) (put-past frame (suc k) c cs gone)
      (later k (ap (λ b. slice_get (cond b (first ∷ places_of (first + 1) (map is_open cs)) (places_of (first + 1) (map is_open cs))) k) (sym gone) ∙ is))

-- what the loop over the places needs at the next one
pub put-step : (frame : List ℕ) (k : ℕ) (now all : List Client) (places : List ℕ) (p : ℕ) → now ≡ put_first frame k all → places ≡ places_of 0 (map is_open all) → slice_get places k ≡ Some p
    → (c : Client) × (slice_get all p ≡ Some c) × (slice_get now p ≡ Some c) × (slice_set now p (with_frame frame c) ≡ put_first frame (suc k) all)
put-step frame k now all places p far those is =
    let it = put-next frame 0 k all p (ap (λ ps. slice_get ps k) (sym those) ∙ is) in
    let here : it.0 ≡ p = omega (arith, it.1) in (
      it.2,
      ap (slice_get all) (sym here) ∙ it.3,
      ap (slice_get now) (sym here) ∙ ap (λ cs. slice_get cs it.0) far ∙ it.4,
      ap (λ cs. slice_set cs p (with_frame frame it.2)) far ∙ ap (λ i. slice_set (put_first frame k all) i (with_frame frame it.2)) (sym here) ∙ it.5,
    )

-- ---- room for more

gone_takes : (more : ℕ) (c : Client) → is_open c ≡ false → takes more c ≡ true
gone_takes more c gone = by_outbox c.outbox gone where
  by_outbox : (o : Option Waiting) → is_some o ≡ false → takes more (record c { outbox = o }) ≡ true
  by_outbox None e = refl
  by_outbox (Some w) e = absurd cc

-- a test of all that are open, by their places
pub takes-places : (more first : ℕ) (test : ℕ → Bool) (cs : List Client)
    → ((i : ℕ) (c : Client) → slice_get cs i ≡ Some c → test (first + i) ≡ takes more c)
    → list_all test (places_of first (map is_open cs)) ≡ list_all (takes more) cs
takes-places more first test [] same = refl
takes-places more first test (c ∷ cs) same =
    by_test (is_open c) refl (takes-places more (first + 1) test cs (λ i d is. ap test (omega arith) ∙ same (suc i) d is)) where
      later : List ℕ
      later = places_of (first + 1) (map is_open cs)

      here : test first ≡ takes more c
      here = ap test (omega arith) ∙ same 0 c refl

      by_test : (b : Bool) → is_open c ≡ b → list_all test later ≡ list_all (takes more) cs → list_all test (cond (is_open c) (first ∷ later) later) ≡ (takes more c && list_all (takes more) cs)
      by_test true there rest =
          ap (λ b. list_all test (cond b (first ∷ later) later)) there ∙ ap (λ b. b && list_all test later) here ∙ ap (λ b. takes more c && b) rest
      by_test false gone rest =
          ap (λ b. list_all test (cond b (first ∷ later) later)) gone ∙ rest ∙ sym (ap (λ b. b && list_all (takes more) cs) (gone_takes more c gone))

-- each client takes so many bytes exactly where those that are open do
pub takes_all : (more : ℕ) (cs : List Client) → list_all (takes_at cs more) (places_of 0 (map is_open cs)) ≡ list_all (takes more) cs
takes_all more cs = takes-places more 0 (takes_at cs more) cs (λ i c is. ap (λ n. takes_at cs more n) (omega arith) ∙ ap (λ o. option_map_or (takes more) o true) is)

-- ---- the list of places, behind each call

pub places-comes : (clients : List Client) (c : Client) (places : List ℕ) → is_open c ≡ true → places ≡ places_of 0 (map is_open clients)
    → places ++ length clients ∷ [] ≡ places_of 0 (map is_open (clients ++ c ∷ []))
places-comes clients c places there are =
    ap (λ ps. ps ++ length clients ∷ []) are
    ∙ ap (λ n. places_of 0 (map is_open clients) ++ n ∷ []) (omega (arith, length-map clients is_open))
    ∙ sym (places-more 0 (map is_open clients))
    ∙ ap (λ b. places_of 0 (map is_open clients ++ b ∷ [])) (sym there)
    ∙ ap (places_of 0) (sym (map-append is_open clients (c ∷ [])))

pub places-goes : (clients : List Client) (place : ℕ) (c : Client) (places : List ℕ) → is_open c ≡ false → places ≡ places_of 0 (map is_open clients)
    → filter (λ other. not (eqb other place)) places ≡ places_of 0 (map is_open (slice_set clients place c))
places-goes clients place c places gone are =
    ap (filter (λ other. not (eqb other place))) are
    ∙ ap (λ n. filter (λ other. not (eqb other n)) (places_of 0 (map is_open clients))) (omega arith)
    ∙ places-without 0 place (map is_open clients)
    ∙ ap (λ b. places_of 0 (slice_set (map is_open clients) place b)) (sym gone)
    ∙ ap (places_of 0) (sym (map-set is_open clients place c))

-- ---- the next one that is open

-- the first place from a number on that is of one that is there, where the places begin with this one
abbrev pub IsNextPlace : ℕ → ℕ → List Bool → Option ℕ → Type 0
IsNextPlace first least bs None = (k : ℕ) → least ≤ first + k → slice_get bs k ≢ Some true
IsNextPlace first least bs (Some place) =
    (n : ℕ) × (place ≡ first + n) × (least ≤ place) × (slice_get bs n ≡ Some true) × ((k : ℕ) → least ≤ first + k → k < n → slice_get bs k ≢ Some true)

-- one that is not meant stands before
passed_over : (first least : ℕ) (b : Bool) (bs : List Bool) (next : Option ℕ) → (least ≤ first → b ≢ true) → IsNextPlace (first + 1) least bs next → IsNextPlace first least (b ∷ bs) next
passed_over first least b bs None apart none = nobody where
  nobody : (k : ℕ) → least ≤ first + k → slice_get (b ∷ bs) k ≢ Some true
  nobody zero from is = apart (omega (arith, from)) (cc)
  nobody (suc k) from is = none k (omega (arith, from)) is
passed_over first least b bs (Some place) apart next = (suc next.0, omega (arith, at), next.2, next.3, nobody) where
  at : place ≡ first + 1 + next.0
  at = next.1

  nobody : (k : ℕ) → least ≤ first + k → k < suc next.0 → slice_get (b ∷ bs) k ≢ Some true
  nobody zero from before is = apart (omega (arith, from)) (cc)
  nobody (suc k) from before is = next.4 k (omega (arith, from)) (omega (arith, before)) is

pub next_place : (first least : ℕ) (bs : List Bool) → IsNextPlace first least bs (find (λ place. nat_le least place) (places_of first bs))
next_place first least [] = λ k from is. absurd cc
next_place first least (b ∷ bs) = by_test b (next_place (first + 1) least bs) where
  by_place : (t : Bool) → nat_le least first ≡ t → IsNextPlace (first + 1) least bs (find (λ place. nat_le least place) (places_of (first + 1) bs))
      → IsNextPlace first least (true ∷ bs) (cond t (Some first) (find (λ place. nat_le least place) (places_of (first + 1) bs)))
  by_place true e later = (0, omega arith, grind (arith, nat_tests, e), refl, λ k from before is. absurd (omega (arith, before)))
  by_place false e later = passed_over first least true bs (find (λ place. nat_le least place) (places_of (first + 1) bs)) (λ from is. absurd (let above : first < least = grind (arith, nat_tests, e) in omega (arith, above, from))) later

  by_test : (b : Bool) → IsNextPlace (first + 1) least bs (find (λ place. nat_le least place) (places_of (first + 1) bs))
      → IsNextPlace first least (b ∷ bs) (find (λ place. nat_le least place) (places_of first (b ∷ bs)))
  by_test true later = by_place (nat_le least first) refl later
  by_test false later = passed_over first least false bs (find (λ place. nat_le least place) (places_of (first + 1) bs)) (λ from is. absurd cc) later

-- said of clients by their numbers
pub next_open : (hub : Hub) (after : ℕ) (next : Option ℕ) → next ≡ find (λ place. nat_le after place) (places_of 0 (map is_open hub.clients)) → IsNextOpen hub after (option_map (λ place. place + 1) next)
next_open hub after next is = by_next next (subst (IsNextPlace 0 after (map is_open hub.clients)) (sym is) (next_place 0 after (map is_open hub.clients))) where
  -- whether a client is open, by its place
  told : (k : ℕ) (c : Client) → slice_get hub.clients k ≡ Some c → slice_get (map is_open hub.clients) k ≡ Some (is_open c)
  told k c e = slice_get-map is_open hub.clients k ∙ ap (option_map is_open) e

  untold : (k : ℕ) → slice_get hub.clients k ≡ None → slice_get (map is_open hub.clients) k ≡ None
  untold k e = slice_get-map is_open hub.clients k ∙ ap (option_map is_open) e

  shut : (client : ℕ) → after < client → slice_get (map is_open hub.clients) (client - 1) ≢ Some true → outbox_of hub client ≡ None
  shut client above none = let not_zero : eqb client 0 ≡ false = grind (arith, nat_tests, above) in rw not_zero (by_client (slice_get hub.clients (client - 1)) refl) where
    by_outbox : (c : Client) (w : Option Waiting) → slice_get hub.clients (client - 1) ≡ Some c → c.outbox ≡ w → c.outbox ≡ None
    by_outbox c None e f = f
    by_outbox c (Some w) e f = absurd (none (told (client - 1) c e ∙ ap (λ o. Some (is_some o)) f))

    by_client : (o : Option Client) → slice_get hub.clients (client - 1) ≡ o → option_and_then (λ c. c.outbox) o ≡ None
    by_client None e = refl
    by_client (Some c) e = by_outbox c c.outbox e refl

  there : (client : ℕ) → 0 < client → slice_get (map is_open hub.clients) (client - 1) ≡ Some true → IsSome (outbox_of hub client)
  there client some opened = let not_zero : eqb client 0 ≡ false = grind (arith, nat_tests, some) in rw not_zero (by_client (slice_get hub.clients (client - 1)) refl) where
    by_outbox : (c : Client) (w : Option Waiting) → slice_get hub.clients (client - 1) ≡ Some c → c.outbox ≡ w → IsSome w
    by_outbox c None e f = absurd (let none : Some false ≡ Some true = ap (λ o. Some (is_some o)) (sym f) ∙ sym (told (client - 1) c e) ∙ opened in cc)
    by_outbox c (Some w) e f = refl

    by_client : (o : Option Client) → slice_get hub.clients (client - 1) ≡ o → IsSome (option_and_then (λ c. c.outbox) o)
    by_client None e = absurd (let none : None ≡ Some true = sym (untold (client - 1) e) ∙ opened in cc)
    by_client (Some c) e = by_outbox c c.outbox e refl

  by_next : (o : Option ℕ) → IsNextPlace 0 after (map is_open hub.clients) o → IsNextOpen hub after (option_map (λ place. place + 1) o)
  by_next None none = λ client above. shut client above (none (client - 1) (omega (arith, above)))
  by_next (Some place) (n, at, from, opened, none) = (
    omega (arith, from),
    there (place + 1) (omega arith) (let same : place + 1 - 1 ≡ n = omega (arith, at) in rw same opened),
    λ client above below. shut client above (none (client - 1) (omega (arith, above)) (omega (arith, above, below, at))),
  )

-- it is the place of a client
pub next_within : (after : ℕ) (clients : List Client) (place : ℕ) → Some place ≡ find (λ place. nat_le after place) (places_of 0 (map is_open clients)) → place < length clients
next_within after clients place is = by_next (subst (IsNextPlace 0 after (map is_open clients)) (sym is) (next_place 0 after (map is_open clients))) where
  by_next : IsNextPlace 0 after (map is_open clients) (Some place) → place < length clients
  by_next (n, at, from, there, none) =
      let within : n < length (map is_open clients) = slice_get_within (map is_open clients) n true there in
      omega (arith, within, length-map clients is_open, at)
