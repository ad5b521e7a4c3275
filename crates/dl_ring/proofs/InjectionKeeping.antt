-- Each kind of step keeps the rule of a queue of injections.
use Rattle.std.proofs.Common.{◌≡◌, ◌≢◌, ℕ, zero, suc, ◌+◌, ◌≤◌, ◌<◌, ◌==◌, Bool, true, false, true≢false, cond, List, [], ◌∷◌, ◌++◌, length, set, sym, refl, ap, ◌∙◌, subst, ⊎_elim, append_assoc, zero-add, add-zero, eqb, ne_eqb, length-append, arith}
use Rattle.std.specs.Prelude.{nat_lt, Some, slice_get}
use Rattle.std.specs.List.{All}
use Rattle.std.proofs.lemmas.Bool.{ltb-true, ltb-false, lt-ltb, le-ltb}
use Rattle.std.proofs.lemmas.Bool.Decides.{eqb_tells}
use Rattle.std.proofs.lemmas.Option.{none-some}
use Rattle.std.proofs.lemmas.List.Elements.{All-nil, All-cons, All-head, All-tail, All-append, All-push, All-weaker}
use mathlib.Core.Option.{some}
use lib.ListN.{get_elem?}
use Rattle.crossbeam_queue.specs.Fifo.{Pushes, Pops, Forks, Merges, Learns}
use Rattle.crossbeam_queue.proofs.Lists.{at_set}
use Rattle.dl_bytes.specs.declared.item.Injection.{Injection}
use Rattle.dl_cells.specs.Views.{Each, total, bit}
use Rattle.dl_cells.proofs.Each.{each_set, each_put, each_snoc, each_end, each_one}
use Rattle.dl_cells.proofs.Totals.{total-set, total-append, total-snoc, total_at, total_alone}
use Rattle.dl_cells.proofs.Bits.{bit_none, bit_small}
use Rattle.dl_ring.specs.declared.injection_view.View.{View}
use Rattle.dl_ring.specs.declared.injection_view.Entry.{Entry}
use Rattle.dl_ring.specs.InjectionOrder.{Rises, IsPart, times, times_in, MetEmpty, Rest}
use Rattle.dl_ring.specs.InjectionRule.{pusher, taker, first_taker, opener, spent, with_pushed, with_taken, with_split, with_joined, entries, takers, times_of, takes_of, IsTaken, Fits, Keeps}

slice_get_longer : (xs ys : List Injection) (n : ℕ) (x : Injection) → slice_get xs n ≡ Some x → slice_get (xs ++ ys) n ≡ Some x
slice_get_longer [] ys n x e = absurd (none-some x e)
slice_get_longer (y ∷ xs) ys zero x e = e
slice_get_longer (y ∷ xs) ys (suc n) x e = slice_get_longer xs ys n x e

slice_get_there : (xs ys : List Injection) (x : Injection) → slice_get (xs ++ x ∷ ys) (length xs) ≡ Some x
slice_get_there [] ys x = refl
slice_get_there (y ∷ xs) ys x = slice_get_there xs ys x

-- injections with their numbers, with one more at the end
entries-snoc : (n : ℕ) (xs : List Injection) (x : Injection) → entries n (xs ++ x ∷ []) ≡ entries n xs ++ (record { number = n + length xs; injection = x }) ∷ []
entries-snoc n [] x = ap (λ (m : ℕ). (record { number = m; injection = x }) ∷ []) (sym (add-zero n))
entries-snoc n (y ∷ xs) x = ap (λ (l : List Entry). (record { number = n; injection = y }) ∷ l) (entries-snoc (suc n) xs x ∙ ap (λ (m : ℕ). entries (suc n) xs ++ (record { number = m; injection = x }) ∷ []) (omega arith))

length-entries : (n : ℕ) (xs : List Injection) → length (entries n xs) ≡ length xs
length-entries n [] = refl
length-entries n (x ∷ xs) = ap suc (length-entries (suc n) xs)

-- numbers that rise, with a higher one at the end
rises-snoc : (list : List Entry) (e : Entry) → Rises list → All (λ earlier. earlier.number < e.number) list → Rises (list ++ e ∷ [])
rises-snoc [] e r below = (All-nil (λ later. e.number < later.number), tt)
rises-snoc (x ∷ xs) e r below =
    (All-push (λ later. x.number < later.number) xs e r.0 (All-head (λ earlier. earlier.number < e.number) x xs below), rises-snoc xs e r.1 (All-tail (λ earlier. earlier.number < e.number) x xs below))

-- a part of what was pushed stays one when more is pushed
part_stays : (pushed : List Injection) (x : Injection) (front : ℕ) (list : List Entry) → IsTaken pushed front list → IsTaken (pushed ++ x ∷ []) front list
part_stays pushed x front list t = record {
  part = record {
    each = All-weaker (λ e. slice_get pushed e.number ≡ Some e.injection) (λ e. slice_get (pushed ++ x ∷ []) e.number ≡ Some e.injection) (λ e is. slice_get_longer pushed (x ∷ []) e.number e.injection is) list t.part.each;
    rises = t.part.rises;
  };
  below = t.below;
}

-- and when more is taken
below_stays : (pushed : List Injection) (front : ℕ) (list : List Entry) → IsTaken pushed front list → IsTaken pushed (suc front) list
below_stays pushed front list t = record { part = t.part; below = All-weaker (λ e. e.number < front) (λ e. e.number < suc front) (λ e h. omega arith) list t.below }

-- nothing is a part of everything
nothing_taken : (pushed : List Injection) (front : ℕ) → IsTaken pushed front []
nothing_taken pushed front = record {
  part = record { each = All-nil (λ (e : Entry). slice_get pushed e.number ≡ Some e.injection); rises = tt };
  below = All-nil (λ (e : Entry). e.number < front);
}

-- what a new pass that takes knows
untaken : (seat giver : ℕ) (pushed : List Injection) (splits front at : ℕ) → Fits seat giver pushed splits front at taker
untaken seat giver pushed splits front at = record {
  pushes = λ e. absurd (true≢false (sym e));
  gives = λ e. absurd (true≢false (sym e));
  takes = λ _. nothing_taken pushed front;
  joined = All-nil (IsTaken pushed front);
}

-- more is pushed by another pass
fits_pushed : (seat giver : ℕ) (pushed : List Injection) (x : Injection) (splits front at : ℕ) (v : View) → (v.pushes ≡ true → ⊥) → Fits seat giver pushed splits front at v
    → Fits seat giver (pushed ++ x ∷ []) splits front at v
fits_pushed seat giver pushed x splits front at v not_pushes f = record {
  pushes = λ e. absurd (not_pushes e);
  gives = f.gives;
  takes = λ e. part_stays pushed x front v.taken (f.takes e);
  joined = All-weaker (IsTaken pushed front) (IsTaken (pushed ++ x ∷ []) front) (λ l t. part_stays pushed x front l t) v.joined f.joined;
}

-- a push that puts
pub pushes : (n id : ℕ) (v : View) (x : Entry) → n ≡ 16 → v.pushes ≡ true → x.number ≡ length v.pushed → Pushes Keeps n id v x (λ w. w ≡ with_pushed v x)
pushes n id v x cap may is items views room k at =
    let w : View = with_pushed v x in
    let mine = k.known id v at in
    let pushed : List Injection = k.gone ++ k.left in
    let front : ℕ = length k.gone in
    let y : Injection = x.injection in
    let longer : pushed ++ y ∷ [] ≡ k.gone ++ (k.left ++ y ∷ []) = append_assoc k.gone k.left (y ∷ []) in
    let number : x.number ≡ front + length k.left = is ∙ ap length (mine.pushes may).1 ∙ length-append k.gone k.left in
    let known : Each (Fits k.seat k.giver (pushed ++ y ∷ []) k.splits front) (set views id w) =
    each_set (Fits k.seat k.giver (pushed ++ y ∷ []) k.splits front) views id w
    (record {
      pushes = λ _. ((mine.pushes may).0, ap (λ l. l ++ y ∷ []) (mine.pushes may).1);
      gives = mine.gives;
      takes = λ e. part_stays pushed y front v.taken (mine.takes e);
      joined = All-weaker (IsTaken pushed front) (IsTaken (pushed ++ y ∷ []) front) (λ l t. part_stays pushed y front l t) v.joined mine.joined;
    })
    (λ j u apart e. fits_pushed k.seat k.giver pushed y k.splits front j u (λ also. apart (((k.known j u e).pushes also).0 ∙ sym (mine.pushes may).0)) (k.known j u e))
    in (
      w,
      record {
        seat = k.seat;
        giver = k.giver;
        splits = k.splits;
        gone = k.gone;
        left = k.left ++ y ∷ [];
        contents = ap (λ (l : List Entry). l ++ x ∷ []) k.contents ∙ ap (λ (m : ℕ). entries front k.left ++ (record { number = m; injection = y }) ∷ []) number ∙ sym (entries-snoc front k.left y);
        room = omega (arith, length-append items (x ∷ []));
        live = (let s = total-set takers views id v w at in let l = k.live in omega arith);
        once = λ m. (let s = total-set (times_of m) views id v w at in let o = k.once m in omega arith);
        count = (let s = total-set takes_of views id v w at in let c = k.count in omega arith);
        known = subst (λ (l : List Injection). Each (Fits k.seat k.giver l k.splits front) (set views id w)) longer known;
      },
      refl,
    )

-- what a refused push tells, of what the queue held
pub full : (id : ℕ) (v : View) → v.pushes ≡ true → Learns Keeps id v (λ items. length items ≤ length v.pushed)
full id v may items views k at =
    let a : length items ≡ length k.left = ap length k.contents ∙ length-entries (length k.gone) k.left in
    let b : length v.pushed ≡ length k.gone + length k.left = ap length ((k.known id v at).pushes may).1 ∙ length-append k.gone k.left in
    omega arith

-- what leaves at the front, and what is left
popped : (front : ℕ) (left : List Injection) (x : Entry) (items : List Entry) → x ∷ items ≡ entries front left
    → (y : Injection) × (rest : List Injection) × (left ≡ y ∷ rest) × (x ≡ record { number = front; injection = y }) × (items ≡ entries (suc front) rest)
popped front [] x items e = absurd (cc)
popped front (y ∷ rest) x items e = (y, rest, refl, cc, cc)

-- an entry more, where all before are below its number
taken_more : (gone rest : List Injection) (y : Injection) (x : Entry) (list : List Entry) → x ≡ record { number = length gone; injection = y } → IsTaken (gone ++ y ∷ rest) (length gone) list
    → IsTaken (gone ++ y ∷ rest) (suc (length gone)) (list ++ x ∷ [])
taken_more gone rest y x list is t =
    let pushed : List Injection = gone ++ y ∷ rest in
    let number : x.number ≡ length gone = ap (λ (e : Entry). e.number) is in
    let there : slice_get pushed x.number ≡ Some x.injection = ap (λ (n : ℕ). slice_get pushed n) number ∙ slice_get_there gone rest y ∙ ap (λ (e : Entry). Some e.injection) (sym is) in
    record {
      part = record {
        each = All-push (λ e. slice_get pushed e.number ≡ Some e.injection) list x t.part.each there;
        rises = rises-snoc list x t.part.rises (All-weaker (λ e. e.number < length gone) (λ e. e.number < x.number) (λ e h. omega arith) list t.below);
      };
      below = All-push (λ e. e.number < suc (length gone)) list x (All-weaker (λ e. e.number < length gone) (λ e. e.number < suc (length gone)) (λ e h. omega arith) list t.below) (omega arith);
    }

-- an entry more is one number more, and one taken more
times_more : (n : ℕ) (v : View) (x : Entry) → v.takes ≡ true → times_of n (with_taken v x) ≡ times_of n v + bit (x.number == n)
times_more n v x may =
    let before : ℕ = times_in n v.joined in
    let one = total-snoc (λ (e : Entry). bit (e.number == n)) v.taken x in
    let sum : times n (v.taken ++ x ∷ []) + before ≡ times n v.taken + before + bit (x.number == n) = omega arith in
    ap (λ (b : Bool). cond b (times n (v.taken ++ x ∷ [])) 0 + before) may ∙ sum ∙ ap (λ (b : Bool). cond b (times n v.taken) 0 + before + bit (x.number == n)) (sym may)

takes_more : (v : View) (x : Entry) → v.takes ≡ true → takes_of (with_taken v x) ≡ takes_of v + 1
takes_more v x may =
    let before : ℕ = total length v.joined in
    let sum : length (v.taken ++ x ∷ []) + before ≡ length v.taken + before + 1 = omega (arith, length-append v.taken (x ∷ [])) in
    ap (λ (b : Bool). cond b (length (v.taken ++ x ∷ [])) 0 + before) may ∙ sum ∙ ap (λ (b : Bool). cond b (length v.taken) 0 + before + 1) (sym may)

-- below one more
below_by : (n front : ℕ) (b : Bool) → nat_lt n front ≡ b → bit (nat_lt n (suc front)) ≡ bit b + bit (front == n)
below_by n front true e =
    let h = ltb-true n front e in
    let one : bit (nat_lt n (suc front)) ≡ 1 = ap bit (lt-ltb n (suc front) (omega arith)) in
    let none : bit (front == n) ≡ 0 = ap bit (ne_eqb front n (λ same. omega arith)) in
    omega arith
below_by n front false e =
    let h = ltb-false n front e in
    ⊎_elim
    (λ (x : (eqb front n ≡ true) × (front ≡ n)).
    let same = x.1 in
    let one : bit (nat_lt n (suc front)) ≡ 1 = ap bit (lt-ltb n (suc front) (omega arith)) in
    let also : bit (front == n) ≡ 1 = ap bit x.0 in
    omega arith)
    (λ (x : (eqb front n ≡ false) × (front ≢ n)).
    let apart = x.1 in
    let none : bit (nat_lt n (suc front)) ≡ 0 = ap bit (le-ltb n (suc front) (omega arith)) in
    let also : bit (front == n) ≡ 0 = ap bit x.0 in
    omega arith)
    (eqb_tells front n)

bit_below : (n front : ℕ) → bit (nat_lt n (suc front)) ≡ bit (nat_lt n front) + bit (front == n)
bit_below n front = below_by n front (nat_lt n front) refl

-- a take that gives
pub gives : (id : ℕ) (v : View) → v.takes ≡ true → Pops Keeps id v (λ x w. (w ≡ with_taken v x) × Rises w.taken)
gives id v may x items views k at =
    let w : View = with_taken v x in
    let front : ℕ = length k.gone in
    let p = popped front k.left x items k.contents in
    let y : Injection = p.0 in
    let rest : List Injection = p.1 in
    let left : k.left ≡ y ∷ rest = p.2 in
    let is : x ≡ record { number = front; injection = y } = p.3 in
    let number : x.number ≡ front = ap (λ (e : Entry). e.number) is in
    let gone : List Injection = k.gone ++ y ∷ [] in
    let pushed : List Injection = k.gone ++ y ∷ rest in
    let same : pushed ≡ gone ++ rest = sym (append_assoc k.gone (y ∷ []) rest) in
    let after : suc front ≡ length gone = omega (arith, length-append k.gone (y ∷ [])) in
    let was : Each (Fits k.seat k.giver pushed k.splits front) views = subst (λ (l : List Injection). Each (Fits k.seat k.giver (k.gone ++ l) k.splits front) views) left k.known in
    let mine = was id v at in
    let now : IsTaken pushed (suc front) w.taken = taken_more k.gone rest y x v.taken is (mine.takes may) in
    let known : Each (Fits k.seat k.giver pushed k.splits (suc front)) (set views id w) =
    each_set (Fits k.seat k.giver pushed k.splits (suc front)) views id w
    (record {
      pushes = mine.pushes;
      gives = mine.gives;
      takes = λ _. now;
      joined = All-weaker (IsTaken pushed front) (IsTaken pushed (suc front)) (λ l t. below_stays pushed front l t) v.joined mine.joined;
    })
    (λ j u apart e.
    let f = was j u e in
    record {
      pushes = f.pushes;
      gives = f.gives;
      takes = λ also. below_stays pushed front u.taken (f.takes also);
      joined = All-weaker (IsTaken pushed front) (IsTaken pushed (suc front)) (λ l t. below_stays pushed front l t) u.joined f.joined;
    })
    in (
      w,
      record {
        seat = k.seat;
        giver = k.giver;
        splits = k.splits;
        gone = gone;
        left = rest;
        contents = p.4 ∙ ap (λ (m : ℕ). entries m rest) after;
        room = (let r = k.room in omega arith);
        live = (let s = total-set takers views id v w at in let l = k.live in omega arith);
        once = λ m.
            (let s = total-set (times_of m) views id v w at in
            let o = k.once m in
            let more = times_more m v x may in
            let b = bit_below m front in
            let e : bit (x.number == m) ≡ bit (front == m) = ap (λ (j : ℕ). bit (j == m)) number in
            let a : bit (nat_lt m (suc front)) ≡ bit (nat_lt m (length gone)) = ap (λ (j : ℕ). bit (nat_lt m j)) after in
            omega arith);
        count = (let s = total-set takes_of views id v w at in let c = k.count in let more = takes_more v x may in omega arith);
        known = subst (λ (z : List Injection × ℕ). Each (Fits k.seat k.giver z.0 k.splits z.1) (set views id w)) (λ i. (same i, after i)) known;
      },
      (refl, now.part.rises),
    )

-- the lists of all that was taken
unfoldable lists_of : View → List (List Entry)
lists_of v = cond v.takes (v.taken ∷ []) [] ++ v.joined

unfoldable lists_in : List View → List (List Entry)
lists_in [] = []
lists_in (v ∷ vs) = lists_of v ++ lists_in vs

lists_by : (n : ℕ) (b : Bool) (list : List Entry) → times_in n (cond b (list ∷ []) []) ≡ cond b (times n list) 0
lists_by n true list = add-zero (times n list)
lists_by n false list = refl

lists-times : (n : ℕ) (v : View) → times_in n (lists_of v) ≡ times_of n v
unfolding lists_of
lists-times n v = total-append (times n) (cond v.takes (v.taken ∷ []) []) v.joined ∙ ap (λ (m : ℕ). m + times_in n v.joined) (lists_by n v.takes v.taken)

lists_in-times : (n : ℕ) (views : List View) → times_in n (lists_in views) ≡ total (times_of n) views
unfolding lists_in
lists_in-times n [] = refl
lists_in-times n (v ∷ vs) = let a = total-append (times n) (lists_of v) (lists_in vs) in let b = lists-times n v in let c = lists_in-times n vs in omega arith

-- a view that stands for no pass that takes has taken nothing
no_joined : (j : List (List Entry)) → length j ≡ 0 → j ≡ []
no_joined [] e = refl
no_joined (x ∷ xs) e = absurd (omega arith)

still_times : (n : ℕ) (v : View) → v.takes ≡ false → times_of n v ≡ times_in n v.joined
still_times n v b = ap (λ (c : Bool). cond c (times n v.taken) 0 + times_in n v.joined) b ∙ zero-add (times_in n v.joined)

still_takes : (v : View) → v.takes ≡ false → takes_of v ≡ total length v.joined
still_takes v b = ap (λ (c : Bool). cond c (length v.taken) 0 + total length v.joined) b ∙ zero-add (total length v.joined)

idle_times : (n : ℕ) (v : View) → takers v ≡ 0 → times_of n v ≡ 0
idle_times n v e = still_times n v (bit_none v.takes (omega arith)) ∙ ap (times_in n) (no_joined v.joined (omega arith))

idle_takes : (v : View) → takers v ≡ 0 → takes_of v ≡ 0
idle_takes v e = still_takes v (bit_none v.takes (omega arith)) ∙ ap (total length) (no_joined v.joined (omega arith))

-- what holds of each pass's list holds of all
list_by : (P : List Entry → Type 0) (b : Bool) (list : List Entry) → (b ≡ true → P list) → All P (cond b (list ∷ []) [])
list_by P true list h = All-cons P list [] (h refl) (All-nil P)
list_by P false list h = All-nil P

lists_all : (P : List Entry → Type 0) (v : View) → (v.takes ≡ true → P v.taken) → All P v.joined → All P (lists_of v)
unfolding lists_of
lists_all P v mine joined = All-append P (cond v.takes (v.taken ∷ []) []) v.joined (list_by P v.takes v.taken mine) joined

lists_in-all : (P : List Entry → Type 0) (views : List View) → Each (λ _ v. (v.takes ≡ true → P v.taken) × All P v.joined) views → All P (lists_in views)
unfolding lists_in
lists_in-all P [] each = All-nil P
lists_in-all P (v ∷ vs) each =
    let mine = each 0 v refl in
    All-append P (lists_of v) (lists_in vs) (lists_all P v mine.0 mine.1) (lists_in-all P vs (λ j u e. each (suc j) u e))

-- what a take that finds nothing tells
pub empties : (id : ℕ) (v : View) → v.takes ≡ true → Learns Keeps id v (λ items. length items ≡ 0 → MetEmpty v.taken)
empties id v may items views k at none =
    let pushed : List Injection = k.gone ++ k.left in
    let front : ℕ = length k.gone in
    let P : List Entry → Type 0 = IsPart pushed in
    let apart : View = record v { takes = false } in
    let vs : List View = set views id apart in
    let held : length items ≡ length k.left = ap length k.contents ∙ length-entries front k.left in
    let len : front ≡ length pushed = omega (arith, length-append k.gone k.left) in
    let parts : Each (λ _ u. (u.takes ≡ true → P u.taken) × All P u.joined) views = λ j u e. (let f = k.known j u e in (λ t. (f.takes t).part, All-weaker (IsTaken pushed front) P (λ l t. t.part) u.joined f.joined)) in
    let mine = parts id v at in
    record {
      pushed = pushed;
      others = lists_in vs;
      parts = All-cons P v.taken (lists_in vs) (mine.0 may) (lists_in-all P vs (each_put (λ _ u. (u.takes ≡ true → P u.taken) × All P u.joined) views id apart (λ e. absurd (true≢false (sym e)), mine.1) parts));
      once = λ n.
          (let s = total-set (times_of n) views id v apart at in
          let o = k.once n in
          let l = lists_in-times n vs in
          let a : times_of n apart ≡ times_in n v.joined = still_times n apart refl in
          let b : times_of n v ≡ times n v.taken + times_in n v.joined = ap (λ (c : Bool). cond c (times n v.taken) 0 + times_in n v.joined) may in
          let c : bit (nat_lt n front) ≡ bit (nat_lt n (length pushed)) = ap (λ (m : ℕ). bit (nat_lt n m)) len in
          omega arith);
    }

-- what is below, with as much added on both sides
shift_by : (n front l all : ℕ) → all ≡ front + l → (b : Bool) → nat_lt n front ≡ b → bit b ≡ bit (nat_lt (n + l) all)
shift_by n front l all is true e = let h = ltb-true n front e in sym (ap bit (lt-ltb (n + l) all (omega arith)))
shift_by n front l all is false e = let h = ltb-false n front e in sym (ap bit (le-ltb (n + l) all (omega arith)))

bit_shift : (n front l all : ℕ) → all ≡ front + l → bit (nat_lt n front) ≡ bit (nat_lt (n + l) all)
bit_shift n front l all is = shift_by n front l all is (nat_lt n front) refl

-- what a look tells the pass that pushes
pub rests : (id : ℕ) (v : View) → v.pushes ≡ true → Learns Keeps id v (λ items. Rest v.pushed v.gives v.splits v.joined (length items))
rests id v may items views k at =
    let mine = k.known id v at in
    let front : ℕ = length k.gone in
    let pushed : List Injection = k.gone ++ k.left in
    let same : v.pushed ≡ pushed = (mine.pushes may).1 in
    let held : length items ≡ length k.left = ap length k.contents ∙ length-entries front k.left in
    let len : length pushed ≡ front + length items = omega (arith, length-append k.gone k.left) in
    subst (λ (l : List Injection). Rest l v.gives v.splits v.joined (length items)) (sym same)
    (record {
      parts = All-weaker (IsTaken pushed front) (IsPart pushed) (λ l t. t.part) v.joined mine.joined;
      apart = λ n. (let a = total_at (times_of n) views id v at in let o = k.once n in let small = bit_small (nat_lt n front) in omega arith);
      whole = λ first all.
          (let splits : v.splits ≡ k.splits = (mine.gives first).1 in
          let live = k.live in
          let one = total_at takers views id v at in
          let idle : v.takes ≡ false = bit_none v.takes (omega arith) in
          let alone : total takers views ≡ takers v = omega arith in
          record {
            once = λ n.
                (let t = total_alone takers (times_of n) views id v at alone (λ _ u _ e. idle_times n u e) in
                let s = still_times n v idle in
                let o = k.once n in
                let b = bit_shift n front (length items) (length pushed) len in
                omega arith);
            count = (let t = total_alone takers takes_of views id v at alone (λ _ u _ e. idle_takes u e) in let s = still_takes v idle in let c = k.count in omega arith);
            room = k.room;
          });
    })

-- a further pass that takes
pub forks : (id : ℕ) (v : View) → v.gives ≡ true → Forks Keeps id v (with_split v) taker
forks id v may items views k at =
    let left : View = with_split v in
    let vs : List View = set views id left in
    let mine = k.known id v at in
    let pushed : List Injection = k.gone ++ k.left in
    let front : ℕ = length k.gone in
    let splits : ℕ = k.splits + 1 in
    let kept : Each (Fits k.seat k.giver pushed splits front) vs =
    each_set (Fits k.seat k.giver pushed splits front) views id left
    (record { pushes = mine.pushes; gives = λ _. ((mine.gives may).0, ap (λ n. n + 1) (mine.gives may).1); takes = mine.takes; joined = mine.joined })
    (λ j u apart e.
    let f = k.known j u e in
    record { pushes = f.pushes; gives = λ also. absurd (apart ((f.gives also).0 ∙ sym (mine.gives may).0)); takes = f.takes; joined = f.joined })
    in
    record {
      seat = k.seat;
      giver = k.giver;
      splits = splits;
      gone = k.gone;
      left = k.left;
      contents = k.contents;
      room = k.room;
      live = (let s = total-set takers views id v left at in let a = total-snoc takers vs taker in let l = k.live in omega arith);
      once = λ m. (let s = total-set (times_of m) views id v left at in let a = total-snoc (times_of m) vs taker in let o = k.once m in omega arith);
      count = (let s = total-set takes_of views id v left at in let a = total-snoc takes_of vs taker in let c = k.count in omega arith);
      known = each_snoc (Fits k.seat k.giver pushed splits front) vs taker (λ _. untaken k.seat k.giver pushed splits front _) kept;
    }

-- who may make more passes once another pass is taken in
gives_now : (b c : Bool) (id other giver mine theirs splits : ℕ) → (b ≡ true → (other ≡ giver) × (theirs ≡ splits)) → (c ≡ true → (id ≡ giver) × (mine ≡ splits)) → cond b true c ≡ true
    → (id ≡ cond b id giver) × (cond b theirs mine ≡ splits)
gives_now true c id other giver mine theirs splits t m e = (refl, (t refl).1)
gives_now false c id other giver mine theirs splits t m e = m e

pub gives_else : (b : Bool) (id other giver j : ℕ) → (b ≡ true → other ≡ giver) → j ≢ other → j ≡ giver → j ≡ cond b id giver
gives_else true id other giver j t apart e = absurd (apart (e ∙ sym (t refl)))
gives_else false id other giver j t apart e = e

-- what a pass that takes in none counts
alone_takers : (u : View) → u.takes ≡ true → u.joined ≡ [] → takers u ≡ 1
alone_takers u p a = ap (λ (b : Bool). bit b + length u.joined) p ∙ ap (λ (j : List (List Entry)). 1 + length j) a

alone_times : (m : ℕ) (u : View) → u.takes ≡ true → u.joined ≡ [] → times_of m u ≡ times m u.taken
alone_times m u p a = ap (λ (b : Bool). cond b (times m u.taken) 0 + times_in m u.joined) p ∙ ap (λ (j : List (List Entry)). times m u.taken + times_in m j) a ∙ add-zero (times m u.taken)

alone_takes : (u : View) → u.takes ≡ true → u.joined ≡ [] → takes_of u ≡ length u.taken
alone_takes u p a = ap (λ (b : Bool). cond b (length u.taken) 0 + total length u.joined) p ∙ ap (λ (j : List (List Entry)). length u.taken + total length j) a ∙ add-zero (length u.taken)

-- a joined pass is spent, and what it took stands with the pass that pushes
pub merges : (id : ℕ) (v : View) (other : ℕ) (u : View) → v.pushes ≡ true → u.pushes ≡ false → u.takes ≡ true → u.joined ≡ [] → Merges Keeps id v other u (with_joined v u) spent
merges id v other u may not_pushes taking alone items views k at two at' =
    let both : View = with_joined v u in
    let vs : List View = set views id both in
    let pushed : List Injection = k.gone ++ k.left in
    let front : ℕ = length k.gone in
    let was : get_elem? views other ≡ some u = ⊎_elim (λ x. absurd (two x.0)) (λ x. x.1) (at_set views id other both u at') in
    let mine = k.known id v at in
    let theirs = k.known other u was in
    let giver : ℕ = cond u.gives id k.giver in
    let F : ℕ → View → Type 0 = Fits k.seat giver pushed k.splits front in
    let Now : ℕ → View → Type 0 = λ j y. j ≢ other → F j y in
    let now : Each Now vs =
    each_set Now views id both
    (λ _.
    record {
      pushes = mine.pushes;
      gives = gives_now u.gives v.gives id other k.giver v.splits u.splits k.splits theirs.gives mine.gives;
      takes = mine.takes;
      joined = All-push (IsTaken pushed front) v.joined u.taken mine.joined (theirs.takes taking);
    })
    (λ j y _ e apart.
    let f = k.known j y e in
    record {
      pushes = f.pushes;
      gives = λ also. (gives_else u.gives id other k.giver j (λ g. (theirs.gives g).0) apart (f.gives also).0, (f.gives also).1);
      takes = f.takes;
      joined = f.joined;
    })
    in
    record {
      seat = k.seat;
      giver = giver;
      splits = k.splits;
      gone = k.gone;
      left = k.left;
      contents = k.contents;
      room = k.room;
      live =
          (let s = total-set takers views id v both at in
          let t = total-set takers vs other u spent at' in
          let a = alone_takers u taking alone in
          let l = k.live in
          omega (arith, length-append v.joined (u.taken ∷ [])));
      once = λ m.
          (let s = total-set (times_of m) views id v both at in
          let t = total-set (times_of m) vs other u spent at' in
          let a = alone_times m u taking alone in
          let o = k.once m in
          let more = total-snoc (times m) v.joined u.taken in
          omega arith);
      count =
          (let s = total-set takes_of views id v both at in
          let t = total-set takes_of vs other u spent at' in
          let a = alone_takes u taking alone in
          let c = k.count in
          let more = total-snoc (length {A = Entry}) v.joined u.taken in
          omega arith);
      known = each_set F vs other spent
          (record {
            pushes = λ e. absurd (true≢false (sym e));
            gives = λ e. absurd (true≢false (sym e));
            takes = λ e. absurd (true≢false (sym e));
            joined = All-nil (IsTaken pushed front);
          })
          (λ j y apart e. now j y e apart);
    }

-- a new queue holds nothing, and its one pass has done nothing
pub begins : Keeps [] (opener ∷ [])
begins = record {
  seat = 0;
  giver = 0;
  splits = 0;
  gone = [];
  left = [];
  contents = refl;
  room = omega arith;
  live = refl;
  once = λ m. (let none : bit (nat_lt m 0) ≡ 0 = ap bit (le-ltb m 0 (omega arith)) in omega arith);
  count = refl;
  known = each_one (Fits 0 0 [] 0 0) opener
      (record {
        pushes = λ _. (refl, refl);
        gives = λ _. (refl, refl);
        takes = λ _. nothing_taken [] 0;
        joined = All-nil (IsTaken [] 0);
      });
}

-- the first pass of all is cut in the one that pushes and the first that takes
pub opens : (id : ℕ) (v : View) → v ≡ opener → Forks Keeps id v pusher first_taker
opens id v is items views k at' =
    let at : get_elem? views id ≡ some opener = at' ∙ ap some is in
    let vs : List View = set views id pusher in
    let mine = k.known id opener at in
    let pushed : List Injection = k.gone ++ k.left in
    let front : ℕ = length k.gone in
    let giver : ℕ = length vs in
    let kept : Each (Fits k.seat giver pushed k.splits front) vs =
    each_set (Fits k.seat giver pushed k.splits front) views id pusher
    (record { pushes = mine.pushes; gives = λ e. absurd (true≢false (sym e)); takes = λ e. absurd (true≢false (sym e)); joined = mine.joined })
    (λ j u apart e.
    let f = k.known j u e in
    record { pushes = f.pushes; gives = λ also. absurd (apart ((f.gives also).0 ∙ sym (mine.gives refl).0)); takes = f.takes; joined = f.joined })
    in
    record {
      seat = k.seat;
      giver = giver;
      splits = k.splits;
      gone = k.gone;
      left = k.left;
      contents = k.contents;
      room = k.room;
      live = (let s = total-set takers views id opener pusher at in let a = total-snoc takers vs first_taker in let l = k.live in omega arith);
      once = λ m. (let s = total-set (times_of m) views id opener pusher at in let a = total-snoc (times_of m) vs first_taker in let o = k.once m in omega arith);
      count = (let s = total-set takes_of views id opener pusher at in let a = total-snoc takes_of vs first_taker in let c = k.count in omega arith);
      known = each_end (Fits k.seat giver pushed k.splits front) vs first_taker
          (record {
            pushes = λ e. absurd (true≢false (sym e));
            gives = λ _. (refl, (mine.gives refl).1);
            takes = λ _. nothing_taken pushed front;
            joined = All-nil (IsTaken pushed front);
          })
          kept;
    }
