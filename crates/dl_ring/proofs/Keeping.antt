-- Each kind of step keeps the rule of a ring.
use Rattle.std.proofs.Common.{◌≡◌, ◌≢◌, ℕ, ◌+◌, ◌≤◌, ◌==◌, ◌&&◌, ◌⊎◌, Bool, true, false, true≢false, cond, List, [], ◌∷◌, ◌++◌, length, set, sym, refl, ap, ◌∙◌, subst, ⊎_elim, inl, inr, append_assoc, append-nil, zero-add, add-zero, length-append, eq-eqb, ne_eqb, arith}
use Rattle.std.specs.List.{All}
use Rattle.std.proofs.lemmas.List.Elements.{All-nil, All-cons, All-head, All-tail, All-push, filter-append}
use Rattle.std.proofs.lemmas.Bool.Decides.{eqb_tells}
use mathlib.Core.Option.{some}
use lib.ListN.{get_elem?}
use Rattle.crossbeam_queue.specs.Fifo.{Pushes, Pops, Forks, Merges, Learns}
use Rattle.crossbeam_queue.proofs.Lists.{at_set}
use Rattle.dl_cells.proofs.Bits.{bit_none, bit_small}
use Rattle.dl_ring.proofs.InjectionKeeping.{gives_else}
use Rattle.dl_ring.specs.declared.item.RingItem.{RingItem}
use Rattle.dl_cells.specs.Views.{Each, total, bit, times}
use Rattle.dl_cells.proofs.Each.{each_set, each_snoc, each_end, each_one, set_there}
use Rattle.dl_cells.proofs.Totals.{total-set, total-snoc, total_at, total_two, total_alone, times-append}
use Rattle.dl_ring.specs.declared.view.View.{View}
use Rattle.dl_ring.specs.declared.view.Sent.{Sent}
use Rattle.dl_ring.specs.Order.{writer_of, of, passes, Rest}
use Rattle.dl_ring.specs.Rule.{pusher, with_pushed, with_taken, with_given, with_joined, spent, opener, first_pusher, taker, pushers, numbered, pushes_of, Fits, Keeps}

-- of a list with one more item of this number
pub of_mine : (n : ℕ) (items : List RingItem) (x : RingItem) → writer_of x ≡ n → of n (items ++ x ∷ []) ≡ of n items ++ x ∷ []
of_mine n items x is = filter-append (λ (y : RingItem). writer_of y == n) items (x ∷ []) ∙ ap (λ (b : Bool). of n items ++ cond b (x ∷ []) []) (eq-eqb (writer_of x) n is)

-- of a list with one more item of another number
pub of_else : (n : ℕ) (items : List RingItem) (x : RingItem) → writer_of x ≢ n → of n (items ++ x ∷ []) ≡ of n items
of_else n items x not = filter-append (λ (y : RingItem). writer_of y == n) items (x ∷ []) ∙ ap (λ (b : Bool). of n items ++ cond b (x ∷ []) []) (ne_eqb (writer_of x) n not) ∙ append-nil (of n items)

-- what holds of joined passes with other numbers
joined_stay : (n : ℕ) (P Q : Sent → Type 0) → ((s : Sent) → s.number ≢ n → P s → Q s) → (xs : List Sent) → passes n xs ≡ 0 → All P xs → All Q xs
joined_stay n P Q h [] none all = All-nil Q
joined_stay n P Q h (x ∷ xs) none all =
    let apart : x.number ≢ n = λ same. let one : bit (x.number == n) ≡ 1 = ap bit (eq-eqb x.number n same) in omega arith in
    All-cons Q x xs (h x apart (All-head P x xs all)) (joined_stay n P Q h xs (omega arith) (All-tail P x xs all))

-- a pass that pushes has its number
has_own : (v : View) → v.pushes ≡ true → numbered v.number v ≡ 1 + passes v.number v.joined
has_own v may = ap (λ (b : Bool). bit (b && v.number == v.number) + passes v.number v.joined) may ∙ ap (λ (b : Bool). bit b + passes v.number v.joined) (eq-eqb v.number v.number refl)

-- one more item pushed
pushes_more : (v : View) (x : RingItem) → v.pushes ≡ true → pushes_of (with_pushed v x) ≡ pushes_of v + 1
pushes_more v x may =
    let taken_in : ℕ = total (λ (s : Sent). length s.items) v.joined in
    let one : length (v.pushed ++ x ∷ []) + taken_in ≡ (length v.pushed + taken_in) + 1 = omega (arith, length-append v.pushed (x ∷ [])) in
    ap (λ (b : Bool). cond b (length (v.pushed ++ x ∷ [])) 0 + taken_in) may ∙ one ∙ ap (λ (b : Bool). cond b (length v.pushed) 0 + taken_in + 1) (sym may)

-- the numbers are apart: another view has none of this one's
others_apart : (items : List RingItem) (views : List View) (k : Keeps items views) (n i j : ℕ) (v u : View) → get_elem? views i ≡ some v → get_elem? views j ≡ some u → j ≢ i → 1 ≤ numbered n v → numbered n u ≡ 0
others_apart items views k n i j v u at at' apart some_here = let two = total_two (numbered n) views j i u v apart at' at in let is = k.once n in let most = k.apart n in omega arith

-- what a view knows is as true of a longer list, if the item more has none of its numbers
fits_more : (seat giver : ℕ) (taken : List RingItem) (given : List ℕ) (all : List RingItem) (x : RingItem) (at : ℕ) (u : View) → numbered (writer_of x) u ≡ 0 → Fits seat giver taken given all at u
    → Fits seat giver taken given (all ++ x ∷ []) at u
fits_more seat giver taken given all x at u none f =
    record {
      takes = f.takes;
      gives = f.gives;
      pushes = λ may. f.pushes may ∙ sym (of_else u.number all x (λ same. let own = has_own u may in let m : numbered u.number u ≡ numbered (writer_of x) u = ap (λ (n : ℕ). numbered n u) (sym same) in omega arith));
      joined = joined_stay (writer_of x) (λ s. s.items ≡ of s.number all) (λ s. s.items ≡ of s.number (all ++ x ∷ [])) (λ s apart is. is ∙ sym (of_else s.number all x (λ same. apart (sym same)))) u.joined (omega arith) f.joined;
    }

-- a push that puts
pub pushes : (n id : ℕ) (v : View) (x : RingItem) → v.pushes ≡ true → writer_of x ≡ v.number → Pushes Keeps n id v x (λ w. w ≡ with_pushed v x)
pushes n id v x may is items views room k at =
    let w : View = with_pushed v x in
    let all : List RingItem = k.taken ++ items in
    let longer : all ++ x ∷ [] ≡ k.taken ++ (items ++ x ∷ []) = append_assoc k.taken items (x ∷ []) in
    let own = has_own v may in
    let own' : numbered (writer_of x) v ≡ numbered v.number v = ap (λ (m : ℕ). numbered m v) is in
    let held = total_at (numbered v.number) views id v at in
    let mine = k.known id v at in
    let once = k.once v.number in
    let most = k.apart v.number in
    let now : Fits k.seat k.giver k.taken k.given (all ++ x ∷ []) id w =
    record {
      takes = mine.takes;
      gives = mine.gives;
      pushes = λ _. ap (λ l. l ++ x ∷ []) (mine.pushes may) ∙ sym (of_mine v.number all x is);
      joined = joined_stay v.number (λ s. s.items ≡ of s.number all) (λ s. s.items ≡ of s.number (all ++ x ∷ [])) (λ s apart e. e ∙ sym (of_else s.number all x (λ same. apart (sym same ∙ is)))) v.joined (omega arith) mine.joined;
    }
    in (
      w,
      record {
        seat = k.seat;
        giver = k.giver;
        taken = k.taken;
        given = k.given;
        live = (let s = total-set pushers views id v w at in let l = k.live in omega arith);
        once = λ m. (let s = total-set (numbered m) views id v w at in let o = k.once m in omega arith);
        apart = k.apart;
        count = (let s = total-set pushes_of views id v w at in let c = k.count in
            let more = pushes_more v x may in
            omega (arith, length-append k.taken items, length-append k.taken (items ++ x ∷ []), length-append items (x ∷ [])));
        numbers = λ m none. ap (of m) (sym longer) ∙ of_else m all x (λ same. let e : times m (0 ∷ k.given) ≡ times v.number (0 ∷ k.given) = ap (λ (j : ℕ). times j (0 ∷ k.given)) (sym same ∙ is) in absurd (omega arith)) ∙ k.numbers m none;
        known = subst (λ (l : List RingItem). Each (Fits k.seat k.giver k.taken k.given l) (set views id w)) longer
            (each_set (Fits k.seat k.giver k.taken k.given (all ++ x ∷ [])) views id w now
            (λ j u apart e. fits_more k.seat k.giver k.taken k.given all x j u (others_apart items views k (writer_of x) id j v u at e apart (omega arith)) (k.known j u e)));
      },
      refl,
    )

-- what a refused push tells, of what the ring held
pub in_order : (id : ℕ) (v : View) → v.pushes ≡ true → Learns Keeps id v (λ items. (taken : List RingItem) × (of v.number (taken ++ items) ≡ v.pushed))
in_order id v may items views k at = (k.taken, sym ((k.known id v at).pushes may))

-- a view that stands for no pass has no number, and has pushed nothing
no_joined : (j : List Sent) → length j ≡ 0 → j ≡ []
no_joined [] e = refl
no_joined (x ∷ xs) e = absurd (omega arith)

still_numbered : (n : ℕ) (v : View) → v.pushes ≡ false → numbered n v ≡ passes n v.joined
still_numbered n v b = ap (λ (c : Bool). bit (c && v.number == n) + passes n v.joined) b ∙ zero-add (passes n v.joined)

still_pushes : (v : View) → v.pushes ≡ false → pushes_of v ≡ total (λ (s : Sent). length s.items) v.joined
still_pushes v b = ap (λ (c : Bool). cond c (length v.pushed) 0 + total (λ (s : Sent). length s.items) v.joined) b ∙ zero-add (total (λ (s : Sent). length s.items) v.joined)

idle_numbered : (n : ℕ) (v : View) → pushers v ≡ 0 → numbered n v ≡ 0
idle_numbered n v e = still_numbered n v (bit_none v.pushes (omega arith)) ∙ ap (λ (j : List Sent). passes n j) (no_joined v.joined (omega arith))

idle_pushes : (v : View) → pushers v ≡ 0 → pushes_of v ≡ 0
idle_pushes v e = still_pushes v (bit_none v.pushes (omega arith)) ∙ ap (λ (j : List Sent). total (λ (s : Sent). length s.items) j) (no_joined v.joined (omega arith))

-- what the pass that takes knows of what is left
rest_of : (items : List RingItem) (views : List View) → Keeps items views → (id : ℕ) (v : View) → v.takes ≡ true → get_elem? views id ≡ some v → Rest v.gives v.given v.taken v.joined items
rest_of items views k id v may at =
    let mine = k.known id v at in
    let same : v.taken ≡ k.taken = (mine.takes may).1 in
    subst (λ (l : List RingItem). Rest v.gives v.given l v.joined items) (sym same)
    (record {
      each = mine.joined;
      apart = λ n. (let a = total_at (numbered n) views id v at in let o = k.once n in let m = k.apart n in omega arith);
      whole = λ first all.
          (let given : v.given ≡ k.given = (mine.gives first).1 in
          let g : length v.given ≡ length k.given = ap length given in
          let live = k.live in
          let one = total_at pushers views id v at in
          let idle : v.pushes ≡ false = bit_none v.pushes (omega arith) in
          let alone : total pushers views ≡ pushers v = omega arith in
          record {
            no_others = λ n none. k.numbers n (let t = total_alone pushers (numbered n) views id v at alone (λ _ u _ e. idle_numbered n u e) in let s = still_numbered n v idle in let o = k.once n in omega arith);
            count = (let t = total_alone pushers pushes_of views id v at alone (λ _ u _ e. idle_pushes u e) in let s = still_pushes v idle in let c = k.count in omega arith);
          });
    })

-- what a look tells, and a take that finds nothing
pub rests : (id : ℕ) (v : View) → v.takes ≡ true → Learns Keeps id v (λ items. Rest v.gives v.given v.taken v.joined items)
rests id v may items views k at = rest_of items views k id v may at

-- a take that gives
pub takes : (id : ℕ) (v : View) → v.takes ≡ true → Pops Keeps id v (λ x w. (w ≡ with_taken v x) × ((items : List RingItem) × Rest w.gives w.given w.taken w.joined items))
takes id v may x items views k at =
    let w : View = with_taken v x in
    let mine = k.known id v at in
    let taken : List RingItem = k.taken ++ x ∷ [] in
    let all : List RingItem = taken ++ items in
    let same : k.taken ++ (x ∷ items) ≡ all = sym (append_assoc k.taken (x ∷ []) items) in
    let known : Each (Fits k.seat k.giver taken k.given all) (set views id w) =
    each_set (Fits k.seat k.giver taken k.given all) views id w
    (let f : Fits k.seat k.giver k.taken k.given all id v = subst (λ (l : List RingItem). Fits k.seat k.giver k.taken k.given l id v) same mine in
    record { takes = λ _. ((mine.takes may).0, ap (λ l. l ++ x ∷ []) (mine.takes may).1); gives = f.gives; pushes = f.pushes; joined = f.joined })
    (λ j u apart e.
    let f : Fits k.seat k.giver k.taken k.given all j u = subst (λ (l : List RingItem). Fits k.seat k.giver k.taken k.given l j u) same (k.known j u e) in
    record { takes = λ also. absurd (apart ((f.takes also).0 ∙ sym (mine.takes may).0)); gives = f.gives; pushes = f.pushes; joined = f.joined })
    in
    let after : Keeps items (set views id w) =
    record {
      seat = k.seat;
      giver = k.giver;
      taken = taken;
      given = k.given;
      live = (let s = total-set pushers views id v w at in let l = k.live in omega arith);
      once = λ m. (let s = total-set (numbered m) views id v w at in let o = k.once m in omega arith);
      apart = k.apart;
      count = (let s = total-set pushes_of views id v w at in let c = k.count in let l : length (k.taken ++ (x ∷ items)) ≡ length all = ap length same in omega arith);
      numbers = λ m none. ap (of m) (sym same) ∙ k.numbers m none;
      known = known;
    }
    in
    (w, after, (refl, (items, rest_of items (set views id w) after id w may (set_there views id v w at))))

same_or_not : (n m : ℕ) → (n ≡ m) ⊎ (n ≢ m)
same_or_not n m = ⊎_elim (λ x. inl x.1) (λ x. inr x.1) (eqb_tells n m)

-- a new pass under a number that was not given
pub forks : (n id : ℕ) (v : View) → v.gives ≡ true → n ≢ 0 → times n v.given ≡ 0 → Forks Keeps id v (with_given v n) (pusher n)
forks n id v may positive fresh items views k at =
    let left : View = with_given v n in
    let right : View = pusher n in
    let vs : List View = set views id left in
    let mine = k.known id v at in
    let was : v.given ≡ k.given = (mine.gives may).1 in
    let given : List ℕ = k.given ++ n ∷ [] in
    let none : times n k.given ≡ 0 = ap (times n) (sym was) ∙ fresh in
    let more : (m : ℕ) → times m (0 ∷ given) ≡ times m (0 ∷ k.given) + bit (n == m) = λ m. (let t = times-append m k.given (n ∷ []) in omega arith) in
    let all : List RingItem = k.taken ++ items in
    let kept : Each (Fits k.seat k.giver k.taken given all) vs =
    each_set (Fits k.seat k.giver k.taken given all) views id left
    (record { takes = mine.takes; gives = λ _. ((mine.gives may).0, ap (λ l. l ++ n ∷ []) was); pushes = mine.pushes; joined = mine.joined })
    (λ j u apart e.
    let f = k.known j u e in
    record { takes = f.takes; gives = λ also. absurd (apart ((f.gives also).0 ∙ sym (mine.gives may).0)); pushes = f.pushes; joined = f.joined })
    in
    record {
      seat = k.seat;
      giver = k.giver;
      taken = k.taken;
      given = given;
      live = (let s = total-set pushers views id v left at in let a = total-snoc pushers vs right in let l = k.live in omega (arith, length-append k.given (n ∷ [])));
      once = λ m. (let s = total-set (numbered m) views id v left at in let a = total-snoc (numbered m) vs right in let o = k.once m in let g = more m in omega arith);
      apart = λ m. ⊎_elim
          (λ (same : n ≡ m). let one : bit (n == m) ≡ 1 = ap bit (eq-eqb n m same) in let zero_else : bit (0 == n) ≡ 0 = ap bit (ne_eqb 0 n (λ z. positive (sym z))) in
          let t : times m (0 ∷ k.given) ≡ times n (0 ∷ k.given) = ap (λ (j : ℕ). times j (0 ∷ k.given)) (sym same) in let g = more m in omega arith)
          (λ (not : n ≢ m). let nothing : bit (n == m) ≡ 0 = ap bit (ne_eqb n m not) in let g = more m in let a = k.apart m in omega arith)
          (same_or_not n m);
      count = (let s = total-set pushes_of views id v left at in let a = total-snoc pushes_of vs right in let c = k.count in omega arith);
      numbers = λ m nothing. k.numbers m (let g = more m in omega arith);
      known = each_snoc (Fits k.seat k.giver k.taken given all) vs right
          (λ _.
          record {
            takes = λ e. absurd (true≢false (sym e));
            gives = λ e. absurd (true≢false (sym e));
            pushes = λ _. sym (k.numbers n (let zero_else : bit (0 == n) ≡ 0 = ap bit (ne_eqb 0 n (λ z. positive (sym z))) in omega arith));
            joined = All-nil (λ (s : Sent). s.items ≡ of s.number all);
          })
          kept;
    }

-- who may give numbers once another pass is taken in
gives_now : (b c : Bool) (id other giver : ℕ) (mine theirs given : List ℕ) → (b ≡ true → (other ≡ giver) × (theirs ≡ given)) → (c ≡ true → (id ≡ giver) × (mine ≡ given)) → cond b true c ≡ true
    → (id ≡ cond b id giver) × (cond b theirs mine ≡ given)
gives_now true c id other giver mine theirs given t m e = (refl, (t refl).1)
gives_now false c id other giver mine theirs given t m e = m e

-- what a pass that takes in none counts
alone_pushers : (u : View) → u.pushes ≡ true → u.joined ≡ [] → pushers u ≡ 1
alone_pushers u p a = ap (λ (b : Bool). bit b + length u.joined) p ∙ ap (λ (j : List Sent). 1 + length j) a

alone_numbered : (m : ℕ) (u : View) → u.pushes ≡ true → u.joined ≡ [] → numbered m u ≡ bit (u.number == m)
alone_numbered m u p a = ap (λ (b : Bool). bit (b && u.number == m) + passes m u.joined) p ∙ ap (λ (j : List Sent). bit (u.number == m) + passes m j) a ∙ add-zero (bit (u.number == m))

alone_pushes : (u : View) → u.pushes ≡ true → u.joined ≡ [] → pushes_of u ≡ length u.pushed
alone_pushes u p a = ap (λ (b : Bool). cond b (length u.pushed) 0 + total (λ (s : Sent). length s.items) u.joined) p
    ∙ ap (λ (j : List Sent). length u.pushed + total (λ (s : Sent). length s.items) j) a ∙ add-zero (length u.pushed)

-- a joined pass is spent, and what it pushed stands with the pass that takes
pub merges : (id : ℕ) (v : View) (other : ℕ) (u : View) → v.takes ≡ true → u.takes ≡ false → u.pushes ≡ true → u.joined ≡ [] → Merges Keeps id v other u (with_joined v u) spent
merges id v other u may not_takes pushing alone items views k at two at' =
    let both : View = with_joined v u in
    let vs : List View = set views id both in
    let all : List RingItem = k.taken ++ items in
    let sent : Sent = record { number = u.number; items = u.pushed } in
    let was : get_elem? views other ≡ some u = ⊎_elim (λ x. absurd (two x.0)) (λ x. x.1) (at_set views id other both u at') in
    let mine = k.known id v at in
    let theirs = k.known other u was in
    let giver : ℕ = cond u.gives id k.giver in
    let F : ℕ → View → Type 0 = Fits k.seat giver k.taken k.given all in
    let Now : ℕ → View → Type 0 = λ j y. j ≢ other → F j y in
    let now : Each Now vs =
    each_set Now views id both
    (λ _.
    record {
      takes = mine.takes;
      gives = gives_now u.gives v.gives id other k.giver v.given u.given k.given theirs.gives mine.gives;
      pushes = mine.pushes;
      joined = All-push (λ (s : Sent). s.items ≡ of s.number all) v.joined sent mine.joined (theirs.pushes pushing);
    })
    (λ j y _ e apart.
    let f = k.known j y e in
    record {
      takes = f.takes;
      gives = λ also. (gives_else u.gives id other k.giver j (λ g. (theirs.gives g).0) apart (f.gives also).0, (f.gives also).1);
      pushes = f.pushes;
      joined = f.joined;
    })
    in
    record {
      seat = k.seat;
      giver = giver;
      taken = k.taken;
      given = k.given;
      live =
          (let s = total-set pushers views id v both at in
          let t = total-set pushers vs other u spent at' in
          let a = alone_pushers u pushing alone in
          let l = k.live in
          omega (arith, length-append v.joined (sent ∷ [])));
      once = λ m.
          (let s = total-set (numbered m) views id v both at in
          let t = total-set (numbered m) vs other u spent at' in
          let a = alone_numbered m u pushing alone in
          let o = k.once m in
          let more = total-snoc (λ (j : Sent). bit (j.number == m)) v.joined sent in
          omega arith);
      apart = k.apart;
      count =
          (let s = total-set pushes_of views id v both at in
          let t = total-set pushes_of vs other u spent at' in
          let a = alone_pushes u pushing alone in
          let c = k.count in
          let more = total-snoc (λ (j : Sent). length j.items) v.joined sent in
          omega arith);
      numbers = k.numbers;
      known = each_set F vs other spent
          (record {
            takes = λ e. absurd (true≢false (sym e));
            gives = λ e. absurd (true≢false (sym e));
            pushes = λ e. absurd (true≢false (sym e));
            joined = All-nil (λ (s : Sent). s.items ≡ of s.number all);
          })
          (λ j y apart e. now j y e apart);
    }

-- a new ring holds nothing, and its one pass has done nothing
pub begins : Keeps [] (opener ∷ [])
begins = record {
  seat = 0;
  giver = 0;
  taken = [];
  given = [];
  live = refl;
  once = λ m. omega arith;
  apart = λ m. (let small = bit_small (0 == m) in omega arith);
  count = refl;
  numbers = λ m none. refl;
  known = each_one (Fits 0 0 [] [] []) opener (record { takes = λ _. (refl, refl); gives = λ _. (refl, refl); pushes = λ _. refl; joined = All-nil (λ (s : Sent). s.items ≡ []) });
}

-- the first pass of all is cut in the one that pushes and the one that takes
pub opens : (id : ℕ) (v : View) → v ≡ opener → Forks Keeps id v first_pusher taker
opens id v is items views k at' =
    let at : get_elem? views id ≡ some opener = at' ∙ ap some is in
    let vs : List View = set views id first_pusher in
    let mine = k.known id opener at in
    let all : List RingItem = k.taken ++ items in
    let seat : ℕ = length vs in
    let kept : Each (Fits seat k.giver k.taken k.given all) vs =
    each_set (Fits seat k.giver k.taken k.given all) views id first_pusher
    (record { takes = λ e. absurd (true≢false (sym e)); gives = mine.gives; pushes = mine.pushes; joined = mine.joined })
    (λ j u apart e.
    let f = k.known j u e in
    record { takes = λ also. absurd (apart ((f.takes also).0 ∙ sym (mine.takes refl).0)); gives = f.gives; pushes = f.pushes; joined = f.joined })
    in
    record {
      seat = seat;
      giver = k.giver;
      taken = k.taken;
      given = k.given;
      live = (let s = total-set pushers views id opener first_pusher at in let a = total-snoc pushers vs taker in let l = k.live in omega arith);
      once = λ m. (let s = total-set (numbered m) views id opener first_pusher at in let a = total-snoc (numbered m) vs taker in let o = k.once m in omega arith);
      apart = k.apart;
      count = (let s = total-set pushes_of views id opener first_pusher at in let a = total-snoc pushes_of vs taker in let c = k.count in omega arith);
      numbers = k.numbers;
      known = each_end (Fits seat k.giver k.taken k.given all) vs taker
          (record {
            takes = λ _. (refl, (mine.takes refl).1);
            gives = λ e. absurd (true≢false (sym e));
            pushes = λ e. absurd (true≢false (sym e));
            joined = All-nil (λ (s : Sent). s.items ≡ of s.number all);
          })
          kept;
    }
