-- What a desk owes with each writer that it makes.
use Rattle.std.proofs.Common.{◌≡◌, ◌≢◌, ℕ, zero, suc, ◌+◌, ◌-◌, ◌<◌, ◌≤◌, ◌==◌, Bool, true, false, eqb, List, [], ◌∷◌, ◌++◌, length, length-append, map, set, get_or, Some, slice_get, refl, sym, ap, ◌∙◌, subst, eq-eqb, ne_eqb, arith}
use Rattle.std.specs.Prelude.{if◌then◌else◌}
use Rattle.std.specs.Option.{option_map}
use Rattle.std.proofs.lemmas.List.Elements.{All-push}
use Rattle.std.proofs.lemmas.Option.{slice_get-map}
use Rattle.dl_bytes.specs.declared.conf.AppSpec.{AppSpec}
use Rattle.dl_ring.specs.State as ring
use Rattle.dl_ring.specs.InjectionState as injections
use Rattle.dl_cells.specs.LevelStates.{ReaderState}
use Rattle.dl_cells.specs.LossStates as losses
use Rattle.dl_cells.specs.Views.{bit, times}
use Rattle.dl_cells.proofs.Totals.{times_more, times_else}
use Rattle.dl_writer.specs.State.{WriterState}
use Rattle.dl_desk.specs.declared.app_handles.AppHandles.{AppHandles}
use Rattle.dl_desk.specs.declared.app_handles.FirstHandles.{FirstHandles}
use Rattle.dl_desk.specs.DeskInside.{numbers_of, AreFirst, IsDesk}
use Rattle.dl_desk.specs.Handles.{HandlesState}
use Rattle.dl_desk.specs.Made.{IsMadeWith}
use Rattle.dl_desk.specs.State.{DeskState}
use Rattle.dl_desk.proofs.Places.{there, at_set, mapped_within}

-- ---- the numbers of an application's writers

-- no number that is higher than all
pub none_yet : (app from n : ℕ) (owners : List ℕ) → from + length owners ≤ n → times n (numbers_of app from owners) ≡ 0
none_yet app from n [] high = refl
none_yet app from n (owner ∷ owners) high = by_owner (owner == app) (none_yet app (from + 1) n owners (omega (arith, high))) where
  by_owner : (own : Bool) → times n (numbers_of app (from + 1) owners) ≡ 0 → times n (if own then from ∷ numbers_of app (from + 1) owners else numbers_of app (from + 1) owners) ≡ 0
  by_owner true rest = let apart : bit (from == n) ≡ 0 = ap bit (ne_eqb from n (λ same. omega (arith, high, same))) in omega (arith, rest, apart)
  by_owner false rest = rest

-- its next writer has the next number
pub numbers_of-own : (app from : ℕ) (owners : List ℕ) → numbers_of app from (owners ++ app ∷ []) ≡ numbers_of app from owners ++ (length owners + from) ∷ []
numbers_of-own app from [] = let is : eqb app app ≡ true = eq-eqb app app refl in let none : from ≡ 0 + from = omega arith in rw is (ap (λ (n : ℕ). n ∷ []) none)
numbers_of-own app from (owner ∷ owners) = by_owner (owner == app) (numbers_of-own app (from + 1) owners ∙ ap (λ (n : ℕ). numbers_of app (from + 1) owners ++ n ∷ []) next) where
  next : length owners + (from + 1) ≡ suc (length owners) + from
  next = omega arith

  by_owner : (own : Bool) → numbers_of app (from + 1) (owners ++ app ∷ []) ≡ numbers_of app (from + 1) owners ++ (suc (length owners) + from) ∷ []
      → (if own then from ∷ numbers_of app (from + 1) (owners ++ app ∷ []) else numbers_of app (from + 1) (owners ++ app ∷ [])) ≡ (if own then from ∷ numbers_of app (from + 1) owners else numbers_of app (from + 1) owners) ++ (suc (length owners) + from) ∷ []
  by_owner true rest = ap (λ ns. from ∷ ns) rest
  by_owner false rest = rest

-- another's has no number of its
pub numbers_of-other : (app other from : ℕ) (owners : List ℕ) → other ≢ app → numbers_of app from (owners ++ other ∷ []) ≡ numbers_of app from owners
numbers_of-other app other from [] apart = let is : eqb other app ≡ false = ne_eqb other app apart in rw is refl
numbers_of-other app other from (owner ∷ owners) apart = by_owner (owner == app) (numbers_of-other app other (from + 1) owners apart) where
  by_owner : (own : Bool) → numbers_of app (from + 1) (owners ++ other ∷ []) ≡ numbers_of app (from + 1) owners
      → (if own then from ∷ numbers_of app (from + 1) (owners ++ other ∷ []) else numbers_of app (from + 1) (owners ++ other ∷ [])) ≡ (if own then from ∷ numbers_of app (from + 1) owners else numbers_of app (from + 1) owners)
  by_owner true rest = ap (λ ns. from ∷ ns) rest
  by_owner false rest = rest

pub few_times : (n : ℕ) (xs : List ℕ) → times n xs ≤ length xs
few_times n [] = omega arith
few_times n (x ∷ xs) = let rest = few_times n xs in let one = at_most_one (x == n) in omega arith where
  at_most_one : (b : Bool) → bit b ≤ 1
  at_most_one true = omega arith
  at_most_one false = omega arith

-- ---- places

module _ {A : Type 0} where
  pub is_there : (xs : List A) (place : ℕ) → place < length xs → (x : A) × (slice_get xs place ≡ Some x)
  is_there [] place within = absurd (omega (arith, within))
  is_there (x ∷ xs) zero within = (x, refl)
  is_there (x ∷ xs) (suc place) within = is_there xs place (omega (arith, within))

  pub at_end : (xs : List A) (x : A) → slice_get (xs ++ x ∷ []) (length xs) ≡ Some x
  at_end [] x = refl
  at_end (y ∷ xs) x = at_end xs x

-- an application whose id is known is there
pub known_within : (d now : DeskState) (app : ℕ) (apid : List ℕ) → d ≡ now → slice_get (map (λ s. s.apid) now.apps) app ≡ Some apid → app < length d.apps
known_within d now app apid same is =
    mapped_within (λ (s : AppSpec). s.apid) d.apps app apid (subst (λ (s : DeskState). slice_get (map (λ a. a.apid) s.apps) app ≡ Some apid) (sym same) is)

-- ---- a writer more

module _ (d : DeskState) (i : IsDesk d) (app at : ℕ) (first : FirstHandles) (here : at ≡ app) (within : app < length d.apps) (is : first ≡ get_or d.firsts at first) where
  first_there : slice_get d.firsts app ≡ Some first
  first_there = there d.firsts at app first here (let same = i.firsts in omega (arith, within)) ∙ ap Some (sym is)

  pub handles : (e : AppHandles) × (slice_get d.handles.apps app ≡ Some e)
  handles = is_there d.handles.apps app (let same = i.handles in omega (arith, within))

  pub spec : (s : AppSpec) × (slice_get d.apps app ≡ Some s)
  spec = is_there d.apps app within

  -- what its first ends are
  pub known : AreFirst app d.owners spec.0 handles.0 first
  known = i.each app spec.0 handles.0 first spec.1 handles.1 first_there

  pub gives : first.push.first ≡ true
  gives = ap (λ (p : ring.PushState). p.first) known.push

  pub takes : first.injections.first ≡ true
  takes = ap (λ (p : injections.TakeState). p.first) known.takes

  pub fresh : (n : ℕ) → length d.owners + 1 ≤ n → times n first.push.given ≡ 0
  fresh n high = ap (λ (p : ring.PushState). times n p.given) known.push ∙ none_yet app 1 n d.owners (omega (arith, high))

  pub has_room : length d.owners < 32 → first.injections.splits < 32
  has_room few = let is : first.injections.splits ≡ times app d.owners = ap (λ (p : injections.TakeState). p.splits) known.takes in let most = few_times app d.owners in omega (arith, few)

  abbrev pub with_writer : (number : ℕ) → FirstHandles
  with_writer number = record {
    push = record first.push { given = first.push.given ++ number ∷ [] };
    injections = record first.injections { splits = first.injections.splits + 1 };
  }

  one_more : (number : ℕ) → number ≡ length d.owners + 1 → (s : AppSpec) (e : AppHandles) → AreFirst app d.owners s e first → AreFirst app (d.owners ++ app ∷ []) s e (with_writer number)
  one_more number is s e a = record {
    push = ap (λ (p : ring.PushState). record p { given = p.given ++ number ∷ [] }) a.push
        ∙ ap (λ (ns : List ℕ). record (ring.unused_push e.ring.ring s.capacity 0 true) { given = ns }) (ap (λ (n : ℕ). numbers_of app 1 d.owners ++ n ∷ []) is ∙ sym (numbers_of-own app 1 d.owners));
    takes = ap (λ (p : injections.TakeState). record p { splits = p.splits + 1 }) a.takes
        ∙ ap (λ (n : ℕ). record (injections.unused_take e.queue.queue true) { splits = n }) (sym (times_more app d.owners));
    ring_joined = a.ring_joined;
    ring_first = a.ring_first;
    queue_joined = a.queue_joined;
    queue_first = a.queue_first;
  }

  other_more : (n : ℕ) → n ≢ app → (s : AppSpec) (e : AppHandles) (f : FirstHandles) → AreFirst n d.owners s e f → AreFirst n (d.owners ++ app ∷ []) s e f
  other_more n apart s e f a = record {
    push = a.push ∙ ap (λ (ns : List ℕ). record (ring.unused_push e.ring.ring s.capacity 0 true) { given = ns }) (sym (numbers_of-other n app 1 d.owners (λ same. apart (sym same))));
    takes = a.takes ∙ ap (λ (k : ℕ). record (injections.unused_take e.queue.queue true) { splits = k }) (sym (times_else n app d.owners (λ same. apart (sym same))));
    ring_joined = a.ring_joined;
    ring_first = a.ring_first;
    queue_joined = a.queue_joined;
    queue_first = a.queue_first;
  }

  -- the desk has made one writer more
  pub makes : (number : ℕ) → number ≡ length d.owners + 1 → length d.owners < 32
      → IsDesk (record d {
        firsts = set d.firsts at (with_writer number);
        readers = record d.readers { splits_left = d.readers.splits_left - 1 };
        counters = record d.counters { splits_left = d.counters.splits_left - 1 };
        owners = d.owners ++ app ∷ [];
      })
  makes number is few =
      let longer : length (d.owners ++ app ∷ []) ≡ length d.owners + 1 = length-append d.owners (app ∷ []) in
      record {
        few = i.few;
        handles = i.handles;
        firsts = length_set d.firsts at (with_writer number) ∙ i.firsts;
        each = λ n s e f is_spec is_ends is_first. at_set
            (λ (n : ℕ) (f : FirstHandles). (s : AppSpec) (e : AppHandles) → slice_get d.apps n ≡ Some s → slice_get d.handles.apps n ≡ Some e → AreFirst n (d.owners ++ app ∷ []) s e f)
            d.firsts at app (with_writer number) here
            (λ s e is_s is_e. one_more number is s e (i.each app s e first is_s is_e first_there))
            (λ n apart f is_f s e is_s is_e. other_more n apart s e f (i.each n s e f is_s is_e is_f))
            n f is_first s e is_spec is_ends;
        owned = All-push (λ (owner : ℕ). owner < length d.apps) _ _ i.owned within;
        writers = omega (arith, longer, few);
        readers = ap (λ (r : ReaderState). record r { splits_left = d.readers.splits_left - 1 }) i.readers;
        readers_left = (let left = i.readers_left in omega (arith, longer, few));
        counters = ap (λ (r : losses.WriterState). record r { splits_left = d.counters.splits_left - 1 }) i.counters;
        counters_left = (let left = i.counters_left in omega (arith, longer, few));
        counted = i.counted;
        shares = i.shares;
        claimed = i.claimed;
      } where
        length_set : {A : Type 0} (xs : List A) (k : ℕ) (x : A) → length (set xs k x) ≡ length xs
        length_set [] k x = refl
        length_set (y ∷ xs) zero x = refl
        length_set (y ∷ xs) (suc k) x = ap (λ n. suc n) (length_set xs k x)

  -- which is made with it
  pub made : (number : ℕ) (new : DeskState) (w : WriterState) → number ≡ length d.owners + 1
      → new.apps ≡ d.apps → new.handles ≡ d.handles → new.owners ≡ d.owners ++ app ∷ []
      → w.app ≡ app → slice_get (map (λ s. s.apid) d.apps) app ≡ Some w.apid → w.push ≡ ring.unused_push first.push.ring first.push.capacity number false
      → w.injections ≡ injections.unused_take first.injections.queue false
      → w.reader.table ≡ d.readers.table → w.reader.claims ≡ d.readers.claims → w.reader.splits_left ≡ 0
      → w.losses.table ≡ d.counters.table → w.losses.splits_left ≡ 0
      → IsMadeWith new w
  made number new w is apps ends_same owners is_app apid push takes_so reader claims unsplit losses_same none =
      let one : w.push.number ≡ length d.owners + 1 = ap (λ (p : ring.PushState). p.number) push ∙ is in
      let before : w.push.number - 1 ≡ length d.owners = omega (arith, one) in
      record {
        from_one = omega (arith, one);
        owner = ap (λ (k : ℕ). slice_get new.owners k) before ∙ ap (λ (os : List ℕ). slice_get os (length d.owners)) owners ∙ at_end d.owners app ∙ ap Some (sym is_app);
        apid = ap (λ (k : ℕ). slice_get (map (λ s. s.apid) new.apps) k) is_app ∙ ap (λ (apps : List AppSpec). slice_get (map (λ s. s.apid) apps) app) apps ∙ apid;
        ring = ap (λ (k : ℕ). slice_get (map (λ e. e.ring.ring) new.handles.apps) k) is_app
            ∙ ap (λ (es : HandlesState). slice_get (map (λ (e : AppHandles). e.ring.ring) es.apps) app) ends_same
            ∙ slice_get-map (λ (e : AppHandles). e.ring.ring) d.handles.apps app
            ∙ ap (option_map (λ (e : AppHandles). e.ring.ring)) handles.1
            ∙ ap Some (sym (ap (λ (p : ring.PushState). p.ring) push ∙ ap (λ (p : ring.PushState). p.ring) known.push));
        queue = ap (λ (k : ℕ). slice_get (map (λ e. e.queue.queue) new.handles.apps) k) is_app
            ∙ ap (λ (es : HandlesState). slice_get (map (λ (e : AppHandles). e.queue.queue) es.apps) app) ends_same
            ∙ slice_get-map (λ (e : AppHandles). e.queue.queue) d.handles.apps app
            ∙ ap (option_map (λ (e : AppHandles). e.queue.queue)) handles.1
            ∙ ap Some (sym (ap (λ (p : injections.TakeState). p.queue) takes_so ∙ ap (λ (p : injections.TakeState). p.queue) known.takes));
        capacity = ap (λ (k : ℕ). slice_get (map (λ s. s.capacity) new.apps) k) is_app
            ∙ ap (λ (apps : List AppSpec). slice_get (map (λ s. s.capacity) apps) app) apps
            ∙ slice_get-map (λ (s : AppSpec). s.capacity) d.apps app
            ∙ ap (option_map (λ (s : AppSpec). s.capacity)) spec.1
            ∙ ap Some (sym (ap (λ (p : ring.PushState). p.capacity) push ∙ ap (λ (p : ring.PushState). p.capacity) known.push));
        levels = reader ∙ ap (λ (r : ReaderState). r.table) i.readers ∙ sym (ap (λ (es : HandlesState). es.levels.table) ends_same);
        claims = claims ∙ ap (λ (r : ReaderState). r.claims) i.readers ∙ sym (ap (λ (es : HandlesState). es.levels.claims) ends_same);
        losses = losses_same ∙ ap (λ (r : losses.WriterState). r.table) i.counters ∙ sym (ap (λ (es : HandlesState). es.losses.table) ends_same);
        split = (ap (λ (p : ring.PushState). p.first) push, ap (λ (p : injections.TakeState). p.first) takes_so, none, unsplit);
      }
