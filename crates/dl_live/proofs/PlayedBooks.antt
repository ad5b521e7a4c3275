-- Books that were played, against what the lines ask.
use Rattle.std.proofs.Common.{◌≡◌, ℕ, ◌+◌, ◌<◌, ◌≤◌, List, [], ◌∷◌, ◌++◌, length, map, refl, sym, ap, subst, ◌∙◌, arith}
use Rattle.std.specs.Prelude.{All}
use Rattle.std.proofs.lemmas.List.Elements.{All-head, All-tail}
use Rattle.dl_bytes.specs.Claim.{Claimed}
use Rattle.dl_bytes.specs.Context.{Context}
use Rattle.dl_crew.specs.Calls.{CallContent, IsClaimOf, content_of, registers_of}
use Rattle.dl_crew.specs.Plays.{ArePairs, HasPlayed, InTurn, Plays}
use Rattle.dl_crew.proofs.Pairs.{as_many}
use Rattle.dl_events.specs.declared.record.Answer.TheVariants.{Lost}
use Rattle.dl_events.specs.declared.record.Record.{Record}
use Rattle.dl_model.specs.Accounts.{with_answer}
use Rattle.dl_opening.specs.Asked.{IsAsked, asked_of, count_behind, without_slot}
use Rattle.dl_opening.specs.Opening.{IsBookOf}
use Rattle.dl_opening.specs.Scenario.{apps, handles_from}
use Rattle.dl_opening.specs.declared.opened.Opened.{Opened}
use Rattle.dl_script_model.specs.declared.line.ClaimLine.{ClaimLine}
use Rattle.dl_script_model.specs.declared.scenario.ScenarioLine.{ScenarioLine}
use Rattle.dl_writer.specs.State.{BookState, IsWhole, WriterState}
use Rattle.dl_live.specs.Played.{HasClaimed, HasPlayedAll}

twice : {A B C : Type 0} → (f : A → B) (g : B → C) (xs : List A) → map (λ x. g (f x)) xs ≡ map g (map f xs)
twice f g [] = refl
twice f g (x ∷ xs) = ap (λ ys. g (f x) ∷ ys) (twice f g xs)

-- ---- pairs with the front of a list

-- what is paired with the front of a list, and what is left
record IsCut {A B : Type 0} (R : A → B → Type 0) (xs : List A) (ys : List B) : Type 0 where
  done : List A
  left : List A
  parts : xs ≡ done ++ left
  pairs : ArePairs R done ys

cut : {A B : Type 0} (R : A → B → Type 0) (xs : List A) (ys zs : List B) → ArePairs R xs (ys ++ zs) → IsCut R xs ys
cut R xs [] zs pairs = record { done = []; left = xs; parts = refl; pairs = tt }
cut R [] (y ∷ ys) zs pairs = absurd pairs
cut {A} R (x ∷ xs) (y ∷ ys) zs pairs =
    let rest = cut R xs ys zs pairs.1 in
    record { done = x ∷ rest.done; left = rest.left; parts = ap (λ (l : List A). x ∷ l) rest.parts; pairs = (pairs.0, rest.pairs) }

pairs_go : {A B : Type 0} (R S : A → B → Type 0) → ((x : A) (y : B) → R x y → S x y) → (xs : List A) (ys : List B) → ArePairs R xs ys → ArePairs S xs ys
pairs_go R S goes [] [] pairs = tt
pairs_go R S goes [] (y ∷ ys) pairs = absurd pairs
pairs_go R S goes (x ∷ xs) [] pairs = absurd pairs
pairs_go R S goes (x ∷ xs) (y ∷ ys) pairs = (goes x y pairs.0, pairs_go R S goes xs ys pairs.1)

-- a claim of a writer is one of it later
same_claim : (old new : WriterState) → new.app ≡ old.app → new.push.number ≡ old.push.number → (asked : ClaimLine) (claim : Claimed) → IsClaimOf old asked claim → IsClaimOf new asked claim
same_claim old new app number asked claim is =
    is ∙ ap (λ (n : ℕ). record { app = n; writer = old.push.number; place = claim.place; ctid = asked.ctid; level = asked.level; text = asked.text }) (sym app)
    ∙ ap (λ (n : ℕ). record { app = new.app; writer = n; place = claim.place; ctid = asked.ctid; level = asked.level; text = asked.text }) (sym number)

-- ---- books

module _ (lines : List ScenarioLine) (o : Opened) (same : o.plan.lines ≡ lines) (declared : o.plan.contexts ≡ handles_from lines 0 (apps lines)) where
  -- a book that had nothing yet, in which all was done
  module _ (apid : List ℕ) (old new : BookState) (asks : IsAsked lines o apid old) (is_book : IsBookOf lines apid old) (whole : IsWhole old)
      (played : HasPlayed o.plan.contexts o.plan.lines old new) (found : new.writer.table_full ≡ 0) where
    plays : Plays o.plan.contexts o.plan.lines old new
    plays = played.all (found ∙ sym is_book.unused.table_full)

    number : new.writer.push.number ≡ old.writer.push.number
    number = played.stays.number

    registered : ArePairs (IsClaimOf old.writer) (registers_of old.writer.push.number lines) plays.claims
    registered = subst (λ (l : List ScenarioLine). ArePairs (IsClaimOf old.writer) (registers_of old.writer.push.number l) plays.claims) same plays.registered

    -- its records are those of these calls
    kept : new.records ≡ plays.kept
    kept = plays.does.records ∙ ap (λ (rs : List Record). rs ++ plays.kept) is_book.records

    calls : map (λ r. without_slot (content_of r)) new.records ≡ asked_of apid new.writer.push.number lines
    calls = twice content_of without_slot new.records
        ∙ ap (λ (cs : List CallContent). map without_slot cs)
        (ap (map content_of) kept ∙ plays.calls)
        ∙ asks.calls plays.claims registered ∙ ap (λ (n : ℕ). asked_of apid n lines) (sym number)

    -- the ring took the first of its claims
    joined : plays.claims ≡ new.claims ++ new.writer.waiting
    joined = sym (plays.does.joined ∙ ap (λ (cs : List Claimed). (cs ++ old.writer.waiting) ++ plays.claims) is_book.claims
        ∙ ap (λ (cs : List Claimed). cs ++ plays.claims) is_book.unused.waiting)

    front : IsCut (IsClaimOf old.writer) (registers_of old.writer.push.number lines) new.claims
    front = cut (IsClaimOf old.writer) (registers_of old.writer.push.number lines) new.claims new.writer.waiting
        (subst (ArePairs (IsClaimOf old.writer) (registers_of old.writer.push.number lines)) joined registered)

    late : (n : ℕ) → length front.done ≤ n → n < length (registers_of new.writer.push.number lines)
        → length (with_answer Lost new.records) + count_behind new.writer.push.number n lines < new.writer.push.refusals
    late n beyond within =
        let lost = ap (λ (rs : List Record). length (with_answer Lost rs)) kept in
        let many = as_many (IsClaimOf old.writer) (registers_of old.writer.push.number lines) plays.claims registered in
        let took = as_many (IsClaimOf old.writer) front.done new.claims front.pairs in
        let asked = ap (λ (k : ℕ). length (registers_of k lines)) number in
        let none_before = ap length is_book.claims in
        let none_waited = ap length is_book.unused.waiting in
        let refused = plays.late n (omega (arith, within, asked, many)) (omega (arith, beyond, took, none_before, none_waited)) in
        let behind = asks.behind plays.claims registered n in
        let behind_now = ap (λ (k : ℕ). count_behind k n lines) number in
        let all = plays.does.refusals in
        let none_refused = is_book.unused.refusals in
        omega (arith, lost, refused, behind, behind_now, all, none_refused)

    claims : HasClaimed lines new
    claims = record {
      done = front.done;
      left = front.left;
      parts = ap (λ (n : ℕ). registers_of n lines) number ∙ front.parts;
      claimed = pairs_go (IsClaimOf old.writer) (IsClaimOf new.writer) (same_claim old.writer new.writer played.stays.app number) front.done new.claims front.pairs;
      late = late;
    }

    in_turn : InTurn (handles_from lines 0 (apps lines)) lines old new
    in_turn = subst (λ (contexts : List Context). InTurn contexts lines old new) declared
        (subst (λ (l : List ScenarioLine). InTurn o.plan.contexts l old new) same (played.in_turn (found ∙ sym is_book.unused.table_full)))

    one_book : HasPlayedAll lines apid new
    one_book =
        let asked_so = played.stays.asked_each in
        let none = ap length is_book.records in
        record { calls = calls; claims = claims; in_turn = (old, is_book, in_turn); asks = omega (arith, asked_so, none); whole = played.stays.whole whole }

  pub all_books : (apids : List (List ℕ)) (old new : List BookState) → ArePairs (IsAsked lines o) apids old → ArePairs (IsBookOf lines) apids old → All IsWhole old
      → ArePairs (HasPlayed o.plan.contexts o.plan.lines) old new → All (λ b. b.writer.table_full ≡ 0) new → ArePairs (HasPlayedAll lines) apids new
  all_books [] [] [] asks are whole played found = tt
  all_books [] [] (new ∷ news) asks are whole played found = absurd played
  all_books [] (old ∷ olds) new asks are whole played found = absurd asks
  all_books (apid ∷ apids) [] new asks are whole played found = absurd asks
  all_books (apid ∷ apids) (old ∷ olds) [] asks are whole played found = absurd played
  all_books (apid ∷ apids) (old ∷ olds) (new ∷ news) asks are whole played found = (
    one_book apid old new asks.0 are.0 (All-head IsWhole old olds whole) played.0 (All-head (λ (b : BookState). b.writer.table_full ≡ 0) new news found),
    all_books apids olds news asks.1 are.1 (All-tail IsWhole old olds whole) played.1 (All-tail (λ (b : BookState). b.writer.table_full ≡ 0) new news found),
  )
