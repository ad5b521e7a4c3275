-- Each kind of step keeps the rule of the level words.
use Rattle.std.proofs.Common.{◌≡◌, ◌≢◌, ℕ, ◌+◌, ◌*◌, ◌/◌, ◌%◌, ◌<◌, ◌≤◌, true, true≢false, List, [], ◌∷◌, ◌++◌, get_or, set, replicate, All, slice_get, ◌-◌, sym, refl, ap, ◌∙◌, subst, ⊎_elim, arith, length-set, get_or-set_same, get_or-set_other}
use Rattle.std.proofs.lemmas.List.{set-get_or, get_or-replicate}
use Rattle.std.proofs.lemmas.List.Elements.{All-nil, All-push, All-append, All-weaker}
use Rattle.std.proofs.Math.ListN.{length-replicate}
use mathlib.Core.Logic.{dite}
use mathlib.Core.Option.{none, some}
use native.Mathlib.Decide.{ℕ_discrete}
use lib.ListN.{get_elem?}
use Rattle.atomic_table.specs.Table.{Me, step, keeps, opening, Allows, Splits, Joins}
use Rattle.atomic_table.proofs.Lists.{at_set}
use Rattle.dl_cells.proofs.Each.{each_set, each_put, each_snoc, each_one}
use Rattle.dl_cells.specs.declared.level_history.Change.{Change}
use Rattle.dl_cells.specs.declared.level_history.Read.{Read}
use Rattle.dl_cells.specs.declared.level_words.View.{View}
use Rattle.dl_cells.specs.declared.level_words.Shape.{Shape}
use Rattle.dl_cells.specs.LevelHistory.{change, read, current_version, IsEntry, NoneAbove}
use Rattle.dl_cells.specs.LevelRule.{read_of, IsWord, Fits, Keeps, opening_view, reader_view, joined_view, spent_view, with_read, with_change, loaded, swapped}
use Rattle.dl_cells.proofs.LevelHistories.{entry_stays, entries_stay, entry_within, entry_next, current_version-same, current_version-other}

-- a word of another slot is as before
word_else : (first slot other level word : ℕ) (sets : List Change) → other ≢ slot → IsWord first sets slot word → IsWord first (sets ++ change other level ∷ []) slot word
word_else first slot other level word sets apart h = (entry_stays first sets (change other level ∷ []) (read_of slot word) h.0, h.1 ∙ sym (current_version-other first slot other level sets apart), h.2)

-- the word of the slot that is set
word_next : (first slot word : ℕ) (sets : List Change) → word / 16 ≡ current_version first slot sets + 1 → word % 16 ≤ 6 → IsWord first (sets ++ change slot (word % 16) ∷ []) slot word
word_next first slot word sets next level = (
  subst (λ version. IsEntry first (sets ++ change slot (word % 16) ∷ []) (read slot version (word % 16))) (sym next) (entry_next first slot (word % 16) sets),
  next ∙ sym (current_version-same first slot (word % 16) sets),
  level,
)

-- no entry is above what the slot's word holds
none_above : (first slot word : ℕ) (sets : List Change) (reads : List Read) → word / 16 ≡ current_version first slot sets → All (IsEntry first sets) reads → NoneAbove slot (word / 16) reads
none_above first slot word sets reads is entries = All-weaker (IsEntry first sets) (λ r. r.slot ≡ slot → r.version ≤ word / 16)
    (λ (r : Read) entry (same : r.slot ≡ slot). let within = entry_within first sets r entry in let at : current_version first r.slot sets ≡ current_version first slot sets = ap (λ s. current_version first s sets) same in omega arith)
    reads entries

module _ (shape : Shape) where
  abbrev M : Type 0
  M = Me (Unit {0}) View

  pub opens : Keeps shape (opening (replicate shape.slots (16 * shape.first)) [] (opening_view shape))
  opens = let word : ℕ = 16 * shape.first in let version : word / 16 ≡ shape.first = omega arith in let level : word % 16 ≡ 0 = omega arith in let start : shape.first ≡ shape.first + 0 = omega arith in let none_since : shape.first - shape.first ≡ 0 = omega arith in record {
    keeper = 0;
    sets = [];
    slots = length-replicate shape.slots word;
    words = λ slot within. subst (λ w. IsWord shape.first [] slot w) (sym (get_or-replicate shape.slots slot word 0 within))
        (subst (λ (z : ℕ × ℕ). IsEntry shape.first [] (read slot z.0 z.1)) (λ i. (sym version i, sym level i)) (omega arith, ap (λ k. slice_get (0 ∷ []) k) none_since), version ∙ start, omega arith);
    fits = each_one (Fits shape.first 0 []) (opening_view shape) ((λ _. (refl, refl, refl)), All-nil (IsEntry shape.first []));
  }

  pub loads : (slots id : ℕ) (me : M) (slot : ℕ) → slot < shape.slots → Allows (Keeps shape) slots id me slot (λ n. n) (loaded (step slots slot 0 0 none) me)
  loads slots id me slot within s r _ at _ = let word : ℕ = get_or s.words slot 0 in let found : Read = read_of slot word in let w : View = with_read me.0 found in let mine = r.fits id me.0 at in
      let here = r.words slot within in let reads = All-push (IsEntry shape.first r.sets) me.0.reads found mine.1 here.0 in (
        w,
        keeps,
        tt,
        record {
          keeper = r.keeper;
          sets = r.sets;
          slots = length-set s.words slot word ∙ r.slots;
          words = λ k lt. subst (λ (ws : List ℕ). IsWord shape.first r.sets k (get_or ws k 0)) (sym (set-get_or s.words slot 0)) (r.words k lt);
          fits = each_put (Fits shape.first r.keeper r.sets) s.views id w (mine.0, reads) r.fits;
        },
        (
          refl,
          refl,
          none_above shape.first slot word r.sets me.0.reads here.1 mine.1,
          here.2,
          λ k. subst (λ (z : ℕ × List Change). All (IsEntry z.0 z.1) w.reads) (λ i. (sym (mine.0 k).1 i, sym (mine.0 k).2 i)) reads,
        ),
      )

  pub swaps : (slots id : ℕ) (me : M) (slot new : ℕ) → slot < shape.slots → me.0.keeps ≡ true → new / 16 ≡ current_version me.0.first slot me.0.sets + 1 → new % 16 ≤ 6
      → Allows (Keeps shape) slots id me slot (λ _. new) (swapped (step slots slot new 0 none) me)
  swaps slots id me slot new within keeper next level s r _ at _ = let c : Change = change slot (new % 16) in let w : View = with_change me.0 c in let mine = r.fits id me.0 at in let sets : List Change = r.sets ++ c ∷ [] in
      let known = mine.0 keeper in let next' : new / 16 ≡ current_version shape.first slot r.sets + 1 = next ∙ (λ i. current_version (known.1 i) slot (known.2 i) + 1) in (
        w,
        keeps,
        tt,
        record {
          keeper = r.keeper;
          sets = sets;
          slots = length-set s.words slot new ∙ r.slots;
          words = λ k lt. dite (ℕ_discrete k slot)
              (λ same. subst (λ j. IsWord shape.first sets j (get_or (set s.words slot new) j 0)) (sym same)
              (subst (λ n. IsWord shape.first sets slot n) (sym (get_or-set_same s.words slot new 0 (subst (λ n. slot < n) (sym r.slots) within))) (word_next shape.first slot new r.sets next' level)))
              (λ apart. subst (λ n. IsWord shape.first sets k n) (sym (get_or-set_other s.words slot k new 0 (λ e. apart e)))
              (word_else shape.first k slot (new % 16) (get_or s.words k 0) r.sets (λ e. apart (sym e)) (r.words k lt)));
          fits = each_set (Fits shape.first r.keeper sets) s.views id w ((λ _. (known.0, known.1, ap (λ (cs : List Change). cs ++ c ∷ []) known.2)), entries_stay shape.first r.sets (c ∷ []) me.0.reads mine.1)
              (λ j u other e. ((λ k. absurd (other (((r.fits j u e).0 k).0 ∙ sym known.0))), entries_stay shape.first r.sets (c ∷ []) u.reads (r.fits j u e).1));
        },
        (refl, refl),
      )

  pub splits : (id : ℕ) (v : View) → Splits (Keeps shape) id v v (reader_view v)
  splits id v s r at = let mine = r.fits id v at in let F = Fits shape.first r.keeper r.sets in record {
    keeper = r.keeper;
    sets = r.sets;
    slots = r.slots;
    words = r.words;
    fits = each_snoc F (set s.views id v) (reader_view v) (λ _. ((λ k. absurd (true≢false (sym k))), mine.1)) (each_put F s.views id v mine r.fits);
  }

  pub joins : (id : ℕ) (v : View) (other : ℕ) (u : View) → Joins (Keeps shape) id v other u (joined_view v u) spent_view
  joins id v other u s r at apart at' = let both : View = joined_view v u in let mine = r.fits id v at in
      let was : get_elem? s.views other ≡ some u = ⊎_elim (λ x. absurd (apart x.0)) (λ x. x.1) (at_set s.views id other both u at') in
      let F = Fits shape.first r.keeper r.sets in record {
        keeper = r.keeper;
        sets = r.sets;
        slots = r.slots;
        words = r.words;
        fits = each_put F (set s.views id both) other spent_view ((λ k. absurd (true≢false (sym k))), All-nil (IsEntry shape.first r.sets))
            (each_put F s.views id both (mine.0, All-append (IsEntry shape.first r.sets) v.reads u.reads mine.1 (r.fits other u was).1) r.fits);
      }
