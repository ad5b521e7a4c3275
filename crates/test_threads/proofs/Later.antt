-- Writers of a desk, as it makes more of them and as they log.
use Rattle.std.proofs.Common.{◌≡◌, ℕ, inl, inr, List, [], ◌∷◌, ◌++◌, length, map, Option, Some, None, Result, Ok, Err, refl, sym, ap, ◌∙◌, subst, append_assoc}
use Rattle.std.specs.Prelude.{All, IfErr, IfNone, IfOk, IfSome, OnErr}
use Rattle.std.specs.List.{range_with_len}
use Rattle.std.proofs.lemmas.List.{length-map, map-append}
use Rattle.std.proofs.lemmas.List.Elements.{All-head, All-push, All-tail}
use Rattle.std.proofs.lemmas.List.FromFn.{length-range_with_len}
use Rattle.dl_bytes.specs.Context.{Context}
use Rattle.dl_bytes.specs.Payload.{Arguments}
use Rattle.dl_bytes.specs.declared.level.Severity.{Severity}
use Rattle.dl_events.specs.declared.record.Answer.{Answer}
use Rattle.dl_events.specs.declared.record.Record.{Record}
use Rattle.dl_writer.specs.Calls.{Keeps, after}
use Rattle.dl_writer.specs.Claiming.{IsTableFull, KeepsRegistered, Registers}
use Rattle.dl_writer.specs.declared.fault.RegisterFault.{RegisterFault}
use Rattle.dl_writer.specs.declared.fault.RegisterFault.TheVariants.{TableFull}
use Rattle.dl_writer.specs.State.{BookState, WriterState, numbers}
use Rattle.dl_desk.specs.Made.{IsLater, IsMadeWith}
use Rattle.dl_desk.specs.State.{DeskState}

-- ---- a writer that logs and claims

-- it stays one of its desk, under its number and with its base
pub record IsStill (old new : WriterState) : Type 0 where
  pub made : (desk : DeskState) → IsMadeWith desk old → IsMadeWith desk new
  pub number : new.push.number ≡ old.push.number
  pub base : new.base ≡ old.base

still_on : (first second third : WriterState) → IsStill first second → IsStill second third → IsStill first third
still_on first second third a b = record { made = λ desk is. b.made desk (a.made desk is); number = b.number ∙ a.number; base = b.base ∙ a.base }

-- ---- its book

abbrev pub IsSame : BookState → BookState → Type 0
IsSame old new = IsStill old.writer new.writer

pub same_book : (b : BookState) → IsSame b b
same_book b = record { made = λ desk made. made; number = refl; base = refl }

pub same_on : (first second third : BookState) → IsSame first second → IsSame second third → IsSame first third
same_on first second third a b = still_on first.writer second.writer third.writer a b

same_as : (old new : BookState) → new ≡ old → IsSame old new
same_as old new is = subst (IsSame old) (sym is) (same_book old)

-- where a call leaves a writer one of its desk, it is the same after each call
pub logs : ((desk : DeskState) (w : WriterState) (r : Record) → IsMadeWith desk w → IsMadeWith desk (after w r))
    → {F : Type 0} (answer : Result Answer F) (old new : BookState) (ctx : Context) (severity : Severity) (at : ℕ) (payload : Arguments)
    → OnErr answer (new ≡ old) → IfOk answer (λ what. Keeps old ctx severity at payload what new) → IsSame old new
logs stays (Err fault) old new ctx severity at payload is _ = same_as old new is
logs stays (Ok what) old new ctx severity at payload _ keeps = record {
  made = λ desk made. subst (λ (b : BookState). IsMadeWith desk b.writer) (sym keeps.kept) (stays desk old.writer keeps.made made);
  number = ap (λ (b : BookState). b.writer.push.number) keeps.kept;
  base = ap (λ (b : BookState). b.writer.base) keeps.kept;
}

-- and the same of claims
module _ (stays : (desk : DeskState) (w new : WriterState) (ctid : List ℕ) (level : Option ℕ) (text : List ℕ) (ctx : Context) → Registers w ctid level text ctx new → IsMadeWith desk w → IsMadeWith desk new)
    (stays_full : (desk : DeskState) (w new : WriterState) → IsTableFull w new → IsMadeWith desk w → IsMadeWith desk new) where
  registered : (old new : WriterState) (ctid : List ℕ) (level : Option ℕ) (text : List ℕ) (ctx : Context) → Registers old ctid level text ctx new → IsStill old new
  registered old new ctid level text ctx r = record {
    made = λ desk made. stays desk old new ctid level text ctx r made;
    number = ap (λ (w : WriterState). w.push.number) r.announced.pushed ∙ ap (λ (w : WriterState). w.push.number) r.joins.joined;
    base = ap (λ (w : WriterState). w.base) r.announced.pushed ∙ ap (λ (w : WriterState). w.base) r.joins.joined;
  }

  full_table : (old new : WriterState) → IsTableFull old new → IsStill old new
  full_table old new (inl none) = record {
    made = λ desk made. stays_full desk old new (inl none) made;
    number = ap (λ (w : WriterState). w.push.number) none;
    base = ap (λ (w : WriterState). w.base) none;
  }
  full_table old new (inr last) = record {
    made = λ desk made. stays_full desk old new (inr last) made;
    number = ap (λ (w : WriterState). w.push.number) last.2;
    base = ap (λ (w : WriterState). w.base) last.2;
  }

  -- whatever is answered
  pub registers : (named : Option RegisterFault) (answer : Result Context RegisterFault) (old new : BookState) (ctid : List ℕ) (level : Option ℕ) (text : List ℕ)
      → IfSome named (λ fault. (answer ≡ Err fault) × (new ≡ old)) → IfOk answer (λ ctx. KeepsRegistered old ctid level text ctx new)
      → IfNone named (IfErr answer (λ fault. (fault ≡ TableFull) × (new ≡ record old { writer = new.writer }) × IsTableFull old.writer new.writer)) → IsSame old new
  registers named (Ok ctx) old new ctid level text _ kept _ = registered old.writer new.writer ctid level text ctx kept.registered
  registers (Some fault) (Err other) old new ctid level text is _ _ = same_as old new is.1
  registers None (Err other) old new ctid level text _ _ full = full_table old.writer new.writer full.2

-- ---- threads that are started and joined, one at a time

module _ {C : Type 0} (number : C → ℕ) where
  pub one_started : (children now : List C) (child : C) (waiting rest : List BookState) (b : BookState) (all : List ℕ) → waiting ≡ b ∷ rest → now ≡ children ++ child ∷ []
      → number child ≡ b.writer.push.number → map number children ++ numbers waiting ≡ all → map number now ++ numbers rest ≡ all
  one_started children now child waiting rest b all next more same before =
      ap (λ (l : List C). map number l ++ numbers rest) more
      ∙ ap (λ (l : List ℕ). l ++ numbers rest) (map-append number children (child ∷ []) ∙ ap (λ (n : ℕ). map number children ++ n ∷ []) same)
      ∙ append_assoc (map number children) (b.writer.push.number ∷ []) (numbers rest)
      ∙ ap (λ (l : List BookState). map number children ++ numbers l) (sym next) ∙ before

  pub one_back : (books now : List BookState) (b : BookState) (waiting rest : List C) (child : C) (all : List ℕ) → waiting ≡ child ∷ rest → now ≡ books ++ b ∷ []
      → b.writer.push.number ≡ number child → numbers books ++ map number waiting ≡ all → numbers now ++ map number rest ≡ all
  one_back books now b waiting rest child all next more same before =
      ap (λ (l : List BookState). numbers l ++ map number rest) more
      ∙ ap (λ (l : List ℕ). l ++ map number rest) (map-append (λ (b : BookState). b.writer.push.number) books (b ∷ []) ∙ ap (λ (n : ℕ). numbers books ++ n ∷ []) same)
      ∙ append_assoc (numbers books) (number child ∷ []) (map number rest)
      ∙ ap (λ (l : List C). numbers books ++ map number l) (sym next) ∙ before

module _ {C : Type 0} (desk_of : C → DeskState) where
  -- those that came back, and those that are waited for
  abbrev pub Back : DeskState → List BookState → List C → Type 0
  Back desk books waiting = All (λ b. IsMadeWith desk b.writer) books × All (λ c. desk_of c ≡ desk) waiting

  pub one_made : (desk : DeskState) (books now : List BookState) (b : BookState) (waiting rest : List C) (child : C) → waiting ≡ child ∷ rest → now ≡ books ++ b ∷ []
      → IsMadeWith (desk_of child) b.writer → Back desk books waiting → Back desk now rest
  one_made desk books now b waiting rest child next more made before =
      let same : All (λ (c : C). desk_of c ≡ desk) (child ∷ rest) = subst (λ (l : List C). All (λ c. desk_of c ≡ desk) l) next before.1 in (
        subst (λ (l : List BookState). All (λ b. IsMadeWith desk b.writer) l) (sym more)
            (All-push (λ (b : BookState). IsMadeWith desk b.writer) books b before.0 (subst (λ (d : DeskState). IsMadeWith d b.writer) (All-head (λ (c : C). desk_of c ≡ desk) child rest same) made)),
        All-tail (λ (c : C). desk_of c ≡ desk) child rest same,
      )

-- of which each has the base 1
module _ {C : Type 0} (base_of : C → ℕ) where
  pub one_begun : (children now : List C) (child : C) (waiting rest : List BookState) (b : BookState) → waiting ≡ b ∷ rest → now ≡ children ++ child ∷ [] → base_of child ≡ b.writer.base
      → All (λ c. base_of c ≡ 1) children × All (λ b. b.writer.base ≡ 1) waiting → All (λ c. base_of c ≡ 1) now × All (λ b. b.writer.base ≡ 1) rest
  one_begun children now child waiting rest b next more same before =
      let all : All (λ (b : BookState). b.writer.base ≡ 1) (b ∷ rest) = subst (λ (l : List BookState). All (λ b. b.writer.base ≡ 1) l) next before.1 in (
        subst (λ (l : List C). All (λ c. base_of c ≡ 1) l) (sym more)
            (All-push (λ (c : C). base_of c ≡ 1) children child before.0 (same ∙ All-head (λ (b : BookState). b.writer.base ≡ 1) b rest all)),
        All-tail (λ (b : BookState). b.writer.base ≡ 1) b rest all,
      )

  pub one_based : (books now : List BookState) (b : BookState) (waiting rest : List C) (child : C) → waiting ≡ child ∷ rest → now ≡ books ++ b ∷ [] → b.writer.base ≡ base_of child
      → All (λ b. b.writer.base ≡ 1) books × All (λ c. base_of c ≡ 1) waiting → All (λ b. b.writer.base ≡ 1) now × All (λ c. base_of c ≡ 1) rest
  one_based books now b waiting rest child next more same before =
      let all : All (λ (c : C). base_of c ≡ 1) (child ∷ rest) = subst (λ (l : List C). All (λ c. base_of c ≡ 1) l) next before.1 in (
        subst (λ (l : List BookState). All (λ b. b.writer.base ≡ 1) l) (sym more)
            (All-push (λ (b : BookState). b.writer.base ≡ 1) books b before.0 (same ∙ All-head (λ (c : C). base_of c ≡ 1) child rest all)),
        All-tail (λ (c : C). base_of c ≡ 1) child rest all,
      )

-- ---- books that are numbered from 1 on

pub as_many : (books : List BookState) (count : ℕ) → numbers books ≡ range_with_len 1 count → length books ≡ count
as_many books count numbered = sym (length-map books (λ (b : BookState). b.writer.push.number)) ∙ ap length numbered ∙ length-range_with_len 1 count
