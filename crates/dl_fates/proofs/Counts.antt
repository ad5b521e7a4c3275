-- How many calls each writer has, with one call more.
use Rattle.std.proofs.Common.{◌≡◌, ℕ, ◌+◌, Bool, true, false, cond, eqb, List, [], ◌∷◌, ◌++◌, Option, Some, refl, sym, ap, ◌∙◌, arith}
use Rattle.std.specs.Prelude.{count_by, unwrap_or}
use Rattle.std.proofs.lemmas.Bool.{eqb-true}
use Rattle.dl_model.proofs.Lists.{count_by-append}
use Rattle.dl_fates.specs.Rows.{is_by}
use Rattle.dl_fates.specs.Written.{same_writer}
use Rattle.dl_fates.specs.declared.call.CallAt.{CallAt}
use Rattle.dl_fates.specs.declared.rows.WriterName.{WriterName}

one_more : (writer : ℕ) (before : List CallAt) (at : CallAt) → count_by (is_by writer) (before ++ at ∷ []) ≡ count_by (is_by writer) before + cond {A = ℕ} (eqb at.writer writer) 1 0
one_more writer before at = omega (arith, count_by-append (is_by writer) before (at ∷ []))

pub counts_kept : (old new : WriterName → Option ℕ) (before : List CallAt) (at : CallAt) (number : ℕ) →
    ((w : WriterName) → new w ≡ cond (same_writer (record { number = at.writer }) w) (Some number) (old w)) → number ≡ 1 + count_by (is_by at.writer) before →
    ((w : WriterName) → unwrap_or (old w) 0 ≡ count_by (is_by w.number) before) → (w : WriterName) → unwrap_or (new w) 0 ≡ count_by (is_by w.number) (before ++ at ∷ [])
counts_kept old new before at number noted is keeps w = ap (λ (o : Option ℕ). unwrap_or o 0) (noted w) ∙ by_test (eqb at.writer w.number) refl ∙ sym (one_more w.number before at) where
  by_test : (b : Bool) → eqb at.writer w.number ≡ b → unwrap_or (cond b (Some number) (old w)) 0 ≡ count_by (is_by w.number) before + cond {A = ℕ} (eqb at.writer w.number) 1 0
  by_test true same =
      let other : number ≡ 1 + count_by (is_by w.number) before = is ∙ ap (λ (n : ℕ). 1 + count_by (is_by n) before) (eqb-true at.writer w.number same) in
      let one : cond {A = ℕ} (eqb at.writer w.number) 1 0 ≡ 1 = ap (λ (b : Bool). cond {A = ℕ} b 1 0) same in
      omega (arith, other, one)
  by_test false apart =
      let none : cond {A = ℕ} (eqb at.writer w.number) 1 0 ≡ 0 = ap (λ (b : Bool). cond {A = ℕ} b 1 0) apart in
      omega (arith, keeps w, none)
