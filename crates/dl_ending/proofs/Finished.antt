-- A report that was written decides the status.
use Rattle.std.proofs.Common.{◌≡◌, ℕ, Bool, true, false, List, [], ◌++◌, append-nil, inl, inr, ap, subst, ◌∙◌}
use Rattle.std.specs.Prelude.{OnErr, OnOk, Result, Ok, Err, is_err}
use Rattle.dl_outside.specs.Told.{SinkTold}
use Rattle.dl_outside.specs.Written.{WroteAll, WroteFront}
use Rattle.dl_outside.specs.declared.writing.WriteError.{WriteError}
use Rattle.dl_startup.specs.Failures.{status_of}
use Rattle.dl_startup.specs.declared.failures.Failures.{Failures}
use Rattle.dl_startup.specs.declared.status.Status.{Status}
use Rattle.dl_ending.specs.Ending.{Finishes}

decided : (failures : Failures) (output known : Bool) (status : Status) → status ≡ status_of (record failures { output = output }) → output ≡ known → status ≡ status_of (record failures { output = known })
decided failures output known status is same = is ∙ ap (λ (b : Bool). status_of (record failures { output = b })) same

-- two texts one behind the other
pub two_texts : (first second text lines : List ℕ) → first ≡ text → second ≡ lines → first ++ (second ++ []) ≡ text ++ lines
two_texts first second text lines is are = ap (λ (xs : List ℕ). first ++ xs) (append-nil second ∙ are) ∙ ap (λ (xs : List ℕ). xs ++ lines) is

pub finished : (text : List ℕ) {written : List ℕ} (failures : Failures) (out out_now : SinkTold) (wrote : Result (Unit {0}) WriteError) (output : Bool) (status : Status)
    → written ≡ text → OnOk wrote (WroteAll out out_now written) → OnErr wrote (WroteFront out out_now written) → output ≡ is_err wrote
    → status ≡ status_of (record failures { output = output }) → Finishes text failures out out_now status
finished text {written} failures out out_now (Ok done) output status same ok front told is =
    inr (inl (subst (WroteAll out out_now) same ok, decided failures output false status is told))
finished text {written} failures out out_now (Err error) output status same ok front told is =
    inr (inr (subst (WroteFront out out_now) same front, decided failures output true status is told))
