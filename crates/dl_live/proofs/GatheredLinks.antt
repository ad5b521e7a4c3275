-- How the wait for clients ends.
use Rattle.std.proofs.Common.{◌≡◌, ◌⊎◌, inl, inr, ℕ, zero, suc, ◌≤◌, true, false, drop, length, List, [], ◌∷◌, Option, Some, None, sym, ◌∙◌, arith}
use Rattle.std.specs.Prelude.{IfSome}
use Rattle.dl_loop.specs.Coming.{HaveCome, TellsAccept}
use Rattle.dl_loop.specs.Later.{GoesRound}
use Rattle.dl_loop.specs.Scene.{Scene}
use Rattle.dl_loop.specs.State.{DaemonState}
use Rattle.dl_loop.specs.declared.round.Round.{Round}
use Rattle.dl_outside.specs.Told.{LinkTold, NetTold}
use Rattle.dl_live.specs.Playing.{Gathers, HasWaitedLong}
use Rattle.dl_lemmas.proofs.Options.{if_some_is}

dropped_all : {A : Type 0} (n : ℕ) (xs : List A) → drop n xs ≡ [] → length xs ≤ n
dropped_all zero [] none = omega arith
dropped_all zero (x ∷ xs) none = absurd cc
dropped_all (suc n) [] none = omega arith
dropped_all (suc n) (x ∷ xs) none = let rest = dropped_all n xs none in omega (arith, rest)

-- where nobody waits any more, all came that waited
pub all_came : {L : Type 0} (came : ℕ) (net between : NetTold L) (first was : DaemonState L) → HaveCome came net between first was
    → IfSome between.waiting (λ links. links ≡ []) → IfSome net.waiting (λ links. length links ≤ came)
all_came {L} came net between first was come nobody = by net.waiting come.waiting where
  by : (told : Option (List L)) → IfSome told (λ links. (came ≤ length links) × (between.waiting ≡ Some (drop came links))) → IfSome told (λ links. length links ≤ came)
  by None so = tt
  by (Some links) so = dropped_all came links (if_some_is between.waiting (λ ls. ls ≡ []) (drop came links) so.1 nobody)

-- a round whose accept failed or wanted memory is the last one
pub last_round : {L : Type 0} (told : L → LinkTold) (launched : ℕ) (answer : Round) (net last : NetTold L) (first now : Scene L) → GoesRound net last first now → (came : ℕ) → HaveCome came net last first.daemon now.daemon
    → {before : NetTold L} → TellsAccept answer before last now.daemon → (answer.failed ≡ true) ⊎ (answer.wanted ≡ true)
    → Gathers told launched (record { failed = answer.failed; wanted = answer.wanted }) net last first now
last_round told launched answer net last first now goes came come tells why = record {
  rounds = record { goes = goes; came = came; come = come };
  failed = tells.failed;
  wanted = tells.wanted;
  well = tells.well;
  all = λ well enough. elim why [
    | inl failed ↦ absurd (let both : true ≡ false = sym failed ∙ well in cc)
    | inr wanted ↦ absurd (let both : true ≡ false = sym wanted ∙ enough in cc)
  ];
}

-- as many came as were launched, or all that waited
pub gathered : {L : Type 0} (told : L → LinkTold) (launched came : ℕ) (net last : NetTold L) (first now : Scene L) → GoesRound net last first now → HaveCome came net last first.daemon now.daemon
    → (now.daemon.failed ≡ false) × (now.daemon.wanted ≡ false) → (launched ≤ came) ⊎ HasWaitedLong told came net last now → Gathers told launched (record { failed = false; wanted = false }) net last first now
gathered told launched came net last first now goes come well all = record {
  rounds = record { goes = goes; came = came; come = come };
  failed = λ failed. absurd (cc failed);
  wanted = λ wanted. absurd (cc wanted);
  well = λ failed wanted. well;
  all = λ well enough. all;
}
