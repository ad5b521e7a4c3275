-- What a daemon's step says, where the daemon before it is told by its fields.
use Rattle.std.proofs.Common.{◌≡◌, ℕ, ◌+◌, Bool, true, false, cond, eqb, inl, inr, List, [], ◌∷◌, ◌++◌, length, take, drop, refl, sym, ap, subst, ◌∙◌, arith}
use mir.Val.{bool_byte}
use Rattle.std.proofs.lemmas.Bool.Decides.{eqb_tells}
use Rattle.dl_outside.specs.Told.{FolderTold, LinkTold, NetTold}
use Rattle.dl_cells.specs.Views.{bit}
use Rattle.dl_taking.specs.declared.taking.Got.{Got}
use Rattle.dl_rounds.specs.declared.accepting.Arrival.{Arrival}
use Rattle.dl_loop.specs.RoundSteps.{AcceptsIfMay}
use Rattle.dl_loop.specs.Scene.{scene}
use Rattle.dl_loop.specs.State.{DaemonState}
use Rattle.dl_loop.specs.Steps.{Hears, Parts, Pumps}
use Rattle.dl_loop.specs.Takes.{TakesSomeOf}

module _ {L : Type 0} (told : L → LinkTold) (shown old new : DaemonState L) (is : shown ≡ old) where
  pub accepts_seen : (came : Arrival) (net net_now : NetTold L) → AcceptsIfMay told came net net_now shown new → AcceptsIfMay told came net net_now old new
  accepts_seen came net net_now accepts = subst (λ (d : DaemonState L). AcceptsIfMay told came net net_now d new) is accepts

  pub hears_seen : (moved : Bool) (folder folder_now : FolderTold) → Hears told moved folder folder_now shown new → Hears told moved folder folder_now old new
  hears_seen moved folder folder_now hears = subst (λ (d : DaemonState L). Hears told moved folder folder_now d new) is hears

  pub pumps_seen : (moved : Bool) → Pumps told moved shown new → Pumps told moved old new
  pumps_seen moved pumps = subst (λ (d : DaemonState L). Pumps told moved d new) is pumps

  pub parts_seen : Parts told shown new → Parts told old new
  parts_seen parts = subst (λ (d : DaemonState L). Parts told d new) is parts

take_front : {A : Type 0} (xs ys : List A) → take (length xs) (xs ++ ys) ≡ xs
take_front [] ys = refl
take_front (x ∷ xs) ys = ap (λ (zs : List _). x ∷ zs) (take_front xs ys)

-- a slice of a vector that is as long as before is all of it
pub slice_back : {A : Type 0} (len : ℕ) (items new : List A) → length new ≡ len → take len (new ++ drop (length new) items) ≡ new
slice_back len items new long = ap (λ n. take n (new ++ drop (length new) items)) (sym long) ∙ take_front new (drop (length new) items)

-- ---- taking

pub some_seen : {L : Type 0} (app most : ℕ) (got : Got) (folder folder_now : FolderTold) (shown old new : DaemonState L) → shown ≡ old → TakesSomeOf app most got (scene shown folder) (scene new folder_now)
    → TakesSomeOf app most got (scene old folder) (scene new folder_now)
some_seen app most got folder folder_now shown old new is some = subst (λ (d : DaemonState _). TakesSomeOf app most got (scene d folder) (scene new folder_now)) is some

-- a truth value as a number
pub as_bit : (b : Bool) → bool_byte b ≡ bit b
as_bit true = refl
as_bit false = refl

-- one more is noted where there are losses, and none where there are none
pub one_noted : (noted count : ℕ) → (count ≡ 0 → ⊥) → noted + 1 ≡ noted + cond (eqb count 0) 0 1
one_noted noted count some = elim (eqb_tells count 0) [
  | inl none ↦ absurd (some none.1)
  | inr apart ↦ ap (λ (b : Bool). noted + cond b 0 1) (sym apart.0)
]

pub none_noted : (noted count : ℕ) → count ≡ 0 → noted ≡ noted + cond (eqb count 0) 0 1
none_noted noted count none = elim (eqb_tells count 0) [
  | inl same ↦ omega arith ∙ ap (λ (b : Bool). noted + cond b 0 1) (sym same.0)
  | inr apart ↦ absurd (apart.1 none)
]

-- the net is told as before
pub accepts_then : {L : Type 0} (told : L → LinkTold) (came : Arrival) (net net_now net_end : NetTold L) (old new : DaemonState L) → net_now ≡ net_end → AcceptsIfMay told came net net_now old new
    → AcceptsIfMay told came net net_end old new
accepts_then {L} told came net net_now net_end old new is accepts = subst (λ (n : NetTold L). AcceptsIfMay told came net n old new) is accepts
