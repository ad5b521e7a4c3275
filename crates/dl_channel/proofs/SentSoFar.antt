-- What went through a link so far.
use Rattle.std.proofs.Common.{◌≡◌, ℕ, ◌+◌, ◌≤◌, List, [], length, take, drop, Option, Some, None, inl, refl, sym, ap, subst, ◌∙◌, length-drop, arith}
use Rattle.std.proofs.lemmas.List.{append-nil, drop-drop, take-take}
use Rattle.std.proofs.Math.Seq.{take-add}
use Rattle.dl_outside.specs.Outside.{Grows}
use Rattle.dl_outside.specs.Told.{LinkTold}
use Rattle.dl_outside.proofs.Staying.{grows_both}
use Rattle.dl_hub.specs.Pumping.{IsOnlySent}
use Rattle.dl_hub.proofs.Pumping.{only_sent, only_sent-later}
use Rattle.dl_channel.specs.Pumping.{EndsSending, HasSent}
use Rattle.dl_channel.specs.declared.outcome.ChannelEnd.{ChannelEnd}

-- the front of what waited went through the link, with no fault and no busy turn
pub record SoFar (old new : List ℕ) (link link_now : LinkTold) : Type 0 where
  pub count : ℕ
  pub within : count ≤ length old
  pub taken : Grows link.taken link_now.taken (take count old)
  pub left : new ≡ drop count old
  pub faults : link_now.faults ≡ link.faults
  pub waits : link_now.waits ≡ link.waits
  pub only : IsOnlySent link link_now

-- one piece more
pub more_sent : (old mid new piece : List ℕ) (n : ℕ) (l0 l1 l2 : LinkTold) → SoFar old mid l0 l1 → piece ≡ take (length piece) mid → length piece ≤ length mid → n ≤ length piece
    → Grows l1.taken l2.taken (take n piece) → new ≡ drop n mid → l2.faults ≡ l1.faults → l2.waits ≡ l1.waits → IsOnlySent l1 l2 → SoFar old new l0 l2
more_sent old mid new piece n l0 l1 l2 so front shorter fits grown is faults waits only =
    let a = so.count in
    let part : take n piece ≡ take n (drop a old) = ap (take n) front ∙ take-take n (length piece) mid fits ∙ ap (take n) so.left in
    record {
      count = a + n;
      within = omega (arith, so.within, shorter, fits, ap length so.left, length-drop a old);
      taken = subst (Grows l0.taken l2.taken) (sym (take-add a n old)) (grows_both l0.taken l1.taken l2.taken (take a old) (take n (drop a old)) so.taken (subst (Grows l1.taken l2.taken) part grown));
      left = is ∙ ap (drop n) so.left ∙ drop-drop n a old;
      faults = faults ∙ so.faults;
      waits = waits ∙ so.waits;
      only = only_sent-later l0 l1 l2 so.only only;
    }
