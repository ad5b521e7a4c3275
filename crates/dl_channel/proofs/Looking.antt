-- What stands at the front of what a program sent.
use Rattle.std.proofs.Common.{◌≡◌, ℕ, ◌+◌, ◌-◌, ◌*◌, ◌<◌, ◌≤◌, List, ◌++◌, length, take, drop, sym, ap, subst, ◌∙◌, append_assoc, length-append, length-take, length-drop, take-append-drop, arith}
use Rattle.std.proofs.lemmas.List.{append-nil, drop-drop, drop_all}
use Rattle.dl_user.specs.Channel as cutter
use Rattle.dl_user.specs.Cut.{Begins, Stops}
use Rattle.dl_user.specs.Cutter.{Cuts, Feeds}
use Rattle.dl_user.specs.declared.cutter.UserCut.{UserCut}
use Rattle.dl_user.specs.declared.cutter.UserCut.TheVariants as cut
use Rattle.dl_user.specs.declared.fault.Stop.TheVariants as stops
use Rattle.dl_user.specs.declared.fault.UserFault.{UserFault}
use Rattle.dl_user.proofs.Cuts.{begins_more, fault_stays}
use Rattle.dl_channel.specs.Finding.{Finds, IsWithin}
use Rattle.dl_channel.specs.declared.finding.Next.TheVariants as next

-- what is held and what of the piece isn't fed are the bytes
pub record IsLooking (bytes piece : List ℕ) (taken : ℕ) (cutter : cutter.Channel) : Type 0 where
  pub within : taken ≤ length piece
  pub same : bytes ≡ cutter.unread ++ drop taken piece
  pub room : IsWithin cutter

module _ (bytes piece : List ℕ) (taken : ℕ) (old new : cutter.Channel) (so : IsLooking bytes piece taken old) where
  abbrev more : List ℕ
  more = drop taken piece

  pub finds_bad : (fault : UserFault) → Cuts old (cut.Bad fault) new → Finds bytes piece (next.Bad fault) new
  finds_bad fault cuts = subst (λ (b : List ℕ). Stops b (stops.Bad fault)) (sym so.same) (fault_stays old.unread more fault cuts.0)

  pub finds_no_memory : Cuts old cut.OutOfMemory new → Finds bytes piece next.NoMemory new
  finds_no_memory cuts =
      let found = cuts.0 in
      (found.0, found.1 ++ more, subst (λ (b : List ℕ). Begins b found.0 (found.1 ++ more)) (sym so.same) (begins_more old.unread found.1 more found.0 found.2))

  module _ (cuts : Cuts old cut.NeedMore new) where
    pub finds_none : taken ≡ length piece → Finds bytes piece next.NoMore new
    finds_none all =
        let none_left : bytes ≡ old.unread = so.same ∙ ap (λ (x : List ℕ). old.unread ++ x) (drop_all taken piece (omega (arith, all))) ∙ append-nil old.unread in
        (subst (λ (b : List ℕ). Stops b stops.NeedMore) (sym none_left) cuts.0, cuts.1 ∙ sym none_left)

    -- so many of the others are fed
    module _ (fed : List ℕ) (count : ℕ) (then : cutter.Channel) (is_fed : fed ≡ drop taken piece) (feeds : Feeds new fed count then) where
      joined : then.unread ++ drop (taken + count) piece ≡ old.unread ++ more
      joined =
          ap (λ (u : List ℕ). u ++ drop (taken + count) piece) feeds.unread
          ∙ ap (λ (x : List ℕ). (new.unread ++ take count fed) ++ x) (sym (drop-drop count taken piece))
          ∙ append_assoc new.unread (take count fed) (drop count more)
          ∙ ap (λ (x : List ℕ). new.unread ++ (take count x ++ drop count more)) is_fed
          ∙ ap (λ (x : List ℕ). new.unread ++ x) (take-append-drop count more)
          ∙ ap (λ (x : List ℕ). x ++ more) cuts.1

      held : length then.unread ≡ length new.unread + length (take count fed)
      held = ap length feeds.unread ∙ length-append new.unread (take count fed)

      pub fewer : taken < length piece → length then.unread + 2 * (length piece - (taken + count)) < length old.unread + 2 * (length piece - taken)
      fewer some =
          let size : length fed ≡ length piece - taken = ap length is_fed ∙ length-drop taken piece in
          omega (arith, some, size, held, feeds.count_is, cuts.3, ap length cuts.1, length-take count fed)

      pub goes_on : IsLooking bytes piece (taken + count) then
      goes_on = record {
        within = omega (arith, feeds.count_is, so.within, ap length is_fed, length-drop taken piece);
        same = so.same ∙ sym joined;
        room = omega (arith, so.room, held, feeds.room, feeds.count_is, cuts.2, ap length cuts.1, length-take count fed);
      }
