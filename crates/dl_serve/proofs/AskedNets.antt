-- Each acceptor is asked once in a round: who is handed out, and what becomes of it.
use Rattle.std.proofs.Common.{◌≡◌, ◌⊎◌, ◌≤◌, ◌+◌, ◌-◌, ◌^◌, ℕ, min, Bool, true, false, inl, inr, List, [], ◌∷◌, ◌++◌, length, map, refl, sym, ap, subst, ◌∙◌, arith, length-append, slice_get}
use Rattle.std.specs.Prelude.{◌||◌, IfSome}
use Rattle.std.proofs.lemmas.List.{map-append}
use Rattle.std.proofs.Math.Bool.{or-true}
use Rattle.dl_outside.proofs.Staying.{stays_same}
use Rattle.dl_outside.specs.Links.{Links}
use Rattle.dl_outside.specs.Outside.{HasRisen, Stays}
use Rattle.dl_outside.specs.Told.{LinkTold, NetTold}
use Rattle.dl_rounds.specs.Arrivals.{Arrives, Takes}
use Rattle.dl_rounds.specs.declared.accepting.Arrival.{Arrival}
use Rattle.dl_rounds.specs.declared.accepting.Arrival.TheVariants as arrival
use Rattle.dl_server.specs.Accepts.{AcceptsClientIfMay, AcceptsProgramIfMay, has_failed, has_failed_to_enter, has_wanted, has_wanted_to_enter}
use Rattle.dl_server.specs.State.{State}
use Rattle.dl_channels.specs.Accepting.{Enters}
use Rattle.dl_channels.specs.declared.accepting.Entry.{Entry}
use Rattle.dl_channels.specs.declared.accepting.Entry.TheVariants as entry
use Rattle.dl_serve.specs.Service.{Accepts, EachNow, IsNewLink}
use Rattle.dl_serve.proofs.GoingLinks.{rose_on}
use Rattle.dl_serve.proofs.OtherEntries.{last_at}

-- the most that is counted of links that were dropped
abbrev pub most_dropped : ℕ
most_dropped = 2 ^ 32 - 1

module _ {L : Type 0} (told : L → LinkTold) (faults : ℕ) (wanted : Bool) where
  -- A net was asked, its count of faults not below this one; and it has failed only where that has risen above it.
  pub record Asked (net net_now : NetTold L) (links links_now : List LinkTold) (dropped dropped_now : ℕ) (failed_now : Bool) : Type 0 where
    pub came : ℕ
    pub gone : ℕ
    pub accepts : Accepts told faults wanted net net_now came gone
    pub many : length links_now ≡ length links + came
    pub dropped_so : dropped_now ≡ min (dropped + gone) most_dropped
    pub links_so : EachNow (IsNewLink told) (λ place was now. now ≡ was) links links_now
    pub risen : failed_now ≡ true → HasRisen faults net_now.faults
    pub later : faults ≤ net_now.faults

  module _ (net net_now : NetTold L) (links links_now : Links L) (old new : List LinkTold) (dropped dropped_now : ℕ) (failed_now : Bool) (were : old ≡ map told links.links) (are : new ≡ map told links_now.links)
      (few : dropped ≤ most_dropped) (later : faults ≤ net.faults) where
    same_links : links_now ≡ links → new ≡ old
    same_links same = are ∙ ap (λ (ls : Links L). map told ls.links) same ∙ sym were

    came_one : (link : L) → Takes told net net_now link → links_now ≡ record { links = links.links ++ link ∷ []; room = links.room } → dropped_now ≡ dropped → failed_now ≡ false
        → Asked net net_now old new dropped dropped_now failed_now
    came_one link takes more same well =
        let added : new ≡ old ++ told link ∷ [] =
        are ∙ ap (λ (ls : Links L). map told ls.links) more ∙ map-append told links.links (link ∷ []) ∙ ap (λ (ls : List LinkTold). ls ++ told link ∷ []) (sym were) in record {
          came = 1;
          gone = 0;
          accepts = inl (link, takes, refl);
          many = ap (λ (ls : List LinkTold). length ls) added ∙ length-append old (told link ∷ []);
          dropped_so = omega (arith, same, few);
          links_so = λ place now there. elim (last_at old (told link) now place (ap (λ (ls : List LinkTold). slice_get ls place) (sym added) ∙ there)) [
            | inl before ↦ (now, inl before, refl)
            | inr last ↦ (told link, inr (omega (arith, last.0), (takes.1, (link, refl))), last.1)
          ];
          risen = λ failed. absurd (let bad : true ≡ false = sym failed ∙ well in cc bad);
          later = (let same = takes.2 in omega (arith, later, same));
        }

    let_one_go : (link : L) → Takes told net net_now link → links_now ≡ links → dropped_now ≡ min (dropped + 1) most_dropped → failed_now ≡ false → Asked net net_now old new dropped dropped_now failed_now
    let_one_go link takes same more well = record {
      came = 0;
      gone = 1;
      accepts = inl (link, takes, refl);
      many = (let long = ap (λ (ls : List LinkTold). length ls) (same_links same) in omega (arith, long));
      dropped_so = more;
      links_so = λ place now there. (now, inl (ap (λ (ls : List LinkTold). slice_get ls place) (sym (same_links same)) ∙ there), refl);
      risen = λ failed. absurd (let bad : true ≡ false = sym failed ∙ well in cc bad);
      later = (let stand = takes.2 in omega (arith, later, stand));
    }

  -- nobody was handed out
  nobody_came : (net net_now : NetTold L) (old new : List LinkTold) (dropped dropped_now : ℕ) (failed_now : Bool) → new ≡ old → dropped_now ≡ dropped → dropped ≤ most_dropped → Stays net.waiting net_now.waiting
      → IfSome net.waiting (λ waiting. waiting ≡ []) ⊎ HasRisen faults net_now.faults ⊎ (wanted ≡ true) → (failed_now ≡ true → HasRisen faults net_now.faults) → faults ≤ net.faults → net.faults ≤ net_now.faults
      → Asked net net_now old new dropped dropped_now failed_now
  nobody_came net net_now old new dropped dropped_now failed_now same none few stays cause risen later more = record {
    came = 0;
    gone = 0;
    accepts = inr (refl, stays, more, cause);
    many = (let long = ap (λ (ls : List LinkTold). length ls) same in omega (arith, long));
    dropped_so = omega (arith, none, few);
    links_so = λ place now there. (now, inl (ap (λ (ls : List LinkTold). slice_get ls place) (sym same) ∙ there), refl);
    risen = risen;
    later = omega (arith, later, more);
  }

  never_failed : {A : Type 0} (failed : Bool) → failed ≡ false → failed ≡ true → A
  never_failed failed well is = absurd (let bad : true ≡ false = sym is ∙ well in cc bad)

  module _ (net net_now : NetTold L) (old new : State) (few : old.dropped ≤ most_dropped) (later : faults ≤ net.faults) (want : new.wanted ≡ true → wanted ≡ true) where
    as_waiting : net_now ≡ net → Stays net.waiting net_now.waiting
    as_waiting same = subst (λ (n : NetTold L). Stays net.waiting n.waiting) (sym same) (stays_same net.waiting)

    same_faults : net_now ≡ net → net.faults ≤ net_now.faults
    same_faults same = (let stand = ap (λ (n : NetTold L). n.faults) same in omega (arith, stand))

    risen_still : HasRisen faults net.faults → net_now ≡ net → HasRisen faults net_now.faults
    risen_still rose same = subst (λ (n : NetTold L). HasRisen faults n.faults) (sym same) rose

    pub client_asked : (moved : Bool) → (old.no_clients ≡ true → HasRisen faults net.faults) → AcceptsClientIfMay told moved net net_now old new
        → Asked net net_now old.clients new.clients old.dropped new.dropped new.no_clients
    client_asked moved risen (inl failed) =
        let rose = risen_still (risen failed.0) failed.2 in
        nobody_came net net_now old.clients new.clients old.dropped new.dropped new.no_clients (ap (λ (s : State). s.clients) failed.3) (ap (λ (s : State). s.dropped) failed.3) few (as_waiting failed.2)
        (inr (inl rose)) (λ is. rose) later (same_faults failed.2)
    client_asked moved risen (inr (inl wants)) =
        nobody_came net net_now old.clients new.clients old.dropped new.dropped new.no_clients (ap (λ (s : State). s.clients) wants.3) (ap (λ (s : State). s.dropped) wants.3) few (as_waiting wants.2)
        (inr (inr (want (ap (λ (s : State). s.wanted) wants.3)))) (never_failed new.no_clients (ap (λ (s : State). s.no_clients) wants.3 ∙ wants.0)) later (same_faults wants.2)
    client_asked moved risen (inr (inr accepts)) = (let a = accepts.1.2 in by accepts.1.0 a.links a.links_now a.were a.are a.arrives a.failed a.wanted) where
      by : (it : Arrival) (links links_now : Links L) → old.clients ≡ map told links.links → new.clients ≡ map told links_now.links → Arrives told it net net_now links links_now old.dropped new.dropped
          → new.no_clients ≡ has_failed it → new.wanted ≡ (old.wanted || has_wanted it) → Asked net net_now old.clients new.clients old.dropped new.dropped new.no_clients
      by (arrival.Client number) links links_now were are a failed wants =
          came_one net net_now links links_now old.clients new.clients old.dropped new.dropped new.no_clients were are few later a.0 a.1 a.2 a.3 failed
      by arrival.Dropped links links_now were are a failed wants =
          let_one_go net net_now links links_now old.clients new.clients old.dropped new.dropped new.no_clients were are few later a.0 a.1 a.2 a.3 failed
      by arrival.Nobody links links_now were are a failed wants =
          nobody_came net net_now old.clients new.clients old.dropped new.dropped new.no_clients (are ∙ ap (λ (ls : Links L). map told ls.links) a.3 ∙ sym were) a.4 few a.1 (inl a.0) (never_failed new.no_clients failed) later
          (let same = a.2 in omega (arith, same))
      by arrival.Failed links links_now were are a failed wants =
          let rose = rose_on faults net.faults net_now.faults net_now.faults later (omega arith) a.0 in
          nobody_came net net_now old.clients new.clients old.dropped new.dropped new.no_clients (are ∙ ap (λ (ls : Links L). map told ls.links) a.2 ∙ sym were) a.3 few a.1 (inr (inl rose)) (λ is. rose) later a.0.0
      by arrival.OutOfMemory links links_now were are a failed wants =
          nobody_came net net_now old.clients new.clients old.dropped new.dropped new.no_clients (are ∙ ap (λ (ls : Links L). map told ls.links) a.2 ∙ sym were) a.3 few a.1 (inr (inr (want (wants ∙ or-true old.wanted))))
          (never_failed new.no_clients failed) later (let same = a.0 in omega (arith, same))

    pub program_asked : (moved : Bool) → (old.no_programs ≡ true → HasRisen faults net.faults) → AcceptsProgramIfMay told moved net net_now old new
        → Asked net net_now old.programs new.programs old.dropped new.dropped new.no_programs
    program_asked moved risen (inl failed) =
        let rose = risen_still (risen failed.0) failed.2 in
        nobody_came net net_now old.programs new.programs old.dropped new.dropped new.no_programs (ap (λ (s : State). s.programs) failed.3) (ap (λ (s : State). s.dropped) failed.3) few (as_waiting failed.2)
        (inr (inl rose)) (λ is. rose) later (same_faults failed.2)
    program_asked moved risen (inr accepts) = (let a = accepts.3 in by accepts.1 a.links a.links_now a.were a.are a.enters a.failed a.wanted) where
      by : (it : Entry) (links links_now : Links L) → old.programs ≡ map told links.links → new.programs ≡ map told links_now.links
          → Enters told it net net_now links links_now old.dropped new.dropped old.channels new.channels → new.no_programs ≡ has_failed_to_enter it → new.wanted ≡ (old.wanted || has_wanted_to_enter it)
          → Asked net net_now old.programs new.programs old.dropped new.dropped new.no_programs
      by (entry.Channel number) links links_now were are e failed wants =
          came_one net net_now links links_now old.programs new.programs old.dropped new.dropped new.no_programs were are few later e.0 e.1 e.2 e.3 failed
      by entry.Dropped links links_now were are e failed wants =
          let_one_go net net_now links links_now old.programs new.programs old.dropped new.dropped new.no_programs were are few later e.0 e.1 e.2 e.3 failed
      by entry.Unopened links links_now were are e failed wants =
          let_one_go net net_now links links_now old.programs new.programs old.dropped new.dropped new.no_programs were are few later e.0 e.1 e.2 e.3 failed
      by entry.Nobody links links_now were are e failed wants =
          nobody_came net net_now old.programs new.programs old.dropped new.dropped new.no_programs (are ∙ ap (λ (ls : Links L). map told ls.links) e.3 ∙ sym were) e.4 few e.1 (inl e.0) (never_failed new.no_programs failed) later
          (let same = e.2 in omega (arith, same))
      by entry.Failed links links_now were are e failed wants =
          let rose = rose_on faults net.faults net_now.faults net_now.faults later (omega arith) e.0 in
          nobody_came net net_now old.programs new.programs old.dropped new.dropped new.no_programs (are ∙ ap (λ (ls : Links L). map told ls.links) e.2 ∙ sym were) e.3 few e.1 (inr (inl rose)) (λ is. rose) later e.0.0
      by entry.OutOfMemory links links_now were are e failed wants =
          nobody_came net net_now old.programs new.programs old.dropped new.dropped new.no_programs (are ∙ ap (λ (ls : Links L). map told ls.links) e.2 ∙ sym were) e.3 few e.1 (inr (inr (want (wants ∙ or-true old.wanted))))
          (never_failed new.no_programs failed) later (let same = e.0 in omega (arith, same))
