-- Connections that come in rounds.
use Rattle.std.proofs.Common.{◌≡◌, ℕ, zero, suc, ◌+◌, ◌-◌, ◌^◌, ◌<◌, ◌≤◌, Bool, true, false, true≢false, inl, inr, ◌⊎◌, List, [], ◌∷◌, Option, Some, None, length, drop, map, count_by, refl, sym, ap, subst, ◌∙◌, arith}
use Rattle.std.specs.Prelude.{IfSome, min, replicate}
use Rattle.std.proofs.lemmas.List.{drop-drop, length-append, length-drop, length-map, length-replicate}
use Rattle.dl_outside.specs.Links.{Links}
use Rattle.dl_outside.specs.Outside.{HasRisen, Stays}
use Rattle.dl_outside.specs.Told.{LinkTold, NetTold}
use Rattle.dl_rounds.specs.Arrivals.{Arrives}
use Rattle.dl_rounds.specs.Clients.{Clients, VisitsAll}
use Rattle.dl_rounds.specs.Passing.{AreLater}
use Rattle.dl_rounds.specs.Ready.{fresh_listener}
use Rattle.dl_rounds.specs.Visits.{HearsAll, Pumped}
use Rattle.dl_rounds.specs.declared.accepting.Arrival.{Arrival}
use Rattle.dl_rounds.specs.declared.accepting.Arrival.TheVariants as arrival
use Rattle.dl_loop.specs.Coming.{EndsAccepts, HasWaited, HaveCome, TellsAccept, came_in}
use Rattle.dl_loop.specs.Later.{GoesRound}
use Rattle.dl_model.specs.Journal.{is_connect}
use Rattle.dl_loop.specs.RoundSteps.{AcceptsIfMay, HasEnded, IsRound, Serves, answer_of}
use Rattle.dl_loop.specs.Scene.{Scene}
use Rattle.dl_loop.specs.State.{DaemonState, desk_told}
use Rattle.dl_loop.specs.Steps.{Hears, Parts, Pumps, is_failure}
use Rattle.dl_taking.specs.declared.taking.Got.{Got}
use Rattle.dl_taking.specs.Takes.{found_none, gave}
use Rattle.dl_loop.specs.Takes.{TakesLossesIfMay, TakesOn, TakesTurn, TakesTurns, most_of}
use Rattle.dl_loop.specs.declared.round.Round.{Round}
use Rattle.dl_admission.proofs.KeptTraces.{risen_later, risen_before}

-- ---- counts

none_dropped : (dropped : ℕ) → dropped < 2 ^ 32 → dropped ≡ min (dropped + 0) (2 ^ 32 - 1)
none_dropped dropped small = omega (arith, small)

both_dropped : (a b c let_go then : ℕ) → a < 2 ^ 32 → b ≡ min (a + let_go) (2 ^ 32 - 1) → c ≡ min (b + then) (2 ^ 32 - 1) → c ≡ min (a + (let_go + then)) (2 ^ 32 - 1)
both_dropped a b c let_go then small one two = omega (arith, small, one, two)

few_dropped : (a b : ℕ) → b ≡ min a (2 ^ 32 - 1) → b < 2 ^ 32
few_dropped a b is = omega (arith, is)

-- ---- the connections that wait

none_taken : {A : Type 0} (waiting : Option (List A)) → IfSome waiting (λ links. (0 ≤ length links) × (waiting ≡ Some (drop 0 links)))
none_taken None = tt
none_taken (Some links) = (omega arith, refl)

stays_waiting : {A : Type 0} (old new : Option (List A)) → Stays old new → IfSome old (λ links. (0 ≤ length links) × (new ≡ Some (drop 0 links)))
stays_waiting None new stays = tt
stays_waiting (Some links) new stays = (omega arith, stays)

one_taken : {A : Type 0} (old new : Option (List A)) (link : A) → IfSome old (λ links. (rest : List A) × (links ≡ link ∷ rest) × (new ≡ Some rest))
    → IfSome old (λ links. (1 ≤ length links) × (new ≡ Some (drop 1 links)))
one_taken None new link takes = tt
one_taken {A} (Some links) new link takes =
    subst (λ (ls : List A). (1 ≤ length ls) × (new ≡ Some (drop 1 ls))) (sym takes.1) (omega arith, takes.2)

both_taken : {A : Type 0} (a b c : Option (List A)) (came then : ℕ) → IfSome a (λ links. (came ≤ length links) × (b ≡ Some (drop came links)))
    → IfSome b (λ links. (then ≤ length links) × (c ≡ Some (drop then links))) → IfSome a (λ links. (came + then ≤ length links) × (c ≡ Some (drop (came + then) links)))
both_taken None b c came then one two = tt
both_taken {A} (Some links) b c came then one two =
    let rest : (then ≤ length (drop came links)) × (c ≡ Some (drop then (drop came links))) =
    subst (λ (o : Option (List A)). IfSome o (λ left. (then ≤ length left) × (c ≡ Some (drop then left)))) one.1 two in
    (omega (arith, one.0, rest.0, length-drop came links), rest.1 ∙ ap Some (drop-drop then came links))

-- as many are left as waited without those that came
all_taken : {A : Type 0} (old new : Option (List A)) (came : ℕ) → IfSome old (λ links. (came ≤ length links) × (new ≡ Some (drop came links))) → IfSome new (λ links. links ≡ [])
    → IfSome old (λ links. came ≡ length links)
all_taken None new came takes none = tt
all_taken {A} (Some links) new came takes none =
    let nothing : drop came links ≡ [] = subst (λ (o : Option (List A)). IfSome o (λ left. left ≡ [])) takes.1 none in
    omega (arith, takes.0, length-drop came links, ap (λ (left : List A). length left) nothing)

-- ---- rounds in a row

module _ {L : Type 0} where
  ends_both : (net net_between net_now : NetTold L) (first second third : DaemonState L) → EndsAccepts net net_between first second → EndsAccepts net_between net_now second third
      → EndsAccepts net net_now first third
  ends_both net net_between net_now first second third one two = record {
    failed_once = λ is. two.failed_once (one.failed_once is);
    wanted_once = λ is. two.wanted_once (one.wanted_once is);
    faults = omega (arith, one.faults, two.faults);
    risen = λ is. behind (two.risen is);
    stands = λ is. by is second.failed refl;
  } where
    before : (first.failed ≡ true) ⊎ HasRisen net.faults net_between.faults → (first.failed ≡ true) ⊎ HasRisen net.faults net_now.faults
    before (inl was) = inl was
    before (inr risen) = inr (risen_later net.faults net_between.faults net_now.faults risen two.faults)

    behind : (second.failed ≡ true) ⊎ HasRisen net_between.faults net_now.faults → (first.failed ≡ true) ⊎ HasRisen net.faults net_now.faults
    behind (inl was) = before (one.risen was)
    behind (inr risen) = inr (risen_before net.faults net_between.faults net_now.faults one.faults risen)

    by : third.failed ≡ false → (b : Bool) → second.failed ≡ b → net_now.faults ≡ net.faults
    by is true was = absurd (true≢false (sym (two.failed_once was) ∙ is))
    by is false was = two.stands is ∙ one.stands was

  pub come_none : (net : NetTold L) (d : DaemonState L) → HaveCome 0 net net d d
  come_none net d = record {
    let_go = 0;
    came_is = refl;
    counted = none_dropped d.dropped;
    waiting = none_taken net.waiting;
    ends = record { failed_once = λ is. is; wanted_once = λ is. is; faults = omega arith; risen = λ is. inl is; stands = λ is. refl };
  }

  pub come_both : (came then : ℕ) (net net_between net_now : NetTold L) (first second third : DaemonState L) → HaveCome came net net_between first second
      → HaveCome then net_between net_now second third → HaveCome (came + then) net net_now first third
  come_both came then net net_between net_now first second third one two = record {
    let_go = one.let_go + two.let_go;
    came_is = omega (arith, one.came_is, two.came_is);
    counted = λ small. both_dropped first.dropped second.dropped third.dropped one.let_go two.let_go small (one.counted small)
        (two.counted (few_dropped (first.dropped + one.let_go) second.dropped (one.counted small)));
    waiting = both_taken net.waiting net_between.waiting net_now.waiting came then one.waiting two.waiting;
    ends = ends_both net net_between net_now first second third one.ends two.ends;
  }

  pub connected : (came : ℕ) (net net_now : NetTold L) (old new : Scene L) (come : HaveCome came net net_now old.daemon new.daemon) (goes : GoesRound net net_now old new)
      → count_by is_connect goes.more + come.let_go ≡ came
  connected came net net_now old new come goes = omega (arith, come.came_is, goes.later.connects)

  pub come_all : (came : ℕ) (net net_now : NetTold L) (old new : DaemonState L) → HaveCome came net net_now old new → IfSome net_now.waiting (λ links. links ≡ [])
      → IfSome net.waiting (λ links. came ≡ length links)
  come_all came net net_now old new come none = all_taken net.waiting net_now.waiting came come.waiting none

-- ---- what the parts of a round leave behind its accept

-- as many links are there, and accepts stand as they stood
record SameDoor {L : Type 0} (old new : DaemonState L) : Type 0 where
  pub many : length new.links.links ≡ length old.links.links
  pub dropped : new.dropped ≡ old.dropped
  pub failed : new.failed ≡ old.failed
  pub wanted : new.wanted ≡ old.wanted

module _ {L : Type 0} where
  door_both : (first second third : DaemonState L) → SameDoor first second → SameDoor second third → SameDoor first third
  door_both first second third one two = record {
    many = two.many ∙ one.many;
    dropped = two.dropped ∙ one.dropped;
    failed = two.failed ∙ one.failed;
    wanted = two.wanted ∙ one.wanted;
  }

  door_scenes : (old new : Scene L) → new ≡ old → SameDoor old.daemon new.daemon
  door_scenes old new same = record {
    many = ap (λ (s : Scene L). length s.daemon.links.links) same;
    dropped = ap (λ (s : Scene L). s.daemon.dropped) same;
    failed = ap (λ (s : Scene L). s.daemon.failed) same;
    wanted = ap (λ (s : Scene L). s.daemon.wanted) same;
  }

  -- where links, count and answers are the same
  door_rest : (old new rest : DaemonState L) → new ≡ rest → rest.links ≡ old.links → rest.dropped ≡ old.dropped → rest.failed ≡ old.failed → rest.wanted ≡ old.wanted → SameDoor old new
  door_rest old new rest is links dropped failed wanted = record {
    many = ap (λ (d : DaemonState L). length d.links.links) is ∙ ap (λ (ls : Links L). length ls.links) links;
    dropped = ap (λ (d : DaemonState L). d.dropped) is ∙ dropped;
    failed = ap (λ (d : DaemonState L). d.failed) is ∙ failed;
    wanted = ap (λ (d : DaemonState L). d.wanted) is ∙ wanted;
  }

  door_losses : (app : ℕ) (old new : Scene L) → TakesLossesIfMay app old new → SameDoor old.daemon new.daemon
  door_losses app old new (inl some) = door_rest old.daemon new.daemon _ some.2.rest refl refl refl refl
  door_losses app old new (inr none) = door_scenes old new none.1

  door_on : (app done : ℕ) (empty : Bool) (gots : List Got) (old new : Scene L) → TakesOn app done empty gots old new → SameDoor old.daemon new.daemon
  door_on app done empty [] old new none = door_scenes old new none.1
  door_on app done empty (got ∷ gots) old new some =
      door_both old.daemon some.1.daemon new.daemon (door_rest old.daemon some.1.daemon _ some.2.rest refl refl refl refl) (door_on app (done + gave got) (found_none (most_of done old.daemon) got) gots some.1 new some.3)

  door_turn : (app : ℕ) (old new : Scene L) → TakesTurn app old new → SameDoor old.daemon new.daemon
  door_turn app old new turn = door_both old.daemon turn.between.daemon new.daemon (door_on app 0 _ turn.calls.0 old turn.between turn.calls.1) (door_losses app turn.between new turn.losses)

  door_turns : (first many : ℕ) (old new : Scene L) → TakesTurns first many old new → SameDoor old.daemon new.daemon
  door_turns first zero old new same = door_scenes old new same
  door_turns first (suc many) old new turns =
      door_both old.daemon turns.0.daemon new.daemon (door_turn first old turns.0 turns.1) (door_turns (first + 1) many turns.0 new turns.2)

module _ {L : Type 0} (told : L → LinkTold) where
  door_mapped : (old new : DaemonState L) → length (map told new.links.links) ≡ length (map told old.links.links) → new.dropped ≡ old.dropped → new.failed ≡ old.failed → new.wanted ≡ old.wanted
      → SameDoor old new
  door_mapped old new many dropped failed wanted = record {
    many = omega (arith, many, length-map old.links.links told, length-map new.links.links told);
    dropped = dropped;
    failed = failed;
    wanted = wanted;
  }

  door_parts : (old new : DaemonState L) → Parts told old new → SameDoor old new
  door_parts old new parts = door_mapped old new parts.shuts.many (ap (λ (d : DaemonState L). d.dropped) parts.rest) (ap (λ (d : DaemonState L). d.failed) parts.rest)
      (ap (λ (d : DaemonState L). d.wanted) parts.rest)

  module _ (heard : (moved : Bool) (old new : Clients) → HearsAll moved old new → AreLater old new) (pumped : (moved : Bool) (old new : Clients) → VisitsAll Pumped moved old new → AreLater old new) where
    door_serves : (answer : Round) (net net_now : NetTold L) (old new : Scene L) (serves : Serves told answer net net_now old new) → SameDoor serves.accepted new.daemon
    door_serves answer net net_now old new serves =
        let hears : Hears told serves.hears.0 old.folder serves.heard.folder serves.accepted serves.heard.daemon = serves.hears.1 in
        let pumps : Pumps told serves.pumps.0 serves.taken.daemon new.daemon = serves.pumps.1 in
        let links = map told serves.taken.daemon.links.links in
        let none = replicate (length links) fresh_listener in
        let enough : length links ≤ length none = omega (arith, length-replicate (length links) fresh_listener) in
        door_both serves.accepted serves.heard.daemon new.daemon
        (door_mapped serves.accepted serves.heard.daemon (heard serves.hears.0 _ _ hears.visits).many (ap (λ (d : DaemonState L). d.dropped) hears.rest) (ap (λ (d : DaemonState L). d.failed) hears.rest)
        (ap (λ (d : DaemonState L). d.wanted) hears.rest))
        (door_both serves.heard.daemon serves.taken.daemon new.daemon (door_turns 0 _ serves.heard serves.taken serves.takes)
        (door_mapped serves.taken.daemon new.daemon (pumped serves.pumps.0 _ _ (pumps.visits (desk_told serves.taken.daemon.desk) serves.taken.folder none enough)).many
        (ap (λ (d : DaemonState L). d.dropped) pumps.rest) (ap (λ (d : DaemonState L). d.failed) pumps.rest) (ap (λ (d : DaemonState L). d.wanted) pumps.rest)))

    door_round : (answer : Round) (net net_now : NetTold L) (old new : Scene L) (round : IsRound told answer net net_now old new) → SameDoor round.serves.accepted new.daemon
    door_round answer net net_now old new round =
        door_both round.serves.accepted round.served.daemon new.daemon (door_serves answer net net_now old round.served round.serves) (door_parts round.served.daemon new.daemon round.parts)

-- ---- the accept

module _ {L : Type 0} (told : L → LinkTold) where
  -- so many links came, and so many of them were let go
  record HasArrived (came : ℕ) (net net_now : NetTold L) (links links_now : Links L) (dropped dropped_now : ℕ) : Type 0 where
    pub let_go : ℕ
    pub came_is : length links_now.links + let_go ≡ length links.links + came
    pub counted : dropped < 2 ^ 32 → dropped_now ≡ min (dropped + let_go) (2 ^ 32 - 1)
    pub waiting : IfSome net.waiting (λ waiting. (came ≤ length waiting) × (net_now.waiting ≡ Some (drop came waiting)))

  arrived_none : (net net_now : NetTold L) (links links_now : Links L) (dropped dropped_now : ℕ) → Stays net.waiting net_now.waiting → links_now ≡ links → dropped_now ≡ dropped
      → HasArrived 0 net net_now links links_now dropped dropped_now
  arrived_none net net_now links links_now dropped dropped_now stays same dropped_same = record {
    let_go = 0;
    came_is = omega (arith, ap (λ (ls : Links L). length ls.links) same);
    counted = λ small. dropped_same ∙ none_dropped dropped small;
    waiting = stays_waiting net.waiting net_now.waiting stays;
  }

  arrived : (came : Arrival) (net net_now : NetTold L) (links links_now : Links L) (dropped dropped_now : ℕ) → Arrives told came net net_now links links_now dropped dropped_now
      → HasArrived (came_in (answer_of came)) net net_now links links_now dropped dropped_now
  arrived (arrival.Client number) net net_now links links_now dropped dropped_now arrives = record {
    let_go = 0;
    came_is = omega (arith, ap (λ (ls : Links L). length ls.links) arrives.2, length-append links.links (arrives.0 ∷ []));
    counted = λ small. arrives.3 ∙ none_dropped dropped small;
    waiting = one_taken net.waiting net_now.waiting arrives.0 arrives.1.0;
  }
  arrived arrival.Dropped net net_now links links_now dropped dropped_now arrives = record {
    let_go = 1;
    came_is = omega (arith, ap (λ (ls : Links L). length ls.links) arrives.2);
    counted = λ small. arrives.3;
    waiting = one_taken net.waiting net_now.waiting arrives.0 arrives.1.0;
  }
  arrived arrival.Nobody net net_now links links_now dropped dropped_now arrives =
      arrived_none net net_now links links_now dropped dropped_now arrives.1 arrives.3 arrives.4
  arrived arrival.Failed net net_now links links_now dropped dropped_now arrives =
      arrived_none net net_now links links_now dropped dropped_now arrives.1 arrives.2 arrives.3
  arrived arrival.OutOfMemory net net_now links links_now dropped dropped_now arrives =
      arrived_none net net_now links links_now dropped dropped_now arrives.1 arrives.2 arrives.3

  -- what an accept makes of whether accepts go on
  ends_well : (net net_now : NetTold L) (old new : DaemonState L) → net_now.faults ≡ net.faults → old.failed ≡ false → new.failed ≡ false → old.wanted ≡ false → EndsAccepts net net_now old new
  ends_well net net_now old new same well well_now had = record {
    failed_once = λ is. absurd (true≢false (sym is ∙ well));
    wanted_once = λ is. absurd (true≢false (sym is ∙ had));
    faults = omega (arith, same);
    risen = λ is. absurd (true≢false (sym is ∙ well_now));
    stands = λ is. same;
  }

  ends_came : (came : Arrival) (net net_now : NetTold L) (old new : DaemonState L) → Arrives told came net net_now old.links new.links old.dropped new.dropped → old.failed ≡ false → old.wanted ≡ false
      → new.failed ≡ is_failure came → EndsAccepts net net_now old new
  ends_came (arrival.Client number) net net_now old new arrives well had failed = ends_well net net_now old new arrives.1.2 well failed had
  ends_came arrival.Dropped net net_now old new arrives well had failed = ends_well net net_now old new arrives.1.2 well failed had
  ends_came arrival.Nobody net net_now old new arrives well had failed = ends_well net net_now old new arrives.2 well failed had
  ends_came arrival.OutOfMemory net net_now old new arrives well had failed = ends_well net net_now old new arrives.0 well failed had
  ends_came arrival.Failed net net_now old new arrives well had failed = record {
    failed_once = λ is. failed;
    wanted_once = λ is. absurd (true≢false (sym is ∙ had));
    faults = arrives.0.0;
    risen = λ is. inr arrives.0;
    stands = λ is. absurd (true≢false (sym failed ∙ is));
  }

  -- an accept that ended accepts before lets none come
  ended_none : (came : Arrival) (d : DaemonState L) → HasEnded came d → came_in (answer_of came) ≡ 0
  ended_none (arrival.Client number) d ended = absurd ended
  ended_none arrival.Dropped d ended = absurd ended
  ended_none arrival.Nobody d ended = absurd ended
  ended_none arrival.Failed d ended = refl
  ended_none arrival.OutOfMemory d ended = refl

  come_accept : (came : Arrival) (net net_now : NetTold L) (old new : DaemonState L) → AcceptsIfMay told came net net_now old new → HaveCome (came_in (answer_of came)) net net_now old new
  come_accept came net net_now old new (inl one) =
      let accepts = one.2 in
      let has = arrived came net net_now old.links new.links old.dropped new.dropped accepts.arrives in record {
        let_go = has.let_go;
        came_is = has.came_is;
        counted = has.counted;
        waiting = has.waiting;
        ends = ends_came came net net_now old new accepts.arrives one.0 one.1 accepts.failed;
      }
  come_accept came net net_now old new (inr ended) =
      subst (λ (n : ℕ). HaveCome n net net_now old new) (sym (ended_none came old ended.0))
      (subst (λ (n : NetTold L). HaveCome 0 net n old new) (sym ended.1) (subst (λ (d : DaemonState L). HaveCome 0 net net old d) (sym ended.2) (come_none net old)))

  -- what comes in an accept comes in its round
  come_on : (came : ℕ) (net net_now : NetTold L) (old accepted new : DaemonState L) → HaveCome came net net_now old accepted → SameDoor accepted new → HaveCome came net net_now old new
  come_on came net net_now old accepted new come same = record {
    let_go = come.let_go;
    came_is = omega (arith, come.came_is, same.many);
    counted = λ small. same.dropped ∙ come.counted small;
    waiting = come.waiting;
    ends = record {
      failed_once = λ is. same.failed ∙ come.ends.failed_once is;
      wanted_once = λ is. same.wanted ∙ come.ends.wanted_once is;
      faults = come.ends.faults;
      risen = λ is. come.ends.risen (sym same.failed ∙ is);
      stands = λ is. come.ends.stands (sym same.failed ∙ is);
    };
  }

  -- ---- its answer

  nobody_waits : (came : Arrival) (net net_now : NetTold L) (old new : DaemonState L) → AcceptsIfMay told came net net_now old new → (answer_of came).none ≡ true
      → IfSome net.waiting (λ links. links ≡ []) × Stays net.waiting net_now.waiting
  nobody_waits (arrival.Client number) net net_now old new accepts is = absurd (true≢false (sym is))
  nobody_waits arrival.Dropped net net_now old new accepts is = absurd (true≢false (sym is))
  nobody_waits arrival.Nobody net net_now old new (inl one) is = (one.2.arrives.0, one.2.arrives.1)
  nobody_waits arrival.Nobody net net_now old new (inr ended) is = absurd ended.0
  nobody_waits arrival.Failed net net_now old new accepts is = absurd (true≢false (sym is))
  nobody_waits arrival.OutOfMemory net net_now old new accepts is = absurd (true≢false (sym is))

  has_failed : (came : Arrival) (net net_now : NetTold L) (old new : DaemonState L) → AcceptsIfMay told came net net_now old new → (answer_of came).failed ≡ true → new.failed ≡ true
  has_failed (arrival.Client number) net net_now old new accepts is = absurd (true≢false (sym is))
  has_failed arrival.Dropped net net_now old new accepts is = absurd (true≢false (sym is))
  has_failed arrival.Nobody net net_now old new accepts is = absurd (true≢false (sym is))
  has_failed arrival.Failed net net_now old new (inl one) is = one.2.failed
  has_failed arrival.Failed net net_now old new (inr ended) is = ap (λ (d : DaemonState L). d.failed) ended.2 ∙ ended.0
  has_failed arrival.OutOfMemory net net_now old new accepts is = absurd (true≢false (sym is))

  has_wanted : (came : Arrival) (net net_now : NetTold L) (old new : DaemonState L) → AcceptsIfMay told came net net_now old new → (answer_of came).wanted ≡ true → new.wanted ≡ true
  has_wanted (arrival.Client number) net net_now old new accepts is = absurd (true≢false (sym is))
  has_wanted arrival.Dropped net net_now old new accepts is = absurd (true≢false (sym is))
  has_wanted arrival.Nobody net net_now old new accepts is = absurd (true≢false (sym is))
  has_wanted arrival.Failed net net_now old new accepts is = absurd (true≢false (sym is))
  has_wanted arrival.OutOfMemory net net_now old new (inl one) is = one.2.wanted
  has_wanted arrival.OutOfMemory net net_now old new (inr ended) is = ap (λ (d : DaemonState L). d.wanted) ended.2 ∙ ended.0

  goes_well : (came : Arrival) (net net_now : NetTold L) (old new : DaemonState L) → AcceptsIfMay told came net net_now old new → (answer_of came).failed ≡ false → (answer_of came).wanted ≡ false
      → (new.failed ≡ false) × (new.wanted ≡ false)
  goes_well (arrival.Client number) net net_now old new (inl one) well had = (one.2.failed, one.2.wanted)
  goes_well (arrival.Client number) net net_now old new (inr ended) well had = absurd ended.0
  goes_well arrival.Dropped net net_now old new (inl one) well had = (one.2.failed, one.2.wanted)
  goes_well arrival.Dropped net net_now old new (inr ended) well had = absurd ended.0
  goes_well arrival.Nobody net net_now old new (inl one) well had = (one.2.failed, one.2.wanted)
  goes_well arrival.Nobody net net_now old new (inr ended) well had = absurd ended.0
  goes_well arrival.Failed net net_now old new accepts well had = absurd (true≢false well)
  goes_well arrival.OutOfMemory net net_now old new accepts well had = absurd (true≢false had)

  one_so : (came : Arrival) → (answer_of came).accepted ≡ false → (answer_of came).failed ≡ false → (answer_of came).wanted ≡ false → (answer_of came).none ≡ true
  one_so (arrival.Client number) accepted well had = absurd (true≢false accepted)
  one_so arrival.Dropped accepted well had = absurd (true≢false accepted)
  one_so arrival.Nobody accepted well had = refl
  one_so arrival.Failed accepted well had = absurd (true≢false well)
  one_so arrival.OutOfMemory accepted well had = absurd (true≢false had)

  none_came : (came : Arrival) → (answer_of came).none ≡ true → came_in (answer_of came) ≡ 0
  none_came (arrival.Client number) is = absurd (true≢false (sym is))
  none_came arrival.Dropped is = absurd (true≢false (sym is))
  none_came arrival.Nobody is = refl
  none_came arrival.Failed is = refl
  none_came arrival.OutOfMemory is = refl

  tells_accept : (came : Arrival) (net net_now : NetTold L) (old accepted new : DaemonState L) → AcceptsIfMay told came net net_now old accepted → SameDoor accepted new
      → TellsAccept (answer_of came) net net_now new
  tells_accept came net net_now old accepted new accepts same = record {
    nobody = nobody_waits came net net_now old accepted accepts;
    failed = λ is. same.failed ∙ has_failed came net net_now old accepted accepts is;
    wanted = λ is. same.wanted ∙ has_wanted came net net_now old accepted accepts is;
    well = λ well had. let goes = goes_well came net net_now old accepted accepts well had in (same.failed ∙ goes.0, same.wanted ∙ goes.1);
    one = one_so came;
  }

  -- ---- a round

  module _ (heard : (moved : Bool) (old new : Clients) → HearsAll moved old new → AreLater old new) (pumped : (moved : Bool) (old new : Clients) → VisitsAll Pumped moved old new → AreLater old new) where
    pub come_round : (answer : Round) (net net_now : NetTold L) (old new : Scene L) → IsRound told answer net net_now old new → HaveCome (came_in answer) net net_now old.daemon new.daemon
    come_round answer net net_now old new round =
        let serves = round.serves in
        subst (λ (a : Round). HaveCome (came_in a) net net_now old.daemon new.daemon) (sym serves.answers)
        (come_on (came_in (answer_of serves.came)) net net_now old.daemon serves.accepted new.daemon (come_accept serves.came net net_now old.daemon serves.accepted serves.accepts)
        (door_round told heard pumped answer net net_now old new round))

    pub tells_round : (answer : Round) (net net_now : NetTold L) (old new : Scene L) → IsRound told answer net net_now old new → TellsAccept answer net net_now new.daemon
    tells_round answer net net_now old new round =
        let serves = round.serves in
        subst (λ (a : Round). TellsAccept a net net_now new.daemon) (sym serves.answers)
        (tells_accept serves.came net net_now old.daemon serves.accepted new.daemon serves.accepts (door_round told heard pumped answer net net_now old new round))

    -- in rounds that found nobody none came
    pub come_nobody : (times : ℕ) (net : NetTold L) (s : Scene L) → HasWaited told times net s → (before : NetTold L) × (old : Scene L) × HaveCome 0 before net old.daemon s.daemon
    come_nobody zero net s waited = (net, s, come_none net s.daemon)
    come_nobody (suc times) net s (answer, none, between, mid, round, waited) =
        let rest = come_nobody times between mid waited in
        let was : NetTold L = rest.0 in
        let first : Scene L = rest.1 in
        let none_here : came_in answer ≡ 0 =
        ap came_in round.serves.answers ∙ none_came round.serves.came (sym (ap (λ (a : Round). a.none) round.serves.answers) ∙ none) in
        let here : HaveCome 0 between net mid.daemon s.daemon =
        subst (λ (n : ℕ). HaveCome n between net mid.daemon s.daemon) none_here (come_round answer between net mid s round) in
        (was, first, come_both 0 0 was between net first.daemon mid.daemon s.daemon rest.2 here)
