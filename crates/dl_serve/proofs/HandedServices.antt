-- Who was handed out and what their links gave, by what each round does for those who are there.
use Rattle.std.proofs.Common.{◌≡◌, ◌≤◌, ◌+◌, ◌-◌, ℕ, zero, suc, min, Bool, true, false, inl, inr, List, ◌++◌, drop, length, map, Option, Some, None, refl, sym, ap, subst, ◌∙◌, arith, slice_get, length-append}
use Rattle.std.specs.Prelude.{IfSome, IsSome, IsSomeAnd}
use Rattle.std.specs.Option.{option_map}
use Rattle.std.proofs.lemmas.List.Concat.{flat_map-append}
use Rattle.std.proofs.lemmas.Option.{slice_get-map}
use Rattle.dl_bytes.specs.Limits.{admitted_limit}
use Rattle.dl_events.specs.declared.event.Event.{Event}
use Rattle.dl_lemmas.proofs.Lists.{within_of}
use Rattle.dl_lemmas.proofs.Options.{some_is}
use Rattle.dl_model.specs.Frames.{admitted, frames_of}
use Rattle.dl_model.specs.Journal.{IsOpen}
use Rattle.dl_model.specs.Setting.{Setting}
use Rattle.dl_outside.proofs.Staying.{some_stays}
use Rattle.dl_outside.specs.Outside.{Grows, HasRisen, Stays}
use Rattle.dl_outside.specs.Told.{LinkTold, NetTold}
use Rattle.dl_serve.specs.declared.beginning.Begun.{Begun}
use Rattle.dl_serve.specs.declared.closed.Closed.{Closed}
use Rattle.dl_serve.specs.Admitted.{TellGiven}
use Rattle.dl_serve.specs.WhoWaited.{EachGave, GaveOrIdled, AcceptsInOrder, HasAcceptedInOrder, NetsStand}
use Rattle.dl_serve.specs.Open.{setting}
use Rattle.dl_serve.specs.Program.{IsServed, ServesOnce}
use Rattle.dl_serve.specs.Service.{Accepts, GoesOn, Program, Rounds, ServesRound, Standing, WasRead, frames_in, nobody, source_in}
use Rattle.dl_serve.specs.Told.{Told}
use Rattle.dl_serve.proofs.AskedNets.{most_dropped}
use Rattle.dl_serve.proofs.GoingLinks.{rose_on}
use Rattle.dl_serve.proofs.HandedLinks.{hands_none, hands_one, hands_same, next_place}

-- ---- what a link gave

-- what it gave, it has given afterwards
gave_on : (many : ℕ) (old new : LinkTold) → GoesOn old new → GaveOrIdled many old → GaveOrIdled many new
gave_on many old new goes (inr idle) = inr (omega (arith, idle, goes.idles))
gave_on many old new goes (inl gave) = inl (by old.given goes.given gave) where
  by : (o : Option (List ℕ)) → Grows o new.given goes.gave → IsSomeAnd o (λ bytes. many ≤ length bytes) → IsSomeAnd new.given (λ bytes. many ≤ length bytes)
  by None grows some = absurd some
  by (Some bytes) grows some =
      subst (λ (o : Option (List ℕ)). IsSomeAnd o (λ all. many ≤ length all)) (sym grows) (let long = length-append bytes goes.gave in omega (arith, some, long))

gave_less : (many fewer : ℕ) (link : LinkTold) → fewer ≤ many → GaveOrIdled many link → GaveOrIdled fewer link
gave_less many fewer link less (inr idle) = inr idle
gave_less many fewer link less (inl gave) = inl (by link.given gave) where
  by : (o : Option (List ℕ)) → IsSomeAnd o (λ bytes. many ≤ length bytes) → IsSomeAnd o (λ bytes. fewer ≤ length bytes)
  by None some = absurd some
  by (Some bytes) some = omega (arith, some, less)

-- and a byte more, or it was idle
gave_more : (many : ℕ) (old new : LinkTold) → GoesOn old new → WasRead old new → GaveOrIdled many old → GaveOrIdled (suc many) new
gave_more many old new goes read (inr idle) = inr (omega (arith, idle, goes.idles))
gave_more many old new goes (inr rose) (inl gave) = inr (let least = rose.1 in omega (arith, least))
gave_more many old new goes (inl more) (inl gave) = inl (by old.given more.1 gave) where
  by : (o : Option (List ℕ)) → Grows o new.given more.0 → IsSomeAnd o (λ bytes. many ≤ length bytes) → IsSomeAnd new.given (λ bytes. suc many ≤ length bytes)
  by None grows some = absurd some
  by (Some bytes) grows some =
      subst (λ (o : Option (List ℕ)). IsSomeAnd o (λ all. suc many ≤ length all)) (sym grows) (let long = length-append bytes more.0 in let one = more.2 in omega (arith, some, long, one))

fresh_gave : (link : LinkTold) → IsSome link.given → GaveOrIdled 0 link
fresh_gave link tells = inl (by link.given tells) where
  by : (o : Option (List ℕ)) → IsSome o → IsSomeAnd o (λ bytes. 0 ≤ length bytes)
  by None some = absurd (cc some)
  by (Some bytes) some = omega arith

-- ---- before the first round

hands_nothing : {L : Type 0} (net : NetTold L) → AcceptsInOrder 0 0 0 net net
hands_nothing {L} net = record { waits = waits net.waiting refl; all = all net.waiting } where
  waits : (o : Option (List L)) → net.waiting ≡ o → IfSome o (λ waiting. net.waiting ≡ Some (drop 0 waiting))
  waits None is = tt
  waits (Some waiting) is = is

  all : (o : Option (List L)) → IfSome o (λ waiting. 0 + 0 ≡ min 0 (length waiting))
  all None = tt
  all (Some waiting) = omega arith

-- what waited before waits still
hands_first : {L : Type 0} (first then now : NetTold L) (many came dropped : ℕ) → Stays first.waiting then.waiting → AcceptsInOrder many came dropped then now → AcceptsInOrder many came dropped first now
hands_first {L} first then now many came dropped stays hands = (let both = by first.waiting stays in record { waits = both.0; all = both.1 }) where
  by : (o : Option (List L)) → Stays o then.waiting → IfSome o (λ waiting. now.waiting ≡ Some (drop many waiting)) × IfSome o (λ waiting. came + dropped ≡ min many (length waiting))
  by None stays = (tt, tt)
  by (Some waiting) stays = (
    subst (λ (o : Option (List L)). IfSome o (λ w. now.waiting ≡ Some (drop many w))) stays hands.waits,
    subst (λ (o : Option (List L)). IfSome o (λ w. came + dropped ≡ min many (length w))) stays hands.all,
  )

-- ---- one net

fewer_frames : (set : Setting) (past more : List Event) → frames_in set past ≤ frames_in set (past ++ more)
fewer_frames set past more =
    let split = ap (λ (fs : List (List ℕ)). length fs) (flat_map-append (frames_of (source_in set)) past more) in
    let long = length-append (admitted (source_in set) past) (admitted (source_in set) more) in omega (arith, split, long)

false_before : (a b : Bool) → (a ≡ true → b ≡ true) → b ≡ false → a ≡ false
false_before true b still none = absurd (let bad : true ≡ false = sym (still refl) ∙ none in cc bad)
false_before false b still none = refl

module _ {L : Type 0} (told : L → LinkTold) (faults : ℕ) where
  never_fell : (wanted : Bool) (old new : NetTold L) (came dropped : ℕ) → Accepts told faults wanted old new came dropped → old.faults ≤ new.faults
  never_fell wanted old new came dropped (inl handed) = (let same = handed.1.2 in omega (arith, same))
  never_fell wanted old new came dropped (inr none) = none.2

  net_handed : (first : NetTold L) (many all gone : ℕ) (wanted : Bool) (old new : NetTold L) (came dropped : ℕ) → Accepts told faults wanted old new came dropped → wanted ≡ false → ¬ (HasRisen faults new.faults)
      → AcceptsInOrder many all gone first old → AcceptsInOrder (suc many) (all + came) (gone + dropped) first new
  net_handed first many all gone wanted old new came dropped (inl handed) unwanted stood hands =
      hands_one told first old new many all (all + came) gone (gone + dropped) handed.0 (let one = handed.2 in omega (arith, one)) handed.1 hands
  net_handed first many all gone wanted old new came dropped (inr none) unwanted stood hands = elim none.3 [
    | inl nobody_waits ↦
        hands_same first new (suc many) all (all + came) gone (gone + dropped) (let so = none.0 in omega (arith, so)) (let so = none.0 in omega (arith, so)) (hands_none told first old new many all gone nobody_waits none.1 hands)
    | inr other ↦ elim other [ inl rose ↦ absurd (stood rose) | inr wants ↦ absurd (let bad : true ≡ false = sym wants ∙ unwanted in cc bad) ]
  ]

  -- who comes now has the place of this round, where none was dropped
  its_place : (first : NetTold L) (many all gone : ℕ) (wanted : Bool) (old new : NetTold L) (came dropped : ℕ) → Accepts told faults wanted old new came dropped → IsSome first.waiting → gone ≡ 0 → 1 ≤ came
      → AcceptsInOrder many all gone first old → many ≤ all
  its_place first many all gone wanted old new came dropped (inl handed) waiting none one hands = next_place told first old new many all gone handed.0 waiting none handed.1 hands
  its_place first many all gone wanted old new came dropped (inr nobody_came) waiting none one hands = absurd (let so = nobody_came.0 in omega (arith, so, one))

-- ---- rounds

module _ {L : Type 0} (told : L → LinkTold) (set : Setting) (first_net first_users : NetTold L) where
  -- so many rounds were made: who was handed out, and what those gave that are open, where this counts
  record Handed (Clients_count Users_count : Type 0) (many : ℕ) (s : Standing L) : Type 0 where
    clients_dropped : ℕ
    users_dropped : ℕ
    dropped : s.dropped ≡ min (clients_dropped + users_dropped) most_dropped
    on_net : AcceptsInOrder many (length s.clients) clients_dropped first_net s.net
    on_users : AcceptsInOrder many (length s.programs) users_dropped first_users s.users
    clients : Clients_count → EachGave many (λ place. IsOpen (place + 1) s.events) s.clients
    programs : Users_count → (place : ℕ) (program : Program) → slice_get s.programs place ≡ Some program → program.end ≡ None → GaveOrIdled (many - place) program.link

  module _ (Clients_count Users_count : Type 0) (tells : Clients_count → TellGiven told) (user_tells : Users_count → TellGiven told) (waiting : Clients_count → IsSome first_net.waiting)
      (user_waiting : Users_count → IsSome first_users.waiting) where
    -- nothing went wrong so far
    record IsWell (s : Standing L) : Type 0 where
      net : ¬ (HasRisen first_net.faults s.net.faults)
      users : ¬ (HasRisen first_users.faults s.users.faults)
      unwanted : s.wanted ≡ false
      undropped : Clients_count → s.dropped ≡ 0
      users_undropped : Users_count → s.dropped ≡ 0
      room : frames_in set s.events + 4096 ≤ admitted_limit

    module _ (many : ℕ) (old new : Standing L) (r : ServesRound told true set first_net.faults first_users.faults old new) (well : IsWell new) where
      sooner : IsWell old
      sooner = record {
        net = λ rose. well.net (rose_on first_net.faults first_net.faults old.net.faults new.net.faults (omega arith) (never_fell told first_net.faults new.wanted old.net new.net r.clients_came r.clients_dropped r.accepts) rose);
        users = λ rose. well.users (rose_on first_users.faults first_users.faults old.users.faults new.users.faults (omega arith)
            (never_fell told first_users.faults new.wanted old.users new.users r.programs_came r.programs_dropped r.enters) rose);
        unwanted = false_before old.wanted new.wanted r.still_wanted well.unwanted;
        undropped = λ counts. (let none = well.undropped counts in let so = r.dropped in omega (arith, none, so));
        users_undropped = λ counts. (let none = well.users_undropped counts in let so = r.dropped in omega (arith, none, so));
        room = (let more = fewer_frames set old.events r.more in let same = ap (λ (es : List Event). frames_in set es) r.noted in let room = well.room in omega (arith, more, same, room));
      }

      one_more : Handed Clients_count Users_count many old → Handed Clients_count Users_count (suc many) new
      one_more h = record {
        clients_dropped = h.clients_dropped + r.clients_dropped;
        users_dropped = h.users_dropped + r.programs_dropped;
        dropped = (let so = h.dropped in let now = r.dropped in omega (arith, so, now));
        on_net = subst (λ (n : ℕ). AcceptsInOrder (suc many) n (h.clients_dropped + r.clients_dropped) first_net new.net) (sym r.clients_many)
            (net_handed told first_net.faults first_net many (length old.clients) h.clients_dropped new.wanted old.net new.net r.clients_came r.clients_dropped r.accepts well.unwanted well.net h.on_net);
        on_users = subst (λ (n : ℕ). AcceptsInOrder (suc many) n (h.users_dropped + r.programs_dropped) first_users new.users) (sym r.programs_many)
            (net_handed told first_users.faults first_users many (length old.programs) h.users_dropped new.wanted old.users new.users r.programs_came r.programs_dropped r.enters well.unwanted well.users h.on_users);
        clients = λ counts place now there is. (let one = r.clients place now there in let goes = one.2.goes_on in let read = one.2.read is well.unwanted in elim one.1 [
          | inl before ↦
              gave_less (suc (many - place)) (suc many - place) now (omega arith)
              (gave_more (many - place) one.0 now goes read (h.clients counts place one.0 before (r.still_open place (within_of old.clients place one.0 before) is)))
          | inr fresh ↦
              let here = within_of new.clients place now there in
              let came = r.clients_many in
              let none = sooner.undropped counts in
              let so = h.dropped in
              let its = its_place told first_net.faults first_net many (length old.clients) h.clients_dropped new.wanted old.net new.net r.clients_came r.clients_dropped r.accepts (waiting counts) (omega (arith, none, so))
              (omega (arith, here, came, fresh.0)) h.on_net in
              gave_less 1 (suc many - place) now (omega (arith, its, fresh.0))
              (gave_more 0 one.0 now goes read (fresh_gave one.0 (subst (λ (l : LinkTold). IsSome l.given) (sym fresh.1.1.1) (tells counts fresh.1.1.0))))
        ]);
        programs = λ counts place now there open_so. (let one = r.programs place now there in let goes = one.2.goes_on in elim (one.2.read open_so) [
          | inl read ↦ elim one.1 [
            | inl before ↦
                gave_less (suc (many - place)) (suc many - place) now.link (omega arith)
                (gave_more (many - place) one.0.link now.link goes read (h.programs counts place one.0 before (one.2.still_open open_so)))
            | inr fresh ↦
                let here = within_of new.programs place now there in
                let came = r.programs_many in
                let none = sooner.users_undropped counts in
                let so = h.dropped in
                let its = its_place told first_users.faults first_users many (length old.programs) h.users_dropped new.wanted old.users new.users r.programs_came r.programs_dropped r.enters (user_waiting counts)
                (omega (arith, none, so)) (omega (arith, here, came, fresh.0)) h.on_users in
                gave_less 1 (suc many - place) now.link (omega (arith, its, fresh.0))
                (gave_more 0 one.0.link now.link goes read (fresh_gave one.0.link (subst (λ (l : LinkTold). IsSome l.given) (sym fresh.1.0.1.1) (user_tells counts fresh.1.0.1.0))))
          ]
          | inr full ↦ absurd (let room = well.room in omega (arith, full, room))
        ]);
      }

    rounds_hand : (many : ℕ) (s : Standing L) → Rounds (ServesOnce told set first_net.faults first_users.faults) many (nobody first_net first_users) s → IsWell s → Handed Clients_count Users_count many s
    rounds_hand zero s rounds well = subst (Handed Clients_count Users_count zero) (sym rounds) (record {
      clients_dropped = 0;
      users_dropped = 0;
      dropped = omega arith;
      on_net = hands_nothing first_net;
      on_users = hands_nothing first_users;
      clients = λ counts place now there. absurd (cc there);
      programs = λ counts place now there. absurd (cc there);
    })
    rounds_hand (suc many) s rounds well = one_more many rounds.0 s rounds.2.1 well (rounds_hand many rounds.0 rounds.1 (sooner many rounds.0 s rounds.2.1 well))

-- ---- the whole

program_at : (programs : List Program) (place : ℕ) (was : LinkTold) → slice_get (map (λ (p : Program). p.link) programs) place ≡ Some was → IsSomeAnd (slice_get programs place) (λ program. program.end ≡ None)
    → (program : Program) × (slice_get programs place ≡ Some program) × (program.link ≡ was) × (program.end ≡ None)
program_at programs place was there open_so = by (slice_get programs place) refl (sym (slice_get-map (λ (p : Program). p.link) programs place) ∙ there) open_so where
  by : (o : Option Program) → slice_get programs place ≡ o → option_map (λ (p : Program). p.link) o ≡ Some was → IsSomeAnd o (λ program. program.end ≡ None)
      → (program : Program) × (slice_get programs place ≡ Some program) × (program.link ≡ was) × (program.end ≡ None)
  by None at is some = absurd some
  by (Some program) at is some = (program, at, some_is is, some)

module _ {L : Type 0} (told : L → LinkTold) (begun : Begun) (old new : Told L) (full : Bool) (closed : Closed L) (last : Standing L) (s : IsServed told begun full old.net new.net old.users new.users closed last) (room : full ≡ false)
    (unwanted : closed.memory ≡ false) (stand : NetsStand old new) (frames : frames_in (setting begun) last.events + 4096 ≤ admitted_limit) where
  -- none was dropped, and links tell what they gave, as the net tells who waits
  abbrev Clients_count : Type 0
  Clients_count = TellGiven told × (closed.state.dropped ≡ 0) × IsSome old.net.waiting

  abbrev Users_count : Type 0
  Users_count = TellGiven told × (closed.state.dropped ≡ 0) × IsSome old.users.waiting

  handed : Handed told (setting begun) s.first_net s.first_users Clients_count Users_count begun.rounds last
  handed =
      subst (λ (n : ℕ). Handed told (setting begun) s.first_net s.first_users Clients_count Users_count n last) (s.all room)
      (rounds_hand told (setting begun) s.first_net s.first_users Clients_count Users_count (λ counts. counts.0) (λ counts. counts.0) (λ counts. some_stays old.net.waiting s.first_net.waiting s.net_heard.waiting counts.2)
      (λ counts. some_stays old.users.waiting s.first_users.waiting s.users_heard.waiting counts.2) s.many last s.rounds (record {
        net = λ rose. stand.net (subst (λ (n : ℕ). HasRisen n new.net.faults) s.net_heard.faults (subst (λ (n : NetTold L). HasRisen s.first_net.faults n.faults) s.net_last rose));
        users = λ rose. stand.users (subst (λ (n : ℕ). HasRisen n new.users.faults) s.users_heard.faults (subst (λ (n : NetTold L). HasRisen s.first_users.faults n.faults) s.users_last rose));
        unwanted = sym s.closing.wanted ∙ unwanted;
        undropped = λ counts. sym s.closing.dropped ∙ counts.1;
        users_undropped = λ counts. sym s.closing.dropped ∙ counts.1;
        room = frames;
      }))

  pub handed_out : HasAcceptedInOrder told begun.rounds last.events old.net new.net old.users new.users closed
  handed_out = record {
    clients_dropped = handed.clients_dropped;
    users_dropped = handed.users_dropped;
    dropped = s.closing.dropped ∙ handed.dropped;
    on_net = hands_first old.net s.first_net new.net begun.rounds (length closed.clients.links) handed.clients_dropped s.net_heard.waiting
        (subst (λ (n : ℕ). AcceptsInOrder begun.rounds n handed.clients_dropped s.first_net new.net) (sym s.closing.clients_many)
        (subst (λ (n : NetTold L). AcceptsInOrder begun.rounds (length last.clients) handed.clients_dropped s.first_net n) s.net_last handed.on_net));
    on_users = hands_first old.users s.first_users new.users begun.rounds (length closed.users.links) handed.users_dropped s.users_heard.waiting
        (subst (λ (n : ℕ). AcceptsInOrder begun.rounds n handed.users_dropped s.first_users new.users) (sym s.closing.programs_many)
        (subst (λ (n : NetTold L). AcceptsInOrder begun.rounds (length last.programs) handed.users_dropped s.first_users n) s.users_last handed.on_users));
    clients_gave = λ tells none waiting place link there is. (let one = s.closing.clients place link there in elim one.1 [
      | inl before ↦ gave_on (begun.rounds - place) one.0 link one.2 (handed.clients (tells, none, waiting) place one.0 before is)
      | inr never ↦ absurd never.1
    ]);
    users_gave = λ tells none waiting place link there slot. (let one = s.closing.programs place link there in elim one.1 [
      | inl before ↦
          let program = program_at last.programs place one.0 before (s.closing.ends place None slot) in
          gave_on (begun.rounds - place) one.0 link one.2
          (subst (λ (l : LinkTold). GaveOrIdled (begun.rounds - place) l) program.2 (handed.programs (tells, none, waiting) place program.0 program.1 program.3))
      | inr never ↦ absurd never.1
    ]);
  }
