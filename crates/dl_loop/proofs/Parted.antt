-- What is true of a daemon, and what a round was, goes on where the links of clients that are gone are shut.
use Rattle.std.proofs.Common.{◌≡◌, ℕ, ◌+◌, ◌-◌, List, [], Option, Some, None, inl, inr, append-nil, length, map, refl, sym, subst, ◌∙◌, arith}
use Rattle.std.specs.Prelude.{IsSome, get_or, slice_get}
use Rattle.std.proofs.lemmas.List.{length-map}
use Rattle.std.proofs.lemmas.Option.{slice_get-get_or, slice_get_within}
use Rattle.dl_outside.specs.Outside.{Stays}
use Rattle.dl_outside.specs.Told.{FolderTold, LinkTold, NetTold}
use Rattle.dl_hub.specs.State.{Hub, Waiting, outbox_of}
use Rattle.dl_core.proofs.LaterFolders.{folder_none}
use Rattle.dl_core.proofs.LeftFiles.{leaves_alone}
use Rattle.dl_admission.specs.Kept.{end_of}
use Rattle.dl_rounds.specs.Clients.{Clients}
use Rattle.dl_rounds.specs.Partings.{ShutsGone}
use Rattle.dl_rounds.specs.Passing.{EachOpen}
use Rattle.dl_rounds.proofs.Turned.{open_within}
use Rattle.dl_turns.specs.State.{Side}
use Rattle.dl_loop.specs.Daemon.{IsDaemon}
use Rattle.dl_loop.specs.Holds.{AreTaken}
use Rattle.dl_loop.specs.Later.{GoesRound}
use Rattle.dl_loop.specs.Scene.{scene}
use Rattle.dl_loop.specs.State.{DaemonState, clients_of}
use Rattle.dl_loop.specs.Steps.{Parts}
use Rattle.dl_loop.proofs.DeskRest.{later_none}
use Rattle.dl_loop.proofs.GoneRounds.{net_none}
use Rattle.dl_loop.proofs.NotedDaemons.{each_tells, noted_parted}
use Rattle.dl_loop.proofs.ShownDaemons.{shown_parted}

-- links that are shut took what they took
pub taken_parted : (hub : Hub) (old new : List LinkTold) (took : ℕ → List ℕ) → ShutsGone hub old new → AreTaken old took → AreTaken new took
taken_parted hub old new took shuts taken = λ place link there. by place link there (outbox_of hub (place + 1)) refl where
  same : (place : ℕ) → place + 1 - 1 ≡ place
  same place = omega arith

  was : (place : ℕ) (link : LinkTold) → slice_get new place ≡ Some link → slice_get old place ≡ Some (get_or old place link)
  was place link there = slice_get-get_or old place link (omega (arith, slice_get_within new place link there, shuts.many))

  by : (place : ℕ) (link : LinkTold) → slice_get new place ≡ Some link → (o : Option Waiting) → outbox_of hub (place + 1) ≡ o → link.taken ≡ Some (took (place + 1))
  by place link there (Some outbox) some =
      let stands = shuts.others (place + 1) (omega arith) (inr (subst (λ (o : Option Waiting). IsSome o) (sym some) refl)) in
      let stands_here : slice_get new place ≡ slice_get old place = subst (λ (p : ℕ). slice_get new p ≡ slice_get old p) (same place) stands in
      taken place link (sym stands_here ∙ there)
  by place link there None none =
      let before = get_or old place link in
      let shut = shuts.gone (place + 1) before link (omega arith) (omega (arith, slice_get_within new place link there, shuts.many)) none
      (subst (λ (p : ℕ). slice_get old p ≡ Some before) (sym (same place)) (was place link there))
      (subst (λ (p : ℕ). slice_get new p ≡ Some link) (sym (same place)) there) in
      subst (λ (o : Option (List ℕ)). Stays o link.taken) (taken place before (was place link there)) shut.taken

pub part_is : {L : Type 0} (told : L → LinkTold) (old new : DaemonState L) → IsDaemon told old → Parts told old new → IsDaemon told new
part_is {L} told old new is parts =
    let many : length new.links.links ≡ length old.links.links = omega (arith, length-map new.links.links told, length-map old.links.links told, parts.shuts.many) in
    subst (λ (d : DaemonState L). IsDaemon told d) (sym parts.rest) (record {
      told_by = is.told_by;
      linked = record {
        many = is.linked.many ∙ sym many;
        few = is.linked.few;
        place = omega (arith, is.linked.place, parts.room);
        settled = is.linked.settled;
        room = is.linked.room;
      };
      heard = is.heard;
      room = record { noted = is.room.noted; claimed = is.room.claimed; few = is.room.few; few_claims = is.room.few_claims; limit = is.room.limit; spare = is.room.spare };
      bounds = is.bounds;
      few = is.few;
      few_claims = is.few_claims;
      apps = is.apps;
      desk = is.desk;
      running = is.running;
      runs = λ run gives.
          let holds = is.runs run gives in record {
            took = holds.took;
            taken = λ tells. taken_parted old.core.hub (map told old.links.links) (map told new.links.links) holds.took parts.shuts (holds.taken tells);
            after = holds.after;
            noted = λ tells. noted_parted run old.journal.events holds.took old.core old.seated.listeners (map told old.links.links) (map told new.links.links) parts.shuts
                (each_tells told old.links.links tells)
                (taken_parted old.core.hub (map told old.links.links) (map told new.links.links) holds.took parts.shuts (holds.taken (λ l. (tells l).1))) (holds.noted tells);
            formed = holds.formed;
            posted = holds.posted;
            there = holds.there;
          };
      shown = λ run gives. shown_parted old.journal.events old.core.hub (map told old.links.links) (map told new.links.links) parts.shuts (is.shown run gives);
    })

-- a round goes on with it
pub goes_parts : {L : Type 0} (told : L → LinkTold) (net : NetTold L) (folder : FolderTold) (old new : DaemonState L) → Parts told old new → GoesRound net net (scene old folder) (scene new folder)
goes_parts {L} told net folder old new parts =
    let many : length new.links.links ≡ length old.links.links = omega (arith, length-map new.links.links told, length-map old.links.links told, parts.shuts.many) in
    subst (λ (d : DaemonState L). GoesRound net net (scene old folder) (scene d folder)) (sym parts.rest) (record {
      more = [];
      later = record {
        events = sym (append-nil old.journal.events);
        calls = refl;
        first_core = refl;
        first_desk = refl;
        desk = later_none old.desk;
        owners = refl;
        taken = λ app. ([], sym (append-nil _));
        connects = omega (arith, many);
        holds = λ run gives holds. holds;
        leaves = leaves_alone old.core old.core folder refl;
        folder = λ run gives. folder_none run.setting old.journal.events (end_of old.core.trace) folder;
      };
      of_round = tt;
      greeted = refl;
      net_later = net_none net;
      dropped = inl refl;
    })

-- clients that are still open are as they were
pub each_parted : {L : Type 0} (told : L → LinkTold) (Holds : ℕ → LinkTold → LinkTold → Side → Type 0) (first : Clients) (folder folder_now : FolderTold) (old new : DaemonState L) → Parts told old new → folder_now ≡ folder
    → EachOpen Holds first (clients_of told old folder) → EachOpen Holds first (clients_of told new folder_now)
each_parted {L} told Holds first folder folder_now old new parts same each =
    subst (λ (d : DaemonState L). EachOpen Holds first (clients_of told d folder_now)) (sym parts.rest)
    (subst (λ (f : FolderTold). EachOpen Holds first (clients_of told (record old { links = new.links }) f)) (sym same)
    (λ number some link link_now was is. each number some link link_now was
    (sym (parts.shuts.others number (open_within old.core.hub number some).0 (inr some)) ∙ is)))
