-- Drains one after the other.
use Rattle.std.proofs.Common.{◌≡◌, ℕ, ◌+◌, List, [], ◌++◌, append_assoc, append-nil, count_by, refl, sym, ap, ◌∙◌, subst, cond, arith}
use Rattle.std.specs.List.{filter_map}
use Rattle.std.proofs.lemmas.List.Elements.{filter_map-append}
use Rattle.std.proofs.lemmas.List.Sums.{sum_by-append}
use Rattle.dl_bytes.specs.declared.conf.AppSpec.{AppSpec}
use Rattle.dl_events.specs.declared.event.Event.{Event}
use Rattle.dl_cells.specs.declared.level_history.Change.{Change}
use Rattle.dl_model.specs.Journal.{IsWellFormed}
use Rattle.dl_ring.specs.declared.item.RingItem.{RingItem}
use Rattle.dl_ring.specs.Items.{calls_in}
use Rattle.dl_ring.proofs.Items.{calls_in-append}
use Rattle.dl_desk.specs.Told.{ControlTold}
use Rattle.dl_core.specs.Admission.{GivesFrame, GivesFrames}
use Rattle.dl_core.specs.Follows.{Run, source_of}
use Rattle.dl_core.specs.State.{Core}
use Rattle.dl_admission.proofs.Added.{adds_both, adds_each_both, adds_each_none, adds_none}
use Rattle.dl_admission.proofs.Admitted.{noted_both, running_both}
use Rattle.dl_admission.proofs.KeptClients.{clients_both, clients_none}
use Rattle.dl_admission.proofs.KeptTraces.{trace_both, trace_none}
use Rattle.dl_admission.proofs.Rooms.{rooms_both}
use Rattle.dl_turns.specs.Later.{level_in}
use Rattle.dl_taking.specs.Drained.{GivesTook, IsDrain, IsOfDrain, is_claim, is_noted}
use Rattle.dl_taking.specs.Side.{Side}
use Rattle.dl_taking.specs.Takes.{TellAllTaken}
use Rattle.dl_taking.specs.Took.{Took}
use Rattle.dl_lemmas.proofs.Lists.{all_first, all_both}

-- what it gives in the end it gave before
pub gave : (specs : List AppSpec) (took took_now : Took) (run : Run) → ((app : ℕ) → (items : List RingItem) × (took_now.taken app ≡ took.taken app ++ items)) → GivesTook specs took_now run → GivesTook specs took run
gave specs took took_now run more gives = record {
  frames = λ app. all_first (λ item. GivesFrame item run) (calls_in (took.taken app)) (calls_in (more app).0)
      (subst (λ items. GivesFrames items run) (ap calls_in (more app).1 ∙ calls_in-append (took.taken app) (more app).0) (gives.frames app));
  apids = gives.apids;
}

abbrev pub drain_none : (specs : List AppSpec) (s : Side) → IsDrain specs s s
drain_none specs s = record {
  entries = [];
  more = [];
  events = adds_each_none s.part.events;
  noted = refl;
  kinds = tt;
  running = refl;
  after = λ run past taken gives is. adds_none s.part.core s.part.folder run past taken tt is;
  formed = λ run past taken gives is there running well. subst (IsWellFormed run.setting (source_of run)) (sym (append-nil past)) well;
  there = λ there. there;
  rooms = λ run past taken gives is. tt;
  frames = 0;
  admitted = omega arith;
  clients = clients_none s.part.core.hub;
  trace = trace_none s.part.core.trace s.part.folder;
  rest = refl;
  desk = ap (λ (cs : List Change). record s.desk { sets = cs }) (sym (append-nil s.desk.sets));
  told = λ past told. subst (λ (events : List Event). TellAllTaken events s.took) (sym (append-nil past)) told;
  taken_more = λ app. ([], sym (append-nil (s.took.taken app)));
  others = λ app beyond. (refl, refl);
}

abbrev pub drain_both : (specs : List AppSpec) (old between new : Side) → IsDrain specs old between → IsDrain specs between new → IsDrain specs old new
drain_both specs old between new first second = record {
  entries = first.entries ++ second.entries;
  more = first.more ++ second.more;
  events = adds_each_both old.part.events between.part.events new.part.events first.more second.more first.events second.events;
  noted = noted_both first.entries second.entries first.more second.more first.noted second.noted;
  kinds = all_both IsOfDrain first.more second.more first.kinds second.kinds;
  running = running_both first.more second.more first.running second.running;
  after = λ run past taken gives is.
      adds_both first.more second.more (GivesTook specs between.took) (GivesTook specs new.took) old.part.core between.part.core new.part.core old.part.folder between.part.folder new.part.folder
      first.after second.after run past taken (gave specs between.took new.took run second.taken_more gives, gives) is;
  formed = λ run past taken gives is there running well.
      let before = gave specs between.took new.took run second.taken_more gives in
      subst (IsWellFormed run.setting (source_of run)) (append_assoc past first.more second.more)
      (second.formed run (past ++ first.more) taken gives (first.after run past taken before is).0 (first.there there) (running_both past first.more running first.running)
      (first.formed run past taken before is there running well));
  there = λ there. second.there (first.there there);
  rooms = λ run past taken gives is.
      let before = gave specs between.took new.took run second.taken_more gives in
      rooms_both run taken past first.more second.more (first.rooms run past taken before is) (second.rooms run (past ++ first.more) taken gives (first.after run past taken before is).0);
  frames = first.frames + second.frames;
  admitted = omega (arith, first.admitted, second.admitted);
  clients = clients_both first.more second.more old.part.core.hub between.part.core.hub new.part.core.hub first.clients second.clients;
  trace = trace_both old.part.core.trace between.part.core.trace new.part.core.trace old.part.folder between.part.folder new.part.folder first.trace second.trace;
  rest = second.rest ∙ ap (λ (k : Core). record k { registry = new.part.core.registry; hub = new.part.core.hub; trace = new.part.core.trace }) first.rest;
  desk = second.desk ∙ ap (λ (d : ControlTold). record d { sets = d.sets ++ filter_map level_in second.more }) first.desk
      ∙ ap (λ (cs : List Change). record old.desk { sets = cs })
      (append_assoc old.desk.sets (filter_map level_in first.more) (filter_map level_in second.more) ∙ ap (λ (cs : List Change). old.desk.sets ++ cs) (sym (filter_map-append level_in first.more second.more)));
  told = λ past told. subst (λ (events : List Event). TellAllTaken events new.took) (append_assoc past first.more second.more) (second.told (past ++ first.more) (first.told past told));
  taken_more = λ app. (
    (first.taken_more app).0 ++ (second.taken_more app).0,
    (second.taken_more app).1 ∙ ap (λ (items : List RingItem). items ++ (second.taken_more app).0) (first.taken_more app).1
        ∙ append_assoc (old.took.taken app) (first.taken_more app).0 (second.taken_more app).0,
  );
  others = λ app beyond. ((second.others app beyond).0 ∙ (first.others app beyond).0, (second.others app beyond).1 ∙ (first.others app beyond).1);
}

-- ---- counted

-- a drain of so many Log and Lost events and so many Claim events, for which so many frames were admitted
pub record IsCounted (specs : List AppSpec) (logs claims frames : ℕ) (old new : Side) : Type 0 where
  pub drain : IsDrain specs old new
  pub logs_so : count_by is_noted drain.more ≡ logs
  pub claims_so : count_by is_claim drain.more ≡ claims
  pub frames_so : drain.frames ≡ frames

pub counted_none : (specs : List AppSpec) (s : Side) → IsCounted specs 0 0 0 s s
counted_none specs s = record { drain = drain_none specs s; logs_so = refl; claims_so = refl; frames_so = refl }

pub counted_both : (specs : List AppSpec) (l1 c1 f1 l2 c2 f2 : ℕ) (old between new : Side) → IsCounted specs l1 c1 f1 old between → IsCounted specs l2 c2 f2 between new
    → IsCounted specs (l1 + l2) (c1 + c2) (f1 + f2) old new
counted_both specs l1 c1 f1 l2 c2 f2 old between new first second = record {
  drain = drain_both specs old between new first.drain second.drain;
  logs_so = omega (arith, sum_by-append (λ (e : Event). cond (is_noted e) 1 0) first.drain.more second.drain.more, first.logs_so, second.logs_so);
  claims_so = omega (arith, sum_by-append (λ (e : Event). cond (is_claim e) 1 0) first.drain.more second.drain.more, first.claims_so, second.claims_so);
  frames_so = omega (arith, first.frames_so, second.frames_so);
}
