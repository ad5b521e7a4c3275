-- The core before its first event.
use Rattle.std.proofs.Common.{◌≡◌, ℕ, suc, true, List, [], ◌∷◌, ◌++◌, length, drop, Option, Some, None, refl, sym, ap, subst, ◌∙◌, arith}
use Rattle.std.specs.Prelude.{IfSome, IsSomeAnd, nat_lt}
use Rattle.std.proofs.lemmas.Bool.Decides.{nat_tests}
use Rattle.std.proofs.lemmas.Bool.{false≢true}
use Rattle.std.proofs.lemmas.List.{append-nil, drop_all}
use Rattle.dl_bytes.specs.declared.conf.Conf.{Conf}
use Rattle.dl_bytes.specs.declared.conf.Stored.{Stored}
use Rattle.dl_events.specs.declared.event.Event.{Event}
use Rattle.dl_model.specs.Frames.{stored_frames}
use Rattle.dl_model.specs.Setting.{Setting}
use Rattle.dl_model.specs.TraceFiles.{StoredFile, is_spent, trace_files}
use Rattle.dl_outside.specs.Told.{FolderTold}
use Rattle.dl_model.specs.declared.software.Software.{Software}
use Rattle.dl_registry.specs.Kept as registry
use Rattle.dl_registry.proofs.Following.{made_follows}
use Rattle.dl_hub.specs.Follows as hub
use Rattle.dl_hub.specs.State.{fresh}
use Rattle.dl_trace.specs.State as traces
use Rattle.dl_trace.specs.State.{Trace}
use Rattle.dl_trace.specs.Made.{HasBegun, IsMade}
use Rattle.dl_trace.specs.InFolder.{HasFiles}
use Rattle.dl_core.specs.Settings.{HasSizes, setting_for, begun_for}
use Rattle.dl_core.specs.State.{Core}
use Rattle.dl_core.specs.Follows.{Run, GoesOnWith, HoldsFiles, HoldsTrace, IsTraceAfter, IsAfter, begun_anew, source_of, stored_by}

-- a trace that has begun is one after the frames with which it has
trace_begins : (run : Run) (conf : Conf) (head : List (List ℕ)) (kept : Trace) → HasSizes conf run.setting → HasBegun conf run.stood head kept → IsTraceAfter run head kept
trace_begins run conf head kept sizes begun = record {
  directory = begun.directory ∙ sizes.directory;
  file_size = begun.file_size ∙ sizes.file_size;
  max_size = begun.max_size ∙ sizes.max_size;
  stored = head;
  later = [];
  all = sym (append-nil head);
  files = begun.after;
  unstored = begun.none_missing;
  whole = λ none. refl;
  unspent = λ none some. ap (λ (n : ℕ). is_spent n run.stood head) (sym (begun.file_size ∙ sizes.file_size)) ∙ begun.unspent some;
  spent = λ at. absurd (cc (begun.goes_on, at));
}

some_frames : (n : ℕ) → nat_lt 0 (suc n) ≡ true
some_frames n = grind (arith, nat_tests)

-- a trace that was made has begun with no frame
made_begins : (conf : Conf) (stood : List StoredFile) (head : List (List ℕ)) (kept : Trace) → IsMade conf kept → traces.IsAfter stood head kept → HasBegun conf stood head kept
made_begins conf stood [] kept made after = record {
  directory = made.directory;
  file_size = made.file_size;
  max_size = made.max_size;
  goes_on = made.goes_on;
  after = after;
  unspent = λ some. absurd (omega (arith, some));
  none_missing = made.none_missing;
}
made_begins conf stood (frame ∷ head) kept made after = absurd (false≢true (sym made.unbegun ∙ after.begun ∙ some_frames (length head)))

pub begins : (run : Run) (software : Software) (conf : Conf) (stored : Stored) (first clients : ℕ) (kept : Option Trace) → run.setting ≡ setting_for software conf stored first clients → run.before ≡ 0
    → hub.IsAfter [] (λ (number : ℕ). []) (fresh conf.ecu conf.buffer clients) → IfSome kept (IsMade conf) → IfSome kept (traces.IsAfter run.stood run.head)
    → IsAfter run [] (λ (number : ℕ). []) (begun_for software conf stored first kept clients)
begins run software conf stored first clients kept set none hubs made stood = record {
  set_to = record {
    ecu = sym (ap (λ (s : Setting). s.ecu) set);
    unit = sym (ap (λ (s : Setting). s.ecu) set);
    buffer = sym (ap (λ (s : Setting). s.buffer) set);
    level = sym (ap (λ (s : Setting). s.level) set);
    injection = sym (ap (λ (s : Setting). s.injection) set);
    software = sym (ap (λ (s : Setting). s.software) set);
    clients = sym (ap (λ (s : Setting). s.clients) set);
  };
  registry = subst (λ (s : Setting). registry.IsAfter s [] (registry.made conf.level stored first)) (sym set) (made_follows (setting_for software conf stored first clients));
  hub = hubs;
  begun = omega (arith, none);
  trace = subst (λ (n : ℕ). IfSome kept (IsTraceAfter run (run.head ++ drop n []))) (sym none)
      (subst (λ (fs : List (List ℕ)). IfSome kept (IsTraceAfter run fs)) (sym (append-nil run.head)) (traced kept made stood));
} where
  sizes : HasSizes conf run.setting
  sizes = record {
    directory = sym (ap (λ (s : Setting). s.directory) set);
    file_size = sym (ap (λ (s : Setting). s.file_size) set);
    max_size = sym (ap (λ (s : Setting). s.max_size) set);
  }

  traced : (o : Option Trace) → IfSome o (IsMade conf) → IfSome o (traces.IsAfter run.stood run.head) → IfSome o (IsTraceAfter run run.head)
  traced None made stood = tt {0}
  traced (Some t) made stood = trace_begins run conf run.head t sizes (made_begins conf run.stood run.head t made stood)

-- ---- a new trace in the place of one that has ended

module _ (conf : Conf) (head : List (List ℕ)) (kept : Trace) (core : Core) (run : Run) (events : List Event) (taken : ℕ → List ℕ) (stood : List StoredFile) (is : IsAfter run events taken core)
    (sizes : HasSizes conf run.setting) (begun : HasBegun conf stood head kept) where
  abbrev now : Run
  now = begun_anew stood head events run

  head_alone : stored_by now events ≡ head
  head_alone = ap (λ (fs : List (List ℕ)). head ++ fs) (drop_all now.before (stored_frames (source_of run) events) (omega arith)) ∙ append-nil head

  goes_on_after : IsAfter now events taken (record core { trace = Some kept })
  goes_on_after = record {
    set_to = record {
      ecu = is.set_to.ecu;
      unit = is.set_to.unit;
      buffer = is.set_to.buffer;
      level = is.set_to.level;
      injection = is.set_to.injection;
      software = is.set_to.software;
      clients = is.set_to.clients;
    };
    registry = is.registry;
    hub = is.hub;
    begun = omega arith;
    trace = subst (λ (fs : List (List ℕ)). IsTraceAfter now fs kept) (sym head_alone) (trace_begins now conf head kept sizes begun);
  }

  holds_head : (folder : FolderTold) → IsSomeAnd folder.files (λ files. HasFiles conf.directory files (trace_files conf.file_size conf.max_size stood head)) → HoldsTrace now events (record core { trace = Some kept }) folder
  holds_head folder holds = λ goes_on. subst (λ (fs : List (List ℕ)). HoldsFiles now fs folder.files) (sym head_alone)
      (subst (λ (d : List ℕ). IsSomeAnd folder.files (λ files. HasFiles d files (trace_files run.setting.file_size run.setting.max_size stood head))) sizes.directory
      (subst (λ (n : ℕ). IsSomeAnd folder.files (λ files. HasFiles conf.directory files (trace_files n run.setting.max_size stood head))) sizes.file_size
      (subst (λ (n : ℕ). IsSomeAnd folder.files (λ files. HasFiles conf.directory files (trace_files conf.file_size n stood head))) sizes.max_size holds)))

pub goes_on_with : (conf : Conf) (head : List (List ℕ)) (kept : Trace) (core : Core) → GoesOnWith conf head kept core
goes_on_with conf head kept core = λ run events taken stood is sizes begun. (
  goes_on_after conf head kept core run events taken stood is sizes begun,
  holds_head conf head kept core run events taken stood is sizes begun,
)

-- before the first event
pub first_frames : (run : Run) → stored_by run [] ≡ run.head
first_frames run = ap (λ (fs : List (List ℕ)). run.head ++ fs) (drop_all run.before [] (omega arith)) ∙ append-nil run.head

pub holds_first : (run : Run) (core : Core) (folder : FolderTold) → HoldsFiles run run.head folder.files → HoldsTrace run [] core folder
holds_first run core folder holds = by core.trace where
  by : (o : Option Trace) → IfSome o (λ kept. kept.state.end ≡ None → HoldsFiles run (stored_by run []) folder.files)
  by None = tt {0}
  by (Some kept) = λ goes_on. subst (λ (fs : List (List ℕ)). HoldsFiles run fs folder.files) (sym (first_frames run)) holds
