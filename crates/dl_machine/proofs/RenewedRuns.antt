-- A run goes on with a trace that was begun anew: registry, streams and replies are what they were.
use Rattle.std.proofs.Common.{◌≡◌, ℕ, List, [], ◌∷◌, ◌++◌, length, Some, refl, sym, ap, subst, ◌∙◌, arith}
use Rattle.std.proofs.lemmas.List.{append-nil, drop_all}
use Rattle.dl_bytes.specs.declared.conf.Conf.{Conf}
use Rattle.dl_bytes.specs.declared.outcome.Done.{Done}
use Rattle.dl_control.specs.Reply.{control_reply}
use Rattle.dl_core.specs.Follows.{IsAfter, IsTraceAfter, Run, source_of, stored_by}
use Rattle.dl_core.specs.State.{Core}
use Rattle.dl_core.proofs.Asked.{reply_alike, served_alike}
use Rattle.dl_events.specs.declared.event.Event.{Event}
use Rattle.dl_events.specs.declared.event.Event.TheVariants as event
use Rattle.dl_hub.specs.Follows as hub
use Rattle.dl_model.specs.ClientStream.{traffic}
use Rattle.dl_model.specs.Frames.{FrameSource, stored_frames}
use Rattle.dl_model.specs.History.{slot_after}
use Rattle.dl_model.specs.Journal.{after, registry_of, reply_after, slots_of, start, step}
use Rattle.dl_model.specs.Registry.{Registry}
use Rattle.dl_model.specs.Reply.{apid_of, asked, ctid_of, reply_frame_to}
use Rattle.dl_model.specs.Setting.{Setting}
use Rattle.dl_model.specs.TraceFiles.{StoredFile}
use Rattle.dl_model.specs.declared.registry.Slot.{Slot}
use Rattle.dl_trace.specs.Made.{HasBegun}
use Rattle.dl_trace.specs.State.{Trace}

-- a run like this one, but for where its trace is and when that began
pub record IsLike (run now : Run) : Type 0 where
  pub source : source_of now ≡ source_of run
  pub buffer : now.setting.buffer ≡ run.setting.buffer

pub like_both : (run mid now : Run) → IsLike run mid → IsLike mid now → IsLike run now
like_both run mid now first second = record { source = second.source ∙ first.source; buffer = second.buffer ∙ first.buffer }

module _ (setting : Setting) (trace : Trace) where
  -- with a trace's directory and sizes
  abbrev sized : Setting
  sized = record setting { directory = trace.directory; file_size = trace.file_size; max_size = trace.max_size }

  step_same : (slots : ℕ → Slot) (registry : Registry) (e : Event) → step sized slots registry e ≡ step setting slots registry e
  step_same slots registry (event.Request client frame answer) = served_alike sized setting slots registry (asked frame) answer refl
  step_same slots registry _ = refl

  after_same : (before : List Event) (registry : Registry) (events : List Event) → after sized before registry events ≡ after setting before registry events
  after_same before registry [] = refl
  after_same before registry (e ∷ events) =
      ap (λ (r : Registry). after sized (before ++ e ∷ []) r events) (step_same (slot_after setting.first before) registry e)
      ∙ after_same (before ++ e ∷ []) (step setting (slot_after setting.first before) registry e) events

  reply_same : (before : List Event) (frame : List ℕ) (answer : Done) → reply_after sized before frame answer ≡ reply_after setting before frame answer
  reply_same before frame answer =
      ap (λ (r : Registry). reply_frame_to sized (slots_of setting before) r frame answer) (after_same [] (start setting) before)
      ∙ ap (control_reply setting.ecu) (reply_alike sized setting (slots_of setting before) (registry_of setting before) (apid_of frame) (ctid_of frame) (asked frame) answer refl refl refl)

-- where a trace has begun with these frames, over these files, in the place of the one that was kept
module _ (run : Run) (events : List Event) (took : ℕ → List ℕ) (old : Core) (conf : Conf) (trace : Trace) (stood : List StoredFile) (head : List (List ℕ)) (is : IsAfter run events took old)
    (begun : HasBegun conf stood head trace) where
  abbrev pub renewed : Run
  renewed = record run { setting = sized run.setting trace; stood = stood; before = length (stored_frames (source_of run) events); head = head }

  like : IsLike run renewed
  like = record {
    source = λ i. record { ecu = run.setting.ecu; frame = run.frame; apid = run.apid; reply = λ before frame answer. reply_same run.setting trace before frame answer i };
    buffer = refl;
  }

  head_alone : stored_by renewed events ≡ head
  head_alone =
      ap (λ (frames : List (List ℕ)). head ++ frames) (drop_all renewed.before (stored_frames (source_of renewed) events) (omega (arith, ap (λ (source : FrameSource). length (stored_frames source events)) like.source)))
      ∙ append-nil head

  pub renewed_after : IsLike run renewed × IsAfter renewed events took (record old { trace = Some trace })
  renewed_after = (
    like,
    record {
      set_to = record { ecu = is.set_to.ecu; unit = is.set_to.unit; buffer = is.set_to.buffer; level = is.set_to.level; injection = is.set_to.injection; clients = is.set_to.clients; software = is.set_to.software };
      registry = record { registry = is.registry.registry ∙ sym (after_same run.setting trace [] (start run.setting) events); slots = is.registry.slots; all = is.registry.all };
      hub = subst (λ (source : FrameSource). hub.IsAfter (traffic source events) took old.hub) (sym like.source) is.hub;
      begun = omega (arith, ap (λ (source : FrameSource). length (stored_frames source events)) like.source);
      trace = subst (λ (frames : List (List ℕ)). IsTraceAfter renewed frames trace) (sym head_alone) (record {
        directory = refl;
        file_size = refl;
        max_size = refl;
        stored = head;
        later = [];
        all = sym (append-nil head);
        files = begun.after;
        unstored = begun.none_missing;
        whole = λ goes. refl;
        unspent = λ goes some. begun.unspent some;
        spent = λ at. absurd (cc (begun.goes_on, at));
      });
    },
  )
