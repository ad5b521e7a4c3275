-- The core after log messages of a program that are stored together.
use Rattle.std.proofs.Common.{◌≡◌, ℕ, List, [], ◌∷◌, ◌++◌, map, refl, sym, ap, subst, ◌∙◌, append_assoc, append-nil}
use Rattle.std.specs.List.{AllByRecursion, flat_map}
use Rattle.std.proofs.lemmas.Grind.{flat_map-append}
use Rattle.std.proofs.lemmas.List.{map-append}
use Rattle.dl_bytes.specs.declared.moment.Moment.{Moment}
use Rattle.dl_bytes.specs.declared.user.UserMsg.{UserMsg}
use Rattle.dl_bytes.specs.declared.user.UserMsg.TheVariants as user
use Rattle.dl_events.specs.declared.event.Event.{Event}
use Rattle.dl_outside.specs.Told.{FolderTold}
use Rattle.dl_model.specs.Along.{along_from}
use Rattle.dl_model.specs.ClientStream.{traffic, traffic_of}
use Rattle.dl_model.specs.Frames.{FrameSource, stored, stored_frames, stored_of, user_frames}
use Rattle.dl_model.specs.Setting.{Setting}
use Rattle.dl_model.specs.Traffic.{Traffic, Admitted}
use Rattle.dl_model.proofs.Lists.{along_from-append}
use Rattle.dl_registry.specs.Kept as registry
use Rattle.dl_registry.specs.Kept.{Kept}
use Rattle.dl_registry.proofs.Following.{after_event}
use Rattle.dl_core.specs.Admission.{Admits, IsLog, message_frames, user_event}
use Rattle.dl_core.specs.Follows.{Adds, HoldsTrace, IsAfter, source_of, stored_by}
use Rattle.dl_core.specs.State.{Core}
use Rattle.dl_trace.specs.Written.{StoresIn}
use Rattle.dl_core.proofs.Journals.{IsSameCore, events_follow}
use Rattle.dl_core.proofs.Tracing.{trace_follows}

module _ (moment : Moment) (channel : ℕ) where
  talks_messages : (source : FrameSource) (msgs : List UserMsg) (before : List Event)
      → along_from (traffic_of source) before (map (user_event moment channel) msgs) ≡ map Admitted (message_frames source.ecu msgs)
  talks_messages source [] before = refl
  talks_messages source (msg ∷ msgs) before =
      ap (λ (ts : List Traffic). map Admitted (user_frames source.ecu msg) ++ ts) (talks_messages source msgs (before ++ user_event moment channel msg ∷ []))
      ∙ sym (map-append Admitted (user_frames source.ecu msg) (message_frames source.ecu msgs))

  stores_messages : (source : FrameSource) (msgs : List UserMsg)
      → flat_map (stored_of source) (map (user_event moment channel) msgs) ≡ map (stored source.ecu moment) (message_frames source.ecu msgs)
  stores_messages source [] = refl
  stores_messages source (msg ∷ msgs) =
      ap (λ (fs : List (List ℕ)). map (stored source.ecu moment) (user_frames source.ecu msg) ++ fs) (stores_messages source msgs)
      ∙ sym (map-append (stored source.ecu moment) (user_frames source.ecu msg) (message_frames source.ecu msgs))

  -- a log message concerns no registry
  pub registry_log : (setting : Setting) (msg : UserMsg) (events : List Event) (kept : Kept) → IsLog msg → registry.IsAfter setting events kept
      → registry.IsAfter setting (events ++ user_event moment channel msg ∷ []) kept
  registry_log setting (user.Log message) events kept log is = after_event setting events (user_event moment channel (user.Log message)) kept kept is (λ slot. refl) refl refl refl
  registry_log setting (user.Overflow counter apid) events kept log is = absurd log
  registry_log setting (user.RegisterApp apid pid text) events kept log is = absurd log
  registry_log setting (user.UnregisterApp apid pid) events kept log is = absurd log
  registry_log setting (user.RegisterContext apid ctid position level trace pid text) events kept log is = absurd log
  registry_log setting (user.UnregisterContext apid ctid pid) events kept log is = absurd log
  registry_log setting (user.LogLevel a b c) events kept log is = absurd log
  registry_log setting (user.Injection a b c) events kept log is = absurd log

  registry_logs : (setting : Setting) (msgs : List UserMsg) (events : List Event) (kept : Kept) → AllByRecursion IsLog msgs → registry.IsAfter setting events kept
      → registry.IsAfter setting (events ++ map (user_event moment channel) msgs) kept
  registry_logs setting [] events kept logs is = subst (λ (es : List Event). registry.IsAfter setting es kept) (sym (append-nil events)) is
  registry_logs setting (msg ∷ msgs) events kept logs is =
      subst (λ (es : List Event). registry.IsAfter setting es kept) (append_assoc events (user_event moment channel msg ∷ []) (map (user_event moment channel) msgs))
      (registry_logs setting msgs (events ++ user_event moment channel msg ∷ []) kept logs.1 (registry_log setting msg events kept logs.0 is))

  pub messages_follow : (msgs : List UserMsg) (old new : Core) (told told_now : FolderTold) → AllByRecursion IsLog msgs
      → IsSameCore old new → new.registry ≡ old.registry
      → Admits (message_frames old.ecu msgs) old.hub new.hub
      → StoresIn (map (stored old.ecu moment) (message_frames old.ecu msgs)) old.trace new.trace told told_now
      → Adds (map (user_event moment channel) msgs) (λ run. Unit {0}) old new told told_now
  messages_follow msgs old new told told_now logs same kept talks stores = λ run events taken gives is.
      let source = source_of run in
      let more = map (user_event moment channel) msgs in
      let frames = map (stored old.ecu moment) (message_frames old.ecu msgs) in
      let entries : along_from (traffic_of source) events more ≡ map Admitted (message_frames old.ecu msgs) =
      talks_messages source msgs events ∙ ap (λ (e : List ℕ). map Admitted (message_frames e msgs)) (sym is.set_to.ecu) in
      let all : flat_map (stored_of source) more ≡ frames =
      stores_messages source msgs ∙ ap (λ (e : List ℕ). map (stored e moment) (message_frames e msgs)) (sym is.set_to.ecu) in
      events_follow run events more taken (map Admitted (message_frames old.ecu msgs)) frames old new told told_now same
      (subst (λ (k : Kept). registry.IsAfter run.setting (events ++ more) k) (sym kept) (registry_logs run.setting msgs events old.registry logs is.registry))
      (along_from-append (traffic_of source) [] events more ∙ ap (λ (ts : List Traffic). traffic source events ++ ts) entries)
      talks
      (flat_map-append (stored_of source) events more ∙ ap (λ (fs : List (List ℕ)). stored_frames source events ++ fs) all)
      (trace_follows run (stored_by run events) frames old.trace new.trace told told_now stores)
      is

  -- one message behind a batch is the batch with that message
  pub batch_one : (msgs : List UserMsg) (msg : UserMsg) (old between new : Core) (told told_between told_now : FolderTold)
      → Adds (map (user_event moment channel) msgs) (λ run. Unit {0}) old between told told_between
      → Adds (user_event moment channel msg ∷ []) (λ run. Unit {0}) between new told_between told_now
      → Adds (map (user_event moment channel) (msgs ++ msg ∷ [])) (λ run. Unit {0}) old new told told_now
  batch_one msgs msg old between new told told_between told_now first second = λ run events taken gives is.
      let more = map (user_event moment channel) msgs in
      let here = first run events taken gives is in
      let there = second run (events ++ more) taken gives here.0 in
      subst (λ (es : List Event). IsAfter run es taken new × (HoldsTrace run events old told → HoldsTrace run es new told_now))
      (append_assoc events more (user_event moment channel msg ∷ []) ∙ ap (λ (es : List Event). events ++ es) (sym (map-append (user_event moment channel) msgs (msg ∷ []))))
      (there.0, λ holds. there.1 (here.1 holds))
