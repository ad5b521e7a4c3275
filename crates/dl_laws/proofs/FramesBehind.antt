-- Frames behind those that a stream had, and their bytes.
use Rattle.std.proofs.Common.{◌≡◌, ℕ, ◌+◌, List, [], ◌++◌, length, sym, ap, subst, ◌∙◌}
use Rattle.std.specs.List.{concat, AllByRecursion}
use Rattle.std.proofs.lemmas.List.{append_cancel_left}
use Rattle.std.proofs.lemmas.List.Folds.{concat-append}
use Rattle.dl_lemmas.proofs.Lists.{all_second}
use Rattle.dl_events.specs.declared.event.Event.{Event}
use Rattle.dl_model.specs.Along.{along_from}
use Rattle.dl_model.specs.Frames.{FrameSource}
use Rattle.dl_model.specs.Traffic.{Traffic}
use Rattle.dl_model.specs.ClientStream.{put, sent, traffic_of, traffic, stream}
use Rattle.dl_laws.specs.Frames.{TellsLen}
use Rattle.dl_model.proofs.Lists.{along_from-append}
use Rattle.dl_laws.specs.FrameLengths.{CarriesLen}
use Rattle.dl_laws.specs.FramesPut.{IsPut}
use Rattle.dl_laws.proofs.Traffics.{sent_tell}

pub sent-append : (ecu : List ℕ) (buffer client : ℕ) (ts more : List Traffic) → sent ecu buffer client (ts ++ more) ≡ sent ecu buffer client ts ++ along_from (put ecu buffer client) ts more
sent-append ecu buffer client ts more = along_from-append (put ecu buffer client) [] ts more

pub traffic-append : (source : FrameSource) (events more : List Event) → traffic source (events ++ more) ≡ traffic source events ++ along_from (traffic_of source) events more
traffic-append source events more = along_from-append (traffic_of source) [] events more

pub bytes_behind : (frames parts : List (List ℕ)) (bytes : List ℕ) → concat (frames ++ parts) ≡ concat frames ++ bytes → bytes ≡ concat parts
bytes_behind frames parts bytes e = append_cancel_left (concat frames) bytes (concat parts) (sym e ∙ concat-append frames parts)

abbrev Grows : List (List ℕ) → List (List ℕ) → Type 0
Grows old new = (parts : List (List ℕ)) × AllByRecursion TellsLen parts × (new ≡ old ++ parts)

pub grows : (ecu : List ℕ) (buffer client : ℕ) (ts more : List Traffic) → length ecu ≡ 4 → AllByRecursion CarriesLen (ts ++ more) →
    (parts : List (List ℕ)) × AllByRecursion TellsLen parts × (sent ecu buffer client (ts ++ more) ≡ sent ecu buffer client ts ++ parts)
grows ecu buffer client ts more ecu_long all =
    let parts = along_from (put ecu buffer client) ts more in
    let grown = sent-append ecu buffer client ts more in
    (parts, all_second TellsLen (sent ecu buffer client ts) parts (subst (AllByRecursion TellsLen) grown (sent_tell ecu buffer client (ts ++ more) ecu_long all)), grown)

pub grows_by_events : (source : FrameSource) (buffer client : ℕ) (events more : List Event) → length source.ecu ≡ 4 → AllByRecursion CarriesLen (traffic source (events ++ more)) →
    (parts : List (List ℕ)) × AllByRecursion TellsLen parts × (stream source buffer client (events ++ more) ≡ stream source buffer client events ++ parts)
grows_by_events source buffer client events more ecu_long all =
    let f = sent source.ecu buffer client in
    subst (λ ts. AllByRecursion CarriesLen ts → Grows (f (traffic source events)) (f ts)) (sym (traffic-append source events more))
    (λ all. grows source.ecu buffer client (traffic source events) (along_from (traffic_of source) events more) ecu_long all) all

-- the bytes behind these frames are those of the frames that were put
put_where : (frames stream_now : List (List ℕ)) (bytes : List ℕ) → Grows frames stream_now → concat stream_now ≡ concat frames ++ bytes → IsPut frames bytes stream_now
put_where frames stream_now bytes grown e = record {
  parts = grown.0;
  tell = grown.1;
  are = bytes_behind frames grown.0 bytes (ap concat (sym grown.2) ∙ e);
  behind = grown.2;
}

pub put_behind : (ecu : List ℕ) (buffer client : ℕ) (ts more : List Traffic) (frames : List (List ℕ)) (bytes : List ℕ) → length ecu ≡ 4 → AllByRecursion CarriesLen (ts ++ more)
    → frames ≡ sent ecu buffer client ts → concat (sent ecu buffer client (ts ++ more)) ≡ concat frames ++ bytes → IsPut frames bytes (sent ecu buffer client (ts ++ more))
put_behind ecu buffer client ts more frames bytes ecu_long all had e =
    let now = sent ecu buffer client (ts ++ more) in
    put_where frames now bytes (subst (λ (fs : List (List ℕ)). Grows fs now) (sym had) (grows ecu buffer client ts more ecu_long all)) e

pub put_by_events : (source : FrameSource) (buffer client : ℕ) (events more : List Event) (frames : List (List ℕ)) (bytes : List ℕ) → length source.ecu ≡ 4
    → AllByRecursion CarriesLen (traffic source (events ++ more)) → frames ≡ stream source buffer client events → concat (stream source buffer client (events ++ more)) ≡ concat frames ++ bytes
    → IsPut frames bytes (stream source buffer client (events ++ more))
put_by_events source buffer client events more frames bytes ecu_long all had e =
    let now = stream source buffer client (events ++ more) in
    put_where frames now bytes (subst (λ (fs : List (List ℕ)). Grows fs now) (sym had) (grows_by_events source buffer client events more ecu_long all)) e
