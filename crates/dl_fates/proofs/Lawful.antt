-- What the code writes is what the law of causes says.
use Rattle.std.proofs.Common.{◌≡◌, ℕ, zero, suc, ◌+◌, arith, List, [], ◌∷◌, ◌++◌, codes, map, refl, sym, ap, ◌∙◌}
use Rattle.std.specs.List.{AllByRecursion, flat_map, range_with_len}
use Rattle.std.specs.Option.{option_map_or}
use Rattle.std.proofs.lemmas.List.Concat.{flat_map-cons}
use Rattle.dl_bytes.specs.declared.conf.AppSpec.{AppSpec}
use Rattle.dl_events.specs.declared.event.Event.{Event}
use Rattle.dl_events.specs.declared.record.Record.{Record}
use Rattle.dl_model.specs.Along.{along}
use Rattle.dl_model.specs.Frames.{FrameSource}
use Rattle.dl_laws.specs.Fates.{Fate, by_answer, what_became_of}
use Rattle.dl_fates.specs.Found.{name_of}
use Rattle.dl_fates.specs.Rows.{clients_in, fate_words, heard_words, name_words, nobody, place_words, record_at, row_of, rows_of}
use Rattle.dl_fates.specs.Written.{TellWhole, fate_in, heard_by, row_by, rows_by}
use Rattle.dl_fates.specs.declared.call.CallAt.{CallAt}
use Rattle.dl_fates.specs.declared.fates.Fates.{Fates}

pub range_more : (first n : ℕ) → range_with_len first (suc n) ≡ range_with_len first n ++ (first + n) ∷ []
range_more first zero = ap (λ (m : ℕ). m ∷ []) (omega arith)
range_more first (suc n) = ap (λ (l : List ℕ). first ∷ l) (range_more (first + 1) n ∙ ap (λ (m : ℕ). range_with_len (first + 1) n ++ m ∷ []) (omega arith))

module _ (source : FrameSource) (buffer : ℕ) (events : List Event) where
  fate_is : (fates : Fates) (r : Record) → TellWhole source buffer events fates → fate_in fates r ≡ what_became_of source buffer fates.client events r
  fate_is fates r tells = ap (by_answer r.answer) (sym (tells (name_of r)))

  heard_is : (clients : List Fates) (r : Record) → AllByRecursion (TellWhole source buffer events) clients →
      heard_by clients r ≡ flat_map (λ (client : ℕ). heard_words client (what_became_of source buffer client events r)) (map (λ (fates : Fates). fates.client) clients)
  heard_is [] r tell = refl
  heard_is (fates ∷ clients) r tell =
      flat_map-cons (λ (one : Fates). heard_words one.client (fate_in one r)) fates clients
      ∙ ap (λ (text : List ℕ). heard_words fates.client (fate_in fates r) ++ text) (heard_is clients r tell.1)
      ∙ ap (λ (fate : Fate). heard_words fates.client fate ++ flat_map (λ (client : ℕ). heard_words client (what_became_of source buffer client events r)) (map (λ (one : Fates). one.client) clients)) (fate_is fates r tell.0)
      ∙ sym (flat_map-cons (λ (client : ℕ). heard_words client (what_became_of source buffer client events r)) fates.client (map (λ (one : Fates). one.client) clients))

  module _ (specs : List AppSpec) (absent : Fates) (clients : List Fates) (is_absent : absent.client ≡ nobody) (tells : TellWhole source buffer events absent)
      (all : AllByRecursion (TellWhole source buffer events) clients) (came : map (λ (fates : Fates). fates.client) clients ≡ clients_in events)
      (found more : CallAt → Record → List ℕ) (same : (at : CallAt) (r : Record) → found at r ≡ more at r) where
    row_is : (at : CallAt) (r : Record) → row_by specs absent clients found at r ≡ row_of source buffer events specs more at r
    row_is at r =
        let own : fate_in absent r ≡ what_became_of source buffer nobody events r = fate_is absent r tells ∙ ap (λ (client : ℕ). what_became_of source buffer client events r) is_absent in
        let all_heard = flat_map (λ client. heard_words client (what_became_of source buffer client events r)) (clients_in events) in
        let heard : heard_by clients r ≡ flat_map (λ (client : ℕ). heard_words client (what_became_of source buffer client events r)) (clients_in events) =
        heard_is clients r all ∙ ap (flat_map (λ (client : ℕ). heard_words client (what_became_of source buffer client events r))) came in
        ap (λ (fate : Fate). place_words at.line r ++ name_words r ++ fate_words specs at.told r fate (heard_by clients r) ++ found at r ++ codes "\n") own
        ∙ ap (λ (text : List ℕ). place_words at.line r ++ name_words r ++ fate_words specs at.told r (what_became_of source buffer nobody events r) text ++ found at r ++ codes "\n") heard
        ∙ ap (λ (text : List ℕ). place_words at.line r ++ name_words r ++ fate_words specs at.told r (what_became_of source buffer nobody events r) all_heard ++ text ++ codes "\n") (same at r)

    pub rows_are : (records : List (List Record)) (calls : List CallAt) → rows_by records specs absent clients found calls ≡ rows_of source buffer records events specs more calls
    rows_are records calls = ap (λ (row : CallAt → Record → List ℕ). along (λ (before : List CallAt) (at : CallAt). option_map_or (row at) (record_at records before at) []) calls) (λ i at r. row_is at r i)
