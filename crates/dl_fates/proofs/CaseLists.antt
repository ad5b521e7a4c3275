-- The calls that a picture shows, with one call more, and by the law of causes.
use Rattle.std.proofs.Common.{◌≡◌, ℕ, ◌+◌, List, [], ◌∷◌, ◌++◌, Option, Some, None, Bor, refl, sym, ap, ◌∙◌}
use Rattle.std.specs.Prelude.{count_by, option_map}
use Rattle.std.specs.Option.{option_map_or}
use Rattle.dl_call_timeline.specs.declared.call.Call.{Call}
use Rattle.dl_fates.specs.declared.call.CallAt.{CallAt}
use Rattle.dl_events.specs.declared.event.Event.{Event}
use Rattle.dl_events.specs.declared.record.Record.{Record}
use Rattle.dl_model.proofs.Lists.{along-one}
use Rattle.dl_model.specs.Along.{along}
use Rattle.dl_model.specs.Frames.{FrameSource}
use Rattle.dl_model.specs.WholeAccounts.{record_named}
use Rattle.dl_laws.specs.Fates.{Fate, by_answer, what_became_of}
use Rattle.dl_fates.specs.Cases.{cases_by, cases_of, drawn_as}
use Rattle.dl_fates.specs.Found.{name_of}
use Rattle.dl_fates.specs.Rows.{is_by, nobody, record_at}
use Rattle.dl_fates.specs.Written.{TellWhole, fate_in}
use Rattle.dl_fates.specs.declared.fates.Fates.{Fates}

module _ (records : List (List Record)) (found : Fates) where
  abbrev case : CallAt → Record → List Call
  case at r = drawn_as at r (fate_in found r) ∷ []

  -- a call, of a record that is lent
  lent : (at : CallAt) (o : Option (Bor Record)) → option_map_or (λ (r : Bor Record). case at r.now) o [] ≡ option_map_or (case at) (option_map (λ (r : Bor Record). r.now) o) []
  lent at None = refl
  lent at (Some r) = refl

  pub cases_more : (calls : List CallAt) (at : CallAt) (o : Option (Bor Record)) (number : ℕ) (before after : List Call) → number ≡ 1 + count_by (is_by at.writer) calls →
      option_map (λ (r : Bor Record). r.now) o ≡ record_named records at.writer number → before ≡ cases_by records found calls →
      after ≡ before ++ option_map_or (λ (r : Bor Record). case at r.now) o [] → after ≡ cases_by records found (calls ++ at ∷ [])
  cases_more calls at o number before after numbered told was is =
      let one : List CallAt → CallAt → List Call = λ (some : List CallAt) (next : CallAt). option_map_or (case next) (record_at records some next) [] in
      let own : option_map_or (λ (r : Bor Record). case at r.now) o [] ≡ one calls at =
      lent at o ∙ ap (λ (x : Option Record). option_map_or (case at) x []) (told ∙ ap (record_named records at.writer) numbered) in
      is ∙ ap (λ (cases : List Call). cases ++ option_map_or (λ (r : Bor Record). case at r.now) o []) was ∙ ap (λ (more : List Call). cases_by records found calls ++ more) own ∙ sym (along-one one calls at)

  -- what was found tells what became of every call
  pub cases_are : (source : FrameSource) (buffer : ℕ) (events : List Event) → found.client ≡ nobody → TellWhole source buffer events found → (calls : List CallAt)
      → cases_by records found calls ≡ cases_of source buffer records events calls
  cases_are source buffer events absent tells calls =
      let fate : (r : Record) → fate_in found r ≡ what_became_of source buffer nobody events r =
      λ r. ap (by_answer r.answer) (sym (tells (name_of r))) ∙ ap (λ (client : ℕ). what_became_of source buffer client events r) absent in
      ap (λ (of : Record → Fate). along (λ (before : List CallAt) (at : CallAt). option_map_or (λ (r : Record). drawn_as at r (of r) ∷ []) (record_at records before at) []) calls) (λ i r. fate r i)
