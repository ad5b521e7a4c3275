-- What a client that was cut off asked begins what all its bytes would have asked.
use Rattle.std.proofs.Common.{◌≡◌, ℕ, List, [], ◌∷◌, ◌++◌, inl, inr, sym, ap, ◌∙◌, append_assoc}
use Rattle.std.proofs.lemmas.List.{append-nil}
use Rattle.dl_events.specs.declared.event.Event.{Event}
use Rattle.dl_events.specs.declared.event.Why.{Why}
use Rattle.dl_events.specs.declared.event.Why.TheVariants.{Left, Broken, Slow, Malformed, TooMany, NoMemory, Stuck, Stopped}
use Rattle.dl_message.specs.Requests.{requests}
use Rattle.dl_message.proofs.Cuts.{requests-append}
use Rattle.dl_model.specs.ClientEnds.{HasAsked, HasGone, LinkDid, asked_by}
use Rattle.dl_model.specs.Frames.{FrameSource}
use Rattle.dl_model.specs.Setting.{Setting}

abbrev Begins : List (List ℕ) → List (List ℕ) → Type 0
Begins asked all = (others : List (List ℕ)) × (all ≡ asked ++ others)

-- all of them
whole : {given asked : List (List ℕ)} → given ≡ asked → Begins asked given
whole {asked = asked} same = ([], same ∙ sym (append-nil asked))

-- the requests that a client asked begin those that its link gave, whatever it was closed for
asked_first : (source : FrameSource) (before : List Event) (cause : Why) (given asked : List (List ℕ)) → HasAsked source before cause given asked → Begins asked given
asked_first source before TooMany given asked h = (h.0.0 ∷ h.0.1.0, h.0.1.1)
asked_first source before NoMemory given asked h = (h.0 ∷ h.1.0, h.1.1)
asked_first source before (Slow room need) given asked (inl same) = whole same
asked_first source before (Slow room need) given asked (inr (frame, (others, same), reply)) = (frame ∷ others, same)
asked_first source before Left given asked same = whole same
asked_first source before Broken given asked same = whole same
asked_first source before Malformed given asked same = whole same
asked_first source before (Stuck bytes) given asked same = whole same
asked_first source before Stopped given asked same = whole same

-- more behind them changes nothing of that
longer : {all given : List (List ℕ)} (asked more : List (List ℕ)) → all ≡ given ++ more → Begins asked given → Begins asked all
longer asked more split b = (b.0 ++ more, split ∙ ap (λ (rs : List (List ℕ)). rs ++ more) b.1 ∙ append_assoc asked b.0 more)

pub owed_first : (setting : Setting) (source : FrameSource) (events : List Event) (client : ℕ) (did : LinkDid) (unsent : List ℕ) →
    (gone : HasGone setting source events client did) → Begins (asked_by client gone.before) (requests (did.given ++ unsent))
owed_first setting source events client did unsent gone =
    longer (asked_by client gone.before) _ (requests-append did.given unsent) (asked_first source gone.before gone.cause (requests did.given) (asked_by client gone.before) gone.asked)
