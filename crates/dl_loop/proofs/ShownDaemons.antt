-- A daemon's clients that are gone go on to show why.
use Rattle.std.proofs.Common.{◌≡◌, ℕ, zero, suc, ◌+◌, ◌-◌, ◌<◌, inl, inr, true, false, cond, eqb, List, [], ◌∷◌, ◌++◌, length, map, slice_get, length-append, Option, Some, None, is_some, sym, ap, subst, ◌∙◌, arith}
use Rattle.std.specs.Prelude.{IsSome, get_or}
use Rattle.std.specs.Option.{option_and_then}
use Rattle.std.proofs.lemmas.Bool.Decides.{eqb_tells}
use Rattle.std.proofs.lemmas.Option.{slice_get-get_or, slice_get_within}
use Rattle.dl_events.specs.declared.event.Event.{Event}
use Rattle.dl_outside.specs.Told.{LinkTold}
use Rattle.dl_hub.specs.State.{Client as HubClient, Hub, client_of, outbox_of}
use Rattle.dl_turns.specs.Gone.{TellTheEnd}
use Rattle.dl_rounds.specs.Partings.{ShutsGone}
use Rattle.dl_rounds.specs.Shown.{AllShowWhy}
use Rattle.dl_rounds.proofs.ByPlace.{get_before}
use Rattle.dl_rounds.proofs.ShownClients.{shows_on, shows_shut}
use Rattle.dl_rounds.proofs.Turned.{placed}
use Rattle.dl_lemmas.proofs.Lists.{get_end}

-- where all links of a kind tell whether they are over, these do
pub tell_overs : {L : Type 0} (told : L → LinkTold) (links : List L) → TellTheEnd told → (place : ℕ) (link : LinkTold) → slice_get (map told links) place ≡ Some link → IsSome link.over
tell_overs told [] tells place link at = absurd cc
tell_overs told (l ∷ links) tells zero link at = (let same : told l ≡ link = cc at in subst (λ (k : LinkTold). IsSome k.over) same (tells l))
tell_overs told (l ∷ links) tells (suc place) link at = tell_overs told links tells place link at

-- with a client that came, which is open
pub shown_connected : {Tells : Type 0} (events more : List Event) (old new : Hub) (c : HubClient) (links : List LinkTold) (link : LinkTold) → new.clients ≡ old.clients ++ c ∷ [] → IsSome c.outbox
    → new.buffer ≡ old.buffer → length old.clients ≡ length links → AllShowWhy Tells events old links → AllShowWhy Tells (events ++ more) new (links ++ link ∷ [])
shown_connected {Tells} events more old new c links link clients open_now buffer many shown = λ number other there gone at.
    let p = placed new number there in
    let within : number - 1 < length old.clients + 1 = omega (arith, slice_get_within new.clients (number - 1) p.0 p.2, ap (λ (cs : List HubClient). length cs) clients, length-append old.clients (c ∷ [])) in
    elim (eqb_tells (number - 1) (length old.clients)) [
      | inl last ↦
          let here : slice_get new.clients (number - 1) ≡ Some c = ap (λ (cs : List HubClient). slice_get cs (number - 1)) clients ∙ ap (λ (n : ℕ). slice_get (old.clients ++ c ∷ []) n) last.1 ∙ get_end old.clients c in
          let same : p.0 ≡ c = cc (sym p.2 ∙ here) in
          let none : c.outbox ≡ None = ap (λ (k : HubClient). k.outbox) (sym same) ∙ sym (ap (λ (o : Option HubClient). option_and_then (λ (k : HubClient). k.outbox) o) p.1) ∙ gone in
          absurd (let bad : false ≡ true = sym (ap is_some none) ∙ open_now in cc bad)
      | inr apart ↦
          let below : number - 1 < length old.clients = omega (arith, within, apart.1) in
          let entry : slice_get new.clients (number - 1) ≡ slice_get old.clients (number - 1) = ap (λ (cs : List HubClient). slice_get cs (number - 1)) clients ∙ get_before old.clients (c ∷ []) (number - 1) below in
          let same : client_of new number ≡ client_of old number = ap (λ (o : Option HubClient). cond {A = Option HubClient} (eqb number 0) None o) entry in
          let outbox : outbox_of new number ≡ outbox_of old number = ap (λ (o : Option HubClient). option_and_then (λ (k : HubClient). k.outbox) o) same in
          shows_on events more old new number other same buffer
          (shown number other (subst (λ (o : Option HubClient). IsSome o) same there) (sym outbox ∙ gone) (sym (get_before links (link ∷ []) (number - 1) (omega (arith, below, many))) ∙ at))
    ]

-- where the links of those that are gone are shut
pub shown_parted : {Tells : Type 0} (events : List Event) (hub : Hub) (old new : List LinkTold) → ShutsGone hub old new → AllShowWhy Tells events hub old → AllShowWhy Tells events hub new
shown_parted {Tells} events hub old new shuts shown = λ number link there gone at.
    let p = placed hub number there in
    let within : number - 1 < length old = omega (arith, slice_get_within new (number - 1) link at, shuts.many) in
    let before = get_or old (number - 1) link in
    let was : slice_get old (number - 1) ≡ Some before = slice_get-get_or old (number - 1) link within in
    let shut = shuts.gone number before link (omega (arith, p.3)) (omega (arith, within, p.3)) gone was at in
    shows_shut events hub number before link shut (shown number before there gone was)
