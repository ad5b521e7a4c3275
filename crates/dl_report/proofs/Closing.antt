-- The clients that went.
use Rattle.std.proofs.Common.{◌≡◌, ℕ, ◌+◌, ◌<◌, ◌==◌, if◌then◌else◌, List, [], ◌∷◌, ◌++◌, length, take, get_or, Option, Some, None, refl, sym, ap, ◌∙◌, append_assoc}
use Rattle.std.specs.List.{filter_map, flat_map, cons_option, slice_get}
use Rattle.std.proofs.lemmas.List.{append-nil, take_more}
use Rattle.std.proofs.lemmas.Grind.{flat_map-append}
use Rattle.dl_bytes.specs.declared.outcome.LinkEnd.{LinkEnd}
use Rattle.dl_events.specs.declared.event.Event.{Event}
use Rattle.dl_events.specs.declared.event.Event.TheVariants as event
use Rattle.dl_events.specs.declared.event.Why.{Why}
use Rattle.dl_model.specs.Report.{closed_of, why_of, client_lines}
use Rattle.dl_report.specs.declared.count.Closed.{Closed}
use Rattle.dl_report.specs.Counts.{close_in, why_in, link_lines}

-- why this client went is told by the list of the clients that went
pub told_by_closes : (client : ℕ) (events : List Event) → filter_map (why_in client) (filter_map close_in events) ≡ filter_map (closed_of client) events
told_by_closes client [] = refl
told_by_closes client (event.Close other why ∷ events) = ap (λ t. cons_option (if other == client then Some why else None) t) (told_by_closes client events)
told_by_closes client (event.Log app writer call moment ∷ events) = told_by_closes client events
told_by_closes client (event.Lost app count moment ∷ events) = told_by_closes client events
told_by_closes client (event.User channel msg moment ∷ events) = told_by_closes client events
told_by_closes client (event.Claim claim moment ∷ events) = told_by_closes client events
told_by_closes client (event.Level slot level ∷ events) = told_by_closes client events
told_by_closes client (event.Connect other ∷ events) = told_by_closes client events
told_by_closes client (event.Request other frame done ∷ events) = told_by_closes client events

-- so the cause that they tell is the one that the events tell
pub same_cause : (client : ℕ) (events : List Event) (closes : List Closed) (cause : Option Why) → closes ≡ filter_map close_in events
    → cause ≡ slice_get (filter_map (why_in client) closes) 0 → cause ≡ why_of client events
same_cause client events closes cause is told = told ∙ ap (λ (cs : List Closed). slice_get (filter_map (why_in client) cs) 0) is ∙ ap (λ (ws : List Why). slice_get ws 0) (told_by_closes client events)

-- with the lines of one client more
pub links_go_on : (events : List Event) (closes : List Closed) (frames : Option (List (List (List ℕ)))) (links : List LinkEnd) (i : ℕ) (d : LinkEnd) (cause : Option Why) (start mid new : List ℕ)
    → i < length links → closes ≡ filter_map close_in events → cause ≡ slice_get (filter_map (why_in (get_or links i d).client) closes) 0
    → mid ≡ start ++ flat_map (client_lines events frames) (take i links) → new ≡ mid ++ link_lines cause frames (get_or links i d)
    → new ≡ start ++ flat_map (client_lines events frames) (take (i + 1) links)
links_go_on events closes frames links i d cause start mid new within is told mid_is new_is =
    let link = get_or links i d in
    let lines = client_lines events frames in
    new_is
    ∙ ap (λ t. t ++ link_lines cause frames link) mid_is
    ∙ append_assoc start (flat_map lines (take i links)) (link_lines cause frames link)
    ∙ ap (λ (o : Option Why). start ++ (flat_map lines (take i links) ++ link_lines o frames link)) (same_cause link.client events closes cause is told)
    ∙ ap (λ t. start ++ t) (sym (ap (flat_map lines) (take_more links i d within) ∙ flat_map-append lines (take i links) (link ∷ []) ∙ ap (λ t. flat_map lines (take i links) ++ t) (append-nil (lines link))))
