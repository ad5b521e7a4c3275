-- What the calls of a cutter make of the bytes that they take.
use Rattle.std.proofs.Common.{◌≡◌, ℕ, List, [], ◌∷◌, ◌++◌, map, refl, sym, ap, ◌∙◌, append_assoc}
use Rattle.std.specs.List.{concat, AllByRecursion}
use Rattle.dl_bytes.specs.Cutting.{Call, Feed, Next, Runs, fed_by, given_by, AreCut, IsCutter}
use Rattle.dl_bytes.proofs.Cutting.{gives_the_cut}
use Rattle.dl_message.specs.Cut.{IsCut, IsPiece, NoPiece, without_serial, pieces, messages, rest_of}
use Rattle.dl_message.specs.Cutting.{Cutting, Begins, Stops, Cuts, Found, Does, unfed, message_of_cut, messages_in}
use Rattle.dl_message.specs.declared.cutter.Cut.{Cut}
use Rattle.dl_message.specs.declared.cutter.Cut.TheVariants.{Message, NeedMore, Bad}
use Rattle.dl_message.proofs.Cuts.{one_cut, its_cut}
use Rattle.dl_message.proofs.Pieces.{bad_no_piece}

-- ---- a cutter of one limit

abbrev DoesAt : ℕ → Cutting → Call Found → Cutting → Type 0
DoesAt limit old call new = (old.limit ≡ limit) × Does old call new

pub cuts_limit : (old new : Cutting) (cut : Cut) → Cuts old cut new → new.limit ≡ old.limit
cuts_limit old new Message d = ap (λ (v : Cutting). v.limit) d.1
cuts_limit old new NeedMore d = ap (λ (v : Cutting). v.limit) d.2
cuts_limit old new (Bad fault) d = ap (λ (v : Cutting). v.limit) d.1

runs_at : (limit : ℕ) (calls : List (Call Found)) (old new : Cutting) → old.limit ≡ limit → Runs Does old calls new → Runs (DoesAt limit) old calls new
runs_at limit [] old new is r = r
runs_at limit (Feed piece count ∷ calls) old new is r =
    (r.0, (is, r.1), runs_at limit calls r.0 new (ap (λ (v : Cutting). v.limit) r.1.taken ∙ is) r.2)
runs_at limit (Next found ∷ calls) old new is r = (r.0, (is, r.1), runs_at limit calls r.0 new (cuts_limit old r.0 found.cut r.1.0 ∙ is) r.2)

pub begins_more : (limit : ℕ) (bytes after more message : List ℕ) → Begins limit bytes message after → Begins limit (bytes ++ more) message (after ++ more)
begins_more limit bytes after more message b = (b.0, b.1, ap (λ (x : List ℕ). x ++ more) b.2 ∙ append_assoc b.0 after more, b.3)

answers_of : (old new : Cutting) (cut : Cut) (message : List ℕ) → Cuts old cut new → message ≡ new.message → AreCut (Begins old.limit) old.unread (message_of_cut cut message) new.unread
answers_of old new Message message d same = rw same (new.unread, d.0, refl)
answers_of old new NeedMore message d same = sym (ap (λ (v : Cutting). v.unread) d.2)
answers_of old new (Bad fault) message d same = sym (ap (λ (v : Cutting). v.unread) d.1)

is_cutter : (limit : ℕ) → IsCutter (λ (c : Cutting). c.unread) messages_in (Begins limit) (DoesAt limit)
is_cutter limit = record {
  feeds = λ old new piece count d. ap (λ (v : Cutting). v.unread) d.1.taken;
  answers = λ old new found d. rw (← d.0) (answers_of old new found.cut found.message d.1.0 d.1.1);
  goes_on = begins_more limit;
}

pub so_far : (limit : ℕ) (calls : List (Call Found)) (new : Cutting) → Runs Does (unfed limit) calls new → AreCut (Begins limit) (fed_by calls) (given_by messages_in calls) new.unread
so_far limit calls new r =
    gives_the_cut (λ (c : Cutting). c.unread) messages_in (Begins limit) (DoesAt limit) (is_cutter limit) calls (unfed limit) new (runs_at limit calls (unfed limit) new refl r)

-- ---- the messages are those of the one cut

pub record Pieces (limit : ℕ) (bytes : List ℕ) (all : List (List ℕ)) (rest : List ℕ) : Type 0 where
  pub cut : List (List ℕ)
  pub parts : bytes ≡ concat cut ++ rest
  pub each : AllByRecursion (IsPiece limit) cut
  pub same : all ≡ map without_serial cut

pub pieces_of : (limit : ℕ) (bytes : List ℕ) (all : List (List ℕ)) (rest : List ℕ) → AreCut (Begins limit) bytes all rest → Pieces limit bytes all rest
pieces_of limit bytes [] rest a = record { cut = []; parts = a; each = tt; same = refl }
pieces_of limit bytes (message ∷ others) rest a =
    let piece = a.1.0 in
    let p = pieces_of limit a.0 others rest a.2 in
    record {
      cut = piece ∷ p.cut;
      parts = a.1.2 ∙ ap (λ (x : List ℕ). piece ++ x) p.parts ∙ sym (append_assoc piece (concat p.cut) rest);
      each = (a.1.1, p.each);
      same = ap (λ (m : List ℕ). m ∷ others) a.1.3 ∙ ap (λ (ms : List (List ℕ)). without_serial piece ∷ ms) p.same;
    }

stops_no_piece : (limit : ℕ) (rest : List ℕ) (cut : Cut) → Stops limit rest cut → NoPiece limit rest
stops_no_piece limit rest Message s = absurd s
stops_no_piece limit rest NeedMore s = s.ends
stops_no_piece limit rest (Bad fault) s = bad_no_piece limit rest fault s

pub whole : (limit : ℕ) (calls : List (Call Found)) (new : Cutting) (cut : Cut) → Runs Does (unfed limit) calls new → Stops limit new.unread cut
    → (given_by messages_in calls ≡ messages limit (fed_by calls)) × (new.unread ≡ rest_of limit (fed_by calls))
whole limit calls new cut r stops =
    let fed = fed_by calls in
    let p = pieces_of limit fed (given_by messages_in calls) new.unread (so_far limit calls new r) in
    let is : IsCut limit fed p.cut new.unread = record { parts = p.parts; each = p.each; ends = stops_no_piece limit new.unread cut stops } in
    let one = one_cut limit fed p.cut (pieces limit fed) new.unread (rest_of limit fed) is (its_cut limit fed) in
    (p.same ∙ ap (map without_serial) one.0, one.1)
