-- The stream so far, its messages and its rest.
use Rattle.std.proofs.Common.{◌≡◌, ℕ, ◌/◌, false, eqb, arith, List, [], ◌∷◌, ◌++◌, map, refl, sym, ap, subst, ◌∙◌}
use Rattle.std.specs.Prelude.{IsSome}
use Rattle.std.specs.List.{concat, AllByRecursion}
use Rattle.std.proofs.lemmas.List.{append-nil, map-append}
use Rattle.dl_bytes.specs.Cutting.{AreCut}
use Rattle.dl_bytes.proofs.Cutting.{cut_on, cut_more}
use Rattle.std.proofs.lemmas.Bool.Decides.{nat_tests}
use Rattle.dl_headers.proofs.Fronts.{good_front}
use Rattle.dl_message.specs.Cut.{IsWholeMessage, IsPiece, IsCut, NoPiece, IsOpen, without_serial, pieces, messages, rest_of, rest_fault}
use Rattle.dl_message.specs.Cutting.{Begins}
use Rattle.dl_message.proofs.Calls.{begins_more, pieces_of}
use Rattle.dl_message.proofs.Cuts.{one_cut, its_cut, pieces-append}
use Rattle.dl_message.proofs.Pieces.{bad_no_piece, bad_stays}
use Rattle.dl_model.specs.Along.{along_from}
use Rattle.dl_receive.specs.declared.counting.Counting.{Counting}
use Rattle.dl_receive.specs.declared.receiver.Receiver.{Receiver}
use Rattle.dl_receive.specs.Counting.{entry_of}
use Rattle.dl_receive.specs.Program.{stream_rest, IsBad, IsGood}
use Rattle.dl_receive.specs.Receiving.{IsAfter}
use Rattle.dl_receive.specs.Text.{lines_of, text_of, len_limit, received}
use Rattle.dl_receive.proofs.Counters.{text-append}
use Rattle.dl_lemmas.proofs.Options.{some_of, is_some_of}

-- ---- a cut, step by step

-- the stream goes on
pub cut_fed : (limit : ℕ) (stream rest more : List ℕ) (given : List (List ℕ)) → AreCut (Begins limit) stream given rest → AreCut (Begins limit) (stream ++ more) given (rest ++ more)
cut_fed limit stream rest more given a = cut_more (Begins limit) (begins_more limit) stream rest more given a

-- one message more is given
pub cut_one : (limit : ℕ) (stream rest after message : List ℕ) (given : List (List ℕ)) → AreCut (Begins limit) stream given rest → Begins limit rest message after
    → AreCut (Begins limit) stream (given ++ message ∷ []) after
cut_one limit stream rest after message given a b = cut_on (Begins limit) stream rest after given (message ∷ []) a (after, b, refl)

-- ---- a cut whose rest no piece begins is the one cut

pub cut_is : (limit : ℕ) (stream rest : List ℕ) (given : List (List ℕ)) → AreCut (Begins limit) stream given rest → NoPiece limit rest
    → (given ≡ messages limit stream) × (rest ≡ rest_of limit stream)
cut_is limit stream rest given a ends =
    let p = pieces_of limit stream given rest a in
    let is : IsCut limit stream p.cut rest = record { parts = p.parts; each = p.each; ends = ends } in
    let one = one_cut limit stream p.cut (pieces limit stream) rest (rest_of limit stream) is (its_cut limit stream) in
    (p.same ∙ ap (map without_serial) one.0, one.1)

-- ---- the text of a stream

pub received-is : (counting : Counting) (stream : List ℕ) (given : List (List ℕ)) → given ≡ messages len_limit stream → text_of (map (entry_of counting) given) ≡ received counting stream
unfolding received
received-is counting stream given e = ap (λ (ms : List (List ℕ)). text_of (map (entry_of counting) ms)) e

pub rest-is : (stream rest : List ℕ) → rest ≡ rest_of len_limit stream → rest ≡ stream_rest stream
unfolding stream_rest
rest-is stream rest e = e

-- a whole message begins with no serial header
no_serial : (limit : ℕ) (m : List ℕ) → IsWholeMessage limit m → without_serial m ≡ m
no_serial limit [] is = refl
no_serial limit (x ∷ m) is =
    let version : x / 32 ≡ 1 = (good_front (x ∷ m) is.front).version_is in
    let other : eqb 68 x ≡ false = grind (arith, nat_tests) in
    rw other refl

are_pieces : (limit : ℕ) (frames : List (List ℕ)) → AllByRecursion (IsWholeMessage limit) frames → AllByRecursion (IsPiece limit) frames
are_pieces limit [] all = tt
are_pieces limit (m ∷ frames) all = (subst (IsWholeMessage limit) (sym (no_serial limit m all.0)) all.0, are_pieces limit frames all.1)

no_serials : (limit : ℕ) (frames : List (List ℕ)) → AllByRecursion (IsWholeMessage limit) frames → map without_serial frames ≡ frames
no_serials limit [] all = refl
no_serials limit (m ∷ frames) all =
    ap (λ (x : List ℕ). x ∷ map without_serial frames) (no_serial limit m all.0) ∙ ap (λ (ms : List (List ℕ)). m ∷ ms) (no_serials limit frames all.1)

-- whole messages one behind another print as they are
pub received-frames : (counting : Counting) (frames : List (List ℕ)) → AllByRecursion (IsWholeMessage len_limit) frames → received counting (concat frames) ≡ text_of (map (entry_of counting) frames)
unfolding received
received-frames counting frames all =
    let nothing : NoPiece len_limit [] = (its_cut len_limit []).ends in
    let is : IsCut len_limit (concat frames) frames [] = record { parts = sym (append-nil (concat frames)); each = are_pieces len_limit frames all; ends = nothing } in
    let one = one_cut len_limit (concat frames) (pieces len_limit (concat frames)) frames (rest_of len_limit (concat frames)) [] (its_cut len_limit (concat frames)) is in
    ap (λ (ms : List (List ℕ)). text_of (map (entry_of counting) ms)) (ap (map without_serial) one.0 ∙ no_serials len_limit frames all)

-- more bytes print more
pub received-more : (counting : Counting) (a b : List ℕ) → (more : List ℕ) × (received counting (a ++ b) ≡ received counting a ++ more)
unfolding received
received-more counting a b =
    let first = map (entry_of counting) (messages len_limit a) in
    let second = map (entry_of counting) (map without_serial (pieces len_limit (rest_of len_limit a ++ b))) in
    let all : messages len_limit (a ++ b) ≡ messages len_limit a ++ map without_serial (pieces len_limit (rest_of len_limit a ++ b)) =
    ap (map without_serial) (pieces-append len_limit a b) ∙ map-append without_serial (pieces len_limit a) (pieces len_limit (rest_of len_limit a ++ b)) in (
      along_from lines_of first second,
      ap (λ (ms : List (List ℕ)). text_of (map (entry_of counting) ms)) all ∙ ap text_of (map-append (entry_of counting) (messages len_limit a) (map without_serial (pieces len_limit (rest_of len_limit a ++ b)))) ∙ text-append first second,
    )

-- ---- a stream that is bad stays so, and prints no more

record Bad (stream rest : List ℕ) (given : List (List ℕ)) (more : List ℕ) : Type 0 where
  given_is : given ≡ messages len_limit (stream ++ more)
  rest_is : rest ++ more ≡ rest_of len_limit (stream ++ more)
  bad : IsSome (rest_fault len_limit (rest ++ more))

bad_more : (stream rest more : List ℕ) (given : List (List ℕ)) → AreCut (Begins len_limit) stream given rest → IsSome (rest_fault len_limit rest) → Bad stream rest given more
bad_more stream rest more given a bad =
    let fault = some_of (rest_fault len_limit rest) bad in
    let still = bad_stays len_limit rest more fault.0 fault.1 in
    let one = cut_is len_limit (stream ++ more) (rest ++ more) given (cut_fed len_limit stream rest more given a) (bad_no_piece len_limit (rest ++ more) fault.0 still) in
    record { given_is = one.0; rest_is = one.1; bad = is_some_of _ fault.0 still }

pub bad_stream : (counting : Counting) (stream rest more : List ℕ) (given : List (List ℕ)) → AreCut (Begins len_limit) stream given rest → IsSome (rest_fault len_limit rest)
    → IsBad (stream ++ more) × (text_of (map (entry_of counting) given) ≡ received counting (stream ++ more))
unfolding stream_rest
bad_stream counting stream rest more given a bad =
    let b = bad_more stream rest more given a bad in
    (subst (λ (r : List ℕ). IsSome (rest_fault len_limit r)) b.rest_is b.bad, received-is counting (stream ++ more) given b.given_is)

-- ---- a receiver between two pieces

module _ (counting : Counting) (stream shown : List ℕ) (receiver : Receiver) (after : IsAfter counting stream shown receiver) (is_open : IsOpen len_limit receiver.cutter.unread) where
  cut_now : (after.given ≡ messages len_limit stream) × (receiver.cutter.unread ≡ rest_of len_limit stream)
  cut_now = cut_is len_limit stream receiver.cutter.unread after.given after.cut is_open.ends

  pub shown_is : shown ++ receiver.printer.text.items ≡ received counting stream
  shown_is = after.text ∙ received-is counting stream after.given cut_now.0

  pub rest_now : receiver.cutter.unread ≡ stream_rest stream
  rest_now = rest-is stream receiver.cutter.unread cut_now.1

  pub good_now : IsGood stream
  good_now = ap (rest_fault len_limit) (sym rest_now) ∙ is_open.good
