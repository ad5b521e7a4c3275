-- What each call of a receiver leaves.
use Rattle.std.proofs.Common.{◌≡◌, ℕ, ◌+◌, ◌-◌, ◌<◌, min, Bool, true, false, Option, List, [], ◌∷◌, ◌++◌, length, take, drop, map, Some, refl, sym, ap, subst, ◌∙◌, append_assoc, length-append, take-append-drop, arith}
use Rattle.std.specs.Prelude.{IsSome}
use Rattle.std.specs.HashMap as hash
use Rattle.std.proofs.lemmas.List.{append-nil, map-append}
use Rattle.dl_bytes.specs.Cutting.{AreCut}
use Rattle.dl_headers.specs.declared.fault.HeaderFault.{HeaderFault}
use Rattle.dl_message.specs.Cut.{IsOpen, rest_fault}
use Rattle.dl_message.specs.Cutting.{Cutting, Begins, Cuts, Feeds, unfed}
use Rattle.dl_message.specs.declared.cutter.Cut.TheVariants.{Message, NeedMore, Bad}
use Rattle.dl_message.proofs.Cuts.{its_cut}
use Rattle.dl_message.proofs.Pieces.{piece_long}
use Rattle.dl_receive.specs.declared.counting.Counting.{Counting}
use Rattle.dl_receive.specs.declared.counting.Entry.{Entry}
use Rattle.dl_receive.specs.declared.printer.Printer.{Printer}
use Rattle.dl_receive.specs.declared.receiver.Receiver.{Receiver}
use Rattle.dl_receive.specs.Counting.{entry_of, same_counted}
use Rattle.dl_receive.specs.Program.{stream_rest, IsBad, IsWhole, IsTruncated}
use Rattle.dl_receive.specs.Receiving.{Keeps, IsAfter, IsReady, IsAt, Took}
use Rattle.dl_outside.specs.Written.{TookAll}
use Rattle.dl_outside.proofs.Sinks.{took_nothing}
use Rattle.dl_receive.specs.Text.{lines_of, text_of, len_limit, received}
use Rattle.dl_receive.proofs.Counters.{text-one}
use Rattle.dl_receive.proofs.StreamCuts.{cut_fed, cut_one, bad_stream, shown_is, rest_now, good_now}
use Rattle.dl_lemmas.proofs.Lists.{empty_of}

-- a receiver of these parts
abbrev pub with : Counting → Cutting → Printer → Receiver
with counting cutter printer = record { counting = counting; cutter = cutter; printer = printer }

-- ---- made

received-none : (counting : Counting) → received counting [] ≡ text_of []
unfolding received
received-none counting = refl

pub made : (counting : Counting) (cutter : Cutting) (printer : Printer) → cutter ≡ unfed len_limit → printer.text.items ≡ [] → Keeps printer [] → IsAt counting [] (with counting cutter printer)
made counting cutter printer is empty keeps =
    let unread : cutter.unread ≡ [] = ap (λ (c : Cutting). c.unread) is in
    let room : cutter.room ≡ len_limit + 4 = ap (λ (c : Cutting). c.room) is in
    let limit : cutter.limit ≡ len_limit = ap (λ (c : Cutting). c.limit) is in
    let nothing : IsOpen len_limit [] = record { good = refl; ends = (its_cut len_limit []).ends } in
    record {
      after = record {
        given = [];
        counts = refl;
        limit = limit;
        cut = sym unread;
        keeps = keeps;
        text = ap (λ (t : List ℕ). received counting [] ++ t) empty ∙ append-nil (received counting []) ∙ received-none counting;
      };
      ready = record {
        limit = limit;
        is_open = subst (IsOpen len_limit) (sym unread) nothing;
        room = omega (arith, room, ap length unread);
        more = omega (arith, room);
      };
      shown = empty;
    }

-- ---- a message is given

module _ (counting : Counting) (stream shown : List ℕ) (old : Receiver) (cutter : Cutting) (printer : Printer) (after : IsAfter counting stream shown old) (cuts : Cuts old.cutter Message cutter)
    (keeps : (before : List Entry) → Keeps old.printer before → Keeps printer (before ++ entry_of counting cutter.message ∷ []))
    (text : (before : List Entry) → Keeps old.printer before → printer.text.items ≡ old.printer.text.items ++ lines_of before (entry_of counting cutter.message)) where
  given_one : map (entry_of counting) (after.given ++ cutter.message ∷ []) ≡ map (entry_of counting) after.given ++ entry_of counting cutter.message ∷ []
  given_one = map-append (entry_of counting) after.given (cutter.message ∷ [])

  begins_here : Begins len_limit old.cutter.unread cutter.message cutter.unread
  begins_here = subst (λ (n : ℕ). Begins n old.cutter.unread cutter.message cutter.unread) after.limit cuts.0

  pub message_printed : IsAfter counting stream shown (with old.counting cutter printer)
  message_printed = record {
    given = after.given ++ cutter.message ∷ [];
    counts = after.counts;
    limit = ap (λ (c : Cutting). c.limit) cuts.1 ∙ after.limit;
    cut = cut_one len_limit stream old.cutter.unread cutter.unread cutter.message after.given after.cut begins_here;
    keeps = subst (λ (es : List Entry). Keeps printer es) (sym given_one) (keeps (map (entry_of counting) after.given) after.keeps);
    text =
        ap (λ (t : List ℕ). shown ++ t) (text (map (entry_of counting) after.given) after.keeps)
        ∙ sym (append_assoc shown old.printer.text.items (lines_of (map (entry_of counting) after.given) (entry_of counting cutter.message)))
        ∙ ap (λ (t : List ℕ). t ++ lines_of (map (entry_of counting) after.given) (entry_of counting cutter.message)) after.text
        ∙ sym (text-one (map (entry_of counting) after.given) (entry_of counting cutter.message))
        ∙ ap text_of (sym given_one);
  }

-- ---- no message is given: nothing changes but what the cutter lends

-- ---- fed

pub fed : (counting : Counting) (stream shown piece : List ℕ) (old : Receiver) (count : ℕ) (cutter : Cutting) → Feeds old.cutter piece count cutter → IsAfter counting stream shown old
    → IsAfter counting (stream ++ take count piece) shown (with old.counting cutter old.printer)
fed counting stream shown piece old count cutter feeds after =
    let unread : cutter.unread ≡ old.cutter.unread ++ take count piece = ap (λ (c : Cutting). c.unread) feeds.taken in
    record {
      given = after.given;
      counts = after.counts;
      limit = ap (λ (c : Cutting). c.limit) feeds.taken ∙ after.limit;
      cut = subst (AreCut (Begins len_limit) (stream ++ take count piece) after.given) (sym unread) (cut_fed len_limit stream old.cutter.unread (take count piece) after.given after.cut);
      keeps = after.keeps;
      text = after.text;
    }

-- ---- taken

pub is_shown : (counting : Counting) (stream shown : List ℕ) (receiver : Receiver) → IsAfter counting stream shown receiver → IsReady receiver → shown ++ receiver.printer.text.items ≡ received counting stream
is_shown counting stream shown receiver after ready = shown_is counting stream shown receiver after ready.is_open

pub is_bad_stream : (counting : Counting) (stream shown more : List ℕ) (receiver : Receiver) → IsAfter counting stream shown receiver → IsSome (rest_fault len_limit receiver.cutter.unread)
    → IsBad (stream ++ more) × (shown ++ receiver.printer.text.items ≡ received counting (stream ++ more))
is_bad_stream counting stream shown more receiver after bad =
    let b = bad_stream counting stream receiver.cutter.unread more after.given after.cut bad in
    (b.0, after.text ∙ b.1)

pub cleared : (counting : Counting) (stream shown : List ℕ) (old : Receiver) (printer : Printer) → printer.counters ≡ old.printer.counters → printer.text.items ≡ []
    → IsAfter counting stream shown old → IsReady old → IsAt counting stream (with old.counting old.cutter printer)
cleared counting stream shown old printer counters empty after ready =
    let whole = shown_is counting stream shown old after ready.is_open in
    record {
      after = record {
        given = after.given;
        counts = after.counts;
        limit = after.limit;
        cut = after.cut;
        keeps = λ who. ap (λ m. hash.get same_counted m who) counters ∙ after.keeps who;
        text = ap (λ (t : List ℕ). received counting stream ++ t) empty ∙ append-nil (received counting stream) ∙ sym whole ∙ after.text;
      };
      ready = record { limit = ready.limit; is_open = ready.is_open; room = ready.room; more = ready.more };
      shown = empty;
    }

-- ---- at the end

module _ (counting : Counting) (stream : List ℕ) (receiver : Receiver) (at : IsAt counting stream receiver) where
  left_is : receiver.cutter.unread ≡ stream_rest stream
  left_is = rest_now counting stream (received counting stream) receiver at.after at.ready.is_open

  pub ends_whole : (count : ℕ) → count ≡ min (len_limit + 4) receiver.cutter.room → count ≡ len_limit + 4 → IsWhole stream
  ends_whole count is all = sym left_is ∙ empty_of receiver.cutter.unread (omega (arith, is, all, at.ready.room))

  pub ends_truncated : (count : ℕ) → count ≡ min (len_limit + 4) receiver.cutter.room → (count ≡ len_limit + 4 → ⊥) → IsTruncated stream
  ends_truncated count is less = (
    good_now counting stream (received counting stream) receiver at.after at.ready.is_open,
    λ none. less (omega (arith, is, at.ready.room, ap length (left_is ∙ none))),
  )

-- ---- between

pub took_text : (more : Bool) (counting : Counting) (stream shown : List ℕ) (receiver : Receiver) → Took more counting stream shown receiver → shown ++ receiver.printer.text.items ≡ received counting stream
took_text true counting stream shown receiver took = is_shown counting stream shown receiver took.0 took.1
took_text false counting stream shown receiver took = took.1

pub takes_start : (counting : Counting) (old : Option (List ℕ)) → TookAll old old (received counting [])
unfolding received text_of
takes_start counting old = took_nothing old

-- so much of a piece is taken, and its messages are printed
pub takes : (counting : Counting) (stream shown done rest : List ℕ) (old new : Receiver) (taken : ℕ) (cutter : Cutting) → IsAfter counting (stream ++ done) shown old → Feeds old.cutter rest taken cutter
    → ((s t : List ℕ) → IsAfter counting s t (with old.counting cutter old.printer) → IsAfter counting s t new) → IsAfter counting (stream ++ (done ++ take taken rest)) shown new
takes counting stream shown done rest old new taken cutter after feeds prints =
    let here = prints ((stream ++ done) ++ take taken rest) shown (fed counting (stream ++ done) shown rest old taken cutter feeds after) in
    subst (λ (s : List ℕ). IsAfter counting s shown new) (append_assoc stream done (take taken rest)) here

-- with what is left of the piece, all of it
pub whole_piece : (done rest piece : List ℕ) (taken : ℕ) → done ++ rest ≡ piece → (done ++ take taken rest) ++ drop taken rest ≡ piece
whole_piece done rest piece taken e = append_assoc done (take taken rest) (drop taken rest) ∙ ap (λ (x : List ℕ). done ++ x) (take-append-drop taken rest) ∙ e

pub bad_piece : (counting : Counting) (stream shown done rest piece : List ℕ) (new : Receiver) (taken : ℕ) → done ++ rest ≡ piece → IsAfter counting (stream ++ (done ++ take taken rest)) shown new
    → IsSome (rest_fault len_limit new.cutter.unread) → IsBad (stream ++ piece) × (shown ++ new.printer.text.items ≡ received counting (stream ++ piece))
bad_piece counting stream shown done rest piece new taken e after bad =
    let all : (stream ++ (done ++ take taken rest)) ++ drop taken rest ≡ stream ++ piece =
    append_assoc stream (done ++ take taken rest) (drop taken rest) ∙ ap (λ (x : List ℕ). stream ++ x) (whole_piece done rest piece taken e) in
    subst (λ (s : List ℕ). IsBad s × (shown ++ new.printer.text.items ≡ received counting s)) all
    (is_bad_stream counting (stream ++ (done ++ take taken rest)) shown (drop taken rest) new after bad)
