-- What listening to a source comes to, piece by piece, and then what the program says of it.
use Rattle.std.proofs.Common.{◌≡◌, ℕ, ◌+◌, List, [], ◌++◌, length, take, Option, Some, None, refl, sym, subst, ◌∙◌, length-append, length-take, inr, arith}
use Rattle.std.specs.Prelude.{IfSome, option_map}
use Rattle.dl_outside.specs.declared.source.Got.TheVariants as got
use Rattle.dl_outside.specs.Outside.{HasRisen, Reads}
use Rattle.dl_receive.specs.declared.counting.Counting.{Counting}
use Rattle.dl_receive.specs.declared.receiver.Receiver.{Receiver}
use Rattle.dl_receive.specs.declared.status.Status.{Status}
use Rattle.dl_receive.specs.declared.status.Status.TheVariants.{Ok, WordsRefused, BadMessage, Truncated, WriteFault, NetFault, OutOfMemory, ReadFault, Limit}
use Rattle.dl_receive.specs.Listening.{Sides, Listened, IsListening}
use Rattle.dl_receive.specs.Program.{IsGood, Gives, Outcome, WroteSome, told}
use Rattle.dl_receive.specs.Receiving.{IsAt, Heard}
use Rattle.dl_outside.specs.Told.{DialTold, SinkTold}
use Rattle.dl_outside.specs.Written.{WroteAll, WroteFront, WroteNothing}
use Rattle.dl_receive.specs.Streams.{Gave}
use Rattle.dl_receive.specs.Text.{received}
use Rattle.dl_outside.proofs.Sinks.{took_both, took_front, whole_is_front}
use Rattle.dl_receive.proofs.Sources.{given_more}
use Rattle.dl_receive.proofs.StreamCuts.{good_now}
use Rattle.dl_lemmas.proofs.Options.{if_some_of}

pub is_good : (counting : Counting) (stream : List ℕ) (receiver : Receiver) → IsAt counting stream receiver → IsGood stream
is_good counting stream receiver at = good_now counting stream (received counting stream) receiver at.after at.ready.is_open

-- ---- a piece more was read

module _ (counting : Counting) (first before now : Sides) (total : ℕ) (receiver new : Receiver) (is : IsListening counting first before total receiver) (into : List ℕ) (count : ℕ)
    (reads : Reads before.source.left now.source.left (got.Bytes count) into) (reads_on : now.source.faults ≡ before.source.faults)
    (more : List ℕ) (prints : received counting (is.stream ++ take count into) ≡ received counting is.stream ++ more) where
  gave_more : Gave first.source.left now.source.left (is.stream ++ take count into)
  gave_more = given_more first.source.left before.source.left now.source.left is.stream into count is.printed.0 reads

  long : length (is.stream ++ take count into) ≡ total + count
  long = omega (arith, is.count, reads.1, length-append is.stream (take count into), length-take count into)

  printed_more : WroteAll before.out now.out more → WroteAll first.out now.out (received counting (is.stream ++ take count into))
  printed_more wrote = record {
    all = took_both first.out.held before.out.held now.out.held (received counting is.stream) more _ prints is.printed.1.all wrote.all;
    well = wrote.well ∙ is.printed.1.well;
  }

  cut_more : WroteFront before.out now.out more → WroteFront first.out now.out (received counting (is.stream ++ take count into))
  cut_more wrote = record {
    front = took_front first.out.held before.out.held now.out.held (received counting is.stream) more _ prints is.printed.1.all wrote.front;
    failed = subst (λ (n : ℕ). HasRisen n now.out.faults) is.printed.1.well wrote.failed;
  }

  -- nothing more was written
  left_there : WroteNothing before.out now.out → WroteSome first.out now.out (received counting (is.stream ++ take count into))
  left_there same =
      let is_now : WroteAll first.out now.out (received counting is.stream) = subst (λ (o : SinkTold). WroteAll first.out o (received counting is.stream)) (sym same) is.printed.1 in
      record { front = whole_is_front first.out.held now.out.held (received counting is.stream) more _ prints is_now.all; well = is_now.well }

  pub goes_on : Heard counting (is.stream ++ take count into) more before.out now.out new None → IsListening counting first now (total + count) new
  goes_on heard = record {
    stream = is.stream ++ take count into;
    printed = (gave_more, printed_more heard.1);
    at = heard.0;
    count = long;
    reads_on = reads_on ∙ is.reads_on;
  }

  pub ends : (status : Status) → Heard counting (is.stream ++ take count into) more before.out now.out new (Some status) → Listened counting first now status
  ends BadMessage heard = (is.stream ++ take count into, (gave_more, printed_more heard.1), heard.0, reads_on ∙ is.reads_on)
  ends WriteFault heard = (is.stream ++ take count into, gave_more, reads_on ∙ is.reads_on, cut_more heard)
  ends OutOfMemory heard = (is.stream ++ take count into, (gave_more, reads_on ∙ is.reads_on, left_there heard))
  ends Ok heard = absurd heard
  ends WordsRefused heard = absurd heard
  ends Truncated heard = absurd heard
  ends NetFault heard = absurd heard
  ends ReadFault heard = absurd heard
  ends Limit heard = absurd heard

-- ---- what the program says

pub had_served : (serves : Option (ℕ → List ℕ)) (port : ℕ) (left : Option (List ℕ)) → IfSome serves (λ all. left ≡ Some (all port))
    → IfSome (option_map (λ all. all port) serves) (λ bytes. left ≡ Some bytes)
had_served None port left e = tt
had_served (Some all) port left e = e

gave_served : (serves left now : Option (List ℕ)) (given : List ℕ) → IfSome serves (λ bytes. left ≡ Some bytes) → Gave left now given → Gave serves now given
gave_served None left now given e gave = tt
gave_served (Some bytes) left now given e gave = if_some_of left bytes (λ all. (rest : List ℕ) × (now ≡ Some rest) × (given ++ rest ≡ all)) e gave

up_served : (serves left now : Option (List ℕ)) → IfSome serves (λ bytes. left ≡ Some bytes) → IfSome left (λ all. now ≡ Some []) → IfSome serves (λ all. now ≡ Some [])
up_served None left now e up = tt
up_served (Some bytes) left now e up = if_some_of left bytes (λ all. now ≡ Some []) e up

module _ (counting : Counting) (serves : Option (List ℕ)) (first now : Sides) (dial dial_now : DialTold) (dials : dial_now.faults ≡ dial.faults) (sound : first.source.faults ≡ 0)
    (had : IfSome serves (λ bytes. first.source.left ≡ Some bytes)) where
  gives : (given : List ℕ) → Gave first.source.left now.source.left given → Gives serves (Some now.source) given
  gives given gave = record { back = now.source; handed_back = refl; gave = gave_served serves first.source.left now.source.left given had gave }

  pub outcome : (status : Status) → Listened counting first now status → Outcome counting serves (told dial first.out) (told dial_now now.out) (Some now.source) status
  unfolding gives
  outcome Ok l = (dials, (l.0, (gives l.0 l.1.0, l.4 ∙ sound, up_served serves first.source.left now.source.left had l.3), l.1.1, l.2))
  outcome BadMessage l = (dials, (l.0, (gives l.0 l.1.0, l.3 ∙ sound), l.1.1, l.2))
  outcome Truncated l = (dials, (l.0, (gives l.0 l.1.0, l.4 ∙ sound, up_served serves first.source.left now.source.left had l.3), l.1.1, l.2))
  outcome WriteFault l = (dials, (l.0, (gives l.0 l.1, l.2 ∙ sound), l.3))
  outcome OutOfMemory l = (dials, inr (l.0, (gives l.0 l.1.0, l.1.1 ∙ sound), l.1.2))
  outcome ReadFault l = (dials, (l.0, (gives l.0 l.1.0, subst (λ (n : ℕ). HasRisen n now.source.faults) sound l.3), l.1.1, l.2))
  outcome Limit l = (dials, (l.0, (gives l.0 l.1.0, l.4 ∙ sound), l.1.1, l.2, l.3))
  outcome WordsRefused l = absurd l
  outcome NetFault l = absurd l
