-- What was found, and what the words ask for.
use Rattle.std.proofs.Common.{◌≡◌, ◌∙◌, ap, List, [], Option, Some, None, map, sym, subst}
use Rattle.std.specs.Borrow.{Bor}
use Rattle.std.specs.Prelude.{IfOk, Result, Ok, Err, option_map, unwrap_or}
use Rattle.clap.specs.Matches.{found_of}
use Rattle.clap.specs.Simple.{App}
use Rattle.clap.specs.Walk.{Row, Text, rows_of}
use Rattle.clap.specs.declared.parser.matches.ArgMatches.{ArgMatches}
use Rattle.dl_why_words.specs.Parse.{IsRefused, Parses}
use Rattle.dl_why_words.specs.Words.{Asked, IsFound}
use Rattle.dl_why_words.specs.declared.parse.WhyFault.{WhyFault}

-- the values that are there
pub texts_there : (all : Option (List Text)) (o : Option (Bor (List (Bor Text)))) (texts : Bor (List (Bor Text))) → option_map (λ s. map (λ v. v.now) s.now) o ≡ all → o ≡ Some texts
    → map (λ v. v.now) texts.now ≡ unwrap_or all []
texts_there all o texts is some = ap (λ (p : Option (Bor (List (Bor Text)))). unwrap_or (option_map (λ s. map (λ v. v.now) s.now) p) []) (sym some) ∙ ap (λ (a : Option (List Text)). unwrap_or a []) is

pub none_there : (all : Option (List Text)) (o : Option (Bor (List (Bor Text)))) → option_map (λ s. map (λ v. v.now) s.now) o ≡ all → o ≡ None → [] ≡ unwrap_or all []
none_there all o is none = ap (λ (p : Option (Bor (List (Bor Text)))). unwrap_or (option_map (λ s. map (λ v. v.now) s.now) p) []) (sym none) ∙ ap (λ (a : Option (List Text)). unwrap_or a []) is

-- what a command found is what it is to find
pub taken : (app command : App) (of : List Row → Asked) (words : List Text) (m : ArgMatches) (asked : Asked) → app ≡ command → Parses app words (Ok m) → asked ≡ of (rows_of (found_of m))
    → IsFound command of words asked
unfolding IsFound
taken app command of words m asked is parses reads = subst (λ (a : App). IsFound a of words asked) is (parses.0, reads ∙ ap of parses.1)

pub refused : (app command : App) (words : List Text) (fault : WhyFault) → app ≡ command → IsRefused app words fault → IsRefused command words fault
refused app command words fault is parses = subst (λ (a : App). IsRefused a words fault) is parses

-- what is so of each answer that was made
pub made_so : {A E : Type 0} (r : Result A E) (P Q : A → Type 0) → ((a : A) → P a → Q a) → IfOk r P → IfOk r Q
made_so (Ok a) P Q follows so = follows a so
made_so (Err e) P Q follows so = tt
