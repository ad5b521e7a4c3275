-- The books of the writers, one after the other.
use Rattle.std.proofs.Common.{◌≡◌, ◌≢◌, ℕ, ◌+◌, ◌≤◌, List, [], ◌∷◌, ◌++◌, length, Some, slice_get, refl, sym, ap, ◌∙◌, subst, length-append, arith}
use Rattle.dl_bytes.specs.declared.conf.AppSpec.{AppSpec}
use Rattle.dl_script_model.specs.declared.line.AppLine.{AppLine}
use Rattle.dl_script_model.specs.declared.scenario.ScenarioLine.{ScenarioLine}
use Rattle.dl_desk.specs.Apps.{AppState}
use Rattle.dl_desk.specs.Made.{IsAppOf, IsMadeWith, IsUnused, MakesWriter}
use Rattle.dl_desk.specs.State.{DeskState}
use Rattle.dl_writer.specs.State.{BookState, WriterState}
use Rattle.dl_crew.specs.Calls.{count_of}
use Rattle.dl_crew.specs.Plays.{ArePairs}
use Rattle.dl_crew.proofs.Pairs.{pairs_more}
use Rattle.dl_account.proofs.OpenBooks.{AreOpen, one_open}
use Rattle.dl_opening.specs.Opening.{IsBookOf, StaysSo}
use Rattle.dl_opening.specs.Scenario.{apps, base_of, number_in, opened_app, spec_of, specs_of, writers}
use Rattle.dl_opening.proofs.Declared.{map_at}

pub is_app_of : (lines : List ScenarioLine) (made : List (List ℕ)) (desk : DeskState) (place : ℕ) (app : AppLine) (given : AppState) → slice_get (apps lines) place ≡ Some app
    → given ≡ opened_app lines made place app → desk.apps ≡ specs_of lines → IsAppOf desk given
is_app_of lines made desk place app given at is same = record {
  spec = spec_of app;
  place = ap (λ (l : List AppSpec). slice_get l given.number) same ∙ ap (λ (a : AppState). slice_get (specs_of lines) a.number) is ∙ map_at spec_of (apps lines) place app at;
  apid = ap (λ (a : AppState). a.apid) is;
}

pub is_book_of : (lines : List ScenarioLine) (apid : List ℕ) (b : BookState) (w : WriterState) (room : ℕ) → b ≡ record { writer = w; room = room; records = []; claims = [] }
    → number_in apid (specs_of lines) ≡ Some w.app → w.apid ≡ apid → w.base ≡ base_of lines w.app → IsUnused w → room ≡ count_of w.push.number lines → IsBookOf lines apid b
is_book_of lines apid b w room is number id base unused enough =
    subst (IsBookOf lines apid) (sym is) (record { app = number; id = id; base = base; unused = unused; records = refl; claims = refl; room = enough })

-- the books so far
pub record AreSoFar (lines done : List ScenarioLine) (first desk : DeskState) (books : List BookState) : Type 0 where
  pub stays_so : StaysSo first desk
  pub pairs : ArePairs (IsBookOf lines) (writers done) books
  pub open_so : AreOpen desk books (length books)
  pub few : length books ≤ 32

pub one_more : (lines done more : List ScenarioLine) (first desk newer : DeskState) (books now : List BookState) (apid : List ℕ) (b : BookState) → AreSoFar lines done first desk books
    → writers more ≡ writers done ++ apid ∷ [] → now ≡ books ++ b ∷ [] → IsBookOf lines apid b → b.writer.push.number ≡ length desk.owners + 1 → length desk.owners ≢ 32
    → IsMadeWith newer b.writer → MakesWriter b.writer.app desk newer → AreSoFar lines more first newer now
one_more lines done more first desk newer books now apid b so_far lines_so added is number room made makes =
    let owners = so_far.open_so.owners in
    let few = so_far.few in
    let long = length-append books (b ∷ []) in
    let same : length books + 1 ≡ length (books ++ b ∷ []) = omega (arith, long) in
    subst (AreSoFar lines more first newer) (sym added) (record {
      stays_so = record { apps = makes.apps ∙ so_far.stays_so.apps; handles = makes.handles ∙ so_far.stays_so.handles };
      pairs = subst (λ (apids : List (List ℕ)). ArePairs (IsBookOf lines) apids (books ++ b ∷ [])) (sym lines_so) (pairs_more (IsBookOf lines) (writers done) books apid b so_far.pairs is);
      open_so = subst (AreOpen newer (books ++ b ∷ [])) same (one_open b.writer.app desk newer books b (length books) so_far.open_so makes made number);
      few = omega (arith, few, long, owners, room);
    })
