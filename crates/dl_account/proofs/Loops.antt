-- What the loops that take ends back keep.
use Rattle.std.proofs.Common.{◌≡◌, ℕ, zero, suc, ◌+◌, ◌<◌, ◌≤◌, List, [], ◌∷◌, ◌++◌, length, length-append, Some, slice_get, append_assoc, append-nil, refl, sym, ap, ◌∙◌, subst, arith}
use Rattle.std.specs.Prelude.{All}
use Rattle.std.proofs.lemmas.List.{map-append}
use Rattle.std.proofs.lemmas.List.Elements.{All-head, All-push}
use Rattle.dl_writer.specs.Claiming.{TellsClaims}
use Rattle.dl_writer.specs.Records.{TellAll}
use Rattle.dl_writer.specs.State.{BookState, IsWhole}
use Rattle.dl_desk.specs.declared.app_handles.AppHandles.{AppHandles}
use Rattle.dl_desk.specs.declared.app_handles.FirstHandles.{FirstHandles}
use Rattle.dl_desk.specs.Handles.{HandlesState, joined_app, with_passes}
use Rattle.dl_desk.specs.Lists.{At}
use Rattle.dl_desk.proofs.Places.{changed_keeps, length-changed_at}
use Rattle.dl_account.specs.Entries.{EntriesState, entries_of, with_entry}
use Rattle.dl_account.specs.Joining.{FitFirsts, FitsHandles, join_books, join_firsts, join_writer}
use Rattle.dl_account.proofs.Joined.{fit_stays}

-- ---- books, the first one first

-- these are left of all, with what stands in the others
pub record IsJoining (start : HandlesState) (all : List BookState) (s : HandlesState) (left : List BookState) (entries : EntriesState) : Type 0 where
  pub done : List BookState
  pub parted : all ≡ done ++ left
  pub told : All (λ b. IsWhole b → TellAll b.writer b.records b.claims) done
  pub claimed : All (λ b. TellsClaims b.writer) done
  pub handles : join_books s left ≡ join_books start all
  pub kept : entries ≡ entries_of done
  pub fit : All (λ b. FitsHandles s b.writer) left
  pub few : length done + length left ≤ 32

-- the next one fits
pub next_fits : (s : HandlesState) (left after : List BookState) (b : BookState) → left ≡ b ∷ after → All (λ b. FitsHandles s b.writer) left → FitsHandles s b.writer
next_fits s left after b parted fit = All-head (λ (c : BookState). FitsHandles s c.writer) b after (subst (All (λ (c : BookState). FitsHandles s c.writer)) parted fit)

-- what stands in one book more
entries_more : (done : List BookState) (b : BookState) → with_entry (entries_of done) b.records b.claims b.writer.push.refusals ≡ entries_of (done ++ b ∷ [])
entries_more done b = λ i. record {
  records = sym (map-append (λ (c : BookState). c.records) done (b ∷ [])) i;
  claims = sym (map-append (λ (c : BookState). c.claims) done (b ∷ [])) i;
  refusals = sym (map-append (λ (c : BookState). c.writer.push.refusals) done (b ∷ [])) i;
}

joins_one : (start s : HandlesState) (all after : List BookState) (b : BookState) (entries : EntriesState) → (IsWhole b → TellAll b.writer b.records b.claims) → TellsClaims b.writer
    → IsJoining start all s (b ∷ after) entries → IsJoining start all (join_writer s b.writer) after (with_entry entries b.records b.claims b.writer.push.refusals)
joins_one start s all after b entries told claimed i =
    let long = length-append i.done (b ∷ []) in
    let few = i.few in
    record {
      done = i.done ++ b ∷ [];
      parted = i.parted ∙ sym (append_assoc i.done (b ∷ []) after);
      told = All-push (λ (c : BookState). IsWhole c → TellAll c.writer c.records c.claims) i.done b i.told told;
      claimed = All-push (λ (c : BookState). TellsClaims c.writer) i.done b i.claimed claimed;
      handles = i.handles;
      kept = ap (λ (e : EntriesState). with_entry e b.records b.claims b.writer.push.refusals) i.kept ∙ entries_more i.done b;
      fit = fit_stays s b after i.fit;
      few = omega (arith, long, few);
    }

pub joins_on : (start s new : HandlesState) (all left after : List BookState) (b : BookState) (entries more : EntriesState)
    → left ≡ b ∷ after → new ≡ join_writer s b.writer → more ≡ with_entry entries b.records b.claims b.writer.push.refusals → (IsWhole b → TellAll b.writer b.records b.claims) → TellsClaims b.writer
    → IsJoining start all s left entries → IsJoining start all new after more
joins_on start s new all left after b entries more parted made added told claimed i =
    subst (λ (e : HandlesState). IsJoining start all e after more) (sym made)
    (subst (λ (es : EntriesState). IsJoining start all (join_writer s b.writer) after es) (sym added)
    (joins_one start s all after b entries told claimed (subst (λ (bs : List BookState). IsJoining start all s bs entries) parted i)))

-- ---- first ends, the last one first

-- of these that are left there are ends in front of the others'
pub record FitFront (s : HandlesState) (left : List FirstHandles) : Type 0 where
  pub long : length left ≤ length s.apps
  pub each : (app : ℕ) → At left app (λ f. At s.apps app (λ e. (f.push.ring ≡ e.ring.ring) × (f.injections.queue ≡ e.queue.queue)))

pub record AreJoining (start : HandlesState) (all : List FirstHandles) (s : HandlesState) (left : List FirstHandles) : Type 0 where
  pub handles : join_firsts 0 left s ≡ join_firsts 0 all start
  pub fit : FitFront s left
  pub few : length left ≤ 16

joined_last : (from : ℕ) (left : List FirstHandles) (f : FirstHandles) (s : HandlesState) → join_firsts from (left ++ f ∷ []) s ≡ join_firsts from left (with_passes s (from + length left) f.push f.injections)
joined_last from [] f s = let same : from ≡ from + 0 = omega arith in ap (λ (n : ℕ). with_passes s n f.push f.injections) same
joined_last from (g ∷ left) f s =
    let same : from + 1 + length left ≡ from + suc (length left) = omega arith in
    ap (λ (e : HandlesState). with_passes e from g.push g.injections) (joined_last (from + 1) left f s ∙ ap (λ (n : ℕ). join_firsts (from + 1) left (with_passes s n f.push f.injections)) same)

at_front : (left : List FirstHandles) (f g : FirstHandles) (app : ℕ) → slice_get left app ≡ Some g → slice_get (left ++ f ∷ []) app ≡ Some g
at_front [] f g app at = absurd cc
at_front (h ∷ left) f g zero at = at
at_front (h ∷ left) f g (suc app) at = at_front left f g app at

pub joins_first : (start s new : HandlesState) (whole all left : List FirstHandles) (f : FirstHandles) (app : ℕ) → all ≡ left ++ f ∷ [] → app ≡ length left → new ≡ with_passes s app f.push f.injections
    → AreJoining start whole s all → AreJoining start whole new left
joins_first start s new whole all left f app parted is made i = subst (λ (e : HandlesState). AreJoining start whole e left) (sym (made ∙ ap (λ (n : ℕ). with_passes s n f.push f.injections) here)) (
    let count = ap length parted ∙ length-append left (f ∷ []) in
    let few = i.few in
    let long = i.fit.long in
    let same = length-changed_at (0 + length left) (joined_app f.push f.injections) s.apps in
    record {
      handles = sym (joined_last 0 left f s) ∙ sym (ap (λ (fs : List FirstHandles). join_firsts 0 fs s) parted) ∙ i.handles;
      fit = record {
        long = omega (arith, count, long, same);
        each = λ n g g_at. changed_keeps (λ (e : AppHandles). (g.push.ring ≡ e.ring.ring) × (g.injections.queue ≡ e.queue.queue)) (0 + length left) n (joined_app f.push f.injections) s.apps
            (λ e same. same) (i.fit.each n g (ap (λ (fs : List FirstHandles). slice_get fs n) parted ∙ at_front left f g n g_at));
      };
      few = omega (arith, count, few);
    }) where
      here : app ≡ 0 + length left
      here = omega (arith, is)
