-- What calls leave in the folder, one after the other.
use Rattle.std.proofs.Common.{◌≡◌, ℕ, List, Option, Some, None, refl, ap, subst, ◌∙◌, arith}
use Rattle.std.specs.Option.{option_map}
use Rattle.dl_outside.specs.Folder.{Files}
use Rattle.dl_trace.specs.State.{Trace}
use Rattle.dl_trace.specs.InFolder.{IsTraceName}
use Rattle.dl_core.specs.State.{Core}
use Rattle.dl_outside.specs.Told.{FolderTold}
use Rattle.dl_core.specs.Files.{ChangesOwnFiles, Leaves}

abbrev directory_in : Option Trace → Option (List ℕ)
directory_in trace = option_map (λ (t : Trace). t.directory) trace

pub changes_none : (trace : Option Trace) (told : Option Files) → ChangesOwnFiles trace told told
changes_none None None = tt
changes_none None (Some folder) = (folder, refl, λ name other. refl)
changes_none (Some trace) None = tt
changes_none (Some trace) (Some folder) = (folder, refl, λ name not_trace other. refl)

-- the folder is as it was, and the trace too
pub leaves_alone : (old new : Core) (told : FolderTold) → new.trace ≡ old.trace → Leaves old new told told
leaves_alone old new told same = record {
  others = changes_none old.trace told.files;
  same = ap directory_in same;
  later = omega arith;
}

changes_both : (a b : Option Trace) (x y z : Option Files) → directory_in b ≡ directory_in a → ChangesOwnFiles a x y → ChangesOwnFiles b y z → ChangesOwnFiles a x z
changes_both None None None y z dir one two = tt
changes_both None None (Some folder) y z dir one two =
    let next = subst (λ (o : Option Files). ChangesOwnFiles None o z) one.1 two in
    (next.0, next.1, λ name other. next.2 name other ∙ one.2 name other)
changes_both None (Some t) x y z dir one two = absurd cc
changes_both (Some s) None x y z dir one two = absurd cc
changes_both (Some s) (Some t) None y z dir one two = tt
changes_both (Some s) (Some t) (Some folder) y z dir one two =
    let dirs : t.directory ≡ s.directory = cc in
    let next = subst (λ (o : Option Files). ChangesOwnFiles (Some t) o z) one.1 two in (
      next.0,
      next.1,
      λ name not_trace other.
          next.2 name (λ is_name. not_trace (subst (λ (d : List ℕ). IsTraceName d name) dirs is_name)) other ∙ one.2 name not_trace other,
    )

-- two calls, one after the other
pub leaves_both : (a b c : Core) (x y z : FolderTold) → Leaves a b x y → Leaves b c y z → Leaves a c x z
leaves_both a b c x y z one two = record {
  others = changes_both a.trace b.trace x.files y.files z.files one.same one.others two.others;
  same = two.same ∙ one.same;
  later = omega (arith, one.later, two.later);
}

-- the same where the trace is the one that was handed in
pub changes_since : (first now : Core) (handed : Option Trace) (told told_now : FolderTold) → first.trace ≡ handed → Leaves first now told told_now → ChangesOwnFiles handed told.files told_now.files
changes_since first now handed told told_now same leaves = subst (λ (trace : Option Trace). ChangesOwnFiles trace told.files told_now.files) same leaves.others
