-- How serving ends once the closing was made, by what the report's writing left.
use Rattle.std.proofs.Common.{◌≡◌, inl, inr, ℕ, ◌<◌, Bool, true, false, refl, sym, subst, arith}
use Rattle.std.specs.Prelude.{nat_lt}
use Rattle.std.proofs.lemmas.Bool.{ltb-false, ltb-true}
use Rattle.dl_ending.specs.Ending.{Finishes}
use Rattle.dl_outside.specs.Outside.{HasRisen}
use Rattle.dl_outside.specs.Told.{SinkTold}
use Rattle.dl_outside.specs.Written.{WroteAll, WroteFront}
use Rattle.dl_startup.specs.Failures.{status_of}
use Rattle.dl_startup.specs.declared.failures.Failures.{Failures}
use Rattle.dl_startup.specs.declared.status.Status.{Status}
use Rattle.dl_serve.specs.declared.closed.Closed.{Closed}
use Rattle.dl_serve.specs.declared.faults.Faults.{Faults}
use Rattle.dl_serve.specs.Closed.{failures_of, has_wanted, is_spent, text_of}
use Rattle.dl_serve.specs.Ends.{Ends, NetsFailed, NetsWell}
use Rattle.dl_serve.specs.Faults.{folder_failed, nets_failed}
use Rattle.dl_lemmas.proofs.Bools.{neither, either}

risen : (before now : ℕ) → nat_lt before now ≡ true → HasRisen before now
risen before now is = let up : before < now = ltb-true before now is in (omega (arith, up), omega (arith, up))

nets_risen : (before now : Faults) → nets_failed before now ≡ true → NetsFailed before now
nets_risen before now is = elim (either (nat_lt before.net now.net) (nat_lt before.users now.users) is) [ inl net ↦ inl (risen before.net now.net net) | inr users ↦ inr (risen before.users now.users users) ]

nets_still : (before now : Faults) → nets_failed before now ≡ false → NetsWell before now
nets_still before now is =
    let both = neither (nat_lt before.net now.net) (nat_lt before.users now.users) is in
    record { net = ltb-false before.net now.net both.0; users = ltb-false before.users now.users both.1 }

module _ {L : Type 0} (closed : Closed L) (before now : Faults) (out out_now : SinkTold) where
  -- what is known when the report is written
  record Known (net folder spent memory : Bool) : Type 0 where
    net_is : nets_failed before now ≡ net
    folder_is : folder_failed before now ≡ folder
    spent_is : is_spent closed.state.trace.end ≡ spent
    memory_is : has_wanted closed ≡ memory

  abbrev failures : Bool → Bool → Bool → Bool → Bool → Bool → Failures
  failures net folder spent full output memory = record { net = net; folder = folder; names_spent = spent; journal_full = full; output = output; memory = memory }

  whole : (net folder spent full memory : Bool) → Known net folder spent memory → WroteAll out out_now (text_of closed)
      → Ends closed full before now out out_now (status_of (failures net folder spent full false memory))
  whole true folder spent full memory known all = (inl all, nets_risen before now known.net_is)
  whole false true spent full memory known all = (inl all, nets_still before now known.net_is, risen before.folder now.folder known.folder_is)
  whole false false true full memory known all = (inl all, nets_still before now known.net_is, ltb-false before.folder now.folder known.folder_is, known.spent_is)
  whole false false false true memory known all = (inl all, nets_still before now known.net_is, ltb-false before.folder now.folder known.folder_is, known.spent_is, refl)
  whole false false false false true known all =
      inr (all, nets_still before now known.net_is, ltb-false before.folder now.folder known.folder_is, known.spent_is, refl, known.memory_is)
  whole false false false false false known all = (
    all,
    record {
      nets = nets_still before now known.net_is;
      folder = ltb-false before.folder now.folder known.folder_is;
      names = known.spent_is;
      room = refl;
      memory = known.memory_is;
    },
  )

  front : (net folder spent full memory : Bool) → Known net folder spent memory → WroteFront out out_now (text_of closed)
      → Ends closed full before now out out_now (status_of (failures net folder spent full true memory))
  front true folder spent full memory known part = (inr part, nets_risen before now known.net_is)
  front false true spent full memory known part = (inr part, nets_still before now known.net_is, risen before.folder now.folder known.folder_is)
  front false false true full memory known part = (inr part, nets_still before now known.net_is, ltb-false before.folder now.folder known.folder_is, known.spent_is)
  front false false false true memory known part = (inr part, nets_still before now known.net_is, ltb-false before.folder now.folder known.folder_is, known.spent_is, refl)
  front false false false false memory known part = (part, nets_still before now known.net_is, ltb-false before.folder now.folder known.folder_is, known.spent_is, refl)

  pub ended : (full : Bool) (status : Status) → Finishes (text_of closed) (failures_of closed before now full) out out_now status → Ends closed full before now out out_now status
  ended full status finishes = elim finishes [
    | inl nothing ↦ subst (λ (s : Status). Ends closed full before now out out_now s) (sym nothing.1) (inl nothing.0)
    | inr written ↦ elim written [
      | inl all ↦ subst (λ (s : Status). Ends closed full before now out out_now s) (sym all.1)
          (whole (nets_failed before now) (folder_failed before now) (is_spent closed.state.trace.end) full (has_wanted closed) (record { net_is = refl; folder_is = refl; spent_is = refl; memory_is = refl }) all.0)
      | inr part ↦ subst (λ (s : Status). Ends closed full before now out out_now s) (sym part.1)
          (front (nets_failed before now) (folder_failed before now) (is_spent closed.state.trace.end) full (has_wanted closed) (record { net_is = refl; folder_is = refl; spent_is = refl; memory_is = refl }) part.0)
    ]
  ]
