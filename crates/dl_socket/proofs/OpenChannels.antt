-- Which channels are open, whatever is put for them.
use Rattle.std.proofs.Common.{◌≡◌, ◌<◌, ◌≤◌, ◌+◌, ℕ, Bool, true, false, cond, not, ◌||◌, inl, inr, List, [], ◌∷◌, ◌++◌, filter, Option, Some, None, is_some, IsSome, slice_get, refl, sym, ap, ◌∙◌, arith}
use Rattle.std.specs.Prelude.{nat_eq}
use Rattle.std.specs.Map.{lookup, set_value}
use Rattle.std.specs.Option.{option_map_or}
use Rattle.std.proofs.lemmas.Bool.{eqb-true}
use Rattle.std.proofs.lemmas.Bool.Decides.{eqb_tells}
use Rattle.std.proofs.lemmas.Map.Entries.{lookup-filter-keys}
use Rattle.dl_bytes.specs.declared.moment.Moment.{Moment}
use Rattle.dl_bytes.specs.declared.user.UserMsg.{UserMsg}
use Rattle.dl_channel.specs.Levels.{with_level, with_message}
use Rattle.dl_channel.specs.State.{Outbox, empty}
use Rattle.dl_channel.specs.declared.outcome.ChannelEnd.{ChannelEnd}
use Rattle.dl_channel_turns.specs.Levels.{TellsLevels, answer_to, answered, put_for, registration_of}
use Rattle.dl_channel_turns.specs.Messages.{Alone, Group, Serves, ServesGroup, Together}
use Rattle.dl_channel_turns.specs.State.{Side, Stage, changed, outbox_of, without}
use Rattle.dl_channel_turns.specs.Turns.{Heeds, IsTurn, ServesEach}
use Rattle.dl_core.specs.Admission.{has_frames}
use Rattle.dl_core.specs.Registering.{applied_now}
use Rattle.dl_model.specs.declared.registry.LevelChange.{LevelChange}
use Rattle.dl_outside.specs.declared.link.Gave.{Gave}
use Rattle.dl_outside.specs.declared.link.Gave.TheVariants as gave
use Rattle.dl_registry.specs.Kept.{channel_at, owed_change, position_at}
use Rattle.dl_user.specs.Channel as cutter
use Rattle.dl_user.specs.Channel.{unfed}
use Rattle.dl_cells.specs.declared.level_history.Change.{Change}
use Rattle.dl_socket.specs.declared.ways.Way.{Way}
use Rattle.dl_socket.specs.Ways.{sent_along, sent_each}
use Rattle.dl_socket.specs.Channels.{Channels, Fits, inbox_of, with_channel, without_inbox}

-- ---- entries by numbers

module _ {A : Type 0} where
  still : (t : Bool) (x y : A) (l m : Option A) → is_some l ≡ is_some m → is_some (cond t (Some x) l) ≡ is_some (cond t (Some y) m)
  still true x y l m same = refl
  still false x y l m same = same

  -- where one is changed
  pub set_open : (channel other : ℕ) (es : List (ℕ × A)) (w : A) → is_some (lookup (nat_eq other) (set_value (nat_eq channel) es w)) ≡ is_some (lookup (nat_eq other) es)
  set_open channel other [] w = refl
  set_open channel other (e ∷ es) w = by (nat_eq channel e.0) (set_open channel other es w) where
    by : (b : Bool) → is_some (lookup (nat_eq other) (set_value (nat_eq channel) es w)) ≡ is_some (lookup (nat_eq other) es)
        → is_some (lookup (nat_eq other) (cond b ((e.0, w) ∷ es) (e ∷ set_value (nat_eq channel) es w))) ≡ is_some (cond (nat_eq other e.0) (Some e.1) (lookup (nat_eq other) es))
    by true rest = still (nat_eq other e.0) w e.1 (lookup (nat_eq other) es) (lookup (nat_eq other) es) refl
    by false rest = still (nat_eq other e.0) e.1 e.1 (lookup (nat_eq other) (set_value (nat_eq channel) es w)) (lookup (nat_eq other) es) rest

  -- where one comes
  one_more : (b : Bool) (x : A) → is_some (cond b (Some x) None) ≡ b
  one_more true x = refl
  one_more false x = refl

  or_more : (t b : Bool) (x : A) (l m : Option A) → is_some l ≡ (is_some m || b) → is_some (cond t (Some x) l) ≡ (is_some (cond t (Some x) m) || b)
  or_more true b x l m same = refl
  or_more false b x l m same = same

  pub added_open : (channel other : ℕ) (es : List (ℕ × A)) (w : A) → is_some (lookup (nat_eq other) (es ++ (channel, w) ∷ [])) ≡ (is_some (lookup (nat_eq other) es) || nat_eq other channel)
  added_open channel other [] w = one_more (nat_eq other channel) w
  added_open channel other (e ∷ es) w = or_more (nat_eq other e.0) (nat_eq other channel) e.1 (lookup (nat_eq other) (es ++ (channel, w) ∷ [])) (lookup (nat_eq other) es) (added_open channel other es w)

  -- one that came and goes again
  removed_again : (channel : ℕ) (es : List (ℕ × A)) (w : A) → lookup (nat_eq channel) es ≡ None → filter (λ (e : ℕ × A). not (nat_eq channel e.0)) (es ++ (channel, w) ∷ []) ≡ es
  removed_again channel [] w none = elim (eqb_tells channel channel) [
    | inl here ↦ ap (λ (b : Bool). cond (not b) ((channel, w) ∷ []) []) here.0
    | inr there ↦ absurd (there.1 refl)
  ]
  removed_again channel (e ∷ es) w none = by (nat_eq channel e.0) refl none (λ n. removed_again channel es w n) where
    by : (b : Bool) → nat_eq channel e.0 ≡ b → cond b (Some e.1) (lookup (nat_eq channel) es) ≡ None
        → (lookup (nat_eq channel) es ≡ None → filter (λ (e : ℕ × A). not (nat_eq channel e.0)) (es ++ (channel, w) ∷ []) ≡ es)
        → cond (not (nat_eq channel e.0)) (e ∷ filter (λ (e : ℕ × A). not (nat_eq channel e.0)) (es ++ (channel, w) ∷ [])) (filter (λ (e : ℕ × A). not (nat_eq channel e.0)) (es ++ (channel, w) ∷ [])) ≡ e ∷ es
    by true is none rest = absurd (cc none)
    by false is none rest = ap (λ (b : Bool). cond (not b) (e ∷ filter (λ (e : ℕ × A). not (nat_eq channel e.0)) (es ++ (channel, w) ∷ [])) (filter (λ (e : ℕ × A). not (nat_eq channel e.0)) (es ++ (channel, w) ∷ []))) is
        ∙ ap (λ (l : List (ℕ × A)). e ∷ l) (rest none)

pub gone_again : (channel : ℕ) (outboxes : List (ℕ × Outbox)) (w : Outbox) → outbox_of outboxes channel ≡ None → without channel (outboxes ++ (channel, w) ∷ []) ≡ outboxes
gone_again channel outboxes w none = removed_again channel outboxes w none

-- ---- what waits for the channels

abbrev pub AreOpenAs : List (ℕ × Outbox) → List (ℕ × Outbox) → Type 0
AreOpenAs old new = (other : ℕ) → is_some (outbox_of new other) ≡ is_some (outbox_of old other)

pub changed_open : (channel : ℕ) (change : Outbox → Outbox) (outboxes : List (ℕ × Outbox)) → AreOpenAs outboxes (changed channel change outboxes)
changed_open channel change outboxes other = by (outbox_of outboxes channel) where
  by : (p : Option Outbox) → is_some (outbox_of (option_map_or (λ outbox. set_value (nat_eq channel) outboxes (change outbox)) p outboxes) other) ≡ is_some (outbox_of outboxes other)
  by None = refl
  by (Some x) = set_open channel other outboxes (change x)

put_open : (channel position : Option ℕ) (level : ℕ) (outboxes : List (ℕ × Outbox)) → AreOpenAs outboxes (put_for channel position level outboxes)
put_open (Some channel) (Some position) level outboxes other = changed_open channel (with_level level position) outboxes other
put_open (Some channel) None level outboxes other = refl
put_open None position level outboxes other = refl

answered_open : (channel : ℕ) (answer : Option (List ℕ)) (outboxes : List (ℕ × Outbox)) → AreOpenAs outboxes (answered channel answer outboxes)
answered_open channel (Some message) outboxes other = changed_open channel (with_message message) outboxes other
answered_open channel None outboxes other = refl

pub same_open : (old new : List (ℕ × Outbox)) → new ≡ old → AreOpenAs old new
same_open old new same other = ap (λ (o : List (ℕ × Outbox)). is_some (outbox_of o other)) same

levels_open : (changes : List LevelChange) (old new : Side) → TellsLevels changes old new → AreOpenAs old.outboxes new.outboxes
levels_open [] old new levels other = ap (λ (s : Side). is_some (outbox_of s.outboxes other)) levels.0
levels_open (next ∷ others) old new levels other = levels_open others levels.0 new levels.2 other ∙ same_open _ _ levels.1.outboxes other
    ∙ put_open (channel_at old.core.registry.registry _) (position_at old.core.registry.registry next.slot) next.level old.outboxes other

module _ (channel : ℕ) (moment : Moment) where
  pub one_open : (b : Bool) (msg : UserMsg) (old new : Side) → Serves b channel moment msg old new → AreOpenAs old.outboxes new.outboxes
  one_open true msg old new serves other = same_open old.outboxes new.outboxes serves.1 other
  one_open false msg old new serves other = levels_open serves.2.0 serves.0 new serves.2.1 other ∙ same_open _ serves.0.outboxes serves.1.outboxes other
      ∙ answered_open channel (answer_to (registration_of msg) (applied_now old.core channel msg) (owed_change serves.0.core.registry)) old.outboxes other

  group_open : (group : Group) (old new : Side) → ServesGroup channel moment group old new → AreOpenAs old.outboxes new.outboxes
  group_open (Together msgs) old new serves other = same_open old.outboxes new.outboxes serves.2 other
  group_open (Alone msg) old new serves other = one_open (has_frames msg) msg old new serves other

  each_open : (groups : List Group) (old new : Side) → ServesEach channel moment groups old new → AreOpenAs old.outboxes new.outboxes
  each_open [] old new serves other = ap (λ (s : Side). is_some (outbox_of s.outboxes other)) serves
  each_open (group ∷ groups) old new serves other = each_open groups serves.0 new serves.2 other ∙ group_open group old serves.0 serves.1 other

  heeds_open : (answer : Gave) (into : List ℕ) (end : Option ChannelEnd) (inbox inbox_now : cutter.Channel) (old new : Side) → Heeds channel moment answer into end inbox inbox_now old new → AreOpenAs old.outboxes new.outboxes
  heeds_open (gave.Bytes count) into end inbox inbox_now old new all other = each_open all.groups old new all.serves other
  heeds_open gave.NotYet into end inbox inbox_now old new same other = ap (λ (s : Side). is_some (outbox_of s.outboxes other)) same.2
  heeds_open gave.End into end inbox inbox_now old new same other = ap (λ (s : Side). is_some (outbox_of s.outboxes other)) same.2
  heeds_open gave.Failed into end inbox inbox_now old new same other = ap (λ (s : Side). is_some (outbox_of s.outboxes other)) same.2

  pub turn_open : (end : Option ChannelEnd) (old new : Stage) → IsTurn channel moment end old new → AreOpenAs old.side.outboxes new.side.outboxes
  turn_open end old new turn other = heeds_open turn.answer turn.into end old.inbox new.inbox old.side new.side turn.heeds other

-- levels that go their ways
sent_one_open : (way : Option (Option Way)) (level : ℕ) (outboxes : List (ℕ × Outbox)) → AreOpenAs outboxes (sent_along way level outboxes)
sent_one_open None level outboxes other = refl
sent_one_open (Some None) level outboxes other = refl
sent_one_open (Some (Some way)) level outboxes other = changed_open way.channel (with_level level way.position) outboxes other

pub sent_open : (ways : List (Option Way)) (changes : List Change) (outboxes : List (ℕ × Outbox)) → AreOpenAs outboxes (sent_each ways changes outboxes)
sent_open ways [] outboxes other = refl
sent_open ways (c ∷ changes) outboxes other = sent_open ways changes (sent_along (slice_get ways c.slot) c.level outboxes) other ∙ sent_one_open (slice_get ways c.slot) c.level outboxes other

-- ---- a channel that goes

module _ {A : Type 0} where
  looked_up : (channel other : ℕ) (es : List (ℕ × A)) → lookup (nat_eq other) (filter (λ (e : ℕ × A). not (nat_eq channel e.0)) es) ≡ cond (not (nat_eq channel other)) (lookup (nat_eq other) es) None
  looked_up channel other es = lookup-filter-keys (nat_eq other) (λ k. not (nat_eq channel k)) (not (nat_eq channel other)) (λ k here. ap (λ n. not (nat_eq channel n)) (sym (eqb-true other k here))) es

  was_there : (b : Bool) (l : Option A) → IsSome (cond b l None) → IsSome l
  was_there true l there = there
  was_there false l there = absurd (cc there)

kept : {A B : Type 0} (b : Bool) (l : Option A) (m : Option B) → is_some l ≡ is_some m → is_some (cond b l None) ≡ is_some (cond b m None)
kept true l m same = same
kept false l m same = refl

-- ---- what always holds of the channels

module _ (outboxes : List (ℕ × Outbox)) (inboxes : List (ℕ × cutter.Channel)) (opened at_once in_all : ℕ) where
  abbrev these : Channels
  these = record { outboxes = outboxes; inboxes = inboxes; opened = opened; at_once = at_once; in_all = in_all }

  -- with other outboxes of the same channels
  pub fits_with_outboxes : (now : List (ℕ × Outbox)) → Fits these → AreOpenAs outboxes now → Fits (record these { outboxes = now })
  fits_with_outboxes now fits same = record {
    both = λ channel. same channel ∙ fits.both channel;
    numbered = fits.numbered;
    few = fits.few;
  }

  -- and with another inbox of one
  pub fits_with_inbox : (now : List (ℕ × Outbox)) (channel : ℕ) (inbox : cutter.Channel) → Fits these → AreOpenAs outboxes now
      → Fits (record these { outboxes = now; inboxes = set_value (nat_eq channel) inboxes inbox })
  fits_with_inbox now channel inbox fits same = record {
    both = λ other. same other ∙ fits.both other ∙ sym (set_open channel other inboxes inbox);
    numbered = λ other is. fits.numbered other (sym (set_open channel other inboxes inbox) ∙ is);
    few = fits.few;
  }

  -- the next number is new
  pub next_is_new : (channel : ℕ) → channel ≡ opened + 1 → Fits these → outbox_of outboxes channel ≡ None
  next_is_new channel next fits = by (outbox_of outboxes channel) refl where
    by : (p : Option Outbox) → outbox_of outboxes channel ≡ p → p ≡ None
    by None is = refl
    by (Some x) is = let there = fits.numbered channel (sym (fits.both channel) ∙ ap is_some is) in absurd (omega (arith, there.1))

  -- a channel comes
  pub fits_with_channel : (channel : ℕ) → channel ≡ opened + 1 → channel ≤ in_all → Fits these → Fits (with_channel channel these)
  fits_with_channel channel next within fits = record {
    both = λ other. added_open channel other outboxes empty ∙ ap (λ b. b || nat_eq other channel) (fits.both other) ∙ sym (added_open channel other inboxes unfed);
    numbered = λ other is. by other (is_some (inbox_of inboxes other)) refl (sym (added_open channel other inboxes unfed) ∙ is);
    few = within;
  } where
    by : (other : ℕ) (b : Bool) → is_some (inbox_of inboxes other) ≡ b → (b || nat_eq other channel) ≡ true → (0 < other) × (other ≤ channel)
    by other true there is = let was = fits.numbered other there in (was.0, omega (arith, was.1, next))
    by other false there is = elim (eqb_tells other channel) [
      | inl same ↦ (omega (arith, same.1, next), omega (arith, same.1))
      | inr apart ↦ absurd (cc (sym apart.0 ∙ is))
    ]

  pub next_has_sent_nothing : (channel : ℕ) → channel ≡ opened + 1 → Fits these → inbox_of inboxes channel ≡ None
  next_has_sent_nothing channel next fits = by (inbox_of inboxes channel) refl where
    by : (p : Option cutter.Channel) → inbox_of inboxes channel ≡ p → p ≡ None
    by None is = refl
    by (Some x) is = let there = fits.numbered channel (ap is_some is) in absurd (omega (arith, there.1))

  -- a channel goes
  pub fits_without : (now : List (ℕ × Outbox)) (channel : ℕ) → Fits these → AreOpenAs outboxes now → Fits (record these { outboxes = without channel now; inboxes = without_inbox channel inboxes })
  fits_without now channel fits same = record {
    both = λ other. ap is_some (looked_up channel other now) ∙ kept (not (nat_eq channel other)) (outbox_of now other) (inbox_of inboxes other) (same other ∙ fits.both other) ∙ sym (ap is_some (looked_up channel other inboxes));
    numbered = λ other is. fits.numbered other (was_there (not (nat_eq channel other)) (inbox_of inboxes other) (sym (ap is_some (looked_up channel other inboxes)) ∙ is));
    few = fits.few;
  }
