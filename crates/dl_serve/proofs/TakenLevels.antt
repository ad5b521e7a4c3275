-- What the link of a channel took of the levels that were put for it, and what events put.
use Rattle.std.proofs.Common.{Bool, List, None, Option, Some, [], ap, append-nil, append_assoc, arith, cond, drop, false, inl, inr, length, length-append, refl, subst, sym, take, take-append-drop, true, ℕ, ◌++◌, ◌+◌, ◌<◌, ◌∙◌, ◌∷◌, ◌≡◌, ◌≤◌}
use Rattle.std.specs.Prelude.{nat_eq, nat_le, ◌/◌, ◌==◌, ◌⊎◌, ◌≢◌}
use Rattle.std.specs.List.{AllByRecursion, concat}
use Rattle.std.specs.Map.{set_value}
use Rattle.std.specs.Option.{option_map, option_map_or}
use Rattle.std.proofs.lemmas.Bool.Decides.{eqb_tells, leb_tells}
use Rattle.dl_bytes.specs.Limits.{context_limit}
use Rattle.dl_bytes.specs.declared.user.UserMsg.TheVariants as user
use Rattle.dl_channel.specs.Levels.{level_message, with_level, with_message}
use Rattle.dl_channel.specs.Pumping.{EndsSending, PumpsBy}
use Rattle.dl_channel.specs.State.{Outbox, empty, waiting_limit}
use Rattle.dl_channel.specs.declared.outcome.ChannelEnd.{ChannelEnd}
use Rattle.dl_channel.specs.declared.outcome.ChannelEnd.TheVariants.{Slow}
use Rattle.dl_channel_turns.specs.Levels.{answered, put_for, told}
use Rattle.dl_channel_turns.specs.Put.{answer_for, message_for, to_channel}
use Rattle.dl_channel_turns.specs.State.{outbox_of}
use Rattle.dl_events.specs.declared.event.Event.{Event}
use Rattle.dl_model.proofs.Lists.{along_from-append}
use Rattle.dl_model.specs.Along.{along_from}
use Rattle.dl_model.specs.Registry.{Registry}
use Rattle.dl_model.specs.Setting.{Setting}
use Rattle.dl_model.specs.declared.registry.LevelChange.{LevelChange}
use Rattle.dl_outside.specs.Outside.{Grows, Stays}
use Rattle.dl_outside.specs.Told.{LinkTold}
use Rattle.dl_registry.specs.Kept.{channel_at, position_at}
use Rattle.dl_serve.proofs.OtherEntries.{value_apart, value_here}
use Rattle.dl_serve.specs.Levels.{levels_put, message_at}
use Rattle.dl_serve.proofs.NobodyPuts.{answer_apart}
use Rattle.dl_serve.proofs.NotedSteps.{IsQuiet, IsSilent}
use Rattle.dl_events.specs.declared.event.Event.TheVariants as event

-- ---- what waits

-- messages that are put, one behind the other
abbrev pub put_all : List (List ℕ) → Outbox → Outbox
put_all [] outbox = outbox
put_all (message ∷ messages) outbox = put_all messages (with_message message outbox)

-- Of these bytes of messages the link took some, others wait, and the rest found no room: none, unless the outbox is full, and then they are more than
-- may wait.
pub record Waits (bytes sent : List ℕ) (outbox : Outbox) : Type 0 where
  pub left : List ℕ
  pub all : bytes ≡ (sent ++ outbox.waiting) ++ left
  pub every : outbox.full ≡ false → left ≡ []
  pub over : outbox.full ≡ true → waiting_limit < length bytes

bad_bool : {A : Type 0} → true ≡ false → A
bad_bool is = absurd (cc is)

one_waits : (bytes sent message : List ℕ) (outbox : Outbox) → Waits bytes sent outbox → Waits (bytes ++ message) sent (with_message message outbox)
one_waits bytes sent message outbox w = by outbox.full (nat_le (length outbox.waiting + length message) waiting_limit) refl (leb_tells (length outbox.waiting + length message) waiting_limit) where
  by : (full fits : Bool) → outbox.full ≡ full → ((fits ≡ true) × (length outbox.waiting + length message ≤ waiting_limit)) ⊎ ((fits ≡ false) × (waiting_limit < length outbox.waiting + length message))
      → Waits (bytes ++ message) sent (cond full outbox (cond fits (record outbox { waiting = outbox.waiting ++ message }) (record outbox { full = true })))
  by true fits is tells = record {
    left = w.left ++ message;
    all = ap (λ (bs : List ℕ). bs ++ message) w.all ∙ append_assoc (sent ++ outbox.waiting) w.left message;
    every = λ none. bad_bool (sym is ∙ none);
    over = λ full. omega (arith, w.over is, length-append bytes message);
  }
  by false true is tells = record {
    left = [];
    all = ap (λ (bs : List ℕ). bs ++ message) (w.all ∙ ap (λ (l : List ℕ). (sent ++ outbox.waiting) ++ l) (w.every is) ∙ append-nil (sent ++ outbox.waiting))
        ∙ append_assoc sent outbox.waiting message ∙ sym (append-nil (sent ++ (outbox.waiting ++ message)));
    every = λ none. refl;
    over = λ full. bad_bool (sym full ∙ is);
  }
  by false false is tells = record {
    left = message;
    all = ap (λ (bs : List ℕ). bs ++ message) (w.all ∙ ap (λ (l : List ℕ). (sent ++ outbox.waiting) ++ l) (w.every is) ∙ append-nil (sent ++ outbox.waiting));
    every = λ none. bad_bool none;
    over = λ full. elim tells [
      | inl fit ↦ absurd (cc fit.0)
      | inr out ↦ omega (arith, out.1, length-append bytes message, ap length w.all, length-append (sent ++ outbox.waiting) w.left, length-append sent outbox.waiting)
    ];
  }

pub all_wait : (messages : List (List ℕ)) (bytes sent : List ℕ) (outbox : Outbox) → Waits bytes sent outbox → Waits (bytes ++ concat messages) sent (put_all messages outbox)
all_wait [] bytes sent outbox w = subst (λ (bs : List ℕ). Waits bs sent outbox) (sym (append-nil bytes)) w
all_wait (message ∷ messages) bytes sent outbox w =
    subst (λ (bs : List ℕ). Waits bs sent (put_all messages (with_message message outbox))) (append_assoc bytes message (concat messages))
    (all_wait messages (bytes ++ message) sent (with_message message outbox) (one_waits bytes sent message outbox w))

-- ---- by number

pub same_map : (o : Option Outbox) → o ≡ option_map (λ (x : Outbox). x) o
same_map None = refl
same_map (Some x) = refl

module _ (channel : ℕ) (outboxes : List (ℕ × Outbox)) where
  -- one channel's is changed
  changed_one : (other : ℕ) (change : Outbox → Outbox) (o : Option Outbox) → outbox_of outboxes other ≡ o
      → outbox_of (option_map_or (λ outbox. set_value (nat_eq other) outboxes (change outbox)) o outboxes) channel ≡ option_map (λ (x : Outbox). cond (other == channel) (change x) x) (outbox_of outboxes channel)
  changed_one other change None is = elim (eqb_tells other channel) [
    | inl same ↦
        let none : outbox_of outboxes channel ≡ None = ap (λ (n : ℕ). outbox_of outboxes n) (sym same.1) ∙ is in
        none ∙ sym (ap (λ (p : Option Outbox). option_map (λ (x : Outbox). cond (other == channel) (change x) x) p) none)
    | inr apart ↦ same_map (outbox_of outboxes channel) ∙ sym (ap (λ (b : Bool). option_map (λ (x : Outbox). cond b (change x) x) (outbox_of outboxes channel)) apart.0)
  ]
  changed_one other change (Some x) is = elim (eqb_tells other channel) [
    | inl same ↦
        let here : outbox_of outboxes channel ≡ Some x = ap (λ (n : ℕ). outbox_of outboxes n) (sym same.1) ∙ is in
        ap (λ (n : ℕ). outbox_of (set_value (nat_eq other) outboxes (change x)) n) (sym same.1) ∙ value_here other outboxes (change x) x is
        ∙ sym (ap (λ (p : Option Outbox). option_map (λ (y : Outbox). cond (other == channel) (change y) y) p) here ∙ ap (λ (b : Bool). Some (cond b (change x) x)) same.0)
    | inr apart ↦
        value_apart other channel outboxes (change x) (λ e. apart.1 (sym e)) ∙ same_map (outbox_of outboxes channel)
        ∙ sym (ap (λ (b : Bool). option_map (λ (y : Outbox). cond b (change y) y) (outbox_of outboxes channel)) apart.0)
  ]

  put_is : (b : Bool) (message : List ℕ) (o : Option Outbox) → option_map (λ (x : Outbox). cond b (with_message message x) x) o ≡ option_map (put_all (cond b (message ∷ []) [])) o
  put_is b message None = refl
  put_is true message (Some x) = refl
  put_is false message (Some x) = refl

  put_one : (app place : Option ℕ) (level : ℕ) → outbox_of (put_for app place level outboxes) channel ≡ option_map (put_all (to_channel channel app place level)) (outbox_of outboxes channel)
  put_one None place level = same_map (outbox_of outboxes channel)
  put_one (Some other) None level = same_map (outbox_of outboxes channel)
  put_one (Some other) (Some position) level =
      changed_one other (with_level level position) (outbox_of outboxes other) refl ∙ put_is (other == channel) (level_message level position) (outbox_of outboxes channel)

  -- a level that is told
  pub told_one : (registry : Registry) (change : LevelChange) → outbox_of (told registry change outboxes) channel ≡ option_map (put_all (message_for registry channel change)) (outbox_of outboxes channel)
  told_one registry change = put_one (channel_at registry (change.slot / context_limit)) (position_at registry change.slot) change.level

  -- an answer
  pub answered_one : (other : ℕ) (answer : Option (List ℕ)) → outbox_of (answered other answer outboxes) channel ≡ option_map (put_all (answer_for channel other answer)) (outbox_of outboxes channel)
  answered_one other None = same_map (outbox_of outboxes channel)
  answered_one other (Some message) = changed_one other (with_message message) (outbox_of outboxes other) refl ∙ put_is (other == channel) message (outbox_of outboxes channel)

  -- to another channel
  pub answered_apart : (other : ℕ) (answer : Option (List ℕ)) → other ≢ channel → outbox_of (answered other answer outboxes) channel ≡ outbox_of outboxes channel
  answered_apart other answer apart =
      answered_one other answer ∙ ap (λ (ms : List (List ℕ)). option_map (put_all ms) (outbox_of outboxes channel)) (answer_apart channel other answer apart) ∙ sym (same_map (outbox_of outboxes channel))

-- ---- the bytes that events put

-- the messages of these events for a channel, behind those before them
abbrev pub put_on : Setting → ℕ → List Event → List Event → List (List ℕ)
put_on setting channel past more = along_from (message_at setting channel) past more

concat_both : (first second : List (List ℕ)) → concat (first ++ second) ≡ concat first ++ concat second
concat_both [] second = refl
concat_both (x ∷ first) second = ap (λ (bs : List ℕ). x ++ bs) (concat_both first second) ∙ sym (append_assoc x (concat first) (concat second))

-- the bytes of the messages of more events
pub levels_more : (setting : Setting) (channel : ℕ) (past more : List Event) → levels_put setting channel past ++ concat (put_on setting channel past more) ≡ levels_put setting channel (past ++ more)
levels_more setting channel past more =
    sym (ap concat (along_from-append (message_at setting channel) [] past more) ∙ concat_both (put_on setting channel [] past) (put_on setting channel past more))

-- where these put nothing
pub levels_same : (setting : Setting) (channel : ℕ) (past more : List Event) → put_on setting channel past more ≡ [] → levels_put setting channel (past ++ more) ≡ levels_put setting channel past
levels_same setting channel past more none =
    sym (levels_more setting channel past more) ∙ ap (λ (ms : List (List ℕ)). levels_put setting channel past ++ concat ms) none ∙ append-nil (levels_put setting channel past)

-- an event that is no level puts nothing for other channels than its own
pub quiet_puts : (setting : Setting) (from channel : ℕ) (past more : List Event) → channel ≢ from → AllByRecursion (IsQuiet from) more → put_on setting channel past more ≡ []
quiet_puts setting from channel past [] apart all = refl
quiet_puts setting from channel past (e ∷ more) apart all =
    ap (λ (ms : List (List ℕ)). ms ++ put_on setting channel (past ++ e ∷ []) more) (by e all.0) ∙ quiet_puts setting from channel (past ++ e ∷ []) more apart all.1
  where
    by : (e : Event) → IsQuiet from e → message_at setting channel past e ≡ []
    by (event.Level slot level) quiet = absurd quiet
    by (event.User other msg moment) quiet = answer_apart channel other _ (λ same. apart (sym same ∙ quiet))
    by _ quiet = refl

-- and where no context registers either, for none
pub silent_puts : (setting : Setting) (channel : ℕ) (past more : List Event) → AllByRecursion IsSilent more → put_on setting channel past more ≡ []
silent_puts setting channel past [] all = refl
silent_puts setting channel past (e ∷ more) all =
    ap (λ (ms : List (List ℕ)). ms ++ put_on setting channel (past ++ e ∷ []) more) (by e all.0) ∙ silent_puts setting channel (past ++ e ∷ []) more all.1
  where
    by : (e : Event) → IsSilent e → message_at setting channel past e ≡ []
    by (event.Level slot level) silent = absurd silent
    by (event.User other (user.RegisterContext apid ctid position level trace pid text) moment) silent = absurd silent
    by (event.User other _ moment) silent = refl
    by _ silent = refl

-- so the bytes are as they were
pub silent_bytes : (setting : Setting) (channel : ℕ) (past more : List Event) (bytes : List ℕ) → AllByRecursion IsSilent more → bytes ++ concat (put_on setting channel past more) ≡ bytes
silent_bytes setting channel past more bytes all = ap (λ (ms : List (List ℕ)). bytes ++ concat ms) (silent_puts setting channel past more all) ∙ append-nil bytes

-- ---- one channel

pub stays_so : (old new : Option (List ℕ)) (bytes : List ℕ) → Stays old new → old ≡ Some bytes → new ≡ Some bytes
stays_so old new bytes stays is = subst (λ (o : Option (List ℕ)). Stays o new) is stays

grown_so : (old new : Option (List ℕ)) (bytes more : List ℕ) → Grows old new more → old ≡ Some bytes → new ≡ Some (bytes ++ more)
grown_so old new bytes more grows is = subst (λ (o : Option (List ℕ)). Grows o new more) is grows

module _ (Tells : Type 0) where
  -- Of these bytes the link took the front, where links tell that; while the channel is open, what waits is behind that; and it ended as slow only where
  -- they are more than may wait.
  pub record Takes (bytes : List ℕ) (link : LinkTold) (end : Option ChannelEnd) (o : Option Outbox) : Type 0 where
    pub sent : List ℕ
    pub told : Tells → link.taken ≡ Some sent
    pub rest : List ℕ
    pub front : bytes ≡ sent ++ rest
    pub waits : (x : Outbox) → o ≡ Some x → Waits bytes sent x
    pub slow : end ≡ Some Slow → waiting_limit < length bytes

  -- nothing was put yet for a channel that came
  pub new_takes : (link : LinkTold) → (Tells → link.taken ≡ Some []) → Takes [] link None (Some empty)
  new_takes link taken = record {
    sent = [];
    told = taken;
    rest = [];
    front = refl;
    waits = λ x is. (let same : empty ≡ x = cc is in
        subst (λ (z : Outbox). Waits [] [] z) same (record { left = []; all = refl; every = λ none. refl; over = λ full. absurd (cc full) }));
    slow = λ is. absurd (cc is);
  }

  -- messages were put
  waits_put : (messages : List (List ℕ)) (bytes sent : List ℕ) (o : Option Outbox) → ((x : Outbox) → o ≡ Some x → Waits bytes sent x) → (x : Outbox) → option_map (put_all messages) o ≡ Some x
      → Waits (bytes ++ concat messages) sent x
  waits_put messages bytes sent None waits x is = absurd (cc is)
  waits_put messages bytes sent (Some y) waits x is =
      let same : put_all messages y ≡ x = cc is in
      subst (λ (z : Outbox). Waits (bytes ++ concat messages) sent z) same (all_wait messages bytes sent y (waits y refl))

  pub put_takes : (messages : List (List ℕ)) (bytes : List ℕ) (link : LinkTold) (end : Option ChannelEnd) (o o_now : Option Outbox) → o_now ≡ option_map (put_all messages) o → Takes bytes link end o
      → Takes (bytes ++ concat messages) link end o_now
  put_takes messages bytes link end o o_now is t = record {
    sent = t.sent;
    told = t.told;
    rest = t.rest ++ concat messages;
    front = ap (λ (bs : List ℕ). bs ++ concat messages) t.front ∙ append_assoc t.sent t.rest (concat messages);
    waits = λ x there. waits_put messages bytes t.sent o t.waits x (sym is ∙ there);
    slow = λ its. (let over = t.slow its in omega (arith, over, length-append bytes (concat messages)));
  }

  -- the link took nothing, the channel ended as slow only where it had before, and what waits stands or is gone
  pub stays_takes : (bytes : List ℕ) (link link_now : LinkTold) (end end_now : Option ChannelEnd) (o o_now : Option Outbox) → Stays link.taken link_now.taken → (end_now ≡ Some Slow → end ≡ Some Slow)
      → ((x : Outbox) → o_now ≡ Some x → o ≡ Some x) → Takes bytes link end o → Takes bytes link_now end_now o_now
  stays_takes bytes link link_now end end_now o o_now stays slow waits t = record {
    sent = t.sent;
    told = λ tells. stays_so link.taken link_now.taken t.sent stays (t.told tells);
    rest = t.rest;
    front = t.front;
    waits = λ x there. t.waits x (waits x there);
    slow = λ is. t.slow (slow is);
  }

  -- what waited was sent
  pub pump_takes : (b : Bool) (bytes : List ℕ) (end_now : Option ChannelEnd) (outbox outbox_now : Outbox) (link link_now : LinkTold) → outbox.full ≡ b → PumpsBy b end_now outbox outbox_now link link_now
      → Takes bytes link None (Some outbox) → Takes bytes link_now end_now (Some outbox_now)
  pump_takes true bytes end_now outbox outbox_now link link_now full pumps t = record {
    sent = t.sent;
    told = λ tells. ap (λ (l : LinkTold). l.taken) pumps.2 ∙ t.told tells;
    rest = t.rest;
    front = t.front;
    waits = λ x there. t.waits x (ap Some (sym pumps.1) ∙ there);
    slow = λ is. (t.waits outbox refl).over full;
  }
  pump_takes false bytes end_now outbox outbox_now link link_now full pumps t =
      let has = pumps.0 in
      let w = t.waits outbox refl in
      let sent_now : List ℕ = t.sent ++ take has.count outbox.waiting in
      let parts : t.sent ++ outbox.waiting ≡ sent_now ++ outbox_now.waiting =
      ap (λ (bs : List ℕ). t.sent ++ bs) (sym (take-append-drop has.count outbox.waiting)) ∙ sym (append_assoc t.sent (take has.count outbox.waiting) (drop has.count outbox.waiting))
      ∙ ap (λ (bs : List ℕ). sent_now ++ bs) (sym has.left) in
      let all : bytes ≡ (sent_now ++ outbox_now.waiting) ++ w.left = w.all ∙ ap (λ (bs : List ℕ). bs ++ w.left) parts in
      let same_full : outbox_now.full ≡ outbox.full = ap (λ (x : Outbox). x.full) pumps.1 in record {
        sent = sent_now;
        told = λ tells. grown_so link.taken link_now.taken t.sent (take has.count outbox.waiting) has.taken (t.told tells);
        rest = outbox_now.waiting ++ w.left;
        front = all ∙ append_assoc sent_now outbox_now.waiting w.left;
        waits = λ x there.
            let same : outbox_now ≡ x = cc there in
            subst (λ (z : Outbox). Waits bytes sent_now z) same (record { left = w.left; all = all; every = λ none. w.every (sym same_full ∙ none); over = λ is. w.over (sym same_full ∙ is) });
        slow = λ is. absurd (subst (λ (e : Option ChannelEnd). EndsSending e outbox_now.waiting link link_now) is has.ends);
      }

  -- where nothing waits, all was taken
  pub emptied_took : (bytes : List ℕ) (link : LinkTold) (end : Option ChannelEnd) (o : Option Outbox) → o ≡ Some empty → Takes bytes link end o → Tells → link.taken ≡ Some bytes
  emptied_took bytes link end o none t = λ tells.
      let waits : Waits bytes t.sent empty = t.waits empty none in
      let whole : bytes ≡ t.sent = waits.all ∙ ap (λ (l : List ℕ). (t.sent ++ []) ++ l) (waits.every refl) ∙ append-nil (t.sent ++ []) ∙ append-nil t.sent in
      t.told tells ∙ ap Some (sym whole)
