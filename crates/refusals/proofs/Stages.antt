-- What a call leaves of the stage and posts: by judging, by what follows from a message, by taking up a view. Assumes
-- nothing.
use Rattle.std.proofs.Common.{◌≡◌, ℕ, Bool, if◌then◌else◌, ◌⊎◌, ◌↔◌, Some, None, Ok, Err, Option, Result, sym, refl, ap, inl, inr}
use Rattle.std.proofs.lemmas.Bool.{cond_both}
use Rattle.std.proofs.lemmas.Option.{none-some, same_Some}
use Rattle.quorum.specs.Below.{within}
use Rattle.quorum.specs.Members.{has}
use Rattle.quorum.specs.declared.fault.Fault.{Fault}
use Rattle.quorum.specs.declared.fault.Reason.{Reason}
use Rattle.rounds.specs.declared.outcome.Outcome.{Outcome}
use Rattle.stores.specs.declared.page.Mode.{Mode}
use Rattle.stores.specs.declared.page.Mode.TheVariants.{Waiting, Joining, Normal, Reconfiguration}
use Rattle.stores.specs.declared.page.Page.{Page}
use Rattle.stores.specs.declared.view.Head.{Head}
use Rattle.stores.specs.declared.view.Number.{Number}
use Rattle.stores.specs.declared.view.Recorded.{Recorded as RecordedView}
use Rattle.stores.specs.declared.view.View.{View}
use Rattle.rows.specs.Recorders.{no_recorders, recorders_with}
use Rattle.rows.specs.declared.message.Message.{Message}
use Rattle.rows.specs.declared.message.Part.TheVariants.{Member, Newcomer}
use Rattle.rows.specs.declared.message.Posts.{Posts}
use Rattle.rows.specs.declared.message.Posts.TheVariants.{Nothing}
use Rattle.rows.specs.declared.row.Applied.{Applied}
use Rattle.rows.specs.declared.row.Gathered.{Gathered}
use Rattle.rows.specs.declared.row.Reference.{Reference}
use Rattle.rows.specs.declared.row.Row.{Row}
use Rattle.rows.specs.declared.row.Stage.{Stage}
use Rattle.rows.specs.declared.row.Stage.TheVariants.{Idle, Gathering, Confirming, Applying, Entering, Round}
use Rattle.manager.proofs.Accepted.{Delivered, arrived}
use Rattle.manager.proofs.Posted.{carried_posts}
use Rattle.manager.specs.Calls.{report_message, beginning, topped, thinned, gathering_row, state_message, abort_message, join_message, applying_row, member_takes_up, normal_takes_up, mode_takes_up, taking_up, following, delivery_refusal, heard_or_not, delivered_to, delivered}
use Rattle.manager.specs.Effects.{Effect, effect, ending, in_mode, in_stage, raised, component_page, component_row, spare_page, spare_row, installing, settling, carried_out, next_of, next_component, member_entry, numbered_entry, newcomer_entry, stage_entry, entry_of, posts_of, judged_again, judged_by, judged}
use Rattle.manager.specs.Hearing.{Turn, hears_stage, hears}
use Rattle.manager.specs.Verdicts.{verdict_of}
use Rattle.manager.specs.declared.hearing.Hearing.{Hearing}
use Rattle.manager.specs.declared.hearing.Hearing.TheVariants.{Heard, Answered, Outdone, Aborted}
use Rattle.manager.specs.declared.need.Need.{Need}
use Rattle.manager.specs.declared.verdict.Verdict.{Verdict}
use Rattle.manager.specs.declared.verdict.Verdict.TheVariants.{Stays, Records, Installs, Reconfigures, Closes, Forgets, Ends}
use Rattle.refusals.specs.Heard.{kind_of}
use Rattle.refusals.specs.Heard.Kind.{recorded}
use Rattle.refusals.specs.Once.{IsPosted}

-- ---- stages
-- a fact of stages that idle has, and that recording hands on
pub record Kept (Q : Stage → Type 0) : Type 0 where
  pub idle : Q Idle
  pub member : (r : ℕ) (h : Head) (g : Gathered) → Q (Gathering h g) →
      Q (Confirming h (record { recorders = recorders_with g.recorders r Member; answered = g.answered }))
  pub newcomer : (r : ℕ) (h : Head) (a : Applied) (x : Reference) → Q (Applying h a) →
      Q (Entering h (record { reference = x; recorders = recorders_with no_recorders r Newcomer }))

module _ (Q : Stage → Type 0) (k : Kept Q) where
  installing_stage : (p : Page) (w : Row) (posts : Posts) (o : Option RecordedView) →
      Q (installing p w posts o).row.stage
  installing_stage p w posts None = k.idle
  installing_stage p w posts (Some s) = k.idle

  settling_stage : (r : ℕ) (p : Page) (w : Row) (posts : Posts) (o : Outcome) (v : Option View) →
      Q (settling r p w posts o v).row.stage
  settling_stage r p w posts o None = k.idle
  settling_stage r p w posts o (Some v) =
      cond_both (has v.set.0 r)
      (ending (component_page p (Some (raised p.mark v.number.0)) v) (component_row w v) posts o (Some v))
      (ending (spare_page p) (spare_row w) posts o (Some v)) (λ (e : Effect). Q e.row.stage) (λ _. k.idle)
      (λ _. k.idle)

  pub carried_stage : (r : ℕ) (p : Page) (w : Row) (posts : Posts) (v : Verdict) → Q w.stage →
      Q (carried_out r p w posts v).row.stage
  carried_stage r p w posts Stays i = i
  carried_stage r p w posts Records i = i
  carried_stage r p w posts Installs i = installing_stage p w posts p.recorded
  carried_stage r p w posts Reconfigures i = k.idle
  carried_stage r p w posts Closes i = k.idle
  carried_stage r p w posts Forgets i = k.idle
  carried_stage r p w posts (Ends o v) i = settling_stage r p w posts o v

  member_stage : (r : ℕ) (p : Page) (w : Row) (h : Head) (g : Gathered) (o : Option Number) → Q w.stage →
      Q (Gathering h g) → Q (member_entry r p w h g o).row.stage
  member_stage r p w h g None i j = i
  member_stage r p w h g (Some n) i j = k.member r h g j

  numbered_stage : (r : ℕ) (p : Page) (w : Row) (h : Head) (a : Applied) (x : Reference) (o : Option Number) →
      Q w.stage → Q (Applying h a) → Q (numbered_entry r p w h x o).row.stage
  numbered_stage r p w h a x None i j = i
  numbered_stage r p w h a x (Some n) i j = k.newcomer r h a x j

  newcomer_stage : (r : ℕ) (p : Page) (w : Row) (h : Head) (a : Applied) (o : Option Reference) → Q w.stage →
      Q (Applying h a) → Q (newcomer_entry r p w h o).row.stage
  newcomer_stage r p w h a None i j = i
  newcomer_stage r p w h a (Some x) i j = numbered_stage r p w h a x (next_of x.component.number) i j

  entry_stage : (r : ℕ) (p : Page) (w : Row) (s : Stage) → Q w.stage → Q s → Q (stage_entry r p w s).row.stage
  entry_stage r p w Idle i j = i
  entry_stage r p w (Gathering h g) i j = member_stage r p w h g (next_component p.component) i j
  entry_stage r p w (Confirming h g) i j = i
  entry_stage r p w (Applying h a) i j = newcomer_stage r p w h a a.reference i j
  entry_stage r p w (Entering h e) i j = i
  entry_stage r p w (Round h rs) i j = i

  module _ (f : ℕ → ℕ → Bool) (need : Need) (r : ℕ) where
    pub again_stage : (p : Page) (w : Row) (m : Option Message) → Q w.stage →
        Q (judged_again f need r m (entry_of r p w)).row.stage
    unfolding entry_of
    again_stage p w m i =
        let e = stage_entry r p w w.stage in
        carried_stage r e.page e.row (posts_of m e.message) (verdict_of f need r e.page e.row)
        (entry_stage r p w w.stage i i)

    by_stage : (p : Page) (w : Row) (m : Option Message) (v : Verdict) → Q w.stage →
        Q (judged_by f need r p w m v).row.stage
    by_stage p w m Stays i = i
    by_stage p w m Records i = again_stage p w m i
    by_stage p w m Installs i = carried_stage r p w (posts_of m None) Installs i
    by_stage p w m Reconfigures i = k.idle
    by_stage p w m Closes i = k.idle
    by_stage p w m Forgets i = k.idle
    by_stage p w m (Ends o v) i = carried_stage r p w (posts_of m None) (Ends o v) i

    pub judged_stage : (p : Page) (w : Row) (m : Option Message) → Q w.stage → Q (judged f need r p w m).row.stage
    judged_stage p w m i = by_stage p w m (verdict_of f need r p w) i

    pub following_stage : (p : Page) (w : Row) (h : Head) (x : Hearing) → Q w.stage →
        Q (following f need r p w h x).row.stage
    following_stage p w h Heard i = judged_stage p w None i
    following_stage p w h Answered i = judged_stage p w (Some (report_message r h p)) i
    following_stage p w h Outdone i = k.idle
    following_stage p w h Aborted i = k.idle

-- ---- what is posted
-- these messages, where m is posted first: after it at most a Recorded
pub record Adds (m : Option Message) (posts : Posts) : Type 0 where
  pub second : Option Message
  pub is : posts ≡ posts_of m second
  pub recorded_only : (x : Message) → second ≡ Some x → kind_of x.body ≡ recorded

pub posted_of : (m n : Option Message) (x : Message) → IsPosted x (posts_of m n) ↔ ((m ≡ Some x) ⊎ (n ≡ Some x))
posted_of None None x = (λ h. absurd h, λ h. absurd (neither h))
  where
    neither : (None ≡ Some x) ⊎ (None ≡ Some x) → ⊥
    neither (inl e) = none-some x e
    neither (inr e) = none-some x e
posted_of None (Some n) x = (λ h. inr (ap Some (sym h)), λ h. second h)
  where
    second : (None ≡ Some x) ⊎ (Some n ≡ Some x) → x ≡ n
    second (inl e) = absurd (none-some x e)
    second (inr e) = sym (same_Some n x e)
posted_of (Some m) None x = (λ h. inl (ap Some (sym h)), λ h. first h)
  where
    first : (Some m ≡ Some x) ⊎ (None ≡ Some x) → x ≡ m
    first (inl e) = sym (same_Some m x e)
    first (inr e) = absurd (none-some x e)
posted_of (Some m) (Some n) x = (there, back)
  where
    there : (x ≡ m) ⊎ (x ≡ n) → (Some m ≡ Some x) ⊎ (Some n ≡ Some x)
    there (inl e) = inl (ap Some (sym e))
    there (inr e) = inr (ap Some (sym e))

    back : (Some m ≡ Some x) ⊎ (Some n ≡ Some x) → (x ≡ m) ⊎ (x ≡ n)
    back (inl e) = inl (sym (same_Some m x e))
    back (inr e) = inr (sym (same_Some n x e))

module _ (r : ℕ) (p : Page) (w : Row) (x : Message) where
  member_message : (h : Head) (g : Gathered) (o : Option Number) → (member_entry r p w h g o).message ≡ Some x →
      kind_of x.body ≡ recorded
  member_message h g None e = absurd (none-some x e)
  member_message h g (Some n) e = ap (λ (y : Message). kind_of y.body) (sym (same_Some _ x e))

  numbered_message : (h : Head) (y : Reference) (o : Option Number) → (numbered_entry r p w h y o).message ≡ Some x →
      kind_of x.body ≡ recorded
  numbered_message h y None e = absurd (none-some x e)
  numbered_message h y (Some n) e = ap (λ (z : Message). kind_of z.body) (sym (same_Some _ x e))

  newcomer_message : (h : Head) (o : Option Reference) → (newcomer_entry r p w h o).message ≡ Some x →
      kind_of x.body ≡ recorded
  newcomer_message h None e = absurd (none-some x e)
  newcomer_message h (Some y) e = numbered_message h y (next_of y.component.number) e

  entry_message : (s : Stage) → (stage_entry r p w s).message ≡ Some x → kind_of x.body ≡ recorded
  entry_message Idle e = absurd (none-some x e)
  entry_message (Gathering h g) e = member_message h g (next_component p.component) e
  entry_message (Confirming h g) e = absurd (none-some x e)
  entry_message (Applying h a) e = newcomer_message h a.reference e
  entry_message (Entering h y) e = absurd (none-some x e)
  entry_message (Round h rs) e = absurd (none-some x e)

module _ (f : ℕ → ℕ → Bool) (need : Need) (r : ℕ) where
  pub again_adds : (p : Page) (w : Row) (m : Option Message) → Adds m
      (judged_again f need r m (entry_of r p w)).answer.posts
  unfolding entry_of
  again_adds p w m =
      let e = stage_entry r p w w.stage in
      record {
        second = e.message;
        is = carried_posts r e.page e.row (posts_of m e.message) (verdict_of f need r e.page e.row);
        recorded_only = λ x i. entry_message r p w x w.stage i;
      }

  pub carried_adds : (p : Page) (w : Row) (m : Option Message) (v : Verdict) →
      Adds m (carried_out r p w (posts_of m None) v).answer.posts
  carried_adds p w m v = record {
    second =
        None;
    is = carried_posts r p w (posts_of m None) v;
    recorded_only = λ x i. absurd (none-some x i);
  }

  by_adds : (p : Page) (w : Row) (m : Option Message) (v : Verdict) → Adds m (judged_by f need r p w m v).answer.posts
  by_adds p w m Stays = carried_adds p w m Stays
  by_adds p w m Records = again_adds p w m
  by_adds p w m Installs = carried_adds p w m Installs
  by_adds p w m Reconfigures = carried_adds p w m Reconfigures
  by_adds p w m Closes = carried_adds p w m Closes
  by_adds p w m Forgets = carried_adds p w m Forgets
  by_adds p w m (Ends o v) = carried_adds p w m (Ends o v)

  pub judged_adds : (p : Page) (w : Row) (m : Option Message) → Adds m (judged f need r p w m).answer.posts
  judged_adds p w m = by_adds p w m (verdict_of f need r p w)

-- ---- a view is taken up: all that it may come to
module _ (f : ℕ → ℕ → Bool) (need : Need) (r : ℕ) (h : Head) (P : Effect → Type 0) where
  pub record Begun (p : Page) (w : Row) : Type 0 where
    pub waits : P (judged f need r p (applying_row w h) (Some (join_message r h)))
    pub stays : P (effect p w Nothing)
    pub records : (x : Row) → P (judged_again f need r None (entry_of r p (gathering_row r x h)))
    pub gathers : (x : Row) (c : View) → P
        (judged f need r p (gathering_row r x h) (Some (state_message r h c x.survivors)))
    pub rounds : (q : Page) (x : Row) (first : Option Message) → P (beginning f need r q x h first)

  member_begins : (p : Page) (w : Row) (x : Row) (c : View) → Begun p w → P (member_takes_up f need r p x h c)
  member_begins p w x c b =
      let aborted = beginning f need r (in_mode Reconfiguration p) x h (Some (abort_message r h)) in
      let recording = judged_again f need r None (entry_of r p (gathering_row r x h)) in
      let gathering = judged f need r p (gathering_row r x h) (Some (state_message r h c x.survivors)) in
      cond_both (f x.survivors.0 c.set.0) (if within h.set.0 x.survivors.0 then recording else gathering) aborted P
      (λ _. cond_both (within h.set.0 x.survivors.0) recording gathering P (λ _. b.records x) (λ _. b.gathers x c))
      (λ _. b.rounds (in_mode Reconfiguration p) x (Some (abort_message r h)))

  normal_begins : (p : Page) (w : Row) (o : Option View) → Begun p w → P (normal_takes_up f need r p w h o)
  normal_begins p w None b = b.stays
  normal_begins p w (Some c) b = member_begins p w (thinned w h) c b

  mode_begins : (p : Page) (w : Row) (m : Mode) → Begun p w → P (mode_takes_up f need r p w h m)
  mode_begins p w Waiting b = b.waits
  mode_begins p w Joining b = b.stays
  mode_begins p w Normal b = normal_begins p w p.component b
  mode_begins p w Reconfiguration b = b.rounds p w None

  pub begins : (p : Page) (w : Row) → Begun (topped p h) w → P (taking_up f need r p w h)
  begins p w b = mode_begins (topped p h) w p.mode b

-- ---- a message is delivered: its turn, and what follows
pub record Told (f : ℕ → ℕ → Bool) (need : Need) (r : ℕ) (p : Page) (w : Row) (m : Message)
    (e : Effect) : Type 0 where
  pub found : Delivered r p w m
  pub turn : Turn Stage
  pub heard : hears_stage p w.survivors m.sender m.body w.stage ≡ Ok turn
  pub follows : following f need r p (in_stage turn.left w) m.head turn.hearing ≡ e

module _ (f : ℕ → ℕ → Bool) (need : Need) (r : ℕ) (p : Page) (w : Row) (m : Message) (e : Effect) where
  turn_told : (x : Result (Turn Stage) Reason) → hears_stage p w.survivors m.sender m.body w.stage ≡ x →
      Delivered r p w m → heard_or_not f need r p w m.head x ≡ Ok e → Told f need r p w m e
  turn_told (Err reason) i d k = absurd cc
  turn_told (Ok t) i d k = record { found = d; turn = t; heard = i; follows = cc }

  message_told : (o : Option Fault) → delivery_refusal r p w m ≡ o → delivered_to f need r p w m o ≡ Ok e →
      Told f need r p w m e
  unfolding hears
  message_told (Some fault) i k = absurd cc
  message_told None i k = turn_told (hears_stage p w.survivors m.sender m.body w.stage) refl (arrived r p w m i) k

  pub told : delivered f need r p w m ≡ Ok e → Told f need r p w m e
  unfolding delivered
  told k = message_told (delivery_refusal r p w m) refl k
