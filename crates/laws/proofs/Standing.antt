-- An accepted call leaves no row that stands to be recorded. Assumes nothing.
use Rattle.std.proofs.Common.{◌≡◌, ℕ, ◌+◌, Bool, true, false, if◌then◌else◌, ◌&&◌, ltb, Some, None, Ok, Err, Option, Result, is_some, sym, refl, ap, ◌∙◌, subst}
use Rattle.std.proofs.lemmas.Bool.{cond_both, cond-true, leb-false, lt-ltb}
use Rattle.quorum.specs.Below.{within}
use Rattle.quorum.specs.Members.{has, size}
use Rattle.quorum.specs.Sets.{either, single}
use Rattle.quorum.proofs.Refused.{ok_inj, err_ok}
use Rattle.quorum.specs.declared.fault.Fault.{Fault}
use Rattle.quorum.specs.declared.fault.Reason.{Reason}
use Rattle.quorum.specs.declared.set.ReplicaSet.{ReplicaSet}
use Rattle.rounds.specs.declared.outcome.Outcome.{Outcome}
use Rattle.rows.specs.Recorders.{no_recorders, recorders_with}
use Rattle.rows.specs.Rows.{is_normal, has_next, reference_keeps, stage_keeps, empty_row}
use Rattle.rows.specs.declared.message.Body.{Body}
use Rattle.rows.specs.declared.message.Message.{Message}
use Rattle.rows.specs.declared.message.Part.TheVariants.{Member, Newcomer}
use Rattle.rows.specs.declared.message.Posts.{Posts}
use Rattle.rows.specs.declared.message.Posts.TheVariants.{Nothing}
use Rattle.rows.specs.declared.row.Applied.{Applied}
use Rattle.rows.specs.declared.row.Gathered.{Gathered}
use Rattle.rows.specs.declared.row.Reference.{Reference}
use Rattle.rows.specs.declared.row.Row.{Row}
use Rattle.rows.specs.declared.row.Stage.{Stage}
use Rattle.rows.specs.declared.row.Stage.TheVariants.{Idle, Gathering, Confirming, Applying, Entering, Round}
use Rattle.stores.specs.declared.page.Mode.{Mode}
use Rattle.stores.specs.declared.page.Mode.TheVariants.{Waiting, Joining, Normal, Reconfiguration}
use Rattle.stores.specs.declared.page.Page.{Page}
use Rattle.stores.specs.declared.view.Head.{Head}
use Rattle.stores.specs.declared.view.Number.{Number}
use Rattle.stores.specs.declared.view.Recorded.{Recorded}
use Rattle.stores.specs.declared.view.View.{View}
use Rattle.manager.specs.Calls.{head_of, at_highest, own_reports, round_row, beginning, topped, thinned, gathering_row, state_message, abort_message, join_message, applying_row, member_takes_up, normal_takes_up, mode_takes_up, taking_up, following, losing, started, view_refusal, delivery_refusal, loss_refusal, call_refusal, start_refusal, report_message, viewed, heard_or_not, delivered_to, delivered, lost_at, stopped_at, started_at}
use Rattle.manager.specs.Effects.{Effect, Entry, effect, ending, in_mode, in_stage, raised, component_page, component_row, spare_page, spare_row, installing, settling, carried_out, next_of, next_component, member_entry, numbered_entry, newcomer_entry, stage_entry, entry_of, posts_of, judged_again, judged_by, judged}
use Rattle.manager.specs.Hearing.{Turn, hears}
use Rattle.manager.specs.Requests.Request.{view, delivery, loss, start, stop}
use Rattle.manager.specs.Verdicts.{need_of, nobody, sources_of, possible_senders, asked, need_met, stage_verdict, verdict_of}
use Rattle.manager.specs.declared.hearing.Hearing.{Hearing}
use Rattle.manager.specs.declared.hearing.Hearing.TheVariants.{Heard, Answered, Outdone, Aborted}
use Rattle.manager.specs.declared.need.Need.{Need}
use Rattle.manager.specs.declared.verdict.Verdict.{Verdict}
use Rattle.manager.specs.declared.verdict.Verdict.TheVariants.{Stays, Records, Installs, Reconfigures, Closes, Forgets, Ends}
use Rattle.laws.specs.Known.{known_in, telling}
use Rattle.laws.specs.Standing.{StandsToBeRecorded, LeavesNoneStanding, NoneLeftStanding}
use Rattle.manager.proofs.Accepted.{accepted, announced, arrived, missed}
use Rattle.laws.proofs.Going.{under_same}
use Rattle.laws.proofs.Hearing.{HeardKeeps, heard_keeps}
use Rattle.laws.proofs.Losses.{confirming_never, entering_never, round_never}
use Rattle.rows.proofs.Facts.{row_parts, gathering_from, applying_from}
use Rattle.stores.proofs.Kept.{tests_of}

module _ (f : ℕ → ℕ → Bool) (need : Need) (r : ℕ) where
  -- what a call leaves does not stand to be recorded
  abbrev Unrecorded : Effect → Type 0
  Unrecorded e = StandsToBeRecorded f need r e.page e.row → ⊥

  -- ---- a row without a head
  idle_never : (p : Page) (w : Row) (s : Stage) → w.stage ≡ s → is_some (head_of s) ≡ false →
      StandsToBeRecorded f need r p w → ⊥
  unfolding verdict_of
  idle_never p w Idle e n i = let z = sym (ap (stage_verdict f need r p w.survivors.0 w.lost.0) e) ∙ i in cc
  idle_never p w (Gathering h g) e n i = cc
  idle_never p w (Confirming h g) e n i = cc
  idle_never p w (Applying h a) e n i = cc
  idle_never p w (Entering h g) e n i = cc
  idle_never p w (Round h rs) e n i = cc

  pub idle_unrecorded : (p : Page) (w : Row) → w.stage ≡ Idle → StandsToBeRecorded f need r p w → ⊥
  idle_unrecorded p w e = idle_never p w Idle e refl

  -- ---- a verdict that is no recording, carried out
  installing_unrecorded : (p : Page) (w : Row) (posts : Posts) (o : Option Recorded) →
      Unrecorded (installing p w posts o)
  installing_unrecorded p w posts None = idle_unrecorded p _ refl
  installing_unrecorded p w posts (Some s) =
      idle_unrecorded (component_page p p.mark s.view) (component_row w s.view) refl

  settling_unrecorded : (p : Page) (w : Row) (posts : Posts) (o : Outcome) (v : Option View) →
      Unrecorded (settling r p w posts o v)
  settling_unrecorded p w posts o None = idle_unrecorded p _ refl
  settling_unrecorded p w posts o (Some v) =
      let settled = component_page p (Some (raised p.mark v.number.0)) v in
      cond_both (has v.set.0 r) (ending settled (component_row w v) posts o (Some v))
      (ending (spare_page p) (spare_row w) posts o (Some v)) Unrecorded
      (λ _. idle_unrecorded settled (component_row w v) refl) (λ _. idle_unrecorded (spare_page p) (spare_row w) refl)

  carried_unrecorded : (p : Page) (w : Row) (posts : Posts) (v : Verdict) → verdict_of f need r p w ≡ v →
      (v ≡ Records → ⊥) → Unrecorded (carried_out r p w posts v)
  carried_unrecorded p w posts Stays e n = λ i. n (sym e ∙ i)
  carried_unrecorded p w posts Records e n = absurd (n refl)
  carried_unrecorded p w posts Installs e n = installing_unrecorded p w posts p.recorded
  carried_unrecorded p w posts Reconfigures e n = idle_unrecorded _ _ refl
  carried_unrecorded p w posts Closes e n = idle_unrecorded p _ refl
  carried_unrecorded p w posts Forgets e n = idle_unrecorded _ _ refl
  carried_unrecorded p w posts (Ends o v) e n = settling_unrecorded p w posts o v

  -- ---- a recording leaves the row confirming or entering, and neither is recorded again
  abbrev EntryUnrecorded : Entry → Type 0
  EntryUnrecorded e = StandsToBeRecorded f need r e.page e.row → ⊥

  member_numbered : (p : Page) (w : Row) (h : Head) (g : Gathered) (n : Number) →
      EntryUnrecorded (member_entry r p w h g (Some n))
  unfolding verdict_of
  member_numbered p w h g n i =
      confirming_never f w.survivors.0 w.lost.0
      (record { recorders = recorders_with g.recorders r Member; answered = g.answered }) p.component i

  newcomer_numbered : (p : Page) (w : Row) (h : Head) (x : Reference) (n : Number) →
      EntryUnrecorded (numbered_entry r p w h x (Some n))
  unfolding verdict_of
  newcomer_numbered p w h x n i =
      entering_never f w.lost.0 h (record { reference = x; recorders = recorders_with no_recorders r Newcomer }) i

  next_there : (n : Number) → ltb n.0 1000000000 ≡ true → next_of n ≡ Some (record { 0 = n.0 + 1 })
  next_there n l = cond-true (ltb n.0 1000000000) (Some (record { 0 = n.0 + 1 })) None l

  member_entered : (p : Page) (w : Row) (h : Head) (g : Gathered) (o : Option View) → has_next o ≡ true →
      EntryUnrecorded (member_entry r p w h g (next_component o))
  member_entered p w h g None k = absurd cc
  member_entered p w h g (Some c) k =
      subst (λ n. EntryUnrecorded (member_entry r p w h g n)) (sym (next_there c.number k))
      (member_numbered p w h g (record { 0 = c.number.0 + 1 }))

  unmet : (a b : Bool) → (if a then Closes else if b then Closes else Stays) ≡ Records → ⊥
  unmet true b i = cc
  unmet false true i = cc
  unmet false false i = cc

  newcomer_entered : (p : Page) (w : Row) (h : Head) (a : Applied) (b c : Bool) (o : Option Reference) →
      reference_keeps o ≡ true →
      (if need_met need a o then Records else if b then Closes else if c then Closes else Stays) ≡ Records →
      EntryUnrecorded (newcomer_entry r p w h o)
  newcomer_entered p w h a b c None k i = absurd (unmet b c i)
  newcomer_entered p w h a b c (Some x) k i =
      subst (λ n. EntryUnrecorded (numbered_entry r p w h x n)) (sym (next_there x.component.number k))
      (newcomer_numbered p w h x (record { 0 = x.component.number.0 + 1 }))

  -- ---- a head judged
  -- what is recorded has a number after it
  abbrev HasNumber : Page → Stage → Type 0
  HasNumber p Idle = Unit {0}
  HasNumber p (Gathering h g) = has_next p.component ≡ true
  HasNumber p (Confirming h g) = Unit {0}
  HasNumber p (Applying h a) = reference_keeps a.reference ≡ true
  HasNumber p (Entering h e) = Unit {0}
  HasNumber p (Round h rs) = Unit {0}

  numbered : (p : Page) (up : Bool) (lost : ReplicaSet) (s : Stage) → stage_keeps r p up lost s ≡ true → HasNumber p s
  numbered p up lost Idle k = tt
  numbered p up lost (Gathering h g) k = (gathering_from r p h g k).next
  numbered p up lost (Confirming h g) k = tt
  numbered p up lost (Applying h a) k = (applying_from r p h a k).reference
  numbered p up lost (Entering h e) k = tt
  numbered p up lost (Round h rs) k = tt

  stage_entered : (p : Page) (w : Row) (survivors lost : ℕ) (s : Stage) → HasNumber p s →
      stage_verdict f need r p survivors lost s ≡ Records → EntryUnrecorded (stage_entry r p w s)
  stage_entered p w survivors lost Idle k i = absurd cc
  stage_entered p w survivors lost (Gathering h g) k i = member_entered p w h g p.component k
  stage_entered p w survivors lost (Confirming h g) k i = absurd (confirming_never f survivors lost g p.component i)
  stage_entered p w survivors lost (Applying h a) k i =
      newcomer_entered p w h a (nobody (sources_of r h a))
      (ltb (size (either a.states.0 (possible_senders r lost h a a.reference))) (need_of need (asked r h a a.reference)))
      a.reference k i
  stage_entered p w survivors lost (Entering h e) k i = absurd (entering_never f lost h e i)
  stage_entered p w survivors lost (Round h rs) k i = absurd (round_never f lost h rs i)

  row_entered : (p : Page) (w : Row) → HasNumber p w.stage → StandsToBeRecorded f need r p w → EntryUnrecorded (entry_of r p w)
  unfolding verdict_of entry_of
  row_entered p w k i = stage_entered p w w.survivors.0 w.lost.0 w.stage k i

  again_unrecorded : (m : Option Message) (e : Entry) → EntryUnrecorded e → Unrecorded (judged_again f need r m e)
  again_unrecorded m e n =
      carried_unrecorded e.page e.row (posts_of m e.message) (verdict_of f need r e.page e.row) refl n

  by_verdict : (p : Page) (w : Row) (m : Option Message) → HasNumber p w.stage → (v : Verdict) →
      verdict_of f need r p w ≡ v → Unrecorded (judged_by f need r p w m v)
  by_verdict p w m k Stays e = carried_unrecorded p w (posts_of m None) Stays e (λ i. cc)
  by_verdict p w m k Records e = again_unrecorded m (entry_of r p w) (row_entered p w k e)
  by_verdict p w m k Installs e = carried_unrecorded p w (posts_of m None) Installs e (λ i. cc)
  by_verdict p w m k Reconfigures e = carried_unrecorded p w (posts_of m None) Reconfigures e (λ i. cc)
  by_verdict p w m k Closes e = carried_unrecorded p w (posts_of m None) Closes e (λ i. cc)
  by_verdict p w m k Forgets e = carried_unrecorded p w (posts_of m None) Forgets e (λ i. cc)
  by_verdict p w m k (Ends o v) e = carried_unrecorded p w (posts_of m None) (Ends o v) e (λ i. cc)

  judged_unrecorded : (p : Page) (w : Row) (m : Option Message) → HasNumber p w.stage →
      Unrecorded (judged f need r p w m)
  judged_unrecorded p w m k = by_verdict p w m k (verdict_of f need r p w) refl

  -- ---- a view is taken up
  in_round : (p : Page) (w : Row) (h : Head) → StandsToBeRecorded f need r p (round_row r p w h) → ⊥
  unfolding verdict_of
  in_round p w h i = round_never f w.lost.0 h (own_reports r p) i

  begins : (p : Page) (w : Row) (h : Head) (first : Option Message) → Unrecorded (beginning f need r p w h first)
  begins p w h first =
      carried_unrecorded p (round_row r p w h) (posts_of first (Some (report_message r h p)))
      (verdict_of f need r p (round_row r p w h)) refl (in_round p w h)

  gathering_entered : (p : Page) (w : Row) (h : Head) → has_next p.component ≡ true →
      EntryUnrecorded (entry_of r p (gathering_row r w h))
  unfolding entry_of
  gathering_entered p w h k =
      member_entered p (gathering_row r w h) h
      (record { states = record { 0 = single r }; recorders = no_recorders; answered = false }) p.component k

  member_unrecorded : (p : Page) (w : Row) (h : Head) (c : View) → has_next p.component ≡ true →
      Unrecorded (member_takes_up f need r p w h c)
  member_unrecorded p w h c k =
      let row = gathering_row r w h in
      let alone = judged_again f need r None (entry_of r p row) in
      let gathers = judged f need r p row (Some (state_message r h c w.survivors)) in
      let round = beginning f need r (in_mode Reconfiguration p) w h (Some (abort_message r h)) in
      cond_both (f w.survivors.0 c.set.0) (if within h.set.0 w.survivors.0 then alone else gathers) round Unrecorded
      (λ _. cond_both (within h.set.0 w.survivors.0) alone gathers Unrecorded
      (λ _. again_unrecorded None (entry_of r p row) (gathering_entered p w h k))
      (λ _. judged_unrecorded p row (Some (state_message r h c w.survivors)) k))
      (λ _. begins (in_mode Reconfiguration p) w h (Some (abort_message r h)))

  below_highest : (c : View) → at_highest (Some c) ≡ false → has_next (Some c) ≡ true
  below_highest c e = lt-ltb c.number.0 1000000000 (leb-false 1000000000 c.number.0 e)

  normal_unrecorded : (p : Page) (w : Row) (h : Head) (o : Option View) → at_highest o ≡ false →
      (topped p h).component ≡ o → is_some (head_of w.stage) ≡ false →
      Unrecorded (normal_takes_up f need r (topped p h) w h o)
  normal_unrecorded p w h None l e n = idle_never (topped p h) w w.stage refl n
  normal_unrecorded p w h (Some c) l e n =
      member_unrecorded (topped p h) (thinned w h) h c
      (subst (λ o. has_next o ≡ true) (sym e) (below_highest c l))

  mode_unrecorded : (p : Page) (w : Row) (h : Head) (m : Mode) → (is_normal m && at_highest p.component) ≡ false →
      is_some (head_of w.stage) ≡ false → Unrecorded (mode_takes_up f need r (topped p h) w h m)
  mode_unrecorded p w h Waiting l n = judged_unrecorded (topped p h) (applying_row w h) (Some (join_message r h)) refl
  mode_unrecorded p w h Joining l n = idle_never (topped p h) w w.stage refl n
  mode_unrecorded p w h Normal l n = normal_unrecorded p w h p.component l refl n
  mode_unrecorded p w h Reconfiguration l n = begins (topped p h) w h None

  pub viewed_unrecorded : (p : Page) (w : Row) (h : Head) → LeavesNoneStanding f need r (viewed f need r p w h)
  unfolding viewed
  viewed_unrecorded p w h e d =
      let a = accepted (view_refusal r p w h) (taking_up f need r p w h) e d in
      let o = announced r p w h a.0 in
      subst Unrecorded a.1 (mode_unrecorded p w h p.mode o.room o.idle)

  -- ---- a message is delivered
  follows_unrecorded : (p : Page) (w : Row) (h : Head) → HasNumber p w.stage → (k : Hearing) →
      Unrecorded (following f need r p w h k)
  follows_unrecorded p w h n Heard = judged_unrecorded p w None n
  follows_unrecorded p w h n Answered = judged_unrecorded p w (Some (report_message r h p)) n
  follows_unrecorded p w h n Outdone = idle_unrecorded (spare_page p) (spare_row w) refl
  follows_unrecorded p w h n Aborted = idle_unrecorded p _ refl

  -- the stage that is left keeps the rules
  abbrev StageKept : Page → Row → Result (Turn Stage) Reason → Type 0
  StageKept p w (Err reason) = Unit {0}
  StageKept p w (Ok t) = stage_keeps r p w.up w.lost t.left ≡ true

  kept_stage : (p : Page) (w : Row) (q : ℕ) (b : Body) (x : Result (Turn Stage) Reason) →
      HeardKeeps r p (head_of w.stage) w.up w.lost (telling (known_in w) q b) b w.stage x → StageKept p w x
  kept_stage p w q b (Err reason) k = tt
  kept_stage p w q b (Ok t) k = k.stage

  heard_unrecorded : (p : Page) (w : Row) (h : Head) (x : Result (Turn Stage) Reason) →
      StageKept p w x → LeavesNoneStanding f need r (heard_or_not f need r p w h x)
  heard_unrecorded p w h (Err reason) k e d = absurd (err_ok d)
  heard_unrecorded p w h (Ok t) k e d =
      subst Unrecorded (ok_inj d)
      (follows_unrecorded p (in_stage t.left w) h (numbered p w.up w.lost t.left k) t.hearing)

  delivered_so : (p : Page) (w : Row) (m : Message) (o : Option Fault) → delivery_refusal r p w m ≡ o →
      LeavesNoneStanding f need r (delivered_to f need r p w m o)
  delivered_so p w m (Some fault) i e d = absurd (err_ok d)
  delivered_so p w m None i e d =
      let a = arrived r p w m i in
      heard_unrecorded p w m.head (hears p w m.sender m.body)
      (kept_stage p w m.sender m.body (hears p w m.sender m.body)
      (heard_keeps r p w m.sender m.body (tests_of r p a.offer.page) (row_parts r p w a.offer.row).1 (under_same m (head_of w.stage) a.message a.head))) e d

  pub delivered_unrecorded : (p : Page) (w : Row) (m : Message) → LeavesNoneStanding f need r (delivered f need r p w m)
  unfolding delivered
  delivered_unrecorded p w m = delivered_so p w m (delivery_refusal r p w m) refl

  -- ---- a loss, a stop and a start
  pub lost_unrecorded : (p : Page) (w : Row) (q : ℕ) → LeavesNoneStanding f need r (lost_at f need r p w q)
  unfolding lost_at
  lost_unrecorded p w q e d =
      let a = accepted (loss_refusal r p w q) (judged f need r p (losing w q) None) e d in
      let o = missed r p w q a.0 in
      subst Unrecorded a.1
      (judged_unrecorded p (losing w q) None (numbered p w.up w.lost w.stage (row_parts r p w o.offer.row).1))

  pub stopped_unrecorded : (p : Page) (w : Row) → LeavesNoneStanding f need r (stopped_at r p w)
  unfolding stopped_at
  stopped_unrecorded p w e d =
      let a = accepted (call_refusal r p w) (effect p (empty_row false) Nothing) e d in
      subst Unrecorded a.1 (idle_unrecorded p (empty_row false) refl)

  pub started_unrecorded : (p : Page) (w : Row) → LeavesNoneStanding f need r (started_at r p w)
  unfolding started_at
  started_unrecorded p w e d =
      let page = in_mode (started p.mode) p in
      let a = accepted (start_refusal r p w) (effect page (empty_row true) Nothing) e d in
      subst Unrecorded a.1 (idle_unrecorded page (empty_row true) refl)

-- every request of a manager
pub none_left_standing : NoneLeftStanding
none_left_standing f need r p w (view h) = viewed_unrecorded f need r p w h
none_left_standing f need r p w (delivery m) = delivered_unrecorded f need r p w m
none_left_standing f need r p w (loss q) = lost_unrecorded f need r p w q
none_left_standing f need r p w start = started_unrecorded f need r p w
none_left_standing f need r p w stop = stopped_unrecorded f need r p w
