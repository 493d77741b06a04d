-- Each stage hears what the table says and, of that, nothing that was heard. Assumes nothing.
use Rattle.std.proofs.Common.{◌≡◌, ℕ, ◌+◌, ◌≤◌, Bool, true, false, not, ◌&&◌, ◌||◌, ◌⊎◌, Decides, is_some, Some, None, Ok, Err, Option, Result, sym, refl, ap, subst, inl, inr}
use Rattle.std.proofs.lemmas.Bool.{both_ways, eqb-true, eq-eqb, leb-true, le-leb}
use Rattle.std.proofs.lemmas.Bool.Decides.{Decides-and, Decides-or, Decides-at}
use Rattle.std.proofs.lemmas.Option.{none-some, same_Some}
use Rattle.quorum.proofs.Sets.{has_either}
use Rattle.quorum.specs.Members.{has}
use Rattle.quorum.specs.declared.fault.Reason.{Reason}
use Rattle.quorum.specs.declared.fault.Reason.TheVariants.{NotHeard, HeardAlready}
use Rattle.quorum.specs.declared.set.ReplicaSet.{ReplicaSet}
use Rattle.rounds.specs.Reports.{reported}
use Rattle.rounds.specs.declared.report.Report.{Report}
use Rattle.stores.proofs.Same.{decides_view}
use Rattle.stores.specs.declared.page.Mode.{Mode}
use Rattle.stores.specs.declared.page.Mode.TheVariants.{Waiting, Joining, Normal, Reconfiguration}
use Rattle.stores.specs.declared.page.Page.{Page}
use Rattle.stores.specs.declared.view.Number.{Number}
use Rattle.stores.specs.declared.view.Recorded.{Recorded as RecordedView}
use Rattle.stores.specs.declared.view.View.{View}
use Rattle.rows.specs.Recorders.{all_recorders}
use Rattle.rows.specs.Rows.{is_reconfiguration}
use Rattle.rows.specs.declared.message.Body.{Body}
use Rattle.rows.specs.declared.message.Body.TheVariants.{State, Abort, Join, Recorded, Report as Reports}
use Rattle.rows.specs.declared.row.Recorders.{Recorders}
use Rattle.rows.specs.declared.row.Reference.{Reference}
use Rattle.rows.specs.declared.row.Stage.{Stage}
use Rattle.rows.specs.declared.row.Stage.TheVariants.{Idle, Gathering, Confirming, Applying, Entering, Round}
use Rattle.manager.specs.Hearing.{Turn, heard_if, turned, one_above, as_recorded, as_component, reaches_mark, as_reference, gathered_state, gathered_recorded, gathered_answer, confirmed_recorded, confirmed_answer, applied_state, applied_join, entered_recorded, hears_stage}
use Rattle.manager.specs.declared.hearing.Hearing.{Hearing}
use Rattle.manager.specs.declared.hearing.Hearing.TheVariants.{Heard, Answered}
use Rattle.refusals.specs.Heard.{OneAbove, AsRecorded, ReachesMark, FitsReference, Hears, HasRecorded, WasHeard, kind_of}

-- ---- what the tests say
itself : (b : Bool) → Decides b (b ≡ true)
itself b = (λ e. e, λ e. e)

above : (o : Option View) (n : Number) → Decides (one_above o n) (OneAbove o n)
above None n = (λ e. absurd (both_ways false refl e), λ h. absurd (none-some h.0 h.1))
above (Some c) n = (
  λ e. (c, refl, eqb-true n.0 (c.number.0 + 1) e),
  λ h. eq-eqb n.0 (c.number.0 + 1) (subst (λ (v : View). n.0 ≡ v.number.0 + 1) (same_Some h.0 c (sym h.1)) h.2),
)

like_recorded : (o : Option RecordedView) (n : Number) → Decides (as_recorded o n) (AsRecorded o n)
like_recorded None n = (λ e. absurd (both_ways false refl e), λ h. absurd (none-some h.0 h.1))
like_recorded (Some s) n = (
  λ e. let d = eqb-true n.0 s.view.number.0 e in (s, refl, λ i. record { 0 = d i }),
  λ h. eq-eqb n.0 s.view.number.0
      (ap (λ (x : Number). x.0) (subst (λ (v : RecordedView). n ≡ v.view.number) (same_Some h.0 s (sym h.1)) h.2)),
)

like_component : (o : Option View) (c : View) → Decides (as_component o c) (o ≡ Some c)
like_component None c = (λ e. absurd (both_ways false refl e), λ h. absurd (none-some c h))
like_component (Some v) c = (λ e. ap Some ((decides_view v c).0 e), λ h. (decides_view v c).1 (same_Some v c h))

at_mark : (o : Option Number) (n : Number) → Decides (reaches_mark o n) (ReachesMark o n)
at_mark None n = (λ e m h. absurd (none-some m h), λ h. refl)
at_mark (Some k) n = (
  λ e m h. subst (λ (x : Number). x.0 ≤ n.0 + 1) (same_Some k m h) (leb-true k.0 (n.0 + 1) e),
  λ h. le-leb k.0 (n.0 + 1) (h k refl),
)

fitting : (o : Option Reference) (c : View) → Decides (as_reference o c) (FitsReference o c)
fitting None c = (λ e x h. absurd (none-some x h), λ h. refl)
fitting (Some x) c = (
  λ e y h. subst (λ (z : Reference). c ≡ z.component) (same_Some x y h) (sym ((decides_view x.component c).0 e)),
  λ h. (decides_view x.component c).1 (sym (h x refl)),
)

without_reference : (o : Option Reference) → Decides (not (is_some o)) (o ≡ None)
without_reference None = (λ e. refl, λ h. refl)
without_reference (Some x) = (λ e. absurd (both_ways false refl e), λ h. absurd (none-some x (sym h)))

reconfiguring : (m : Mode) → Decides (is_reconfiguration m) (m ≡ Reconfiguration)
reconfiguring Waiting = (λ e. absurd (both_ways false refl e), λ h. absurd cc)
reconfiguring Joining = (λ e. absurd (both_ways false refl e), λ h. absurd cc)
reconfiguring Normal = (λ e. absurd (both_ways false refl e), λ h. absurd cc)
reconfiguring Reconfiguration = (λ e. refl, λ h. refl)

pub recorders : (x : Recorders) (q : ℕ) → Decides (has (all_recorders x) q) (HasRecorded x q)
recorders x q =
    Decides-at (has (all_recorders x) q) (has x.members.0 q || has x.newcomers.0 q)
    (has_either x.members.0 x.newcomers.0 q)
    (Decides-or (has x.members.0 q) (has x.newcomers.0 q) (itself (has x.members.0 q)) (itself (has x.newcomers.0 q)))

there : (o : Option Report) → Decides (is_some o) ((m : Report) × (o ≡ Some m))
there None = (λ e. absurd (both_ways false refl e), λ h. absurd (none-some h.0 h.1))
there (Some m) = (λ e. (m, refl), λ h. refl)

-- ---- turns
-- not heard, heard already, or heard, by what is heard and what was heard
abbrev pub Turned : {A : Type 0} → Type 0 → Type 0 → Result (Turn A) Reason → Type 0
Turned H W (Ok t) = H × (W → ⊥)
Turned H W (Err e) = ((e ≡ NotHeard) × (H → ⊥)) ⊎ ((e ≡ HeardAlready) × H × W)

heard : {A H W : Type 0} (stage : A → Stage) (a b : Bool) (x : A) (k : Hearing) → Decides a H → Decides b W →
    Turned H W (turned stage (heard_if a b x k))
heard stage false b x k d g = inl (refl, λ h. both_ways false refl (d.1 h))
heard stage true true x k d g = inr (refl, d.0 refl, g.0 refl)
heard stage true false x k d g = (d.0 refl, λ w. both_ways false refl (g.1 w))

-- no rule hears it
unheard : {W : Type 0} → ((NotHeard ≡ NotHeard) × (⊥ → ⊥)) ⊎ ((NotHeard ≡ HeardAlready) × ⊥ × W)
unheard = inl (refl, λ h. h)

module _ (p : Page) (survivors : ReplicaSet) (q : ℕ) where
  pub turns : (s : Stage) (b : Body) → Turned (Hears p survivors s q b) (WasHeard s (kind_of b) q)
      (hears_stage p survivors q b s)
  turns (Gathering h g) (State c s) =
      heard (Gathering h) (has survivors.0 q && as_component p.component c) (has g.states.0 q)
      (gathered_state g q) Heard
      (Decides-and (has survivors.0 q) (as_component p.component c) (itself (has survivors.0 q))
      (like_component p.component c)) (itself (has g.states.0 q))
  turns (Gathering h g) (Recorded n part) =
      heard (Gathering h) (one_above p.component n) (has (all_recorders g.recorders) q)
      (gathered_recorded g q part) Heard (above p.component n) (recorders g.recorders q)
  turns (Gathering h g) (Reports m) =
      heard (Gathering h) (is_reconfiguration m.mode) g.answered (gathered_answer g) Answered (reconfiguring m.mode)
      (itself g.answered)
  turns (Confirming h g) (Recorded n part) =
      heard (Confirming h) (as_recorded p.recorded n) (has (all_recorders g.recorders) q)
      (confirmed_recorded g q part) Heard (like_recorded p.recorded n) (recorders g.recorders q)
  turns (Confirming h g) (Reports m) =
      heard (Confirming h) (is_reconfiguration m.mode) g.answered (confirmed_answer g) Answered (reconfiguring m.mode)
      (itself g.answered)
  turns (Applying h a) (State c s) =
      heard (Applying h) (reaches_mark p.mark c.number && as_reference a.reference c) (has a.states.0 q)
      (applied_state a q c s) Heard
      (Decides-and (reaches_mark p.mark c.number) (as_reference a.reference c) (at_mark p.mark c.number)
      (fitting a.reference c)) (itself (has a.states.0 q))
  turns (Applying h a) Abort = (tt, λ w. w)
  turns (Applying h a) Join =
      heard (Applying h) (not (is_some a.reference)) (has a.joins.0 q) (applied_join a q) Heard
      (without_reference a.reference) (itself (has a.joins.0 q))
  turns (Entering h e) (Recorded n part) =
      heard (Entering h) (as_recorded p.recorded n) (has (all_recorders e.recorders) q)
      (entered_recorded e q part) Heard (like_recorded p.recorded n) (recorders e.recorders q)
  turns (Round h rs) (Reports m) =
      heard (Round h) true (is_some (reported rs q)) _ _ (λ e. tt, λ e. refl) (there (reported rs q))
  turns Idle b = unheard
  turns (Gathering h g) Abort = unheard
  turns (Gathering h g) Join = unheard
  turns (Confirming h g) (State c s) = unheard
  turns (Confirming h g) Abort = unheard
  turns (Confirming h g) Join = unheard
  turns (Applying h a) (Recorded n part) = unheard
  turns (Applying h a) (Reports m) = unheard
  turns (Entering h e) (State c s) = unheard
  turns (Entering h e) Abort = unheard
  turns (Entering h e) Join = unheard
  turns (Entering h e) (Reports m) = unheard
  turns (Round h rs) (State c s) = unheard
  turns (Round h rs) Abort = unheard
  turns (Round h rs) Join = unheard
  turns (Round h rs) (Recorded n part) = unheard
