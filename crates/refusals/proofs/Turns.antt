-- What each rule of hearing leaves and what follows from it, once for all that is said of turns. Assumes nothing.
use Rattle.std.proofs.Common.{◌≡◌, ℕ, Bool, true, false, if◌then◌else◌, not, ◌&&◌, List, set, is_some, Some, Ok, Option, refl, subst}
use Rattle.quorum.specs.Members.{has}
use Rattle.quorum.specs.declared.set.ReplicaSet.{ReplicaSet}
use Rattle.rounds.specs.Reports.{reported}
use Rattle.rounds.specs.declared.report.Report.{Report}
use Rattle.stores.specs.declared.page.Page.{Page}
use Rattle.stores.specs.declared.view.Head.{Head}
use Rattle.stores.specs.declared.view.Number.{Number}
use Rattle.stores.specs.declared.view.View.{View}
use Rattle.rows.specs.Recorders.{all_recorders}
use Rattle.rows.specs.Rows.{is_reconfiguration}
use Rattle.rows.specs.declared.message.Body.{Body}
use Rattle.rows.specs.declared.message.Body.TheVariants.{State, Abort, Join, Recorded, Report as Reports}
use Rattle.rows.specs.declared.message.Part.{Part}
use Rattle.rows.specs.declared.row.Applied.{Applied}
use Rattle.rows.specs.declared.row.Confirmed.{Confirmed}
use Rattle.rows.specs.declared.row.Entered.{Entered}
use Rattle.rows.specs.declared.row.Gathered.{Gathered}
use Rattle.rows.specs.declared.row.Stage.{Stage}
use Rattle.rows.specs.declared.row.Stage.TheVariants.{Idle, Gathering, Confirming, Applying, Entering, Round}
use Rattle.manager.specs.Hearing.{Turn, heard_if, turned, one_above, as_recorded, as_component, reaches_mark, as_reference, gathered_state, gathered_recorded, gathered_answer, confirmed_recorded, confirmed_answer, applied_state, applied_join, entered_recorded, outdoes, hears_stage}
use Rattle.manager.specs.declared.hearing.Hearing.{Hearing}
use Rattle.manager.specs.declared.hearing.Hearing.TheVariants.{Heard, Answered, Outdone, Aborted}

-- this is left, and that follows
abbrev pub turn : Stage → Hearing → Turn Stage
turn s k = record { left = s; hearing = k }

-- a fact of a stage, of what replica q says in it, and of the turn: what each rule owes for it
module _ (q : ℕ) (P : Stage → Body → Turn Stage → Type 0) where
  pub record Rules : Type 0 where
    pub gathering_state : (h : Head) (g : Gathered) (c : View) (s : ReplicaSet) →
        P (Gathering h g) (State c s) (turn (Gathering h (gathered_state g q)) Heard)
    pub gathering_recorded : (h : Head) (g : Gathered) (n : Number) (part : Part) →
        P (Gathering h g) (Recorded n part) (turn (Gathering h (gathered_recorded g q part)) Heard)
    pub gathering_report : (h : Head) (g : Gathered) (m : Report) → g.answered ≡ false →
        P (Gathering h g) (Reports m) (turn (Gathering h (gathered_answer g)) Answered)
    pub confirming_recorded : (h : Head) (g : Confirmed) (n : Number) (part : Part) →
        P (Confirming h g) (Recorded n part) (turn (Confirming h (confirmed_recorded g q part)) Heard)
    pub confirming_report : (h : Head) (g : Confirmed) (m : Report) → g.answered ≡ false →
        P (Confirming h g) (Reports m) (turn (Confirming h (confirmed_answer g)) Answered)
    pub applying_state : (h : Head) (a : Applied) (c : View) (s : ReplicaSet) →
        P (Applying h a) (State c s) (turn (Applying h (applied_state a q c s)) Heard)
    pub applying_abort : (h : Head) (a : Applied) → P (Applying h a) Abort (turn (Applying h a) Aborted)
    pub applying_join : (h : Head) (a : Applied) → P (Applying h a) Join (turn (Applying h (applied_join a q)) Heard)
    pub entering_recorded : (h : Head) (e : Entered) (n : Number) (part : Part) →
        P (Entering h e) (Recorded n part) (turn (Entering h (entered_recorded e q part)) Heard)
    pub round_report : (h : Head) (rs : List (Option Report)) (m : Report) (k : Hearing) → (k ≡ Answered → ⊥) →
        P (Round h rs) (Reports m) (turn (Round h (set rs q (Some m))) k)

  heard : {A : Type 0} (s : Stage) (b : Body) (stage : A → Stage) (c already : Bool) (x : A) (k : Hearing) →
      (already ≡ false → P s b (turn (stage x) k)) →
      (t : Turn Stage) → turned stage (heard_if c already x k) ≡ Ok t → P s b t
  heard s b stage false already x k given t e = absurd cc
  heard s b stage true true x k given t e = absurd cc
  heard s b stage true false x k given t e = let same : turn (stage x) k ≡ t = cc in subst (P s b) same (given refl)

  outdone_or_heard : (b : Bool) → (if b then Outdone else Heard) ≡ Answered → ⊥
  outdone_or_heard true e = cc
  outdone_or_heard false e = cc

  module _ (p : Page) (survivors : ReplicaSet) (rules : Rules) where
    pub by_rules : (s : Stage) (b : Body) (t : Turn Stage) → hears_stage p survivors q b s ≡ Ok t → P s b t
    by_rules (Gathering h g) (State c s) t e =
        heard (Gathering h g) (State c s) (Gathering h) (has survivors.0 q && as_component p.component c)
        (has g.states.0 q) (gathered_state g q) Heard (λ _. rules.gathering_state h g c s) t e
    by_rules (Gathering h g) (Recorded n part) t e =
        heard (Gathering h g) (Recorded n part) (Gathering h) (one_above p.component n)
        (has (all_recorders g.recorders) q) (gathered_recorded g q part) Heard
        (λ _. rules.gathering_recorded h g n part) t e
    by_rules (Gathering h g) (Reports m) t e =
        heard (Gathering h g) (Reports m) (Gathering h) (is_reconfiguration m.mode) g.answered
        (gathered_answer g) Answered (rules.gathering_report h g m) t e
    by_rules (Confirming h g) (Recorded n part) t e =
        heard (Confirming h g) (Recorded n part) (Confirming h) (as_recorded p.recorded n)
        (has (all_recorders g.recorders) q) (confirmed_recorded g q part) Heard
        (λ _. rules.confirming_recorded h g n part) t e
    by_rules (Confirming h g) (Reports m) t e =
        heard (Confirming h g) (Reports m) (Confirming h) (is_reconfiguration m.mode) g.answered
        (confirmed_answer g) Answered (rules.confirming_report h g m) t e
    by_rules (Applying h a) (State c s) t e =
        heard (Applying h a) (State c s) (Applying h) (reaches_mark p.mark c.number && as_reference a.reference c)
        (has a.states.0 q) (applied_state a q c s) Heard (λ _. rules.applying_state h a c s) t e
    by_rules (Applying h a) Abort t e =
        let same : turn (Applying h a) Aborted ≡ t = cc in subst (P (Applying h a) Abort) same
        (rules.applying_abort h a)
    by_rules (Applying h a) Join t e =
        heard (Applying h a) Join (Applying h) (not (is_some a.reference)) (has a.joins.0 q) (applied_join a q) Heard
        (λ _. rules.applying_join h a) t e
    by_rules (Entering h x) (Recorded n part) t e =
        heard (Entering h x) (Recorded n part) (Entering h) (as_recorded p.recorded n)
        (has (all_recorders x.recorders) q) (entered_recorded x q part) Heard
        (λ _. rules.entering_recorded h x n part) t e
    by_rules (Round h rs) (Reports m) t e =
        heard (Round h rs) (Reports m) (Round h) true (is_some (reported rs q)) (set rs q (Some m))
        (if outdoes p m then Outdone else Heard)
        (λ _. rules.round_report h rs m (if outdoes p m then Outdone else Heard) (outdone_or_heard (outdoes p m))) t e
    by_rules Idle b t e = absurd cc
    by_rules (Gathering h g) Abort t e = absurd cc
    by_rules (Gathering h g) Join t e = absurd cc
    by_rules (Confirming h g) (State c s) t e = absurd cc
    by_rules (Confirming h g) Abort t e = absurd cc
    by_rules (Confirming h g) Join t e = absurd cc
    by_rules (Applying h a) (Recorded n part) t e = absurd cc
    by_rules (Applying h a) (Reports m) t e = absurd cc
    by_rules (Entering h x) (State c s) t e = absurd cc
    by_rules (Entering h x) Abort t e = absurd cc
    by_rules (Entering h x) Join t e = absurd cc
    by_rules (Entering h x) (Reports m) t e = absurd cc
    by_rules (Round h rs) (State c s) t e = absurd cc
    by_rules (Round h rs) Abort t e = absurd cc
    by_rules (Round h rs) Join t e = absurd cc
    by_rules (Round h rs) (Recorded n part) t e = absurd cc
