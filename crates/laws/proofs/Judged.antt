-- Judging a head: what each verdict rests on. Assumes nothing.
use Rattle.std.proofs.Common.{◌≡◌, ℕ, Bool, true, false, if◌then◌else◌, not, ◌||◌, ltb, ◌⊎◌, List, is_some, Some, None, Option, refl, ap, subst, inl, inr}
use Rattle.std.proofs.lemmas.Bool.{ltb-true, ltb-false}
use Rattle.quorum.specs.Below.{within}
use Rattle.quorum.specs.Members.{size}
use Rattle.quorum.specs.Sets.{either, both, less}
use Rattle.quorum.specs.declared.set.ReplicaSet.{ReplicaSet}
use Rattle.rounds.specs.Decision.{decided}
use Rattle.rounds.specs.declared.outcome.Outcome.{Outcome}
use Rattle.rounds.specs.declared.outcome.Outcome.TheVariants.{LostMember}
use Rattle.rounds.specs.declared.report.Report.{Report}
use Rattle.rows.specs.Recorders.{no_recorders}
use Rattle.rows.specs.Rows.{is_joining, under_head, stage_keeps, row_keeps}
use Rattle.rows.specs.declared.row.Applied.{Applied}
use Rattle.rows.specs.declared.row.Confirmed.{Confirmed}
use Rattle.rows.specs.declared.row.Entered.{Entered}
use Rattle.rows.specs.declared.row.Gathered.{Gathered}
use Rattle.rows.specs.declared.row.Recorders.{Recorders}
use Rattle.rows.specs.declared.row.Reference.{Reference}
use Rattle.rows.specs.declared.row.Row.{Row}
use Rattle.rows.specs.declared.row.Stage.{Stage}
use Rattle.rows.specs.declared.row.Stage.TheVariants.{Idle, Gathering, Confirming, Applying, Entering, Round}
use Rattle.stores.specs.Rules.{mode_fits}
use Rattle.stores.specs.declared.page.Mode.{Mode}
use Rattle.stores.specs.declared.page.Mode.TheVariants.{Waiting, Joining, Normal}
use Rattle.stores.specs.declared.page.Page.{Page}
use Rattle.stores.specs.declared.view.Head.{Head}
use Rattle.stores.specs.declared.view.View.{View}
use Rattle.manager.specs.Calls.{head_of}
use Rattle.manager.specs.Verdicts.{need_of, unheard, nobody, gathering_verdict, carrying_verdict, sources_of, possible_senders, asked, need_met, applying_verdict, entering_verdict, heard_of, round_end, round_verdict, with_component, stage_verdict, verdict_of}
use Rattle.manager.specs.declared.need.Need.{Need}
use Rattle.manager.specs.declared.verdict.Verdict.{Verdict}
use Rattle.manager.specs.declared.verdict.Verdict.TheVariants.{Stays, Records, Installs, Reconfigures, Closes, Forgets, Ends}
use Rattle.laws.specs.Grounds.{AllRecorded, NoNewcomers, EnoughStates, applied_of, LostOne, DecidedSo, InstallingGrounds, GivingUp, Leaving, Forgetting, IsRound}
use Rattle.laws.specs.Grounds.GivingUp.{too_few_states, member_uncarriable, newcomer_uncarriable}
use Rattle.laws.specs.Grounds.Leaving.{newcomer_lost, no_sources, too_few_senders}
use Rattle.laws.specs.Known.{Known}
use Rattle.laws.proofs.Pages.{has_view}
use Rattle.rows.proofs.Facts.{row_parts, gathering_from, confirming_from, applying_from, entering_from, round_from, mode_normal, mode_waiting, mode_joining, mode_reconfiguration}
use Rattle.rounds.proofs.Highest.{some_same}
use Rattle.laws.proofs.Settled.{Numbered, end_numbered}
use Rattle.stores.proofs.Kept.{Tests}

-- ---- a row has what is known
-- of a stage, what is read of it
abbrev pub AgreesIn : Known → Stage → Type 0
AgreesIn k Idle = Unit {0}
AgreesIn k (Gathering h g) = (k.states ≡ g.states) × (k.recorders ≡ g.recorders) × (k.recorded ≡ false)
AgreesIn k (Confirming h g) = (k.recorders ≡ g.recorders) × (k.recorded ≡ true)
AgreesIn k (Applying h a) =
    (k.states ≡ a.states) × (k.joins ≡ a.joins) × (k.reference ≡ a.reference) × (k.recorders ≡ no_recorders)
    × (k.recorded ≡ false)
AgreesIn k (Entering h e) = (k.recorders ≡ e.recorders) × (k.reference ≡ Some e.reference) × (k.recorded ≡ true)
AgreesIn k (Round h rs) = k.reports ≡ rs

pub record Agrees (k : Known) (w : Row) : Type 0 where
  pub lost : k.lost ≡ w.lost
  pub survivors : k.survivors ≡ w.survivors
  pub stage : AgreesIn k w.stage

-- ---- what a verdict rests on, of the known under the head and the page and stage that are judged
abbrev pub MayRecord : Need → Head → Known → Option View → Stage → Type 0
MayRecord need h k component Idle = Unit {0}
MayRecord need h k component (Gathering h' g) =
    (c : View) → component ≡ Some c → NoNewcomers h k ⊎ (AllRecorded h k.survivors k × EnoughStates need k c.set.0)
MayRecord need h k component (Confirming h' g) = Unit {0}
MayRecord need h k component (Applying h' a) =
    (x : Reference) → k.reference ≡ Some x → EnoughStates need k x.component.set.0
MayRecord need h k component (Entering h' e) = Unit {0}
MayRecord need h k component (Round h' rs) = Unit {0}

-- the end of a round that is judged
abbrev pub RoundGrounds : (ℕ → ℕ → Bool) → Head → Known → Outcome → Option View → Type 0
RoundGrounds f h k o v = ((o ≡ LostMember) × (v ≡ None) × LostOne h k) ⊎ DecidedSo f h k o v

module _ (f : ℕ → ℕ → Bool) (need : Need) (r : ℕ) (h : Head) (k : Known) (p : Page) where
  abbrev pub Fits : Stage → Verdict → Type 0
  Fits s Stays = Unit {0}
  Fits s Records = MayRecord need h k p.component s
  Fits s Installs = (under_head h p.recorded ≡ true) × InstallingGrounds f h k p.component × (IsRound s → ⊥)
  Fits s Reconfigures =
      ((is_some p.component || is_some p.recorded) ≡ true) × GivingUp f need h k p.component p.recorded ×
      (IsRound s → ⊥)
  Fits s Closes = (is_joining p.mode ≡ false) × Leaving need r h k p.component p.mode × (IsRound s → ⊥)
  Fits s Forgets = (is_joining p.mode ≡ true) × Forgetting h k p.component × (IsRound s → ⊥)
  Fits s (Ends o v) = (is_joining p.mode ≡ false) × Numbered v × RoundGrounds f h k o v × IsRound s

  apart : (m : Mode) → m ≡ Normal → m ≡ Waiting → ⊥
  apart m a b = cc

  joining_apart : (m : Mode) → m ≡ Joining → m ≡ Waiting → ⊥
  joining_apart m a b = cc

  -- ---- gathering
  gathering_chain : (P : Verdict → Type 0) (a b c d : Bool) → P Stays → (a ≡ true → P Reconfigures) →
      (b ≡ false → c ≡ true → P Records) → (b ≡ false → d ≡ false → P Closes) →
      P (if a then Reconfigures else if b then Stays else if c then Records else if d then Stays else Closes)
  gathering_chain P true b c d o x y z = x refl
  gathering_chain P false true c d o x y z = o
  gathering_chain P false false true d o x y z = y refl refl
  gathering_chain P false false false true o x y z = o
  gathering_chain P false false false false o x y z = z refl refl

  module _ (t : Tests r p) where
    gathering_fits : (g : Gathered) → k.recorded ≡ false → p.mode ≡ Normal → (o : Option View) → p.component ≡ o →
        Fits (Gathering h g) (with_component o
        (gathering_verdict need k.survivors.0 k.lost.0 h
        (record { states = k.states; recorders = k.recorders; answered = g.answered })))
    gathering_fits g n m None e = tt
    gathering_fits g n m (Some c) e =
        let needed = need_of need (size c.set.0) in
        let possible = size (either k.states.0 (less k.survivors.0 k.lost.0)) in
        let missing = unheard h k.survivors.0 k.recorders in
        gathering_chain (Fits (Gathering h g)) (ltb possible needed) (ltb (size k.states.0) needed) (nobody missing)
        (nobody (both missing k.lost.0)) tt
        (λ i. (has_view r p t (apart p.mode m), too_few_states c e n (ltb-true possible needed i), λ x. x))
        (λ i j. λ d b. inr (
          j,
          subst (λ (v : View). EnoughStates need k v.set.0) (some_same e b)
              (ltb-false (size k.states.0) needed i),
        ))
        (λ i j. (ap is_joining m, newcomer_lost c e m n (ltb-false (size k.states.0) needed i) j, λ x. x))

    -- ---- confirming and entering
    carrying_chain : (P : Verdict → Type 0) (a b : Bool) → P Stays → (a ≡ true → P Installs) →
        (b ≡ false → P Reconfigures) → P (if a then Installs else if b then Stays else Reconfigures)
    carrying_chain P true b o x y = x refl
    carrying_chain P false true o x y = o
    carrying_chain P false false o x y = y refl

    carrying_fits : (s : Stage) (survivors : ReplicaSet) (set : ℕ) → Fits s Stays →
        (f (both k.recorders.members.0 survivors.0) set ≡ true → Fits s Installs) →
        (f (either (both k.recorders.members.0 survivors.0) (less survivors.0 k.lost.0)) set ≡ false → Fits s
        Reconfigures) →
        Fits s (carrying_verdict f (both k.recorders.members.0 survivors.0) survivors.0 k.lost.0 set)
    carrying_fits s survivors set o x y =
        carrying_chain (Fits s) (f (both k.recorders.members.0 survivors.0) set)
        (f (either (both k.recorders.members.0 survivors.0) (less survivors.0 k.lost.0)) set) o x y

    confirming_fits : (g : Confirmed) → k.recorded ≡ true → p.mode ≡ Normal → under_head h p.recorded ≡ true →
        (o : Option View) → p.component ≡ o →
        Fits (Confirming h g) (with_component o
        (λ c. carrying_verdict f (both k.recorders.members.0 k.survivors.0) k.survivors.0 k.lost.0 c.set.0))
    confirming_fits g n m u None e = tt
    confirming_fits g n m u (Some c) e =
        carrying_fits (Confirming h g) k.survivors c.set.0 tt
        (λ i. (u, inl (record { view = c; is = e; held = n; carried = i }), λ x. x))
        (λ i. (has_view r p t (apart p.mode m), member_uncarriable c e n u i, λ x. x))

    -- ---- applying
    applying_chain : (P : Verdict → Type 0) (a b c : Bool) → P Stays → (a ≡ true → P Records) →
        (a ≡ false → b ≡ true → P Closes) → (c ≡ true → P Closes) →
        P (if a then Records else if b then Closes else if c then Closes else Stays)
    applying_chain P true b c o x y z = x refl
    applying_chain P false true c o x y z = y refl refl
    applying_chain P false false true o x y z = z refl
    applying_chain P false false false o x y z = o

    enough : (o : Option Reference) → need_met need (applied_of k) o ≡ true → (x : Reference) → o ≡ Some x →
        EnoughStates need k x.component.set.0
    enough None i x e = absurd cc
    enough (Some y) i x e =
        subst (λ (z : Reference). EnoughStates need k z.component.set.0) (some_same refl e)
        (let needed = need_of need (size y.component.set.0) in ltb-false (size k.states.0) needed (unset _ i))
      where
        unset : (b : Bool) → not b ≡ true → b ≡ false
        unset true e = absurd cc
        unset false e = refl

    applying_fits : (a : Applied) → k.recorded ≡ false → p.mode ≡ Waiting →
        Fits (Applying h a) (applying_verdict need r k.lost.0 h (applied_of k))
    applying_fits a n m =
        let possible = size (either k.states.0 (possible_senders r k.lost.0 h (applied_of k) k.reference)) in
        let needed = need_of need (asked r h (applied_of k) k.reference) in
        applying_chain (Fits (Applying h a)) (need_met need (applied_of k) k.reference)
        (nobody (sources_of r h (applied_of k))) (ltb possible needed) tt
        (λ i. enough k.reference i)
        (λ i j. (ap is_joining m, no_sources m n i j, λ x. x))
        (λ i. (ap is_joining m, too_few_senders m n (ltb-true possible needed i), λ x. x))

    -- ---- entering
    entering_chain : (P : Verdict → Type 0) (v : Verdict) (a b : Bool) → P Stays → (a ≡ true → P v) →
        (b ≡ false → P Forgets) → P (if a then v else if b then Stays else Forgets)
    entering_chain P v true b o x y = x refl
    entering_chain P v false true o x y = o
    entering_chain P v false false o x y = y refl

    absent : (m : Mode) (o : Option View) (s : Bool) → m ≡ Joining → mode_fits m (is_some o) s ≡ true → o ≡ None
    absent m None s e i = refl
    absent m (Some c) s e i = absurd (let j = rw e at i in cc)

    entering_fits : (e : Entered) (x : Reference) → k.recorded ≡ true → k.reference ≡ Some x → p.mode ≡ Joining →
        under_head h p.recorded ≡ true →
        Fits (Entering h e) (entering_verdict f k.lost.0 h (record { reference = x; recorders = k.recorders }))
    entering_fits e x n i m u =
        let none = absent p.mode p.component (is_some p.recorded) m t.mode in
        let missing = unheard h x.survivors.0 k.recorders in
        entering_chain (Fits (Entering h e)) (carrying_verdict f (both k.recorders.members.0 x.survivors.0)
        x.survivors.0 k.lost.0 x.component.set.0) (nobody missing) (nobody (both missing k.lost.0)) tt
        (λ all. carrying_fits (Entering h e) x.survivors x.component.set.0 tt
        (λ j. (u, inr (record { without = none; reference = x; is = i; held = n; all = all; carried = j }), λ y. y))
        (λ j. (has_view r p t (joining_apart p.mode m), newcomer_uncarriable x none i n u all j, λ y. y)))
        (λ j. (ap is_joining m, record { without = none; reference = x; is = i; held = n; gone = j }, λ y. y))

    -- ---- a round
    round_chain : (P : Verdict → Type 0) (v : Verdict) (a b : Bool) → P Stays → (b ≡ true → P v) →
        (a ≡ false → P (Ends LostMember None)) → P (if a then (if b then v else Stays) else Ends LostMember None)
    round_chain P v true true o x y = x refl
    round_chain P v true false o x y = o
    round_chain P v false b o x y = y refl

    decision : (rs : List (Option Report)) → ((round_end f h rs).0, (round_end f h rs).1) ≡ decided f h rs
    unfolding round_end
    decision rs = refl

    round_fits : (s : Stage) → IsRound s → is_joining p.mode ≡ false → Numbered (round_end f h k.reports).1 →
        Fits s (round_verdict f k.lost.0 h k.reports)
    round_fits s i m n =
        round_chain (Fits s) (Ends (round_end f h k.reports).0 (round_end f h k.reports).1)
        (nobody (both k.lost.0 h.set.0)) (within h.set.0 (heard_of k.reports)) tt
        (λ all. (m, n, inr (all, decision k.reports), i))
        (λ lost. (m, tt, inl (refl, refl, lost), i))

    -- ---- any stage, with what is known
    same_gathered : (g : Gathered) (a : ReplicaSet) (b : Recorders) → a ≡ g.states → b ≡ g.recorders →
        record { states = a; recorders = b; answered = g.answered } ≡ g
    same_gathered g a b x y = rw (x, y)

    same_applied : (a : Applied) (x y : ReplicaSet) (z : Option Reference) → x ≡ a.states → y ≡ a.joins →
        z ≡ a.reference → record { joins = y; states = x; reference = z } ≡ a
    same_applied a x y z i j l = rw (i, j, l)

    same_entered : (e : Entered) (b : Recorders) → b ≡ e.recorders →
        record { reference = e.reference; recorders = b } ≡ e
    same_entered e b x = rw x

    stage_fits : (up : Bool) (l : ReplicaSet) (s : Stage) → head_of s ≡ Some h → AgreesIn k s →
        stage_keeps r p up l s ≡ true → Fits s (stage_verdict f need r p k.survivors.0 k.lost.0 s)
    stage_fits up l Idle e a i = tt
    stage_fits up l (Gathering h' g) e a i =
        let heads : h' ≡ h = some_same refl e in
        let x = gathering_from r p h' g i in
        rw heads (subst (λ (z : Gathered). Fits (Gathering h g)
        (with_component p.component (gathering_verdict need k.survivors.0 k.lost.0 h z)))
        (same_gathered g k.states k.recorders a.0 a.1)
        (gathering_fits g a.2 (mode_normal p.mode x.normal) p.component refl))
    stage_fits up l (Confirming h' g) e a i =
        let heads : h' ≡ h = some_same refl e in
        let x = confirming_from r p h' g i in
        let under = rw heads at x.under in
        rw heads (subst (λ (z : Recorders). Fits (Confirming h g)
        (with_component p.component (λ c. carrying_verdict f (both z.members.0 k.survivors.0) k.survivors.0 k.lost.0
        c.set.0)))
        a.0 (confirming_fits g a.1 (mode_normal p.mode x.normal) under p.component refl))
    stage_fits up l (Applying h' b) e a i =
        let heads : h' ≡ h = some_same refl e in
        let x = applying_from r p h' b i in
        rw heads (subst (λ (z : Applied). Fits (Applying h b) (applying_verdict need r k.lost.0 h z))
        (same_applied b k.states k.joins k.reference a.0 a.1 a.2) (applying_fits b a.4 (mode_waiting p.mode x.waiting)))
    stage_fits up l (Entering h' g) e a i =
        let heads : h' ≡ h = some_same refl e in
        let x = entering_from r p h' g i in
        let under = rw heads at x.under in
        rw heads (subst (λ (z : Entered). Fits (Entering h g) (entering_verdict f k.lost.0 h z))
        (same_entered g k.recorders a.0) (entering_fits g g.reference a.2 a.1 (mode_joining p.mode x.joining) under))
    stage_fits up l (Round h' rs) e a i =
        let heads : h' ≡ h = some_same refl e in
        let x = round_from r p h' rs i in
        let reports : k.reports ≡ rs = a in
        let numbered : Numbered (round_end f h k.reports).1 = rw (← heads, reports) (end_numbered f h' rs x.reports) in
        rw heads (subst (λ z. Fits (Round h rs) (round_verdict f k.lost.0 h z)) reports
        (round_fits (Round h rs) tt (ap is_joining (mode_reconfiguration p.mode x.reconfiguration)) numbered))

  pub verdict_fits : (w : Row) → Tests r p → row_keeps r p w ≡ true → head_of w.stage ≡ Some h → Agrees k w →
      Fits w.stage (verdict_of f need r p w)
  unfolding verdict_of
  verdict_fits w t i e a =
      let keeps = (row_parts r p w i).1 in
      subst (λ (l : ReplicaSet). Fits w.stage (stage_verdict f need r p w.survivors.0 l.0 w.stage)) a.lost
      (subst (λ (v : ReplicaSet). Fits w.stage (stage_verdict f need r p v.0 k.lost.0 w.stage)) a.survivors
      (stage_fits t w.up w.lost w.stage e a.stage keeps))
