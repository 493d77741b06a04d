-- How a head closes, and how a round ends. Assumes nothing.
use Rattle.std.proofs.Common.{◌≡◌, ℕ, ◌+◌, Bool, true, if◌then◌else◌, not, eqb, ◌⊎◌, List, is_some, Some, None, Option, sym, refl, ap, ◌∙◌, subst, inl, inr, ⊎_elim}
use Rattle.std.proofs.lemmas.Bool.{cond_both, eqb-true, and_parts}
use Rattle.quorum.specs.Members.{has}
use Rattle.quorum.specs.declared.set.ReplicaSet.{ReplicaSet}
use Rattle.rounds.specs.Decision.{barred, all_level, clear_or_all, unless_held, unless_barred, decided_on}
use Rattle.rounds.specs.Members.{clear_members, any_mark_above, backed}
use Rattle.rounds.specs.Presumed.{presumed}
use Rattle.rounds.specs.declared.outcome.Outcome.{Outcome}
use Rattle.rounds.specs.declared.outcome.Outcome.TheVariants.{SettledByHolders, SettledByClear, SettledByAll, LostMember, NoComponent, NotCarried, MarkedPast, Undecided, Spare}
use Rattle.rounds.specs.declared.report.Report.{Report}
use Rattle.rounds.proofs.Highest.{some_same, none_some}
use Rattle.rows.specs.Rows.{under_head, stage_keeps}
use Rattle.rows.specs.declared.message.Posts.{Posts}
use Rattle.rows.specs.declared.row.Row.{Row}
use Rattle.rows.specs.declared.row.Stage.{Stage}
use Rattle.rows.specs.declared.row.Stage.TheVariants.{Idle, Gathering, Confirming, Applying, Entering, Round}
use Rattle.rows.proofs.Facts.{row_parts}
use Rattle.stores.specs.declared.page.Page.{Page}
use Rattle.stores.specs.declared.view.Head.{Head}
use Rattle.stores.specs.declared.view.Recorded.{Recorded}
use Rattle.stores.specs.declared.view.View.{View}
use Rattle.manager.specs.Calls.{head_of}
use Rattle.manager.specs.Effects.{Effect, ending, raised, component_page, component_row, spare_page, spare_row, installing, settling, carried_out}
use Rattle.manager.specs.Requests.{Request}
use Rattle.manager.specs.declared.need.Need.{Need}
use Rattle.manager.specs.declared.verdict.Verdict.{Verdict}
use Rattle.manager.specs.declared.verdict.Verdict.TheVariants.{Stays, Records, Installs, Reconfigures, Closes, Forgets, Ends}
use Rattle.manager.proofs.Posted.{carried_posts}
use Rattle.laws.specs.Grounds.{InstallingGrounds, GivingUp, Leaving, Forgetting, DecidedSo, EndingGrounds, InRound}
use Rattle.laws.specs.Known.{Known, known, counted}
use Rattle.evidence.specs.Views.{Settled, Spared}
use Rattle.evidence.specs.Heads.{Closing, Ending, ClosingsRest, EndingsRest}
use Rattle.evidence.specs.Heads.Closing.{installed, round_ended, gave_up, left, forgot, aborted as by_abort}
use Rattle.laws.proofs.Calls.{calls_keep}
use Rattle.laws.proofs.Going.{Turned, call_goes}
use Rattle.laws.proofs.Courses.{Stands, Course}
use Rattle.laws.proofs.Courses.Course.{judged_so, outdone, aborted}
use Rattle.laws.proofs.Judged.{RoundGrounds, Fits}
use Rattle.evidence.proofs.Views.{installed_so}

-- ---- what a settlement answers
settling_told : (r : ℕ) (p : Page) (w : Row) (posts : Posts) (o : Outcome) (v : Option View) →
    ((settling r p w posts o v).answer.ended ≡ Some (o, v)) × (head_of (settling r p w posts o v).row.stage ≡ None)
settling_told r p w posts o None = (refl, refl)
settling_told r p w posts o (Some v) =
    cond_both (has v.set.0 r) (ending (component_page p (Some (raised p.mark v.number.0)) v) (component_row w v) posts o
    (Some v)) (ending (spare_page p) (spare_row w) posts o (Some v))
    (λ (e : Effect). (e.answer.ended ≡ Some (o, Some v)) × (head_of e.row.stage ≡ None)) (λ _. (refl, refl))
    (λ _. (refl, refl))

-- and leaves: the settled view, or a spare
settling_leaves : (r : ℕ) (p : Page) (w : Row) (posts : Posts) (o : Outcome) (v : View) →
    Settled v (settling r p w posts o (Some v)) ⊎ Spared r (settling r p w posts o (Some v))
settling_leaves r p w posts o v =
    cond_both (has v.set.0 r) (ending (component_page p (Some (raised p.mark v.number.0)) v) (component_row w v) posts o
    (Some v)) (ending (spare_page p) (spare_row w) posts o (Some v))
    (λ (e : Effect). Settled v e ⊎ Spared r e) (λ _. inl (record { component = refl; outcome = o; ended = refl }))
    (λ i. inr (record { component = refl; mode = refl; ended = inr (o, v, refl, i) }))

installing_untold : (p : Page) (w : Row) (posts : Posts) (o : Option Recorded) →
    (installing p w posts o).answer.ended ≡ None
installing_untold p w posts None = refl
installing_untold p w posts (Some s) = refl

-- ---- a decision is neither 4 nor 9
four_not_nine : LostMember ≡ Spare → ⊥
four_not_nine e = cc

abbrev Decidable : Outcome × Option View → Type 0
Decidable d = (d.0 ≡ LostMember → ⊥) × (d.0 ≡ Spare → ⊥)

module _ (f : ℕ → ℕ → Bool) (h : Head) (rs : List (Option Report)) where
  clear_decidable : (v : View) → Decidable (clear_or_all f h rs v)
  clear_decidable v =
      cond_both {A = Outcome × Option View} (f (clear_members rs v) v.set.0) (SettledByClear, Some v)
      (if all_level h rs v then (SettledByAll, Some v) else (Undecided, None)) Decidable
      (λ _. (λ e. cc, λ e. cc))
      (λ _. cond_both {A = Outcome × Option View} (all_level h rs v) (SettledByAll, Some v) (Undecided, None) Decidable
      (λ _. (λ e. cc, λ e. cc)) (λ _. (λ e. cc, λ e. cc)))

  held_decidable : (o : Option Recorded) (rest : Outcome × Option View) → Decidable rest →
      Decidable (unless_held f h o rest)
  held_decidable None rest d = d
  held_decidable (Some s) rest d =
      cond_both {A = Outcome × Option View} (f h.set.0 s.view.set.0) (SettledByHolders, Some s.view) (Undecided, None)
      Decidable (λ _. (λ e. cc, λ e. cc)) (λ _. (λ e. cc, λ e. cc))

  barred_decidable : (v : View) (rest : Outcome × Option View) → Decidable rest →
      Decidable (unless_barred (barred f h rs v) rest)
  barred_decidable v rest d =
      cond_both (not (f h.set.0 v.set.0)) (Some NotCarried)
      (if any_mark_above rs (v.number.0 + 1) then Some MarkedPast else None) (λ o. Decidable (unless_barred o rest))
      (λ _. (λ e. cc, λ e. cc))
      (λ _. cond_both (any_mark_above rs (v.number.0 + 1)) (Some MarkedPast) None
      (λ o. Decidable (unless_barred o rest)) (λ _. (λ e. cc, λ e. cc)) (λ _. d))

  decidable : (o : Option View) → Decidable (decided_on f h rs o)
  decidable None = (λ e. cc, λ e. cc)
  decidable (Some v) =
      barred_decidable v (unless_held f h (backed f rs v) (clear_or_all f h rs v))
      (held_decidable (backed f rs v) (clear_or_all f h rs v) (clear_decidable v))

module _ (f : ℕ → ℕ → Bool) (need : Need) (r : ℕ) (h : Head) (k : Known) (q : Page) (In : Type 0) (x : Request) where
  decided_ends : (m : Known) (o : Outcome) (v : Option View) → DecidedSo f h m o v → EndingGrounds f h m q x o v
  decided_ends m SettledByHolders v d = d
  decided_ends m SettledByClear v d = d
  decided_ends m SettledByAll v d = d
  decided_ends m LostMember v d =
      absurd ((decidable f h m.reports (presumed m.reports)).0 (ap (λ (z : Outcome × Option View). z.0) (sym d.1)))
  decided_ends m NoComponent v d = d
  decided_ends m NotCarried v d = d
  decided_ends m MarkedPast v d = d
  decided_ends m Undecided v d = d
  decided_ends m Spare v d =
      absurd ((decidable f h m.reports (presumed m.reports)).1 (ap (λ (z : Outcome × Option View). z.0) (sym d.1)))

  round_ends : (m : Known) (o : Outcome) (v : Option View) → RoundGrounds f h m o v → EndingGrounds f h m q x o v
  round_ends m o v g =
      ⊎_elim (λ y. subst (λ z. EndingGrounds f h m q x z v) (sym y.0) (y.1, y.2)) (decided_ends m o v) g

  module _ (posts : Posts) (p : Page) (w : Row) (st : Stands f need r h k q In posts p w) where
    still_open : head_of w.stage ≡ None → ⊥
    still_open c = none_some c st.same

    -- ---- closing
    installs : under_head h p.recorded ≡ true → InstallingGrounds f h (counted r k posts) p.component →
        (o : Option Recorded) → p.recorded ≡ o →
        Closing f need r h (counted r k posts) q x (installing p w posts o)
    installs u g None e = absurd (let y = rw e at u in cc)
    installs u g (Some s) e = installed s.view (installed_so f need r h k q In posts p w st u g s e)

    closes : (v : Verdict) → Fits f need r h (counted r k posts) p w.stage v →
        head_of (carried_out r p w posts v).row.stage ≡ None →
        Closing f need r h (counted r k (carried_out r p w posts v).answer.posts) q x (carried_out r p w posts v)
    closes Stays i c = absurd (still_open c)
    closes Records i c = absurd (still_open c)
    closes Installs i c = rw (carried_posts r p w posts Installs) (installs i.0 i.1 p.recorded refl)
    closes Reconfigures i c =
        gave_up refl (subst (λ o. GivingUp f need h (counted r k posts) o p.recorded) st.component i.1)
    closes Closes i c = left (subst (λ o. Leaving need r h (counted r k posts) o p.mode) st.component i.1)
    closes Forgets i c = forgot refl refl (subst (Forgetting h (counted r k posts)) st.component i.1)
    closes (Ends o v) i c = round_ended (ap is_some (settling_told r p w posts o v).0)

    -- ---- the end of a round
    only : (v : Verdict) → Fits f need r h (counted r k posts) p w.stage v → (o : Outcome) (s : Option View) →
        (carried_out r p w posts v).answer.ended ≡ Some (o, s) →
        In × (head_of (carried_out r p w posts v).row.stage ≡ None) × EndingGrounds f h (counted r k posts) q x o s
    only Stays i o s told = absurd (none_some refl told)
    only Records i o s told = absurd (none_some refl told)
    only Installs i o s told = absurd (none_some (installing_untold p w posts p.recorded) told)
    only Reconfigures i o s told = absurd (none_some refl told)
    only Closes i o s told = absurd (none_some refl told)
    only Forgets i o s told = absurd (none_some refl told)
    only (Ends a b) i o s told =
        let y = settling_told r p w posts a b in
        let same : (a, b) ≡ (o, s) = some_same y.0 told in (
          st.leaves i.3,
          y.1,
          subst (λ (z : Outcome × Option View). EndingGrounds f h (counted r k posts) q x z.0 z.1)
              same (round_ends (counted r k posts) a b i.2),
        )

    always : (v : Verdict) → Fits f need r h (counted r k posts) p w.stage v → In →
        head_of (carried_out r p w posts v).row.stage ≡ None → is_some (carried_out r p w posts v).answer.ended ≡ true
    always Stays i n c = absurd (still_open c)
    always Records i n c = absurd (still_open c)
    always Installs i n c = absurd (i.2 (st.enters n))
    always Reconfigures i n c = absurd (i.2 (st.enters n))
    always Closes i n c = absurd (i.2 (st.enters n))
    always Forgets i n c = absurd (i.2 (st.enters n))
    always (Ends o v) i n c = ap is_some (settling_told r p w posts o v).0

    settles : (v : Verdict) → (o : Outcome) (u : View) → (carried_out r p w posts v).answer.ended ≡ Some (o, Some u) →
        Settled u (carried_out r p w posts v) ⊎ Spared r (carried_out r p w posts v)
    settles Stays o u told = absurd (none_some refl told)
    settles Records o u told = absurd (none_some refl told)
    settles Installs o u told = absurd (none_some (installing_untold p w posts p.recorded) told)
    settles Reconfigures o u told = absurd (none_some refl told)
    settles Closes o u told = absurd (none_some refl told)
    settles Forgets o u told = absurd (none_some refl told)
    settles (Ends a b) o u told =
        let same : (a, b) ≡ (o, Some u) = some_same (settling_told r p w posts a b).0 told in
        let views : b ≡ Some u = ap (λ (z : Outcome × Option View). z.1) same in
        rw views (settling_leaves r p w posts a u)

    -- the judging of a head ends no round with outcome 9
    never_outdone : (v : Verdict) → Fits f need r h (counted r k posts) p w.stage v →
        (carried_out r p w posts v).answer.ended ≡ Some (Spare, None) → ⊥
    never_outdone Stays i told = none_some refl told
    never_outdone Records i told = none_some refl told
    never_outdone Installs i told = none_some (installing_untold p w posts p.recorded) told
    never_outdone Reconfigures i told = none_some refl told
    never_outdone Closes i told = none_some refl told
    never_outdone Forgets i told = none_some refl told
    never_outdone (Ends a b) i told =
        let same : (a, b) ≡ (Spare, None) = some_same (settling_told r p w posts a b).0 told in
        let outcome : a ≡ Spare = ap (λ (d : Outcome × Option View). d.0) same in
        ⊎_elim (λ y. four_not_nine (sym y.0 ∙ outcome))
        (λ y. (decidable f h (counted r k posts).reports (presumed (counted r k posts).reports)).1
        (ap (λ (d : Outcome × Option View). d.0) (sym y.1 ∙ same))) i.2

  pub course_closes : (e : Effect) → Course f need r h k q In x e → head_of e.row.stage ≡ None →
      Closing f need r h (counted r k e.answer.posts) q x e
  course_closes _ (judged_so posts p w v s i) c = closes posts p w s v i c
  course_closes _ (outdone w b o i) c = round_ended refl
  course_closes _ (aborted w m b d t n i) c = by_abort m d t n

  pub course_only : (e : Effect) → Course f need r h k q In x e → (o : Outcome) (s : Option View) →
      e.answer.ended ≡ Some (o, s) →
      In × (head_of e.row.stage ≡ None) × EndingGrounds f h (counted r k e.answer.posts) q x o s
  course_only _ (judged_so posts p w v s i) o z told = rw (carried_posts r p w posts v) (only posts p w s v i o z told)
  course_only _ (outdone w b y i) o z told =
      let same : (Spare, None) ≡ (o, z) = some_same refl told in
      (i, refl, subst (λ (d : Outcome × Option View). EndingGrounds f h k q x d.0 d.1) same (refl, y))
  course_only _ (aborted w m b d t n i) o z told = absurd (none_some refl told)

  pub course_always : (e : Effect) → Course f need r h k q In x e → In → head_of e.row.stage ≡ None →
      is_some e.answer.ended ≡ true
  course_always _ (judged_so posts p w v s i) n c = always posts p w s v i n c
  course_always _ (outdone w b y i) n c = refl
  course_always _ (aborted w m b d t e i) n c = absurd (i n)

  pub course_settles : (e : Effect) → Course f need r h k q In x e → (o : Outcome) (v : View) →
      e.answer.ended ≡ Some (o, Some v) → Settled v e ⊎ Spared r e
  course_settles _ (judged_so posts p w v s i) o u told = settles posts p w s v o u told
  course_settles _ (outdone w b y i) o u told =
      absurd (none_some refl (ap (λ (d : Outcome × Option View). d.1) (some_same refl told)))
  course_settles _ (aborted w m b d t e i) o u told = absurd (none_some refl told)

  pub course_outdone : (e : Effect) → Course f need r h k q In x e → e.answer.ended ≡ Some (Spare, None) → Spared r e
  course_outdone _ (judged_so posts p w v s i) told = absurd (never_outdone posts p w s v i told)
  course_outdone _ (outdone w b y i) told = record { component = refl; mode = refl; ended = inl refl }
  course_outdone _ (aborted w m b d t e i) told = absurd (none_some refl told)

-- ---- any call
-- an idle row has nobody lost
idle_empty : (r : ℕ) (p : Page) (up : Bool) (lost : ReplicaSet) (s : Stage) → head_of s ≡ None →
    stage_keeps r p up lost s ≡ true → lost.0 ≡ 0
idle_empty r p up lost Idle e k = eqb-true lost.0 0 (and_parts (eqb lost.0 0) _ k).0
idle_empty r p up lost (Gathering h g) e k = absurd cc
idle_empty r p up lost (Confirming h g) e k = absurd cc
idle_empty r p up lost (Applying h g) e k = absurd cc
idle_empty r p up lost (Entering h g) e k = absurd cc
idle_empty r p up lost (Round h g) e k = absurd cc

-- a start and a stop end no round
turned_untold : (r : ℕ) (p : Page) (w : Row) (x : Request) (e : Effect) → Turned r p w x e → e.answer.ended ≡ None
turned_untold r p w x e t =
    ⊎_elim (λ i. subst (λ (y : Effect). y.answer.ended ≡ None) i refl)
    (λ i. subst (λ (y : Effect). y.answer.ended ≡ None) i refl) t.is

pub closings_rest : ClosingsRest
closings_rest = record {
  why = λ f need r p w x e d h under c.
      ⊎_elim
      (λ g. subst (λ (y : Head). Closing f need r y (counted r (known r p w x) e.answer.posts) p x e)
      (some_same g.is under)
      (course_closes f need r g.head (known r p w x) p (InRound f p w x) x e g.course c))
      (λ g. absurd (none_some g.headless under))
      (call_goes f need r p w x e d);
  empty = λ f need r p w x e d c. let k = calls_keep f need r p w x e d in idle_empty r e.page e.row.up e.row.lost
      e.row.stage c (row_parts r e.page e.row k.row).1;
}

pub endings_rest : EndingsRest
endings_rest = record {
  told = λ f need r p w x e d h under.
      ⊎_elim
      (λ g. subst (λ (y : Head). Ending f r y (counted r (known r p w x) e.answer.posts) p w x e) (some_same g.is under)
      (record {
        only = course_only f need r g.head (known r p w x) p (InRound f p w x) x e g.course;
        always = course_always f need r g.head (known r p w x) p (InRound f p w x) x e g.course;
        settles = course_settles f need r g.head (known r p w x) p (InRound f p w x) x e g.course;
        outdone = course_outdone f need r g.head (known r p w x) p (InRound f p w x) x e g.course;
      }))
      (λ g. absurd (none_some g.headless under))
      (call_goes f need r p w x e d);
  untold = λ f need r p w x e d under.
      ⊎_elim (λ g. absurd (none_some under g.is)) (turned_untold r p w x e) (call_goes f need r p w x e d);
}
