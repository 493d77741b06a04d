-- The component view and the recorded view after a call. Assumes nothing.
use Rattle.std.proofs.Common.{◌≡◌, ℕ, ◌+◌, Bool, true, eqb, ◌⊎◌, Some, None, Option, sym, refl, ap, ◌∙◌, subst, inl, inr, ⊎_elim}
use Rattle.std.proofs.lemmas.Bool.{cond_both, eqb-true, and_parts}
use Rattle.quorum.specs.Members.{has}
use Rattle.rounds.specs.declared.outcome.Outcome.{Outcome}
use Rattle.rounds.specs.declared.outcome.Outcome.TheVariants.{Spare}
use Rattle.rounds.proofs.Highest.{some_same, none_some}
use Rattle.rows.specs.Rows.{under_head}
use Rattle.rows.specs.declared.message.Body.TheVariants.{Recorded}
use Rattle.rows.specs.declared.message.Message.{Message}
use Rattle.rows.specs.declared.message.Part.{Part}
use Rattle.rows.specs.declared.message.Posts.{Posts}
use Rattle.rows.specs.declared.message.Posts.TheVariants.{Nothing}
use Rattle.rows.specs.declared.row.Row.{Row}
use Rattle.stores.specs.declared.page.Page.{Page}
use Rattle.stores.specs.declared.view.Head.{Head}
use Rattle.stores.specs.declared.view.Number.{Number}
use Rattle.stores.specs.declared.view.Recorded.{Recorded as RecordedView}
use Rattle.stores.specs.declared.view.View.{View}
use Rattle.stores.specs.Views.{recorded as recorded_view}
use Rattle.manager.specs.Effects.{Effect, effect, ending, closed, raised, component_page, component_row, spare_page, spare_row, installing, settling, carried_out, recorded_message}
use Rattle.manager.specs.Requests.{Request}
use Rattle.manager.specs.declared.need.Need.{Need}
use Rattle.manager.specs.declared.verdict.Verdict.{Verdict}
use Rattle.manager.specs.declared.verdict.Verdict.TheVariants.{Stays, Records, Installs, Reconfigures, Closes, Forgets, Ends}
use Rattle.manager.proofs.Posted.{carried_posts}
use Rattle.laws.specs.Grounds.{RecordedBy, InRound, RecordingGrounds, InstallingGrounds, Forgetting}
use Rattle.laws.specs.Known.{Known, known, last_of, part_told, counted}
use Rattle.evidence.specs.Views.{Installed, Settled, WithoutReplica, Spared, Follows, Gone, Unrecorded, Recording, ComponentsFollow, RecordingsRest}
use Rattle.evidence.specs.Views.Gone.{by_installing, by_settling, with_spare, by_forgetting}
use Rattle.laws.proofs.Going.{Turned, call_goes}
use Rattle.laws.proofs.Courses.{Stands, Course}
use Rattle.laws.proofs.Courses.Course.{judged_so, outdone, aborted}
use Rattle.laws.proofs.Judged.{Fits}

-- a Recorded is of one head, number and part
same_told : (o : Option Message) (r : ℕ) (h h' : Head) (n n' : ℕ) (part part' : Part) →
    o ≡ Some (recorded_message r h n part) → o ≡ Some (recorded_message r h' n' part') → (h ≡ h') × (n ≡ n') ×
    (part ≡ part')
same_told o r h h' n n' part part' a b =
    let m : recorded_message r h n part ≡ recorded_message r h' n' part' = some_same a b in
    let body : Recorded (record { 0 = n }) part ≡ Recorded (record { 0 = n' }) part' = ap (λ (x : Message). x.body) m in
    let number : ◌≡◌ {A = Number} (record { 0 = n }) (record { 0 = n' }) = cc in
    (ap (λ (x : Message). x.head) m, ap (λ (x : Number). x.0) number, cc)

module _ (f : ℕ → ℕ → Bool) (need : Need) (r : ℕ) (h : Head) (k : Known) (q : Page) (In : Type 0) where
  -- where both views go
  pub record Shown (e : Effect) : Type 0 where
    pub component : Follows f r (Some h) (counted r k e.answer.posts) q e
    pub recorded : Unrecorded q e ⊎ RecordedBy need r (Some h) k q.component e.page.recorded e.answer.posts
        ⊎ ((e.page.recorded ≡ None) × Gone f r (Some h) (counted r k e.answer.posts) q e)

  -- as a spare it has neither
  spares : (posts : Posts) (p : Page) (w : Row) (o : Outcome) (v : Option View) → WithoutReplica r (Some (o, v)) →
      Shown (ending (spare_page p) (spare_row w) posts o v)
  spares posts p w o v why =
      let how : Spared r (ending (spare_page p) (spare_row w) posts o v) = record {
        component = refl;
        mode = refl;
        ended = why;
      } in
      record { component = inr (inr (inr how)); recorded = inr (inr (refl, with_spare how)) }

  module _ (posts : Posts) (p : Page) (w : Row) (st : Stands f need r h k q In posts p w) where
    -- both views stay as the call judged them
    stays : (e : Effect) → e.page.component ≡ p.component → e.page.recorded ≡ p.recorded → e.answer.posts ≡ posts →
        Shown e
    stays e c s m = record {
      component = inl (c ∙ st.component);
      recorded = ⊎_elim (λ x. inl (record {
        same = s ∙ x.0;
        untold = ap (λ (y : Posts). part_told (last_of y))
            m ∙ x.1;
      }))
          (λ (x : RecordedBy need r (Some h) k q.component p.recorded posts). inr (inl (record {
            under = x.under;
            is = x.is;
            number = x.number;
            part = x.part;
            view = s ∙ x.view;
            told = ap last_of m ∙ x.told;
            grounds = x.grounds;
          })))
          st.recorded;
    }

    -- a recorded view under the head
    under_facts : (s : RecordedView) → p.recorded ≡ Some s → under_head h p.recorded ≡ true →
        (s.view.set ≡ h.set) × (s.stamp ≡ h.stamp)
    under_facts s e u =
        let x = rw e at u in
        let y = and_parts (eqb s.stamp.0 h.stamp.0) (eqb s.view.set.0 h.set.0) x in
        let stamps = eqb-true s.stamp.0 h.stamp.0 y.0 in
        let sets = eqb-true s.view.set.0 h.set.0 y.1 in
        (λ i. record { 0 = sets i }, λ i. record { 0 = stamps i })

    one_above : (s : RecordedView) → p.recorded ≡ Some s → (c : View) → q.component ≡ Some c →
        s.view.number.0 ≡ c.number.0 + 1
    one_above s e c d =
        let x = st.component ∙ d in
        let f = rw (x, e) at st.page.follow in
        eqb-true s.view.number.0 (c.number.0 + 1) f

    recorded_so : (s : RecordedView) → p.recorded ≡ Some s → (s.stamp ≡ h.stamp) →
        ((t : RecordedView) × (q.recorded ≡ Some t) × (t.view ≡ s.view) × (t.stamp ≡ h.stamp)) ⊎
        ((part : Part) × (last_of posts ≡ Some (recorded_message r h s.view.number.0 part)))
    recorded_so s e i =
        ⊎_elim (λ x. inl (s, sym x.0 ∙ e, refl, i))
        (λ (x : RecordedBy need r (Some h) k q.component p.recorded posts).
        let heads : x.under ≡ h = some_same x.is refl in
        let same : recorded_view x.number x.under.set.0 x.under.stamp.0 ≡ s = some_same x.view e in
        let numbers : x.number ≡ s.view.number.0 = ap (λ (t : RecordedView). t.view.number.0) same in
        inr (
          x.part,
          x.told ∙ ap (λ (y : Head). Some (recorded_message r y x.number x.part)) heads ∙ ap
              (λ n. Some (recorded_message r h n x.part)) numbers,
        ))
        st.recorded

    pub installed_so : under_head h p.recorded ≡ true → InstallingGrounds f h (counted r k posts) p.component →
        (s : RecordedView) → p.recorded ≡ Some s →
        Installed f r (Some h) (counted r k posts) q s.view (installing p w posts (Some s))
    installed_so u g s e =
        let facts = under_facts s e u in
        record {
          component = refl;
          under = h;
          is = refl;
          set = facts.0;
          number = one_above s e;
          recorded = recorded_so s e facts.1;
          grounds = subst (InstallingGrounds f h (counted r k posts)) st.component g;
        }

    installs : under_head h p.recorded ≡ true → InstallingGrounds f h (counted r k posts) p.component →
        (o : Option RecordedView) → p.recorded ≡ o → Shown (installing p w posts o)
    installs u g None e = stays (effect p (closed w) posts) refl refl refl
    installs u g (Some s) e =
        let how = installed_so u g s e in
        record { component = inr (inl (s.view, how)); recorded = inr (inr (refl, by_installing s.view how)) }

    settles : (o : Outcome) (v : Option View) → Shown (settling r p w posts o v)
    settles o None = stays (ending p (closed w) posts o None) refl refl refl
    settles o (Some v) =
        let e = ending (component_page p (Some (raised p.mark v.number.0)) v) (component_row w v) posts o (Some v) in
        let how : Settled v e = record { component = refl; outcome = o; ended = refl } in
        cond_both (has v.set.0 r) e (ending (spare_page p) (spare_row w) posts o (Some v)) Shown
        (λ _. record { component = inr (inr (inl (v, how))); recorded = inr (inr (refl, by_settling v how)) })
        (λ i. spares posts p w o (Some v) (inr (o, v, refl, i)))

    forgets : Forgetting h (counted r k posts) p.component → Shown (carried_out r p w posts Forgets)
    forgets i = record {
      component = inl st.component;
      recorded = inr (inr (refl, by_forgetting h refl refl (subst (Forgetting h (counted r k posts)) st.component i)));
    }

    by_verdict : (v : Verdict) → Fits f need r h (counted r k posts) p w.stage v → Shown (carried_out r p w posts v)
    by_verdict Stays i = stays (effect p w posts) refl refl refl
    by_verdict Records i = stays (effect p w posts) refl refl refl
    by_verdict Installs i = installs i.0 i.1 p.recorded refl
    by_verdict Reconfigures i = stays (carried_out r p w posts Reconfigures) refl refl refl
    by_verdict Closes i = stays (effect p (closed w) posts) refl refl refl
    by_verdict Forgets i = forgets i.1
    by_verdict (Ends o v) i = settles o v

    -- whatever is posted at last, if it is a Recorded there are grounds for it
    grounds : (g : Head) (n : ℕ) (part : Part) → Some h ≡ Some g → last_of posts ≡ Some (recorded_message r g n part) →
        RecordingGrounds need g k q.component n part
    grounds g n part i told =
        ⊎_elim (λ x. absurd (none_some x.1 (ap part_told told)))
        (λ (x : RecordedBy need r (Some h) k q.component p.recorded posts).
        let same = same_told (last_of posts) r x.under g x.number n x.part part x.told told in
        rw (← same.0, ← same.1, ← same.2) x.grounds)
        st.recorded

  pub course_shown : (x : Request) (e : Effect) → Course f need r h k q In x e → Shown e
  course_shown x _ (judged_so posts p w v s i) = by_verdict posts p w s v i
  course_shown x _ (outdone w b o i) = spares Nothing q w Spare None (inl refl)
  course_shown x _ (aborted w m b d t n i) =
      record { component = inl refl; recorded = inl (record { same = refl; untold = refl }) }

  pub course_grounds : (x : Request) (e : Effect) → Course f need r h k q In x e → (g : Head) (n : ℕ) (part : Part) →
      Some h ≡ Some g →
      last_of e.answer.posts ≡ Some (recorded_message r g n part) → RecordingGrounds need g k q.component n part
  course_grounds x _ (judged_so posts p w v s i) g n part same told =
      grounds posts p w s g n part same (ap last_of (sym (carried_posts r p w posts v)) ∙ told)
  course_grounds x _ (outdone w b o i) g n part same told = absurd (none_some refl told)
  course_grounds x _ (aborted w m b d t n' i) g n part same told = absurd (none_some refl told)

-- ---- any call
-- a start and a stop leave both as they were, and post nothing
turned_quiet : (r : ℕ) (p : Page) (w : Row) (x : Request) (e : Effect) → Turned r p w x e →
    (e.page.component ≡ p.component) × (e.page.recorded ≡ p.recorded) × (e.answer.posts ≡ Nothing)
turned_quiet r p w x e t =
    let P : Effect → Type 0 = λ y. (y.page.component ≡ p.component) × (y.page.recorded ≡ p.recorded) ×
    (y.answer.posts ≡ Nothing) in
    ⊎_elim (λ i. subst P i (refl, refl, refl)) (λ i. subst P i (refl, refl, refl)) t.is

pub components_follow : ComponentsFollow
components_follow = record {
  follows = λ f need r p w x e d.
      ⊎_elim
      (λ g. subst (λ o. Follows f r o (counted r (known r p w x) e.answer.posts) p e) (sym g.is)
      (course_shown f need r g.head (known r p w x) p (InRound f p w x) x e g.course).component)
      (λ g. inl (turned_quiet r p w x e g).0)
      (call_goes f need r p w x e d);
  left = λ f need r p w x e d headless.
      ⊎_elim (λ g. absurd (none_some headless g.is)) (λ g. (turned_quiet r p w x e g).0)
      (call_goes f need r p w x e d);
}

pub recordings_rest : RecordingsRest
recordings_rest f need r p w x e d =
    ⊎_elim
    (λ g. subst (λ o. Recording f need r o (known r p w x) p e) (sym g.is)
    (record {
      view = (course_shown f need r g.head (known r p w x) p (InRound f p w x) x e g.course).recorded;
      grounds = course_grounds f need r g.head (known r p w x) p (InRound f p w x) x e g.course;
    }))
    (λ g. let y = turned_quiet r p w x e g in
    record {
      view = inl (record { same = y.1; untold = ap (λ (z : Posts). part_told (last_of z)) y.2 });
      grounds = λ h n part i told. absurd (none_some (ap last_of y.2) told);
    })
    (call_goes f need r p w x e d)
