-- Who holds, who is clear, and that what the holders carry is one. Assumes nothing.
use Rattle.std.proofs.Common.{◌≡◌, ℕ, ◌+◌, ◌^◌, ◌<◌, Bool, true, false, cond, not, ltb, ◌⊎◌, List, is_none, Some, None, Decides, Option, sym, refl, ap, ◌∙◌, subst, ⊎_elim}
use lib.Bits.{bit_or}
use Rattle.std.proofs.lemmas.Bool.{cases_Bool, not-true, not_from_false, false≢true, ltb-true, ltb-false, and_parts, and_from, le-ltb, lt-ltb, cond-true, cond-false}
use Rattle.std.proofs.lemmas.Bool.Decides.{Decides-like, Decides-and, Decides-or}
use Rattle.quorum.specs.Below.{select}
use Rattle.quorum.specs.Members.{has}
use Rattle.quorum.specs.Sets.{either, single}
use Rattle.quorum.specs.Laws.{Meets}
use Rattle.quorum.proofs.Below.{select_more_yes, select_members, first_cases, any_none, any_none_from}
use Rattle.stores.proofs.Same.{decides_view, decides_recorded}
use Rattle.stores.specs.declared.view.Number.{Number}
use Rattle.stores.specs.declared.view.Recorded.{Recorded}
use Rattle.stores.specs.declared.view.View.{View}
use Rattle.stores.specs.Views.{same_view, same_recorded}
use Rattle.rounds.specs.declared.report.Report.{Report}
use Rattle.rounds.specs.Members.{member_that, members_that, holders, clear_members, level_members, any_mark_above, if_carried, backed, Holder, ClearMember, LevelMember, MarkUpTo, MarksUpTo, IsClear, Backed}
use Rattle.rounds.specs.Reports.{reported, recorded_of, present, at_view, holds, marked_above, clear, level}
use Rattle.rounds.proofs.Highest.{some_same, none_some}

-- a loop that gathers members: one more is found
pub select_with : (f : ℕ → Bool) (n : ℕ) → n < 16 → f n ≡ true → either (select f n) (single n) ≡ select f (n + 1)
unfolding either single
select_with f n l e = ap (λ b. bit_or (select f n) (cond b (2 ^ n) 0)) (lt-ltb n 16 l) ∙ select_more_yes f n e

-- ---- one report
pub present_some : {A : Type 0} (p : A → Bool) (o : Option A) → present p o ≡ true → (a : A) × (o ≡ Some a) × (p a ≡ true)
present_some p None e = absurd (false≢true e)
present_some p (Some a) e = (a, refl, e)

decides_same : {A : Type 0} (t : A → Bool) (a : A) → ((x : A) → Decides (t x) (x ≡ a)) → (o : Option A) → Decides (present t o) (o ≡ Some a)
decides_same t a d o = (
  λ e. let s = present_some t o e in s.1 ∙ ap Some ((d s.0).0 s.2),
  λ e. ap (present t) e ∙ (d a).1 refl,
)

at_is : (v : View) (r : Report) → Decides (at_view v r) (r.component ≡ Some v)
at_is v r = decides_same (λ w. same_view w v) v (λ w. decides_view w v) r.component

recorded_is : (s : Recorded) (r : Report) → Decides (present (λ t. same_recorded t s) r.recorded) (r.recorded ≡ Some s)
recorded_is s r = decides_same (λ t. same_recorded t s) s (λ t. decides_recorded t s) r.recorded

absent : {A : Type 0} (o : Option A) → Decides (is_none o) (o ≡ None)
absent None = (λ _. refl, λ _. refl)
absent (Some a) = (λ e. absurd (false≢true e), λ e. absurd (none_some e refl))

unmarked : (n : ℕ) (o : Option Number) → Decides (not (present (λ m. ltb n m.0) o)) (MarkUpTo n o)
unmarked n None = (λ _. tt, λ _. refl)
unmarked n (Some m) = (λ e. ltb-false n m.0 (not-true _ e), λ l. not_from_false _ (le-ltb n m.0 l))

is_clear : (v : View) (r : Report) → Decides (clear v r) (IsClear v r)
is_clear v r =
    Decides-or _ _
    (Decides-and (at_view v r) _ (at_is v r) (absent r.recorded))
    (unmarked v.number.0 r.mark)

is_level : (v : View) (r : Report) → Decides (level v r) ((r.component ≡ Some v) ⊎ IsClear v r)
is_level v r = Decides-or (at_view v r) (clear v r) (at_is v r) (is_clear v r)

-- ---- the members
module _ (rs : List (Option Report)) (v : View) where
  -- q is a member, and reported something of which P is true
  pub record Said (P : Report → Type 0) (q : ℕ) : Type 0 where
    pub below : q < 16
    pub member : has v.set.0 q ≡ true
    pub report : Report
    pub sent : reported rs q ≡ Some report
    pub fact : P report

  said : (p : Report → Bool) (P : Report → Type 0) → ((r : Report) → Decides (p r) (P r)) → (q : ℕ) → Decides (has (members_that p rs v) q) (Said P q)
  said p P d q =
      let law = select_members (member_that p rs v) 16 q in (
        λ e. let a = and_parts (member_that p rs v q) (ltb q 16) (sym law ∙ e) in
            let m = and_parts (has v.set.0 q) (present p (reported rs q)) a.0 in
            let s = present_some p (reported rs q) m.1 in
            record { below = ltb-true q 16 a.1; member = m.0; report = s.0; sent = s.1; fact = (d s.0).0 s.2 },
        λ h. law ∙ and_from _ _ (and_from _ _ h.member (ap (present p) h.sent ∙ (d h.report).1 h.fact)) (lt-ltb q 16 h.below),
      )

  pub holder : (s : Recorded) (q : ℕ) → Decides (has (holders rs v s) q) (Holder rs v s q)
  holder s q =
      Decides-like _ (λ a. record { below = a.below; member = a.member; report = a.report; sent = a.sent; at = a.fact.0; recorded = a.fact.1 })
      (λ h. record { below = h.below; member = h.member; report = h.report; sent = h.sent; fact = (h.at, h.recorded) })
      (said (holds v s) (λ r. (r.component ≡ Some v) × (r.recorded ≡ Some s)) (λ r. Decides-and (at_view v r) _ (at_is v r) (recorded_is s r)) q)

  pub clear_member : (q : ℕ) → Decides (has (clear_members rs v) q) (ClearMember rs v q)
  clear_member q =
      Decides-like _ (λ a. record { below = a.below; member = a.member; report = a.report; sent = a.sent; clear = a.fact })
      (λ h. record { below = h.below; member = h.member; report = h.report; sent = h.sent; fact = h.clear }) (said (clear v) (IsClear v) (is_clear v) q)

  pub level_member : (q : ℕ) → Decides (has (level_members rs v) q) (LevelMember rs v q)
  level_member q =
      Decides-like _ (λ a. record { below = a.below; member = a.member; report = a.report; sent = a.sent; level = a.fact })
      (λ h. record { below = h.below; member = h.member; report = h.report; sent = h.sent; fact = h.level })
      (said (level v) (λ r. (r.component ≡ Some v) ⊎ IsClear v r) (is_level v) q)

  pub marks_up_to : (n : ℕ) → any_mark_above rs n ≡ false → MarksUpTo rs n
  marks_up_to n e q r l s = (unmarked n r.mark).0 (not_from_false _ (sym (ap (present (marked_above n)) s) ∙ any_none _ 16 e q l))

  unmarked_at : (n q : ℕ) (o : Option Report) → o ≡ reported rs q → q < 16 → MarksUpTo rs n → present (marked_above n) o ≡ false
  unmarked_at n q None e l h = refl
  unmarked_at n q (Some r) e l h = not-true _ ((unmarked n r.mark).1 (h q r l (sym e)))

  pub marks_from : (n : ℕ) → MarksUpTo rs n → any_mark_above rs n ≡ false
  marks_from n h = any_none_from _ 16 (λ q l. unmarked_at n q (reported rs q) refl l h)

  -- ---- what the holders carry
  module _ (f : ℕ → ℕ → Bool) (meets : Meets f) where
    -- a replica holds one at most, and two parts that carry the view share one
    pub one_carried : (s t : Recorded) → f (holders rs v s) v.set.0 ≡ true → f (holders rs v t) v.set.0 ≡ true → s ≡ t
    one_carried s t a b =
        let m = meets (holders rs v s) (holders rs v t) v.set.0 a b in
        let h = (holder s m.0).0 m.2 in
        let k = (holder t m.0).0 m.3 in
        some_same h.recorded (ap (λ r. r.recorded) (some_same h.sent k.sent) ∙ k.recorded)

    -- what is carried, somebody reports
    reports_it : (s : Recorded) → f (holders rs v s) v.set.0 ≡ true → (q : ℕ) × (q < 16) × (if_carried f rs v (recorded_of (reported rs q)) ≡ Some s)
    reports_it s a =
        let m = meets (holders rs v s) (holders rs v s) v.set.0 a a in
        let h = (holder s m.0).0 m.2 in
        (m.0, m.1, ap (λ o. if_carried f rs v (recorded_of o)) h.sent ∙ ap (if_carried f rs v) h.recorded ∙ cond-true _ (Some s) None a)

    carried_from : (o : Option Recorded) (s : Recorded) → if_carried f rs v o ≡ Some s → f (holders rs v s) v.set.0 ≡ true
    carried_from None s e = absurd (none_some refl e)
    carried_from (Some t) s e =
        ⊎_elim (λ a. ap (λ x. f (holders rs v x) v.set.0) (some_same e (cond-true _ (Some t) None a)) ∙ a)
        (λ a. absurd (none_some (cond-false _ (Some t) None a) e)) (cases_Bool (f (holders rs v t) v.set.0))

    pub backed_only : Backed f rs v (backed f rs v)
    backed_only =
        ⊎_elim
        (λ n. subst (Backed f rs v) (sym n.0) (λ s. ⊎_elim (λ a. let r = reports_it s a in absurd (none_some (n.1 r.0 r.1) r.2)) (λ a. a) (cases_Bool (f (holders rs v s) v.set.0))))
        (λ y. subst (Backed f rs v) (sym y.1) (let a = carried_from _ y.0 y.2.offers in (a, λ t b. one_carried t y.0 b a)))
        (first_cases (λ q. if_carried f rs v (recorded_of (reported rs q))) 16)
