-- What each outcome rests on, and that nothing else rests on the same. Assumes nothing.
use Rattle.std.proofs.Common.{◌≡◌, ℕ, ◌+◌, ◌<◌, Bool, true, false, cond, not, ltb, List, Some, None, Decides, Option, sym, refl, ap, ◌∙◌, subst, inl, inr, ⊎_elim}
use Rattle.std.proofs.lemmas.Bool.{cases_Bool, cond_both, cond-true, cond-false, lt-ltb, not_from_true, not_from_false, and_parts, and_from, not-true, not-false, both_ways, ltb-true}
use Rattle.quorum.proofs.Below.{any_from, any_some, within_members, within_from}
use Rattle.quorum.specs.Below.{within}
use Rattle.quorum.specs.Laws.{Grows, Meets}
use Rattle.quorum.specs.Members.{has}
use Rattle.stores.specs.declared.view.Head.{Head}
use Rattle.stores.specs.declared.view.Recorded.{Recorded}
use Rattle.stores.specs.declared.view.View.{View}
use Rattle.rounds.specs.declared.outcome.Outcome.{Outcome}
use Rattle.rounds.specs.declared.outcome.Outcome.TheVariants.{SettledByHolders, SettledByClear, SettledByAll, LostMember, NoComponent, NotCarried, MarkedPast, Undecided, Spare}
use Rattle.rounds.specs.declared.report.Report.{Report}
use Rattle.rounds.specs.Decision.{barred, all_level, clear_or_all, unless_held, unless_barred, decided_on, decided}
use Rattle.rounds.specs.Grounds.{NotCarriedGrounds, MarkedGrounds, Standing, Unsettled, Grounds, Only}
use Rattle.rounds.specs.Members.{holders, clear_members, level_members, any_mark_above, backed, Holder, ClearMember, LevelMember, Uncarried, Backed}
use Rattle.rounds.specs.Presumed.{presumed, Leading, Highest}
use Rattle.rounds.specs.Reports.{reported, present, marked_above}
use Rattle.rounds.proofs.Membership.{present_some, holder, clear_member, level_member, marks_up_to, marks_from, backed_only}
use Rattle.rounds.proofs.Highest.{presumed_highest, highest_presumed}

module _ (f : ℕ → ℕ → Bool) (h : Head) (rs : List (Option Report)) where
  abbrev Ends : Outcome × Option View → Type 0
  Ends d = Grounds f h rs d.0 d.1

  -- ---- what bars a round, and that only it does: the order of the two stands here
  marked : (v : View) → Leading rs 16 v → f h.set.0 v.set.0 ≡ true → any_mark_above rs (v.number.0 + 1) ≡ true → MarkedGrounds f h rs
  marked v lead c e =
      let s = any_some _ 16 e in
      let r = present_some (marked_above (v.number.0 + 1)) (reported rs s.0) s.2 in
      let m = present_some _ r.0.mark r.2 in
      record {
        view = v;
        leading = lead;
        carried = c;
        sender = s.0;
        below = s.1;
        report = r.0;
        sent = r.1;
        mark = m.0;
        marked = m.1;
        above = ltb-true _ _ m.2;
      }

  -- what is barred has its grounds, and what is not barred stands
  unbarred : (v : View) → Leading rs 16 v → (rest : Outcome × Option View) → (Standing f h rs v → Ends rest) → Ends (unless_barred (barred f h rs v) rest)
  unbarred v lead rest then =
      cond_both (not (f h.set.0 v.set.0)) (Some NotCarried) _ (λ o. Ends (unless_barred o rest))
      (λ e. (refl, record { view = v; leading = lead; apart = not-true _ e }))
      (λ e. let c = not-false _ e in
      cond_both (any_mark_above rs (v.number.0 + 1)) (Some MarkedPast) None (λ o. Ends (unless_barred o rest))
      (λ m. (refl, marked v lead c m))
      (λ m. then (record { leading = lead; carried = c; marks = marks_up_to rs v _ m })))

  not_carried_bars : (g : NotCarriedGrounds f h rs) → barred f h rs g.view ≡ Some NotCarried
  not_carried_bars g = cond-true _ (Some NotCarried) _ (not_from_false _ g.apart)

  carried_past : (v : View) → f h.set.0 v.set.0 ≡ true → barred f h rs v ≡ cond (any_mark_above rs (v.number.0 + 1)) (Some MarkedPast) None
  carried_past v c = cond-false (not (f h.set.0 v.set.0)) (Some NotCarried) _ (not_from_true _ c)

  mark_bars : (g : MarkedGrounds f h rs) → barred f h rs g.view ≡ Some MarkedPast
  mark_bars g =
      let n = g.view.number.0 + 1 in
      carried_past g.view g.carried ∙ cond-true _ (Some MarkedPast) None
      (any_from (λ q. present (marked_above n) (reported rs q)) 16 g.sender g.below
      (ap (present (marked_above n)) g.sent ∙ ap (present (λ x. ltb n x.0)) g.marked ∙ lt-ltb _ _ g.above))

  standing_unbarred : (v : View) → Standing f h rs v → barred f h rs v ≡ None
  standing_unbarred v st = carried_past v st.carried ∙ cond-false _ (Some MarkedPast) None (marks_from rs v (v.number.0 + 1) st.marks)

  -- ---- what settles it
  module _ (grows : Grows f) (meets : Meets f) where
    -- all those who are such do not carry the view, so no part of them does
    uncarried : (v : View) (all : ℕ) (P : ℕ → Type 0) → ((q : ℕ) → Decides (has all q) (P q)) → f all v.set.0 ≡ false → Uncarried f v P
    uncarried v all P d none p such =
        ⊎_elim (λ c. absurd (both_ways _ none (grows p all v.set.0 (λ q l m i. (d q).1 (such q l m i)) c))) (λ c. c) (cases_Bool (f p v.set.0))

    unheld : (v : View) → ((s : Recorded) → f (holders rs v s) v.set.0 ≡ false) → (s : Recorded) → Uncarried f v (Holder rs v s)
    unheld v none s = uncarried v (holders rs v s) (Holder rs v s) (holder rs v s) (none s)

    unclear : (v : View) → f (clear_members rs v) v.set.0 ≡ false → Uncarried f v (ClearMember rs v)
    unclear v e = uncarried v (clear_members rs v) (ClearMember rs v) (clear_member rs v) e

    -- all members are in the round and level, one by one
    each_level : (v : View) → all_level h rs v ≡ true → (q : ℕ) → q < 16 → has v.set.0 q ≡ true → (has h.set.0 q ≡ true) × LevelMember rs v q
    each_level v a q l m =
        let p = and_parts (within v.set.0 h.set.0) _ a in
        (within_members v.set.0 h.set.0 p.0 q l m, (level_member rs v q).0 (within_members v.set.0 (level_members rs v) p.1 q l m))

    level_from : (v : View) → ((q : ℕ) → q < 16 → has v.set.0 q ≡ true → (has h.set.0 q ≡ true) × LevelMember rs v q) → all_level h rs v ≡ true
    level_from v all =
        and_from _ _ (within_from v.set.0 h.set.0 (λ q l m. (all q l m).0))
        (within_from v.set.0 (level_members rs v) (λ q l m. (level_member rs v q).1 (all q l m).1))

    settled : (v : View) (o : Option Recorded) → Backed f rs v o → Standing f h rs v → Ends (unless_held f h o (clear_or_all f h rs v))
    settled v (Some s) b st =
        cond_both (f h.set.0 s.view.set.0) (SettledByHolders, Some s.view) (Undecided, None) Ends
        (λ e. record { view = v; standing = st; recorded = s; is = refl; part = holders rs v s; holds = λ q. (holder rs v s q).0; carries = b.0; in_round = e })
        (λ e. (refl, record { view = v; standing = st; why = inl (record { recorded = s; carries = b.0; apart = e }) }))
    settled v None b st =
        cond_both (f (clear_members rs v) v.set.0) (SettledByClear, Some v) _ Ends
        (λ e. record { standing = st; part = clear_members rs v; clear = λ q. (clear_member rs v q).0; carries = e; unheld = unheld v b })
        (λ e. cond_both (all_level h rs v) (SettledByAll, Some v) (Undecided, None) Ends
        (λ a. record { standing = st; in_round = λ q l m. (each_level v a q l m).0; level = λ q l m. (each_level v a q l m).1; unheld = unheld v b; unclear = unclear v e })
        (λ a. (refl, record { view = v; standing = st; why = inr (record { unheld = unheld v b; unclear = unclear v e; missing = λ all. both_ways _ a (level_from v all) }) })))

    ends_on : (o : Option View) → Highest rs 16 o → Ends (decided_on f h rs o)
    ends_on None none = (refl, none)
    ends_on (Some v) lead = unbarred v lead _ (settled v (backed f rs v) (backed_only rs v f meets))

    decided_grounds : Ends (decided f h rs)
    decided_grounds = ends_on (presumed rs) (presumed_highest rs)

    pub grounds_of : (d : Outcome × Option View) → d ≡ decided f h rs → Ends d
    grounds_of d e = subst Ends (sym e) decided_grounds

    -- ---- and nothing else has its grounds
    at_leading : (v : View) → Leading rs 16 v → decided f h rs ≡ decided_on f h rs (Some v)
    at_leading v lead = ap (decided_on f h rs) (sym (highest_presumed rs (Some v) lead))

    at_barred : (v : View) (o : Outcome) → Leading rs 16 v → barred f h rs v ≡ Some o → decided f h rs ≡ (o, None)
    at_barred v o lead e = at_leading v lead ∙ ap (λ b. unless_barred b (unless_held f h (backed f rs v) (clear_or_all f h rs v))) e

    at_standing : (v : View) (o : Option Recorded) → Standing f h rs v → backed f rs v ≡ o → decided f h rs ≡ unless_held f h o (clear_or_all f h rs v)
    at_standing v o st e =
        at_leading v st.leading ∙ ap (λ b. unless_barred b (unless_held f h (backed f rs v) (clear_or_all f h rs v))) (standing_unbarred v st) ∙
        ap (λ b. unless_held f h b (clear_or_all f h rs v)) e

    backed_is : (v : View) (s : Recorded) → f (holders rs v s) v.set.0 ≡ true → (o : Option Recorded) → Backed f rs v o → o ≡ Some s
    backed_is v s c None b = absurd (both_ways _ (b s) c)
    backed_is v s c (Some t) b = ap Some (sym (b.1 s c))

    unbacked : (v : View) → ((s : Recorded) → Uncarried f v (Holder rs v s)) → (o : Option Recorded) → Backed f rs v o → o ≡ None
    unbacked v u None b = refl
    unbacked v u (Some s) b = absurd (both_ways _ (u s (holders rs v s) (λ q l m i. (holder rs v s q).0 i)) b.0)

    at_held : (v : View) (s : Recorded) → Standing f h rs v → f (holders rs v s) v.set.0 ≡ true →
        decided f h rs ≡ cond (f h.set.0 s.view.set.0) (SettledByHolders, Some s.view) (Undecided, None)
    at_held v s st c = at_standing v (Some s) st (backed_is v s c (backed f rs v) (backed_only rs v f meets))

    at_unheld : (v : View) → Standing f h rs v → ((s : Recorded) → Uncarried f v (Holder rs v s)) → decided f h rs ≡ clear_or_all f h rs v
    at_unheld v st u = at_standing v None st (unbacked v u (backed f rs v) (backed_only rs v f meets))

    -- a part of such members carries, so all of them do
    carried : (v : View) (all : ℕ) (P : ℕ → Type 0) → ((q : ℕ) → Decides (has all q) (P q)) → (p : ℕ) →
        ((q : ℕ) → has p q ≡ true → P q) → f p v.set.0 ≡ true → f all v.set.0 ≡ true
    carried v all P d p such c = grows p all v.set.0 (λ q l m i. (d q).1 (such q i)) c

    not_clear : (v : View) → Uncarried f v (ClearMember rs v) → f (clear_members rs v) v.set.0 ≡ false
    not_clear v u = u (clear_members rs v) (λ q l m i. (clear_member rs v q).0 i)

    not_all : (v : View) → Unsettled f h rs v → all_level h rs v ≡ false
    not_all v u = ⊎_elim (λ a. absurd (u.missing (each_level v a))) (λ a. a) (cases_Bool (all_level h rs v))

    decided_only : Only f h rs (decided f h rs)
    decided_only SettledByHolders None g = absurd g
    decided_only SettledByHolders (Some w) g =
        let v = g.view in
        let s = g.recorded in
        let all = carried v (holders rs v s) (Holder rs v s) (holder rs v s) g.part g.holds g.carries in
        sym (at_held v s g.standing all ∙
        cond-true _ (SettledByHolders, Some s.view) (Undecided, None) (ap (λ x. f h.set.0 x.set.0) g.is ∙ g.in_round) ∙
        ap (λ x. (SettledByHolders, Some x)) g.is)
    decided_only SettledByClear None g = absurd g
    decided_only SettledByClear (Some v) g =
        let all = carried v (clear_members rs v) (ClearMember rs v) (clear_member rs v) g.part g.clear g.carries in
        sym (at_unheld v g.standing g.unheld ∙ cond-true _ (SettledByClear, Some v) _ all)
    decided_only SettledByAll None g = absurd g
    decided_only SettledByAll (Some v) g =
        sym (at_unheld v g.standing g.unheld ∙ cond-false _ (SettledByClear, Some v) _ (not_clear v g.unclear) ∙
        cond-true _ (SettledByAll, Some v) (Undecided, None) (level_from v (λ q l m. (g.in_round q l m, g.level q l m))))
    decided_only LostMember w g = absurd g
    decided_only NoComponent w g = ap (λ x. (NoComponent, x)) g.0 ∙ ap (decided_on f h rs) (highest_presumed rs None g.1)
    decided_only NotCarried w g =
        let b = g.1 in ap (λ x. (NotCarried, x)) g.0 ∙ sym (at_barred b.view NotCarried b.leading (not_carried_bars b))
    decided_only MarkedPast w g =
        let b = g.1 in ap (λ x. (MarkedPast, x)) g.0 ∙ sym (at_barred b.view MarkedPast b.leading (mark_bars b))
    decided_only Undecided w g =
        let u = g.1 in
        ap (λ x. (Undecided, x)) g.0 ∙
        ⊎_elim (λ a. sym (at_held u.view a.recorded u.standing a.carries ∙ cond-false _ (SettledByHolders, _) (Undecided, None) a.apart))
        (λ a. sym (at_unheld u.view u.standing a.unheld ∙ cond-false _ (SettledByClear, _) _ (not_clear u.view a.unclear) ∙
        cond-false _ (SettledByAll, _) (Undecided, None) (not_all u.view a)))
        u.why
    decided_only Spare w g = absurd g

    pub only_of : (d : Outcome × Option View) → d ≡ decided f h rs → Only f h rs d
    only_of d e = subst (Only f h rs) (sym e) decided_only
