-- Where a round's decision settles on a view, the moves have their evidence. Assumes nothing.
use Rattle.std.proofs.Common.{◌≡◌, ℕ, suc, ◌+◌, ◌≤◌, Bool, true, ltb, ◌⊎◌, List, is_some, Some, None, Option, sym, refl, ap, ◌∙◌, subst, inl, inr, add-one}
use Rattle.std.proofs.lemmas.Bool.{and_parts, both_ways, ltb-true}
use Rattle.quorum.specs.Below.{within}
use Rattle.quorum.specs.Laws.{Grows}
use Rattle.quorum.specs.Members.{has}
use Rattle.quorum.proofs.Below.{select_members, within_members}
use Rattle.stores.specs.declared.view.Head.{Head}
use Rattle.stores.specs.declared.view.Number.{Number}
use Rattle.stores.specs.declared.view.Recorded.{Recorded}
use Rattle.stores.specs.declared.view.View.{View}
use Rattle.rounds.specs.Grounds.{Standing, HoldersGrounds, ClearGrounds, AllGrounds, Grounds}
use Rattle.rounds.specs.Members.{Holder, MarkUpTo, IsClear}
use Rattle.rounds.specs.Reports.{reported, component_of}
use Rattle.rounds.specs.declared.outcome.Outcome.{Outcome}
use Rattle.rounds.specs.declared.outcome.Outcome.TheVariants.{SettledByHolders, SettledByClear, SettledByAll, LostMember, NoComponent, NotCarried, MarkedPast, Undecided, Spare}
use Rattle.rounds.specs.declared.report.Report.{Report}
use Rattle.manager.specs.Verdicts.{heard_of}
use Rattle.safety.proofs.Marks.{none_some, some_inj}
use Rattle.safety.specs.Replicas as Moves
use Rattle.safety.specs.Replicas.{Upto}
use Rattle.safety.specs.Rounds.{Clear, Holds, Low, Presumed, Held, Cleared, Complete, Decides}
use Rattle.safety.specs.Rounds.Decides.{by_holders, by_clear, by_all}
use Rattle.bridge.specs.Seen.{seen_report, seen_reports}
use Rattle.bridge.proofs.Options.{present_is}
use Rattle.bridge.proofs.Reports.{seen_at, seen_from}

upto : (o : Option Number) (n : ℕ) → MarkUpTo n o → Upto o n
upto None n h m e = absurd (none_some e)
upto (Some k) n h m e = subst (λ (x : Number). x.0 ≤ n) (some_inj e) h

component_from : (o : Option Report) (v : View) → component_of o ≡ Some v → (m : Report) × (o ≡ Some m) × (m.component ≡ Some v)
component_from None v e = absurd (none_some e)
component_from (Some m) v e = (m, refl, e)

clear_seen : (v : View) (m : Report) → IsClear v m → Clear v (seen_report m)
clear_seen v m (inl c) = inl c
clear_seen v m (inr c) = inr (upto m.mark v.number.0 c)

level_seen : (v : View) (m : Report) → (m.component ≡ Some v) ⊎ IsClear v m → (m.component ≡ Some v) ⊎ Upto m.mark v.number.0
level_seen v m (inl c) = inl c
level_seen v m (inr (inl c)) = inl c.0
level_seen v m (inr (inr c)) = inr (upto m.mark v.number.0 c)

module _ (f : ℕ → ℕ → Bool) (h : Head) (rs : List (Option Report)) where
  low_seen : (v : View) → Standing f h rs v → Low (seen_reports rs) v
  low_seen v st q n e =
      let s = seen_from rs q n e in
      subst (λ (m : Moves.Report). Upto m.mark (suc v.number.0)) (sym s.same)
      (subst (λ k. Upto s.report.mark k) (add-one v.number.0) (upto s.report.mark (v.number.0 + 1) (st.marks q s.report s.below s.sent)))

  presumed_seen : (v : View) → Standing f h rs v → Presumed (seen_reports rs) v
  presumed_seen v st =
      let lead = st.leading in
      let m = component_from (reported rs lead.sender) v lead.component in
      record { low = low_seen v st; from = lead.sender; report = seen_report m.0; said = seen_at rs lead.sender m.0 lead.below m.1; level = m.2 }

  holder_seen : (v : View) (d : Recorded) (q : ℕ) → Holder rs v d q → Holds (seen_reports rs) q v d
  holder_seen v d q o = (seen_report o.report, seen_at rs q o.report o.below o.sent, o.at, o.recorded)

  holder_from : (v : View) (d : Recorded) (q : ℕ) → has v.set.0 q ≡ true → Holds (seen_reports rs) q v d → Holder rs v d q
  holder_from v d q i o =
      let s = seen_from rs q o.0 o.1 in
      record {
        below = s.below;
        member = i;
        report = s.report;
        sent = s.sent;
        at = ap (λ (m : Moves.Report). m.component) (sym s.same) ∙ o.2;
        recorded = ap (λ (m : Moves.Report). m.recorded) (sym s.same) ∙ o.3;
      }

  -- whoever is counted as heard has reported
  heard_seen : (q : ℕ) → has (heard_of rs) q ≡ true → (m : Moves.Report) × (seen_reports rs q ≡ Some m)
  heard_seen q i =
      let a = and_parts (is_some (reported rs q)) (ltb q 16) (sym (select_members (λ p. is_some (reported rs p)) 16 q) ∙ i) in
      let m = present_is (reported rs q) a.0 in
      (seen_report m.0, seen_at rs q m.0 (ltb-true q 16 a.1) m.1)

  module _ (grows : Grows f) (all : within h.set.0 (heard_of rs) ≡ true) where
    held_seen : (w : View) (g : HoldersGrounds f h rs w) → Held (seen_reports rs) f g.view g.recorded
    held_seen w g = record {
      low = low_seen g.view g.standing;
      part = g.part;
      holds = λ q i. holder_seen g.view g.recorded q (g.holds q i);
      holders_carry = g.carries;
      there = heard_of rs;
      reported = heard_seen;
      there_carry = grows h.set.0 (heard_of rs) g.recorded.view.set.0 (λ q l i j. within_members h.set.0 (heard_of rs) all q l j)
          (ap (λ (x : View). f h.set.0 x.set.0) g.is ∙ g.in_round);
    }

    cleared_seen : (v : View) → ClearGrounds f h rs v → Cleared (seen_reports rs) f v
    cleared_seen v g = record {
      presumed = presumed_seen v g.standing;
      part = g.part;
      clear = λ q i. let c = g.clear q i in (seen_report c.report, seen_at rs q c.report c.below c.sent, clear_seen v c.report c.clear);
      clear_carry = g.carries;
    }

    complete_seen : (v : View) → AllGrounds f h rs v → Complete (seen_reports rs) f v
    complete_seen v g = record {
      presumed = presumed_seen v g.standing;
      all = λ q l i. let c = g.level q l i in (seen_report c.report, seen_at rs q c.report c.below c.sent, level_seen v c.report c.level);
      no_holders_carry = λ d part hold c. both_ways _ (g.unheld d part (λ q l i j. holder_from v d q i (hold q l j i))) c;
    }

    pub decides_seen : (o : Outcome) (v : View) → Grounds f h rs o (Some v) → Decides (seen_reports rs) f v
    decides_seen SettledByHolders v g = subst (λ (x : View). Decides (seen_reports rs) f x) g.is (by_holders g.view g.recorded (held_seen v g))
    decides_seen SettledByClear v g = by_clear (cleared_seen v g)
    decides_seen SettledByAll v g = by_all (complete_seen v g)
    decides_seen LostMember v g = absurd g
    decides_seen NoComponent v g = absurd (none_some (sym g.0))
    decides_seen NotCarried v g = absurd (none_some (sym g.0))
    decides_seen MarkedPast v g = absurd (none_some (sym g.0))
    decides_seen Undecided v g = absurd (none_some (sym g.0))
    decides_seen Spare v g = absurd g
