-- The view that a round settles on: somebody reported it, so it is numbered as a view may be. Assumes nothing.
use Rattle.std.proofs.Common.{◌≡◌, ℕ, ◌<◌, ◌≤◌, Bool, false, if◌then◌else◌, ◌&&◌, List, Some, None, Option, sym, refl, ◌∙◌, subst, ⊎_elim}
use Rattle.std.proofs.lemmas.Bool.{and_parts, not-false, cond_both, cases_Bool, cond-true, cond-false}
use Rattle.quorum.proofs.Below.{first_cases}
use Rattle.quorum.specs.Members.{has}
use Rattle.rounds.proofs.Highest.{presumed_highest, some_same, none_some}
use Rattle.rounds.specs.Decision.{barred, all_level, clear_or_all, unless_held, unless_barred, decided_on}
use Rattle.rounds.specs.Members.{holders, clear_members, if_carried, backed}
use Rattle.rounds.specs.Presumed.{presumed, Highest}
use Rattle.rounds.specs.Reports.{reported, component_of, recorded_of}
use Rattle.rounds.specs.declared.outcome.Outcome.{Outcome}
use Rattle.rounds.specs.declared.outcome.Outcome.TheVariants.{SettledByHolders, SettledByClear, SettledByAll, Undecided}
use Rattle.rounds.specs.declared.report.Report.{Report}
use Rattle.rows.specs.Messages.{reporting_mode, reported_page, report_keeps}
use Rattle.rows.specs.Rows.{report_breaks}
use Rattle.stores.proofs.Kept.{rules_from}
use Rattle.stores.specs.Facts.{PageRules}
use Rattle.stores.specs.Rules.{keeps_rules}
use Rattle.stores.specs.declared.view.Head.{Head}
use Rattle.stores.specs.declared.view.Recorded.{Recorded}
use Rattle.stores.specs.declared.view.View.{View}
use Rattle.manager.specs.Verdicts.{round_end}

-- a view, if there is one, is not numbered above the highest number
abbrev pub Numbered : Option View → Type 0
Numbered None = Unit {0}
Numbered (Some v) = v.number.0 ≤ 1000000000

pub report_rules : (h : Head) (q : ℕ) (m : Report) → report_breaks h q (Some m) ≡ false → PageRules q (reported_page m)
report_rules h q m e =
    let a = not-false (has h.set.0 q && report_keeps q m) e in
    let b = and_parts (has h.set.0 q) (report_keeps q m) a in
    let c = and_parts (reporting_mode m.mode) (keeps_rules q (reported_page m)) b.1 in
    rules_from q (reported_page m) c.1

component_numbered : (h : Head) (q : ℕ) (o : Option Report) (v : View) → report_breaks h q o ≡ false → component_of o ≡ Some v → v.number.0 ≤ 1000000000
component_numbered h q None v b e = absurd (none_some refl e)
component_numbered h q (Some m) v b e = (report_rules h q m b).highest_component v e

recorded_numbered : (h : Head) (q : ℕ) (o : Option Report) (s : Recorded) → report_breaks h q o ≡ false → recorded_of o ≡ Some s → s.view.number.0 ≤ 1000000000
recorded_numbered h q None s b e = absurd (none_some refl e)
recorded_numbered h q (Some m) s b e = (report_rules h q m b).highest_recorded s e

module _ (f : ℕ → ℕ → Bool) (h : Head) (rs : List (Option Report)) (keep : (q : ℕ) → q < 16 → report_breaks h q (reported rs q) ≡ false) where
  presumed_numbered : (v : View) → presumed rs ≡ Some v → v.number.0 ≤ 1000000000
  presumed_numbered v e =
      let l = subst (Highest rs 16) e (presumed_highest rs) in
      component_numbered h l.sender (reported rs l.sender) v (keep l.sender l.below) l.component

  offered : (v : View) (o : Option Recorded) (s : Recorded) → if_carried f rs v o ≡ Some s → o ≡ Some s
  offered v None s e = e
  offered v (Some t) s e =
      ⊎_elim (λ a. sym (cond-true (f (holders rs v t) v.set.0) (Some t) None a) ∙ e)
      (λ a. absurd (none_some (cond-false (f (holders rs v t) v.set.0) (Some t) None a) e)) (cases_Bool (f (holders rs v t) v.set.0))

  backed_numbered : (v : View) (s : Recorded) → backed f rs v ≡ Some s → s.view.number.0 ≤ 1000000000
  backed_numbered v s e =
      ⊎_elim (λ n. absurd (none_some n.0 e))
      (λ y. let i = y.2 in
      let o = offered v (recorded_of (reported rs i.place)) y.0 i.offers in
      let l = recorded_numbered h i.place (reported rs i.place) y.0 (keep i.place i.below) o in
      subst (λ (t : Recorded). t.view.number.0 ≤ 1000000000) (some_same y.1 e) l)
      (first_cases (λ q. if_carried f rs v (recorded_of (reported rs q))) 16)

  abbrev End : Type 0
  End = Outcome × Option View

  clear_numbered : (v : View) → v.number.0 ≤ 1000000000 → Numbered (clear_or_all f h rs v).1
  clear_numbered v l =
      cond_both {A = End} (f (clear_members rs v) v.set.0) (SettledByClear, Some v) (if all_level h rs v then (SettledByAll, Some v) else (Undecided, None)) (λ x. Numbered x.1) (λ _. l)
      (λ _. cond_both {A = End} (all_level h rs v) (SettledByAll, Some v) (Undecided, None) (λ x. Numbered x.1) (λ _. l) (λ _. tt))

  held_numbered : (o : Option Recorded) (rest : End) → ((s : Recorded) → o ≡ Some s → s.view.number.0 ≤ 1000000000) → Numbered rest.1 → Numbered (unless_held f h o rest).1
  held_numbered None rest g l = l
  held_numbered (Some s) rest g l =
      cond_both {A = End} (f h.set.0 s.view.set.0) (SettledByHolders, Some s.view) (Undecided, None) (λ x. Numbered x.1) (λ _. g s refl) (λ _. tt)

  barred_numbered : (o : Option Outcome) (rest : End) → Numbered rest.1 → Numbered (unless_barred o rest).1
  barred_numbered None rest l = l
  barred_numbered (Some o) rest l = tt

  decided_numbered : (o : Option View) → presumed rs ≡ o → Numbered (decided_on f h rs o).1
  decided_numbered None e = tt
  decided_numbered (Some v) e =
      barred_numbered (barred f h rs v) (unless_held f h (backed f rs v) (clear_or_all f h rs v))
      (held_numbered (backed f rs v) (clear_or_all f h rs v) (backed_numbered v) (clear_numbered v (presumed_numbered v e)))

  pub end_numbered : Numbered (round_end f h rs).1
  unfolding round_end
  end_numbered = decided_numbered (presumed rs) refl
