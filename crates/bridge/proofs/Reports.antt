-- What the moves see of a round's reports. Assumes nothing.
use Rattle.std.proofs.Common.{◌≡◌, ℕ, ◌<◌, true, false, if◌then◌else◌, ltb, ◌≢◌, ◌⊎◌, List, length, get_or, set, replicate, Some, None, Option, sym, refl, ap, ◌∙◌, subst, inl, inr, ⊎_elim, arith}
use Rattle.std.proofs.lemmas.List.{get_or-set_same, get_or-set_other, get_or-replicate, length-replicate, set_past}
use Rattle.std.proofs.lemmas.Bool.{cases_Bool, cases_eq, cases_lt, cond-true, cond-false, ltb-true, lt-ltb}
use Rattle.rounds.specs.Reports.{reported}
use Rattle.rounds.specs.declared.report.Report.{Report}
use Rattle.safety.proofs.Marks.{none_some, some_inj}
use Rattle.safety.specs.Replicas as Moves
use Rattle.bridge.specs.Seen.{seen_report, seen_option, seen_reports}

-- what one of the sixteen reported is seen
pub seen_at : (rs : List (Option Report)) (q : ℕ) (m : Report) → q < 16 → reported rs q ≡ Some m → seen_reports rs q ≡ Some (seen_report m)
seen_at rs q m l e = cond-true (ltb q 16) (seen_option (reported rs q)) None (lt-ltb q 16 l) ∙ ap seen_option e

-- what is seen was reported
pub record Sent (rs : List (Option Report)) (q : ℕ) (n : Moves.Report) : Type 0 where
  pub below : q < 16
  pub report : Report
  pub sent : reported rs q ≡ Some report
  pub same : n ≡ seen_report report

option_from : (o : Option Report) (n : Moves.Report) → seen_option o ≡ Some n → (m : Report) × (o ≡ Some m) × (n ≡ seen_report m)
option_from None n e = absurd (none_some e)
option_from (Some m) n e = (m, refl, sym (some_inj e))

pub seen_from : (rs : List (Option Report)) (q : ℕ) (n : Moves.Report) → seen_reports rs q ≡ Some n → Sent rs q n
seen_from rs q n e =
    ⊎_elim
    (λ (b : ltb q 16 ≡ true).
    let m = option_from (reported rs q) n (sym (cond-true (ltb q 16) (seen_option (reported rs q)) None b) ∙ e) in
    record { below = ltb-true q 16 b; report = m.0; sent = m.1; same = m.2 })
    (λ (b : ltb q 16 ≡ false). absurd (none_some (sym (cond-false (ltb q 16) (seen_option (reported rs q)) None b) ∙ e)))
    (cases_Bool (ltb q 16))

-- with the report m of q: the others' stay, and q's is m or as before
pub others_stay : (rs : List (Option Report)) (q p : ℕ) (m : Report) → p ≢ q → seen_reports (set rs q (Some m)) p ≡ seen_reports rs p
others_stay rs q p m d = ap (λ o. (if ltb p 16 then seen_option o else None)) (get_or-set_other rs q p (Some m) None d)

at_set : (rs : List (Option Report)) (q : ℕ) (m : Report) → (reported (set rs q (Some m)) q ≡ Some m) ⊎ (reported (set rs q (Some m)) q ≡ reported rs q)
at_set rs q m =
    ⊎_elim (λ l. inl (get_or-set_same rs q (Some m) None l)) (λ l. inr (ap (λ xs. get_or xs q None) (set_past rs q (Some m) l))) (cases_lt q (length rs))

pub one_more : (rs : List (Option Report)) (q : ℕ) (m : Report) (p : ℕ) (n : Moves.Report) → seen_reports (set rs q (Some m)) p ≡ Some n →
    (seen_reports rs p ≡ Some n) ⊎ ((p ≡ q) × (n ≡ seen_report m))
one_more rs q m p n e =
    ⊎_elim
    (λ (i : p ≡ q).
    let s = seen_from (set rs q (Some m)) p n e in
    let at : reported (set rs q (Some m)) q ≡ Some s.report = subst (λ x. reported (set rs q (Some m)) x ≡ Some s.report) i s.sent in
    ⊎_elim (λ (a : reported (set rs q (Some m)) q ≡ Some m). inr (i, s.same ∙ ap seen_report (some_inj (sym at ∙ a))))
    (λ (a : reported (set rs q (Some m)) q ≡ reported rs q).
    inl (seen_at rs p s.report s.below (ap (reported rs) i ∙ sym a ∙ at) ∙ ap Some (sym s.same)))
    (at_set rs q m))
    (λ (i : p ≢ q). inl (sym (others_stay rs q p m i) ∙ e))
    (cases_eq p q)

-- a round begins with one report
abbrev none : List (Option Report)
none = replicate 16 None

pub alone_own : (r : ℕ) (m : Report) → r < 16 → seen_reports (set (replicate 16 None) r (Some m)) r ≡ Some (seen_report m)
alone_own r m l =
    let long : length none ≡ 16 = length-replicate {A = Option Report} 16 None in
    seen_at (set (replicate 16 None) r (Some m)) r m l (get_or-set_same (replicate 16 None) r (Some m) None (omega (arith, long)))

pub alone_only : (r : ℕ) (m : Report) (q : ℕ) (n : Moves.Report) → seen_reports (set (replicate 16 None) r (Some m)) q ≡ Some n → (q ≡ r) × (n ≡ seen_report m)
alone_only r m q n e =
    ⊎_elim
    (λ (a : seen_reports (replicate 16 None) q ≡ Some n).
    let s = seen_from (replicate 16 None) q n a in absurd (none_some (sym (nobody q s.below) ∙ s.sent)))
    (λ (a : (q ≡ r) × (n ≡ seen_report m)). a)
    (one_more (replicate 16 None) r m q n e)
  where
    nobody : (q : ℕ) → q < 16 → reported (replicate 16 None) q ≡ None
    nobody q l = get_or-replicate 16 q None None l
