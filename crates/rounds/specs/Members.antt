-- Members of a view by what they reported. `f p s` says whether the part p carries the set s. Assumes nothing.
use Rattle.std.specs.Prelude.{◌≡◌, ℕ, ◌<◌, ◌≤◌, Bool, true, false, if◌then◌else◌, ◌&&◌, ◌⊎◌, List, Some, None, Option}
use Rattle.quorum.specs.Below.{any, first, select}
use Rattle.quorum.specs.Members.{has}
use Rattle.stores.specs.declared.view.Number.{Number}
use Rattle.stores.specs.declared.view.Recorded.{Recorded}
use Rattle.stores.specs.declared.view.View.{View}
use Rattle.rounds.specs.declared.report.Report.{Report}
use Rattle.rounds.specs.Reports.{reported, recorded_of, present, holds, clear, level, marked_above}

-- replica q is a member of v, and p is true of what it reported
abbrev pub member_that : (Report → Bool) → List (Option Report) → View → ℕ → Bool
member_that p rs v q = has v.set.0 q && present p (reported rs q)

abbrev pub members_that : (Report → Bool) → List (Option Report) → View → ℕ
members_that p rs v = select (member_that p rs v) 16

-- the members at v with s recorded
abbrev pub holders : List (Option Report) → View → Recorded → ℕ
holders rs v s = members_that (holds v s) rs v

abbrev pub clear_members : List (Option Report) → View → ℕ
clear_members rs v = members_that (clear v) rs v

abbrev pub level_members : List (Option Report) → View → ℕ
level_members rs v = members_that (level v) rs v

-- somebody's mark exceeds n
abbrev pub any_mark_above : List (Option Report) → ℕ → Bool
any_mark_above rs n = any (λ q. present (marked_above n) (reported rs q)) 16

-- what was recorded, if its holders carry v
abbrev pub if_carried : (ℕ → ℕ → Bool) → List (Option Report) → View → Option Recorded → Option Recorded
if_carried f rs v None = None
if_carried f rs v (Some s) = if f (holders rs v s) v.set.0 then Some s else None

-- what somebody recorded whose holders carry v
abbrev pub backed : (ℕ → ℕ → Bool) → List (Option Report) → View → Option Recorded
backed f rs v = first (λ q. if_carried f rs v (recorded_of (reported rs q))) 16

-- ---- who they are, one by one
pub record Holder (rs : List (Option Report)) (v : View) (s : Recorded) (q : ℕ) : Type 0 where
  pub below : q < 16
  pub member : has v.set.0 q ≡ true
  pub report : Report
  pub sent : reported rs q ≡ Some report
  pub at : report.component ≡ Some v
  pub recorded : report.recorded ≡ Some s

-- a mark that is absent or at most n
abbrev pub MarkUpTo : ℕ → Option Number → Type 0
MarkUpTo n None = Unit {0}
MarkUpTo n (Some m) = m.0 ≤ n

-- no mark exceeds n
abbrev pub MarksUpTo : List (Option Report) → ℕ → Type 0
MarksUpTo rs n = (q : ℕ) (r : Report) → q < 16 → reported rs q ≡ Some r → MarkUpTo n r.mark

abbrev pub IsClear : View → Report → Type 0
IsClear v r = ((r.component ≡ Some v) × (r.recorded ≡ None)) ⊎ MarkUpTo v.number.0 r.mark

pub record ClearMember (rs : List (Option Report)) (v : View) (q : ℕ) : Type 0 where
  pub below : q < 16
  pub member : has v.set.0 q ≡ true
  pub report : Report
  pub sent : reported rs q ≡ Some report
  pub clear : IsClear v report

-- at the view, or clear
pub record LevelMember (rs : List (Option Report)) (v : View) (q : ℕ) : Type 0 where
  pub below : q < 16
  pub member : has v.set.0 q ≡ true
  pub report : Report
  pub sent : reported rs q ≡ Some report
  pub level : (report.component ≡ Some v) ⊎ IsClear v report

-- no part whose members of v are all such carries v
abbrev pub Uncarried : (ℕ → ℕ → Bool) → View → (ℕ → Type 0) → Type 0
Uncarried f v P = (p : ℕ) → ((q : ℕ) → q < 16 → has v.set.0 q ≡ true → has p q ≡ true → P q) → f p v.set.0 ≡ false

-- what was recorded by so many that they carry the view: there is at most one
abbrev pub Backed : (ℕ → ℕ → Bool) → List (Option Report) → View → Option Recorded → Type 0
Backed f rs v None = (s : Recorded) → f (holders rs v s) v.set.0 ≡ false
Backed f rs v (Some s) = (f (holders rs v s) v.set.0 ≡ true) × ((t : Recorded) → f (holders rs v t) v.set.0 ≡ true → t ≡ s)
