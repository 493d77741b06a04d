-- The presumed view: the highest component view reported, the lowest sender's if sets differ. Assumes nothing.
use Rattle.std.specs.Prelude.{◌≡◌, ℕ, ◌<◌, ◌≤◌, Bool, if◌then◌else◌, List, Some, None, Option, nat_lt}
use Rattle.quorum.specs.Below.{any, first}
use Rattle.stores.specs.declared.view.View.{View}
use Rattle.rounds.specs.declared.report.Report.{Report}
use Rattle.rounds.specs.Reports.{reported, component_of, present}

-- a view is there and is numbered above v
abbrev pub numbered_above : View → Option View → Bool
numbered_above v = present (λ w. nat_lt v.number.0 w.number.0)

-- some component view is higher than v
abbrev pub exceeded : List (Option Report) → View → Bool
exceeded rs v = any (λ q. numbered_above v (component_of (reported rs q))) 16

-- a component view, if none is higher
abbrev pub unexceeded : List (Option Report) → Option View → Option View
unexceeded rs None = None
unexceeded rs (Some v) = if exceeded rs v then None else Some v

-- the lowest sender's among the component views that none exceeds
abbrev pub presumed : List (Option Report) → Option View
presumed rs = first (λ q. unexceeded rs (component_of (reported rs q))) 16

-- ---- its law
-- of the replicas below n, v is the component view of the lowest among those with the highest
pub record Leading (rs : List (Option Report)) (n : ℕ) (v : View) : Type 0 where
  pub sender : ℕ
  pub below : sender < n
  pub component : component_of (reported rs sender) ≡ Some v
  pub highest : (q : ℕ) (w : View) → q < n → component_of (reported rs q) ≡ Some w → w.number.0 ≤ v.number.0
  pub lowest : (q : ℕ) (w : View) → q < sender → component_of (reported rs q) ≡ Some w → w.number.0 < v.number.0

-- none where no replica below n has a component view
abbrev pub Highest : List (Option Report) → ℕ → Option View → Type 0
Highest rs n None = (q : ℕ) → q < n → component_of (reported rs q) ≡ None
Highest rs n (Some v) = Leading rs n v
