-- What was reported, and what a report says of a view. Assumes nothing.
use Rattle.std.specs.Prelude.{ℕ, Bool, false, not, ◌&&◌, ◌||◌, List, is_none, Some, None, Option, nat_lt, slice_index_or}
use Rattle.stores.specs.declared.page.Page.{Page}
use Rattle.stores.specs.declared.view.Recorded.{Recorded}
use Rattle.stores.specs.declared.view.View.{View}
use Rattle.stores.specs.Views.{same_view, same_recorded}
use Rattle.rounds.specs.declared.report.Report.{Report}

-- what a page tells, but for the top stamp
abbrev pub report_of : Page → Report
report_of p = record { mode = p.mode; mark = p.mark; component = p.component; recorded = p.recorded }

-- what replica q reported; `rs` are the reports by replica
abbrev pub reported : List (Option Report) → ℕ → Option Report
reported rs q = slice_index_or rs q None

abbrev pub component_of : Option Report → Option View
component_of None = None
component_of (Some r) = r.component

abbrev pub recorded_of : Option Report → Option Recorded
recorded_of None = None
recorded_of (Some r) = r.recorded

-- something is there, and passes the test
abbrev pub present : {A : Type 0} → (A → Bool) → Option A → Bool
present p None = false
present p (Some a) = p a

-- its component view is v
abbrev pub at_view : View → Report → Bool
at_view v r = present (λ w. same_view w v) r.component

-- its component view is v, and s is what it recorded
abbrev pub holds : View → Recorded → Report → Bool
holds v s r = at_view v r && present (λ t. same_recorded t s) r.recorded

-- its mark exceeds n
abbrev pub marked_above : ℕ → Report → Bool
marked_above n r = present (λ m. nat_lt n m.0) r.mark

-- its component view is v and it recorded nothing, or its mark is absent or at most v's number
abbrev pub clear : View → Report → Bool
clear v r = (at_view v r && is_none r.recorded) || not (marked_above v.number.0 r)

-- its component view is v, or it is clear
abbrev pub level : View → Report → Bool
level v r = at_view v r || clear v r
