-- A new floor, and its founding. Assumes nothing.
use Rattle.std.specs.Prelude.{◌≡◌, ℕ, ◌<◌, Bool, true, false, if◌then◌else◌, not, ◌&&◌, ◌||◌, List, [], is_some, Some, None, Option, ◌==◌, nat_lt, slice_index_or}
use Rattle.std.specs.Option.{option_or}
use Rattle.quorum.specs.Below.{any}
use Rattle.quorum.specs.Members.{has}
use Rattle.quorum.specs.Sets.{nobody_set}
use Rattle.quorum.specs.declared.fault.Fault.{Fault}
use Rattle.quorum.specs.declared.fault.Layer.TheVariants.{Floor}
use Rattle.quorum.specs.declared.fault.Reason.{Reason}
use Rattle.quorum.specs.declared.fault.Reason.TheVariants.{BadFounding, NotFresh}
use Rattle.manager.specs.declared.need.Need.{Need}
use Rattle.rows.specs.declared.message.Message.{Message}
use Rattle.rows.specs.declared.row.Row.{Row}
use Rattle.rows.specs.declared.row.Stage.TheVariants.{Idle}
use Rattle.stores.specs.Kept.{fresh, page_at}
use Rattle.stores.specs.declared.page.Mode.TheVariants.{Normal}
use Rattle.stores.specs.declared.page.Page.{Page}
use Rattle.stores.specs.declared.view.View.{View}
use Rattle.quorum.specs.Faults.{refused_by, refused_if}
use Rattle.rows.specs.Rows.{is_waiting, empty_row}

-- the row of replica r
abbrev pub row_at : List Row → ℕ → Row
row_at rows r = slice_index_or rows r (empty_row false)

-- a page of a replica that has done nothing yet
abbrev pub is_fresh : Page → Bool
is_fresh p = is_waiting p.mode && (p.top.0 == 0 && (not (is_some p.mark) && (not (is_some p.component) && not (is_some p.recorded))))

-- a refusal of the floor that names no replica
abbrev pub nameless : Reason → Fault
nameless reason = refused_by Floor reason

-- the set is empty or the number above the highest; fewer than sixteen places, or a page that is not fresh
abbrev pub founding_refusal : View → List Page → ℕ → Option Fault
founding_refusal v pages places =
    option_or (refused_if (v.set.0 == 0 || nat_lt 1000000000 v.number.0) (nameless BadFounding))
    (refused_if (nat_lt places 16 || any (λ r. not (is_fresh (page_at pages r))) 16) (nameless NotFresh))

-- a member's page: normal, with the first view and its number as the mark
abbrev pub founding_page : View → Page
founding_page v = record { mode = Normal; top = record { 0 = 0 }; mark = Some v.number; component = Some v; recorded = None }

-- a founded replica is up and idle, a member with the set as its survivors
abbrev pub founding_row : View → ℕ → Row
founding_row v r = record { up = true; lost = nobody_set; survivors = if has v.set.0 r then v.set else nobody_set; stage = Idle }

-- the pages of a floor founded with v: below n, members have the first view; all others are as they were
abbrev pub FoundedPages : View → List Page → ℕ → List Page → Type 0
FoundedPages v before n after = (r : ℕ) → r < 16 → page_at after r ≡ (if has v.set.0 r && nat_lt r n then founding_page v else page_at before r)

abbrev pub FoundedRows : View → List Row → Type 0
FoundedRows v rows = (r : ℕ) → r < 16 → row_at rows r ≡ founding_row v r

-- what a founding leaves: members have the first view and no other page is touched, all fresh before; rows, need and post
pub record Founding (v : View) (need : Need) (pages : List Page) (rows : List Row) (needed : Need) (post : List Message) : Type 0 where
  pub pages_are : (r : ℕ) → r < 16 → page_at pages r ≡ (if has v.set.0 r then founding_page v else fresh)
  pub rows_are : FoundedRows v rows
  pub need_is : needed ≡ need
  pub silent : post ≡ []
