-- The rules that every page keeps, for the replica r whose page it is. Assumes nothing.
use Rattle.std.specs.Prelude.{ℕ, ◌+◌, Bool, true, false, not, ◌&&◌, ◌||◌, is_some, Some, None, Option, ◌==◌, nat_le, nat_lt}
use Rattle.quorum.specs.Members.{has}
use Rattle.stores.specs.declared.page.Mode.{Mode}
use Rattle.stores.specs.declared.page.Mode.TheVariants.{Waiting, Joining, Normal, Reconfiguration}
use Rattle.stores.specs.declared.page.Page.{Page}
use Rattle.stores.specs.declared.view.Number.{Number}
use Rattle.stores.specs.declared.view.Recorded.{Recorded}
use Rattle.stores.specs.declared.view.View.{View}

-- waiting has neither view, joining only the recorded one, normal the component view, reconfiguration at least one
abbrev pub mode_fits : Mode → Bool → Bool → Bool
mode_fits Waiting component recorded = not component && not recorded
mode_fits Joining component recorded = not component && recorded
mode_fits Normal component recorded = component
mode_fits Reconfiguration component recorded = component || recorded

-- the mark is present and not below the number
abbrev pub marked : Option Number → ℕ → Bool
marked None n = false
marked (Some m) n = nat_le n m.0

-- no mark is above the highest number; so no view's number is, for the mark is not below it
abbrev pub mark_fits : Option Number → Bool
mark_fits None = true
mark_fits (Some m) = nat_le m.0 1000000000

-- the component view holds the replica, and the mark is not below it
abbrev pub component_fits : ℕ → Option Number → Option View → Bool
component_fits r m None = true
component_fits r m (Some v) = has v.set.0 r && marked m v.number.0

-- the recorded view holds the replica, is numbered at least 1, the mark is not below it, and its stamp is not above the top stamp
abbrev pub recorded_fits : ℕ → ℕ → Option Number → Option Recorded → Bool
recorded_fits r top m None = true
recorded_fits r top m (Some s) = has s.view.set.0 r && nat_le 1 s.view.number.0 && marked m s.view.number.0 && nat_le s.stamp.0 top

-- where both are present, the recorded view is numbered one above the component view
abbrev pub numbers_follow : Option View → Option Recorded → Bool
numbers_follow None s = true
numbers_follow (Some v) None = true
numbers_follow (Some v) (Some s) = s.view.number.0 == v.number.0 + 1

-- all of these
unfoldable pub keeps_rules : ℕ → Page → Bool
keeps_rules r p =
    mode_fits p.mode (is_some p.component) (is_some p.recorded) && mark_fits p.mark && component_fits r p.mark p.component
    && recorded_fits r p.top.0 p.mark p.recorded && numbers_follow p.component p.recorded

-- there is such a replica, and the page keeps the rules for it
abbrev pub may_be_kept : ℕ → Page → Bool
may_be_kept r p = nat_lt r 16 && keeps_rules r p
