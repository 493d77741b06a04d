-- What the end of a round rests on: the facts that are known at each outcome. `rs` are the reports by replica, `f p s` says whether
-- the part p carries the set s. Assumes nothing.
use Rattle.std.specs.Prelude.{◌≡◌, ℕ, ◌+◌, ◌<◌, Bool, true, false, ◌⊎◌, List, Some, None, Option}
use Rattle.quorum.specs.Members.{has}
use Rattle.stores.specs.declared.view.Head.{Head}
use Rattle.stores.specs.declared.view.Number.{Number}
use Rattle.stores.specs.declared.view.Recorded.{Recorded}
use Rattle.stores.specs.declared.view.View.{View}
use Rattle.rounds.specs.declared.outcome.Outcome.{Outcome}
use Rattle.rounds.specs.declared.outcome.Outcome.TheVariants.{SettledByHolders, SettledByClear, SettledByAll, LostMember, NoComponent, NotCarried, MarkedPast, Undecided, Spare}
use Rattle.rounds.specs.declared.report.Report.{Report}
use Rattle.rounds.specs.Members.{holders, Holder, ClearMember, LevelMember, MarksUpTo, Uncarried}
use Rattle.rounds.specs.Presumed.{Leading, Highest}
use Rattle.rounds.specs.Reports.{reported}

-- v is presumed, and those of the round do not carry it
pub record NotCarriedGrounds (f : ℕ → ℕ → Bool) (h : Head) (rs : List (Option Report)) : Type 0 where
  pub view : View
  pub leading : Leading rs 16 view
  pub apart : f h.set.0 view.set.0 ≡ false

-- v is presumed, those of the round carry it, and somebody's mark exceeds the number after it
pub record MarkedGrounds (f : ℕ → ℕ → Bool) (h : Head) (rs : List (Option Report)) : Type 0 where
  pub view : View
  pub leading : Leading rs 16 view
  pub carried : f h.set.0 view.set.0 ≡ true
  pub sender : ℕ
  pub below : sender < 16
  pub report : Report
  pub sent : reported rs sender ≡ Some report
  pub mark : Number
  pub marked : report.mark ≡ Some mark
  pub above : view.number.0 + 1 < mark.0

-- v is presumed, those of the round carry it, and no mark exceeds the number after it
pub record Standing (f : ℕ → ℕ → Bool) (h : Head) (rs : List (Option Report)) (v : View) : Type 0 where
  pub leading : Leading rs 16 v
  pub carried : f h.set.0 v.set.0 ≡ true
  pub marks : MarksUpTo rs (v.number.0 + 1)

-- w is what holders recorded that carry the presumed view, and its members in the round carry it
pub record HoldersGrounds (f : ℕ → ℕ → Bool) (h : Head) (rs : List (Option Report)) (w : View) : Type 0 where
  pub view : View
  pub standing : Standing f h rs view
  pub recorded : Recorded
  pub is : recorded.view ≡ w
  pub part : ℕ
  pub holds : (q : ℕ) → has part q ≡ true → Holder rs view recorded q
  pub carries : f part view.set.0 ≡ true
  pub in_round : f h.set.0 w.set.0 ≡ true

-- v is presumed, clear members carry it, and no holders do
pub record ClearGrounds (f : ℕ → ℕ → Bool) (h : Head) (rs : List (Option Report)) (v : View) : Type 0 where
  pub standing : Standing f h rs v
  pub part : ℕ
  pub clear : (q : ℕ) → has part q ≡ true → ClearMember rs v q
  pub carries : f part v.set.0 ≡ true
  pub unheld : (s : Recorded) → Uncarried f v (Holder rs v s)

-- v is presumed, all its members are in the round and level, and neither holders nor clear members carry it
pub record AllGrounds (f : ℕ → ℕ → Bool) (h : Head) (rs : List (Option Report)) (v : View) : Type 0 where
  pub standing : Standing f h rs v
  pub in_round : (q : ℕ) → q < 16 → has v.set.0 q ≡ true → has h.set.0 q ≡ true
  pub level : (q : ℕ) → q < 16 → has v.set.0 q ≡ true → LevelMember rs v q
  pub unheld : (s : Recorded) → Uncarried f v (Holder rs v s)
  pub unclear : Uncarried f v (ClearMember rs v)

-- what the holders recorded is not carried by its members in the round
pub record HeldApart (f : ℕ → ℕ → Bool) (h : Head) (rs : List (Option Report)) (v : View) : Type 0 where
  pub recorded : Recorded
  pub carries : f (holders rs v recorded) v.set.0 ≡ true
  pub apart : f h.set.0 recorded.view.set.0 ≡ false

-- neither holders nor clear members carry the view, and not all its members are in the round and level
pub record Unsettled (f : ℕ → ℕ → Bool) (h : Head) (rs : List (Option Report)) (v : View) : Type 0 where
  pub unheld : (s : Recorded) → Uncarried f v (Holder rs v s)
  pub unclear : Uncarried f v (ClearMember rs v)
  pub missing : ((q : ℕ) → q < 16 → has v.set.0 q ≡ true → (has h.set.0 q ≡ true) × LevelMember rs v q) → ⊥

-- v is presumed and stands, and yet nothing settles the round
pub record UndecidedGrounds (f : ℕ → ℕ → Bool) (h : Head) (rs : List (Option Report)) : Type 0 where
  pub view : View
  pub standing : Standing f h rs view
  pub why : HeldApart f h rs view ⊎ Unsettled f h rs view

-- 4 and 9 end a round before all have reported, so they are no decision
abbrev pub Grounds : (ℕ → ℕ → Bool) → Head → List (Option Report) → Outcome → Option View → Type 0
Grounds f h rs SettledByHolders None = ⊥
Grounds f h rs SettledByHolders (Some w) = HoldersGrounds f h rs w
Grounds f h rs SettledByClear None = ⊥
Grounds f h rs SettledByClear (Some v) = ClearGrounds f h rs v
Grounds f h rs SettledByAll None = ⊥
Grounds f h rs SettledByAll (Some v) = AllGrounds f h rs v
Grounds f h rs LostMember o = ⊥
Grounds f h rs NoComponent o = (o ≡ None) × Highest rs 16 None
Grounds f h rs NotCarried o = (o ≡ None) × NotCarriedGrounds f h rs
Grounds f h rs MarkedPast o = (o ≡ None) × MarkedGrounds f h rs
Grounds f h rs Undecided o = (o ≡ None) × UndecidedGrounds f h rs
Grounds f h rs Spare o = ⊥

-- an outcome and a settled view that have their grounds are the round's
abbrev pub Only : (ℕ → ℕ → Bool) → Head → List (Option Report) → Outcome × Option View → Type 0
Only f h rs d = (o : Outcome) (w : Option View) → Grounds f h rs o w → (o, w) ≡ d
