-- The rules of a page as facts, one to a rule. Assumes nothing.
use Rattle.std.specs.Prelude.{◌≡◌, ℕ, ◌+◌, ◌≤◌, true, ◌⊎◌, is_some, Some, None, Option}
use Rattle.quorum.specs.Members.{has}
use Rattle.stores.specs.declared.page.Mode.TheVariants.{Waiting, Joining, Normal, Reconfiguration}
use Rattle.stores.specs.declared.page.Page.{Page}
use Rattle.stores.specs.declared.view.Number.{Number}
use Rattle.stores.specs.declared.view.Recorded.{Recorded}
use Rattle.stores.specs.declared.view.View.{View}

-- a mark is there, not below n
abbrev pub Marked : Option Number → ℕ → Type 0
Marked o n = (m : Number) × (o ≡ Some m) × (n ≤ m.0)

pub record PageRules (r : ℕ) (p : Page) : Type 0 where
  pub waiting : p.mode ≡ Waiting → (p.component ≡ None) × (p.recorded ≡ None)
  pub joining : p.mode ≡ Joining → (p.component ≡ None) × (is_some p.recorded ≡ true)
  pub normal : p.mode ≡ Normal → is_some p.component ≡ true
  pub reconfiguration : p.mode ≡ Reconfiguration → (is_some p.component ≡ true) ⊎ (is_some p.recorded ≡ true)
  pub follow : (v : View) (s : Recorded) → p.component ≡ Some v → p.recorded ≡ Some s → s.view.number.0 ≡ v.number.0 + 1
  pub component_holds : (v : View) → p.component ≡ Some v → has v.set.0 r ≡ true
  pub recorded_holds : (s : Recorded) → p.recorded ≡ Some s → has s.view.set.0 r ≡ true
  pub numbered : (s : Recorded) → p.recorded ≡ Some s → 1 ≤ s.view.number.0
  pub component_marked : (v : View) → p.component ≡ Some v → Marked p.mark v.number.0
  pub recorded_marked : (s : Recorded) → p.recorded ≡ Some s → Marked p.mark s.view.number.0
  pub stamped : (s : Recorded) → p.recorded ≡ Some s → s.stamp.0 ≤ p.top.0
  pub highest_mark : (m : Number) → p.mark ≡ Some m → m.0 ≤ 1000000000
  pub highest_component : (v : View) → p.component ≡ Some v → v.number.0 ≤ 1000000000
  pub highest_recorded : (s : Recorded) → p.recorded ≡ Some s → s.view.number.0 ≤ 1000000000
