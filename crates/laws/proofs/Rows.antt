-- The rows that a call leaves. Assumes nothing.
use Rattle.std.proofs.Common.{◌≡◌, ℕ, Bool, true, false, Some, None, Option, sym, refl, subst, arith}
use Rattle.std.proofs.lemmas.Bool.{eq-eqb}
use Rattle.std.proofs.lemmas.Bool.Decides.{nat_tests}
use Rattle.quorum.specs.declared.set.ReplicaSet.{ReplicaSet}
use Rattle.rows.specs.Rows.{is_joining, survivors_keep, idle_keeps, row_keeps, empty_row}
use Rattle.rows.specs.declared.row.Row.{Row}
use Rattle.stores.specs.declared.page.Mode.{Mode}
use Rattle.stores.specs.declared.page.Page.{Page}
use Rattle.stores.specs.declared.view.View.{View}
use Rattle.manager.specs.Effects.{closed, component_row, spare_row}
use Rattle.laws.proofs.Subsets.{within_itself, within_none}
use Rattle.rows.proofs.Facts.{row_from}

-- ---- rows with the head closed
idle_from : (up : Bool) (lost : ReplicaSet) (m : Mode) → lost.0 ≡ 0 → is_joining m ≡ false → idle_keeps up lost m ≡ true
idle_from up lost m l j = let a = eq-eqb lost.0 0 l in grind (arith, nat_tests)

pub closed_keeps : (r : ℕ) (p : Page) (w : Row) → survivors_keep w.survivors p.component ≡ true → is_joining p.mode ≡ false → row_keeps r p (closed w) ≡ true
closed_keeps r p w s j = row_from r p (closed w) s (idle_from w.up _ p.mode refl j)

pub component_keeps : (r : ℕ) (p : Page) (w : Row) (v : View) → p.component ≡ Some v → is_joining p.mode ≡ false → row_keeps r p (component_row w v) ≡ true
component_keeps r p w v e j = row_from r p (component_row w v) (subst (λ o. survivors_keep v.set o ≡ true) (sym e) (within_itself v.set.0)) (idle_from w.up _ p.mode refl j)

nobody_keeps : (o : Option View) → survivors_keep (record { 0 = 0 }) o ≡ true
nobody_keeps None = refl
nobody_keeps (Some c) = within_none c.set.0

pub spare_keeps : (r : ℕ) (p : Page) (w : Row) → is_joining p.mode ≡ false → row_keeps r p (spare_row w) ≡ true
spare_keeps r p w j = row_from r p (spare_row w) (nobody_keeps p.component) (idle_from w.up _ p.mode refl j)

pub down_keeps : (r : ℕ) (p : Page) → row_keeps r p (empty_row false) ≡ true
down_keeps r p = row_from r p (empty_row false) (nobody_keeps p.component) refl

pub up_keeps : (r : ℕ) (p : Page) → is_joining p.mode ≡ false → row_keeps r p (empty_row true) ≡ true
up_keeps r p j = row_from r p (empty_row true) (nobody_keeps p.component) (idle_from true _ p.mode refl j)
