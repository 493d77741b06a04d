-- The tests for the same view, the same recorded view and the same head decide equality. Assumes nothing.
use Rattle.std.proofs.Common.{◌≡◌, Decides, ap}
use Rattle.std.proofs.lemmas.Bool.{eqb-true, eq-eqb, and_parts, and_from}
use Rattle.stores.specs.declared.view.Head.{Head}
use Rattle.stores.specs.declared.view.Recorded.{Recorded}
use Rattle.stores.specs.declared.view.View.{View}
use Rattle.stores.specs.Views.{same_view, same_recorded, same_head}

pub decides_view : (v w : View) → Decides (same_view v w) (v ≡ w)
decides_view v w = (
  λ e. let p = and_parts _ _ e in
      let n = eqb-true v.number.0 w.number.0 p.0 in let d = eqb-true v.set.0 w.set.0 p.1 in
      λ i. record { number = record { 0 = n i }; set = record { 0 = d i } },
  λ e. and_from _ _ (eq-eqb _ _ (ap (λ x. x.number.0) e)) (eq-eqb _ _ (ap (λ x. x.set.0) e)),
)

pub decides_recorded : (s t : Recorded) → Decides (same_recorded s t) (s ≡ t)
decides_recorded s t = (
  λ e. let p = and_parts _ _ e in
      let v = (decides_view s.view t.view).0 p.0 in let d = eqb-true s.stamp.0 t.stamp.0 p.1 in
      λ i. record { view = v i; stamp = record { 0 = d i } },
  λ e. and_from _ _ ((decides_view s.view t.view).1 (ap (λ x. x.view) e)) (eq-eqb _ _ (ap (λ x. x.stamp.0) e)),
)

pub decides_head : (g h : Head) → Decides (same_head g h) (g ≡ h)
decides_head g h = (
  λ e. let p = and_parts _ _ e in
      let s = eqb-true g.stamp.0 h.stamp.0 p.0 in let d = eqb-true g.set.0 h.set.0 p.1 in
      λ i. record { stamp = record { 0 = s i }; set = record { 0 = d i } },
  λ e. and_from _ _ (eq-eqb _ _ (ap (λ x. x.stamp.0) e)) (eq-eqb _ _ (ap (λ x. x.set.0) e)),
)
