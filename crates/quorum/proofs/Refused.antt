-- An answer is no refusal, and what was let through was not refused. Assumes nothing.
use Rattle.std.specs.Option.{option_or}
use Rattle.std.proofs.Common.{◌≡◌, ℕ, ◌<◌, leb, Bool, true, false, Some, None, Ok, Err, Option, Result, sym, refl, arith}
use Rattle.std.proofs.lemmas.Bool.{leb-false}
use Rattle.quorum.specs.declared.fault.Fault.{Fault}
use Rattle.quorum.specs.Faults.{refused_if, allowed}

pub ok_inj : {A B : Type 0} {x y : A} → ◌≡◌ {A = Result A B} (Ok x) (Ok y) → x ≡ y
ok_inj e = cc

pub err_ok : {A B : Type 0} {x : B} {y : A} → ◌≡◌ {A = Result A B} (Err x) (Ok y) → ⊥
err_ok e = let z : ◌≡◌ {A = ℕ} 0 1 = cc in omega arith

pub neither : {A : Type 0} (a b : Option A) → option_or a b ≡ None → (a ≡ None) × (b ≡ None)
neither None b e = (refl, e)
neither (Some x) b e = absurd (let z : ◌≡◌ {A = ℕ} 0 1 = cc in omega arith)

pub not_refused : (b : Bool) (fault : Fault) → refused_if b fault ≡ None → b ≡ false
not_refused true fault e = absurd (let z : ◌≡◌ {A = ℕ} 0 1 = cc in omega arith)
not_refused false fault e = refl

pub one_of_sixteen : (r : ℕ) (fault : Fault) → refused_if (leb 16 r) fault ≡ None → r < 16
one_of_sixteen r fault e = leb-false 16 r (not_refused (leb 16 r) fault e)

pub was_allowed : (o : Option Fault) (u : Unit) → Ok u ≡ allowed o → o ≡ None
was_allowed None u e = refl
was_allowed (Some fault) u e = absurd (err_ok (sym e))
