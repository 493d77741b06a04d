-- Options. Assumes nothing.
use Rattle.std.proofs.Common.{◌≡◌, true, is_some, Some, None, Option, refl}
use Rattle.std.proofs.lemmas.Bool.{false≢true}

pub present_is : {A : Type 0} (o : Option A) → is_some o ≡ true → (a : A) × (o ≡ Some a)
present_is None e = absurd (false≢true e)
present_is (Some a) e = (a, refl)
