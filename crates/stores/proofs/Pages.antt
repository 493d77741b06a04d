-- Sixteen fresh pages. Assumes nothing.
use Rattle.std.proofs.Common.{◌≡◌, ℕ, true, replicate, refl}
use lib.ListN.{get_or-replicate}
use Rattle.stores.specs.Kept.{fresh, Sound}
use Rattle.stores.specs.Rules.{keeps_rules}

-- the fresh page keeps the rules for every replica
pub fresh_keeps : (r : ℕ) → keeps_rules r fresh ≡ true
unfolding keeps_rules
fresh_keeps r = refl

pub fresh_sound : Sound (replicate 16 fresh)
fresh_sound r h = rw (get_or-replicate 16 r fresh fresh h) (fresh_keeps r)
