-- Runs go on: one in which a view is recorded and installed, the group fails, and a round settles. Assumes nothing.
use Rattle.std.specs.Prelude.{◌≡◌, ℕ, true, false, List, Some}
use Rattle.quorum.specs.Members.{has, one, majority}
use Rattle.stores.specs.Views.{view, recorded, head}
use Rattle.safety.specs.Replicas.Row.{idle}
use Rattle.safety.specs.Runs.{World, Step, Run, world_at, Started}
use Rattle.safety.specs.Findings.{Installed, Settles}

-- View 7 is {0, 1, 2}, of the bits 7, view 8 is {0, 1}, of the bits 3, and the rule counts. Replicas 0 and 1 record view 8 under the stamp 1 (calls 1 and 2), and 0 installs it (3).
-- Then both stop (4, 5) and start again (6, 7). Under the stamp 2 each forms its report, 0 with view 8 and 1 still with view 7 (8, 9).
-- With both reports 1 settles on view 8 and so installs it too (9).
pub record GoesOn : Type 0 where
  pub first : World
  pub calls : List Step
  pub started : Started (view 7 7) first
  pub run : Run (majority one) first calls
  pub agreed : (q : ℕ) → has 3 q ≡ true → ((world_at first calls 2).at q).recorded ≡ Some (recorded 8 3 1)
  pub installed : Installed first calls 3 (view 8 3)
  pub failed : (q : ℕ) → has 3 q ≡ true → (((world_at first calls 5).at q).normal ≡ false) × (((world_at first calls 5).at q).row ≡ idle)
  pub settled : Settles first calls 9 (head 2 3) (view 8 3)
  pub followed : Installed first calls 9 (view 8 3)
