-- Who may still record under a head, and which heads can never be backed any more. Assumes nothing.
use Rattle.std.proofs.Common.{◌≡◌, ℕ, ◌<◌, Bool, true, ◌⊎◌, Some, None, Option}
use Rattle.quorum.specs.Members.{has}
use Rattle.stores.specs.declared.view.Head.{Head}
use Rattle.stores.specs.Views.{head}
use Rattle.safety.specs.Replicas.{Row, Node, In}
use Rattle.safety.specs.Replicas.Row.{idle, under}
use Rattle.safety.specs.Runs.{World}
use Rattle.safety.proofs.History.{History}
use Rattle.safety.proofs.History.Event.{records}

abbrev pub head_of : Row → Option Head
head_of idle = None
head_of (under h p) = Some h

-- the replica may still record under the head of stamp s and set X: it can yet take it up, or has it open
abbrev pub May : Node → ℕ → ℕ → Type 0
May x s X = (x.top.0 < s) ⊎ (head_of x.row ≡ Some (head s X))

-- the members of no part that carries V, the view numbered k, can all come to have recorded under the head of stamp s and set X
abbrev pub Dead : (ℕ → ℕ → Bool) → History → World → ℕ → ℕ → ℕ → ℕ → Type 0
Dead carries past w k V s X = (part : ℕ) → carries part V ≡ true → ((q : ℕ) → q < 16 → has part q ≡ true → has V q ≡ true → In (records q k s X) past ⊎ May (w.at q) s X) → ⊥
