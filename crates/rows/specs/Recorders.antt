-- Who recorded, as a member and as a newcomer. Assumes nothing.
use Rattle.std.specs.Prelude.{ℕ, Bool, ◌&&◌}
use Rattle.quorum.specs.Below.{within}
use Rattle.quorum.specs.Sets.{nobody_set, either, single}
use Rattle.quorum.specs.declared.set.ReplicaSet.{ReplicaSet}
use Rattle.rows.specs.declared.message.Part.{Part}
use Rattle.rows.specs.declared.message.Part.TheVariants.{Member, Newcomer}
use Rattle.rows.specs.declared.row.Recorders.{Recorders}

-- a set with one more
abbrev pub adding : ReplicaSet → ℕ → ReplicaSet
adding s q = record { 0 = either s.0 (single q) }

-- nobody recorded
abbrev pub no_recorders : Recorders
no_recorders = record { members = nobody_set; newcomers = nobody_set }

-- whoever recorded, in either part
abbrev pub all_recorders : Recorders → ℕ
all_recorders x = either x.members.0 x.newcomers.0

-- each that recorded is in the set
abbrev pub recorders_within : Recorders → ℕ → Bool
recorders_within x s = within x.members.0 s && within x.newcomers.0 s

-- with one more, that recorded in this part
abbrev pub recorders_with : Recorders → ℕ → Part → Recorders
recorders_with x q Member = record x { members = adding x.members q }
recorders_with x q Newcomer = record x { newcomers = adding x.newcomers q }
