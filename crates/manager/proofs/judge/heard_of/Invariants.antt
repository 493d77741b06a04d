use Rattle.std.proofs.Common.{◌≡◌, is_some}
use Rattle.quorum.specs.Below.{select}
use Rattle.rounds.specs.Reports.{reported}
use Rattle.manager.proofs.judge.heard_of.Given as goal

abbrev pub invariant-loop-replica : goal.invariant-loop-replica
invariant-loop-replica l = l.heard.0 ≡ select (λ q. is_some (reported l.reports q)) l.replica
