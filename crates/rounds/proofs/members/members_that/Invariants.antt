use Rattle.std.proofs.Common.{◌≡◌, Bool, Bor}
use Rattle.quorum.specs.Below.{select}
use Rattle.rounds.specs.declared.report.Report.{Report}
use Rattle.rounds.specs.Members.{member_that}
use Rattle.rounds.proofs.members.members_that.Given as goal

abbrev pub invariant-loop-replica : goal.invariant-loop-replica
invariant-loop-replica g l =
    (p : Report → Bool) → ((r : Bor Report) (b : Bool) → g.F.Fn.post l.says (r, tt) b → b ≡ p r.now) → l.found.0 ≡ select (member_that p l.reports l.view) l.replica
