use Rattle.std.proofs.Common.{sym}
use Rattle.manager.specs.Calls.{stopped_at}
use Rattle.manager.proofs.Accepted.{accepted}
use Rattle.manager.proofs.calls.stop.Goals as goal

-- a row that stops is down and empty
pub returns-clause-row : goal.returns-clause-row
unfolding stopped_at
returns-clause-row c = rw (accepted _ _ _ (sym c.in_ok-check_call.ensures)).0 c.empty.ensures
