use Rattle.std.proofs.Common.{rules}
use Rattle.stores.proofs.replay.perform.Goals as goal

pub returns-in-None-clause-done : goal.returns-in-None-clause-done
returns-in-None-clause-done g c = search rules

pub returns-in-Some-clause-left : goal.returns-in-Some-clause-left
returns-in-Some-clause-left g c = search rules
