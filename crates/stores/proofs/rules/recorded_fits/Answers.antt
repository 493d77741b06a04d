use Rattle.std.proofs.Common.{rules}
use Rattle.stores.proofs.rules.recorded_fits.Goals as goal

pub returns : goal.returns
returns c = search rules
