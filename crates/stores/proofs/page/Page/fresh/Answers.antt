use Rattle.std.proofs.Common.{refl}
use Rattle.stores.proofs.page.Page.fresh.Goals as goal

pub returns : goal.returns
returns c = refl
