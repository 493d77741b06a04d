use Rattle.std.proofs.Common.{not, rules, ◌∙◌}
use Rattle.std.proofs.lemmas.Iterator.{YieldsList-from_slice}
use Rattle.std.proofs.lemmas.Iterator.Search.{any_from_yields_List}
use Rattle.quorum.proofs.Below.{list_any-everybody}
use Rattle.quorum.specs.Members.{everybody}
use Rattle.stores.specs.Kept.{page_at}
use Rattle.runs.specs.Founding.{is_fresh}
use Rattle.floor.proofs.founding.any_used.Goals as goal

pub returns : goal.returns
returns g c =
    any_from_yields_List (λ r. not (is_fresh (page_at (g.S.Store.pages c.args.store.now) r))) _ _ _ c.any.ensures.ran (YieldsList-from_slice everybody cc) (λ x b q k. search rules) ∙
    list_any-everybody _
