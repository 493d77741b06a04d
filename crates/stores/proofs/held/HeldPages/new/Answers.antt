use Rattle.std.proofs.Common.{replicate, sym, refl, subst}
use Rattle.stores.specs.declared.page.Page.{Page}
use Rattle.stores.specs.Kept.{Sound}
use Rattle.stores.proofs.Pages.{fresh_sound}
use Rattle.stores.proofs.held.HeldPages.new.Goals as goal

pub invariant_of-result : goal.invariant_of-result
invariant_of-result c = record { sixteen = refl; sound = subst (λ (p : Page). Sound (replicate 16 p)) (sym c.fresh.ensures) fresh_sound }
