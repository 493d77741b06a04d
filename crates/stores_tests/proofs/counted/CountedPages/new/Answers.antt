use Rattle.std.proofs.Common.{◌≡◌, replicate, vec_items, sym, ap, ◌∙◌, subst, rules}
use Rattle.stores.specs.Kept.{fresh, Sound}
use Rattle.stores.proofs.Pages.{fresh_sound}
use Rattle.stores_tests.proofs.counted.CountedPages.new.Goals as goal

pub invariant_of-result-clause-sound : goal.invariant_of-result-clause-sound
invariant_of-result-clause-sound c =
    let items : vec_items c.in_ok-pages.pages ≡ replicate 16 fresh = c.in_ok-pages.ensures.items ∙ ap (replicate 16) c.fresh.ensures in
    subst Sound (sym items) fresh_sound

pub returns : goal.returns
returns c = search rules
