use Rattle.std.proofs.Common.{sym, rules, ap, ◌∙◌, subst}
use Rattle.std.proofs.lemmas.Iterator.Consumers.{YieldsList-at, YieldsList-from_filter_map}
use borrow.Author.Tests.{tests}
use Rattle.std.specs.Slice.Iter.{iter_rest}
use Rattle.rounds.specs.Presumed.{Highest}
use Rattle.quorum.proofs.Chains.{flatten_yields, reduce_yields}
use Rattle.rounds.proofs.Highest.{pick, reduced_highest, highest_presumed}
use Rattle.rounds.proofs.presumed.presumed.Goals as goal

pub returns : goal.returns
returns c =
    let rs = c.args.reports.now in
    let is =
    reduce_yields _ pick _ (λ a x b q k. search (rules, tests)) c.filter_map.result c.reduce.result c.reduce.ensures.ran
    (YieldsList-from_filter_map _ (λ r. r.component)
    (YieldsList-at c.filter_map.ensures.source (flatten_yields _ rs (λ x j b. (b.0, b.1)) (ap iter_rest c.flatten.ensures.source ∙ c.iter.ensures.rest) c.flatten.ensures.front c.flatten.ensures.back c.flatten.ensures.done))
    c.filter_map.ensures.closure
    (λ x r q k. search rules)) in
    let h = subst (Highest rs 16) (sym is) (reduced_highest rs 16 c.told-reports) in
    record { is = highest_presumed rs c.reduce.result h; highest = h }
