use Rattle.std.proofs.Common.{◌+◌, ◌∙◌, rules, refl, ap}
use Rattle.std.proofs.lemmas.Iterator.Search.{any_from_yields_List}
use borrow.Author.Tests.{tests}
use Rattle.std.specs.Slice.Iter.{iter_rest}
use Rattle.quorum.specs.Below.{any}
use Rattle.rounds.specs.Reports.{marked_above, reported, present}
use Rattle.quorum.proofs.Chains.{any_there, flatten_yields}
use Rattle.rounds.proofs.members.any_marked_past.Goals as goal

pub returns : goal.returns
returns c =
    let rs = c.args.reports.now in
    let p = marked_above (c.args.number.0 + 1) in
    any_from_yields_List p _ _ _ c.any.ensures.ran
    (flatten_yields _ rs (λ x j b. (b.0, b.1)) (ap iter_rest c.flatten.ensures.source ∙ c.iter.ensures.rest) c.flatten.ensures.front c.flatten.ensures.back c.flatten.ensures.done) (λ x b q k. search (rules, tests)) ∙
    any_there p (present p) refl (λ a. refl) rs ∙ ap (any (λ q. present p (reported rs q))) c.told-reports
