use Rattle.std.proofs.Common.{◌≡◌, Option, Some, None, refl, sym, rules, ap, ◌∙◌}
use Rattle.std.proofs.lemmas.Iterator.Search.{find_from_yields_List}
use Rattle.std.proofs.lemmas.Iterator.Consumers.{YieldsList-at, YieldsList-from_filter_map}
use Rattle.std.proofs.lemmas.Iterator.Adapters.{option_map_id}
use borrow.Author.Tests.{tests}
use Rattle.std.specs.List.{find}
use Rattle.std.specs.Option.{option_to_list}
use Rattle.std.specs.Slice.Iter.{iter_rest}
use Rattle.quorum.specs.Below.{first}
use Rattle.stores.specs.declared.view.Recorded.{Recorded}
use Rattle.rounds.specs.Members.{holders, if_carried}
use Rattle.rounds.specs.Reports.{reported, recorded_of}
use Rattle.quorum.proofs.Chains.{find_there, flatten_yields}
use Rattle.rounds.proofs.members.backed.Goals as goal

pub returns : goal.returns
returns g c =
    let f = g.R.QuorumRule.carries c.args.rule.now in
    let rs = c.args.reports.now in
    let v = c.args.view in
    let test = λ (s : Recorded). f (holders rs v s) v.set.0 in
    let one : (o : Option Recorded) → if_carried f rs v o ≡ find test (option_to_list o) = λ o. elim o as (λ o. if_carried f rs v o ≡ find test (option_to_list o)) [ None ↦ refl | Some s ↦ refl ] in
    sym (option_map_id _) ∙
    find_from_yields_List test _ _ c.find.result c.find.ensures.ran
    (YieldsList-from_filter_map _ (λ r. r.recorded)
    (YieldsList-at c.filter_map.ensures.source (flatten_yields _ rs (λ x j b. (b.0, b.1)) (ap iter_rest c.flatten.ensures.source ∙ c.iter.ensures.rest) c.flatten.ensures.front c.flatten.ensures.back c.flatten.ensures.done))
    c.filter_map.ensures.closure
    (λ x r q k. search rules)) (λ x b q k. search (rules, tests)) ∙
    find_there (λ r. r.recorded) test (λ o. if_carried f rs v (recorded_of o)) refl (λ r. one r.recorded) rs ∙
    ap (first (λ q. if_carried f rs v (recorded_of (reported rs q)))) c.told-reports
