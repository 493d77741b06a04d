use Rattle.std.proofs.Common.{ℕ, None, Option, ◌∙◌, rules}
use Rattle.std.proofs.lemmas.Iterator.{YieldsList-from_slice, YieldsList-from_zip}
use Rattle.std.proofs.lemmas.Iterator.Consumers.{YieldsList-at}
use Rattle.std.proofs.lemmas.Iterator.Search.{any_from_yields_List}
use borrow.Author.Tests.{tests}
use Rattle.quorum.proofs.Chains.{any_beside}
use Rattle.quorum.specs.Members.{everybody}
use Rattle.rounds.specs.declared.report.Report.{Report}
use Rattle.rows.specs.Rows.{report_breaks}
use Rattle.rows.proofs.rules.any_breaks_rules.Goals as goal

pub returns : goal.returns
returns c =
    let p = λ (x : ℕ × Option Report). report_breaks c.args.head x.0 x.1 in
    let rs = c.args.reports.now in
    any_from_yields_List p c.any.new.self _ _ c.any.ensures.ran
    (YieldsList-from_zip (YieldsList-at c.zip.ensures.first (YieldsList-from_slice everybody (c.iter.ensures.rest ∙ c.all.ensures)))
    (YieldsList-at c.zip.ensures.second (YieldsList-from_slice rs c.iter-2.ensures.rest))) (λ x b q k. search (rules, tests)) ∙ any_beside p None rs (search rules)
