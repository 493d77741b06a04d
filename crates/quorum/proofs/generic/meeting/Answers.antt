use Rattle.std.proofs.Common.{◌≡◌, true, is_some, sym, ap, ◌∙◌, rules}
use Rattle.std.proofs.lemmas.Bool.{and_from}
use Rattle.quorum.proofs.Below.{lowest_some}
use Rattle.quorum.proofs.generic.meeting.Goals as goal

-- the law that two parts that carry one set share a member of it
pub returns-then-carries-2 : goal.returns-then-carries-2
returns-then-carries-2 g c =
    let one = sym c.carries.ensures ∙ c.if-carries.true in
    let other = sym c.carries-then-carries.ensures ∙ c.if-carries-2.true in
    let m = g.met.R.QuorumRule.meets c.args.rule.now c.args.one.0 c.args.other.0 c.args.set.0 one other in
    let common = c.intersection.ensures.members m.0 ∙ and_from _ _ m.2 m.3 in
    let in_all = c.intersection-then-carries-2.ensures.members m.0 ∙ and_from _ _ common m.4 in
    let some : is_some c.lowest.result ≡ true = ap is_some c.lowest.ensures ∙ lowest_some c.intersection-then-carries-2.result.0 m.0 m.1 in_all in
    record { value = search rules; meets = search rules }
