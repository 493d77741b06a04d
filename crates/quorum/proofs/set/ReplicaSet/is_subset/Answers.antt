use Rattle.std.proofs.Common.{rules, eqb, ap, ◌∙◌}
use Rattle.std.proofs.lemmas.Bool.Decides.{same_from_decides}
use Rattle.quorum.specs.Sets.{both}
use Rattle.quorum.proofs.Below.{decides_within}
use Rattle.quorum.proofs.Sets.{all_members}
use Rattle.quorum.proofs.set.ReplicaSet.is_subset.Goals as goal

pub returns : goal.returns
unfolding both
returns c =
    let same = c.eq.ensures ∙ ap (λ x. eqb x c.args.self.0) c.intersection.ensures.bits in
    let all = all_members c.args.self.0 c.args.other.0 (search rules) in
    rw same (record { test = same_from_decides _ _ all (decides_within c.args.self.0 c.args.other.0 (search rules)); members = all })
