use Rattle.std.proofs.Common.{sym, rules}
use Rattle.quorum.proofs.Below.{lowest_member}
use Rattle.quorum.proofs.iter.MembersIterator.next.Goals as goal
use Rattle.std.proofs.iter.Next.{firm}

pub returns : goal.returns
returns c =
    let at = lowest_member c.args.self.now.rest.0 c.in_ok-first.first (sym c.in_ok-first.ensures) in
    record {
      steps = (c.in_ok-first.ensures, search rules);
      goes = firm ((tt, tt, search (rules, at.1))) (λ h. search rules);
    }
