use Rattle.std.proofs.Common.{rules}
use Rattle.std.proofs.lemmas.List.FromFn.{fill_by_all}
use Rattle.quorum.specs.Members.{everybody}
use Rattle.quorum.proofs.replica.Replica.all.Goals as goal

pub returns : goal.returns
unfolding everybody
returns c = fill_by_all (λ k. k) _ 16 0 c.from_fn.ensures.items.long (λ k l. let called = c.from_fn.ensures.items.at k 0 l in search rules)
