use Rattle.laws.proofs.Words.{posts_own}
use Rattle.laws.proofs.replicas_post_their_own_word.Goals as goal

pub returns : goal.returns
returns c = posts_own
