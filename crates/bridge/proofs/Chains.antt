-- Chains: a quiet move, a move that says something, and two nodes that are one. Assumes nothing.
use Rattle.std.proofs.Common.{◌≡◌, ℕ, Bool, List, [], ◌++◌, Some, None, Option, sym, refl, subst, append-nil}
use Rattle.rows.specs.declared.message.Message.{Message}
use Rattle.manager.specs.Effects.{posts_of}
use Rattle.safety.specs.Moves.{Move, Chain, Settlement}
use Rattle.safety.specs.Moves.Chain.{rest, go}
use Rattle.safety.specs.Replicas.{Node}
use Rattle.safety.specs.Replicas as Moves
use Rattle.bridge.specs.Seen.{seen_message, formed_by}

-- what a message that may be absent says
abbrev pub seen_maybe : Option Message → List Moves.Message
seen_maybe None = []
seen_maybe (Some m) = seen_message m

-- one message after another
pub formed_both : (a b : Option Message) → formed_by (posts_of a b) ≡ seen_maybe b ++ seen_maybe a
formed_both None None = refl
formed_both None (Some m) = sym (append-nil (seen_message m))
formed_both (Some m) None = refl
formed_both (Some m) (Some n) = refl

module _ (carries : ℕ → ℕ → Bool) (post : List Moves.Message) (r : ℕ) where
  pub quietly : {x y z : Node} {ms : List Moves.Message} {s : Option Settlement} → Move post r x y [] → Chain carries post r y ms s z → Chain carries post r x ms s z
  quietly {x} {y} {z} {ms} {s} m c = subst (λ (l : List Moves.Message). Chain carries post r x l s z) (append-nil ms) (go m c)

  pub one_move : {x y : Node} {ms : List Moves.Message} → Move post r x y ms → Chain carries post r x ms None y
  one_move m = go m rest

  pub ends_in : {x y z : Node} {ms : List Moves.Message} {s : Option Settlement} → y ≡ z → Chain carries post r x ms s y → Chain carries post r x ms s z
  ends_in {x} {y} {z} {ms} {s} e c = subst (λ (n : Node). Chain carries post r x ms s n) e c

  pub forming : {x y : Node} {ms ns : List Moves.Message} {s : Option Settlement} → ms ≡ ns → Chain carries post r x ms s y → Chain carries post r x ns s y
  forming {x} {y} {ms} {ns} {s} e c = subst (λ (l : List Moves.Message). Chain carries post r x l s y) e c
