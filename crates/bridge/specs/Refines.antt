-- Every accepted call is a chain of moves. Refused calls change nothing, so there is nothing to say of them. Assumes nothing.
use Rattle.std.specs.Prelude.{◌≡◌, ℕ, Bool, List, Some, None, Ok, Option}
use Rattle.quorum.specs.Laws.{Grows, Meets}
use Rattle.stores.specs.declared.page.Page.{Page}
use Rattle.stores.specs.declared.view.Head.{Head}
use Rattle.rows.specs.declared.message.Message.{Message}
use Rattle.rows.specs.declared.row.Row.{Row}
use Rattle.manager.specs.Calls.{head_of, viewed, delivered, lost_at, stopped_at, started_at}
use Rattle.manager.specs.Effects.{Effect}
use Rattle.manager.specs.declared.need.Need.{Need}
use Rattle.safety.specs.Moves.{Chain}
use Rattle.safety.specs.Replicas.{In}
use Rattle.safety.specs.Replicas as Moves
use Rattle.bridge.specs.Seen.{node_of, seen_post, formed_by, settlement_of}

-- At this post, what the call of r under the head h made of the page p and the row w is a chain of moves: it forms the messages that the
-- call posts, it settles what the call settles, and it ends in the page and row that the call leaves.
abbrev pub MovesTo : (ℕ → ℕ → Bool) → List Moves.Message → ℕ → Page → Row → Option Head → Effect → Type 0
MovesTo carries post r p w h e =
    Chain carries post r (node_of p w) (formed_by e.answer.posts) (settlement_of h e.answer.ended) (node_of e.page e.row)

module _ (carries : ℕ → ℕ → Bool) (need : Need) (r : ℕ) where
  -- a view is taken up: at any post, under that view
  abbrev pub ViewMoves : Type 0
  ViewMoves = (post : List Moves.Message) (p : Page) (w : Row) (h : Head) (e : Effect) → viewed carries need r p w h ≡ Ok e → MovesTo carries post r p w (Some h) e

  -- a message is delivered: at a post that holds it, under the replica's head
  abbrev pub DeliveryMoves : Type 0
  DeliveryMoves =
      (post : List Message) (p : Page) (w : Row) (m : Message) (e : Effect) → In m post → delivered carries need r p w m ≡ Ok e →
      MovesTo carries (seen_post post) r p w (head_of w.stage) e

  -- a replica of the head is lost
  abbrev pub LossMoves : Type 0
  LossMoves =
      (post : List Moves.Message) (p : Page) (w : Row) (q : ℕ) (e : Effect) → lost_at carries need r p w q ≡ Ok e →
      MovesTo carries post r p w (head_of w.stage) e

  -- the replica stops, or starts
  abbrev pub StopMoves : Type 0
  StopMoves = (post : List Moves.Message) (p : Page) (w : Row) (e : Effect) → stopped_at r p w ≡ Ok e → MovesTo carries post r p w None e

  abbrev pub StartMoves : Type 0
  StartMoves = (post : List Moves.Message) (p : Page) (w : Row) (e : Effect) → started_at r p w ≡ Ok e → MovesTo carries post r p w None e

-- all calls of a replica
pub record CallsMove (carries : ℕ → ℕ → Bool) (need : Need) (r : ℕ) : Type 0 where
  pub view : ViewMoves carries need r
  pub delivery : DeliveryMoves carries need r
  pub loss : LossMoves carries need r
  pub stop : StopMoves carries need r
  pub start : StartMoves carries need r

-- By every relation that grows and meets every call of every replica is a chain of moves. Page, row and message need no premise:
-- a call is refused where they break their rules.
abbrev pub Refines : Type 0
Refines = (carries : ℕ → ℕ → Bool) → Grows carries → Meets carries → (need : Need) (r : ℕ) → CallsMove carries need r
