-- Calls, and runs of calls. Assumes nothing.
use Rattle.std.specs.Prelude.{◌≡◌, ℕ, zero, suc, Bool, true, ◌≢◌, ◌⊎◌, List, [], ◌∷◌, Some, None, Option}
use Rattle.stores.specs.declared.view.Recorded.{Recorded}
use Rattle.stores.specs.declared.view.View.{View}
use Rattle.safety.specs.Replicas.{number, Node, leaving, Message, In}
use Rattle.safety.specs.Replicas.Row.{idle}
use Rattle.safety.specs.Moves.{Settlement, Chain}

-- All replicas, and the post.
pub record World : Type 0 where
  pub at : ℕ → Node
  pub post : List Message

-- A call of r turned w into v: r is x now, the others are as they were, and what is in the post was there or is one of ms.
pub record Turned (r : ℕ) (w : World) (x : Node) (ms : List Message) (v : World) : Type 0 where
  pub here : v.at r ≡ x
  pub others : (q : ℕ) → q ≢ r → v.at q ≡ w.at q
  pub posted : (m : Message) → In m v.post → In m ms ⊎ In m w.post

-- What a call did: the messages that it formed, posted or cut off, the settlement of a round that it ended, and the world after it.
pub record Step : Type 0 where
  pub formed : List Message
  pub settled : Option Settlement
  pub world : World

abbrev pub done : List Message → Option Settlement → World → Step
done formed settled world = record { formed = formed; settled = settled; world = world }

-- How a call of r that made it x and formed ms turned w into v: whole; or cut off, with the new page or with the old. Cut off, it posted nothing and left the row empty.
pub data Ended (r : ℕ) (w : World) (x : Node) (ms : List Message) (v : World) : Type 0 where
  whole : Turned r w x ms v → Ended r w x ms v
  cut_new : Turned r w (leaving x idle) [] v → Ended r w x ms v
  cut_old : Turned r w (leaving (w.at r) idle) [] v → Ended r w x ms v

module _ (carries : ℕ → ℕ → Bool) where
  -- A call is a chain of moves at one replica, whole or cut off. One that is refused is the chain of no moves.
  pub record Call (w : World) (s : Step) : Type 0 where
    pub at : ℕ
    pub becomes : Node
    pub chain : Chain carries w.post at (w.at at) s.formed s.settled becomes
    pub ended : Ended at w becomes s.formed s.world

  pub data Run : World → List Step → Type 0 where
    none : {w : World} → Run w []
    call : {w : World} {s : Step} {ss : List Step} → Call w s → Run s.world ss → Run w (s ∷ ss)

-- the world after call t; calls are numbered from 1, and 0 is the start
abbrev pub world_at : World → List Step → ℕ → World
world_at w ss zero = w
world_at w [] (suc t) = w
world_at w (s ∷ ss) (suc t) = world_at s.world ss t

-- the messages that call t formed
abbrev pub formed_at : List Step → ℕ → List Message
formed_at ss zero = []
formed_at [] (suc t) = []
formed_at (s ∷ ss) (suc zero) = s.formed
formed_at (s ∷ ss) (suc (suc t)) = formed_at ss (suc t)

-- the settlement of call t
abbrev pub settled_at : List Step → ℕ → Option Settlement
settled_at ss zero = None
settled_at [] (suc t) = None
settled_at (s ∷ ss) (suc zero) = s.settled
settled_at (s ∷ ss) (suc (suc t)) = settled_at ss (suc t)

-- A world to start from, as a founding leaves it: the first view is the only component view, somebody has it, marks fit, and nothing is under way.
pub record Started (first : View) (w : World) : Type 0 where
  pub some : (q : ℕ) × ((w.at q).component ≡ Some first)
  pub only : (q : ℕ) (v : View) → (w.at q).component ≡ Some v → first ≡ v
  pub marked : (q : ℕ) (v : View) → (w.at q).component ≡ Some v → ((w.at q).mark ≡ Some v.number) ⊎ ((w.at q).mark ≡ Some (number (suc v.number.0)))
  pub recorded_marked : (q : ℕ) (d : Recorded) → (w.at q).recorded ≡ Some d → (w.at q).mark ≡ Some d.view.number
  pub apart : (q : ℕ) (v : View) (d : Recorded) → (w.at q).component ≡ Some v → (w.at q).recorded ≢ Some d
  pub free : (q : ℕ) → (w.at q).normal ≡ true → (w.at q).recorded ≡ None
  pub idle_rows : (q : ℕ) → (w.at q).row ≡ idle
  pub silent : w.post ≡ []
