-- The floor and the post that a program plays on. Assumes nothing.
use Rattle.std.specs.Prelude.{ℕ, Bool, true, false, List, Result, vec_capacity}
use Rattle.floor.specs.Led.{CallWithFindings}
use Rattle.floor.specs.Worlds.{world}
use Rattle.floor.specs.declared.floor.Floor.{Floor}
use Rattle.manager.specs.declared.answer.Answer.{Answer}
use Rattle.quorum.specs.Choices.{chosen}
use Rattle.quorum.specs.declared.choice.ChosenRule.{ChosenRule}
use Rattle.quorum.specs.declared.fault.Failure.{Failure}
use Rattle.rows.specs.declared.message.Message.{Message}
use Rattle.runs.specs.World.{World}
use Rattle.runs.specs.declared.work.Call.{Call}
use Rattle.stores.specs.declared.held.HeldPages.{HeldPages}
use Rattle.board.specs.declared.play.Play.{Play}
use Rattle.board.specs.declared.play.Play.TheVariants.{Before, Founded}

-- a founding was accepted
abbrev pub is_founded : Play → Bool
is_founded (Before floor post) = false
is_founded (Founded session) = true

abbrev pub floor_of : Play → Floor ChosenRule HeldPages
floor_of (Before floor post) = floor
floor_of (Founded session) = session.floor

-- the messages of the post
abbrev pub messages_of : Play → List Message
messages_of (Before floor post) = post.items
messages_of (Founded session) = session.post.items

-- how many messages the post has memory for
abbrev pub capacity_of : Play → ℕ
capacity_of (Before floor post) = vec_capacity post
capacity_of (Founded session) = vec_capacity session.post

-- the world that floor and post are; held pages always have 65,535 places
abbrev pub world_of : Play → World
world_of play = world (λ s. s.pages) (λ _. 65535) (floor_of play) (messages_of play)

-- Of a call of a session: the run that led there goes on by it, and has the three findings. Before a founding there is none.
abbrev pub CarriesFindings : Play → Call → Result Answer Failure → Play → Type 0
CarriesFindings (Before floor post) call answer after = Unit {0}
CarriesFindings (Founded session) call answer after =
    ∥ CallWithFindings (chosen session.floor.rule) (world_of (Founded session)) call answer (world_of after) ∥₁
