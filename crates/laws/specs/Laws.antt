-- What every call keeps to, whatever the rule, page, row and argument. Assumes nothing.
use Rattle.std.specs.Prelude.{◌≡◌, ℕ, ◌≤◌, Bool, true, ◌≢◌, Some, None, Ok, Err, Option, Result}
use Rattle.quorum.specs.declared.fault.Fault.{Fault}
use Rattle.rows.specs.Messages.{message_keeps}
use Rattle.rows.specs.Rows.{row_keeps}
use Rattle.rows.specs.declared.message.Body.{Body}
use Rattle.rows.specs.declared.message.Body.TheVariants.{State, Abort, Join, Recorded, Report as Reports}
use Rattle.rows.specs.declared.message.Message.{Message}
use Rattle.rows.specs.declared.message.Posts.{Posts}
use Rattle.rows.specs.declared.message.Posts.TheVariants.{Nothing, One, Two}
use Rattle.rows.specs.declared.row.Row.{Row}
use Rattle.stores.specs.Rules.{keeps_rules}
use Rattle.stores.specs.declared.page.Page.{Page}
use Rattle.stores.specs.declared.view.Head.{Head}
use Rattle.stores.specs.declared.view.Number.{Number}
use Rattle.manager.specs.declared.need.Need.{Need}
use Rattle.manager.specs.Calls.{answer_of, page_left, row_left}
use Rattle.manager.specs.Effects.{Effect}
use Rattle.manager.specs.Requests.{Request, effect_of}
use Rattle.manager.specs.Requests.Request.{loss}
use Rattle.manager.specs.Verdicts.{verdict_of}
use Rattle.laws.specs.Known.{head_under}
use Rattle.manager.specs.declared.verdict.Verdict.TheVariants.{Records}

-- ---- the rules are kept
-- each message keeps the message rules
abbrev pub PostsKeep : Posts → Type 0
PostsKeep Nothing = Unit {0}
PostsKeep (One m) = message_keeps m ≡ true
PostsKeep (Two m n) = (message_keeps m ≡ true) × (message_keeps n ≡ true)

-- page and row keep the rules, and so do the messages to be posted
pub record Keeps (r : ℕ) (e : Effect) : Type 0 where
  pub page : keeps_rules r e.page ≡ true
  pub row : row_keeps r e.page e.row ≡ true
  pub posts : PostsKeep e.answer.posts

-- ---- nothing falls
-- a mark that is there stays there, not lower
abbrev pub NotLower : Option Number → Option Number → Type 0
NotLower None n = Unit {0}
NotLower (Some m) None = ⊥
NotLower (Some m) (Some n) = m.0 ≤ n.0

-- from the page p to the page q neither the top stamp nor the mark falls
pub record Advances (p q : Page) : Type 0 where
  pub top : p.top.0 ≤ q.top.0
  pub mark : NotLower p.mark q.mark

-- ---- what is posted
-- a message is the replica's own, under the head of the call
pub record OwnWord (r : ℕ) (head : Option Head) (m : Message) : Type 0 where
  pub sender : m.sender ≡ r
  pub under : head ≡ Some m.head

-- Recorded and Report, the kinds that may follow another message
abbrev pub IsSecond : Body → Type 0
IsSecond (State c s) = ⊥
IsSecond Abort = ⊥
IsSecond Join = ⊥
IsSecond (Recorded n part) = Unit {0}
IsSecond (Reports m) = Unit {0}

-- each message is the replica's own
abbrev pub OwnWords : ℕ → Option Head → Posts → Type 0
OwnWords r head Nothing = Unit {0}
OwnWords r head (One m) = OwnWord r head m
OwnWords r head (Two m n) = OwnWord r head m × OwnWord r head n × IsSecond n.body

-- ---- the laws, of every accepted call
-- whatever the rule, need, replica, page, row and request: a call that is accepted has this
abbrev pub EveryCall : ((ℕ → ℕ → Bool) → Need → ℕ → Page → Row → Request → Effect → Type 0) → Type 0
EveryCall P =
    (f : ℕ → ℕ → Bool) (need : Need) (r : ℕ) (p : Page) (w : Row) (q : Request) (e : Effect) →
    effect_of f need r p w q ≡ Ok e → P f need r p w q e

-- and a call that is refused, this
abbrev pub EveryRefusal : (Page → Row → Result Effect Fault → Fault → Type 0) → Type 0
EveryRefusal P =
    (f : ℕ → ℕ → Bool) (need : Need) (r : ℕ) (p : Page) (w : Row) (q : Request) (fault : Fault) →
    effect_of f need r p w q ≡ Err fault → P p w (effect_of f need r p w q) fault

-- the page and row left keep the rules, and so does each message posted
abbrev pub CallsKeep : Type 0
CallsKeep = EveryCall (λ f need r p w q e. Keeps r e)

-- the top stamp and the mark never fall
abbrev pub CallsAdvance : Type 0
CallsAdvance = EveryCall (λ f need r p w q e. Advances p e.page)

-- What a call posts is the replica's own word under the head of the call. So a start and a stop, which have none, post
-- nothing; nor does a loss where the row did not stand to be recorded.
pub record PostsOwn : Type 0 where
  pub own : EveryCall (λ f need r p w q e. OwnWords r (head_under w q) e.answer.posts)
  pub nothing : EveryCall (λ f need r p w q e. head_under w q ≡ None → e.answer.posts ≡ Nothing)
  pub losses : EveryCall (λ f need r p w q e.
      (x : ℕ) → q ≡ loss x → verdict_of f need r p w ≢ Records → e.answer.posts ≡ Nothing)

-- a refused call leaves page and row as they were, and answers its fault
pub record RefusalsLeave : Type 0 where
  pub page : EveryRefusal (λ p w a fault. page_left p a ≡ p)
  pub row : EveryRefusal (λ p w a fault. row_left w a ≡ w)
  pub answer : EveryRefusal (λ p w a fault. answer_of a ≡ Err fault)
