-- What the moves see: of a replica's page and row as much as the findings rest on, and the messages that replicas form.
-- Replicas are numbered from 0, a set is the number of its bits, and `has` says who is in it. Here and in what follows q, r and p are replicas,
-- x is what one of them keeps, h is a head, v and u are views, d is a recorded view, m is a message or a report. Assumes nothing.
use Rattle.std.specs.Prelude.{◌≡◌, ℕ, ◌≤◌, max, Bool, true, false, ◌⊎◌, List, [], ◌∷◌, Some, None, Option}
use Rattle.stores.specs.declared.view.Head.{Head}
use Rattle.stores.specs.declared.view.Number.{Number}
use Rattle.stores.specs.declared.view.Recorded.{Recorded}
use Rattle.stores.specs.declared.view.Stamp.{Stamp}
use Rattle.stores.specs.declared.view.View.{View}
use Rattle.stores.specs.Views.{recorded}

abbrev pub number : ℕ → Number
number n = record { 0 = n }

-- a mark raised to n
abbrev pub raise : Option Number → ℕ → Option Number
raise None n = Some (number n)
raise (Some m) n = Some (number (max m.0 n))

-- the mark is absent, or not above n
abbrev pub Upto : Option Number → ℕ → Type 0
Upto mark n = (m : Number) → mark ≡ Some m → m.0 ≤ n

-- What a replica reports of its page: its mark, its component view and its recorded view.
pub record Report : Type 0 where
  pub mark : Option Number
  pub component : Option View
  pub recorded : Option Recorded

-- How far a replica has come under its head. A set is of those heard as recording members.
pub data Phase : Type 0 where
  -- the head is taken up, and no more
  taken : Phase
  -- a member that has not recorded the head, and one that has
  gathering : (heard : ℕ) → Phase
  confirming : (heard : ℕ) → Phase
  -- a newcomer that has not recorded the head, with its reference once it has one, and one that has
  applying : (reference : Option View) → Phase
  entering : (reference : View) (heard : ℕ) → Phase
  -- a round, with the report heard from each replica
  round : (reports : ℕ → Option Report) → Phase

pub data Row : Type 0 where
  idle : Row
  under : Head → Phase → Row

-- A replica: whether it is up and in normal mode, its page, and its row.
pub record Node : Type 0 where
  pub normal : Bool
  pub top : Stamp
  pub mark : Option Number
  pub component : Option View
  pub recorded : Option Recorded
  pub row : Row

abbrev pub node : Bool → Stamp → Option Number → Option View → Option Recorded → Row → Node
node normal top mark component held row = record { normal = normal; top = top; mark = mark; component = component; recorded = held; row = row }

abbrev pub with_row : Node → Row → Node
with_row x row = node x.normal x.top x.mark x.component x.recorded row

-- out of normal mode, or down
abbrev pub leaving : Node → Row → Node
leaving x row = node false x.top x.mark x.component x.recorded row

-- under a head just taken up: the top stamp is the head's
abbrev pub taking_up : Node → Head → Node
taking_up x h = node x.normal h.stamp x.mark x.component x.recorded (under h taken)

-- the head is recorded with the number n, and the mark raised to it
abbrev pub recording : Node → Bool → ℕ → Head → Phase → Node
recording x normal n h phase = node normal x.top (raise x.mark n) x.component (Some (recorded n h.set.0 h.stamp.0)) (under h phase)

-- v is the component view now: nothing is recorded, the mode is normal, and the head is closed
abbrev pub holding : Node → Option Number → View → Node
holding x mark v = node true x.top mark (Some v) None idle

-- neither view any more, the mark kept
abbrev pub spare : Node → Node
spare x = node false x.top x.mark None None idle

-- what the replica would report now
abbrev pub content : Node → Report
content x = record { mark = x.mark; component = x.component; recorded = x.recorded }

-- A message: its sender, the sender's head, and what is said. The other kinds of messages do not bear on the findings.
pub data Message : Type 0 where
  -- the sender's component view
  state_from : ℕ → Head → View → Message
  -- the number that the sender recorded, as a member
  recorded_from : ℕ → Head → Number → Message
  report_from : ℕ → Head → Report → Message

module _ {A : Type 0} where
  abbrev pub In : A → List A → Type 0
  In a [] = ⊥
  In a (x ∷ xs) = (a ≡ x) ⊎ In a xs
