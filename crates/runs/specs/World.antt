-- The floor's calls: what each does to pages, rows and post, or why it is refused. Assumes nothing.
use Rattle.std.specs.Prelude.{◌≡◌, ℕ, ◌<◌, Bool, true, false, if◌then◌else◌, not, ◌⊎◌, List, [], ◌∷◌, ◌++◌, length, Some, None, Ok, Err, Option, Result, ◌==◌, nat_le, nat_lt, slice_index_or, slice_set}
use Rattle.std.specs.Option.{option_or}
use Rattle.quorum.specs.declared.fault.Failure.{Failure}
use Rattle.quorum.specs.declared.fault.Failure.TheVariants.{Refused, NoMemory}
use Rattle.quorum.specs.declared.fault.Fault.{Fault}
use Rattle.quorum.specs.declared.fault.Layer.TheVariants.{Floor}
use Rattle.quorum.specs.declared.fault.Reason.{Reason}
use Rattle.quorum.specs.declared.fault.Reason.TheVariants.{NoSuchReplica, WrongPower, NoSuchMessage, PostFull}
use Rattle.manager.specs.Calls.{message_refusal, viewed, delivered, lost_at, started_at}
use Rattle.manager.specs.Effects.{Effect}
use Rattle.manager.specs.declared.answer.Answer.{Answer}
use Rattle.manager.specs.declared.need.Need.{Need}
use Rattle.rows.specs.declared.message.Body.TheVariants.{Abort}
use Rattle.rows.specs.declared.message.Message.{Message}
use Rattle.rows.specs.declared.message.Posts.{Posts}
use Rattle.rows.specs.declared.message.Posts.TheVariants.{Nothing, One, Two}
use Rattle.rows.specs.declared.row.Row.{Row}
use Rattle.stores.specs.Kept.{page_at, Spent, no_place}
use Rattle.stores.specs.Views.{head}
use Rattle.stores.specs.declared.page.Page.{Page}
use Rattle.runs.specs.Founding.{row_at}
use Rattle.runs.specs.declared.work.Call.{Call}
use Rattle.runs.specs.declared.work.Call.TheVariants.{Whole, Cut, Stop}
use Rattle.runs.specs.declared.work.Work.{Work}
use Rattle.runs.specs.declared.work.Work.TheVariants.{View, Deliver, Loss, Start}
use Rattle.quorum.specs.Faults.{refused_at, refused_if}
use Rattle.rows.specs.Rows.{empty_row}

-- all that a call sees and changes
pub record World : Type 0 where
  pub pages : List Page
  pub places : ℕ
  pub rows : List Row
  pub post : List Message
  pub need : Need

-- the replica at which a call is made
abbrev pub replica_of : Work → ℕ
replica_of (View r h) = r
replica_of (Deliver r i) = r
replica_of (Loss r q) = r
replica_of (Start r) = r

-- the same of a call that is whole, cut off or a stop
abbrev pub replica_of_call : Call → ℕ
replica_of_call (Whole work) = replica_of work
replica_of_call (Cut work n) = replica_of work
replica_of_call (Stop r) = r

-- ---- refusals of the floor
abbrev pub floor_refusal : Reason → ℕ → Fault
floor_refusal reason r = refused_at Floor reason r

-- refused, or what comes after
abbrev pub unless : Option Fault → Result Effect Fault → Result Effect Fault
unless None rest = rest
unless (Some fault) rest = Err fault

-- the message at an index of the post
abbrev pub message_at : List Message → ℕ → Option Message
message_at post i = if nat_lt i (length post) then Some (slice_index_or post i (record { sender = 0; head = head 0 0; body = Abort })) else None

-- a replica above 15; one that is down, or at a start up
abbrev pub up_test : List Row → ℕ → Option Fault
up_test rows r = option_or (refused_if (nat_le 16 r) (floor_refusal NoSuchReplica r)) (refused_if (not (row_at rows r).up) (floor_refusal WrongPower r))

abbrev pub down_test : List Row → ℕ → Option Fault
down_test rows r = option_or (refused_if (nat_le 16 r) (floor_refusal NoSuchReplica r)) (refused_if (row_at rows r).up (floor_refusal WrongPower r))

-- of a loss also the lost one above 15
abbrev pub loss_test : List Row → ℕ → ℕ → Option Fault
loss_test rows r q = option_or (refused_if (nat_le 16 r) (floor_refusal NoSuchReplica r)) (option_or (refused_if (nat_le 16 q) (floor_refusal NoSuchReplica q)) (refused_if (not (row_at rows r).up) (floor_refusal WrongPower r)))

-- a message against the rules comes first, an index past the post after the replica's refusals
abbrev pub delivery_test : List Row → ℕ → Option Message → Option Fault
delivery_test rows r None = option_or (up_test rows r) (Some (floor_refusal NoSuchMessage r))
delivery_test rows r (Some m) = option_or (message_refusal r m) (up_test rows r)

-- ---- what a call does, or why it is refused: the floor's refusals and the manager's
module _ (f : ℕ → ℕ → Bool) (w : World) where
  abbrev pub page_of : ℕ → Page
  page_of r = page_at w.pages r

  abbrev pub row_of : ℕ → Row
  row_of r = row_at w.rows r

  abbrev pub delivered_or_not : ℕ → Option Message → Result Effect Fault
  delivered_or_not r None = Err (floor_refusal NoSuchMessage r)
  delivered_or_not r (Some m) = delivered f w.need r (page_of r) (row_of r) m

  abbrev pub asked : Work → Result Effect Fault
  asked (View r h) = unless (up_test w.rows r) (viewed f w.need r (page_of r) (row_of r) h)
  asked (Deliver r i) = unless (delivery_test w.rows r (message_at w.post i)) (delivered_or_not r (message_at w.post i))
  asked (Loss r q) = unless (loss_test w.rows r q) (lost_at f w.need r (page_of r) (row_of r) q)
  asked (Start r) = unless (down_test w.rows r) (started_at r (page_of r) (row_of r))

  -- a view or delivery wants two free places in the post of 65,536
  abbrev pub full : Work → Bool
  full (View r h) = nat_le 65535 (length w.post)
  full (Deliver r i) = nat_le 65535 (length w.post)
  full (Loss r q) = false
  full (Start r) = false

  -- the post's room and the store's place are asked for last
  abbrev pub placed : Work → Result Effect Fault → Result Effect Fault
  placed k (Err fault) = Err fault
  placed k (Ok e) = unless (option_or (refused_if (full k) (floor_refusal PostFull (replica_of k))) (refused_if (w.places == 0) (no_place (replica_of k)))) (Ok e)

  unfoldable pub ruled : Work → Result Effect Fault
  ruled k = placed k (asked k)

-- ---- what is left
abbrev pub listed : Posts → List Message
listed Nothing = []
listed (One m) = m ∷ []
listed (Two m n) = m ∷ n ∷ []

-- something is posted
abbrev pub PostsSome : Effect → Type 0
PostsSome e = 0 < length (listed e.answer.posts)

-- of a post that is full or not, and then of the store's places: done, refused by the first that lacks, or no memory where neither lacks
abbrev pub Posted : Bool → ℕ → ℕ → Result Unit Failure → Type 0
Posted full places r (Ok _) = (full ≡ false) × (0 < places)
Posted full places r (Err (Refused fault)) = ((full ≡ true) × (fault ≡ floor_refusal PostFull r)) ⊎ ((full ≡ false) × (places ≡ 0) × (fault ≡ no_place r))
Posted full places r (Err NoMemory) = (full ≡ false) × (0 < places)

-- whether it was, and not what is answered
abbrev pub unit_of : Result Answer Failure → Result Unit Failure
unit_of (Ok a) = Ok tt
unit_of (Err e) = Err e

-- one page and one row changed, and messages posted
pub record Changed (before after : World) (r : ℕ) (p : Page) (row : Row) (posted : List Message) : Type 0 where
  pub pages_are : after.pages ≡ slice_set before.pages r p
  pub rows_are : after.rows ≡ slice_set before.rows r row
  pub post_is : after.post ≡ before.post ++ posted
  pub places_are : Spent before.places after.places
  pub need_is : after.need ≡ before.need

-- nothing changed
pub record Same (before after : World) : Type 0 where
  pub pages_are : after.pages ≡ before.pages
  pub rows_are : after.rows ≡ before.rows
  pub post_is : after.post ≡ before.post
  pub places_are : after.places ≡ before.places
  pub need_is : after.need ≡ before.need

-- a call that was carried out, refused, or found no memory for what it would have posted
abbrev pub Did : (ℕ → ℕ → Bool) → World → Work → Result Answer Failure → World → Type 0
Did f w k (Ok a) v = (e : Effect) × (ruled f w k ≡ Ok e) × (a ≡ e.answer) × Changed w v (replica_of k) e.page e.row (listed e.answer.posts)
Did f w k (Err (Refused fault)) v = (ruled f w k ≡ Err fault) × Same w v
Did f w k (Err NoMemory) v = (e : Effect) × (ruled f w k ≡ Ok e) × PostsSome e × Same w v

-- a call that was cut off: the page is the old one or the new one, nothing is posted, the row is stopped
pub record Broken (before after : World) (r : ℕ) (p : Page) : Type 0 where
  pub pages_are : (after.pages ≡ before.pages) ⊎ (after.pages ≡ slice_set before.pages r p)
  pub rows_are : after.rows ≡ slice_set before.rows r (empty_row false)
  pub post_is : after.post ≡ before.post
  pub places_are : Spent before.places after.places
  pub need_is : after.need ≡ before.need
