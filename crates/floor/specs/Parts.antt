-- The parts of a call: the manager's work, and how the floor ends it. Assumes nothing.
use Rattle.std.specs.Prelude.{◌≡◌, ℕ, Bool, ◌&&◌, ◌⊎◌, List, ◌++◌, length, Ok, Err, Result, nat_le, slice_set}
use Rattle.quorum.specs.declared.fault.Failure.{Failure}
use Rattle.quorum.specs.declared.fault.Failure.TheVariants.{Refused}
use Rattle.quorum.specs.declared.fault.Fault.{Fault}
use Rattle.manager.specs.Effects.{Effect}
use Rattle.rows.specs.declared.message.Message.{Message}
use Rattle.rows.specs.declared.row.Row.{Row}
use Rattle.runs.specs.World.{World, replica_of, asked, listed, Posted, Same}
use Rattle.runs.specs.declared.work.Work.{Work}
use Rattle.stores.specs.Kept.{Spent}
use Rattle.floor.specs.Tasks.{wants_room}
use Rattle.floor.specs.declared.accepted.Accepted.{Accepted}

-- it wants room, and the post lacks two free places
abbrev pub crowded : Accepted → List Message → Bool
crowded a post = a.limited && nat_le 65535 (length post)

-- the post's room is asked for, and then the store's place
abbrev pub Tested : World → Accepted → Result Unit Failure → Type 0
Tested u a r = Posted (crowded a u.post) u.places a.kept.replica r

-- The call k had the effect e at w: what is left to be done for it, and the world u, in which its row is changed.
pub record Ready (f : ℕ → ℕ → Bool) (w : World) (k : Work) (e : Effect) (a : Accepted) (u : World) : Type 0 where
  pub replica_is : a.kept.replica ≡ replica_of k
  pub page_is : a.kept.page ≡ e.page
  pub limited_is : a.limited ≡ wants_room k
  pub answer_is : a.answer ≡ e.answer
  pub pages_are : u.pages ≡ w.pages
  pub rows_are : u.rows ≡ slice_set w.rows (replica_of k) e.row
  pub post_is : u.post ≡ w.post
  pub places_are : u.places ≡ w.places
  pub need_is : u.need ≡ w.need

-- a call that the manager was asked for
abbrev pub Asked : (ℕ → ℕ → Bool) → World → Work → Result Accepted Fault → World → Type 0
Asked f w k (Ok a) u = (e : Effect) × (asked f w k ≡ Ok e) × Ready f w k e a u
Asked f w k (Err fault) u = (asked f w k ≡ Err fault) × Same w u

-- the page is written and the messages are posted
pub record Stored (u : World) (a : Accepted) (v : World) : Type 0 where
  pub pages_are : v.pages ≡ slice_set u.pages a.kept.replica a.kept.page
  pub rows_are : v.rows ≡ u.rows
  pub post_is : v.post ≡ u.post ++ listed a.answer.posts
  pub places_are : Spent u.places v.places
  pub need_is : v.need ≡ u.need

-- the page's write is broken off
pub record Torn (u : World) (a : Accepted) (v : World) : Type 0 where
  pub pages_are : (v.pages ≡ u.pages) ⊎ (v.pages ≡ slice_set u.pages a.kept.replica a.kept.page)
  pub rows_are : v.rows ≡ u.rows
  pub post_is : v.post ≡ u.post
  pub places_are : Spent u.places v.places
  pub need_is : v.need ≡ u.need

-- the row is put back as it was before
pub record PutBack (u : World) (a : Accepted) (before : Row) (v : World) : Type 0 where
  pub pages_are : v.pages ≡ u.pages
  pub rows_are : v.rows ≡ slice_set u.rows a.kept.replica before
  pub post_is : v.post ≡ u.post
  pub places_are : v.places ≡ u.places
  pub need_is : v.need ≡ u.need

-- a refusal as the floor's callers see it
abbrev pub as_failure : Result Unit Fault → Result Unit Failure
as_failure (Ok u) = Ok u
as_failure (Err fault) = Err (Refused fault)
