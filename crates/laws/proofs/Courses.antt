-- How an accepted call under a head goes: the page and row that it comes to judge, what it posts, and what the verdict
-- rests on. The
-- laws follow from this by the verdict alone. Assumes nothing.
use Rattle.std.proofs.Common.{◌≡◌, ℕ, Bool, true, ◌⊎◌, Some, None, Option, refl, subst, inl}
use Rattle.rounds.specs.declared.outcome.Outcome.TheVariants.{Spare}
use Rattle.rows.specs.Messages.{message_keeps}
use Rattle.rows.specs.Rows.{row_keeps}
use Rattle.rows.specs.declared.message.Body.TheVariants.{Abort}
use Rattle.rows.specs.declared.message.Message.{Message}
use Rattle.rows.specs.declared.message.Posts.{Posts}
use Rattle.rows.specs.declared.message.Posts.TheVariants.{Nothing, One, Two}
use Rattle.rows.specs.declared.row.Row.{Row}
use Rattle.stores.specs.declared.page.Mode.TheVariants.{Waiting}
use Rattle.stores.specs.declared.page.Page.{Page}
use Rattle.stores.specs.declared.view.Head.{Head}
use Rattle.manager.specs.Calls.{head_of}
use Rattle.manager.specs.Effects.{Effect, effect, ending, closed, spare_page, spare_row, carried_out, posts_of}
use Rattle.manager.specs.Requests.{Request}
use Rattle.manager.specs.Requests.Request.{delivery}
use Rattle.manager.specs.declared.need.Need.{Need}
use Rattle.manager.specs.declared.verdict.Verdict.{Verdict}
use Rattle.laws.specs.Grounds.{RecordedBy, OutdoneBy, IsRound}
use Rattle.laws.specs.Known.{Known, last_of, part_in, part_told, counted}
use Rattle.laws.specs.Laws.{Advances, IsSecond}
use Rattle.laws.proofs.Judged.{Agrees, Fits}
use Rattle.stores.proofs.Kept.{Tests}

-- ---- messages
-- a message of replica r under the head h that keeps the rules
pub record Said (r : ℕ) (h : Head) (m : Message) : Type 0 where
  pub keeps : message_keeps m ≡ true
  pub sender : m.sender ≡ r
  pub head : m.head ≡ h

abbrev pub Says : ℕ → Head → Posts → Type 0
Says r h Nothing = Unit {0}
Says r h (One m) = Said r h m
Says r h (Two m n) = Said r h m × Said r h n × IsSecond n.body

-- a message that a call posts first, if it does: no Recorded
abbrev pub First : ℕ → Head → Option Message → Type 0
First r h None = Unit {0}
First r h (Some m) = Said r h m × (part_in m.body ≡ None)

-- one that it posts after that
abbrev pub Second : ℕ → Head → Option Message → Type 0
Second r h None = Unit {0}
Second r h (Some m) = Said r h m × IsSecond m.body

pub says : (r : ℕ) (h : Head) (a b : Option Message) → First r h a → Second r h b → Says r h (posts_of a b)
says r h None None x y = tt
says r h None (Some m) x y = y.0
says r h (Some m) None x y = x.0
says r h (Some m) (Some n) x y = (x.0, y.0, y.1)

pub untold : (r : ℕ) (h : Head) (a : Option Message) → First r h a → part_told (last_of (posts_of a None)) ≡ None
untold r h None x = refl
untold r h (Some m) x = x.1

pub last_posted : (a : Option Message) (m : Message) → last_of (posts_of a (Some m)) ≡ Some m
last_posted None m = refl
last_posted (Some a) m = refl

-- a call, under the head h with k known, that found the page q; `In` says that it is in a round
module _ (f : ℕ → ℕ → Bool) (need : Need) (r : ℕ) (h : Head) (k : Known) (q : Page) (In : Type 0) where
  -- it comes to this page and row, the head open and both views as they were
  pub record Brought (p : Page) (w : Row) : Type 0 where
    pub page : Tests r p
    pub row : row_keeps r p w ≡ true
    pub same : head_of w.stage ≡ Some h
    pub known : Agrees k w
    pub advances : Advances q p
    pub component : p.component ≡ q.component
    pub recorded : p.recorded ≡ q.recorded
    pub enters : In → IsRound w.stage
    pub leaves : IsRound w.stage → In

  -- it comes to them with these posts, perhaps recorded on the way
  pub record Stands (posts : Posts) (p : Page) (w : Row) : Type 0 where
    pub page : Tests r p
    pub row : row_keeps r p w ≡ true
    pub same : head_of w.stage ≡ Some h
    pub known : Agrees (counted r k posts) w
    pub advances : Advances q p
    pub component : p.component ≡ q.component
    pub recorded : ((p.recorded ≡ q.recorded) ×
        (part_told (last_of posts) ≡ None)) ⊎ RecordedBy need r (Some h) k q.component p.recorded posts
    pub enters : In → IsRound w.stage
    pub leaves : IsRound w.stage → In
    pub says : Says r h posts

  pub standing : (posts : Posts) (p : Page) (w : Row) → part_told (last_of posts) ≡ None → Says r h posts →
      Brought p w → Stands posts p w
  standing posts p w e s b = record {
    page = b.page;
    row = b.row;
    same = b.same;
    known = subst (λ (x : Known). Agrees x w) (rw e) b.known;
    advances = b.advances;
    component = b.component;
    recorded = inl (b.recorded, e);
    enters = b.enters;
    leaves = b.leaves;
    says = s;
  }

  -- A call made by the request x comes to an effect.
  pub data Course (x : Request) : Effect → Type 0 where
    judged_so : (posts : Posts) (p : Page) (w : Row) (v : Verdict) → Stands posts p w →
        Fits f need r h (counted r k posts) p w.stage v → Course x (carried_out r p w posts v)
    outdone : (w : Row) → Brought q w → OutdoneBy q x → In →
        Course x (ending (spare_page q) (spare_row w) Nothing Spare None)
    aborted : (w : Row) (m : Message) → Brought q w → x ≡ delivery m → m.body ≡ Abort → q.mode ≡ Waiting → (In → ⊥) →
        Course x (effect q (closed w) Nothing)
