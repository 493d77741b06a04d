-- From the floor's and the manager's answers to what a call does. Assumes nothing.
use Rattle.std.proofs.Common.{◌≡◌, ℕ, ◌+◌, ◌<◌, Bool, false, ◌&&◌, ◌==◌, nat_le, length, IfOk, Some, None, Ok, Err, Option, Result, sym, refl, ap, ap₂, ◌∙◌, ⊎_elim, subst, OnOk, OnErr, arith, set}
use Rattle.std.proofs.lemmas.Bool.{eq-eqb, ne_eqb}
use Rattle.std.proofs.lemmas.List.{set-set, set-get_or}
use Rattle.std.specs.Option.{option_or}
use Rattle.quorum.specs.declared.fault.Failure.{Failure}
use Rattle.quorum.specs.declared.fault.Failure.TheVariants.{Refused, NoMemory}
use Rattle.quorum.specs.declared.fault.Fault.{Fault}
use Rattle.quorum.specs.declared.fault.Reason.TheVariants.{PostFull}
use Rattle.quorum.specs.Faults.{refused_if, given}
use Rattle.manager.specs.Calls.{answer_of, page_left, row_left, stopped_at}
use Rattle.manager.specs.Effects.{Effect}
use Rattle.manager.specs.declared.answer.Answer.{Answer}
use Rattle.manager.specs.declared.need.Need.{Need}
use Rattle.laws.specs.Laws.{Keeps}
use Rattle.laws.proofs.Calls.{viewed_keeps, delivered_keeps, lost_keeps, started_keeps, stopped_keeps, stopped_so}
use Rattle.rows.specs.declared.message.Message.{Message}
use Rattle.rows.specs.declared.row.Row.{Row}
use Rattle.runs.specs.Founding.{row_at}
use Rattle.runs.specs.Steps.{Halted, quiet, stopped}
use Rattle.runs.specs.World.{World, replica_of, floor_refusal, unless, message_at, up_test, down_test, loss_test, delivery_test, page_of, row_of, delivered_or_not, asked, full, placed, ruled, Posted, listed, unit_of, Same, Broken, Did}
use Rattle.runs.specs.declared.work.Work.{Work}
use Rattle.runs.specs.declared.work.Work.TheVariants as works
use Rattle.stores.specs.Kept.{no_place}
use Rattle.stores.specs.declared.page.Page.{Page}
use Rattle.floor.specs.Cuts.{TornAt, LeftAt}
use Rattle.floor.specs.Memory.{LacksRoomFor}
use Rattle.floor.specs.Parts.{crowded, Ready, Stored, PutBack, Tested}
use Rattle.floor.specs.Tasks.{managed, lent, delivery_task, tasked, wants_room}
use Rattle.floor.specs.declared.accepted.Accepted.{Accepted}
use Rattle.floor.specs.declared.task.Task.{Task}
use Rattle.floor.specs.declared.task.Task.TheVariants as tasks
use Rattle.rows.specs.Rows.{empty_row}

-- ---- the floor's part
given_ok : {A : Type 0} (o : Option Fault) (a b : A) → Ok b ≡ given o a → ((rest : Result Effect Fault) → unless o rest ≡ rest) × (b ≡ a)
given_ok None a b e = (λ rest. refl, cc)
given_ok (Some y) a b e = (λ rest. cc, cc)

given_err : {A : Type 0} (o : Option Fault) (a : A) (x : Fault) (rest : Result Effect Fault) → Err x ≡ given o a → unless o rest ≡ Err x
given_err None a x rest e = cc
given_err (Some y) a x rest e = cc

-- a refusal is the same, whatever would have been given
pub given_on : {A B : Type 0} (o : Option Fault) (a : A) (b : B) (x : Fault) → Err x ≡ given o a → Err x ≡ given o b
given_on None a b x e = cc
given_on (Some y) a b x e = cc

module _ (f : ℕ → ℕ → Bool) (w : World) where
  delivery_refuses : (r : ℕ) (o : Option Fault) (m : Option Message) (x : Fault) → Err x ≡ delivery_task r o m → unless o (delivered_or_not f w r m) ≡ Err x
  delivery_refuses r (Some y) m x e = cc
  delivery_refuses r None None x e = cc
  delivery_refuses r None (Some m) x e = cc

  -- refused by the floor
  pub asked_refused : (k : Work) (x : Fault) → Err x ≡ tasked w.rows w.post k → asked f w k ≡ Err x
  asked_refused (works.View r h) x e = given_err (up_test w.rows r) (r, tasks.View h) x _ e
  asked_refused (works.Deliver r i) x e = delivery_refuses r (delivery_test w.rows r (message_at w.post i)) (message_at w.post i) x e
  asked_refused (works.Loss r q) x e = given_err (loss_test w.rows r q) (r, tasks.Loss q) x _ e
  asked_refused (works.Start r) x e = given_err (down_test w.rows r) (r, tasks.Start) x _ e

  -- what the manager makes of a task at a replica
  abbrev managed_at : ℕ × Task → Result Effect Fault
  managed_at p = managed f w.need p.0 (page_of f w p.0) (row_of f w p.0) p.1

  delivery_allows : (r : ℕ) (o : Option Fault) (m : Option Message) (p : ℕ × Task) → Ok p ≡ delivery_task r o m →
      (p.0 ≡ r) × (unless o (delivered_or_not f w r m) ≡ managed_at p)
  delivery_allows r (Some y) m p e = (cc, cc)
  delivery_allows r None None p e = (cc, cc)
  delivery_allows r None (Some m) p e = let same : p ≡ (r, tasks.Deliver m) = cc in (ap (λ q. q.0) same, ap managed_at (sym same))

  handed_at : (k : Work) (p : ℕ × Task) → Ok p ≡ tasked w.rows w.post k → (p.0 ≡ replica_of k) × (asked f w k ≡ managed_at p)
  handed_at (works.View r h) p e =
      let a = given_ok (up_test w.rows r) (r, tasks.View h) p e in (ap (λ q. q.0) a.1, a.0 _ ∙ ap managed_at (sym a.1))
  handed_at (works.Deliver r i) p e = delivery_allows r (delivery_test w.rows r (message_at w.post i)) (message_at w.post i) p e
  handed_at (works.Loss r l) p e =
      let a = given_ok (loss_test w.rows r l) (r, tasks.Loss l) p e in (ap (λ q. q.0) a.1, a.0 _ ∙ ap managed_at (sym a.1))
  handed_at (works.Start r) p e =
      let a = given_ok (down_test w.rows r) (r, tasks.Start) p e in (ap (λ q. q.0) a.1, a.0 _ ∙ ap managed_at (sym a.1))

-- ---- the manager's part
managed_refused : (v : Result Effect Fault) (x : Fault) → Err x ≡ answer_of v → v ≡ Err x
managed_refused (Ok e) x h = cc
managed_refused (Err y) x h = cc

pub managed_accepted : (v : Result Effect Fault) (a : Answer) → Ok a ≡ answer_of v → (e : Effect) × (v ≡ Ok e) × (a ≡ e.answer)
managed_accepted (Ok e) a h = (e, refl, cc)
managed_accepted (Err y) a h = absurd (cc)

-- an accepted task leaves a page that keeps the rules
pub managed_keeps : (f : ℕ → ℕ → Bool) (need : Need) (r : ℕ) (p : Page) (w : Row) (t : Task) (e : Effect) → managed f need r p w t ≡ Ok e → Keeps r e
managed_keeps f need r p w (tasks.View h) e a = viewed_keeps f need r p w h e a
managed_keeps f need r p w (tasks.Deliver m) e a = delivered_keeps f need r p w m e a
managed_keeps f need r p w (tasks.Loss q) e a = lost_keeps f need r p w q e a
managed_keeps f need r p w tasks.Start e a = started_keeps r p w e a
managed_keeps f need r p w tasks.Stop e a = stopped_keeps r p w e a

-- ---- the manager's work, at the replica r with its page p
module _ (f : ℕ → ℕ → Bool) (w : World) (k : Work) (r : ℕ) (t : Task) (p : Page) (task_is : Ok (r, t) ≡ tasked w.rows w.post k) (page_is : p ≡ page_of f w r) where
  abbrev what : Result Effect Fault
  what = lent f w.need w.rows r p t

  -- the world with the row that the manager leaves
  abbrev moved : World
  moved = record w { rows = set w.rows r (row_left (row_at w.rows r) what) }

  -- the floor hands the task to the manager
  handed : (r ≡ replica_of k) × (asked f w k ≡ what)
  handed = let a = handed_at f w k (r, t) task_is in (a.0, a.1 ∙ ap (λ q. lent f w.need w.rows r q t) (sym page_is))

  pub asked_not : (x : Fault) (u : World) → Err x ≡ answer_of what → u ≡ moved → (asked f w k ≡ Err x) × Same w u
  asked_not x u answer left =
      let no = managed_refused what x answer in (
        handed.1 ∙ no,
        record {
          pages_are = ap (λ v. v.pages) left;
          rows_are = ap (λ v. v.rows) left ∙ ap (λ v. set w.rows r (row_left (row_at w.rows r) v)) no ∙ set-get_or w.rows r (empty_row false);
          post_is = ap (λ v. v.post) left;
          places_are = ap (λ v. v.places) left;
          need_is = ap (λ v. v.need) left;
        },
      )

  pub asked_done : (a : Accepted) (u : World) → Ok a.answer ≡ answer_of what → a.kept.replica ≡ r → a.kept.page ≡ page_left p what →
      a.limited ≡ wants_room k → u ≡ moved → (e : Effect) × (asked f w k ≡ Ok e) × Ready f w k e a u
  asked_done a u answer at page limited left =
      let yes = managed_accepted what a.answer answer in
      let e = yes.0 in (
        e,
        handed.1 ∙ yes.1,
        record {
          replica_is = at ∙ handed.0;
          page_is = page ∙ ap (page_left p) yes.1;
          limited_is = limited;
          answer_is = yes.2;
          pages_are = ap (λ v. v.pages) left;
          rows_are = ap (λ v. v.rows) left ∙ ap (λ v. set w.rows r (row_left (row_at w.rows r) v)) yes.1 ∙ ap (λ q. set w.rows q e.row) handed.0;
          post_is = ap (λ v. v.post) left;
          places_are = ap (λ v. v.places) left;
          need_is = ap (λ v. v.need) left;
        },
      )

-- ---- the end of a call
module _ (f : ℕ → ℕ → Bool) (w : World) where
  -- what the floor refuses is refused
  pub ruled_refused : (k : Work) (x : Fault) → asked f w k ≡ Err x → ruled f w k ≡ Err x
  unfolding ruled
  ruled_refused k x e = ap (placed f w k) e

  full_is : (k : Work) → full f w k ≡ (wants_room k && nat_le 65535 (length w.post))
  full_is (works.View r h) = refl
  full_is (works.Deliver r i) = refl
  full_is (works.Loss r q) = refl
  full_is (works.Start r) = refl

  -- the post's room, then the store's place
  last_refusal : Work → Bool → Option Fault
  last_refusal k b = option_or (refused_if b (floor_refusal PostFull (replica_of k))) (refused_if (w.places == 0) (no_place (replica_of k)))

  ruled_by : (k : Work) (e : Effect) → asked f w k ≡ Ok e → ruled f w k ≡ unless (last_refusal k (wants_room k && nat_le 65535 (length w.post))) (Ok e)
  unfolding ruled last_refusal
  ruled_by k e a = ap (placed f w k) a ∙ ap (λ b. unless (last_refusal k b) (Ok e)) (full_is k)

  -- refused for want of room, for want of a place, or not at all
  full_refuses : (k : Work) (e : Effect) (b : Bool) (x : Fault) → Posted b w.places (replica_of k) (Err (Refused x)) → unless (last_refusal k b) (Ok e) ≡ Err x
  unfolding last_refusal
  full_refuses k e b x t = ⊎_elim (λ h. rw h.0 (ap (λ z. Err z) (sym h.1))) (λ h. rw (h.0, eq-eqb w.places 0 h.1) (ap (λ z. Err z) (sym h.2))) t

  none_refuses : (k : Work) (e : Effect) (b : Bool) → b ≡ false → 0 < w.places → unless (last_refusal k b) (Ok e) ≡ Ok e
  unfolding last_refusal
  none_refuses k e b h l = rw (h, ne_eqb w.places 0 (omega arith)) refl

module _ (f : ℕ → ℕ → Bool) (w u : World) (k : Work) (e : Effect) (a : Accepted) (accepted : asked f w k ≡ Ok e) (ready : Ready f w k e a u) where
  crowd : crowded a u.post ≡ (wants_room k && nat_le 65535 (length w.post))
  crowd = ap₂ (λ b ms. b && nat_le 65535 (length ms)) ready.limited_is ready.post_is

  refuses : (x : Fault) → Tested u a (Err (Refused x)) → ruled f w k ≡ Err x
  refuses x t = ruled_by f w k e accepted ∙ full_refuses f w k e _ x (rw (crowd, ready.places_are, ready.replica_is) at t)

  allows : Tested u a (Ok tt) → ruled f w k ≡ Ok e
  allows t = ruled_by f w k e accepted ∙ none_refuses f w k e _ (sym crowd ∙ t.0) (rw ready.places_are at t.1)

  -- refused after the manager's work, the row is as it was
  same : (before : Row) → before ≡ row_of f w (replica_of k) → (v : World) → PutBack u a before v → Same w v
  same before at v b = record {
    pages_are = b.pages_are ∙ ready.pages_are;
    rows_are = cc (b.rows_are, ready.replica_is, at, ready.rows_are, set-set w.rows (replica_of k) e.row (row_of f w (replica_of k)), set-get_or w.rows (replica_of k) (empty_row false));
    post_is = b.post_is ∙ ready.post_is;
    places_are = b.places_are ∙ ready.places_are;
    need_is = b.need_is ∙ ready.need_is;
  }

  pub finished_did : (before : Row) → before ≡ row_of f w (replica_of k) → (v : World) (r : Result Answer Failure) →
      Tested u a (unit_of r) → IfOk r (λ b. b ≡ a.answer) → OnOk r (Stored u a v) → OnErr r (PutBack u a before v) → (r ≡ Err NoMemory → 0 < length (listed a.answer.posts)) → Did f w k r v
  finished_did before at v (Ok b) t answer s _ _ = (
    e,
    allows t,
    answer ∙ ready.answer_is,
    record {
      pages_are = cc (s.pages_are, ready.pages_are, ready.replica_is, ready.page_is);
      rows_are = s.rows_are ∙ ready.rows_are;
      post_is = cc (s.post_is, ready.post_is, ready.answer_is);
      places_are = rw ready.places_are at s.places_are;
      need_is = s.need_is ∙ ready.need_is;
    },
  )
  finished_did before at v (Err (Refused x)) t _ _ b _ = (refuses x t, same before at v b)
  finished_did before at v (Err NoMemory) t _ _ b some =
      (e, allows t, subst (λ (x : Answer). 0 < length (listed x.posts)) ready.answer_is (some refl), same before at v b)

  -- where no memory was found, the capacity lacked room for what the call posts
  pub finished_lacks : (capacity : ℕ) (r : Result Answer Failure) → Tested u a (unit_of r) → r ≡ Err NoMemory →
      capacity < length u.post + length (listed a.answer.posts) → LacksRoomFor f w k capacity
  finished_lacks capacity r t none lacks =
      let tested : Tested u a (Err NoMemory) = subst (λ (x : Result Answer Failure). Tested u a (unit_of x)) none t in
      (e, allows tested, rw (ready.post_is, ready.answer_is) at lacks)

  pub break_refused : (before : Row) → before ≡ row_of f w (replica_of k) → (v : World) (x : Fault) →
      Tested u a (Err (Refused x)) → PutBack u a before v → (ruled f w k ≡ Err x) × Same w v
  break_refused before at v x t b = (refuses x t, same before at v b)

  pub break_done : (v : World) → Tested u a (Ok tt) → Broken u v a.kept.replica a.kept.page →
      (ruled f w k ≡ Ok e) × Broken w v (replica_of k) e.page
  break_done v t b = (
    allows t,
    record {
      pages_are = rw (ready.pages_are, ready.replica_is, ready.page_is) at b.pages_are;
      rows_are = cc (b.rows_are, ready.rows_are, ready.replica_is, set-set w.rows (replica_of k) e.row (empty_row false));
      post_is = b.post_is ∙ ready.post_is;
      places_are = rw ready.places_are at b.places_are;
      need_is = b.need_is ∙ ready.need_is;
    },
  )

  pub break_leaves : (leaves : ℕ → Page → Page → Page → Type 0) (n : ℕ) (v : World) → Tested u a (Ok tt) → TornAt leaves n u a v → LeftAt leaves f n w k v
  break_leaves leaves n v t b = (e, allows t, rw (ready.pages_are, ready.replica_is, ready.page_is) at b)

-- ---- a stop
-- an accepted stop leaves the row down and empty
pub stop_done : (f : ℕ → ℕ → Bool) (w : World) (n r : ℕ) (p : Page) (a : Answer) (u : World) → Ok r ≡ given (up_test w.rows n) n → p ≡ page_of f w r →
    Ok a ≡ answer_of (stopped_at r p (row_at w.rows r)) → u ≡ record w { rows = set w.rows r (row_left (row_at w.rows r) (stopped_at r p (row_at w.rows r))) } →
    (e : Effect) × (stopped f w n ≡ Ok e) × (a ≡ quiet) × Halted w u n
stop_done f w n r p a u found page_is answer left =
    let at = given_ok (up_test w.rows n) n r found in
    let yes = managed_accepted (stopped_at r p (row_at w.rows r)) a answer in
    let is = (stopped_so r p (row_at w.rows r) yes.0 yes.1).1 in (
      yes.0,
      at.0 _ ∙ cc (at.1, page_is, yes.1),
      yes.2 ∙ sym (ap (λ e. e.answer) is),
      record {
        pages_are = ap (λ v. v.pages) left;
        rows_are = ap (λ v. v.rows) left ∙ ap (λ v. set w.rows r (row_left (row_at w.rows r) v)) yes.1 ∙ ap (λ e. set w.rows r e.row) (sym is) ∙ ap (λ q. set w.rows q (empty_row false)) at.1;
        post_is = ap (λ v. v.post) left;
        places_are = ap (λ v. v.places) left;
        need_is = ap (λ v. v.need) left;
      },
    )
