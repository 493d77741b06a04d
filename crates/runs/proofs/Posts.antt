-- What the moves see of the messages that a call posts. Assumes nothing.
use Rattle.std.proofs.Common.{◌≡◌, ℕ, ◌⊎◌, List, [], ◌∷◌, ◌++◌, subst, inl, inr, ⊎_elim, append-nil, arith}
use Rattle.bridge.specs.Seen.{seen_body, seen_message, seen_post, formed_by}
use Rattle.rounds.specs.declared.report.Report.{Report}
use Rattle.rows.specs.declared.message.Body.{Body}
use Rattle.rows.specs.declared.message.Body.TheVariants.{State, Abort, Join, Recorded, Report as Reports}
use Rattle.rows.specs.declared.message.Message.{Message}
use Rattle.rows.specs.declared.message.Part.TheVariants.{Member, Newcomer}
use Rattle.rows.specs.declared.message.Posts.{Posts}
use Rattle.rows.specs.declared.message.Posts.TheVariants.{Nothing, One, Two}
use Rattle.safety.proofs.Lists.{in_left, in_right, in_split}
use Rattle.safety.specs.Replicas.{In}
use Rattle.safety.specs.Replicas as Moves
use Rattle.safety.specs.Replicas.Message.{state_from, recorded_from}
use Rattle.stores.specs.declared.view.Head.{Head}
use Rattle.stores.specs.declared.view.Number.{Number}
use Rattle.stores.specs.declared.view.View.{View}
use Rattle.runs.specs.Findings.{report_from}
use Rattle.runs.specs.World.{listed}

-- ---- a post that grew
split_post : (y : Moves.Message) (xs ys : List Message) → In y (seen_post (xs ++ ys)) → In y (seen_post xs) ⊎ In y (seen_post ys)
split_post y [] ys i = inr i
split_post y (x ∷ xs) ys i =
    ⊎_elim (λ (a : In y (seen_message x)). inl (in_left y (seen_message x) (seen_post xs) a))
    (λ (a : In y (seen_post (xs ++ ys))). ⊎_elim (λ (b : In y (seen_post xs)). inl (in_right y (seen_message x) (seen_post xs) b)) (λ (b : In y (seen_post ys)). inr b) (split_post y xs ys a))
    (in_split y (seen_message x) (seen_post (xs ++ ys)) i)

seen_listed : (y : Moves.Message) (posts : Posts) → In y (seen_post (listed posts)) → In y (formed_by posts)
seen_listed y Nothing i = i
seen_listed y (One m) i = subst (In y) (append-nil (seen_message m)) i
seen_listed y (Two m n) i =
    ⊎_elim (λ (a : In y (seen_message m)). in_right y (seen_message n) (seen_message m) a)
    (λ (a : In y (seen_message n ++ [])). in_left y (seen_message n) (seen_message m) (subst (In y) (append-nil (seen_message n)) a))
    (in_split y (seen_message m) (seen_message n ++ []) i)

-- what is in the post after a call was formed by it, or was there
pub posted_by : (y : Moves.Message) (post : List Message) (posts : Posts) → In y (seen_post (post ++ listed posts)) → In y (formed_by posts) ⊎ In y (seen_post post)
posted_by y post posts i =
    ⊎_elim (λ (a : In y (seen_post post)). inr a) (λ (a : In y (seen_post (listed posts))). inl (seen_listed y posts a)) (split_post y post (listed posts) i)

-- ---- a report that the moves see is a report
module _ (q : ℕ) (h : Head) (m : Moves.Report) where
  not_state : {p : ℕ} {g : Head} {v : View} → Moves.Message.report_from q h m ≡ state_from p g v → ⊥
  not_state e = let z : ◌≡◌ {A = ℕ} 0 1 = cc in omega arith

  not_recorded : {p : ℕ} {g : Head} {n : Number} → Moves.Message.report_from q h m ≡ recorded_from p g n → ⊥
  not_recorded e = let z : ◌≡◌ {A = ℕ} 0 1 = cc in omega arith

  same_sender : {p : ℕ} {g : Head} {n : Moves.Report} → Moves.Message.report_from q h m ≡ Moves.Message.report_from p g n → q ≡ p
  same_sender e = cc

  same_head : {p : ℕ} {g : Head} {n : Moves.Report} → Moves.Message.report_from q h m ≡ Moves.Message.report_from p g n → h ≡ g
  same_head e = cc

  reports : (p : ℕ) (g : Head) (body : Body) → In (Moves.Message.report_from q h m) (seen_body p g body) → (x : Report) × (report_from q h x ≡ record { sender = p; head = g; body = body })
  reports p g (State v survivors) (inl e) = absurd (not_state e)
  reports p g (State v survivors) (inr e) = absurd e
  reports p g Abort e = absurd e
  reports p g Join e = absurd e
  reports p g (Recorded n Member) (inl e) = absurd (not_recorded e)
  reports p g (Recorded n Member) (inr e) = absurd e
  reports p g (Recorded n Newcomer) e = absurd e
  reports p g (Reports x) (inl e) = (x, λ j. report_from (same_sender e j) (same_head e j) x)
  reports p g (Reports x) (inr e) = absurd e

  report_seen : (x : Message) → In (Moves.Message.report_from q h m) (seen_message x) → (y : Report) × (report_from q h y ≡ x)
  report_seen x i = reports x.sender x.head x.body i

  pub report_posted : (posts : Posts) → In (Moves.Message.report_from q h m) (formed_by posts) → (y : Report) × In (report_from q h y) (listed posts)
  report_posted Nothing i = absurd i
  report_posted (One x) i = let a = report_seen x i in (a.0, inl a.1)
  report_posted (Two x y) i =
      ⊎_elim (λ (b : In (Moves.Message.report_from q h m) (seen_message y)). let a = report_seen y b in (a.0, inr (inl a.1)))
      (λ (b : In (Moves.Message.report_from q h m) (seen_message x)). let a = report_seen x b in (a.0, inl a.1))
      (in_split (Moves.Message.report_from q h m) (seen_message y) (seen_message x) i)
