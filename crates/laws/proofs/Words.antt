-- What a call posts, and what a refused one leaves. Assumes nothing.
use Rattle.std.proofs.Common.{◌≡◌, ℕ, Bool, Some, Ok, sym, refl, ap, subst, ⊎_elim}
use Rattle.rounds.proofs.Highest.{none_some}
use Rattle.rows.specs.declared.message.Message.{Message}
use Rattle.rows.specs.declared.message.Posts.{Posts}
use Rattle.rows.specs.declared.message.Posts.TheVariants.{Nothing, One, Two}
use Rattle.rows.specs.declared.row.Row.{Row}
use Rattle.stores.specs.declared.page.Page.{Page}
use Rattle.stores.specs.declared.view.Head.{Head}
use Rattle.manager.proofs.Posted.{carried_posts}
use Rattle.manager.specs.Calls.{answer_of, page_left, row_left}
use Rattle.manager.specs.Effects.{Effect}
use Rattle.manager.specs.Requests.{Request, effect_of}
use Rattle.manager.specs.declared.need.Need.{Need}
use Rattle.laws.specs.Grounds.{InRound}
use Rattle.laws.specs.Known.{Known, known, head_under}
use Rattle.laws.specs.Laws.{OwnWord, OwnWords, PostsOwn, RefusalsLeave}
use Rattle.laws.proofs.Courses.{Said, Says, Course}
use Rattle.laws.proofs.Courses.Course.{judged_so, outdone, aborted}
use Rattle.laws.proofs.Going.{Turned, call_goes}
use Rattle.laws.proofs.Losses.{lost_posts}

-- ---- what is posted
own_word : (r : ℕ) (h : Head) (m : Message) → Said r h m → OwnWord r (Some h) m
own_word r h m s = record { sender = s.sender; under = ap Some (sym s.head) }

own_words : (r : ℕ) (h : Head) (posts : Posts) → Says r h posts → OwnWords r (Some h) posts
own_words r h Nothing s = tt
own_words r h (One m) s = own_word r h m s
own_words r h (Two m n) s = (own_word r h m s.0, own_word r h n s.1, s.2)

course_own : (f : ℕ → ℕ → Bool) (need : Need) (r : ℕ) (h : Head) (k : Known) (q : Page) (In : Type
    0) (x : Request) (e : Effect) → Course f need r h k q In x e →
    OwnWords r (Some h) e.answer.posts
course_own f need r h k q In x _ (judged_so posts p w v s i) =
    subst (OwnWords r (Some h)) (sym (carried_posts r p w posts v)) (own_words r h posts s.says)
course_own f need r h k q In x _ (outdone w b o i) = tt
course_own f need r h k q In x _ (aborted w m b d t n i) = tt

turned_nothing : (r : ℕ) (p : Page) (w : Row) (x : Request) (e : Effect) → Turned r p w x e → e.answer.posts ≡ Nothing
turned_nothing r p w x e t =
    ⊎_elim (λ i. subst (λ (y : Effect). y.answer.posts ≡ Nothing) i refl)
    (λ i. subst (λ (y : Effect). y.answer.posts ≡ Nothing) i refl) t.is

pub posts_own : PostsOwn
posts_own = record {
  own = λ f need r p w x e d.
      ⊎_elim
      (λ g. subst (λ o. OwnWords r o e.answer.posts) (sym g.is)
      (course_own f need r g.head (known r p w x) p (InRound f p w x) x e g.course))
      (λ g. subst (OwnWords r (head_under w x)) (sym (turned_nothing r p w x e g)) tt)
      (call_goes f need r p w x e d);
  nothing = λ f need r p w x e d under. ⊎_elim (λ g. absurd (none_some under g.is)) (turned_nothing r p w x e)
      (call_goes f need r p w x e d);
  losses = λ f need r p w x e d q is. (λ n. lost_posts f need r p w q e n
      (subst (λ y. effect_of f need r p w y ≡ Ok e) is d));
}

-- ---- what a refused call leaves
pub refusals_leave : RefusalsLeave
refusals_leave = record {
  page = λ f need r p w x fault e. ap (page_left p) e;
  row = λ f need r p w x fault e. ap (row_left w) e;
  answer = λ f need r p w x fault e. ap answer_of e;
}
