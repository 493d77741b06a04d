-- Every world of a run from a founding is in order, and losses, starts and stops post nothing. Assumes nothing.
use Rattle.std.proofs.Common.{◌≡◌, ℕ, ◌+◌, zero, suc, ◌<◌, ◌≤◌, ◌≢◌, Bool, true, false, if◌then◌else◌, leb, List, [], ◌∷◌, ◌++◌, length, set, Ok, Err, Result, sym, refl, ap, ◌∙◌, subst, ⊎_elim, arith, append-nil, length-append, length-set}
use Rattle.std.proofs.lemmas.Bool.{cond_both, cases_eq, leb-false}
use Rattle.std.proofs.lemmas.List.{get_or-set_same, get_or-set_other}
use Rattle.std.proofs.lemmas.List.Elements.{All-append, All-cons, All-nil, All-same}
use Rattle.std.specs.List.{All}
use Rattle.quorum.specs.Members.{has}
use Rattle.quorum.specs.Sets.{nobody_set}
use Rattle.quorum.specs.declared.fault.Failure.{Failure}
use Rattle.quorum.specs.declared.fault.Failure.TheVariants.{Refused, NoMemory}
use Rattle.laws.proofs.Calls.{viewed_keeps, delivered_keeps, lost_keeps, started_keeps, lost_posts, started_so}
use Rattle.laws.proofs.Rows.{down_keeps}
use Rattle.laws.proofs.Standing.{idle_unrecorded, viewed_unrecorded, delivered_unrecorded, lost_unrecorded, started_unrecorded}
use Rattle.laws.proofs.Subsets.{within_itself}
use Rattle.laws.specs.Laws.{Keeps, PostsKeep}
use Rattle.laws.specs.Standing.{StandsToBeRecorded}
use Rattle.manager.specs.Effects.{Effect}
use Rattle.manager.specs.declared.answer.Answer.{Answer}
use Rattle.rows.proofs.Facts.{row_from}
use Rattle.rows.specs.Messages.{message_keeps}
use Rattle.rows.specs.Rows.{row_keeps, empty_row}
use Rattle.rows.specs.declared.message.Message.{Message}
use Rattle.rows.specs.declared.message.Posts.{Posts}
use Rattle.rows.specs.declared.message.Posts.TheVariants.{Nothing, One, Two}
use Rattle.rows.specs.declared.row.Row.{Row}
use Rattle.rows.specs.declared.row.Stage.TheVariants.{Idle}
use Rattle.stores.proofs.Pages.{fresh_keeps}
use Rattle.stores.specs.Kept.{fresh, page_at}
use Rattle.stores.specs.Rules.{keeps_rules}
use Rattle.stores.specs.declared.page.Page.{Page}
use Rattle.stores.specs.declared.view.View.{View}
use Rattle.runs.proofs.Founded.{founding_keeps}
use Rattle.runs.proofs.Ruled.{ByManager, ruled_accepted, ruled_room, stop_accepted}
use Rattle.runs.proofs.Runs.{run_on}
use Rattle.runs.specs.Founding.{row_at, founding_page}
use Rattle.runs.specs.Orderly.{Orderly, IsSilent, Silent, OrderlyRun, RunsOrderly}
use Rattle.runs.specs.Runs.{Taken, Run, world_at, end_of, Founded}
use Rattle.runs.specs.Steps.{Step, Halted}
use Rattle.runs.specs.World.{World, replica_of, page_of, row_of, ruled, listed, PostsSome, Changed, Same, Broken}
use Rattle.runs.specs.declared.work.Call.{Call}
use Rattle.runs.specs.declared.work.Call.TheVariants.{Whole, Cut, Stop}
use Rattle.runs.specs.declared.work.Work.{Work}
use Rattle.runs.specs.declared.work.Work.TheVariants.{View as Views, Deliver, Loss, Start}

-- each message keeps the rules
abbrev MessageKeeps : Message → Type 0
MessageKeeps m = message_keeps m ≡ true

abbrev AllKeep : List Message → Type 0
AllKeep post = All MessageKeeps post

-- no call posts more than two messages
pub at_most_two : (posts : Posts) → length (listed posts) ≤ 2
at_most_two Nothing = omega arith
at_most_two (One m) = omega arith
at_most_two (Two m n) = omega arith

-- ---- a founding
module _ (f : ℕ → ℕ → Bool) (first : View) (w : World) (founded : Founded first w) where
  founding_row_keeps : (r : ℕ) (b : Bool) →
      row_keeps r (if b then founding_page first else fresh)
      (record { up = true; lost = nobody_set; survivors = if b then first.set else nobody_set; stage = Idle }) ≡ true
  founding_row_keeps r true = row_from r (founding_page first) _ (within_itself first.set.0) refl
  founding_row_keeps r false = row_from r fresh _ refl refl

  pub starts_orderly : Orderly f w
  starts_orderly =
      let left = founded.left in
      record {
        all_pages = founded.all_pages;
        pages = λ r l.
            subst (λ p. keeps_rules r p ≡ true) (sym (left.pages_are r l))
            (cond_both (has first.set.0 r) (founding_page first) fresh (λ p. keeps_rules r p ≡ true)
            (λ h. founding_keeps first r h founded.numbered) (λ _. fresh_keeps r));
        all_rows = founded.all_rows;
        rows = λ r l.
            (λ j. row_keeps r (left.pages_are r l j) (left.rows_are r l j)) ∙ founding_row_keeps r (has first.set.0 r);
        none_stands = λ r l.
            idle_unrecorded f w.need r (page_at w.pages r) (row_at w.rows r)
            (ap (λ (x : Row). x.stage) (left.rows_are r l));
        messages = All-same MessageKeeps w.post [] left.silent (All-nil MessageKeeps);
        room = let n = ap length left.silent in omega (arith, n);
      }

-- ---- a world of which one replica changed
module _ (f : ℕ → ℕ → Bool) (w : World) (o : Orderly f w) where
  -- its page and row, and no other
  record Touched (v : World) (r : ℕ) (p : Page) (x : Row) : Type 0 where
    pub page : page_at v.pages r ≡ p
    pub pages : (q : ℕ) → q ≢ r → page_at v.pages q ≡ page_at w.pages q
    pub row : row_at v.rows r ≡ x
    pub rows : (q : ℕ) → q ≢ r → row_at v.rows q ≡ row_at w.rows q
    pub all_pages : length v.pages ≡ 16
    pub all_rows : length v.rows ≡ 16
    pub need : v.need ≡ w.need

  touched_both : (v : World) (r : ℕ) (p : Page) (row : Row) → r < 16 → v.pages ≡ set w.pages r p →
      v.rows ≡ set w.rows r row → v.need ≡ w.need → Touched v r p row
  touched_both v r p row l a b n =
      let pages : r < length w.pages = omega (arith, o.all_pages) in
      let rows : r < length w.rows = omega (arith, o.all_rows) in
      record {
        page = ap (λ xs. page_at xs r) a ∙ get_or-set_same w.pages r p fresh pages;
        pages = λ q d. ap (λ xs. page_at xs q) a ∙ get_or-set_other w.pages r q p fresh d;
        row = ap (λ xs. row_at xs r) b ∙ get_or-set_same w.rows r row (empty_row false) rows;
        rows = λ q d. ap (λ xs. row_at xs q) b ∙ get_or-set_other w.rows r q row (empty_row false) d;
        all_pages = ap length a ∙ length-set w.pages r p ∙ o.all_pages;
        all_rows = ap length b ∙ length-set w.rows r row ∙ o.all_rows;
        need = n;
      }

  touched_row : (v : World) (r : ℕ) (row : Row) → r < 16 → v.pages ≡ w.pages → v.rows ≡ set w.rows r row →
      v.need ≡ w.need → Touched v r (page_at w.pages r) row
  touched_row v r row l a b n =
      let rows : r < length w.rows = omega (arith, o.all_rows) in
      record {
        page = ap (λ xs. page_at xs r) a;
        pages = λ q d. ap (λ xs. page_at xs q) a;
        row = ap (λ xs. row_at xs r) b ∙ get_or-set_same w.rows r row (empty_row false) rows;
        rows = λ q d. ap (λ xs. row_at xs q) b ∙ get_or-set_other w.rows r q row (empty_row false) d;
        all_pages = ap length a ∙ o.all_pages;
        all_rows = ap length b ∙ length-set w.rows r row ∙ o.all_rows;
        need = n;
      }

  -- a page and row in order beside each other
  record InOrder (r : ℕ) (p : Page) (x : Row) : Type 0 where
    pub page : keeps_rules r p ≡ true
    pub row : row_keeps r p x ≡ true
    pub none_stands : StandsToBeRecorded f w.need r p x → ⊥

  -- what is so of every page and row with another's in place of one
  each : (P : ℕ → Page → Row → Type 0) (v : World) (r : ℕ) (p : Page) (row : Row) → Touched v r p row → P r p row →
      ((q : ℕ) → q < 16 → P q (page_at w.pages q) (row_at w.rows q)) → (q : ℕ) → q < 16 →
      P q (page_at v.pages q) (row_at v.rows q)
  each P v r p row t here old q l =
      ⊎_elim
      (λ (e : q ≡ r). subst (λ k. P k (page_at v.pages k) (row_at v.rows k)) (sym e)
      (subst (λ x. P r x (row_at v.rows r)) (sym t.page) (subst (λ x. P r p x) (sym t.row) here)))
      (λ (d : q ≢ r). subst (λ x. P q x (row_at v.rows q)) (sym (t.pages q d))
      (subst (λ x. P q (page_at w.pages q) x) (sym (t.rows q d)) (old q l)))
      (cases_eq q r)

  touched_orderly : (v : World) (r : ℕ) (p : Page) (row : Row) → Touched v r p row → InOrder r p row → AllKeep v.post →
      length v.post ≤ 65536 → Orderly f v
  touched_orderly v r p row t i m n =
      let all = each InOrder v r p row t i
      (λ q l. record { page = o.pages q l; row = o.rows q l; none_stands = o.none_stands q l }) in
      record {
        all_pages = t.all_pages;
        pages = λ q l. (all q l).page;
        all_rows = t.all_rows;
        rows = λ q l. (all q l).row;
        none_stands = λ q l.
            subst (λ x. StandsToBeRecorded f x q (page_at v.pages q) (row_at v.rows q) → ⊥) (sym t.need)
            (all q l).none_stands;
        messages = m;
        room = n;
      }

  -- nothing changed
  same_orderly : (v : World) → Same w v → Orderly f v
  same_orderly v s =
      let same : w ≡ v = λ j. record {
        pages = sym s.pages_are j;
        places = sym s.places_are j;
        rows = sym s.rows_are j;
        post = sym s.post_is j;
        need = sym s.need_is j;
      } in
      subst (Orderly f) same o

  same_post : (v : World) → v.post ≡ w.post → AllKeep v.post × (length v.post ≤ 65536)
  same_post v e = subst (λ x. AllKeep x × (length x ≤ 65536)) (sym e) (o.messages, o.room)

  -- ---- a replica that is down: stopped or cut off
  down_orderly : (v : World) (r : ℕ) (p : Page) → Touched v r p (empty_row false) → keeps_rules r p ≡ true →
      v.post ≡ w.post → Orderly f v
  down_orderly v r p t k e =
      let post = same_post v e in
      touched_orderly v r p (empty_row false) t
      (record { page = k; row = down_keeps r p; none_stands = idle_unrecorded f w.need r p (empty_row false) refl })
      post.0 post.1

  -- ---- an accepted call
  -- it keeps page, row and messages within the rules
  call_keeps : (k : Work) (e : Effect) → ByManager f w k e → Keeps (replica_of k) e
  call_keeps (Views r h) e d = viewed_keeps f w.need r (page_of f w r) (row_of f w r) h e d
  call_keeps (Deliver r i) e (m, at, d) = delivered_keeps f w.need r (page_of f w r) (row_of f w r) m e d
  call_keeps (Loss r q) e d = lost_keeps f w.need r (page_of f w r) (row_of f w r) q e d
  call_keeps (Start r) e d = started_keeps r (page_of f w r) (row_of f w r) e d

  -- and leaves no row that stands to be recorded
  call_leaves : (k : Work) (e : Effect) → ByManager f w k e →
      StandsToBeRecorded f w.need (replica_of k) e.page e.row → ⊥
  call_leaves (Views r h) e d = viewed_unrecorded f w.need r (page_of f w r) (row_of f w r) h e d
  call_leaves (Deliver r i) e (m, at, d) = delivered_unrecorded f w.need r (page_of f w r) (row_of f w r) m e d
  call_leaves (Loss r q) e d = lost_unrecorded f w.need r (page_of f w r) (row_of f w r) q e d
  call_leaves (Start r) e d = started_unrecorded f w.need r (page_of f w r) (row_of f w r) e d

  -- a loss and a start post nothing: no row stands to be recorded
  pub silent_posts : (k : Work) (e : Effect) → IsSilent (Whole k) → ruled f w k ≡ Ok e → e.answer.posts ≡ Nothing
  silent_posts (Views r h) e s i = absurd s
  silent_posts (Deliver r j) e s i = absurd s
  silent_posts (Loss r q) e s i =
      let a = ruled_accepted f w (Loss r q) e i in
      lost_posts f w.need r (page_of f w r) (row_of f w r) q e (o.none_stands r a.0) a.1
  silent_posts (Start r) e s i =
      let a = ruled_accepted f w (Start r) e i in
      ap (λ (x : Effect). x.answer.posts) (sym (started_so r (page_of f w r) (row_of f w r) e a.1).1)

  listed_keep : (posts : Posts) → PostsKeep posts → AllKeep (listed posts)
  listed_keep Nothing k = All-nil MessageKeeps
  listed_keep (One m) k = All-cons MessageKeeps m [] k (All-nil MessageKeeps)
  listed_keep (Two m n) (a, b) =
      All-cons MessageKeeps m (n ∷ []) a (All-cons MessageKeeps n [] b (All-nil MessageKeeps))

  -- two messages more, where two places were free
  roomy : (posts : Posts) → leb 65535 (length w.post) ≡ false → length (w.post ++ listed posts) ≤ 65536
  roomy posts l =
      let free = leb-false 65535 (length w.post) l in
      let few = at_most_two posts in
      let all = length-append w.post (listed posts) in
      omega (arith, all)

  nothing_more : (posts : Posts) → posts ≡ Nothing → w.post ++ listed posts ≡ w.post
  nothing_more posts e = ap (λ x. w.post ++ listed x) e ∙ append-nil w.post

  in_bounds : (k : Work) (e : Effect) → ruled f w k ≡ Ok e → length (w.post ++ listed e.answer.posts) ≤ 65536
  in_bounds (Views r h) e i = roomy e.answer.posts (ruled_room f w (Views r h) e i)
  in_bounds (Deliver r j) e i = roomy e.answer.posts (ruled_room f w (Deliver r j) e i)
  in_bounds (Loss r q) e i =
      subst (λ x. length x ≤ 65536) (sym (nothing_more e.answer.posts (silent_posts (Loss r q) e tt i))) o.room
  in_bounds (Start r) e i =
      subst (λ x. length x ≤ 65536) (sym (nothing_more e.answer.posts (silent_posts (Start r) e tt i))) o.room

  -- a call that posts something finds two free places among the 65,536
  pub posting_has_room : (k : Work) (e : Effect) → ruled f w k ≡ Ok e → PostsSome e → length w.post + 2 ≤ 65536
  posting_has_room (Views r h) e i some =
      let free = leb-false 65535 (length w.post) (ruled_room f w (Views r h) e i) in omega arith
  posting_has_room (Deliver r j) e i some =
      let free = leb-false 65535 (length w.post) (ruled_room f w (Deliver r j) e i) in omega arith
  posting_has_room (Loss r q) e i some =
      let none = ap (λ x. length (listed x)) (silent_posts (Loss r q) e tt i) in absurd (omega (arith, none))
  posting_has_room (Start r) e i some =
      let none = ap (λ x. length (listed x)) (silent_posts (Start r) e tt i) in absurd (omega (arith, none))

  changed_orderly : (v : World) (k : Work) (e : Effect) → ruled f w k ≡ Ok e →
      Changed w v (replica_of k) e.page e.row (listed e.answer.posts) → Orderly f v
  changed_orderly v k e i c =
      let a = ruled_accepted f w k e i in
      let keeps = call_keeps k e a.1 in
      let t = touched_both v (replica_of k) e.page e.row a.0 c.pages_are c.rows_are c.need_is in
      touched_orderly v (replica_of k) e.page e.row t
      (record { page = keeps.page; row = keeps.row; none_stands = call_leaves k e a.1 })
      (subst AllKeep (sym c.post_is)
      (All-append MessageKeeps w.post (listed e.answer.posts) o.messages (listed_keep e.answer.posts keeps.posts)))
      (subst (λ x. length x ≤ 65536) (sym c.post_is) (in_bounds k e i))

  broken_orderly : (v : World) (k : Work) (e : Effect) → ruled f w k ≡ Ok e → Broken w v (replica_of k) e.page →
      Orderly f v
  broken_orderly v k e i b =
      let a = ruled_accepted f w k e i in
      let r = replica_of k in
      ⊎_elim
      (λ old. down_orderly v r (page_at w.pages r) (touched_row v r (empty_row false) a.0 old b.rows_are b.need_is)
      (o.pages r a.0) b.post_is)
      (λ new. down_orderly v r e.page (touched_both v r e.page (empty_row false) a.0 new b.rows_are b.need_is)
      (call_keeps k e a.1).page b.post_is)
      b.pages_are

  halted_orderly : (v : World) (r : ℕ) → r < 16 → Halted w v r → Orderly f v
  halted_orderly v r l h =
      down_orderly v r (page_at w.pages r) (touched_row v r (empty_row false) l h.pages_are h.rows_are h.need_is)
      (o.pages r l) h.post_is

  -- ---- every step
  step_orderly : (call : Call) (a : Result Answer Failure) (v : World) → Step f w call a v → Orderly f v
  step_orderly (Whole k) (Ok a) v (e, rules, is, c) = changed_orderly v k e rules c
  step_orderly (Whole k) (Err (Refused fault)) v (rules, s) = same_orderly v s
  step_orderly (Whole k) (Err NoMemory) v (e, rules, some, s) = same_orderly v s
  step_orderly (Cut k n) (Ok a) v (e, rules, is, b) = broken_orderly v k e rules b
  step_orderly (Cut k n) (Err (Refused fault)) v (rules, s) = same_orderly v s
  step_orderly (Cut k n) (Err NoMemory) v s = absurd s
  step_orderly (Stop r) (Ok a) v (e, rules, is, h) = halted_orderly v r (stop_accepted f w r e rules).0 h
  step_orderly (Stop r) (Err (Refused fault)) v (rules, s) = same_orderly v s
  step_orderly (Stop r) (Err NoMemory) v s = absurd s

  step_silent : (call : Call) (a : Result Answer Failure) (v : World) → IsSilent call → Step f w call a v →
      v.post ≡ w.post
  step_silent (Whole k) (Ok a) v q (e, rules, is, c) =
      c.post_is ∙ nothing_more e.answer.posts (silent_posts k e q rules)
  step_silent (Whole k) (Err (Refused fault)) v q (rules, s) = s.post_is
  step_silent (Whole k) (Err NoMemory) v q (e, rules, some, s) = s.post_is
  step_silent (Cut k n) (Ok a) v q (e, rules, is, b) = b.post_is
  step_silent (Cut k n) (Err (Refused fault)) v q (rules, s) = s.post_is
  step_silent (Cut k n) (Err NoMemory) v q s = absurd s
  step_silent (Stop r) (Ok a) v q (e, rules, is, h) = h.post_is
  step_silent (Stop r) (Err (Refused fault)) v q (rules, s) = s.post_is
  step_silent (Stop r) (Err NoMemory) v q s = absurd s

-- ---- every run
module _ (f : ℕ → ℕ → Bool) where
  all_orderly : (w : World) (takens : List Taken) → Orderly f w → Run f w takens → (i : ℕ) →
      Orderly f (world_at w takens i)
  all_orderly w [] o run zero = o
  all_orderly w [] o run (suc i) = o
  all_orderly w (t ∷ takens) o run zero = o
  all_orderly w (t ∷ takens) o (s, run) (suc i) =
      all_orderly t.world takens (step_orderly f w o t.call t.answer t.world s) run i

  all_silent : (w : World) (takens : List Taken) → Orderly f w → Run f w takens → (i : ℕ) → Silent w takens (suc i) →
      (world_at w takens (suc i)).post ≡ (world_at w takens i).post
  all_silent w [] o run i q = absurd q
  all_silent w (t ∷ takens) o (s, run) zero q = step_silent f w o t.call t.answer t.world q s
  all_silent w (t ∷ takens) o (s, run) (suc i) q =
      all_silent t.world takens (step_orderly f w o t.call t.answer t.world s) run i q

  -- where a run that begins in order ends
  pub end_orderly : (w : World) (takens : List Taken) → Orderly f w → Run f w takens → Orderly f (end_of w takens)
  end_orderly w [] o run = o
  end_orderly w (t ∷ takens) o (s, run) = end_orderly t.world takens (step_orderly f w o t.call t.answer t.world s) run

  pub orderly_run : (w : World) (takens : List Taken) → Orderly f w → Run f w takens → OrderlyRun f w takens
  orderly_run w takens o run = record { worlds = all_orderly w takens o run; silent = all_silent w takens o run }

pub runs_orderly : RunsOrderly
runs_orderly f first w takens founded run = orderly_run f w takens (starts_orderly f first w founded) run

-- a run from a founding, and a run from where it ended
pub runs_on_orderly : (f : ℕ → ℕ → Bool) (first : View) (w : World) (before after : List Taken) → Founded first w →
    Run f w before → Run f (end_of w before) after → OrderlyRun f w (before ++ after)
runs_on_orderly f first w before after founded run more =
    runs_orderly f first w (before ++ after) founded (run_on f w before after run more)

-- ---- the call that comes next, after a run from a founding
module _ (f : ℕ → ℕ → Bool) (first : View) (start : World) (before : List Taken) (founded : Founded first start)
    (run : Run f start before) where
  -- the run has come to a world in order
  pub now_orderly : (now : World) → end_of start before ≡ now → Orderly f now
  now_orderly now e = subst (Orderly f) e (end_orderly f start before (starts_orderly f first start founded) run)

  -- a loss posts nothing
  pub losses_post_nothing : (now : World) → end_of start before ≡ now → (r q : ℕ) (e : Effect) →
      ruled f now (Loss r q) ≡ Ok e → e.answer.posts ≡ Nothing
  losses_post_nothing now i r q e d = silent_posts f now (now_orderly now i) (Loss r q) e tt d

  -- a call that posts something finds two free places among the 65,536
  pub next_has_room : (now : World) → end_of start before ≡ now → (k : Work) (e : Effect) → ruled f now k ≡ Ok e →
      PostsSome e → length now.post + 2 ≤ 65536
  next_has_room now i = posting_has_room f now (now_orderly now i)
