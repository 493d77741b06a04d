-- An accepted call of a floor is a chain of moves at one of the sixteen replicas. Assumes nothing.
use Rattle.std.proofs.Common.{◌≡◌, ℕ, zero, suc, ◌<◌, Bool, true, false, cond, ltb, List, [], ◌∷◌, length, get_or, Some, None, Ok, Option, sym, refl, ap, ◌∙◌, subst, inl, inr, arith}
use Rattle.std.proofs.lemmas.Bool.{ltb-true}
use Rattle.quorum.specs.Laws.{Grows, Meets}
use Rattle.bridge.proofs.Calls.{refines}
use Rattle.bridge.specs.Refines.{MovesTo, CallsMove}
use Rattle.bridge.specs.Seen.{seen_post, settlement_of, formed_by, node_of}
use Rattle.laws.proofs.Calls.{started_so}
use Rattle.manager.specs.Calls.{head_of, started_at}
use Rattle.manager.specs.Effects.{Effect}
use Rattle.rounds.specs.declared.outcome.Outcome.{Outcome}
use Rattle.rows.specs.declared.message.Message.{Message}
use Rattle.rows.specs.declared.row.Row.{Row}
use Rattle.safety.proofs.Marks.{none_some, some_inj}
use Rattle.safety.specs.Moves.{Chain, Settlement}
use Rattle.safety.specs.Replicas.{In}
use Rattle.stores.specs.Kept.{page_at}
use Rattle.stores.specs.declared.page.Page.{Page}
use Rattle.stores.specs.declared.view.Head.{Head}
use Rattle.stores.specs.declared.view.View.{View}
use Rattle.runs.specs.Findings.{head_under}
use Rattle.runs.specs.Founding.{row_at}
use Rattle.runs.specs.World.{World, replica_of, message_at, page_of, row_of, ruled}
use Rattle.runs.specs.declared.work.Work.{Work}
use Rattle.runs.specs.declared.work.Work.TheVariants.{View as Views, Deliver, Loss, Start}
use Rattle.runs.proofs.Ruled.{ByManager, ruled_accepted}

-- ---- the message that is delivered stands in the post
got_in : {A : Type 0} (xs : List A) (i : ℕ) (d : A) → i < length xs → In (get_or xs i d) xs
got_in [] i d l = absurd (omega arith)
got_in (x ∷ xs) zero d l = inl refl
got_in (x ∷ xs) (suc i) d l = inr (got_in xs i d (omega arith))

there : {A : Type 0} (xs : List A) (i : ℕ) (d x : A) (b : Bool) → ltb i (length xs) ≡ b → cond b (Some (get_or xs i d)) None ≡ Some x → In x xs
there xs i d x true l e = subst (λ y. In y xs) (some_inj e) (got_in xs i d (ltb-true i (length xs) l))
there xs i d x false l e = absurd (none_some e)

in_post : (post : List Message) (i : ℕ) (m : Message) → message_at post i ≡ Some m → In m post
in_post post i m e = there post i _ m (ltb i (length post)) refl e

-- ---- a start ends no round
start_ends_nothing : (r : ℕ) (p : Page) (w : Row) (e : Effect) → started_at r p w ≡ Ok e → e.answer.ended ≡ None
start_ends_nothing r p w e i = ap (λ (x : Effect). x.answer.ended) (sym (started_so r p w e i).1)

-- where no round ended it does not matter which head a call is under
no_settlement : (g h : Option Head) (o : Option (Outcome × Option View)) → o ≡ None → settlement_of g o ≡ settlement_of h o
no_settlement g h o e = ap (settlement_of g) e ∙ sym (ap (settlement_of h) e)

module _ (f : ℕ → ℕ → Bool) (grows : Grows f) (meets : Meets f) (w : World) where
  -- the chain of moves that an effect of this work is
  abbrev IsChain : Work → Effect → Type 0
  IsChain k e =
      MovesTo f (seen_post w.post) (replica_of k) (page_at w.pages (replica_of k)) (row_at w.rows (replica_of k))
      (head_under w k) e

  moves : (r : ℕ) → CallsMove f w.need r
  moves r = refines f grows meets w.need r

  manager_moves : (k : Work) (e : Effect) → ByManager f w k e → IsChain k e
  manager_moves (Views r h) e d = (moves r).view (seen_post w.post) (page_of f w r) (row_of f w r) h e d
  manager_moves (Deliver r i) e (m, at, d) =
      (moves r).delivery w.post (page_of f w r) (row_of f w r) m e (in_post w.post i m at) d
  manager_moves (Loss r q) e d = (moves r).loss (seen_post w.post) (page_of f w r) (row_of f w r) q e d
  manager_moves (Start r) e d =
      let p = page_of f w r in
      let row = row_of f w r in
      let silent = start_ends_nothing r p row e d in
      subst (λ (s : Option Settlement). Chain f (seen_post w.post) r (node_of p row) (formed_by e.answer.posts) s (node_of e.page e.row))
      (no_settlement None (head_of row.stage) e.answer.ended silent) ((moves r).start (seen_post w.post) p row e d)

  -- what an accepted call does
  pub ruled_moves : (k : Work) (e : Effect) → ruled f w k ≡ Ok e → (replica_of k < 16) × IsChain k e
  ruled_moves k e i = let a = ruled_accepted f w k e i in (a.0, manager_moves k e a.1)
