-- A replica changes and nothing happens; only its row changes. Assumes nothing.
use Rattle.std.proofs.Common.{◌≡◌, ℕ, Bool, true, ◌⊎◌, List, [], Some, None, ap, ◌∙◌, subst, inl, inr, ⊎_elim}
use Rattle.stores.specs.declared.view.Head.{Head}
use Rattle.stores.specs.declared.view.View.{View}
use Rattle.stores.specs.Views.{head}
use Rattle.safety.specs.Replicas.{Phase, Row, Node, node, Message, In}
use Rattle.safety.specs.Replicas.Row.{under}
use Rattle.safety.specs.Runs.{World}
use Rattle.safety.proofs.Fate.{head_of, May}
use Rattle.safety.proofs.History.{History}
use Rattle.safety.proofs.Invariant.{Confirms, RowOk, NodeOk, MessageOk, Invariant, Later}
use Rattle.safety.proofs.Worlds.{put}
use Rattle.safety.proofs.Stays.{node_stays, row_stays, rivals_stay, later, kept}

module _ (carries : ℕ → ℕ → Bool) (first : View) where
  module _ (past : History) (w : World) (r : ℕ) (i : Invariant carries first past w) where
    -- nothing happened but that r became x and posted ms
    module _ (x : Node) (ms : List Message) (may : (s X : ℕ) → May x s X → May (w.at r) s X) where
      pub silent : Later past w past (put w r x ms)
      silent = later carries first past w r x ms [] may (λ q k s X e. absurd e)

      pub quiet : NodeOk carries past (put w r x ms) r x → ((m : Message) → In m ms → MessageOk carries past (put w r x ms) m)
          → Invariant carries first past (put w r x ms)
      quiet ok sent =
          kept carries first past w r x ms [] i silent (λ q k s X e. absurd e) ok sent i.rooted
          (rivals_stay carries past w past (put w r x ms) silent (λ q k s X e. e) i.rivals)

    pub at_row : (row : Row) → (w.at r).row ≡ row → RowOk carries past w r (w.at r) row
    at_row row e = subst (RowOk carries past w r (w.at r)) e (i.nodes r).row_ok

    pub at_free : (row : Row) → (w.at r).row ≡ row → (w.at r).normal ≡ true → ((w.at r).recorded ≡ None) ⊎ Confirms row
    at_free row e n = subst (λ (y : Row). ((w.at r).recorded ≡ None) ⊎ Confirms y) e ((i.nodes r).free n)

    -- only the row of r changes, and its mode
    abbrev pub rowed : Bool → Row → Node
    rowed b row = node b (w.at r).top (w.at r).mark (w.at r).component (w.at r).recorded row

    pub row_may : (b : Bool) (row : Row) → ((h : Head) → head_of row ≡ Some h → head_of (w.at r).row ≡ Some h) → (s X : ℕ) → May (rowed b row) s X → May (w.at r) s X
    row_may b row f s X (inl l) = inl l
    row_may b row f s X (inr e) = inr (f (head s X) e)

    pub row_move : (b : Bool) (row : Row) → ((h : Head) → head_of row ≡ Some h → head_of (w.at r).row ≡ Some h)
        → (b ≡ true → ((w.at r).recorded ≡ None) ⊎ Confirms row) → RowOk carries past w r (rowed b row) row
        → Invariant carries first past (put w r (rowed b row) [])
    row_move b row f free ok =
        let x : Node = rowed b row in
        let v : World = put w r x [] in
        let n : Later past w past v = silent x [] (row_may b row f) in
        let a : NodeOk carries past v r (w.at r) = node_stays carries past w past v n r (λ k s X e. e) (w.at r) (i.nodes r) in
        quiet x [] (row_may b row f)
        (record {
          component_mark = a.component_mark;
          recorded_mark = a.recorded_mark;
          marked = a.marked;
          topped = a.topped;
          within = a.within;
          both = a.both;
          chose = a.chose;
          known = a.known;
          free = free;
          row_ok = row_stays carries past w past v n r (λ k s X e. e) x row ok;
        })
        (λ m e. absurd e)

    -- the mode stays
    pub free_still : (row row' : Row) → (w.at r).row ≡ row → (Confirms row → Confirms row') → (w.at r).normal ≡ true → ((w.at r).recorded ≡ None) ⊎ Confirms row'
    free_still row row' e f n = ⊎_elim (λ (a : (w.at r).recorded ≡ None). inl a) (λ (a : Confirms row). inr (f a)) (at_free row e n)

    -- the head stays
    pub same_head : (h : Head) (p q : Phase) → (w.at r).row ≡ under h p → (g : Head) → head_of (under h q) ≡ Some g → head_of (w.at r).row ≡ Some g
    same_head h p q e g f = ap head_of e ∙ f
