-- What a chain of writings leaves: its pages and its places. Assumes nothing.
use Rattle.std.specs.Prelude.{if◌then◌else◌, ◌==◌}
use Rattle.std.proofs.Common.{◌≡◌, ℕ, zero, suc, ◌+◌, ◌<◌, Bool, true, false, not, ◌&&◌, eqb, List, length, slice_set, Some, None, Ok, Err, Option, sym, refl, ap, ◌∙◌, subst, inl, inr, ⊎_elim, add-one, arith}
use Rattle.std.proofs.lemmas.List.{get_or-set_same, get_or-set_other}
use Rattle.std.proofs.lemmas.Bool.{eqb-true, eq-eqb, false≢true, ltb-true, and_parts}
use Rattle.quorum.specs.declared.fault.Fault.{Fault}
use Rattle.stores.specs.declared.held.HeldPages.{HeldPages}
use Rattle.stores.specs.declared.page.Page.{Page}
use Rattle.stores.specs.declared.writing.Writing.{Writing}
use Rattle.stores.specs.Kept.{fresh, held_page, page_at, Spent}
use Rattle.stores.specs.Writings.{writing_at, acceptable, Performed, CutLeaves, CarriedOut, Chain, Carried, ReadAfter, MayRead, SpentBy, taken, held_read}

-- ---- the chain
pub chain_none : {S : Type 0} (Step : S → Writing → S → Type 0) (s : S) (ws : List Writing) → Chain Step s ws 0 s
unfolding Chain
chain_none Step s ws = refl

pub chain_more : {S : Type 0} (Step : S → Writing → S → Type 0) (s : S) (ws : List Writing) (n : ℕ) (m t : S) → Chain Step s ws n m → Step m (writing_at ws n) t → Chain Step s ws (n + 1) t
unfolding Chain
chain_more Step s ws n m t c h = rw add-one (m, c, h)

-- the next writing was refused
pub ends_refused : {S : Type 0} (pages : S → List Page) (places : S → ℕ) (leaves : S → ℕ → Page → Page → Page → Type 0) (s : S) (ws : List Writing) (n : ℕ) (m t : S) (j : ℕ) (q : Page) (e : Fault) →
    Chain (CarriedOut pages places leaves) s ws n m → n < length ws → acceptable (writing_at ws n) ≡ true → j ≡ (writing_at ws n).replica → q ≡ (writing_at ws n).page →
    Performed (pages m) (places m) (pages t) (places t) j q (writing_at ws n).cut (Err e) → Carried pages places leaves s ws n t
ends_refused pages places leaves s ws n m t j q e c l ok here this d = record {
  last = m;
  chain = c;
  ends = inr (
    l,
    record {
      acceptable = ok;
      fault = e;
      refused = subst (λ (p : Page). Performed (pages m) (places m) (pages t) (places t) (writing_at ws n).replica p (writing_at ws n).cut (Err e)) this
          (subst (λ (i : ℕ). Performed (pages m) (places m) (pages t) (places t) i q (writing_at ws n).cut (Err e)) here d);
    },
  );
}

-- ---- one writing
place_left : (xs ys : List Page) (a b j : ℕ) (q : Page) (o : Option ℕ) (u : Unit) → Performed xs a ys b j q o (Ok u) → Spent a b
place_left xs ys a b j q None u d = d.1
place_left xs ys a b j q (Some k) u d = d.1

-- every other page is as it was
other_page : (xs ys : List Page) (a b j r : ℕ) (q : Page) (o : Option ℕ) (u : Unit) → (r ≡ j → ⊥) → Performed xs a ys b j q o (Ok u) → page_at ys r ≡ page_at xs r
other_page xs ys a b j r q None u ne d = ap (λ zs. page_at zs r) d.0 ∙ get_or-set_other xs j r q fresh ne
other_page xs ys a b j r q (Some k) u ne d =
    ⊎_elim (λ same. ap (λ zs. page_at zs r) same) (λ new. ap (λ zs. page_at zs r) new ∙ get_or-set_other xs j r q fresh ne) d.0

new_page : (xs ys : List Page) (j : ℕ) (q : Page) → length xs ≡ 16 → j < 16 → ys ≡ slice_set xs j q → page_at ys j ≡ q
new_page xs ys j q l h e =
    let here : j < length xs = omega arith in
    ap (λ zs. page_at zs j) e ∙ get_or-set_same xs j q fresh here

-- a writing carried out on sixteen pages: what may be read at r goes on as the writing says
read_step : (Before : Page → Type 0) (xs ys : List Page) (a b j r : ℕ) (q : Page) (here : Bool) → eqb j r ≡ here → (o : Option ℕ) → length xs ≡ 16 → j < 16 →
    Performed xs a ys b j q o (Ok tt) → Before (page_at xs r) → ReadAfter here o q Before (page_at ys r)
read_step Before xs ys a b j r q false e o l h d before = subst Before (sym (other_page xs ys a b j r q o tt (λ same. false≢true (sym e ∙ eq-eqb j r (sym same))) d)) before
read_step Before xs ys a b j r q true e None l h d before = ap (λ k. page_at ys k) (sym (eqb-true j r e)) ∙ new_page xs ys j q l h d.0
read_step Before xs ys a b j r q true e (Some k) l h d before =
    ⊎_elim (λ same. inr (subst (λ zs. Before (page_at zs r)) (sym same) before))
    (λ new. inl (ap (λ k. page_at ys k) (sym (eqb-true j r e)) ∙ new_page xs ys j q l h new)) d.0

-- what the calls of a store promise of a replica and a page, said of the writing that names both
pub carried_out : {S : Type 0} (pages : S → List Page) (places : S → ℕ) (leaves : S → ℕ → Page → Page → Page → Type 0) (m t : S) (w : Writing) (j : ℕ) (q : Page) (u : Unit) →
    j ≡ w.replica → q ≡ w.page → Performed (pages m) (places m) (pages t) (places t) j q w.cut (Ok u) → CutLeaves (leaves m) w.cut (page_at (pages m) j) q (page_at (pages t) j) →
    CarriedOut pages places leaves m w t
carried_out pages places leaves m t w j q u here this d c = record {
  done = subst (λ (p : Page). Performed (pages m) (places m) (pages t) (places t) w.replica p w.cut (Ok tt)) this
      (subst (λ (i : ℕ). Performed (pages m) (places m) (pages t) (places t) i q w.cut (Ok tt)) here d);
  left = subst (λ (p : Page). CutLeaves (leaves m) w.cut (page_at (pages m) w.replica) p (page_at (pages t) w.replica)) this
      (subst (λ (i : ℕ). CutLeaves (leaves m) w.cut (page_at (pages m) i) q (page_at (pages t) i)) here c);
}

-- ---- any store
below_16 : (w : Writing) → acceptable w ≡ true → w.replica < 16
below_16 w ok = ltb-true _ _ (and_parts _ _ ok).0

pub may_read_none : (r : ℕ) (p : Page) (ws : List Writing) → MayRead r p ws 0 p
unfolding MayRead
may_read_none r p ws = refl

pub may_read_more : {S : Type 0} (pages : S → List Page) (places : S → ℕ) (leaves : S → ℕ → Page → Page → Page → Type 0) (r : ℕ) (p : Page) (ws : List Writing) (n : ℕ) (m t : S) →
    length (pages m) ≡ 16 → acceptable (writing_at ws n) ≡ true → CarriedOut pages places leaves m (writing_at ws n) t → MayRead r p ws n (page_at (pages m) r) → MayRead r p ws (n + 1) (page_at (pages t) r)
unfolding MayRead
may_read_more pages places leaves r p ws n m t l ok step before =
    let w = writing_at ws n in
    rw add-one (read_step (MayRead r p ws n) (pages m) (pages t) (places m) (places t) w.replica r w.page (eqb w.replica r) refl w.cut l (below_16 w ok) step.done before)

pub spent_none : (a : ℕ) → SpentBy 0 a a
spent_none a = record { most = omega arith; least = omega arith }

pub spent_more : {S : Type 0} (pages : S → List Page) (places : S → ℕ) (leaves : S → ℕ → Page → Page → Page → Type 0) (n a : ℕ) (m : S) (w : Writing) (t : S) →
    SpentBy n a (places m) → CarriedOut pages places leaves m w t → SpentBy (n + 1) a (places t)
spent_more pages places leaves n a m w t s step =
    let left = place_left (pages m) (pages t) (places m) (places t) w.replica w.page w.cut tt step.done in
    let most = s.most in let least = s.least in
    record { most = omega arith; least = omega arith }

-- ---- held pages
held_cut : (b : Bool) (old new q : Page) → q ≡ (if b then old else new) → q ≡ (if not b then new else old)
held_cut true old new q e = e
held_cut false old new q e = e

held_step : (xs ys : List Page) (a b j r : ℕ) (q : Page) (here : Bool) → eqb j r ≡ here → (o : Option ℕ) → length xs ≡ 16 → j < 16 →
    Performed xs a ys b j q o (Ok tt) → CutLeaves held_page o (page_at xs j) q (page_at ys j) → page_at ys r ≡ (if here && taken o then q else page_at xs r)
held_step xs ys a b j r q false e o l h d c = other_page xs ys a b j r q o tt (λ same. false≢true (sym e ∙ eq-eqb j r (sym same))) d
held_step xs ys a b j r q true e None l h d c = ap (λ k. page_at ys k) (sym (eqb-true j r e)) ∙ new_page xs ys j q l h d.0
held_step xs ys a b j r q true e (Some n) l h d c =
    subst (λ (k : ℕ). page_at ys k ≡ (if not (n == 0) then q else page_at xs k)) (eqb-true j r e) (held_cut (n == 0) (page_at xs j) q (page_at ys j) c)

held_chain : (r : ℕ) (ws : List Writing) (n : ℕ) (s t : HeldPages) → ((k : ℕ) → k < n → acceptable (writing_at ws k) ≡ true) →
    Chain (CarriedOut (λ (h : HeldPages). h.pages) (λ _. 65535) (λ _. held_page)) s ws n t → page_at t.pages r ≡ held_read r (page_at s.pages r) ws n
unfolding Chain held_read
held_chain r ws zero s t ok c = ap (λ (h : HeldPages). page_at h.pages r) c
held_chain r ws (suc n) s t ok c =
    let w = writing_at ws n in let m = c.0 in let step = c.2 in
    let now = held_step m.pages t.pages 65535 65535 w.replica r w.page (eqb w.replica r) refl w.cut m.sixteen (below_16 w (ok n (omega arith))) step.done step.left in
    now ∙ ap (λ p. if (w.replica == r) && taken w.cut then w.page else p) (held_chain r ws n s m (λ k l. ok k (omega arith)) c.1)

turned_away : (xs ys : List Page) (a b j : ℕ) (q : Page) (o : Option ℕ) (e : Fault) → Performed xs a ys b j q o (Err e) → ys ≡ xs
turned_away xs ys a b j q None e d = d.pages
turned_away xs ys a b j q (Some k) e d = d.pages

pub held_read_from : (r : ℕ) (ws : List Writing) (n : ℕ) (s t : HeldPages) → ((k : ℕ) → k < n → acceptable (writing_at ws k) ≡ true) →
    Carried (λ (h : HeldPages). h.pages) (λ _. 65535) (λ _. held_page) s ws n t → page_at t.pages r ≡ held_read r (page_at s.pages r) ws n
held_read_from r ws n s t ok c =
    let m = c.last in let w = writing_at ws n in
    let same : t.pages ≡ m.pages = ⊎_elim (λ e. ap (λ (h : HeldPages). h.pages) e) (λ no. turned_away m.pages t.pages 65535 65535 w.replica w.page w.cut no.1.fault no.1.refused) c.ends in
    ap (λ zs. page_at zs r) same ∙ held_chain r ws n s m ok c.chain
