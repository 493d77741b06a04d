-- A floor as the moves see it: sixteen replicas, and above them only ones that have done nothing. Assumes nothing.
use Rattle.std.proofs.Common.{◌≡◌, ℕ, ◌<◌, ◌≤◌, false, ◌≢◌, List, length, set, ap, ◌∙◌, arith, length-set}
use Rattle.std.proofs.lemmas.List.{get_or-set_same, get_or-set_other, get_or_past}
use Rattle.bridge.specs.Seen.{node_of, seen_post}
use Rattle.rows.specs.declared.row.Row.{Row}
use Rattle.safety.specs.Replicas.{Node}
use Rattle.safety.specs.Runs as Moves
use Rattle.stores.specs.Kept.{fresh, page_at}
use Rattle.stores.specs.declared.page.Page.{Page}
use Rattle.runs.specs.Founding.{row_at}
use Rattle.runs.specs.World.{World}
use Rattle.rows.specs.Rows.{empty_row}

-- the replica q of these pages and rows
abbrev pub seen_at : List Page → List Row → ℕ → Node
seen_at pages rows q = node_of (page_at pages q) (row_at rows q)

abbrev pub world_of : World → Moves.World
world_of w = record { at = seen_at w.pages w.rows; post = seen_post w.post }

-- sixteen pages and sixteen rows
abbrev pub Sixteen : World → Type 0
Sixteen w = (length w.pages ≡ 16) × (length w.rows ≡ 16)

pub past_pages : (w : World) → Sixteen w → (q : ℕ) → 16 ≤ q → page_at w.pages q ≡ fresh
past_pages w l q h = get_or_past w.pages q fresh (omega (arith, l.0))

pub past_rows : (w : World) → Sixteen w → (q : ℕ) → 16 ≤ q → row_at w.rows q ≡ empty_row false
past_rows w l q h = get_or_past w.rows q (empty_row false) (omega (arith, l.1))

-- one page and one row changed, or one row
module _ (w : World) (l : Sixteen w) (r : ℕ) (below : r < 16) (p : Page) (row : Row) where
  pub both_here : seen_at (set w.pages r p) (set w.rows r row) r ≡ node_of p row
  both_here =
      let a : r < length w.pages = omega (arith, l.0) in
      let b : r < length w.rows = omega (arith, l.1) in
      λ j. node_of (get_or-set_same w.pages r p fresh a j) (get_or-set_same w.rows r row (empty_row false) b j)

  pub both_others : (q : ℕ) → q ≢ r → seen_at (set w.pages r p) (set w.rows r row) q ≡ seen_at w.pages w.rows q
  both_others q d = λ j. node_of (get_or-set_other w.pages r q p fresh d j) (get_or-set_other w.rows r q row (empty_row false) d j)

  pub row_here : seen_at w.pages (set w.rows r row) r ≡ node_of (page_at w.pages r) row
  row_here =
      let b : r < length w.rows = omega (arith, l.1) in
      ap (node_of (page_at w.pages r)) (get_or-set_same w.rows r row (empty_row false) b)

  pub row_others : (q : ℕ) → q ≢ r → seen_at w.pages (set w.rows r row) q ≡ seen_at w.pages w.rows q
  row_others q d = ap (node_of (page_at w.pages q)) (get_or-set_other w.rows r q row (empty_row false) d)

-- two worlds with the same pages and rows
pub seen_same : (v : World) (pages : List Page) (rows : List Row) → v.pages ≡ pages → v.rows ≡ rows → (q : ℕ) → (world_of v).at q ≡ seen_at pages rows q
seen_same v pages rows a b q = λ j. seen_at (a j) (b j) q

pub long_both : (w v : World) (r : ℕ) (p : Page) (row : Row) → Sixteen w → v.pages ≡ set w.pages r p → v.rows ≡ set w.rows r row → Sixteen v
long_both w v r p row l a b = (ap length a ∙ length-set w.pages r p ∙ l.0, ap length b ∙ length-set w.rows r row ∙ l.1)

pub long_row : (w v : World) (r : ℕ) (row : Row) → Sixteen w → v.pages ≡ w.pages → v.rows ≡ set w.rows r row → Sixteen v
long_row w v r row l a b = (ap length a ∙ l.0, ap length b ∙ length-set w.rows r row ∙ l.1)
