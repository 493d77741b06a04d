-- What an accepted call knows of its page, row and message. Assumes nothing.
use Rattle.std.proofs.Common.{◌≡◌, ℕ, ◌+◌, Bool, true, false, is_some, Some, None, Option, sym, refl, ap, ◌∙◌, subst, add-one, arith}
use Rattle.std.proofs.lemmas.Bool.{false≢true}
use Rattle.std.proofs.lemmas.Bool.Decides.{nat_tests}
use Rattle.stores.proofs.Kept.{rules_from}
use Rattle.stores.specs.Facts.{PageRules}
use Rattle.stores.specs.declared.page.Mode.TheVariants.{Joining, Normal}
use Rattle.stores.specs.declared.page.Page.{Page}
use Rattle.stores.specs.declared.view.Head.{Head}
use Rattle.stores.specs.declared.view.Recorded.{Recorded}
use Rattle.rows.specs.Rows.{is_joining, under_head, stage_keeps}
use Rattle.rows.proofs.Facts.{row_parts, gathering_from, confirming_from, applying_from, entering_from, round_from, mode_normal, mode_waiting, mode_joining, mode_reconfiguration}
use Rattle.rows.specs.declared.row.Row.{Row}
use Rattle.rows.specs.declared.row.Stage.{Stage}
use Rattle.rows.specs.declared.row.Stage.TheVariants.{Idle, Gathering, Confirming, Applying, Entering, Round}
use Rattle.manager.specs.Calls.{head_of}
use Rattle.manager.proofs.Accepted.{Offered, Announced}
use Rattle.bridge.proofs.Judged.{Staged, Confirms}
use Rattle.bridge.proofs.Options.{present_is}

recorded_is : (h : Head) (o : Option Recorded) → under_head h o ≡ true → (d : Recorded) × (o ≡ Some d)
recorded_is h None e = absurd (false≢true e)
recorded_is h (Some d) e = (d, refl)

confirms : (r : ℕ) (p : Page) (h : Head) → PageRules r p → p.mode ≡ Normal → under_head h p.recorded ≡ true → Confirms p
confirms r p h f m u =
    let c = present_is p.component (f.normal m) in
    let d = recorded_is h p.recorded u in
    let n : d.0.view.number.0 ≡ c.0.number.0 + 1 = f.follow c.0 d.0 c.1 d.1 in
    record { view = c.0; next = d.0; component = c.1; recorded = d.1; numbered = n ∙ add-one c.0.number.0 }

stage_staged : (r : ℕ) (p : Page) (up : Bool) (w : Row) (s : Stage) → PageRules r p → stage_keeps r p up w.lost s ≡ true → Staged p s
stage_staged r p up w Idle f k = tt
stage_staged r p up w (Gathering h g) f k = mode_normal p.mode (gathering_from r p h g k).normal
stage_staged r p up w (Confirming h g) f k = let t = confirming_from r p h g k in confirms r p h f (mode_normal p.mode t.normal) t.under
stage_staged r p up w (Applying h a) f k = let m = mode_waiting p.mode (applying_from r p h a k).waiting in (m, (f.waiting m).0)
stage_staged r p up w (Entering h x) f k =
    let t = entering_from r p h x k in
    let d = recorded_is h p.recorded t.under in
    ((f.joining (mode_joining p.mode t.joining)).0, d.0, d.1)
stage_staged r p up w (Round h rs) f k = mode_reconfiguration p.mode (round_from r p h rs k).reconfiguration

pub staged : (r : ℕ) (p : Page) (w : Row) → Offered r p w → Staged p w.stage
staged r p w o = stage_staged r p w.up w w.stage (rules_from r p o.page) (row_parts r p w o.row).1

-- ---- a view
pub closed_stage : (s : Stage) → is_some (head_of s) ≡ false → s ≡ Idle
closed_stage Idle e = refl
closed_stage (Gathering h g) e = absurd (false≢true (sym e))
closed_stage (Confirming h g) e = absurd (false≢true (sym e))
closed_stage (Applying h a) e = absurd (false≢true (sym e))
closed_stage (Entering h x) e = absurd (false≢true (sym e))
closed_stage (Round h rs) e = absurd (false≢true (sym e))

-- an idle replica that is up is not joining
pub not_joining : (r : ℕ) (p : Page) (w : Row) (h : Head) → Announced r p w h → p.mode ≡ Joining → ⊥
not_joining r p w h a m =
    let k : stage_keeps r p w.up w.lost Idle ≡ true = subst (λ s. stage_keeps r p w.up w.lost s ≡ true) (closed_stage w.stage a.idle) (row_parts r p w a.offer.row).1 in
    let u = a.up in
    let j : is_joining p.mode ≡ true = ap is_joining m in
    grind (arith, nat_tests)
