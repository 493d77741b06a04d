-- Whatever the verdict, it posts what it is handed. Assumes nothing.
use Rattle.std.proofs.Common.{◌≡◌, ℕ, Some, None, Option, refl}
use Rattle.std.proofs.lemmas.Bool.{cond_both}
use Rattle.quorum.specs.Members.{has}
use Rattle.stores.specs.declared.page.Page.{Page}
use Rattle.stores.specs.declared.view.Recorded.{Recorded}
use Rattle.stores.specs.declared.view.View.{View}
use Rattle.rounds.specs.declared.outcome.Outcome.{Outcome}
use Rattle.rows.specs.declared.message.Posts.{Posts}
use Rattle.rows.specs.declared.row.Row.{Row}
use Rattle.manager.specs.Effects.{Effect, raised, ending, component_page, component_row, spare_page, spare_row, installing, settling, carried_out}
use Rattle.manager.specs.declared.verdict.Verdict.{Verdict}
use Rattle.manager.specs.declared.verdict.Verdict.TheVariants.{Stays, Records, Installs, Reconfigures, Closes, Forgets, Ends}

installing_posts : (p : Page) (w : Row) (posts : Posts) (o : Option Recorded) → (installing p w posts o).answer.posts ≡ posts
installing_posts p w posts None = refl
installing_posts p w posts (Some s) = refl

settling_posts : (r : ℕ) (p : Page) (w : Row) (posts : Posts) (o : Outcome) (v : Option View) → (settling r p w posts o v).answer.posts ≡ posts
settling_posts r p w posts o None = refl
settling_posts r p w posts o (Some v) =
    cond_both (has v.set.0 r) (ending (component_page p (Some (raised p.mark v.number.0)) v) (component_row w v) posts o (Some v))
    (ending (spare_page p) (spare_row w) posts o (Some v)) (λ (e : Effect). e.answer.posts ≡ posts) (λ _. refl) (λ _. refl)

pub carried_posts : (r : ℕ) (p : Page) (w : Row) (posts : Posts) (v : Verdict) → (carried_out r p w posts v).answer.posts ≡ posts
carried_posts r p w posts Stays = refl
carried_posts r p w posts Records = refl
carried_posts r p w posts Installs = installing_posts p w posts p.recorded
carried_posts r p w posts Reconfigures = refl
carried_posts r p w posts Closes = refl
carried_posts r p w posts Forgets = refl
carried_posts r p w posts (Ends o v) = settling_posts r p w posts o v
