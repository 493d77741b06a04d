-- A run of a floor is a run of moves. Assumes nothing.
use Rattle.std.proofs.Common.{◌≡◌, ℕ, zero, suc, Bool, List, [], ◌∷◌, Some, refl}
use Rattle.quorum.specs.Laws.{Grows, Meets}
use Rattle.safety.specs.Moves.{settlement}
use Rattle.safety.specs.Replicas.{In}
use Rattle.safety.specs.Replicas as Replicas
use Rattle.safety.specs.Runs as Moves
use Rattle.safety.specs.Runs.{done}
use Rattle.stores.specs.declared.view.Head.{Head}
use Rattle.stores.specs.declared.view.View.{View}
use Rattle.runs.specs.Findings.{FormsIn, SettlesIn}
use Rattle.runs.specs.Runs.{Taken, Run, world_at, OfCall}
use Rattle.runs.specs.World.{World}
use Rattle.runs.proofs.Seen.{world_of, Sixteen}
use Rattle.runs.proofs.Taken.{Called, step_called}

module _ (f : ℕ → ℕ → Bool) where
  -- the steps of moves that these calls are, call by call
  pub record Carried (w : World) (takens : List Taken) : Type 0 where
    pub steps : List Moves.Step
    pub is : Moves.Run f (world_of w) steps
    pub worlds : (i : ℕ) → Moves.world_at (world_of w) steps i ≡ world_of (world_at w takens i)
    pub long : (i : ℕ) → Sixteen (world_at w takens i)
    pub forms : (i q : ℕ) (h : Head) (m : Replicas.Report) → In (Replicas.Message.report_from q h m) (Moves.formed_at steps i) → OfCall (FormsIn f h) w takens i
    pub settles : (i : ℕ) (h : Head) (v : View) → OfCall (SettlesIn f h v) w takens i → Moves.settled_at steps i ≡ Some (settlement h v)

  nothing : (w : World) → Sixteen w → Carried w []
  nothing w l = record { steps = []; is = Moves.Run.none; worlds = at; long = all; forms = form; settles = settle }
    where
      at : (i : ℕ) → Moves.world_at (world_of w) [] i ≡ world_of (world_at w [] i)
      at zero = refl
      at (suc i) = refl

      all : (i : ℕ) → Sixteen (world_at w [] i)
      all zero = l
      all (suc i) = l

      form : (i q : ℕ) (h : Head) (m : Replicas.Report) → In (Replicas.Message.report_from q h m) (Moves.formed_at [] i) → OfCall (FormsIn f h) w [] i
      form zero q h m a = absurd a
      form (suc i) q h m a = absurd a

      settle : (i : ℕ) (h : Head) (v : View) → OfCall (SettlesIn f h v) w [] i → Moves.settled_at [] i ≡ Some (settlement h v)
      settle zero h v a = absurd a
      settle (suc i) h v a = absurd a

  abbrev step_of : (w : World) (t : Taken) → Called f w t → Moves.Step
  step_of w t c = done c.formed c.settled (world_of t.world)

  one_more : (w : World) (t : Taken) (takens : List Taken) → Sixteen w → Called f w t → Carried t.world takens → Carried w (t ∷ takens)
  one_more w t takens l c d = record { steps = step_of w t c ∷ d.steps; is = Moves.Run.call c.is d.is; worlds = at; long = all; forms = form; settles = settle }
    where
      at : (i : ℕ) → Moves.world_at (world_of w) (step_of w t c ∷ d.steps) i ≡ world_of (world_at w (t ∷ takens) i)
      at zero = refl
      at (suc i) = d.worlds i

      all : (i : ℕ) → Sixteen (world_at w (t ∷ takens) i)
      all zero = l
      all (suc i) = d.long i

      form : (i q : ℕ) (h : Head) (m : Replicas.Report) → In (Replicas.Message.report_from q h m) (Moves.formed_at (step_of w t c ∷ d.steps) i) → OfCall (FormsIn f h) w (t ∷ takens) i
      form zero q h m a = absurd a
      form (suc zero) q h m a = c.forms q h m a
      form (suc (suc i)) q h m a = d.forms (suc i) q h m a

      settle : (i : ℕ) (h : Head) (v : View) → OfCall (SettlesIn f h v) w (t ∷ takens) i → Moves.settled_at (step_of w t c ∷ d.steps) i ≡ Some (settlement h v)
      settle zero h v a = absurd a
      settle (suc zero) h v a = c.settles h v a
      settle (suc (suc i)) h v a = d.settles (suc i) h v a

  pub carried : Grows f → Meets f → (w : World) (takens : List Taken) → Sixteen w → Run f w takens → Carried w takens
  carried grows meets w [] l run = nothing w l
  carried grows meets w (t ∷ takens) l (s, run) =
      let c = step_called f w l grows meets t s in
      one_more w t takens l c (carried grows meets t.world takens c.long run)
