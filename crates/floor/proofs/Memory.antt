-- With room for 65,536 messages no call of a run from a founding finds no memory. Assumes nothing.
use Rattle.std.proofs.Common.{◌≡◌, ℕ, ◌+◌, ◌<◌, ◌≤◌, ◌≢◌, Bool, List, [], ◌∷◌, ◌++◌, length, Ok, Err, Result, subst, arith}
use Rattle.std.proofs.lemmas.List.Elements.{All-cons, All-nil}
use Rattle.quorum.specs.declared.fault.Failure.{Failure}
use Rattle.quorum.specs.declared.fault.Failure.TheVariants.{NoMemory}
use Rattle.manager.specs.Effects.{Effect}
use Rattle.manager.specs.declared.answer.Answer.{Answer}
use Rattle.runs.proofs.Orderly.{at_most_two, next_has_room}
use Rattle.runs.proofs.Runs.{run_step, end_step}
use Rattle.runs.specs.Runs.{Taken, Run, end_of, Founded}
use Rattle.runs.specs.Steps.{Step, CutOff, Stopped}
use Rattle.runs.specs.World.{World, ruled, PostsSome}
use Rattle.runs.specs.declared.work.Call.{Call}
use Rattle.runs.specs.declared.work.Call.TheVariants.{Whole, Cut, Stop}
use Rattle.runs.specs.declared.work.Work.{Work}
use Rattle.stores.specs.declared.view.View.{View}
use Rattle.floor.specs.Memory.{LacksRoomFor, LacksRoom, EachLacksRoom, AllFindMemory}

-- who lacks room for what a call posts has fewer than two free places
pub lacks_two : (f : ℕ → ℕ → Bool) (w : World) (call : Call) (capacity : ℕ) → LacksRoom f w call capacity →
    capacity < length w.post + 2
lacks_two f w (Whole k) capacity (e, rules, lacks) = omega (arith, at_most_two e.answer.posts)
lacks_two f w (Cut k n) capacity a = absurd a
lacks_two f w (Stop r) capacity a = absurd a

-- a stop and a cut want no memory
pub stop_finds : (f : ℕ → ℕ → Bool) (w : World) (r : ℕ) (a : Result Answer Failure) (v : World) → Stopped f w r a v →
    a ≢ Err NoMemory
stop_finds f w r a v s none = subst (λ (x : Result Answer Failure). Stopped f w r x v) none s

pub cut_finds : (f : ℕ → ℕ → Bool) (w : World) (k : Work) (a : Result Answer Failure) (v : World) → CutOff f w k a v →
    a ≢ Err NoMemory
cut_finds f w k a v s none = subst (λ (x : Result Answer Failure). CutOff f w k x v) none s

module _ (f : ℕ → ℕ → Bool) (first : View) (start : World) (founded : Founded first start) where
  module _ (capacity : ℕ) (room : 65536 ≤ capacity) where
    -- a call that posts something has room for it
    has_room : (before : List Taken) (now : World) → Run f start before → end_of start before ≡ now →
        (k : Work) (e : Effect) → ruled f now k ≡ Ok e → PostsSome e → LacksRoomFor f now k capacity → ⊥
    has_room before now run ends k e rules some (d, allows, lacks) =
        omega (arith, next_has_room f first start before founded run now ends k e rules some, at_most_two d.answer.posts, room)

    -- so it finds memory
    finds : (before : List Taken) (now : World) → Run f start before → end_of start before ≡ now →
        (call : Call) (v : World) → Step f now call (Err NoMemory) v → LacksRoom f now call capacity → ⊥
    finds before now run ends (Whole k) v (e, rules, some, same) lacks =
        has_room before now run ends k e rules some lacks
    finds before now run ends (Cut k n) v step lacks = absurd step
    finds before now run ends (Stop r) v step lacks = absurd step

    pub all_find : (before : List Taken) (now : World) (after : List Taken) → Run f start before → end_of start before ≡ now →
        Run f now after → EachLacksRoom f capacity now after → AllFindMemory after
    all_find before now [] run ends more lacks = All-nil (λ (t : Taken). t.answer ≢ Err NoMemory)
    all_find before now (t ∷ after) run ends (step, more) (lacks, rest) =
        All-cons (λ (x : Taken). x.answer ≢ Err NoMemory) t after
        (λ none. finds before now run ends t.call t.world
        (subst (λ (a : Result Answer Failure). Step f now t.call a t.world) none step) (lacks none))
        (all_find (before ++ t ∷ []) t.world after (run_step f start before now t run ends step)
        (end_step start before t) more rest)
