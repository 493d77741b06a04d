-- A list of calls made on a floor, and what is found of it. Assumes nothing.
use Rattle.std.specs.Prelude.{◌≡◌, ℕ, ◌≤◌, Bool, List, ◌++◌, map}
use Rattle.manager.specs.declared.need.Need.{Need}
use Rattle.runs.specs.Findings.{Findings}
use Rattle.runs.specs.Orderly.{OrderlyRun}
use Rattle.runs.specs.Runs.{Taken, Run, end_of, Founded}
use Rattle.runs.specs.World.{World}
use Rattle.runs.specs.declared.work.Call.{Call}
use Rattle.quorum.specs.Members.{size}
use Rattle.stores.specs.Writings.{SpentBy}
use Rattle.stores.specs.declared.page.Page.{Page}
use Rattle.stores.specs.declared.view.View.{View}
use Rattle.floor.specs.Cuts.{CutsLeave}
use Rattle.floor.specs.Memory.{EachLacksRoom, AllFindMemory}

-- over stores with these pages and places, which say this of their cuts, and by the relation f of a rule
module _ {S : Type 0} (pages : S → List Page) (places : S → ℕ) (leaves : S → ℕ → Page → Page → Page → Type 0)
    (f : ℕ → ℕ → Bool) where
  -- The calls, made one after another, led from the store s and the world w to the store t and the world v; each cut left of
  -- its page what the store says. The post began with this capacity: a call that found no memory lacked room by it.
  pub record Ran (capacity : ℕ) (s : S) (w : World) (t : S) (v : World) (calls : List Call) : Type 0 where
    pub takens : List Taken
    pub calls_are : map (λ x. x.call) takens ≡ calls
    pub run : Run f w takens
    pub cuts : CutsLeave pages places leaves f s w takens t
    pub memory : EachLacksRoom f capacity w takens
    pub ends : end_of w takens ≡ v

  -- Whatever run led to w from a founding, that run and these calls have the three findings, and their worlds are in order; and
  -- with room for 65,536 messages no call of these finds no memory.
  pub record Found (capacity : ℕ) (s : S) (w : World) (t : S) (v : World) (calls : List Call) : Type 0 where
    pub ran : Ran capacity s w t v calls
    pub findings : (first : View) (start : World) (before : List Taken) → Founded first start → Run f start before →
        end_of start before ≡ w → Findings f first start (before ++ ran.takens)
    pub orderly : (first : View) (start : World) (before : List Taken) → Founded first start → Run f start before →
        end_of start before ≡ w → OrderlyRun f start (before ++ ran.takens)
    pub memory : (first : View) (start : World) (before : List Taken) → Founded first start → Run f start before →
        end_of start before ≡ w → 65536 ≤ capacity → AllFindMemory ran.takens

  -- A founding with this first view and this need, on the store s, and the calls after it: the three findings of that run, whose
  -- worlds are in order; and with room for 65,536 messages no call finds no memory.
  pub record Evening (capacity : ℕ) (first : View) (need : Need) (s t : S) (v : World) (calls : List Call) : Type 0 where
    pub founded : World
    pub begun : S
    pub spent : SpentBy (size first.set.0) (places s) (places begun)
    pub pages_are : pages begun ≡ founded.pages
    pub places_are : places begun ≡ founded.places
    pub begins : Founded first founded
    pub needs : founded.need ≡ need
    pub ran : Ran capacity begun founded t v calls
    pub findings : Findings f first founded ran.takens
    pub orderly : OrderlyRun f founded ran.takens
    pub memory : 65536 ≤ capacity → AllFindMemory ran.takens
