-- Calls made one after another are a run. Assumes nothing.
use Rattle.std.proofs.Common.{◌≡◌, ℕ, ◌+◌, ◌<◌, ◌≤◌, Bool, List, [], ◌∷◌, ◌++◌, length, take, map, Err, Result, sym, refl, subst, ap, ◌∙◌, slice_index_or, arith}
use Rattle.std.proofs.lemmas.List.{take_more}
use Rattle.quorum.specs.declared.fault.Failure.{Failure}
use Rattle.quorum.specs.declared.fault.Failure.TheVariants.{NoMemory}
use Rattle.manager.specs.declared.answer.Answer.{Answer}
use Rattle.runs.proofs.Runs.{run_step, end_step}
use Rattle.runs.specs.Runs.{Taken, end_of}
use Rattle.runs.specs.Steps.{Step}
use Rattle.runs.specs.World.{World}
use Rattle.runs.specs.declared.work.Call.{Call}
use Rattle.runs.specs.declared.work.Call.TheVariants.{Whole, Cut, Stop}
use Rattle.stores.specs.declared.page.Page.{Page}
use Rattle.floor.specs.Cuts.{CutLeaves, CutsLeave}
use Rattle.floor.specs.Memory.{LacksRoom, EachLacksRoom}
use Rattle.floor.specs.Ran.{Ran}

calls_more : (ts : List Taken) (t : Taken) → map (λ x. x.call) (ts ++ t ∷ []) ≡ map (λ x. x.call) ts ++ t.call ∷ []
calls_more [] t = refl
calls_more (x ∷ ts) t = ap (λ cs. x.call ∷ cs) (calls_more ts t)

-- ---- want of memory
-- who lacks room by a capacity lacks it by a smaller one
lacks_less : (f : ℕ → ℕ → Bool) (w : World) (call : Call) (small large : ℕ) → small ≤ large →
    LacksRoom f w call large → LacksRoom f w call small
lacks_less f w (Whole k) small large l (e, rules, lacks) = (e, rules, omega arith)
lacks_less f w (Cut k n) small large l a = a
lacks_less f w (Stop r) small large l a = a

-- by the capacity that the post has now, so by that with which it began
pub lacks_first : (f : ℕ → ℕ → Bool) (w : World) (call : Call) (r : Result Answer Failure) (first now : ℕ) → first ≤ now →
    (r ≡ Err NoMemory → LacksRoom f w call now) → r ≡ Err NoMemory → LacksRoom f w call first
lacks_first f w call r first now l lacks none = lacks_less f w call first now l (lacks none)

lacks_more : (f : ℕ → ℕ → Bool) (capacity : ℕ) (w v : World) (ts : List Taken) (t : Taken) → end_of w ts ≡ v →
    EachLacksRoom f capacity w ts → (t.answer ≡ Err NoMemory → LacksRoom f v t.call capacity) →
    EachLacksRoom f capacity w (ts ++ t ∷ [])
lacks_more f capacity w v [] t e all lacks =
    (λ none. subst (λ (x : World). LacksRoom f x t.call capacity) (sym e) (lacks none), tt)
lacks_more f capacity w v (x ∷ ts) t e all lacks = (all.0, lacks_more f capacity x.world v ts t e all.1 lacks)

module _ {S : Type 0} (pages : S → List Page) (places : S → ℕ) (leaves : S → ℕ → Page → Page → Page → Type 0)
    (f : ℕ → ℕ → Bool) where
  -- ---- cuts, store by store
  cuts_more : (s : S) (w v : World) (ts : List Taken) (now : S) (t : Taken) (next : S) → end_of w ts ≡ v →
      CutsLeave pages places leaves f s w ts now → pages next ≡ t.world.pages → places next ≡ t.world.places →
      CutLeaves (leaves now) f v t.call t.answer t.world → CutsLeave pages places leaves f s w (ts ++ t ∷ []) next
  cuts_more s w v [] now t next e c p n d = (
    next,
    p,
    n,
    subst (λ (x : S). CutLeaves (leaves x) f w t.call t.answer t.world) c
        (subst (λ (x : World). CutLeaves (leaves now) f x t.call t.answer t.world) (sym e) d),
    refl,
  )
  cuts_more s w v (x ∷ ts) now t next e c p n d = (c.0, c.1, c.2, c.3, cuts_more c.0 x.world v ts now t next e c.4 p n d)

  -- one call more
  pub ran_more : (capacity : ℕ) (s : S) (w : World) (now : S) (v : World) (next : S) (u : World) (calls : List Call) (i : ℕ)
      (d : Call) (r : Result Answer Failure) → i < length calls →
      Ran pages places leaves f capacity s w now v (take i calls) → Step f v (slice_index_or calls i d) r u →
      pages next ≡ u.pages → places next ≡ u.places → CutLeaves (leaves now) f v (slice_index_or calls i d) r u →
      (r ≡ Err NoMemory → LacksRoom f v (slice_index_or calls i d) capacity) →
      Ran pages places leaves f capacity s w next u (take (i + 1) calls)
  ran_more capacity s w now v next u calls i d r l a step p n cut lacks =
      let t : Taken = record { call = slice_index_or calls i d; answer = r; world = u } in
      record {
        takens = a.takens ++ t ∷ [];
        calls_are = calls_more a.takens t ∙ ap (λ cs. cs ++ t.call ∷ []) a.calls_are ∙ sym (take_more calls i d l);
        run = run_step f w a.takens v t a.run a.ends step;
        cuts = cuts_more s w v a.takens now t next a.ends a.cuts p n cut;
        memory = lacks_more f capacity w v a.takens t a.ends a.memory lacks;
        ends = end_step w a.takens t;
      }
