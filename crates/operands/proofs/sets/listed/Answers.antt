use Rattle.std.proofs.Common.{◌≡◌, ◌<◌, ◌==◌, length, get_or, take, map, None, Some, fold, refl, ap, ◌∙◌, rules, tests}
use Rattle.std.proofs.lemmas.Iterator.{YieldsList}
use Rattle.std.proofs.lemmas.Iterator.Consumers.{YieldsList-at, YieldsList-so_far, YieldsList-turn, YieldsList-end}
use Rattle.std.proofs.lemmas.Iterator.Splits.{YieldsList-from_slice_split}
use Rattle.std.proofs.lemmas.List.Folds.{fold_stuck}
use Rattle.operands.specs.Numerals.{reads}
use Rattle.quorum.specs.Sets.{nobody_set}
use Rattle.operands.specs.Sets.{with_replica, joined, words}
use Rattle.operands.proofs.sets.listed.Given as given
use Rattle.operands.proofs.sets.listed.Goals as goal

-- a word that names no replica ends the reading
pub returns-in_err-set : goal.returns-in_err-set
returns-in_err-set c =
    let t = c.args.text.now in
    let w = c.in-Some.word.now in
    let n = length c.loop-word.yielded in
    let all : YieldsList (given.iterator-loop-word).next_gives (λ x. x.now) c.into_iter-word-iterator.result (words t) =
    YieldsList-at c.into_iter-word-iterator.ensures.into_iter_gives (YieldsList-from_slice_split _ (λ b. b == 44) t c.split-word-items.ensures.rest c.split-word-items.ensures.done c.split-word-items.ensures.closure (λ x r q k. search (rules, tests))) in
    let so_far : map (λ x. x.now) c.loop-word.yielded ≡ take n (words t) = YieldsList-so_far all c.loop-word.yielded _ c.loop-word.yielded_by in
    let turn : (n < length (words t)) × (w ≡ get_or (words t) n w) = YieldsList-turn all c.loop-word.yielded _ c.loop-word.yielded_by _ _ c.in-Some.word c.in-Some.is c.next.ensures.steps in
    let here : with_replica c.loop-word.set (reads w) ≡ None = search rules in
    let stuck : None ≡ fold joined (Some nobody_set) (words t) = fold_stuck joined None (λ x. refl) (Some nobody_set) (words t) n w turn.0 (rw (← so_far, ← c.loop-word.invariant, ← turn.1) here) in
    search (rules, stuck)

pub returns : goal.returns
returns c =
    let t = c.args.text.now in
    let all = YieldsList-end
    (YieldsList-at c.into_iter-word-iterator.ensures.into_iter_gives (YieldsList-from_slice_split _ (λ b. b == 44) t c.split-word-items.ensures.rest c.split-word-items.ensures.done c.split-word-items.ensures.closure (λ x r q k. search (rules, tests))))
    c.loop-word.yielded _ c.loop-word.yielded_by _ _ c.in-None.is c.next.ensures.steps in
    let joined_all : Some c.loop-word.set ≡ fold joined (Some nobody_set) (words t) = c.loop-word.invariant ∙ ap (fold joined (Some nobody_set)) all.0 in
    search (rules, joined_all)
