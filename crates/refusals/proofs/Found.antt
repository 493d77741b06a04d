-- Refusals one after another come to the first whose condition holds. Assumes nothing.
use Rattle.std.specs.Option.{option_or}
use Rattle.std.proofs.Common.{◌≡◌, ℕ, Bool, true, false, if◌then◌else◌, ◌||◌, ◌⊎◌, All, Decides, List, [], ◌∷◌, ◌++◌, Some, None, Ok, Err, Option, Result, sym, refl, ap, ◌∙◌, subst, inl, inr}
use Rattle.std.proofs.lemmas.Bool.{both_ways}
use Rattle.std.proofs.lemmas.List.Elements.{All-nil, All-cons, All-head, All-tail}
use Rattle.quorum.specs.Faults.{refused_if, given}
use Rattle.quorum.specs.declared.fault.Fault.{Fault}
use Rattle.quorum.specs.declared.fault.Reason.{Reason}
use Rattle.manager.specs.Calls.{refusal}
use Rattle.refusals.specs.Order.{IsFirst}

-- of the conditions of these reasons, and of the replica that each names
module _ (Holds : Reason → Type 0) (names : Reason → ℕ) where
  -- none of these conditions holds
  abbrev pub Passes : List Reason → Type 0
  Passes xs = All (λ x. Holds x → ⊥) xs

  pub record Refused (xs : List Reason) (o : Option Fault) : Type 0 where
    pub reason : Reason
    pub fault : o ≡ Some (refusal reason (names reason))
    pub first : IsFirst xs Holds reason

  -- no refusal where none holds, or that of the first that holds
  pub record Found (xs : List Reason) (o : Option Fault) : Type 0 where
    pub is : ((o ≡ None) × Passes xs) ⊎ Refused xs o

  pub found_one : (x : Reason) (n : ℕ) (b : Bool) → n ≡ names x → Decides b (Holds x) →
      Found (x ∷ []) (refused_if b (refusal x n))
  found_one x n true e d =
      record {
        is = inr (record {
          reason =
              x;
          fault = ap (λ k. Some (refusal x k)) e;
          first = inl (refl, d.0 refl);
        });
      }
  found_one x n false e d =
      let fails : Holds x → ⊥ = λ h. both_ways false refl (d.1 h) in
      record { is = inl (refl, All-cons (λ z. Holds z → ⊥) x [] fails (All-nil (λ z. Holds z → ⊥))) }

  -- two tests for one number, which name a replica each
  pub found_either : (x : Reason) (m n : ℕ) (a b : Bool) → (if a then m else n) ≡ names x → Decides (a || b)
      (Holds x) →
      Found (x ∷ []) (option_or (refused_if a (refusal x m)) (refused_if b (refusal x n)))
  found_either x m n true b e d = found_one x m true e d
  found_either x m n false b e d = found_one x n b e d

  -- a reason, and those after it
  pub found_next : (x : Reason) (xs : List Reason) (a b : Option Fault) → Found (x ∷ []) a → Found xs b →
      Found (x ∷ xs) (option_or a b)
  found_next x xs a b s t = record { is = joined a b s.is t.is }
    where
      first_only : (y : Reason) → IsFirst (x ∷ []) Holds y → IsFirst (x ∷ xs) Holds y
      first_only y (inl h) = inl h
      first_only y (inr h) = absurd h.1

      joined : (a b : Option Fault) → ((a ≡ None) × Passes (x ∷ [])) ⊎ Refused (x ∷ []) a →
          ((b ≡ None) × Passes xs) ⊎ Refused xs b →
          ((option_or a b ≡ None) × Passes (x ∷ xs)) ⊎ Refused (x ∷ xs) (option_or a b)
      joined None b (inl h) (inl k) =
          inl (k.0, All-cons (λ z. Holds z → ⊥) x xs (All-head (λ z. Holds z → ⊥) x [] h.1) k.1)
      joined None b (inl h) (inr k) =
          inr (record {
            reason = k.reason;
            fault =
                k.fault;
            first = inr (All-head (λ z. Holds z → ⊥) x [] h.1, k.first);
          })
      joined None b (inr h) k = absurd cc
      joined (Some fault) b (inl h) k = absurd cc
      joined (Some fault) b (inr h) k =
          inr (record { reason = h.reason; fault = h.fault; first = first_only h.reason h.first })

  pub first_stays : (xs ys : List Reason) (y : Reason) → IsFirst xs Holds y → IsFirst (xs ++ ys) Holds y
  first_stays [] ys y s = absurd s
  first_stays (x ∷ xs) ys y (inl h) = inl h
  first_stays (x ∷ xs) ys y (inr h) = inr (h.0, first_stays xs ys y h.1)

  pub first_later : (xs ys : List Reason) (y : Reason) → Passes xs → IsFirst ys Holds y → IsFirst (xs ++ ys) Holds y
  first_later [] ys y n s = s
  first_later (x ∷ xs) ys y n s =
      inr (All-head (λ z. Holds z → ⊥) x xs n, first_later xs ys y (All-tail (λ z. Holds z → ⊥) x xs n) s)

  pub passes_or_stops : (xs : List Reason) (y : Reason) → Passes xs → IsFirst xs Holds y → ⊥
  passes_or_stops [] y n s = s
  passes_or_stops (x ∷ xs) y n (inl h) = All-head (λ z. Holds z → ⊥) x xs n (subst Holds (sym h.0) h.1)
  passes_or_stops (x ∷ xs) y n (inr h) = passes_or_stops xs y (All-tail (λ z. Holds z → ⊥) x xs n) h.1

  -- there is one first
  pub one_first : (xs : List Reason) (y z : Reason) → IsFirst xs Holds y → IsFirst xs Holds z → y ≡ z
  one_first [] y z s t = absurd s
  one_first (x ∷ xs) y z (inl h) (inl k) = sym h.0 ∙ k.0
  one_first (x ∷ xs) y z (inl h) (inr k) = absurd (k.0 (subst Holds (sym h.0) h.1))
  one_first (x ∷ xs) y z (inr h) (inl k) = absurd (h.0 (subst Holds (sym k.0) k.1))
  one_first (x ∷ xs) y z (inr h) (inr k) = one_first xs y z h.1 k.1

  -- ---- what a call comes to: accepted where none holds, or refused with the first that holds
  pub record Stopped {A : Type 0} (xs : List Reason) (x : Result A Fault) : Type 0 where
    pub reason : Reason
    pub fault : x ≡ Err (refusal reason (names reason))
    pub first : IsFirst xs Holds reason

  abbrev pub Comes : {A : Type 0} → List Reason → Result A Fault → Type 0
  Comes {A} xs x = ((a : A) × (x ≡ Ok a) × Passes xs) ⊎ Stopped xs x

  pub comes_given : {A : Type 0} (xs : List Reason) (o : Option Fault) (a : A) → Found xs o → Comes xs (given o a)
  comes_given {A} xs o a s = given_so s.is
    where
      given_so : ((o ≡ None) × Passes xs) ⊎ Refused xs o → Comes xs (given o a)
      given_so (inl h) = inl (a, ap (λ z. given z a) h.0, h.1)
      given_so (inr h) = inr (record { reason = h.reason; fault = ap (λ z. given z a) h.fault; first = h.first })
