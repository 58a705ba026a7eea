-- What a source has left and what a sink has taken, as lists of bytes where they are told: `None` says that
-- nothing is told, and then nothing is claimed.
use Rattle.std.specs.Prelude.{ℕ, List, ◌++◌, Option, Some, None}
use Rattle.std.proofs.Common.{sym, ◌∙◌, ap, subst, append_assoc}
use Rattle.bn_io.specs.Told.{Loses, Grows}

-- two pieces given one after the other are one
pub Loses-joins : (a b c : Option (List ℕ)) (p q : List ℕ) → Loses a b p → Loses b c q → Loses a c (p ++ q)
Loses-joins None b c p q first second = tt
Loses-joins (Some xs) None c p q first second = absurd first
Loses-joins (Some xs) (Some ys) None p q first second = absurd second
Loses-joins (Some xs) (Some ys) (Some zs) p q first second = first ∙ ap (λ s. p ++ s) second ∙ sym (append_assoc p q zs)

-- two texts taken one after the other are one
pub Grows-joins : (a b c : Option (List ℕ)) (p q : List ℕ) → Grows a b p → Grows b c q → Grows a c (p ++ q)
Grows-joins None b c p q first second = tt
Grows-joins (Some xs) b c p q first second =
    let e : Grows (Some (xs ++ p)) c q = subst (λ (s : Option (List ℕ)). Grows s c q) first second in
    e ∙ ap (λ s. Some s) (append_assoc xs p q)
