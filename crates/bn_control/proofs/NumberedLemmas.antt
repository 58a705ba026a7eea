-- The moves of a control in numbers, one after another.
use Rattle.std.proofs.Common.{◌≡◌, inl, inr, get_or, ℕ, ◌+◌, ◌<◌, List, [], ◌∷◌, ◌++◌, length, take, refl, sym, subst}
use Rattle.std.proofs.lemmas.List.{take_more}
use Rattle.bn_quad.specs.Quadruples.{Quadruples}
use Rattle.bn_lists.specs.Lists.{Has}
use Rattle.bn_lists.proofs.MemberLemmas.{in_front, behind, of_two}
use Rattle.bn_control.specs.declared.named.NamedMove.{NamedMove}
use Rattle.bn_control.specs.declared.numbered.Move.{Move}
use Rattle.bn_control.specs.declared.name.StateName.{StateName}
use Rattle.bn_control.specs.Numbered.{IsNumbered, AreNumbered}

module _ (m : Quadruples) (ss : List StateName) where
  pub one_numbered : (xs : List NamedMove) (vs : List Move) (x : NamedMove) (v : Move) → AreNumbered m ss xs vs
      → IsNumbered m ss x v → AreNumbered m ss (xs ++ x ∷ []) (vs ++ v ∷ [])
  one_numbered xs vs x v far here = record { only = only; each = each }
    where
      only : (w : Move) → Has (vs ++ v ∷ []) w → (y : NamedMove) × Has (xs ++ x ∷ []) y × IsNumbered m ss y w
      only w h = elim (of_two vs (v ∷ []) w h) [
        | inl old ↦ (let kept = far.only w old in (kept.0, in_front xs (x ∷ []) kept.0 kept.1, kept.2))
        | inr new ↦ last new
      ]
        where
          last : Has (v ∷ []) w → (y : NamedMove) × Has (xs ++ x ∷ []) y × IsNumbered m ss y w
          last (inl e) = (x, behind xs (x ∷ []) x (inl refl), subst (IsNumbered m ss x) (sym e) here)
          last (inr h) = absurd h

      each : (y : NamedMove) → Has (xs ++ x ∷ []) y → (w : Move) × Has (vs ++ v ∷ []) w × IsNumbered m ss y w
      each y h = elim (of_two xs (x ∷ []) y h) [
        | inl old ↦ (let kept = far.each y old in (kept.0, in_front vs (v ∷ []) kept.0 kept.1, kept.2))
        | inr new ↦ last new
      ]
        where
          last : Has (x ∷ []) y → (w : Move) × Has (vs ++ v ∷ []) w × IsNumbered m ss y w
          last (inl e) = (v, behind vs (v ∷ []) v (inl refl), subst (λ z. IsNumbered m ss z v) (sym e) here)
          last (inr h) = absurd h

  pub next_numbered : (xs : List NamedMove) (k : ℕ) (d : NamedMove) (vs ws : List Move) (v : Move) → k < length xs
      → ws ≡ vs ++ v ∷ [] → AreNumbered m ss (take k xs) vs → IsNumbered m ss (get_or xs k d) v
      → AreNumbered m ss (take (k + 1) xs) ws
  next_numbered xs k d vs ws v low is far here =
      let more = take_more xs k d low in
      subst (λ l. AreNumbered m ss l ws) (sym more) (subst (AreNumbered m ss (take k xs ++ get_or xs k d ∷ [])) (sym is)
      (one_numbered (take k xs) vs (get_or xs k d) v far here))
