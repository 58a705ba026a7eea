-- The reply of the command `element`, of which there is one and only one.
use Rattle.std.specs.Prelude.{◌≡◌, ◌≢◌, ◌⊎◌, ℕ, ◌*◌, ◌<◌, ◌≤◌, List, [], ◌∷◌, length, codes, refl}
use Rattle.std.specs.List.{range_with_len}
use Rattle.std.proofs.Common.{inl, inr, sym, ap, subst, ◌∙◌, arith}
use Rattle.std.proofs.lemmas.Bool.{cases_lt}
use Rattle.std.proofs.lemmas.List.FromFn.{length-range_with_len}
use Rattle.bn_circuits.specs.declared.place.Place.{Place}
use Rattle.bn_csv.specs.Lines.{lines_of}
use Rattle.bn_rsm.specs.Entry.{entries_by}
use Rattle.bn_rsm.specs.declared.rsm_move.RsmMove.{RsmMove}
use Rattle.bn_rlem.specs.Permutations.{factorial}
use Rattle.bn_rlem.specs.Elements.{IsElement, moves_from}
use Rattle.bn_rlem.proofs.PermutationLemmas.{numbered-permutations, permuted_below}
use Rattle.bn_reply.specs.Answering.{HasAnswer, IsOneAnswer}
use Rattle.bn_reply.specs.Codes.{IsReplyStatus}
use Rattle.bn_reply.specs.Lines.{line}
use Rattle.bn_reply.specs.declared.status.Status.{Status}
use Rattle.bn_reply.specs.declared.status.Status.TheVariants.{Done, Word}
use Rattle.bn_reply.proofs.SettledLemmas.{agree}
use Rattle.bn_reply_circuits.specs.ElementReply.{ElementReplies, ElementIsSettled, numbered, unnumbered}

-- the pairs of an element with k lines
abbrev pairs_of : ℕ → List ℕ
pairs_of k = range_with_len 0 (2 * k)

some : (k n : ℕ) → HasAnswer (ElementReplies k n)
some k n = elim (cases_lt n (factorial (2 * k))) [
  | inl low ↦
      let long : length (pairs_of k) ≡ 2 * k = length-range_with_len 0 (2 * k) in
      let found = numbered-permutations.0 (pairs_of k) n (subst (λ m. n < factorial m) (sym long) low) in (
        Done,
        lines_of (entries_by (moves_from k 0 found.0)),
        [],
        numbered (moves_from k 0 found.0)
            (record { pairs = found.0; permutation = found.1; moves_are = refl }) refl refl refl,
      )
  | inr high ↦ (Word, line (codes "word: number" ∷ []), [], unnumbered high refl refl refl)
]

-- an element has a number of its own
below : (k n : ℕ) (moves : List RsmMove) → IsElement k n moves → n < factorial (2 * k)
below k n moves is =
    let long : length (pairs_of k) ≡ 2 * k = length-range_with_len 0 (2 * k) in
    subst (λ m. n < factorial m) long (permuted_below (pairs_of k) n is.pairs is.permutation)

one_element : (k n : ℕ) (a b : List RsmMove) → IsElement k n a → IsElement k n b → a ≡ b
one_element k n a b g h =
    g.moves_are ∙ ap (moves_from k 0) (numbered-permutations.1 (pairs_of k) n g.pairs h.pairs g.permutation
    h.permutation)
    ∙ sym h.moves_are

element_one : (k n : ℕ) → IsOneAnswer (ElementReplies k n)
element_one k n status other text second told heard (numbered a g e t m) (numbered b h d u l) =
    agree Done status other text second told heard e d
    (t ∙ ap (λ ms. lines_of (entries_by ms)) (one_element k n a b g h) ∙ sym u) m l
element_one k n status other text second told heard (numbered a g e t m) (unnumbered high d u l) =
    absurd (let low = below k n a g in omega (arith, low, high))
element_one k n status other text second told heard (unnumbered high e t m) (numbered b h d u l) =
    absurd (let low = below k n b h in omega (arith, low, high))
element_one k n status other text second told heard (unnumbered high e t m) (unnumbered also d u l) =
    agree Word status other text second told heard e d (t ∙ sym u) m l

element_status : (k n : ℕ) (status : Status) (text : List ℕ) (told : List Place) → ElementReplies k n status text told
    → IsReplyStatus status
element_status k n status text told (numbered a g e t m) = subst IsReplyStatus (sym e) tt
element_status k n status text told (unnumbered high e t m) = subst IsReplyStatus (sym e) tt

pub element_settled : ElementIsSettled
element_settled k n = record { some = some k n; one = element_one k n; status = element_status k n }
