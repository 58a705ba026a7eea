-- Facts on lists that are given and taken in pieces.
use Rattle.std.proofs.Common.{◌≡◌, ◌≤◌, ◌+◌, ◌-◌, ℕ, List, ◌++◌, length, take, drop, sym, ◌∙◌, ap, arith, append_assoc}
use Rattle.std.proofs.Common.{length-append, length-drop, Option}
use Rattle.std.proofs.lemmas.List.{drop-drop, take-append-drop, take-append-le, length-take-le}
use Rattle.std.proofs.Math.Seq.{take-length}
use Rattle.bn_io.specs.Told.{Loses, ReadsWithin}
use Rattle.bn_io.proofs.ToldLemmas.{Loses-joins}

-- as many as there are is all
take-all : (n : ℕ) (xs : List ℕ) → n ≡ length xs → take n xs ≡ xs
take-all n xs e = rw e (take-length xs)

-- a piece more of the front, and what is behind it
pub front-more : (xs given rest : List ℕ) (count n : ℕ) → xs ≡ given ++ rest → n ≡ length rest
    → xs ≡ (given ++ take count rest) ++ take (n - count) (drop count rest)
front-more xs given rest count n split all =
    let l : n - count ≡ length (drop count rest) = omega (arith, length-drop count rest) in
    split
    ∙ ap (λ s. given ++ s) (sym (take-append-drop count rest))
    ∙ sym (append_assoc given (take count rest) (drop count rest))
    ∙ ap (λ s. (given ++ take count rest) ++ s) (sym (take-all _ _ l))

-- a buffer begins with the piece that was copied to its front, and the rest of the bytes is behind that piece
pub copied-split : (bytes piece into left : List ℕ) (next count : ℕ) → left ≡ drop next bytes
    → next + count ≤ length bytes → piece ≡ take (next + count - next) (drop next bytes)
    → left ≡ take count (piece ++ drop count into) ++ drop (next + count) bytes
copied-split bytes piece into left next count is fits copy =
    let e : next + count - next ≡ count = omega arith in
    let p : piece ≡ take count (drop next bytes) = copy ∙ ap (λ k. take k (drop next bytes)) e in
    let l : count ≤ length (drop next bytes) = omega (arith, length-drop next bytes) in
    let m : length piece ≡ count = ap length p ∙ length-take-le count (drop next bytes) l in
    let t : take count (piece ++ drop count into) ≡ piece =
    take-append-le count piece (drop count into) (omega arith) ∙ take-all count piece (sym m)
    in
    rw (t, p) (is ∙ sym (take-append-drop count (drop next bytes))
    ∙ ap (λ s. take count (drop next bytes) ++ s) (drop-drop count next bytes))

-- a read of a piece behind another is a read of both
pub reads-behind : (a b c : Option (List ℕ)) (limit count : ℕ) (part whole : Type 0) (p q : List ℕ) → Loses a b p
    → count ≡ length p → count ≤ limit → (part → whole) → (whole → part) → ReadsWithin b c (limit - count) part q
    → ReadsWithin a c limit whole (p ++ q)
reads-behind a b c limit count part whole p q first is_count fits up down second =
    let l : length (p ++ q) ≡ length p + length q = length-append p q in record {
      lost = Loses-joins a b c p q first second.lost;
      bound = let h = second.bound in omega arith;
      refused = λ more. up (second.refused (omega arith));
      longer = λ is. let h = second.longer (down is) in omega arith;
    }
