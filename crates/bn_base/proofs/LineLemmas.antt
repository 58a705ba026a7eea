-- What follows from how lines are cut: readers of texts cite these.
use Rattle.std.proofs.Common.{◌≡◌, ℕ, suc, ◌<◌, List, [], ◌∷◌, ◌++◌, length, get_or, refl, ◌∙◌, ap, arith}
use Rattle.std.proofs.Common.{length-append}
use Rattle.std.proofs.Math.Seq.{get_or-append_seam}
use Rattle.bn_base.specs.Line.{IsInLine, LinesAgree, CutLinesDiffer}

behind : (byte : ℕ) (bytes : List ℕ) → IsInLine (byte ∷ bytes) → IsInLine bytes
behind byte bytes h k d l = h (suc k) d (omega arith)

-- what has no byte 10 is no line that ends with it
pub cut-lines-differ : CutLinesDiffer
cut-lines-differ bytes line rest h e =
    let l : length line < length bytes = omega (arith, ap length e, length-append line (10 ∷ rest)) in
    h (length line) 0 l (ap (λ s. get_or s (length line) 0) e ∙ get_or-append_seam line 10 rest 0)

-- a text is cut at its byte 10 in one way
pub lines-agree : LinesAgree
lines-agree [] [] rest other h k e = (refl, cc)
lines-agree [] (y ∷ second) rest other h k e = absurd (k 0 0 (omega arith) cc)
lines-agree (x ∷ first) [] rest other h k e = absurd (h 0 0 (omega arith) cc)
lines-agree (x ∷ first) (y ∷ second) rest other h k e =
    let heads : x ≡ y = cc in
    let tails : first ++ 10 ∷ rest ≡ second ++ 10 ∷ other = cc in
    let t = lines-agree first second rest other (behind x first h) (behind y second k) tails in
    (let f = t.0 in cc, t.1)
