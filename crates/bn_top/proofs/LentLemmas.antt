-- What it comes to that a front is taken of the bytes that an input lends.
use Rattle.std.specs.Prelude.{◌≡◌, ℕ, ◌+◌, ◌<◌, ◌≤◌, List, [], ◌++◌, drop, length, min, take, Some}
use Rattle.std.proofs.Common.{ap, append-nil, arith, sym, ◌∙◌}
use Rattle.std.proofs.lemmas.List.{drop_all, drop_min, length-take, take-append-drop}
use Rattle.bn_reply.specs.Outside.{GaveAll, GaveMore}

-- of more bytes than the limit, one more than the limit is taken
pub lent_more : (bytes : List ℕ) (limit : ℕ) → limit < length bytes →
    GaveMore (Some bytes) (Some (drop (limit + 1) bytes)) limit
lent_more bytes limit more =
    let enough : min (limit + 1) (length bytes) ≡ limit + 1 = omega (arith, more) in
    (take (limit + 1) bytes, sym (take-append-drop (limit + 1) bytes), length-take (limit + 1) bytes ∙ enough)

-- of no more than the limit, all
pub lent_all : (bytes : List ℕ) (limit : ℕ) → length bytes ≤ limit →
    GaveAll (Some bytes) (Some (drop (limit + 1) bytes)) bytes
lent_all bytes limit few =
    let none : drop (limit + 1) bytes ≡ [] = drop_all (limit + 1) bytes (omega (arith, few)) in
    record {
      lost = sym (append-nil bytes) ∙ ap (λ (rest : List ℕ). bytes ++ rest) (sym none);
      ended = ap (λ (rest : List ℕ). Some rest) none;
    }

-- as many bytes are taken as there are, and at most one more than the limit
pub lent_rest : (bytes : List ℕ) (limit count : ℕ) → count ≡ min (length bytes) (limit + 1) →
    drop count bytes ≡ drop (limit + 1) bytes
lent_rest bytes limit count is =
    let same : count ≡ min (limit + 1) (length bytes) = omega (arith, is) in
    ap (λ n. drop n bytes) same ∙ drop_min (limit + 1) bytes
