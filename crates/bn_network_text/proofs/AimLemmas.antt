-- The output ports of a line, read one after another.
use Rattle.std.specs.Prelude.{◌≡◌, ℕ, ◌+◌, ◌-◌, ◌==◌, ◌<◌, false, true, List, [], ◌∷◌, ◌++◌, length, Option, Some, None}
use Rattle.std.specs.Prelude.{option_and_then, refl}
use Rattle.std.proofs.Common.{zero, suc, arith, sym, ap, ◌∙◌}
use Rattle.std.proofs.lemmas.List.{append-nil, append_assoc}
use Rattle.std.proofs.lemmas.Bool.Decides.{nat_tests}
use Rattle.bn_network_text.specs.Entries.{Port}
use Rattle.bn_network_text.specs.Saying.{aim_taken, aims_taken}

-- what was read so far, before the rest
abbrev pub behind : List (Option Port) → Option (List (Option Port)) → Option (List (Option Port))
behind aims None = None
behind aims (Some rest) = Some (aims ++ rest)

-- the rest is to be read
pub AreRead : ℕ → List ℕ → List (Option Port) → ℕ → List ℕ → Type 0
AreRead most bytes aims n rest = aims_taken most bytes ≡ behind aims (aims_taken (most - n) rest)

behind_none : (o : Option (List (Option Port))) → behind [] o ≡ o
behind_none None = refl
behind_none (Some x) = refl

pub read_begins : (most : ℕ) (bytes : List ℕ) → AreRead most bytes [] 0 bytes
unfolding AreRead
read_begins most bytes =
    let same : most - 0 ≡ most = omega arith in
    sym (ap (λ n. behind [] (aims_taken n bytes)) same ∙ behind_none (aims_taken most bytes))

some_bytes : (b : ℕ) (bytes : List ℕ) → (length (b ∷ bytes) == 0) ≡ false
some_bytes b bytes = grind (arith, nat_tests)

true_is_not_false : true ≡ false → ⊥
true_is_not_false h = cc

false_is_not_true : false ≡ true → ⊥
false_is_not_true h = cc

aims_of_none : (n : ℕ) (rest : List ℕ) → (length rest == 0) ≡ true → aims_taken n rest ≡ Some []
unfolding aims_taken
aims_of_none zero [] h = refl
aims_of_none (suc n) [] h = refl
aims_of_none n (b ∷ bytes) h = absurd (false_is_not_true (sym (some_bytes b bytes) ∙ h))

pub read_ends : (most n : ℕ) (bytes rest : List ℕ) (aims : List (Option Port)) → (length rest == 0) ≡ true
    → AreRead most bytes aims n rest → aims_taken most bytes ≡ Some aims
unfolding AreRead
read_ends most n bytes rest aims ended read =
    read ∙ ap (behind aims) (aims_of_none (most - n) rest ended) ∙ ap Some (append-nil aims)

aims_of_no_more : (rest : List ℕ) → (length rest == 0) ≡ false → aims_taken 0 rest ≡ None
unfolding aims_taken
aims_of_no_more [] h = absurd (true_is_not_false h)
aims_of_no_more (b ∷ bytes) h = refl

pub read_too_many : (most : ℕ) (bytes rest : List ℕ) (aims : List (Option Port)) (n : ℕ) → n ≡ most
    → (length rest == 0) ≡ false → AreRead most bytes aims n rest → aims_taken most bytes ≡ None
unfolding AreRead
read_too_many most bytes rest aims n all more read =
    let same : most - n ≡ 0 = omega arith in
    read ∙ ap (λ m. behind aims (aims_taken m rest)) same ∙ ap (behind aims) (aims_of_no_more rest more)

after_aim : Option (List (Option Port)) → Option Port → Option (List (Option Port))
after_aim None x = None
after_aim (Some rest) x = Some (x ∷ rest)

after_aim_is : (x : Option Port) (o : Option (List (Option Port)))
    → option_and_then (λ rest. Some (x ∷ rest)) o ≡ after_aim o x
unfolding after_aim
after_aim_is x None = refl
after_aim_is x (Some rest) = refl

aims_of_some : (m : ℕ) (rest left : List ℕ) (x : Option Port) → (length rest == 0) ≡ false
    → aim_taken rest ≡ Some (x, left) → aims_taken (suc m) rest ≡ after_aim (aims_taken m left) x
unfolding aims_taken
aims_of_some m [] left x more taken = absurd (true_is_not_false more)
aims_of_some m (b ∷ bytes) left x more taken = rw taken (after_aim_is x (aims_taken m left))

behind_more : (aims : List (Option Port)) (x : Option Port) (o : Option (List (Option Port)))
    → behind aims (after_aim o x) ≡ behind (aims ++ x ∷ []) o
unfolding after_aim
behind_more aims x None = refl
behind_more aims x (Some rest) = ap Some (sym (append_assoc aims (x ∷ []) rest))

pub read_more : (most n : ℕ) (bytes rest left : List ℕ) (aims : List (Option Port)) (x : Option Port) → n < most
    → (length rest == 0) ≡ false → aim_taken rest ≡ Some (x, left) → AreRead most bytes aims n rest
    → AreRead most bytes (aims ++ x ∷ []) (n + 1) left
unfolding AreRead
read_more most n bytes rest left aims x low more taken read =
    let count : most - n ≡ suc (most - (n + 1)) = omega arith in
    read ∙ ap (λ m. behind aims (aims_taken m rest)) count
    ∙ ap (behind aims) (aims_of_some (most - (n + 1)) rest left x more taken)
    ∙ behind_more aims x (aims_taken (most - (n + 1)) left)

aims_of_bad : (m : ℕ) (rest : List ℕ) → (length rest == 0) ≡ false → aim_taken rest ≡ None
    → aims_taken (suc m) rest ≡ None
unfolding aims_taken
aims_of_bad m [] more bad = absurd (true_is_not_false more)
aims_of_bad m (b ∷ bytes) more bad = rw bad refl

pub read_stops : (most n : ℕ) (bytes rest : List ℕ) (aims : List (Option Port)) → n < most
    → (length rest == 0) ≡ false → aim_taken rest ≡ None → AreRead most bytes aims n rest → aims_taken most bytes ≡ None
unfolding AreRead
read_stops most n bytes rest aims low more bad read =
    let count : most - n ≡ suc (most - (n + 1)) = omega arith in
    read ∙ ap (λ m. behind aims (aims_taken m rest)) count
    ∙ ap (behind aims) (aims_of_bad (most - (n + 1)) rest more bad)
