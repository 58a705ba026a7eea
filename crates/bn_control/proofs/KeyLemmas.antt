-- The order of names is that of the states.
use Rattle.std.proofs.Common.{◌≡◌, ℕ, ◌-◌, ◌≤◌, length, Some, None, refl, ap, ◌∙◌, arith}
use Rattle.std.proofs.lemmas.Bool.Decides.{nat_tests}
use Rattle.std.specs.Cmp.Lexicographic.{slice_cmp}
use Rattle.std.specs.Ordering.{nat_cmp, ordering_then}
use Rattle.std.specs.declared.cmp.Ordering.{Ordering}
use Rattle.std.specs.declared.cmp.Ordering.TheVariants.{Less, Equal, Greater}
use Rattle.bn_network.proofs.KeyLemmas.{by_key}
use Rattle.bn_control.specs.contracts.name.StateNameOrd.TheImpl as impl
use Rattle.bn_control.specs.contracts.name.SymbolsOrd.TheImpl as symbols
use Rattle.bn_control.specs.declared.name.Symbols.{Symbols}
use Rattle.bn_control.specs.declared.name.Symbols.TheVariants.{Empty, Leading}
use Rattle.bn_control.specs.declared.name.StateName.{StateName}
use Rattle.bn_control.specs.declared.name.StateName.TheVariants.{Begin, End, Reads, Shifts, Writes}
use Rattle.bn_control.specs.Names.{listed, state_of, IsProper}

abbrev pub cmp : StateName → StateName → Ordering
cmp = impl.cmp-value.it

abbrev cmp_symbols : Symbols → Symbols → Ordering
cmp_symbols = symbols.cmp-value.it

then_equal : (o : Ordering) → o ≡ ordering_then o Equal
then_equal Less = refl
then_equal Equal = refl
then_equal Greater = refl

same_symbols : (s v : Symbols) → cmp_symbols s v ≡ slice_cmp nat_cmp (listed s) (listed v)
same_symbols Empty Empty = refl
same_symbols Empty (Leading b None) = refl
same_symbols Empty (Leading b (Some d)) = refl
same_symbols (Leading a None) Empty = refl
same_symbols (Leading a (Some c)) Empty = refl
same_symbols (Leading a None) (Leading b None) = refl
same_symbols (Leading a None) (Leading b (Some d)) = refl
same_symbols (Leading a (Some c)) (Leading b None) = refl
same_symbols (Leading a (Some c)) (Leading b (Some d)) = ap (ordering_then (nat_cmp a b)) (then_equal (nat_cmp c d))

falling : (t v : ℕ) → t ≤ 3 → v ≤ 3 → nat_cmp v t ≡ nat_cmp (3 - t) (3 - v)
falling t v low few = grind (arith, nat_tests)

pub same_order : (x y : StateName) → IsProper x → IsProper y → cmp x y ≡ by_key (state_of x) (state_of y)
same_order Begin Begin h k = refl
same_order Begin End h k = refl
same_order Begin (Reads b m v) h k = refl
same_order Begin (Shifts j v) h k = refl
same_order Begin (Writes b v w) h k = refl
same_order End Begin h k = refl
same_order End End h k = refl
same_order End (Reads b m v) h k = refl
same_order End (Shifts j v) h k = refl
same_order End (Writes b v w) h k = refl
same_order (Reads a n s) Begin h k = refl
same_order (Reads a n s) End h k = refl
same_order (Reads a n s) (Reads b m v) h k =
    ap (ordering_then (nat_cmp a b)) ((λ i. ordering_then (nat_cmp (h i) (k i)) (cmp_symbols s v))
    ∙ ap (ordering_then (nat_cmp (length (listed s)) (length (listed v)))) (same_symbols s v))
same_order (Reads a n s) (Shifts j v) h k = refl
same_order (Reads a n s) (Writes b v w) h k = refl
same_order (Shifts n t) Begin h k = refl
same_order (Shifts n t) End h k = refl
same_order (Shifts n t) (Reads b m v) h k = refl
same_order (Shifts n t) (Shifts j v) h k = ap (ordering_then (nat_cmp n j)) (then_equal (nat_cmp t v))
same_order (Shifts n t) (Writes b v w) h k = refl
same_order (Writes a t u) Begin h k = refl
same_order (Writes a t u) End h k = refl
same_order (Writes a t u) (Reads b m v) h k = refl
same_order (Writes a t u) (Shifts j v) h k = refl
same_order (Writes a t u) (Writes b v w) h k =
    ap (ordering_then (nat_cmp a b)) ((λ i. ordering_then (falling t.0 v.0 h k i) (cmp_symbols u w))
    ∙ ap (ordering_then (nat_cmp (3 - t.0) (3 - v.0))) (same_symbols u w))
