-- The lines of the elements and of the modules, one behind the other.
use Rattle.std.specs.Prelude.{◌≡◌, ℕ, ◌+◌, ◌*◌, List, [], ◌∷◌, ◌++◌, length}
use Rattle.std.specs.List.{flat_map}
use Rattle.std.proofs.Common.{arith, sym, ap, ◌∙◌}
use Rattle.std.proofs.lemmas.Grind.{flat_map-append}
use Rattle.bn_machine.specs.Outcome.{Limits}
use Rattle.bn_network.specs.Networks.{cell_size, cells_in, first_cell}
use Rattle.bn_boards.specs.Layouts.{Layout, elements_of, first_element, lines_at}
use Rattle.bn_reply.proofs.PieceLemmas.{two_pieces, three_pieces}
use Rattle.bn_reply_layout.specs.declared.bank.Bank.{Bank}
use Rattle.bn_reply_layout.specs.Modules.{control_bank, modules_of, shape, tape_banks}
use Rattle.bn_reply_relations.specs.RunText.{elements_line}
use Rattle.bn_reply_layout.specs.ModuleText.{module_line, module_lines, modules_line}
use Rattle.bn_reply_layout.proofs.ModuleLemmas.{module_count}

-- the lines of all modules
lines_of : (b : Layout) → flat_map module_line (modules_of b)
    ≡ module_line (control_bank b) ++ (flat_map module_line (tape_banks b 1)
    ++ (flat_map module_line (tape_banks b 2) ++ flat_map module_line (tape_banks b 3)))
lines_of b =
    ap (λ l. module_line (control_bank b) ++ l)
    (flat_map-append module_line (tape_banks b 1) (tape_banks b 2 ++ tape_banks b 3)
    ∙ ap (λ l. flat_map module_line (tape_banks b 1) ++ l) (flat_map-append module_line (tape_banks b 2)
    (tape_banks b 3)))

-- the lines that were pushed are those of the layout
pub joined : (b : Layout) (elements modules : ℕ) (control : Bank) (one two three : List Bank)
    (t0 t1 t2 t3 t4 t5 t6 : List ℕ) → elements ≡ elements_of b
    → modules ≡ length (modules_of b) → control ≡ control_bank b → one ≡ tape_banks b 1 → two ≡ tape_banks b 2
    → three ≡ tape_banks b 3
    → t1 ≡ t0 ++ elements_line elements → t2 ≡ t1 ++ modules_line modules → t3 ≡ t2 ++ module_line control
    → t4 ≡ t3 ++ flat_map module_line one
    → t5 ≡ t4 ++ flat_map module_line two → t6 ≡ t5 ++ flat_map module_line three → t6 ≡ t0 ++ module_lines b
joined b elements modules control one two three t0 t1 t2 t3 t4 t5 t6 e m c r s t h1 h2 h3 h4 h5 h6 =
    let a1 : t1 ≡ t0 ++ elements_line (elements_of b) = h1 ∙ ap (λ n. t0 ++ elements_line n) e in
    let a2 : t2 ≡ t1 ++ modules_line (length (modules_of b)) = h2 ∙ ap (λ n. t1 ++ modules_line n) m in
    let a3 : t3 ≡ t2 ++ module_line (control_bank b) = h3 ∙ ap (λ (x : Bank). t2 ++ module_line x) c in
    let a4 : t4 ≡ t3 ++ flat_map module_line (tape_banks b 1) =
    h4 ∙ ap (λ (l : List Bank). t3 ++ flat_map module_line l) r in
    let a5 : t5 ≡ t4 ++ flat_map module_line (tape_banks b 2) =
    h5 ∙ ap (λ (l : List Bank). t4 ++ flat_map module_line l) s in
    let a6 : t6 ≡ t5 ++ flat_map module_line (tape_banks b 3) =
    h6 ∙ ap (λ (l : List Bank). t5 ++ flat_map module_line l) t in
    let rows : t6 ≡ t3 ++ (flat_map module_line (tape_banks b 1)
    ++ (flat_map module_line (tape_banks b 2) ++ flat_map module_line (tape_banks b 3))) =
    three_pieces t3 (flat_map module_line (tape_banks b 1)) (flat_map module_line (tape_banks b 2))
    (flat_map module_line (tape_banks b 3)) t4 t5 t6 a4 a5 a6 in
    let all : t6 ≡ t2 ++ flat_map module_line (modules_of b) =
    two_pieces t2 (module_line (control_bank b)) (flat_map module_line (tape_banks b 1)
    ++ (flat_map module_line (tape_banks b 2) ++ flat_map module_line (tape_banks b 3))) t3 t6 a3 rows
    ∙ ap (λ l. t2 ++ l) (sym (lines_of b)) in
    three_pieces t0 (elements_line (elements_of b)) (modules_line (length (modules_of b)))
    (flat_map module_line (modules_of b)) t1 t2 t6 a1 a2 all

-- the numbers of a layout of three tapes
module _ (l : Limits) (z h states lines : ℕ) (same : lines ≡ lines_at (shape l (z ∷ h ∷ z ∷ []) states)) where
  abbrev b : Layout
  b = shape l (z ∷ h ∷ z ∷ []) states

  pub first_is : states * (lines + 1) ≡ first_element b 1
  first_is = ap (λ n. states * (n + 1)) same

  pub second_is : (r : ℕ) → r ≡ cells_in l 1 * cell_size z → states * (lines + 1) + r ≡ first_element b 2
  second_is r e = let f = first_is in omega arith

  pub third_is : (r s : ℕ) → r ≡ cells_in l 1 * cell_size z → s ≡ cells_in l 2 * cell_size h
      → states * (lines + 1) + r + s ≡ first_element b 3
  third_is r s e d = let f = second_is r e in omega arith

  pub all_is : (r s t : ℕ) → r ≡ cells_in l 1 * cell_size z → s ≡ cells_in l 2 * cell_size h
      → t ≡ cells_in l 3 * cell_size z → states * (lines + 1) + r + s + t ≡ elements_of b
  all_is r s t e d g = let f = third_is r s e d in omega arith

  pub modules_are : (m : ℕ) → m ≡ first_cell l 3 + cells_in l 3 → m ≡ length (modules_of b)
  modules_are m e = let count = module_count b in omega arith
