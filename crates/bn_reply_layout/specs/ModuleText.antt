-- The lines of the text on a circuit's modules (this project's own definition).
use Rattle.std.specs.Prelude.{ℕ, List, [], ◌∷◌, ◌++◌, codes, decimal, length}
use Rattle.std.specs.List.{flat_map}
use Rattle.bn_boards.specs.Layouts.{Layout, elements_of}
use Rattle.bn_reply.specs.Lines.{line, position_text}
use Rattle.bn_reply_relations.specs.RunText.{elements_line}
use Rattle.bn_reply_layout.specs.declared.bank.Bank.{Bank}
use Rattle.bn_reply_layout.specs.declared.bank.ModuleName.{ModuleName}
use Rattle.bn_reply_layout.specs.declared.bank.ModuleName.TheVariants.{Control, Cell}
use Rattle.bn_reply_layout.specs.Modules.{modules_of}

abbrev pub module_text : ModuleName → List ℕ
module_text Control = codes "control"
module_text (Cell tape position) = codes "tape " ++ (decimal tape ++ (codes " cell " ++ position_text position))

abbrev pub modules_line : ℕ → List ℕ
modules_line count = line (codes "modules " ∷ decimal count ∷ [])

-- the first element of a module's bank, and its numbers of columns and ports
abbrev pub bank_text : Bank → List ℕ
bank_text m =
    line (codes " from " ∷ decimal m.first ∷ codes " columns " ∷ decimal m.columns ∷ codes " lines " ∷ decimal m.lines
    ∷ [])

abbrev pub module_line : Bank → List ℕ
module_line m = codes "module " ++ (decimal m.number ++ (codes " " ++ (module_text m.name ++ bank_text m)))

-- the lines of the elements and of the modules
abbrev pub module_lines : Layout → List ℕ
module_lines b =
    elements_line (elements_of b) ++ (modules_line (length (modules_of b)) ++ flat_map module_line (modules_of b))
