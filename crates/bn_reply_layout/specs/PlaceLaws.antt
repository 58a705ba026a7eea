-- What the text of a layout says about elements and columns, in the words of `view` and of the circuit's definition.
use Rattle.std.specs.Prelude.{◌≡◌, ℕ, ◌<◌, List, ◌++◌, length, Option, Some, slice_get}
use Rattle.bn_element.specs.Tables.{Table}
use Rattle.bn_element.specs.Rotary.{west}
use Rattle.bn_circuits.specs.declared.place.Place.{Place}
use Rattle.bn_circuits.specs.declared.place.Place.TheVariants.{Enter}
use Rattle.bn_machine.specs.Machine.{Program}
use Rattle.bn_machine.specs.Outcome.{Limits}
use Rattle.bn_table.specs.Rows.{Named}
use Rattle.bn_network.specs.Controls.{ControlState}
use Rattle.bn_boards.specs.Boards.{base, size}
use Rattle.bn_boards.specs.Flats.{Flat, IsAccepted, IsFlatOf}
use Rattle.bn_board.specs.Locations.{IsLocated}
use Rattle.bn_board.specs.declared.located.Located.{Located}
use Rattle.bn_board.specs.declared.located.Located.TheVariants as located
use Rattle.bn_reply_layout.specs.declared.bank.Bank.{Bank}
use Rattle.bn_reply_layout.specs.declared.bank.ModuleName.{ModuleName}
use Rattle.bn_reply_layout.specs.declared.bank.ModuleName.TheVariants.{Control, Cell}
use Rattle.bn_reply.specs.declared.status.Status.{Status}
use Rattle.bn_reply_layout.specs.Modules.{StandsIn, modules_of}
use Rattle.bn_reply_layout.specs.ModuleText.{module_line}
use Rattle.bn_reply_layout.specs.ControlText.{column_line, state_names}
use Rattle.bn_reply_layout.specs.LayoutReply.{TellsLayout}

-- the module of this name is the one in which `view` shows the signal, entered by this input port if by one
abbrev pub is_named : ModuleName → Option ℕ → Located
is_named Control entered = located.Control entered
is_named (Cell tape position) entered = located.Cell tape position entered

-- The text gives module k this name, and the circuit has it there: it is the k-th, its bank begins at this element, and
-- it has as many columns and ports as the module has states and ports.
pub record IsBankOf (f : Flat) (k : ℕ) (m : Bank) : Type 0 where
  pub number : m.number ≡ k
  pub table : Table
  pub has_table : slice_get f.network.tables k ≡ Some table
  pub first : m.first ≡ base f.network.tables k
  pub columns : m.columns ≡ table.states
  pub lines : m.lines ≡ table.inputs

-- each module of the circuit is named, and no other
pub record NamesModules (f : Flat) : Type 0 where
  pub count : length (modules_of f.layout) ≡ length f.network.tables
  pub each : (k : ℕ) (m : Bank) → slice_get (modules_of f.layout) k ≡ Some m → IsBankOf f k m

-- An element of the circuit belongs to one module, column and row alone. That is the module that `view` names if the
-- signal enters a line of the element, and `view` names input port i exactly if the line is the west of row i of column
-- 0.
pub record IsFound (f : Flat) (element line : ℕ) (at : Located) : Type 0 where
  pub number : ℕ
  pub bank : Bank
  pub stands : slice_get (modules_of f.layout) number ≡ Some bank
  pub column : ℕ
  pub row : ℕ
  pub in_bank : StandsIn bank element column row
  pub entered : Option ℕ
  pub named : at ≡ is_named bank.name entered
  pub by_line : (i : ℕ) → entered ≡ Some i → (line ≡ west) × (column ≡ 0) × (row ≡ i) × (i < bank.lines)
  pub alone : (k c r : ℕ) (m : Bank) → slice_get (modules_of f.layout) k ≡ Some m → StandsIn m element c r
      → (k ≡ number) × (c ≡ column) × (r ≡ row)

-- the text has the element at which `view` shows the signal
abbrev pub ElementsAreFound : Type 0
ElementsAreFound =
    (p : Program) (word : List ℕ) (l : Limits) (f : Flat) → IsFlatOf p word l f → IsAccepted p word l f
    → (element line : ℕ) (at : Located) → element < size f.network.tables
    → IsLocated f.layout (Enter element line) at → IsFound f element line at

abbrev pub ModulesAreNamed : Type 0
ModulesAreNamed = (p : Program) (word : List ℕ) (l : Limits) (f : Flat) → IsFlatOf p word l f → IsAccepted p word l f
    → NamesModules f

-- the line is in the text
abbrev pub IsTold : List ℕ → List ℕ → Type 0
IsTold told text = (front rest : List ℕ) × (text ≡ front ++ (told ++ rest))

-- the text has each module, and each state of the control with its column
pub record TellsAll (t : Named) (f : Flat) (text : List ℕ) : Type 0 where
  pub modules : (k : ℕ) (m : Bank) → slice_get (modules_of f.layout) k ≡ Some m → IsTold (module_line m) text
  pub columns : (j : ℕ) (q : ControlState) → slice_get f.names j ≡ Some q
      → IsTold (column_line (state_names f.translation) j q) text

abbrev pub TextsTellAll : Type 0
TextsTellAll = (t : Named) (f : Flat) (status : Status) (text : List ℕ) (told : List Place)
    → TellsLayout t f status text told → TellsAll t f text
