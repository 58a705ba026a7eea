-- The answers to the refusals of the reader of farms, in the code's own terms.
use Rattle.std.specs.Prelude.{◌≡◌, ℕ, List, [], ◌∷◌, codes, decimal}
use Rattle.bn_netlist_laws.specs.Faults.{malformed, too_many, no_element, out_of_order, end_wired, left_wired}
use Rattle.bn_netlist_laws.specs.Faults.{start_fed, second_source, spelled_out}
use Rattle.bn_netlist.specs.declared.line_refusal.NetlistRefusal.{NetlistRefusal}
use Rattle.bn_netlist.specs.declared.line_refusal.NetlistRefusal.TheVariants.{Syntax, Order, Target, TwoSources}
use Rattle.bn_netlist.specs.declared.line_refusal.NetlistRefusal.TheVariants.{StartFed, EndWired, LeftWired, TooMany}
use Rattle.bn_netlist.specs.declared.line_refusal.NetlistRefusal.TheVariants.{Spelling, NoMemory}
use Rattle.bn_reply.specs.Lines.{line}
use Rattle.bn_reply.specs.declared.status.Status.{Status}
use Rattle.bn_reply.specs.declared.status.Status.TheVariants as statuses
use Rattle.bn_farm.specs.FarmTexts as texts
use Rattle.bn_reply_circuits.specs.FarmReply.{board_line, farm_elements_line, no_schedule_line, schedule_line}
use Rattle.bn_farm.specs.declared.farm_refusal.FarmRefusal.{FarmRefusal}
use Rattle.bn_farm.specs.declared.farm_refusal.FarmRefusal.TheVariants as farm

-- the line that refuses a circuit for a fault of one of its lines
abbrev pub board_fault_text : ℕ → ℕ → List ℕ → List ℕ
board_fault_text board number what =
    line (codes "text: board " ∷ decimal board ∷ codes " line " ∷ decimal number ∷ codes " " ∷ what ∷ [])

-- the line that refuses a schedule for a fault of one of its lines
abbrev pub schedule_fault_text : ℕ → List ℕ → List ℕ
schedule_fault_text number what = line (codes "text: schedule line " ∷ decimal number ∷ codes " " ∷ what ∷ [])

-- the fault and the line of a refusal of a circuit
abbrev pub IsBoardRefused : ℕ → NetlistRefusal → List ℕ → Type 0
IsBoardRefused board (Syntax number) text = text ≡ board_line board number malformed
IsBoardRefused board (Order number) text = text ≡ board_line board number out_of_order
IsBoardRefused board (Target number) text = text ≡ board_line board number no_element
IsBoardRefused board (TwoSources number) text = text ≡ board_line board number second_source
IsBoardRefused board (StartFed number) text = text ≡ board_line board number start_fed
IsBoardRefused board (EndWired number) text = text ≡ board_line board number end_wired
IsBoardRefused board (LeftWired number) text = text ≡ board_line board number left_wired
IsBoardRefused board (TooMany number) text = text ≡ board_line board number too_many
IsBoardRefused board (Spelling number) text = text ≡ board_line board number spelled_out
IsBoardRefused board NoMemory text = ⊥

-- the status and the line of a refusal of a farm
abbrev pub IsFarmRefused : FarmRefusal → Status → List ℕ → Type 0
IsFarmRefused farm.NoSchedule status text = (status ≡ statuses.Text) × (text ≡ no_schedule_line)
IsFarmRefused (farm.Board board fault) status text = (status ≡ statuses.Text) × IsBoardRefused board fault text
IsFarmRefused (farm.Form number) status text = (status ≡ statuses.Text) × (text ≡ schedule_line number texts.malformed)
IsFarmRefused (farm.NoBoard number) status text =
    (status ≡ statuses.Text) × (text ≡ schedule_line number texts.no_board)
IsFarmRefused (farm.Elements count) status text = (status ≡ statuses.Size) × (text ≡ farm_elements_line count)
IsFarmRefused farm.NoMemory status text = ⊥
