-- The faults of the lines of a network text, over the tables of its machines. A line's fault depends on the lines
-- before it, and on the tables of the modules whose ports it names, which may come later in the text.
use Rattle.std.specs.Prelude.{ℕ, suc, ◌+◌, ◌-◌, nat_lt, nat_le, ◌==◌, ◌&&◌, ◌||◌, Bool, true, false, List, []}
use Rattle.std.specs.Prelude.{◌∷◌, ◌++◌, length, Option, Some, None, is_some, if◌then◌else◌, slice_get}
use Rattle.std.specs.Prelude.{option_and_then, option_map}
use Rattle.std.proofs.Common.{zero}
use Rattle.bn_base.specs.declared.limits.TheConstants.{MOST_COUNT}
use Rattle.bn_circuits.specs.Circuits.{source, same_line, line_at}
use Rattle.bn_circuits.specs.declared.line.Line.{Line}
use Rattle.bn_circuits.specs.declared.line.Wire.{Wire}
use Rattle.bn_network_text.specs.Entries.{Port, ModuleLine}
use Rattle.bn_network_text.specs.Lines.{Page, header_lines}
use Rattle.bn_network_text.specs.declared.shape.Shape.{Shape}
use Rattle.bn_network_text.specs.declared.entry.Kind.{Kind}
use Rattle.bn_network_text.specs.declared.entry.Kind.TheVariants.{Machine, Rotary}
use Rattle.bn_network_text.specs.declared.fault.NetworkFault.{NetworkFault}
use Rattle.bn_network_text.specs.declared.fault.NetworkFault.TheVariants as faults
use Rattle.bn_network_text.specs.declared.module.TheConstants.{MOST_MODULES}
use Rattle.bn_network_text.specs.declared.sentence.Sentence.{Sentence}
use Rattle.bn_network_text.specs.declared.sentence.Sentence.TheVariants.{Title, Count, Start, End, At, Module}

-- ---- the contents of lines

-- the contents of the line with this number, counted from 0; nothing if it is missing or malformed
abbrev pub said_at : List (Option Sentence) → ℕ → Option Sentence
said_at says n = option_and_then (λ (x : Option Sentence). x) (slice_get says n)

abbrev pub count_by : Option Sentence → Option ℕ
count_by (Some (Count c)) = Some c
count_by other = None

abbrev pub start_by : Option Sentence → Option Port
start_by (Some (Start p)) = Some p
start_by other = None

abbrev pub end_by : Option Sentence → Option Port
end_by (Some (End p)) = Some p
end_by other = None

abbrev pub place_by : Option Sentence → Option Port
place_by (Some (At p)) = Some p
place_by other = None

abbrev pub entry_by : Option Sentence → Option ModuleLine
entry_by (Some (Module e)) = Some e
entry_by other = None

-- the number of modules, 0 if it is not told; the start, the end, the place of the signal, and the line of a module
abbrev pub count_or : Option ℕ → ℕ
count_or None = 0
count_or (Some c) = c

abbrev pub count_in : List (Option Sentence) → ℕ
count_in says = count_or (count_by (said_at says 1))

abbrev pub start_in : List (Option Sentence) → Option Port
start_in says = start_by (said_at says 2)

abbrev pub end_in : List (Option Sentence) → Option Port
end_in says = end_by (said_at says 3)

abbrev pub place_in : List (Option Sentence) → Option Port
place_in says = place_by (said_at says 4)

abbrev pub entry_in : List (Option Sentence) → ℕ → Option ModuleLine
entry_in says m = entry_by (said_at says (m + header_lines))

-- ---- ports

-- a table by its number, counted from 1
abbrev pub shape_at : List Shape → ℕ → Option Shape
shape_at shapes zero = None
shape_at shapes (suc t) = slice_get shapes t

-- the number of ports each way of a module, by its line: that of its table, if the table exists, and 4 for an element
abbrev pub ports_of : List Shape → Kind → Option ℕ
ports_of shapes (Machine t q) = option_map (λ s. s.lines) (shape_at shapes t)
ports_of shapes (Rotary q) = Some 4

abbrev pub ports_at : List Shape → List (Option Sentence) → ℕ → Option ℕ
ports_at shapes says m = option_and_then (λ e. ports_of shapes e.kind) (entry_in says m)

-- the number is at most this one, or at most the greatest of any table
abbrev pub is_up_to : ℕ → Option ℕ → Bool
is_up_to l None = nat_le l MOST_COUNT
is_up_to l (Some most) = nat_le l most

-- there is such a module, and it has such a port, as far as its line tells
abbrev pub has_port : List Shape → List (Option Sentence) → Port → Bool
has_port shapes says p = nat_lt p.0 (count_in says) && nat_lt 0 p.1 && is_up_to p.1 (ports_at shapes says p.0)

-- the port with its number counted from 0
abbrev pub line_of : Port → Line
line_of p = line_at p.0 (p.1 - 1)

-- the port is this one
abbrev pub is_at : Option Port → Line → Bool
is_at None l = false
is_at (Some p) l = same_line (line_of p) l

-- ---- wires

-- the wires that leave a module, from this output port on
abbrev pub wires_from : ℕ → ℕ → List (Option Port) → List Wire
wires_from m o [] = []
wires_from m o (None ∷ xs) = wires_from m (suc o) xs
wires_from m o (Some p ∷ xs) = record { from = line_at m o; to = line_of p } ∷ wires_from m (suc o) xs

abbrev pub wires_by : ℕ → Option ModuleLine → List Wire
wires_by m None = []
wires_by m (Some e) = wires_from m 0 e.targets

-- the wires that leave the first modules
abbrev pub wires_before : List (Option Sentence) → ℕ → List Wire
wires_before says zero = []
wires_before says (suc m) = wires_before says m ++ wires_by m (entry_in says m)

-- ---- faults

-- the first fault if there is one, otherwise the second
abbrev pub or_else : Option NetworkFault → Option NetworkFault → Option NetworkFault
or_else None later = later
or_else (Some fault) later = Some fault

-- the fault of a wire between existing ports, after these wires
abbrev pub joint_fault : List (Option Sentence) → List Wire → Line → Line → Option NetworkFault
joint_fault says ws from to =
    if is_at (end_in says) from then Some faults.EndWired
    else (if is_at (start_in says) to then Some faults.StartFed
    else (if is_some (source ws to) then Some faults.TwoSources else None))

-- the first fault of the wire from an output port of a module to a port, after these wires
abbrev pub wire_fault : List Shape → List (Option Sentence) → List Wire → Line → Port → Option NetworkFault
wire_fault shapes says ws from p =
    if has_port shapes says p then joint_fault says ws from (line_of p) else Some faults.Target

-- the first fault of the outputs of a module, from this output port on
abbrev pub outputs_fault : List Shape → List (Option Sentence) → List Wire → ℕ → ℕ → List (Option Port)
    → Option NetworkFault
outputs_fault shapes says ws m o [] = None
outputs_fault shapes says ws m o (None ∷ xs) = outputs_fault shapes says ws m (suc o) xs
outputs_fault shapes says ws m o (Some p ∷ xs) =
    or_else (wire_fault shapes says ws (line_at m o) p)
    (outputs_fault shapes says (ws ++ record { from = line_at m o; to = line_of p } ∷ []) m (suc o) xs)

-- the fault of a module's table and state
abbrev pub state_fault : ℕ → Option Shape → Option NetworkFault
state_fault q None = Some faults.Table
state_fault q (Some s) = if nat_lt 0 q && nat_le q s.states then None else Some faults.State

abbrev pub kind_fault : List Shape → Kind → Option NetworkFault
kind_fault shapes (Machine t q) = state_fault q (shape_at shapes t)
kind_fault shapes (Rotary q) = None

-- the line names as many ports as its module has, if that is known
abbrev pub is_count : ℕ → Option ℕ → Bool
is_count k None = true
is_count k (Some n) = k == n

-- the first fault of a module's line apart from its wires; the module is the one with this number
abbrev pub head_fault : List Shape → ℕ → ModuleLine → Option NetworkFault
head_fault shapes m e =
    if is_count (length e.targets) (ports_of shapes e.kind)
    then (if e.number == m then kind_fault shapes e.kind else Some faults.Order)
    else Some faults.Syntax

-- the first fault of the line of the module with this number
abbrev pub entry_fault : List Shape → List (Option Sentence) → ℕ → Option ModuleLine → Option NetworkFault
entry_fault shapes says m None = Some faults.Syntax
entry_fault shapes says m (Some e) =
    or_else (head_fault shapes m e) (outputs_fault shapes says (wires_before says m) m 0 e.targets)

abbrev pub module_fault : List Shape → List (Option Sentence) → ℕ → Option NetworkFault
module_fault shapes says m = entry_fault shapes says m (entry_in says m)

-- the first fault of a line of the header
abbrev pub is_title : Option Sentence → Bool
is_title (Some Title) = true
is_title other = false

abbrev pub title_fault : Option Sentence → Option NetworkFault
title_fault x = if is_title x then None else Some faults.Syntax

abbrev pub count_fault : Option ℕ → Option NetworkFault
count_fault None = Some faults.Syntax
count_fault (Some c) =
    if nat_lt 0 c then (if nat_le c MOST_MODULES then None else Some faults.TooMany) else Some faults.Syntax

abbrev pub port_fault : List Shape → List (Option Sentence) → Option Port → Option NetworkFault
port_fault shapes says None = Some faults.Syntax
port_fault shapes says (Some p) = if has_port shapes says p then None else Some faults.Target

-- the line after those of the modules: there is none
abbrev pub last_fault : Page → ℕ → Option NetworkFault
last_fault page n =
    if n == header_lines + count_in page.says && (nat_lt n (length page.says) || page.more)
    then Some faults.Syntax else None

abbrev pub later_fault : List Shape → Page → ℕ → Option NetworkFault
later_fault shapes page n =
    if nat_lt (n - header_lines) (count_in page.says) then module_fault shapes page.says (n - header_lines)
    else last_fault page n

-- The first fault of the line with this number, counted from 0. The line of a module that is missing is malformed, and
-- so is a line after the last.
abbrev pub line_fault : List Shape → Page → ℕ → Option NetworkFault
line_fault shapes page n =
    if n == 0 then title_fault (said_at page.says 0)
    else (if n == 1 then count_fault (count_by (said_at page.says 1))
    else (if n == 2 then port_fault shapes page.says (start_in page.says)
    else (if n == 3 then port_fault shapes page.says (end_in page.says)
    else (if n == 4 then port_fault shapes page.says (place_in page.says)
    else later_fault shapes page n))))
