-- The lists of wires make the network's relation of lines.
use Rattle.std.specs.Prelude.{◌≡◌, ℕ, ◌+◌, ◌-◌, ◌<◌, ◌≤◌, List, [], ◌∷◌, ◌++◌, length, slice_index, refl, ◌⊎◌}
use Rattle.std.proofs.Common.{zero, suc, arith, sym, ap, subst, ◌∙◌, inl, inr}
use Rattle.std.proofs.lemmas.Bool.{cases_lt}
use Rattle.std.proofs.lemmas.Bool.Decides.{eqb_tells}
use Rattle.bn_circuits.specs.declared.line.Line.{Line}
use Rattle.bn_circuits.specs.Wirings.{AreWiresOf}
use Rattle.bn_circuits.proofs.WiringsLemmas.{IsWire, no_wires, more_wire, joined_wires, same_wires}
use Rattle.bn_machine.specs.Outcome.{Limits}
use Rattle.bn_quad.specs.Quadruples.{Quadruples}
use Rattle.bn_network.specs.declared.cell_line.CellLine.{CellLine}
use Rattle.bn_network.specs.declared.cell_line.CellLine.TheVariants.{Read, Write, ShiftRight, ShiftLeft, TakeRight}
use Rattle.bn_network.specs.declared.cell_line.CellLine.TheVariants.{Answer, DoneWrite, DoneRight, DoneLeft, TakeLeft}
use Rattle.bn_network.specs.Cells.{IsLineOf, line_number}
use Rattle.bn_network.specs.Controls.{Tape as to_tape, symbol_count, lines_before, in_number, out_number}
use Rattle.bn_network.specs.Controls.{command_offset, answer_offset}
use Rattle.bn_network.specs.Networks.{IsTape, IsCommand, IsReply, GoesRight, GoesLeft, IsNetWire, commands, replies}
use Rattle.bn_network.specs.Networks.{rightward, leftward, cells_in, first_cell}
use Rattle.bn_circuits.specs.Circuits.{line_at}
use Rattle.bn_network_laws.proofs.CarriedLemmas.{some_cells}
use Rattle.bn_network_assembly.specs.WireLists.{wire, bundle, joint, joints, tape_wires, wires_of_tape, network_wires}

-- ---- bundles

-- one of the wires of a bundle
pub record IsBundled (e i f j n : ℕ) (from to : Line) : Type 0 where
  pub at : ℕ
  pub low : at < n
  pub leaves : from ≡ line_at e (i + at)
  pub ends : to ≡ line_at f (j + at)

-- one line by two pairs of numbers
pub same_numbers : (x : Line) (a b c d : ℕ) → x ≡ line_at a b → x ≡ line_at c d → (a ≡ c) × (b ≡ d)
same_numbers x a b c d h k = let same : line_at a b ≡ line_at c d =
    sym h ∙ k in (ap (λ (y : Line). y.element) same, ap (λ (y : Line). y.line) same)

pub bundle_wires : (e i f j n : ℕ) → AreWiresOf (IsBundled e i f j n) (bundle e i f j n)
bundle_wires e i f j zero = no_wires (IsBundled e i f j zero) (λ from to h. let low = h.low in omega arith)
bundle_wires e i f j (suc n) =
    same_wires (λ from to. IsBundled e i f j n from to ⊎ IsWire (wire e (i + n) f (j + n)) from to)
    (IsBundled e i f j (suc n)) (bundle e i f j n ++ (wire e (i + n) f (j + n) ∷ []))
    (more_wire (IsBundled e i f j n) (bundle e i f j n) (wire e (i + n) f (j + n)) (bundle_wires e i f j n)
    (λ to h. let same = same_numbers (wire e (i + n) f (j + n)).from e (i + n) e (i + h.at) refl h.leaves in let
    low = h.low in let lines = same.1 in omega arith)
    (λ from h. let same = same_numbers (wire e (i + n) f (j + n)).to f (j + n) f (j + h.at) refl h.ends in let
    low = h.low in let lines = same.1 in omega arith))
    widen narrow
  where
    widen : (from to : Line) → IsBundled e i f j n from to ⊎ IsWire (wire e (i + n) f (j + n)) from to
        → IsBundled e i f j (suc n) from to
    widen from to (inl h) = let low = h.low in record { at = h.at; low = omega arith; leaves = h.leaves; ends = h.ends }
    widen from to (inr h) = record { at = n; low = omega arith; leaves = h.leaves; ends = h.ends }

    narrow : (from to : Line) → IsBundled e i f j (suc n) from to
        → IsBundled e i f j n from to ⊎ IsWire (wire e (i + n) f (j + n)) from to
    narrow from to h = elim (cases_lt h.at n) [
      | inl less ↦ inl (record { at = h.at; low = less; leaves = h.leaves; ends = h.ends })
      | inr more ↦ (let low = h.low in let same : h.at ≡ n = omega arith in
          inr (record {
            leaves = h.leaves ∙ ap (λ x. line_at e (i + x)) same;
            ends = h.ends ∙ ap (λ x. line_at f (j + x)) same;
          }))
    ]

-- ---- joints of a row

abbrev pub IsJoint : ℕ → ℕ → Line → Line → Type 0
IsJoint e z from to = IsBundled e 0 (e + 1) 0 (z + 4) from to ⊎ IsBundled (e + 1) (z + 4) e (z + 4) (z + 4) from to

joint_wires : (e z : ℕ) → AreWiresOf (IsJoint e z) (joint e z)
joint_wires e z =
    joined_wires (IsBundled e 0 (e + 1) 0 (z + 4)) (IsBundled (e + 1) (z + 4) e (z + 4) (z + 4)) (IsJoint e z)
    (bundle e 0 (e + 1) 0 (z + 4)) (bundle (e + 1) (z + 4) e (z + 4) (z + 4)) (bundle_wires e 0 (e + 1) 0 (z + 4))
    (bundle_wires (e + 1) (z + 4) e (z + 4) (z + 4))
    (λ from to line h k. let same = (same_numbers from e (0 + h.at) (e + 1) (z + 4 + k.at) h.leaves k.leaves).0 in omega
    arith)
    (λ from to line h k. let same = (same_numbers to (e + 1) (0 + h.at) e (z + 4 + k.at) h.ends k.ends).0 in omega
    arith)
    (λ from to h. inl h) (λ from to h. inr h) (λ from to h. h)

pub record IsJoined (f z n : ℕ) (from to : Line) : Type 0 where
  pub at : ℕ
  pub low : at < n
  pub joint : IsJoint (f + at) z from to

-- where a joint's wire leaves and ends
leaves_joint : (e z : ℕ) (from to : Line) → IsJoint e z from to
    → ((from.element ≡ e) × (from.line < z + 4)) ⊎ ((from.element ≡ e + 1) × (z + 4 ≤ from.line))
leaves_joint e z from to (inl h) = let low = h.low in inl (
  ap (λ (x : Line). x.element) h.leaves,
  let line : from.line ≡ 0 + h.at = ap (λ (x : Line). x.line) h.leaves in omega arith,
)
leaves_joint e z from to (inr h) = inr (
  ap (λ (x : Line). x.element) h.leaves,
  let line : from.line ≡ z + 4 + h.at = ap (λ (x : Line). x.line) h.leaves in omega arith,
)

ends_joint : (e z : ℕ) (from to : Line) → IsJoint e z from to
    → ((to.element ≡ e + 1) × (to.line < z + 4)) ⊎ ((to.element ≡ e) × (z + 4 ≤ to.line))
ends_joint e z from to (inl h) = let low = h.low in inl (
  ap (λ (x : Line). x.element) h.ends,
  let line : to.line ≡ 0 + h.at = ap (λ (x : Line). x.line) h.ends in omega arith,
)
ends_joint e z from to (inr h) = inr (
  ap (λ (x : Line). x.element) h.ends,
  let line : to.line ≡ z + 4 + h.at = ap (λ (x : Line). x.line) h.ends in omega arith,
)

joins_wires : (f z n : ℕ) → AreWiresOf (IsJoined f z n) (joints f z n)
joins_wires f z zero = no_wires (IsJoined f z zero) (λ from to h. let low = h.low in omega arith)
joins_wires f z (suc n) =
    joined_wires (IsJoined f z n) (IsJoint (f + n) z) (IsJoined f z (suc n)) (joints f z n) (joint (f + n) z)
    (joins_wires f z n) (joint_wires (f + n) z)
    (λ from to line h k. let low = h.low in elim (leaves_joint (f + h.at) z from to h.joint) [
      | inl a ↦ elim (leaves_joint (f + n) z from line k) [
        | inl b ↦ (let x = a.0 in let y = b.0 in omega arith)
        | inr b ↦ (let x = a.0 in let y = b.0 in omega arith)
      ]
      | inr a ↦ elim (leaves_joint (f + n) z from line k) [
        | inl b ↦ (let x = a.1 in let y = b.1 in omega arith)
        | inr b ↦ (let x = a.0 in let y = b.0 in omega arith)
      ]
    ])
    (λ from to line h k. let low = h.low in elim (ends_joint (f + h.at) z from to h.joint) [
      | inl a ↦ elim (ends_joint (f + n) z line to k) [
        | inl b ↦ (let x = a.0 in let y = b.0 in omega arith)
        | inr b ↦ (let x = a.1 in let y = b.1 in omega arith)
      ]
      | inr a ↦ elim (ends_joint (f + n) z line to k) [
        | inl b ↦ (let x = a.0 in let y = b.0 in omega arith)
        | inr b ↦ (let x = a.0 in let y = b.0 in omega arith)
      ]
    ])
    (λ from to h. let low = h.low in record { at = h.at; low = omega arith; joint = h.joint })
    (λ from to h. record { at = n; low = omega arith; joint = h })
    (λ from to h. elim (cases_lt h.at n) [
      | inl less ↦ inl (record { at = h.at; low = less; joint = h.joint })
      | inr more ↦ (let low = h.low in let same : h.at ≡ n = omega arith in inr
          (subst (λ x. IsJoint (f + x) z from to) same h.joint))
    ])

-- ---- tapes

abbrev pub IsTaped : ℕ → ℕ → ℕ → ℕ → Line → Line → Type 0
IsTaped b f n z from to = (IsBundled 0 b f 0 (z + 3) from to ⊎ IsBundled f (z + 4) 0 b (z + 3) from to)
    ⊎ IsJoined f z (n - 1) from to

-- the lines of a tape: its lines at the control, and those of its cells
pub data IsOfTape (b f n z : ℕ) (x : Line) : Type 0 where
  at_control : x.element ≡ 0 → b ≤ x.line → x.line < b + (z + 3) → IsOfTape b f n z x
  at_cells : f ≤ x.element → x.element < f + n → IsOfTape b f n z x

module _ (b f n z : ℕ) (some : 0 < f) (cells : 0 < n) where
  tape_wires-are : AreWiresOf (IsTaped b f n z) (tape_wires b f n z)
  tape_wires-are =
      joined_wires (λ from to. IsBundled 0 b f 0 (z + 3) from to ⊎ IsBundled f (z + 4) 0 b (z + 3) from to)
      (IsJoined f z (n - 1)) (IsTaped b f n z)
      (bundle 0 b f 0 (z + 3) ++ bundle f (z + 4) 0 b (z + 3)) (joints f z (n - 1))
      (joined_wires (IsBundled 0 b f 0 (z + 3)) (IsBundled f (z + 4) 0 b (z + 3))
      (λ from to. IsBundled 0 b f 0 (z + 3) from to ⊎ IsBundled f (z + 4) 0 b (z + 3) from to)
      (bundle 0 b f 0 (z + 3)) (bundle f (z + 4) 0 b (z + 3)) (bundle_wires 0 b f 0 (z + 3))
      (bundle_wires f (z + 4) 0 b (z + 3))
      (λ from to line h k. let same = (same_numbers from 0 (b + h.at) f (z + 4 + k.at) h.leaves k.leaves).0 in omega
      arith)
      (λ from to line h k. let same = (same_numbers to f (0 + h.at) 0 (b + k.at) h.ends k.ends).0 in omega arith)
      (λ from to h. inl h) (λ from to h. inr h) (λ from to h. h))
      (joins_wires f z (n - 1)) no_from no_to (λ from to h. inl h) (λ from to h. inr h) (λ from to h. h)
    where
      no_from : (from to line : Line) → IsBundled 0 b f 0 (z + 3) from to ⊎ IsBundled f (z + 4) 0 b (z + 3) from to
          → IsJoined f z (n - 1) from line → ⊥
      no_from from to line (inl h) k =
          let first : from.element ≡ 0 = ap (λ (x : Line). x.element) h.leaves in
          elim (leaves_joint (f + k.at) z from line k.joint) [
            | inl a ↦ (let x = a.0 in omega arith)
            | inr a ↦ (let x = a.0 in omega arith)
          ]
      no_from from to line (inr h) k =
          let first : from.element ≡ f = ap (λ (x : Line). x.element) h.leaves in
          let second : from.line ≡ z + 4 + h.at = ap (λ (x : Line). x.line) h.leaves in
          elim (leaves_joint (f + k.at) z from line k.joint) [
            | inl a ↦ (let x = a.1 in omega arith)
            | inr a ↦ (let x = a.0 in omega arith)
          ]

      no_to : (from to line : Line) → IsBundled 0 b f 0 (z + 3) from to ⊎ IsBundled f (z + 4) 0 b (z + 3) from to
          → IsJoined f z (n - 1) line to → ⊥
      no_to from to line (inl h) k =
          let first : to.element ≡ f = ap (λ (x : Line). x.element) h.ends in
          let second : to.line ≡ 0 + h.at = ap (λ (x : Line). x.line) h.ends in
          let low = h.low in
          elim (ends_joint (f + k.at) z line to k.joint) [
            | inl a ↦ (let x = a.0 in omega arith)
            | inr a ↦ (let x = a.1 in omega arith)
          ]
      no_to from to line (inr h) k =
          let first : to.element ≡ 0 = ap (λ (x : Line). x.element) h.ends in
          elim (ends_joint (f + k.at) z line to k.joint) [
            | inl a ↦ (let x = a.0 in omega arith)
            | inr a ↦ (let x = a.0 in omega arith)
          ]

  leaves_tape : (from to : Line) → IsTaped b f n z from to → IsOfTape b f n z from
  leaves_tape from to (inl (inl h)) =
      let low = h.low in
      let line : from.line ≡ b + h.at = ap (λ (x : Line). x.line) h.leaves in
      at_control (ap (λ (x : Line). x.element) h.leaves) (omega arith) (omega arith)
  leaves_tape from to (inl (inr h)) = let place : from.element ≡ f =
      ap (λ (x : Line). x.element) h.leaves in at_cells (omega arith) (omega arith)
  leaves_tape from to (inr h) =
      let low = h.low in
      elim (leaves_joint (f + h.at) z from to h.joint) [
        | inl a ↦ (let x = a.0 in at_cells (omega arith) (omega arith))
        | inr a ↦ (let x = a.0 in at_cells (omega arith) (omega arith))
      ]

  ends_tape : (from to : Line) → IsTaped b f n z from to → IsOfTape b f n z to
  ends_tape from to (inl (inl h)) = let place : to.element ≡ f =
      ap (λ (x : Line). x.element) h.ends in at_cells (omega arith) (omega arith)
  ends_tape from to (inl (inr h)) =
      let low = h.low in
      let line : to.line ≡ b + h.at = ap (λ (x : Line). x.line) h.ends in
      at_control (ap (λ (x : Line). x.element) h.ends) (omega arith) (omega arith)
  ends_tape from to (inr h) =
      let low = h.low in
      elim (ends_joint (f + h.at) z from to h.joint) [
        | inl a ↦ (let x = a.0 in at_cells (omega arith) (omega arith))
        | inr a ↦ (let x = a.0 in at_cells (omega arith) (omega arith))
      ]

-- a line is of one tape at most, where one tape's lines end before the other's begin
tapes_apart : (b f n z c g m y : ℕ) (x : Line) → 0 < f → 0 < g → b + (z + 3) ≤ c → f + n ≤ g → IsOfTape b f n z x
    → IsOfTape c g m y x → ⊥
tapes_apart b f n z c g m y x some other lines cells (at_control e low high) (at_control k under over) = omega arith
tapes_apart b f n z c g m y x some other lines cells (at_control e low high) (at_cells under over) = omega arith
tapes_apart b f n z c g m y x some other lines cells (at_cells low high) (at_control k under over) = omega arith
tapes_apart b f n z c g m y x some other lines cells (at_cells low high) (at_cells under over) = omega arith

-- ---- lines by their numbers

pub record IsCommandAt (z n : ℕ) : Type 0 where
  pub line : CellLine
  pub kind : IsCommand line
  pub valid : IsLineOf z line
  pub number : line_number z line ≡ n
  pub offset : command_offset z line ≡ n

command_at : (z n : ℕ) → n < z + 3 → IsCommandAt z n
command_at z zero low = record { line = Read; kind = tt; valid = tt; number = refl; offset = refl }
command_at z (suc n) low = elim (cases_lt n z) [
  | inl less ↦ record { line = Write n; kind = tt; valid = less; number = omega arith; offset = omega arith }
  | inr more ↦ elim (eqb_tells n z) [
    | inl same ↦ (let e = same.1 in record {
      line = ShiftRight;
      kind = tt;
      valid = tt;
      number = omega arith;
      offset = omega arith;
    })
    | inr other ↦ (let last : n ≡ z + 1 = past n z more other.1 low in record
        { line = ShiftLeft; kind = tt; valid = tt; number = omega arith; offset = omega arith })
  ]
]
  where
    past : (n z : ℕ) → z ≤ n → (n ≡ z → ⊥) → suc n < z + 3 → n ≡ z + 1
    past n z more other low = elim (cases_lt z n) [ inl above ↦ omega arith | inr below ↦ absurd (other (omega arith)) ]

pub record IsReplyAt (z n : ℕ) : Type 0 where
  pub line : CellLine
  pub kind : IsReply line
  pub valid : IsLineOf z line
  pub number : line_number z line ≡ z + 4 + n
  pub offset : answer_offset z line ≡ n

reply_at : (z n : ℕ) → n < z + 3 → IsReplyAt z n
reply_at z n low = elim (cases_lt n z) [
  | inl less ↦ record { line = Answer n; kind = tt; valid = less; number = refl; offset = refl }
  | inr more ↦ by_rest (n - z) (omega arith) (omega arith)
]
  where
    by_rest : (k : ℕ) → n ≡ z + k → k < 3 → IsReplyAt z n
    by_rest zero e few = record { line = DoneWrite; kind = tt; valid = tt; number = omega arith; offset = omega arith }
    by_rest (suc zero) e few = record {
      line = DoneRight;
      kind = tt;
      valid = tt;
      number = omega arith;
      offset = omega arith;
    }
    by_rest (suc (suc zero)) e few = record {
      line = DoneLeft;
      kind = tt;
      valid = tt;
      number = omega arith;
      offset = omega arith;
    }
    by_rest (suc (suc (suc k))) e few = absurd (omega arith)

goes_right : (c : CellLine) → IsCommand c → GoesRight c
goes_right Read h = tt
goes_right (Write u) h = tt
goes_right ShiftRight h = tt
goes_right ShiftLeft h = tt
goes_right _ h = absurd h

goes_left : (c : CellLine) → IsReply c → GoesLeft c
goes_left (Answer u) h = tt
goes_left DoneWrite h = tt
goes_left DoneRight h = tt
goes_left DoneLeft h = tt
goes_left _ h = absurd h

-- the numbers of lines that go right are below z + 4, those of lines that go left from there on
right_low : (z : ℕ) (c : CellLine) → GoesRight c → IsLineOf z c → line_number z c < z + 4
right_low z Read h v = omega arith
right_low z (Write u) h v = omega arith
right_low z ShiftRight h v = omega arith
right_low z ShiftLeft h v = omega arith
right_low z TakeRight h v = omega arith
right_low z _ h v = absurd h

pub record IsPast (z n : ℕ) : Type 0 where
  pub rest : ℕ
  pub few : rest < z + 4
  pub is : n ≡ z + 4 + rest

left_past : (z : ℕ) (c : CellLine) → GoesLeft c → IsLineOf z c → IsPast z (line_number z c)
left_past z (Answer u) h v = record { rest = u; few = omega arith; is = refl }
left_past z DoneWrite h v = record { rest = z; few = omega arith; is = omega arith }
left_past z DoneRight h v = record { rest = z + 1; few = omega arith; is = omega arith }
left_past z DoneLeft h v = record { rest = z + 2; few = omega arith; is = omega arith }
left_past z TakeLeft h v = record { rest = z + 3; few = omega arith; is = omega arith }
left_past z _ h v = absurd h

command_low : (z : ℕ) (c : CellLine) → IsCommand c → IsLineOf z c
    → (line_number z c < z + 3) × (command_offset z c ≡ line_number z c)
command_low z Read h v = (omega arith, refl)
command_low z (Write u) h v = (omega arith, refl)
command_low z ShiftRight h v = (omega arith, refl)
command_low z ShiftLeft h v = (omega arith, refl)
command_low z _ h v = absurd h

reply_low : (z : ℕ) (c : CellLine) → IsReply c → IsLineOf z c
    → (answer_offset z c < z + 3) × (line_number z c ≡ z + 4 + answer_offset z c)
reply_low z (Answer u) h v = (omega arith, refl)
reply_low z DoneWrite h v = (omega arith, omega arith)
reply_low z DoneRight h v = (omega arith, omega arith)
reply_low z DoneLeft h v = (omega arith, omega arith)
reply_low z _ h v = absurd h

-- ---- the network

module _ (m : Quadruples) (l : Limits) (t : ℕ) (tape : IsTape t) where
  abbrev z : ℕ
  z = symbol_count m t

  abbrev b : ℕ
  b = lines_before m.symbols (t - 1)

  abbrev f : ℕ
  f = first_cell l t

  abbrev Taped : Line → Line → Type 0
  Taped = IsTaped b f (cells_in l t) z

  rightward_of : (p n : ℕ) (from to : Line) → p < cells_in l t - 1 → n < z + 4 → from ≡ line_at (f + p) (0 + n)
      → to ≡ line_at (f + p + 1) (0 + n) → IsNetWire m l from to
  rightward_of p n from to inner low leaves ends = elim (cases_lt n (z + 3)) [
    | inl less ↦ (let c = command_at z n less in by_line c.line (goes_right c.line c.kind) c.valid c.number)
    | inr more ↦ by_line TakeRight tt tt (omega arith)
  ]
    where
      by_line : (c : CellLine) → GoesRight c → IsLineOf z c → line_number z c ≡ n → IsNetWire m l from to
      by_line c kind valid number =
          let at : 0 + n ≡ line_number z c = omega arith in
          let next : f + p + 1 ≡ f + (p + 1) = omega arith in
          rightward t p c tape (omega arith) kind valid (leaves ∙ ap (line_at (f + p)) at)
          (ends ∙ (λ i. line_at (next i) (at i)))

  leftward_of : (p n : ℕ) (from to : Line) → p < cells_in l t - 1 → n < z + 4 → from ≡ line_at (f + p + 1) (z + 4 + n)
      → to ≡ line_at (f + p) (z + 4 + n) → IsNetWire m l from to
  leftward_of p n from to inner low leaves ends = elim (cases_lt n (z + 3)) [
    | inl less ↦ (let c = reply_at z n less in by_line c.line (goes_left c.line c.kind) c.valid c.number)
    | inr more ↦ by_line TakeLeft tt tt (omega arith)
  ]
    where
      by_line : (c : CellLine) → GoesLeft c → IsLineOf z c → line_number z c ≡ z + 4 + n → IsNetWire m l from to
      by_line c kind valid number =
          let at : z + 4 + n ≡ line_number z c = omega arith in
          let next : f + p + 1 ≡ f + (p + 1) = omega arith in
          leftward t p c tape (omega arith) kind valid (leaves ∙ (λ i. line_at (next i) (at i)))
          (ends ∙ ap (line_at (f + p)) at)

  taped_wire : (from to : Line) → Taped from to → IsNetWire m l from to
  taped_wire from to (inl (inl h)) =
      let c = command_at z h.at h.low in
      let number = c.number in
      let offset = c.offset in
      let leaves_at : b + h.at ≡ out_number m (to_tape t c.line) = omega arith in
      let ends_at : 0 + h.at ≡ line_number z c.line = omega arith in
      commands t c.line tape c.kind c.valid (h.leaves ∙ ap (line_at 0) leaves_at) (h.ends ∙ ap (line_at f) ends_at)
  taped_wire from to (inl (inr h)) =
      let c = reply_at z h.at h.low in
      let number = c.number in
      let offset = c.offset in
      let ends_at : b + h.at ≡ in_number m (to_tape t c.line) = omega arith in
      let leaves_at : z + 4 + h.at ≡ line_number z c.line = omega arith in
      replies t c.line tape c.kind c.valid (h.leaves ∙ ap (line_at f) leaves_at) (h.ends ∙ ap (line_at 0) ends_at)
  taped_wire from to (inr h) = by_joint h.joint
    where
      by_joint : IsJoint (f + h.at) z from to → IsNetWire m l from to
      by_joint (inl k) = rightward_of h.at k.at from to h.low k.low k.leaves k.ends
      by_joint (inr k) = leftward_of h.at k.at from to h.low k.low k.leaves k.ends

  command_taped : (c : CellLine) (from to : Line) → IsCommand c → IsLineOf z c
      → from ≡ line_at 0 (out_number m (to_tape t c)) → to ≡ line_at f (line_number z c) → Taped from to
  command_taped c from to kind valid leaves ends =
      let low = command_low z c kind valid in
      let offset = low.1 in
      let at : out_number m (to_tape t c) ≡ b + line_number z c = omega arith in
      let zero_at : line_number z c ≡ 0 + line_number z c = omega arith in
      inl (inl (record {
        at = line_number z c;
        low = low.0;
        leaves = leaves ∙ ap (line_at 0) at;
        ends = ends ∙ ap (line_at f) zero_at;
      }))

  reply_taped : (c : CellLine) (from to : Line) → IsReply c → IsLineOf z c → from ≡ line_at f (line_number z c)
      → to ≡ line_at 0 (in_number m (to_tape t c)) → Taped from to
  reply_taped c from to kind valid leaves ends =
      let low = reply_low z c kind valid in
      inl (inr (record { at = answer_offset z c; low = low.0; leaves = leaves ∙ ap (line_at f) low.1; ends = ends }))

  right_taped : (p : ℕ) (c : CellLine) (from to : Line) → p + 1 < cells_in l t → GoesRight c → IsLineOf z c
      → from ≡ line_at (f + p) (line_number z c) → to ≡ line_at (f + (p + 1)) (line_number z c) → Taped from to
  right_taped p c from to inner kind valid leaves ends =
      let next : f + (p + 1) ≡ f + p + 1 = omega arith in
      let zero_at : line_number z c ≡ 0 + line_number z c = omega arith in
      inr (record {
        at = p;
        low = omega arith;
        joint = inl (record {
          at = line_number z c;
          low = right_low z c kind valid;
          leaves = leaves ∙ ap (line_at (f + p)) zero_at;
          ends = ends ∙ (λ i. line_at (next i) (zero_at i));
        });
      })

  left_taped : (p : ℕ) (c : CellLine) (from to : Line) → p + 1 < cells_in l t → GoesLeft c → IsLineOf z c
      → from ≡ line_at (f + (p + 1)) (line_number z c) → to ≡ line_at (f + p) (line_number z c) → Taped from to
  left_taped p c from to inner kind valid leaves ends =
      let past = left_past z c kind valid in
      let next : f + (p + 1) ≡ f + p + 1 = omega arith in
      inr (record {
        at = p;
        low = omega arith;
        joint = inr (record {
          at = past.rest;
          low = past.few;
          leaves = leaves ∙ (λ i. line_at (next i) (past.is i));
          ends = ends ∙ ap (line_at (f + p)) past.is;
        });
      })

module _ (m : Quadruples) (l : Limits) (three : length m.symbols ≡ 3) where
  abbrev OfTape : ℕ → Line → Line → Type 0
  OfTape t = IsTaped (lines_before m.symbols (t - 1)) (first_cell l t) (cells_in l t) (symbol_count m t)

  abbrev OfAny : Line → Line → Type 0
  OfAny from to = (OfTape 1 from to ⊎ OfTape 2 from to) ⊎ OfTape 3 from to

  abbrev InTape : ℕ → Line → Type 0
  InTape t = IsOfTape (lines_before m.symbols (t - 1)) (first_cell l t) (cells_in l t) (symbol_count m t)

  tape_one : IsTape 1
  tape_one = record { low = omega arith; high = omega arith }

  tape_two : IsTape 2
  tape_two = record { low = omega arith; high = omega arith }

  tape_three : IsTape 3
  tape_three = record { low = omega arith; high = omega arith }

  -- how the control's lines follow one another
  pub record HasLines (zs : List ℕ) : Type 0 where
    pub second : lines_before zs 1 ≡ lines_before zs 0 + (slice_index zs 0 + 3)
    pub third : lines_before zs 2 ≡ lines_before zs 1 + (slice_index zs 1 + 3)

  has_lines : (zs : List ℕ) → length zs ≡ 3 → HasLines zs
  has_lines [] e = absurd (omega arith)
  has_lines (x ∷ []) e = absurd (omega arith)
  has_lines (x ∷ y ∷ []) e = absurd (omega arith)
  has_lines (x ∷ y ∷ w ∷ zs) e = record {
    second = (let a : lines_before (x ∷ y ∷ w ∷ zs) 1 ≡ x + 3 + 1 = refl in let c : slice_index (x ∷ y ∷ w ∷ zs) 0
        ≡ x = refl in let d : lines_before (x ∷ y ∷ w ∷ zs) 0 ≡ 1 = refl in omega arith);
    third = (let a : lines_before (x ∷ y ∷ w ∷ zs) 2 ≡ x + 3 + (y + 3 + 1) = refl in let g : lines_before
        (x ∷ y ∷ w ∷ zs) 1 ≡ x + 3 + 1 = refl in let c : slice_index (x ∷ y ∷ w ∷ zs) 1 ≡ y = refl in omega arith);
  }

  -- the list of all wires makes the network's relation
  pub network_wires-are : AreWiresOf (IsNetWire m l) (network_wires m l)
  network_wires-are =
      same_wires OfAny (IsNetWire m l) (network_wires m l)
      (joined_wires (λ from to. OfTape 1 from to ⊎ OfTape 2 from to) (OfTape 3) OfAny
      (wires_of_tape m l 1 ++ wires_of_tape m l 2) (wires_of_tape m l 3)
      (joined_wires (OfTape 1) (OfTape 2) (λ from to. OfTape 1 from to ⊎ OfTape 2 from to) (wires_of_tape m l 1)
      (wires_of_tape m l 2) (are 1 tape_one (omega arith)) (are 2 tape_two (omega arith))
      (λ from to line h k. one_two from (leaves 1 tape_one (omega arith) from to h)
      (leaves 2 tape_two (omega arith) from line k))
      (λ from to line h k. one_two to (ends 1 tape_one (omega arith) from to h)
      (ends 2 tape_two (omega arith) line to k))
      (λ from to h. inl h) (λ from to h. inr h) (λ from to h. h))
      (are 3 tape_three (omega arith))
      (λ from to line h k. elim h [
        | inl a ↦ one_three from (leaves 1 tape_one (omega arith) from to a)
            (leaves 3 tape_three (omega arith) from line k)
        | inr a ↦ two_three from (leaves 2 tape_two (omega arith) from to a)
            (leaves 3 tape_three (omega arith) from line k)
      ])
      (λ from to line h k. elim h [
        | inl a ↦ one_three to (ends 1 tape_one (omega arith) from to a) (ends 3 tape_three (omega arith) line to k)
        | inr a ↦ two_three to (ends 2 tape_two (omega arith) from to a) (ends 3 tape_three (omega arith) line to k)
      ])
      (λ from to h. inl h) (λ from to h. inr h) (λ from to h. h))
      forth back
    where
      are : (t : ℕ) → IsTape t → 0 < first_cell l t → AreWiresOf (OfTape t) (wires_of_tape m l t)
      are t tape some = tape_wires-are (lines_before m.symbols (t - 1)) (first_cell l t) (cells_in l t)
          (symbol_count m t) some (some_cells l t tape)

      leaves : (t : ℕ) → IsTape t → 0 < first_cell l t → (from to : Line) → OfTape t from to → InTape t from
      leaves t tape some = leaves_tape (lines_before m.symbols (t - 1)) (first_cell l t) (cells_in l t)
          (symbol_count m t) some (some_cells l t tape)

      ends : (t : ℕ) → IsTape t → 0 < first_cell l t → (from to : Line) → OfTape t from to → InTape t to
      ends t tape some = ends_tape (lines_before m.symbols (t - 1)) (first_cell l t) (cells_in l t) (symbol_count m t)
          some (some_cells l t tape)

      lines : HasLines m.symbols
      lines = has_lines m.symbols three

      one_two : (x : Line) → InTape 1 x → InTape 2 x → ⊥
      one_two x = let second = lines.second in tapes_apart (lines_before m.symbols 0) (first_cell l 1) (cells_in l 1)
          (symbol_count m 1) (lines_before m.symbols 1) (first_cell l 2) (cells_in l 2) (symbol_count m 2) x
          (omega arith) (omega arith) (omega arith) (omega arith)

      two_three : (x : Line) → InTape 2 x → InTape 3 x → ⊥
      two_three x = let third = lines.third in tapes_apart (lines_before m.symbols 1) (first_cell l 2) (cells_in l 2)
          (symbol_count m 2) (lines_before m.symbols 2) (first_cell l 3) (cells_in l 3) (symbol_count m 3) x
          (omega arith) (omega arith) (omega arith) (omega arith)

      one_three : (x : Line) → InTape 1 x → InTape 3 x → ⊥
      one_three x = let second = lines.second in let third = lines.third in tapes_apart (lines_before m.symbols 0)
          (first_cell l 1) (cells_in l 1) (symbol_count m 1) (lines_before m.symbols 2) (first_cell l 3) (cells_in l 3)
          (symbol_count m 3) x (omega arith) (omega arith) (omega arith) (omega arith)

      forth : (from to : Line) → OfAny from to → IsNetWire m l from to
      forth from to (inl (inl h)) = taped_wire m l 1 tape_one from to h
      forth from to (inl (inr h)) = taped_wire m l 2 tape_two from to h
      forth from to (inr h) = taped_wire m l 3 tape_three from to h

      any : (t : ℕ) → IsTape t → (from to : Line) → OfTape t from to → OfAny from to
      any zero tape from to h = absurd (let low = tape.low in omega arith)
      any (suc zero) tape from to h = inl (inl h)
      any (suc (suc zero)) tape from to h = inl (inr h)
      any (suc (suc (suc zero))) tape from to h = inr h
      any (suc (suc (suc (suc t)))) tape from to h = absurd (let high = tape.high in omega arith)

      back : (from to : Line) → IsNetWire m l from to → OfAny from to
      back from to (commands t c tape kind valid a d) = any t tape from to
          (command_taped m l t tape c from to kind valid a d)
      back from to (replies t c tape kind valid a d) = any t tape from to
          (reply_taped m l t tape c from to kind valid a d)
      back from to (rightward t p c tape inner kind valid a d) =
          any t tape from to (right_taped m l t tape p c from to inner kind valid a d)
      back from to (leftward t p c tape inner kind valid a d) =
          any t tape from to (left_taped m l t tape p c from to inner kind valid a d)
