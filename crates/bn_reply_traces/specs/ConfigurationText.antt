-- The line of a configuration of a run of a machine of quadruples (this project's own definition).
use Rattle.std.specs.Prelude.{◌≡◌, ℕ, ◌⊎◌, List, [], ◌∷◌, ◌++◌, Option, Some, None, codes, decimal, slice_index_or}
use Rattle.bn_lists.specs.Runs.{Reaches}
use Rattle.bn_quad.specs.Quadruples.{Configuration, GoesBy, IsQuadrupleStuck, Quadruples, QuadruplesRunTo, everywhere}
use Rattle.bn_quad.specs.Quadruples.{final_state_of}
use Rattle.bn_qtable.specs.Rows.{QuadTable}
use Rattle.bn_reply.specs.Lines.{line}
use Rattle.bn_reply_traces.specs.MomentText.{IsTapeText, rule_text}

-- the name of a number
abbrev pub name_in : List (List ℕ) → ℕ → List ℕ
name_in names n = slice_index_or names n []

-- the text has the number of steps that led to the configuration, its state, and what each tape shows: all cells from
-- the first to the last that has a letter or the head
pub record IsConfigurationText (t : QuadTable) (i : ℕ) (c : Configuration ℕ) (text : List ℕ) : Type 0 where
  pub one : List ℕ
  pub two : List ℕ
  pub three : List ℕ
  pub one_is : IsTapeText (name_in t.names.one) c.one one
  pub two_is : IsTapeText (name_in t.names.two) c.two two
  pub three_is : IsTapeText (name_in t.names.three) c.three three
  pub is : text ≡ decimal i ++ (codes " " ++ (name_in t.names.states c.state ++ (codes " tape 1" ++ (one
      ++ (codes " tape 2" ++ (two ++ (codes " tape 3" ++ three)))))))

-- the quadruple that the machine applies in a configuration; none if it halts or is stuck
abbrev pub IsNextQuadruple : Quadruples → Configuration ℕ → Option ℕ → Type 0
IsNextQuadruple p c None = (c.state ≡ final_state_of p.rules) ⊎ IsQuadrupleStuck p c
IsNextQuadruple p c (Some n) = (d : Configuration ℕ) × GoesBy everywhere p n c d

-- the text is the line of this configuration, reached after this many steps
pub record IsConfigurationLine (t : QuadTable) (i : ℕ) (c : Configuration ℕ) (text : List ℕ) : Type 0 where
  pub shown : List ℕ
  pub shown_is : IsConfigurationText t i c shown
  pub rule : Option ℕ
  pub next : IsNextQuadruple t.machine c rule
  pub is : text ≡ line (shown ∷ rule_text rule ∷ [])

-- the text is the line of the configuration after i steps of the machine's own run from the first one
abbrev pub IsConfigurationLineAfter : QuadTable → Configuration ℕ → ℕ → List ℕ → Type 0
IsConfigurationLineAfter t first i text =
    (c : Configuration ℕ) × Reaches (QuadruplesRunTo everywhere t.machine) i first c × IsConfigurationLine t i c text
