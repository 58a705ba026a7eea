-- Lines of a text that have been taken one after another, and what a reader stores of them.
use Rattle.std.specs.Prelude.{◌≡◌, ℕ, ◌+◌, ◌≤◌, List, [], ◌∷◌, ◌++◌, length}
use Rattle.bn_netlist_laws.specs.Sentences.{Sentence, Title, Count, Start, End, Steps}
use Rattle.bn_netlist_laws.specs.Spelling.{header_then}
use Rattle.bn_netlist_laws.specs.Faults.{header_lines, count_in, AreFaultless}
use Rattle.bn_netlist_laws.specs.declared.header.Header.{Header}
use Rattle.bn_netlist.specs.Drafting.{Holds}
use Rattle.bn_netlist.specs.LineReading.{TakesLine}
use Rattle.bn_netlist.specs.declared.entries.Entries as behind
use Rattle.bn_netlist.specs.declared.stage.Stage.{Stage}
use Rattle.bn_netlist.specs.declared.stage.Stage.TheVariants as stage

-- these lines are the header followed by the entries that were read
pub record SayEntries (h : Header) (e : behind.Entries) (lines : List Sentence) : Type 0 where
  pub rows : List Sentence
  pub are : lines ≡ header_then h rows
  pub holds : Holds h rows e.lines e.rows e.states.items e.own.items e.ends.drawn e.ends.fed.items

-- the stage stores the contents of the lines
abbrev pub Say : Stage → List Sentence → Type 0
Say stage.Title lines = lines ≡ []
Say (stage.Count v) lines = lines ≡ Title v ∷ []
Say (stage.Start v c) lines = lines ≡ Title v ∷ Count c ∷ []
Say (stage.End v c s) lines = lines ≡ Title v ∷ Count c ∷ Start s ∷ []
Say (stage.Steps v c s e) lines = lines ≡ Title v ∷ Count c ∷ Start s ∷ End e ∷ []
Say (stage.Place v c s e t) lines = lines ≡ Title v ∷ Count c ∷ Start s ∷ End e ∷ Steps t ∷ []
Say (stage.Entries h e) lines = SayEntries h e lines

-- These lines have been taken, none of them with a fault, and the stage stores their contents.
pub record AreTaken (lines : List Sentence) (s : Stage) : Type 0 where
  pub faultless : AreFaultless lines
  pub within : length lines ≤ header_lines + count_in lines
  pub say : Say s lines

-- some lines have been taken
pub record HasTaken (s : Stage) : Type 0 where
  pub lines : List Sentence
  pub are : AreTaken lines s

-- the line has been taken after these lines
pub record TakesTo (lines : List Sentence) (line : List ℕ) (next : Stage) : Type 0 where
  pub says : Sentence
  pub takes : TakesLine lines line says
  pub are : AreTaken (lines ++ says ∷ []) next
