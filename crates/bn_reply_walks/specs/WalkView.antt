-- What a view of a walk shows (this project's own definition): where the signal is, the steps that the configuration
-- counts, and the elements whose bars differ from those of the text with which the walk began.
use Rattle.std.specs.Prelude.{ℕ, ◌==◌, not, Bool, false, List, [], ◌∷◌, ◌++◌, length, slice_get, Option, Some, codes}
use Rattle.std.specs.Prelude.{decimal, if◌then◌else◌}
use Rattle.std.proofs.Common.{zero, suc}
use Rattle.bn_circuits.specs.declared.config.Config.{Config}
use Rattle.bn_netlist_laws.specs.Sentences.{place_text}
use Rattle.bn_reply.specs.Lines.{line}

-- there are two states, and they differ
abbrev pub differ : Option ℕ → Option ℕ → Bool
differ (Some q) (Some r) = not (q == r)
differ _ _ = false

-- an element has turned if its bar had one of two states and has the other
abbrev pub has_turned : List ℕ → List ℕ → ℕ → Bool
has_turned before after e = differ (slice_get before e) (slice_get after e)

-- the numbers of the elements below n that have turned, in rising order; and of all elements
abbrev pub turned_below : List ℕ → List ℕ → ℕ → List ℕ
turned_below before after zero = []
turned_below before after (suc n) = turned_below before after n ++ (if has_turned before after n then n ∷ [] else [])

abbrev pub turned : List ℕ → List ℕ → List ℕ
turned before after = turned_below before after (length before)

-- numbers, each with a space before it
abbrev pub numbers_text : List ℕ → List ℕ
numbers_text [] = []
numbers_text (n ∷ ns) = codes " " ++ (decimal n ++ numbers_text ns)

-- the three lines of a view of a configuration, where the bars of the text were in these states
abbrev pub walk_view : List ℕ → Config → List ℕ
walk_view before c =
    line (place_text c.place ∷ []) ++ (line (codes "steps " ∷ decimal c.steps ∷ [])
    ++ line (codes "turned" ∷ numbers_text (turned before c.states) ∷ []))
