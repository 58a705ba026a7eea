-- A table that is being read.
use Rattle.std.specs.Prelude.{◌≡◌, ℕ, ◌<◌, ◌-◌, ◌^◌, List, [], ◌∷◌, Some, length, map, slice_get, bytes_eq}
use Rattle.std.proofs.lemmas.Slice.Eq.{bytes_eq-Decides}
use Rattle.bn_csv.specs.Numbering.{with_name}
use Rattle.bn_csv.specs.NumberingLaws.{AreApart}
use Rattle.bn_quad.specs.Names.{Naming, naming_of}
use Rattle.bn_quad.specs.Kept.{quad_of, rules_of}
use Rattle.bn_quad.specs.Quadruples.{Deed, Rewrite, Move, Rule}
use Rattle.bn_qtable.specs.Entry.{HasForms, SaidQuadruple, Says, Rewrites, Moves}
use Rattle.bn_qtable.specs.Rows.{SpellsQuadruples, blank_name, quadruple_rows_by}
use Rattle.bn_qtable.specs.declared.draft.Draft.{Draft}

-- the names of a draft
abbrev pub names_of : Draft → Naming
names_of d = d.lists

-- the entries of a draft's quadruples
abbrev pub drafted : Draft → List (List (List ℕ))
drafted d = quadruple_rows_by (names_of d) (rules_of d.quads.items)

-- the draft's names are those of its entries, and each stored quadruple (`Quad`) is that of its `Rule`
pub record IsDraft (d : Draft) : Type 0 where
  pub spelled : SpellsQuadruples (names_of d) (rules_of d.quads.items) (drafted d)
  pub kept : map quad_of (rules_of d.quads.items) ≡ d.quads.items

-- the deed is that of this part of an entry, by these names
abbrev pub Stands : List (List ℕ) → Deed → Says → Type 0
Stands names (Rewrite read written) (Rewrites r w) = (slice_get names read ≡ Some r)
    × (slice_get names written ≡ Some w)
Stands names (Rewrite read written) (Moves t) = ⊥
Stands names (Move s) (Rewrites r w) = ⊥
Stands names (Move s) (Moves t) = s ≡ t

-- the names of a tape's symbols and those that this part of an entry adds
abbrev pub with_says : List (List ℕ) → Says → List (List ℕ)
with_says names (Rewrites read written) = with_name (with_name names read) written
with_says names (Moves s) = names

-- the entry s is that of the quadruple r, and n2 contains the names of n and the new ones of s
pub record Adds (n : Naming) (s : SaidQuadruple) (r : Rule ℕ) (n2 : Naming) : Type 0 where
  pub states_after : n2.states ≡ with_name (with_name n.states s.state) s.next
  pub one_after : n2.one ≡ with_says n.one s.one
  pub two_after : n2.two ≡ with_says n.two s.two
  pub three_after : n2.three ≡ with_says n.three s.three
  pub from : slice_get n2.states r.from ≡ Some s.state
  pub one : Stands n2.one r.one s.one
  pub two : Stands n2.two r.two s.two
  pub three : Stands n2.three r.three s.three
  pub to : slice_get n2.states r.to ≡ Some s.next
  pub forms : HasForms s

-- no names of states, and on each tape only the blank
abbrev pub blanks_alone : Naming
blanks_alone = naming_of [] (blank_name ∷ []) (blank_name ∷ []) (blank_name ∷ [])

-- there is room for two more names of each kind
pub record HasRoom (n : Naming) : Type 0 where
  pub states : length n.states < 2 ^ 32 - 2
  pub one : length n.one < 2 ^ 32 - 2
  pub two : length n.two < 2 ^ 32 - 2
  pub three : length n.three < 2 ^ 32 - 2

-- no name occurs twice among those of its kind
pub record AreListed (n : Naming) : Type 0 where
  pub states : AreApart bytes_eq bytes_eq-Decides n.states
  pub one : AreApart bytes_eq bytes_eq-Decides n.one
  pub two : AreApart bytes_eq bytes_eq-Decides n.two
  pub three : AreApart bytes_eq bytes_eq-Decides n.three
