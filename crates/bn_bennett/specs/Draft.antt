-- A list of quadruples over names while its states are numbered.
use Rattle.std.specs.Prelude.{◌≡◌, ℕ, ◌<◌, List, ◌++◌, length, map, All}
use Rattle.bn_csv.specs.Numbering.{firsts_by}
use Rattle.bn_quad.specs.Quadruples.{Rule}
use Rattle.bn_quad.specs.Kept.{quad_of, rules_of}
use Rattle.bn_bennett_laws.specs.Names.{states_in}
use Rattle.bn_bennett_laws.specs.Renamed.{rename, name_at}
use Rattle.bn_bennett_laws.specs.declared.name.Name.{Name}
use Rattle.bn_bennett_laws.specs.declared.name.Name.TheVariants.{GoRight}
use Rattle.bn_quad.specs.declared.quad.Quad.{Quad}
use Rattle.bn_bennett.specs.Translation.{is_same}
use Rattle.bn_bennett.specs.declared.draft.Draft.{Draft}

-- both states of a quadruple have numbers below `count`
pub record IsBelow (count : ℕ) (q : Quad) : Type 0 where
  pub state : q.state < count
  pub next : q.next < count

-- the quadruples with names in place of their states' numbers
abbrev pub renamed_back : List Name → List Quad → List (Rule Name)
renamed_back names quads = rename (name_at GoRight names) (rules_of quads)

abbrev pub drafted : Draft → List (Rule Name)
drafted d = renamed_back d.names.keys d.quads.items

-- the names are those of the quadruples' states, by first appearance; each quadruple is the stored form of a
-- quadruple of the specification, and each of its states has a name
pub record AreDrafted (names : List Name) (quads : List Quad) : Type 0 where
  pub in_order : names ≡ firsts_by is_same (states_in (renamed_back names quads))
  pub kept : map quad_of (rules_of quads) ≡ quads
  pub below : All (IsBelow (length names)) quads

abbrev pub IsDraft : Draft → Type 0
IsDraft d = AreDrafted d.names.keys d.quads.items

-- the new draft is the old one with these quadruples added
pub record Grows (old : Draft) (quads : List (Rule Name)) (new : Draft) : Type 0 where
  pub draft : IsDraft new
  pub drafted : drafted new ≡ drafted old ++ quads
