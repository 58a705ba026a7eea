-- Quadruples over names as the code builds them, and the quadruples of the specification.
use Rattle.std.specs.Prelude.{ℕ}
use Rattle.bn_quad.specs.Quadruples.{Deed, Rewrite, Move, Rule}
use Rattle.bn_bennett_laws.specs.declared.name.Name.{Name}
use Rattle.bn_bennett.specs.declared.rule.Deed.{Deed as DeedMade}
use Rattle.bn_bennett.specs.declared.rule.Deed.TheVariants as kind
use Rattle.bn_bennett.specs.declared.rule.NamedQuad.{NamedQuad}

-- the deed of the specification
abbrev pub deed_made : DeedMade → Deed
deed_made (kind.Rewrite read written) = Rewrite read written
deed_made (kind.Move s) = Move s

-- the quadruple of the specification
abbrev pub made : NamedQuad → Rule Name
made q = record { from = q.from; one = deed_made q.one; two = deed_made q.two; three = deed_made q.three; to = q.to }

-- a quadruple with numbers in place of its two names
abbrev pub numbered_quad : ℕ → Rule Name → ℕ → Rule ℕ
numbered_quad state r next = record { from = state; one = r.one; two = r.two; three = r.three; to = next }
