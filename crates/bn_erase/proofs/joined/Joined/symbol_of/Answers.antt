-- Two machines over one alphabet have few letters.
use Rattle.std.proofs.Common.{arith, length, ap}
use Rattle.bn_erase.proofs.joined.Joined.symbol_of.Goals as goal

pub place_of-requires : goal.place_of-requires
place_of-requires c = omega (
  arith,
  c.self.invariant.first_symbols,
  c.self.invariant.first_fits.symbols,
  ap length c.as_slice.ensures.value,
)
