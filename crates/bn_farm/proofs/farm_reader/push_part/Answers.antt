-- The part is misspelled.
use Rattle.std.proofs.Common.{◌≡◌, ◌+◌, length, arith, subst}
use Rattle.bn_farm.specs.FarmRead.{IsPartRefusal}
use Rattle.bn_farm.proofs.farm_reader.push_part.Goals as goal

pub returns-in-Err : goal.returns-in-Err
returns-in-Err c =
    let number : c.len.result + 1 ≡ length c.args.boards.now.items + 1 = omega (arith, c.len.ensures) in
    record {
      read = tt;
      refused = subst (λ n. IsPartRefusal c.args.part.now n c.refusal_of.result) number
          (c.refusal_of.ensures c.args.part.now c.in-Err.ensures.refused
          (λ said b is. c.in-Err.ensures.nothing_else said b.version b.spelling is));
    }
