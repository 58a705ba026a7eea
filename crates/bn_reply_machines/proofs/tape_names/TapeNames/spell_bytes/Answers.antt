use Rattle.std.specs.Prelude.{◌≡◌, ◌+◌, ℕ, [], ◌∷◌, length, map}
use Rattle.std.proofs.Common.{arith, subst}
use Rattle.bn_reply_machines.specs.NamedWords.{IsFirstUnnamed}
use Rattle.bn_reply_machines.proofs.WordsLemmas.{byte_unnamed, one_byte}
use Rattle.bn_reply_machines.proofs.tape_names.TapeNames.spell_bytes.Goals as goal

pub returns-in_default : goal.returns-in_default
returns-in_default c =
    let names = c.args.self.now in
    let bytes = c.args.bytes.now in
    let symbols = c.loop-byte.symbols.items in
    let place : length symbols + 1 ≡ c.len.result + 1 = omega (arith, c.len.ensures) in
    subst (λ (p : ℕ). IsFirstUnnamed names (map (λ byte. byte ∷ []) bytes) p) place
    (byte_unnamed names c.requires symbols bytes c.loop-byte.byte-index c.loop-byte-test.true c.loop-byte.invariant
    c.in_default.ensures)

pub loop-byte-preserved : goal.loop-byte-preserved
loop-byte-preserved c =
    rw c.in_ok-push.ensures.items (one_byte c.args.self.now c.loop-byte.symbols.items c.args.bytes.now
    c.loop-byte.byte-index c.in-Some.symbol c.loop-byte-test.true c.loop-byte.invariant c.in-Some.ensures)
