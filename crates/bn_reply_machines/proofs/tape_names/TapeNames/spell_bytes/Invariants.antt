use Rattle.std.specs.Prelude.{[], ◌∷◌, drop, map}
use Rattle.bn_reply_machines.specs.NamedWords.{IsNamedSoFar}
use Rattle.bn_reply_machines.proofs.tape_names.TapeNames.spell_bytes.Given as goal

abbrev pub invariant-loop-byte : goal.invariant-loop-byte
invariant-loop-byte l =
    IsNamedSoFar l.self (map (λ byte. byte ∷ []) l.bytes) l.symbols.items
    (map (λ byte. byte ∷ []) (drop l.byte-index l.bytes))
