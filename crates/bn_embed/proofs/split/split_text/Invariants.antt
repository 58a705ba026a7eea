use Rattle.std.proofs.Common.{◌≡◌, map, Global}
use Rattle.std.specs.String.{string_bytes}
use Rattle.bn_embed.proofs.split.split_text.Given as goal

-- the words so far are those that the iterator has given
abbrev pub invariant-loop-word : goal.invariant-loop-word
invariant-loop-word l = map (string_bytes {Z = Global}) l.words.items ≡ map (λ word. word.now) l.yielded
