use Rattle.std.proofs.Common.{◌≡◌, ◌∙◌, sym, ap, refl, ℕ, rules}
use Rattle.bn_machine.specs.Tape.{write, scanned}
use Rattle.bn_machine.proofs.TapeLemmas.{write-back}
use Rattle.bn_machine.specs.Window.{Windowed, with_tape}
use Rattle.bn_machine.proofs.machine.Machine.step.Goals as goal

-- to write again what stood there gives the tape back
unwritten : (w u s v : Windowed) (a b : ℕ) → u ≡ with_tape w (write w.tape a) → s ≡ u → v ≡ with_tape s (write s.tape b)
    → b ≡ scanned w.tape → v ≡ w
unwritten w u s v a b wrote same wrote_back stood =
    wrote_back
    ∙ ap (λ (x : Windowed). with_tape x (write x.tape b)) (same ∙ wrote)
    ∙ ap (with_tape w) (write-back w.tape a b (sym stood))

pub returns-in-Some-shift : goal.returns-in-Some-shift
returns-in-Some-shift c = (
  search rules,
  refl,
  unwritten c.args.tape.now c.put.new.self c.shift.new.self c.put-in-Some-shift.new.self
      c.in-Some.quint.write c.scanned-symbol.result c.put.ensures c.in-Some-shift.ensures.1
      c.put-in-Some-shift.ensures c.scanned-symbol.ensures,
)
